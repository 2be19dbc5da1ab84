-- How many frames of a list are struck, defer abort, and are protected actions.
use Rattle.std.specs.Prelude.{◌≡◌, ◌^◌, ℕ, ◌+◌, ◌<◌, ◌≤◌, Bool, true, cond, List, [], ◌∷◌}
use Rattle.profile_machine.specs.declared.world.marks.Frame.{Frame}
use Rattle.profile_machine.specs.declared.world.frame_stack.FrameCounts.{FrameCounts}
use Rattle.profile_machine.specs.Frames.{defers, is_protected}
use Rattle.world_tables.specs.Lists.{rest_of}

-- one where the test holds, else none
abbrev pub one_if : Bool → ℕ
one_if b = cond b 1 0

-- the counts with one frame more
abbrev pub with_frame : Frame → FrameCounts → FrameCounts
with_frame f c = record {
  struck = c.struck + one_if f.struck;
  deferring = c.deferring + one_if (defers f.mark);
  in_protected = c.in_protected + one_if (is_protected f.mark);
}

abbrev pub counts_of : List Frame → FrameCounts
counts_of [] = record { struck = 0; deferring = 0; in_protected = 0 }
counts_of (f ∷ fs) = with_frame f (counts_of fs)

-- one frame more can be counted
pub record HasRoom (c : FrameCounts) : Type 0 where
  pub struck : c.struck + 1 < 2 ^ 64
  pub deferring : c.deferring + 1 < 2 ^ 64
  pub in_protected : c.in_protected + 1 < 2 ^ 64

-- this frame is among those that are counted
pub record Includes (c : FrameCounts) (f : Frame) : Type 0 where
  pub struck : one_if f.struck ≤ c.struck
  pub deferring : one_if (defers f.mark) ≤ c.deferring
  pub in_protected : one_if (is_protected f.mark) ≤ c.in_protected

-- where they are known, the counts are those of all frames but the top one
abbrev pub AreOfRest : Bool → FrameCounts → List Frame → Type 0
AreOfRest counted c frames = counted ≡ true → c ≡ counts_of (rest_of frames)
