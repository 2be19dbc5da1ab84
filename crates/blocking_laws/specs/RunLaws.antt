-- Blocking in every run of the profile machine (D.2.1, D.3).
use Rattle.std.specs.Prelude.{ℕ, ℤ, IsTrue, List}
use Rattle.trace_text.specs.Queue.{TraceLine}
use Rattle.profile_image.specs.declared.image.Image.{Image}
use Rattle.profile_image.specs.declared.script_items.Item.{Item}
use Rattle.profile_machine.specs.Run.{run_of}
use Rattle.ceiling_laws.specs.CeilingLaws.{edf_is_below_interrupts}
use Rattle.blocking_laws.specs.BlockingLaws.{BlockedOnceOk, NeverHeldOk}
use Rattle.blocking_laws.specs.Holds.{OneActionOk}
use Rattle.blocking_laws.specs.MovingLaws.{MovesRightly}

-- in each stretch no call finds its object held, and each task is blocked once, in one action
pub record BoundsBlocking (lines : List TraceLine) : Type 0 where
  pub held : NeverHeldOk lines
  pub blocked : BlockedOnceOk lines
  pub one_action : OneActionOk lines

-- A run that moves everybody rightly, of a source whose interrupts have no deadlines, bounds blocking.
abbrev pub RightMovesBoundBlocking : Type 0
RightMovesBoundBlocking = (p : Image) → IsTrue (edf_is_below_interrupts p) → (script : List (ℤ × Item)) (bound : ℕ)
    → MovesRightly (run_of p script bound) → BoundsBlocking (run_of p script bound)
