-- Whether struck constructs may be left, from the top on, and the last of a list.
use Rattle.std.proofs.Common.{◌≡◌, ℕ, ◌+◌, suc, zero, Bool, true, false, not, ◌&&◌, ◌||◌, cond}
use Rattle.std.proofs.Common.{List, [], ◌∷◌, Some, None, length, slice_set, refl, sym, ap, arith}
use Rattle.std.specs.List.{slice_get}
use Rattle.profile_machine.specs.declared.world.marks.Frame.{Frame}
use Rattle.profile_machine.specs.Frames.{defers}
use Rattle.profile_machine.specs.Unwinding.{any_struck, is_being_left, may_leave_struck, edit_last}
use Rattle.machine_frames.specs.Struck.{may_leave_next, may_leave_from}

-- where none is struck, none may be left
none_struck : (struck outer defer may left : Bool) → (outer ≡ false → may ≡ false) → (struck || outer) ≡ false
    → cond outer (not defer && may) (struck && not left) ≡ false
none_struck true outer defer may left k e = cc
none_struck false true defer may left k e = cc
none_struck false false defer may left k e = refl

unstruck : (frames : List Frame) → any_struck frames ≡ false → may_leave_struck frames ≡ false
unstruck [] e = refl
unstruck (f ∷ fs) e = none_struck f.struck (any_struck fs) (defers f.mark) (may_leave_struck fs) (is_being_left f.mark) (unstruck fs) e

at_first : (struck may : Bool) → (struck ≡ false → may ≡ false) → cond struck may false ≡ may
at_first true may k = refl
at_first false may k = sym (k refl)

pub may_leave_from-first : (frames : List Frame) → may_leave_from false false frames ≡ may_leave_struck frames
may_leave_from-first frames = at_first (any_struck frames) (may_leave_struck frames) (unstruck frames)

next : (struck outer defer may left deferred before : Bool)
    → cond outer (not (deferred || defer) && may) (cond struck (not deferred && not left) before)
    ≡ cond (struck || outer) (not deferred && cond outer (not defer && may) (struck && not left)) before
next true true defer may left true before = refl
next true true defer may left false before = refl
next true false defer may left deferred before = refl
next false true defer may left true before = refl
next false true defer may left false before = refl
next false false defer may left deferred before = refl

pub may_leave_from-next : (f : Frame) (fs : List Frame) (deferred may : Bool)
    → may_leave_from (deferred || defers f.mark) (may_leave_next f deferred may) fs ≡ may_leave_from deferred may (f ∷ fs)
may_leave_from-next f fs deferred may = next f.struck (any_struck fs) (defers f.mark) (may_leave_struck fs) (is_being_left f.mark) deferred may

pub ruleset struck_laws = (may_leave_from-first, may_leave_from-next)

-- ---- the last is edited

module _ (f : Frame → Frame) where
  pub set_last : (xs : List Frame) (last : ℕ) (x : Frame) → last + 1 ≡ length xs → slice_get xs last ≡ Some x → slice_set xs last (f x) ≡ edit_last f xs
  set_last [] last x n e = cc
  set_last (y ∷ []) zero x n e = cc
  set_last (y ∷ []) (suc i) x n e = absurd (omega arith)
  set_last (y ∷ z ∷ rest) zero x n e = absurd (omega arith)
  set_last (y ∷ z ∷ rest) (suc i) x n e = ap (λ zs. y ∷ zs) (set_last (z ∷ rest) i x (omega arith) e)

  pub lost_last : (xs : List Frame) (last : ℕ) → last + 1 ≡ length xs → slice_get xs last ≡ None → xs ≡ edit_last f xs
  lost_last [] last n e = refl
  lost_last (y ∷ []) zero n e = cc
  lost_last (y ∷ []) (suc i) n e = absurd (omega arith)
  lost_last (y ∷ z ∷ rest) zero n e = cc
  lost_last (y ∷ z ∷ rest) (suc i) n e = ap (λ zs. y ∷ zs) (lost_last (z ∷ rest) i (omega arith) e)
