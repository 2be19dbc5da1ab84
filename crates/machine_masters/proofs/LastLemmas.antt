-- How the last of several frames is being left, by its place.
use Rattle.std.proofs.Common.{◌≡◌, ℕ, ◌+◌, List, [], ◌∷◌, Option, Some, None, length, refl, sym, ap, ◌∙◌, arith}
use Rattle.std.specs.List.{slice_get}
use Rattle.profile_machine.specs.declared.run_data.Leaving.{Leaving}
use Rattle.profile_machine.specs.declared.world.marks.Frame.{Frame}
use Rattle.profile_machine.specs.Masters.{last_left_as}

abbrev left_of : Option Frame → Option Leaving
left_of None = None
left_of (Some f) = f.left_as

last_of : (f : Frame) (fs : List Frame) → left_of (slice_get (f ∷ fs) (length fs)) ≡ last_left_as (f ∷ fs)
last_of f [] = refl
last_of f (g ∷ fs) = last_of g fs

at_last : (fs : List Frame) (n : ℕ) → n + 1 ≡ length fs → left_of (slice_get fs n) ≡ last_left_as fs
at_last [] n e = absurd (omega arith)
at_last (f ∷ fs) n e = let k : n ≡ length fs = omega arith in ap (λ m. left_of (slice_get (f ∷ fs) m)) k ∙ last_of f fs

pub last_there : (fs : List Frame) (n : ℕ) (f : Frame) → n + 1 ≡ length fs → slice_get fs n ≡ Some f → f.left_as ≡ last_left_as fs
last_there fs n f e g = ap left_of (sym g) ∙ at_last fs n e

pub last_absent : (fs : List Frame) (n : ℕ) → n + 1 ≡ length fs → slice_get fs n ≡ None → None ≡ last_left_as fs
last_absent fs n e g = ap left_of (sym g) ∙ at_last fs n e

pub no_last : (fs : List Frame) → length fs ≡ 0 → None ≡ last_left_as fs
no_last [] e = refl
no_last (f ∷ fs) e = absurd (omega arith)
