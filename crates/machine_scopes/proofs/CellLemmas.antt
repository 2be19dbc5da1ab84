-- A cell that is not there, and cells that are put.
use Rattle.std.proofs.Common.{◌≡◌, ℕ, zero, suc, ◌≤◌, List, [], ◌∷◌, None, length, slice_set, refl, ap, ◌∙◌, arith}
use Rattle.std.specs.List.{slice_get}
use Rattle.profile_image.specs.declared.values.Value.{Value}
use Rattle.profile_machine.specs.Scopes.{put_cells}

pub none_set : {X : Type 0} (xs : List X) (i : ℕ) (v : X) → slice_get xs i ≡ None → slice_set xs i v ≡ xs
none_set [] i v e = refl
none_set (x ∷ xs) zero v e = cc
none_set (x ∷ xs) (suc i) v e = ap (λ ys. x ∷ ys) (none_set xs i v e)

set_past : (cells : List Value) (place : ℕ) (v : Value) → length cells ≤ place → slice_set cells place v ≡ cells
set_past [] place v l = refl
set_past (x ∷ xs) zero v l = absurd (omega arith)
set_past (x ∷ xs) (suc place) v l = ap (λ ys. x ∷ ys) (set_past xs place v (omega arith))

pub put_past : (place : ℕ) (values cells : List Value) → length cells ≤ place → put_cells place values cells ≡ cells
put_past place [] cells l = refl
put_past place (v ∷ vs) cells l = ap (λ z. put_cells (suc place) vs z) (set_past cells place v l) ∙ put_past (suc place) vs cells (omega arith)

pub ruleset put_laws = (put_past)
