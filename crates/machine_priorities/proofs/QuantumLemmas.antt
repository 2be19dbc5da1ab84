-- The quantum of a level, by its place.
use Rattle.std.proofs.Common.{◌≡◌, ℕ, zero, suc, List, [], ◌∷◌, None, slice_set, refl, ap}
use Rattle.std.specs.List.{slice_get}
use Rattle.profile_image.specs.Words.{edit_at}

pub edit_at-set : (n x : ℕ) (xs : List ℕ) → edit_at n (λ _. x) xs ≡ slice_set xs n x
edit_at-set n x [] = refl
edit_at-set zero x (y ∷ ys) = refl
edit_at-set (suc n) x (y ∷ ys) = ap (λ zs. y ∷ zs) (edit_at-set n x ys)

pub edit_at-none : (n x : ℕ) (xs : List ℕ) → slice_get xs n ≡ None → edit_at n (λ _. x) xs ≡ xs
edit_at-none n x [] e = refl
edit_at-none zero x (y ∷ ys) e = cc
edit_at-none (suc n) x (y ∷ ys) e = ap (λ zs. y ∷ zs) (edit_at-none n x ys e)

pub ruleset quantum_laws = (edit_at-set, edit_at-none)
