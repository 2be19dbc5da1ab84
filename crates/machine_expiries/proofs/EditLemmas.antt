-- An item at its place that gets a value.
use Rattle.std.proofs.Common.{◌≡◌, ℕ, zero, suc, List, [], ◌∷◌, None, slice_set, refl, ap}
use Rattle.std.specs.List.{slice_get}
use Rattle.profile_image.specs.Words.{edit_at}

pub set_edited : {X : Type 0} (n : ℕ) (x : X) (xs : List X) → slice_set xs n x ≡ edit_at n (λ _. x) xs
set_edited n x [] = refl
set_edited zero x (y ∷ ys) = refl
set_edited (suc n) x (y ∷ ys) = ap (λ zs. y ∷ zs) (set_edited n x ys)

pub none_edited : {X : Type 0} (f : X → X) (xs : List X) (i : ℕ) → slice_get xs i ≡ None → edit_at i f xs ≡ xs
none_edited f [] i e = refl
none_edited f (y ∷ ys) zero e = cc
none_edited f (y ∷ ys) (suc i) e = ap (λ zs. y ∷ zs) (none_edited f ys i e)
