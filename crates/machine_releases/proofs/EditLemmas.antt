-- An item of a list that is edited at its place.
use Rattle.std.proofs.Common.{◌≡◌, ℕ, zero, suc, List, [], ◌∷◌, Some, None, slice_set, refl, ap}
use Rattle.std.specs.List.{slice_get}
use Rattle.profile_image.specs.Words.{edit_at}

pub set_found : {X : Type 0} (f : X → X) (xs : List X) (i : ℕ) (x : X) → slice_get xs i ≡ Some x → slice_set xs i (f x) ≡ edit_at i f xs
set_found f [] i x e = cc
set_found f (y ∷ ys) zero x e = cc
set_found f (y ∷ ys) (suc i) x e = ap (λ zs. y ∷ zs) (set_found f ys i x e)

pub none_edited : {X : Type 0} (f : X → X) (xs : List X) (i : ℕ) → slice_get xs i ≡ None → edit_at i f xs ≡ xs
none_edited f [] i e = refl
none_edited f (y ∷ ys) zero e = cc
none_edited f (y ∷ ys) (suc i) e = ap (λ zs. y ∷ zs) (none_edited f ys i e)
