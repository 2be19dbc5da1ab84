-- A list in which nothing stands at a place, when something is put there.
use Rattle.std.proofs.Common.{◌≡◌, ℕ, zero, suc, List, [], ◌∷◌, None, slice_set, refl, ap}
use Rattle.std.specs.List.{slice_get}

pub nothing_put : {X : Type 0} (xs : List X) (i : ℕ) (x : X) → slice_get xs i ≡ None → slice_set xs i x ≡ xs
nothing_put [] zero x e = refl
nothing_put [] (suc i) x e = refl
nothing_put (y ∷ ys) zero x e = cc
nothing_put (y ∷ ys) (suc i) x e = ap (λ zs. y ∷ zs) (nothing_put ys i x e)
