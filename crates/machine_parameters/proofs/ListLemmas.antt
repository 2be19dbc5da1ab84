-- What stands from a place on in a list.
use Rattle.std.proofs.Common.{◌≡◌, ℕ, zero, suc, List, [], ◌∷◌, Some, None, drop, refl}
use Rattle.std.specs.List.{slice_get}

pub drop-found : {X : Type 0} (xs : List X) (i : ℕ) (x : X) → slice_get xs i ≡ Some x → drop i xs ≡ x ∷ drop (suc i) xs
drop-found [] i x e = cc
drop-found (y ∷ ys) zero x e = cc
drop-found (y ∷ ys) (suc i) x e = drop-found ys i x e

pub drop-none : {X : Type 0} (xs : List X) (i : ℕ) → slice_get xs i ≡ None → drop i xs ≡ []
drop-none [] zero e = refl
drop-none [] (suc i) e = refl
drop-none (y ∷ ys) zero e = cc
drop-none (y ∷ ys) (suc i) e = drop-none ys i e
