-- The item of a list with a number, edited.
use Rattle.std.proofs.Common.{◌≡◌, ℕ, zero, suc, List, [], ◌∷◌, Some, None, slice_get, slice_set, refl, ap}
use Rattle.profile_image.specs.Words.{edit_at}

pub edited_there : {X : Type 0} (f : X → X) (xs : List X) (n : ℕ) (x : X) → slice_get xs n ≡ Some x → slice_set xs n (f x) ≡ edit_at n f xs
edited_there f [] n x e = cc
edited_there f (y ∷ ys) zero x e = cc
edited_there f (y ∷ ys) (suc n) x e = ap (λ zs. y ∷ zs) (edited_there f ys n x e)

pub edited_past : {X : Type 0} (f : X → X) (xs : List X) (n : ℕ) → slice_get xs n ≡ None → edit_at n f xs ≡ xs
edited_past f [] n e = refl
edited_past f (y ∷ ys) zero e = cc
edited_past f (y ∷ ys) (suc n) e = ap (λ zs. y ∷ zs) (edited_past f ys n e)
