-- The items of a list before a place, and one more.
use Rattle.std.proofs.Common.{◌≡◌, ℕ, ◌+◌, zero, suc, List, [], ◌∷◌, ◌++◌, take, drop, ap, ◌∙◌, arith}

taken : {X : Type 0} (xs : List X) (n : ℕ) (x : X) (rest : List X) → drop n xs ≡ x ∷ rest → take (suc n) xs ≡ take n xs ++ x ∷ []
taken [] zero x rest e = cc
taken [] (suc n) x rest e = cc
taken (y ∷ ys) zero x rest e = let same : y ≡ x = cc in ap (λ z. z ∷ []) same
taken (y ∷ ys) (suc n) x rest e = ap (λ zs. y ∷ zs) (taken ys n x rest e)

pub one_more : {X : Type 0} (xs : List X) (n : ℕ) (x : X) (rest : List X) → drop n xs ≡ x ∷ rest → take (n + 1) xs ≡ take n xs ++ x ∷ []
one_more xs n x rest e = let s : n + 1 ≡ suc n = omega arith in ap (λ m. take m xs) s ∙ taken xs n x rest e

pub left_behind : {X : Type 0} (xs : List X) (n : ℕ) (x : X) (rest : List X) → drop n xs ≡ x ∷ rest → drop (n + 1) xs ≡ rest
left_behind [] zero x rest e = cc
left_behind [] (suc n) x rest e = cc
left_behind (y ∷ ys) zero x rest e = cc
left_behind (y ∷ ys) (suc n) x rest e = let s : suc n + 1 ≡ suc (n + 1) = omega arith in ap (λ m. drop m (y ∷ ys)) s ∙ left_behind ys n x rest e
