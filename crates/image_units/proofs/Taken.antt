-- The first items of a list, as they are counted down.
use Rattle.std.proofs.Common.{◌≡◌, ℕ, ◌-◌, zero, suc, List, [], ◌∷◌, take, ◌<◌, refl, ap, sym, arith}

-- some items of a list with a first one are that one and one less of the rest
pub take_there : {X : Type 0} (n : ℕ) (x : X) (xs : List X) → 0 < n → take n (x ∷ xs) ≡ x ∷ take (n - 1) xs
take_there zero x xs p = absurd (omega (arith, p))
take_there (suc n) x xs p = let e : suc n - 1 ≡ n = omega arith in ap (λ m. x ∷ take m xs) (sym e)

pub take_nothing : {X : Type 0} (n : ℕ) (xs : List X) → xs ≡ [] → take n xs ≡ []
take_nothing zero xs e = refl
take_nothing (suc n) [] e = refl
take_nothing (suc n) (x ∷ xs) e = cc
