-- Cells that are put before values, from the last on, and values that are dropped from the front.
use Rattle.std.proofs.Common.{◌≡◌, ℕ, ◌-◌, ◌<◌, zero, suc, List, [], ◌∷◌, ◌++◌, take, drop, refl, ap, ◌∙◌, arith}
use Rattle.std.specs.List.{slice_get, cons_option}
use Rattle.world_tables.specs.Lists.{rest_of}

put-at : {X : Type 0} (xs values : List X) (i : ℕ) → take i xs ++ cons_option (slice_get xs i) values ≡ take (suc i) xs ++ values
put-at [] values zero = refl
put-at [] values (suc i) = refl
put-at (x ∷ xs) values zero = refl
put-at (x ∷ xs) values (suc i) = ap (λ ys. x ∷ ys) (put-at xs values i)

-- one cell more before the values
pub put-more : {X : Type 0} (xs values : List X) (n : ℕ) → 0 < n → take (n - 1) xs ++ cons_option (slice_get xs (n - 1)) values ≡ take n xs ++ values
put-more xs values n h = let s : suc (n - 1) ≡ n = omega arith in put-at xs values (n - 1) ∙ ap (λ m. take m xs ++ values) s

pub ruleset place_laws = (put-more)

rest-at : {X : Type 0} (xs : List X) (i : ℕ) → drop i (rest_of xs) ≡ drop (suc i) xs
rest-at [] zero = refl
rest-at [] (suc i) = refl
rest-at (x ∷ xs) i = refl

-- one value more is dropped
pub rest-more : {X : Type 0} (xs : List X) (n : ℕ) → 0 < n → drop (n - 1) (rest_of xs) ≡ drop n xs
rest-more xs n h = let s : suc (n - 1) ≡ n = omega arith in rest-at xs (n - 1) ∙ ap (λ m. drop m xs) s

pub ruleset front_laws = (rest-more)
