-- Items by number: a list of pairs, each a number with its item, in rising order of the numbers.
use Rattle.std.specs.Prelude.{ℕ, false, true, ◌==◌, nat_lt, if◌then◌else◌, List, [], ◌∷◌, Option, Some, None}

-- the item with this number, if it is there
unfoldable pub item_at : {X : Type 0} → ℕ → List (ℕ × X) → Option X
item_at n [] = None
item_at n (e ∷ es) = if e.0 == n then Some e.1 else item_at n es

-- x under this number, where the number is there
unfoldable pub with_item : {X : Type 0} → ℕ → X → List (ℕ × X) → List (ℕ × X)
with_item n x [] = []
with_item n x (e ∷ es) = if e.0 == n then (n, x) ∷ es else e ∷ with_item n x es

-- x under this number, in its place among the numbers or in place of the item that was there
unfoldable pub put : {X : Type 0} → ℕ → X → List (ℕ × X) → List (ℕ × X)
put n x [] = (n, x) ∷ []
put n x (e ∷ es) = if nat_lt e.0 n then e ∷ put n x es else (if e.0 == n then (n, x) ∷ es else (n, x) ∷ e ∷ es)
