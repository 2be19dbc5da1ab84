-- The order in which a table keeps its numbers.
use Rattle.std.specs.Prelude.{◌≡◌, ℕ, ◌<◌, ◌≤◌, List, [], ◌∷◌, length, slice_index_or}

-- the first number, if there is one, is above n
abbrev pub StartsAbove : {X : Type 0} → ℕ → List (ℕ × X) → Type 0
StartsAbove n [] = Unit {0}
StartsAbove n (e ∷ es) = n < e.0

-- each number is below the next
abbrev pub IsRising : {X : Type 0} → List (ℕ × X) → Type 0
IsRising [] = Unit {0}
IsRising (e ∷ es) = StartsAbove e.0 es × IsRising es

-- the numbers before this place are below n, and the one at this place is not
pub record Divides {X : Type 0} (n : ℕ) (es : List (ℕ × X)) (place : ℕ) : Type 0 where
  pub within : place ≤ length es
  pub below : (k : ℕ) (d : ℕ × X) → k < place → (slice_index_or es k d).0 < n
  pub rest : (d : ℕ × X) → place < length es → n ≤ (slice_index_or es place d).0

-- n is the number at this place
pub record Stands {X : Type 0} (n : ℕ) (es : List (ℕ × X)) (place : ℕ) : Type 0 where
  pub within : place < length es
  pub number : (d : ℕ × X) → (slice_index_or es place d).0 ≡ n

-- n is not there, and would stand at this place
pub record Misses {X : Type 0} (n : ℕ) (es : List (ℕ × X)) (place : ℕ) : Type 0 where
  pub within : place ≤ length es
  pub below : (k : ℕ) (d : ℕ × X) → k < place → (slice_index_or es k d).0 < n
  pub above : (d : ℕ × X) → place < length es → n < (slice_index_or es place d).0
