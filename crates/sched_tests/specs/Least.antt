-- The least number of which something is true.
use Rattle.std.specs.Prelude.{◌≤◌, ◌<◌, ◌+◌, ℕ, zero, suc, Bool, cond, Option, Some, None}

-- n is the least number, from 1 to the most, of which it is true
pub record IsLeast (true_of : ℕ → Type 0) (most n : ℕ) : Type 0 where
  pub positive : 1 ≤ n
  pub within : n ≤ most
  pub here : true_of n
  pub before : (k : ℕ) → 1 ≤ k → k < n → ¬ (true_of k)

-- it is true of no number from 1 to the most
pub record IsNever (true_of : ℕ → Type 0) (most : ℕ) : Type 0 where
  pub nowhere : (k : ℕ) → 1 ≤ k → k ≤ most → ¬ (true_of k)

-- the answer is the least such number, or none where there is none
abbrev pub IsLeastOrNone : (ℕ → Type 0) → ℕ → Option ℕ → Type 0
IsLeastOrNone true_of most None = IsNever true_of most
IsLeastOrNone true_of most (Some n) = IsLeast true_of most n

-- the first of so many numbers, from one on, of which a test is true
abbrev pub first_from : (ℕ → Bool) → ℕ → ℕ → Option ℕ
first_from test zero from = None
first_from test (suc count) from = cond (test from) (Some from) (first_from test count (from + 1))

-- the least number from 1 to the most of which a test is true
unfoldable pub least_up_to : (ℕ → Bool) → ℕ → Option ℕ
least_up_to test most = first_from test most 1
