-- How the code holds static numbers.
use Rattle.std.specs.Prelude.{Bool, false, negsuc, pos, true, ℕ, ℤ}

-- a number that is not negative, or the one as far below -1
abbrev pub signed : Bool → ℕ → ℤ
signed false n = pos n
signed true n = negsuc n

abbrev pub is_below_zero : ℤ → Bool
is_below_zero (pos n) = false
is_below_zero (negsuc n) = true

abbrev pub size_in : ℤ → ℕ
size_in (pos n) = n
size_in (negsuc n) = n
