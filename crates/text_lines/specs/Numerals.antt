-- Numerals: whole numbers in plain decimal.
use Rattle.std.specs.Prelude.{ℕ, ◌*◌, ◌+◌, ◌-◌, ◌==◌, ◌&&◌, ◌||◌, not, Bool, nat_le, nat_lt}
use Rattle.std.specs.Prelude.{if◌then◌else◌, List, length, slice_index, Option, Some, None}
use Rattle.std.specs.List.{list_all, fold}
use Rattle.std.specs.Char.{is_ascii_digit}

-- a numeral is digits without a leading zero, or the digit 0
abbrev pub is_numeral : List ℕ → Bool
is_numeral word = nat_lt 0 (length word) && list_all is_ascii_digit word
    && (not (slice_index word 0 == 48) || (length word == 1))

-- the number of a numeral
abbrev pub numeral_value : List ℕ → ℕ
numeral_value word = fold (λ value digit. value * 10 + (digit - 48)) 0 word

-- the number of a word, where it is a numeral of a range
abbrev pub number_in : ℕ → ℕ → List ℕ → Option ℕ
number_in low high word =
    if is_numeral word && nat_le low (numeral_value word) && nat_le (numeral_value word) high
    then Some (numeral_value word)
    else None
