-- The number of a numeral is at least that of its first digits.
use Rattle.std.proofs.Common.{◌≡◌, ◌≤◌, ◌<◌, ℕ, ◌+◌, ◌-◌, ◌*◌, List, [], ◌∷◌, length, take, drop, get_or, arith, ap, sym, ◌∙◌}
use Rattle.std.specs.List.{fold}
use Rattle.std.proofs.lemmas.List.{take-append-drop}
use Rattle.std.proofs.lemmas.List.Sums.{fold-append, fold_more}
use Rattle.text_lines.specs.Numerals.{numeral_value}

abbrev with_digit : ℕ → ℕ → ℕ
with_digit value digit = value * 10 + (digit - 48)

value_grows : (value : ℕ) (word : List ℕ) → value ≤ fold with_digit value word
value_grows value [] = omega arith
value_grows value (digit ∷ word) = omega (arith, value_grows (with_digit value digit) word)

front_is_less : (word : List ℕ) (i : ℕ) → numeral_value (take i word) ≤ numeral_value word
front_is_less word i =
    let whole : numeral_value word ≡ fold with_digit (numeral_value (take i word)) (drop i word) =
    ap numeral_value (sym (take-append-drop i word)) ∙ fold-append with_digit 0 (take i word) (drop i word) in
    omega (arith, value_grows (numeral_value (take i word)) (drop i word))

-- a number that is too great after some digits is too great at the end
pub over_stays : (word : List ℕ) (i limit value : ℕ) → i < length word → value ≡ numeral_value (take i word) → limit < value * 10 + (get_or word i 0 - 48)
    → limit < numeral_value word
over_stays word i limit value low e over =
    let more : numeral_value (take (i + 1) word) ≡ with_digit (numeral_value (take i word)) (get_or word i 0) = fold_more with_digit 0 word i 0 low in
    omega (arith, front_is_less word (i + 1))
