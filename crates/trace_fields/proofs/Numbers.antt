-- Digits without a leading zero are what is written of their number.
use Rattle.std.proofs.Common.{ap, IfSome, ◌≡◌, ◌<◌, ◌^◌, ℕ, ◌≤◌, true, List, length, get_or, decimal, arith, rules, Result, sym, ◌∙◌, Ok, Err, inl, inr}
use Rattle.std.specs.List.{list_all}
use Rattle.std.specs.Result.{result_ok}
use Rattle.std.specs.Option.{MatchOption}
use Rattle.std.specs.Str.{IsUtf8}
use Rattle.std.proofs.lemmas.Bool.{cases_lt}
use Rattle.std.specs.Str.Parse.{digits_value, ParsesUnsigned}
use Rattle.std.proofs.lemmas.Str.Parse.{IsNumeralModel, numerals_by_value, parse_digits}
use Rattle.std.proofs.lemmas.Fmt.{decimal-digits_value, IsAscii-from_digits}
use Rattle.std.proofs.lemmas.Str.{IsUtf8-from_ascii}
use Rattle.std.proofs.lemmas.Grind.{common_steps}
use Rattle.std.specs.Char.{is_ascii_digit}
use Rattle.trace_fields.specs.Reading.{is_number}

pub numerals : IsNumeralModel (λ ds. list_all is_ascii_digit ds ≡ true) (digits_value 10)
numerals = numerals_by_value _ (search rules)

pub record HasNumber (bytes : List ℕ) : Type 0 where
  pub digits : list_all is_ascii_digit bytes ≡ true
  pub some : 0 < length bytes
  pub plain : get_or bytes 0 0 ≡ 48 → length bytes ≡ 1

pub number_parts : (bytes : List ℕ) → is_number bytes ≡ true → HasNumber bytes
number_parts bytes e = record { digits = grind (arith, common_steps); some = grind (arith, common_steps); plain = λ h. grind (arith, common_steps) }

pub decimal-digits : (bytes : List ℕ) → is_number bytes ≡ true → digits_value 10 bytes < 2 ^ 64 → decimal (digits_value 10 bytes) ≡ bytes
decimal-digits bytes e small = let h = number_parts bytes e in decimal-digits_value numerals bytes h.digits h.some h.plain small

-- what is parsed is the number of the digits, and nothing is parsed only where it is too great
pub digits_parsed : {E : Type 0} (bytes : List ℕ) (r : Result ℕ E) → ParsesUnsigned 64 10 bytes r → is_number bytes ≡ true
    → MatchOption (result_ok r) (2 ^ 64 ≤ digits_value 10 bytes) (λ n. n ≡ digits_value 10 bytes)
digits_parsed {E} bytes (Ok n) h e = (parse_digits numerals {E = E} 64 bytes (Ok n) h (number_parts bytes e).digits).1
digits_parsed {E} bytes (Err x) h e =
    let parts = number_parts bytes e in
    let no : ((0 < length bytes) × (digits_value 10 bytes < 2 ^ 64)) → ⊥ = parse_digits numerals {E = E} 64 bytes (Err x) h parts.digits in
    elim (cases_lt (digits_value 10 bytes) (2 ^ 64)) [ inl small ↦ absurd (no (parts.some, small)) | inr large ↦ large ]

-- and they are the text of this number
pub digits_spelt : {E : Type 0} (bytes : List ℕ) (r : Result ℕ E) → ParsesUnsigned 64 10 bytes r → is_number bytes ≡ true
    → IfSome (result_ok r) (λ n. bytes ≡ decimal n)
digits_spelt {E} bytes (Ok n) h e =
    let parts = number_parts bytes e in
    let found : ((0 < length bytes) × (digits_value 10 bytes < 2 ^ 64)) × (n ≡ digits_value 10 bytes) =
    parse_digits numerals {E = E} 64 bytes (Ok n) h parts.digits in
    sym (decimal-digits bytes e found.0.1) ∙ ap decimal (sym found.1)
digits_spelt {E} bytes (Err x) h e = tt

pub IsUtf8-number : (bytes : List ℕ) → is_number bytes ≡ true → IsUtf8 bytes
IsUtf8-number bytes e = IsUtf8-from_ascii bytes (IsAscii-from_digits bytes (numerals.to bytes (number_parts bytes e).digits))
