-- The numbers of a line of a script.
use Rattle.std.specs.Prelude.{ℕ, ℤ, pos, neg_ℤ, ◌==◌, ◌+◌, if◌then◌else◌, List, []}
use Rattle.std.specs.Prelude.{◌∷◌, Option, Some, None, option_map, Result, Ok, Err}
use Rattle.text_lines.specs.Numerals.{is_numeral, number_in}
use Rattle.event_script.specs.declared.faults.TheConstants.{LAST_TICK}
use Rattle.profile_image.specs.declared.limits.TheConstants.{LAST_OUTSIDE_LINE}
use Rattle.event_script.specs.declared.numbers.TheConstants.{MOST_VALUE}
use Rattle.event_script.specs.declared.faults.ScriptFaultKind.{ScriptFaultKind}
use Rattle.event_script.specs.declared.faults.ScriptFaultKind.TheVariants.{BadNumber, NoSuchLine}

-- a tick is from 0 to 1,000,000,000
abbrev pub tick_in : List ℕ → Option ℕ
tick_in word = number_in 0 LAST_TICK word

-- The number of an interrupt or of a port. Misspelt it is a bad number; above the last nothing has it.
abbrev pub number_within : Option ℕ → Result ℕ ScriptFaultKind
number_within None = Err NoSuchLine
number_within (Some number) = Ok number

abbrev pub number_of : List ℕ → Result ℕ ScriptFaultKind
number_of word = if is_numeral word then number_within (number_in 0 LAST_OUTSIDE_LINE word) else Err BadNumber

-- The value of a port is a whole number of 32 bits, with a hyphen before it where it is negative.
abbrev pub negative_in : List ℕ → Option ℤ
negative_in digits = option_map (λ value. neg_ℤ (pos value)) (number_in 1 (MOST_VALUE + 1) digits)

abbrev pub natural_in : List ℕ → Option ℤ
natural_in word = option_map pos (number_in 0 MOST_VALUE word)

abbrev pub value_in : List ℕ → Option ℤ
value_in [] = None
value_in (first ∷ digits) = if first == 45 then negative_in digits else natural_in (first ∷ digits)
