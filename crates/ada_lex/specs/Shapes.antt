-- The bytes of which tokens, separators and comments are made (2.1, 2.2), and how far they reach.
use Rattle.std.specs.Prelude.{ℕ, suc, ◌+◌, ◌*◌, ◌-◌, Bool, false, ◌&&◌, ◌||◌, not, ◌==◌, nat_le}
use Rattle.std.specs.Prelude.{if◌then◌else◌, List, [], ◌∷◌, Option, Some, None, option_map}
use Rattle.std.specs.Char.{is_ascii_digit, is_ascii_alphanumeric}
use Rattle.ada_lex.specs.declared.scan.Run.{Run}
use Rattle.ada_lex.specs.declared.scan.Run.TheVariants.{Letters, Whole, Decimals, Line}

-- space, tab, form feed, carriage return, line feed
abbrev pub is_separator : ℕ → Bool
is_separator b = (b == 32) || (b == 9) || (b == 12) || (b == 13) || (b == 10)

abbrev pub begins_with : (ℕ → Bool) → List ℕ → Bool
begins_with test [] = false
begins_with test (b ∷ rest) = test b

-- an underscore stands only before a byte of the same run
abbrev pub joins : (ℕ → Bool) → List ℕ → Bool
joins test [] = false
joins test (b ∷ rest) = test b || ((b == 95) && begins_with test rest)

-- the first byte belongs to the run that the bytes before it began
abbrev pub goes_on : Run → List ℕ → Bool
goes_on Letters bytes = joins is_ascii_alphanumeric bytes
goes_on Whole bytes = joins is_ascii_digit bytes
goes_on Decimals bytes = begins_with is_ascii_digit bytes
goes_on Line bytes = begins_with (λ b. not (b == 10)) bytes

-- how many bytes the run has
unfoldable pub run_length : Run → List ℕ → ℕ
run_length run [] = 0
run_length run (b ∷ rest) = if goes_on run (b ∷ rest) then suc (run_length run rest) else 0

-- the value of digits, underscores aside, behind a value
unfoldable pub value_behind : List ℕ → ℕ → ℕ
value_behind [] value = value
value_behind (b ∷ rest) value = if b == 95 then value_behind rest value else value_behind rest (value * 10 + (b - 48))

abbrev pub value_of : List ℕ → ℕ
value_of digits = value_behind digits 0

-- how many bytes there are up to the mark that ends a text, itself counted, from behind its first mark; a
-- doubled mark ends nothing, and a line feed or the end of the source comes too early
unfoldable pub text_length : List ℕ → Option ℕ
text_length [] = None
text_length (b ∷ []) = if b == 34 then Some 1 else None
text_length (b ∷ c ∷ rest) =
    if b == 34 then (if c == 34 then option_map (λ n. n + 2) (text_length rest) else Some 1)
    else (if b == 10 then None else option_map (λ n. n + 1) (text_length (c ∷ rest)))

-- a byte that no text may hold
abbrev pub is_no_text : ℕ → Bool
is_no_text b = not (nat_le 32 b && nat_le b 126)

-- the delimiters of one byte, and those of two
abbrev pub is_delimiter : ℕ → Bool
is_delimiter b = (nat_le 38 b && nat_le b 47) || (nat_le 58 b && nat_le b 62) || (b == 124)

abbrev pub is_double_delimiter : ℕ → ℕ → Bool
is_double_delimiter a b =
    ((a == 61) && (b == 62)) || ((a == 46) && (b == 46))
    || ((b == 61) && ((a == 58) || (a == 47) || (a == 62) || (a == 60)))

-- how many bytes the delimiter at the front has, 0 where there is none
abbrev pub delimiter_length : List ℕ → ℕ
delimiter_length [] = 0
delimiter_length (a ∷ []) = if is_delimiter a then 1 else 0
delimiter_length (a ∷ b ∷ rest) = if is_double_delimiter a b then 2 else (if is_delimiter a then 1 else 0)

-- how many bytes of separators or of a comment stand at the front, 0 where there are none
abbrev pub gap_length : List ℕ → ℕ
gap_length [] = 0
gap_length (a ∷ []) = if is_separator a then 1 else 0
gap_length (a ∷ b ∷ rest) =
    if is_separator a then 1
    else (if (a == 45) && (b == 45) then run_length Line (a ∷ b ∷ rest) else 0)
