-- When a list of tokens is that of a source (clause 2): apart from how it is read.
use Rattle.std.specs.Prelude.{◌≡◌, ℕ, ◌-◌, ◌^◌, ◌<◌, ◌≤◌, Bool, true, false, ◌&&◌, not, ◌==◌, if◌then◌else◌}
use Rattle.std.specs.Prelude.{List, [], ◌∷◌, ◌++◌, length, take, drop, Option, Some, None, position}
use Rattle.std.specs.Char.{is_ascii_digit, is_ascii_alphabetic}
use Rattle.ada_lex.specs.declared.lexing.TheConstants.{MAX_SOURCE}
use Rattle.ada_lex.specs.declared.scan.TheConstants.{MAX_WORD}
use Rattle.ada_lex.specs.declared.scan.Run.{Run}
use Rattle.ada_lex.specs.declared.scan.Run.TheVariants.{Letters, Whole, Decimals}
use Rattle.ada_lex.specs.declared.scan.Spot.{Spot}
use Rattle.ada_lex.specs.declared.tokens.Kind.{Kind}
use Rattle.ada_lex.specs.declared.tokens.Kind.TheVariants as kinds
use Rattle.ada_lex.specs.declared.tokens.Token.{Token}
use Rattle.ada_lex.specs.Shapes.{begins_with, goes_on, is_separator, is_no_text, text_length, delimiter_length}
use Rattle.ada_lex.specs.Reading.{behind_all, made, spoils_number, start}
use Rattle.ada_lex.specs.Meaning.{IsInside, spelling_of, whole_of}

-- Separators and comments, and nothing else. A comment begins with two minus signs and ends with its line; the state
-- behind the bytes is whether a comment is still open.
unfoldable pub gap_state : Bool → List ℕ → Option Bool
gap_state inside [] = Some inside
gap_state true (b ∷ rest) = gap_state (not (b == 10)) rest
gap_state false (b ∷ []) = if is_separator b then Some false else None
gap_state false (b ∷ c ∷ rest) = if is_separator b then gap_state false (c ∷ rest)
    else (if (b == 45) && (c == 45) then gap_state true rest else None)

-- each byte goes on the run that the bytes before it began
unfoldable pub is_run : Run → List ℕ → Bool
is_run run [] = true
is_run run (b ∷ rest) = goes_on run (b ∷ rest) && is_run run rest

-- a letter, then letters, digits and single underscores, of which none is last
abbrev pub is_word : List ℕ → Bool
is_word bytes = begins_with is_ascii_alphabetic bytes && is_run Letters bytes

-- a point and digits, or nothing
abbrev pub is_fraction : List ℕ → Bool
is_fraction [] = true
is_fraction (b ∷ rest) = (b == 46) && begins_with is_ascii_digit rest && is_run Decimals rest

-- digits with single underscores between them, and perhaps a fraction
abbrev pub IsNumber : List ℕ → Type 0
IsNumber bytes = (n : ℕ) × (begins_with is_ascii_digit bytes ≡ true) × (is_run Whole (take n bytes) ≡ true)
    × (is_fraction (drop n bytes) ≡ true)

-- two marks with bytes of one line between them, in which a mark is doubled
abbrev pub IsText : List ℕ → Type 0
IsText bytes = (begins_with (λ b. b == 34) bytes ≡ true) × (text_length (drop 1 bytes) ≡ Some (length bytes - 1))

abbrev pub IsDelimiter : List ℕ → Type 0
IsDelimiter bytes = (0 < length bytes) × (delimiter_length bytes ≡ length bytes)

abbrev pub IsToken : Kind → List ℕ → Type 0
IsToken kinds.Word bytes = is_word bytes ≡ true
IsToken kinds.Number bytes = IsNumber bytes
IsToken kinds.Text bytes = IsText bytes
IsToken kinds.Delimiter bytes = IsDelimiter bytes

-- the limits of the profile: MAX_WORD bytes of a word, a whole part below 2 to the power of 128, bytes that a text may
-- hold
abbrev pub IsWithin : Kind → List ℕ → Type 0
IsWithin kinds.Word bytes = length bytes ≤ MAX_WORD
IsWithin kinds.Number bytes = whole_of bytes < 2 ^ 128
IsWithin kinds.Text bytes = position is_no_text bytes ≡ None
IsWithin kinds.Delimiter bytes = Unit {0}

-- what may not follow a token directly: more of it; an underscore behind a word, what spoils a number, a mark behind a
-- text, a second minus sign
abbrev pub IsLongest : Kind → List ℕ → List ℕ → Type 0
IsLongest kind bytes rest = (n : ℕ) → 0 < n → n ≤ length rest → IsToken kind (bytes ++ take n rest) → ⊥

abbrev pub IsApart : Kind → List ℕ → List ℕ → Type 0
IsApart kinds.Word bytes rest = begins_with (λ b. b == 95) rest ≡ false
IsApart kinds.Number bytes rest = begins_with spoils_number rest ≡ false
IsApart kinds.Text bytes rest = begins_with (λ b. b == 34) rest ≡ false
IsApart kinds.Delimiter bytes rest = (bytes ≡ 45 ∷ []) → begins_with (λ b. b == 45) rest ≡ false

-- one token behind a gap
pub record StandsThere (spot : Spot) (bytes : List ℕ) (token : Token) (gap text rest : List ℕ) : Type 0 where
  pub parts : bytes ≡ gap ++ (text ++ rest)
  pub separated : gap_state false gap ≡ Some false
  pub shaped : IsToken token.kind text
  pub within : IsWithin token.kind text
  pub longest : IsLongest token.kind text rest
  pub apart : IsApart token.kind text rest
  pub placed : token ≡ made token.kind (behind_all gap spot) (length text)

abbrev pub LexedFrom : List Token → Spot → List ℕ → Type 0
LexedFrom [] spot bytes = (inside : Bool) × (gap_state false bytes ≡ Some inside)
LexedFrom (token ∷ tokens) spot bytes = (gap : List ℕ) × (text : List ℕ) × (rest : List ℕ)
    × StandsThere spot bytes token gap text rest × LexedFrom tokens (behind_all (gap ++ text) spot) rest

-- The tokens are those of the source, each at its place.
abbrev pub Lexed : List ℕ → List Token → Type 0
Lexed source tokens = (length source ≤ MAX_SOURCE) × LexedFrom tokens start source

-- ---- tokens one by one

-- bytes are a token of this kind, within the limits
pub record IsProper (kind : Kind) (bytes : List ℕ) : Type 0 where
  pub shaped : IsToken kind bytes
  pub within : IsWithin kind bytes

-- a token lies inside the source, and its bytes there are one
pub record IsTokenOf (source : List ℕ) (token : Token) : Type 0 where
  pub inside : IsInside source token
  pub proper : IsProper token.kind (spelling_of source token)

-- each of them is a token of the source
abbrev pub AreTokensOf : List ℕ → List Token → Type 0
AreTokensOf source [] = Unit {0}
AreTokensOf source (token ∷ tokens) = IsTokenOf source token × AreTokensOf source tokens
