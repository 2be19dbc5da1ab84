-- Reading a source from left to right: its tokens, or the first fault (clause 2).
use Rattle.std.specs.Prelude.{ℕ, zero, suc, ◌+◌, ◌-◌, ◌^◌, Bool, true, false, ◌&&◌, ◌||◌, ◌==◌}
use Rattle.std.specs.Prelude.{nat_lt, nat_le, min, if◌then◌else◌, List, [], ◌∷◌, ◌++◌, length}
use Rattle.std.specs.Prelude.{take, drop, Option, Some, None, Result, Ok, Err, position}
use Rattle.ann_base.specs.Results.{◌>>=◌}
use Rattle.std.specs.Char.{is_ascii_digit, is_ascii_alphabetic}
use Rattle.ann_base.specs.declared.places.Place.{Place}
use Rattle.ada_lex.specs.declared.lexing.TheConstants.{MAX_SOURCE}
use Rattle.ada_lex.specs.declared.scan.TheConstants.{MAX_WORD}
use Rattle.ada_lex.specs.declared.scan.Run.TheVariants.{Letters, Whole, Decimals}
use Rattle.ada_lex.specs.declared.scan.Spot.{Spot}
use Rattle.ada_lex.specs.declared.tokens.Kind.{Kind}
use Rattle.ada_lex.specs.declared.tokens.Kind.TheVariants as kinds
use Rattle.ada_lex.specs.declared.tokens.Token.{Token}
use Rattle.ada_lex.specs.declared.tokens.LexFault.{LexFault}
use Rattle.ada_lex.specs.declared.tokens.LexFault.TheVariants as faults
use Rattle.ada_lex.specs.Shapes.{begins_with, run_length, value_of, text_length}
use Rattle.ada_lex.specs.Shapes.{is_no_text, delimiter_length, gap_length}

-- the place so many bytes further on the same line
abbrev pub place_on : Place → ℕ → Place
place_on place n = record { line = place.line; column = place.column + n }

-- where one stands behind a byte: a line feed alone ends a line
abbrev pub behind : Spot → ℕ → Spot
behind spot b =
    if b == 10 then record { offset = spot.offset + 1; place = record { line = spot.place.line + 1; column = 1 } }
    else record { offset = spot.offset + 1; place = record { line = spot.place.line; column = spot.place.column + 1 } }

unfoldable pub behind_all : List ℕ → Spot → Spot
behind_all [] spot = spot
behind_all (b ∷ rest) spot = behind_all rest (behind spot b)

abbrev pub start : Spot
start = record { offset = 0; place = record { line = 1; column = 1 } }

-- A word ends before the first byte that cannot go on. It may not be longer than MAX_WORD bytes, and no underscore may
-- follow it: of two the second is wrong, since a letter could have followed the first.
abbrev pub fault_in_word : ℕ → List ℕ → Option ℕ
fault_in_word n [] = if nat_lt MAX_WORD n then Some MAX_WORD else None
fault_in_word n (b ∷ rest) =
    if nat_lt MAX_WORD n then Some MAX_WORD
    else (if b == 95 then Some (min MAX_WORD (if begins_with (λ c. c == 95) rest then n + 1 else n)) else None)

abbrev pub unless_bad : Option ℕ → Place → ℕ → Result ℕ LexFault
unless_bad None place n = Ok n
unless_bad (Some k) place n = Err (faults.BadByte (place_on place k))

unfoldable pub word_at : Place → List ℕ → Result ℕ LexFault
word_at place bytes =
    let n = run_length Letters bytes in
    unless_bad (fault_in_word n (drop n bytes)) place n

-- how many bytes a point and the digits behind it have
abbrev pub fraction_length : List ℕ → ℕ
fraction_length [] = 0
fraction_length (b ∷ rest) = if (b == 46) && begins_with is_ascii_digit rest then suc (run_length Decimals rest) else 0

-- no letter, underscore or # follows a number directly
abbrev pub spoils_number : ℕ → Bool
spoils_number b = is_ascii_alphabetic b || (b == 95) || (b == 35)

abbrev pub number_unless : Bool → Place → ℕ → Result ℕ LexFault
number_unless false place n = Ok n
number_unless true place n = Err (faults.BadNumber place)

-- the whole part of a number is below 2 to the power of 128
unfoldable pub number_at : Place → List ℕ → Result ℕ LexFault
number_at place bytes =
    let whole = run_length Whole bytes in
    let n = whole + fraction_length (drop whole bytes) in
    number_unless (begins_with spoils_number (drop n bytes) || nat_le (2 ^ 128) (value_of (take whole bytes))) place n

abbrev pub closed_text : Option ℕ → Place → List ℕ → Result ℕ LexFault
closed_text None place bytes = Err (faults.OpenString place)
closed_text (Some n) place bytes = unless_bad (position is_no_text (take (n + 1) bytes)) place (n + 1)

-- a text, whose first mark has been seen
unfoldable pub text_at : Place → List ℕ → Result ℕ LexFault
text_at place bytes = closed_text (text_length (drop 1 bytes)) place bytes

abbrev pub delimiter_unless : ℕ → Place → Result ℕ LexFault
delimiter_unless zero place = Err (faults.BadByte place)
delimiter_unless (suc n) place = Ok (suc n)

-- the kind of the token at the front, by its first byte
abbrev pub kind_of : ℕ → Kind
kind_of b =
    if is_ascii_alphabetic b then kinds.Word
    else (if is_ascii_digit b then kinds.Number
    else (if b == 34 then kinds.Text
    else kinds.Delimiter))

-- how many bytes the token of this kind at the front has
abbrev pub token_at : Kind → Place → List ℕ → Result ℕ LexFault
token_at kinds.Word place bytes = word_at place bytes
token_at kinds.Number place bytes = number_at place bytes
token_at kinds.Text place bytes = text_at place bytes
token_at kinds.Delimiter place bytes = delimiter_unless (delimiter_length bytes) place

-- the token of so many bytes that stands there
abbrev pub made : Kind → Spot → ℕ → Token
made kind spot n = record { kind = kind; first = spot.offset; end = spot.offset + n; place = spot.place }

-- What stands at the front of bytes, a gap or one token, and how many bytes it has.
abbrev pub piece_unless : ℕ → Kind → Spot → List ℕ → Result (List Token × ℕ) LexFault
piece_unless (suc n) kind spot bytes = Ok ([], suc n)
piece_unless zero kind spot bytes = token_at kind spot.place bytes >>= λ n. Ok (made kind spot n ∷ [], n)

unfoldable pub piece_at : Spot → List ℕ → Result (List Token × ℕ) LexFault
piece_at spot [] = Ok ([], 0)
piece_at spot (b ∷ rest) = piece_unless (gap_length (b ∷ rest)) (kind_of b) spot (b ∷ rest)

abbrev pub with_front : List Token → Result (List Token) LexFault → Result (List Token) LexFault
with_front front read = read >>= λ tokens. Ok (front ++ tokens)

-- The tokens of bytes, of which so many more belong to a piece that has been read.
unfoldable pub tokens_from : List ℕ → ℕ → Spot → Result (List Token) LexFault
tokens_from [] skip spot = Ok []
tokens_from (b ∷ rest) (suc skip) spot = tokens_from rest skip (behind spot b)
tokens_from (b ∷ rest) zero spot = piece_at spot (b ∷ rest)
    >>= λ piece. with_front piece.0 (tokens_from rest (piece.1 - 1) (behind spot b))

-- The tokens of a source, or its first fault. Its length is asked first.
unfoldable pub tokens_of : List ℕ → Result (List Token) LexFault
tokens_of source = if nat_lt MAX_SOURCE (length source) then Err faults.TooLong else tokens_from source 0 start
