-- Why a source is refused and where: the codes and their texts, and the refusal of each stage's fault.
use Rattle.std.specs.Prelude.{ℕ, ◌+◌, ◌==◌, if◌then◌else◌, List, [], ◌∷◌, length, slice_index_or, cond, nat_lt}
use Rattle.ann_base.specs.declared.places.Place.{Place}
use Rattle.ada_lex.specs.declared.tokens.Kind.TheVariants as kinds
use Rattle.ada_lex.specs.declared.tokens.Token.{Token}
use Rattle.ada_lex.specs.declared.tokens.LexFault.{LexFault}
use Rattle.ada_lex.specs.declared.tokens.LexFault.TheVariants as lexical
use Rattle.ada_tree.specs.declared.units.Unit.{Unit as Tree}
use Rattle.ada_grammar.specs.declared.faults.ParseFault.{ParseFault}
use Rattle.ada_grammar.specs.declared.faults.ParseFault.TheVariants as grammatical
use Rattle.ada_regions.specs.declared.faults.NameFault.{NameFault}
use Rattle.ada_regions.specs.declared.faults.NameFault.TheVariants as named
use Rattle.ada_legality.specs.declared.faults.Fault.{Fault}
use Rattle.ada_legality.specs.Faults.{number_of_rule}
use Rattle.ada_verdicts.specs.declared.refusals.Code.{Code}
use Rattle.ada_verdicts.specs.declared.refusals.Code.TheVariants as code
use Rattle.ada_verdicts.specs.declared.refusals.Refusal.{Refusal}

-- ---- codes as they are printed: 70 is F, 76 is L

abbrev pub letter_of : Code → ℕ
letter_of code.BadByte = 70
letter_of code.BadNumber = 70
letter_of code.OpenText = 70
letter_of code.TooLong = 70
letter_of code.Unexpected = 70
letter_of code.TooDeep = 70
letter_of code.Unknown = 70
letter_of code.Twice = 70
letter_of code.Ambiguous = 70
letter_of (code.Rule number) = 76

abbrev pub number_of : Code → ℕ
number_of code.BadByte = 1
number_of code.BadNumber = 2
number_of code.OpenText = 3
number_of code.TooLong = 4
number_of code.Unexpected = 5
number_of code.TooDeep = 6
number_of code.Unknown = 7
number_of code.Twice = 8
number_of code.Ambiguous = 9
number_of (code.Rule number) = number

-- ---- places

abbrev pub refused_at : Place → Code → Refusal
refused_at place code = record { place = place; code = code }

abbrev pub first_place : Place
first_place = record { line = 1; column = 1 }

-- the place after bytes: a line feed alone ends a line
abbrev pub place_after : Place → ℕ → Place
place_after place byte = if byte == 10 then record { line = place.line + 1; column = 1 }
    else record { line = place.line; column = place.column + 1 }

abbrev pub after_bytes : Place → List ℕ → Place
after_bytes place [] = place
after_bytes place (byte ∷ bytes) = after_bytes (place_after place byte) bytes

-- the place of a token; that of the end is after the source's last byte
abbrev pub end_of : List ℕ → Place
end_of source = after_bytes first_place source

abbrev pub no_token : Token
no_token = record { kind = kinds.Word; first = 0; end = 0; place = first_place }

abbrev pub place_of : List ℕ → List Token → ℕ → Place
place_of source tokens n = cond (nat_lt n (length tokens)) (slice_index_or tokens n no_token).place (end_of source)

-- ---- the faults of the stages

abbrev pub of_tokens : LexFault → Refusal
of_tokens (lexical.BadByte place) = refused_at place code.BadByte
of_tokens (lexical.BadNumber place) = refused_at place code.BadNumber
of_tokens (lexical.OpenString place) = refused_at place code.OpenText
of_tokens lexical.TooLong = refused_at first_place code.TooLong

abbrev pub of_grammar : List ℕ → List Token → ParseFault → Refusal
of_grammar source tokens (grammatical.Unexpected token) = refused_at (place_of source tokens token) code.Unexpected
of_grammar source tokens (grammatical.TooDeep token) = refused_at (place_of source tokens token) code.TooDeep

abbrev pub of_names : NameFault → Refusal
of_names (named.Unknown place) = refused_at place code.Unknown
of_names (named.Twice place) = refused_at place code.Twice
of_names (named.Ambiguous place) = refused_at place code.Ambiguous

abbrev pub of_rules : Fault → Refusal
of_rules fault = refused_at fault.place (code.Rule (number_of_rule fault.rule))

-- a form that no image has is told at the main procedure's name, behind the rules of legality
abbrev pub of_forms : Tree → Refusal
of_forms tree = refused_at tree.main.name.place (code.Rule 40)
