-- What a source that is read to its end gives, and one that is not.
use Rattle.std.proofs.Common.{◌≡◌, ℕ, ◌<◌, List, [], ◌∷◌, length, Ok, Err, refl, arith}
use Rattle.std.proofs.lemmas.List.{length-map}
use Rattle.ada_lex.specs.declared.tokens.Token.{Token}
use Rattle.ada_tree.specs.declared.units.Unit.{Unit as Tree}
use Rattle.ada_tree.specs.Written.{Lexeme, lexeme_of, lexemes_of}
use Rattle.ada_grammar.specs.declared.stuck.Stuck.{Stuck}
use Rattle.ada_grammar.specs.declared.stuck.Stuck.TheVariants as stuck
use Rattle.ada_grammar.specs.ReadingUnits.{finished, placed_fault, source_of, unit_of}

pub finished_at_end : (unit : Tree) (ls : List Lexeme) → length ls ≡ 0 → finished unit ls ≡ Ok (unit, ls)
finished_at_end unit [] e = refl
finished_at_end unit (l ∷ ls) e = absurd (omega arith)

pub finished_too_early : (unit : Tree) (ls : List Lexeme) → 0 < length ls → finished unit ls ≡ Err (stuck.At (length ls))
finished_too_early unit [] p = absurd (omega arith)
finished_too_early unit (l ∷ ls) p = refl

pub unit_read : (ls : List Lexeme) (unit : Tree) (rest : List Lexeme) → source_of 100 ls ≡ Ok (unit, rest) → unit_of ls ≡ Ok unit
unfolding unit_of
unit_read ls unit rest e = rw e refl

pub unit_stops : (source : List ℕ) (tokens : List Token) (why : Stuck) → source_of 100 (lexemes_of source tokens) ≡ Err why
    → unit_of (lexemes_of source tokens) ≡ Err (placed_fault (length tokens) why)
unfolding unit_of
unit_stops source tokens why e = rw (e, length-map tokens (lexeme_of source)) refl
