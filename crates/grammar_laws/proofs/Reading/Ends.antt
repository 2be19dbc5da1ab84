-- What may not stand behind a part: it would go on.
use Rattle.std.proofs.Common.{Bool, not, ◌&&◌, List, codes}
use Rattle.ada_tree.specs.Written.{Lexeme}
use Rattle.ada_tree.specs.declared.statements.SequenceRole.{SequenceRole}
use Rattle.ada_tree.specs.declared.statements.SequenceRole.TheVariants as role
use Rattle.ada_grammar.specs.ReadingExpressions.{compares, adds, multiplies, joins}
use Rattle.ada_grammar.specs.ReadingStatements.{begins_statement}
use Rattle.grammar_laws.proofs.Reading.Tokens.{not_word}
use Rattle.grammar_laws.proofs.Reading.Names.{not_delimiter}

-- ---- expressions, level by level of precedence

abbrev pub ends_designated : List Lexeme → Bool
ends_designated r = not_delimiter (codes ".") r && (not_delimiter (codes "'") r && not_delimiter (codes "(") r)

abbrev pub ends_term : List Lexeme → Bool
ends_term r = ends_designated r && not (multiplies r)

abbrev pub ends_sum : List Lexeme → Bool
ends_sum r = ends_term r && not (adds r)

abbrev pub ends_relation : List Lexeme → Bool
ends_relation r = ends_sum r && not (compares r)

abbrev pub ends_expression : List Lexeme → Bool
ends_expression r = ends_relation r && not (joins r)

-- ---- the arguments of a call: an opening bracket

abbrev pub ends_arguments : List Lexeme → Bool
ends_arguments r = not_delimiter (codes "(") r

-- ---- sequences, by what they may hold

abbrev pub ends_statements : List Lexeme → Bool
ends_statements r = not (begins_statement r)

abbrev pub ends_sequence : SequenceRole → List Lexeme → Bool
ends_sequence role.Statements r = ends_statements r
ends_sequence role.Handled r = ends_statements r && (not_word (codes "exception") r && not_word (codes "when") r)
ends_sequence role.Body r = ends_statements r && (not_word (codes "exception") r && not_word (codes "when") r)
