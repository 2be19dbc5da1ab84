-- Reading sequences: statements, their handlers, and the declarations before them (11.2, 3.11).
use Rattle.std.specs.Prelude.{ℕ, zero, suc, List, [], ◌∷◌, codes}
use Rattle.ada_tree.specs.declared.names.OneOrMore.{OneOrMore}
use Rattle.ada_tree.specs.declared.statements.Statement.{Statement}
use Rattle.ada_tree.specs.declared.statements.Handler.{Handler}
use Rattle.ada_tree.specs.declared.statements.Sequence.{Sequence, roll-Sequence}
use Rattle.ada_tree.specs.declared.statements.SequenceRole.{SequenceRole}
use Rattle.ada_tree.specs.declared.statements.SequenceRole.TheVariants as role
use Rattle.ada_tree.specs.declared.declarations.Declaration.{Declaration}
use Rattle.ada_grammar.specs.Reading.{Parser, ◌>>=◌, ◌>>◌, pure, nothing, too_deep, choose}
use Rattle.ada_grammar.specs.Reading.{sees_word, the_word, the_delimiter, items_of}
use Rattle.ada_grammar.specs.ReadingSimple.{exceptions_of}
use Rattle.ada_grammar.specs.ReadingStatements.{begins_statement, statement_inside_of}
use Rattle.ada_grammar.specs.ReadingBodies.{begins_declaration, declaration_of}

-- a sequence of these parts
abbrev pub made : List (Declaration Sequence) → OneOrMore (Statement Sequence) → List (Handler Sequence) → Sequence
made before inside behind =
    roll-Sequence (record { parts = record { declarations = before; statements = inside; handlers = behind } })

-- Where so many levels are left, given how a sequence is read one level further in, and two.
module _ (left : ℕ) (inner : SequenceRole → Parser Sequence) (deeper : SequenceRole → Parser Sequence) where
  -- a statement takes a level
  abbrev pub statement_at : ℕ → Parser (Statement Sequence)
  statement_at zero = choose begins_statement too_deep nothing
  statement_at (suc inside) = statement_inside_of inside inner deeper

  unfoldable pub statement_of : Parser (Statement Sequence)
  statement_of = statement_at left

  -- statement {statement}
  unfoldable pub statements_of : Parser (OneOrMore (Statement Sequence))
  statements_of = do
    first ← statement_of
    others ← items_of begins_statement statement_of
    pure (record { first = first; others = others })

  -- "when" (name {"|" name} | "others") "=>" statements (11.2)
  unfoldable pub handler_of : Parser (Handler Sequence)
  handler_of = do
    place ← the_word (codes "when")
    exceptions ← exceptions_of
    the_delimiter (codes "=>")
    inside ← statements_of
    pure (record { place = place; exceptions = exceptions; statements = made [] inside [] })

  -- ["exception" handler {handler}]
  unfoldable pub given_handlers_of : Parser (List (Handler Sequence))
  given_handlers_of = do
    the_word (codes "exception")
    first ← handler_of
    others ← items_of (sees_word (codes "when")) handler_of
    pure (first ∷ others)

  unfoldable pub handlers_of : Parser (List (Handler Sequence))
  handlers_of = choose (sees_word (codes "exception")) given_handlers_of (pure [])

  unfoldable pub declarations_of : Parser (List (Declaration Sequence))
  declarations_of = items_of begins_declaration (declaration_of left inner deeper)

  unfoldable pub plain_of : Parser Sequence
  plain_of = statements_of >>= λ inside. pure (made [] inside [])

  unfoldable pub handled_behind_of : List (Declaration Sequence) → Parser Sequence
  handled_behind_of before = do
    inside ← statements_of
    behind ← handlers_of
    pure (made before inside behind)

  unfoldable pub whole_body_of : Parser Sequence
  whole_body_of = do
    before ← declarations_of
    the_word (codes "begin")
    handled_behind_of before

  abbrev pub parts_of : SequenceRole → Parser Sequence
  parts_of role.Statements = plain_of
  parts_of role.Handled = handled_behind_of []
  parts_of role.Body = whole_body_of

abbrev pub no_sequence : SequenceRole → Parser Sequence
no_sequence r = nothing

-- a sequence, where so many levels are left
unfoldable pub sequence_of : ℕ → SequenceRole → Parser Sequence
sequence_of zero = parts_of zero no_sequence no_sequence
sequence_of (suc zero) = parts_of (suc zero) (sequence_of zero) no_sequence
sequence_of (suc (suc left)) = parts_of (suc (suc left)) (sequence_of (suc left)) (sequence_of left)

-- one level further in, given what reading gives where so many levels are left
unfoldable pub further_in : {Q : Type 0} → (ℕ → SequenceRole → Parser Q) → ℕ → SequenceRole → Parser Q
further_in sequence zero = λ r. nothing
further_in sequence (suc left) = sequence left

abbrev pub inside_of : ℕ → SequenceRole → Parser Sequence
inside_of left = further_in sequence_of left
