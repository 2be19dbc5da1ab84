-- Reading bodies, and all declarations (clauses 3.11, 6.3, 9.1, 9.4, 9.5.2).
use Rattle.std.specs.Prelude.{ℕ, Bool, ◌||◌, List, codes}
use Rattle.ann_base.specs.declared.places.Place.{Place}
use Rattle.ada_tree.specs.declared.statements.SequenceRole.{SequenceRole}
use Rattle.ada_tree.specs.declared.statements.SequenceRole.TheVariants as role
use Rattle.ada_tree.specs.declared.declarations.Declaration.{Declaration}
use Rattle.ada_tree.specs.declared.declarations.Body.{Body}
use Rattle.ada_tree.specs.declared.declarations.SubprogramSpecification.{SubprogramSpecification}
use Rattle.ada_tree.specs.declared.declarations.OperationBody.{OperationBody}
use Rattle.ada_tree.specs.declared.declarations.Declaration.TheVariants as declarations
use Rattle.ada_tree.specs.declared.declarations.OperationBody.TheVariants as bodies
use Rattle.ada_tree.specs.Written.{Lexeme}
use Rattle.ada_grammar.specs.Reading.{Parser, ◌>>=◌, ◌>>◌, pure, choose, sees_word}
use Rattle.ada_grammar.specs.Reading.{sees_delimiter, sees_identifier, the_word, the_delimiter}
use Rattle.ada_grammar.specs.Reading.{an_identifier, end_name_of, opening_is_of, below, items_of}
use Rattle.ada_grammar.specs.ReadingDeclarations.{begins_operation, begins_specification, entry_head_of}
use Rattle.ada_grammar.specs.ReadingDeclarations.{named_declaration_of, protected_of, specification_of}
use Rattle.ada_grammar.specs.ReadingDeclarations.{subtype_of, task_of, type_of, use_of}

-- ---- bodies, given how a sequence is read one level further in

module _ {Q : Type 0} (left : ℕ) (sequence : SequenceRole → Parser Q) where
  -- "is" body "end" [NAME] ";"
  unfoldable pub body_of : List ℕ → Parser (Body Q)
  body_of name = do
    opening_is_of left
    inside ← sequence role.Body
    the_word (codes "end")
    named ← end_name_of name
    the_delimiter (codes ";")
    pure (record { sequence = inside; named_at_end = named })

  unfoldable pub subprogram_operation_of : Parser (OperationBody Q)
  subprogram_operation_of = do
    specification ← specification_of left
    body ← body_of specification.name.text
    pure (bodies.Subprogram specification body)

  unfoldable pub entry_operation_of : Parser (OperationBody Q)
  entry_operation_of = do
    head ← entry_head_of left
    body ← body_of head.name.text
    pure (bodies.Entry head body)

  unfoldable pub operation_body_of : Parser (OperationBody Q)
  operation_body_of = choose (sees_word (codes "entry")) entry_operation_of subprogram_operation_of

  -- specification ";" | specification body
  unfoldable pub subprogram_body_of : SubprogramSpecification → Parser (Declaration Q)
  subprogram_body_of specification = do
    body ← body_of specification.name.text
    pure (declarations.SubprogramBody specification body)

  unfoldable pub subprogram_of : Parser (Declaration Q)
  subprogram_of = do
    specification ← specification_of left
    choose (sees_delimiter (codes ";")) (the_delimiter (codes ";") >> pure (declarations.Subprogram specification))
        (subprogram_body_of specification)

  -- "body" NAME body, behind "task"
  unfoldable pub task_body_of : Place → Parser (Declaration Q)
  task_body_of place = do
    the_word (codes "body")
    name ← an_identifier
    body ← body_of name.text
    pure (declarations.TaskBody place name body)

  unfoldable pub any_task_of : Parser (Declaration Q)
  any_task_of = do
    place ← the_word (codes "task")
    choose (sees_word (codes "body")) (task_body_of place) (task_of left place)

-- the operations of a protected body are one level further in, and their sequences two
module _ {Q : Type 0} (left : ℕ) (sequence : SequenceRole → Parser Q) (deeper : SequenceRole → Parser Q) where
  -- "body" NAME "is" {operation body} "end" [NAME] ";", behind "protected"
  unfoldable pub protected_body_of : Place → Parser (Declaration Q)
  protected_body_of place = do
    the_word (codes "body")
    name ← an_identifier
    opening_is_of left
    operation_bodies ← items_of begins_operation (operation_body_of (below left) deeper)
    the_word (codes "end")
    named ← end_name_of name.text
    the_delimiter (codes ";")
    pure (declarations.ProtectedBody (record {
      place = place;
      name = name;
      operations = operation_bodies;
      named_at_end = named;
    }))

  unfoldable pub any_protected_of : Parser (Declaration Q)
  any_protected_of = do
    place ← the_word (codes "protected")
    choose (sees_word (codes "body")) (protected_body_of place) (protected_of left place)

  -- all declarations (3.1)
  unfoldable pub declaration_of : Parser (Declaration Q)
  declaration_of =
      choose sees_identifier (named_declaration_of left)
      (choose (sees_word (codes "type")) (type_of left)
      (choose (sees_word (codes "subtype")) (subtype_of left)
      (choose (sees_word (codes "task")) (any_task_of left sequence)
      (choose (sees_word (codes "protected")) any_protected_of
      (choose (sees_word (codes "use")) use_of
      (subprogram_of left sequence))))))

abbrev pub begins_unit : List Lexeme → Bool
begins_unit ls = sees_word (codes "task") ls
    || (sees_word (codes "protected") ls || (sees_word (codes "use") ls || begins_specification ls))

unfoldable pub begins_declaration : List Lexeme → Bool
begins_declaration ls = sees_identifier ls
    || (sees_word (codes "type") ls || (sees_word (codes "subtype") ls || begins_unit ls))
