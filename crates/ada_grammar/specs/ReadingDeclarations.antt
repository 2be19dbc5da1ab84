-- Reading declarations that are no bodies (clauses 3, 6, 8.4, 9, 11, 13.1.1), where so many levels are left.
use Rattle.std.specs.Prelude.{ℕ, Bool, ◌||◌, List, [], ◌∷◌, Option, Some, None, codes}
use Rattle.ann_base.specs.declared.places.Place.{Place}
use Rattle.ada_tree.specs.declared.names.Identifier.{Identifier}
use Rattle.ada_tree.specs.declared.names.OneOrMore.{OneOrMore}
use Rattle.ada_tree.specs.declared.expressions.Expression.{Expression}
use Rattle.ada_tree.specs.declared.declarations.Declaration.{Declaration}
use Rattle.ada_tree.specs.declared.declarations.Component.{Component}
use Rattle.ada_tree.specs.declared.declarations.TypeDefinition.{TypeDefinition}
use Rattle.ada_tree.specs.declared.declarations.Aspect.{Aspect}
use Rattle.ada_tree.specs.declared.declarations.SubprogramSpecification.{SubprogramSpecification}
use Rattle.ada_tree.specs.declared.declarations.EntryDeclaration.{EntryDeclaration}
use Rattle.ada_tree.specs.declared.declarations.EntryHead.{EntryHead}
use Rattle.ada_tree.specs.declared.declarations.TaskDefinition.{TaskDefinition}
use Rattle.ada_tree.specs.declared.declarations.ProtectedOperation.{ProtectedOperation}
use Rattle.ada_tree.specs.declared.declarations.Declaration.TheVariants as declarations
use Rattle.ada_tree.specs.declared.declarations.TypeDefinition.TheVariants as definitions
use Rattle.ada_tree.specs.declared.declarations.ProtectedOperation.TheVariants as operations
use Rattle.ada_tree.specs.Written.{Lexeme}
use Rattle.ada_grammar.specs.Reading.{Parser, ◌>>=◌, ◌>>◌, pure, choose, sees_word, sees_delimiter, sees_identifier}
use Rattle.ada_grammar.specs.Reading.{the_word, the_delimiter, an_identifier, flag_of, end_name_of, opening_of}
use Rattle.ada_grammar.specs.Reading.{below, items_of, behind_delimiter_of, identifiers_of, name_of}
use Rattle.ada_grammar.specs.ReadingExpressions.{expression_of}
use Rattle.ada_grammar.specs.ReadingSimple.{bounds_of, subtype_indication_of, parameters_of}

-- ---- objects, types, exceptions (3.3.1, 3.2.1, 11.1)

-- [":=" expression]
unfoldable pub initial_of : ℕ → Parser (Option Expression)
initial_of left =
    choose (sees_delimiter (codes ":="))
    (do the_delimiter (codes ":="); value ← expression_of left; pure (Some value)) (pure None)

-- ["aliased"] ["constant"] subtype [":=" expression] ";", behind the names and the colon
unfoldable pub object_of : {Q : Type 0} → ℕ → OneOrMore Identifier → Parser (Declaration Q)
object_of left names = do
  aliased ← flag_of (codes "aliased")
  constant ← flag_of (codes "constant")
  subtype ← subtype_indication_of left
  initial ← initial_of left
  the_delimiter (codes ";")
  pure (declarations.Object (record {
    names = names;
    aliased = aliased;
    constant = constant;
    subtype = subtype;
    initial = initial;
  }))

unfoldable pub exception_of : {Q : Type 0} → OneOrMore Identifier → Parser (Declaration Q)
exception_of names = do
  the_word (codes "exception")
  the_delimiter (codes ";")
  pure (declarations.Exception names)

unfoldable pub named_declaration_of : {Q : Type 0} → ℕ → Parser (Declaration Q)
named_declaration_of left = do
  names ← identifiers_of
  the_delimiter (codes ":")
  choose (sees_word (codes "exception")) (exception_of names) (object_of left names)

-- NAME {"," NAME} ":" subtype [":=" expression] ";"
unfoldable pub component_of : ℕ → Parser Component
component_of left = do
  names ← identifiers_of
  the_delimiter (codes ":")
  subtype ← subtype_indication_of left
  initial ← initial_of left
  the_delimiter (codes ";")
  pure (record { names = names; subtype = subtype; initial = initial })

-- "(" NAME {"," NAME} ")"
unfoldable pub enumeration_of : ℕ → Parser TypeDefinition
enumeration_of left = do
  opening_of left
  literals ← identifiers_of
  the_delimiter (codes ")")
  pure (definitions.Enumeration literals)

-- "array" "(" expression ".." expression ")" "of" subtype
unfoldable pub array_of : ℕ → Parser TypeDefinition
array_of left = do
  the_word (codes "array")
  opening_of left
  bounds ← bounds_of (below left)
  the_delimiter (codes ")")
  the_word (codes "of")
  component ← subtype_indication_of left
  pure (definitions.Array bounds.0 bounds.1 component)

-- "null" "record" | "record" component {component} "end" "record"
unfoldable pub null_record_of : Parser (Option (OneOrMore Component))
null_record_of = do
  the_word (codes "null")
  the_word (codes "record")
  pure None

unfoldable pub components_record_of : ℕ → Parser (Option (OneOrMore Component))
components_record_of left = do
  the_word (codes "record")
  first ← component_of left
  others ← items_of sees_identifier (component_of left)
  the_word (codes "end")
  the_word (codes "record")
  pure (Some (record { first = first; others = others }))

unfoldable pub extension_of : ℕ → Parser (Option (OneOrMore Component))
extension_of left = choose (sees_word (codes "null")) null_record_of (components_record_of left)

-- "new" name "with" extension
unfoldable pub derived_of : ℕ → Parser TypeDefinition
derived_of left = do
  the_word (codes "new")
  parent ← name_of
  the_word (codes "with")
  components ← extension_of left
  pure (definitions.Derived parent components)

unfoldable pub definition_of : ℕ → Parser TypeDefinition
definition_of left =
    choose (sees_delimiter (codes "(")) (enumeration_of left)
    (choose (sees_word (codes "array")) (array_of left) (derived_of left))

-- "type" NAME "is" definition ";"
unfoldable pub type_of : {Q : Type 0} → ℕ → Parser (Declaration Q)
type_of left = do
  place ← the_word (codes "type")
  name ← an_identifier
  the_word (codes "is")
  definition ← definition_of left
  the_delimiter (codes ";")
  pure (declarations.Type (record { place = place; name = name; definition = definition }))

-- "subtype" NAME "is" subtype ";"
unfoldable pub subtype_of : {Q : Type 0} → ℕ → Parser (Declaration Q)
subtype_of left = do
  place ← the_word (codes "subtype")
  name ← an_identifier
  the_word (codes "is")
  subtype ← subtype_indication_of left
  the_delimiter (codes ";")
  pure (declarations.Subtype (record { place = place; name = name; subtype = subtype }))

-- "use" name ";"
unfoldable pub use_of : {Q : Type 0} → Parser (Declaration Q)
use_of = do
  place ← the_word (codes "use")
  name ← name_of
  the_delimiter (codes ";")
  pure (declarations.Use place name)

-- ---- specifications (6.1, 9.1, 9.4, 9.5.2, 13.1.1)

-- NAME ["=>" expression]
unfoldable pub aspect_value_of : ℕ → Parser (Option Expression)
aspect_value_of left =
    choose (sees_delimiter (codes "=>"))
    (do the_delimiter (codes "=>"); value ← expression_of left; pure (Some value)) (pure None)

unfoldable pub aspect_of : ℕ → Parser Aspect
aspect_of left = do
  name ← an_identifier
  value ← aspect_value_of left
  pure (record { name = name; value = value })

-- ["with" aspect {"," aspect}]
unfoldable pub given_aspects_of : ℕ → Parser (List Aspect)
given_aspects_of left = do
  the_word (codes "with")
  first ← aspect_of left
  others ← items_of (sees_delimiter (codes ",")) (behind_delimiter_of (codes ",") (aspect_of left))
  pure (first ∷ others)

unfoldable pub aspects_of : ℕ → Parser (List Aspect)
aspects_of left = choose (sees_word (codes "with")) (given_aspects_of left) (pure [])

-- ["overriding"]
unfoldable pub overriding_of : Parser (Option Place)
overriding_of =
    choose (sees_word (codes "overriding")) (the_word (codes "overriding") >>= λ place. pure (Some place)) (pure None)

-- "procedure" NAME [parameters] [aspects]
unfoldable pub procedure_of : ℕ → Option Place → Parser SubprogramSpecification
procedure_of left overriding = do
  place ← the_word (codes "procedure")
  name ← an_identifier
  parameters ← parameters_of left
  aspects ← aspects_of left
  pure (record {
    overriding = overriding;
    place = place;
    name = name;
    parameters = parameters;
    result = None;
    aspects = aspects;
  })

-- "function" NAME [parameters] "return" subtype [aspects]
unfoldable pub function_of : ℕ → Option Place → Parser SubprogramSpecification
function_of left overriding = do
  place ← the_word (codes "function")
  name ← an_identifier
  parameters ← parameters_of left
  the_word (codes "return")
  result ← subtype_indication_of left
  aspects ← aspects_of left
  pure (record {
    overriding = overriding;
    place = place;
    name = name;
    parameters = parameters;
    result = Some result;
    aspects = aspects;
  })

unfoldable pub specification_of : ℕ → Parser SubprogramSpecification
specification_of left = do
  overriding ← overriding_of
  choose (sees_word (codes "function")) (function_of left overriding) (procedure_of left overriding)

abbrev pub begins_specification : List Lexeme → Bool
begins_specification ls = sees_word (codes "overriding") ls
    || (sees_word (codes "procedure") ls || sees_word (codes "function") ls)

-- "entry" NAME [parameters] ";"
unfoldable pub entry_of : ℕ → Parser EntryDeclaration
entry_of left = do
  place ← the_word (codes "entry")
  name ← an_identifier
  parameters ← parameters_of left
  the_delimiter (codes ";")
  pure (record { place = place; name = name; parameters = parameters })

-- ["is" {entry} "end" [NAME]]
unfoldable pub task_definition_of : ℕ → List ℕ → Parser (Option TaskDefinition)
task_definition_of left name =
    choose (sees_word (codes "is"))
    (do the_word (codes "is"); entries ← items_of (sees_word (codes "entry")) (entry_of left); the_word (codes "end"); named ← end_name_of name; pure (Some (record { entries = entries; named_at_end = named })))
    (pure None)

-- ["type"] NAME [aspects] [definition] ";", behind "task"
unfoldable pub task_of : {Q : Type 0} → ℕ → Place → Parser (Declaration Q)
task_of left place = do
  is_type ← flag_of (codes "type")
  name ← an_identifier
  aspects ← aspects_of left
  definition ← task_definition_of left name.text
  the_delimiter (codes ";")
  pure (declarations.Task (record {
    place = place;
    is_type = is_type;
    name = name;
    aspects = aspects;
    definition = definition;
  }))

unfoldable pub specified_operation_of : ℕ → Parser ProtectedOperation
specified_operation_of left = do
  specification ← specification_of left
  the_delimiter (codes ";")
  pure (operations.Subprogram specification)

unfoldable pub operation_of : ℕ → Parser ProtectedOperation
operation_of left =
    choose (sees_word (codes "entry")) (entry_of left
    >>= λ entry. pure (operations.Entry entry)) (specified_operation_of left)

abbrev pub begins_operation : List Lexeme → Bool
begins_operation ls = sees_word (codes "entry") ls || begins_specification ls

-- ["private" {component}]
unfoldable pub private_of : ℕ → Parser (Option (List Component))
private_of left =
    choose (sees_word (codes "private")) (do the_word (codes "private"); components ← items_of sees_identifier (component_of left); pure (Some components)) (pure None)

-- ["type"] NAME [aspects] "is" {operation} ["private" {component}] "end" [NAME] ";", behind "protected"
unfoldable pub protected_of : {Q : Type 0} → ℕ → Place → Parser (Declaration Q)
protected_of left place = do
  is_type ← flag_of (codes "type")
  name ← an_identifier
  aspects ← aspects_of left
  the_word (codes "is")
  named_operations ← items_of begins_operation (operation_of left)
  components ← private_of left
  the_word (codes "end")
  named ← end_name_of name.text
  the_delimiter (codes ";")
  pure (declarations.Protected (record {
    place = place;
    is_type = is_type;
    name = name;
    aspects = aspects;
    operations = named_operations;
    components = components;
    named_at_end = named;
  }))

-- "entry" NAME [parameters] "when" expression
unfoldable pub entry_head_of : ℕ → Parser EntryHead
entry_head_of left = do
  place ← the_word (codes "entry")
  name ← an_identifier
  parameters ← parameters_of left
  the_word (codes "when")
  barrier ← expression_of left
  pure (record { place = place; name = name; parameters = parameters; barrier = barrier })
