-- How declarations are spelt (clauses 3, 6, 9, 11, 13), given how the sequences in them are.
use Rattle.std.specs.Prelude.{ℕ, Bool, List, [], ◌∷◌, ◌++◌, Option, Some, None, codes, flat_map}
use Rattle.ann_base.specs.declared.places.Place.{Place}
use Rattle.ada_tree.specs.declared.names.Identifier.{Identifier}
use Rattle.ada_tree.specs.declared.names.OneOrMore.{OneOrMore}
use Rattle.ada_tree.specs.declared.expressions.Expression.{Expression}
use Rattle.ada_tree.specs.declared.statements.SequenceRole.{SequenceRole}
use Rattle.ada_tree.specs.declared.statements.SequenceRole.TheVariants as role
use Rattle.ada_tree.specs.declared.declarations.Declaration.{Declaration}
use Rattle.ada_tree.specs.declared.declarations.Body.{Body}
use Rattle.ada_tree.specs.declared.declarations.SubtypeIndication.{SubtypeIndication}
use Rattle.ada_tree.specs.declared.declarations.ObjectDeclaration.{ObjectDeclaration}
use Rattle.ada_tree.specs.declared.declarations.Component.{Component}
use Rattle.ada_tree.specs.declared.declarations.TypeDeclaration.{TypeDeclaration}
use Rattle.ada_tree.specs.declared.declarations.TypeDefinition.{TypeDefinition}
use Rattle.ada_tree.specs.declared.declarations.SubtypeDeclaration.{SubtypeDeclaration}
use Rattle.ada_tree.specs.declared.declarations.Aspect.{Aspect}
use Rattle.ada_tree.specs.declared.declarations.SubprogramSpecification.{SubprogramSpecification}
use Rattle.ada_tree.specs.declared.declarations.EntryDeclaration.{EntryDeclaration}
use Rattle.ada_tree.specs.declared.declarations.EntryHead.{EntryHead}
use Rattle.ada_tree.specs.declared.declarations.TaskDeclaration.{TaskDeclaration}
use Rattle.ada_tree.specs.declared.declarations.TaskDefinition.{TaskDefinition}
use Rattle.ada_tree.specs.declared.declarations.ProtectedDeclaration.{ProtectedDeclaration}
use Rattle.ada_tree.specs.declared.declarations.ProtectedOperation.{ProtectedOperation}
use Rattle.ada_tree.specs.declared.declarations.ProtectedBody.{ProtectedBody}
use Rattle.ada_tree.specs.declared.declarations.OperationBody.{OperationBody}
use Rattle.ada_tree.specs.declared.declarations.Declaration.TheVariants as declaration
use Rattle.ada_tree.specs.declared.declarations.TypeDefinition.TheVariants as definition
use Rattle.ada_tree.specs.declared.declarations.ProtectedOperation.TheVariants as operation
use Rattle.ada_tree.specs.declared.declarations.OperationBody.TheVariants as body_of
use Rattle.ada_tree.specs.Written.{Written, word, word_at, delimiter, identifier_written, all_written, optional}
use Rattle.ada_tree.specs.Written.{flag, enclosed, name_written, identifiers_written, end_name_written}
use Rattle.ada_tree.specs.SpellingExpressions.{expression_written}
use Rattle.ada_tree.specs.SpellingStatements.{semicolon, indication_written, parameters_written}

-- ---- objects, types, exceptions (3.3.1, 3.2.1, 11.1)

-- [":=" expression]
abbrev pub becomes_written : Expression → List Written
becomes_written value = delimiter (codes ":=") ∷ expression_written value

-- NAME {"," NAME} ":" ["aliased"] ["constant"] subtype [":=" expression] ";"
abbrev pub object_written : ObjectDeclaration → List Written
object_written o =
    identifiers_written o.names ++ delimiter (codes ":")
    ∷ (flag o.aliased (word (codes "aliased") ∷ []) ++ (flag o.constant (word (codes "constant") ∷ [])
    ++ (indication_written o.subtype ++ (optional becomes_written o.initial ++ semicolon))))

-- NAME {"," NAME} ":" subtype [":=" expression] ";"
abbrev pub component_written : Component → List Written
component_written c = identifiers_written c.names ++ delimiter (codes ":")
    ∷ (indication_written c.subtype ++ (optional becomes_written c.initial ++ semicolon))

-- "null" "record" | "record" component {component} "end" "record"
abbrev pub extension_written : Option (OneOrMore Component) → List Written
extension_written None = word (codes "null") ∷ word (codes "record") ∷ []
extension_written (Some components) = word (codes "record")
    ∷ (all_written component_written components ++ word (codes "end") ∷ word (codes "record") ∷ [])

abbrev pub definition_written : TypeDefinition → List Written
definition_written (definition.Enumeration literals) = delimiter (codes "(")
    ∷ (identifiers_written literals ++ delimiter (codes ")") ∷ [])
definition_written (definition.Array low high component) =
    word (codes "array") ∷ delimiter (codes "(")
    ∷ (expression_written low ++ delimiter (codes "..")
    ∷ (expression_written high ++ delimiter (codes ")") ∷ word (codes "of") ∷ indication_written component))
definition_written (definition.Derived parent components) = word (codes "new")
    ∷ (name_written parent ++ word (codes "with") ∷ extension_written components)

-- "type" NAME "is" definition ";"
abbrev pub type_written : TypeDeclaration → List Written
type_written t = word_at t.place (codes "type") ∷ identifier_written t.name ∷ word (codes "is")
    ∷ (definition_written t.definition ++ semicolon)

-- "subtype" NAME "is" subtype ";"
abbrev pub subtype_written : SubtypeDeclaration → List Written
subtype_written s = word_at s.place (codes "subtype") ∷ identifier_written s.name ∷ word (codes "is")
    ∷ (indication_written s.subtype ++ semicolon)

-- ---- specifications (6.1, 9.1, 9.4, 9.5.2, 13.1.1)

abbrev pub aspect_value_written : Expression → List Written
aspect_value_written value = delimiter (codes "=>") ∷ expression_written value

-- NAME ["=>" expression]
abbrev pub aspect_written : Aspect → List Written
aspect_written a = identifier_written a.name ∷ optional aspect_value_written a.value

-- ["with" aspect {"," aspect}]
abbrev pub aspects_written : List Aspect → List Written
aspects_written = enclosed (word (codes "with")) (delimiter (codes ",")) [] aspect_written

abbrev pub overriding_written : Place → List Written
overriding_written place = word_at place (codes "overriding") ∷ []

-- a function has a result, and a procedure has none
abbrev pub subprogram_word : Option SubtypeIndication → List ℕ
subprogram_word None = codes "procedure"
subprogram_word (Some result) = codes "function"

abbrev pub result_written : SubtypeIndication → List Written
result_written result = word (codes "return") ∷ indication_written result

-- ["overriding"] ("procedure" | "function") NAME [parameters] ["return" subtype] [aspects]
abbrev pub specification_written : SubprogramSpecification → List Written
specification_written s =
    optional overriding_written s.overriding ++ word_at s.place (subprogram_word s.result)
    ∷ identifier_written s.name ∷ (parameters_written s.parameters
    ++ (optional result_written s.result ++ aspects_written s.aspects))

-- "entry" NAME [parameters] ";"
abbrev pub entry_written : EntryDeclaration → List Written
entry_written e = word_at e.place (codes "entry") ∷ identifier_written e.name
    ∷ (parameters_written e.parameters ++ semicolon)

-- "is" {entry} "end" [NAME]
abbrev pub task_definition_written : Identifier → TaskDefinition → List Written
task_definition_written name d = word (codes "is")
    ∷ (flat_map entry_written d.entries ++ word (codes "end") ∷ end_name_written d.named_at_end name)

abbrev pub type_flag : Bool → List Written
type_flag is_type = flag is_type (word (codes "type") ∷ [])

-- "task" ["type"] NAME [aspects] ["is" {entry} "end" [NAME]] ";"
abbrev pub task_written : TaskDeclaration → List Written
task_written t =
    word_at t.place (codes "task") ∷ (type_flag t.is_type ++ identifier_written t.name
    ∷ (aspects_written t.aspects ++ (optional (task_definition_written t.name) t.definition ++ semicolon)))

abbrev pub operation_written : ProtectedOperation → List Written
operation_written (operation.Subprogram specification) = specification_written specification ++ semicolon
operation_written (operation.Entry entry) = entry_written entry

abbrev pub private_written : List Component → List Written
private_written components = word (codes "private") ∷ flat_map component_written components

-- "protected" ["type"] NAME [aspects] "is" {operation} ["private" {component}] "end" [NAME] ";"
abbrev pub protected_written : ProtectedDeclaration → List Written
protected_written p =
    word_at p.place (codes "protected") ∷ (type_flag p.is_type ++ identifier_written p.name
    ∷ (aspects_written p.aspects ++ word (codes "is") ∷ (flat_map operation_written p.operations
    ++ (optional private_written p.components ++ word (codes "end")
    ∷ (end_name_written p.named_at_end p.name ++ semicolon)))))

-- "entry" NAME [parameters] "when" expression
abbrev pub entry_head_written : EntryHead → List Written
entry_head_written h =
    word_at h.place (codes "entry") ∷ identifier_written h.name
    ∷ (parameters_written h.parameters ++ word (codes "when") ∷ expression_written h.barrier)

-- ---- bodies (3.11.1, 6.3, 9.1, 9.4, 9.5.2)

module _ {Q : Type 0} (sequence : Q → SequenceRole → List Written) where
  -- "is" body "end" [NAME] ";"
  abbrev pub body_written : Identifier → Body Q → List Written
  body_written name b = word (codes "is")
      ∷ (sequence b.sequence role.Body ++ word (codes "end") ∷ (end_name_written b.named_at_end name ++ semicolon))

  abbrev pub operation_body_written : OperationBody Q → List Written
  operation_body_written (body_of.Subprogram specification body) = specification_written specification
      ++ body_written specification.name body
  operation_body_written (body_of.Entry head body) = entry_head_written head ++ body_written head.name body

  -- "protected" "body" NAME "is" {operation body} "end" [NAME] ";"
  abbrev pub protected_body_written : ProtectedBody Q → List Written
  protected_body_written p =
      word_at p.place (codes "protected") ∷ word (codes "body") ∷ identifier_written p.name ∷ word (codes "is")
      ∷ (flat_map operation_body_written p.operations
      ++ word (codes "end") ∷ (end_name_written p.named_at_end p.name ++ semicolon))

  -- all declarations (3.1)
  abbrev pub declaration_written : Declaration Q → List Written
  declaration_written (declaration.Object o) = object_written o
  declaration_written (declaration.Type t) = type_written t
  declaration_written (declaration.Subtype s) = subtype_written s
  declaration_written (declaration.Exception names) = identifiers_written names ++ delimiter (codes ":")
      ∷ word (codes "exception") ∷ semicolon
  declaration_written (declaration.Subprogram specification) = specification_written specification ++ semicolon
  declaration_written (declaration.SubprogramBody specification body) = specification_written specification
      ++ body_written specification.name body
  declaration_written (declaration.Task t) = task_written t
  declaration_written (declaration.TaskBody place name body) = word_at place (codes "task") ∷ word (codes "body")
      ∷ identifier_written name ∷ body_written name body
  declaration_written (declaration.Protected p) = protected_written p
  declaration_written (declaration.ProtectedBody p) = protected_body_written p
  declaration_written (declaration.Use place name) = word_at place (codes "use") ∷ (name_written name ++ semicolon)
