-- Which declarations keep precedence and nest within the levels that are left, given which sequences in them do.
use Rattle.std.specs.Prelude.{ℕ, Bool, true, ◌&&◌, List}
use Rattle.std.specs.List.{list_all}
use Rattle.ada_tree.specs.declared.expressions.Expression.{Expression}
use Rattle.ada_tree.specs.declared.names.OneOrMore.{OneOrMore}
use Rattle.ada_tree.specs.declared.statements.SequenceRole.{SequenceRole}
use Rattle.ada_tree.specs.declared.statements.SequenceRole.TheVariants as role
use Rattle.ada_tree.specs.declared.declarations.Declaration.{Declaration}
use Rattle.ada_tree.specs.declared.declarations.Body.{Body}
use Rattle.ada_tree.specs.declared.declarations.ObjectDeclaration.{ObjectDeclaration}
use Rattle.ada_tree.specs.declared.declarations.Component.{Component}
use Rattle.ada_tree.specs.declared.declarations.TypeDefinition.{TypeDefinition}
use Rattle.ada_tree.specs.declared.declarations.Aspect.{Aspect}
use Rattle.ada_tree.specs.declared.declarations.SubprogramSpecification.{SubprogramSpecification}
use Rattle.ada_tree.specs.declared.declarations.EntryDeclaration.{EntryDeclaration}
use Rattle.ada_tree.specs.declared.declarations.EntryHead.{EntryHead}
use Rattle.ada_tree.specs.declared.declarations.TaskDeclaration.{TaskDeclaration}
use Rattle.ada_tree.specs.declared.declarations.TaskDefinition.{TaskDefinition}
use Rattle.ada_tree.specs.declared.declarations.ProtectedDeclaration.{ProtectedDeclaration}
use Rattle.ada_tree.specs.declared.declarations.ProtectedOperation.{ProtectedOperation}
use Rattle.ada_tree.specs.declared.declarations.ProtectedBody.{ProtectedBody}
use Rattle.ada_tree.specs.declared.declarations.OperationBody.{OperationBody}
use Rattle.ada_tree.specs.declared.declarations.Declaration.TheVariants as declaration
use Rattle.ada_tree.specs.declared.declarations.TypeDefinition.TheVariants as definition
use Rattle.ada_tree.specs.declared.declarations.ProtectedOperation.TheVariants as operation
use Rattle.ada_tree.specs.declared.declarations.OperationBody.TheVariants as body_of
use Rattle.ada_tree.specs.ShapeExpressions.{within, all_fit, optional_fits}
use Rattle.ada_tree.specs.ShapeStatements.{value_fits, nothing_in_it, indication_fits, parameters_fit}

-- ---- objects, types

abbrev pub object_fits : ℕ → ObjectDeclaration → Bool
object_fits left o = indication_fits left o.subtype && optional_fits (value_fits left) o.initial

abbrev pub component_fits : ℕ → Component → Bool
component_fits left c = indication_fits left c.subtype && optional_fits (value_fits left) c.initial

abbrev pub components_fit : ℕ → OneOrMore Component → Bool
components_fit left components = all_fit (component_fits left) components

abbrev pub bounds_fit : Expression → Expression → ℕ → Bool
bounds_fit low high left = value_fits left low && value_fits left high

-- literals and bounds stand in brackets
abbrev pub definition_fits : ℕ → TypeDefinition → Bool
definition_fits left (definition.Enumeration literals) = within left nothing_in_it
definition_fits left (definition.Array low high component) = within left (bounds_fit low high)
    && indication_fits left component
definition_fits left (definition.Derived parent components) = optional_fits (components_fit left) components

-- ---- specifications

abbrev pub aspect_fits : ℕ → Aspect → Bool
aspect_fits left a = optional_fits (value_fits left) a.value

abbrev pub aspects_fit : ℕ → List Aspect → Bool
aspects_fit left aspects = list_all (aspect_fits left) aspects

abbrev pub specification_fits : ℕ → SubprogramSpecification → Bool
specification_fits left s = parameters_fit left s.parameters
    && (optional_fits (indication_fits left) s.result && aspects_fit left s.aspects)

abbrev pub entry_fits : ℕ → EntryDeclaration → Bool
entry_fits left e = parameters_fit left e.parameters

abbrev pub task_definition_fits : ℕ → TaskDefinition → Bool
task_definition_fits left d = list_all (entry_fits left) d.entries

abbrev pub task_fits : ℕ → TaskDeclaration → Bool
task_fits left t = aspects_fit left t.aspects && optional_fits (task_definition_fits left) t.definition

abbrev pub operation_fits : ℕ → ProtectedOperation → Bool
operation_fits left (operation.Subprogram specification) = specification_fits left specification
operation_fits left (operation.Entry entry) = entry_fits left entry

abbrev pub private_fits : ℕ → List Component → Bool
private_fits left components = list_all (component_fits left) components

abbrev pub protected_fits : ℕ → ProtectedDeclaration → Bool
protected_fits left p = aspects_fit left p.aspects
    && (list_all (operation_fits left) p.operations && optional_fits (private_fits left) p.components)

abbrev pub entry_head_fits : ℕ → EntryHead → Bool
entry_head_fits left h = parameters_fit left h.parameters && value_fits left h.barrier

-- ---- bodies: a level from `is` on

module _ {Q : Type 0} (sequence : Q → SequenceRole → ℕ → Bool) where
  abbrev pub body_fits : ℕ → Body Q → Bool
  body_fits left b = within left (sequence b.sequence role.Body)

  abbrev pub operation_body_fits : ℕ → OperationBody Q → Bool
  operation_body_fits left (body_of.Subprogram specification body) = specification_fits left specification
      && body_fits left body
  operation_body_fits left (body_of.Entry head body) = entry_head_fits left head && body_fits left body

  abbrev pub operations_fit : List (OperationBody Q) → ℕ → Bool
  operations_fit operations left = list_all (operation_body_fits left) operations

  abbrev pub protected_body_fits : ℕ → ProtectedBody Q → Bool
  protected_body_fits left p = within left (operations_fit p.operations)

  abbrev pub declaration_fits : ℕ → Declaration Q → Bool
  declaration_fits left (declaration.Object o) = object_fits left o
  declaration_fits left (declaration.Type t) = definition_fits left t.definition
  declaration_fits left (declaration.Subtype s) = indication_fits left s.subtype
  declaration_fits left (declaration.Exception names) = true
  declaration_fits left (declaration.Subprogram specification) = specification_fits left specification
  declaration_fits left (declaration.SubprogramBody specification body) = specification_fits left specification
      && body_fits left body
  declaration_fits left (declaration.Task t) = task_fits left t
  declaration_fits left (declaration.TaskBody place name body) = body_fits left body
  declaration_fits left (declaration.Protected p) = protected_fits left p
  declaration_fits left (declaration.ProtectedBody p) = protected_body_fits left p
  declaration_fits left (declaration.Use place name) = true
