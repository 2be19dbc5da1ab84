-- The names in declarations and bodies (clauses 3, 6, 9, 11), in the order of the text.
use Rattle.std.specs.Prelude.{Bool, true, false, List, ◌∷◌, ◌++◌, is_some}
use Rattle.std.specs.List.{flat_map}
use Rattle.ada_tree.specs.declared.names.Identifier.{Identifier}
use Rattle.ada_tree.specs.declared.declarations.Declaration.{Declaration}
use Rattle.ada_tree.specs.declared.declarations.Declaration.TheVariants as declaration
use Rattle.ada_tree.specs.declared.declarations.Body.{Body}
use Rattle.ada_tree.specs.declared.declarations.ObjectDeclaration.{ObjectDeclaration}
use Rattle.ada_tree.specs.declared.declarations.Component.{Component}
use Rattle.ada_tree.specs.declared.declarations.TypeDeclaration.{TypeDeclaration}
use Rattle.ada_tree.specs.declared.declarations.TypeDefinition.{TypeDefinition}
use Rattle.ada_tree.specs.declared.declarations.TypeDefinition.TheVariants as definition
use Rattle.ada_tree.specs.declared.declarations.SubtypeDeclaration.{SubtypeDeclaration}
use Rattle.ada_tree.specs.declared.declarations.Aspect.{Aspect}
use Rattle.ada_tree.specs.declared.declarations.SubprogramSpecification.{SubprogramSpecification}
use Rattle.ada_tree.specs.declared.declarations.EntryDeclaration.{EntryDeclaration}
use Rattle.ada_tree.specs.declared.declarations.EntryHead.{EntryHead}
use Rattle.ada_tree.specs.declared.declarations.TaskDeclaration.{TaskDeclaration}
use Rattle.ada_tree.specs.declared.declarations.TaskDefinition.{TaskDefinition}
use Rattle.ada_tree.specs.declared.declarations.ProtectedDeclaration.{ProtectedDeclaration}
use Rattle.ada_tree.specs.declared.declarations.ProtectedOperation.{ProtectedOperation}
use Rattle.ada_tree.specs.declared.declarations.ProtectedOperation.TheVariants as operation
use Rattle.ada_tree.specs.declared.declarations.ProtectedBody.{ProtectedBody}
use Rattle.ada_tree.specs.declared.declarations.OperationBody.{OperationBody}
use Rattle.ada_tree.specs.declared.declarations.OperationBody.TheVariants as body_of
use Rattle.ada_regions.specs.Occurrences.{Occurrences, SequenceNames, an_object, a_component, an_enumeration}
use Rattle.ada_regions.specs.Occurrences.{a_literal, an_array, a_derived_type, a_subtype, an_exception, a_subprogram}
use Rattle.ada_regions.specs.Occurrences.{an_entry, a_task, a_protected, a_profile, subprogram_body, a_unit, task_body}
use Rattle.ada_regions.specs.Occurrences.{protected_body, entry_body, a_record, private_from_here, hides, heads}
use Rattle.ada_regions.specs.Occurrences.{declares, completes, is_called, mentions, mentions_entry, use_package}
use Rattle.ada_regions.specs.Occurrences.{in_all, if_there, one, within_region, hides_all, declares_all, in_body}
use Rattle.ada_regions.specs.NamesInExpressions.{names_in_expression}
use Rattle.ada_regions.specs.NamesInStatements.{names_in_indication, names_in_parameters}

-- ---- objects and types (3.3.1, 3.2.1): a name is hidden from its own declaration until that ends

abbrev pub names_in_object : ObjectDeclaration → Occurrences
names_in_object o =
    hides_all o.names ++ (names_in_indication o.subtype
    ++ (if_there names_in_expression o.initial ++ declares_all (an_object o) o.names))

abbrev pub names_in_component : Component → Occurrences
names_in_component c =
    hides_all c.names ++ (names_in_indication c.subtype
    ++ (if_there names_in_expression c.initial ++ declares_all (a_component c) c.names))

abbrev pub names_in_definition : Identifier → TypeDefinition → Occurrences
names_in_definition name (definition.Enumeration literals) =
    declares name (an_enumeration literals) ∷ declares_all a_literal literals
names_in_definition name (definition.Array low high component) =
    hides name ∷ (names_in_expression low ++ (names_in_expression high
    ++ (names_in_indication component ++ one (declares name (an_array low high component)))))
names_in_definition name (definition.Derived parent components) =
    hides name ∷ mentions parent ∷ declares name (a_derived_type parent)
    ∷ within_region (a_record name) (if_there (in_all names_in_component) components)

abbrev pub names_in_type : TypeDeclaration → Occurrences
names_in_type t = names_in_definition t.name t.definition

abbrev pub names_in_subtype : SubtypeDeclaration → Occurrences
names_in_subtype s = hides s.name ∷ (names_in_indication s.subtype ++ one (declares s.name (a_subtype s.subtype)))

-- ---- specifications (6.1, 9.5.2, 13.1.1): the name of an aspect is none of its own

abbrev pub names_in_aspect : Aspect → Occurrences
names_in_aspect a = if_there names_in_expression a.value

abbrev pub names_in_aspects : List Aspect → Occurrences
names_in_aspects aspects = flat_map names_in_aspect aspects

-- a profile: its parameters are visible in what follows them
abbrev pub names_in_profile : Bool → SubprogramSpecification → Occurrences
names_in_profile with_cells s =
    names_in_parameters with_cells s.parameters ++ (if_there names_in_indication s.result ++ names_in_aspects s.aspects)

abbrev pub names_in_specification : SubprogramSpecification → Occurrences
names_in_specification s = hides s.name ∷ (within_region a_profile (names_in_profile false s)
    ++ one (declares s.name (a_subprogram s)))

abbrev pub names_in_entry : EntryDeclaration → Occurrences
names_in_entry e =
    hides e.name ∷ (within_region a_profile (names_in_parameters false e.parameters)
    ++ one (declares e.name (an_entry e.parameters)))

-- ---- task and protected declarations (9.1, 9.4)

abbrev pub names_in_task_definition : TaskDefinition → Occurrences
names_in_task_definition d = flat_map names_in_entry d.entries

abbrev pub names_in_task : TaskDeclaration → Occurrences
names_in_task t =
    hides t.name ∷ (names_in_aspects t.aspects
    ++ (declares t.name (a_task t.is_type t.aspects)
    ∷ within_region (a_unit t.name) (if_there names_in_task_definition t.definition)))

abbrev pub names_in_operation : ProtectedOperation → Occurrences
names_in_operation (operation.Subprogram specification) = names_in_specification specification
names_in_operation (operation.Entry entry) = names_in_entry entry

abbrev pub names_in_private : List Component → Occurrences
names_in_private components = private_from_here ∷ flat_map names_in_component components

abbrev pub names_in_protected : ProtectedDeclaration → Occurrences
names_in_protected p =
    hides p.name ∷ (names_in_aspects p.aspects
    ++ (declares p.name (a_protected p.is_type p.aspects)
    ∷ within_region (a_unit p.name) (flat_map names_in_operation p.operations
    ++ if_there names_in_private p.components)))

-- ---- bodies, given the names in the sequences in them

module _ {Q : Type 0} (sequence : Q → SequenceNames) where
  abbrev pub names_in_body : Body Q → Occurrences
  names_in_body b = in_body (sequence b.sequence)

  abbrev pub names_in_subprogram_body : SubprogramSpecification → Body Q → Occurrences
  names_in_subprogram_body s body =
      heads s.name ∷ within_region (subprogram_body s.place (is_some s.result)) (names_in_profile true s
      ++ (completes s.name s ∷ names_in_body body))

  abbrev pub names_in_entry_body : EntryHead → Body Q → Occurrences
  names_in_entry_body h body =
      mentions_entry h.name
      ∷ within_region (entry_body h.name h.place h.barrier) (names_in_parameters true h.parameters
      ++ (names_in_expression h.barrier ++ (is_called h.name ∷ names_in_body body)))

  abbrev pub names_in_operation_body : OperationBody Q → Occurrences
  names_in_operation_body (body_of.Subprogram specification body) = names_in_subprogram_body specification body
  names_in_operation_body (body_of.Entry head body) = names_in_entry_body head body

  abbrev pub names_in_protected_body : ProtectedBody Q → Occurrences
  names_in_protected_body p = within_region (protected_body p.name) (flat_map names_in_operation_body p.operations)

  abbrev pub names_in_declaration : Declaration Q → Occurrences
  names_in_declaration (declaration.Object o) = names_in_object o
  names_in_declaration (declaration.Type t) = names_in_type t
  names_in_declaration (declaration.Subtype s) = names_in_subtype s
  names_in_declaration (declaration.Exception names) = declares_all an_exception names
  names_in_declaration (declaration.Subprogram s) = names_in_specification s
  names_in_declaration (declaration.SubprogramBody s body) = names_in_subprogram_body s body
  names_in_declaration (declaration.Task t) = names_in_task t
  names_in_declaration (declaration.TaskBody place name body) =
      within_region (task_body name place) (names_in_body body)
  names_in_declaration (declaration.Protected p) = names_in_protected p
  names_in_declaration (declaration.ProtectedBody p) = names_in_protected_body p
  names_in_declaration (declaration.Use place name) = one (use_package name)
