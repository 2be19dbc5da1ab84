-- What is found in declarations and bodies (clauses 3, 6, 7, 9, 11).
use Rattle.ada_image.specs.UnitsOfImage.{entries_of, has_one_of_type}
use Rattle.ada_legality.specs.Aspects.{aspects_found, is_other_ceiling, place_of_priority, stated_value}
use Rattle.ada_legality.specs.Attributes.{is_library_entity, is_own_entry, kind_of_identifier}
use Rattle.ada_legality.specs.CallStatements.{all_found, beyond, bounds_judged, found_if, indication_found}
use Rattle.ada_legality.specs.CallStatements.{parameters_found, type_of_mark, value_alone_found, value_found}
use Rattle.ada_legality.specs.Findings.{Found, broken_if, broken_unless}
use Rattle.ada_legality.specs.Places.{place_of, place_of_specification}
use Rattle.ada_legality.specs.Profiles.{body_noted, body_profile_judged, declaration_noted, entry_body_profile_judged}
use Rattle.ada_legality.specs.ReadExpressions.{read_expression, unless_denoted}
use Rattle.ada_legality.specs.Reading.{expected}
use Rattle.ada_legality.specs.SimpleStatements.{beyond_restriction, cells_noted, with_around}
use Rattle.ada_legality.specs.Statements.{handled_judged, handler_found, statement_found}
use Rattle.ada_legality.specs.Types.{has_no_values, is_event_timer_or_budget, is_root_controlled}
use Rattle.ada_legality.specs.Types.{is_scalar, is_task_id, is_timer, type_of_bounds}
use Rattle.ada_legality.specs.Values.{entity_of_name, formals_of_subprogram, is_library_object}
use Rattle.ada_legality.specs.Words.{static_number}
use Rattle.ada_legality.specs.declared.limits.TheConstants.{MOST_COMPONENTS, MOST_ENTRIES}
use Rattle.ada_legality.specs.declared.findings.BodyKind.{BodyKind}
use Rattle.ada_legality.specs.declared.findings.Finding.{Finding}
use Rattle.ada_legality.specs.declared.parts.AspectOwner.{AspectOwner}
use Rattle.ada_legality.specs.declared.parts.AspectPart.{AspectPart}
use Rattle.ada_legality.specs.declared.parts.IndicationUse.{IndicationUse}
use Rattle.ada_legality.specs.declared.reading.Read.{Read}
use Rattle.ada_legality.specs.declared.reading.Shape.{Shape}
use Rattle.ada_legality.specs.declared.standing.InForce.{InForce}
use Rattle.ada_legality.specs.declared.standing.Known.{Known}
use Rattle.ada_legality.specs.declared.standing.SubprogramAround.{SubprogramAround}
use Rattle.ada_legality.specs.declared.standing.UnitAround.{UnitAround}
use Rattle.ada_regions.specs.Completions.{is_specified, is_unit}
use Rattle.ada_regions.specs.Names.{denoted_by, entity_at, entity_denoted}
use Rattle.ada_regions.specs.Subtypes.{mark_denoted}
use Rattle.ada_regions.specs.Words.{all_of, and_then, same_place}
use Rattle.ann_base.specs.Lists.{is_empty}
use Rattle.ada_regions.specs.declared.entities.EntityKind.{EntityKind}
use Rattle.ada_regions.specs.declared.entities.UnitKind.{UnitKind}
use Rattle.ada_regions.specs.declared.table.Names.{Names}
use Rattle.ada_regions.specs.declared.table.NumberedControlled.{NumberedControlled}
use Rattle.ada_regions.specs.declared.table.NumberedSubprogram.{NumberedSubprogram}
use Rattle.ada_regions.specs.declared.types.AdaType.{AdaType}
use Rattle.ada_regions.specs.declared.types.Formal.{Formal}
use Rattle.ada_regions.specs.TypeKinds.{is_task_type, is_controlled_type}
use Rattle.ada_regions.specs.Declaring.{type_of_kind}
use Rattle.ada_regions.specs.Regions.{is_used_package}
use Rattle.ada_tree.specs.declared.declarations.Body.{Body}
use Rattle.ada_tree.specs.declared.declarations.Component.{Component}
use Rattle.ada_tree.specs.declared.declarations.Constraint.{Constraint as Indicated}
use Rattle.ada_tree.specs.declared.declarations.Declaration.{Declaration}
use Rattle.ada_tree.specs.declared.declarations.EntryDeclaration.{EntryDeclaration}
use Rattle.ada_tree.specs.declared.declarations.EntryHead.{EntryHead}
use Rattle.ada_tree.specs.declared.declarations.ObjectDeclaration.{ObjectDeclaration}
use Rattle.ada_tree.specs.declared.declarations.OperationBody.{OperationBody}
use Rattle.ada_tree.specs.declared.declarations.Parameter.{Parameter}
use Rattle.ada_tree.specs.declared.declarations.ProtectedBody.{ProtectedBody}
use Rattle.ada_tree.specs.declared.declarations.ProtectedDeclaration.{ProtectedDeclaration}
use Rattle.ada_tree.specs.declared.declarations.ProtectedOperation.{ProtectedOperation}
use Rattle.ada_tree.specs.declared.declarations.SubprogramSpecification.{SubprogramSpecification}
use Rattle.ada_tree.specs.declared.declarations.SubtypeIndication.{SubtypeIndication}
use Rattle.ada_tree.specs.declared.declarations.TaskDeclaration.{TaskDeclaration}
use Rattle.ada_tree.specs.declared.declarations.TaskDefinition.{TaskDefinition}
use Rattle.ada_tree.specs.declared.declarations.TypeDefinition.{TypeDefinition}
use Rattle.ada_tree.specs.declared.expressions.Expression.{Expression}
use Rattle.ada_tree.specs.declared.names.Identifier.{Identifier}
use Rattle.ada_tree.specs.declared.names.Name.{Name}
use Rattle.ada_tree.specs.declared.names.OneOrMore.{OneOrMore}
use Rattle.ada_tree.specs.declared.statements.Handler.{Handler}
use Rattle.ada_tree.specs.declared.statements.Sequence.{Sequence}
use Rattle.ada_tree.specs.declared.statements.Sequence.TheFolds.{fold-Sequence}
use Rattle.ada_tree.specs.declared.statements.Sequence.TheOpen.{Sequence-F}
use Rattle.ada_tree.specs.declared.statements.SequenceParts.{SequenceParts}
use Rattle.ann_base.specs.declared.places.Place.{Place}
use Rattle.std.specs.List.{flat_map, list_any}
use Rattle.std.specs.Prelude.{Bool, List, None, Option, Some, [], codes, cond, eqb, false}
use Rattle.std.specs.Prelude.{int_le, is_none, is_some, map, not, option_map, pos, slice_get}
use Rattle.std.specs.Prelude.{suc, true, unwrap_or, ℕ, ℤ, ◌&&◌, ◌++◌, ◌-ℤ◌, ◌||◌, ◌∷◌}
use Rattle.std.specs.Str.{bytes_eq}
use Rattle.ada_legality.specs.declared.standing.Around.TheVariants as around
use Rattle.ada_legality.specs.declared.reading.Asked.TheVariants as asking
use Rattle.ada_tree.specs.declared.declarations.OperationBody.TheVariants as body_of
use Rattle.ada_legality.specs.declared.findings.BodyKind.TheVariants as completing
use Rattle.ada_tree.specs.declared.declarations.Declaration.TheVariants as declaration
use Rattle.ada_tree.specs.declared.declarations.TypeDefinition.TheVariants as definition
use Rattle.ada_regions.specs.declared.entities.EntityKind.TheVariants as entity
use Rattle.profile_image.specs.declared.declarations.EntryUnit.TheVariants as entry_unit
use Rattle.ada_legality.specs.declared.findings.Finding.TheVariants as finding
use Rattle.ada_tree.specs.declared.declarations.Constraint.TheVariants as indicated
use Rattle.ada_tree.specs.declared.declarations.ProtectedOperation.TheVariants as operation
use Rattle.ada_legality.specs.declared.parts.AspectOwner.TheVariants as owning
use Rattle.ada_legality.specs.declared.rules.Rule.TheVariants as rule
use Rattle.ada_legality.specs.declared.reading.Shape.TheVariants as shapes
use Rattle.ada_regions.specs.declared.types.AdaType.TheVariants as types
use Rattle.ada_regions.specs.declared.entities.UnitKind.TheVariants as unit_kind
use Rattle.ada_legality.specs.declared.parts.IndicationUse.TheVariants as uses

-- ---- objects (3.3.1, 7.5, D.14, D.15)

-- an object of a library package
unfoldable pub is_library_name : Known → Identifier → Bool
is_library_name k i =
    unwrap_or (option_map (is_library_object k.names) (kind_of_identifier k i)) false

-- a task object outside library packages
abbrev pub is_task_outside : Known → Identifier → AdaType → Bool
is_task_outside k i t = is_task_type t && not (is_library_name k i)

-- the type of an object or a unit
abbrev pub type_of_identifier : Known → Identifier → Option AdaType
type_of_identifier k i = and_then (kind_of_identifier k i) type_of_kind

-- a task object outside library packages, which a restriction may forbid
unfoldable pub is_task_outside_library : Known → Identifier → Bool
is_task_outside_library k i =
    unwrap_or (option_map (is_task_outside k i) (type_of_identifier k i)) false

-- a task unit has entries
abbrev pub has_entries : Names → AdaType → Bool
has_entries n (types.Task u) = not (is_empty (entries_of n (entry_unit.Task u)))
has_entries n t = false

-- a task object with entries, or outside library packages: a source with an EDF range has none (own)
abbrev pub is_wrong_with_deadlines : Known → Identifier → AdaType → Bool
is_wrong_with_deadlines k i t =
    is_task_type t && (not (is_library_name k i) || has_entries k.names t)

-- the same of an identifier
unfoldable pub is_outside_deadlines : Known → Identifier → Bool
is_outside_deadlines k i =
    unwrap_or (option_map (is_wrong_with_deadlines k i) (type_of_identifier k i)) false

-- an object that may be one of a task, declared here
unfoldable pub task_judged : Known → Identifier → Place → Found
task_judged k i place =
    broken_if rule.Restriction (k.in_force.no_task_hierarchy && is_task_outside_library k i) place
    ++ broken_if rule.DeadlineScheduling (k.in_force.has_deadlines && is_outside_deadlines k i)
    place

-- the number of a protected unit
abbrev pub protected_number : AdaType → Option ℕ
protected_number (types.Protected u) = Some u.0
protected_number _ = None

-- the protected unit of which an identifier is an object or the type
unfoldable pub protected_unit_of_name : Known → Identifier → Option ℕ
protected_unit_of_name k i = and_then (type_of_identifier k i) protected_number

-- an object of a protected unit
abbrev pub protected_object : Known → Bool → Identifier → ℕ → Finding
protected_object k single i unit =
    finding.ProtectedObject
    (record { unit = unit; single = single; is_library = is_library_name k i; place = i.place })

-- an object, where it is a protected one
unfoldable pub protected_noted : Known → Bool → Identifier → Found
protected_noted k single i =
    unwrap_or (option_map (λ u. protected_object k single i u ∷ []) (protected_unit_of_name k i)) []

-- an aliased constant Task_Id
abbrev pub is_aliased_constant : ObjectDeclaration → AdaType → Bool
is_aliased_constant o t = o.aliased && (o.constant && is_task_id t)

-- such a constant
unfoldable pub constant_noted : Known → Bool → Identifier → Found
constant_noted k false i = []
constant_noted k true i =
    unwrap_or (option_map (λ e. finding.TaskConstant e ∷ []) (entity_denoted k.names i.place)) []

-- an entity of a library package
abbrev pub library_entity : Known → ℕ → Option ℕ
library_entity k e = cond (is_library_entity k e) (Some e) None

-- what the discriminant of a timer names
abbrev pub task_named : Known → Option Indicated → Option ℕ
task_named k None = None
task_named k (Some (indicated.Access name)) = and_then (entity_of_name k name) (library_entity k)
task_named k (Some (indicated.Range low high)) = None

-- a timer: its task is an aliased constant Task_Id of a library package
unfoldable pub timer_noted : Known → Option Indicated → Bool → Place → Found
timer_noted k m false place = []
timer_noted k m true place = finding.Timer (task_named k m) place ∷ []

-- an object of this type, where it is known: no limited one has an initial value (7.5); events,
-- timers and group budgets stand in library packages (own; D.14, D.15)
unfoldable pub typed_object_judged : Known → ObjectDeclaration → Identifier → AdaType → Found
typed_object_judged k o i t =
    broken_if rule.LimitedObject (is_some o.initial && has_no_values t) i.place
    ++ (broken_if rule.LibraryLevelObject
    (is_event_timer_or_budget t && not (is_library_name k i)) i.place
    ++ (timer_noted k o.subtype.constraint (is_timer t) i.place
    ++ constant_noted k (is_aliased_constant o t) i))

-- the same, where its type may be unknown
abbrev pub typed_object_if : Known → ObjectDeclaration → Identifier → Option AdaType → Found
typed_object_if k o i None = []
typed_object_if k o i (Some t) = typed_object_judged k o i t

-- one of the objects that are declared
unfoldable pub object_judged : Known → ObjectDeclaration → Option AdaType → Identifier → Found
object_judged k o t i =
    typed_object_if k o i t
    ++ (task_judged k i i.place ++ (protected_noted k false i ++ cells_noted k i i.place))

-- an object declaration
unfoldable pub object_found : ObjectDeclaration → Known → Found
object_found o k =
    let t = type_of_mark k o.subtype in
    flat_map (object_judged k o t) (all_of o.names)
    ++ (indication_found uses.ForObject o.subtype k
    ++ found_if (value_alone_found t) o.initial k)

-- a component
unfoldable pub component_found : IndicationUse → Component → Known → Found
component_found purpose c k =
    indication_found purpose c.subtype k
    ++ found_if (value_found (type_of_mark k c.subtype)) c.initial k

-- a component of a controlled type
abbrev pub record_component_found : Component → Known → Found
record_component_found c k = component_found uses.ForComponent c k

-- a component of a protected unit
abbrev pub protected_component_found : Component → Known → Found
protected_component_found c k =
    component_found (uses.ForProtectedComponent c.names.first.place) c k

-- ---- types (3.2.1, 3.6)

-- the components of an array are scalars (own)
abbrev pub is_other_component : AdaType → Bool
is_other_component t = not (is_scalar t || is_root_controlled t)

-- how many components lie behind the first
abbrev pub components_from_to : Option ℤ → Option ℤ → ℤ
components_from_to (Some low) (Some high) = high -ℤ low
components_from_to a b = pos 0

-- an array has more components than it may
unfoldable pub is_too_long : Known → AdaType → Expression → Read → Expression → Read → Bool
is_too_long k t low l high h =
    int_le MOST_COMPONENTS
    (components_from_to (static_number k t low l.typed) (static_number k t high h.typed))

-- an array type that is too long, or not of scalars
unfoldable pub array_judged : Known → Place → Option AdaType → Bool → Found
array_judged k place component too_long =
    broken_if rule.StaticBounds
    (unwrap_or (option_map is_other_component component) false || too_long) place

-- an array type
unfoldable pub array_found : Place → Expression → Expression → SubtypeIndication → Known → Found
array_found place low high component k =
    let l = read_expression low k in
    let h = read_expression high k in
    let t = type_of_bounds l.0.typed h.0.typed in
    l.1 ++ (h.1
    ++ (array_judged k place (type_of_mark k component) (is_too_long k t low l.0 high h.0)
    ++ (bounds_judged k t low l.0 high h.0
    ++ indication_found uses.ForArrayComponent component k)))

-- a derived type has a parent of controlled types
unfoldable pub is_controlled_root : Known → Name → Bool
is_controlled_root k name =
    unwrap_or
    (option_map (λ s. is_root_controlled s.of_type)
    (and_then (denoted_by k.names name) (mark_denoted k.names))) false

-- the components of a derived type
abbrev pub components_found : OneOrMore Component → Known → Found
components_found cs k = all_found record_component_found (all_of cs) k

-- a type's definition
unfoldable pub definition_found : Place → TypeDefinition → Known → Found
definition_found place (definition.Enumeration literals) k = []
definition_found place (definition.Array low high component) k =
    array_found place low high component k
definition_found place (definition.Derived parent components) k =
    broken_unless rule.KindOfName (is_controlled_root k parent) (place_of parent)
    ++ found_if components_found components k

-- ---- subprograms (6.1, 7.6, 8.3.1)

-- the names of the operations of a controlled type (7.6); Adjust is one of a type derived from
-- Controlled alone
abbrev pub controlled_names : Bool → List (List ℕ)
controlled_names true = codes "initialize" ∷ codes "finalize" ∷ []
controlled_names false = codes "initialize" ∷ codes "finalize" ∷ codes "adjust" ∷ []

-- a subprogram overrides an operation of this type
unfoldable pub overrides_type : NumberedSubprogram → List Formal → ℕ → NumberedControlled → Bool
overrides_type s formals number t =
    list_any (bytes_eq s.name) (controlled_names t.is_limited)
    && (is_none s.result
    && (is_none s.unit && (eqb s.part t.part && has_one_of_type number formals)))

-- it overrides an operation of some type
unfoldable pub overrides_some : NumberedSubprogram → List Formal → ℕ → List NumberedControlled
    → Bool
overrides_some s formals number [] = false
overrides_some s formals number (t ∷ ts) =
    overrides_type s formals number t || overrides_some s formals (suc number) ts

-- the subprogram of an entity
unfoldable pub numbered_of : Names → EntityKind → Option NumberedSubprogram
numbered_of n (entity.Subprogram number is_function specified formals unit) =
    slice_get n.subprograms number.0
numbered_of n kind = None

-- the subprogram of this kind overrides something
unfoldable pub overrides_any : Names → EntityKind → Bool
overrides_any n kind =
    unwrap_or
    (option_map (λ s. overrides_some s (formals_of_subprogram kind) 0 n.controlled_types)
    (numbered_of n kind)) false

-- an identifier is the name of what overrides
unfoldable pub is_overriding : Known → Identifier → Bool
is_overriding k i =
    unwrap_or (option_map (overrides_any k.names) (kind_of_identifier k i)) false

-- the protected unit whose operation an identifier names
unfoldable pub unit_of_operation : Known → Identifier → Option ℕ
unit_of_operation k i =
    and_then (and_then (kind_of_identifier k i) (numbered_of k.names)) (λ s. s.unit)

-- a procedure without parameters
abbrev pub is_parameterless_procedure : SubprogramSpecification → Bool
is_parameterless_procedure s = is_none s.result && is_empty s.parameters

-- the body of a declared procedure
unfoldable pub is_specified_name : Known → Identifier → Bool
is_specified_name k i =
    unwrap_or (option_map (is_specified k.names) (entity_denoted k.names i.place)) false

-- an identifier is where its entity is declared
unfoldable pub declares_here : Known → Identifier → Bool
declares_here k i =
    unwrap_or
    (option_map (λ x. same_place x.place i.place)
    (and_then (entity_denoted k.names i.place) (entity_at k.names))) false

-- a body that completes a declaration
unfoldable pub completes_declaration : Known → Identifier → Bool
completes_declaration k i = is_specified_name k i && not (declares_here k i)

-- on what a subprogram's aspects stand
unfoldable pub owner_of_aspects : Known → SubprogramSpecification → Option ℕ → AspectOwner
owner_of_aspects k s None = owning.OnSubprogram
owner_of_aspects k s (Some unit) =
    owning.OnOperation (is_parameterless_procedure s) (completes_declaration k s.name) unit

-- a subprogram's specification, of what is an operation of this unit
unfoldable pub specification_found : SubprogramSpecification → Option ℕ → Known → Found
specification_found s unit k =
    parameters_found (is_some unit && is_none s.result) (is_overriding k s.name) s.parameters k
    ++ (found_if (indication_found uses.ForResult) s.result k
    ++ (aspects_found (owner_of_aspects k s unit) (place_of_specification s) s.aspects k).1)

-- what has the name of an operation and a parameter of the type overrides it, and nothing else does

-- Initialize, Finalize or Adjust
abbrev pub is_operation_name : Identifier → Bool
is_operation_name i = list_any (bytes_eq i.text) (controlled_names false)

-- a parameter is of a controlled type
unfoldable pub of_controlled_type : Known → Parameter → Bool
of_controlled_type k p = unwrap_or (option_map is_controlled_type (type_of_mark k p.subtype)) false

-- a subprogram of such a name with such a parameter
unfoldable pub looks_overriding : Known → SubprogramSpecification → Option ℕ → Bool
looks_overriding k s unit =
    is_operation_name s.name && (is_none unit && list_any (of_controlled_type k) s.parameters)

-- what overrides nothing, and says or looks so
unfoldable pub overrides_wrongly : Known → SubprogramSpecification → Option ℕ → Bool
overrides_wrongly k s unit =
    not (is_overriding k s.name)
    && (is_some s.overriding
    || (not (completes_declaration k s.name) && looks_overriding k s unit))

-- the word of a subprogram that overrides nothing
unfoldable pub overriding_judged : Known → SubprogramSpecification → Option ℕ → Found
overriding_judged k s unit =
    broken_if rule.ControlledOperations (overrides_wrongly k s unit) (place_of_specification s)

-- a subprogram declaration
unfoldable pub subprogram_found : SubprogramSpecification → Known → Found
subprogram_found s k =
    let unit = unit_of_operation k s.name in
    declaration_noted k completing.Subprogram s.name (place_of_specification s)
    ++ (overriding_judged k s unit ++ specification_found s unit k)

-- ---- entries (9.5.2)

-- an entry declaration
abbrev pub entry_found : EntryDeclaration → Known → Found
entry_found e k = parameters_found false false e.parameters k

-- how many a restriction allows
abbrev pub most_entries : InForce → Bool → Option ℤ
most_entries r true = r.max_task_entries
most_entries r false = r.max_protected_entries

-- an entry of a protected unit needs a body
abbrev pub entry_noted : EntryDeclaration → Known → Found
entry_noted e k = declaration_noted k completing.ProtectedEntry e.name e.place

-- those of a task have accept statements
abbrev pub entries_noted : Bool → List EntryDeclaration → Known → Found
entries_noted true entries k = []
entries_noted false entries k = all_found entry_noted entries k

-- the entries of a unit (own)
unfoldable pub entries_judged : Bool → List EntryDeclaration → Known → Found
entries_judged of_task entries k =
    entries_noted of_task entries k
    ++ (beyond rule.Limit (λ e. e.place) MOST_ENTRIES entries
    ++ beyond_restriction (λ e. e.place) (most_entries k.in_force of_task) entries)

-- ---- task and protected declarations (9.1, 9.4)

abbrev pub entries_of_definition : Option TaskDefinition → List EntryDeclaration
entries_of_definition None = []
entries_of_definition (Some d) = d.entries

-- a single task is an object
abbrev pub single_task_judged : Known → Identifier → Place → Bool → Found
single_task_judged k i place true = []
single_task_judged k i place false = task_judged k i place

-- a task's base priority, where it is stated
unfoldable pub task_priority_noted : ℕ → List AspectPart → Place → Found
task_priority_noted last aspects place =
    unwrap_or
    (option_map (λ n. finding.TaskPriority n (place_of_priority last aspects place) ∷ [])
    (stated_value last aspects)) []

-- a task declaration
unfoldable pub task_found : TaskDeclaration → Known → Found
task_found t k =
    let entries = entries_of_definition t.definition in
    let aspects = aspects_found owning.OnTask t.place t.aspects k in
    declaration_noted k completing.Task t.name t.place
    ++ (single_task_judged k t.name t.place t.is_type
    ++ (cells_noted k t.name t.place
    ++ (aspects.1 ++ (task_priority_noted k.names.last_priority aspects.0 t.place
    ++ (entries_judged true entries k ++ all_found entry_found entries k)))))

-- an operation of a protected declaration
abbrev pub operation_found : ProtectedOperation → Known → Found
operation_found (operation.Subprogram s) k = subprogram_found s k
operation_found (operation.Entry e) k = entry_found e k

-- the entry among operations
abbrev pub entry_of_operation : ProtectedOperation → List EntryDeclaration
entry_of_operation (operation.Subprogram s) = []
entry_of_operation (operation.Entry e) = e ∷ []

-- a single protected object
abbrev pub single_object_noted : Known → Identifier → Bool → Found
single_object_noted k i true = []
single_object_noted k i false = protected_noted k true i

-- a protected unit whose stated priority is not the highest
abbrev pub other_ceiling_noted : Bool → Place → Option ℕ → Found
other_ceiling_noted true place (Some unit) = finding.OtherCeiling unit place ∷ []
other_ceiling_noted is_other place unit = []

-- the ceiling of a protected unit
unfoldable pub ceiling_noted : ℕ → List AspectPart → Place → Option ℕ → Found
ceiling_noted last aspects place unit =
    other_ceiling_noted (is_other_ceiling last (stated_value last aspects)) place unit
    ++ finding.Ceiling (record {
      unit = unit;
      stated = stated_value last aspects;
      place = place_of_priority last aspects place;
    }) ∷ []

-- a protected declaration
unfoldable pub protected_found : ProtectedDeclaration → Known → Found
protected_found p k =
    let aspects = aspects_found owning.OnProtected p.place p.aspects k in
    declaration_noted k completing.Protected p.name p.place
    ++ (single_object_noted k p.name p.is_type
    ++ (cells_noted k p.name p.place
    ++ (aspects.1
    ++ (ceiling_noted k.names.last_priority aspects.0 p.place (protected_unit_of_name k p.name)
    ++ (entries_judged false (flat_map entry_of_operation p.operations) k
    ++ (all_found operation_found p.operations k
    ++ found_if (all_found protected_component_found) p.components k))))))

-- ---- bodies, given what is found in the sequences in them

-- the unit that an identifier names
unfoldable pub unit_here : Known → Identifier → UnitAround
unit_here k i =
    record { entity = entity_denoted k.names i.place; of_type = type_of_identifier k i }

-- a body's name is that of a unit of its kind
unfoldable pub is_unit_of : UnitKind → Known → Identifier → Bool
is_unit_of kind k i =
    unwrap_or (option_map (is_unit kind k.names) (entity_denoted k.names i.place)) false

-- the body of a task or a protected unit
unfoldable pub unit_body_judged : UnitKind → BodyKind → Identifier → Known → Found
unit_body_judged kind of_kind i k =
    broken_unless rule.KindOfName (is_unit_of kind k i) i.place ++ body_noted k of_kind i

-- what is known of a subprogram in its body
unfoldable pub subprogram_here : Known → SubprogramSpecification → SubprogramAround
subprogram_here k s = record {
  place = s.place;
  begins = place_of_specification s;
  result = option_map (type_of_mark k) s.result;
}

-- a function's own statements have a return (6.3)
abbrev pub function_noted : SubprogramSpecification → Found
function_noted s = cond (is_some s.result)
    (finding.Function s.place (place_of_specification s) ∷ []) []

-- the name and the profile of a subprogram's body
unfoldable pub subprogram_body_judged : SubprogramSpecification → Option ℕ → Known → Found
subprogram_body_judged s unit k =
    body_noted k completing.Subprogram s.name
    ++ (function_noted s
    ++ (body_profile_judged k s (entity_denoted k.names s.name.place)
    ++ overriding_judged k s unit))

-- a component or a literal alone (D.7)
abbrev pub is_simple_barrier : Shape → Bool
is_simple_barrier (shapes.Name n) = n.is_simple_barrier
is_simple_barrier shapes.Number = false
is_simple_barrier shapes.Other = false

-- a barrier (9.5.2; own), which is read
unfoldable pub barrier_judged : Known → Read → Found
barrier_judged k r =
    broken_unless rule.EntryBarrier r.built_as_barrier r.place
    ++ (broken_if rule.Restriction
    (k.in_force.simple_barriers && not (is_simple_barrier r.shape)) r.place
    ++ expected asking.ForCondition (Some types.Boolean) r)

-- a barrier
unfoldable pub barrier_found : Expression → Known → Found
barrier_found e k =
    let r = read_expression e k in
    r.1 ++ barrier_judged k r.0

-- the profile of an entry's body, where it is one of the unit around
abbrev pub entry_profile_if : Bool → Known → List Parameter → Option ℕ → Found
entry_profile_if false k parameters e = []
entry_profile_if true k parameters e = entry_body_profile_judged k parameters e

-- the name and the profile of an entry's body
unfoldable pub entry_body_judged : EntryHead → Known → Found
entry_body_judged h k =
    broken_unless rule.KindOfName (is_own_entry k h.name) h.name.place
    ++ (body_noted k completing.ProtectedEntry h.name
    ++ entry_profile_if (is_own_entry k h.name) k h.parameters
    (entity_denoted k.names h.name.place))

-- a use clause names a package (8.4)
unfoldable pub use_found : Name → Known → Found
use_found name k = unless_denoted (is_used_package k.names) k name

module _ {Q : Type 0} (sequence : Q → Known → Found) where
  -- a subprogram's body
  unfoldable pub subprogram_body_found : SubprogramSpecification → Body Q → Known → Found
  subprogram_body_found s body k =
      let unit = unit_of_operation k s.name in
      subprogram_body_judged s unit k
      ++ (specification_found s unit k
      ++ sequence body.sequence (with_around (around.Subprogram (subprogram_here k s)) k))

  -- an entry's body
  unfoldable pub entry_body_found : EntryHead → Body Q → Known → Found
  entry_body_found h body k =
      let inside = with_around (around.Entry (entity_denoted k.names h.name.place)) k in
      entry_body_judged h k
      ++ (parameters_found false false h.parameters k
      ++ (barrier_found h.barrier inside ++ sequence body.sequence inside))

  -- a body in a protected body
  abbrev pub operation_body_found : OperationBody Q → Known → Found
  operation_body_found (body_of.Subprogram s body) k = subprogram_body_found s body k
  operation_body_found (body_of.Entry head body) k = entry_body_found head body k

  -- a protected body
  unfoldable pub protected_body_found : ProtectedBody Q → Known → Found
  protected_body_found p k =
      unit_body_judged unit_kind.Protected completing.Protected p.name k
      ++ all_found operation_body_found p.operations
      (with_around (around.Protected (unit_here k p.name)) k)

  -- a task's body
  unfoldable pub task_body_found : Identifier → Body Q → Known → Found
  task_body_found name body k =
      unit_body_judged unit_kind.Task completing.Task name k
      ++ sequence body.sequence (with_around (around.Task (unit_here k name)) k)

  -- a declaration
  abbrev pub declaration_found : Declaration Q → Known → Found
  declaration_found (declaration.Object o) k = object_found o k
  declaration_found (declaration.Type t) k = definition_found t.place t.definition k
  declaration_found (declaration.Subtype s) k = indication_found uses.ForSubtype s.subtype k
  declaration_found (declaration.Exception names) k = []
  declaration_found (declaration.Subprogram s) k = subprogram_found s k
  declaration_found (declaration.SubprogramBody s body) k = subprogram_body_found s body k
  declaration_found (declaration.Task t) k = task_found t k
  declaration_found (declaration.TaskBody place name body) k = task_body_found name body k
  declaration_found (declaration.Protected p) k = protected_found p k
  declaration_found (declaration.ProtectedBody p) k = protected_body_found p k
  declaration_found (declaration.Use place name) k = use_found name k

  -- declarations
  abbrev pub declarations_found : List (Declaration Q) → Known → Found
  declarations_found ds k = all_found declaration_found ds k

  -- the handlers of a sequence
  abbrev pub handlers_found : List (Handler Q) → Known → Found
  handlers_found hs k =
      handled_judged k (map (λ h. h.exceptions) hs) ++ all_found (handler_found sequence) hs k

  -- the declarations, the statements and the handlers of a sequence
  unfoldable pub parts_found : SequenceParts Q → Known → Found
  parts_found s k =
      declarations_found s.declarations k
      ++ (all_found (statement_found sequence) (all_of s.statements) k
      ++ handlers_found s.handlers k)

-- what is found in a sequence where something is known
abbrev pub Sight : Type 0
Sight = Known → Found

-- what is found in a sequence in a sequence
abbrev pub same_findings : Sight → Sight
same_findings f = f

-- a sequence, given those in it
abbrev pub findings_layer : Sequence-F Sight → Sight
findings_layer s = parts_found same_findings s.parts

-- what is found in a sequence
unfoldable pub sequence_found : Sequence → Sight
sequence_found = fold-Sequence Sight findings_layer
