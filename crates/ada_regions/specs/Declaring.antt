-- Declarations (3.1, 8.1, 8.3): what a declaration binds in its region, and what entity it declares.
use Rattle.std.specs.Prelude.{ℕ, suc, ◌-◌, Bool, true, false, cond, ◌||◌, List, [], ◌∷◌, ◌++◌, Option}
use Rattle.std.specs.Prelude.{Some, None, is_some, length, map, option_map, unwrap_or, slice_get, position}
use Rattle.std.specs.Str.{bytes_eq}
use Rattle.ann_base.specs.declared.places.Place.{Place}
use Rattle.ada_tree.specs.declared.names.Identifier.{Identifier}
use Rattle.ada_tree.specs.declared.names.OneOrMore.{OneOrMore}
use Rattle.ada_tree.specs.declared.expressions.Expression.{Expression}
use Rattle.ada_tree.specs.declared.declarations.Parameter.{Parameter}
use Rattle.ada_tree.specs.declared.declarations.SubtypeIndication.{SubtypeIndication}
use Rattle.ada_tree.specs.declared.declarations.ObjectDeclaration.{ObjectDeclaration}
use Rattle.ada_tree.specs.declared.names.Name.{Name}
use Rattle.ada_tree.specs.declared.declarations.Component.{Component}
use Rattle.ada_tree.specs.declared.declarations.Aspect.{Aspect}
use Rattle.ada_tree.specs.declared.declarations.Constraint.{Constraint as Indicated}
use Rattle.ada_tree.specs.declared.declarations.Constraint.TheVariants as indicated
use Rattle.ada_regions.specs.declared.types.Formal.{Formal}
use Rattle.ada_regions.specs.declared.entities.Denoted.{Denoted}
use Rattle.ada_tree.specs.declared.declarations.SubprogramSpecification.{SubprogramSpecification}
use Rattle.profile_image.specs.declared.numbers.DeclNo.{DeclNo}
use Rattle.profile_image.specs.declared.numbers.EnumerationNo.{EnumerationNo}
use Rattle.profile_image.specs.declared.numbers.ProtectedUnitNo.{ProtectedUnitNo}
use Rattle.profile_image.specs.declared.declarations.EntryUnit.{EntryUnit}
use Rattle.profile_image.specs.declared.declarations.EntryUnit.TheVariants as entry_unit
use Rattle.profile_image.specs.declared.values.Value.{Value}
use Rattle.profile_image.specs.declared.values.Constraint.TheVariants as constraint
use Rattle.ada_regions.specs.declared.types.AdaType.{AdaType}
use Rattle.ada_regions.specs.declared.types.AdaType.TheVariants as types
use Rattle.ada_regions.specs.declared.types.Subtype.{Subtype}
use Rattle.ada_regions.specs.declared.entities.Denoted.TheVariants as denotes
use Rattle.ada_regions.specs.declared.entities.EntityKind.{EntityKind}
use Rattle.ada_regions.specs.declared.entities.EntityKind.TheVariants as entity
use Rattle.ada_regions.specs.declared.entities.ComponentOwner.{ComponentOwner}
use Rattle.ada_regions.specs.declared.entities.ComponentOwner.TheVariants as owner
use Rattle.ada_regions.specs.declared.faults.NameFault.TheVariants as fault
use Rattle.ada_regions.specs.Words.{and_then, all_of}
use Rattle.ada_regions.specs.Occurrences.{Declared, the_package, the_main_procedure, an_object}
use Rattle.ada_regions.specs.Occurrences.{a_component, a_parameter, a_loop_parameter, an_enumeration}
use Rattle.ada_regions.specs.Occurrences.{a_literal, an_array, a_derived_type, a_subtype, an_exception}
use Rattle.ada_regions.specs.Occurrences.{a_label, a_subprogram, an_entry, a_task, a_protected}
use Rattle.ada_regions.specs.declared.table.Names.{Names}
use Rattle.ada_regions.specs.declared.table.Frame.{Frame}
use Rattle.ada_regions.specs.declared.table.Enclosure.{Enclosure}
use Rattle.ada_regions.specs.declared.table.Sort.{Sort}
use Rattle.ada_regions.specs.declared.table.NumberedDeclaration.{NumberedDeclaration}
use Rattle.ada_regions.specs.declared.table.NumberedSubprogram.{NumberedSubprogram}
use Rattle.ada_regions.specs.declared.table.NumberedTask.{NumberedTask}
use Rattle.ada_regions.specs.declared.table.NumberedProtected.{NumberedProtected}
use Rattle.ada_regions.specs.declared.table.NumberedControlled.{NumberedControlled}
use Rattle.ada_regions.specs.declared.table.NumberedEntry.{NumberedEntry}
use Rattle.ada_regions.specs.declared.table.Sort.TheVariants as sort
use Rattle.ada_regions.specs.Names.{denoted_by, entity_of, binding_in, bound_in}
use Rattle.ada_regions.specs.Names.{innermost_frame, enclosure_of, enclosure_here, region_here}
use Rattle.ada_regions.specs.Names.{scope_in, scope_of_loops, expanded, kind_at, noted, told}
use Rattle.ada_regions.specs.Statics.{static_value, subtype_of_kind}
use Rattle.ada_regions.specs.Subtypes.{indicated_subtype, mark_denoted, array_type, formals_of, mode_of}
use Rattle.ada_regions.specs.Visibility.{in_standard, bound}

-- ---- bindings

abbrev pub with_binding : Enclosure → List ℕ → Option ℕ → Names → Names
with_binding f name e n = record n {
  bindings = bound_in f.region (record { name = name; entity = e; exported = f.exports }) n.bindings;
}

-- a name is hidden where its region has none of it (8.3)
unfoldable pub hidden : Identifier → Names → Names
hidden i n =
    cond (is_some (binding_in n.bindings (region_here n) i.text)) n (with_binding (enclosure_here n) i.text None n)

-- whether a region has a declaration of this name already
abbrev pub is_taken : Names → ℕ → List ℕ → Bool
is_taken n region name = is_some (and_then (binding_in n.bindings region name) bound)

abbrev pub told_if_taken : Bool → Identifier → Names → Names
told_if_taken taken i n = cond taken (told (fault.Twice i.place) n) n

-- an entity that is new gets the next number
abbrev pub with_entity : Place → EntityKind → Option ℕ → Names → Names
with_entity place kind region n = record n {
  entities = n.entities ++ record { place = place; kind = kind; region = region } ∷ [];
}

-- a name is declared in this region
unfoldable pub entered : Enclosure → Bool → Identifier → EntityKind → Option ℕ → Names → Names
entered f taken i kind region n =
    let e = length n.entities in
    noted i.place (denotes.Entity e) (with_binding f i.text (Some e)
    (with_entity i.place kind region (told_if_taken taken i n)))

unfoldable pub entered_here : Identifier → EntityKind → Option ℕ → Names → Names
entered_here i kind region n = entered (enclosure_here n) (is_taken n (region_here n) i.text) i kind region n

-- ---- the region of Standard, in which library units stand (10.1)

abbrev pub library_frame : Frame
library_frame = record {
  region = 0;
  owner = None;
  scope = Some 0;
  is_accept = false;
  name = None;
  exports = false;
  components = None;
  part = 0;
}

unfoldable pub unit_is_taken : Names → List ℕ → Bool
unit_is_taken n name = is_taken n library_frame.region name || is_some (in_standard n.last_priority name)

unfoldable pub entered_as_unit : Identifier → EntityKind → Option ℕ → Names → Names
entered_as_unit i kind region n = entered (enclosure_of library_frame) (unit_is_taken n i.text) i kind region n

-- ---- numbers of the image

abbrev pub next_declaration : Names → DeclNo
next_declaration n = record { 0 = length n.declarations }

abbrev pub numbered_declaration : Names → Identifier → Sort → ℕ → Option Subtype → Option Expression
    → NumberedDeclaration
numbered_declaration n i sort scope s initial =
    record {
      name = i.text;
      expanded = expanded n.frames i.text;
      sort = sort;
      scope = scope;
      subtype = s;
      initial = initial;
      task = None;
    }

abbrev pub with_declaration : NumberedDeclaration → Names → Names
with_declaration d n = record n { declarations = n.declarations ++ d ∷ [] }

unfoldable pub numbered : Identifier → Sort → ℕ → Option Subtype → Option Expression → Names → Names
numbered i sort scope s initial n = with_declaration (numbered_declaration n i sort scope s initial) n

-- a region that is opened later
abbrev pub with_region : Names → Names
with_region n = record n { regions = suc n.regions }

-- ---- objects, components and parameters

unfoldable pub constant_value : Names → ObjectDeclaration → Option Value
constant_value n o = cond o.constant (and_then o.initial (static_value n)) None

-- the constant that a timer's indication names (D.14.1)
abbrev pub object_number : EntityKind → Option DeclNo
object_number (entity.Object s constant value declaration) = Some declaration
object_number _ = None

abbrev pub number_of_object : Names → Denoted → Option ℕ
number_of_object n d = option_map (λ x. x.0) (and_then (entity_of d) (λ e. and_then (kind_at n e) object_number))

unfoldable pub task_indicated : Names → Option Indicated → Option ℕ
task_indicated n None = None
task_indicated n (Some (indicated.Access name)) = and_then (denoted_by n name) (number_of_object n)
task_indicated n (Some (indicated.Range low high)) = None

unfoldable pub object_declared : Identifier → ObjectDeclaration → Names → Names
object_declared i o n =
    let s = indicated_subtype n o.subtype in
    entered_here i (entity.Object s o.constant (constant_value n o) (next_declaration n)) None
    (with_declaration (record (numbered_declaration n i sort.Object (scope_in n.frames) s o.initial)
    { task = task_indicated n o.subtype.constraint }) n)

abbrev pub no_owner : ComponentOwner
no_owner = owner.Controlled (record { 0 = 0 })

abbrev pub owner_or_none : Option ComponentOwner → ComponentOwner
owner_or_none None = no_owner
owner_or_none (Some o) = o

unfoldable pub component_declared : Identifier → Component → Names → Names
component_declared i c n =
    let s = indicated_subtype n c.subtype in
    let o = owner_or_none (innermost_frame n.frames).components in
    entered_here i (entity.Component s o (next_declaration n)) None (numbered i (sort.Component o) 0 s c.initial n)

unfoldable pub parameter_declared : Bool → Identifier → Parameter → Names → Names
parameter_declared true i p n =
    let s = indicated_subtype n p.subtype in
    entered_here i (entity.Parameter s (mode_of p.is_in p.is_out) (Some (next_declaration n))) None
    (numbered i sort.Parameter (scope_in n.frames) s None n)
parameter_declared false i p n =
    entered_here i (entity.Parameter (indicated_subtype n p.subtype) (mode_of p.is_in p.is_out) None) None n

unfoldable pub loop_parameter_declared : Identifier → Names → Names
loop_parameter_declared i n =
    entered_here i (entity.LoopParameter (next_declaration n)) None
    (numbered i sort.LoopParameter (scope_of_loops n.frames) None None n)

unfoldable pub exception_declared : Identifier → Names → Names
exception_declared i n =
    entered_here i (entity.Exception (next_declaration n)) None (numbered i sort.Exception 0 None None n)

-- ---- types

abbrev pub next_enumeration : Names → EnumerationNo
next_enumeration n = record { 0 = length n.enumerations }

abbrev pub newest_enumeration : Names → EnumerationNo
newest_enumeration n = record { 0 = length n.enumerations - 1 }

abbrev pub enumeration_subtype : EnumerationNo → OneOrMore Identifier → Subtype
enumeration_subtype e literals = record {
  of_type = types.Enumeration e;
  range = constraint.Literal 0 (length literals.others);
}

abbrev pub text_of : Identifier → List ℕ
text_of i = i.text

unfoldable pub enumeration_declared : Identifier → OneOrMore Identifier → Names → Names
enumeration_declared i literals n =
    entered_here i (entity.Mark (Some (enumeration_subtype (next_enumeration n) literals))) None
    (record n { enumerations = n.enumerations ++ map text_of (all_of literals) ∷ [] })

-- a literal's position is that of its name in the list
abbrev pub newest_literals : Names → List (List ℕ)
newest_literals n = unwrap_or (slice_get n.enumerations (newest_enumeration n).0) []

unfoldable pub position_of_literal : Names → List ℕ → ℕ
position_of_literal n name = unwrap_or (position (bytes_eq name) (newest_literals n)) 0

unfoldable pub literal_declared : Identifier → Names → Names
literal_declared i n = entered_here i (entity.Literal (newest_enumeration n) (position_of_literal n i.text)) None n

-- a type without a range
abbrev pub free_subtype : AdaType → Subtype
free_subtype t = record { of_type = t; range = constraint.Free }

unfoldable pub array_declared : Identifier → Expression → Expression → SubtypeIndication → Names → Names
array_declared i low high component n =
    entered_here i (entity.Mark (Some (free_subtype (types.Array (length n.arrays))))) None
    (record n { arrays = n.arrays ++ array_type n low high component ∷ [] })

abbrev pub is_limited_root : AdaType → Bool
is_limited_root types.LimitedControlled = true
is_limited_root _ = false

abbrev pub is_limited_parent : Option Subtype → Bool
is_limited_parent None = true
is_limited_parent (Some s) = is_limited_root s.of_type

unfoldable pub numbered_controlled : Names → Name → NumberedControlled
numbered_controlled n parent =
    record {
      region = n.regions;
      part = (innermost_frame n.frames).part;
      is_limited = is_limited_parent (and_then (denoted_by n parent) (mark_denoted n));
    }

unfoldable pub derived_declared : Identifier → Name → Names → Names
derived_declared i parent n =
    entered_here i (entity.Mark (Some (free_subtype (types.Derived (record { 0 = length n.controlled_types })))))
    (Some n.regions)
    (with_region (record n { controlled_types = n.controlled_types ++ numbered_controlled n parent ∷ [] }))

unfoldable pub subtype_declared : Identifier → SubtypeIndication → Names → Names
subtype_declared i m n = entered_here i (entity.Mark (indicated_subtype n m)) None n

-- ---- subprograms and entries: those of a protected unit stand in its region (9.4)

abbrev pub type_of_kind : EntityKind → Option AdaType
type_of_kind kind = option_map (λ s. s.of_type) (subtype_of_kind kind)

unfoldable pub owner_type : Names → Frame → Option AdaType
owner_type n f = and_then f.owner (λ e. and_then (kind_at n e) type_of_kind)

abbrev pub protected_unit_of : Option ComponentOwner → Option ProtectedUnitNo
protected_unit_of None = None
protected_unit_of (Some (owner.Protected u)) = Some u
protected_unit_of (Some (owner.Controlled c)) = None

abbrev pub numbered_subprogram : Names → Enclosure → ℕ → Identifier → SubprogramSpecification → NumberedSubprogram
numbered_subprogram n f scope i s = record {
  name = i.text;
  scope = scope;
  formals = formals_of n s.parameters;
  result = option_map (indicated_subtype n) s.result;
  unit = option_map (λ u. u.0) (protected_unit_of f.components);
  part = f.part;
  aspects = s.aspects;
}

-- a subprogram in this region: its declaration, or the body that declares it
unfoldable pub subprogram_declared : Enclosure → Bool → ℕ → Identifier → SubprogramSpecification → Names → Names
subprogram_declared f specified scope i s n =
    entered f (is_taken n f.region i.text) i
    (entity.Subprogram (record { 0 = length n.subprograms }) (is_some s.result) specified
    (formals_of n s.parameters) (protected_unit_of f.components)) None
    (record n { subprograms = n.subprograms ++ numbered_subprogram n f scope i s ∷ [] })

abbrev pub entry_unit_in : AdaType → EntryUnit
entry_unit_in types.Integer = entry_unit.Task (record { 0 = 0 })
entry_unit_in types.Boolean = entry_unit.Task (record { 0 = 0 })
entry_unit_in types.Duration = entry_unit.Task (record { 0 = 0 })
entry_unit_in (types.Enumeration e) = entry_unit.Task (record { 0 = 0 })
entry_unit_in (types.Array a) = entry_unit.Task (record { 0 = 0 })
entry_unit_in types.Time = entry_unit.Task (record { 0 = 0 })
entry_unit_in types.TimeSpan = entry_unit.Task (record { 0 = 0 })
entry_unit_in types.CpuTime = entry_unit.Task (record { 0 = 0 })
entry_unit_in types.TaskId = entry_unit.Task (record { 0 = 0 })
entry_unit_in types.TimingEvent = entry_unit.Task (record { 0 = 0 })
entry_unit_in types.Timer = entry_unit.Task (record { 0 = 0 })
entry_unit_in types.GroupBudget = entry_unit.Task (record { 0 = 0 })
entry_unit_in types.LimitedControlled = entry_unit.Task (record { 0 = 0 })
entry_unit_in types.Controlled = entry_unit.Task (record { 0 = 0 })
entry_unit_in (types.Derived c) = entry_unit.Task (record { 0 = 0 })
entry_unit_in (types.Task u) = entry_unit.Task u
entry_unit_in (types.Protected u) = entry_unit.Protected u

abbrev pub entry_unit_of : Option AdaType → EntryUnit
entry_unit_of None = entry_unit.Task (record { 0 = 0 })
entry_unit_of (Some t) = entry_unit_in t

abbrev pub numbered_entry : Identifier → EntryUnit → List Formal → NumberedEntry
numbered_entry i unit formals = record { name = i.text; unit = unit; formals = formals; body = None }

unfoldable pub entry_declared : Identifier → List Parameter → Names → Names
entry_declared i parameters n =
    let unit = entry_unit_of (owner_type n (innermost_frame n.frames)) in
    entered_here i (entity.Entry (record { 0 = length n.entries }) unit (formals_of n parameters)) None
    (record n { entries = n.entries ++ numbered_entry i unit (formals_of n parameters) ∷ [] })

-- ---- task and protected units: a type, or a single object of a type without a name (9.1, 9.4)

unfoldable pub unit_entered : Bool → Identifier → Subtype → Names → Names
unit_entered true i s n = entered_here i (entity.Mark (Some s)) (Some n.regions) (with_region n)
unit_entered false i s n =
    entered_here i (entity.Object (Some s) false None (next_declaration n)) (Some n.regions)
    (with_region (numbered i sort.Object (scope_in n.frames) (Some s) None n))

abbrev pub numbered_task : Names → List Aspect → NumberedTask
numbered_task n aspects = record { region = n.regions; aspects = aspects; scope = 0 }

abbrev pub numbered_protected : Names → List Aspect → NumberedProtected
numbered_protected n aspects = record { region = n.regions; aspects = aspects }

unfoldable pub task_declared : Bool → List Aspect → Identifier → Names → Names
task_declared is_type aspects i n =
    unit_entered is_type i (free_subtype (types.Task (record { 0 = length n.task_units })))
    (record n { task_units = n.task_units ++ numbered_task n aspects ∷ [] })

unfoldable pub protected_declared : Bool → List Aspect → Identifier → Names → Names
protected_declared is_type aspects i n =
    unit_entered is_type i (free_subtype (types.Protected (record { 0 = length n.protected_units })))
    (record n { protected_units = n.protected_units ++ numbered_protected n aspects ∷ [] })

-- ---- all declarations

unfoldable pub declared : Identifier → Declared → Names → Names
declared i the_package n = entered_as_unit i entity.Package (Some n.regions) (with_region n)
declared i the_main_procedure n = entered_as_unit i entity.Main None n
declared i (an_object o) n = object_declared i o n
declared i (a_component c) n = component_declared i c n
declared i (a_parameter with_cells p) n = parameter_declared with_cells i p n
declared i a_loop_parameter n = loop_parameter_declared i n
declared i (an_enumeration literals) n = enumeration_declared i literals n
declared i a_literal n = literal_declared i n
declared i (an_array low high component) n = array_declared i low high component n
declared i (a_derived_type parent) n = derived_declared i parent n
declared i (a_subtype m) n = subtype_declared i m n
declared i an_exception n = exception_declared i n
declared i a_label n = entered_here i entity.Label None n
declared i (a_subprogram s) n = subprogram_declared (enclosure_here n) true 0 i s n
declared i (an_entry parameters) n = entry_declared i parameters n
declared i (a_task is_type aspects) n = task_declared is_type aspects i n
declared i (a_protected is_type aspects) n = protected_declared is_type aspects i n
