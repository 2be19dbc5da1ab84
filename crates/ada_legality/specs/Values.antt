-- What a name stands for in an expression, and of which type it is (4.1, 4.4, 6.4).
use Rattle.ada_image.specs.Layout.{array_of}
use Rattle.ada_image.specs.TypesOfExpressions.{type_of_operation}
use Rattle.ada_legality.specs.Types.{same_type, typed_by, typed_if}
use Rattle.ada_legality.specs.declared.reading.Typed.{Typed}
use Rattle.ada_legality.specs.declared.standing.Around.{Around}
use Rattle.ada_legality.specs.declared.standing.Known.{Known}
use Rattle.ada_legality.specs.declared.standing.LoopParameter.{LoopParameter}
use Rattle.ada_regions.specs.Completions.{holds_of}
use Rattle.ada_regions.specs.Declaring.{free_subtype}
use Rattle.ada_regions.specs.Names.{denoted_by, entity_of, kind_at}
use Rattle.ada_regions.specs.PredefinedUnits.{subtype_with}
use Rattle.ada_regions.specs.Words.{and_then}
use Rattle.ada_regions.specs.declared.entities.Denoted.{Denoted}
use Rattle.ada_regions.specs.declared.entities.EntityKind.{EntityKind}
use Rattle.ada_regions.specs.declared.predefined.Operation.{Operation}
use Rattle.ada_regions.specs.declared.predefined.Predefined.{Predefined}
use Rattle.ada_regions.specs.declared.predefined.PredefinedUnit.{PredefinedUnit}
use Rattle.ada_regions.specs.declared.table.Names.{Names}
use Rattle.ada_regions.specs.declared.types.AdaType.{AdaType}
use Rattle.ada_regions.specs.declared.types.Formal.{Formal}
use Rattle.ada_regions.specs.declared.types.Subtype.{Subtype}
use Rattle.ada_regions.specs.Regions.{is_entry}
use Rattle.ada_tree.specs.declared.names.Name.{Name}
use Rattle.profile_image.specs.declared.numbers.DeclNo.{DeclNo}
use Rattle.std.specs.List.{list_any}
use Rattle.std.specs.Prelude.{Bool, List, None, Option, Some, [], cond, eqb, false, find, is_some, not}
use Rattle.std.specs.Prelude.{option_map, pos, position, slice_get, suc, true, unwrap_or, ℕ, ◌||◌}
use Rattle.ada_legality.specs.declared.standing.Around.TheVariants as around
use Rattle.profile_image.specs.declared.values.Constraint.TheVariants as constraint
use Rattle.ada_regions.specs.declared.entities.Denoted.TheVariants as denotes
use Rattle.ada_regions.specs.declared.entities.EntityKind.TheVariants as entity
use Rattle.ada_regions.specs.declared.predefined.Predefined.TheVariants as items
use Rattle.ada_regions.specs.declared.predefined.Operation.TheVariants as operations
use Rattle.ada_regions.specs.declared.types.AdaType.TheVariants as types
use Rattle.ada_legality.specs.declared.reading.Typed.TheVariants as typing
use Rattle.ada_regions.specs.declared.predefined.PredefinedUnit.TheVariants as units

-- ---- subtypes of entities

abbrev pub subtype_of_loop : List LoopParameter → ℕ → Option Subtype
subtype_of_loop loops e = and_then (find (λ l. eqb l.entity e) loops) (λ l. l.subtype)

-- the subtype of an object, a parameter, a component, a loop parameter or a literal
unfoldable pub subtype_of_object : Known → ℕ → EntityKind → Option Subtype
subtype_of_object k e (entity.Object s constant value declaration) = s
subtype_of_object k e (entity.Parameter s mode declaration) = s
subtype_of_object k e (entity.Component s owner declaration) = s
subtype_of_object k e (entity.LoopParameter declaration) = subtype_of_loop k.loops e
subtype_of_object k e (entity.Literal enumeration position) =
    Some (free_subtype (types.Enumeration enumeration))
subtype_of_object k e _ = None

-- an object, a parameter, a component or a loop parameter
abbrev pub is_object_kind : EntityKind → Bool
is_object_kind (entity.Object s constant value declaration) = true
is_object_kind (entity.Parameter s mode declaration) = true
is_object_kind (entity.Component s owner declaration) = true
is_object_kind (entity.LoopParameter declaration) = true
is_object_kind _ = false

-- an enumeration literal
abbrev pub is_literal_kind : EntityKind → Bool
is_literal_kind (entity.Literal enumeration position) = true
is_literal_kind _ = false

-- a function of the source
abbrev pub is_function_kind : EntityKind → Bool
is_function_kind (entity.Subprogram number is_function specified formals unit) = is_function
is_function_kind _ = false

-- a procedure of the source, or an entry
abbrev pub is_procedure_kind : EntityKind → Bool
is_procedure_kind (entity.Subprogram number is_function specified formals unit) = not is_function
is_procedure_kind entity.Main = true
is_procedure_kind _ = false

-- the formals of a subprogram
abbrev pub formals_of_subprogram : EntityKind → List Formal
formals_of_subprogram (entity.Subprogram number is_function specified formals unit) = formals
formals_of_subprogram _ = []

-- ---- predefined names

abbrev pub is_function_operation : Operation → Bool
is_function_operation o = is_some (type_of_operation o)

-- a constant, False or True
unfoldable pub type_of_constant : Predefined → Option AdaType
type_of_constant (items.Constant of_type value) = Some of_type
type_of_constant (items.Truth b) = Some types.Boolean
type_of_constant _ = None

-- a predefined subprogram
abbrev pub operation_of : Predefined → Option Operation
operation_of (items.Operation o) = Some o
operation_of _ = None

-- the predefined subprogram that is denoted
abbrev pub operation_denoted : Denoted → Option Operation
operation_denoted (denotes.Item u item) = operation_of item
operation_denoted _ = None

-- ---- what names denote

abbrev pub denoted_kind : Names → Denoted → Option EntityKind
denoted_kind n d = and_then (entity_of d) (kind_at n)

-- what the entity is that a name denotes
abbrev pub kind_of_name : Known → Name → Option EntityKind
kind_of_name k name = and_then (denoted_by k.names name) (denoted_kind k.names)

-- the entity that a name denotes
abbrev pub entity_of_name : Known → Name → Option ℕ
entity_of_name k name = and_then (denoted_by k.names name) entity_of

-- a name denotes an entity of the kind
abbrev pub is_kind : (EntityKind → Bool) → Known → Name → Bool
is_kind test k name = holds_of test (kind_of_name k name)

-- the subtype of an object that a name denotes
unfoldable pub subtype_of_entity : Known → Denoted → Option Subtype
subtype_of_entity k d =
    and_then (entity_of d) (λ e. and_then (kind_at k.names e) (subtype_of_object k e))

-- the type of a constant that a name denotes
abbrev pub constant_type : Denoted → Option AdaType
constant_type (denotes.Item u item) = type_of_constant item
constant_type _ = None

-- an object, a literal or a constant
unfoldable pub denotes_value : Known → Denoted → Bool
denotes_value k d =
    is_some (constant_type d) || holds_of (λ x. is_object_kind x || is_literal_kind x)
    (denoted_kind k.names d)

-- a predefined constant
abbrev pub is_predefined_constant : Predefined → Bool
is_predefined_constant (items.Constant of_type value) = true
is_predefined_constant _ = false

-- what is assigned is an object, a constant one too, or an element of an array
unfoldable pub denotes_object : Known → Denoted → Bool
denotes_object k (denotes.Item u item) = is_predefined_constant item
denotes_object k d = holds_of is_object_kind (denoted_kind k.names d)

-- a function
unfoldable pub denotes_function : Known → Denoted → Bool
denotes_function k d =
    unwrap_or (option_map is_function_operation (operation_denoted d))
    (holds_of is_function_kind (denoted_kind k.names d))

-- a procedure that a statement may call: of the source, or predefined
unfoldable pub denotes_procedure : Known → Denoted → Bool
denotes_procedure k d =
    unwrap_or (option_map (λ o. not (is_function_operation o)) (operation_denoted d))
    (holds_of (λ x. is_procedure_kind x || is_entry x) (denoted_kind k.names d))

-- a name denotes something of the kind
abbrev pub is_denoted : (Denoted → Bool) → Known → Name → Bool
is_denoted test k name = unwrap_or (option_map test (denoted_by k.names name)) false

-- ---- types of names

unfoldable pub component_subtype : Names → Subtype → Option Subtype
component_subtype n s = and_then (array_of n s.of_type) (λ a. a.component)

-- the subtype itself, or that of the components behind an index
unfoldable pub subtype_with_index : Names → Bool → Option Subtype → Option Subtype
subtype_with_index n false s = s
subtype_with_index n true s = and_then s (component_subtype n)

-- none, where an index stands
abbrev pub unless_index : Bool → Option AdaType → Option AdaType
unless_index true t = None
unless_index false t = t

-- the type of a predefined constant; that of System is of Priority (13.7)
unfoldable pub typed_constant : Known → PredefinedUnit → Option AdaType → Typed
typed_constant k units.System (Some types.Integer) =
    typing.OfSubtype (subtype_with types.Integer (constraint.Whole (pos 0) (pos k.names.last_priority)))
typed_constant k u t = typed_if t

-- the type of a value, or of an element of it
unfoldable pub typed_value : Known → Bool → Denoted → Typed
typed_value k has_index (denotes.Item u item) =
    typed_constant k u (unless_index has_index (type_of_constant item))
typed_value k has_index d = typed_by (subtype_with_index k.names has_index (subtype_of_entity k d))

-- the subtype of a function's result, as its declaration or its only body says
unfoldable pub result_of_kind : Names → EntityKind → Option Subtype
result_of_kind n (entity.Subprogram number is_function specified formals unit) =
    and_then (slice_get n.subprograms number.0) (λ s. and_then s.result (λ r. r))
result_of_kind n _ = None

-- Get_Priority has a result of Any_Priority (D.5.1)
unfoldable pub typed_operation_call : Known → Operation → Typed
typed_operation_call k operations.GetPriority =
    typing.OfSubtype
    (subtype_with types.Integer (constraint.Whole (pos 0) (pos (suc k.names.last_priority))))
typed_operation_call k o = typed_if (type_of_operation o)

-- the type of a function's result
unfoldable pub typed_call : Known → Denoted → Typed
typed_call k (denotes.Item u item) =
    unwrap_or (option_map (typed_operation_call k) (operation_of item)) typing.WithoutType
typed_call k d = typed_by (and_then (denoted_kind k.names d) (result_of_kind k.names))

-- the type of a call or a value
unfoldable pub typed_denoted : Known → Bool → Denoted → Typed
typed_denoted k has_arguments d =
    cond (denotes_function k d) (typed_call k d) (typed_value k has_arguments d)

-- the type of a name without attribute
unfoldable pub typed_name : Known → Name → Bool → Typed
typed_name k name has_arguments =
    unwrap_or (option_map (typed_denoted k has_arguments) (denoted_by k.names name)) typing.WithoutType

-- ---- units around a name

-- the entity of the unit whose body is open
abbrev pub unit_around : Around → Option ℕ
unit_around (around.Task u) = u.entity
unit_around (around.Protected u) = u.entity
unit_around _ = None

-- the type of that unit
abbrev pub type_around : Around → Option AdaType
type_around (around.Task u) = u.of_type
type_around (around.Protected u) = u.of_type
type_around _ = None

-- it is this entity
abbrev pub is_entity : ℕ → Option ℕ → Bool
is_entity e None = false
is_entity e (Some x) = eqb e x

-- a construct stands in the body of this unit
unfoldable pub stands_in_unit : Known → ℕ → Bool
stands_in_unit k e = list_any (λ a. is_entity e (unit_around a)) k.around

-- it is this type
abbrev pub is_type : AdaType → Option AdaType → Bool
is_type t None = false
is_type t (Some u) = same_type t u

-- a construct stands in the body of a unit of this type
unfoldable pub stands_in_type : Known → AdaType → Bool
stands_in_type k t = list_any (λ a. is_type t (type_around a)) k.around

-- ---- library packages: their objects are in the environment's scope (10.2)

abbrev pub is_library_declaration : Names → DeclNo → Bool
is_library_declaration n d =
    unwrap_or (option_map (λ x. eqb x.scope 0) (slice_get n.declarations d.0)) false

-- an object of a library package
unfoldable pub is_library_object : Names → EntityKind → Bool
is_library_object n (entity.Object s constant value declaration) =
    is_library_declaration n declaration
is_library_object n _ = false
