-- Attributes (3.5, 9.9, C.7.1, 3.10.2), variables (3.3), and the unit in whose body a name stands.
use Rattle.ada_image.specs.ImageOfExpressions.{prefix_part}
use Rattle.ada_legality.specs.Types.{has_ranges, is_discrete, typed_as, typed_if}
use Rattle.ada_legality.specs.Values.{denoted_kind, entity_of_name, is_kind, is_library_object, is_object_kind, is_type}
use Rattle.ada_legality.specs.Values.{kind_of_name, stands_in_type, subtype_of_entity, type_around, unit_around}
use Rattle.ada_legality.specs.Words.{body_around}
use Rattle.ada_legality.specs.declared.reading.Typed.{Typed}
use Rattle.ada_legality.specs.declared.standing.Around.{Around}
use Rattle.ada_legality.specs.declared.standing.Known.{Known}
use Rattle.ada_regions.specs.Completions.{holds_of}
use Rattle.ada_regions.specs.Names.{denoted_by, entity_denoted, kind_at}
use Rattle.ada_regions.specs.Subtypes.{mark_denoted}
use Rattle.ada_regions.specs.Words.{and_then}
use Rattle.std.specs.Option.{option_or}
use Rattle.ada_regions.specs.declared.entities.Denoted.{Denoted}
use Rattle.ada_regions.specs.declared.entities.EntityKind.{EntityKind}
use Rattle.ada_regions.specs.declared.types.AdaType.{AdaType}
use Rattle.ada_regions.specs.declared.types.Mode.{Mode}
use Rattle.ada_regions.specs.TypeKinds.{is_task_type}
use Rattle.ada_tree.specs.declared.names.Identifier.{Identifier}
use Rattle.ada_tree.specs.declared.names.Name.{Name}
use Rattle.ada_tree.specs.declared.operators.Attribute.{Attribute}
use Rattle.profile_image.specs.declared.declarations.EntryUnit.{EntryUnit}
use Rattle.profile_image.specs.declared.numbers.ProtectedUnitNo.{ProtectedUnitNo}
use Rattle.std.specs.Prelude.{Bool, List, None, Option, Some, cond, false, find}
use Rattle.std.specs.Prelude.{not, option_map, slice_get, true, unwrap_or, ℕ, ◌&&◌}
use Rattle.ada_legality.specs.declared.standing.Around.TheVariants as around
use Rattle.ada_tree.specs.declared.operators.Attribute.TheVariants as attribute
use Rattle.ada_regions.specs.declared.entities.EntityKind.TheVariants as entity
use Rattle.profile_image.specs.declared.declarations.EntryUnit.TheVariants as entry_unit
use Rattle.ada_regions.specs.declared.types.Mode.TheVariants as mode
use Rattle.ada_regions.specs.declared.types.AdaType.TheVariants as types
use Rattle.ada_legality.specs.declared.reading.Typed.TheVariants as typing

-- ---- attributes (3.5, 9.9, C.7.1, 3.10.2)

-- the type of an array's index
unfoldable pub type_of_index : Known → AdaType → Option AdaType
type_of_index k (types.Array a) = slice_get k.indexes a
type_of_index k t = None

-- First and Last of a subtype of values in an order, or of an array type
unfoldable pub type_of_mark_ends : Known → AdaType → Option AdaType
type_of_mark_ends k t = cond (has_ranges t) (Some t) (type_of_index k t)

-- the type of First and Last of a subtype
unfoldable pub ends_of_mark : Known → Denoted → Option AdaType
ends_of_mark k d = and_then (mark_denoted k.names d) (λ s. type_of_mark_ends k s.of_type)

-- First and Last of an array
unfoldable pub ends_of_object : Known → Denoted → Option AdaType
ends_of_object k d = and_then (subtype_of_entity k d) (λ s. type_of_index k s.of_type)

-- the type of First and Last
unfoldable pub type_of_ends : Known → Denoted → Option AdaType
type_of_ends k d = option_or (ends_of_mark k d) (ends_of_object k d)

-- Image of a discrete subtype
unfoldable pub has_images : Known → Denoted → Bool
has_images k d = unwrap_or (option_map (λ s. is_discrete s.of_type) (mark_denoted k.names d)) false

-- the body is that of a task of this type
abbrev pub is_task_body : AdaType → Around → Bool
is_task_body t (around.Task u) = is_type t u.of_type
is_task_body t _ = false

-- a task's entry, in the task's body itself, and a protected unit's entry in the unit's body (9.9)
unfoldable pub in_own_task : AdaType → List Around → Bool
in_own_task t outer = unwrap_or (option_map (is_task_body t) (body_around outer)) false

-- an entry whose Count may be asked here
unfoldable pub has_count : Known → EntityKind → Bool
has_count k (entity.Entry number (entry_unit.Task u) formals) =
    in_own_task (types.Task u) k.around
has_count k (entity.Entry number (entry_unit.Protected u) formals) =
    stands_in_type k (types.Protected u)
has_count k _ = false

-- Identity of a task object
unfoldable pub is_task_object : Known → Denoted → Bool
is_task_object k d =
    unwrap_or (option_map (λ s. is_task_type s.of_type) (subtype_of_entity k d)) false

-- ---- handlers (C.3.1): the object before a protected procedure's name is its single object, where
-- the name stands in the
-- unit's body

unfoldable pub protected_procedure : EntityKind → Option ProtectedUnitNo
protected_procedure (entity.Subprogram number is_function specified formals unit) =
    cond is_function None unit
protected_procedure _ = None

-- the object before the last part of a name
unfoldable pub object_prefix : Known → Name → Option ℕ
object_prefix k name =
    and_then (prefix_part name)
    (λ i. and_then (entity_denoted k.names i.place)
    (λ e. cond (holds_of is_object_kind (kind_at k.names e)) (Some e) None))

-- the object of a protected unit's own operation: the unit itself, where that is a single object
unfoldable pub single_object : List Around → AdaType → Option ℕ
single_object outer t =
    and_then (find (λ a. is_type t (type_around a)) outer) unit_around

-- the object whose procedure a name denotes
unfoldable pub handler_object : Known → Name → ProtectedUnitNo → Option ℕ
handler_object k name u =
    option_or (object_prefix k name) (single_object k.around (types.Protected u))

-- an entity that is an object of a library package
unfoldable pub is_library_entity : Known → ℕ → Bool
is_library_entity k e = unwrap_or (option_map (is_library_object k.names) (kind_at k.names e)) false

-- a procedure of a library-level protected object
unfoldable pub is_handler_of : Known → Name → ProtectedUnitNo → Bool
is_handler_of k name u =
    unwrap_or (option_map (is_library_entity k) (handler_object k name u)) false

-- a name denotes a procedure of a library-level protected object
unfoldable pub is_library_handler : Known → Name → Bool
is_library_handler k name =
    unwrap_or
    (option_map (is_handler_of k name) (and_then (kind_of_name k name) protected_procedure)) false

-- a handler, where Access may be asked
unfoldable pub typed_access : Known → Name → Typed
typed_access k name =
    cond (is_library_handler k name)
    (unwrap_or (option_map typing.OfHandler (entity_of_name k name)) typing.WithoutType) typing.WithoutType

-- ---- the types of attributes

unfoldable pub typed_attribute : Known → Name → Denoted → Attribute → Typed
typed_attribute k name d attribute.First = typed_if (type_of_ends k d)
typed_attribute k name d attribute.Last = typed_if (type_of_ends k d)
typed_attribute k name d attribute.Image = cond (has_images k d) typing.OfText typing.WithoutType
typed_attribute k name d attribute.Count =
    cond (holds_of (has_count k) (denoted_kind k.names d)) (typed_as types.Integer) typing.WithoutType
typed_attribute k name d attribute.Identity =
    cond (is_task_object k d) (typed_as types.TaskId) typing.WithoutType
typed_attribute k name d attribute.Access = typed_access k name

-- Image alone has an argument
abbrev pub takes_arguments : Attribute → Bool
takes_arguments attribute.Image = true
takes_arguments _ = false

-- the type of an attribute
unfoldable pub typed_attribute_of : Known → Name → Attribute → Bool → Typed
typed_attribute_of k name a has_arguments =
    cond (has_arguments && not (takes_arguments a)) typing.WithoutType
    (unwrap_or (option_map (λ d. typed_attribute k name d a) (denoted_by k.names name))
    typing.WithoutType)

-- ---- variables (3.3): what may be assigned

abbrev pub is_in_mode : Mode → Bool
is_in_mode mode.In = true
is_in_mode _ = false

-- a variable by itself
abbrev pub is_variable_kind : EntityKind → Bool
is_variable_kind (entity.Object s constant value declaration) = not constant
is_variable_kind (entity.Parameter s mode declaration) = not (is_in_mode mode)
is_variable_kind (entity.Component s owner declaration) = true
is_variable_kind _ = false

-- a component is one of a variable too, where an object stands before it
unfoldable pub prefix_is_variable : Known → Name → Bool
prefix_is_variable k name =
    unwrap_or
    (option_map (λ e. holds_of is_variable_kind (kind_at k.names e)) (object_prefix k name)) true

-- a name of a variable
unfoldable pub is_variable : Known → Name → Bool
is_variable k name = is_kind is_variable_kind k name && prefix_is_variable k name

-- ---- entries of the unit around

abbrev pub type_of_entry_unit : EntryUnit → AdaType
type_of_entry_unit (entry_unit.Task u) = types.Task u
type_of_entry_unit (entry_unit.Protected u) = types.Protected u

-- the type of an entry's unit
unfoldable pub unit_type_of_entry : EntityKind → Option AdaType
unit_type_of_entry (entity.Entry number unit formals) = Some (type_of_entry_unit unit)
unit_type_of_entry _ = None

-- what the entity is that an identifier denotes
unfoldable pub kind_of_identifier : Known → Identifier → Option EntityKind
kind_of_identifier k i = and_then (entity_denoted k.names i.place) (kind_at k.names)

-- a protected body
abbrev pub is_protected_body : Around → Bool
is_protected_body (around.Protected u) = true
is_protected_body _ = false

-- the protected unit in whose body a construct stands
unfoldable pub innermost_unit : Known → Option AdaType
innermost_unit k = and_then (find is_protected_body k.around) type_around

-- both are one type
abbrev pub is_type_in : Option AdaType → Option AdaType → Bool
is_type_in None t = false
is_type_in (Some u) t = is_type u t

-- an entry of the protected unit in whose body its name stands
unfoldable pub is_own_entry : Known → Identifier → Bool
is_own_entry k i =
    is_type_in (and_then (kind_of_identifier k i) unit_type_of_entry) (innermost_unit k)
