-- What an expanded name or a selected component denotes (4.1.3): behind a package what it exports; behind a construct
-- that stands around the name what is declared in it; behind an object what its type's declaration exports.
use Rattle.std.specs.Prelude.{ℕ, Bool, false, List, [], ◌∷◌, Option, Some, None, option_map, slice_get, eqb}
use Rattle.std.specs.List.{find}
use Rattle.ada_tree.specs.declared.names.Identifier.{Identifier}
use Rattle.ada_tree.specs.declared.names.Name.{Name}
use Rattle.ada_regions.specs.declared.types.AdaType.{AdaType}
use Rattle.ada_regions.specs.declared.types.AdaType.TheVariants as types
use Rattle.ada_regions.specs.declared.types.Subtype.{Subtype}
use Rattle.ada_regions.specs.declared.entities.Denoted.{Denoted}
use Rattle.ada_regions.specs.declared.entities.Denoted.TheVariants as denotes
use Rattle.ada_regions.specs.declared.entities.Entity.{Entity}
use Rattle.ada_regions.specs.declared.entities.EntityKind.{EntityKind}
use Rattle.ada_regions.specs.declared.entities.EntityKind.TheVariants as entity
use Rattle.ada_regions.specs.declared.faults.NameFault.TheVariants as fault
use Rattle.ada_regions.specs.Words.{and_then}
use Rattle.std.specs.Option.{option_or}
use Rattle.ada_regions.specs.PredefinedUnits.{child_unit}
use Rattle.ada_regions.specs.declared.table.Names.{Names}
use Rattle.ada_regions.specs.declared.table.Frame.{Frame}
use Rattle.ada_regions.specs.Names.{binding_in, entity_at, denoted_at, noted, told}
use Rattle.ada_regions.specs.Visibility.{item_of, bound, exported_from, resolved}

-- ---- the region of a type's declaration

unfoldable pub region_of_type : Names → AdaType → Option ℕ
region_of_type n types.Integer = None
region_of_type n types.Boolean = None
region_of_type n types.Duration = None
region_of_type n (types.Enumeration e) = None
region_of_type n (types.Array a) = None
region_of_type n types.Time = None
region_of_type n types.TimeSpan = None
region_of_type n types.CpuTime = None
region_of_type n types.TaskId = None
region_of_type n types.TimingEvent = None
region_of_type n types.Timer = None
region_of_type n types.GroupBudget = None
region_of_type n types.LimitedControlled = None
region_of_type n types.Controlled = None
region_of_type n (types.Derived c) = option_map (λ x. x.region) (slice_get n.controlled_types c.0)
region_of_type n (types.Task u) = option_map (λ x. x.region) (slice_get n.task_units u.0)
region_of_type n (types.Protected u) = option_map (λ x. x.region) (slice_get n.protected_units u.0)

abbrev pub region_of_subtype : Names → Option Subtype → Option ℕ
region_of_subtype n s = and_then s (λ t. region_of_type n t.of_type)

-- the region whose exported names stand behind an entity's name
unfoldable pub region_selected : Names → Option ℕ → EntityKind → Option ℕ
region_selected n own entity.Package = own
region_selected n own entity.Main = None
region_selected n own (entity.Mark s) = None
region_selected n own (entity.Literal enumeration position) = None
region_selected n own (entity.Object s constant value declaration) = region_of_subtype n s
region_selected n own (entity.Parameter s mode declaration) = region_of_subtype n s
region_selected n own (entity.LoopParameter declaration) = None
region_selected n own (entity.Component s owner declaration) = region_of_subtype n s
region_selected n own (entity.Exception declaration) = None
region_selected n own (entity.Subprogram number is_function specified formals unit) = None
region_selected n own (entity.Entry number unit formals) = None
region_selected n own entity.Label = None

unfoldable pub exported_by : Names → List ℕ → Entity → Option Denoted
exported_by n name e = and_then (region_selected n e.region e.kind) (exported_from n name)

-- ---- constructs around the name

abbrev pub is_owned_by : ℕ → Option ℕ → Bool
is_owned_by e None = false
is_owned_by e (Some owner) = eqb owner e

abbrev pub frame_owned_by : ℕ → Frame → Bool
frame_owned_by e f = is_owned_by e f.owner

unfoldable pub declared_inside : Names → List ℕ → Frame → Option Denoted
declared_inside n name f = and_then (binding_in n.bindings f.region name) bound

abbrev pub selected_from_entity : Names → List ℕ → ℕ → Option Frame → Option Denoted
selected_from_entity n name e None = and_then (entity_at n e) (exported_by n name)
selected_from_entity n name e (Some f) = declared_inside n name f

-- ---- selecting

unfoldable pub selected : Names → List ℕ → Denoted → Option Denoted
selected n name (denotes.Entity e) = selected_from_entity n name e (find (frame_owned_by e) n.frames)
selected n name (denotes.Unit u) =
    option_or (item_of n.last_priority u name) (option_map denotes.Unit (child_unit u name))
selected n name (denotes.Item u item) = None

abbrev pub selection_answered : Identifier → Option Denoted → Names → Names
selection_answered i (Some d) n = noted i.place d n
selection_answered i None n = told (fault.Unknown i.place) n

-- the further parts of a name, behind what those before them denote; nothing is asked of parts behind an unknown one
abbrev pub parts_resolved : Option Denoted → List Identifier → Names → Names
parts_resolved prefix [] n = n
parts_resolved None (i ∷ rest) n = n
parts_resolved (Some d) (i ∷ rest) n =
    parts_resolved (selected n i.text d) rest (selection_answered i (selected n i.text d) n)

abbrev pub behind_first : Identifier → List Identifier → Names → Names
behind_first first others n = parts_resolved (denoted_at n first.place) others n

-- a name is used
unfoldable pub name_resolved : Name → Names → Names
name_resolved name n = behind_first name.parts.first name.parts.others (resolved name.parts.first n)
