-- Completions (3.11.1): the body of a declared subprogram, and those of task and protected units. A body that completes
-- nothing is a declaration itself (6.3), or stands alone, which is a matter of legality.
use Rattle.std.specs.Prelude.{ℕ, Bool, true, false, cond, ◌&&◌, ◌||◌, List, []}
use Rattle.std.specs.Prelude.{◌∷◌, Option, Some, None, is_some, map, eqb, suc}
use Rattle.std.specs.List.{list_any, filter}
use Rattle.ada_tree.specs.declared.names.Identifier.{Identifier}
use Rattle.ada_tree.specs.declared.declarations.SubprogramSpecification.{SubprogramSpecification}
use Rattle.profile_image.specs.declared.numbers.SubprogramNo.{SubprogramNo}
use Rattle.profile_image.specs.Words.{edit_at}
use Rattle.ada_regions.specs.declared.types.AdaType.{AdaType}
use Rattle.ada_regions.specs.declared.types.AdaType.TheVariants as types
use Rattle.ada_regions.specs.declared.entities.Denoted.TheVariants as denotes
use Rattle.ada_regions.specs.declared.entities.EntityKind.{EntityKind}
use Rattle.ada_regions.specs.declared.entities.EntityKind.TheVariants as entity
use Rattle.ada_regions.specs.declared.entities.ComponentOwner.{ComponentOwner}
use Rattle.ada_regions.specs.declared.entities.ComponentOwner.TheVariants as owner
use Rattle.ada_regions.specs.Words.{and_then}
use Rattle.ada_regions.specs.declared.entities.UnitKind.{UnitKind}
use Rattle.ada_regions.specs.declared.entities.UnitKind.TheVariants as unit
use Rattle.ada_regions.specs.declared.types.Formal.{Formal}
use Rattle.ada_regions.specs.declared.table.NumberedSubprogram.{NumberedSubprogram}
use Rattle.ada_regions.specs.declared.table.NumberedTask.{NumberedTask}
use Rattle.world_tables.specs.Tables.{item_at, put}
use Rattle.world_tables.specs.Lists.{rest_of}
use Rattle.ada_regions.specs.declared.table.Names.{Names}
use Rattle.ada_regions.specs.declared.table.Binding.{Binding}
use Rattle.ada_regions.specs.declared.table.Frame.{Frame}
use Rattle.ada_regions.specs.declared.table.Enclosure.{Enclosure}
use Rattle.ada_regions.specs.Names.{binding_in, innermost_frame, enclosure_of, region_here, opened}
use Rattle.ada_regions.specs.Names.{scope_in, kind_at, region_of_entity, entity_denoted, noted}
use Rattle.ada_regions.specs.Subtypes.{formals_of}
use Rattle.ada_regions.specs.Visibility.{resolved}
use Rattle.ada_regions.specs.Declaring.{hidden, subprogram_declared, type_of_kind}
use Rattle.ada_regions.specs.TypeKinds.{is_task_type, is_protected_type}

-- ---- subprograms

-- the number of a subprogram that a subprogram declaration declares
abbrev pub specified_number : EntityKind → Option SubprogramNo
specified_number entity.Package = None
specified_number entity.Main = None
specified_number (entity.Mark s) = None
specified_number (entity.Literal enumeration position) = None
specified_number (entity.Object s constant value declaration) = None
specified_number (entity.Parameter s mode declaration) = None
specified_number (entity.LoopParameter declaration) = None
specified_number (entity.Component s owner declaration) = None
specified_number (entity.Exception declaration) = None
specified_number (entity.Subprogram number is_function specified formals unit) = cond specified (Some number) None
specified_number (entity.Entry number unit formals) = None
specified_number entity.Label = None

abbrev pub entity_bound : Names → ℕ → List ℕ → Option ℕ
entity_bound n region name = and_then (binding_in n.bindings region name) (λ b. b.entity)

-- the subprogram that a body in this region completes: the one that is declared there under its name
abbrev pub is_specified : Names → ℕ → Bool
is_specified n e = is_some (and_then (kind_at n e) specified_number)

unfoldable pub completed_in : Names → ℕ → List ℕ → Option ℕ
completed_in n region name = and_then (entity_bound n region name) (λ e. cond (is_specified n e) (Some e) None)

-- the name before a body's profile is hidden where it declares the subprogram
unfoldable pub headed : Identifier → Names → Names
headed i n = cond (is_some (completed_in n (region_here n) i.text)) n (hidden i n)

-- the region of a body is that of its entity from here on, and has its name in expanded names
unfoldable pub owned : Option ℕ → List ℕ → Names → Names
owned e name n = record n {
  frames = record (innermost_frame n.frames) { owner = e; name = Some name } ∷ rest_of n.frames;
}

abbrev pub with_body : ℕ → Names → Names
with_body e n = record n { bodies = e ∷ n.bodies }

abbrev pub with_body_of : ℕ → List Formal → NumberedSubprogram → NumberedSubprogram
with_body_of scope formals x = record x { scope = scope; formals = formals }

abbrev pub body_numbered : SubprogramSpecification → Names → SubprogramNo → Names
body_numbered s n number =
    record n {
      subprograms = edit_at number.0 (with_body_of (scope_in n.frames) (formals_of n s.parameters)) n.subprograms;
    }

unfoldable pub numbered_if : SubprogramSpecification → Names → Option SubprogramNo → Names
numbered_if s n None = n
numbered_if s n (Some number) = body_numbered s n number

unfoldable pub body_of_declared : ℕ → Identifier → SubprogramSpecification → Names → Names
body_of_declared e i s n =
    noted i.place (denotes.Entity e) (with_body e (numbered_if s n (and_then (kind_at n e) specified_number)))

unfoldable pub completed_or_declared : Enclosure → Option ℕ → Identifier → SubprogramSpecification → Names → Names
completed_or_declared outer (Some e) i s n = body_of_declared e i s n
completed_or_declared outer None i s n = subprogram_declared outer false (scope_in n.frames) i s n

-- the `is` of a subprogram's body
unfoldable pub completed : Identifier → SubprogramSpecification → Names → Names
completed i s n =
    let outer = enclosure_of (innermost_frame (rest_of n.frames)) in
    let m = completed_or_declared outer (completed_in n outer.region i.text) i s n in
    owned (entity_denoted m i.place) i.text m

-- ---- task and protected units

abbrev pub is_of_kind : UnitKind → AdaType → Bool
is_of_kind unit.Task t = is_task_type t
is_of_kind unit.Protected t = is_protected_type t

abbrev pub type_is : UnitKind → Option AdaType → Bool
type_is kind None = false
type_is kind (Some t) = is_of_kind kind t

-- whether an entity is a unit of this kind, and no other object of its type
unfoldable pub is_unit : UnitKind → Names → ℕ → Bool
is_unit test n e = is_some (region_of_entity n e) && type_is test (and_then (kind_at n e) type_of_kind)

abbrev pub is_component : EntityKind → Bool
is_component (entity.Component s owner declaration) = true
is_component _ = false

abbrev pub holds_of : (EntityKind → Bool) → Option EntityKind → Bool
holds_of test None = false
holds_of test (Some kind) = test kind

-- what a unit declares, as its body sees it
abbrev pub is_declared_in_unit : Names → Binding → Bool
is_declared_in_unit n b = is_some b.entity && (b.exported || holds_of is_component (and_then b.entity (kind_at n)))

-- a body that completes nothing sees what the unit declares, in a region of its own
abbrev pub bound_again : Binding → Binding
bound_again b = record b { exported = false }

abbrev pub seen_among : Names → Option (List Binding) → List Binding
seen_among n None = []
seen_among n (Some bound) = map bound_again (filter (is_declared_in_unit n) bound)

unfoldable pub seen_again : Names → ℕ → List Binding
seen_again n region = seen_among n (item_at region n.bindings)

abbrev pub body_frame : ℕ → Option ℕ → Identifier → Option ℕ → Frame
body_frame region e i scope =
    record {
      region = region;
      owner = e;
      scope = scope;
      is_accept = false;
      name = Some i.text;
      exports = false;
      components = None;
      part = 0;
    }

unfoldable pub body_apart : Option ℕ → Identifier → Option ℕ → List Binding → Names → Names
body_apart e i scope seen n =
    opened (body_frame n.regions e i scope) (record n {
      regions = suc n.regions;
      bindings = put n.regions seen n.bindings;
    })

abbrev pub components_in : AdaType → Option ComponentOwner
components_in (types.Protected u) = Some (owner.Protected u)
components_in (types.Derived c) = Some (owner.Controlled c)
components_in _ = None

abbrev pub components_of : Option AdaType → Option ComponentOwner
components_of None = None
components_of (Some t) = components_in t

abbrev pub with_scope_of : ℕ → NumberedTask → NumberedTask
with_scope_of scope x = record x { scope = scope }

-- the body of a task unit has its scope
abbrev pub task_numbered : AdaType → ℕ → Names → Names
task_numbered (types.Task u) scope n = record n { task_units = edit_at u.0 (with_scope_of scope) n.task_units }
task_numbered _ scope n = n

unfoldable pub task_scoped : Option AdaType → Option ℕ → Names → Names
task_scoped None scope n = n
task_scoped (Some t) None n = n
task_scoped (Some t) (Some scope) n = task_numbered t scope n

unfoldable pub body_of_unit : ℕ → ℕ → Identifier → Option ℕ → Names → Names
body_of_unit e region i scope n =
    let t = and_then (kind_at n e) type_of_kind in
    with_body e (task_scoped t scope (opened
    (record (body_frame region (Some e) i scope) { components = components_of t }) n))

abbrev pub has_body : Names → ℕ → Bool
has_body n e = list_any (eqb e) n.bodies

unfoldable pub first_body : ℕ → Option ℕ → Identifier → Option ℕ → Names → Names
first_body e None i scope n = body_apart None i scope [] n
first_body e (Some region) i scope n =
    cond (has_body n e) (body_apart (Some e) i scope (seen_again n region) n) (body_of_unit e region i scope n)

unfoldable pub later_body : ℕ → Option ℕ → Identifier → Option ℕ → Names → Names
later_body e None i scope n = body_apart None i scope [] n
later_body e (Some region) i scope n = body_apart (Some e) i scope (seen_again n region) n

-- a body whose name its own region declares
unfoldable pub body_here : UnitKind → ℕ → Identifier → Option ℕ → Names → Names
body_here test e i scope n =
    cond (is_unit test n e) (first_body e (region_of_entity n e) i scope (noted i.place (denotes.Entity e) n))
    (body_apart None i scope [] n)

-- a body whose name denotes something further out, or nothing
unfoldable pub body_elsewhere : UnitKind → Option ℕ → Identifier → Option ℕ → Names → Names
body_elsewhere test None i scope n = body_apart None i scope [] n
body_elsewhere test (Some e) i scope n =
    cond (is_unit test n e) (later_body e (region_of_entity n e) i scope n) (body_apart None i scope [] n)

unfoldable pub body_sought : UnitKind → Identifier → Option ℕ → Names → Names
body_sought test i scope n = body_elsewhere test (entity_denoted n i.place) i scope n

abbrev pub body_begun_at : UnitKind → Option ℕ → Identifier → Option ℕ → Names → Names
body_begun_at test (Some e) i scope n = body_here test e i scope n
body_begun_at test None i scope n = body_sought test i scope (resolved i n)

unfoldable pub body_begun : UnitKind → Identifier → Option ℕ → Names → Names
body_begun test i scope n = body_begun_at test (entity_bound n (region_here n) i.text) i scope n

-- ---- entry bodies: an entry of the unit, else whatever the name denotes (9.5.2)

abbrev pub entry_noted : Option ℕ → Identifier → Names → Names
entry_noted (Some e) i n = noted i.place (denotes.Entity e) n
entry_noted None i n = resolved i n

unfoldable pub entry_mentioned : Identifier → Names → Names
entry_mentioned i n = entry_noted (entity_bound n (region_here n) i.text) i n
