-- Declarative regions (8.1): which region begins with each construct, and what is known of it while it is open.
use Rattle.std.specs.Prelude.{ℕ, suc, Bool, true, false, cond, List, [], ◌∷◌}
use Rattle.std.specs.Prelude.{◌++◌, Option, Some, None, length, option_map, eqb}
use Rattle.std.specs.List.{find}
use Rattle.ann_base.specs.declared.places.Place.{Place}
use Rattle.ada_tree.specs.declared.names.Identifier.{Identifier}
use Rattle.ada_tree.specs.declared.names.Name.{Name}
use Rattle.ada_tree.specs.declared.expressions.Expression.{Expression}
use Rattle.profile_image.specs.declared.numbers.EntryNo.{EntryNo}
use Rattle.profile_image.specs.Words.{edit_at}
use Rattle.ada_regions.specs.declared.types.AdaType.{AdaType}
use Rattle.ada_regions.specs.declared.predefined.PredefinedUnit.{PredefinedUnit}
use Rattle.ada_regions.specs.declared.predefined.PredefinedUnit.TheVariants as units
use Rattle.ada_regions.specs.declared.entities.Denoted.{Denoted}
use Rattle.ada_regions.specs.declared.entities.Denoted.TheVariants as denotes
use Rattle.ada_regions.specs.declared.entities.EntityKind.{EntityKind}
use Rattle.ada_regions.specs.declared.entities.EntityKind.TheVariants as entity
use Rattle.ada_regions.specs.Words.{and_then}
use Rattle.std.specs.Option.{option_or}
use Rattle.world_tables.specs.Lists.{rest_of}
use Rattle.ada_regions.specs.PredefinedUnits.{root_unit, child_unit, same_unit}
use Rattle.ada_regions.specs.Occurrences.{Region, the_context, the_context_of, further_context, package_region}
use Rattle.ada_regions.specs.Occurrences.{package_body, main_body, a_profile, subprogram_body, a_unit, task_body}
use Rattle.ada_regions.specs.Occurrences.{protected_body, entry_body, an_accept, a_block, a_loop, a_record}
use Rattle.ada_regions.specs.declared.entities.UnitKind.TheVariants as unit
use Rattle.ada_regions.specs.declared.table.NumberedEntry.{NumberedEntry}
use Rattle.ada_regions.specs.declared.table.Names.{Names}
use Rattle.ada_regions.specs.declared.table.Frame.{Frame}
use Rattle.ada_regions.specs.declared.table.PackageContext.{PackageContext}
use Rattle.ada_regions.specs.Names.{no_frame, innermost_frame, opened, region_here, scope_in, kind_at}
use Rattle.ada_regions.specs.Names.{region_of_entity, entity_denoted, denoted_by, noted, last_part}
use Rattle.ada_regions.specs.SelectedNames.{name_resolved}
use Rattle.ada_regions.specs.Declaring.{library_frame, type_of_kind}
use Rattle.ada_regions.specs.Completions.{entity_bound, holds_of, body_begun, body_apart, components_of}

-- ---- frames

-- a region that begins for the first time
abbrev pub opened_new : Frame → Names → Names
opened_new f n = opened (record f { region = n.regions }) (record n { regions = suc n.regions })

-- a scope is new; the innermost open one stands around it
abbrev pub with_scope : Place → Bool → Bool → Names → Names
with_scope place is_function is_accept n = record n {
  scopes =
      n.scopes ++ record {
        place = place;
        outer = Some (scope_in n.frames);
        is_function = is_function;
        is_accept = is_accept;
      } ∷ [];
}

abbrev pub next_scope : Names → Option ℕ
next_scope n = Some (length n.scopes)

abbrev pub frame_with_scope : Option ℕ → Option ℕ → Option (List ℕ) → Frame
frame_with_scope scope e name = record {
  region = 0;
  owner = e;
  scope = scope;
  is_accept = false;
  name = name;
  exports = false;
  components = None;
  part = 0;
}

-- a construct with a region and a scope of its own
unfoldable pub scope_begun : Place → Bool → Option ℕ → Option (List ℕ) → Names → Names
scope_begun place is_function e name n =
    opened_new (frame_with_scope (next_scope n) e name) (with_scope place is_function false n)

-- ---- library units (10.1): a package's body has the region and the context of its declaration

abbrev pub is_package : EntityKind → Bool
is_package entity.Package = true
is_package _ = false

abbrev pub package_if : Names → ℕ → Option ℕ
package_if n e = cond (holds_of is_package (kind_at n e)) (Some e) None

unfoldable pub package_named : Names → List ℕ → Option ℕ
package_named n name = and_then (entity_bound n library_frame.region name) (package_if n)

unfoldable pub context_of_package : Names → ℕ → Option PackageContext
context_of_package n e = find (λ c. eqb c.of_package e) n.contexts

unfoldable pub context_again : Option PackageContext → Names → Names
context_again None n = opened_new no_frame (record n { withs = [] })
context_again (Some c) n = opened (record no_frame { region = c.region }) (record n { withs = c.withs })

abbrev pub frame_of_package : ℕ → Identifier → Bool → ℕ → Frame
frame_of_package e i exports region = record {
  region = region;
  owner = Some e;
  scope = None;
  is_accept = false;
  name = Some i.text;
  exports = exports;
  components = None;
  part = 0;
}

abbrev pub with_context : ℕ → Names → Names
with_context e n = record n {
  contexts = record { of_package = e; region = region_here n; withs = n.withs } ∷ n.contexts;
}

abbrev pub package_opened : ℕ → Identifier → Bool → Option ℕ → Names → Names
package_opened e i exports None n = body_apart None i None [] n
package_opened e i exports (Some region) n = opened (frame_of_package e i exports region) n

unfoldable pub package_begun : Option ℕ → Identifier → Names → Names
package_begun None i n = body_apart None i None [] n
package_begun (Some e) i n = package_opened e i true (region_of_entity n e) (with_context e n)

unfoldable pub package_body_begun : Option ℕ → Identifier → Names → Names
package_body_begun None i n = body_apart None i None [] n
package_body_begun (Some e) i n = package_opened e i false (region_of_entity n e) (noted i.place (denotes.Entity e) n)

-- ---- units and records: their region is that of their entity

abbrev pub unit_frame : ℕ → Identifier → Option AdaType → ℕ → Frame
unit_frame e i t region =
    record {
      region = region;
      owner = Some e;
      scope = None;
      is_accept = false;
      name = Some i.text;
      exports = true;
      components = components_of t;
      part = 0;
    }

abbrev pub record_frame : Identifier → Option AdaType → ℕ → Frame
record_frame i t region =
    record {
      region = region;
      owner = None;
      scope = None;
      is_accept = false;
      name = Some i.text;
      exports = true;
      components = components_of t;
      part = 0;
    }

abbrev pub type_at : Names → Option ℕ → Option AdaType
type_at n e = and_then e (λ x. and_then (kind_at n x) type_of_kind)

abbrev pub region_at : Names → Option ℕ → Option ℕ
region_at n e = and_then e (region_of_entity n)

abbrev pub entity_or_none : Option ℕ → ℕ
entity_or_none None = 0
entity_or_none (Some e) = e

abbrev pub opened_if : Option Frame → Names → Names
opened_if None n = opened_new no_frame n
opened_if (Some f) n = opened f n

unfoldable pub unit_begun : Option ℕ → Identifier → Names → Names
unit_begun e i n = opened_if (option_map (unit_frame (entity_or_none e) i (type_at n e)) (region_at n e)) n

unfoldable pub record_begun : Option ℕ → Identifier → Names → Names
record_begun e i n = opened_if (option_map (record_frame i (type_at n e)) (region_at n e)) n

-- ---- accepts, blocks, loops

abbrev pub accept_frame : Option ℕ → Option ℕ → Frame
accept_frame scope e = record {
  region = 0;
  owner = e;
  scope = scope;
  is_accept = true;
  name = None;
  exports = false;
  components = None;
  part = 0;
}

abbrev pub label_entity : Names → Option Identifier → Option ℕ
label_entity n label = and_then label (λ l. entity_denoted n l.place)

abbrev pub label_text : Option Identifier → Option (List ℕ)
label_text label = option_map (λ l. l.text) label

abbrev pub loop_frame : Option ℕ → Frame
loop_frame e = record {
  region = 0;
  owner = e;
  scope = None;
  is_accept = false;
  name = None;
  exports = false;
  components = None;
  part = 0;
}

abbrev pub is_entry : EntityKind → Bool
is_entry (entity.Entry number unit formals) = true
is_entry _ = false

unfoldable pub entry_owner : Names → Option ℕ → Option ℕ
entry_owner n e = and_then e (λ x. cond (holds_of is_entry (kind_at n x)) (Some x) None)

abbrev pub entry_number : EntityKind → Option EntryNo
entry_number (entity.Entry number unit formals) = Some number
entry_number _ = None

abbrev pub with_entry_body : Expression → ℕ → NumberedEntry → NumberedEntry
with_entry_body barrier scope e = record e { body = Some (record { barrier = barrier; scope = scope }) }

unfoldable pub entry_body_numbered : Expression → Names → Option EntryNo → Names
entry_body_numbered barrier n None = n
entry_body_numbered barrier n (Some number) =
    record n { entries = edit_at number.0 (with_entry_body barrier (length n.scopes)) n.entries }

unfoldable pub entry_body_begun : Option ℕ → Place → Expression → Names → Names
entry_body_begun e place barrier n =
    scope_begun place false e None (entry_body_numbered barrier n
    (and_then e (λ x. and_then (kind_at n x) entry_number)))

-- ---- all regions

unfoldable pub begun : Region → Names → Names
begun the_context n = opened_new no_frame (record n { withs = [] })
begun (the_context_of i) n = context_again (and_then (package_named n i.text) (context_of_package n)) n
begun further_context n = opened_new no_frame n
begun (package_region i) n = package_begun (entity_denoted n i.place) i n
begun (package_body i) n = package_body_begun (package_named n i.text) i n
begun (main_body i place) n = scope_begun place false (entity_denoted n i.place) (Some i.text) n
begun a_profile n = opened_new no_frame n
begun (subprogram_body place is_function) n = scope_begun place is_function None None n
begun (a_unit i) n = unit_begun (entity_denoted n i.place) i n
begun (task_body i place) n = body_begun unit.Task i (next_scope n) (with_scope place false false n)
begun (protected_body i) n = body_begun unit.Protected i None n
begun (entry_body i place barrier) n = entry_body_begun (entry_owner n (entity_denoted n i.place)) place barrier n
begun (an_accept i place) n =
    opened_new (accept_frame (next_scope n) (entity_denoted n i.place)) (with_scope place false true n)
begun (a_block label place) n = scope_begun place false (label_entity n label) (label_text label) n
begun (a_loop label) n = opened_new (loop_frame (label_entity n label)) n
begun (a_record i) n = record_begun (entity_denoted n i.place) i n

abbrev pub ended : Names → Names
ended n = record n { frames = rest_of n.frames }

-- behind `private` nothing is exported
abbrev pub made_private : Names → Names
made_private n = record n { frames = record (innermost_frame n.frames) { exports = false } ∷ rest_of n.frames }

abbrev pub named_as : Identifier → Names → Names
named_as i n = record n { frames = record (innermost_frame n.frames) { name = Some i.text } ∷ rest_of n.frames }

-- ---- with and use clauses (10.1.2, 8.4)

abbrev pub unit_behind : Option PredefinedUnit → List Identifier → Option PredefinedUnit
unit_behind unit [] = unit
unit_behind None (i ∷ rest) = None
unit_behind (Some u) (i ∷ rest) = unit_behind (child_unit u i.text) rest

-- the predefined unit of this full name
unfoldable pub unit_named : Name → Option PredefinedUnit
unit_named name = unit_behind (root_unit name.parts.first.text) name.parts.others

-- Ada alone is no library unit of this profile
abbrev pub unit_to_with : PredefinedUnit → Option Denoted
unit_to_with u = cond (same_unit u units.Ada) None (Some (denotes.Unit u))

abbrev pub package_to_with : Names → Name → List Identifier → Option Denoted
package_to_with n name [] = option_map denotes.Entity (package_named n name.parts.first.text)
package_to_with n name (i ∷ rest) = None

-- the library unit that a with clause names: a predefined one, or an earlier package
unfoldable pub library_unit : Names → Name → Option Denoted
library_unit n name = option_or (and_then (unit_named name) unit_to_with) (package_to_with n name name.parts.others)

unfoldable pub withed : Name → Option Denoted → Names → Names
withed name None n = n
withed name (Some d) n = noted (last_part name).place d (record n { withs = d ∷ n.withs })

abbrev pub is_used_package : Names → Denoted → Bool
is_used_package n (denotes.Entity e) = holds_of is_package (kind_at n e)
is_used_package n (denotes.Unit u) = true
is_used_package n (denotes.Item u item) = false

abbrev pub used_if : Option Denoted → Names → Names
used_if None n = n
used_if (Some d) n =
    cond (is_used_package n d) (record n { uses = n.uses ++ record { region = region_here n; used = d } ∷ [] }) n

unfoldable pub used : Name → Names → Names
used name n = let m = name_resolved name n in used_if (denoted_by m name) m
