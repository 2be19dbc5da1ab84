-- The table of a text: its regions (8.1), the bindings of names in them, and the entities that it declares.
use Rattle.std.specs.Prelude.{ℕ, suc, Bool, false, cond, List, [], ◌∷◌, ◌++◌, Option, Some, None, slice_get, option_map}
use Rattle.std.specs.List.{find}
use Rattle.std.specs.Str.{bytes_eq}
use Rattle.ann_base.specs.declared.places.Place.{Place}
use Rattle.ada_tree.specs.declared.names.Identifier.{Identifier}
use Rattle.ada_tree.specs.declared.names.Name.{Name}
use Rattle.ada_regions.specs.declared.entities.Denoted.{Denoted}
use Rattle.ada_regions.specs.declared.entities.Denoted.TheVariants as denotes
use Rattle.ada_regions.specs.declared.entities.Entity.{Entity}
use Rattle.ada_regions.specs.declared.entities.EntityKind.{EntityKind}
use Rattle.ada_regions.specs.declared.table.Binding.{Binding}
use Rattle.ada_regions.specs.declared.table.Frame.{Frame}
use Rattle.ada_regions.specs.declared.table.Enclosure.{Enclosure}
use Rattle.ada_regions.specs.declared.table.Names.{Names}
use Rattle.ada_regions.specs.declared.faults.NameFault.{NameFault}
use Rattle.ada_regions.specs.declared.faults.NameFault.TheVariants as fault
use Rattle.world_tables.specs.Tables.{item_at, with_item, put}
use Rattle.ada_regions.specs.Words.{stands_before, and_then, last_from}

-- ---- faults: the earliest in the order of the text

abbrev pub place_of_fault : NameFault → Place
place_of_fault (fault.Unknown place) = place
place_of_fault (fault.Twice place) = place
place_of_fault (fault.Ambiguous place) = place

abbrev pub earlier : Option NameFault → NameFault → NameFault
earlier None f = f
earlier (Some g) f = cond (stands_before (place_of_fault f) (place_of_fault g)) f g

abbrev pub told : NameFault → Names → Names
told f n = record n { fault = Some (earlier n.fault f) }

-- ---- denotations

-- by the line of a name, and there by its column
abbrev pub Denotations : Type 0
Denotations = List (ℕ × List (ℕ × Denoted))

abbrev pub noted_among : Option (List (ℕ × Denoted)) → Place → Denoted → Denotations → Denotations
noted_among None place d lines = put place.line (put place.column d []) lines
noted_among (Some columns) place d lines = with_item place.line (put place.column d columns) lines

abbrev pub noted_in : Place → Denoted → Denotations → Denotations
noted_in place d lines = noted_among (item_at place.line lines) place d lines

abbrev pub noted : Place → Denoted → Names → Names
noted place d n = record n { denotations = noted_in place d n.denotations }

-- what the name at this place denotes
abbrev pub denoted_in : Denotations → Place → Option Denoted
denoted_in lines place = and_then (item_at place.line lines) (item_at place.column)

abbrev pub denoted_at : Names → Place → Option Denoted
denoted_at n place = denoted_in n.denotations place

abbrev pub last_part : Name → Identifier
last_part name = last_from name.parts.first name.parts.others

abbrev pub denoted_by : Names → Name → Option Denoted
denoted_by n name = denoted_at n (last_part name).place

abbrev pub entity_at : Names → ℕ → Option Entity
entity_at n e = slice_get n.entities e

abbrev pub kind_at : Names → ℕ → Option EntityKind
kind_at n e = option_map (λ x. x.kind) (entity_at n e)

abbrev pub region_of_entity : Names → ℕ → Option ℕ
region_of_entity n e = and_then (entity_at n e) (λ x. x.region)

-- the entity that a name denotes
abbrev pub entity_of : Denoted → Option ℕ
entity_of (denotes.Entity e) = Some e
entity_of (denotes.Unit u) = None
entity_of (denotes.Item u i) = None

abbrev pub entity_denoted : Names → Place → Option ℕ
entity_denoted n place = and_then (denoted_at n place) entity_of

-- ---- bindings

-- by the number of a region the names that it binds, the newest first
abbrev pub Bindings : Type 0
Bindings = List (ℕ × List Binding)

abbrev pub binds : List ℕ → Binding → Bool
binds name b = bytes_eq b.name name

abbrev pub binding_in : Bindings → ℕ → List ℕ → Option Binding
binding_in bindings region name = and_then (item_at region bindings) (find (binds name))

-- a region binds one more name
abbrev pub bound_among : Option (List Binding) → ℕ → Binding → Bindings → Bindings
bound_among None region b bindings = put region (b ∷ []) bindings
bound_among (Some others) region b bindings = with_item region (b ∷ others) bindings

abbrev pub bound_in : ℕ → Binding → Bindings → Bindings
bound_in region b bindings = bound_among (item_at region bindings) region b bindings

-- ---- frames

abbrev pub no_frame : Frame
no_frame = record {
  region = 0;
  owner = None;
  scope = None;
  is_accept = false;
  name = None;
  exports = false;
  components = None;
  part = 0;
}

abbrev pub innermost_frame : List Frame → Frame
innermost_frame [] = no_frame
innermost_frame (f ∷ fs) = f

-- what a declaration takes from its frame
abbrev pub enclosure_of : Frame → Enclosure
enclosure_of f = record { region = f.region; exports = f.exports; components = f.components; part = f.part }

abbrev pub opened : Frame → Names → Names
opened f n = record n { frames = record f { part = n.parts } ∷ n.frames; parts = suc n.parts }

abbrev pub region_here : Names → ℕ
region_here n = (innermost_frame n.frames).region

abbrev pub enclosure_here : Names → Enclosure
enclosure_here n = enclosure_of (innermost_frame n.frames)

abbrev pub scope_or : ℕ → Option ℕ → ℕ
scope_or outer None = outer
scope_or outer (Some s) = s

-- the scope that has the cells of what stands here; that of the environment outside all others
abbrev pub scope_in : List Frame → ℕ
scope_in [] = 0
scope_in (f ∷ fs) = scope_or (scope_in fs) f.scope

-- an accept statement has cells for its parameters alone
abbrev pub scope_of_loops : List Frame → ℕ
scope_of_loops [] = 0
scope_of_loops (f ∷ fs) = cond f.is_accept (scope_of_loops fs) (scope_or (scope_of_loops fs) f.scope)

-- ---- expanded names (4.1.3)

abbrev pub prefix_with : List ℕ → Option (List ℕ) → List ℕ
prefix_with outer None = outer
prefix_with outer (Some name) = outer ++ (name ++ 46 ∷ [])

abbrev pub prefix_of : List Frame → List ℕ
prefix_of [] = []
prefix_of (f ∷ fs) = prefix_with (prefix_of fs) f.name

unfoldable pub expanded : List Frame → List ℕ → List ℕ
expanded frames name = prefix_of frames ++ name
