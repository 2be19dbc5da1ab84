-- What a direct name denotes (8.3, 8.4): the declaration of the innermost region around it that has one, where that has
-- ended; else what one use clause makes visible.
use Rattle.std.specs.Prelude.{ℕ, Bool, false, cond, ◌&&◌, ◌||◌, List, [], ◌∷◌, Option, Some, None, option_map, eqb}
use Rattle.std.specs.List.{list_any, find}
use Rattle.ada_tree.specs.declared.names.Identifier.{Identifier}
use Rattle.ada_regions.specs.declared.predefined.PredefinedUnit.{PredefinedUnit}
use Rattle.ada_regions.specs.declared.predefined.PredefinedUnit.TheVariants as units
use Rattle.ada_regions.specs.declared.entities.Denoted.{Denoted}
use Rattle.ada_regions.specs.declared.entities.Denoted.TheVariants as denotes
use Rattle.ada_regions.specs.declared.entities.Sought.{Sought}
use Rattle.ada_regions.specs.declared.entities.Sought.TheVariants as answer
use Rattle.ada_regions.specs.declared.faults.NameFault.TheVariants as fault
use Rattle.ada_regions.specs.Words.{and_then}
use Rattle.std.specs.Option.{option_or}
use Rattle.ada_regions.specs.PredefinedUnits.{same_unit, parent_unit, child_unit, root_unit, item_in}
use Rattle.ada_regions.specs.declared.table.Names.{Names}
use Rattle.ada_regions.specs.declared.table.Binding.{Binding}
use Rattle.ada_regions.specs.declared.table.Frame.{Frame}
use Rattle.ada_regions.specs.declared.table.UseClause.{UseClause}
use Rattle.world_tables.specs.Tables.{item_at}
use Rattle.ada_regions.specs.Names.{Bindings, binding_in, binds, region_of_entity, noted, told}

-- ---- direct visibility (8.3)

-- the binding of a name in the innermost region that has one
abbrev pub innermost_binding : Bindings → List ℕ → List Frame → Option Binding
innermost_binding bindings name [] = None
innermost_binding bindings name (f ∷ fs) =
    option_or (binding_in bindings f.region name) (innermost_binding bindings name fs)

-- what a predefined unit has under a name
unfoldable pub item_of : ℕ → PredefinedUnit → List ℕ → Option Denoted
item_of last unit name = option_map (denotes.Item unit) (item_in last unit name)

-- package Standard, with the library units that stand in no other (10.1)
unfoldable pub in_standard : ℕ → List ℕ → Option Denoted
in_standard last name = option_or (item_of last units.Standard name) (option_map denotes.Unit (root_unit name))

-- a binding's entity; nothing where the name is hidden
abbrev pub bound : Binding → Option Denoted
bound b = option_map denotes.Entity b.entity

-- where a name has a declaration in the regions around it, or hides those outside: what it denotes, if it is visible
unfoldable pub directly : Names → List ℕ → Option (Option Denoted)
directly n name =
    option_or (option_map bound (innermost_binding n.bindings name n.frames))
    (option_map Some (in_standard n.last_priority name))

-- ---- use clauses (8.4)

-- a unit is under a with clause for itself or for one that stands in it (10.1.2)
abbrev pub is_unit_or_parent : PredefinedUnit → Option PredefinedUnit → Bool
is_unit_or_parent unit None = false
is_unit_or_parent unit (Some w) = same_unit unit w

unfoldable pub stands_under : PredefinedUnit → PredefinedUnit → Bool
stands_under unit w = same_unit unit w || (is_unit_or_parent unit (parent_unit w)
    || is_unit_or_parent unit (and_then (parent_unit w) parent_unit))

abbrev pub is_withed_by : PredefinedUnit → Denoted → Bool
is_withed_by unit (denotes.Entity e) = false
is_withed_by unit (denotes.Unit w) = stands_under unit w
is_withed_by unit (denotes.Item w item) = false

abbrev pub some_if_withed : List Denoted → PredefinedUnit → Option Denoted
some_if_withed withs unit = cond (list_any (is_withed_by unit) withs) (Some (denotes.Unit unit)) None

-- a name that is visible from outside the region
abbrev pub exports_name : List ℕ → Binding → Bool
exports_name name b = b.exported && binds name b

unfoldable pub exported_from : Names → List ℕ → ℕ → Option Denoted
exported_from n name region = and_then (and_then (item_at region n.bindings) (find (exports_name name))) bound

-- what a use clause for a package makes visible
unfoldable pub visible_in : Names → List ℕ → Denoted → Option Denoted
visible_in n name (denotes.Entity e) = and_then (region_of_entity n e) (exported_from n name)
visible_in n name (denotes.Unit u) =
    option_or (item_of n.last_priority u name) (and_then (child_unit u name) (some_if_withed n.withs))
visible_in n name (denotes.Item u item) = None

unfoldable pub same_denoted : Denoted → Denoted → Bool
same_denoted (denotes.Entity a) (denotes.Entity b) = eqb a b
same_denoted (denotes.Entity a) (denotes.Unit b) = false
same_denoted (denotes.Entity a) (denotes.Item b item) = false
same_denoted (denotes.Unit a) (denotes.Entity b) = false
same_denoted (denotes.Unit a) (denotes.Unit b) = same_unit a b
same_denoted (denotes.Unit a) (denotes.Item b item) = false
same_denoted (denotes.Item a item) (denotes.Entity b) = false
same_denoted (denotes.Item a item) (denotes.Unit b) = false
same_denoted (denotes.Item a item) (denotes.Item b other) = same_unit a b

-- what a further package makes visible is joined to what others do: the same declaration counts once
abbrev pub joined : Denoted → Sought → Sought
joined d answer.Unknown = answer.Found d
joined d (answer.Found e) = cond (same_denoted d e) (answer.Found e) answer.Ambiguous
joined d answer.Ambiguous = answer.Ambiguous

abbrev pub joined_if : Option Denoted → Sought → Sought
joined_if None others = others
joined_if (Some d) others = joined d others

-- what the packages that clauses of a region name make visible, joined to what others do
abbrev pub used_in : Names → List ℕ → ℕ → List UseClause → Sought → Sought
used_in n name region [] others = others
used_in n name region (u ∷ us) others =
    cond (eqb u.region region) (joined_if (visible_in n name u.used) (used_in n name region us others))
    (used_in n name region us others)

-- what clauses of the open regions make visible
abbrev pub used_around : Names → List ℕ → List Frame → Sought
used_around n name [] = answer.Unknown
used_around n name (f ∷ fs) = used_in n name f.region n.uses (used_around n name fs)

-- ---- what a direct name denotes

abbrev pub found_if : Option Denoted → Sought
found_if None = answer.Unknown
found_if (Some d) = answer.Found d

abbrev pub found_or : Sought → Option (Option Denoted) → Sought
found_or used None = used
found_or used (Some d) = found_if d

unfoldable pub sought : Names → List ℕ → Sought
sought n name = found_or (used_around n name n.frames) (directly n name)

abbrev pub answered : Identifier → Sought → Names → Names
answered i (answer.Found d) n = noted i.place d n
answered i answer.Unknown n = told (fault.Unknown i.place) n
answered i answer.Ambiguous n = told (fault.Ambiguous i.place) n

-- a direct name is used
unfoldable pub resolved : Identifier → Names → Names
resolved i n = answered i (sought n i.text) n
