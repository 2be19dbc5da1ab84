-- At which places the names of a text stand for which the table keeps what they denote.
use Rattle.std.specs.Prelude.{Bool, true, not, ◌&&◌, List, [], ◌∷◌, ◌++◌, map, Option, Some, None, flat_map}
use Rattle.std.specs.List.{list_any}
use Rattle.ann_base.specs.declared.places.Place.{Place}
use Rattle.ada_tree.specs.declared.names.Identifier.{Identifier}
use Rattle.ada_tree.specs.declared.names.Name.{Name}
use Rattle.ada_tree.specs.declared.units.Unit.{Unit as Tree}
use Rattle.ada_regions.specs.Words.{same_place}
use Rattle.ada_regions.specs.Names.{last_part}
use Rattle.ada_regions.specs.Occurrences.{Occurrence, package_body, task_body, protected_body}
use Rattle.ada_regions.specs.Occurrences.{begins, declares, declares_unit, completes, mentions}
use Rattle.ada_regions.specs.Occurrences.{mentions_simply, mentions_entry, with_unit, use_package}
use Rattle.source_laws.specs.Positions.{Before, end_of}

abbrev pub place_of : Identifier → Place
place_of i = i.place

abbrev pub places_of_parts : Name → List Place
places_of_parts name = name.parts.first.place ∷ map place_of name.parts.others

abbrev pub places_in : Occurrence → List Place
places_in (declares i what) = i.place ∷ []
places_in (declares_unit i what) = i.place ∷ []
places_in (completes i s) = i.place ∷ []
places_in (mentions name) = places_of_parts name
places_in (mentions_simply i) = i.place ∷ []
places_in (mentions_entry i) = i.place ∷ []
places_in (with_unit name) = (last_part name).place ∷ []
places_in (use_package name) = places_of_parts name
places_in (begins (package_body i)) = i.place ∷ []
places_in (begins (task_body i place)) = i.place ∷ []
places_in (begins (protected_body i)) = i.place ∷ []
places_in _ = []

abbrev pub places_before : Before → List Place
places_before before = flat_map places_in before

abbrev pub is_among : Place → List Place → Bool
is_among p ps = list_any (same_place p) ps

abbrev pub all_differ : List Place → Bool
all_differ [] = true
all_differ (p ∷ ps) = not (is_among p ps) && all_differ ps

-- no two names stand at one place, as in every tree that was read from a text
abbrev pub names_stand_apart : Tree → Bool
names_stand_apart unit = all_differ (places_before (end_of unit))

-- the direct name that an occurrence uses (4.1)
abbrev pub direct_name : Occurrence → Option Identifier
direct_name (mentions name) = Some name.parts.first
direct_name (mentions_simply i) = Some i
direct_name (use_package name) = Some name.parts.first
direct_name _ = None
