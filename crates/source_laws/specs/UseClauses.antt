-- What use clauses make visible at a position (8.4), and with it what a direct name means there.
use Rattle.std.specs.Prelude.{ℕ, zero, suc, Bool, true, false, cond, not, ◌&&◌, List, []}
use Rattle.std.specs.Prelude.{◌∷◌, Option, Some, None, option_map, eqb, length, is_some}
use Rattle.std.specs.List.{list_any}
use Rattle.ann_base.specs.declared.places.Place.{Place}
use Rattle.ada_tree.specs.declared.names.Identifier.{Identifier}
use Rattle.ada_tree.specs.declared.names.Name.{Name}
use Rattle.ada_regions.specs.declared.predefined.PredefinedUnit.{PredefinedUnit}
use Rattle.ada_regions.specs.declared.entities.Denoted.{Denoted}
use Rattle.ada_regions.specs.Words.{and_then, same_place}
use Rattle.std.specs.Option.{option_or}
use Rattle.ada_regions.specs.PredefinedUnits.{same_unit, child_unit}
use Rattle.ada_regions.specs.Occurrences.{Occurrence, the_package, begins, ends, private_from_here}
use Rattle.ada_regions.specs.Occurrences.{declares, declares_unit, completes, with_unit, use_package}
use Rattle.ada_regions.specs.Visibility.{item_of, is_withed_by}
use Rattle.ada_regions.specs.Regions.{unit_named, unit_to_with}
use Rattle.source_laws.specs.Positions.{Before, around, around_outside, nearest}
use Rattle.source_laws.specs.Declarations.{is_named, body_completes}
use Rattle.source_laws.specs.Regions.{number_of, number_of_innermost, first_or_none, region_of_position}
use Rattle.source_laws.specs.DirectNames.{Meaning, is_declared, is_unit, is_item, is_nothing}
use Rattle.source_laws.specs.DirectNames.{is_several, meaning_of, place_declared, direct_meaning}

-- ---- what a package exports: what its declaration declares directly, and not in its private part (7.1)

-- `private` stands before here in the region outside as many as these
abbrev pub is_private_behind : ℕ → Before → Bool
is_private_behind passed [] = false
is_private_behind passed (ends ∷ before) = is_private_behind (suc passed) before
is_private_behind zero (begins r ∷ before) = false
is_private_behind (suc passed) (begins r ∷ before) = is_private_behind passed before
is_private_behind zero (private_from_here ∷ before) = true
is_private_behind (suc passed) (private_from_here ∷ before) = is_private_behind (suc passed) before
is_private_behind passed (_ ∷ before) = is_private_behind passed before

-- it stands directly in the region that began there, and not once more in that region
abbrev pub begun_at : ℕ → List Before → Bool
begun_at home bs = eqb (length (first_or_none bs)) home

abbrev pub exports_here : ℕ → List ℕ → Occurrence → Before → Bool
exports_here home name (declares i what) before = is_named name i
    && (begun_at home (around before) && not (is_private_behind 0 before))
exports_here home name (completes i s) before =
    is_named name i && (begun_at home (around_outside before)
    && (not (body_completes number_of_innermost home name before) && not (is_private_behind 1 before)))
exports_here home name _ before = false

abbrev pub exported_by_package : ℕ → List ℕ → Before → Option Meaning
exported_by_package home name before =
    and_then (nearest (exports_here home name) before) (λ b. option_map is_declared (place_declared b))

-- ---- a predefined child is seen under a with clause of the context of one of the regions around (10.1.2)

abbrev pub is_withed_unit : PredefinedUnit → Option Denoted → Bool
is_withed_unit unit None = false
is_withed_unit unit (Some d) = is_withed_by unit d

abbrev pub withs_unit : PredefinedUnit → Occurrence → Bool
withs_unit unit (with_unit name) = is_withed_unit unit (and_then (unit_named name) unit_to_with)
withs_unit unit _ = false

-- a position stands in one of the regions around another
abbrev pub stands_around : Before → Before → Bool
stands_around here before = list_any (λ b. eqb (number_of b) (region_of_position before)) (around here)

abbrev pub withed_around : PredefinedUnit → Before → Bool
withed_around unit here = is_some (nearest (λ o before. withs_unit unit o && stands_around here before) here)

abbrev pub child_if_withed : Before → PredefinedUnit → Option Meaning
child_if_withed here unit = cond (withed_around unit here) (Some (is_unit unit)) None

-- ---- what a clause for a package makes visible

-- the package with this defining place
abbrev pub declares_package : Place → Occurrence → Before → Bool
declares_package place (declares_unit i the_package) before = same_place i.place place
declares_package place _ before = false

abbrev pub package_at : Place → Before → Option ℕ
package_at place before = option_map (λ b. suc (length b)) (nearest (declares_package place) before)

abbrev pub visible_by : ℕ → List ℕ → Before → Meaning → Option Meaning
visible_by last name here (is_declared place) =
    and_then (package_at place here) (λ home. exported_by_package home name here)
visible_by last name here (is_unit u) =
    option_or (option_map meaning_of (item_of last u name)) (and_then (child_unit u name) (child_if_withed here))
visible_by last name here (is_item u) = None
visible_by last name here is_nothing = None
visible_by last name here is_several = None

-- ---- what all clauses make visible

abbrev pub same_meaning : Meaning → Meaning → Bool
same_meaning (is_declared a) (is_declared b) = same_place a b
same_meaning (is_unit a) (is_unit b) = same_unit a b
same_meaning (is_item a) (is_item b) = same_unit a b
same_meaning is_nothing is_nothing = true
same_meaning is_several is_several = true
same_meaning _ _ = false

abbrev pub with_meaning : Option Meaning → List Meaning → List Meaning
with_meaning None ms = ms
with_meaning (Some m) ms = cond (list_any (same_meaning m) ms) ms (m ∷ ms)

-- what the clauses of the regions around make visible, each once; what their names mean is given
abbrev pub by_clauses : (Name → Before → Meaning) → ℕ → List ℕ → Before → Before → List Meaning
by_clauses meaning last name here [] = []
by_clauses meaning last name here (use_package p ∷ before) =
    cond (stands_around here before) (with_meaning (visible_by last name here (meaning p before))
    (by_clauses meaning last name here before))
    (by_clauses meaning last name here before)
by_clauses meaning last name here (_ ∷ before) = by_clauses meaning last name here before

abbrev pub one_of : List Meaning → Meaning
one_of [] = is_nothing
one_of (m ∷ []) = m
one_of (m ∷ n ∷ more) = is_several

abbrev pub meaning_or : Meaning → Option Meaning → Meaning
meaning_or used None = used
meaning_or used (Some m) = m

-- further parts of a clause's name are children of predefined units
abbrev pub child_meaning : Meaning → List Identifier → Meaning
child_meaning m [] = m
child_meaning (is_unit u) (i ∷ rest) =
    child_meaning (meaning_or is_nothing (option_map is_unit (child_unit u i.text))) rest
child_meaning m (i ∷ rest) = is_nothing

-- what a direct name means at a position. A clause's name means what it means where the clause stands, which is before:
-- to ask as often as something stands there is enough
abbrev pub meaning_within : ℕ → ℕ → List ℕ → Before → Meaning
meaning_within zero last name before = meaning_or is_nothing (direct_meaning last name before)
meaning_within (suc limit) last name before =
    meaning_or (one_of (by_clauses (λ p b. child_meaning (meaning_within limit last p.parts.first.text b)
    p.parts.others) last name before before))
    (direct_meaning last name before)

unfoldable pub direct_name_means : ℕ → List ℕ → Before → Meaning
direct_name_means last name before = meaning_within (length before) last name before
