-- Library units (10.1.2, 10.1.6): a unit is used only under a with clause for it, or for one that stands in it; a
-- package in itself, and Standard, always. Of the way through the names of a source, where the table has the with
-- clauses that hold. There the limit on expanded names is asked too.
use Rattle.ada_legality.specs.Findings.{Found, broken_if, broken_unless}
use Rattle.ada_legality.specs.Places.{place_of}
use Rattle.ada_regions.specs.Names.{denoted_at, expanded}
use Rattle.ada_regions.specs.Numbered.{behind}
use Rattle.ada_regions.specs.Occurrences.{Occurrence, Occurrences, completes, declares, mentions, use_package}
use Rattle.ada_regions.specs.PredefinedUnits.{same_unit}
use Rattle.ada_regions.specs.Regions.{is_used_package}
use Rattle.ada_regions.specs.SelectedNames.{frame_owned_by}
use Rattle.ada_regions.specs.Visibility.{is_withed_by, same_denoted}
use Rattle.ada_regions.specs.Words.{all_of, and_then}
use Rattle.std.specs.Option.{option_or}
use Rattle.ada_legality.specs.declared.limits.TheConstants.{LONGEST_NAME}
use Rattle.ada_regions.specs.declared.entities.Denoted.{Denoted}
use Rattle.ada_regions.specs.declared.table.Names.{Names}
use Rattle.ada_tree.specs.declared.names.Identifier.{Identifier}
use Rattle.ada_tree.specs.declared.names.Name.{Name}
use Rattle.std.specs.List.{list_any}
use Rattle.std.specs.Prelude.{Bool, List, None, Option, Some, [], cond, length}
use Rattle.std.specs.Prelude.{ltb, option_map, true, unwrap_or, ◌++◌, ◌||◌, ◌∷◌}
use Rattle.ada_regions.specs.declared.entities.Denoted.TheVariants as denotes
use Rattle.ada_legality.specs.declared.rules.Rule.TheVariants as rule
use Rattle.ada_regions.specs.declared.predefined.PredefinedUnit.TheVariants as units

-- what is denoted, where it is a unit
abbrev pub unit_if : Names → Option Denoted → Option Denoted
unit_if n d = and_then d (λ x. cond (is_used_package n x) (Some x) None)

-- the last part of a name that denotes a unit
unfoldable pub unit_in_parts : Names → List Identifier → Option Denoted
unit_in_parts n [] = None
unit_in_parts n (i ∷ rest) = option_or (unit_in_parts n rest) (unit_if n (denoted_at n i.place))

-- a unit may be used where these with clauses hold
unfoldable pub is_usable_unit : Names → Denoted → Bool
is_usable_unit n (denotes.Unit u) = same_unit u units.Standard || list_any (is_withed_by u) n.withs
is_usable_unit n (denotes.Entity e) =
    list_any (same_denoted (denotes.Entity e)) n.withs || list_any (frame_owned_by e) n.frames
is_usable_unit n (denotes.Item u item) = true

-- a name whose unit may not be used there
unfoldable pub unit_unseen : Names → Name → Found
unit_unseen n name =
    broken_unless rule.LibraryUnits
    (unwrap_or (option_map (is_usable_unit n) (unit_in_parts n (all_of name.parts))) true)
    (place_of name)

-- ---- the length of an expanded name (4.1.3; own)

unfoldable pub long_name : Names → Identifier → Found
long_name n i = broken_if rule.Limit (ltb LONGEST_NAME (length (expanded n.frames i.text))) i.place

-- ---- the way through the names of a source

-- before an occurrence: a declaration whose expanded name is too long
unfoldable pub found_before : Names → Occurrence → Found
found_before n (declares i what) = long_name n i
found_before n (completes i s) = long_name n i
found_before n o = []

-- behind one: a use of a name, or a use clause
unfoldable pub found_behind : Names → Occurrence → Found
found_behind n (mentions name) = unit_unseen n name
found_behind n (use_package name) = unit_unseen n name
found_behind n o = []

-- all occurrences from here on
unfoldable pub found_from : Occurrences → Names → Found
found_from [] n = []
found_from (o ∷ os) n =
    let m = behind o n in
    found_before n o ++ (found_behind m o ++ found_from os m)
