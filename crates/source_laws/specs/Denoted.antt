-- The law of direct names: the table says of each what it means by its position in the text alone.
use Rattle.std.specs.Prelude.{ℕ, Bool, true, ◌&&◌, [], ◌∷◌, Option, Some, None, option_map}
use Rattle.ada_tree.specs.declared.names.Identifier.{Identifier}
use Rattle.ada_tree.specs.declared.units.Unit.{Unit as Tree}
use Rattle.ada_regions.specs.declared.entities.Denoted.{Denoted}
use Rattle.ada_regions.specs.declared.entities.Denoted.TheVariants as denotes
use Rattle.ada_regions.specs.declared.table.Names.{Names}
use Rattle.ada_regions.specs.Occurrences.{Occurrence, Occurrences, mentions, mentions_simply, use_package}
use Rattle.ada_regions.specs.NamesInUnits.{names_in_unit}
use Rattle.ada_regions.specs.Names.{denoted_at, entity_at}
use Rattle.ada_regions.specs.Numbered.{names_of, last_priority_of}
use Rattle.source_laws.specs.Positions.{Before}
use Rattle.source_laws.specs.DirectNames.{Meaning, is_declared, is_unit, is_item}
use Rattle.source_laws.specs.DirectNames.{is_nothing, is_several, meaning_if_seen}
use Rattle.source_laws.specs.UseClauses.{same_meaning, direct_name_means}

abbrev pub told_meaning : Names → Option Denoted → Meaning
told_meaning n None = is_nothing
told_meaning n (Some (denotes.Entity e)) = meaning_if_seen (option_map (λ x. x.place) (entity_at n e))
told_meaning n (Some (denotes.Unit u)) = is_unit u
told_meaning n (Some (denotes.Item u item)) = is_item u

-- a name that two clauses make visible is no more known than one without a declaration
abbrev pub known_meaning : Meaning → Meaning
known_meaning (is_declared place) = is_declared place
known_meaning (is_unit u) = is_unit u
known_meaning (is_item u) = is_item u
known_meaning is_nothing = is_nothing
known_meaning is_several = is_nothing

abbrev pub agrees_at : Names → ℕ → Identifier → Before → Bool
agrees_at n last i before =
    same_meaning (told_meaning n (denoted_at n i.place)) (known_meaning (direct_name_means last i.text before))

abbrev pub agrees_with : Names → ℕ → Occurrence → Before → Bool
agrees_with n last (mentions name) before = agrees_at n last name.parts.first before
agrees_with n last (mentions_simply i) before = agrees_at n last i before
agrees_with n last (use_package name) before = agrees_at n last name.parts.first before
agrees_with n last _ before = true

abbrev pub agrees_from : Names → ℕ → Before → Occurrences → Bool
agrees_from n last before [] = true
agrees_from n last before (o ∷ os) = agrees_with n last o before && agrees_from n last (o ∷ before) os

-- each direct name of the source denotes by the table what it means by its position
abbrev pub denotes_by_position : Tree → Bool
denotes_by_position unit = agrees_from (names_of unit) (last_priority_of unit.pragmas) [] (names_in_unit unit)
