-- What is visible directly at a position (8.3): the innermost region around it that has a declaration of the name
-- before it.
use Rattle.std.specs.Prelude.{ℕ, List, [], ◌∷◌, Option, Some, None, option_map}
use Rattle.ann_base.specs.declared.places.Place.{Place}
use Rattle.ada_regions.specs.declared.predefined.PredefinedUnit.{PredefinedUnit}
use Rattle.ada_regions.specs.declared.entities.Denoted.{Denoted}
use Rattle.ada_regions.specs.declared.entities.Denoted.TheVariants as denotes
use Rattle.std.specs.Option.{option_or}
use Rattle.ada_regions.specs.Occurrences.{Occurrence, declares, declares_unit, completes}
use Rattle.ada_regions.specs.Visibility.{in_standard}
use Rattle.source_laws.specs.Positions.{Before, around, nearest}
use Rattle.source_laws.specs.Declarations.{declaration, hides_name}
use Rattle.source_laws.specs.Regions.{number_of, number_of_innermost}

-- what a name means
pub data Meaning : Type 0 where
  -- an entity, by the place of its defining name
  is_declared : Place → Meaning
  is_unit : PredefinedUnit → Meaning
  is_item : PredefinedUnit → Meaning
  is_nothing : Meaning
  is_several : Meaning

abbrev pub meaning_of : Denoted → Meaning
meaning_of (denotes.Entity e) = is_nothing
meaning_of (denotes.Unit u) = is_unit u
meaning_of (denotes.Item u item) = is_item u

abbrev pub defining_place : Occurrence → Option Place
defining_place (declares i what) = Some i.place
defining_place (declares_unit i what) = Some i.place
defining_place (completes i s) = Some i.place
defining_place _ = None

abbrev pub place_declared : Before → Option Place
place_declared [] = None
place_declared (o ∷ before) = defining_place o

-- in a region: where the name is declared before here; or that it is hidden, since its declaration has not ended
abbrev pub declared_in_region : ℕ → List ℕ → Before → Option (Option Place)
declared_in_region region name before =
    option_or (option_map place_declared (declaration number_of_innermost region name before))
    (option_map (λ b. None) (nearest (hides_name number_of_innermost region name) before))

-- the innermost of these regions that has the name counts, and that of Standard last
abbrev pub declared_around : List ℕ → Before → List Before → Option (Option Place)
declared_around name before [] = declared_in_region 0 name before
declared_around name before (b ∷ bs) =
    option_or (declared_in_region (number_of b) name before) (declared_around name before bs)

abbrev pub meaning_if_seen : Option Place → Meaning
meaning_if_seen None = is_nothing
meaning_if_seen (Some place) = is_declared place

-- by nesting alone
abbrev pub direct_meaning : ℕ → List ℕ → Before → Option Meaning
direct_meaning last name before =
    option_or (option_map meaning_if_seen (declared_around name before (around before)))
    (option_map meaning_of (in_standard last name))
