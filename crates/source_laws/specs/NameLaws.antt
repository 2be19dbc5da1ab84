-- The laws of names, each of every source whose bodies of units complete something: what the table has at a position is
-- what the position says.
use Rattle.std.specs.Prelude.{◌≡◌, ◌↔◌, ℕ, IsTrue, List, ◌∷◌, Option, Some, option_map, length, suc}
use Rattle.ann_base.specs.declared.places.Place.{Place}
use Rattle.ada_tree.specs.declared.names.Identifier.{Identifier}
use Rattle.ada_tree.specs.declared.units.Unit.{Unit as Tree}
use Rattle.ada_regions.specs.declared.table.Binding.{Binding}
use Rattle.ada_regions.specs.declared.table.Names.{Names}
use Rattle.ada_regions.specs.Words.{and_then}
use Rattle.ada_regions.specs.Names.{binding_in, denoted_at, entity_at, region_here}
use Rattle.ada_regions.specs.Occurrences.{Occurrence}
use Rattle.ada_regions.specs.Numbered.{names_of, last_priority_of}
use Rattle.ada_regions.specs.declared.entities.Denoted.TheVariants as denotes
use Rattle.ada_regions.specs.Regions.{package_named}
use Rattle.ada_regions.specs.Visibility.{directly, visible_in}
use Rattle.source_laws.specs.Positions.{Before, Stands, around, end_of}
use Rattle.source_laws.specs.Regions.{number_of_innermost, package_declared, region_of_position, bodies_complete}
use Rattle.source_laws.specs.DirectNames.{Meaning, declared_in_region, direct_meaning}
use Rattle.source_laws.specs.UseClauses.{exported_by_package, direct_name_means}
use Rattle.source_laws.specs.Tables.{table_at}
use Rattle.source_laws.specs.Denoted.{told_meaning, known_meaning, denotes_by_position}
use Rattle.source_laws.specs.Places.{names_stand_apart, direct_name}

-- what is known at a position of a source
abbrev pub table_of : Tree → Before → Names
table_of unit before = table_at (last_priority_of unit.pragmas) before

-- ---- at the end it is the table of the source

abbrev pub TableAtTheEnd : Type 0
TableAtTheEnd = (unit : Tree) → table_of unit (end_of unit) ≡ names_of unit

-- ---- two positions stand in one region by the table if they do by the text, and else in two

abbrev pub RegionsByPosition : Type 0
RegionsByPosition =
    (unit : Tree) → IsTrue (bodies_complete unit) → (b c : Before) → Stands b (end_of unit) → Stands c (end_of unit)
    → (region_here (table_of unit b) ≡ region_here (table_of unit c)) ↔ (region_of_position b ≡ region_of_position c)

-- as many regions are open as stand around, beside that of Standard
abbrev pub OpenRegionsByPosition : Type 0
OpenRegionsByPosition =
    (unit : Tree) → IsTrue (bodies_complete unit) → (c : Before) → Stands c (end_of unit)
    → length (table_of unit c).frames ≡ suc (length (around c))

-- ---- what a region has of a name: where it is declared, or that it is hidden

abbrev pub place_bound : Names → Option Binding → Option (Option Place)
place_bound n b = option_map (λ x. and_then x.entity (λ e. option_map (λ y. y.place) (entity_at n e))) b

-- at a position c the region in which an earlier position b stands has by the table what it has by position
abbrev pub DeclarationsByPosition : Type 0
DeclarationsByPosition =
    (unit : Tree) → IsTrue (bodies_complete unit) → (b c : Before) → Stands b c → Stands c (end_of unit)
    → (name : List ℕ)
    → place_bound (table_of unit c) (binding_in (table_of unit c).bindings (region_here (table_of unit b)) name)
    ≡ declared_in_region (region_of_position b) name c

-- ---- what is visible directly, by nesting alone (8.3)

abbrev pub DirectlyByPosition : Type 0
DirectlyByPosition =
    (unit : Tree) → IsTrue (bodies_complete unit) → (c : Before) → Stands c (end_of unit) → (name : List ℕ)
    → option_map (told_meaning (table_of unit c)) (directly (table_of unit c) name)
    ≡ direct_meaning (last_priority_of unit.pragmas) name c

-- ---- what a use clause for a package of the source makes visible (8.4): what the package's declaration declares
-- directly, outside
-- its private part, at the nearest place before

abbrev pub ExportsByPosition : Type 0
ExportsByPosition =
    (unit : Tree) → IsTrue (bodies_complete unit) → (c : Before) → Stands c (end_of unit) → (package_name name : List ℕ)
    → option_map (λ d. told_meaning (table_of unit c) (Some d))
    (and_then (package_named (table_of unit c) package_name)
    (λ e. visible_in (table_of unit c) name (denotes.Entity e)))
    ≡ and_then (package_declared number_of_innermost package_name c) (λ d. exported_by_package (suc (length d)) name c)

-- ---- in the table of the source

-- where no two names stand at one place: each direct name that the regions around it declare, or Standard, denotes by
-- the table of the source what it means by its position
abbrev pub DirectNamesByPosition : Type 0
DirectNamesByPosition =
    (unit : Tree) → IsTrue (bodies_complete unit) → IsTrue (names_stand_apart unit)
    → (o : Occurrence) (c : Before) → Stands (o ∷ c) (end_of unit) → (i : Identifier) → direct_name o ≡ Some i
    → (m : Meaning) → direct_meaning (last_priority_of unit.pragmas) i.text c ≡ Some m
    → told_meaning (names_of unit) (denoted_at (names_of unit) i.place) ≡ m

-- ---- all direct names, use clauses included (8.3, 8.4)

-- where no two names stand at one place: each direct name denotes by the table of the source what it means by its
-- position; one that clauses give several meanings denotes nothing
abbrev pub MeaningsByPosition : Type 0
MeaningsByPosition =
    (unit : Tree) → IsTrue (bodies_complete unit) → IsTrue (names_stand_apart unit)
    → (o : Occurrence) (c : Before) → Stands (o ∷ c) (end_of unit) → (i : Identifier) → direct_name o ≡ Some i
    → told_meaning (names_of unit) (denoted_at (names_of unit) i.place)
    ≡ known_meaning (direct_name_means (last_priority_of unit.pragmas) i.text c)

-- the same, as it computes
abbrev pub NamesByPosition : Type 0
NamesByPosition = (unit : Tree) → IsTrue (bodies_complete unit) → IsTrue (names_stand_apart unit)
    → IsTrue (denotes_by_position unit)
