-- Which region begins where (8.1): a region has a number, which is one of its own, or that of the construct whose body
-- it is (7.2, 9.1, 9.4, 10.1.2). 0 is the number of Standard.
use Rattle.std.specs.Prelude.{ℕ, zero, suc, Bool, true, false, not, ◌&&◌, List}
use Rattle.std.specs.Prelude.{[], ◌∷◌, Option, Some, None, length, eqb, is_some}
use Rattle.ada_tree.specs.declared.units.Unit.{Unit as Tree}
use Rattle.ada_regions.specs.declared.entities.UnitKind.{UnitKind}
use Rattle.ada_regions.specs.declared.entities.UnitKind.TheVariants as unit
use Rattle.ada_regions.specs.Occurrences.{Occurrence, Region, the_context_of}
use Rattle.ada_regions.specs.Occurrences.{package_body, task_body, protected_body, begins}
use Rattle.source_laws.specs.Positions.{Before, around, nearest, end_of}
use Rattle.source_laws.specs.Declarations.{is_package, is_unit_of, declaration, if_so}

-- ---- given the numbers of the regions that began before

module _ (number : List Before → ℕ) where
  -- the unit of this kind that the region around a body declares under its name
  abbrev pub unit_declared : UnitKind → List ℕ → Before → Option Before
  unit_declared kind name before = if_so (is_unit_of kind) (declaration number (number (around before)) name before)

  abbrev pub package_declared : List ℕ → Before → Option Before
  package_declared name before = if_so is_package (declaration number 0 name before)

  -- the region that begins behind a declaration, or one of its own
  abbrev pub region_behind : Option Before → ℕ → ℕ
  region_behind None own = own
  region_behind (Some b) own = suc (length b)

  -- the region in which a package's declaration stands: its context
  abbrev pub context_around : Option Before → ℕ → ℕ
  context_around None own = own
  context_around (Some b) own = number (around b)

  abbrev pub number_of_region : Region → Before → ℕ
  number_of_region (package_body i) before = region_behind (package_declared i.text before) (suc (length before))
  number_of_region (the_context_of i) before = context_around (package_declared i.text before) (suc (length before))
  number_of_region (task_body i place) before =
      region_behind (unit_declared unit.Task i.text before) (suc (length before))
  number_of_region (protected_body i) before =
      region_behind (unit_declared unit.Protected i.text before) (suc (length before))
  number_of_region _ before = suc (length before)

  abbrev pub number_of_beginning : Occurrence → Before → ℕ
  number_of_beginning (begins r) before = number_of_region r before
  number_of_beginning _ before = suc (length before)

abbrev pub first_or_none : List Before → Before
first_or_none [] = []
first_or_none (b ∷ bs) = b

-- the number of the region that begins here. Bodies stand in regions that began before: to ask as often as something
-- stands there is enough
abbrev pub number_within : ℕ → Before → ℕ
number_within zero b = 0
number_within (suc limit) [] = 0
number_within (suc limit) (o ∷ before) = number_of_beginning (λ bs. number_within limit (first_or_none bs)) o before

unfoldable pub number_of : Before → ℕ
number_of b = number_within (length b) b

abbrev pub number_of_innermost : List Before → ℕ
number_of_innermost bs = number_of (first_or_none bs)

-- the region in which a position stands
abbrev pub region_of_position : Before → ℕ
region_of_position before = number_of_innermost (around before)

-- ---- bodies that complete something (3.11.1)

abbrev pub begins_body : ℕ → Occurrence → Before → Bool
begins_body region (begins (task_body i place)) before = eqb (number_of (begins (task_body i place) ∷ before)) region
begins_body region (begins (protected_body i)) before = eqb (number_of (begins (protected_body i) ∷ before)) region
begins_body region _ before = false

-- it completes a unit of its region, and none stands before it that does
abbrev pub is_first_body : UnitKind → List ℕ → Before → Bool
is_first_body kind name before =
    is_some (unit_declared number_of_innermost kind name before)
    && not (is_some (nearest (begins_body (region_behind number_of_innermost
    (unit_declared number_of_innermost kind name before) 0)) before))

abbrev pub completes_if_body : Occurrence → Before → Bool
completes_if_body (begins (task_body i place)) before = is_first_body unit.Task i.text before
completes_if_body (begins (protected_body i)) before = is_first_body unit.Protected i.text before
completes_if_body _ before = true

abbrev pub bodies_complete_before : Before → Bool
bodies_complete_before [] = true
bodies_complete_before (o ∷ before) = completes_if_body o before && bodies_complete_before before

-- each body of a task or protected unit completes a unit that is declared in the region around it, and is its only body
abbrev pub bodies_complete : Tree → Bool
bodies_complete unit = bodies_complete_before (end_of unit)
