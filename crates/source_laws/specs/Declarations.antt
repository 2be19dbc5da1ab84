-- The declarations of a name in a region (3.1, 3.11.1, 8.3), given which region has which number.
use Rattle.std.specs.Prelude.{ℕ, Bool, true, false, cond, not, ◌&&◌, List, [], ◌∷◌, Option, Some, None, eqb}
use Rattle.std.specs.Str.{bytes_eq}
use Rattle.ada_tree.specs.declared.names.Identifier.{Identifier}
use Rattle.ada_regions.specs.declared.entities.UnitKind.{UnitKind}
use Rattle.ada_regions.specs.declared.entities.UnitKind.TheVariants as unit
use Rattle.ada_regions.specs.Occurrences.{Occurrence, the_package, a_subprogram, a_task, a_protected}
use Rattle.ada_regions.specs.Occurrences.{hides, heads, declares, declares_unit, completes}
use Rattle.source_laws.specs.Positions.{Before, around, around_outside, nearest}

abbrev pub is_named : List ℕ → Identifier → Bool
is_named name i = bytes_eq i.text name

-- ---- what a declaration declares

abbrev pub is_package : Occurrence → Bool
is_package (declares_unit i the_package) = true
is_package _ = false

-- a subprogram that a body may complete
abbrev pub is_subprogram : Occurrence → Bool
is_subprogram (declares i (a_subprogram s)) = true
is_subprogram _ = false

abbrev pub is_task : UnitKind → Bool
is_task unit.Task = true
is_task unit.Protected = false

-- a task or protected unit of this kind
abbrev pub is_unit_of : UnitKind → Occurrence → Bool
is_unit_of kind (declares i (a_task is_type aspects)) = is_task kind
is_unit_of kind (declares i (a_protected is_type aspects)) = not (is_task kind)
is_unit_of kind _ = false

abbrev pub starts_as_subprogram : Option Before → Bool
starts_as_subprogram None = false
starts_as_subprogram (Some []) = false
starts_as_subprogram (Some (o ∷ before)) = is_subprogram o

-- ---- the declarations of a name in the region with a number; the region of the innermost of some is numbered

module _ (number : List Before → ℕ) where
  -- it is declared here; a library unit is declared in the region of Standard (10.1)
  abbrev pub declares_here : ℕ → List ℕ → Occurrence → Before → Bool
  declares_here region name (declares i what) before = is_named name i && eqb (number (around before)) region
  declares_here region name (declares_unit i what) before = is_named name i && eqb 0 region
  declares_here region name _ before = false

  -- a subprogram's body declares it, unless the nearest declaration of its name is that of a subprogram (6.3, 3.11.1)
  abbrev pub body_completes : ℕ → List ℕ → Before → Bool
  body_completes region name before = starts_as_subprogram (nearest (declares_here region name) before)

  abbrev pub declares_name : ℕ → List ℕ → Occurrence → Before → Bool
  declares_name region name (completes i s) before = is_named name i
      && (eqb (number (around_outside before)) region && not (body_completes region name before))
  declares_name region name o before = declares_here region name o before

  -- the nearest declaration of a name in a region
  abbrev pub declaration : ℕ → List ℕ → Before → Option Before
  declaration region name before = nearest (declares_name region name) before

  -- a name is hidden from its own declaration until that ends
  abbrev pub hides_name : ℕ → List ℕ → Occurrence → Before → Bool
  hides_name region name (hides i) before = is_named name i && eqb (number (around before)) region
  hides_name region name (heads i) before = is_named name i && eqb (number (around before)) region
  hides_name region name _ before = false

-- the declaration that was found, if it is of this sort
abbrev pub if_so : (Occurrence → Bool) → Option Before → Option Before
if_so test None = None
if_so test (Some []) = None
if_so test (Some (o ∷ before)) = cond (test o) (Some (o ∷ before)) None
