-- What a table knows of the bodies of task and protected units: the unit that each denotes.
use Rattle.std.specs.Prelude.{ℕ, ◌+◌, Bool, true, false, ◌&&◌, leb, eqb, [], ◌∷◌, Option, Some, None}
use Rattle.std.specs.List.{list_all}
use Rattle.ada_tree.specs.declared.names.Identifier.{Identifier}
use Rattle.ada_tree.specs.declared.units.Unit.{Unit as Tree}
use Rattle.ada_regions.specs.declared.entities.UnitKind.{UnitKind}
use Rattle.ada_regions.specs.declared.entities.UnitKind.TheVariants as unit
use Rattle.ada_regions.specs.declared.table.Names.{Names}
use Rattle.ada_regions.specs.Names.{entity_denoted}
use Rattle.ada_regions.specs.Occurrences.{Occurrence, task_body, protected_body, begins}
use Rattle.ada_regions.specs.Completions.{is_unit, has_body}
use Rattle.ada_regions.specs.Numbered.{names_of}
use Rattle.source_laws.specs.Positions.{Before, end_of}

-- a body: the kind of its unit, and its name
abbrev pub Named : Type 0
Named = UnitKind × Identifier

abbrev pub body_named : Occurrence → Option Named
body_named (begins (task_body i place)) = Some (unit.Task, i)
body_named (begins (protected_body i)) = Some (unit.Protected, i)
body_named _ = None

abbrev pub is_same_kind : UnitKind → UnitKind → Bool
is_same_kind unit.Task unit.Task = true
is_same_kind unit.Protected unit.Protected = true
is_same_kind unit.Task unit.Protected = false
is_same_kind unit.Protected unit.Task = false

abbrev pub one_if : Bool → ℕ
one_if true = 1
one_if false = 0

abbrev pub is_entity : ℕ → Option ℕ → Bool
is_entity e None = false
is_entity e (Some other) = eqb e other

-- how many bodies of units of this kind denote an entity
abbrev pub denotes_as_body : Names → UnitKind → ℕ → Option Named → ℕ
denotes_as_body n kind e None = 0
denotes_as_body n kind e (Some b) = one_if (is_same_kind kind b.0 && is_entity e (entity_denoted n b.1.place))

abbrev pub bodies_denoting : Names → UnitKind → ℕ → Before → ℕ
bodies_denoting n kind e [] = 0
bodies_denoting n kind e (o ∷ before) = denotes_as_body n kind e (body_named o) + bodies_denoting n kind e before

-- a body denotes a unit of its kind, which has a body, and no other one
abbrev pub is_known_unit : Names → Before → UnitKind → Option ℕ → Bool
is_known_unit n all kind None = false
is_known_unit n all kind (Some e) = is_unit kind n e && (has_body n e && leb (bodies_denoting n kind e all) 1)

abbrev pub is_known_body : Names → Before → Option Named → Bool
is_known_body n all None = true
is_known_body n all (Some b) = is_known_unit n all b.0 (entity_denoted n b.1.place)

abbrev pub are_known_bodies : Names → Before → Before → Bool
are_known_bodies n all before = list_all (λ o. is_known_body n all (body_named o)) before

-- by the table of the source each body denotes a unit of its kind, which has a body, and is the only one that does
abbrev pub bodies_known : Tree → Bool
bodies_known unit = are_known_bodies (names_of unit) (end_of unit) (end_of unit)
