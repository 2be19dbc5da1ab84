-- The laws of clear tables.
use Rattle.std.specs.Prelude.{◌≡◌, IsTrue, [], None}
use Rattle.ada_tree.specs.declared.expressions.Expression.{Expression}
use Rattle.ada_tree.specs.declared.units.Unit.{Unit as Tree}
use Rattle.ada_tree.specs.Shape.{is_shaped}
use Rattle.ada_regions.specs.NamesInExpressions.{names_in_expression}
use Rattle.ada_regions.specs.NamesInUnits.{names_in_unit}
use Rattle.ada_regions.specs.Numbered.{names_of}
use Rattle.ada_image.specs.BuiltUnits.{unit_built}
use Rattle.ada_legality.specs.declared.standing.Known.{Known}
use Rattle.ada_legality.specs.Faults.{faults_in, first_fault_of}
use Rattle.ada_legality.specs.InForce.{in_force_by}
use Rattle.ada_legality.specs.ReadExpressions.{read_expression}
use Rattle.ada_legality.specs.Units.{known_of}
use Rattle.image_laws.specs.Clear.{expression_clear}
use Rattle.form_laws.specs.Tables.{ClearTable, loops_stand}
use Rattle.form_laws.specs.Loops.{LoopsHeld}

-- An expression that breaks no rule has clear names, where the table is clear and each loop parameter in it stands in
-- its loop.
abbrev pub ClearExpressions : Type 0
ClearExpressions = (k : Known) → ClearTable k → (e : Expression) → IsTrue (loops_stand k (names_in_expression e))
    → faults_in (read_expression e k).1 ≡ [] → IsTrue (expression_clear e k)

-- what legality knows of a source, outside all constructs
abbrev pub known_in : Tree → Known
known_in unit = known_of (names_of unit) (names_in_unit unit) (in_force_by unit.pragmas)

-- Each form of a source that breaks no rule is one that an image has, where the table of its names is clear and each
-- loop parameter stands in its loop.
abbrev pub UnitsBuilt : Type 0
UnitsBuilt = (unit : Tree) → IsTrue (is_shaped unit) → ClearTable (known_in unit) → LoopsHeld unit (names_of unit)
    → first_fault_of unit ≡ None → IsTrue (unit_built unit (names_of unit))
