-- In the image of a source, operands are made first.
use Rattle.std.specs.Prelude.{◌≡◌, ℕ, suc, ◌+◌, length, IsTrue}
use Rattle.ada_tree.specs.declared.units.Unit.{Unit as Tree}
use Rattle.profile_image.specs.declared.numbers.ExprNo.{ExprNo}
use Rattle.profile_machine.specs.Values.{Seen, value_by, value}
use Rattle.ada_image.specs.ImageOfUnits.{program_of}
use Rattle.world_laws.specs.ValueLaws.{operands_rise}

-- of each tree, legal or not: an operand has a smaller number than what it stands in
abbrev pub OperandsAreMadeFirst : Type 0
OperandsAreMadeFirst = (unit : Tree) → IsTrue (operands_rise (program_of unit))

-- wherever an expression of a source's image is evaluated, its value is the same with more turns to count down
abbrev pub ValuesOfSourcesEnd : Type 0
ValuesOfSourcesEnd = (unit : Tree) (q : Seen) → q.program ≡ program_of unit → (e : ExprNo) (more : ℕ)
    → value_by (suc (length q.program.expressions) + more) q.program.expressions q e ≡ value q e
