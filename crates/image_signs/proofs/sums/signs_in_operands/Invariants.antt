use Rattle.std.proofs.Common.{◌≡◌, ◌+◌, drop}
use Rattle.ada_image.specs.ImageOfExpressions.{signs_in_operands}
use Rattle.image_signs.proofs.sums.signs_in_operands.Given as goal

-- the signs so far and those of what is to come are all
abbrev pub invariant-loop-operand : goal.invariant-loop-operand
invariant-loop-operand g l =
    l.signs + signs_in_operands g.E.Counted.image (drop l.operand-index l.operands) l.names ≡ l.first + signs_in_operands g.E.Counted.image l.operands l.names
