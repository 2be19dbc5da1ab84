use Rattle.std.proofs.Common.{◌≡◌, drop}
use Rattle.ada_image.specs.ImageOfExpressions.{operands_made}
use Rattle.image_expressions.proofs.sequences.operands_made.Given as goal

-- those that are to come make of what is made what all of them make of what was made at first
abbrev pub invariant-loop-operand : goal.invariant-loop-operand
invariant-loop-operand g l =
    operands_made g.E.Imaged.image l.operator l.left (drop l.operand-index l.operands) l.within l.lists
    ≡ operands_made g.E.Imaged.image l.operator l.fn.first l.operands l.within l.fn.lists
