use Rattle.std.proofs.Common.{◌≡◌, drop}
use Rattle.ada_image.specs.ImageOfExpressions.{addends_made}
use Rattle.image_expressions.proofs.sequences.addends_made.Given as goal

-- those that are to come make of what is made what all of them make of what was made at first
abbrev pub invariant-loop-addend : goal.invariant-loop-addend
invariant-loop-addend g l =
    addends_made g.E.Imaged.image l.left (drop l.addend-index l.addends) l.within l.lists
    ≡ addends_made g.E.Imaged.image l.fn.first l.addends l.within l.fn.lists
