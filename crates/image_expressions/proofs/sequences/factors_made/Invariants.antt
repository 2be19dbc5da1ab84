use Rattle.std.proofs.Common.{◌≡◌, drop}
use Rattle.ada_image.specs.ImageOfExpressions.{factors_made}
use Rattle.image_expressions.proofs.sequences.factors_made.Given as goal

-- those that are to come make of what is made what all of them make of what was made at first
abbrev pub invariant-loop-factor : goal.invariant-loop-factor
invariant-loop-factor g l =
    factors_made g.E.Imaged.image l.left (drop l.factor-index l.factors) l.within l.lists
    ≡ factors_made g.E.Imaged.image l.fn.first l.factors l.within l.fn.lists
