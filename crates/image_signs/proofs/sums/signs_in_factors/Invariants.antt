use Rattle.std.proofs.Common.{◌≡◌, ◌+◌, drop}
use Rattle.ada_image.specs.ImageOfExpressions.{signs_in_factors}
use Rattle.image_signs.proofs.sums.signs_in_factors.Given as goal

-- the signs so far and those of what is to come are all
abbrev pub invariant-loop-factor : goal.invariant-loop-factor
invariant-loop-factor g l =
    l.signs + signs_in_factors g.E.Counted.image (drop l.factor-index l.factors) l.names ≡ l.first + signs_in_factors g.E.Counted.image l.factors l.names
