use Rattle.std.proofs.Common.{◌≡◌, ◌+◌, drop}
use Rattle.ada_image.specs.ImageOfExpressions.{signs_in_addends}
use Rattle.image_signs.proofs.sums.signs_in_addends.Given as goal

-- the signs so far and those of what is to come are all
abbrev pub invariant-loop-addend : goal.invariant-loop-addend
invariant-loop-addend g l =
    l.signs + signs_in_addends g.E.Counted.image (drop l.addend-index l.addends) l.names ≡ l.first + signs_in_addends g.E.Counted.image l.addends l.names
