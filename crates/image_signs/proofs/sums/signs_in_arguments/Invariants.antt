use Rattle.std.proofs.Common.{◌≡◌, ◌+◌, drop}
use Rattle.ada_image.specs.ImageOfExpressions.{signs_in_arguments}
use Rattle.image_signs.proofs.sums.signs_in_arguments.Given as goal

-- the signs so far and those of what is to come are all
abbrev pub invariant-loop-argument : goal.invariant-loop-argument
invariant-loop-argument g l =
    l.signs + signs_in_arguments g.E.Counted.image (drop l.argument-index l.arguments) l.names ≡ signs_in_arguments g.E.Counted.image l.arguments l.names
