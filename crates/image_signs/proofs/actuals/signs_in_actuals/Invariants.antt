use Rattle.std.proofs.Common.{◌≡◌, ◌+◌, drop}
use Rattle.ada_image.specs.CallStatements.{signs_in_actuals}
use Rattle.image_signs.proofs.actuals.signs_in_actuals.Given as goal

-- the signs so far, and those to come, are all of them
abbrev pub invariant-loop-argument : goal.invariant-loop-argument
invariant-loop-argument l = l.signs + signs_in_actuals l.within (drop l.argument-index l.arguments) ≡ signs_in_actuals l.within l.arguments
