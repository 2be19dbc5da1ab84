use Rattle.std.proofs.Common.{◌≡◌, drop}
use Rattle.ada_image.specs.ImageOfExpressions.{argument_from}
use Rattle.image_layout.proofs.arguments.argument_from.Given as goal

-- the arguments that are to come have what all of them have
abbrev pub invariant-loop-place : goal.invariant-loop-place
invariant-loop-place g l = argument_from l.number l.name l.place (drop l.place l.arguments) ≡ argument_from l.number l.name 0 l.arguments
