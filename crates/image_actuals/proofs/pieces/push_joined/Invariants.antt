use Rattle.std.proofs.Common.{◌≡◌, drop}
use Rattle.ada_image.specs.ImageOfCalls.{joined_made}
use Rattle.image_actuals.specs.Added.{behind}
use Rattle.image_actuals.proofs.pieces.push_joined.Given as goal

-- the pieces so far and those that are to come are all of them
abbrev pub invariant-loop-addend : goal.invariant-loop-addend
invariant-loop-addend l =
    behind l.pieces (joined_made l.within (drop l.addend-index l.addends) l.lists) ≡ behind l.fn.pieces (joined_made l.within l.addends l.fn.lists)
