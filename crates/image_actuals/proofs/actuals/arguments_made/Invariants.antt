use Rattle.std.proofs.Common.{◌≡◌, drop}
use Rattle.image_actuals.specs.Added.{behind, actuals_from}
use Rattle.image_actuals.proofs.actuals.arguments_made.Given as goal

-- the actuals so far and those for the formals that are to come are all of them
abbrev pub invariant-loop-place : goal.invariant-loop-place
invariant-loop-place l =
    behind l.actuals (actuals_from l.within l.place (drop l.place l.formals) l.arguments l.lists) ≡ actuals_from l.within 0 l.formals l.arguments l.fn.lists
