use Rattle.std.proofs.Common.{◌≡◌, drop}
use Rattle.expression_forms.proofs.ActualLemmas.{actuals_from}
use Rattle.expression_forms.proofs.actuals.arguments_built.Given as goal

-- the actuals of the formals that are to come are built where those of all are
abbrev pub invariant-loop-place : goal.invariant-loop-place
invariant-loop-place l = actuals_from l.place (drop l.place l.formals) l.arguments l.names ≡ actuals_from 0 l.formals l.arguments l.names
