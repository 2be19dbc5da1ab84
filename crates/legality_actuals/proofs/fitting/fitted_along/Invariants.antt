use Rattle.std.proofs.Common.{◌≡◌, ◌++◌, drop}
use Rattle.legality_actuals.specs.Along.{fitted_along}
use Rattle.legality_actuals.proofs.fitting.fitted_along.Given as goal

-- what is found by now, and what the formals to come give, is all
abbrev pub invariant-loop-formal : goal.invariant-loop-formal
invariant-loop-formal l =
    (l.number ≡ l.formal-index)
    × (l.found ++ fitted_along l.known l.number (drop l.formal-index l.formals) l.actuals ≡ l.initial.found ++ fitted_along l.known 0 l.formals l.actuals)
