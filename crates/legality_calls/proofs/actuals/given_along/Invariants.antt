use Rattle.std.proofs.Common.{◌≡◌, drop}
use Rattle.legality_calls.specs.Along.{given_along}
use Rattle.legality_calls.proofs.actuals.given_along.Given as goal

-- the actuals to come give what all of them give
abbrev pub invariant-loop-actual : goal.invariant-loop-actual
invariant-loop-actual l = (l.at ≡ l.actual-index) × (given_along l.formals (drop l.actual-index l.before) l.at l.name ≡ given_along l.formals l.before 0 l.name)
