use Rattle.std.proofs.Common.{◌≡◌, drop}
use Rattle.legality_calls.specs.Along.{misnamed_along}
use Rattle.legality_calls.proofs.actuals.misnamed_along.Given as goal

-- the actuals to come give what all of them give
abbrev pub invariant-loop-actual : goal.invariant-loop-actual
invariant-loop-actual l =
    (l.at ≡ l.actual-index) × (misnamed_along l.formals l.actuals l.at (drop l.actual-index l.actuals) ≡ misnamed_along l.formals l.actuals 0 l.actuals)
