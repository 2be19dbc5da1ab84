use Rattle.std.proofs.Common.{◌≡◌, ◌++◌, drop}
use Rattle.legality_calls.specs.Along.{stray_along}
use Rattle.legality_calls.proofs.actuals.stray_along.Given as goal

-- what is found by now, and what the actuals to come give, is all
abbrev pub invariant-loop-actual : goal.invariant-loop-actual
invariant-loop-actual l =
    (l.at ≡ l.actual-index)
    × (l.found ++ stray_along l.formals l.actuals l.at (drop l.actual-index l.actuals) ≡ l.initial.found ++ stray_along l.formals l.actuals 0 l.actuals)
