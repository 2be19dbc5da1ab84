use Rattle.std.proofs.Common.{◌≡◌, drop}
use Rattle.legality_calls.specs.Along.{actual_along}
use Rattle.legality_calls.proofs.actuals.actual_along.Given as goal

-- the actuals to come give what all of them give
abbrev pub invariant-loop-actual : goal.invariant-loop-actual
invariant-loop-actual l =
    (l.at ≡ l.actual-index) × (actual_along l.number l.name l.at (drop l.actual-index l.actuals) ≡ actual_along l.number l.name 0 l.actuals)
