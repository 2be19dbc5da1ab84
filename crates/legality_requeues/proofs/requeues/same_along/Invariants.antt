use Rattle.std.proofs.Common.{◌≡◌, drop}
use Rattle.legality_requeues.specs.Formals.{same_along}
use Rattle.legality_requeues.proofs.requeues.same_along.Given as goal

-- those that are to come are the same where all are
abbrev pub invariant-loop-formal : goal.invariant-loop-formal
invariant-loop-formal l = (l.at ≡ l.formal-index) × (same_along (drop l.formal-index l.a) l.b l.at ≡ same_along l.a l.b 0)
