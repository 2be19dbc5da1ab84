use Rattle.std.proofs.Common.{◌≡◌, drop}
use Rattle.legality_profiles.specs.Beside.{same_along}
use Rattle.legality_profiles.proofs.conformance.same_along.Given as goal

-- those that are to come are the same where all are
abbrev pub invariant-loop-parameter : goal.invariant-loop-parameter
invariant-loop-parameter l =
    (l.at ≡ l.parameter-index) × (same_along l.names (drop l.parameter-index l.parameters) l.others l.at ≡ same_along l.names l.parameters l.others 0)
