use Rattle.std.proofs.Common.{◌≡◌, ◌++◌, drop}
use Rattle.legality_beside.specs.Judging.{judged_along}
use Rattle.legality_beside.proofs.whole.judged_along.Given as goal

-- what was judged and what is to come are all of it
abbrev pub invariant-loop-finding : goal.invariant-loop-finding
invariant-loop-finding l =
    (l.at ≡ l.finding-index)
    × (l.judged ++ judged_along l.names l.found l.at (drop l.finding-index l.found) ≡ l.initial.judged ++ judged_along l.names l.found 0 l.found)
