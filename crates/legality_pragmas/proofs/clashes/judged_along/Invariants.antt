use Rattle.std.proofs.Common.{◌≡◌, ◌++◌, drop}
use Rattle.legality_pragmas.specs.Judging.{judged_along}
use Rattle.legality_pragmas.proofs.clashes.judged_along.Given as goal

-- what was found and what is to come are all of it
abbrev pub invariant-loop-pragma : goal.invariant-loop-pragma
invariant-loop-pragma l =
    (l.at ≡ l.pragma-index)
    × (l.found ++ judged_along l.last l.pragmas l.at (drop l.pragma-index l.pragmas) ≡ l.initial.found ++ judged_along l.last l.pragmas 0 l.pragmas)
