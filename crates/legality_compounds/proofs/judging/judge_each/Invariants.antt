use Rattle.std.proofs.Common.{◌≡◌, ◌++◌, drop}
use Rattle.ada_legality.specs.CallStatements.{all_found}
use Rattle.legality_compounds.proofs.judging.judge_each.Given as goal

-- what is found by now, and what the items to come give, is all
abbrev pub invariant-loop-item : goal.invariant-loop-item
invariant-loop-item g l =
    l.found ++ all_found g.T.Judge.judged (drop l.item-index l.items) l.known ≡ l.initial.found ++ all_found g.T.Judge.judged l.items l.known
