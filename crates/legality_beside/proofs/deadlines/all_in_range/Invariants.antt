use Rattle.std.proofs.Common.{◌≡◌, ◌++◌, drop}
use Rattle.std.specs.List.{flat_map}
use Rattle.ada_legality.specs.WholeSource.{in_deadline_range}
use Rattle.legality_beside.proofs.deadlines.all_in_range.Given as goal

-- what was judged and what is to come are all of it
abbrev pub invariant-loop-finding : goal.invariant-loop-finding
invariant-loop-finding l =
    l.judged ++ flat_map (in_deadline_range l.last l.found l.range) (drop l.finding-index l.found)
    ≡ l.initial.judged ++ flat_map (in_deadline_range l.last l.found l.range) l.found
