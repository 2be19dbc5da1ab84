use Rattle.std.proofs.Common.{◌≡◌, ◌++◌, drop}
use Rattle.std.specs.List.{flat_map}
use Rattle.ada_legality.specs.WholeSource.{range_judged}
use Rattle.legality_beside.proofs.deadlines.ranges_judged.Given as goal

-- what was judged and what is to come are all of it
abbrev pub invariant-loop-range : goal.invariant-loop-range
invariant-loop-range l =
    l.judged ++ flat_map (range_judged l.last l.found) (drop l.range-index l.ranges) ≡ l.initial.judged ++ flat_map (range_judged l.last l.found) l.ranges
