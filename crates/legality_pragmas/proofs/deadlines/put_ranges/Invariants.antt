use Rattle.std.proofs.Common.{◌≡◌, ◌++◌, drop}
use Rattle.std.specs.List.{flat_map}
use Rattle.legality_pragmas.specs.Deadlines.{told}
use Rattle.legality_pragmas.proofs.deadlines.put_ranges.Given as goal

-- the ranges so far and those that are to come are all of them
abbrev pub invariant-loop-range : goal.invariant-loop-range
invariant-loop-range l = l.ranges ++ flat_map (told l.place) (drop l.range-index l.given) ≡ l.initial.ranges ++ flat_map (told l.place) l.given
