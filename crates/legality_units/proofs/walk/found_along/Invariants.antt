use Rattle.std.proofs.Common.{◌≡◌, ◌++◌, drop, map}
use Rattle.ada_regions.specs.Shown.{occurrence_shown}
use Rattle.legality_units.specs.Along.{found_along}
use Rattle.legality_units.proofs.walk.found_along.Given as goal

-- what is found by now, and what the occurrences to come give, is all
abbrev pub invariant-loop-occurrence : goal.invariant-loop-occurrence
invariant-loop-occurrence l =
    l.found ++ found_along (map occurrence_shown (drop l.occurrence-index l.occurrences)) l.names
    ≡ l.initial.found ++ found_along (map occurrence_shown l.occurrences) l.initial.names
