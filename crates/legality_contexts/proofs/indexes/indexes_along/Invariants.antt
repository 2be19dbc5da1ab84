use Rattle.std.proofs.Common.{◌≡◌, drop, map}
use Rattle.ada_regions.specs.Shown.{occurrence_shown}
use Rattle.legality_contexts.specs.Along.{indexes_along}
use Rattle.legality_contexts.proofs.indexes.indexes_along.Given as goal

-- what those to come put behind what stands there is what all put behind what stood there first
abbrev pub invariant-loop-occurrence : goal.invariant-loop-occurrence
invariant-loop-occurrence l =
    indexes_along l.names l.occurrences l.in_force l.indexes (map occurrence_shown (drop l.occurrence-index l.items))
    ≡ indexes_along l.names l.occurrences l.in_force l.initial.indexes (map occurrence_shown l.items)
