use Rattle.std.proofs.Common.{◌≡◌, ◌≤◌, drop, length}
use Rattle.world_tables.specs.Lists.{first_of}
use Rattle.ada_legality.specs.Faults.{faults_in, in_order_of_text}
use Rattle.legality_beside.proofs.faults.first_fault_in.Given as goal

-- it is the first of those from the place on
abbrev pub invariant-loop-at : goal.invariant-loop-at
invariant-loop-at l = (l.first ≡ first_of (in_order_of_text (faults_in (drop l.at l.found)))) × (l.at ≤ length l.found)

abbrev pub decreases-loop-at : goal.decreases-loop-at
decreases-loop-at l = l.at
