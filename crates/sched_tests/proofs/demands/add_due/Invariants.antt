use Rattle.std.proofs.Common.{length, ◌-◌}
use Rattle.sched_tests.proofs.Dues.{HasAdded}
use Rattle.sched_tests.proofs.demands.add_due.Given as goal

abbrev pub invariant-loop-at : goal.invariant-loop-at
invariant-loop-at l = HasAdded l.base l.duty l.initial.due l.due l.at

abbrev pub decreases-loop-at : goal.decreases-loop-at
decreases-loop-at l = length l.initial.due - l.at
