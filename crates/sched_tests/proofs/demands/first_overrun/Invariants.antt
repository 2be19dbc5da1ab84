use Rattle.std.proofs.Common.{◌≡◌, ◌≤◌, ◌*◌}
use Rattle.sched_tests.specs.declared.demands.TheConstants.{CHUNK}
use Rattle.sched_tests.specs.Least.{IsNever}
use Rattle.sched_tests.specs.Demand.{demand, IsOver}
use Rattle.sched_tests.proofs.demands.first_overrun.Given as goal

abbrev pub invariant-loop-chunk : goal.invariant-loop-chunk
invariant-loop-chunk l = record {
  total : l.total ≡ demand l.duties (l.chunk * CHUNK);
  small : l.total ≤ l.chunk * CHUNK;
  within : IsNever (IsOver l.duties) (l.chunk * CHUNK);
}
