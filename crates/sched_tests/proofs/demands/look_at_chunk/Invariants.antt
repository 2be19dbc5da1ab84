use Rattle.std.proofs.Common.{◌≡◌, ◌≤◌, ◌+◌}
use Rattle.sched_tests.specs.Least.{IsNever}
use Rattle.sched_tests.specs.Demand.{demand, IsOver}
use Rattle.sched_tests.proofs.demands.look_at_chunk.Given as goal

abbrev pub invariant-loop-rise : goal.invariant-loop-rise
invariant-loop-rise l = record {
  window : l.window ≡ l.base + l.rise-index;
  total : l.total ≡ demand l.duties l.window;
  small : l.total ≤ l.window;
  within : IsNever (IsOver l.duties) l.window;
}
