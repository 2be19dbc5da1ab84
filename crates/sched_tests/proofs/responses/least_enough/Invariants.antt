use Rattle.std.proofs.Common.{ℕ, ◌≤◌, ◌<◌, ◌+◌, ◌-◌}
use Rattle.sched_tests.specs.Response.{IsEnough}
use Rattle.sched_tests.proofs.responses.least_enough.Given as goal

abbrev pub invariant-loop-window : goal.invariant-loop-window
invariant-loop-window l = record {
  positive : 1 ≤ l.window;
  before : (k : ℕ) → 1 ≤ k → k < l.window → ¬ (IsEnough l.duties l.place k);
}

abbrev pub decreases-loop-window : goal.decreases-loop-window
decreases-loop-window l = l.deadline + 1 - l.window
