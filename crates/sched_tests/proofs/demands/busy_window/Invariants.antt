use Rattle.std.proofs.Common.{ℕ, ◌≤◌, ◌<◌, ◌+◌, ◌-◌}
use Rattle.sched_tests.specs.declared.duties.TheConstants.{LONGEST}
use Rattle.sched_tests.specs.Demand.{IsServed}
use Rattle.sched_tests.proofs.demands.busy_window.Given as goal

abbrev pub invariant-loop-window : goal.invariant-loop-window
invariant-loop-window l = record {
  positive : 1 ≤ l.window;
  before : (k : ℕ) → 1 ≤ k → k < l.window → ¬ (IsServed l.duties k);
}

abbrev pub decreases-loop-window : goal.decreases-loop-window
decreases-loop-window l = LONGEST + 1 - l.window
