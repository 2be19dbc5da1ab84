use Rattle.std.proofs.Common.{arith, inl, inr}
use Rattle.std.proofs.lemmas.Bool.{cases_lt}
use Rattle.sched_tests.proofs.Needs.{busy_rises}
use Rattle.sched_tests.proofs.demands.busy_window.Goals as goal

pub returns-then-asked : goal.returns-then-asked
returns-then-asked c = record {
  nowhere = λ k positive within served. elim (cases_lt k c.loop-window.window) [
    | inl below ↦ c.loop-window.invariant.before k positive below served
    | inr above ↦ absurd (omega (arith, busy_rises c.args.duties.now c.loop-window.window k above, c.busy_demand-asked.ensures, served))
  ];
}

pub loop-window-preserved : goal.loop-window-preserved
loop-window-preserved c = record {
  positive = omega arith;
  before = λ k positive within served. elim (cases_lt k c.loop-window.window) [
    | inl below ↦ c.loop-window.invariant.before k positive below served
    | inr above ↦ absurd (omega (arith, busy_rises c.args.duties.now c.loop-window.window k above, c.busy_demand-asked.ensures, served))
  ];
}
