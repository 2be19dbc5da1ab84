use Rattle.std.proofs.Common.{◌≡◌, ◌∙◌, nat_le}
use Rattle.sched_tests.specs.declared.duties.TheConstants.{LONGEST}
use Rattle.sched_tests.specs.Demand.{busy_demand, IsServed}
use Rattle.sched_tests.proofs.Leasts.{least_is, decides_le}
use Rattle.sched_tests.proofs.Beyond.{busy_beyond}
use Rattle.sched_tests.proofs.demands.busy.Goals as goal

pub returns-clause-same : goal.returns-clause-same
returns-clause-same c =
    let duties : c.as_slice.result.now ≡ c.args.table.now = c.as_slice.ensures.value ∙ c.table.view_is in
    least_is (λ window. nat_le (busy_demand c.args.table.now window) window) (IsServed c.args.table.now)
    (λ window. decides_le (busy_demand c.args.table.now window) window) LONGEST c.busy_window.result (rw duties at c.busy_window.ensures)

pub returns-clause-beyond : goal.returns-clause-beyond
returns-clause-beyond c =
    let duties : c.table.inside.duties.items ≡ c.args.table.now = c.table.view_is in
    rw (← duties) (busy_beyond c.table.inside.duties.items c.busy_window.result c.table.invariant.each (rw c.as_slice.ensures.value at c.busy_window.ensures))
