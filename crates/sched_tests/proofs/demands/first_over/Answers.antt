use Rattle.std.proofs.Common.{◌≡◌, ◌∙◌, nat_lt}
use Rattle.std.specs.Option.{option_map}
use Rattle.sched_tests.specs.declared.duties.TheConstants.{LONGEST}
use Rattle.sched_tests.specs.Demand.{demand, IsOver}
use Rattle.sched_tests.proofs.Leasts.{least_is, decides_lt}
use Rattle.sched_tests.proofs.demands.first_over.Goals as goal

pub returns-clause-same : goal.returns-clause-same
returns-clause-same c =
    let duties : c.as_slice.result.now ≡ c.args.table.now = c.as_slice.ensures.value ∙ c.table.view_is in
    least_is (λ window. nat_lt window (demand c.args.table.now window)) (IsOver c.args.table.now)
    (λ window. decides_lt window (demand c.args.table.now window)) LONGEST (option_map (λ over. over.0) c.first_overrun.result)
    (rw duties at c.first_overrun.ensures.least)
