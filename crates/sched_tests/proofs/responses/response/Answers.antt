use Rattle.std.proofs.Common.{◌≡◌, ◌∙◌, nat_le}
use Rattle.sched_tests.specs.Response.{need, deadline_at, IsEnough}
use Rattle.sched_tests.proofs.Leasts.{least_is, decides_le}
use Rattle.sched_tests.proofs.responses.response.Goals as goal

pub returns-clause-same : goal.returns-clause-same
returns-clause-same c =
    let duties : c.as_slice.result.now ≡ c.args.table.now = c.as_slice.ensures.value ∙ c.table.view_is in
    least_is (λ window. nat_le (need c.args.table.now c.args.place window) window) (IsEnough c.args.table.now c.args.place)
    (λ window. decides_le (need c.args.table.now c.args.place window) window) (deadline_at c.args.table.now c.args.place) c.least_enough.result
    (rw duties at c.least_enough.ensures)
