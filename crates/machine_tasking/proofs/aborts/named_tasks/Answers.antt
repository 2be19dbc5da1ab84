use Rattle.std.proofs.Common.{sym}
use Rattle.machine_tasking.proofs.NamedLemmas.{named_step, named_stop}
use Rattle.machine_tasking.proofs.aborts.named_tasks.Goals as goal

pub loop-d-preserved : goal.loop-d-preserved
loop-d-preserved c =
    named_step c.args.q.now c.args.names.now c.loop-d.d-index _ c.loop-d.tasks _ c.push_named.new.tasks c.in-Ok.named c.task_in.result c.loop-d-test.true
    (sym c.in-Ok.ensures) c.task_in.ensures c.in_ok-push_named-in-Ok.ensures c.loop-d.invariant

pub returns-in-Err : goal.returns-in-Err
returns-in-Err c =
    named_stop c.args.q.now c.args.names.now c.loop-d.d-index _ c.loop-d.tasks _ c.in-Err.exception c.loop-d-test.true (sym c.in-Err.ensures) c.loop-d.invariant
