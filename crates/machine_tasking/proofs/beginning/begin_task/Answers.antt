use Rattle.machine_tasking.specs.KeptTasks.{task_kept}
use Rattle.machine_tasking.proofs.StepLemmas.{begun}
use Rattle.machine_tasking.proofs.beginning.begin_task.Goals as goal

pub returns : goal.returns
returns c =
    rw (begun c.args.p.now c.args.effect.now.world c.args.effect.now.said c.args.activator c.args.level
    (task_kept c.args.task) c.open_body.new.world c.put_activated.new.world c.inherit.new.world c.in_ok-open_body.ensures c.in_ok-put_activated.ensures
    c.in_ok-inherit.ensures) c.ready.ensures
