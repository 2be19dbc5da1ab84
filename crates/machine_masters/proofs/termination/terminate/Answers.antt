use Rattle.machine_masters.proofs.StepLemmas.{terminated}
use Rattle.machine_masters.proofs.termination.terminate.Goals as goal

pub returns : goal.returns
returns c =
    rw (terminated c.args.p.now c.args.effect.now.world c.args.effect.now.said c.args.name c.args.actor c.master_of-master.result c.complete.new.effect.world
    c.drop_delay.new.world c.forget_task.new.world c.complete.new.effect.said c.master_of-master.ensures c.in_ok-complete.ensures c.drop_delay.ensures
    c.forget_task.ensures) c.wake_master_of.ensures
