use Rattle.std.proofs.Common.{sym, ap, ◌∙◌}
use Rattle.profile_machine.specs.Frames.{goes}
use Rattle.machine_creation.proofs.StepLemmas.{task_created}
use Rattle.machine_creation.proofs.creation.create_task.Goals as goal

pub returns : goal.returns
returns c =
    let gone = ap (λ n. goes c.args.name n c.args.effect.now.world c.args.effect.now.said) (sym c.next_of.ensures) ∙ c.goes.ensures in
    rw (task_created c.args.p.now c.args.effect.now.world c.args.effect.now.said c.args.name c.args.s c.args.d c.args.within c.args.task c.last_drawn.result
    c.goes.new.effect.world c.add_task.new.world c.names_object.new.effect.world c.goes.new.effect.said c.names_object.new.effect.said gone
    c.in_ok-add_task.ensures c.names_object.ensures c.last_drawn.ensures) c.says.ensures
