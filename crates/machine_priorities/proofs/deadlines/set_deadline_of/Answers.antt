use Rattle.machine_priorities.proofs.StepLemmas.{target_is_given}
use Rattle.machine_priorities.proofs.deadlines.set_deadline_of.Goals as goal

pub returns-in-Ok : goal.returns-in-Ok
returns-in-Ok c =
    rw (target_is_given c.args.p.now c.args.effect.now.world c.args.effect.now.said c.args.name c.args.s c.args.e c.args.task _ c.in-Ok.target.now
    c.seen_by.ensures c.in-Ok.ensures) c.deadline_given.ensures
