use Rattle.machine_priorities.proofs.StepLemmas.{level_is_given}
use Rattle.machine_priorities.proofs.quanta.set_quantum.Goals as goal

pub returns-in-Ok : goal.returns-in-Ok
returns-in-Ok c =
    rw (level_is_given c.args.p.now c.args.effect.now.world c.args.effect.now.said c.args.name c.args.s c.args.level c.args.quantum _ c.in-Ok.level
    c.seen_by.ensures c.in-Ok.ensures) c.quantum_given.ensures
