use Rattle.machine_ticks.proofs.AloneLemmas.{ticked-as}
use Rattle.machine_ticks.proofs.tocks.tick_action.Goals as goal

pub returns-in-Some : goal.returns-in-Some
returns-in-Some c =
    ticked-as c.args.p.now c.in-Task.t c.args.world.now c.tick_alone.new.world c.in-Some.ticks c.args.name c.tick_alone.result
    (cc) (cc) c.tick_alone.ensures
