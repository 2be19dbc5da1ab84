use Rattle.machine_kernel.proofs.BusyLemmas.{quiet}
use Rattle.machine_kernel.proofs.KernelLemmas.{next-future, next-lines, next-stop, next-going, next-ended}
use Rattle.machine_kernel.proofs.kernel.Kernel.next.Goals as goal

pub returns-clause-future : goal.returns-clause-future
returns-clause-future c =
    next-future c.args.out.now c.step.new.out c.args.self.now c.step.new.self c.instants_take_no_time.ensures c.tocks_take_one_tick.ensures
    (quiet c.idle_stretches_say_nothing.ensures c.busy_stretches_say_nothing.ensures) c.step.result c.step.ensures.step c.step.ensures.told

pub returns-clause-lines : goal.returns-clause-lines
returns-clause-lines c =
    next-lines c.args.self.now c.step.new.self c.instants_take_no_time.ensures c.tocks_take_one_tick.ensures
    (quiet c.idle_stretches_say_nothing.ensures c.busy_stretches_say_nothing.ensures) c.step.result
    c.step.ensures.step

pub returns-clause-stop : goal.returns-clause-stop
returns-clause-stop c =
    next-stop c.args.self.now c.step.new.self c.instants_take_no_time.ensures c.tocks_take_one_tick.ensures
    (quiet c.idle_stretches_say_nothing.ensures c.busy_stretches_say_nothing.ensures) c.step.result
    c.step.ensures.step

pub returns-clause-going : goal.returns-clause-going
returns-clause-going c =
    next-going c.args.self.now c.step.new.self c.instants_take_no_time.ensures c.tocks_take_one_tick.ensures
    (quiet c.idle_stretches_say_nothing.ensures c.busy_stretches_say_nothing.ensures) c.step.result
    c.step.ensures.step c.step.ensures.going

pub returns-clause-ended : goal.returns-clause-ended
returns-clause-ended c = next-ended c.args.self.now c.step.new.self c.step.result c.step.ensures.ended
