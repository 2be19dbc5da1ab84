use Rattle.std.proofs.Common.{◌≡◌}
use Rattle.std.specs.VecDeque.Iter.{deque_iter_rest}
use Rattle.profile_machine.specs.Steps.{for_each}
use Rattle.profile_machine.specs.Tasking.{abort_one}
use Rattle.machine_tasking.specs.KeptTasks.{tasks_kept}
use Rattle.machine_tasking.proofs.aborts.all_aborted.Given as goal

-- the tasks that are to come lead to where all lead
abbrev pub invariant-loop-task : goal.invariant-loop-task
invariant-loop-task l =
    for_each (tasks_kept (deque_iter_rest l.task-iterator)) (abort_one l.p l.actor) l.effect.world l.effect.said
    ≡ for_each (tasks_kept l.tasks) (abort_one l.p l.actor) l.initial.effect.world l.initial.effect.said
