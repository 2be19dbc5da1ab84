use Rattle.std.proofs.Common.{◌≡◌}
use Rattle.std.specs.VecDeque.Iter.{deque_iter_rest}
use Rattle.profile_machine.specs.Steps.{changes, for_each}
use Rattle.profile_machine.specs.Tasks.{edit_task}
use Rattle.profile_machine.specs.Tasking.{abnormal_task}
use Rattle.machine_tasking.specs.KeptTasks.{tasks_kept}
use Rattle.machine_tasking.proofs.aborts.all_become_abnormal.Given as goal

-- the tasks that are to come lead to where all lead
abbrev pub invariant-loop-task : goal.invariant-loop-task
invariant-loop-task l =
    for_each (tasks_kept (deque_iter_rest l.task-iterator)) (λ t. changes (edit_task t.who abnormal_task)) l.effect.world l.effect.said
    ≡ for_each (tasks_kept l.tasks) (λ t. changes (edit_task t.who abnormal_task)) l.initial.effect.world l.initial.effect.said
