use Rattle.std.proofs.Common.{◌≡◌, filter}
use Rattle.std.specs.List.{list_all}
use Rattle.std.specs.VecDeque.Iter.{deque_iter_rest}
use Rattle.profile_machine.specs.Masters.{depends_on_region, is_at_terminate}
use Rattle.machine_masters.proofs.terminate_alternatives.all_at_terminate.Given as goal

-- the tasks that are to come give what all of them give
abbrev pub invariant-loop-task : goal.invariant-loop-task
invariant-loop-task l =
    list_all is_at_terminate (filter (depends_on_region l.world l.region) (deque_iter_rest l.task-iterator))
    ≡ list_all is_at_terminate (filter (depends_on_region l.world l.region) l.world.tasks)
