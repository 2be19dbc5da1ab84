use Rattle.std.proofs.Common.{◌≡◌, ◌++◌, filter, map}
use Rattle.std.specs.VecDeque.Iter.{deque_iter_rest}
use Rattle.profile_machine.specs.Tasking.{is_to_activate}
use Rattle.machine_tasking.specs.KeptTasks.{kept_of}
use Rattle.machine_tasking.proofs.beginning.all_to_activate.Given as goal

-- what is kept so far stands before what is to be kept of those that are to come
abbrev pub invariant-loop-task : goal.invariant-loop-task
invariant-loop-task l =
    l.kept ++ map kept_of (filter (is_to_activate l.region l.declarative_part) (deque_iter_rest l.task-iterator))
    ≡ map kept_of (filter (is_to_activate l.region l.declarative_part) l.tasks)
