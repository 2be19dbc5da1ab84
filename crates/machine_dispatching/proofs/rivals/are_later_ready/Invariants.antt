use Rattle.std.proofs.Common.{◌≡◌}
use Rattle.std.specs.VecDeque.Iter.{deque_iter_rest}
use Rattle.profile_machine.specs.Dispatching.{all_later, from_to, ready_rivals}
use Rattle.machine_dispatching.proofs.rivals.are_later_ready.Given as goal

-- the tasks that are to come give what all give
abbrev pub invariant-loop-task : goal.invariant-loop-task
invariant-loop-task l =
    all_later l.deadline (from_to l.low l.level (ready_rivals l.p l.name (deque_iter_rest l.task-iterator)))
    ≡ all_later l.deadline (from_to l.low l.level (ready_rivals l.p l.name l.tasks))
