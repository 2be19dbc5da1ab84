use Rattle.std.proofs.Common.{◌≡◌, ◌++◌, map}
use Rattle.std.specs.VecDeque.Iter.{deque_iter_rest}
use Rattle.profile_machine.specs.Masters.{without_queued}
use Rattle.machine_masters.proofs.completion.without_queued.Given as goal

-- the empty queues so far stand before those that are to come
abbrev pub invariant-loop-queue : goal.invariant-loop-queue
invariant-loop-queue l = l.emptied ++ map without_queued (deque_iter_rest l._queue-iterator) ≡ map without_queued l.queues
