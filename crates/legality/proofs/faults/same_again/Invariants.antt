use Rattle.std.proofs.Common.{◌≡◌, ◌++◌}
use Rattle.std.specs.VecDeque.Iter.{deque_iter_rest}
use Rattle.legality.proofs.faults.same_again.Given as goal

-- those so far and those that are to come are all of them
abbrev pub invariant-loop-finding : goal.invariant-loop-finding
invariant-loop-finding l = l.copy ++ deque_iter_rest l.finding-iterator ≡ l.found
