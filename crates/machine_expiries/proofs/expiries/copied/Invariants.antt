use Rattle.std.proofs.Common.{◌≡◌, ◌++◌}
use Rattle.std.specs.VecDeque.Iter.{deque_iter_rest}
use Rattle.machine_expiries.proofs.expiries.copied.Given as goal

-- the copy so far stands before what is to come
abbrev pub invariant-loop-number : goal.invariant-loop-number
invariant-loop-number l = l.copy ++ deque_iter_rest l.number-iterator ≡ l.numbers
