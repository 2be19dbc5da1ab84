use Rattle.std.proofs.Common.{◌≡◌, ◌++◌}
use Rattle.std.specs.VecDeque.Iter.{deque_iter_rest}
use Rattle.machine_run.proofs.marks.copied_back.Given as goal

-- the copy so far stands before what is to come
abbrev pub invariant-loop-parameter : goal.invariant-loop-parameter
invariant-loop-parameter l = l.copy ++ deque_iter_rest l.parameter-iterator ≡ l.back
