use Rattle.std.proofs.Common.{◌≡◌, ◌++◌}
use Rattle.std.specs.VecDeque.Iter.{deque_iter_rest}
use Rattle.profile_machine.specs.EntryCalls.{results_in}
use Rattle.machine_meetings.proofs.parameters.results_in.Given as goal

-- those so far before those that are to come
abbrev pub invariant-loop-parameter : goal.invariant-loop-parameter
invariant-loop-parameter l = l.results ++ results_in (deque_iter_rest l.parameter-iterator) ≡ results_in l.parameters
