use Rattle.std.proofs.Common.{◌≡◌, ◌++◌}
use Rattle.std.specs.VecDeque.Iter.{deque_iter_rest}
use Rattle.profile_machine.specs.Rendezvous.{open_accepts}
use Rattle.machine_accepts.proofs.alternatives.open_accepts.Given as goal

-- those so far before those that are to come
abbrev pub invariant-loop-kind : goal.invariant-loop-kind
invariant-loop-kind l = l.accepts ++ open_accepts (deque_iter_rest l.kind-iterator) ≡ open_accepts l.kinds
