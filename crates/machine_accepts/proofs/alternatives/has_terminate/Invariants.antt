use Rattle.std.proofs.Common.{◌≡◌}
use Rattle.std.specs.VecDeque.Iter.{deque_iter_rest}
use Rattle.profile_machine.specs.Rendezvous.{has_terminate}
use Rattle.machine_accepts.proofs.alternatives.has_terminate.Given as goal

-- those that are to come give what all of them give
abbrev pub invariant-loop-kind : goal.invariant-loop-kind
invariant-loop-kind l = has_terminate (deque_iter_rest l.kind-iterator) ≡ has_terminate l.kinds
