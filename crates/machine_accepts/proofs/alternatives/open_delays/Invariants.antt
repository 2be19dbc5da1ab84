use Rattle.std.proofs.Common.{◌≡◌}
use Rattle.std.specs.VecDeque.Iter.{deque_iter_rest}
use Rattle.profile_machine.specs.Rendezvous.{open_delays}
use Rattle.machine_accepts.specs.Parts.{with_before}
use Rattle.machine_accepts.proofs.alternatives.open_delays.Given as goal

-- those so far before those that are to come
abbrev pub invariant-loop-kind : goal.invariant-loop-kind
invariant-loop-kind l = with_before l.delays (open_delays l.q (deque_iter_rest l.kind-iterator)) ≡ open_delays l.q l.kinds
