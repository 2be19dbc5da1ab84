use Rattle.std.proofs.Common.{◌≡◌}
use Rattle.std.specs.VecDeque.Iter.{deque_iter_rest}
use Rattle.profile_machine.specs.Handlers.{handler_attached}
use Rattle.machine_releases.proofs.interrupts.handler_attached.Given as goal

-- the objects that are to come give what all of them give
abbrev pub invariant-loop-object : goal.invariant-loop-object
invariant-loop-object l = handler_attached l.p l.n (deque_iter_rest l.object-iterator) ≡ handler_attached l.p l.n l.objects
