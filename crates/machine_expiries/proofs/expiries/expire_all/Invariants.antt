use Rattle.std.proofs.Common.{◌≡◌}
use Rattle.std.specs.VecDeque.Iter.{deque_iter_rest}
use Rattle.profile_machine.specs.Steps.{for_each}
use Rattle.profile_machine.specs.Instant.{expire_timer}
use Rattle.machine_expiries.proofs.expiries.expire_all.Given as goal

-- the timers that are to come lead to where all lead
abbrev pub invariant-loop-number : goal.invariant-loop-number
invariant-loop-number l =
    for_each (deque_iter_rest l.number-iterator) (expire_timer l.p) l.effect.world l.effect.said
    ≡ for_each l.timers (expire_timer l.p) l.initial.effect.world l.initial.effect.said
