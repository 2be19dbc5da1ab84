use Rattle.std.proofs.Common.{◌≡◌}
use Rattle.std.specs.VecDeque.Iter.{deque_iter_rest}
use Rattle.profile_machine.specs.Masters.{gone_by_completion}
use Rattle.profile_machine.specs.Steps.{for_each}
use Rattle.machine_masters.proofs.completion.all_gone_by_completion.Given as goal

-- the calls that are to come lead to where all lead
abbrev pub invariant-loop-call : goal.invariant-loop-call
invariant-loop-call l =
    for_each (deque_iter_rest l.call-iterator) (gone_by_completion l.p l.actor) l.effect.world l.effect.said
    ≡ for_each l.calls (gone_by_completion l.p l.actor) l.initial.effect.world l.initial.effect.said
