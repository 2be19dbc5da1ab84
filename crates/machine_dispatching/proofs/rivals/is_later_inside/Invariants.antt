use Rattle.std.proofs.Common.{◌≡◌}
use Rattle.std.specs.VecDeque.Iter.{deque_iter_rest}
use Rattle.profile_machine.specs.Dispatching.{all_later, of_level, inside_object}
use Rattle.machine_dispatching.proofs.rivals.is_later_inside.Given as goal

-- those who are to come give what all give
abbrev pub invariant-loop-action : goal.invariant-loop-action
invariant-loop-action l =
    all_later l.deadline (of_level l.level (inside_object l.world l.object.ceiling (deque_iter_rest l.action-iterator)))
    ≡ all_later l.deadline (of_level l.level (inside_object l.world l.object.ceiling l.object.actions))
