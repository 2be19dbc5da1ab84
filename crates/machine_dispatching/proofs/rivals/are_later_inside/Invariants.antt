use Rattle.std.proofs.Common.{◌≡◌}
use Rattle.std.specs.VecDeque.Iter.{deque_iter_rest}
use Rattle.profile_machine.specs.Dispatching.{all_later, of_level, inside_objects}
use Rattle.machine_dispatching.proofs.rivals.are_later_inside.Given as goal

-- the objects that are to come give what all give
abbrev pub invariant-loop-object : goal.invariant-loop-object
invariant-loop-object l =
    all_later l.deadline (of_level l.level (inside_objects l.world (deque_iter_rest l.object-iterator)))
    ≡ all_later l.deadline (of_level l.level (inside_objects l.world l.world.objects))
