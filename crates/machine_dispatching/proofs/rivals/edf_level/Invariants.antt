use Rattle.std.proofs.Common.{◌≡◌, ◌≤◌, List, max}
use Rattle.std.specs.VecDeque.Iter.{deque_iter_rest}
use Rattle.profile_machine.specs.declared.world.objects.Object.{Object}
use Rattle.profile_machine.specs.Dispatching.{greatest_level, may_stand_at, inside_objects, ready_rivals}
use Rattle.machine_dispatching.proofs.rivals.edf_level.Given as goal

-- the greatest so far, and the objects that are to come, give what all give
abbrev pub invariant-loop-object : goal.invariant-loop-object
invariant-loop-object l =
    let greatest_inside =
    λ (objects : List Object). greatest_level
    (may_stand_at l.low l.task.base l.task.deadline (inside_objects l.world l.world.objects) (ready_rivals l.p l.task.who l.world.tasks))
    (inside_objects l.world objects) l.least in
    record { behind : l.least ≤ l.greatest; joined : max l.greatest (greatest_inside (deque_iter_rest l.object-iterator)) ≡ greatest_inside l.world.objects }
