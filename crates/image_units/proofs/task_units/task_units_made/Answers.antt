use Rattle.std.proofs.Common.{◌≡◌, ◌∷◌, arith}
use Rattle.std.proofs.lemmas.Grind.{common_steps}
use Rattle.std.specs.VecDeque.Iter.{deque_iter_rest}
use Rattle.ada_image.specs.UnitsOfImage.{task_units_made}
use Rattle.image_units.proofs.OneByOne.{task_more}
use Rattle.image_units.proofs.task_units.task_units_made.Goals as goal

pub loop-task-preserved : goal.loop-task-preserved
loop-task-preserved c =
    let cut : deque_iter_rest c.loop-task.task-iterator ≡ c.in-Some.task.now ∷ deque_iter_rest c.next.new.self = grind (arith, common_steps) in
    let step =
    task_more c.args.within.now c.loop-task.number c.in_ok-number.number c.in-Some.task.now (deque_iter_rest c.loop-task.task-iterator)
    (deque_iter_rest c.next.new.self)
    c.loop-task.lists c.task_unit_made.new.lists c.in_ok-unit.unit c.loop-task.units c.push.new.self
    (task_units_made c.args.within.now 0 c.args.within.now.names.task_units c.args.lists.now)
    c.in_ok-unit.ensures c.in_ok-number.ensures cut c.in_ok-push.ensures.ok c.loop-task.invariant.lists c.loop-task.invariant.made in
    record { lists = step.0; made = step.1 }
