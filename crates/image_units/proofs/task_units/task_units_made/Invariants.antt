use Rattle.std.proofs.Common.{◌≡◌, ◌++◌}
use Rattle.std.specs.VecDeque.Iter.{deque_iter_rest}
use Rattle.ada_image.specs.UnitsOfImage.{task_units_made}
use Rattle.image_units.proofs.task_units.task_units_made.Given as goal

-- those that are made, and those that are still made from here on, are all that are made from the start on
abbrev pub invariant-loop-task : goal.invariant-loop-task
invariant-loop-task l = record {
  lists : (task_units_made l.within l.number (deque_iter_rest l.task-iterator) l.lists).0 ≡ (task_units_made l.within 0 l.within.names.task_units l.fn.lists).0;
  made : l.units ++ (task_units_made l.within l.number (deque_iter_rest l.task-iterator) l.lists).1
      ≡ (task_units_made l.within 0 l.within.names.task_units l.fn.lists).1;
}
