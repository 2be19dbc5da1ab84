use Rattle.std.proofs.Common.{◌≡◌}
use Rattle.std.specs.VecDeque.Iter.{deque_iter_rest}
use Rattle.ada_image.specs.ImageOfProcedures.{innermost_object}
use Rattle.image_settings.proofs.handlers.innermost_object.Given as goal

-- the units that are to come give what all of them give
abbrev pub invariant-loop-unit : goal.invariant-loop-unit
invariant-loop-unit l = innermost_object l.within (deque_iter_rest l.unit-iterator) ≡ innermost_object l.within l.within.units
