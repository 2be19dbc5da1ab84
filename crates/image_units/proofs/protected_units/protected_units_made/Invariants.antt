use Rattle.std.proofs.Common.{◌≡◌, ◌++◌}
use Rattle.std.specs.VecDeque.Iter.{deque_iter_rest}
use Rattle.ada_image.specs.UnitsOfImage.{protected_units_made}
use Rattle.image_units.proofs.protected_units.protected_units_made.Given as goal

-- the units so far and those that are to come are all of them
abbrev pub invariant-loop-unit : goal.invariant-loop-unit
invariant-loop-unit l =
    l.made ++ protected_units_made l.names l.number (deque_iter_rest l.unit-iterator) ≡ protected_units_made l.names 0 l.names.protected_units
