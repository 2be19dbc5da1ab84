use Rattle.std.proofs.Common.{◌≡◌, ◌++◌}
use Rattle.std.specs.VecDeque.Iter.{deque_iter_rest}
use Rattle.ada_image.specs.UnitsOfImage.{controlled_types_made}
use Rattle.image_units.proofs.controlled_types.controlled_types_made.Given as goal

-- the types so far and those that are to come are all of them
abbrev pub invariant-loop-controlled : goal.invariant-loop-controlled
invariant-loop-controlled l =
    l.made ++ controlled_types_made l.names l.number (deque_iter_rest l.controlled-iterator) ≡ controlled_types_made l.names 0 l.names.controlled_types
