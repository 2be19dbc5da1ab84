use Rattle.std.proofs.Common.{◌≡◌, ◌++◌}
use Rattle.std.specs.VecDeque.Iter.{deque_iter_rest}
use Rattle.ada_image.specs.UnitsOfImage.{components_from}
use Rattle.image_units.proofs.components.component_numbers.Given as goal

-- the numbers so far and those of the components that are to come are all of them
abbrev pub invariant-loop-declaration : goal.invariant-loop-declaration
invariant-loop-declaration l =
    l.components ++ components_from l.number l.owner (deque_iter_rest l.declaration-iterator) ≡ components_from 0 l.owner l.names.declarations
