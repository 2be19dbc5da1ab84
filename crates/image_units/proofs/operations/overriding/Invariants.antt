use Rattle.std.proofs.Common.{◌≡◌}
use Rattle.std.specs.VecDeque.Iter.{deque_iter_rest}
use Rattle.std.specs.Option.{option_or}
use Rattle.ada_image.specs.UnitsOfImage.{overriding_from}
use Rattle.image_units.proofs.operations.overriding.Given as goal

-- the last of the subprograms that are to come, or else the one that was found
abbrev pub invariant-loop-subprogram : goal.invariant-loop-subprogram
invariant-loop-subprogram l =
    option_or (overriding_from l.number l.controlled l.name l.place (deque_iter_rest l.subprogram-iterator)) l.found
    ≡ overriding_from l.number l.controlled l.name 0 l.names.subprograms
