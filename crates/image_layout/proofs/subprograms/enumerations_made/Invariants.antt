use Rattle.std.proofs.Common.{◌≡◌, ◌++◌, map}
use Rattle.std.specs.VecDeque.Iter.{deque_iter_rest}
use Rattle.ada_image.specs.Layout.{enumeration_made}
use Rattle.image_layout.proofs.subprograms.enumerations_made.Given as goal

-- the types so far and those that are to come are all of them
abbrev pub invariant-loop-literals : goal.invariant-loop-literals
invariant-loop-literals l = l.made ++ map enumeration_made (deque_iter_rest l.literals-iterator) ≡ map enumeration_made l.names.enumerations
