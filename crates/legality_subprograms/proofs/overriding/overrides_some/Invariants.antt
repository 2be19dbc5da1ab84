use Rattle.std.proofs.Common.{◌≡◌}
use Rattle.std.specs.VecDeque.Iter.{deque_iter_rest}
use Rattle.ada_legality.specs.Declarations.{overrides_some}
use Rattle.legality_subprograms.proofs.overriding.overrides_some.Given as goal

-- the types that are to come give what all of them give
abbrev pub invariant-loop-controlled : goal.invariant-loop-controlled
invariant-loop-controlled l =
    overrides_some l.subprogram l.formals l.number (deque_iter_rest l.controlled-iterator) ≡ overrides_some l.subprogram l.formals 0 l.types
