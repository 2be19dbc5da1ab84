use Rattle.std.proofs.Common.{◌≡◌, ◌++◌, map}
use Rattle.std.specs.List.{filter}
use Rattle.std.specs.VecDeque.Iter.{deque_iter_rest}
use Rattle.ada_regions.specs.Completions.{is_declared_in_unit, bound_again}
use Rattle.ada_completions.proofs.seen_again.seen_among.Given as goal

-- those seen so far and those of the bindings that are to come are all of them
abbrev pub invariant-loop-binding : goal.invariant-loop-binding
invariant-loop-binding l =
    l.seen ++ map bound_again (filter (is_declared_in_unit l.names) (deque_iter_rest l.binding-iterator))
    ≡ map bound_again (filter (is_declared_in_unit l.names) l.bound)
