use Rattle.std.proofs.Common.{◌≡◌, ◌++◌}
use Rattle.std.specs.VecDeque.Iter.{deque_iter_rest}
use Rattle.legality_beside.specs.Passing.{passing_from}
use Rattle.legality_beside.proofs.cells.passing_from.Given as goal

-- what was judged and what is to come are all of it
abbrev pub invariant-loop-declaration : goal.invariant-loop-declaration
invariant-loop-declaration l =
    l.judged ++ passing_from l.names l.found l.number l.before (deque_iter_rest l.declaration-iterator)
    ≡ l.initial.judged ++ passing_from l.names l.found 0 0 l.names.declarations
