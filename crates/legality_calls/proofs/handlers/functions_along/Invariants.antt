use Rattle.std.proofs.Common.{◌≡◌, ◌++◌, None}
use Rattle.std.specs.VecDeque.Iter.{deque_iter_rest}
use Rattle.legality_calls.specs.Beside.{functions_along}
use Rattle.legality_calls.proofs.handlers.functions_along.Given as goal

-- what is found by now, and what the constructs further out give, is all
abbrev pub invariant-loop-around : goal.invariant-loop-around
invariant-loop-around l = l.found ++ functions_along l.t l.inner (deque_iter_rest l.around-iterator) ≡ l.initial.found ++ functions_along l.t None l.outer
