use Rattle.std.proofs.Common.{◌≡◌}
use Rattle.std.specs.VecDeque.Iter.{deque_iter_rest}
use Rattle.ada_legality.specs.Statements.{is_asynchronous_select}
use Rattle.ada_legality.specs.Words.{any_in_body}
use Rattle.legality_handlers.proofs.accepts.stands_in_asynchronous_select.Given as goal

-- the constructs further out give what all of them give
abbrev pub invariant-loop-around : goal.invariant-loop-around
invariant-loop-around l = any_in_body is_asynchronous_select (deque_iter_rest l.around-iterator) ≡ any_in_body is_asynchronous_select l.outer
