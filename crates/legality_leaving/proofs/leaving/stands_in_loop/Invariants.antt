use Rattle.std.proofs.Common.{◌≡◌}
use Rattle.std.specs.VecDeque.Iter.{deque_iter_rest}
use Rattle.ada_legality.specs.Words.{any_in_sequence}
use Rattle.ada_legality.specs.SimpleStatements.{is_loop}
use Rattle.legality_leaving.proofs.leaving.stands_in_loop.Given as goal

-- the constructs further out give what all of them give
abbrev pub invariant-loop-around : goal.invariant-loop-around
invariant-loop-around l = any_in_sequence is_loop (deque_iter_rest l.around-iterator) ≡ any_in_sequence is_loop l.outer
