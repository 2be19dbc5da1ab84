use Rattle.std.proofs.Common.{◌≡◌}
use Rattle.std.specs.VecDeque.Iter.{deque_iter_rest}
use Rattle.machine_declarations.specs.FirstValues.{all_written}
use Rattle.machine_declarations.proofs.initial_values.all_written.Given as goal

-- what is written by the values that are to come is what all of them write
abbrev pub invariant-loop-value : goal.invariant-loop-value
invariant-loop-value l = all_written l.p (deque_iter_rest l.value-iterator) l.world ≡ all_written l.p l.values l.initial.world
