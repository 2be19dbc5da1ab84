use Rattle.std.proofs.Common.{◌≡◌, ◌≤◌, ◌++◌, length}
use Rattle.std.specs.VecDeque.Iter.{deque_iter_rest}
use Rattle.machine_queues.proofs.calls.first_values.Given as goal

-- no more than are wanted, and those that are to come behind them
abbrev pub invariant-loop-value : goal.invariant-loop-value
invariant-loop-value l = record { joined : l.first ++ deque_iter_rest l.value-iterator ≡ l.values; within : length l.first ≤ l.count }
