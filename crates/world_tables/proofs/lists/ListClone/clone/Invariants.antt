use Rattle.std.proofs.Common.{◌≡◌, ◌++◌}
use Rattle.std.specs.VecDeque.Iter.{deque_iter_rest}
use Rattle.world_tables.proofs.lists.ListClone.clone.Given as goal

-- the items that are copied and those that are to come are all
abbrev pub invariant-loop-item : goal.invariant-loop-item
invariant-loop-item g l = l.copy ++ deque_iter_rest l.item-iterator ≡ l.self
