use Rattle.std.proofs.Common.{◌≡◌}
use Rattle.std.specs.VecDeque.Iter.{deque_iter_rest}
use Rattle.profile_machine.specs.Scopes.{put_cells}
use Rattle.machine_scopes.proofs.scopes.put_cells.Given as goal

-- the values that are to come make of the cells what all of them make
abbrev pub invariant-loop-value : goal.invariant-loop-value
invariant-loop-value l = put_cells l.at (deque_iter_rest l.value-iterator) l.cells ≡ put_cells l.place l.values l.initial.cells
