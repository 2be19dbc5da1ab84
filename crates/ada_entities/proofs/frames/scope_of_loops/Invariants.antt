use Rattle.std.proofs.Common.{◌≡◌}
use Rattle.std.specs.VecDeque.Iter.{deque_iter_rest}
use Rattle.ada_regions.specs.Names.{scope_of_loops}
use Rattle.ada_entities.proofs.frames.scope_of_loops.Given as goal

-- the frames that are to come give what all of them give
abbrev pub invariant-loop-frame : goal.invariant-loop-frame
invariant-loop-frame l = scope_of_loops (deque_iter_rest l.frame-iterator) ≡ scope_of_loops l.frames
