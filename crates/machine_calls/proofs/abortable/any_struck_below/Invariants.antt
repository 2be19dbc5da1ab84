use Rattle.std.proofs.Common.{◌≡◌}
use Rattle.std.specs.VecDeque.Iter.{deque_iter_rest}
use Rattle.world_tables.specs.Lists.{rest_of}
use Rattle.profile_machine.specs.Unwinding.{any_struck}
use Rattle.machine_calls.proofs.abortable.any_struck_below.Given as goal

-- the frames that are to come give what all below the top give
abbrev pub invariant-loop-frame : goal.invariant-loop-frame
invariant-loop-frame l = any_struck (deque_iter_rest l.frame-iterator) ≡ any_struck (rest_of l.frames)
