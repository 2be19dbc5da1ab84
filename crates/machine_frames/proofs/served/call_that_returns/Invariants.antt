use Rattle.std.proofs.Common.{◌≡◌}
use Rattle.std.specs.VecDeque.Iter.{deque_iter_rest}
use Rattle.profile_machine.specs.Subprograms.{call_that_returns}
use Rattle.machine_frames.proofs.served.call_that_returns.Given as goal

-- the frames that are to come give what all of them give
abbrev pub invariant-loop-frame : goal.invariant-loop-frame
invariant-loop-frame l = call_that_returns (deque_iter_rest l.frame-iterator) ≡ call_that_returns l.frames
