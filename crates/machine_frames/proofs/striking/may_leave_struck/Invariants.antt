use Rattle.std.proofs.Common.{◌≡◌}
use Rattle.std.specs.VecDeque.Iter.{deque_iter_rest}
use Rattle.profile_machine.specs.Unwinding.{may_leave_struck}
use Rattle.machine_frames.specs.Struck.{may_leave_from}
use Rattle.machine_frames.proofs.striking.may_leave_struck.Given as goal

-- those that are to come, behind what is known of those before, give what all of them give
abbrev pub invariant-loop-frame : goal.invariant-loop-frame
invariant-loop-frame l = may_leave_from l.deferred l.may (deque_iter_rest l.frame-iterator) ≡ may_leave_struck l.frames
