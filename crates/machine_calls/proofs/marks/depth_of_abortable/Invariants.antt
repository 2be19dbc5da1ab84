use Rattle.std.proofs.Common.{◌≡◌, length}
use Rattle.std.specs.VecDeque.Iter.{deque_iter_rest}
use Rattle.profile_machine.specs.CallEnds.{depth_of_abortable}
use Rattle.machine_calls.proofs.marks.depth_of_abortable.Given as goal

-- those that are to come are counted, and give what all of them give
abbrev pub invariant-loop-frame : goal.invariant-loop-frame
invariant-loop-frame l = record {
  counted : l.below ≡ length (deque_iter_rest l.frame-iterator);
  given : depth_of_abortable l.c (deque_iter_rest l.frame-iterator) ≡ depth_of_abortable l.c l.frames;
}
