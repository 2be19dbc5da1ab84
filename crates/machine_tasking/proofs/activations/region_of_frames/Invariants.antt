use Rattle.std.proofs.Common.{◌≡◌}
use Rattle.std.specs.VecDeque.Iter.{deque_iter_rest}
use Rattle.profile_machine.specs.Tasking.{region_of_frames}
use Rattle.machine_tasking.proofs.activations.region_of_frames.Given as goal

-- the region of the frames that are to come is that of all
abbrev pub invariant-loop-frame : goal.invariant-loop-frame
invariant-loop-frame l = region_of_frames (deque_iter_rest l.frame-iterator) ≡ region_of_frames l.frames
