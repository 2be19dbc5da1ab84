use Rattle.std.specs.VecDeque.Iter.{deque_iter_rest}
use Rattle.profile_machine.proofs.FrameCountLemmas.{AreCountedBefore}
use Rattle.profile_machine.proofs.world.frame_stack.count_all.Given as goal

-- the counts and those of the frames that are to come are the counts of all
abbrev pub invariant-loop-frame : goal.invariant-loop-frame
invariant-loop-frame l = AreCountedBefore l.counts (deque_iter_rest l.frame-iterator) l.frames.items
