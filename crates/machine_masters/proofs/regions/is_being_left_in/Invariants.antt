use Rattle.std.proofs.Common.{◌≡◌}
use Rattle.std.specs.VecDeque.Iter.{deque_iter_rest}
use Rattle.profile_machine.specs.Masters.{is_being_left_in}
use Rattle.machine_masters.proofs.regions.is_being_left_in.Given as goal

-- the frames that are to come give what all of them give
abbrev pub invariant-loop-frame : goal.invariant-loop-frame
invariant-loop-frame l = is_being_left_in l.region (deque_iter_rest l.frame-iterator) ≡ is_being_left_in l.region l.frames
