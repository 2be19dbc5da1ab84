use Rattle.std.proofs.Common.{◌≡◌}
use Rattle.std.specs.VecDeque.Iter.{deque_iter_rest}
use Rattle.profile_machine.specs.Statements.{handled_in}
use Rattle.machine_statements.proofs.sequences.handled_in.Given as goal

-- the frames that are to come give what all of them give
abbrev pub invariant-loop-frame : goal.invariant-loop-frame
invariant-loop-frame l = handled_in l.id (deque_iter_rest l.frame-iterator) ≡ handled_in l.id l.frames
