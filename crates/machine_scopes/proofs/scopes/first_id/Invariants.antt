use Rattle.std.proofs.Common.{◌≡◌}
use Rattle.std.specs.VecDeque.Iter.{deque_iter_rest}
use Rattle.profile_machine.specs.Scopes.{first_id}
use Rattle.machine_scopes.proofs.scopes.first_id.Given as goal

-- what is first among the frames that are to come is first of all
abbrev pub invariant-loop-frame : goal.invariant-loop-frame
invariant-loop-frame l = first_id (deque_iter_rest l.frame-iterator) ≡ first_id l.fn.frames
