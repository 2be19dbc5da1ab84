use Rattle.std.proofs.Common.{◌≡◌}
use Rattle.std.specs.VecDeque.Iter.{deque_iter_rest}
use Rattle.profile_machine.specs.CallEnds.{copy_back}
use Rattle.machine_scopes.proofs.results.copy_back.Given as goal

-- what is to be copied gives what all gave at the beginning
abbrev pub invariant-loop-target : goal.invariant-loop-target
invariant-loop-target l =
    copy_back l.p (deque_iter_rest l.target-iterator) (deque_iter_rest l.handed) l.world ≡ copy_back l.p l.results l.values l.initial.world
