use Rattle.std.proofs.Common.{◌≡◌}
use Rattle.std.specs.VecDeque.Iter.{deque_iter_rest}
use Rattle.profile_machine.specs.Subprograms.{copy_parameters, store_result}
use Rattle.machine_returns.proofs.returns.copy_parameters.Given as goal

-- the parameters that are to come lead from here where all of them led from the beginning
abbrev pub invariant-loop-b : goal.invariant-loop-b
invariant-loop-b l =
    copy_parameters l.p l.name l.cells (deque_iter_rest l.b-iterator) (store_result l.p l.name l.cells l.to) l.effect.world l.effect.said
    ≡ copy_parameters l.p l.name l.cells l.back (store_result l.p l.name l.cells l.to) l.initial.effect.world l.initial.effect.said
