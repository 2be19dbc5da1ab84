use Rattle.machine_tasking.proofs.StepLemmas.{scope_ended}
use Rattle.machine_tasking.proofs.endings.end_of_scope.Goals as goal

pub returns : goal.returns
returns c =
    rw (scope_ended c.args.p.now c.args.effect.now.world c.args.effect.now.said c.args.name c.args.m.now c.args.leaving c.left_by.result _ c.pop.new.world
    c.end_scope.new.world c.says_left.new.effect.world c.says_left.new.effect.said c.in_ok-cells.ensures c.pop.ensures c.end_scope.ensures
    c.in_ok-says_left.ensures c.left_by.ensures) c.behind_scope.ensures
