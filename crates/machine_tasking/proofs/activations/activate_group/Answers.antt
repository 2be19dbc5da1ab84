use Rattle.std.proofs.Common.{sym, ap, ◌∙◌}
use Rattle.profile_machine.specs.Frames.{goes}
use Rattle.machine_tasking.proofs.StepLemmas.{group_activated}
use Rattle.machine_tasking.proofs.activations.activate_group.Goals as goal

pub returns : goal.returns
returns c =
    let gone = ap (λ n. goes c.args.name n c.args.effect.now.world c.args.effect.now.said) (sym c.next_of.ensures) ∙ c.goes.ensures in
    rw (group_activated c.args.p.now c.args.effect.now.world c.args.effect.now.said c.args.name c.args.s c.args.declarative_part
    c.top_region_of_scope-region.result c.active_of-level.result _ c.has_activating-activating.result c.has_group_failed-failed.result
    c.goes.new.effect.world c.drop_failure.new.world c.activate_all.new.effect.world c.goes.new.effect.said c.activate_all.new.effect.said
    c.top_region_of_scope-region.ensures c.active_of-level.ensures c.in_ok-tasks.ensures gone c.drop_failure.ensures c.in_ok-activate_all.ensures
    c.has_activating-activating.ensures c.has_group_failed-failed.ensures) c.await_group.ensures
