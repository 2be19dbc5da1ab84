use Rattle.std.proofs.Common.{sym, ap, ◌∙◌}
use Rattle.profile_machine.specs.Frames.{goes}
use Rattle.machine_priorities.proofs.StepLemmas.{no_task_is_set, edf_is_barred}
use Rattle.machine_priorities.proofs.priorities.set_base_of.Goals as goal

pub returns-in-None : goal.returns-in-None
returns-in-None c =
    let world = c.args.effect.now.world in
    let said = c.args.effect.now.said in
    no_task_is_set c.args.p.now world said c.args.actor c.args.s c.args.level _ (sym c.in-None.ensures)
    ∙ (ap (λ n. goes c.args.actor n world said) (sym c.next_of.ensures) ∙ c.goes.ensures)

pub returns-then-is_from_or_into_edf : goal.returns-then-is_from_or_into_edf
returns-then-is_from_or_into_edf c =
    rw (edf_is_barred c.args.p.now c.args.effect.now.world c.args.effect.now.said c.args.actor c.args.s c.args.level _ c.in-Some.task.now
    (sym c.in-Some.ensures) (sym c.if-is_from_or_into_edf.ensures)) c.raises.ensures
