use Rattle.std.proofs.Common.{slice_set, sym, ap, ◌∙◌}
use Rattle.profile_machine.specs.Handlers.{charged_budget}
use Rattle.machine_releases.proofs.EditLemmas.{set_found}
use Rattle.machine_releases.proofs.ticks.charge_at.Goals as goal

pub returns-in-Some : goal.returns-in-Some
returns-in-Some c =
    ap (slice_set c.args.budgets.now c.args.b) c.charged.ensures
    ∙ set_found charged_budget c.args.budgets.now c.args.b c.in-Some.budget.now (sym c.in-Some.ensures.value)
