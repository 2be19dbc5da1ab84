use Rattle.std.proofs.Common.{sym}
use Rattle.profile_machine.specs.Handlers.{with_handler}
use Rattle.machine_releases.proofs.EditLemmas.{set_found}
use Rattle.machine_releases.proofs.budgets.set_handler.Goals as goal

pub returns-in-Some : goal.returns-in-Some
returns-in-Some c =
    set_found (with_handler c.args.handler) c.args.budgets.now c.args.b c.in-Some.budget.now (sym c.in-Some.ensures.value)
