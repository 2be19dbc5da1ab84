use Rattle.std.proofs.Common.{rules, sym}
use Rattle.profile_machine.specs.Handlers.{loaded}
use Rattle.machine_releases.proofs.EditLemmas.{set_found}
use Rattle.machine_releases.proofs.budgets.load.Goals as goal

pub returns-in-Some : goal.returns-in-Some
returns-in-Some c =
    let set = set_found (loaded c.args.amount) c.args.budgets.now c.args.b c.in-Some.budget.now (sym c.in-Some.ensures.value) in
    search rules
