use Rattle.std.proofs.Common.{sym}
use Rattle.profile_machine.specs.Handlers.{with_setting}
use Rattle.machine_releases.proofs.EditLemmas.{set_found}
use Rattle.machine_releases.proofs.timers.set_in.Goals as goal

pub returns-in-Some : goal.returns-in-Some
returns-in-Some c =
    set_found (with_setting c.args.setting) c.args.timers.now c.args.k c.in-Some.timer.now (sym c.in-Some.ensures.value)
