use Rattle.std.proofs.Common.{None, sym, ap, ◌∙◌}
use Rattle.profile_machine.specs.declared.world.lines.Part.TheVariants.{Own}
use Rattle.profile_machine.specs.Handlers.{release}
use Rattle.profile_machine.specs.Steps.{for_some}
use Rattle.machine_releases.proofs.OkLemmas.{and_so}
use Rattle.machine_releases.proofs.interrupts.release_attached.Goals as goal

pub returns-in-Some : goal.returns-in-Some
returns-in-Some c =
    and_so c.release.result
    (λ e. ap (λ found. for_some found (λ h. release c.args.p.now Own h None) c.args.effect.now.world c.args.effect.now.said) (sym c.in-Some.ensures)
    ∙ e) c.release.ensures
