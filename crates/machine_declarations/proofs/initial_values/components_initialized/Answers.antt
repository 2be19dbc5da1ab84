use Rattle.std.proofs.Common.{subst, sym}
use Rattle.machine_scopes.specs.Stored.{Stores}
use Rattle.profile_machine.specs.declared.world.World.{World}
use Rattle.profile_machine.specs.Operators.{Valued}
use Rattle.profile_machine.specs.Values.{seen_by}
use Rattle.machine_declarations.proofs.FirstValueLemmas.{components_by}
use Rattle.machine_declarations.proofs.initial_values.components_initialized.Goals as goal

pub returns : goal.returns
returns c =
    subst (λ (wanted : Valued World). Stores c.components_set.result wanted c.args.world.now c.components_set.new.world)
    (sym (components_by
    (seen_by c.args.p.now c.args.world.now c.args.name) c.args.own_cells c.args.object c.args.components.now c.args.world.now)) c.components_set.ensures
