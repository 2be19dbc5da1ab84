use Rattle.std.proofs.Common.{rules, not}
use Rattle.std.proofs.lemmas.Fn.{filter_same}
use Rattle.profile_machine.specs.Scopes.{goes_with}
use Rattle.machine_scopes.proofs.openings.leave_objects.Goals as goal

pub returns : goal.returns
returns c = filter_same _ (λ o. not (goes_with c.args.id o)) _ (λ x b f' k. search rules) _ _ c.retain.ensures
