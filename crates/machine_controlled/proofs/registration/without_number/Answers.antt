use Rattle.std.proofs.Common.{rules, not}
use Rattle.std.proofs.lemmas.Fn.{filter_same}
use Rattle.profile_machine.specs.Controlled.{is_number}
use Rattle.machine_controlled.proofs.registration.without_number.Goals as goal

pub returns : goal.returns
returns c = filter_same _ (λ r. not (is_number c.args.number r)) _ (λ x b f' k. search rules) _ _ c.retain.ensures
