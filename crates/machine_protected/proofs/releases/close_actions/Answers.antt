use Rattle.std.proofs.Common.{rules, not}
use Rattle.std.proofs.lemmas.Fn.{filter_same}
use Rattle.profile_machine.specs.Protected.{is_action_of}
use Rattle.machine_protected.proofs.releases.close_actions.Goals as goal

pub returns : goal.returns
returns c = filter_same _ (λ a. not (is_action_of c.args.name a)) _ (λ x b f' k. search rules) _ _ c.retain.ensures
