use Rattle.std.proofs.Common.{rules, not}
use Rattle.std.proofs.lemmas.Fn.{filter_same}
use Rattle.profile_machine.specs.Tasks.{is_who}
use Rattle.machine_masters.proofs.termination.forget_in.Goals as goal

pub returns : goal.returns
returns c = filter_same _ (λ t. not (is_who c.args.name t)) _ (λ x b f' k. search rules) _ _ c.retain.ensures
