use Rattle.std.proofs.Common.{rules, not, eqb}
use Rattle.std.proofs.lemmas.Fn.{filter_same}
use Rattle.machine_releases.proofs.timers.drop_number.Goals as goal

pub returns : goal.returns
returns c = filter_same _ (λ x. not (eqb c.args.k x)) _ (λ x b f' k. search rules) _ _ c.retain.ensures
