use Rattle.std.proofs.Common.{rules, not}
use Rattle.std.proofs.lemmas.Fn.{filter_same}
use Rattle.rosters.specs.Numbered.{has_number}
use Rattle.rosters.proofs.roster_notes.forget_one_by_one.Goals as goal

pub returns : goal.returns
returns g c = filter_same _ (λ x. not (has_number c.args.number (g.T.Numbered.number x))) _ (λ x b f' k. search rules) _ _ c.retain.ensures.filtered
