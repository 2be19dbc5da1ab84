use Rattle.std.proofs.Common.{◌∙◌}
use Rattle.rosters.proofs.RosterOrderLemmas.{number-shown, number-none}
use Rattle.rosters.proofs.roster_notes.number_at.Goals as goal

pub returns-in-Some : goal.returns-in-Some
returns-in-Some g c = c.number.ensures ∙ number-shown g.T.Numbered.number c.args.items.now.items c.args.place c.in-Some.item.now c.in-Some.ensures

pub returns-in-None : goal.returns-in-None
returns-in-None g c = number-none g.T.Numbered.number c.args.items.now.items c.args.place c.in-None.ensures
