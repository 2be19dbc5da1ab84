use Rattle.std.proofs.Common.{sym, ◌∙◌}
use Rattle.rosters.proofs.RosterOrderLemmas.{position-map}
use Rattle.rosters.proofs.roster_notes.place_of.Goals as goal

pub returns-in-Some : goal.returns-in-Some
returns-in-Some g c = sym c.in-Some.ensures.place ∙ position-map g.T.Numbered.number c.args.number 0 c.args.items.now.items
