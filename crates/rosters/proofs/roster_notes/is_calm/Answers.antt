use Rattle.rosters.proofs.RosterNotesLemmas.{is-calm}
use Rattle.rosters.proofs.roster_notes.is_calm.Goals as goal

pub returns-in-Some : goal.returns-in-Some
returns-in-Some g c = is-calm g.T.Numbered.stirs c.args.items.now.items c.in-Some.stirring c.in-Some.ensures.right
