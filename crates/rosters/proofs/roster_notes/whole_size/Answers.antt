use Rattle.rosters.proofs.RosterNotesLemmas.{taken-back}
use Rattle.rosters.proofs.roster_notes.whole_size.Goals as goal

pub returns-clause-right : goal.returns-clause-right
returns-clause-right g c =
    let more = rw c.lent_size.ensures at c.more.ensures.right in
    taken-back g.T.Numbered.size c.args.items.now.items c.args.notes.now.lent c.args.notes.now.size c.more.result c.requires.sizes more
