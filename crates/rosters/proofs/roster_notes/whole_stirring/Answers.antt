use Rattle.rosters.specs.RosterNotes.{one_if}
use Rattle.rosters.proofs.RosterNotesLemmas.{taken-back}
use Rattle.rosters.proofs.roster_notes.whole_stirring.Goals as goal

pub returns-clause-right : goal.returns-clause-right
returns-clause-right g c =
    let more = rw c.lent_stirring.ensures at c.more.ensures.right in
    taken-back (one_if g.T.Numbered.stirs) c.args.items.now.items c.args.notes.now.lent c.args.notes.now.stirring c.more.result c.requires.stirring more
