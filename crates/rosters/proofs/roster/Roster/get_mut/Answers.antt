use Rattle.std.proofs.Common.{refl}
use Rattle.rosters.proofs.RosterNotesLemmas.{lent-shows, right-set}
use Rattle.rosters.proofs.roster.Roster.get_mut.Goals as goal

pub returns : goal.returns
returns g c =
    rw (← c.self.view_is) (refl, record { writes_back = tt; value = lent-shows c.self.inside.items.items c.args.place c.get_mut.result c.get_mut.ensures.item })

pub invariant_of-self-lent : goal.invariant_of-self-lent
invariant_of-self-lent g c = λ r.
    (λ w. right-set g.T.Numbered c.self.inside.items.items c.lend.new.notes c.args.place w c.lend.ensures.lent c.lend.ensures.right, c.lend.ensures.right)
