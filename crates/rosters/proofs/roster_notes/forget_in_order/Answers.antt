use Rattle.std.proofs.Common.{sym, ◌∙◌}
use Rattle.rosters.proofs.RosterOrderLemmas.{forget-found, forget-none}
use Rattle.rosters.proofs.roster_notes.forget_in_order.Goals as goal

pub returns-in-Some-clause-gone : goal.returns-in-Some-clause-gone
returns-in-Some-clause-gone g c =
    c.take_out.ensures.gone
    ∙ forget-found g.T.Numbered.number c.args.order c.args.number c.in-Some.place c.args.items.now.items c.requires.ordered (sym c.in-Some.ensures)

pub returns-in-None-clause-gone : goal.returns-in-None-clause-gone
returns-in-None-clause-gone g c = forget-none g.T.Numbered.number c.args.number c.args.items.now.items (sym c.in-None.ensures)
