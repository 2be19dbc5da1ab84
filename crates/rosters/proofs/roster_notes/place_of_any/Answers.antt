use Rattle.std.proofs.Common.{sym, ◌∙◌}
use Rattle.rosters.proofs.RosterOrderLemmas.{position-map}
use Rattle.rosters.proofs.roster_notes.place_of_any.Goals as goal

pub returns-in-Some : goal.returns-in-Some
returns-in-Some g c =
    let items = c.args.items.now.items in
    sym (c.near_place.ensures c.in-Some.place cc) ∙ position-map g.T.Numbered.number c.args.number 0 items

pub returns-in-Some-whole_order : goal.returns-in-Some-whole_order
returns-in-Some-whole_order g c = c.place_in_order.ensures ∙ position-map g.T.Numbered.number c.args.number 0 c.args.items.now.items
