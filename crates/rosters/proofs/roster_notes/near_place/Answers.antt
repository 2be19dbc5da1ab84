use Rattle.std.proofs.Common.{◌≡◌, true, map, Some, ◌∙◌, subst}
use Rattle.rosters.specs.Numbered.{has_number}
use Rattle.rosters.specs.RosterNotes.{number_at, InOrder}
use Rattle.rosters.proofs.RosterNotesLemmas.{others-in-order}
use Rattle.rosters.proofs.RosterOrderLemmas.{position-beside, map-remove}
use Rattle.rosters.proofs.roster_notes.near_place.Goals as goal

pub returns-then-is_clear : goal.returns-then-is_clear
returns-then-is_clear g c p e =
    let number = g.T.Numbered.number in
    let xs = c.args.items.now.items in
    let place = c.in_ok-lent.lent in
    let order = c.in_ok-order.order in
    let near = c.distance-near.result in
    let lent : c.args.notes.now.lent ≡ Some place = cc in
    let known : c.args.notes.now.order ≡ Some order = cc in
    let is : has_number c.args.number (number_at (map number xs) near) ≡ true = cc in
    let others =
    subst (InOrder order) (map-remove number xs place)
    (others-in-order number xs c.args.notes.now.order c.args.notes.now.lent order place known lent c.requires.order) in
    position-beside order c.args.number place near (map number xs) is c.if-near-lent.true (c.is_clear.ensures cc) others ∙ e
