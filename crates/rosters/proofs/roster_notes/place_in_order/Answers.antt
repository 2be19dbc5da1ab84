use Rattle.std.proofs.Common.{◌≡◌, true, false, map, sym}
use Rattle.rosters.specs.Numbered.{has_number}
use Rattle.rosters.specs.RosterNotes.{number_at}
use Rattle.rosters.proofs.RosterOrderLemmas.{position-found, position-none}
use Rattle.rosters.proofs.roster_notes.place_in_order.Goals as goal

pub returns-then-is_number : goal.returns-then-is_number
returns-then-is_number g c =
    let ns = map g.T.Numbered.number c.args.items.now.items in
    let is : has_number c.args.number (number_at ns c.distance-near.result) ≡ true = cc in
    sym (position-found c.args.order c.args.number ns c.requires c.distance-near.result is)

pub returns-then-is_number-2 : goal.returns-then-is_number-2
returns-then-is_number-2 g c =
    let ns = map g.T.Numbered.number c.args.items.now.items in
    let is : has_number c.args.number (number_at ns c.place_behind-place.result) ≡ true = cc in
    sym (position-found c.args.order c.args.number ns c.requires c.place_behind-place.result is)

pub returns : goal.returns
returns g c =
    let ns = map g.T.Numbered.number c.args.items.now.items in
    let is : has_number c.args.number (number_at ns c.place_behind-place.result) ≡ false = cc in
    sym (position-none c.args.order c.args.number ns c.requires c.place_behind-place.result c.place_behind-place.ensures.front c.place_behind-place.ensures.back
    is)
