use Rattle.std.proofs.Common.{sym, ◌∙◌}
use Rattle.rosters.specs.Numbered.{has_number}
use Rattle.rosters.proofs.FoundLemmas.{get_at_position}
use Rattle.rosters.proofs.RosterOrderLemmas.{position-map}
use Rattle.rosters.proofs.roster_notes.found.Goals as goal

pub returns-in-Some : goal.returns-in-Some
returns-in-Some g c =
    let xs = c.args.items.now.items in
    let place = sym (position-map g.T.Numbered.number c.args.number 0 xs) ∙ c.in-Some.ensures.place in
    c.in-Some.ensures.item ∙ get_at_position (λ x. has_number c.args.number (g.T.Numbered.number x)) xs c.in-Some.field-0-0 place
