use Rattle.std.proofs.Common.{sym, ◌∙◌}
use Rattle.rosters.specs.Numbered.{has_number}
use Rattle.rosters.proofs.FoundLemmas.{get_at_position, find_none}
use Rattle.rosters.proofs.roster_notes.find_any.Goals as goal

pub returns-in-Some : goal.returns-in-Some
returns-in-Some g c =
    c.item_at.ensures
    ∙ get_at_position (λ x. has_number c.args.number (g.T.Numbered.number x)) c.args.items.now.items c.in-Some.place (sym c.in-Some.ensures)

pub returns-in-None : goal.returns-in-None
returns-in-None g c = sym (find_none (λ x. has_number c.args.number (g.T.Numbered.number x)) c.args.items.now.items (sym c.in-None.ensures))
