use Rattle.std.specs.ControlFlow.{continue_value}
use Rattle.std.proofs.Common.{◌≡◌, true, Some, map, sym, ap, ◌∙◌, subst}
use Rattle.rosters.specs.Numbered.{has_number}
use Rattle.rosters.proofs.RosterNotesLemmas.{others-in-order}
use Rattle.rosters.proofs.RosterOrderLemmas.{position-lent, number-shown, before-number, front-kept}
use Rattle.rosters.specs.RosterNotes.{others, number_at, comes_before}
use Rattle.rosters.proofs.roster_notes.lent_found.Goals as goal

pub returns-then-is_behind-clause-place : goal.returns-then-is_behind-clause-place
returns-then-is_behind-clause-place g c =
    let number = g.T.Numbered.number in
    let xs = c.args.items.now.items in
    let place = c.in_ok-place.place in
    let order = c.in_ok-order.order in
    let lent : c.args.notes.now.lent ≡ Some place = cc in
    let known : c.args.notes.now.order ≡ Some order = c.branch-order.ensures ∙ ap continue_value c.in_ok-order.is in
    let own : has_number c.args.number (number c.in_ok-item.item.now) ≡ true = cc in
    let is = sym (ap (has_number c.args.number) (number-shown number xs place c.in_ok-item.item.now c.in_ok-item.ensures)) ∙ own in
    position-lent number order c.args.number place xs
    (others-in-order number xs c.args.notes.now.order c.args.notes.now.lent order place known lent c.requires.order)
    is (λ i last within.
    let shown : c.args.notes.now.front ≡ number_at (map number xs) i =
    c.requires.front i (lent ∙ ap Some (sym last)) ∙ (ap (λ l. number_at (map number (others xs l)) i) lent ∙ front-kept number xs place i (sym last))
    in
    before-number order c.args.number _ _ is
    (subst (λ a. comes_before order a (Some c.args.number) ≡ true) shown (c.is_behind.ensures c.if-is_behind.true i (sym last))))
