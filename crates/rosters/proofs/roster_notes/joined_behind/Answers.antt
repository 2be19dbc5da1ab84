use Rattle.std.proofs.Common.{◌≡◌, ◌++◌, ◌∷◌, [], map, take, subst, sym, ap, ◌∙◌}
use Rattle.std.proofs.lemmas.List.{take-map, map-append}
use Rattle.rosters.specs.RosterNotes.{IsOrdered, one_if}
use Rattle.rosters.proofs.RosterNotesLemmas.{one-behind, right-whole, whole-order, whole-sizes, whole-stirring}
use Rattle.rosters.proofs.roster_notes.joined_behind.Goals as goal

pub order_behind-order-requires-clause-ordered : goal.order_behind-order-requires-clause-ordered
order_behind-order-requires-clause-ordered g c =
    let t = g.T.Numbered in
    let xs = c.args.items.now.items in
    rw (take-map t.number c.args.place xs) (whole-order t (take c.args.place xs) c.args.notes.now c.requires.none_lent c.requires.right)

pub returns-clause-right : goal.returns-clause-right
returns-clause-right g c =
    let t = g.T.Numbered in
    let xs = c.args.items.now.items in
    let before = take c.args.place xs in
    let x = c.args.item.now in
    let none = c.requires.none_lent in
    let same : take c.args.place (map t.number xs) ++ c.number.result ∷ [] ≡ map t.number (before ++ x ∷ []) =
    ap (λ ns. ns ++ c.number.result ∷ []) (take-map t.number c.args.place xs)
    ∙ (ap (λ n. map t.number before ++ n ∷ []) c.number.ensures ∙ sym (map-append t.number before (x ∷ []))) in
    let order = subst (IsOrdered c.order_behind-order.result) same c.order_behind-order.ensures.right in
    right-whole t (before ++ x ∷ []) c.joined.result c.joined.ensures.none_lent
    (subst (λ o. IsOrdered o (map t.number (before ++ x ∷ []))) (sym c.joined.ensures.order) order)
    (one-behind t.size before x c.args.notes.now.size c.joined.result.size (whole-sizes t before c.args.notes.now none c.requires.right) c.joined.ensures.size)
    (one-behind (one_if t.stirs) before x c.args.notes.now.stirring c.joined.result.stirring
    (whole-stirring t before c.args.notes.now none c.requires.right) c.joined.ensures.stirring)
