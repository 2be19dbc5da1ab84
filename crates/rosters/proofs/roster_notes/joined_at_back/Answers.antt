use Rattle.std.proofs.Common.{◌≡◌, ◌++◌, ◌∷◌, [], map, take, length, rules, subst, sym, arith}
use Rattle.std.proofs.lemmas.List.{length-map, take_all}
use Rattle.rosters.specs.RosterNotes.{InOrder}
use Rattle.rosters.proofs.roster_notes.joined_at_back.Goals as goal

pub returns-clause-begun_order : goal.returns-clause-begun_order
returns-clause-begun_order g c = λ o e h.
    let t = g.T.Numbered in
    let xs = c.args.items.now.items in
    let ns = map t.number xs in
    let len = length-map xs t.number in
    let all_items : c.len.result ≡ length xs = search rules in
    let whole : take c.len.result ns ≡ ns = take_all c.len.result ns (omega arith) in
    c.joined_behind.ensures.begun_order o (omega arith) (subst (λ ms. InOrder o (ms ++ t.number c.args.item.now ∷ [])) (sym whole) h)
