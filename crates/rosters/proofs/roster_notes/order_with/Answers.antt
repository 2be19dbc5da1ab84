use Rattle.std.proofs.Common.{◌≡◌, ◌<◌, true, length, refl, rules, arith}
use Rattle.rosters.proofs.RosterOrderLemmas.{in-order-with}
use Rattle.rosters.proofs.roster_notes.order_with.Goals as goal

pub returns-clause-right : goal.returns-clause-right
returns-clause-right g c =
    let xs = c.args.items.now.items in
    let within : c.args.place < length xs = omega arith in
    let front : c.comes_behind.result ≡ true = search rules in
    let back : c.comes_behind-2.result ≡ true = search rules in
    in-order-with g.T.Numbered.number c.args.order xs c.args.place within c.requires (λ i e. c.comes_behind.ensures.right i front e within)
    (λ next. c.comes_behind-2.ensures.right c.args.place back refl next)
