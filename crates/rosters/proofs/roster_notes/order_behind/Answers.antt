use Rattle.std.proofs.Common.{◌≤◌, map, length, take, subst, arith}
use Rattle.std.proofs.lemmas.List.{length-map}
use Rattle.rosters.specs.RosterNotes.{IsOrderOf}
use Rattle.rosters.proofs.RosterOrderLemmas.{ordered-behind}
use Rattle.std.proofs.Common.{◌≡◌, ◌<◌, true, ap}
use Rattle.std.specs.Option.{is_some}
use Rattle.rosters.specs.RosterNotes.{comes_before}
use Rattle.rosters.proofs.RosterOrderLemmas.{last-behind}
use Rattle.rosters.proofs.roster_notes.order_behind.Goals as goal

pub returns-in_default-clause-right : goal.returns-in_default-clause-right
returns-in_default-clause-right g c =
    let ns = map g.T.Numbered.number c.args.items.now.items in
    let len = length-map c.args.items.now.items g.T.Numbered.number in
    let within : c.args.place ≤ length ns = omega arith in
    ordered-behind c.kept_order.result c.args.number ns c.args.place within (c.kept_order.ensures.kept (take c.args.place ns) c.requires.ordered)
    (subst (λ n. IsOrderOf c.kept_order.result n c.args.number) c.number_at-in_default.ensures c.kept_order.ensures.pair)

pub returns-in_default-clause-known : goal.returns-in_default-clause-known
returns-in_default-clause-known g c = λ o e h.
    let ns = map g.T.Numbered.number c.args.items.now.items in
    let len = length-map c.args.items.now.items g.T.Numbered.number in
    let within : c.args.place ≤ length ns = omega arith in
    let more : 0 < c.args.place = omega arith in
    let behind : comes_before o c.number_at-in_default.result c.args.number ≡ true =
    rw c.number_at-in_default.ensures (last-behind o c.args.number ns c.args.place within more h) in
    ap is_some (c.kept_order.ensures.known o e behind)

pub returns-in_default-clause-kept : goal.returns-in_default-clause-kept
returns-in_default-clause-kept g c = λ o two e h.
    let ns = map g.T.Numbered.number c.args.items.now.items in
    let len = length-map c.args.items.now.items g.T.Numbered.number in
    let within : c.args.place ≤ length ns = omega arith in
    let more : 0 < c.args.place = omega arith in
    let behind : comes_before o c.number_at-in_default.result c.args.number ≡ true =
    rw c.number_at-in_default.ensures (last-behind o c.args.number ns c.args.place within more h) in
    c.kept_order.ensures.known o e behind
