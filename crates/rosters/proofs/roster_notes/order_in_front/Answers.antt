use Rattle.std.proofs.Common.{map, subst}
use Rattle.rosters.specs.RosterNotes.{IsOrderOf}
use Rattle.rosters.proofs.RosterOrderLemmas.{ordered-front}
use Rattle.std.proofs.Common.{◌≡◌, ◌<◌, ◌∷◌, true, length, ap, arith}
use Rattle.std.proofs.lemmas.List.{length-map}
use Rattle.std.specs.Option.{is_some}
use Rattle.rosters.specs.RosterNotes.{comes_before}
use Rattle.rosters.proofs.roster_notes.order_in_front.Goals as goal

pub returns-in_default-clause-right : goal.returns-in_default-clause-right
returns-in_default-clause-right g c =
    let ns = map g.T.Numbered.number c.args.items.now.items in
    ordered-front c.kept_order.result c.args.number ns (c.kept_order.ensures.kept ns c.requires)
    (subst (IsOrderOf c.kept_order.result c.args.number) c.number_at-in_default.ensures c.kept_order.ensures.pair)

pub returns-in_default-clause-known : goal.returns-in_default-clause-known
returns-in_default-clause-known g c = λ o e h.
    let len = length-map c.args.items.now.items g.T.Numbered.number in
    let within : 1 < length (c.args.number ∷ map g.T.Numbered.number c.args.items.now.items) = omega arith in
    let behind : comes_before o c.args.number c.number_at-in_default.result ≡ true = rw c.number_at-in_default.ensures (h.at 0 1 (omega arith) within) in
    ap is_some (c.kept_order.ensures.known o e behind)
