use Rattle.std.proofs.Common.{◌≡◌, ◌<◌, length, subst, sym, ap, inl, inr, rules, arith}
use Rattle.std.proofs.lemmas.Bool.{cases_order}
use Rattle.std.specs.Option.{is_some}
use Rattle.rosters.specs.RosterNotes.{AreRight}
use Rattle.rosters.proofs.RosterNotesLemmas.{take-found, none-within}
use Rattle.rosters.proofs.RosterOrderLemmas.{in-order-found}
use Rattle.rosters.proofs.roster_notes.counted.Goals.{in-Some, in_default}
use Rattle.rosters.proofs.roster_notes.counted.Goals as goal

pub loop-place-preserved : goal.loop-place-preserved
loop-place-preserved g c =
    let t = g.T.Numbered in
    let xs = c.args.items.now.items in
    let p = c.loop-place.place in
    let all_items : c.len-place-end.result ≡ length xs = search rules in
    let within : p < length xs = omega arith in
    elim c.match-item_at.branch [
      | in-Some w ↦ rw w.notes-is (record {
        none_lent = w.joined_behind-notes.ensures.none_lent;
        right = subst (λ ys. AreRight t ys w.joined_behind-notes.result) (sym (take-found xs p _ w.in-Some.ensures)) w.joined_behind-notes.ensures.right;
        begun = λ o h more. elim (cases_order p 1) [
          | inl one ↦ ap is_some (w.joined_behind-notes.ensures.begun_order o one (in-order-found t.number o xs p _ w.in-Some.ensures h))
          | inr apart ↦ elim apart [
            | inl none ↦ w.joined_behind-notes.ensures.first_order (omega arith)
            | inr two ↦
                ap is_some
                (w.joined_behind-notes.ensures.kept_order o two (c.loop-place.invariant.kept o h two) (in-order-found t.number o xs p _ w.in-Some.ensures h))
          ]
        ];
        kept = λ o h more. elim (cases_order p 1) [
          | inl one ↦ w.joined_behind-notes.ensures.begun_order o one (in-order-found t.number o xs p _ w.in-Some.ensures h)
          | inr apart ↦ elim apart [
            | inl none ↦ absurd (omega arith)
            | inr two ↦
                w.joined_behind-notes.ensures.kept_order o two (c.loop-place.invariant.kept o h two) (in-order-found t.number o xs p _ w.in-Some.ensures h)
          ]
        ];
      })
      | in_default w ↦ absurd (none-within xs p within w.in_default.ensures)
    ]
