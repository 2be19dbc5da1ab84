use Rattle.std.proofs.Common.{◌≡◌, ◌+◌, sym, ◌∙◌}
use Rattle.rosters.specs.RosterNotes.{one_if}
use Rattle.rosters.proofs.RosterNotesLemmas.{left-out, whole-order, whole-sizes, whole-stirring}
use Rattle.rosters.proofs.RosterOrderLemmas.{ordered-remove, front-kept}
use Rattle.rosters.proofs.RosterNotesLemmas.{left-known}
use Rattle.rosters.proofs.roster_notes.left_out.Goals as goal

pub returns-clause-right : goal.returns-clause-right
returns-clause-right g c =
    let t = g.T.Numbered in
    let xs = c.args.items.now.items in
    let notes = c.args.notes.now in
    let none = c.requires.none_lent in
    let order = whole-order t xs notes none c.requires.right in
    let sizes = whole-sizes t xs notes none c.requires.right in
    let stirring = whole-stirring t xs notes none c.requires.right in
    let size_less = rw c.lent_size.ensures at c.less.ensures.right in
    let stirring_less = rw c.lent_stirring.ensures at c.less-2.ensures.right in
    record {
      order = ordered-remove t.number notes.order xs c.args.place order;
      sizes = left-out t.size xs c.args.place notes.size c.less.result sizes size_less;
      stirring = left-out (one_if t.stirs) xs c.args.place notes.stirring c.less-2.result stirring stirring_less;
      front = λ p e. let at : c.args.place ≡ p + 1 = cc in c.number_before.ensures p at ∙ sym (front-kept t.number xs c.args.place p at);
    }

pub returns-clause-known_size : goal.returns-clause-known_size
returns-clause-known_size g c =
    let t = g.T.Numbered in
    let xs = c.args.items.now.items in
    let sizes = whole-sizes t xs c.args.notes.now c.requires.none_lent c.requires.right in
    let known = rw c.lent_size.ensures at c.less.ensures.known in
    left-known t.size xs c.args.place c.args.notes.now.size c.less.result sizes known

pub returns-clause-known_stirring : goal.returns-clause-known_stirring
returns-clause-known_stirring g c =
    let t = g.T.Numbered in
    let xs = c.args.items.now.items in
    let stirring = whole-stirring t xs c.args.notes.now c.requires.none_lent c.requires.right in
    let known = rw c.lent_stirring.ensures at c.less-2.ensures.known in
    left-known (one_if t.stirs) xs c.args.place c.args.notes.now.stirring c.less-2.result stirring known
