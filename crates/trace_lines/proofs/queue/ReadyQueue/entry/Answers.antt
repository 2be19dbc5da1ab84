-- By the place of the subject.
use Rattle.std.proofs.Common.{◌≡◌, Some, None, ◌∙◌, sym, ap}
use Rattle.std.specs.Ordering.{nat_cmp}
use Rattle.std.specs.BTreeMap.{get}
use Rattle.trace_lines.specs.Places.{place_of}
use Rattle.trace_lines.proofs.Subjects.{entry_found, entry_none}
use Rattle.trace_lines.proofs.queue.ReadyQueue.entry.Goals as goal

pub returns-in-None : goal.returns-in-None
returns-in-None c =
    let fields = c.self.inside in
    let none : place_of c.args.who fields.entries.entries ≡ None =
    sym (c.self.invariant.places_known c.args.who) ∙ sym (ap (λ n. get nat_cmp fields.places n) c.number_of.ensures) ∙ sym c.in-None.ensures.value in
    rw (sym c.self.view_is) (sym (entry_none c.args.who fields.entries.entries none))

pub returns-in-Some : goal.returns-in-Some
returns-in-Some c =
    let fields = c.self.inside in
    let found : place_of c.args.who fields.entries.entries ≡ Some c.in-Some.place.now =
    sym (c.self.invariant.places_known c.args.who) ∙ sym (ap (λ n. get nat_cmp fields.places n) c.number_of.ensures) ∙ sym c.in-Some.ensures.value in
    rw (sym c.self.view_is)
    (c.copied.ensures ∙ c.get-in-Some.ensures.value
    ∙ entry_found c.args.who fields.first fields.next c.in-Some.place.now fields.entries.entries c.self.invariant.rises found)
