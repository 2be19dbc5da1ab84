-- By the place of the subject.
use Rattle.std.proofs.Common.{◌≡◌, ◌∙◌, sym}
use Rattle.std.specs.Ordering.{nat_cmp}
use Rattle.std.specs.BTreeMap.{get}
use Rattle.trace_lines.specs.Places.{rank_cmp, place_of}
use Rattle.trace_lines.proofs.KeptOn.{out_of, kept_out}
use Rattle.trace_lines.proofs.queue.ReadyQueue.remove.Goals as goal

pub invariant_of-self : goal.invariant_of-self
invariant_of-self c =
    let who = c.args.who in
    let fields = c.self.inside in
    let kept = c.self.invariant in
    let es = fields.entries.entries in
    let before = c.remove-place.result in
    let at : before ≡ place_of who es = (rw c.number_of.ensures at c.remove-place.ensures.value) ∙ kept.places_known who in
    let out = out_of who fields.first fields.next before es kept.rises kept.once at in
    rw c.take_out.ensures.entries
    (kept_out who fields.first fields.next before es (get nat_cmp fields.places) (get nat_cmp c.remove-place.new.self) (get rank_cmp fields.ranks)
    (get rank_cmp c.take_out.new.ranks) kept out
    (rw c.number_of.ensures at c.remove-place.ensures.updates.0) c.take_out.ensures.ranks)

pub returns : goal.returns
returns c =
    let who = c.args.who in
    let fields = c.self.inside in
    let kept = c.self.invariant in
    let es = fields.entries.entries in
    let before = c.remove-place.result in
    let at : before ≡ place_of who es = (rw c.number_of.ensures at c.remove-place.ensures.value) ∙ kept.places_known who in
    rw (c.take_out.ensures.entries, sym c.self.view_is) (out_of who fields.first fields.next before es kept.rises kept.once at).values
