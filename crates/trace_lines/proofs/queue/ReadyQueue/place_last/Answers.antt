-- Behind all others.
use Rattle.std.proofs.Common.{◌≡◌, Some, cond, [], ◌∷◌, ◌++◌, ◌∙◌, sym, ap, arith}
use Rattle.std.specs.Ordering.{nat_cmp, is_eq}
use Rattle.std.specs.BTreeMap.{get}
use Rattle.trace_lines.specs.declared.ranks.Rank.{Rank}
use Rattle.trace_lines.specs.Places.{rank_cmp, rank_of, entry_at, without_place, unranked}
use Rattle.trace_lines.proofs.PlacesOn.{none_behind, unranked_behind}
use Rattle.trace_lines.proofs.KeptOn.{out_of, kept_last, last_in, values_last}
use Rattle.trace_lines.proofs.queue.ReadyQueue.place_last.Goals as goal

pub put_in-requires-clause-unused : goal.put_in-requires-clause-unused
put_in-requires-clause-unused c =
    let fields = c.self.inside in
    none_behind fields.first fields.next fields.next fields.entries.entries (omega arith) c.self.invariant.rises

pub put_in-requires-clause-unranked : goal.put_in-requires-clause-unranked
put_in-requires-clause-unranked c =
    let fields = c.self.inside in
    let rank = rank_of fields.next c.args.entry in
    c.self.invariant.ranks_known rank ∙ unranked_behind fields.first fields.next rank fields.entries.entries (omega arith) c.self.invariant.rises

pub invariant_of-self-2 : goal.invariant_of-self-2
invariant_of-self-2 c =
    let fields = c.self.inside in
    let es = fields.entries.entries in
    let entry = c.args.entry in
    let place = fields.next in
    let before = c.in_ok-before.before in
    let done = c.in_ok-before.ensures in
    let kept = c.self.invariant in
    let out = out_of entry.who fields.first place before es kept.rises kept.once (done.before ∙ kept.places_known entry.who) in
    let told = last_in entry.who fields.first place before entry es kept.rises out in
    let rest : (rank : Rank)
    → get rank_cmp c.take_out.new.ranks rank
    ≡ unranked before (entry_at before es) rank (cond (is_eq (rank_cmp (rank_of place entry) rank)) (Some entry) (get rank_cmp fields.ranks rank)) =
    λ rank. c.take_out.ensures.ranks rank ∙ ap (λ es. unranked before (entry_at before es) rank (get rank_cmp c.put_in.new.ranks rank)) done.entries
    ∙ ap (λ e. unranked before e rank (get rank_cmp c.put_in.new.ranks rank)) told.0
    ∙ ap (unranked before (entry_at before es) rank) (done.ranks rank) in
    rw (c.take_out.ensures.entries, done.entries, told.1)
    (kept_last entry fields.first place before es (get nat_cmp fields.places) (get nat_cmp c.put_in.new.places) (get rank_cmp fields.ranks)
    (get rank_cmp c.take_out.new.ranks) kept out done.places rest)

pub returns-clause-placed : goal.returns-clause-placed
returns-clause-placed c =
    let fields = c.self.inside in
    let es = fields.entries.entries in
    let entry = c.args.entry in
    let place = fields.next in
    let before = c.in_ok-before.before in
    let done = c.in_ok-before.ensures in
    let kept = c.self.invariant in
    let out = out_of entry.who fields.first place before es kept.rises kept.once (done.before ∙ kept.places_known entry.who) in
    let told = last_in entry.who fields.first place before entry es kept.rises out in
    rw (c.take_out.ensures.entries, done.entries, told.1, sym c.self.view_is)
    (values_last place entry (without_place before es) ∙ ap (λ vs. vs ++ entry ∷ []) out.values)
