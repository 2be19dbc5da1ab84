-- Before all others.
use Rattle.std.proofs.Common.{◌≡◌, Some, cond, ◌∷◌, ◌-◌, ◌+◌, ◌∙◌, sym, ap, subst, arith}
use Rattle.std.specs.Ordering.{nat_cmp, is_eq}
use Rattle.std.specs.BTreeMap.{get}
use Rattle.trace_lines.specs.declared.ranks.Rank.{Rank}
use Rattle.trace_lines.specs.Places.{rank_cmp, rank_of, entry_at, unranked, IsKept}
use Rattle.trace_lines.proofs.PlacesOn.{none_before, unranked_before}
use Rattle.trace_lines.proofs.KeptOn.{out_of, kept_first, first_in}
use Rattle.trace_lines.proofs.queue.ReadyQueue.place_first.Goals as goal

pub put_in-requires-clause-unused : goal.put_in-requires-clause-unused
put_in-requires-clause-unused c =
    let fields = c.self.inside in
    let nonzero = c.if-self-eq0.false in
    none_before fields.first fields.next (fields.first - 1) fields.entries.entries (omega (arith, nonzero)) c.self.invariant.rises

pub put_in-requires-clause-unranked : goal.put_in-requires-clause-unranked
put_in-requires-clause-unranked c =
    let fields = c.self.inside in
    let nonzero = c.if-self-eq0.false in
    let rank = rank_of (fields.first - 1) c.args.entry in
    c.self.invariant.ranks_known rank ∙ unranked_before fields.first fields.next rank fields.entries.entries (omega (arith, nonzero)) c.self.invariant.rises

pub invariant_of-self-2 : goal.invariant_of-self-2
invariant_of-self-2 c =
    let fields = c.self.inside in
    let es = fields.entries.entries in
    let entry = c.args.entry in
    let nonzero = c.if-self-eq0.false in
    let place = fields.first - 1 in
    let before = c.in_ok-before.before in
    let done = c.in_ok-before.ensures in
    let kept : IsKept es (get nat_cmp fields.places) (get rank_cmp fields.ranks) (place + 1) fields.next =
    subst (λ f. IsKept es (get nat_cmp fields.places) (get rank_cmp fields.ranks) f fields.next) (omega (arith, nonzero)) c.self.invariant in
    let out = out_of entry.who (place + 1) fields.next before es kept.rises kept.once (done.before ∙ kept.places_known entry.who) in
    let told = first_in entry.who place fields.next before entry es kept.rises out in
    let rest : (rank : Rank)
    → get rank_cmp c.take_out.new.ranks rank
    ≡ unranked before (entry_at before es) rank (cond (is_eq (rank_cmp (rank_of place entry) rank)) (Some entry) (get rank_cmp fields.ranks rank)) =
    λ rank. c.take_out.ensures.ranks rank ∙ ap (λ es. unranked before (entry_at before es) rank (get rank_cmp c.put_in.new.ranks rank)) done.entries
    ∙ ap (λ e. unranked before e rank (get rank_cmp c.put_in.new.ranks rank)) told.0
    ∙ ap (unranked before (entry_at before es) rank) (done.ranks rank) in
    rw (c.take_out.ensures.entries, done.entries, told.1)
    (kept_first entry place fields.next before es (get nat_cmp fields.places) (get nat_cmp c.put_in.new.places) (get rank_cmp fields.ranks)
    (get rank_cmp c.take_out.new.ranks) kept out done.places rest)

pub returns-clause-placed : goal.returns-clause-placed
returns-clause-placed c =
    let fields = c.self.inside in
    let es = fields.entries.entries in
    let entry = c.args.entry in
    let nonzero = c.if-self-eq0.false in
    let place = fields.first - 1 in
    let before = c.in_ok-before.before in
    let done = c.in_ok-before.ensures in
    let kept : IsKept es (get nat_cmp fields.places) (get rank_cmp fields.ranks) (place + 1) fields.next =
    subst (λ f. IsKept es (get nat_cmp fields.places) (get rank_cmp fields.ranks) f fields.next) (omega (arith, nonzero)) c.self.invariant in
    let out = out_of entry.who (place + 1) fields.next before es kept.rises kept.once (done.before ∙ kept.places_known entry.who) in
    let told = first_in entry.who place fields.next before entry es kept.rises out in
    rw (c.take_out.ensures.entries, done.entries, told.1, sym c.self.view_is) (ap (λ vs. entry ∷ vs) out.values)
