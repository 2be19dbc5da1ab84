-- By the first of the ranks.
use Rattle.std.proofs.Common.{◌≡◌, None, Some, IsSome, ◌∙◌, sym, subst}
use Rattle.std.specs.BTreeMap.{is_at}
use Rattle.trace_lines.specs.declared.ranks.Rank.{Rank}
use Rattle.trace_lines.specs.Places.{rank_cmp, ranked}
use Rattle.trace_lines.proofs.Ranked.{head_found, least_all, head_none, nothing_at}
use Rattle.trace_lines.proofs.queue.ReadyQueue.head.Goals as goal

pub returns-in-None : goal.returns-in-None
returns-in-None c =
    let fields = c.self.inside in
    let none : (rank : Rank) → ranked rank fields.entries.entries ≡ None =
    λ rank. sym (c.self.invariant.ranks_known rank) ∙ nothing_at (is_at (rank_cmp rank)) fields.ranks.entries c.in-None.ensures.variant.1 in
    rw (sym c.self.view_is) (sym (head_none fields.entries.entries none))

pub returns-in-Some : goal.returns-in-Some
returns-in-Some c =
    let fields = c.self.inside in
    let es = fields.entries.entries in
    let kept = c.self.invariant in
    let rank = c.in-Some.field-0-0.now in
    let found : ranked rank es ≡ Some c.in-Some.entry.now = sym (kept.ranks_known rank) ∙ c.in-Some.ensures.value in
    let all = least_all rank es (λ other some. c.in-Some.ensures.least other (subst (λ o. IsSome o) (sym (kept.ranks_known other)) some)) in
    rw (sym c.self.view_is) (sym (head_found rank c.in-Some.entry.now fields.first fields.next es kept.rises found all))
