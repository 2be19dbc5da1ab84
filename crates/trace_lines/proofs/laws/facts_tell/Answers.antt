-- Each fact is what the definition says, by induction on the list.
use Rattle.std.proofs.Common.{refl, sym, ap, ◌∙◌}
use Rattle.trace_text.specs.Laws.{no_levels}
use Rattle.trace_lines.specs.Seen.{nothing_kept, with_line}
use Rattle.trace_lines.proofs.Facts.{seen_after-append, sight_kept, tick_kept, base_kept, ceiling_kept}
use Rattle.trace_lines.proofs.Formed.{form_shows}
use Rattle.trace_lines.proofs.laws.facts_tell.Goals as goal

pub returns-clause-tick : goal.returns-clause-tick
returns-clause-tick c = tick_kept nothing_kept

pub returns-clause-runner : goal.returns-clause-runner
returns-clause-runner c = λ lines. ap (λ s. s.runner) (sight_kept nothing_kept lines)

pub returns-clause-queue : goal.returns-clause-queue
returns-clause-queue c = λ lines. ap (λ s. s.queue) (sight_kept nothing_kept lines)

pub returns-clause-base : goal.returns-clause-base
returns-clause-base c = λ number lines. base_kept number nothing_kept no_levels lines refl

pub returns-clause-ceiling : goal.returns-clause-ceiling
returns-clause-ceiling c = λ number lines. ceiling_kept number nothing_kept no_levels lines refl

pub returns-clause-more : goal.returns-clause-more
returns-clause-more c = λ lines tick event. seen_after-append nothing_kept lines (tick, event)

pub returns-clause-formed : goal.returns-clause-formed
returns-clause-formed c = λ lines tick event formed.
    let tells = c.tests_tell.ensures.formed in
    let shows = form_shows lines tick event ((tells lines).1 formed) in
    (λ e. (tells (with_line lines tick event)).0 (sym shows ∙ e), λ h. shows ∙ (tells (with_line lines tick event)).1 h)
