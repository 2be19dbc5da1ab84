-- By the tallies of the tasks, line by line.
use Rattle.std.proofs.Common.{ap, subst, sym, ◌∙◌, IsTrue, ◌↔◌}
use Rattle.trace_text.specs.Laws.{Formed}
use Rattle.trace_lines.specs.Seen.{nothing_kept, with_line, is_formed_after}
use Rattle.trace_lines.proofs.Facts.{tick_kept}
use Rattle.run_report.specs.Kept.{nothing_reported}
use Rattle.run_report.proofs.ReportOn.{seen_reported, reported-append, counts_told, accounts_told, form_of}
use Rattle.run_report.proofs.theorems.accounts_tell.Goals as goal

pub returns-clause-accounts : goal.returns-clause-accounts
returns-clause-accounts c = λ lines formed. accounts_told lines formed.rises (form_of lines ((c.tests_tell.ensures.formed lines).1 formed))

pub returns-clause-agent_run : goal.returns-clause-agent_run
returns-clause-agent_run c = λ lines formed. (counts_told lines formed.rises).agent_run

pub returns-clause-idle : goal.returns-clause-idle
returns-clause-idle c = λ lines formed. (counts_told lines formed.rises).idle

pub returns-clause-ticks : goal.returns-clause-ticks
returns-clause-ticks c = λ lines. ap (λ s. s.tick) (seen_reported nothing_reported lines) ∙ tick_kept nothing_kept lines

pub returns-clause-more : goal.returns-clause-more
returns-clause-more c = λ lines tick event. reported-append nothing_reported lines (tick, event)

pub returns-clause-formed : goal.returns-clause-formed
returns-clause-formed c = λ lines tick event formed.
    subst (λ seen. IsTrue (is_formed_after seen tick event) ↔ Formed (with_line lines tick event)) (sym (seen_reported nothing_reported lines))
    (c.facts_tell.ensures.formed lines tick event formed)
