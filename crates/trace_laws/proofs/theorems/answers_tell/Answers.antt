-- Each test of a list with one line more is one question of the facts.
use Rattle.trace_text.specs.Laws.{follows_form}
use Rattle.trace_lines.specs.Seen.{seen_of, with_line, is_formed_after}
use Rattle.trace_laws.specs.Watched.{nothing_watched}
use Rattle.trace_laws.proofs.GoingOn.{watched_after-append, answer_next, passed, same_tests}
use Rattle.trace_laws.proofs.theorems.answers_tell.Goals as goal

pub returns-clause-answer : goal.returns-clause-answer
returns-clause-answer c = λ lines tick event formed keeps.
    let facts = c.facts_tell.ensures in
    let tests = c.tests_tell.ensures in
    answer_next lines tick event
    (record {
      tick = facts.tick lines;
      runner = facts.runner lines;
      queue = facts.queue lines;
      base = λ number. facts.base number lines;
      ceiling = λ number. facts.ceiling number lines;
    })
    (record {
      dispatch = (tests.dispatch lines formed.rises).1 keeps.dispatch;
      ceilings = (tests.ceilings lines).1 keeps.ceilings;
      exclusion = (tests.exclusion lines).1 keeps.exclusion;
      handlers = (tests.handlers lines formed.rises).1 keeps.handlers;
      leaving = (tests.leaving lines).1 keeps.leaving;
    })
    (same_tests (is_formed_after (seen_of lines) tick event) (follows_form (with_line lines tick event))
    (λ e. (tests.formed (with_line lines tick event)).1 ((facts.formed lines tick event formed).0 e))
    (λ e. (facts.formed lines tick event formed).1 ((tests.formed (with_line lines tick event)).0 e)))

pub returns-clause-more : goal.returns-clause-more
returns-clause-more c = λ lines tick event. watched_after-append nothing_watched lines (tick, event)

pub returns-clause-lawful : goal.returns-clause-lawful
returns-clause-lawful c = λ lines e.
    let passes = passed lines e in
    let formed = (c.tests_tell.ensures.formed lines).0 passes.form in
    (formed, c.tests_tell.ensures.laws lines formed.rises passes.laws)
