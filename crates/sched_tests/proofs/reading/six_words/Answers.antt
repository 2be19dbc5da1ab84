use Rattle.sched_tests.proofs.SevenWords.{seven_words}
use Rattle.sched_tests.proofs.reading.six_words.Goals as goal

pub returns-in-Some : goal.returns-in-Some
returns-in-Some c =
    seven_words c.args.text.now c.in_ok-name.name.now c.in_ok-name.rest.now c.in_ok-cost.cost.now c.in_ok-cost.rest.now c.in_ok-period.period.now
    c.in_ok-period.rest.now c.in_ok-deadline.deadline.now c.in_ok-deadline.rest.now c.in_ok-blocking.blocking.now c.in_ok-blocking.priority.now
    c.in-Some.field-0.0.now c.in-Some.field-0.1.now c.in_ok-name.ensures c.in_ok-cost.ensures c.in_ok-period.ensures c.in_ok-deadline.ensures
    c.in_ok-blocking.ensures c.in-Some.ensures
