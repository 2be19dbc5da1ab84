use Rattle.std.proofs.Common.{arith}
use Rattle.sched_tests.proofs.Dues.{added_none, added_more, added_bound}
use Rattle.sched_tests.proofs.demands.add_due.Goals as goal

pub loop-at-init : goal.loop-at-init
loop-at-init c = added_none c.args.base c.args.duty.now c.args.due.now c.before_next_deadline-at.result c.requires.duty c.before_next_deadline-at.ensures

pub loop-at-preserved : goal.loop-at-preserved
loop-at-preserved c =
    added_more c.args.base c.args.duty.now c.args.due.now c.loop-at.due c.loop-at.at c.requires.duty c.loop-at.auto.due c.loop-at-test.true c.loop-at.invariant

pub returns-clause-due : goal.returns-clause-due
returns-clause-due c = λ k low. c.loop-at.invariant.done k (omega arith) low

pub returns-clause-bounded : goal.returns-clause-bounded
returns-clause-bounded c =
    λ k low. added_bound c.args.base c.args.duty.now c.args.due.now c.loop-at.due c.loop-at.at k c.requires.duty c.loop-at.invariant (omega arith) (omega arith)
