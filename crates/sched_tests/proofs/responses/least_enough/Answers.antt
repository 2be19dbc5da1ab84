use Rattle.std.proofs.Common.{arith}
use Rattle.sched_tests.proofs.Floors.{passed}
use Rattle.sched_tests.proofs.Needs.{deadline_is}
use Rattle.sched_tests.proofs.responses.least_enough.Goals as goal

pub returns-then-next-deadline : goal.returns-then-next-deadline
returns-then-next-deadline c =
    let deadline = deadline_is c.args.duties.now c.args.place c.index-duties-place.result c.requires.place c.index-duties-place.is in
    rw deadline (record {
      nowhere =
          λ k some within. passed c.args.duties.now c.args.place c.loop-window.window c.need-needed.result c.shortest_from-shortest.result c.max-next.result
          c.loop-window.invariant.before c.need-needed.ensures c.if-needed-window.false c.shortest_from-shortest.ensures c.max-next.ensures k some
          (grind (arith, c.index-duties-place.is));
    })

pub loop-window-preserved : goal.loop-window-preserved
loop-window-preserved c = record {
  positive = omega arith;
  before =
      passed c.args.duties.now c.args.place c.loop-window.window c.need-needed.result c.shortest_from-shortest.result c.max-next.result
      c.loop-window.invariant.before c.need-needed.ensures c.if-needed-window.false c.shortest_from-shortest.ensures c.max-next.ensures;
}

pub returns : goal.returns
returns c =
    let deadline = deadline_is c.args.duties.now c.args.place c.index-duties-place.result c.requires.place c.index-duties-place.is in
    rw deadline (record { nowhere = λ k some within served. c.loop-window.invariant.before k some (grind (arith, c.index-duties-place.is)) served })
