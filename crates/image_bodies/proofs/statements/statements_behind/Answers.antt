use Rattle.std.proofs.Common.{arith}
use Rattle.image_bodies.proofs.FromTheLast.{statements_before, statements_all}
use Rattle.image_bodies.proofs.statements.statements_behind.Goals as goal

pub loop-place-preserved : goal.loop-place-preserved
loop-place-preserved g c = record {
  in_range = omega arith;
  made =
      statements_before g.Q.MakeSequence.making c.args.within.now c.args.statements.now c.loop-place.place c.index-statements-place.result c.args.next
      c.loop-place.later c.args.lists.now c.loop-place.lists
      (c.statement_put.new.lists, c.in_ok-later.later)
      (omega arith) c.loop-place.invariant.in_range c.index-statements-place.is c.loop-place.invariant.made c.in_ok-later.ensures;
}

pub returns : goal.returns
returns g c =
    statements_all g.Q.MakeSequence.making c.args.within.now c.args.statements.now c.loop-place.place c.args.next c.args.lists.now (
      c.loop-place.lists,
      c.loop-place.later,
    )
    (omega arith) c.loop-place.invariant.made
