use Rattle.image_bodies.proofs.FromTheLast.{statements_first}
use Rattle.image_bodies.proofs.statements.statements_put.Goals as goal

pub returns : goal.returns
returns g c =
    statements_first g.Q.MakeSequence.making c.args.within.now c.args.statements.now.first c.args.statements.now.others c.as_slice-others.result.now c.args.next
    c.in_ok-later.later c.args.lists.now
    c.statements_behind.new.lists (c.statement_put.new.lists, c.in_ok-first.first) c.as_slice-others.ensures c.in_ok-later.ensures c.in_ok-first.ensures
