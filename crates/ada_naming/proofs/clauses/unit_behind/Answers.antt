use Rattle.ada_naming.proofs.Units.{part_further}
use Rattle.ada_naming.proofs.clauses.unit_behind.Goals as goal

-- src/clauses.rt:30:5
pub loop-part-preserved : goal.loop-part-preserved
loop-part-preserved c =
    part_further c.args.parts.now c.loop-part.part-index c.part-item.result c.loop-part.found c.child_of-found.result _ c.loop-part-test.true c.part-item.is
    c.child_of-found.ensures c.loop-part.invariant
