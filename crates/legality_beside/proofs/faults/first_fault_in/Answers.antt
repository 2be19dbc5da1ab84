use Rattle.std.proofs.Common.{◌∙◌, ap, arith}
use Rattle.legality_beside.proofs.Ordering.{first_before}
use Rattle.legality_beside.specs.Ordered.{first_with}
use Rattle.legality_beside.proofs.faults.first_fault_in.Goals as goal

pub loop-at-preserved : goal.loop-at-preserved
loop-at-preserved c = (
  c.first_with-first.ensures
      ∙ (ap (λ x. first_with x c.loop-at.first) c.index-found-at.is
      ∙ first_before c.args.found.now c.loop-at.at c.index-found-at.result c.loop-at.first c.loop-at-test.true c.loop-at.invariant.1 c.loop-at.invariant.0),
  omega (arith, c.loop-at.invariant.1),
)
