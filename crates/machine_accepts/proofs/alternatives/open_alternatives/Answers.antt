use Rattle.std.proofs.Common.{sym, ◌∙◌}
use Rattle.machine_accepts.proofs.AlternativeLemmas.{alternatives-fail}
use Rattle.machine_accepts.proofs.alternatives.open_alternatives.Goals as goal

pub returns-in-Err : goal.returns-in-Err
returns-in-Err c =
    sym c.loop-alternative.invariant
    ∙ alternatives-fail c.args.q.now c.args.alternatives.now c.loop-alternative.alternative-index _ c.in-Err.exception c.loop-alternative.kinds
    c.loop-alternative-test.true
    (sym c.in_ok-kind.ensures ∙ c.in-Err.is)
