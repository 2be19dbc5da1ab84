use Rattle.std.proofs.Common.{◌≡◌, ◌+◌, suc, sym, ◌∙◌, arith}
use Rattle.machine_meetings.proofs.ParameterLemmas.{parameters-cut, parameters-more}
use Rattle.machine_meetings.proofs.parameters.entry_parameters.Goals as goal

pub returns-then-actuals-i : goal.returns-then-actuals-i
returns-then-actuals-i c =
    sym c.loop-i.invariant ∙ parameters-cut c.args.q.now c.args.formals.now c.args.actuals.now c.loop-i.i c.loop-i.parameters (omega arith)

pub loop-i-preserved : goal.loop-i-preserved
loop-i-preserved c =
    let more =
    parameters-more c.args.q.now c.args.formals.now c.args.actuals.now c.loop-i.i _ _ c.in-Ok.parameter c.loop-i.parameters c.loop-i-test.true (omega arith)
    (sym c.in_ok-parameter.ensures ∙ c.in-Ok.is) in
    let pushed = c.in_ok-push_back-in-Ok.ensures.ok in
    let next : c.loop-i.i + 1 ≡ suc c.loop-i.i = omega arith in
    rw (pushed, next) (sym more ∙ c.loop-i.invariant)
