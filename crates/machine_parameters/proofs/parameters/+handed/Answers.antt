use Rattle.std.proofs.Common.{sym, subst}
use Rattle.ann_base.specs.Answers.{Answers}
use Rattle.machine_parameters.proofs.ParameterLemmas.{handed_more}
use Rattle.machine_parameters.proofs.parameters.+handed.Goals as goal

pub handed_from-returns-in-Some-get : goal.handed_from-returns-in-Some-get
handed_from-returns-in-Some-get t c =
    subst (λ v. Answers c.hand_over.result v)
    (sym (handed_more c.args.q.now c.args.place c.args.formals.now c.args.actuals.now c.in-Some.formal.now c.in-Some-get.actual.now c.in-Some.ensures.lookup.3.0
    c.in-Some.ensures.lookup.1 c.in-Some-get.ensures.lookup.3.0 c.in-Some-get.ensures.lookup.1))
    c.hand_over.ensures
