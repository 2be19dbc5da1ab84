use Rattle.std.proofs.Common.{◌∙◌, true, false, sym, ap}
use Rattle.ada_image.specs.ImageOfExpressions.{argument_from, actuals_for}
use Rattle.ada_image.specs.BuiltStatements.{actual_built}
use Rattle.expression_forms.proofs.ActualLemmas.{actuals_more, first_missing, first_there}
use Rattle.expression_forms.proofs.actuals.arguments_built.Goals as goal

-- an actual is not built
pub returns-then-not-actual_built : goal.returns-then-not-actual_built
unfolding actuals_for
returns-then-not-actual_built c =
    let f = c.index-formals-place.result in
    let found = ap (λ name. argument_from c.loop-place.place name 0 c.args.arguments.now) (sym c.as_slice.ensures) ∙ sym c.argument_from-argument.ensures in
    let built = ap (λ e. actual_built f e c.args.names.now) found ∙ sym c.actual_built.ensures in
    first_missing _ _ (built ∙ c.if-not-actual_built.true)
    (sym (actuals_more c.loop-place.place c.args.formals.now f c.args.arguments.now c.args.names.now c.loop-place-test.true c.index-formals-place.is)
    ∙ c.loop-place.invariant)

-- an actual is built, so the others decide
pub loop-place-preserved : goal.loop-place-preserved
loop-place-preserved c =
    let f = c.index-formals-place.result in
    let found = ap (λ name. argument_from c.loop-place.place name 0 c.args.arguments.now) (sym c.as_slice.ensures) ∙ sym c.argument_from-argument.ensures in
    let built = ap (λ e. actual_built f e c.args.names.now) found ∙ sym c.actual_built.ensures in
    first_there _ _ (built ∙ c.if-not-actual_built.false)
    (sym (actuals_more c.loop-place.place c.args.formals.now f c.args.arguments.now c.args.names.now c.loop-place-test.true c.index-formals-place.is)
    ∙ c.loop-place.invariant)
