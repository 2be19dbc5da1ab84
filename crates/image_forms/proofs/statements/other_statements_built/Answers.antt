use Rattle.std.proofs.Common.{◌∙◌, sym, arith}
use Rattle.std.proofs.lemmas.List.{at_drop_all}
use Rattle.ada_image.specs.BuiltSequences.{statements_built}
use Rattle.expression_forms.proofs.ActualLemmas.{first_missing, first_there}
use Rattle.image_forms.proofs.StatementLists.{statements_more}
use Rattle.image_forms.proofs.statements.other_statements_built.Goals as goal

-- a statement is not built
pub returns-then-not-statement_built : goal.returns-then-not-statement_built
returns-then-not-statement_built g c =
    first_missing _ _ (sym c.statement_built.ensures ∙ c.if-not-statement_built.true)
    (sym (statements_more g.Q.SequenceHasForm.built c.loop-statement.statement-index c.args.statements.now c.statement-item.result c.args.names.now
    c.loop-statement-test.true c.statement-item.is)
    ∙ c.loop-statement.invariant)

-- a statement is built, so the others decide
pub loop-statement-preserved : goal.loop-statement-preserved
loop-statement-preserved g c =
    first_there _ _ (sym c.statement_built.ensures ∙ c.if-not-statement_built.false)
    (sym (statements_more g.Q.SequenceHasForm.built c.loop-statement.statement-index c.args.statements.now c.statement-item.result c.args.names.now
    c.loop-statement-test.true c.statement-item.is)
    ∙ c.loop-statement.invariant)

-- none is left
pub returns : goal.returns
returns g c =
    sym (at_drop_all (λ xs. statements_built g.Q.SequenceHasForm.built xs c.args.names.now) c.args.statements.now c.loop-statement.statement-index
    (omega (arith, c.loop-statement-test.false, c.loop-statement.auto.statement-index-end)))
    ∙ c.loop-statement.invariant
