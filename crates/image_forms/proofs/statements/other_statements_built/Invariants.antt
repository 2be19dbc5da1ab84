use Rattle.std.proofs.Common.{◌≡◌, drop}
use Rattle.ada_image.specs.BuiltSequences.{statements_built}
use Rattle.image_forms.proofs.statements.other_statements_built.Given as goal

-- those that are to come are built where all of them are
abbrev pub invariant-loop-statement : goal.invariant-loop-statement
invariant-loop-statement g l =
    statements_built g.Q.SequenceHasForm.built (drop l.statement-index l.statements) l.names ≡ statements_built g.Q.SequenceHasForm.built l.statements l.names
