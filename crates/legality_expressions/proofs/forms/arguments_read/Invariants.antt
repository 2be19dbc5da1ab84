use Rattle.std.proofs.Common.{◌≡◌, ◌++◌, drop}
use Rattle.ada_legality.specs.ReadExpressions.{arguments_read}
use Rattle.legality_expressions.proofs.forms.arguments_read.Given as goal

-- the parts so far and those to come are all, and what was found by now and what is to be found is all
abbrev pub invariant-loop-argument : goal.invariant-loop-argument
invariant-loop-argument g l = record {
  read : l.parts ++ (arguments_read g.E.Readable.reading (drop l.argument-index l.arguments) l.known).0
      ≡ (arguments_read g.E.Readable.reading l.arguments l.known).0;
  told : l.found ++ (arguments_read g.E.Readable.reading (drop l.argument-index l.arguments) l.known).1
      ≡ l.initial.found ++ (arguments_read g.E.Readable.reading l.arguments l.known).1;
}
