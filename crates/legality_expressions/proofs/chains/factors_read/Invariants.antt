use Rattle.std.proofs.Common.{◌≡◌, ◌++◌, drop}
use Rattle.ada_legality.specs.ReadExpressions.{factors_read}
use Rattle.legality_expressions.proofs.chains.factors_read.Given as goal

-- what those to come give, behind what was found by now, is what all of them give
abbrev pub invariant-loop-factor : goal.invariant-loop-factor
invariant-loop-factor g l = record {
  read : (factors_read g.E.Readable.reading l.left (drop l.factor-index l.factors) l.known).0
      ≡ (factors_read g.E.Readable.reading l.fn.first l.factors l.known).0;
  told : l.found ++ (factors_read g.E.Readable.reading l.left (drop l.factor-index l.factors) l.known).1
      ≡ l.initial.found ++ (factors_read g.E.Readable.reading l.fn.first l.factors l.known).1;
}
