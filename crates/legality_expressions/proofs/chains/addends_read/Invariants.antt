use Rattle.std.proofs.Common.{◌≡◌, ◌++◌, drop}
use Rattle.ada_legality.specs.ReadExpressions.{addends_read}
use Rattle.legality_expressions.proofs.chains.addends_read.Given as goal

-- what those to come give, behind what was found by now, is what all of them give
abbrev pub invariant-loop-addend : goal.invariant-loop-addend
invariant-loop-addend g l = record {
  read : (addends_read g.E.Readable.reading l.left (drop l.addend-index l.addends) l.known).0
      ≡ (addends_read g.E.Readable.reading l.fn.first l.addends l.known).0;
  told : l.found ++ (addends_read g.E.Readable.reading l.left (drop l.addend-index l.addends) l.known).1
      ≡ l.initial.found ++ (addends_read g.E.Readable.reading l.fn.first l.addends l.known).1;
}
