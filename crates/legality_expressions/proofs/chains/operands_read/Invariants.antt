use Rattle.std.proofs.Common.{◌≡◌, ◌++◌, drop}
use Rattle.ada_legality.specs.ReadExpressions.{operands_read}
use Rattle.legality_expressions.proofs.chains.operands_read.Given as goal

-- what those to come give, behind what was found by now, is what all of them give
abbrev pub invariant-loop-operand : goal.invariant-loop-operand
invariant-loop-operand g l = record {
  read : (operands_read g.E.Readable.reading l.operator l.left (drop l.operand-index l.operands) l.known).0
      ≡ (operands_read g.E.Readable.reading l.operator l.fn.first l.operands l.known).0;
  told : l.found ++ (operands_read g.E.Readable.reading l.operator l.left (drop l.operand-index l.operands) l.known).1
      ≡ l.initial.found ++ (operands_read g.E.Readable.reading l.operator l.fn.first l.operands l.known).1;
}
