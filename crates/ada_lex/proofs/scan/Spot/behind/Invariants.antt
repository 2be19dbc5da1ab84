use Rattle.std.proofs.Common.{◌≡◌, ◌+◌, ◌≤◌, drop}
use Rattle.ada_lex.specs.Reading.{behind_all}
use Rattle.ada_lex.proofs.scan.Spot.behind.Given as goal

abbrev pub invariant-loop-b : goal.invariant-loop-b
invariant-loop-b l = record {
  offset : l.spot.offset ≡ l.fn.self.offset + l.b-index;
  line : l.spot.place.line ≤ l.spot.offset + 1;
  column : l.spot.place.column ≤ l.spot.offset + 1;
  rest : behind_all (drop l.b-index l.bytes) l.spot ≡ behind_all l.bytes l.fn.self;
}
