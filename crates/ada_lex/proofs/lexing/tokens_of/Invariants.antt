use Rattle.std.proofs.Common.{◌≡◌, ◌+◌, ◌≤◌, length}
use Rattle.ada_lex.specs.Reading.{with_front, tokens_from, start}
use Rattle.ada_lex.proofs.lexing.tokens_of.Given as goal

abbrev pub invariant-loop-rest : goal.invariant-loop-rest
invariant-loop-rest l = record {
  offset : l.spot.offset + length l.rest ≡ length l.source;
  line : l.spot.place.line ≤ l.spot.offset + 1;
  column : l.spot.place.column ≤ l.spot.offset + 1;
  rest : with_front l.tokens.items (tokens_from l.rest 0 l.spot) ≡ tokens_from l.source 0 start;
}

abbrev pub decreases-loop-rest : goal.decreases-loop-rest
decreases-loop-rest l = length l.rest
