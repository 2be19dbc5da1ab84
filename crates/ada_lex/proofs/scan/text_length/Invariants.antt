use Rattle.std.proofs.Common.{◌≡◌, ◌+◌, ◌-◌, ◌≤◌, length, drop}
use Rattle.std.specs.Prelude.{option_map}
use Rattle.ada_lex.specs.Shapes.{text_length}
use Rattle.ada_lex.proofs.scan.text_length.Given as goal

abbrev pub invariant-loop-n : goal.invariant-loop-n
invariant-loop-n l = record {
  in_range : l.n ≤ length l.bytes;
  rest : option_map (λ k. k + l.n) (text_length (drop l.n l.bytes)) ≡ text_length l.bytes;
}

abbrev pub decreases-loop-n : goal.decreases-loop-n
decreases-loop-n l = length l.bytes - l.n
