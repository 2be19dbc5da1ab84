use Rattle.std.proofs.Common.{◌≡◌, ◌≤◌, ◌++◌, List, ℕ, length}
use Rattle.ann_base.specs.Outside.{extended}
use Rattle.outside_bytes.proofs.writing.write_all.Given as goal

-- a prefix of the piece is written, and the rest is to be written
abbrev pub invariant-loop-rest : goal.invariant-loop-rest
invariant-loop-rest g l = record {
  written : (prefix : List ℕ) × (l.fn.piece ≡ prefix ++ l.rest) × (g.K.Sink.held l.sink ≡ extended (g.K.Sink.held l.fn.sink) prefix);
  monotone : g.K.Sink.faults l.fn.sink ≤ g.K.Sink.faults l.sink;
}

abbrev pub decreases-loop-rest : goal.decreases-loop-rest
decreases-loop-rest g l = length l.rest
