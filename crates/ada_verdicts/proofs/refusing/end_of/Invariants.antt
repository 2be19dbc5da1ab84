use Rattle.std.proofs.Common.{◌≡◌, ◌≤◌, ◌+◌, length}
use Rattle.ada_verdicts.specs.Refusals.{end_of, after_bytes}
use Rattle.ada_verdicts.proofs.refusing.end_of.Given as goal

-- the place after what was passed, from which the rest leads to the end; it is not far after the first
abbrev pub invariant-loop-rest : goal.invariant-loop-rest
invariant-loop-rest l = record {
  place : after_bytes l.place l.rest ≡ end_of l.source;
  line : l.place.line + length l.rest ≤ 262145;
  column : l.place.column + length l.rest ≤ 262145;
}

abbrev pub decreases-loop-rest : goal.decreases-loop-rest
decreases-loop-rest l = length l.rest
