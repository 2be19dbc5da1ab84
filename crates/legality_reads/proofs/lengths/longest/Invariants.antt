use Rattle.std.proofs.Common.{◌≡◌, ◌≤◌, drop, length}
use Rattle.ada_legality.specs.Reading.{longest}
use Rattle.legality_reads.proofs.lengths.longest.Given as goal

-- the length of the longest of those from here on
abbrev pub invariant-loop-place : goal.invariant-loop-place
invariant-loop-place l = record {
  within : l.place ≤ length l.texts;
  same : l.most ≡ longest (drop l.place l.texts);
}

abbrev pub decreases-loop-place : goal.decreases-loop-place
decreases-loop-place l = l.place
