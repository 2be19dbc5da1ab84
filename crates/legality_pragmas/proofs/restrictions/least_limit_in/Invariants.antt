use Rattle.std.proofs.Common.{◌≡◌, ◌≤◌, drop, length}
use Rattle.ada_legality.specs.InForce.{least_limit_in, restriction_arguments}
use Rattle.legality_pragmas.proofs.restrictions.least_limit_in.Given as goal

-- the least of the limits from this place on
abbrev pub invariant-loop-place : goal.invariant-loop-place
invariant-loop-place l = record {
  within : l.place ≤ length l.pragmas;
  least : l.least ≡ least_limit_in l.name (restriction_arguments (drop l.place l.pragmas));
}

abbrev pub decreases-loop-place : goal.decreases-loop-place
decreases-loop-place l = l.place
