use Rattle.std.proofs.Common.{◌≡◌, ◌≤◌, drop, length}
use Rattle.legality_pragmas.specs.Restrictions.{least_with}
use Rattle.legality_pragmas.proofs.restrictions.least_with.Given as goal

-- the least of the limits from this place on
abbrev pub invariant-loop-place : goal.invariant-loop-place
invariant-loop-place l = record {
  within : l.place ≤ length l.arguments;
  least : l.least ≡ least_with l.name (drop l.place l.arguments) l.fn.later;
}

abbrev pub decreases-loop-place : goal.decreases-loop-place
decreases-loop-place l = l.place
