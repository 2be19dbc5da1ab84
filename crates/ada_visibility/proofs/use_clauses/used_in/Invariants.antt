use Rattle.std.proofs.Common.{◌≡◌, ◌≤◌, drop, length}
use Rattle.ada_regions.specs.Visibility.{used_in}
use Rattle.ada_visibility.proofs.use_clauses.used_in.Given as goal

-- what the clauses from the place on make visible is found
abbrev pub invariant-loop-place : goal.invariant-loop-place
invariant-loop-place l = (l.place ≤ length l.names.uses) × (l.found ≡ used_in l.names l.name l.region (drop l.place l.names.uses) l.fn.others)

abbrev pub decreases-loop-place : goal.decreases-loop-place
decreases-loop-place l = l.place
