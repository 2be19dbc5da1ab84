use Rattle.std.proofs.Common.{◌≡◌, ◌≤◌, drop, length}
use Rattle.ada_regions.specs.Visibility.{used_around}
use Rattle.ada_visibility.proofs.use_clauses.used_around.Given as goal

-- what the clauses of the frames from the place outwards make visible is found
abbrev pub invariant-loop-place : goal.invariant-loop-place
invariant-loop-place l = (l.place ≤ length l.names.frames) × (l.found ≡ used_around l.names l.name (drop l.place l.names.frames))

abbrev pub decreases-loop-place : goal.decreases-loop-place
decreases-loop-place l = l.place
