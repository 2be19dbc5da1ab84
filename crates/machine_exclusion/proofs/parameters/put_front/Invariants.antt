use Rattle.std.proofs.Common.{◌≡◌, ◌++◌, take}
use Rattle.machine_exclusion.proofs.parameters.put_front.Given as goal

-- the cells before this place are still to come
abbrev pub invariant-loop-place : goal.invariant-loop-place
invariant-loop-place l = take l.place l.cells ++ l.values ≡ take l.count l.cells ++ l.initial.values

abbrev pub decreases-loop-place : goal.decreases-loop-place
decreases-loop-place l = l.place
