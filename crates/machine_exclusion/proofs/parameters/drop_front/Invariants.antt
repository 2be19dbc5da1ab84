use Rattle.std.proofs.Common.{◌≡◌, drop}
use Rattle.machine_exclusion.proofs.parameters.drop_front.Given as goal

-- so many values are still to be dropped
abbrev pub invariant-loop-left : goal.invariant-loop-left
invariant-loop-left l = drop l.left l.values ≡ drop l.count l.initial.values

abbrev pub decreases-loop-left : goal.decreases-loop-left
decreases-loop-left l = l.left
