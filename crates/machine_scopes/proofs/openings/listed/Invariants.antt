use Rattle.std.proofs.Common.{◌≡◌, take}
use Rattle.machine_scopes.proofs.openings.listed.Given as goal

-- the list has the values so far
abbrev pub invariant-loop-value : goal.invariant-loop-value
invariant-loop-value l = l.list ≡ take l.value-index l.values
