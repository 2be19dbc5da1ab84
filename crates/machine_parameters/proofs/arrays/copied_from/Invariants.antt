use Rattle.std.proofs.Common.{◌≡◌, take, drop}
use Rattle.machine_parameters.proofs.arrays.copied_from.Given as goal

-- so many cells have been copied
abbrev pub invariant-loop-taken : goal.invariant-loop-taken
invariant-loop-taken l = l.values ≡ take l.taken (drop l.place l.cells)
