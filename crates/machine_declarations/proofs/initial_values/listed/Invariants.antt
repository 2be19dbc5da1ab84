use Rattle.std.proofs.Common.{◌≡◌, take}
use Rattle.machine_declarations.proofs.initial_values.listed.Given as goal

-- the cells so far are in the list
abbrev pub invariant-loop-cell : goal.invariant-loop-cell
invariant-loop-cell l = l.list ≡ take l.cell-index l.cells
