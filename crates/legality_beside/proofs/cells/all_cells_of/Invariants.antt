use Rattle.std.proofs.Common.{◌≡◌, ◌++◌, drop}
use Rattle.std.specs.List.{flat_map}
use Rattle.ada_legality.specs.WholeSource.{cells_of}
use Rattle.legality_beside.proofs.cells.all_cells_of.Given as goal

-- what was judged and what is to come are all of it
abbrev pub invariant-loop-finding : goal.invariant-loop-finding
invariant-loop-finding l = l.judged ++ flat_map (cells_of l.number) (drop l.finding-index l.found) ≡ l.initial.judged ++ flat_map (cells_of l.number) l.found
