use Rattle.std.proofs.Common.{◌≡◌, ◌++◌, drop}
use Rattle.ada_regions.specs.NamesInStatements.{names_in_parameters}
use Rattle.ada_simple_occurrences.proofs.statements.tell_parameters.Given as goal

abbrev pub invariant-loop-parameter : goal.invariant-loop-parameter
invariant-loop-parameter l =
    l.occurrences ++ names_in_parameters l.with_cells (drop l.parameter-index l.parameters) ≡ l.fn.occurrences ++ names_in_parameters l.with_cells l.parameters
