use Rattle.std.proofs.Common.{◌≡◌, ◌++◌, drop}
use Rattle.std.specs.List.{flat_map}
use Rattle.ada_regions.specs.Occurrences.{one}
use Rattle.ada_regions.specs.NamesInUnits.{clause_with, names_in_clause}
use Rattle.ada_simple_occurrences.proofs.contexts.ContextClauseTell.tell.Given as goal

abbrev pub invariant-loop-name : goal.invariant-loop-name
invariant-loop-name l =
    l.occurrences ++ flat_map (λ name. one (clause_with l.fn.self.is_use name)) (drop l.name-index l.fn.self.names.others)
    ≡ l.fn.occurrences ++ names_in_clause l.fn.self
