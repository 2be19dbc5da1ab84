use Rattle.std.proofs.Common.{◌≡◌, ◌++◌, drop}
use Rattle.std.specs.List.{flat_map}
use Rattle.ada_legality.specs.Declarations.{entry_of_operation}
use Rattle.legality_tasking.proofs.entries.entries_of_operations.Given as goal

-- the entries so far, and those to come, are all of them
abbrev pub invariant-loop-operation : goal.invariant-loop-operation
invariant-loop-operation l = l.entries ++ flat_map entry_of_operation (drop l.operation-index l.operations) ≡ flat_map entry_of_operation l.operations
