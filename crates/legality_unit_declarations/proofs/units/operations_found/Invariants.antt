use Rattle.std.proofs.Common.{◌≡◌, ◌++◌, drop}
use Rattle.ada_legality.specs.CallStatements.{all_found}
use Rattle.ada_legality.specs.Declarations.{operation_found}
use Rattle.legality_unit_declarations.proofs.units.operations_found.Given as goal

-- what is found by now, and what the operations to come give, is all
abbrev pub invariant-loop-operation : goal.invariant-loop-operation
invariant-loop-operation l =
    l.found ++ all_found operation_found (drop l.operation-index l.operations) l.known ≡ l.initial.found ++ all_found operation_found l.operations l.known
