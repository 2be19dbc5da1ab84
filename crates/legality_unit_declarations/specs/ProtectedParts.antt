-- The entries and operations of a protected declaration, and its components.
use Rattle.std.specs.Prelude.{◌++◌, false}
use Rattle.std.specs.List.{flat_map}
use Rattle.ada_legality.specs.CallStatements.{all_found, found_if}
use Rattle.ada_legality.specs.Declarations.{entries_judged, entry_of_operation}
use Rattle.ada_legality.specs.Declarations.{operation_found, protected_component_found}
use Rattle.ada_legality.specs.Findings.{Found}
use Rattle.ada_legality.specs.declared.standing.Known.{Known}
use Rattle.ada_tree.specs.declared.declarations.ProtectedDeclaration.{ProtectedDeclaration}

-- what stands in a protected declaration
abbrev pub protected_parts : ProtectedDeclaration → Known → Found
protected_parts p k =
    entries_judged false (flat_map entry_of_operation p.operations) k
    ++ (all_found operation_found p.operations k
    ++ found_if (all_found protected_component_found) p.components k)
