use Rattle.std.proofs.Common.{◌≡◌, ◌++◌, drop}
use Rattle.ada_legality.specs.CallStatements.{all_found}
use Rattle.ada_legality.specs.Declarations.{record_component_found}
use Rattle.legality_declarations.proofs.components.components_found.Given as goal

-- what is found by now, and what the components to come give, is all
abbrev pub invariant-loop-component : goal.invariant-loop-component
invariant-loop-component l =
    l.found ++ all_found record_component_found (drop l.component-index l.components.others) l.known
    ≡ l.initial.found ++ all_found record_component_found l.components.others l.known
