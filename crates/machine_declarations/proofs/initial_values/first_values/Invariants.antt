use Rattle.std.proofs.Common.{◌≡◌, [], drop}
use Rattle.machine_declarations.specs.FirstValues.{first_values}
use Rattle.machine_declarations.proofs.initial_values.first_values.Given as goal

-- the components that are to come give, behind the values so far, what all of them give
abbrev pub invariant-loop-component : goal.invariant-loop-component
invariant-loop-component l =
    first_values l.q l.own_cells l.object (drop l.component-index l.components) l.values ≡ first_values l.q l.own_cells l.object l.components []
