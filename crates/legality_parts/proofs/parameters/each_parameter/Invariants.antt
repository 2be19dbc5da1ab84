use Rattle.std.proofs.Common.{◌≡◌, ◌++◌, drop}
use Rattle.ada_legality.specs.CallStatements.{all_found, parameter_found}
use Rattle.legality_parts.proofs.parameters.each_parameter.Given as goal

-- what is found by now, and what the parameters to come give, is all
abbrev pub invariant-loop-parameter : goal.invariant-loop-parameter
invariant-loop-parameter l =
    l.found ++ all_found (parameter_found l.in_unit l.overrides) (drop l.parameter-index l.parameters) l.known
    ≡ l.initial.found ++ all_found (parameter_found l.in_unit l.overrides) l.parameters l.known
