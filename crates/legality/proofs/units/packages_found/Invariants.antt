use Rattle.std.proofs.Common.{◌≡◌, ◌++◌, drop}
use Rattle.ada_legality.specs.CallStatements.{all_found}
use Rattle.ada_legality.specs.Units.{library_package_found}
use Rattle.legality.proofs.units.packages_found.Given as goal

-- what is found by now, and what the packages to come give, is all
abbrev pub invariant-loop-unit : goal.invariant-loop-unit
invariant-loop-unit l =
    l.found ++ all_found library_package_found (drop l.unit-index l.packages) l.known ≡ l.initial.found ++ all_found library_package_found l.packages l.known
