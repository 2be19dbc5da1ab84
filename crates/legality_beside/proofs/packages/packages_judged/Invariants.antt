use Rattle.std.proofs.Common.{◌≡◌, ◌++◌, drop}
use Rattle.std.specs.List.{flat_map}
use Rattle.ada_legality.specs.Packages.{bodies_of_packages, package_judged}
use Rattle.legality_beside.proofs.packages.packages_judged.Given as goal

-- what was judged and what is to come are all of it
abbrev pub invariant-loop-library : goal.invariant-loop-library
invariant-loop-library l =
    l.judged ++ flat_map (λ x. package_judged l.names (bodies_of_packages l.packages) x.package) (drop l.library-index l.packages)
    ≡ l.initial.judged ++ flat_map (λ x. package_judged l.names (bodies_of_packages l.packages) x.package) l.packages
