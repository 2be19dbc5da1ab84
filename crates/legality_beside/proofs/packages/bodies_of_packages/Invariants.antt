use Rattle.std.proofs.Common.{◌≡◌, ◌++◌, drop, map}
use Rattle.std.specs.List.{flat_map}
use Rattle.ada_legality.specs.Packages.{body_named_in}
use Rattle.legality_beside.specs.Bodies.{denoted_in}
use Rattle.legality_beside.proofs.packages.bodies_of_packages.Given as goal

-- those so far and those that are to come are all of them
abbrev pub invariant-loop-library : goal.invariant-loop-library
invariant-loop-library l =
    l.bodies ++ map (denoted_in l.names) (flat_map (λ x. body_named_in x.package) (drop l.library-index l.packages))
    ≡ map (denoted_in l.names) (flat_map (λ x. body_named_in x.package) l.packages)
