use Rattle.std.proofs.Common.{◌≡◌, ◌++◌, drop, map}
use Rattle.std.specs.List.{flat_map}
use Rattle.ada_legality.specs.Packages.{body_named}
use Rattle.legality_beside.specs.Bodies.{denoted_in}
use Rattle.legality_beside.proofs.packages.bodies_put.Given as goal

-- those so far and those that are to come are all of them
abbrev pub invariant-loop-declaration : goal.invariant-loop-declaration
invariant-loop-declaration l =
    l.bodies ++ map (denoted_in l.names) (flat_map body_named (drop l.declaration-index l.declarations))
    ≡ l.initial.bodies ++ map (denoted_in l.names) (flat_map body_named l.declarations)
