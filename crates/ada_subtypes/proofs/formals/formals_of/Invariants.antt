use Rattle.std.proofs.Common.{◌≡◌, ◌++◌, drop}
use Rattle.std.specs.List.{flat_map}
use Rattle.ada_regions.specs.Subtypes.{formals_of_parameter}
use Rattle.ada_subtypes.proofs.formals.formals_of.Given as goal

-- the formals so far and those of the parameters that are to come are all of them
abbrev pub invariant-loop-parameter : goal.invariant-loop-parameter
invariant-loop-parameter l =
    l.formals ++ flat_map (formals_of_parameter l.names) (drop l.parameter-index l.parameters) ≡ flat_map (formals_of_parameter l.names) l.parameters
