use Rattle.std.proofs.Common.{◌≡◌, ◌++◌, ◌∷◌, drop, map}
use Rattle.ada_regions.specs.Subtypes.{formal_with}
use Rattle.ada_subtypes.proofs.formals.push_formals.Given as goal

-- the formals so far and those that are to come are all of them
abbrev pub invariant-loop-name : goal.invariant-loop-name
invariant-loop-name l =
    l.formals ++ map (formal_with l.mode l.subtype) (drop l.name-index l.names.others)
    ≡ l.fn.formals ++ (formal_with l.mode l.subtype l.names.first ∷ map (formal_with l.mode l.subtype) l.names.others)
