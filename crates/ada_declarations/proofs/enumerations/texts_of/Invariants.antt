use Rattle.std.proofs.Common.{◌≡◌, ◌++◌, ◌∷◌, drop, map}
use Rattle.ada_regions.specs.Declaring.{text_of}
use Rattle.ada_declarations.proofs.enumerations.texts_of.Given as goal

-- the texts so far and those that are to come are all of them
abbrev pub invariant-loop-name : goal.invariant-loop-name
invariant-loop-name l = l.texts ++ map text_of (drop l.name-index l.names.others) ≡ text_of l.names.first ∷ map text_of l.names.others
