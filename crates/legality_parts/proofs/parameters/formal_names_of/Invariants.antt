use Rattle.std.proofs.Common.{◌≡◌, ◌++◌, drop}
use Rattle.std.specs.List.{flat_map}
use Rattle.ada_regions.specs.Words.{all_of}
use Rattle.legality_parts.proofs.parameters.formal_names_of.Given as goal

-- the names so far, and those to come, are all of them
abbrev pub invariant-loop-parameter : goal.invariant-loop-parameter
invariant-loop-parameter l = l.names ++ flat_map (λ p. all_of p.names) (drop l.parameter-index l.parameters) ≡ flat_map (λ p. all_of p.names) l.parameters
