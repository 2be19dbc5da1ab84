use Rattle.std.proofs.Common.{◌≡◌, ◌++◌, drop}
use Rattle.std.specs.List.{flat_map}
use Rattle.ada_regions.specs.Words.{all_of}
use Rattle.legality_compounds.proofs.compound.add_further.Given as goal

-- the choices so far, and those to come, are all of them
abbrev pub invariant-loop-alternative : goal.invariant-loop-alternative
invariant-loop-alternative g l =
    l.choices ++ flat_map (λ a. all_of a.choices) (drop l.alternative-index l.alternatives)
    ≡ l.initial.choices ++ flat_map (λ a. all_of a.choices) l.alternatives
