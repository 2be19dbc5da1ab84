use Rattle.std.proofs.Common.{◌≡◌, ◌++◌, drop}
use Rattle.std.specs.List.{flat_map}
use Rattle.legality_profiles.specs.Shown.{named_in}
use Rattle.legality_profiles.proofs.named.push_parameters.Given as goal

-- the names so far and those that are to come are all of them
abbrev pub invariant-loop-parameter : goal.invariant-loop-parameter
invariant-loop-parameter l = l.profile ++ flat_map named_in (drop l.parameter-index l.parameters) ≡ l.initial.profile ++ flat_map named_in l.parameters
