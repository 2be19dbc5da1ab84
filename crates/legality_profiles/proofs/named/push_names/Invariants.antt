use Rattle.std.proofs.Common.{◌≡◌, ◌++◌, drop, map}
use Rattle.legality_profiles.specs.Shown.{named_with}
use Rattle.legality_profiles.proofs.named.push_names.Given as goal

-- the names so far and those that are to come are all of them
abbrev pub invariant-loop-name : goal.invariant-loop-name
invariant-loop-name l = l.profile ++ map (named_with l.parameter) (drop l.name-index l.names) ≡ l.initial.profile ++ map (named_with l.parameter) l.names
