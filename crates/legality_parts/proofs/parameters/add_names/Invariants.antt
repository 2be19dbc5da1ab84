use Rattle.std.proofs.Common.{◌≡◌, ◌++◌, drop}
use Rattle.legality_parts.proofs.parameters.add_names.Given as goal

-- the names so far, and those to come, are all of them
abbrev pub invariant-loop-name : goal.invariant-loop-name
invariant-loop-name l = l.names ++ drop l.name-index l.parameter.names.others ≡ l.initial.names ++ l.parameter.names.others
