use Rattle.std.proofs.Common.{◌≡◌, ◌++◌, drop}
use Rattle.legality_handlers.proofs.handlers.add_others.Given as goal

-- the names so far, and those to come, are all of them
abbrev pub invariant-loop-name : goal.invariant-loop-name
invariant-loop-name l = l.names ++ drop l.name-index l.others ≡ l.initial.names ++ l.others
