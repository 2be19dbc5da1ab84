use Rattle.std.proofs.Common.{◌≡◌, ◌++◌, drop}
use Rattle.ada_legality.specs.CallStatements.{all_found}
use Rattle.ada_legality.specs.Declarations.{use_found}
use Rattle.legality_contexts.proofs.contexts.uses_found.Given as goal

-- what is found by now, and what the names to come give, is all
abbrev pub invariant-loop-name : goal.invariant-loop-name
invariant-loop-name l =
    l.found ++ all_found use_found (drop l.name-index l.names.others) l.known ≡ l.initial.found ++ all_found use_found l.names.others l.known
