use Rattle.std.proofs.Common.{◌≡◌, ◌++◌, drop}
use Rattle.ada_legality.specs.CallStatements.{all_found}
use Rattle.ada_legality.specs.Declarations.{entry_noted}
use Rattle.legality_tasking.proofs.entries.each_noted.Given as goal

-- what is found by now, and what the entries to come give, is all
abbrev pub invariant-loop-entry : goal.invariant-loop-entry
invariant-loop-entry l = l.found ++ all_found entry_noted (drop l.entry-index l.entries) l.known ≡ l.initial.found ++ all_found entry_noted l.entries l.known
