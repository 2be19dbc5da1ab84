use Rattle.std.proofs.Common.{◌≡◌, ◌++◌, drop}
use Rattle.legality_tasking.proofs.entries.add_entries.Given as goal

-- the entries so far, and those to come, are all of them
abbrev pub invariant-loop-declaration : goal.invariant-loop-declaration
invariant-loop-declaration l = l.entries ++ drop l.declaration-index l.declarations ≡ l.initial.entries ++ l.declarations
