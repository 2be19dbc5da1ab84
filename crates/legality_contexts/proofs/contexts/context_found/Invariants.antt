use Rattle.std.proofs.Common.{◌≡◌, ◌++◌, drop}
use Rattle.ada_legality.specs.Units.{context_found}
use Rattle.legality_contexts.proofs.contexts.context_found.Given as goal

-- what is found by now, and what the clauses to come give, is all
abbrev pub invariant-loop-clause : goal.invariant-loop-clause
invariant-loop-clause l = l.found ++ context_found (drop l.clause-index l.clauses) l.known ≡ l.initial.found ++ context_found l.clauses l.known
