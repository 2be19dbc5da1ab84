use Rattle.std.proofs.Common.{◌≡◌, ◌++◌, length}
use Rattle.image_library.proofs.programs.sequence_of.Given as goal

-- the statements so far and those that are left are all of them
abbrev pub invariant-loop-statement : goal.invariant-loop-statement
invariant-loop-statement l = l.sequence ++ l.statements ≡ l.initial.statements

abbrev pub decreases-loop-statement : goal.decreases-loop-statement
decreases-loop-statement l = length l.statements
