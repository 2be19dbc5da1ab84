use Rattle.std.proofs.Common.{◌≡◌, ◌++◌, drop, map}
use Rattle.ada_legality.specs.Calls.{formal_part}
use Rattle.legality_calls.proofs.formals.formal_parts.Given as goal

-- the formals so far, and those to come, are all of them
abbrev pub invariant-loop-formal : goal.invariant-loop-formal
invariant-loop-formal l = l.parts ++ map formal_part (drop l.formal-index l.formals) ≡ map formal_part l.formals
