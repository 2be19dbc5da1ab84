use Rattle.std.proofs.Common.{◌≡◌, ◌++◌, drop, map}
use Rattle.ada_legality.specs.SimpleStatements.{alternative_part}
use Rattle.legality_compounds.proofs.selects.alternative_parts.Given as goal

-- the parts so far, and those to come, are all of them
abbrev pub invariant-loop-alternative : goal.invariant-loop-alternative
invariant-loop-alternative g l =
    l.parts ++ map alternative_part (drop l.alternative-index l.alternatives.others) ≡ l.initial.parts ++ map alternative_part l.alternatives.others
