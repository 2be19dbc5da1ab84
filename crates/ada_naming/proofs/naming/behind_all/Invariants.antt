use Rattle.std.proofs.Common.{◌≡◌, drop, map}
use Rattle.ada_regions.specs.Numbered.{behind_all}
use Rattle.ada_regions.specs.Shown.{occurrence_shown}
use Rattle.ada_naming.proofs.naming.behind_all.Given as goal

-- what the occurrences that are to come lead to is what all lead to
abbrev pub invariant-loop-occurrence : goal.invariant-loop-occurrence
invariant-loop-occurrence l =
    behind_all (map occurrence_shown (drop l.occurrence-index l.occurrences)) l.names ≡ behind_all (map occurrence_shown l.occurrences) l.fn.names
