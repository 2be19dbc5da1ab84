use Rattle.std.proofs.Common.{◌≡◌, drop, map}
use Rattle.ada_legality.specs.Profiles.{entry_declared_as}
use Rattle.ada_regions.specs.Shown.{occurrence_shown}
use Rattle.legality_profiles.proofs.declared.entry_among.Given as goal

-- the occurrences that are to come declare what all of them declare
abbrev pub invariant-loop-occurrence : goal.invariant-loop-occurrence
invariant-loop-occurrence l =
    entry_declared_as l.names l.entity (map occurrence_shown (drop l.occurrence-index l.occurrences))
    ≡ entry_declared_as l.names l.entity (map occurrence_shown l.occurrences)
