use Rattle.std.proofs.Common.{◌≡◌, drop, map}
use Rattle.ada_legality.specs.Profiles.{specification_of}
use Rattle.ada_regions.specs.Shown.{occurrence_shown}
use Rattle.legality_profiles.proofs.declared.specification_among.Given as goal

-- the occurrences that are to come declare what all of them declare
abbrev pub invariant-loop-occurrence : goal.invariant-loop-occurrence
invariant-loop-occurrence l =
    specification_of l.names l.entity (map occurrence_shown (drop l.occurrence-index l.occurrences))
    ≡ specification_of l.names l.entity (map occurrence_shown l.occurrences)
