-- What the names of a source break, one occurrence at a time.
use Rattle.std.specs.Prelude.{[], ◌++◌, ◌∷◌}
use Rattle.ada_legality.specs.Findings.{Found}
use Rattle.ada_legality.specs.UnitsUsed.{found_before, found_behind}
use Rattle.ada_regions.specs.Numbered.{behind}
use Rattle.ada_regions.specs.Occurrences.{Occurrences}
use Rattle.ada_regions.specs.declared.table.Names.{Names}

-- those from here on
abbrev pub found_along : Occurrences → Names → Found
found_along [] n = []
found_along (o ∷ os) n =
    found_before n o ++ (found_behind (behind o n) o ++ found_along os (behind o n))
