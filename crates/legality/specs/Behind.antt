-- What is found of pragmas, packages and units, and beside what a walk over the source found.
use Rattle.std.specs.Prelude.{◌++◌}
use Rattle.ada_legality.specs.Findings.{Found}
use Rattle.ada_legality.specs.InForce.{deadline_ranges_of}
use Rattle.ada_legality.specs.Packages.{packages_judged}
use Rattle.ada_legality.specs.Pragmas.{pragmas_judged}
use Rattle.ada_legality.specs.UnitsUsed.{found_from}
use Rattle.ada_legality.specs.WholeSource.{found_beside}
use Rattle.ada_regions.specs.Numbered.{last_priority_of, nothing_known}
use Rattle.ada_regions.specs.Occurrences.{Occurrences}
use Rattle.ada_regions.specs.declared.table.Names.{Names}
use Rattle.ada_tree.specs.declared.units.Unit.{Unit as Tree}

-- behind what the walk found
abbrev pub found_behind : Tree → Names → Occurrences → Found → Found
found_behind u n occurrences found =
    found_beside n (deadline_ranges_of u.pragmas) found
    ++ (pragmas_judged u.pragmas
    ++ (packages_judged n u.packages
    ++ found_from occurrences (nothing_known (last_priority_of u.pragmas))))
