-- The last unit among parts of a name, one part at a time.
use Rattle.std.specs.Prelude.{List, Option, [], ◌∷◌}
use Rattle.ada_legality.specs.UnitsUsed.{unit_if}
use Rattle.ada_regions.specs.Names.{denoted_at}
use Rattle.std.specs.Option.{option_or}
use Rattle.ada_regions.specs.declared.entities.Denoted.{Denoted}
use Rattle.ada_regions.specs.declared.table.Names.{Names}
use Rattle.ada_tree.specs.declared.names.Identifier.{Identifier}

-- behind one that was met before
abbrev pub unit_along : Names → List Identifier → Option Denoted → Option Denoted
unit_along n [] before = before
unit_along n (i ∷ rest) before =
    unit_along n rest (option_or (unit_if n (denoted_at n i.place)) before)
