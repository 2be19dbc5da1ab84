-- What findings break beside the others, one finding at a time.
use Rattle.std.specs.Prelude.{[], take, ℕ, ◌++◌, ◌+◌, ◌∷◌}
use Rattle.ada_legality.specs.Findings.{Found}
use Rattle.ada_legality.specs.WholeSource.{judged_beside}
use Rattle.ada_regions.specs.declared.table.Names.{Names}

-- what those from a place on break
abbrev pub judged_along : Names → Found → ℕ → Found → Found
judged_along n found at [] = []
judged_along n found at (f ∷ rest) =
    judged_beside n found (take at found) f ++ judged_along n found (at + 1) rest
