-- Two profiles side by side, one parameter at a time.
use Rattle.ada_legality.specs.Profiles.{same_parameter}
use Rattle.ada_regions.specs.declared.table.Names.{Names}
use Rattle.ada_tree.specs.declared.declarations.Parameter.{Parameter}
use Rattle.ada_tree.specs.declared.names.Identifier.{Identifier}
use Rattle.legality_profiles.specs.Shown.{named_shown}
use Rattle.legality_profiles.specs.declared.named.Named.{Named}
use Rattle.std.specs.Prelude.{Bool, List, None, Option, Some, [], false, is_some, not, slice_get, ℕ, ◌&&◌, ◌+◌, ◌∷◌}

-- a parameter beside the one at the same place, if there is one
abbrev pub same_beside : Names → Identifier × Parameter → Option Named → Bool
same_beside n a None = false
same_beside n a (Some b) = same_parameter n a (named_shown b)

-- parameters beside those from a place on
abbrev pub same_along : Names → List Named → List Named → ℕ → Bool
same_along n [] others at = not (is_some (slice_get others at))
same_along n (x ∷ xs) others at =
    same_beside n (named_shown x) (slice_get others at) && same_along n xs others (at + 1)
