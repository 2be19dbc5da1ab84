-- The formals of two entries side by side, one at a time.
use Rattle.std.specs.Prelude.{Bool, List, None, Option, Some, [], false, is_some, not, slice_get, ℕ, ◌&&◌, ◌+◌, ◌∷◌}
use Rattle.ada_legality.specs.SimpleStatements.{same_mode, type_of_formal}
use Rattle.ada_legality.specs.Types.{same_type_if}
use Rattle.ada_regions.specs.declared.types.Formal.{Formal}

-- a formal beside the one at the same place, if there is one
abbrev pub same_beside : Formal → Option Formal → Bool
same_beside f None = false
same_beside f (Some g) = same_mode f.mode g.mode && same_type_if (type_of_formal f) (type_of_formal g)

-- formals beside those from a place on
abbrev pub same_along : List Formal → List Formal → ℕ → Bool
same_along [] others at = not (is_some (slice_get others at))
same_along (f ∷ fs) others at = same_beside f (slice_get others at) && same_along fs others (at + 1)
