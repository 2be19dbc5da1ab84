-- The types of the indexes of array types, one occurrence at a time.
use Rattle.std.specs.Prelude.{List, [], ◌++◌, ◌∷◌}
use Rattle.ada_legality.specs.SimpleStatements.{type_between}
use Rattle.ada_legality.specs.Units.{Bounds, bounds_in, known_with}
use Rattle.ada_legality.specs.declared.standing.InForce.{InForce}
use Rattle.ada_regions.specs.Occurrences.{Occurrence, Occurrences}
use Rattle.ada_regions.specs.declared.table.Names.{Names}
use Rattle.ada_regions.specs.declared.types.AdaType.{AdaType}

-- those of some pairs of bounds, behind those before
abbrev pub indexes_with : Names → Occurrences → InForce → List AdaType → List Bounds → List AdaType
indexes_with n occurrences r indexes [] = indexes
indexes_with n occurrences r indexes (b ∷ bs) =
    indexes_with n occurrences r
    (indexes ++ type_between (known_with n occurrences r indexes) b.0 b.1 ∷ []) bs

-- that of an occurrence, where it declares an array type
abbrev pub index_put : Names → Occurrences → InForce → List AdaType → Occurrence → List AdaType
index_put n occurrences r indexes o = indexes_with n occurrences r indexes (bounds_in o)

-- those of some occurrences
abbrev pub indexes_along : Names → Occurrences → InForce → List AdaType → Occurrences → List AdaType
indexes_along n occurrences r indexes [] = indexes
indexes_along n occurrences r indexes (o ∷ rest) =
    indexes_along n occurrences r (index_put n occurrences r indexes o) rest
