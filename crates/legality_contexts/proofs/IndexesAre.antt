-- The types of the indexes of array types, one occurrence at a time.
use Rattle.std.proofs.Common.{◌≡◌, ◌++◌, ◌∷◌, ◌∙◌, [], List, refl}
use Rattle.std.specs.List.{flat_map}
use Rattle.ada_legality.specs.SimpleStatements.{type_between}
use Rattle.ada_legality.specs.Units.{Bounds, bounds_in, indexes_from, indexes_of, known_with}
use Rattle.ada_legality.specs.declared.standing.InForce.{InForce}
use Rattle.ada_regions.specs.Occurrences.{Occurrences}
use Rattle.ada_regions.specs.declared.table.Names.{Names}
use Rattle.ada_regions.specs.declared.types.AdaType.{AdaType}
use Rattle.legality_contexts.specs.Along.{index_put, indexes_along, indexes_with}

module _ (n : Names) (occurrences : Occurrences) (r : InForce) where
  none : (indexes : List AdaType) → indexes_from (known_with n occurrences r indexes) [] ≡ indexes
  unfolding indexes_from
  none indexes = refl

  one_more : (indexes : List AdaType) (b : Bounds) (bs : List Bounds)
      → indexes_from (known_with n occurrences r indexes) (b ∷ bs)
      ≡ indexes_from (known_with n occurrences r (indexes ++ type_between (known_with n occurrences r indexes) b.0 b.1 ∷ [])) bs
  unfolding indexes_from
  one_more indexes b bs = refl

  behind : (indexes : List AdaType) (bs : List Bounds) (more : List Bounds)
      → indexes_from (known_with n occurrences r indexes) (bs ++ more)
      ≡ indexes_from (known_with n occurrences r (indexes_with n occurrences r indexes bs)) more
  behind indexes [] more = refl
  behind indexes (b ∷ bs) more =
      one_more indexes b (bs ++ more)
      ∙ behind (indexes ++ type_between (known_with n occurrences r indexes) b.0 b.1 ∷ []) bs more

  along : (indexes : List AdaType) (rest : Occurrences)
      → indexes_from (known_with n occurrences r indexes) (flat_map bounds_in rest) ≡ indexes_along n occurrences r indexes rest
  along indexes [] = none indexes
  along indexes (o ∷ rest) =
      behind indexes (bounds_in o) (flat_map bounds_in rest) ∙ along (index_put n occurrences r indexes o) rest

  pub indexes_are : indexes_of n occurrences r ≡ indexes_along n occurrences r [] occurrences
  unfolding indexes_of
  indexes_are = along [] occurrences
