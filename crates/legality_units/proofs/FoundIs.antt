-- What the names of a source break, one occurrence at a time.
use Rattle.std.proofs.Common.{◌≡◌, ◌++◌, ◌∷◌, ◌∙◌, [], ap, refl}
use Rattle.ada_legality.specs.UnitsUsed.{found_before, found_behind, found_from}
use Rattle.ada_regions.specs.Numbered.{behind}
use Rattle.ada_regions.specs.Occurrences.{Occurrence, Occurrences}
use Rattle.ada_regions.specs.declared.table.Names.{Names}
use Rattle.legality_units.specs.Along.{found_along}

none : (n : Names) → found_from [] n ≡ []
unfolding found_from
none n = refl

one_more : (o : Occurrence) (os : Occurrences) (n : Names)
    → found_from (o ∷ os) n ≡ found_before n o ++ (found_behind (behind o n) o ++ found_from os (behind o n))
unfolding found_from
one_more o os n = refl

pub found_is : (os : Occurrences) (n : Names) → found_from os n ≡ found_along os n
found_is [] n = none n
found_is (o ∷ os) n =
    one_more o os n
    ∙ ap (λ more. found_before n o ++ (found_behind (behind o n) o ++ more)) (found_is os (behind o n))
