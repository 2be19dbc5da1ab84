-- Two profiles side by side, one parameter at a time.
use Rattle.std.proofs.Common.{◌≡◌, ◌+◌, ◌&&◌, ◌∷◌, ◌∙◌, [], ℕ, zero, suc, List, ap, arith, drop, is_some, map, not, refl, slice_get}
use Rattle.ada_legality.specs.Profiles.{all_same_parameters}
use Rattle.ada_regions.specs.declared.table.Names.{Names}
use Rattle.ada_tree.specs.declared.declarations.Parameter.{Parameter}
use Rattle.ada_tree.specs.declared.names.Identifier.{Identifier}
use Rattle.legality_profiles.specs.Beside.{same_along, same_beside}
use Rattle.legality_profiles.specs.Shown.{named_shown}
use Rattle.legality_profiles.specs.declared.named.Named.{Named}

first_beside : (n : Names) (y : Identifier × Parameter) (ys : List (Identifier × Parameter)) (others : List Named) (at : ℕ)
    → all_same_parameters n (y ∷ ys) (map named_shown (drop at others))
    ≡ same_beside n y (slice_get others at) && all_same_parameters n ys (map named_shown (drop (suc at) others))
unfolding all_same_parameters
first_beside n y ys [] zero = refl
first_beside n y ys [] (suc at) = refl
first_beside n y ys (b ∷ bs) zero = refl
first_beside n y ys (b ∷ bs) (suc at) = first_beside n y ys bs at

none_first : (n : Names) (others : List Named) (at : ℕ) → all_same_parameters n [] (map named_shown (drop at others)) ≡ not (is_some (slice_get others at))
unfolding all_same_parameters
none_first n [] zero = refl
none_first n [] (suc at) = refl
none_first n (b ∷ bs) zero = refl
none_first n (b ∷ bs) (suc at) = none_first n bs at

from_place : (n : Names) (parameters others : List Named) (at : ℕ)
    → all_same_parameters n (map named_shown parameters) (map named_shown (drop at others)) ≡ same_along n parameters others at
from_place n [] others at = none_first n others at
from_place n (x ∷ xs) others at =
    let one : suc at ≡ at + 1 = omega arith in
    first_beside n (named_shown x) (map named_shown xs) others at
    ∙ (ap (λ k. same_beside n (named_shown x) (slice_get others at) && all_same_parameters n (map named_shown xs) (map named_shown (drop k others))) one
    ∙ ap (λ b. same_beside n (named_shown x) (slice_get others at) && b) (from_place n xs others (at + 1)))

-- all parameters of two profiles
pub same_is : (n : Names) (parameters others : List Named)
    → all_same_parameters n (map named_shown parameters) (map named_shown others) ≡ same_along n parameters others 0
same_is n parameters others = from_place n parameters others 0
