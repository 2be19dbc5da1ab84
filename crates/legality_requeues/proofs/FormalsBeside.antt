-- The formals of two entries side by side, one at a time.
use Rattle.std.proofs.Common.{◌≡◌, ◌+◌, ◌&&◌, ◌∷◌, ◌∙◌, [], Bool, List, ap, arith, drop, false, is_some, not, refl, slice_get, suc, true, zero, ℕ}
use Rattle.ada_legality.specs.SimpleStatements.{same_formals, same_mode, type_of_formal}
use Rattle.ada_legality.specs.Types.{same_type_if}
use Rattle.ada_regions.specs.declared.types.Formal.{Formal}
use Rattle.legality_requeues.specs.Formals.{same_along, same_beside}

grouped : (a : Bool) (b : Bool) (c : Bool) → (a && (b && c)) ≡ ((a && b) && c)
grouped true b c = refl
grouped false b c = refl

first_beside : (f : Formal) (fs : List Formal) (others : List Formal) (at : ℕ)
    → same_formals (f ∷ fs) (drop at others) ≡ (same_beside f (slice_get others at) && same_formals fs (drop (suc at) others))
unfolding same_formals
first_beside f fs [] zero = refl
first_beside f fs [] (suc at) = refl
first_beside f fs (g ∷ gs) zero = grouped (same_mode f.mode g.mode) (same_type_if (type_of_formal f) (type_of_formal g)) (same_formals fs gs)
first_beside f fs (g ∷ gs) (suc at) = first_beside f fs gs at

none_first : (others : List Formal) (at : ℕ) → same_formals [] (drop at others) ≡ not (is_some (slice_get others at))
unfolding same_formals
none_first [] zero = refl
none_first [] (suc at) = refl
none_first (g ∷ gs) zero = refl
none_first (g ∷ gs) (suc at) = none_first gs at

from_place : (formals : List Formal) (others : List Formal) (at : ℕ) → same_formals formals (drop at others) ≡ same_along formals others at
from_place [] others at = none_first others at
from_place (f ∷ fs) others at =
    let one : suc at ≡ at + 1 = omega arith in
    first_beside f fs others at
    ∙ (ap (λ n. same_beside f (slice_get others at) && same_formals fs (drop n others)) one
    ∙ ap (λ b. same_beside f (slice_get others at) && b) (from_place fs others (at + 1)))

-- all formals of two entries
pub same_is : (formals : List Formal) (others : List Formal) → same_formals formals others ≡ same_along formals others 0
same_is formals others = from_place formals others 0
