-- The least of several numbers, where they are there.
use Rattle.std.proofs.Common.{◌≡◌, ℕ, Option, Some, None, refl, arith}
use Rattle.ada_image.specs.PoliciesOfImage.{least_of}

pub least_of_none : (a : Option ℕ) → least_of a None ≡ a
unfolding least_of
least_of_none None = refl
least_of_none (Some a) = refl

least_of_numbers : (a b c : ℕ) → least_of (least_of (Some a) (Some b)) (Some c) ≡ least_of (Some a) (least_of (Some b) (Some c))
unfolding least_of
least_of_numbers a b c = grind arith

pub least_of_three : (a b c : Option ℕ) → least_of (least_of a b) c ≡ least_of a (least_of b c)
unfolding least_of
least_of_three None b c = refl
least_of_three (Some a) None c = refl
least_of_three (Some a) (Some b) None = refl
least_of_three (Some a) (Some b) (Some c) = least_of_numbers a b c
