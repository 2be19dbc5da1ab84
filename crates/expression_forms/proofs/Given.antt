-- A value that a text can give.
use Rattle.std.proofs.Common.{◌≡◌, ℕ, ℤ, pos, negsuc, Bool, true, false, refl, arith}
use Rattle.std.specs.Prelude.{int_le}
use Rattle.std.proofs.lemmas.Bool.{and_from, le-leb, eq-eqb}
use Rattle.profile_image.specs.declared.values.Value.TheVariants as value
use Rattle.ada_image.specs.BuiltExpressions.{is_given}

least : (n : ℤ) → int_le n n ≡ true
least (pos n) = le-leb n n (omega arith)
least (negsuc n) = le-leb n n (omega arith)

pub whole_is_given : (n : ℤ) → is_given (value.Whole n) ≡ true
whole_is_given n = and_from _ _ (least n) (least n)

pub ticks_are_given : (n : ℤ) → is_given (value.Ticks n) ≡ true
ticks_are_given n = and_from _ _ (least n) (least n)

pub truth_is_given : (b : Bool) → is_given (value.Truth b) ≡ true
truth_is_given true = refl
truth_is_given false = refl

pub literal_is_given : (n : ℕ) → is_given (value.Literal n) ≡ true
literal_is_given n = eq-eqb n n refl
