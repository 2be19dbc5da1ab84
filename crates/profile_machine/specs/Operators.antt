-- Values, ranges and operators (3.5, 4.5).
use Rattle.std.specs.Prelude.{ℕ, suc, ℤ, pos, negsuc, ◌+ℤ◌, ◌-ℤ◌, ◌*ℤ◌, neg_ℤ, nat_abs, int_lt, int_le}
use Rattle.std.specs.Prelude.{int_div, int_rem, Bool, true, false, cond, not, ◌&&◌, ◌||◌, List, []}
use Rattle.std.specs.Prelude.{◌∷◌, Result, Ok, Err, eqb, ltb, leb, decimal, codes, slice_index_or}
use Rattle.ann_base.specs.Results.{◌>>=◌}
use Rattle.ann_base.specs.declared.exceptions.Raised.{Raised}
use Rattle.ann_base.specs.declared.exceptions.Raised.TheVariants as exception
use Rattle.profile_image.specs.declared.values.Value.{Value}
use Rattle.profile_image.specs.declared.values.Value.TheVariants.{Whole, Truth, Literal, Ticks, Task}
use Rattle.profile_image.specs.declared.values.Constraint.{Constraint}
use Rattle.profile_image.specs.declared.values.Constraint.TheVariants as range
use Rattle.profile_image.specs.declared.expressions.UnaryOperator.{UnaryOperator}
use Rattle.profile_image.specs.declared.expressions.UnaryOperator.TheVariants as unary
use Rattle.profile_image.specs.declared.expressions.BinaryOperator.{BinaryOperator}
use Rattle.profile_image.specs.declared.expressions.BinaryOperator.TheVariants as binary
use Rattle.profile_image.specs.Words.{same_option, same_task, same_bool, same_number}
use Rattle.profile_image.specs.declared.limits.TheConstants.{INTEGER_FIRST, INTEGER_LAST, TIME_FIRST, TIME_LAST}

-- ---- a value or an exception

abbrev pub Valued : Type 0 → Type 0
Valued X = Result X Raised

-- the value where the test holds, else the exception
abbrev pub unless : {X : Type 0} → Bool → Raised → X → Valued X
unless true e x = Ok x
unless false e x = Err e

-- what no checked image asks: an operator between values of other kinds than its own
abbrev pub misfit : {X : Type 0} → Valued X
misfit = Err exception.Program

-- it is true, and no exception
abbrev pub holds : Valued Bool → Bool
holds (Ok b) = b
holds (Err e) = false

-- ---- ends of the numbers (rules of this profile)

-- an Integer lies between its ends
abbrev pub whole : ℤ → Valued Value
whole n = unless (int_le INTEGER_FIRST n && int_le n INTEGER_LAST) exception.Constraint (Whole n)

-- times and spans lie between their ends
abbrev pub ticks : ℤ → Valued Value
ticks n = unless (int_le TIME_FIRST n && int_le n TIME_LAST) exception.Constraint (Ticks n)

-- a moment that would be set beyond an end is that end
abbrev pub held_moment : ℤ → ℤ
held_moment n = cond (int_lt n TIME_FIRST) TIME_FIRST (cond (int_lt TIME_LAST n) TIME_LAST n)

-- ---- ranges (3.5)

abbrev pub bit : Bool → ℕ
bit false = 0
bit true = 1

abbrev pub is_in : Constraint → Value → Bool
is_in range.Free v = true
is_in (range.Whole low high) (Whole n) = int_le low n && int_le n high
is_in (range.Truth low high) (Truth b) = leb (bit low) (bit b) && leb (bit b) (bit high)
is_in (range.Literal low high) (Literal n) = leb low n && leb n high
is_in (range.Ticks low high) (Ticks n) = int_le low n && int_le n high
is_in _ _ = false

-- a range check (4.6)
abbrev pub checked : Constraint → Value → Valued Value
checked constraint v = unless (is_in constraint v) exception.Constraint v

-- the place of a component in its array, by the value of the index (4.1.1)
abbrev pub place_in : Constraint → Value → ℕ
place_in (range.Whole low high) (Whole n) = nat_abs (n -ℤ low)
place_in (range.Truth low high) (Truth b) = nat_abs (pos (bit b) -ℤ pos (bit low))
place_in (range.Literal low high) (Literal n) = nat_abs (pos n -ℤ pos low)
place_in _ _ = 0

abbrev pub component_place : Constraint → Value → Valued ℕ
component_place index v = unless (is_in index v) exception.Constraint (place_in index v)

-- ---- one operand

abbrev pub negated : Value → Valued Value
negated (Whole n) = whole (neg_ℤ n)
negated (Ticks n) = ticks (neg_ℤ n)
negated _ = misfit

abbrev pub absolute : Value → Valued Value
absolute (Whole n) = whole (pos (nat_abs n))
absolute (Ticks n) = ticks (pos (nat_abs n))
absolute _ = misfit

abbrev pub inverted : Value → Valued Value
inverted (Truth b) = Ok (Truth (not b))
inverted _ = misfit

abbrev pub unary_value : UnaryOperator → Value → Valued Value
unary_value unary.Plus v = Ok v
unary_value unary.Minus v = negated v
unary_value unary.Abs v = absolute v
unary_value unary.Not v = inverted v

-- ---- comparisons (4.5.2)

abbrev pub same_value : Value → Value → Valued Bool
same_value (Whole a) (Whole b) = Ok (same_number a b)
same_value (Truth a) (Truth b) = Ok (same_bool a b)
same_value (Literal a) (Literal b) = Ok (eqb a b)
same_value (Ticks a) (Ticks b) = Ok (same_number a b)
same_value (Task a) (Task b) = Ok (same_option same_task a b)
same_value _ _ = misfit

abbrev pub is_less : Value → Value → Valued Bool
is_less (Whole a) (Whole b) = Ok (int_lt a b)
is_less (Truth a) (Truth b) = Ok (ltb (bit a) (bit b))
is_less (Literal a) (Literal b) = Ok (ltb a b)
is_less (Ticks a) (Ticks b) = Ok (int_lt a b)
is_less _ _ = misfit

abbrev pub as_truth : Valued Bool → Valued Value
as_truth r = r >>= λ b. Ok (Truth b)

abbrev pub as_untruth : Valued Bool → Valued Value
as_untruth r = r >>= λ b. Ok (Truth (not b))

-- ---- logical operators (4.5.1)

abbrev pub logical : (Bool → Bool → Bool) → Value → Value → Valued Value
logical f (Truth a) (Truth b) = Ok (Truth (f a b))
logical f _ _ = misfit

abbrev pub both : Bool → Bool → Bool
both a b = a && b

abbrev pub either : Bool → Bool → Bool
either a b = a || b

abbrev pub one_of : Bool → Bool → Bool
one_of true b = not b
one_of false b = b

-- ---- arithmetic (4.5.3, 4.5.5; D.8)

abbrev pub added : Value → Value → Valued Value
added (Whole a) (Whole b) = whole (a +ℤ b)
added (Ticks a) (Ticks b) = ticks (a +ℤ b)
added _ _ = misfit

abbrev pub subtracted : Value → Value → Valued Value
subtracted (Whole a) (Whole b) = whole (a -ℤ b)
subtracted (Ticks a) (Ticks b) = ticks (a -ℤ b)
subtracted _ _ = misfit

abbrev pub multiplied : Value → Value → Valued Value
multiplied (Whole a) (Whole b) = whole (a *ℤ b)
multiplied (Ticks a) (Whole b) = ticks (a *ℤ b)
multiplied (Whole a) (Ticks b) = ticks (a *ℤ b)
multiplied _ _ = misfit

abbrev pub is_zero : ℤ → Bool
is_zero n = same_number n (pos 0)

-- towards zero
abbrev pub divided : Value → Value → Valued Value
divided (Whole a) (Whole b) = cond (is_zero b) (Err exception.Constraint) (whole (int_div a b))
divided (Ticks a) (Whole b) = cond (is_zero b) (Err exception.Constraint) (ticks (int_div a b))
divided _ _ = misfit

-- with the sign of the right operand
abbrev pub modulo : ℤ → ℤ → ℤ
modulo a b =
    let r = int_rem a b in
    cond (is_zero r || same_bool (int_lt r (pos 0)) (int_lt b (pos 0))) r (r +ℤ b)

abbrev pub modulus : Value → Value → Valued Value
modulus (Whole a) (Whole b) = cond (is_zero b) (Err exception.Constraint) (whole (modulo a b))
modulus _ _ = misfit

-- with the sign of the left operand
abbrev pub remainder : Value → Value → Valued Value
remainder (Whole a) (Whole b) = cond (is_zero b) (Err exception.Constraint) (whole (int_rem a b))
remainder _ _ = misfit

-- ---- two operands, both of which have been evaluated

abbrev pub binary_value : BinaryOperator → Value → Value → Valued Value
binary_value binary.And a b = logical both a b
binary_value binary.Or a b = logical either a b
binary_value binary.Xor a b = logical one_of a b
binary_value binary.AndThen a b = logical both a b
binary_value binary.OrElse a b = logical either a b
binary_value binary.Equal a b = as_truth (same_value a b)
binary_value binary.NotEqual a b = as_untruth (same_value a b)
binary_value binary.Less a b = as_truth (is_less a b)
binary_value binary.LessOrEqual a b = as_untruth (is_less b a)
binary_value binary.Greater a b = as_truth (is_less b a)
binary_value binary.GreaterOrEqual a b = as_untruth (is_less a b)
binary_value binary.Plus a b = added a b
binary_value binary.Minus a b = subtracted a b
binary_value binary.Times a b = multiplied a b
binary_value binary.Divide a b = divided a b
binary_value binary.Mod a b = modulus a b
binary_value binary.Rem a b = remainder a b

-- whether the left operand alone decides a short-circuit form
abbrev pub decides : BinaryOperator → Value → Bool
decides binary.AndThen (Truth a) = not a
decides binary.OrElse (Truth a) = a
decides _ _ = false

-- ---- 'Image (3.5): a number that is not negative begins with a space

abbrev pub image_of_whole : ℤ → List ℕ
image_of_whole (pos n) = 32 ∷ decimal n
image_of_whole (negsuc n) = 45 ∷ decimal (suc n)

abbrev pub image_of_truth : Bool → List ℕ
image_of_truth true = codes "TRUE"
image_of_truth false = codes "FALSE"

abbrev pub text_of_whole : Value → List ℕ
text_of_whole (Whole n) = image_of_whole n
text_of_whole _ = []

abbrev pub text_of_truth : Value → List ℕ
text_of_truth (Truth b) = image_of_truth b
text_of_truth _ = []

abbrev pub text_of_literal : List (List ℕ) → Value → List ℕ
text_of_literal literals (Literal n) = slice_index_or literals n []
text_of_literal literals _ = []
