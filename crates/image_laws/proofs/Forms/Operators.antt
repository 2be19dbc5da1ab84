-- Operands of operators are of types of values, where no rule of operators is broken.
use Rattle.std.proofs.Common.{◌≡◌, Bool, true, false, not, ◌&&◌, [], Option, Some, None, is_some, is_none, refl, sym, ap, ◌∙◌, eqb-true}
use Rattle.std.specs.Prelude.{ltb, unwrap_or}
use Rattle.std.proofs.lemmas.Bool.{and_parts, false≢true}
use Rattle.ann_base.specs.declared.places.Place.{Place}
use Rattle.ada_tree.specs.declared.operators.AddingOperator.{AddingOperator}
use Rattle.ada_tree.specs.declared.operators.AddingOperator.TheVariants as adding
use Rattle.profile_image.specs.declared.expressions.BinaryOperator.{BinaryOperator}
use Rattle.profile_image.specs.declared.expressions.BinaryOperator.TheVariants as binary
use Rattle.profile_image.specs.declared.expressions.UnaryOperator.{UnaryOperator}
use Rattle.profile_image.specs.declared.expressions.UnaryOperator.TheVariants as unary
use Rattle.ada_regions.specs.declared.types.AdaType.{AdaType}
use Rattle.ada_regions.specs.declared.types.AdaType.TheVariants as types
use Rattle.ada_image.specs.Layout.{is_thing}
use Rattle.ada_legality.specs.declared.reading.Typed.{Typed}
use Rattle.ada_legality.specs.declared.reading.Typed.TheVariants as typing
use Rattle.ada_legality.specs.Faults.{faults_in}
use Rattle.ada_legality.specs.Types.{type_number, same_type, is_boolean, is_scalar, is_ordered, is_text, sum_of}
use Rattle.ada_legality.specs.Types.{difference_of, product_of, quotient_of, remainder_of, boolean_if, result_of}
use Rattle.ada_legality.specs.Types.{result_of_one, operand_type, has_type, typed_if, operation_type, operation_type_of_one}
use Rattle.ada_legality.specs.Reading.{operation_judged, operation_of_one_judged, concatenation_judged, sum_judged, typed_sum}
use Rattle.ada_regions.specs.Words.{and_then}
use Rattle.image_laws.specs.Clear.{has_values}
use Rattle.image_laws.proofs.Forms.Nothing.{if-none}

pub Some-same : {X : Type 0} {x y : X} → Some x ≡ Some y → x ≡ y
Some-same {X} {x} {y} e = ap (λ o. unwrap_or o x) e

-- ---- types that are no things

boolean-thing : (t : AdaType) → is_boolean t ≡ true → is_thing t ≡ false
boolean-thing types.Boolean e = refl
boolean-thing _ e = absurd cc

pub ordered-thing : (t : AdaType) → is_ordered t ≡ true → is_thing t ≡ false
ordered-thing types.Integer e = refl
ordered-thing types.Boolean e = refl
ordered-thing types.Duration e = refl
ordered-thing (types.Enumeration n) e = refl
ordered-thing types.Time e = refl
ordered-thing types.TimeSpan e = refl
ordered-thing types.CpuTime e = refl
ordered-thing _ e = absurd cc

scalar-thing : (t : AdaType) → is_scalar t ≡ true → is_thing t ≡ false
scalar-thing types.Integer e = refl
scalar-thing types.Boolean e = refl
scalar-thing types.Duration e = refl
scalar-thing (types.Enumeration n) e = refl
scalar-thing types.Time e = refl
scalar-thing types.TimeSpan e = refl
scalar-thing types.CpuTime e = refl
scalar-thing types.TaskId e = refl
scalar-thing _ e = absurd cc

thing-number : (t : AdaType) → is_thing t ≡ ltb 8 (type_number t)
thing-number types.Integer = refl
thing-number types.Boolean = refl
thing-number types.Duration = refl
thing-number (types.Enumeration n) = refl
thing-number (types.Array n) = refl
thing-number types.Time = refl
thing-number types.TimeSpan = refl
thing-number types.CpuTime = refl
thing-number types.TaskId = refl
thing-number types.TimingEvent = refl
thing-number types.Timer = refl
thing-number types.GroupBudget = refl
thing-number types.LimitedControlled = refl
thing-number types.Controlled = refl
thing-number (types.Derived n) = refl
thing-number (types.Task n) = refl
thing-number (types.Protected n) = refl

pub same-thing : (a b : AdaType) → same_type a b ≡ true → is_thing a ≡ is_thing b
unfolding same_type
same-thing a b e = thing-number a ∙ ap (ltb 8) (eqb-true (type_number a) (type_number b) (and_parts _ _ e).0) ∙ sym (thing-number b)

-- ---- results of operators

abbrev NoThings : AdaType → AdaType → Type 0
NoThings x y = (is_thing x ≡ false) × (is_thing y ≡ false)

if-there : (b : Bool) → is_some (boolean_if b) ≡ true → b ≡ true
if-there true e = refl
if-there false e = absurd cc

sum-things : (x y : AdaType) → is_some (sum_of x y) ≡ true → NoThings x y
unfolding sum_of
sum-things types.Integer types.Integer e = (refl, refl)
sum-things types.Duration types.Duration e = (refl, refl)
sum-things types.TimeSpan types.TimeSpan e = (refl, refl)
sum-things types.Time types.TimeSpan e = (refl, refl)
sum-things types.TimeSpan types.Time e = (refl, refl)
sum-things types.CpuTime types.TimeSpan e = (refl, refl)
sum-things types.TimeSpan types.CpuTime e = (refl, refl)
sum-things _ _ e = absurd cc

difference-things : (x y : AdaType) → is_some (difference_of x y) ≡ true → NoThings x y
unfolding difference_of
difference-things types.Integer types.Integer e = (refl, refl)
difference-things types.Duration types.Duration e = (refl, refl)
difference-things types.TimeSpan types.TimeSpan e = (refl, refl)
difference-things types.Time types.TimeSpan e = (refl, refl)
difference-things types.CpuTime types.TimeSpan e = (refl, refl)
difference-things types.Time types.Time e = (refl, refl)
difference-things types.CpuTime types.CpuTime e = (refl, refl)
difference-things _ _ e = absurd cc

product-things : (x y : AdaType) → is_some (product_of x y) ≡ true → NoThings x y
unfolding product_of
product-things types.Integer types.Integer e = (refl, refl)
product-things types.Duration types.Integer e = (refl, refl)
product-things types.Integer types.Duration e = (refl, refl)
product-things types.TimeSpan types.Integer e = (refl, refl)
product-things types.Integer types.TimeSpan e = (refl, refl)
product-things _ _ e = absurd cc

quotient-things : (x y : AdaType) → is_some (quotient_of x y) ≡ true → NoThings x y
unfolding quotient_of
quotient-things types.Integer types.Integer e = (refl, refl)
quotient-things types.Duration types.Integer e = (refl, refl)
quotient-things types.TimeSpan types.Integer e = (refl, refl)
quotient-things _ _ e = absurd cc

remainder-things : (x y : AdaType) → is_some (remainder_of x y) ≡ true → NoThings x y
unfolding remainder_of
remainder-things types.Integer types.Integer e = (refl, refl)
remainder-things _ _ e = absurd cc

logical-things : (x y : AdaType) → is_some (boolean_if (is_boolean x && is_boolean y)) ≡ true → NoThings x y
logical-things x y e = let p = and_parts _ _ (if-there _ e) in (boolean-thing x p.0, boolean-thing y p.1)

equality-things : (x y : AdaType) → is_some (boolean_if (same_type x y && is_scalar x)) ≡ true → NoThings x y
equality-things x y e = let p = and_parts _ _ (if-there _ e) in (scalar-thing x p.1, sym (same-thing x y p.0) ∙ scalar-thing x p.1)

ordering-things : (x y : AdaType) → is_some (boolean_if (same_type x y && is_ordered x)) ≡ true → NoThings x y
ordering-things x y e = let p = and_parts _ _ (if-there _ e) in (ordered-thing x p.1, sym (same-thing x y p.0) ∙ ordered-thing x p.1)

result-things : (operator : BinaryOperator) (x y : AdaType) → is_some (result_of operator x y) ≡ true → NoThings x y
unfolding result_of
result-things binary.And x y e = logical-things x y e
result-things binary.Or x y e = logical-things x y e
result-things binary.Xor x y e = logical-things x y e
result-things binary.AndThen x y e = logical-things x y e
result-things binary.OrElse x y e = logical-things x y e
result-things binary.Equal x y e = equality-things x y e
result-things binary.NotEqual x y e = equality-things x y e
result-things binary.Less x y e = ordering-things x y e
result-things binary.LessOrEqual x y e = ordering-things x y e
result-things binary.Greater x y e = ordering-things x y e
result-things binary.GreaterOrEqual x y e = ordering-things x y e
result-things binary.Plus x y e = sum-things x y e
result-things binary.Minus x y e = difference-things x y e
result-things binary.Times x y e = product-things x y e
result-things binary.Divide x y e = quotient-things x y e
result-things binary.Mod x y e = remainder-things x y e
result-things binary.Rem x y e = remainder-things x y e

one-thing : (operator : UnaryOperator) (t : AdaType) → is_some (result_of_one operator t) ≡ true → is_thing t ≡ false
unfolding result_of_one
one-thing unary.Plus types.Integer e = refl
one-thing unary.Plus types.Duration e = refl
one-thing unary.Plus _ e = absurd cc
one-thing unary.Minus types.Integer e = refl
one-thing unary.Minus types.Duration e = refl
one-thing unary.Minus types.TimeSpan e = refl
one-thing unary.Minus _ e = absurd cc
one-thing unary.Abs types.Integer e = refl
one-thing unary.Abs types.Duration e = refl
one-thing unary.Abs _ e = absurd cc
one-thing unary.Not types.Boolean e = refl
one-thing unary.Not _ e = absurd cc

-- ---- types of operands

pub values-of_type : (t : Typed) (x : AdaType) → operand_type t ≡ Some x → is_thing x ≡ false → has_values t ≡ true
values-of_type typing.WithoutType x e h = absurd cc
values-of_type (typing.OfSubtype s) x e h = ap not (ap is_thing (Some-same e) ∙ h)
values-of_type typing.OfWholeNumber x e h = refl
values-of_type typing.OfPointedNumber x e h = refl
values-of_type typing.OfText x e h = absurd cc
values-of_type typing.OfNull x e h = absurd cc
values-of_type (typing.OfHandler n) x e h = absurd cc

pub operation-values : (operator : BinaryOperator) (a b : Typed) → is_some (operation_type operator a b) ≡ true → (has_values a ≡ true) × (has_values b ≡ true)
unfolding operation_type
operation-values operator a b e = go (operand_type a) (operand_type b) refl refl e
  where
    go : (x y : Option AdaType) → operand_type a ≡ x → operand_type b ≡ y → is_some (operation_type operator a b) ≡ true
        → (has_values a ≡ true) × (has_values b ≡ true)
    go None y p q h = absurd (false≢true (sym (ap (λ z. is_some (and_then z (λ x. and_then (operand_type b) (result_of operator x)))) p) ∙ h))
    go (Some x) None p q h =
        absurd (false≢true
        (sym
        (ap (λ z. is_some (and_then z (λ x. and_then (operand_type b) (result_of operator x)))) p ∙ ap (λ z. is_some (and_then z (result_of operator x))) q)
        ∙ h))
    go (Some x) (Some y) p q h =
        let r =
        result-things operator x y
        (sym
        (ap (λ z. is_some (and_then z (λ x. and_then (operand_type b) (result_of operator x)))) p ∙ ap (λ z. is_some (and_then z (result_of operator x))) q)
        ∙ h) in
        (values-of_type a x p r.0, values-of_type b y q r.1)

pub operation-of_one : (operator : UnaryOperator) (a : Typed) → is_some (operation_type_of_one operator a) ≡ true → has_values a ≡ true
unfolding operation_type_of_one
operation-of_one operator a e = go (operand_type a) refl
  where
    go : (x : Option AdaType) → operand_type a ≡ x → has_values a ≡ true
    go None p = absurd (false≢true (sym (ap (λ z. is_some (and_then z (result_of_one operator))) p) ∙ e))
    go (Some x) p = values-of_type a x p (one-thing operator x (sym (ap (λ z. is_some (and_then z (result_of_one operator))) p) ∙ e))

-- ---- where no rule is broken

there-of : (x y : Bool) (o : Option AdaType) → x ≡ true → y ≡ true → (x && (y && is_none o)) ≡ false → is_some o ≡ true
there-of true true None p q e = absurd cc
there-of true true (Some t) p q e = refl
there-of true false o p q e = absurd (false≢true q)
there-of false y o p q e = absurd (false≢true p)

pub operation-there : (place : Place) (operator : BinaryOperator) (a b : Typed) → faults_in (operation_judged place operator a b) ≡ [] → has_type a ≡ true
    → has_type b ≡ true → is_some (operation_type operator a b) ≡ true
unfolding operation_judged
operation-there place operator a b e p q = there-of _ _ (operation_type operator a b) p q (if-none _ _ place e)

pub one-there : (place : Place) (operator : UnaryOperator) (a : Typed) → faults_in (operation_of_one_judged place operator a) ≡ [] → has_type a ≡ true
    → is_some (operation_type_of_one operator a) ≡ true
unfolding operation_of_one_judged
one-there place operator a e p = there-of true _ (operation_type_of_one operator a) refl p (if-none _ _ place e)

pub typed-there : (o : Option AdaType) → is_some o ≡ true → has_type (typed_if o) ≡ true
typed-there None e = absurd cc
typed-there (Some t) e = refl

-- ---- sums: texts are joined, and no value

texts-of : (x y t : Bool) → x ≡ true → y ≡ true → (x && (y && not t)) ≡ false → t ≡ true
texts-of true true true p q e = refl
texts-of true true false p q e = absurd cc
texts-of true false t p q e = absurd (false≢true q)
texts-of false y t p q e = absurd (false≢true p)

abbrev pub SumRead : Typed → Typed → Typed → Type 0
SumRead a b t = (has_type t ≡ true) × (has_values t ≡ true → (has_values a ≡ true) × (has_values b ≡ true))

join-read : (a b : Typed) → (is_text a && is_text b) ≡ true → SumRead a b (typed_sum adding.Concatenation a b)
unfolding typed_sum
join-read typing.OfText typing.OfText e = (refl, λ v. absurd (false≢true v))
join-read typing.OfText _ e = absurd cc
join-read _ _ e = absurd cc

pub sum-read : (place : Place) (operator : AddingOperator) (a b : Typed) → faults_in (sum_judged place operator a b) ≡ [] → has_type a ≡ true
    → has_type b ≡ true → SumRead a b (typed_sum operator a b)
unfolding sum_judged typed_sum concatenation_judged
sum-read place adding.Plus a b e p q = let h = operation-there place binary.Plus a b e p q in (typed-there _ h, λ v. operation-values binary.Plus a b h)
sum-read place adding.Minus a b e p q = let h = operation-there place binary.Minus a b e p q in (typed-there _ h, λ v. operation-values binary.Minus a b h)
sum-read place adding.Concatenation a b e p q = join-read a b (texts-of _ _ _ p q (if-none _ _ place e))
