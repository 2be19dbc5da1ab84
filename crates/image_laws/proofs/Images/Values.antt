-- What an expression is made to stands there, and is that of the text: operators, variables, attributes and predefined functions.
use Rattle.std.proofs.Common.{◌≡◌, ℕ, pos, Bool, true, eqb, Option, Some, None, refl, ap, ◌∙◌}
use Rattle.std.specs.Prelude.{unwrap_or}
use Rattle.std.proofs.lemmas.Bool.{and_from, false≢true, eq-eqb}
use Rattle.ada_tree.specs.declared.names.Name.{Name}
use Rattle.ada_tree.specs.declared.operators.Attribute.{Attribute}
use Rattle.ada_tree.specs.declared.operators.Attribute.TheVariants as attribute
use Rattle.profile_image.specs.declared.image.Image.{Image}
use Rattle.profile_image.specs.declared.numbers.DeclNo.{DeclNo}
use Rattle.profile_image.specs.declared.numbers.ExprNo.{ExprNo}
use Rattle.profile_image.specs.declared.values.Value.{Value}
use Rattle.profile_image.specs.declared.values.Value.TheVariants as value
use Rattle.profile_image.specs.declared.expressions.Expression.TheVariants as valuation
use Rattle.profile_image.specs.declared.expressions.ObjectName.{ObjectName}
use Rattle.profile_image.specs.declared.expressions.ObjectName.TheVariants as object
use Rattle.profile_image.specs.declared.expressions.UnaryOperator.{UnaryOperator}
use Rattle.profile_image.specs.declared.expressions.BinaryOperator.{BinaryOperator}
use Rattle.ada_regions.specs.declared.entities.EntityKind.{EntityKind}
use Rattle.ada_regions.specs.declared.entities.EntityKind.TheVariants as entity
use Rattle.ada_regions.specs.Statics.{attribute_value}
use Rattle.ada_image.specs.declared.making.Within.{Within}
use Rattle.ada_image.specs.Making.{Making, value_put}
use Rattle.ada_image.specs.ImageOfExpressions.{known, unary_made, binary_put, count_of, count_made, attribute_made, thing_named, kind_named}
use Rattle.ada_image.specs.ReadExpressions.{same_object, is_value, is_known, is_known_if, is_unary, is_binary, is_thing_at}
use Rattle.ada_image.specs.ReadExpressions.{is_count_of, attribute_stands, at_number, unary_number, binary_number}
use Rattle.ada_image.specs.BuiltExpressions.{is_given_if, is_entry, attribute_built}
use Rattle.image_laws.proofs.Images.Steps.{Step, step-so, step-then, value-step}

-- ---- the same thing

pub same-number : (n : ℕ) → eqb n n ≡ true
same-number n = eq-eqb n n refl

pub same-object : (o : ObjectName) → same_object o o ≡ true
same-object (object.Declared d) = same-number d.0
same-object (object.OwnComponent u d) = and_from _ _ (same-number u.0) (same-number d.0)
same-object (object.Component o d) = and_from _ _ (same-number o.0) (same-number d.0)

-- ---- values and operators

pub known-step : (v : Value) → is_value v v ≡ true → Step (known v) (λ p e. is_known p v (at_number p e) ≡ true)
known-step v g = step-so (λ p e h. ap (is_known p v) h ∙ g) (value-step (valuation.Known v))

pub unary-step : (operator : UnaryOperator) (m : Making ExprNo) (t : Image → ExprNo → Bool) → Step m (λ p e. t p e ≡ true)
    → Step (unary_made operator m) (λ p e. is_unary p operator (t p) (at_number p e) ≡ true)
unfolding unary_made
unary-step operator m t s =
    step-then m (λ x. value_put (valuation.Unary operator x)) s
    (λ x.
    step-so (λ p e h k. ap (is_unary p operator (t p)) h ∙ and_from _ _ (same-number (unary_number operator)) k) (value-step (valuation.Unary operator x)))

pub binary-step : (operator : BinaryOperator) (left : ExprNo) (m : Making ExprNo) (l t : Image → ExprNo → Bool) → Step m (λ p e. t p e ≡ true)
    → Step (binary_put operator left m) (λ p e. l p left ≡ true → is_binary p operator (l p) (t p) (at_number p e) ≡ true)
unfolding binary_put
binary-step operator left m l t s =
    step-then m (λ x. value_put (valuation.Binary operator left x)) s
    (λ x. step-so (λ p e h k b. ap (is_binary p operator (l p) (t p)) h ∙ and_from _ _ (same-number (binary_number operator)) (and_from _ _ b k))
    (value-step (valuation.Binary operator left x)))

pub thing-step : (d : DeclNo) → Step (value_put (valuation.Thing d)) (λ p e. is_thing_at p d (at_number p e) ≡ true)
thing-step d = step-so (λ p e h. ap (is_thing_at p d) h ∙ same-number d.0) (value-step (valuation.Thing d))

-- ---- attributes

value-if : (v : Option Value) → is_given_if v ≡ true → Step (known (unwrap_or v (value.Whole (pos 0)))) (λ p e. is_known_if p v (at_number p e) ≡ true)
value-if None g = absurd (false≢true g)
value-if (Some v) g = known-step v g

count-step : (k : Option EntityKind) → is_entry k ≡ true → Step (count_made k) (λ p e. is_count_of p k (at_number p e) ≡ true)
unfolding count_made count_of
count-step None g = absurd (false≢true g)
count-step (Some entity.Package) g = absurd (false≢true g)
count-step (Some entity.Main) g = absurd (false≢true g)
count-step (Some (entity.Mark s)) g = absurd (false≢true g)
count-step (Some (entity.Literal enumeration position)) g = absurd (false≢true g)
count-step (Some (entity.Object s constant x declaration)) g = absurd (false≢true g)
count-step (Some (entity.Parameter s mode declaration)) g = absurd (false≢true g)
count-step (Some (entity.LoopParameter declaration)) g = absurd (false≢true g)
count-step (Some (entity.Component s owner declaration)) g = absurd (false≢true g)
count-step (Some (entity.Exception declaration)) g = absurd (false≢true g)
count-step (Some (entity.Subprogram number is_function specified formals unit)) g = absurd (false≢true g)
count-step (Some (entity.Entry number unit formals)) g =
    step-so (λ p e h. ap (is_count_of p (Some (entity.Entry number unit formals))) h ∙ same-number number.0) (value-step (valuation.Count number))
count-step (Some entity.Label) g = absurd (false≢true g)

pub attribute-step : (within : Within) (name : Name) (a : Attribute) → attribute_built within.names name a ≡ true
    → Step (attribute_made within name a) (λ p e. attribute_stands p within name a (at_number p e) ≡ true)
unfolding attribute_made kind_named
attribute-step within name attribute.First g = value-if (attribute_value within.names name attribute.First) g
attribute-step within name attribute.Last g = value-if (attribute_value within.names name attribute.Last) g
attribute-step within name attribute.Image g = absurd (false≢true g)
attribute-step within name attribute.Count g = count-step (kind_named within name) g
attribute-step within name attribute.Identity g = thing-step (thing_named within name)
attribute-step within name attribute.Access g = absurd (false≢true g)
