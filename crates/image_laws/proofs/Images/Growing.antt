-- Whatever expression is made, built or not, the lists only grow.
use Rattle.std.proofs.Common.{◌≡◌, pos, Bool, true, false, cond, List, [], ◌∷◌, map, Option, Some, None, option_map, refl, sym, subst, ◌∙◌}
use Rattle.std.specs.Prelude.{unwrap_or}
use Rattle.ada_tree.specs.declared.names.Name.{Name}
use Rattle.ada_tree.specs.declared.operators.Attribute.{Attribute}
use Rattle.ada_tree.specs.declared.operators.Attribute.TheVariants as attribute
use Rattle.ada_tree.specs.declared.operators.Sign.{Sign}
use Rattle.ada_tree.specs.declared.operators.Sign.TheVariants as sign
use Rattle.ada_tree.specs.declared.expressions.Expression.{Expression}
use Rattle.ada_tree.specs.declared.expressions.Expression.TheViews.{roll-Expression}
use Rattle.ada_tree.specs.declared.expressions.Expression.TheFolds.{ind-Expression, map-Expression, fold-roll-Expression}
use Rattle.ada_tree.specs.declared.expressions.ExpressionForm.{ExpressionForm}
use Rattle.ada_tree.specs.declared.expressions.ExpressionForm.TheVariants as form
use Rattle.ada_tree.specs.declared.expressions.Operand.{Operand}
use Rattle.ada_tree.specs.declared.expressions.Addend.{Addend}
use Rattle.ada_tree.specs.declared.expressions.Multiplied.{Multiplied}
use Rattle.ada_tree.specs.declared.expressions.Argument.{Argument}
use Rattle.ada_tree.specs.declared.expressions.AttributeDesignator.{AttributeDesignator}
use Rattle.profile_image.specs.declared.numbers.DeclNo.{DeclNo}
use Rattle.profile_image.specs.declared.numbers.ExprNo.{ExprNo}
use Rattle.profile_image.specs.declared.values.Value.{Value}
use Rattle.profile_image.specs.declared.expressions.Expression.{Expression as Valuation}
use Rattle.profile_image.specs.declared.expressions.Expression.TheVariants as valuation
use Rattle.profile_image.specs.declared.expressions.UnaryOperator.{UnaryOperator}
use Rattle.profile_image.specs.declared.expressions.UnaryOperator.TheVariants as unary
use Rattle.profile_image.specs.declared.expressions.BinaryOperator.{BinaryOperator}
use Rattle.ada_regions.specs.declared.predefined.Operation.{Operation}
use Rattle.ada_regions.specs.declared.predefined.Operation.TheVariants as operations
use Rattle.ada_regions.specs.declared.predefined.Predefined.{Predefined}
use Rattle.ada_regions.specs.declared.predefined.Predefined.TheVariants as items
use Rattle.ada_regions.specs.declared.entities.Denoted.{Denoted}
use Rattle.ada_regions.specs.declared.entities.Denoted.TheVariants as denotes
use Rattle.ada_regions.specs.declared.entities.EntityKind.{EntityKind}
use Rattle.ada_regions.specs.declared.entities.EntityKind.TheVariants as entity
use Rattle.ada_regions.specs.PredefinedUnits.{names_of_formals}
use Rattle.ada_regions.specs.Names.{denoted_by, kind_at}
use Rattle.ada_image.specs.declared.making.Lists.{Lists}
use Rattle.ada_image.specs.declared.making.Within.{Within}
use Rattle.ada_image.specs.Making.{Making, ◌>>=◌, pure, value_put, first_given}
use Rattle.ada_image.specs.Layout.{is_thing, subtype_is}
use Rattle.ada_image.specs.ImageOfExpressions.{ExpressionImage, logical_operator, relational_operator, adding_operator, multiplying_operator, no_value}
use Rattle.ada_image.specs.ImageOfExpressions.{no_declaration_no, object_named, kind_named, index_made, variable_made, variable_put, object_made, entity_made}
use Rattle.ada_image.specs.ImageOfExpressions.{actuals_for, images_for, image_or_none, optional_made, span_made, same_ticks_made, of_task_made, port_made}
use Rattle.ada_image.specs.ImageOfExpressions.{of_thing_made, function_made, item_made, index_in, denoted_made, named_made, unary_made, signed_made, count_of}
use Rattle.ada_image.specs.ImageOfExpressions.{count_made, attribute_made, binary_put, operands_made, addends_made, factors_made, logical_made, relational_made}
use Rattle.ada_image.specs.ImageOfExpressions.{adding_made, multiplying_made, form_image, same_image, image_layer, expression_image, expression_made}
use Rattle.image_laws.proofs.Images.Steps.{Grown, grown-same, grown-then, value-step}
use Rattle.image_laws.proofs.Images.Expressions.{operand_of, addend_of, multiplied_of, argument_of, mapped_form, actuals-mapped, mapped-twice}

-- and the first actions of scopes and the actions stay
abbrev pub Grows : {X : Type 0} → Making X → Type 0
Grows m = (l : Lists) → Grown l (m l).0 × ((m l).0.firsts ≡ l.firsts) × ((m l).0.statements ≡ l.statements)

pub grows-pure : {X : Type 0} (x : X) → Grows (pure x)
grows-pure x l = (grown-same l, refl, refl)

pub grows-then : {X Y : Type 0} (m : Making X) (f : X → Making Y) → Grows m → ((x : X) → Grows (f x)) → Grows (m >>= f)
grows-then m f g h l = (
  grown-then l (m l).0 (f (m l).1 (m l).0).0 (g l).0 (h (m l).1 (m l).0).0,
  (h (m l).1 (m l).0).1 ∙ (g l).1,
  (h (m l).1 (m l).0).2 ∙ (g l).2,
)

value-grows : (v : Valuation) → Grows (value_put v)
unfolding value_put
value-grows v l = ((value-step v).grows l, refl, refl)

-- ---- parts that hold no expression

count-grows : (k : Option EntityKind) → Grows (count_made k)
unfolding count_made count_of
count-grows None = value-grows _
count-grows (Some entity.Package) = value-grows _
count-grows (Some entity.Main) = value-grows _
count-grows (Some (entity.Mark s)) = value-grows _
count-grows (Some (entity.Literal enumeration position)) = value-grows _
count-grows (Some (entity.Object s constant x declaration)) = value-grows _
count-grows (Some (entity.Parameter s mode declaration)) = value-grows _
count-grows (Some (entity.LoopParameter declaration)) = value-grows _
count-grows (Some (entity.Component s owner declaration)) = value-grows _
count-grows (Some (entity.Exception declaration)) = value-grows _
count-grows (Some (entity.Subprogram number is_function specified formals unit)) = value-grows _
count-grows (Some (entity.Entry number unit formals)) = value-grows _
count-grows (Some entity.Label) = value-grows _

attribute-grows : (within : Within) (name : Name) (a : Attribute) → Grows (attribute_made within name a)
unfolding attribute_made
attribute-grows within name attribute.First = value-grows _
attribute-grows within name attribute.Last = value-grows _
attribute-grows within name attribute.Image = value-grows _
attribute-grows within name attribute.Count = count-grows (kind_named within name)
attribute-grows within name attribute.Identity = value-grows _
attribute-grows within name attribute.Access = value-grows _

unary-grows : (operator : UnaryOperator) (m : Making ExprNo) → Grows m → Grows (unary_made operator m)
unfolding unary_made
unary-grows operator m g = grows-then m (λ e. value_put (valuation.Unary operator e)) g (λ e. value-grows _)

binary-grows : (operator : BinaryOperator) (left : ExprNo) (m : Making ExprNo) → Grows m → Grows (binary_put operator left m)
unfolding binary_put
binary-grows operator left m g = grows-then m (λ e. value_put (valuation.Binary operator left e)) g (λ e. value-grows _)

signed-grows : (s : Sign) (literal : Option Value) (m : Making ExprNo) → Grows m → Grows (signed_made s literal m)
unfolding signed_made
signed-grows sign.Plus literal m g = unary-grows unary.Plus m g
signed-grows sign.Minus None m g = unary-grows unary.Minus m g
signed-grows sign.Minus (Some v) m g = value-grows _

-- ---- one layer

module _ {E : Type 0} (image : E → ExpressionImage) (grows : (e : E) (within : Within) → Grows ((image e).made within)) where
  operands-grow : (operator : BinaryOperator) (os : List (Operand E)) (within : Within) (n : ExprNo)
      → Grows (operands_made same_image operator n (map (operand_of image) os) within)
  unfolding operands_made
  operands-grow operator [] within n = grows-pure n
  operands-grow operator (o ∷ os) within n =
      grows-then (binary_put operator n ((image o.relation).made within)) (λ x. operands_made same_image operator x (map (operand_of image) os) within)
      (binary-grows operator n _ (grows o.relation within)) (λ x. operands-grow operator os within x)

  addends-grow : (xs : List (Addend E)) (within : Within) (n : ExprNo) → Grows (addends_made same_image n (map (addend_of image) xs) within)
  unfolding addends_made
  addends-grow [] within n = grows-pure n
  addends-grow (a ∷ rest) within n =
      grows-then (binary_put (adding_operator a.operator) n ((image a.term).made within)) (λ x. addends_made same_image x (map (addend_of image) rest) within)
      (binary-grows _ n _ (grows a.term within)) (λ x. addends-grow rest within x)

  factors-grow : (xs : List (Multiplied E)) (within : Within) (n : ExprNo) → Grows (factors_made same_image n (map (multiplied_of image) xs) within)
  unfolding factors_made
  factors-grow [] within n = grows-pure n
  factors-grow (a ∷ rest) within n =
      grows-then (binary_put (multiplying_operator a.operator) n ((image a.factor).made within))
      (λ x. factors_made same_image x (map (multiplied_of image) rest) within) (binary-grows _ n _ (grows a.factor within))
      (λ x. factors-grow rest within x)

  variable-grows : (xs : List (Argument E)) (within : Within) (name : Name)
      → Grows (variable_put within name (index_in same_image (map (argument_of image) xs) within))
  unfolding variable_put variable_made index_made
  variable-grows [] within name = value-grows (valuation.Variable (record { object = object_named within name; index = None }))
  variable-grows (a ∷ rest) within name =
      grows-then ((image a.value).made within) (λ i. value_put (valuation.Variable (record { object = object_named within name; index = Some i })))
      (grows a.value within) (λ i. value-grows _)

  object-grows : (thing : Bool) (d : DeclNo) (xs : List (Argument E)) (within : Within) (name : Name)
      → Grows (cond thing (value_put (valuation.Thing d)) (variable_put within name (index_in same_image (map (argument_of image) xs) within)))
  object-grows true d xs within name = value-grows _
  object-grows false d xs within name = variable-grows xs within name

  entity-grows : (k : Option EntityKind) (xs : List (Argument E)) (within : Within) (name : Name)
      → Grows (unwrap_or (option_map (entity_made within name (index_in same_image (map (argument_of image) xs) within)) k) no_value)
  unfolding entity_made object_made
  entity-grows None xs within name = value-grows _
  entity-grows (Some entity.Package) xs within name = value-grows _
  entity-grows (Some entity.Main) xs within name = value-grows _
  entity-grows (Some (entity.Mark s)) xs within name = value-grows _
  entity-grows (Some (entity.Literal enumeration position)) xs within name = value-grows _
  entity-grows (Some (entity.Object s constant x declaration)) xs within name = object-grows (subtype_is is_thing s) declaration xs within name
  entity-grows (Some (entity.Parameter s mode declaration)) xs within name =
      object-grows (subtype_is is_thing s) (unwrap_or declaration no_declaration_no) xs within name
  entity-grows (Some (entity.LoopParameter declaration)) xs within name = variable-grows xs within name
  entity-grows (Some (entity.Component s owner declaration)) xs within name = variable-grows xs within name
  entity-grows (Some (entity.Exception declaration)) xs within name = value-grows _
  entity-grows (Some (entity.Subprogram number is_function specified formals unit)) xs within name = value-grows _
  entity-grows (Some (entity.Entry number unit formals)) xs within name = value-grows _
  entity-grows (Some entity.Label) xs within name = value-grows _

  -- ---- predefined functions

  abbrev images : List (Option E) → List (Option ExpressionImage)
  images es = images_for same_image (map (option_map image) es)

  actual-grows : (f : ExprNo → Valuation) (es : List (Option E)) (within : Within)
      → Grows (image_or_none (first_given (images es)) within >>= (λ x. value_put (f x)))
  unfolding image_or_none
  actual-grows f [] within = grows-then no_value (λ x. value_put (f x)) (value-grows _) (λ x. value-grows _)
  actual-grows f (None ∷ es) within = grows-then no_value (λ x. value_put (f x)) (value-grows _) (λ x. value-grows _)
  actual-grows f (Some e ∷ es) within = grows-then ((image e).made within) (λ x. value_put (f x)) (grows e within) (λ x. value-grows _)

  optional-grows : (f : Option ExprNo → Valuation) (es : List (Option E)) (within : Within) → Grows (of_task_made f (first_given (images es)) within)
  unfolding of_task_made optional_made
  optional-grows f [] within = value-grows (f None)
  optional-grows f (None ∷ es) within = value-grows (f None)
  optional-grows f (Some e ∷ es) within = grows-then ((image e).made within) (λ x. value_put (f (Some x))) (grows e within) (λ x. value-grows _)

  function-grows : (o : Operation) (es : List (Option E)) (within : Within) → Grows (function_made o (images es) within)
  unfolding function_made span_made same_ticks_made port_made of_thing_made
  function-grows operations.PutLine es within = value-grows _
  function-grows operations.Clock es within = value-grows _
  function-grows operations.Microseconds es within = actual-grows (valuation.Span (pos 1)) es within
  function-grows operations.Milliseconds es within = actual-grows (valuation.Span (pos 1000)) es within
  function-grows operations.Seconds es within = actual-grows (valuation.Span (pos 1000000)) es within
  function-grows operations.Minutes es within = actual-grows (valuation.Span (pos 60000000)) es within
  function-grows operations.ToDuration es within = actual-grows valuation.SameTicks es within
  function-grows operations.ToTimeSpan es within = actual-grows valuation.SameTicks es within
  function-grows operations.SetEvent es within = value-grows _
  function-grows operations.CancelEvent es within = value-grows _
  function-grows operations.TimeOfEvent es within = value-grows _
  function-grows operations.ExecutionClock es within = optional-grows valuation.ExecutionTime es within
  function-grows operations.SetTimer es within = value-grows _
  function-grows operations.CancelTimer es within = value-grows _
  function-grows operations.TimeRemaining es within = value-grows _
  function-grows operations.AddTask es within = value-grows _
  function-grows operations.RemoveTask es within = value-grows _
  function-grows operations.Replenish es within = value-grows _
  function-grows operations.Add es within = value-grows _
  function-grows operations.BudgetHasExpired es within = value-grows _
  function-grows operations.BudgetRemaining es within = value-grows _
  function-grows operations.SetBudget es within = value-grows _
  function-grows operations.CancelBudget es within = value-grows _
  function-grows operations.SetPriority es within = value-grows _
  function-grows operations.GetPriority es within = optional-grows valuation.Priority es within
  function-grows operations.CurrentTask es within = value-grows _
  function-grows operations.SetQuantum es within = value-grows _
  function-grows operations.SetDeadline es within = value-grows _
  function-grows operations.GetDeadline es within = optional-grows valuation.Deadline es within
  function-grows operations.DelayUntilAndSetDeadline es within = value-grows _
  function-grows operations.PortValue es within = actual-grows valuation.PortValue es within

  item-grows : (item : Predefined) (xs : List (Argument E)) (within : Within) → Grows (item_made same_image item (map (argument_of image) xs) within)
  unfolding item_made
  item-grows (items.Mark s) xs within = value-grows _
  item-grows (items.Constant of_type v) xs within = value-grows _
  item-grows (items.Truth t) xs within = value-grows _
  item-grows (items.Exception raised) xs within = value-grows _
  item-grows (items.Operation o) xs within =
      subst (λ is. Grows (function_made o (images_for same_image is) within)) (sym (actuals-mapped image (names_of_formals o) xs))
      (function-grows o (actuals_for (names_of_formals o) xs) within)

  denoted-grows : (d : Option Denoted) (xs : List (Argument E)) (within : Within) (name : Name)
      → Grows (denoted_made same_image name (map (argument_of image) xs) within d)
  unfolding denoted_made
  denoted-grows None xs within name = value-grows _
  denoted-grows (Some (denotes.Entity e)) xs within name = entity-grows (kind_at within.names e) xs within name
  denoted-grows (Some (denotes.Unit u)) xs within name = value-grows _
  denoted-grows (Some (denotes.Item u item)) xs within name = item-grows item xs within

  named-grows : (a : Option AttributeDesignator) (xs : List (Argument E)) (within : Within) (name : Name)
      → Grows (named_made same_image name a (map (argument_of image) xs) within)
  unfolding named_made
  named-grows None xs within name = denoted-grows (denoted_by within.names name) xs within name
  named-grows (Some a) xs within name = attribute-grows within name a.attribute

  form-grows : (x : ExpressionForm E) (within : Within) → Grows ((form_image same_image (mapped_form image x)).made within)
  unfolding logical_made relational_made adding_made multiplying_made
  form-grows (form.Logical operator first others) within =
      grows-then ((image first).made within)
      (λ n. operands_made same_image (logical_operator operator) n (map (operand_of image) (others.first ∷ others.others)) within) (grows first within)
      (λ n. operands-grow (logical_operator operator) (others.first ∷ others.others) within n)
  form-grows (form.Relational left place operator right) within =
      grows-then ((image left).made within) (λ n. binary_put (relational_operator operator) n ((image right).made within)) (grows left within)
      (λ n. binary-grows _ n _ (grows right within))
  form-grows (form.Adding first others) within =
      grows-then ((image first).made within) (λ n. addends_made same_image n (map (addend_of image) (others.first ∷ others.others)) within) (grows first within)
      (λ n. addends-grow (others.first ∷ others.others) within n)
  form-grows (form.Signed place s operand) within = signed-grows s (image operand).literal _ (grows operand within)
  form-grows (form.Multiplying first others) within =
      grows-then ((image first).made within) (λ n. factors_made same_image n (map (multiplied_of image) (others.first ∷ others.others)) within)
      (grows first within) (λ n. factors-grow (others.first ∷ others.others) within n)
  form-grows (form.Highest place operator operand) within = unary-grows _ _ (grows operand within)
  form-grows (form.Number place literal) within = value-grows _
  form-grows (form.Text place text) within = value-grows _
  form-grows (form.Null place) within = value-grows _
  form-grows (form.Bracketed place inner) within = grows inner within
  form-grows (form.Named name a arguments) within = named-grows a arguments within name

-- ---- expressions

abbrev Growing : Expression → Type 0
Growing e = (within : Within) → Grows ((expression_image e).made within)

grows-expression : (e : Expression) → Growing e
grows-expression = ind-Expression Growing (λ x y is.
    subst (λ z. Growing (roll-Expression z)) is
    (subst (λ (image : ExpressionImage). (within : Within) → Grows (image.made within))
    (sym (fold-roll-Expression ExpressionImage image_layer (map-Expression ((e : Expression) × Growing e) Expression (λ e. e.0) y)))
    (subst (λ z. (within : Within) → Grows ((form_image same_image z).made within))
    (sym (mapped-twice expression_image (λ (e : (e : Expression) × Growing e). e.0) y.form))
    (form-grows (λ (e : (e : Expression) × Growing e). expression_image e.0) (λ e. e.1) y.form))))

pub expression-grows : (e : Expression) (within : Within) → Grows (expression_made e within)
unfolding expression_made
expression-grows e within = grows-expression e within
