-- Whatever expression is made, its operands are made before it.
use Rattle.std.proofs.Common.{◌≡◌, pos, Bool, true, false, cond, List, [], ◌∷◌, map, Option, Some, None, option_map, refl, sym, subst}
use Rattle.std.specs.Prelude.{unwrap_or, option_to_list}
use Rattle.ada_tree.specs.declared.names.Name.{Name}
use Rattle.ada_tree.specs.declared.operators.Attribute.{Attribute}
use Rattle.ada_tree.specs.declared.operators.Attribute.TheVariants as attribute
use Rattle.ada_tree.specs.declared.operators.Sign.{Sign}
use Rattle.ada_tree.specs.declared.operators.Sign.TheVariants as sign
use Rattle.ada_tree.specs.declared.expressions.Expression.{Expression}
use Rattle.ada_tree.specs.declared.expressions.Expression.TheViews.{roll-Expression}
use Rattle.ada_tree.specs.declared.expressions.Expression.TheFolds.{ind-Expression, map-Expression, fold-roll-Expression}
use Rattle.ada_tree.specs.declared.expressions.ExpressionForm.{ExpressionForm}
use Rattle.ada_tree.specs.declared.expressions.ExpressionForm.TheVariants as form
use Rattle.ada_tree.specs.declared.expressions.Operand.{Operand}
use Rattle.ada_tree.specs.declared.expressions.Addend.{Addend}
use Rattle.ada_tree.specs.declared.expressions.Multiplied.{Multiplied}
use Rattle.ada_tree.specs.declared.expressions.Argument.{Argument}
use Rattle.ada_tree.specs.declared.expressions.AttributeDesignator.{AttributeDesignator}
use Rattle.profile_image.specs.declared.numbers.DeclNo.{DeclNo}
use Rattle.profile_image.specs.declared.numbers.ExprNo.{ExprNo}
use Rattle.profile_image.specs.declared.values.Value.{Value}
use Rattle.profile_image.specs.declared.expressions.Expression.{Expression as Valuation}
use Rattle.profile_image.specs.declared.expressions.Expression.TheVariants as valuation
use Rattle.profile_image.specs.declared.expressions.UnaryOperator.{UnaryOperator}
use Rattle.profile_image.specs.declared.expressions.UnaryOperator.TheVariants as unary
use Rattle.profile_image.specs.declared.expressions.BinaryOperator.{BinaryOperator}
use Rattle.ada_regions.specs.declared.predefined.Operation.{Operation}
use Rattle.ada_regions.specs.declared.predefined.Operation.TheVariants as operations
use Rattle.ada_regions.specs.declared.predefined.Predefined.{Predefined}
use Rattle.ada_regions.specs.declared.predefined.Predefined.TheVariants as items
use Rattle.ada_regions.specs.declared.entities.Denoted.{Denoted}
use Rattle.ada_regions.specs.declared.entities.Denoted.TheVariants as denotes
use Rattle.ada_regions.specs.declared.entities.EntityKind.{EntityKind}
use Rattle.ada_regions.specs.declared.entities.EntityKind.TheVariants as entity
use Rattle.ada_regions.specs.PredefinedUnits.{names_of_formals}
use Rattle.ada_regions.specs.Names.{denoted_by, kind_at}
use Rattle.ada_image.specs.declared.making.Within.{Within}
use Rattle.ada_image.specs.Making.{Making, ◌>>=◌, value_put, first_given}
use Rattle.ada_image.specs.Layout.{is_thing, subtype_is}
use Rattle.ada_image.specs.ImageOfExpressions.{ExpressionImage, logical_operator, relational_operator, adding_operator, multiplying_operator, no_value}
use Rattle.ada_image.specs.ImageOfExpressions.{no_declaration_no, object_named, kind_named, index_made, variable_made, variable_put, object_made, entity_made}
use Rattle.ada_image.specs.ImageOfExpressions.{actuals_for, images_for, image_or_none, optional_made, span_made, same_ticks_made, of_task_made, port_made}
use Rattle.ada_image.specs.ImageOfExpressions.{of_thing_made, function_made, item_made, index_in, denoted_made, named_made, unary_made, signed_made, count_of}
use Rattle.ada_image.specs.ImageOfExpressions.{count_made, attribute_made, binary_put, operands_made, addends_made, factors_made, logical_made, relational_made}
use Rattle.ada_image.specs.ImageOfExpressions.{adding_made, multiplying_made, form_image, same_image, image_layer, expression_image, expression_made}
use Rattle.image_laws.proofs.Images.Expressions.{operand_of, addend_of, multiplied_of, argument_of, mapped_form, actuals-mapped, mapped-twice}
use Rattle.world_laws.specs.ValueLaws.{operands}
use Rattle.operand_laws.proofs.Rising.{Makes, MakesBehind, makes-then, behind-then, behind-pure, no-operand-makes, operand-makes, two-operands-make}

-- ---- parts that hold no expression

count-makes : (k : Option EntityKind) → Makes (count_made k)
unfolding count_made count_of
count-makes None = no-operand-makes _ refl
count-makes (Some entity.Package) = no-operand-makes _ refl
count-makes (Some entity.Main) = no-operand-makes _ refl
count-makes (Some (entity.Mark s)) = no-operand-makes _ refl
count-makes (Some (entity.Literal enumeration position)) = no-operand-makes _ refl
count-makes (Some (entity.Object s constant x declaration)) = no-operand-makes _ refl
count-makes (Some (entity.Parameter s mode declaration)) = no-operand-makes _ refl
count-makes (Some (entity.LoopParameter declaration)) = no-operand-makes _ refl
count-makes (Some (entity.Component s owner declaration)) = no-operand-makes _ refl
count-makes (Some (entity.Exception declaration)) = no-operand-makes _ refl
count-makes (Some (entity.Subprogram number is_function specified formals unit)) = no-operand-makes _ refl
count-makes (Some (entity.Entry number unit formals)) = no-operand-makes _ refl
count-makes (Some entity.Label) = no-operand-makes _ refl

attribute-makes : (within : Within) (name : Name) (a : Attribute) → Makes (attribute_made within name a)
unfolding attribute_made
attribute-makes within name attribute.First = no-operand-makes _ refl
attribute-makes within name attribute.Last = no-operand-makes _ refl
attribute-makes within name attribute.Image = no-operand-makes _ refl
attribute-makes within name attribute.Count = count-makes (kind_named within name)
attribute-makes within name attribute.Identity = no-operand-makes _ refl
attribute-makes within name attribute.Access = no-operand-makes _ refl

unary-makes : (operator : UnaryOperator) (m : Making ExprNo) → Makes m → Makes (unary_made operator m)
unfolding unary_made
unary-makes operator m g = makes-then m (λ e. value_put (valuation.Unary operator e)) g (λ e. operand-makes e _ refl)

binary-makes : (operator : BinaryOperator) (left : ExprNo) (m : Making ExprNo) → Makes m → MakesBehind left (binary_put operator left m)
unfolding binary_put
binary-makes operator left m g = two-operands-make left m (λ e. valuation.Binary operator left e) (λ e. refl) g

signed-makes : (s : Sign) (literal : Option Value) (m : Making ExprNo) → Makes m → Makes (signed_made s literal m)
unfolding signed_made
signed-makes sign.Plus literal m g = unary-makes unary.Plus m g
signed-makes sign.Minus None m g = unary-makes unary.Minus m g
signed-makes sign.Minus (Some v) m g = no-operand-makes _ refl

-- ---- one layer

module _ {E : Type 0} (image : E → ExpressionImage) (makes : (e : E) (within : Within) → Makes ((image e).made within)) where
  operands-make : (operator : BinaryOperator) (os : List (Operand E)) (within : Within) (n : ExprNo)
      → MakesBehind n (operands_made same_image operator n (map (operand_of image) os) within)
  unfolding operands_made
  operands-make operator [] within n = behind-pure n
  operands-make operator (o ∷ os) within n =
      behind-then n (binary_put operator n ((image o.relation).made within)) (λ x. operands_made same_image operator x (map (operand_of image) os) within)
      (binary-makes operator n _ (makes o.relation within)) (λ x. operands-make operator os within x)

  addends-make : (xs : List (Addend E)) (within : Within) (n : ExprNo) → MakesBehind n (addends_made same_image n (map (addend_of image) xs) within)
  unfolding addends_made
  addends-make [] within n = behind-pure n
  addends-make (a ∷ rest) within n =
      behind-then n (binary_put (adding_operator a.operator) n ((image a.term).made within))
      (λ x. addends_made same_image x (map (addend_of image) rest) within) (binary-makes _ n _ (makes a.term within)) (λ x. addends-make rest within x)

  factors-make : (xs : List (Multiplied E)) (within : Within) (n : ExprNo) → MakesBehind n (factors_made same_image n (map (multiplied_of image) xs) within)
  unfolding factors_made
  factors-make [] within n = behind-pure n
  factors-make (a ∷ rest) within n =
      behind-then n (binary_put (multiplying_operator a.operator) n ((image a.factor).made within))
      (λ x. factors_made same_image x (map (multiplied_of image) rest) within) (binary-makes _ n _ (makes a.factor within))
      (λ x. factors-make rest within x)

  variable-makes : (xs : List (Argument E)) (within : Within) (name : Name)
      → Makes (variable_put within name (index_in same_image (map (argument_of image) xs) within))
  unfolding variable_put variable_made index_made
  variable-makes [] within name = no-operand-makes (valuation.Variable (record { object = object_named within name; index = None })) refl
  variable-makes (a ∷ rest) within name =
      makes-then ((image a.value).made within) (λ i. value_put (valuation.Variable (record { object = object_named within name; index = Some i })))
      (makes a.value within) (λ i. operand-makes i _ refl)

  object-makes : (thing : Bool) (d : DeclNo) (xs : List (Argument E)) (within : Within) (name : Name)
      → Makes (cond thing (value_put (valuation.Thing d)) (variable_put within name (index_in same_image (map (argument_of image) xs) within)))
  object-makes true d xs within name = no-operand-makes _ refl
  object-makes false d xs within name = variable-makes xs within name

  entity-makes : (k : Option EntityKind) (xs : List (Argument E)) (within : Within) (name : Name)
      → Makes (unwrap_or (option_map (entity_made within name (index_in same_image (map (argument_of image) xs) within)) k) no_value)
  unfolding entity_made object_made
  entity-makes None xs within name = no-operand-makes _ refl
  entity-makes (Some entity.Package) xs within name = no-operand-makes _ refl
  entity-makes (Some entity.Main) xs within name = no-operand-makes _ refl
  entity-makes (Some (entity.Mark s)) xs within name = no-operand-makes _ refl
  entity-makes (Some (entity.Literal enumeration position)) xs within name = no-operand-makes _ refl
  entity-makes (Some (entity.Object s constant x declaration)) xs within name = object-makes (subtype_is is_thing s) declaration xs within name
  entity-makes (Some (entity.Parameter s mode declaration)) xs within name =
      object-makes (subtype_is is_thing s) (unwrap_or declaration no_declaration_no) xs within name
  entity-makes (Some (entity.LoopParameter declaration)) xs within name = variable-makes xs within name
  entity-makes (Some (entity.Component s owner declaration)) xs within name = variable-makes xs within name
  entity-makes (Some (entity.Exception declaration)) xs within name = no-operand-makes _ refl
  entity-makes (Some (entity.Subprogram number is_function specified formals unit)) xs within name = no-operand-makes _ refl
  entity-makes (Some (entity.Entry number unit formals)) xs within name = no-operand-makes _ refl
  entity-makes (Some entity.Label) xs within name = no-operand-makes _ refl

  -- ---- predefined functions

  abbrev images : List (Option E) → List (Option ExpressionImage)
  images es = images_for same_image (map (option_map image) es)

  actual-makes : (f : ExprNo → Valuation) → ((x : ExprNo) → operands (f x) ≡ x ∷ []) → (es : List (Option E)) (within : Within)
      → Makes (image_or_none (first_given (images es)) within >>= (λ x. value_put (f x)))
  unfolding image_or_none
  actual-makes f is [] within = makes-then no_value (λ x. value_put (f x)) (no-operand-makes _ refl) (λ x. operand-makes x _ (is x))
  actual-makes f is (None ∷ es) within = makes-then no_value (λ x. value_put (f x)) (no-operand-makes _ refl) (λ x. operand-makes x _ (is x))
  actual-makes f is (Some e ∷ es) within = makes-then ((image e).made within) (λ x. value_put (f x)) (makes e within) (λ x. operand-makes x _ (is x))

  optional-makes : (f : Option ExprNo → Valuation) → ((x : Option ExprNo) → operands (f x) ≡ option_to_list x) → (es : List (Option E)) (within : Within)
      → Makes (of_task_made f (first_given (images es)) within)
  unfolding of_task_made optional_made
  optional-makes f is [] within = no-operand-makes (f None) (is None)
  optional-makes f is (None ∷ es) within = no-operand-makes (f None) (is None)
  optional-makes f is (Some e ∷ es) within =
      makes-then ((image e).made within) (λ x. value_put (f (Some x))) (makes e within) (λ x. operand-makes x _ (is (Some x)))

  function-makes : (o : Operation) (es : List (Option E)) (within : Within) → Makes (function_made o (images es) within)
  unfolding function_made span_made same_ticks_made port_made of_thing_made
  function-makes operations.PutLine es within = no-operand-makes _ refl
  function-makes operations.Clock es within = no-operand-makes _ refl
  function-makes operations.Microseconds es within = actual-makes (valuation.Span (pos 1)) (λ x. refl) es within
  function-makes operations.Milliseconds es within = actual-makes (valuation.Span (pos 1000)) (λ x. refl) es within
  function-makes operations.Seconds es within = actual-makes (valuation.Span (pos 1000000)) (λ x. refl) es within
  function-makes operations.Minutes es within = actual-makes (valuation.Span (pos 60000000)) (λ x. refl) es within
  function-makes operations.ToDuration es within = actual-makes valuation.SameTicks (λ x. refl) es within
  function-makes operations.ToTimeSpan es within = actual-makes valuation.SameTicks (λ x. refl) es within
  function-makes operations.SetEvent es within = no-operand-makes _ refl
  function-makes operations.CancelEvent es within = no-operand-makes _ refl
  function-makes operations.TimeOfEvent es within = no-operand-makes _ refl
  function-makes operations.ExecutionClock es within = optional-makes valuation.ExecutionTime (λ x. refl) es within
  function-makes operations.SetTimer es within = no-operand-makes _ refl
  function-makes operations.CancelTimer es within = no-operand-makes _ refl
  function-makes operations.TimeRemaining es within = no-operand-makes _ refl
  function-makes operations.AddTask es within = no-operand-makes _ refl
  function-makes operations.RemoveTask es within = no-operand-makes _ refl
  function-makes operations.Replenish es within = no-operand-makes _ refl
  function-makes operations.Add es within = no-operand-makes _ refl
  function-makes operations.BudgetHasExpired es within = no-operand-makes _ refl
  function-makes operations.BudgetRemaining es within = no-operand-makes _ refl
  function-makes operations.SetBudget es within = no-operand-makes _ refl
  function-makes operations.CancelBudget es within = no-operand-makes _ refl
  function-makes operations.SetPriority es within = no-operand-makes _ refl
  function-makes operations.GetPriority es within = optional-makes valuation.Priority (λ x. refl) es within
  function-makes operations.CurrentTask es within = no-operand-makes _ refl
  function-makes operations.SetQuantum es within = no-operand-makes _ refl
  function-makes operations.SetDeadline es within = no-operand-makes _ refl
  function-makes operations.GetDeadline es within = optional-makes valuation.Deadline (λ x. refl) es within
  function-makes operations.DelayUntilAndSetDeadline es within = no-operand-makes _ refl
  function-makes operations.PortValue es within = actual-makes valuation.PortValue (λ x. refl) es within

  item-makes : (item : Predefined) (xs : List (Argument E)) (within : Within) → Makes (item_made same_image item (map (argument_of image) xs) within)
  unfolding item_made
  item-makes (items.Mark s) xs within = no-operand-makes _ refl
  item-makes (items.Constant of_type v) xs within = no-operand-makes _ refl
  item-makes (items.Truth t) xs within = no-operand-makes _ refl
  item-makes (items.Exception raised) xs within = no-operand-makes _ refl
  item-makes (items.Operation o) xs within =
      subst (λ is. Makes (function_made o (images_for same_image is) within)) (sym (actuals-mapped image (names_of_formals o) xs))
      (function-makes o (actuals_for (names_of_formals o) xs) within)

  denoted-makes : (d : Option Denoted) (xs : List (Argument E)) (within : Within) (name : Name)
      → Makes (denoted_made same_image name (map (argument_of image) xs) within d)
  unfolding denoted_made
  denoted-makes None xs within name = no-operand-makes _ refl
  denoted-makes (Some (denotes.Entity e)) xs within name = entity-makes (kind_at within.names e) xs within name
  denoted-makes (Some (denotes.Unit u)) xs within name = no-operand-makes _ refl
  denoted-makes (Some (denotes.Item u item)) xs within name = item-makes item xs within

  named-makes : (a : Option AttributeDesignator) (xs : List (Argument E)) (within : Within) (name : Name)
      → Makes (named_made same_image name a (map (argument_of image) xs) within)
  unfolding named_made
  named-makes None xs within name = denoted-makes (denoted_by within.names name) xs within name
  named-makes (Some a) xs within name = attribute-makes within name a.attribute

  form-makes : (x : ExpressionForm E) (within : Within) → Makes ((form_image same_image (mapped_form image x)).made within)
  unfolding logical_made relational_made adding_made multiplying_made
  form-makes (form.Logical operator first others) within =
      makes-then ((image first).made within)
      (λ n. operands_made same_image (logical_operator operator) n (map (operand_of image) (others.first ∷ others.others)) within) (makes first within)
      (λ n. operands-make (logical_operator operator) (others.first ∷ others.others) within n)
  form-makes (form.Relational left place operator right) within =
      makes-then ((image left).made within) (λ n. binary_put (relational_operator operator) n ((image right).made within)) (makes left within)
      (λ n. binary-makes _ n _ (makes right within))
  form-makes (form.Adding first others) within =
      makes-then ((image first).made within) (λ n. addends_made same_image n (map (addend_of image) (others.first ∷ others.others)) within) (makes first within)
      (λ n. addends-make (others.first ∷ others.others) within n)
  form-makes (form.Signed place s operand) within = signed-makes s (image operand).literal _ (makes operand within)
  form-makes (form.Multiplying first others) within =
      makes-then ((image first).made within) (λ n. factors_made same_image n (map (multiplied_of image) (others.first ∷ others.others)) within)
      (makes first within) (λ n. factors-make (others.first ∷ others.others) within n)
  form-makes (form.Highest place operator operand) within = unary-makes _ _ (makes operand within)
  form-makes (form.Number place literal) within = no-operand-makes _ refl
  form-makes (form.Text place text) within = no-operand-makes _ refl
  form-makes (form.Null place) within = no-operand-makes _ refl
  form-makes (form.Bracketed place inner) within = makes inner within
  form-makes (form.Named name a arguments) within = named-makes a arguments within name

-- ---- expressions

abbrev ExpressionMakes : Expression → Type 0
ExpressionMakes e = (within : Within) → Makes ((expression_image e).made within)

makes-expression : (e : Expression) → ExpressionMakes e
makes-expression = ind-Expression ExpressionMakes (λ x y is.
    subst (λ z. ExpressionMakes (roll-Expression z)) is
    (subst (λ (image : ExpressionImage). (within : Within) → Makes (image.made within))
    (sym (fold-roll-Expression ExpressionImage image_layer (map-Expression ((e : Expression) × ExpressionMakes e) Expression (λ e. e.0) y)))
    (subst (λ z. (within : Within) → Makes ((form_image same_image z).made within))
    (sym (mapped-twice expression_image (λ (e : (e : Expression) × ExpressionMakes e). e.0) y.form))
    (form-makes (λ (e : (e : Expression) × ExpressionMakes e). expression_image e.0) (λ e. e.1) y.form))))

pub expression-makes : (e : Expression) (within : Within) → Makes (expression_made e within)
unfolding expression_made
expression-makes e within = makes-expression e within
