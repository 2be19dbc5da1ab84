-- What the fold over an expression gives at its form.
use Rattle.std.proofs.Common.{◌≡◌, ℕ, List, [], ◌∷◌, Option, Some, None, Bool, true, false, cond, map, suc, refl, ap, ◌∙◌}
use Rattle.std.specs.Prelude.{option_map}
use Rattle.ada_tree.specs.declared.names.Name.{Name}
use Rattle.ada_tree.specs.declared.expressions.Expression.{Expression}
use Rattle.ada_tree.specs.declared.expressions.Expression.TheViews.{out-Expression}
use Rattle.ada_tree.specs.declared.expressions.Expression.TheFolds.{fold_out-Expression, map-Expression}
use Rattle.ada_tree.specs.declared.expressions.ExpressionForm.{ExpressionForm}
use Rattle.ada_tree.specs.declared.expressions.ExpressionForm.TheVariants as form
use Rattle.ada_tree.specs.declared.expressions.Operand.{Operand}
use Rattle.ada_tree.specs.declared.expressions.Addend.{Addend}
use Rattle.ada_tree.specs.declared.expressions.Multiplied.{Multiplied}
use Rattle.ada_tree.specs.declared.expressions.Argument.{Argument}
use Rattle.ada_tree.specs.declared.expressions.AttributeDesignator.{AttributeDesignator}
use Rattle.profile_image.specs.declared.numbers.ExprNo.{ExprNo}
use Rattle.profile_image.specs.declared.expressions.BinaryOperator.{BinaryOperator}
use Rattle.ada_regions.specs.declared.predefined.Predefined.{Predefined}
use Rattle.ada_regions.specs.declared.predefined.Predefined.TheVariants as items
use Rattle.ada_regions.specs.declared.entities.Denoted.{Denoted}
use Rattle.ada_regions.specs.declared.entities.Denoted.TheVariants as denotes
use Rattle.ada_regions.specs.declared.table.Names.{Names}
use Rattle.ada_regions.specs.PredefinedUnits.{names_of_formals}
use Rattle.ada_image.specs.declared.making.Lists.{Lists}
use Rattle.ada_image.specs.declared.making.Within.{Within}
use Rattle.ada_image.specs.ImageOfExpressions.{ExpressionImage, is_for, argument_from, arguments_from, actuals_for, images_for, index_in}
use Rattle.ada_image.specs.ImageOfExpressions.{item_made, denoted_made, named_made, signs_in_arguments, signs_in_operands, signs_in_addends}
use Rattle.ada_image.specs.ImageOfExpressions.{signs_in_factors, call_counts, binary_put, logical_operator, adding_operator}
use Rattle.ada_image.specs.ImageOfExpressions.{multiplying_operator, operands_made, addends_made, factors_made, logical_made, relational_made}
use Rattle.ada_image.specs.ImageOfExpressions.{adding_made, multiplying_made, form_image, same_image, image_layer, expression_image}

module _ (w : Expression → ExpressionImage) where
  -- ---- operators of one level

  module _ (g : Operand Expression → Operand ExpressionImage)
      (same : (o : Operand Expression) → g o ≡ record { place = o.place; relation = w o.relation }) where
    operands_of_map : (operator : BinaryOperator) (os : List (Operand Expression)) (left : ExprNo) (within : Within) (lists : Lists)
        → operands_made same_image operator left (map g os) within lists ≡ operands_made w operator left os within lists
    unfolding operands_made
    operands_of_map operator [] left within lists = refl
    operands_of_map operator (o ∷ os) left within lists =
        rw (same o) (operands_of_map operator os (binary_put operator left ((w o.relation).made within) lists).1 within
        (binary_put operator left ((w o.relation).made within) lists).0)

    signs_of_operands : (os : List (Operand Expression)) (n : Names) → signs_in_operands same_image (map g os) n ≡ signs_in_operands w os n
    unfolding signs_in_operands
    signs_of_operands [] n = refl
    signs_of_operands (o ∷ os) n = rw (same o, signs_of_operands os n) refl

  module _ (g : Addend Expression → Addend ExpressionImage)
      (same : (a : Addend Expression) → g a ≡ record { place = a.place; operator = a.operator; term = w a.term }) where
    addends_of_map : (items : List (Addend Expression)) (left : ExprNo) (within : Within) (lists : Lists)
        → addends_made same_image left (map g items) within lists ≡ addends_made w left items within lists
    unfolding addends_made
    addends_of_map [] left within lists = refl
    addends_of_map (a ∷ rest) left within lists =
        rw (same a) (addends_of_map rest (binary_put (adding_operator a.operator) left ((w a.term).made within) lists).1 within
        (binary_put (adding_operator a.operator) left ((w a.term).made within) lists).0)

    signs_of_addends : (items : List (Addend Expression)) (n : Names) → signs_in_addends same_image (map g items) n ≡ signs_in_addends w items n
    unfolding signs_in_addends
    signs_of_addends [] n = refl
    signs_of_addends (a ∷ rest) n = rw (same a, signs_of_addends rest n) refl

  module _ (g : Multiplied Expression → Multiplied ExpressionImage)
      (same : (m : Multiplied Expression) → g m ≡ record { place = m.place; operator = m.operator; factor = w m.factor }) where
    factors_of_map : (items : List (Multiplied Expression)) (left : ExprNo) (within : Within) (lists : Lists)
        → factors_made same_image left (map g items) within lists ≡ factors_made w left items within lists
    unfolding factors_made
    factors_of_map [] left within lists = refl
    factors_of_map (m ∷ rest) left within lists =
        rw (same m) (factors_of_map rest (binary_put (multiplying_operator m.operator) left ((w m.factor).made within) lists).1 within
        (binary_put (multiplying_operator m.operator) left ((w m.factor).made within) lists).0)

    signs_of_factors : (items : List (Multiplied Expression)) (n : Names) → signs_in_factors same_image (map g items) n ≡ signs_in_factors w items n
    unfolding signs_in_factors
    signs_of_factors [] n = refl
    signs_of_factors (m ∷ rest) n = rw (same m, signs_of_factors rest n) refl

  -- ---- arguments

  found : (b : Bool) (x : Expression) (t : Option ExpressionImage) (s : Option Expression) → t ≡ option_map w s
      → cond b (Some (w x)) t ≡ option_map w (cond b (Some x) s)
  found true x t s e = refl
  found false x t s e = e

  same_twice : (x : Option Expression) → option_map same_image (option_map w x) ≡ option_map w x
  same_twice None = refl
  same_twice (Some x) = refl

  module _ (g : Argument Expression → Argument ExpressionImage) (same : (a : Argument Expression) → g a ≡ record { formal = a.formal; value = w a.value }) where
    argument_of_map : (number : ℕ) (name : List ℕ) (at : ℕ) (items : List (Argument Expression))
        → argument_from number name at (map g items) ≡ option_map w (argument_from number name at items)
    unfolding argument_from
    argument_of_map number name at [] = refl
    argument_of_map number name at (a ∷ rest) =
        rw (same a) (found (is_for number name at a.formal) a.value _ _ (argument_of_map number name (suc at) rest))

    images_of_map : (number : ℕ) (names : List (List ℕ)) (items : List (Argument Expression))
        → images_for same_image (arguments_from number names (map g items)) ≡ images_for w (arguments_from number names items)
    unfolding arguments_from
    images_of_map number [] items = refl
    images_of_map number (name ∷ names) items =
        rw (argument_of_map number name 0 items, same_twice (argument_from number name 0 items), images_of_map (suc number) names items) refl

    index_of_map : (items : List (Argument Expression)) (within : Within) → index_in same_image (map g items) within ≡ index_in w items within
    index_of_map [] within = refl
    index_of_map (a ∷ rest) within = rw (same a) refl

    item_of_map : (item : Predefined) (items : List (Argument Expression)) (within : Within)
        → item_made same_image item (map g items) within ≡ item_made w item items within
    unfolding item_made actuals_for
    item_of_map (items.Mark s) arguments within = refl
    item_of_map (items.Constant of_type v) arguments within = refl
    item_of_map (items.Truth b) arguments within = refl
    item_of_map (items.Exception raised) arguments within = refl
    item_of_map (items.Operation operation) arguments within = rw (images_of_map 0 (names_of_formals operation) arguments) refl

    denoted_of_map : (name : Name) (items : List (Argument Expression)) (within : Within) (d : Option Denoted)
        → denoted_made same_image name (map g items) within d ≡ denoted_made w name items within d
    unfolding denoted_made
    denoted_of_map name arguments within None = refl
    denoted_of_map name arguments within (Some (denotes.Entity e)) = rw (index_of_map arguments within) refl
    denoted_of_map name arguments within (Some (denotes.Unit u)) = refl
    denoted_of_map name arguments within (Some (denotes.Item u item)) = item_of_map item arguments within

    named_of_map : (name : Name) (a : Option AttributeDesignator) (items : List (Argument Expression)) (within : Within)
        → named_made same_image name a (map g items) within ≡ named_made w name a items within
    unfolding named_made
    named_of_map name None arguments within = denoted_of_map name arguments within _
    named_of_map name (Some a) arguments within = refl

    signs_of_arguments : (items : List (Argument Expression)) (n : Names) → signs_in_arguments same_image (map g items) n ≡ signs_in_arguments w items n
    unfolding signs_in_arguments
    signs_of_arguments [] n = refl
    signs_of_arguments (a ∷ rest) n = rw (same a, signs_of_arguments rest n) refl

  -- ---- all forms

  form_makes : (x : ExpressionForm Expression) (within : Within) (lists : Lists)
      → (form_image same_image (map-Expression Expression ExpressionImage w (record { form = x })).form).made within lists ≡ (form_image w x).made within lists
  unfolding logical_made relational_made adding_made multiplying_made
  form_makes (form.Logical operator first others) within lists =
      operands_of_map (λ (o : Operand Expression). record { place = o.place; relation = w o.relation }) (λ o. refl) (logical_operator operator)
      (others.first ∷ others.others) _ within _
  form_makes (form.Relational left place operator right) within lists = refl
  form_makes (form.Adding first others) within lists =
      addends_of_map (λ (a : Addend Expression). record { place = a.place; operator = a.operator; term = w a.term }) (λ a. refl)
      (others.first ∷ others.others) _ within _
  form_makes (form.Signed place s operand) within lists = refl
  form_makes (form.Multiplying first others) within lists =
      factors_of_map (λ (m : Multiplied Expression). record { place = m.place; operator = m.operator; factor = w m.factor }) (λ m. refl)
      (others.first ∷ others.others) _ within _
  form_makes (form.Highest place operator operand) within lists = refl
  form_makes (form.Number place literal) within lists = refl
  form_makes (form.Text place text) within lists = refl
  form_makes (form.Null place) within lists = refl
  form_makes (form.Bracketed place inner) within lists = refl
  form_makes (form.Named name a arguments) within lists =
      ap (λ m. m lists) (named_of_map (λ (a : Argument Expression). record { formal = a.formal; value = w a.value }) (λ a. refl) name a arguments within)

  form_counts : (x : ExpressionForm Expression) (n : Names)
      → (form_image same_image (map-Expression Expression ExpressionImage w (record { form = x })).form).signs n ≡ (form_image w x).signs n
  unfolding call_counts
  form_counts (form.Logical operator first others) n =
      rw (signs_of_operands (λ (o : Operand Expression). record { place = o.place; relation = w o.relation }) (λ o. refl) (others.first ∷ others.others) n) refl
  form_counts (form.Relational left place operator right) n = refl
  form_counts (form.Adding first others) n =
      rw (signs_of_addends (λ (a : Addend Expression). record { place = a.place; operator = a.operator; term = w a.term }) (λ a. refl)
      (others.first ∷ others.others) n) refl
  form_counts (form.Signed place s operand) n = refl
  form_counts (form.Multiplying first others) n =
      rw (signs_of_factors (λ (m : Multiplied Expression). record { place = m.place; operator = m.operator; factor = w m.factor }) (λ m. refl)
      (others.first ∷ others.others) n) refl
  form_counts (form.Highest place operator operand) n = refl
  form_counts (form.Number place literal) n = refl
  form_counts (form.Text place text) n = refl
  form_counts (form.Null place) n = refl
  form_counts (form.Bracketed place inner) n = refl
  form_counts (form.Named name a arguments) n =
      rw (signs_of_arguments (λ (a : Argument Expression). record { formal = a.formal; value = w a.value }) (λ a. refl) arguments n) refl

  form_has_literal : (x : ExpressionForm Expression)
      → (form_image same_image (map-Expression Expression ExpressionImage w (record { form = x })).form).literal ≡ (form_image w x).literal
  form_has_literal (form.Logical operator first others) = refl
  form_has_literal (form.Relational left place operator right) = refl
  form_has_literal (form.Adding first others) = refl
  form_has_literal (form.Signed place s operand) = refl
  form_has_literal (form.Multiplying first others) = refl
  form_has_literal (form.Highest place operator operand) = refl
  form_has_literal (form.Number place literal) = refl
  form_has_literal (form.Text place text) = refl
  form_has_literal (form.Null place) = refl
  form_has_literal (form.Bracketed place inner) = refl
  form_has_literal (form.Named name a arguments) = refl

  form_has_name : (x : ExpressionForm Expression)
      → (form_image same_image (map-Expression Expression ExpressionImage w (record { form = x })).form).name ≡ (form_image w x).name
  form_has_name (form.Logical operator first others) = refl
  form_has_name (form.Relational left place operator right) = refl
  form_has_name (form.Adding first others) = refl
  form_has_name (form.Signed place s operand) = refl
  form_has_name (form.Multiplying first others) = refl
  form_has_name (form.Highest place operator operand) = refl
  form_has_name (form.Number place literal) = refl
  form_has_name (form.Text place text) = refl
  form_has_name (form.Null place) = refl
  form_has_name (form.Bracketed place inner) = refl
  form_has_name (form.Named name a arguments) = refl

pub expression_makes : (e : Expression) (within : Within) (lists : Lists)
    → (expression_image e).made within lists ≡ (form_image expression_image (out-Expression e).form).made within lists
expression_makes e within lists =
    ap (λ (i : ExpressionImage). i.made within lists) (fold_out-Expression ExpressionImage image_layer e)
    ∙ form_makes expression_image (out-Expression e).form within lists

pub expression_counts : (e : Expression) (n : Names) → (expression_image e).signs n ≡ (form_image expression_image (out-Expression e).form).signs n
expression_counts e n =
    ap (λ (i : ExpressionImage). i.signs n) (fold_out-Expression ExpressionImage image_layer e) ∙ form_counts expression_image (out-Expression e).form n

pub expression_has_literal : (e : Expression) → (expression_image e).literal ≡ (form_image expression_image (out-Expression e).form).literal
expression_has_literal e =
    ap (λ (i : ExpressionImage). i.literal) (fold_out-Expression ExpressionImage image_layer e) ∙ form_has_literal expression_image (out-Expression e).form

pub expression_has_name : (e : Expression) → (expression_image e).name ≡ (form_image expression_image (out-Expression e).form).name
expression_has_name e =
    ap (λ (i : ExpressionImage). i.name) (fold_out-Expression ExpressionImage image_layer e) ∙ form_has_name expression_image (out-Expression e).form
