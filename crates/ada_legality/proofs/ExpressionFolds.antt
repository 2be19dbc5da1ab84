-- What the fold over an expression gives at its form.
use Rattle.std.proofs.Common.{◌≡◌, List, [], ◌∷◌, map, refl, ap, ◌∙◌}
use Rattle.ada_tree.specs.declared.names.Name.{Name}
use Rattle.ada_tree.specs.declared.operators.LogicalOperator.{LogicalOperator}
use Rattle.ada_tree.specs.declared.expressions.Expression.{Expression}
use Rattle.ada_tree.specs.declared.expressions.Expression.TheViews.{out-Expression}
use Rattle.ada_tree.specs.declared.expressions.Expression.TheFolds.{fold_out-Expression, map-Expression}
use Rattle.ada_tree.specs.declared.expressions.ExpressionForm.{ExpressionForm}
use Rattle.ada_tree.specs.declared.expressions.ExpressionForm.TheVariants as form
use Rattle.ada_tree.specs.declared.expressions.Operand.{Operand}
use Rattle.ada_tree.specs.declared.expressions.Addend.{Addend}
use Rattle.ada_tree.specs.declared.expressions.Multiplied.{Multiplied}
use Rattle.ada_tree.specs.declared.expressions.Argument.{Argument}
use Rattle.ada_tree.specs.declared.expressions.AttributeDesignator.{AttributeDesignator}
use Rattle.std.specs.Prelude.{Option, Some, None}
use Rattle.ann_base.specs.Lists.{is_empty}
use Rattle.ada_legality.specs.declared.reading.Read.{Read}
use Rattle.ada_legality.specs.declared.standing.Known.{Known}
use Rattle.ada_legality.specs.Reading.{Reading, with_relation, with_term, with_factor}
use Rattle.ada_legality.specs.ReadExpressions.{operand_read, operands_read, addends_read, factors_read, arguments_read, named_expression}
use Rattle.ada_legality.specs.ReadExpressions.{logical_expression, relational_expression, adding_expression, multiplying_expression, signed_expression}
use Rattle.ada_legality.specs.ReadExpressions.{highest_expression, bracketed_expression, form_read, same_reading, reading_layer, read_expression}

module _ (w : Expression → Reading) (k : Known) where
  module _ (g : Operand Expression → Operand Reading) (same : (o : Operand Expression) → g o ≡ record { place = o.place; relation = w o.relation }) where
    operands_of_map : (operator : LogicalOperator) (left : Read) (os : List (Operand Expression))
        → operands_read same_reading operator left (map g os) k ≡ operands_read w operator left os k
    unfolding operands_read operand_read
    operands_of_map operator left [] = refl
    operands_of_map operator left (o ∷ os) = rw (same o, operands_of_map operator (with_relation operator left (w o.relation k).0) os) refl

  module _ (g : Addend Expression → Addend Reading)
      (same : (a : Addend Expression) → g a ≡ record { place = a.place; operator = a.operator; term = w a.term }) where
    addends_of_map : (left : Read) (items : List (Addend Expression)) → addends_read same_reading left (map g items) k ≡ addends_read w left items k
    unfolding addends_read operand_read
    addends_of_map left [] = refl
    addends_of_map left (a ∷ rest) = rw (same a, addends_of_map (with_term a.operator left (w a.term k).0) rest) refl

  module _ (g : Multiplied Expression → Multiplied Reading)
      (same : (m : Multiplied Expression) → g m ≡ record { place = m.place; operator = m.operator; factor = w m.factor }) where
    factors_of_map : (left : Read) (items : List (Multiplied Expression)) → factors_read same_reading left (map g items) k ≡ factors_read w left items k
    unfolding factors_read operand_read
    factors_of_map left [] = refl
    factors_of_map left (m ∷ rest) = rw (same m, factors_of_map (with_factor m.operator left (w m.factor k).0) rest) refl

  module _ (g : Argument Expression → Argument Reading) (same : (a : Argument Expression) → g a ≡ record { formal = a.formal; value = w a.value }) where
    arguments_of_map : (items : List (Argument Expression)) → arguments_read same_reading (map g items) k ≡ arguments_read w items k
    unfolding arguments_read
    arguments_of_map [] = refl
    arguments_of_map (a ∷ rest) = rw (same a, arguments_of_map rest) refl

  nothing_of_map : {X Y : Type 0} (g : X → Y) (xs : List X) → is_empty (map g xs) ≡ is_empty xs
  nothing_of_map g [] = refl
  nothing_of_map g (x ∷ xs) = refl

  named_of_map : (g : Argument Expression → Argument Reading) (same : (a : Argument Expression) → g a ≡ record { formal = a.formal; value = w a.value })
      (name : Name) (a : Option AttributeDesignator) (items : List (Argument Expression))
      → named_expression same_reading name a (map g items) k ≡ named_expression w name a items k
  unfolding named_expression
  named_of_map g same name None items = rw (arguments_of_map g same items, nothing_of_map g items) refl
  named_of_map g same name (Some a) items = rw (arguments_of_map g same items, nothing_of_map g items) refl

  -- ---- all forms

  form_reads : (x : ExpressionForm Expression) → form_read same_reading (map-Expression Expression Reading w (record { form = x })).form k ≡ form_read w x k
  unfolding logical_expression relational_expression adding_expression multiplying_expression signed_expression highest_expression bracketed_expression
      operand_read
  form_reads (form.Logical operator first others) =
      rw (operands_of_map (λ (o : Operand Expression). record { place = o.place; relation = w o.relation }) (λ o. refl) operator _
      (others.first ∷ others.others)) refl
  form_reads (form.Relational left place operator right) = refl
  form_reads (form.Adding first others) =
      rw (addends_of_map (λ (a : Addend Expression). record { place = a.place; operator = a.operator; term = w a.term }) (λ a. refl) _
      (others.first ∷ others.others)) refl
  form_reads (form.Signed place s operand) = refl
  form_reads (form.Multiplying first others) =
      rw (factors_of_map (λ (m : Multiplied Expression). record { place = m.place; operator = m.operator; factor = w m.factor }) (λ m. refl) _
      (others.first ∷ others.others)) refl
  form_reads (form.Highest place operator operand) = refl
  form_reads (form.Number place literal) = refl
  form_reads (form.Text place text) = refl
  form_reads (form.Null place) = refl
  form_reads (form.Bracketed place inner) = refl
  form_reads (form.Named name a arguments) =
      named_of_map (λ (a : Argument Expression). record { formal = a.formal; value = w a.value }) (λ a. refl) name a arguments

pub expression_reads : (e : Expression) (k : Known) → read_expression e k ≡ form_read read_expression (out-Expression e).form k
unfolding read_expression
expression_reads e k = ap (λ (r : Reading). r k) (fold_out-Expression Reading reading_layer e) ∙ form_reads read_expression k (out-Expression e).form
