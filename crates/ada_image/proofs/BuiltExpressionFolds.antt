-- What the fold over an expression says of its form.
use Rattle.std.proofs.Common.{◌≡◌, ℕ, List, [], ◌∷◌, Option, Some, None, Bool, true, false, cond, ◌&&◌, map, suc, refl, ap, ◌∙◌}
use Rattle.std.specs.Prelude.{option_map, unwrap_or}
use Rattle.ada_tree.specs.declared.names.Name.{Name}
use Rattle.ada_tree.specs.declared.expressions.Expression.{Expression}
use Rattle.ada_tree.specs.declared.expressions.Expression.TheViews.{out-Expression}
use Rattle.ada_tree.specs.declared.expressions.Expression.TheFolds.{fold_out-Expression, map-Expression}
use Rattle.ada_tree.specs.declared.expressions.ExpressionForm.{ExpressionForm}
use Rattle.ada_tree.specs.declared.expressions.ExpressionForm.TheVariants as form
use Rattle.ada_tree.specs.declared.expressions.Operand.{Operand}
use Rattle.ada_tree.specs.declared.expressions.Addend.{Addend}
use Rattle.ada_tree.specs.declared.expressions.Multiplied.{Multiplied}
use Rattle.ada_tree.specs.declared.expressions.Argument.{Argument}
use Rattle.ada_tree.specs.declared.expressions.AttributeDesignator.{AttributeDesignator}
use Rattle.ada_regions.specs.declared.predefined.Operation.{Operation}
use Rattle.ada_regions.specs.declared.predefined.Predefined.{Predefined}
use Rattle.ada_regions.specs.declared.predefined.Predefined.TheVariants as items
use Rattle.ada_regions.specs.declared.entities.Denoted.{Denoted}
use Rattle.ada_regions.specs.declared.entities.Denoted.TheVariants as denotes
use Rattle.ada_regions.specs.declared.table.Names.{Names}
use Rattle.ada_regions.specs.PredefinedUnits.{names_of_formals}
use Rattle.ada_regions.specs.Names.{denoted_by, kind_at}
use Rattle.ada_image.specs.ImageOfExpressions.{is_for, argument_from, arguments_from, actuals_for, first_argument}
use Rattle.ada_image.specs.BuiltExpressions.{Built, entity_built, function_built, is_there, is_built_if_there, operation_built, item_built, denoted_built}
use Rattle.ada_image.specs.BuiltExpressions.{named_built, operands_built, addends_built, factors_built, form_built, same_built, built_layer, expression_built}
use Rattle.ada_image.specs.Making.{first_given}

module _ (w : Expression → Built) (n : Names) where
  -- ---- operators of one level

  module _ (g : Operand Expression → Operand Built) (same : (o : Operand Expression) → g o ≡ record { place = o.place; relation = w o.relation }) where
    operands_of_map : (os : List (Operand Expression)) → operands_built same_built (map g os) n ≡ operands_built w os n
    operands_of_map [] = refl
    operands_of_map (o ∷ os) = rw (same o, operands_of_map os) refl

  module _ (g : Addend Expression → Addend Built)
      (same : (a : Addend Expression) → g a ≡ record { place = a.place; operator = a.operator; term = w a.term }) where
    addends_of_map : (items : List (Addend Expression)) → addends_built same_built (map g items) n ≡ addends_built w items n
    addends_of_map [] = refl
    addends_of_map (a ∷ rest) = rw (same a, addends_of_map rest) refl

  module _ (g : Multiplied Expression → Multiplied Built)
      (same : (m : Multiplied Expression) → g m ≡ record { place = m.place; operator = m.operator; factor = w m.factor }) where
    factors_of_map : (items : List (Multiplied Expression)) → factors_built same_built (map g items) n ≡ factors_built w items n
    factors_of_map [] = refl
    factors_of_map (m ∷ rest) = rw (same m, factors_of_map rest) refl

  -- ---- arguments

  found : (b : Bool) (x : Expression) (t : Option Built) (s : Option Expression) → t ≡ option_map w s → cond b (Some (w x)) t ≡ option_map w (cond b (Some x) s)
  found true x t s e = refl
  found false x t s e = e

  actual_of_map : (o : Operation) (x : Option Expression)
      → function_built o (is_there same_built (option_map w x) n) (is_built_if_there same_built (option_map w x) n)
      ≡ function_built o (is_there w x n) (is_built_if_there w x n)
  actual_of_map o None = refl
  actual_of_map o (Some x) = refl

  module _ (g : Argument Expression → Argument Built) (same : (a : Argument Expression) → g a ≡ record { formal = a.formal; value = w a.value }) where
    argument_of_map : (number : ℕ) (name : List ℕ) (at : ℕ) (items : List (Argument Expression))
        → argument_from number name at (map g items) ≡ option_map w (argument_from number name at items)
    unfolding argument_from
    argument_of_map number name at [] = refl
    argument_of_map number name at (a ∷ rest) =
        rw (same a) (found (is_for number name at a.formal) a.value _ _ (argument_of_map number name (suc at) rest))

    first_of_map : (names : List (List ℕ)) (items : List (Argument Expression))
        → first_given (actuals_for names (map g items)) ≡ option_map w (first_given (actuals_for names items))
    unfolding actuals_for arguments_from
    first_of_map [] items = refl
    first_of_map (name ∷ names) items = argument_of_map 0 name 0 items

    index_of_map : (items : List (Argument Expression))
        → is_built_if_there same_built (first_argument (map g items)) n ≡ is_built_if_there w (first_argument items) n
    index_of_map [] = refl
    index_of_map (a ∷ rest) = rw (same a) refl

    operation_of_map : (o : Operation) (items : List (Argument Expression))
        → operation_built same_built o (actuals_for (names_of_formals o) (map g items)) n ≡ operation_built w o (actuals_for (names_of_formals o) items) n
    operation_of_map o items =
        ap (λ (e : Option Built). function_built o (is_there same_built e n) (is_built_if_there same_built e n)) (first_of_map (names_of_formals o) items)
        ∙ actual_of_map o (first_given (actuals_for (names_of_formals o) items))

    item_of_map : (item : Predefined) (items : List (Argument Expression)) → item_built same_built item (map g items) n ≡ item_built w item items n
    item_of_map (items.Mark s) arguments = refl
    item_of_map (items.Constant of_type x) arguments = refl
    item_of_map (items.Truth b) arguments = refl
    item_of_map (items.Exception raised) arguments = refl
    item_of_map (items.Operation o) arguments = operation_of_map o arguments

    denoted_of_map : (items : List (Argument Expression)) (d : Option Denoted) → denoted_built same_built (map g items) d n ≡ denoted_built w items d n
    denoted_of_map arguments None = refl
    denoted_of_map arguments (Some (denotes.Entity e)) =
        ap (λ (b : Bool). unwrap_or (option_map (λ kind. entity_built kind b) (kind_at n e)) false) (index_of_map arguments)
    denoted_of_map arguments (Some (denotes.Unit u)) = refl
    denoted_of_map arguments (Some (denotes.Item u item)) = item_of_map item arguments

    named_of_map : (name : Name) (a : Option AttributeDesignator) (items : List (Argument Expression))
        → named_built same_built name a (map g items) n ≡ named_built w name a items n
    named_of_map name None arguments = denoted_of_map arguments (denoted_by n name)
    named_of_map name (Some a) arguments = refl

  -- ---- all forms

  form_of_map : (x : ExpressionForm Expression) → form_built same_built (map-Expression Expression Built w (record { form = x })).form n ≡ form_built w x n
  form_of_map (form.Logical operator first others) =
      ap (λ (b : Bool). w first n && b)
      (operands_of_map (λ (o : Operand Expression). record { place = o.place; relation = w o.relation }) (λ o. refl) (others.first ∷ others.others))
  form_of_map (form.Relational left place operator right) = refl
  form_of_map (form.Adding first others) =
      ap (λ (b : Bool). w first n && b)
      (addends_of_map (λ (a : Addend Expression). record { place = a.place; operator = a.operator; term = w a.term }) (λ a. refl)
      (others.first ∷ others.others))
  form_of_map (form.Signed place s operand) = refl
  form_of_map (form.Multiplying first others) =
      ap (λ (b : Bool). w first n && b)
      (factors_of_map (λ (m : Multiplied Expression). record { place = m.place; operator = m.operator; factor = w m.factor }) (λ m. refl)
      (others.first ∷ others.others))
  form_of_map (form.Highest place operator operand) = refl
  form_of_map (form.Number place literal) = refl
  form_of_map (form.Text place text) = refl
  form_of_map (form.Null place) = refl
  form_of_map (form.Bracketed place inner) = refl
  form_of_map (form.Named name a arguments) =
      named_of_map (λ (x : Argument Expression). record { formal = x.formal; value = w x.value }) (λ x. refl) name a arguments

pub expression_by_form : (e : Expression) (n : Names) → expression_built e n ≡ form_built expression_built (out-Expression e).form n
expression_by_form e n = ap (λ (b : Built). b n) (fold_out-Expression Built built_layer e) ∙ form_of_map expression_built n (out-Expression e).form
