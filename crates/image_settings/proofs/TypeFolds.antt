-- What the fold over an expression gives at its form: its type.
use Rattle.std.proofs.Common.{◌≡◌, List, [], ◌∷◌, Option, Some, None, map, refl, ◌∙◌, ap, not}
use Rattle.ada_tree.specs.declared.names.Name.{Name}
use Rattle.ada_tree.specs.declared.expressions.Expression.{Expression}
use Rattle.ada_tree.specs.declared.expressions.Expression.TheViews.{out-Expression}
use Rattle.ada_tree.specs.declared.expressions.Expression.TheFolds.{fold_out-Expression, map-Expression}
use Rattle.ada_tree.specs.declared.expressions.ExpressionForm.{ExpressionForm}
use Rattle.ada_tree.specs.declared.expressions.ExpressionForm.TheVariants as form
use Rattle.ada_tree.specs.declared.expressions.Addend.{Addend}
use Rattle.ada_tree.specs.declared.expressions.Multiplied.{Multiplied}
use Rattle.ada_tree.specs.declared.expressions.Argument.{Argument}
use Rattle.ada_tree.specs.declared.expressions.AttributeDesignator.{AttributeDesignator}
use Rattle.ada_regions.specs.declared.types.AdaType.{AdaType}
use Rattle.ada_regions.specs.declared.table.Names.{Names}
use Rattle.ada_regions.specs.Names.{denoted_by}
use Rattle.ada_regions.specs.Words.{and_then}
use Rattle.ann_base.specs.Lists.{is_empty}
use Rattle.ada_image.specs.TypesOfExpressions.{Typing, same_typing, typing_layer, type_of_sum, type_of_product, type_of_addends}
use Rattle.ada_image.specs.TypesOfExpressions.{type_of_factors, type_of_named, type_denoted, type_of_form, type_of_expression}

-- terms and factors of a list that was mapped
addends_of_map : (w : Expression → Typing) (g : Addend Expression → Addend Typing) (operator : (a : Addend Expression) → (g a).operator ≡ a.operator)
    (term : (a : Addend Expression) → (g a).term ≡ w a.term)
    (left : Option AdaType) (rest : List (Addend Expression)) (n : Names) → type_of_addends same_typing left (map g rest) n ≡ type_of_addends w left rest n
unfolding type_of_addends
addends_of_map w g operator term left [] n = refl
addends_of_map w g operator term left (a ∷ rest) n =
    rw (operator a, term a) (addends_of_map w g operator term (type_of_sum left a.operator (w a.term n)) rest n)

factors_of_map : (w : Expression → Typing) (g : Multiplied Expression → Multiplied Typing) (factor : (m : Multiplied Expression) → (g m).factor ≡ w m.factor)
    (left : Option AdaType) (ms : List (Multiplied Expression)) (n : Names) → type_of_factors same_typing left (map g ms) n ≡ type_of_factors w left ms n
unfolding type_of_factors
factors_of_map w g factor left [] n = refl
factors_of_map w g factor left (m ∷ ms) n = rw (factor m) (factors_of_map w g factor (type_of_product left (w m.factor n)) ms n)

nothing_of_map : {X Y : Type 0} (g : X → Y) (xs : List X) → is_empty (map g xs) ≡ is_empty xs
nothing_of_map g [] = refl
nothing_of_map g (x ∷ xs) = refl

named_of_map : (w : Expression → Typing) (g : Argument Expression → Argument Typing) (name : Name) (a : Option AttributeDesignator)
    (arguments : List (Argument Expression)) (n : Names)
    → type_of_named same_typing name a (map g arguments) n ≡ type_of_named w name a arguments n
unfolding type_of_named
named_of_map w g name None arguments n = ap (λ nothing. and_then (denoted_by n name) (type_denoted n (not nothing))) (nothing_of_map g arguments)
named_of_map w g name (Some a) arguments n = refl

form_of_map : (w : Expression → Typing) (x : ExpressionForm Expression) (n : Names)
    → type_of_form same_typing (map-Expression Expression Typing w (record { form = x })).form n ≡ type_of_form w x n
form_of_map w (form.Logical operator first others) n = refl
form_of_map w (form.Relational left place operator right) n = refl
form_of_map w (form.Adding first others) n =
    addends_of_map w (λ (a : Addend Expression). record { place = a.place; operator = a.operator; term = w a.term }) (λ a. refl) (λ a. refl) (w first n)
    (others.first ∷ others.others) n
form_of_map w (form.Signed place sign operand) n = refl
form_of_map w (form.Multiplying first others) n =
    factors_of_map w (λ (m : Multiplied Expression). record { place = m.place; operator = m.operator; factor = w m.factor }) (λ m. refl) (w first n)
    (others.first ∷ others.others) n
form_of_map w (form.Highest place operator operand) n = refl
form_of_map w (form.Number place literal) n = refl
form_of_map w (form.Text place text) n = refl
form_of_map w (form.Null place) n = refl
form_of_map w (form.Bracketed place inner) n = refl
form_of_map w (form.Named name attribute arguments) n =
    named_of_map w (λ (a : Argument Expression). record { formal = a.formal; value = w a.value }) name attribute arguments n

pub expression_typed : (e : Expression) (n : Names) → type_of_expression e n ≡ type_of_form type_of_expression (out-Expression e).form n
unfolding type_of_expression
expression_typed e n = ap (λ (typing : Typing). typing n) (fold_out-Expression Typing typing_layer e) ∙ form_of_map type_of_expression (out-Expression e).form n
