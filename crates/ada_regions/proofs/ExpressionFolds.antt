-- What the fold over an expression gives at its form.
use Rattle.std.proofs.Common.{◌≡◌, List, [], ◌∷◌, ◌++◌, map, refl, ◌∙◌}
use Rattle.std.specs.List.{flat_map}
use Rattle.ada_tree.specs.declared.expressions.Expression.{Expression}
use Rattle.ada_tree.specs.declared.expressions.Expression.TheViews.{out-Expression}
use Rattle.ada_tree.specs.declared.expressions.Expression.TheFolds.{fold_out-Expression, map-Expression}
use Rattle.ada_tree.specs.declared.expressions.ExpressionForm.{ExpressionForm}
use Rattle.ada_tree.specs.declared.expressions.ExpressionForm.TheVariants as form
use Rattle.ada_regions.specs.Occurrences.{Occurrences}
use Rattle.ada_regions.specs.NamesInExpressions.{names_in_form, same_names, names_layer, names_in_expression}

pub both : {a b c d : Occurrences} → a ≡ c → b ≡ d → a ++ b ≡ c ++ d
both p q = rw (p, q) refl

-- each item of a list that was mapped
pub flat_of_map : {X Y : Type 0} (w : Y → Occurrences) (g : X → Y) (v : X → Occurrences) (same : (x : X) → w (g x) ≡ v x) (xs : List X)
    → flat_map w (map g xs) ≡ flat_map v xs
flat_of_map w g v same [] = refl
flat_of_map w g v same (x ∷ xs) = rw (same x, flat_of_map w g v same xs) refl

form_of_map : (w : Expression → Occurrences) (x : ExpressionForm Expression)
    → names_in_form same_names (map-Expression Expression Occurrences w (record { form = x })).form ≡ names_in_form w x
form_of_map w (form.Logical operator first others) = rw (flat_of_map _ _ _ (λ x. refl) others.others) refl
form_of_map w (form.Relational left place operator right) = refl
form_of_map w (form.Adding first others) = rw (flat_of_map _ _ _ (λ x. refl) others.others) refl
form_of_map w (form.Signed place sign operand) = refl
form_of_map w (form.Multiplying first others) = rw (flat_of_map _ _ _ (λ x. refl) others.others) refl
form_of_map w (form.Highest place operator operand) = refl
form_of_map w (form.Number place literal) = refl
form_of_map w (form.Text place text) = refl
form_of_map w (form.Null place) = refl
form_of_map w (form.Bracketed place inner) = refl
form_of_map w (form.Named name attribute arguments) = rw (flat_of_map _ _ _ (λ x. refl) arguments) refl

pub expression_tells : (e : Expression) → names_in_expression e ≡ names_in_form names_in_expression (out-Expression e).form
expression_tells e = fold_out-Expression Occurrences names_layer e ∙ form_of_map names_in_expression (out-Expression e).form
