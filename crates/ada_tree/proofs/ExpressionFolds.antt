-- What the folds over expressions give at a form.
use Rattle.std.proofs.Common.{◌≡◌, ℕ, List, refl, ◌∙◌, ap}
use Rattle.ada_tree.specs.declared.expressions.Precedence.{Precedence}
use Rattle.ada_tree.specs.declared.expressions.Expression.{Expression}
use Rattle.ada_tree.specs.declared.expressions.Expression.TheViews.{out-Expression}
use Rattle.ada_tree.specs.declared.expressions.Expression.TheFolds.{fold_out-Expression, map-Expression}
use Rattle.ada_tree.specs.declared.expressions.ExpressionForm.{ExpressionForm}
use Rattle.ada_tree.specs.declared.expressions.ExpressionForm.TheVariants as form
use Rattle.ada_tree.specs.Written.{Written}
use Rattle.ada_tree.specs.SpellingExpressions.{as_it_is, form_written, expression_layer, expression_written}
use Rattle.ada_tree.specs.ShapeExpressions.{Fit, same_fit, form_fits, fit_layer, expression_fits}
use Rattle.ada_tree.proofs.Maps.{each_of_map, enclosed_of_map, all_of_map, enclosed_fit_of_map}

form_of_map : (w : Expression → List Written) (x : ExpressionForm Expression)
    → form_written as_it_is (map-Expression Expression (List Written) w (record { form = x })).form ≡ form_written w x
form_of_map w (form.Logical operator first others) = rw (each_of_map _ _ _ (λ x. refl) others.others) refl
form_of_map w (form.Relational left place operator right) = refl
form_of_map w (form.Adding first others) = rw (each_of_map _ _ _ (λ x. refl) others.others) refl
form_of_map w (form.Signed place sign operand) = refl
form_of_map w (form.Multiplying first others) = rw (each_of_map _ _ _ (λ x. refl) others.others) refl
form_of_map w (form.Highest place operator operand) = refl
form_of_map w (form.Number place literal) = refl
form_of_map w (form.Text place text) = refl
form_of_map w (form.Null place) = refl
form_of_map w (form.Bracketed place inner) = refl
form_of_map w (form.Named name attribute arguments) = rw (enclosed_of_map _ _ _ _ _ _ (λ x. refl) arguments) refl

pub expression_is_written : (e : Expression) → expression_written e ≡ form_written expression_written (out-Expression e).form
expression_is_written e = fold_out-Expression (List Written) expression_layer e ∙ form_of_map expression_written (out-Expression e).form

fit_of_map : (f : Expression → Fit) (x : ExpressionForm Expression) (least : Precedence) (left : ℕ)
    → form_fits same_fit (map-Expression Expression Fit f (record { form = x })).form least left ≡ form_fits f x least left
fit_of_map f (form.Logical operator first others) least left = rw (all_of_map _ _ _ (λ x. refl) others.others) refl
fit_of_map f (form.Relational first place operator second) least left = refl
fit_of_map f (form.Adding first others) least left = rw (all_of_map _ _ _ (λ x. refl) others.others) refl
fit_of_map f (form.Signed place sign operand) least left = refl
fit_of_map f (form.Multiplying first others) least left = rw (all_of_map _ _ _ (λ x. refl) others.others) refl
fit_of_map f (form.Highest place operator operand) least left = refl
fit_of_map f (form.Number place literal) least left = refl
fit_of_map f (form.Text place text) least left = refl
fit_of_map f (form.Null place) least left = refl
fit_of_map f (form.Bracketed place inner) least left = refl
fit_of_map f (form.Named name attribute arguments) least left = rw (enclosed_fit_of_map _ _ _ _ (λ n x. refl) arguments) refl

pub expression_is_fit : (e : Expression) (least : Precedence) (left : ℕ)
    → expression_fits e least left ≡ form_fits expression_fits (out-Expression e).form least left
expression_is_fit e least left =
    ap (λ (fit : Fit). fit least left) (fold_out-Expression Fit fit_layer e) ∙ fit_of_map expression_fits (out-Expression e).form least left
