-- What an expression tells leaves the regions around as they were.
use Rattle.std.proofs.Common.{List, [], ◌∷◌, map, sym, ap, subst, ◌∙◌}
use Rattle.std.specs.List.{flat_map}
use Rattle.ada_tree.specs.declared.expressions.Expression.{Expression}
use Rattle.ada_tree.specs.declared.expressions.Expression.TheOpen.{Expression-F}
use Rattle.ada_tree.specs.declared.expressions.Expression.TheViews.{roll-Expression, out-roll-Expression}
use Rattle.ada_tree.specs.declared.expressions.Expression.TheFolds.{ind-Expression, map-Expression}
use Rattle.ada_tree.specs.declared.expressions.ExpressionForm.{ExpressionForm}
use Rattle.ada_tree.specs.declared.expressions.ExpressionForm.TheVariants as form
use Rattle.ada_regions.specs.Occurrences.{Occurrences, mentions}
use Rattle.ada_regions.specs.NamesInExpressions.{names_in_form, names_in_expression}
use Rattle.ada_regions.proofs.ExpressionFolds.{expression_tells}
use Rattle.source_laws.proofs.Names.Texts.{Inside, inside-none, inside-append, inside-cons}

-- each item of a list that was mapped
pub inside-flat_of_map : {X Y : Type 0} (f : Y → Occurrences) (g : X → Y) → ((x : X) → Inside (f (g x))) → (xs : List X) → Inside (flat_map f (map g xs))
inside-flat_of_map f g all [] = inside-none
inside-flat_of_map f g all (x ∷ xs) = inside-append _ _ (all x) (inside-flat_of_map f g all xs)

-- one layer, whose expressions are those that g gives
module _ (E : Type 0) (g : E → Expression) (all : (e : E) → Inside (names_in_expression (g e))) where
  inside-form : (x : ExpressionForm E) → Inside (names_in_form names_in_expression (map-Expression E Expression g (record { form = x })).form)
  inside-form (form.Logical operator first others) =
      inside-append _ _ (all first) (inside-append _ _ (all _) (inside-flat_of_map _ _ (λ x. all _) others.others))
  inside-form (form.Relational left place operator right) = inside-append _ _ (all left) (all right)
  inside-form (form.Adding first others) = inside-append _ _ (all first) (inside-append _ _ (all _) (inside-flat_of_map _ _ (λ x. all _) others.others))
  inside-form (form.Signed place sign operand) = all operand
  inside-form (form.Multiplying first others) = inside-append _ _ (all first) (inside-append _ _ (all _) (inside-flat_of_map _ _ (λ x. all _) others.others))
  inside-form (form.Highest place operator operand) = all operand
  inside-form (form.Number place literal) = inside-none
  inside-form (form.Text place text) = inside-none
  inside-form (form.Null place) = inside-none
  inside-form (form.Bracketed place inner) = all inner
  inside-form (form.Named name attribute arguments) = inside-cons (mentions name) _ tt (inside-flat_of_map _ _ (λ x. all _) arguments)

pub inside-expression : (e : Expression) → Inside (names_in_expression e)
inside-expression = ind-Expression (λ e. Inside (names_in_expression e)) (λ x y is.
    subst (λ os. Inside os)
    (ap (λ (z : Expression-F Expression). names_in_form names_in_expression z.form) (is ∙ sym (out-roll-Expression x))
    ∙ sym (expression_tells (roll-Expression x)))
    (inside-form _ (λ p. p.0) (λ p. p.1) y.form))
