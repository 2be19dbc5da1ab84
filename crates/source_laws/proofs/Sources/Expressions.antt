-- At no place stand more names of an expression than identifiers of its spelling.
use Rattle.std.proofs.Common.{List, [], ◌∷◌, map, refl, sym, subst, ◌∙◌}
use Rattle.std.specs.List.{flat_map}
use Rattle.ada_tree.specs.declared.expressions.Expression.{Expression}
use Rattle.ada_tree.specs.declared.expressions.Expression.TheOpen.{Expression-F}
use Rattle.ada_tree.specs.declared.expressions.Expression.TheViews.{roll-Expression, out-Expression, out-roll-Expression}
use Rattle.ada_tree.specs.declared.expressions.Expression.TheFolds.{ind-Expression, map-Expression}
use Rattle.ada_tree.specs.declared.expressions.ExpressionForm.{ExpressionForm}
use Rattle.ada_tree.specs.declared.expressions.ExpressionForm.TheVariants as form
use Rattle.ada_tree.specs.Written.{Written, delimiter_at, behind, optional, enclosed}
use Rattle.ada_tree.specs.SpellingExpressions.{logical_written, adding_text, multiplying_written, designator_written}
use Rattle.ada_tree.specs.SpellingExpressions.{formal_written, addend_written, multiplied_written, form_written, expression_written}
use Rattle.ada_tree.proofs.ExpressionFolds.{expression_is_written}
use Rattle.ada_regions.specs.Occurrences.{Occurrences, mentions}
use Rattle.ada_regions.specs.NamesInExpressions.{names_in_form, names_in_expression}
use Rattle.ada_regions.proofs.ExpressionFolds.{expression_tells}
use Rattle.source_laws.proofs.Sources.Counting.{Covers, covers-none, covers-both, covers-then, covers-skip, covers-past, covers-front, covers-mentions}

-- each item of a list that was mapped
covers-mapped : {X Y : Type 0} (f : Y → Occurrences) (w : Y → List Written) (g : X → Y) → ((x : X) → Covers [] (f (g x)) (w (g x)))
    → (xs : List X) → Covers [] (flat_map f (map g xs)) (flat_map w (map g xs))
covers-mapped f w g all [] = covers-none []
covers-mapped f w g all (x ∷ xs) = covers-both (all x) (covers-mapped f w g all xs)

enclosed-mapped : {X Y : Type 0} (opening separator : Written) (closing : List Written) (f : Y → Occurrences) (w : Y → List Written) (g : X → Y)
    → ((x : X) → Covers [] (f (g x)) (w (g x)))
    → (xs : List X) → Covers [] (flat_map f (map g xs)) (enclosed opening separator closing w (map g xs))
enclosed-mapped opening separator closing f w g all [] = covers-none []
enclosed-mapped opening separator closing f w g all (x ∷ xs) =
    covers-skip opening (covers-then (all x) (covers-front closing (covers-mapped f (behind separator w) g (λ y. covers-skip separator (all y)) xs)))

-- one layer, whose expressions are those that g gives
module _ (E : Type 0) (g : E → Expression) (all : (e : E) → Covers [] (names_in_expression (g e)) (expression_written (g e))) where
  abbrev FormCovered : ExpressionForm E → Type 0
  FormCovered x =
      Covers [] (names_in_form names_in_expression (map-Expression E Expression g (record { form = x })).form)
      (form_written expression_written (map-Expression E Expression g (record { form = x })).form)

  covers-form : (x : ExpressionForm E) → FormCovered x
  covers-form (form.Logical operator first others) =
      covers-then (all first) (covers-both (covers-past (logical_written operator others.first.place) (all others.first.relation))
      (covers-mapped _ _ _ (λ x. covers-past (logical_written operator x.place) (all x.relation)) others.others))
  covers-form (form.Relational left place operator right) = covers-then (all left) (covers-skip _ (all right))
  covers-form (form.Adding first others) =
      covers-then (all first)
      (covers-both (covers-skip (delimiter_at others.first.place (adding_text others.first.operator)) (all others.first.term))
      (covers-mapped _ (addend_written expression_written) _ (λ x. covers-skip (delimiter_at x.place (adding_text x.operator)) (all x.term)) others.others))
  covers-form (form.Signed place sign operand) = covers-skip _ (all operand)
  covers-form (form.Multiplying first others) =
      covers-then (all first)
      (covers-both (covers-skip (multiplying_written others.first.operator others.first.place) (all others.first.factor))
      (covers-mapped _ (multiplied_written expression_written) _ (λ x. covers-skip (multiplying_written x.operator x.place) (all x.factor)) others.others))
  covers-form (form.Highest place operator operand) = covers-skip _ (all operand)
  covers-form (form.Number place literal) = covers-none _
  covers-form (form.Text place text) = covers-none _
  covers-form (form.Null place) = covers-none _
  covers-form (form.Bracketed place inner) = covers-skip _ (covers-front _ (all inner))
  covers-form (form.Named name attribute arguments) =
      covers-mentions name (mentions name) refl (covers-past (optional designator_written attribute)
      (enclosed-mapped _ _ _ _ _ _ (λ x. covers-past (optional formal_written x.formal) (all x.value)) arguments))

abbrev LayerCovered : Expression-F Expression → Type 0
LayerCovered z = Covers [] (names_in_form names_in_expression z.form) (form_written expression_written z.form)

layer-covered : (e : Expression) → LayerCovered (out-Expression e) → Covers [] (names_in_expression e) (expression_written e)
layer-covered e here =
    subst (λ os. Covers [] os (expression_written e)) (sym (expression_tells e))
    (subst (λ ws. Covers [] (names_in_form names_in_expression (out-Expression e).form) ws) (sym (expression_is_written e)) here)

pub covers-expression : (e : Expression) → Covers [] (names_in_expression e) (expression_written e)
covers-expression = ind-Expression (λ e. Covers [] (names_in_expression e) (expression_written e)) (λ x y is.
    layer-covered (roll-Expression x) (subst LayerCovered (is ∙ sym (out-roll-Expression x)) (covers-form _ (λ p. p.0) (λ p. p.1) y.form)))
