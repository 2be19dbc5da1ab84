-- Each expression that breaks no rule has clear names, where the table is clear: by induction over its forms.
use Rattle.std.proofs.Common.{◌≡◌, true, not, List, [], ◌∷◌, ◌++◌, map, Option, Some, None, refl, sym, ap, subst, ◌∙◌}
use Rattle.std.specs.List.{flat_map}
use Rattle.std.proofs.lemmas.Bool.{and_from, and_parts}
use Rattle.ann_base.specs.Lists.{is_empty}
use Rattle.ada_tree.specs.declared.names.Name.{Name}
use Rattle.ada_tree.specs.declared.expressions.Expression.{Expression}
use Rattle.ada_tree.specs.declared.expressions.Expression.TheOpen.{Expression-F}
use Rattle.ada_tree.specs.declared.expressions.Expression.TheFolds.{ind-Expression, map-Expression, fold-Expression, fold-roll-Expression}
use Rattle.ada_tree.specs.declared.expressions.Expression.TheViews.{roll-Expression}
use Rattle.ada_tree.specs.declared.expressions.ExpressionForm.{ExpressionForm}
use Rattle.ada_tree.specs.declared.expressions.ExpressionForm.TheVariants as form
use Rattle.ada_tree.specs.declared.expressions.Addend.{Addend}
use Rattle.ada_tree.specs.declared.expressions.Argument.{Argument}
use Rattle.ada_tree.specs.declared.expressions.AttributeDesignator.{AttributeDesignator}
use Rattle.ada_tree.specs.declared.expressions.Multiplied.{Multiplied}
use Rattle.ada_tree.specs.declared.expressions.Operand.{Operand}
use Rattle.ada_tree.specs.declared.operators.LogicalOperator.{LogicalOperator}
use Rattle.ada_regions.specs.Occurrences.{Occurrences}
use Rattle.ada_regions.specs.NamesInExpressions.{names_in_addend, names_in_argument, names_in_expression, names_in_form, names_in_multiplied, names_in_operand}
use Rattle.ada_regions.specs.NamesInExpressions.{same_names}
use Rattle.ada_legality.specs.declared.reading.Read.{Read}
use Rattle.ada_legality.specs.declared.standing.Known.{Known}
use Rattle.ada_legality.specs.Faults.{faults_in}
use Rattle.ada_legality.specs.Reading.{Reading}
use Rattle.ada_legality.specs.ReadExpressions.{addends_read, adding_expression, arguments_read, bracketed_expression, factors_read, form_read}
use Rattle.ada_legality.specs.ReadExpressions.{highest_expression, logical_expression, multiplying_expression, named_expression, operand_read, operands_read}
use Rattle.ada_legality.specs.ReadExpressions.{read_expression, relational_expression, same_reading, signed_expression}
use Rattle.image_laws.specs.Clear.{Clear, addends_clear, arguments_clear, attribute_clear, expression_clear, factors_clear, form_clear, name_clear, named_clear}
use Rattle.image_laws.specs.Clear.{operands_clear, same_clear}
use Rattle.image_laws.proofs.Images.Expressions.{addend_of, argument_of, mapped_form, mapped-twice, multiplied_of, operand_of}
use Rattle.image_laws.proofs.Forms.Nothing.{none-of}
use Rattle.form_laws.specs.Tables.{ClearTable, loops_stand}
use Rattle.form_laws.specs.Laws.{ClearExpressions}
use Rattle.form_laws.proofs.Names.{name-found}
use Rattle.form_laws.proofs.Attributes.{attribute-found}

pub stands-parts : (k : Known) (a b : Occurrences) → loops_stand k (a ++ b) ≡ true → (loops_stand k a ≡ true) × (loops_stand k b ≡ true)
stands-parts k [] b e = (refl, e)
stands-parts k (o ∷ a) b e = let p = and_parts _ _ e in let q = stands-parts k a b p.1 in (and_from _ _ p.0 q.0, q.1)

-- an expression, as legality reads it, is clear where its names stand
pub record ClearLaw (reading : Reading) (clear : Clear) (names : Occurrences) : Type 0 where
  pub at : (k : Known) → ClearTable k → loops_stand k names ≡ true → faults_in (reading k).1 ≡ [] → clear k ≡ true

module _ {E : Type 0} (reading : E → Reading) (clear : E → Clear) (names : E → Occurrences) (law : (e : E) → ClearLaw (reading e) (clear e) (names e)) where
  module _ (k : Known) (t : ClearTable k) where
    operand-clear : (e : E) → loops_stand k (names e) ≡ true → faults_in (operand_read same_reading (reading e) k).1 ≡ [] → clear e k ≡ true
    unfolding operand_read
    operand-clear e s f = (law e).at k t s (none-of _ _ f).0

    -- ---- chains

    operands-known : (operator : LogicalOperator) (os : List (Operand E)) (left : Read)
        → loops_stand k (flat_map (names_in_operand same_names) (map (operand_of names) os)) ≡ true
        → faults_in (operands_read same_reading operator left (map (operand_of reading) os) k).1 ≡ []
        → operands_clear same_clear (map (operand_of clear) os) k ≡ true
    unfolding operands_read
    operands-known operator [] left s f = refl
    operands-known operator (o ∷ os) left s f =
        let parts = stands-parts k (names o.relation) _ s in
        let p = none-of _ _ f in
        let q = none-of _ _ p.1 in
        and_from _ _ (operand-clear o.relation parts.0 p.0) (operands-known operator os _ parts.1 q.1)

    addends-known : (xs : List (Addend E)) (left : Read) → loops_stand k (flat_map (names_in_addend same_names) (map (addend_of names) xs)) ≡ true
        → faults_in (addends_read same_reading left (map (addend_of reading) xs) k).1 ≡ [] → addends_clear same_clear (map (addend_of clear) xs) k ≡ true
    unfolding addends_read
    addends-known [] left s f = refl
    addends-known (a ∷ rest) left s f =
        let parts = stands-parts k (names a.term) _ s in
        let p = none-of _ _ f in
        let q = none-of _ _ p.1 in
        and_from _ _ (operand-clear a.term parts.0 p.0) (addends-known rest _ parts.1 q.1)

    factors-known : (xs : List (Multiplied E)) (left : Read) → loops_stand k (flat_map (names_in_multiplied same_names) (map (multiplied_of names) xs)) ≡ true
        → faults_in (factors_read same_reading left (map (multiplied_of reading) xs) k).1 ≡ []
        → factors_clear same_clear (map (multiplied_of clear) xs) k ≡ true
    unfolding factors_read
    factors-known [] left s f = refl
    factors-known (m ∷ rest) left s f =
        let parts = stands-parts k (names m.factor) _ s in
        let p = none-of _ _ f in
        let q = none-of _ _ p.1 in
        and_from _ _ (operand-clear m.factor parts.0 p.0) (factors-known rest _ parts.1 q.1)

    -- ---- names

    arguments-known : (xs : List (Argument E)) → loops_stand k (flat_map (names_in_argument same_names) (map (argument_of names) xs)) ≡ true
        → faults_in (arguments_read same_reading (map (argument_of reading) xs) k).1 ≡ [] → arguments_clear same_clear (map (argument_of clear) xs) k ≡ true
    unfolding arguments_read
    arguments-known [] s f = refl
    arguments-known (a ∷ rest) s f =
        let parts = stands-parts k (names a.value) _ s in
        let p = none-of _ _ f in
        let q = none-of _ _ p.1 in
        and_from _ _ ((law a.value).at k t parts.0 p.0) (arguments-known rest parts.1 q.1)

    same-has : (xs : List (Argument E))
        → not (is_empty (arguments_read same_reading (map (argument_of reading) xs) k).0) ≡ not (is_empty (map (argument_of clear) xs))
    unfolding arguments_read
    same-has [] = refl
    same-has (a ∷ rest) = refl

    named-known : (name : Name) (a : Option AttributeDesignator) (xs : List (Argument E))
        → loops_stand k (names_in_form same_names (mapped_form names (form.Named name a xs))) ≡ true
        → faults_in (named_expression same_reading name a (map (argument_of reading) xs) k).1 ≡ []
        → named_clear same_clear name a (map (argument_of clear) xs) k ≡ true
    unfolding named_expression
    named-known name None xs s f =
        let parts = and_parts _ _ s in
        let p = none-of _ _ f in
        and_from _ _
        (sym (ap (λ b. name_clear k name b) (same-has xs)) ∙ name-found k t name (arguments_read same_reading (map (argument_of reading) xs) k).0 parts.0 p.1)
        (arguments-known xs parts.1 p.0)
    named-known name (Some a) xs s f =
        let parts = and_parts _ _ s in
        let p = none-of _ _ f in
        and_from _ _
        (sym (ap (λ b. attribute_clear k name a.attribute b) (same-has xs))
        ∙ attribute-found k t name a.attribute (arguments_read same_reading (map (argument_of reading) xs) k).0 parts.0 p.1)
        (arguments-known xs parts.1 p.0)

    -- ---- forms

    form-known : (x : ExpressionForm E) → loops_stand k (names_in_form same_names (mapped_form names x)) ≡ true
        → faults_in (form_read same_reading (mapped_form reading x) k).1 ≡ [] → form_clear same_clear (mapped_form clear x) k ≡ true
    unfolding logical_expression relational_expression adding_expression multiplying_expression signed_expression highest_expression bracketed_expression
    form-known (form.Logical operator first others) s f =
        let parts = stands-parts k (names first) _ s in
        let p = none-of _ _ f in
        and_from _ _ (operand-clear first parts.0 p.0) (operands-known operator (others.first ∷ others.others) _ parts.1 p.1)
    form-known (form.Relational left place operator right) s f =
        let parts = stands-parts k (names left) _ s in
        let p = none-of _ _ f in
        let q = none-of _ _ p.1 in
        and_from _ _ (operand-clear left parts.0 p.0) (operand-clear right parts.1 q.0)
    form-known (form.Adding first others) s f =
        let parts = stands-parts k (names first) _ s in
        let p = none-of _ _ f in
        and_from _ _ (operand-clear first parts.0 p.0) (addends-known (others.first ∷ others.others) _ parts.1 p.1)
    form-known (form.Signed place sign operand) s f = (law operand).at k t s (none-of _ _ f).0
    form-known (form.Multiplying first others) s f =
        let parts = stands-parts k (names first) _ s in
        let p = none-of _ _ f in
        and_from _ _ (operand-clear first parts.0 p.0) (factors-known (others.first ∷ others.others) _ parts.1 p.1)
    form-known (form.Highest place operator operand) s f = operand-clear operand s (none-of _ _ f).0
    form-known (form.Number place literal) s f = refl
    form-known (form.Text place text) s f = refl
    form-known (form.Null place) s f = refl
    form-known (form.Bracketed place inner) s f = (law inner).at k t s (none-of _ _ f).0
    form-known (form.Named name a arguments) s f = named-known name a arguments s f

  form-law : (x : ExpressionForm E)
      → ClearLaw (form_read same_reading (mapped_form reading x)) (form_clear same_clear (mapped_form clear x)) (names_in_form same_names (mapped_form names x))
  form-law x = record { at = λ k t. form-known k t x }

-- ---- expressions

abbrev Lawful : Expression → Type 0
Lawful e = ClearLaw (read_expression e) (expression_clear e) (names_in_expression e)

module _ (x : Expression-F Expression) (y : Expression-F ((e : Expression) × Lawful e))
    (is : map-Expression ((e : Expression) × Lawful e) Expression (λ e. e.0) y ≡ x) where
  same-layer : {A : Type 0} (f : Expression → A) → mapped_form (λ (e : (e : Expression) × Lawful e). f e.0) y.form ≡ (map-Expression Expression A f x).form
  same-layer {A} f =
      sym (mapped-twice f (λ (e : (e : Expression) × Lawful e). e.0) y.form) ∙ ap (λ (z : Expression-F Expression). (map-Expression Expression A f z).form) is

  rolled : {A : Type 0} (step : ExpressionForm A → A)
      → step (mapped_form (λ (e : (e : Expression) × Lawful e). fold-Expression A (λ z. step z.form) e.0) y.form)
      ≡ fold-Expression A (λ z. step z.form) (roll-Expression x)
  rolled {A} step = ap step (same-layer (fold-Expression A (λ z. step z.form))) ∙ sym (fold-roll-Expression A (λ z. step z.form) x)

  rolled-reading : form_read same_reading (mapped_form (λ (e : (e : Expression) × Lawful e). read_expression e.0) y.form) ≡ read_expression (roll-Expression x)
  unfolding read_expression
  rolled-reading = rolled (form_read same_reading)

  rolled-law : Lawful (roll-Expression x)
  rolled-law =
      subst (λ reading. ClearLaw reading (expression_clear (roll-Expression x)) (names_in_expression (roll-Expression x))) rolled-reading
      (subst (λ clear. ClearLaw (form_read same_reading (mapped_form (λ (e : (e : Expression) × Lawful e). read_expression e.0) y.form)) clear
      (names_in_expression (roll-Expression x)))
      (rolled (form_clear same_clear))
      (subst (λ names. ClearLaw (form_read same_reading (mapped_form (λ (e : (e : Expression) × Lawful e). read_expression e.0) y.form))
      (form_clear same_clear (mapped_form (λ (e : (e : Expression) × Lawful e). expression_clear e.0) y.form)) names)
      (rolled (names_in_form same_names))
      (form-law (λ (e : (e : Expression) × Lawful e). read_expression e.0) (λ e. expression_clear e.0) (λ e. names_in_expression e.0) (λ e. e.1) y.form)))

pub expression-known : (e : Expression) → Lawful e
expression-known = ind-Expression Lawful rolled-law

pub clear_expressions : ClearExpressions
clear_expressions k t e s f = (expression-known e).at k t s f
