-- Each expression that legality reads as a value, and in which no rule is broken, is built: by induction over its forms.
use Rattle.std.proofs.Common.{◌≡◌, Bool, true, false, cond, not, ◌&&◌, List, [], ◌∷◌, ◌++◌, map, Option, Some, None, option_map, refl, sym, ap, subst, ◌∙◌}
use Rattle.std.proofs.lemmas.Bool.{and_from, and_parts, false≢true}
use Rattle.ann_base.specs.declared.places.Place.{Place}
use Rattle.ada_lex.specs.Meaning.{decimals_of}
use Rattle.ada_tree.specs.declared.names.Name.{Name}
use Rattle.ada_tree.specs.declared.operators.Sign.TheVariants as sign
use Rattle.ada_tree.specs.declared.expressions.Expression.{Expression}
use Rattle.ada_tree.specs.declared.expressions.Expression.TheOpen.{Expression-F}
use Rattle.ada_tree.specs.declared.expressions.Expression.TheFolds.{ind-Expression, map-Expression, fold-Expression, fold-roll-Expression}
use Rattle.ada_tree.specs.declared.expressions.Expression.TheViews.{roll-Expression}
use Rattle.ada_tree.specs.declared.expressions.ExpressionForm.{ExpressionForm}
use Rattle.ada_tree.specs.declared.expressions.ExpressionForm.TheVariants as form
use Rattle.ada_tree.specs.declared.expressions.Argument.{Argument}
use Rattle.ada_tree.specs.declared.expressions.AttributeDesignator.{AttributeDesignator}
use Rattle.profile_image.specs.declared.expressions.UnaryOperator.TheVariants as unary
use Rattle.ada_regions.specs.Names.{denoted_by}
use Rattle.ann_base.specs.Lists.{is_empty}
use Rattle.ada_image.specs.ImageOfExpressions.{relational_operator, highest_operator}
use Rattle.ada_legality.specs.declared.reading.Read.{Read}
use Rattle.ada_legality.specs.declared.reading.Shape.{Shape}
use Rattle.ada_legality.specs.declared.reading.Shape.TheVariants as shapes
use Rattle.ada_legality.specs.declared.reading.Typed.TheVariants as typing
use Rattle.ada_legality.specs.declared.standing.Known.{Known}
use Rattle.ada_legality.specs.Faults.{faults_in}
use Rattle.ada_legality.specs.Places.{place_of}
use Rattle.ada_legality.specs.Types.{has_type, typed_if, operation_type_of_one}
use Rattle.ada_legality.specs.Values.{typed_name}
use Rattle.ada_legality.specs.Reading.{Reading, as_operand, calls_function, expected, is_number, number_read, text_read, bracketed_read, signed_read}
use Rattle.ada_legality.specs.Reading.{signed_judged, first_relation, compared_read, first_term, highest_read, plain_read, with_minus, operation_of_one_judged}
use Rattle.ada_legality.specs.ReadExpressions.{name_shape, name_read, attribute_read, name_judged, arguments_read, named_expression, operand_read}
use Rattle.ada_legality.specs.ReadExpressions.{logical_expression, relational_expression, adding_expression, multiplying_expression}
use Rattle.ada_legality.specs.ReadExpressions.{signed_expression, highest_expression, bracketed_expression, form_read, same_reading, read_expression}
use Rattle.ada_image.specs.BuiltExpressions.{Built, same_built, denoted_built, named_built, form_built, expression_built}
use Rattle.image_laws.proofs.Images.Expressions.{argument_of, mapped_form, mapped-twice}
use Rattle.image_laws.specs.Clear.{Clear, same_clear, named_clear, arguments_clear, attribute_clear, name_clear, form_clear, expression_clear}
use Rattle.image_laws.specs.Laws.{ReadExpressionsBuilt, ExpectedExpressionsBuilt}
use Rattle.image_laws.proofs.Forms.Nothing.{none-of, unless-none}
use Rattle.image_laws.proofs.Forms.Operators.{operation-there, operation-values, operation-of_one, one-there, typed-there}
use Rattle.image_laws.proofs.Forms.Operands.{ReadWell, ReadLaw, operand-well, arguments-well, no-call, no-call-as_operand}
use Rattle.image_laws.proofs.Forms.Chains.{operands-well, addends-well, factors-well}
use Rattle.image_laws.proofs.Forms.Actuals.{actuals_of, fitted-values}
use Rattle.image_laws.proofs.Forms.Attributes.{attribute-well}
use Rattle.image_laws.proofs.Forms.Denotations.{denoted-well}

number-typed : (b : Bool) → has_type (cond b typing.OfWholeNumber typing.OfPointedNumber) ≡ true
number-typed true = refl
number-typed false = refl

number-no_call : (s : Shape) → is_number s ≡ true → calls_function s ≡ false
number-no_call shapes.Number e = refl
number-no_call shapes.Other e = refl
number-no_call (shapes.Name n) e = absurd (false≢true e)

-- minus before a number, and before anything else
minus-well : (at : Place) (r : Read) (built b : Bool) → is_number r.shape ≡ b → ReadWell r built
    → faults_in (cond b [] (as_operand r ++ operation_of_one_judged at unary.Minus r.typed)) ≡ []
    → ReadWell (cond b (record (plain_read at r.typed) { literal = option_map (with_minus at) r.literal })
    (plain_read at (typed_if (operation_type_of_one unary.Minus r.typed)))) built
minus-well at r built true q w f = record { typed = w.typed; built = λ v g. w.built v (number-no_call r.shape q) }
minus-well at r built false q w f =
    let p = none-of _ _ f in
    let there = one-there at unary.Minus r.typed p.1 w.typed in
    record { typed = typed-there _ there; built = λ v g. w.built (operation-of_one unary.Minus r.typed there) (no-call-as_operand r p.0) }

module _ {E : Type 0} (reading : E → Reading) (clear : E → Clear) (built : E → Built) (law : (e : E) → ReadLaw (reading e) (clear e) (built e)) where
  -- ---- names

  same-has : (k : Known) (xs : List (Argument E)) → not (is_empty (map (argument_of clear) xs)) ≡ not (is_empty (actuals_of reading built k xs))
  unfolding arguments_read
  same-has k [] = refl
  same-has k (a ∷ rest) = refl

  read-has : (k : Known) (xs : List (Argument E)) → not (is_empty (actuals_of reading built k xs)) ≡ not (is_empty (map (argument_of reading) xs))
  unfolding arguments_read
  read-has k [] = refl
  read-has k (a ∷ rest) = refl

  name-well : (name : Name) (xs : List (Argument E)) (k : Known)
      → faults_in ((arguments_read same_reading (map (argument_of reading) xs) k).1 ++ name_judged k name (actuals_of reading built k xs)) ≡ []
      → (name_clear k name (not (is_empty (actuals_of reading built k xs))) && arguments_clear same_clear (map (argument_of clear) xs) k) ≡ true
      → ReadWell (name_read k name (not (is_empty (actuals_of reading built k xs))))
      (denoted_built same_built (map (argument_of built) xs) (denoted_by k.names name) k.names)
  unfolding name_judged name_read name_shape typed_name
  name-well name xs k f c =
      let parts = and_parts _ _ c in
      let here = and_parts _ _ parts.0 in
      let known = and_parts _ _ here.1 in
      let p = none-of _ _ f in
      let q = none-of _ _ p.1 in
      record {
        typed = here.0;
        built =
            λ v g. denoted-well reading clear built law k (place_of name) xs (arguments-well reading clear built law xs k p.0 parts.1)
            (denoted_by k.names name) v g known.0 known.1 (unless-none _ _ _ q.0) q.1;
      }

  named-well : (name : Name) (a : Option AttributeDesignator) (xs : List (Argument E)) (k : Known)
      → faults_in (named_expression same_reading name a (map (argument_of reading) xs) k).1 ≡ []
      → named_clear same_clear name a (map (argument_of clear) xs) k ≡ true
      → ReadWell (named_expression same_reading name a (map (argument_of reading) xs) k).0
      (named_built same_built name a (map (argument_of built) xs) k.names)
  unfolding named_expression attribute_read
  named-well name None xs k f c =
      subst (λ h. ReadWell (name_read k name h) (denoted_built same_built (map (argument_of built) xs) (denoted_by k.names name) k.names)) (read-has k xs)
      (name-well name xs k f (ap (λ h. name_clear k name h && arguments_clear same_clear (map (argument_of clear) xs) k) (sym (same-has k xs)) ∙ c))
  named-well name (Some a) xs k f c =
      let here =
      and_parts _ _
      (and_parts _ _
      (ap (λ h. attribute_clear k name a.attribute h && arguments_clear same_clear (map (argument_of clear) xs) k) (sym (same-has k xs ∙ read-has k xs))
      ∙ c)).0 in
      record { typed = here.0; built = λ v g. attribute-well k name a.attribute _ v here.1 }

  -- ---- forms

  form-well : (x : ExpressionForm E) (k : Known) → faults_in (form_read same_reading (mapped_form reading x) k).1 ≡ []
      → form_clear same_clear (mapped_form clear x) k ≡ true
      → ReadWell (form_read same_reading (mapped_form reading x) k).0 (form_built same_built (mapped_form built x) k.names)
  unfolding logical_expression relational_expression adding_expression multiplying_expression signed_expression highest_expression bracketed_expression
      first_relation compared_read first_term signed_read signed_judged highest_read bracketed_read number_read text_read
  form-well (form.Logical operator first others) k f c =
      let parts = and_parts _ _ c in
      let p = none-of _ _ f in
      let left = operand-well reading clear built law first k p.0 parts.0 in
      let chain =
      operands-well reading clear built law operator (others.first ∷ others.others)
      (first_relation operator (operand_read same_reading (reading first) k).0) k p.1 parts.1 left.typed in
      record { typed = chain.typed; built = λ v g. and_from _ _ (left.built (chain.built v).0) (chain.built v).1 }
  form-well (form.Relational left place operator right) k f c =
      let parts = and_parts _ _ c in
      let p = none-of _ _ f in
      let q = none-of _ _ p.1 in
      let first = operand-well reading clear built law left k p.0 parts.0 in
      let second = operand-well reading clear built law right k q.0 parts.1 in
      let there = operation-there place (relational_operator operator) _ _ q.1 first.typed second.typed in
      let both = operation-values (relational_operator operator) _ _ there in
      record { typed = typed-there _ there; built = λ v g. and_from _ _ (first.built both.0) (second.built both.1) }
  form-well (form.Adding first others) k f c =
      let parts = and_parts _ _ c in
      let p = none-of _ _ f in
      let left = operand-well reading clear built law first k p.0 parts.0 in
      let chain =
      addends-well reading clear built law (others.first ∷ others.others)
      (first_term (operand_read same_reading (reading first) k).0) k p.1 parts.1 left.typed in
      record { typed = chain.typed; built = λ v g. and_from _ _ (left.built (chain.built v).0) (chain.built v).1 }
  form-well (form.Signed place sign.Plus operand) k f c =
      let p = none-of _ _ f in
      let q = none-of _ _ p.1 in
      let w = (law operand).at k p.0 c in
      let there = one-there place unary.Plus _ q.1 w.typed in
      record { typed = typed-there _ there; built = λ v g. w.built (operation-of_one unary.Plus _ there) (no-call-as_operand (reading operand k).0 q.0) }
  form-well (form.Signed place sign.Minus operand) k f c =
      let p = none-of _ _ f in
      minus-well place (reading operand k).0 (built operand k.names) (is_number (reading operand k).0.shape) refl ((law operand).at k p.0 c) p.1
  form-well (form.Multiplying first others) k f c =
      let parts = and_parts _ _ c in
      let p = none-of _ _ f in
      let left = operand-well reading clear built law first k p.0 parts.0 in
      let chain =
      factors-well reading clear built law (others.first ∷ others.others)
      (plain_read (operand_read same_reading (reading first) k).0.place (operand_read same_reading (reading first) k).0.typed) k p.1 parts.1 left.typed in
      record { typed = chain.typed; built = λ v g. and_from _ _ (left.built (chain.built v).0) (chain.built v).1 }
  form-well (form.Highest place operator operand) k f c =
      let p = none-of _ _ f in
      let w = operand-well reading clear built law operand k p.0 c in
      let there = one-there place (highest_operator operator) _ p.1 w.typed in
      record { typed = typed-there _ there; built = λ v g. w.built (operation-of_one (highest_operator operator) _ there) }
  form-well (form.Number place literal) k f c = record { typed = number-typed (is_empty (decimals_of literal)); built = λ v g. refl }
  form-well (form.Text place text) k f c = record { typed = refl; built = λ v g. absurd (false≢true v) }
  form-well (form.Null place) k f c = record { typed = refl; built = λ v g. absurd (false≢true v) }
  form-well (form.Bracketed place inner) k f c =
      let p = none-of _ _ f in
      let w = (law inner).at k p.0 c in
      record { typed = w.typed; built = λ v g. w.built v (no-call (reading inner k).0 p.1) }
  form-well (form.Named name a arguments) k f c = named-well name a arguments k f c

  pub form-law : (x : ExpressionForm E)
      → ReadLaw (form_read same_reading (mapped_form reading x)) (form_clear same_clear (mapped_form clear x)) (form_built same_built (mapped_form built x))
  form-law x = record { at = form-well x }

-- ---- expressions

abbrev Lawful : Expression → Type 0
Lawful e = ReadLaw (read_expression e) (expression_clear e) (expression_built e)

module _ (x : Expression-F Expression) (y : Expression-F ((e : Expression) × Lawful e))
    (is : map-Expression ((e : Expression) × Lawful e) Expression (λ e. e.0) y ≡ x) where
  same-layer : {A : Type 0} (f : Expression → A) → mapped_form (λ (e : (e : Expression) × Lawful e). f e.0) y.form ≡ (map-Expression Expression A f x).form
  same-layer {A} f =
      sym (mapped-twice f (λ (e : (e : Expression) × Lawful e). e.0) y.form) ∙ ap (λ (z : Expression-F Expression). (map-Expression Expression A f z).form) is

  rolled : {A : Type 0} (step : ExpressionForm A → A)
      → step (mapped_form (λ (e : (e : Expression) × Lawful e). fold-Expression A (λ z. step z.form) e.0) y.form)
      ≡ fold-Expression A (λ z. step z.form) (roll-Expression x)
  rolled {A} step = ap step (same-layer (fold-Expression A (λ z. step z.form))) ∙ sym (fold-roll-Expression A (λ z. step z.form) x)

  rolled-reading : form_read same_reading (mapped_form (λ (e : (e : Expression) × Lawful e). read_expression e.0) y.form) ≡ read_expression (roll-Expression x)
  unfolding read_expression
  rolled-reading = rolled (form_read same_reading)

  rolled-law : Lawful (roll-Expression x)
  rolled-law =
      subst (λ reading. ReadLaw reading (expression_clear (roll-Expression x)) (expression_built (roll-Expression x))) rolled-reading
      (subst (λ clear. ReadLaw (form_read same_reading (mapped_form (λ (e : (e : Expression) × Lawful e). read_expression e.0) y.form)) clear
      (expression_built (roll-Expression x)))
      (rolled (form_clear same_clear))
      (subst (λ built. ReadLaw (form_read same_reading (mapped_form (λ (e : (e : Expression) × Lawful e). read_expression e.0) y.form))
      (form_clear same_clear (mapped_form (λ (e : (e : Expression) × Lawful e). expression_clear e.0) y.form)) built)
      (rolled (form_built same_built))
      (form-law (λ (e : (e : Expression) × Lawful e). read_expression e.0) (λ e. expression_clear e.0) (λ e. expression_built e.0) (λ e. e.1) y.form)))

pub expression-law : (e : Expression) → Lawful e
expression-law = ind-Expression Lawful rolled-law

-- ---- the laws

pub read_expressions_built : ReadExpressionsBuilt
read_expressions_built k e c f v g = ((expression-law e).at k f c).built v g

pub expected_expressions_built : ExpectedExpressionsBuilt
unfolding expected
expected_expressions_built k e asked t c h f =
    let p = none-of _ _ f in
    let q = none-of _ _ p.1 in
    let w = (expression-law e).at k p.0 c in
    w.built (fitted-values asked (read_expression e k).0 t h q.1 w.typed) (no-call (read_expression e k).0 q.0)
