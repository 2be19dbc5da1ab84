-- An expression that is the name of a variable is built as one: its index is, where it has one.
use Rattle.std.proofs.Common.{◌≡◌, ℕ, Bool, true, false, cond, not, ◌&&◌, List, [], ◌∷◌, ◌++◌, map, Option, Some, None, option_map, is_none, refl, sym, ap, ◌∙◌}
use Rattle.std.specs.Prelude.{unwrap_or}
use Rattle.std.proofs.lemmas.Bool.{and_parts, false≢true}
use Rattle.ann_base.specs.declared.places.Place.{Place}
use Rattle.ada_tree.specs.declared.names.Name.{Name}
use Rattle.ada_tree.specs.declared.operators.LogicalOperator.{LogicalOperator}
use Rattle.ada_tree.specs.declared.operators.Sign.TheVariants as sign
use Rattle.ada_tree.specs.declared.expressions.Expression.{Expression}
use Rattle.ada_tree.specs.declared.expressions.Expression.TheFolds.{fold_out-Expression}
use Rattle.ada_tree.specs.declared.expressions.Expression.TheViews.{out-Expression}
use Rattle.ada_tree.specs.declared.expressions.ExpressionForm.{ExpressionForm}
use Rattle.ada_tree.specs.declared.expressions.ExpressionForm.TheVariants as form
use Rattle.ada_tree.specs.declared.expressions.Operand.{Operand}
use Rattle.ada_tree.specs.declared.expressions.Addend.{Addend}
use Rattle.ada_tree.specs.declared.expressions.Multiplied.{Multiplied}
use Rattle.ada_tree.specs.declared.expressions.Argument.{Argument}
use Rattle.ada_regions.specs.declared.entities.Denoted.{Denoted}
use Rattle.ada_regions.specs.declared.entities.Denoted.TheVariants as denotes
use Rattle.ada_regions.specs.declared.entities.EntityKind.{EntityKind}
use Rattle.ada_regions.specs.declared.entities.EntityKind.TheVariants as entity
use Rattle.ada_regions.specs.declared.table.Names.{Names}
use Rattle.ada_regions.specs.declared.types.Subtype.{Subtype}
use Rattle.ada_regions.specs.Completions.{holds_of}
use Rattle.ada_regions.specs.Names.{denoted_by, kind_at}
use Rattle.ada_regions.specs.Words.{and_then}
use Rattle.ann_base.specs.Lists.{is_empty}
use Rattle.ada_image.specs.ImageOfExpressions.{first_argument}
use Rattle.ada_legality.specs.declared.parts.ActualPart.{ActualPart}
use Rattle.ada_legality.specs.declared.reading.Read.{Read}
use Rattle.ada_legality.specs.declared.reading.Shape.TheVariants as shapes
use Rattle.ada_legality.specs.declared.reading.Typed.TheVariants as typing
use Rattle.ada_legality.specs.declared.standing.Known.{Known}
use Rattle.ada_legality.specs.Faults.{faults_in}
use Rattle.ada_legality.specs.Places.{place_of}
use Rattle.ada_legality.specs.Types.{has_type, typed_by}
use Rattle.ada_legality.specs.Attributes.{is_variable, is_variable_kind}
use Rattle.ada_legality.specs.Values.{denoted_kind, denotes_function, is_function_kind, subtype_of_entity, subtype_of_object}
use Rattle.ada_legality.specs.Values.{subtype_with_index, typed_call, typed_denoted, typed_name, typed_value}
use Rattle.ada_legality.specs.Reading.{Reading, shape_is_variable, first_relation, with_relation, first_term, with_term, with_factor}
use Rattle.ada_legality.specs.Reading.{compared_read, signed_read, highest_read, bracketed_read, number_read, text_read}
use Rattle.ada_legality.specs.ReadExpressions.{arguments_read, addends_read, factors_read, operands_read, attribute_read, name_judged, name_read}
use Rattle.ada_legality.specs.ReadExpressions.{name_shape, named_expression, logical_expression, relational_expression, adding_expression}
use Rattle.ada_legality.specs.ReadExpressions.{multiplying_expression, signed_expression, highest_expression, bracketed_expression}
use Rattle.ada_legality.specs.ReadExpressions.{denoted_judged, form_read, may_be_value, reading_layer, read_expression, same_reading}
use Rattle.ada_image.specs.BuiltExpressions.{expression_built}
use Rattle.ada_image.specs.BuiltStatements.{value_if_there, variable_built, variable_form_built}
use Rattle.image_laws.proofs.Images.Expressions.{argument_of, mapped_form}
use Rattle.image_laws.specs.Clear.{arguments_clear, clear_layer, denoted_clear, expression_clear, form_clear, name_clear, same_clear}
use Rattle.image_laws.proofs.Forms.Nothing.{none-of, unless-none}
use Rattle.image_laws.proofs.Forms.Operands.{OperandWell, arguments-well}
use Rattle.image_laws.proofs.Forms.Actuals.{actuals_of}
use Rattle.image_laws.proofs.Forms.Denotations.{element-well}
use Rattle.image_laws.proofs.Forms.Expressions.{expression-law}

-- ---- chains of operators are no names

pub operands-shape : (operator : LogicalOperator) (os : List (Operand Reading)) (left : Read) (k : Known)
    → (operands_read same_reading operator left os k).0.shape ≡ left.shape
unfolding operands_read with_relation
operands-shape operator [] left k = refl
operands-shape operator (o ∷ os) left k = operands-shape operator os _ k

pub addends-shape : (xs : List (Addend Reading)) (left : Read) (k : Known) → (addends_read same_reading left xs k).0.shape ≡ left.shape
unfolding addends_read with_term
addends-shape [] left k = refl
addends-shape (a ∷ xs) left k = addends-shape xs _ k

pub factors-shape : (xs : List (Multiplied Reading)) (left : Read) (k : Known) → (factors_read same_reading left xs k).0.shape ≡ left.shape
unfolding factors_read with_factor
factors-shape [] left k = refl
factors-shape (m ∷ xs) left k = factors-shape xs _ k

chosen-shape : (b : Bool) (r s : Read) → r.shape ≡ shapes.Other → s.shape ≡ shapes.Other → shape_is_variable (cond b r s).shape ≡ true → ⊥
chosen-shape true r s p q e = false≢true (sym (ap shape_is_variable p) ∙ e)
chosen-shape false r s p q e = false≢true (sym (ap shape_is_variable q) ∙ e)

-- ---- names

variable-no_function : (kind : Option EntityKind) → holds_of is_variable_kind kind ≡ true → holds_of is_function_kind kind ≡ false
variable-no_function None e = refl
variable-no_function (Some (entity.Object s constant x declaration)) e = refl
variable-no_function (Some (entity.Parameter s mode declaration)) e = refl
variable-no_function (Some (entity.Component s owner declaration)) e = refl
variable-no_function (Some _) e = absurd (false≢true e)

type-there : (n : Names) (s : Option Subtype) → has_type (typed_by (subtype_with_index n true s)) ≡ true → is_none s ≡ false
unfolding subtype_with_index
type-there n None v = absurd (false≢true v)
type-there n (Some s) v = refl

module _ (k : Known) (place : Place) (a : Argument Expression) (rest : List (Argument Expression))
    (well : OperandWell (read_expression a.value k).0 (expression_built a.value k.names)) where
  abbrev actuals : List ActualPart
  actuals = actuals_of read_expression expression_built k (a ∷ rest)

  object-there : (e : ℕ) → has_type (typed_denoted k true (denotes.Entity e)) ≡ true → holds_of is_function_kind (kind_at k.names e) ≡ false
      → is_none (subtype_of_entity k (denotes.Entity e)) ≡ false
  unfolding typed_denoted denotes_function typed_value subtype_of_entity
  object-there e t n =
      type-there k.names (and_then (kind_at k.names e) (subtype_of_object k e))
      (sym (ap (λ b. has_type
      (cond b (typed_call k (denotes.Entity e)) (typed_by (subtype_with_index k.names true (and_then (kind_at k.names e) (subtype_of_object k e)))))) n)
      ∙ t)

  variable-denoted : (d : Option Denoted) → holds_of is_variable_kind (and_then d (denoted_kind k.names)) ≡ true
      → has_type (unwrap_or (option_map (typed_denoted k true) d) typing.WithoutType) ≡ true
      → denoted_clear k d ≡ true → unwrap_or (option_map (may_be_value k true) d) false ≡ true
      → faults_in (unwrap_or (option_map (denoted_judged k place actuals) d) []) ≡ [] → expression_built a.value k.names ≡ true
  variable-denoted None s t i m f = absurd (false≢true s)
  variable-denoted (Some (denotes.Unit u)) s t i m f = absurd (false≢true s)
  variable-denoted (Some (denotes.Item u item)) s t i m f = absurd (false≢true s)
  variable-denoted (Some (denotes.Entity e)) s t i m f =
      let n = variable-no_function (kind_at k.names e) s in
      element-well read_expression expression_clear expression_built expression-law k place a rest e well (object-there e t n) n i m f

name-variable : (name : Name) (xs : List (Argument Expression)) (k : Known)
    → faults_in
    ((arguments_read same_reading (map (argument_of read_expression) xs) k).1 ++ name_judged k name (actuals_of read_expression expression_built k xs))
    ≡ []
    → (name_clear k name (not (is_empty (map (argument_of expression_clear) xs))) && arguments_clear same_clear (map (argument_of expression_clear) xs) k)
    ≡ true
    → is_variable k name ≡ true → value_if_there (first_argument xs) k.names ≡ true
unfolding name_judged typed_name is_variable arguments_read
name-variable name [] k f c s = refl
name-variable name (a ∷ rest) k f c s =
    let parts = and_parts _ _ c in
    let here = and_parts _ _ parts.0 in
    let known = and_parts _ _ here.1 in
    let p = none-of _ _ f in
    let q = none-of _ _ p.1 in
    let wells = arguments-well read_expression expression_clear expression_built expression-law (a ∷ rest) k p.0 parts.1 in
    variable-denoted k (place_of name) a rest wells.0 (denoted_by k.names name) (and_parts _ _ s).0 here.0 known.1 (unless-none _ _ _ q.0) q.1

-- ---- forms

variable-form : (x : ExpressionForm Expression) (k : Known) → faults_in (form_read same_reading (mapped_form read_expression x) k).1 ≡ []
    → form_clear same_clear (mapped_form expression_clear x) k ≡ true
    → shape_is_variable (form_read same_reading (mapped_form read_expression x) k).0.shape ≡ true → variable_form_built x k.names ≡ true
unfolding logical_expression relational_expression adding_expression multiplying_expression signed_expression highest_expression bracketed_expression
    first_relation compared_read first_term signed_read highest_read bracketed_read number_read text_read named_expression name_read name_shape attribute_read
variable-form (form.Logical operator first others) k f c s = absurd (false≢true (sym (ap shape_is_variable (operands-shape operator _ _ k)) ∙ s))
variable-form (form.Relational left place operator right) k f c s = absurd (false≢true s)
variable-form (form.Adding first others) k f c s = absurd (false≢true (sym (ap shape_is_variable (addends-shape _ _ k)) ∙ s))
variable-form (form.Signed place sign.Plus operand) k f c s = absurd (false≢true s)
variable-form (form.Signed place sign.Minus operand) k f c s = absurd (chosen-shape _ _ _ refl refl s)
variable-form (form.Multiplying first others) k f c s = absurd (false≢true (sym (ap shape_is_variable (factors-shape _ _ k)) ∙ s))
variable-form (form.Highest place operator operand) k f c s = absurd (false≢true s)
variable-form (form.Number place literal) k f c s = absurd (false≢true s)
variable-form (form.Text place text) k f c s = absurd (false≢true s)
variable-form (form.Null place) k f c s = absurd (false≢true s)
variable-form (form.Bracketed place inner) k f c s = absurd (false≢true s)
variable-form (form.Named name None arguments) k f c s = name-variable name arguments k f c s
variable-form (form.Named name (Some a) arguments) k f c s = absurd (false≢true s)

pub form-reading : (e : Expression) → read_expression e ≡ form_read same_reading (mapped_form read_expression (out-Expression e).form)
unfolding read_expression
form-reading e = fold_out-Expression Reading reading_layer e

pub variable-well : (e : Expression) (k : Known) → faults_in (read_expression e k).1 ≡ [] → expression_clear e k ≡ true
    → shape_is_variable (read_expression e k).0.shape ≡ true → variable_built e k.names ≡ true
variable-well e k f c s =
    variable-form (out-Expression e).form k (sym (ap (λ (r : Reading). faults_in (r k).1) (form-reading e)) ∙ f)
    (sym (ap (λ (t : Known → Bool). t k) (fold_out-Expression (Known → Bool) clear_layer e)) ∙ c)
    (sym (ap (λ (r : Reading). shape_is_variable (r k).0.shape) (form-reading e)) ∙ s)
