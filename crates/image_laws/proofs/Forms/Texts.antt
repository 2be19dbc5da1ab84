-- What Put_Line writes is built, where no rule is broken: a text, an Image of a value, or these joined.
use Rattle.std.proofs.Common.{◌≡◌, ℕ, Bool, true, false, cond, not, ◌&&◌, ◌||◌, List, [], ◌∷◌, ◌++◌}
use Rattle.std.proofs.Common.{map, Option, Some, None, option_map, is_some, refl, sym, ap, ◌∙◌}
use Rattle.std.specs.Prelude.{unwrap_or}
use Rattle.std.proofs.lemmas.Bool.{and_from, and_parts, false≢true}
use Rattle.ada_tree.specs.declared.names.Name.{Name}
use Rattle.ada_tree.specs.declared.operators.AddingOperator.{AddingOperator}
use Rattle.ada_tree.specs.declared.operators.AddingOperator.TheVariants as adding
use Rattle.ada_tree.specs.declared.operators.Attribute.{Attribute}
use Rattle.ada_tree.specs.declared.operators.Attribute.TheVariants as attribute
use Rattle.ada_tree.specs.declared.operators.LogicalOperator.{LogicalOperator}
use Rattle.ada_tree.specs.declared.operators.MultiplyingOperator.{MultiplyingOperator}
use Rattle.ada_tree.specs.declared.operators.Sign.TheVariants as sign
use Rattle.ada_tree.specs.declared.expressions.Addend.{Addend}
use Rattle.ada_tree.specs.declared.expressions.Argument.{Argument}
use Rattle.ada_tree.specs.declared.expressions.Expression.{Expression}
use Rattle.ada_tree.specs.declared.expressions.Expression.TheFolds.{fold_out-Expression}
use Rattle.ada_tree.specs.declared.expressions.Expression.TheViews.{out-Expression}
use Rattle.ada_tree.specs.declared.expressions.ExpressionForm.{ExpressionForm}
use Rattle.ada_tree.specs.declared.expressions.ExpressionForm.TheVariants as form
use Rattle.ada_tree.specs.declared.expressions.Multiplied.{Multiplied}
use Rattle.ada_tree.specs.declared.expressions.Operand.{Operand}
use Rattle.ada_regions.specs.declared.entities.Denoted.{Denoted}
use Rattle.ada_regions.specs.declared.types.AdaType.{AdaType}
use Rattle.ada_regions.specs.declared.types.Subtype.{Subtype}
use Rattle.ada_regions.specs.Names.{denoted_by}
use Rattle.ada_regions.specs.Subtypes.{mark_denoted}
use Rattle.ada_regions.specs.Words.{and_then}
use Rattle.ann_base.specs.Lists.{is_empty}
use Rattle.ada_image.specs.ImageOfExpressions.{first_argument}
use Rattle.ada_image.specs.BuiltExpressions.{expression_built}
use Rattle.ada_image.specs.BuiltStatements.{piece_built, piece_form_built, pieces_built, text_built, text_form_built, value_there}
use Rattle.ada_legality.specs.declared.parts.ActualPart.{ActualPart}
use Rattle.ada_legality.specs.declared.reading.Asked.TheVariants as asking
use Rattle.ada_legality.specs.declared.reading.Read.{Read}
use Rattle.ada_legality.specs.declared.reading.Typed.TheVariants as typing
use Rattle.ada_legality.specs.declared.standing.Known.{Known}
use Rattle.ada_legality.specs.Attributes.{has_images, typed_attribute, typed_attribute_of}
use Rattle.ada_legality.specs.Calls.{given_before}
use Rattle.ada_legality.specs.Faults.{faults_in}
use Rattle.ada_legality.specs.Places.{place_of}
use Rattle.ada_legality.specs.Reading.{Reading, actuals_numbered, both_lengths, bracketed_read, compared_read}
use Rattle.ada_legality.specs.Reading.{first_relation, first_term, highest_read, image_length, length_if_joined, number_read}
use Rattle.ada_legality.specs.Reading.{signed_read, text_read, type_of_prefix, with_factor, with_relation, with_term}
use Rattle.ada_legality.specs.ReadExpressions.{addends_read, adding_expression, arguments_read, attribute_judged, attribute_read}
use Rattle.ada_legality.specs.ReadExpressions.{bracketed_expression, factors_read, form_read, highest_expression, image_judged}
use Rattle.ada_legality.specs.ReadExpressions.{logical_expression, multiplying_expression, name_read, named_expression, operand_read}
use Rattle.ada_legality.specs.ReadExpressions.{operands_read, read_expression, relational_expression, same_reading, signed_expression}
use Rattle.ada_legality.specs.Types.{discrete_if, has_type, is_discrete, is_of_time}
use Rattle.image_laws.proofs.Images.Expressions.{addend_of, argument_of, mapped_form}
use Rattle.image_laws.specs.Clear.{addends_clear, arguments_clear, attribute_clear, clear_layer, expression_clear, form_clear, same_clear}
use Rattle.image_laws.proofs.Forms.Nothing.{none-of}
use Rattle.image_laws.proofs.Forms.Operators.{ordered-thing}
use Rattle.image_laws.proofs.Forms.Operands.{arguments-well}
use Rattle.image_laws.proofs.Forms.Actuals.{actuals_of, fitted-values, given-one}
use Rattle.image_laws.proofs.Forms.Expressions.{expression-law}
use Rattle.image_laws.proofs.Forms.Variables.{form-reading}

-- ---- chains of other operators are no texts

module _ {X : Type 0} (part : Read → X) where
  operands-keep : ((operator : LogicalOperator) (l r : Read) → part (with_relation operator l r) ≡ part l)
      → (operator : LogicalOperator) (os : List (Operand Reading)) (left : Read) (k : Known)
      → part (operands_read same_reading operator left os k).0 ≡ part left
  unfolding operands_read
  operands-keep same operator [] left k = refl
  operands-keep same operator (o ∷ os) left k = operands-keep same operator os _ k ∙ same operator left _

  factors-keep : ((operator : MultiplyingOperator) (l r : Read) → part (with_factor operator l r) ≡ part l)
      → (xs : List (Multiplied Reading)) (left : Read) (k : Known) → part (factors_read same_reading left xs k).0 ≡ part left
  unfolding factors_read
  factors-keep same [] left k = refl
  factors-keep same (m ∷ xs) left k = factors-keep same xs _ k ∙ same m.operator left _

  addends-keep : ((operator : AddingOperator) (l r : Read) → part (with_term operator l r) ≡ part l)
      → (xs : List (Addend Reading)) (left : Read) (k : Known) → part (addends_read same_reading left xs k).0 ≡ part left
  unfolding addends_read
  addends-keep same [] left k = refl
  addends-keep same (a ∷ xs) left k = addends-keep same xs _ k ∙ same a.operator left _

some-nothing : {X : Type 0} {o : Option X} → is_some o ≡ true → o ≡ None → ⊥
some-nothing s e = false≢true (sym (ap is_some e) ∙ s)

chosen-none : {X : Type 0} (part : Read → Option X) (b : Bool) (r s : Read) → part r ≡ None → part s ≡ None → part (cond b r s) ≡ None
chosen-none part true r s p q = p
chosen-none part false r s p q = q

-- ---- Image: its argument is a value of a discrete type

no-arguments : (b : Bool) → (b && not true) ≡ false
no-arguments true = refl
no-arguments false = refl

has-images : (b : Bool) → has_type (cond b typing.OfText typing.WithoutType) ≡ true → b ≡ true
has-images true t = refl
has-images false t = absurd (false≢true t)

-- a discrete type is there
abbrev Discrete : Option AdaType → Type 0
Discrete o = (t : AdaType) × ((o ≡ Some t) × (is_discrete t ≡ true))

discrete-there : (s : Option Subtype) → unwrap_or (option_map (λ (x : Subtype). is_discrete x.of_type) s) false ≡ true
    → Discrete (and_then s (λ (x : Subtype). discrete_if x.of_type))
discrete-there None d = absurd (false≢true d)
discrete-there (Some s) d = (s.of_type, (ap (λ b. cond b (Some s.of_type) None) d, d))

module _ (k : Known) (name : Name) where
  images-of : (d : Option Denoted) → has_type (unwrap_or (option_map (λ x. typed_attribute k name x attribute.Image) d) typing.WithoutType) ≡ true
      → unwrap_or (option_map (λ (s : Subtype). is_discrete s.of_type) (and_then d (mark_denoted k.names))) false ≡ true
  unfolding typed_attribute has_images
  images-of None t = absurd (false≢true t)
  images-of (Some d) t = has-images _ t

  prefix-there : (has : Bool) → has_type (typed_attribute_of k name attribute.Image has) ≡ true → Discrete (type_of_prefix k name)
  unfolding typed_attribute_of type_of_prefix
  prefix-there has t =
      discrete-there (and_then (denoted_by k.names name) (mark_denoted k.names))
      (images-of (denoted_by k.names name)
      (sym (ap (λ b. has_type
      (cond b typing.WithoutType (unwrap_or (option_map (λ x. typed_attribute k name x attribute.Image) (denoted_by k.names name)) typing.WithoutType)))
      (no-arguments has))
      ∙ t))

  abbrev actuals : List (Argument Expression) → List ActualPart
  actuals = actuals_of read_expression expression_built k

  image-argument : (t : AdaType) → is_discrete t ≡ true → (xs : List (Argument Expression))
      → faults_in (arguments_read same_reading (map (argument_of read_expression) xs) k).1 ≡ []
      → arguments_clear same_clear (map (argument_of expression_clear) xs) k ≡ true
      → faults_in (image_judged k name (actuals xs) (Some t)) ≡ [] → value_there (first_argument xs) k.names ≡ true
  unfolding image_judged actuals_numbered given_before arguments_read
  image-argument t d [] f c g =
      let p = none-of _ _ g in
      let q = none-of _ _ p.0 in
      absurd (false≢true (given-one (place_of name) _ (actuals []) q.0 refl))
  image-argument t d (a ∷ rest) f c g =
      let w = (arguments-well read_expression expression_clear expression_built expression-law (a ∷ rest) k f c).0 in
      w.built (fitted-values asking.ForValue (read_expression a.value k).0 t (ordered-thing t (ap (λ b. b || is_of_time t) d)) (none-of _ _ g).1 w.typed)

  by-attribute : (a : Attribute) (has : Bool) (xs : List (Argument Expression)) → attribute_clear k name a has ≡ true → is_some (image_length k name a) ≡ true
      → faults_in (arguments_read same_reading (map (argument_of read_expression) xs) k).1 ≡ []
      → arguments_clear same_clear (map (argument_of expression_clear) xs) k ≡ true
      → faults_in (attribute_judged k name a (actuals xs)) ≡ [] → value_there (first_argument xs) k.names ≡ true
  unfolding image_length attribute_judged
  by-attribute attribute.Image has xs c l f a g =
      let t = prefix-there has (and_parts _ _ c).0 in
      image-argument t.0 t.1.1 xs f a (sym (ap (λ p. faults_in (image_judged k name (actuals xs) p)) t.1.0) ∙ g)
  by-attribute _ has xs c l f a g = absurd (false≢true l)

image-well : (name : Name) (a : Attribute) (xs : List (Argument Expression)) (k : Known)
    → faults_in ((arguments_read same_reading (map (argument_of read_expression) xs) k).1
    ++ attribute_judged k name a (arguments_read same_reading (map (argument_of read_expression) xs) k).0)
    ≡ []
    → (attribute_clear k name a (not (is_empty (map (argument_of expression_clear) xs)))
    && arguments_clear same_clear (map (argument_of expression_clear) xs) k)
    ≡ true
    → is_some (image_length k name a) ≡ true → value_there (first_argument xs) k.names ≡ true
image-well name a xs k f c l =
    let parts = and_parts _ _ c in
    let p = none-of _ _ f in
    by-attribute k name a _ xs parts.0 l p.0 parts.1 p.1

-- ---- pieces

piece-form : (x : ExpressionForm Expression) (k : Known) → faults_in (form_read same_reading (mapped_form read_expression x) k).1 ≡ []
    → form_clear same_clear (mapped_form expression_clear x) k ≡ true
    → is_some (form_read same_reading (mapped_form read_expression x) k).0.piece ≡ true → piece_form_built x k.names ≡ true
unfolding logical_expression relational_expression adding_expression multiplying_expression signed_expression highest_expression bracketed_expression
    first_relation with_relation with_factor with_term compared_read first_term signed_read highest_read bracketed_read number_read text_read named_expression
    name_read attribute_read
piece-form (form.Logical operator first others) k f c s = absurd (some-nothing s (operands-keep (λ r. r.piece) (λ o l r. refl) operator _ _ k))
piece-form (form.Relational left place operator right) k f c s = absurd (false≢true s)
piece-form (form.Adding first others) k f c s = absurd (some-nothing s (addends-keep (λ r. r.piece) (λ o l r. refl) _ _ k))
piece-form (form.Signed place sign.Plus operand) k f c s = absurd (false≢true s)
piece-form (form.Signed place sign.Minus operand) k f c s = absurd (some-nothing s (chosen-none (λ r. r.piece) _ _ _ refl refl))
piece-form (form.Multiplying first others) k f c s = absurd (some-nothing s (factors-keep (λ r. r.piece) (λ o l r. refl) _ _ k))
piece-form (form.Highest place operator operand) k f c s = absurd (false≢true s)
piece-form (form.Number place literal) k f c s = absurd (false≢true s)
piece-form (form.Text place text) k f c s = refl
piece-form (form.Null place) k f c s = absurd (false≢true s)
piece-form (form.Bracketed place inner) k f c s = absurd (false≢true s)
piece-form (form.Named name None arguments) k f c s = absurd (false≢true s)
piece-form (form.Named name (Some a) arguments) k f c s = image-well name a.attribute arguments k f c s

form-found : (e : Expression) (k : Known) → faults_in (read_expression e k).1 ≡ []
    → faults_in (form_read same_reading (mapped_form read_expression (out-Expression e).form) k).1 ≡ []
form-found e k f = sym (ap (λ (r : Reading). faults_in (r k).1) (form-reading e)) ∙ f

form-clear : (e : Expression) (k : Known) → expression_clear e k ≡ true → form_clear same_clear (mapped_form expression_clear (out-Expression e).form) k ≡ true
form-clear e k c = sym (ap (λ (t : Known → Bool). t k) (fold_out-Expression (Known → Bool) clear_layer e)) ∙ c

piece-well : (e : Expression) (k : Known) → faults_in (read_expression e k).1 ≡ [] → expression_clear e k ≡ true → is_some (read_expression e k).0.piece ≡ true
    → piece_built e k.names ≡ true
piece-well e k f c s =
    piece-form (out-Expression e).form k (form-found e k f) (form-clear e k c) (sym (ap (λ (r : Reading). is_some (r k).0.piece) (form-reading e)) ∙ s)

-- ---- texts that are joined

both-there : (a b : Option ℕ) → is_some (both_lengths a b) ≡ true → (is_some a ≡ true) × (is_some b ≡ true)
unfolding both_lengths
both-there None b s = absurd (false≢true s)
both-there (Some a) None s = absurd (false≢true s)
both-there (Some a) (Some b) s = (refl, refl)

joined-there : (operator : AddingOperator) (b : Option ℕ) → is_some (length_if_joined operator b) ≡ true → is_some b ≡ true
joined-there adding.Plus b s = absurd (false≢true s)
joined-there adding.Minus b s = absurd (false≢true s)
joined-there adding.Concatenation b s = s

addends-pieces : (xs : List (Addend Expression)) (left : Read) (k : Known)
    → faults_in (addends_read same_reading left (map (addend_of read_expression) xs) k).1 ≡ []
    → addends_clear same_clear (map (addend_of expression_clear) xs) k ≡ true
    → is_some (addends_read same_reading left (map (addend_of read_expression) xs) k).0.line ≡ true
    → (is_some left.line ≡ true) × (pieces_built xs k.names ≡ true)
unfolding addends_read operand_read with_term
addends-pieces [] left k f c s = (s, refl)
addends-pieces (a ∷ rest) left k f c s =
    let parts = and_parts _ _ c in
    let p = none-of _ _ f in
    let later = addends-pieces rest (with_term a.operator left (read_expression a.term k).0) k (none-of _ _ p.1).1 parts.1 s in
    let both = both-there left.line (length_if_joined a.operator (read_expression a.term k).0.piece) later.0 in
    (both.0, and_from _ _ (piece-well a.term k (none-of _ _ p.0).0 parts.0 (joined-there a.operator _ both.1)) later.1)

text-form : (x : ExpressionForm Expression) (k : Known) → faults_in (form_read same_reading (mapped_form read_expression x) k).1 ≡ []
    → form_clear same_clear (mapped_form expression_clear x) k ≡ true
    → is_some (form_read same_reading (mapped_form read_expression x) k).0.line ≡ true → text_form_built x k.names ≡ true
unfolding logical_expression relational_expression adding_expression operand_read multiplying_expression signed_expression highest_expression
    bracketed_expression first_relation with_relation with_factor compared_read first_term signed_read highest_read bracketed_read number_read text_read
    named_expression name_read attribute_read
text-form (form.Logical operator first others) k f c s = absurd (some-nothing s (operands-keep (λ r. r.line) (λ o l r. refl) operator _ _ k))
text-form (form.Relational left place operator right) k f c s = absurd (false≢true s)
text-form (form.Adding first others) k f c s =
    let parts = and_parts _ _ c in
    let p = none-of _ _ f in
    let chain = addends-pieces (others.first ∷ others.others) (first_term (read_expression first k).0) k p.1 parts.1 s in
    and_from _ _ (piece-well first k (none-of _ _ p.0).0 parts.0 chain.0) chain.1
text-form (form.Signed place sign.Plus operand) k f c s = absurd (false≢true s)
text-form (form.Signed place sign.Minus operand) k f c s = absurd (some-nothing s (chosen-none (λ r. r.line) _ _ _ refl refl))
text-form (form.Multiplying first others) k f c s = absurd (some-nothing s (factors-keep (λ r. r.line) (λ o l r. refl) _ _ k))
text-form (form.Highest place operator operand) k f c s = absurd (false≢true s)
text-form (form.Number place literal) k f c s = absurd (false≢true s)
text-form (form.Text place text) k f c s = refl
text-form (form.Null place) k f c s = absurd (false≢true s)
text-form (form.Bracketed place inner) k f c s = absurd (false≢true s)
text-form (form.Named name None arguments) k f c s = absurd (false≢true s)
text-form (form.Named name (Some a) arguments) k f c s = image-well name a.attribute arguments k f c s

pub text-well : (e : Expression) (k : Known) → faults_in (read_expression e k).1 ≡ [] → expression_clear e k ≡ true
    → is_some (read_expression e k).0.line ≡ true → text_built (Some e) k.names ≡ true
text-well e k f c s =
    text-form (out-Expression e).form k (form-found e k f) (form-clear e k c) (sym (ap (λ (r : Reading). is_some (r k).0.line) (form-reading e)) ∙ s)
