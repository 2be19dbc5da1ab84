-- What is known where a construct of a source stands: its table is clear, each loop around it gives its parameter a type, and the
-- function around it has a type of values as its result.
use Rattle.std.proofs.Common.{◌≡◌, ℕ, Bool, true, false, cond, List, [], ◌∷◌, Option, Some, None, is_some, eqb, refl, sym, ap, ◌∙◌, eq-eqb, eqb-true}
use Rattle.std.specs.List.{find, list_any}
use Rattle.std.specs.Option.{option_or}
use Rattle.std.specs.Prelude.{⊤, unwrap_or, ℤ, pos, leb, neg_ℤ, ◌+◌}
use Rattle.std.proofs.lemmas.Bool.{false≢true, and_from, and_parts}
use Rattle.ann_base.specs.Lists.{is_empty}
use Rattle.profile_image.specs.declared.values.Constraint.{Constraint}
use Rattle.profile_image.specs.declared.values.Constraint.TheVariants as constraint
use Rattle.profile_image.specs.declared.values.Value.{Value}
use Rattle.profile_image.specs.declared.values.Value.TheVariants as value
use Rattle.ada_tree.specs.declared.expressions.AttributeDesignator.{AttributeDesignator}
use Rattle.ada_tree.specs.declared.expressions.Expression.{Expression}
use Rattle.ada_tree.specs.declared.expressions.Expression.TheViews.{out-Expression}
use Rattle.ada_tree.specs.declared.expressions.ExpressionForm.{ExpressionForm}
use Rattle.ada_tree.specs.declared.expressions.ExpressionForm.TheVariants as form
use Rattle.ada_tree.specs.declared.names.Name.{Name}
use Rattle.ada_tree.specs.declared.operators.Attribute.{Attribute}
use Rattle.ada_tree.specs.declared.operators.Attribute.TheVariants as attribute
use Rattle.ada_tree.specs.declared.operators.Sign.TheVariants as sign
use Rattle.ada_tree.specs.declared.statements.Iteration.{Iteration}
use Rattle.ada_tree.specs.declared.statements.Iteration.TheVariants as iteration
use Rattle.ada_regions.specs.declared.entities.Denoted.{Denoted}
use Rattle.ada_regions.specs.declared.entities.Denoted.TheVariants as denotes
use Rattle.ada_regions.specs.declared.entities.EntityKind.{EntityKind}
use Rattle.ada_regions.specs.declared.entities.EntityKind.TheVariants as entity
use Rattle.ada_regions.specs.declared.predefined.Predefined.TheVariants as items
use Rattle.ada_regions.specs.declared.types.AdaType.{AdaType}
use Rattle.ada_regions.specs.declared.types.AdaType.TheVariants as types
use Rattle.ada_regions.specs.declared.types.Subtype.{Subtype}
use Rattle.ada_regions.specs.Names.{denoted_by, entity_denoted, kind_at, last_part}
use Rattle.ada_regions.specs.NamesInExpressions.{names_in_expression}
use Rattle.ada_regions.specs.Occurrences.{Occurrence, Occurrences, mentions}
use Rattle.ada_regions.specs.Statics.{attribute_value, high_of, literal_of, low_of, range_named, static_form, static_literal, static_name}
use Rattle.ada_regions.specs.Statics.{in_duration, in_integer, micros_of, negative_in_duration, negative_in_integer}
use Rattle.ada_regions.specs.declared.predefined.TheConstants.{LAST_DURATION, LAST_INTEGER}
use Rattle.ada_lex.specs.Meaning.{decimals_of, whole_of}
use Rattle.ada_regions.specs.Statics.{static_negative, static_value, subtype_of_name, value_denoted, value_of_kind}
use Rattle.ada_regions.specs.Words.{and_then}
use Rattle.ada_image.specs.BuiltExpressions.{is_given}
use Rattle.ada_image.specs.BuiltStatements.{choice_value_built}
use Rattle.ada_legality.specs.declared.reading.Typed.{Typed}
use Rattle.ada_legality.specs.declared.reading.Typed.TheVariants as typing
use Rattle.ada_legality.specs.declared.standing.Around.{Around}
use Rattle.ada_legality.specs.declared.standing.Around.TheVariants as around
use Rattle.ada_legality.specs.declared.standing.Known.{Known}
use Rattle.ada_legality.specs.declared.standing.LoopParameter.{LoopParameter}
use Rattle.ada_legality.specs.declared.standing.SubprogramAround.{SubprogramAround}
use Rattle.ada_legality.specs.Faults.{faults_in}
use Rattle.ada_legality.specs.ReadExpressions.{read_expression}
use Rattle.ada_legality.specs.SimpleStatements.{function_around, loop_parameter, result_expected, type_between, with_around, with_iteration}
use Rattle.ada_legality.specs.Types.{discrete_if, is_discrete, type_of_bounds, type_of_low}
use Rattle.ada_legality.specs.Values.{subtype_of_loop}
use Rattle.image_laws.specs.Clear.{expression_clear}
use Rattle.image_laws.specs.Laws.{has_value_type}
use Rattle.image_laws.proofs.Images.Expressions.{same-whole, same-truth}
use Rattle.image_laws.proofs.Forms.Actuals.{or-second}
use Rattle.form_laws.specs.Tables.{ClearTable, denoted_stands, item_clear, kind_clear, kind_stands, loop_clear, loops_stand, mention_stands}
use Rattle.form_laws.specs.Loops.{denoted_held, entity_before, kind_held, loops_in, names_held, occurrence_held, value_held}
use Rattle.form_laws.proofs.Expressions.{expression-known}

-- the result of the function around, if one is there
abbrev pub result_held : Option SubprogramAround → Bool
result_held None = true
result_held (Some f) = has_value_type (result_expected (Some f))

pub record Standing (k : Known) (es : List ℕ) : Type 0 where
  pub table : ClearTable k
  pub loops : (e : ℕ) → list_any (eqb e) es ≡ true → loop_clear (subtype_of_loop k.loops e) ≡ true
  pub result : result_held (function_around k) ≡ true

-- ---- names

module _ (k : Known) (es : List ℕ) (s : Standing k es) where
  kind-stands : (e : ℕ) (kind : Option EntityKind) → kind_held e es kind ≡ true → kind_stands k e kind ≡ true
  kind-stands e None h = refl
  kind-stands e (Some (entity.LoopParameter declaration)) h = s.loops e h
  kind-stands e (Some _) h = refl

  pub denoted-stands : (d : Option Denoted) → denoted_held d k.names es ≡ true → denoted_stands k d ≡ true
  denoted-stands None h = refl
  denoted-stands (Some (denotes.Entity e)) h = kind-stands e (kind_at k.names e) h
  denoted-stands (Some (denotes.Unit u)) h = refl
  denoted-stands (Some (denotes.Item u item)) h = refl

  mention-stands : (o : Occurrence) → occurrence_held o k.names es ≡ true → mention_stands k o ≡ true
  mention-stands (mentions name) h = denoted-stands (denoted_by k.names name) h
  mention-stands _ h = refl

  pub names-stand : (os : Occurrences) → names_held os k.names es ≡ true → loops_stand k os ≡ true
  names-stand [] h = refl
  names-stand (o ∷ os) h = let p = and_parts _ _ h in and_from _ _ (mention-stands o p.0) (names-stand os p.1)

  pub value-clear : (e : Expression) → value_held e k.names es ≡ true → faults_in (read_expression e k).1 ≡ [] → expression_clear e k ≡ true
  value-clear e h f = (expression-known e).at k s.table (names-stand (names_in_expression e) h) f

-- ---- inside constructs

table-around : (a : Around) (k : Known) → ClearTable k → ClearTable (with_around a k)
table-around a k t = record { kinds = t.kinds; items = t.items; arrays = t.arrays }

abbrev pub IsOther : Around → Type 0
IsOther (around.Subprogram s) = ⊥
IsOther _ = ⊤

pub standing-around : (a : Around) → IsOther a → (k : Known) (es : List ℕ) → Standing k es → Standing (with_around a k) es
unfolding function_around
standing-around (around.Subprogram f) other k es s = absurd other
standing-around (around.Loop label) other k es s = record { table = table-around (around.Loop label) k s.table; loops = s.loops; result = s.result }
standing-around around.Handler other k es s = record { table = table-around around.Handler k s.table; loops = s.loops; result = s.result }
standing-around around.AsynchronousSelect other k es s =
    record { table = table-around around.AsynchronousSelect k s.table; loops = s.loops; result = s.result }
standing-around (around.Accept e) other k es s = record { table = table-around (around.Accept e) k s.table; loops = s.loops; result = refl }
standing-around (around.Entry e) other k es s = record { table = table-around (around.Entry e) k s.table; loops = s.loops; result = refl }
standing-around (around.Task u) other k es s = record { table = table-around (around.Task u) k s.table; loops = s.loops; result = refl }
standing-around (around.Protected u) other k es s = record { table = table-around (around.Protected u) k s.table; loops = s.loops; result = refl }
standing-around around.Package other k es s = record { table = table-around around.Package k s.table; loops = s.loops; result = refl }
standing-around around.Main other k es s = record { table = table-around around.Main k s.table; loops = s.loops; result = refl }

pub standing-subprogram : (f : SubprogramAround) (k : Known) (es : List ℕ) → result_held (cond (is_some f.result) (Some f) None) ≡ true → Standing k es
    → Standing (with_around (around.Subprogram f) k) es
unfolding function_around
standing-subprogram f k es r s = record { table = table-around (around.Subprogram f) k s.table; loops = s.loops; result = r }

-- ---- loops

discrete-if : (t : AdaType) (u : AdaType) → discrete_if t ≡ Some u → is_discrete u ≡ true
discrete-if t u q = go (is_discrete t) refl q
  where
    go : (b : Bool) → is_discrete t ≡ b → cond b (Some t) None ≡ Some u → is_discrete u ≡ true
    go true p q = ap is_discrete (sym (ap (λ o. unwrap_or o t) q)) ∙ p
    go false p q = absurd (false≢true (ap is_some q))

abbrev Discretes : Option AdaType → Type 0
Discretes None = ⊤
Discretes (Some t) = is_discrete t ≡ true

low-discrete : (t : Typed) → Discretes (type_of_low t)
unfolding type_of_low
low-discrete (typing.OfSubtype s) = go (discrete_if s.of_type) refl
  where
    go : (o : Option AdaType) → discrete_if s.of_type ≡ o → Discretes o
    go None q = tt
    go (Some u) q = discrete-if s.of_type u q
low-discrete typing.OfWholeNumber = refl
low-discrete _ = tt

bounds-discrete : (low high : Typed) → is_discrete (type_of_bounds low high) ≡ true
unfolding type_of_bounds
bounds-discrete low high = go (type_of_low low) (type_of_low high) (low-discrete low) (low-discrete high)
  where
    go : (a b : Option AdaType) → Discretes a → Discretes b → is_discrete (unwrap_or (option_or a b) types.Integer) ≡ true
    go (Some a) b p q = p
    go None (Some b) p q = q
    go None None p q = refl

between-discrete : (k : Known) (low high : Expression) → is_discrete (type_between k low high) ≡ true
unfolding type_between
between-discrete k low high = bounds-discrete (read_expression low k).0.typed (read_expression high k).0.typed

abbrev clear_in : Option LoopParameter → Bool
clear_in l = loop_clear (and_then l (λ x. x.subtype))

loop-held : (b : Bool) (l : LoopParameter) (old : Option LoopParameter) → clear_in (Some l) ≡ true → (b ≡ false → clear_in old ≡ true)
    → clear_in (cond b (Some l) old) ≡ true
loop-held true l old c h = c
loop-held false l old c h = h refl

held-around : (o : Option ℕ) (e : ℕ) (es : List ℕ) → list_any (eqb e) (entity_before o es) ≡ true → eqb (unwrap_or o 0) e ≡ false → list_any (eqb e) es ≡ true
held-around None e es h q = h
held-around (Some x) e es h q = or-second (eqb e x) _ h (not-same (eqb e x) refl)
  where
    not-same : (b : Bool) → eqb e x ≡ b → eqb e x ≡ false
    not-same false p = p
    not-same true p = absurd (false≢true (sym q ∙ eq-eqb x e (sym (eqb-true e x p))))

pub standing-loop : (i : Iteration) (k : Known) (es : List ℕ) → Standing k es → Standing (with_iteration i k) (loops_in k.names i es)
unfolding with_iteration loop_parameter function_around
standing-loop iteration.Forever k es s = s
standing-loop (iteration.While place condition) k es s = s
standing-loop (iteration.For place i reverse low high) k es s = record {
  table = record { kinds = s.table.kinds; items = s.table.items; arrays = s.table.arrays };
  loops =
      λ e h.
      loop-held (eqb (unwrap_or (entity_denoted k.names i.place) 0) e) (loop_parameter k i low high (type_between k low high))
      (find (λ l. eqb l.entity e) k.loops) (between-discrete k low high)
      (λ q. s.loops e (held-around (entity_denoted k.names i.place) e es h q));
  result = s.result;
}

pub names-in_loop : (i : Iteration) (k : Known) → (with_iteration i k).names ≡ k.names
unfolding with_iteration
names-in_loop iteration.Forever k = refl
names-in_loop (iteration.While place condition) k = refl
names-in_loop (iteration.For place i reverse low high) k = refl

-- ---- values of static expressions

low-choice : (c : Constraint) → choice_value_built (low_of c) ≡ true
low-choice constraint.Free = refl
low-choice (constraint.Whole low high) = same-whole low
low-choice (constraint.Truth low high) = same-truth low
low-choice (constraint.Literal low high) = eq-eqb low low refl
low-choice (constraint.Ticks low high) = same-whole low

high-choice : (c : Constraint) → choice_value_built (high_of c) ≡ true
high-choice constraint.Free = refl
high-choice (constraint.Whole low high) = same-whole high
high-choice (constraint.Truth low high) = same-truth high
high-choice (constraint.Literal low high) = eq-eqb high high refl
high-choice (constraint.Ticks low high) = same-whole high

given-if : (b : Bool) (v : Value) → is_given v ≡ true → choice_value_built (cond b (Some v) None) ≡ true
given-if true v h = h
given-if false v h = refl

either-given : (b : Bool) (x y : Option Value) → choice_value_built x ≡ true → choice_value_built y ≡ true → choice_value_built (cond b x y) ≡ true
either-given true x y p q = p
either-given false x y p q = q

whole-given : (b : Bool) (n : ℤ) → choice_value_built (cond b (Some (value.Whole n)) None) ≡ true
whole-given b n = given-if b (value.Whole n) (same-whole n)

ticks-given : (b : Bool) (n : ℤ) → choice_value_built (cond b (Some (value.Ticks n)) None) ≡ true
ticks-given b n = given-if b (value.Ticks n) (same-whole n)

literal-given : (text : List ℕ) → choice_value_built (static_literal text) ≡ true
unfolding static_literal
literal-given text =
    either-given (is_empty (decimals_of text)) (in_integer (whole_of text)) (in_duration (micros_of text))
    (whole-given (leb (whole_of text) LAST_INTEGER) (pos (whole_of text))) (ticks-given (leb (micros_of text) LAST_DURATION) (pos (micros_of text)))

negative-given : (text : Option (List ℕ)) → choice_value_built (and_then text static_negative) ≡ true
unfolding static_negative
negative-given None = refl
negative-given (Some text) =
    either-given (is_empty (decimals_of text)) (negative_in_integer (whole_of text)) (negative_in_duration (micros_of text))
    (whole-given (leb (whole_of text) (LAST_INTEGER + 1)) (neg_ℤ (pos (whole_of text))))
    (ticks-given (leb (micros_of text) (LAST_DURATION + 1)) (neg_ℤ (pos (micros_of text))))

module _ (k : Known) (t : ClearTable k) where
  kind-given : (kind : Option EntityKind) → kind_clear k.names kind ≡ true → choice_value_built (and_then kind value_of_kind) ≡ true
  kind-given None c = refl
  kind-given (Some (entity.Literal enumeration position)) c = eq-eqb position position refl
  kind-given (Some (entity.Object s constant v declaration)) c = (and_parts _ _ c).1
  kind-given (Some _) c = refl

  denoted-given : (d : Option Denoted) → item_clear d ≡ true → choice_value_built (and_then d (value_denoted k.names)) ≡ true
  unfolding value_denoted
  denoted-given None c = refl
  denoted-given (Some (denotes.Entity e)) c = kind-given (kind_at k.names e) (t.kinds e)
  denoted-given (Some (denotes.Unit u)) c = refl
  denoted-given (Some (denotes.Item u (items.Constant of_type x))) c = c
  denoted-given (Some (denotes.Item u (items.Truth b))) c = same-truth b
  denoted-given (Some (denotes.Item u _)) c = refl

  low-of_name : (s : Option Subtype) → choice_value_built (and_then s (λ x. low_of (range_named k.names x))) ≡ true
  low-of_name None = refl
  low-of_name (Some s) = low-choice (range_named k.names s)

  high-of_name : (s : Option Subtype) → choice_value_built (and_then s (λ x. high_of (range_named k.names x))) ≡ true
  high-of_name None = refl
  high-of_name (Some s) = high-choice (range_named k.names s)

  attribute-given : (name : Name) (a : Attribute) → choice_value_built (attribute_value k.names name a) ≡ true
  unfolding attribute_value
  attribute-given name attribute.First = low-of_name (subtype_of_name k.names name)
  attribute-given name attribute.Last = high-of_name (subtype_of_name k.names name)
  attribute-given name _ = refl

  name-given : (name : Name) (a : Option AttributeDesignator) → choice_value_built (static_name k.names name a) ≡ true
  unfolding static_name
  name-given name None = denoted-given (denoted_by k.names name) (t.items (last_part name).place)
  name-given name (Some a) = attribute-given name a.attribute

  form-given : (x : ExpressionForm Expression) → choice_value_built (static_form k.names x) ≡ true
  form-given (form.Logical operator first others) = refl
  form-given (form.Relational left place operator right) = refl
  form-given (form.Adding first others) = refl
  form-given (form.Signed place sign.Plus operand) = refl
  form-given (form.Signed place sign.Minus operand) = negative-given (literal_of (out-Expression operand).form)
  form-given (form.Multiplying first others) = refl
  form-given (form.Highest place operator operand) = refl
  form-given (form.Number place literal) = literal-given literal
  form-given (form.Text place text) = refl
  form-given (form.Null place) = refl
  form-given (form.Bracketed place inner) = refl
  form-given (form.Named name a arguments) = either-given (is_empty arguments) _ _ (name-given name a) refl

  pub static-given : (e : Expression) → choice_value_built (static_value k.names e) ≡ true
  unfolding static_value
  static-given e = form-given (out-Expression e).form
