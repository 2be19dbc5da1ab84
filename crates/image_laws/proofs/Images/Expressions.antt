-- Each expression that is built stands where it is made, by induction over its forms.
use Rattle.std.proofs.Common.{◌≡◌, ℕ, ℤ, pos, negsuc, neg_ℤ, suc, Bool, true, false, cond, ◌&&◌, List, [], ◌∷◌}
use Rattle.std.proofs.Common.{map, Option, Some, None, option_map, is_some, refl, sym, ap, subst, ◌∙◌, arith}
use Rattle.std.specs.Prelude.{unwrap_or, int_le}
use Rattle.std.proofs.lemmas.Bool.{and_from, and_parts, false≢true, le-leb}
use Rattle.ada_tree.specs.declared.names.Name.{Name}
use Rattle.ada_tree.specs.declared.operators.Sign.{Sign}
use Rattle.ada_tree.specs.declared.operators.Sign.TheVariants as sign
use Rattle.ada_tree.specs.declared.expressions.Expression.{Expression}
use Rattle.ada_tree.specs.declared.expressions.Expression.TheOpen.{Expression-F}
use Rattle.ada_tree.specs.declared.expressions.Expression.TheFolds.{ind-Expression, map-Expression, fold-Expression, fold-roll-Expression}
use Rattle.ada_tree.specs.declared.expressions.Expression.TheViews.{roll-Expression}
use Rattle.ada_tree.specs.declared.expressions.ExpressionForm.{ExpressionForm}
use Rattle.ada_tree.specs.declared.expressions.ExpressionForm.TheVariants as form
use Rattle.ada_tree.specs.declared.expressions.Operand.{Operand}
use Rattle.ada_tree.specs.declared.expressions.Addend.{Addend}
use Rattle.ada_tree.specs.declared.expressions.Multiplied.{Multiplied}
use Rattle.ada_tree.specs.declared.expressions.Argument.{Argument}
use Rattle.ada_tree.specs.declared.expressions.AttributeDesignator.{AttributeDesignator}
use Rattle.profile_image.specs.declared.image.Image.{Image}
use Rattle.profile_image.specs.declared.numbers.DeclNo.{DeclNo}
use Rattle.profile_image.specs.declared.numbers.ExprNo.{ExprNo}
use Rattle.profile_image.specs.declared.values.Value.{Value}
use Rattle.profile_image.specs.declared.values.Value.TheVariants as value
use Rattle.profile_image.specs.declared.expressions.Expression.{Expression as Valuation}
use Rattle.profile_image.specs.declared.expressions.Expression.TheVariants as valuation
use Rattle.profile_image.specs.declared.expressions.UnaryOperator.TheVariants as unary
use Rattle.profile_image.specs.declared.expressions.BinaryOperator.{BinaryOperator}
use Rattle.profile_image.specs.Words.{same_number, same_bool}
use Rattle.ada_regions.specs.declared.predefined.Operation.{Operation}
use Rattle.ada_regions.specs.declared.predefined.Operation.TheVariants as operations
use Rattle.ada_regions.specs.declared.predefined.Predefined.{Predefined}
use Rattle.ada_regions.specs.declared.predefined.Predefined.TheVariants as items
use Rattle.ada_regions.specs.declared.entities.Denoted.{Denoted}
use Rattle.ada_regions.specs.declared.entities.Denoted.TheVariants as denotes
use Rattle.ada_regions.specs.declared.entities.EntityKind.{EntityKind}
use Rattle.ada_regions.specs.declared.entities.EntityKind.TheVariants as entity
use Rattle.ada_regions.specs.PredefinedUnits.{names_of_formals}
use Rattle.ada_regions.specs.Names.{denoted_by, kind_at}
use Rattle.ada_regions.specs.Statics.{literal_value, negated, micros_of}
use Rattle.ada_lex.specs.Meaning.{whole_of, decimals_of}
use Rattle.ann_base.specs.Lists.{is_empty}
use Rattle.ada_image.specs.declared.making.Within.{Within}
use Rattle.ada_image.specs.Making.{value_put, first_given}
use Rattle.ada_image.specs.Layout.{is_thing, subtype_is}
use Rattle.ada_image.specs.ImageOfExpressions.{expression_image, expression_made, ExpressionImage, logical_operator, relational_operator}
use Rattle.ada_image.specs.ImageOfExpressions.{adding_operator, multiplying_operator, highest_operator, no_value, no_declaration_no, object_named}
use Rattle.ada_image.specs.ImageOfExpressions.{thing_in, index_made, variable_made, variable_put, object_made, entity_made, argument_from}
use Rattle.ada_image.specs.ImageOfExpressions.{arguments_from, actuals_for, first_argument, images_for, image_or_none, optional_made, span_made}
use Rattle.ada_image.specs.ImageOfExpressions.{same_ticks_made, of_task_made, port_made, name_in, of_thing_made, function_made, item_made}
use Rattle.ada_image.specs.ImageOfExpressions.{index_in, denoted_made, named_made, signed_made, binary_put, operands_made, addends_made}
use Rattle.ada_image.specs.ImageOfExpressions.{factors_made, logical_made, relational_made, adding_made, multiplying_made, form_image, same_image}
use Rattle.ada_image.specs.ReadExpressions.{expression_reading, expression_stands, same_decl, ExpressionReading, Standing, is_value, is_binary}
use Rattle.ada_image.specs.ReadExpressions.{is_variable_at, is_thing_at, entity_stands, actual_stands, optional_stands, actual_thing}
use Rattle.ada_image.specs.ReadExpressions.{function_stands, first_of_actuals, item_stands, index_of, denoted_stands, named_stands}
use Rattle.ada_image.specs.ReadExpressions.{operands_stand, addends_stand, factors_stand, signed_stands, form_reading, same_reading, at_number}
use Rattle.ada_image.specs.BuiltExpressions.{expression_built, Built, is_there, is_built_if_there, entity_built, operation_built, item_built}
use Rattle.ada_image.specs.BuiltExpressions.{denoted_built, named_built, operands_built, addends_built, factors_built, form_built, same_built}
use Rattle.image_laws.proofs.Images.Steps.{Step, step-pure, step-so, step-then, IsAt, value-step}
use Rattle.image_laws.proofs.Images.Values.{same-number, same-object, known-step, unary-step, binary-step, thing-step, attribute-step}

-- ---- what is said of an expression

pub record ExpressionLaw (image : ExpressionImage) (reading : Image → ExpressionReading) (built : Built) : Type 0 where
  pub literal : (p : Image) → (reading p).literal ≡ image.literal
  pub given : (v : Value) → image.literal ≡ Some v → is_value (negated v) (negated v) ≡ true
  pub name : (p : Image) → (reading p).name ≡ image.name
  pub stands : (within : Within) → built within.names ≡ true → Step (image.made within) (λ p e. (reading p).stands within e ≡ true)

-- ---- layers of which each expression was replaced

abbrev pub operand_of : {A B : Type 0} → (A → B) → Operand A → Operand B
operand_of f o = record { place = o.place; relation = f o.relation }

abbrev pub addend_of : {A B : Type 0} → (A → B) → Addend A → Addend B
addend_of f a = record { place = a.place; operator = a.operator; term = f a.term }

abbrev pub multiplied_of : {A B : Type 0} → (A → B) → Multiplied A → Multiplied B
multiplied_of f m = record { place = m.place; operator = m.operator; factor = f m.factor }

abbrev pub argument_of : {A B : Type 0} → (A → B) → Argument A → Argument B
argument_of f a = record { formal = a.formal; value = f a.value }

abbrev pub mapped_form : {A B : Type 0} (f : A → B) → ExpressionForm A → ExpressionForm B
mapped_form {A} {B} f x = (map-Expression A B f (record { form = x })).form

module _ {A B : Type 0} (f : A → B) where
  found : (b : Bool) (x : A) (t : Option B) (s : Option A) → t ≡ option_map f s → cond b (Some (f x)) t ≡ option_map f (cond b (Some x) s)
  found true x t s e = refl
  found false x t s e = e

  argument-mapped : (number : ℕ) (name : List ℕ) (at : ℕ) (xs : List (Argument A))
      → argument_from number name at (map (argument_of f) xs) ≡ option_map f (argument_from number name at xs)
  unfolding argument_from
  argument-mapped number name at [] = refl
  argument-mapped number name at (a ∷ rest) = found _ a.value _ _ (argument-mapped number name (suc at) rest)

  arguments-mapped : (number : ℕ) (names : List (List ℕ)) (xs : List (Argument A))
      → arguments_from number names (map (argument_of f) xs) ≡ map (option_map f) (arguments_from number names xs)
  unfolding arguments_from
  arguments-mapped number [] xs = refl
  arguments-mapped number (name ∷ names) xs = rw (argument-mapped number name 0 xs, arguments-mapped (suc number) names xs) refl

  pub actuals-mapped : (names : List (List ℕ)) (xs : List (Argument A)) → actuals_for names (map (argument_of f) xs) ≡ map (option_map f) (actuals_for names xs)
  unfolding actuals_for
  actuals-mapped names xs = arguments-mapped 0 names xs

least : (n : ℤ) → int_le n n ≡ true
least (pos n) = le-leb n n (omega arith)
least (negsuc n) = le-leb n n (omega arith)

pub same-truth : (b : Bool) → same_bool b b ≡ true
same-truth true = refl
same-truth false = refl

pub same-whole : (n : ℤ) → same_number n n ≡ true
same-whole n = and_from _ _ (least n) (least n)

None≢Some : {X : Type 0} {x : X} → None ≡ Some x → ⊥
None≢Some e = false≢true (ap is_some e)

Some-inj : {X : Type 0} {x y : X} → Some x ≡ Some y → x ≡ y
Some-inj {X} {x} {y} e = ap (λ o. unwrap_or o x) e

-- a literal is a number of a kind that a text gives
module _ (literal : List ℕ) where
  value-chosen : (b : Bool) (m n : ℤ) → (is_value (cond b (value.Whole m) (value.Ticks n)) (cond b (value.Whole m) (value.Ticks n)) ≡ true)
      × (is_value (negated (cond b (value.Whole m) (value.Ticks n))) (negated (cond b (value.Whole m) (value.Ticks n))) ≡ true)
  value-chosen true m n = (same-whole m, same-whole (neg_ℤ m))
  value-chosen false m n = (same-whole n, same-whole (neg_ℤ n))

  given-literal : is_value (literal_value literal) (literal_value literal) ≡ true
  unfolding literal_value
  given-literal = (value-chosen (is_empty (decimals_of literal)) (pos (whole_of literal)) (pos (micros_of literal))).0

  given-negated : is_value (negated (literal_value literal)) (negated (literal_value literal)) ≡ true
  unfolding literal_value
  given-negated = (value-chosen (is_empty (decimals_of literal)) (pos (whole_of literal)) (pos (micros_of literal))).1

-- ---- one layer, whose expressions obey the law

module _ {E : Type 0} (image : E → ExpressionImage) (reading : Image → E → ExpressionReading) (built : E → Built)
    (law : (e : E) → ExpressionLaw (image e) (λ p. reading p e) (built e)) where
  -- ---- operators of one level

  operands-step : (operator : BinaryOperator) (os : List (Operand E)) (left : Image → Standing) (within : Within) (n : ExprNo)
      → operands_built same_built (map (operand_of built) os) within.names ≡ true
      → Step (operands_made same_image operator n (map (operand_of image) os) within)
      (λ p e. left p within n ≡ true → operands_stand p same_reading operator (left p) (map (operand_of (reading p)) os) within e ≡ true)
  unfolding operands_made
  operands-step operator [] left within n b = step-pure n _ (λ p h. h)
  operands-step operator (o ∷ os) left within n b =
      let parts = and_parts _ _ b in
      step-then (binary_put operator n ((image o.relation).made within)) (λ x. operands_made same_image operator x (map (operand_of image) os) within)
      (binary-step operator n _ (λ p. left p within) (λ p. (reading p o.relation).stands within) ((law o.relation).stands within parts.0))
      (λ x. step-so (λ p e h r l. h (r l))
      (operands-step operator os (λ p w y. is_binary p operator (left p w) ((reading p o.relation).stands w) (at_number p y)) within x parts.1))

  addends-step : (xs : List (Addend E)) (left : Image → Standing) (within : Within) (n : ExprNo)
      → addends_built same_built (map (addend_of built) xs) within.names ≡ true
      → Step (addends_made same_image n (map (addend_of image) xs) within)
      (λ p e. left p within n ≡ true → addends_stand p same_reading (left p) (map (addend_of (reading p)) xs) within e ≡ true)
  unfolding addends_made
  addends-step [] left within n b = step-pure n _ (λ p h. h)
  addends-step (a ∷ rest) left within n b =
      let parts = and_parts _ _ b in
      step-then (binary_put (adding_operator a.operator) n ((image a.term).made within)) (λ x. addends_made same_image x (map (addend_of image) rest) within)
      (binary-step (adding_operator a.operator) n _ (λ p. left p within) (λ p. (reading p a.term).stands within) ((law a.term).stands within parts.0))
      (λ x. step-so (λ p e h r l. h (r l))
      (addends-step rest (λ p w y. is_binary p (adding_operator a.operator) (left p w) ((reading p a.term).stands w) (at_number p y)) within x parts.1))

  factors-step : (xs : List (Multiplied E)) (left : Image → Standing) (within : Within) (n : ExprNo)
      → factors_built same_built (map (multiplied_of built) xs) within.names ≡ true
      → Step (factors_made same_image n (map (multiplied_of image) xs) within)
      (λ p e. left p within n ≡ true → factors_stand p same_reading (left p) (map (multiplied_of (reading p)) xs) within e ≡ true)
  unfolding factors_made
  factors-step [] left within n b = step-pure n _ (λ p h. h)
  factors-step (m ∷ rest) left within n b =
      let parts = and_parts _ _ b in
      step-then (binary_put (multiplying_operator m.operator) n ((image m.factor).made within))
      (λ x. factors_made same_image x (map (multiplied_of image) rest) within)
      (binary-step (multiplying_operator m.operator) n _ (λ p. left p within) (λ p. (reading p m.factor).stands within) ((law m.factor).stands within parts.0))
      (λ x. step-so (λ p e h r l. h (r l))
      (factors-step rest
      (λ p w y. is_binary p (multiplying_operator m.operator) (left p w) ((reading p m.factor).stands w) (at_number p y)) within x parts.1))

  -- ---- variables: an index stands there where the text has one

  variable-step : (xs : List (Argument E)) (within : Within) (name : Name)
      → is_built_if_there same_built (first_argument (map (argument_of built) xs)) within.names ≡ true
      → Step (variable_put within name (index_in same_image (map (argument_of image) xs) within))
      (λ p e. is_variable_at p within name (index_of p same_reading (map (argument_of (reading p)) xs) within) (at_number p e) ≡ true)
  unfolding variable_put variable_made index_made
  variable-step [] within name b =
      step-so (λ p e h. ap (is_variable_at p within name None) h ∙ and_from _ _ (same-object (object_named within name)) refl)
      (value-step (valuation.Variable (record { object = object_named within name; index = None })))
  variable-step (a ∷ rest) within name b =
      step-then ((image a.value).made within) (λ i. value_put (valuation.Variable (record { object = object_named within name; index = Some i })))
      ((law a.value).stands within b)
      (λ i. step-so
      (λ p e h r. ap (is_variable_at p within name (Some ((reading p a.value).stands within))) h ∙ and_from _ _ (same-object (object_named within name)) r)
      (value-step (valuation.Variable (record { object = object_named within name; index = Some i }))))

  object-step : (thing : Bool) (d : Option DeclNo) (xs : List (Argument E)) (within : Within) (name : Name)
      → cond thing (is_some d) (is_built_if_there same_built (first_argument (map (argument_of built) xs)) within.names) ≡ true
      → Step (cond thing (value_put (valuation.Thing (unwrap_or d no_declaration_no)))
      (variable_put within name (index_in same_image (map (argument_of image) xs) within)))
      (λ p e. cond thing (unwrap_or (option_map (λ x. is_thing_at p x (at_number p e)) d) false)
      (is_variable_at p within name (index_of p same_reading (map (argument_of (reading p)) xs) within) (at_number p e))
      ≡ true)
  object-step true None xs within name b = absurd (false≢true b)
  object-step true (Some d) xs within name b = thing-step d
  object-step false d xs within name b = variable-step xs within name b

  entity-step : (k : Option EntityKind) (xs : List (Argument E)) (within : Within) (name : Name)
      → unwrap_or (option_map (λ kind. entity_built kind (is_built_if_there same_built (first_argument (map (argument_of built) xs)) within.names)) k) false
      ≡ true
      → Step (unwrap_or (option_map (entity_made within name (index_in same_image (map (argument_of image) xs) within)) k) no_value)
      (λ p e. unwrap_or
      (option_map (λ kind. entity_stands p within name (index_of p same_reading (map (argument_of (reading p)) xs) within) kind (at_number p e)) k) false
      ≡ true)
  unfolding entity_made object_made
  entity-step None xs within name b = absurd (false≢true b)
  entity-step (Some entity.Package) xs within name b = absurd (false≢true b)
  entity-step (Some entity.Main) xs within name b = absurd (false≢true b)
  entity-step (Some (entity.Mark s)) xs within name b = absurd (false≢true b)
  entity-step (Some (entity.Literal enumeration position)) xs within name b = known-step (value.Literal position) (same-number position)
  entity-step (Some (entity.Object s constant x declaration)) xs within name b = object-step (subtype_is is_thing s) (Some declaration) xs within name b
  entity-step (Some (entity.Parameter s mode declaration)) xs within name b = object-step (subtype_is is_thing s) declaration xs within name b
  entity-step (Some (entity.LoopParameter declaration)) xs within name b = variable-step xs within name b
  entity-step (Some (entity.Component s owner declaration)) xs within name b = variable-step xs within name b
  entity-step (Some (entity.Exception declaration)) xs within name b = absurd (false≢true b)
  entity-step (Some (entity.Subprogram number is_function specified formals unit)) xs within name b = absurd (false≢true b)
  entity-step (Some (entity.Entry number unit formals)) xs within name b = absurd (false≢true b)
  entity-step (Some entity.Label) xs within name b = absurd (false≢true b)

  -- ---- predefined functions, by their first actual

  abbrev images : List (Option E) → List (Option ExpressionImage)
  images es = images_for same_image (map (option_map image) es)

  abbrev actual_read : Image → List (Option E) → Option ExpressionReading
  actual_read p es = first_of_actuals p same_reading (map (option_map (reading p)) es)

  abbrev builts : List (Option E) → List (Option Built)
  builts es = map (option_map built) es

  -- of an actual that has to be there
  actual-step : (f : ExprNo → Valuation) (es : List (Option E)) (within : Within) → is_there same_built (first_given (builts es)) within.names ≡ true
      → Step (λ l. value_put (f (image_or_none (first_given (images es)) within l).1) (image_or_none (first_given (images es)) within l).0)
      (λ p e. (x : ExprNo) × IsAt (f x) p e × (actual_stands p (actual_read p es) within x ≡ true))
  unfolding image_or_none
  actual-step f [] within b = absurd (false≢true b)
  actual-step f (None ∷ es) within b = absurd (false≢true b)
  actual-step f (Some e ∷ es) within b =
      step-then ((image e).made within) (λ x. value_put (f x)) ((law e).stands within b) (λ x. step-so (λ p y h r. (x, h, r)) (value-step (f x)))

  -- of one that may be there
  optional-step : (f : Option ExprNo → Valuation) (es : List (Option E)) (within : Within)
      → is_built_if_there same_built (first_given (builts es)) within.names ≡ true
      → Step (of_task_made f (first_given (images es)) within)
      (λ p e. (x : Option ExprNo) × IsAt (f x) p e × (optional_stands p (actual_read p es) within x ≡ true))
  unfolding of_task_made optional_made
  optional-step f [] within b = step-so (λ p y h. (None, h, refl)) (value-step (f None))
  optional-step f (None ∷ es) within b = step-so (λ p y h. (None, h, refl)) (value-step (f None))
  optional-step f (Some e ∷ es) within b =
      step-then ((image e).made within) (λ x. value_put (f (Some x))) ((law e).stands within b)
      (λ x. step-so (λ p y h r. (Some x, h, r)) (value-step (f (Some x))))

  thing-same : (es : List (Option E)) (within : Within) (p : Image)
      → actual_thing p within (actual_read p es) ≡ thing_in within (name_in (first_given (images es)))
  thing-same [] within p = refl
  thing-same (None ∷ es) within p = refl
  thing-same (Some e ∷ es) within p = ap (thing_in within) ((law e).name p)

  thing-function : (f : DeclNo → Valuation) (es : List (Option E)) (within : Within)
      → Step (of_thing_made f (first_given (images es)) within) (IsAt (f (thing_in within (name_in (first_given (images es))))))
  unfolding of_thing_made
  thing-function f es within = value-step (f (thing_in within (name_in (first_given (images es)))))

  abbrev FunctionStep : Operation → Type 0
  FunctionStep o = (es : List (Option E)) (within : Within) → operation_built same_built o (builts es) within.names ≡ true
      → Step (function_made o (images es) within) (λ p e. function_stands p o (actual_read p es) within (at_number p e) ≡ true)

  thing-stands : (o : Operation) (f : DeclNo → Valuation)
      → ((p : Image) (within : Within) (e : Option ExpressionReading) (d : DeclNo) → function_stands p o e within (f d) ≡ same_decl d (actual_thing p within e))
      → (es : List (Option E)) (within : Within)
      → Step (of_thing_made f (first_given (images es)) within) (λ p e. function_stands p o (actual_read p es) within (at_number p e) ≡ true)
  thing-stands o f same es within =
      step-so (λ p e h.
      ap (function_stands p o (actual_read p es) within) h ∙ same p within (actual_read p es) (thing_in within (name_in (first_given (images es))))
      ∙ ap (same_decl (thing_in within (name_in (first_given (images es))))) (thing-same es within p)
      ∙ same-number (thing_in within (name_in (first_given (images es)))).0)
      (thing-function f es within)

  span-function : (o : Operation) (ticks : ℤ)
      → ((p : Image) (within : Within) (e : Option ExpressionReading) (x : ExprNo)
      → function_stands p o e within (valuation.Span ticks x) ≡ (same_number ticks ticks && actual_stands p e within x))
      → (es : List (Option E)) (within : Within) → is_there same_built (first_given (builts es)) within.names ≡ true
      → Step (span_made ticks (first_given (images es)) within) (λ p e. function_stands p o (actual_read p es) within (at_number p e) ≡ true)
  unfolding span_made
  span-function o ticks same es within b =
      step-so (λ p e h. ap (function_stands p o (actual_read p es) within) h.1 ∙ same p within (actual_read p es) h.0 ∙ and_from _ _ (same-whole ticks) h.2)
      (actual-step (valuation.Span ticks) es within b)

  function-step : (o : Operation) → FunctionStep o
  unfolding function_made same_ticks_made port_made
  function-step operations.PutLine es within b = absurd (false≢true b)
  function-step operations.Clock es within b =
      step-so (λ p e h. ap (function_stands p operations.Clock (actual_read p es) within) h) (value-step valuation.Clock)
  function-step operations.Microseconds es within b = span-function operations.Microseconds (pos 1) (λ p w e x. refl) es within b
  function-step operations.Milliseconds es within b = span-function operations.Milliseconds (pos 1000) (λ p w e x. refl) es within b
  function-step operations.Seconds es within b = span-function operations.Seconds (pos 1000000) (λ p w e x. refl) es within b
  function-step operations.Minutes es within b = span-function operations.Minutes (pos 60000000) (λ p w e x. refl) es within b
  function-step operations.ToDuration es within b =
      step-so (λ p e h. ap (function_stands p operations.ToDuration (actual_read p es) within) h.1 ∙ h.2) (actual-step valuation.SameTicks es within b)
  function-step operations.ToTimeSpan es within b =
      step-so (λ p e h. ap (function_stands p operations.ToTimeSpan (actual_read p es) within) h.1 ∙ h.2) (actual-step valuation.SameTicks es within b)
  function-step operations.SetEvent es within b = absurd (false≢true b)
  function-step operations.CancelEvent es within b = absurd (false≢true b)
  function-step operations.TimeOfEvent es within b = thing-stands operations.TimeOfEvent valuation.TimeOfEvent (λ p w e d. refl) es within
  function-step operations.ExecutionClock es within b =
      step-so (λ p e h. ap (function_stands p operations.ExecutionClock (actual_read p es) within) h.1 ∙ h.2)
      (optional-step valuation.ExecutionTime es within b)
  function-step operations.SetTimer es within b = absurd (false≢true b)
  function-step operations.CancelTimer es within b = absurd (false≢true b)
  function-step operations.TimeRemaining es within b = thing-stands operations.TimeRemaining valuation.TimeRemaining (λ p w e d. refl) es within
  function-step operations.AddTask es within b = absurd (false≢true b)
  function-step operations.RemoveTask es within b = absurd (false≢true b)
  function-step operations.Replenish es within b = absurd (false≢true b)
  function-step operations.Add es within b = absurd (false≢true b)
  function-step operations.BudgetHasExpired es within b = thing-stands operations.BudgetHasExpired valuation.BudgetHasExpired (λ p w e d. refl) es within
  function-step operations.BudgetRemaining es within b = thing-stands operations.BudgetRemaining valuation.BudgetRemaining (λ p w e d. refl) es within
  function-step operations.SetBudget es within b = absurd (false≢true b)
  function-step operations.CancelBudget es within b = absurd (false≢true b)
  function-step operations.SetPriority es within b = absurd (false≢true b)
  function-step operations.GetPriority es within b =
      step-so (λ p e h. ap (function_stands p operations.GetPriority (actual_read p es) within) h.1 ∙ h.2) (optional-step valuation.Priority es within b)
  function-step operations.CurrentTask es within b =
      step-so (λ p e h. ap (function_stands p operations.CurrentTask (actual_read p es) within) h) (value-step valuation.CurrentTask)
  function-step operations.SetQuantum es within b = absurd (false≢true b)
  function-step operations.SetDeadline es within b = absurd (false≢true b)
  function-step operations.GetDeadline es within b =
      step-so (λ p e h. ap (function_stands p operations.GetDeadline (actual_read p es) within) h.1 ∙ h.2) (optional-step valuation.Deadline es within b)
  function-step operations.DelayUntilAndSetDeadline es within b = absurd (false≢true b)
  function-step operations.PortValue es within b =
      step-so (λ p e h. ap (function_stands p operations.PortValue (actual_read p es) within) h.1 ∙ h.2) (actual-step valuation.PortValue es within b)

  -- ---- names

  operation-step : (o : Operation) (xs : List (Argument E)) (within : Within)
      → operation_built same_built o (actuals_for (names_of_formals o) (map (argument_of built) xs)) within.names ≡ true
      → Step (function_made o (images_for same_image (actuals_for (names_of_formals o) (map (argument_of image) xs))) within)
      (λ p e. function_stands p o (first_of_actuals p same_reading (actuals_for (names_of_formals o) (map (argument_of (reading p)) xs))) within (at_number p e)
      ≡ true)
  operation-step o xs within b =
      step-so (λ p e h.
      ap (λ rs. function_stands p o (first_of_actuals p same_reading rs) within (at_number p e)) (actuals-mapped (reading p) (names_of_formals o) xs) ∙ h)
      (subst (λ is. Step (function_made o (images_for same_image is) within)
      (λ p e. function_stands p o (actual_read p (actuals_for (names_of_formals o) xs)) within (at_number p e) ≡ true))
      (sym (actuals-mapped image (names_of_formals o) xs))
      (function-step o (actuals_for (names_of_formals o) xs) within
      (sym (ap (λ bs. operation_built same_built o bs within.names) (actuals-mapped built (names_of_formals o) xs)) ∙ b)))

  item-step : (item : Predefined) (xs : List (Argument E)) (within : Within) → item_built same_built item (map (argument_of built) xs) within.names ≡ true
      → Step (item_made same_image item (map (argument_of image) xs) within)
      (λ p e. item_stands p same_reading item (map (argument_of (reading p)) xs) within (at_number p e) ≡ true)
  unfolding item_made
  item-step (items.Mark s) xs within b = absurd (false≢true b)
  item-step (items.Constant of_type v) xs within b = known-step v b
  item-step (items.Truth t) xs within b = known-step (value.Truth t) (same-truth t)
  item-step (items.Exception raised) xs within b = absurd (false≢true b)
  item-step (items.Operation o) xs within b = operation-step o xs within b

  denoted-step : (d : Option Denoted) (xs : List (Argument E)) (within : Within) (name : Name)
      → denoted_built same_built (map (argument_of built) xs) d within.names ≡ true
      → Step (denoted_made same_image name (map (argument_of image) xs) within d)
      (λ p e. denoted_stands p same_reading name (map (argument_of (reading p)) xs) within d (at_number p e) ≡ true)
  unfolding denoted_made
  denoted-step None xs within name b = absurd (false≢true b)
  denoted-step (Some (denotes.Entity e)) xs within name b = entity-step (kind_at within.names e) xs within name b
  denoted-step (Some (denotes.Unit u)) xs within name b = absurd (false≢true b)
  denoted-step (Some (denotes.Item u item)) xs within name b = item-step item xs within b

  named-step : (a : Option AttributeDesignator) (xs : List (Argument E)) (within : Within) (name : Name)
      → named_built same_built name a (map (argument_of built) xs) within.names ≡ true
      → Step (named_made same_image name a (map (argument_of image) xs) within)
      (λ p e. named_stands p same_reading name a (map (argument_of (reading p)) xs) within (at_number p e) ≡ true)
  unfolding named_made
  named-step None xs within name b = denoted-step (denoted_by within.names name) xs within name b
  named-step (Some a) xs within name b = attribute-step within name a.attribute b

  -- ---- forms

  signed-step : (s : Sign) (operand : E) (literal : Option Value) → (image operand).literal ≡ literal → (within : Within) → built operand within.names ≡ true
      → Step (signed_made s literal ((image operand).made within)) (λ p e. signed_stands p same_reading s literal ((reading p operand).stands) within e ≡ true)
  unfolding signed_made
  signed-step sign.Plus operand literal same within b = unary-step unary.Plus _ (λ p. (reading p operand).stands within) ((law operand).stands within b)
  signed-step sign.Minus operand None same within b = unary-step unary.Minus _ (λ p. (reading p operand).stands within) ((law operand).stands within b)
  signed-step sign.Minus operand (Some v) same within b = known-step (negated v) ((law operand).given v same)

  abbrev FormStep : ExpressionForm E → Type 0
  FormStep x = (within : Within) → form_built same_built (mapped_form built x) within.names ≡ true
      → Step ((form_image same_image (mapped_form image x)).made within)
      (λ p e. (form_reading p same_reading (mapped_form (reading p) x)).stands within e ≡ true)

  form-step : (x : ExpressionForm E) → FormStep x
  unfolding logical_made relational_made adding_made multiplying_made
  form-step (form.Logical operator first others) within b =
      let parts = and_parts _ _ b in
      step-then ((image first).made within)
      (λ n. operands_made same_image (logical_operator operator) n (map (operand_of image) (others.first ∷ others.others)) within)
      ((law first).stands within parts.0)
      (λ n. operands-step (logical_operator operator) (others.first ∷ others.others) (λ p. (reading p first).stands) within n parts.1)
  form-step (form.Relational left place operator right) within b =
      let parts = and_parts _ _ b in
      step-then ((image left).made within) (λ n. binary_put (relational_operator operator) n ((image right).made within)) ((law left).stands within parts.0)
      (λ n. binary-step (relational_operator operator) n _ (λ p. (reading p left).stands within) (λ p. (reading p right).stands within)
      ((law right).stands within parts.1))
  form-step (form.Adding first others) within b =
      let parts = and_parts _ _ b in
      step-then ((image first).made within) (λ n. addends_made same_image n (map (addend_of image) (others.first ∷ others.others)) within)
      ((law first).stands within parts.0)
      (λ n. addends-step (others.first ∷ others.others) (λ p. (reading p first).stands) within n parts.1)
  form-step (form.Signed place s operand) within b =
      step-so (λ p e h. ap (λ literal. signed_stands p same_reading s literal ((reading p operand).stands) within e) ((law operand).literal p) ∙ h)
      (signed-step s operand (image operand).literal refl within b)
  form-step (form.Multiplying first others) within b =
      let parts = and_parts _ _ b in
      step-then ((image first).made within) (λ n. factors_made same_image n (map (multiplied_of image) (others.first ∷ others.others)) within)
      ((law first).stands within parts.0)
      (λ n. factors-step (others.first ∷ others.others) (λ p. (reading p first).stands) within n parts.1)
  form-step (form.Highest place operator operand) within b =
      unary-step (highest_operator operator) _ (λ p. (reading p operand).stands within) ((law operand).stands within b)
  form-step (form.Number place literal) within b = known-step (literal_value literal) (given-literal literal)
  form-step (form.Text place text) within b = absurd (false≢true b)
  form-step (form.Null place) within b = absurd (false≢true b)
  form-step (form.Bracketed place inner) within b = (law inner).stands within b
  form-step (form.Named name a arguments) within b = named-step a arguments within name b

  form-literal : (x : ExpressionForm E) (p : Image)
      → (form_reading p same_reading (mapped_form (reading p) x)).literal ≡ (form_image same_image (mapped_form image x)).literal
  form-literal (form.Logical operator first others) p = refl
  form-literal (form.Relational left place operator right) p = refl
  form-literal (form.Adding first others) p = refl
  form-literal (form.Signed place s operand) p = refl
  form-literal (form.Multiplying first others) p = refl
  form-literal (form.Highest place operator operand) p = refl
  form-literal (form.Number place literal) p = refl
  form-literal (form.Text place text) p = refl
  form-literal (form.Null place) p = refl
  form-literal (form.Bracketed place inner) p = refl
  form-literal (form.Named name a arguments) p = refl

  form-given : (x : ExpressionForm E) (v : Value) → (form_image same_image (mapped_form image x)).literal ≡ Some v → is_value (negated v) (negated v) ≡ true
  form-given (form.Logical operator first others) v e = absurd (None≢Some e)
  form-given (form.Relational left place operator right) v e = absurd (None≢Some e)
  form-given (form.Adding first others) v e = absurd (None≢Some e)
  form-given (form.Signed place s operand) v e = absurd (None≢Some e)
  form-given (form.Multiplying first others) v e = absurd (None≢Some e)
  form-given (form.Highest place operator operand) v e = absurd (None≢Some e)
  form-given (form.Number place literal) v e = subst (λ x. is_value (negated x) (negated x) ≡ true) (Some-inj e) (given-negated literal)
  form-given (form.Text place text) v e = absurd (None≢Some e)
  form-given (form.Null place) v e = absurd (None≢Some e)
  form-given (form.Bracketed place inner) v e = absurd (None≢Some e)
  form-given (form.Named name a arguments) v e = absurd (None≢Some e)

  form-name : (x : ExpressionForm E) (p : Image)
      → (form_reading p same_reading (mapped_form (reading p) x)).name ≡ (form_image same_image (mapped_form image x)).name
  form-name (form.Logical operator first others) p = refl
  form-name (form.Relational left place operator right) p = refl
  form-name (form.Adding first others) p = refl
  form-name (form.Signed place s operand) p = refl
  form-name (form.Multiplying first others) p = refl
  form-name (form.Highest place operator operand) p = refl
  form-name (form.Number place literal) p = refl
  form-name (form.Text place text) p = refl
  form-name (form.Null place) p = refl
  form-name (form.Bracketed place inner) p = (law inner).name p
  form-name (form.Named name a arguments) p = refl

  pub form-law : (x : ExpressionForm E)
      → ExpressionLaw (form_image same_image (mapped_form image x)) (λ p. form_reading p same_reading (mapped_form (reading p) x))
      (form_built same_built (mapped_form built x))
  form-law x = record { literal = form-literal x; given = form-given x; name = form-name x; stands = form-step x }

-- ---- layers that are replaced twice

map-twice : {A B C : Type 0} (f : B → C) (g : A → B) (h : A → C) → ((x : A) → f (g x) ≡ h x) → (xs : List A) → map f (map g xs) ≡ map h xs
map-twice f g h same [] = refl
map-twice f g h same (x ∷ xs) = rw (same x, map-twice f g h same xs) refl

pub mapped-twice : {A B C : Type 0} (f : B → C) (g : A → B) (x : ExpressionForm A) → mapped_form f (mapped_form g x) ≡ mapped_form (λ e. f (g e)) x
mapped-twice f g (form.Logical operator first others) =
    ap (λ os. form.Logical operator (f (g first)) (record { first = operand_of f (operand_of g others.first); others = os }))
    (map-twice (operand_of f) (operand_of g) (operand_of (λ e. f (g e))) (λ x. refl) others.others)
mapped-twice f g (form.Relational left place operator right) = refl
mapped-twice f g (form.Adding first others) =
    ap (λ os. form.Adding (f (g first)) (record { first = addend_of f (addend_of g others.first); others = os }))
    (map-twice (addend_of f) (addend_of g) (addend_of (λ e. f (g e))) (λ x. refl) others.others)
mapped-twice f g (form.Signed place s operand) = refl
mapped-twice f g (form.Multiplying first others) =
    ap (λ os. form.Multiplying (f (g first)) (record { first = multiplied_of f (multiplied_of g others.first); others = os }))
    (map-twice (multiplied_of f) (multiplied_of g) (multiplied_of (λ e. f (g e))) (λ x. refl) others.others)
mapped-twice f g (form.Highest place operator operand) = refl
mapped-twice f g (form.Number place literal) = refl
mapped-twice f g (form.Text place text) = refl
mapped-twice f g (form.Null place) = refl
mapped-twice f g (form.Bracketed place inner) = refl
mapped-twice f g (form.Named name a arguments) =
    ap (form.Named name a) (map-twice (argument_of f) (argument_of g) (argument_of (λ e. f (g e))) (λ x. refl) arguments)

law-of_reading : {image : ExpressionImage} {r s : Image → ExpressionReading} {built : Built} → ((p : Image) → r p ≡ s p) → ExpressionLaw image r built
    → ExpressionLaw image s built
law-of_reading same law = record {
  literal = λ p. ap (λ x. x.literal) (sym (same p)) ∙ law.literal p;
  given = law.given;
  name = λ p. ap (λ x. x.name) (sym (same p)) ∙ law.name p;
  stands = λ within b. step-so (λ p e h. ap (λ x. x.stands within e) (sym (same p)) ∙ h) (law.stands within b);
}

-- ---- expressions

abbrev Lawful : Expression → Type 0
Lawful e = ExpressionLaw (expression_image e) (λ p. expression_reading p e) (expression_built e)

module _ (x : Expression-F Expression) (y : Expression-F ((e : Expression) × Lawful e))
    (is : map-Expression ((e : Expression) × Lawful e) Expression (λ e. e.0) y ≡ x) where
  same-layer : {A : Type 0} (f : Expression → A) → mapped_form (λ (e : (e : Expression) × Lawful e). f e.0) y.form ≡ (map-Expression Expression A f x).form
  same-layer {A} f =
      sym (mapped-twice f (λ (e : (e : Expression) × Lawful e). e.0) y.form) ∙ ap (λ (z : Expression-F Expression). (map-Expression Expression A f z).form) is

  rolled : {A : Type 0} (step : ExpressionForm A → A)
      → step (mapped_form (λ (e : (e : Expression) × Lawful e). fold-Expression A (λ z. step z.form) e.0) y.form)
      ≡ fold-Expression A (λ z. step z.form) (roll-Expression x)
  rolled {A} step = ap step (same-layer (fold-Expression A (λ z. step z.form))) ∙ sym (fold-roll-Expression A (λ z. step z.form) x)

  rolled-law : Lawful (roll-Expression x)
  rolled-law =
      subst (λ image. ExpressionLaw image (λ p. expression_reading p (roll-Expression x)) (expression_built (roll-Expression x)))
      (rolled (form_image same_image))
      (subst (λ built. ExpressionLaw (form_image same_image (mapped_form (λ (e : (e : Expression) × Lawful e). expression_image e.0) y.form))
      (λ p. expression_reading p (roll-Expression x)) built)
      (rolled (form_built same_built))
      (law-of_reading (λ p. rolled (form_reading p same_reading))
      (form-law (λ e. expression_image e.0) (λ p e. expression_reading p e.0) (λ e. expression_built e.0) (λ e. e.1) y.form)))

pub expression-law : (e : Expression) → Lawful e
expression-law = ind-Expression Lawful rolled-law

-- ---- of expressions as statements make them

pub expression-step : (e : Expression) (within : Within) → expression_built e within.names ≡ true
    → Step (expression_made e within) (λ p n. expression_stands p within e n ≡ true)
unfolding expression_made
expression-step e within b = (expression-law e).stands within b
