-- A value that may be the call of a function of the source is built, where no rule is broken.
use Rattle.std.proofs.Common.{◌≡◌, Bool, true, false, cond, ◌&&◌, ◌||◌, List, [], ◌∷◌, ◌++◌, map, Option, Some, None, option_map, refl, sym, ap, subst, ◌∙◌}
use Rattle.std.specs.Prelude.{unwrap_or, is_some}
use Rattle.std.proofs.lemmas.Bool.{and_parts, false≢true}
use Rattle.ann_base.specs.declared.places.Place.{Place}
use Rattle.ada_tree.specs.declared.names.Name.{Name}
use Rattle.ada_tree.specs.declared.operators.Sign.TheVariants as sign
use Rattle.ada_tree.specs.declared.expressions.Expression.{Expression}
use Rattle.ada_tree.specs.declared.expressions.Expression.TheFolds.{fold_out-Expression}
use Rattle.ada_tree.specs.declared.expressions.Expression.TheViews.{out-Expression}
use Rattle.ada_tree.specs.declared.expressions.ExpressionForm.{ExpressionForm}
use Rattle.ada_tree.specs.declared.expressions.ExpressionForm.TheVariants as form
use Rattle.ada_tree.specs.declared.expressions.Argument.{Argument}
use Rattle.ada_regions.specs.declared.entities.Denoted.{Denoted}
use Rattle.ada_regions.specs.declared.entities.Denoted.TheVariants as denotes
use Rattle.ada_regions.specs.declared.entities.EntityKind.{EntityKind}
use Rattle.ada_regions.specs.declared.entities.EntityKind.TheVariants as entity
use Rattle.ada_regions.specs.Completions.{holds_of}
use Rattle.ada_regions.specs.Names.{denoted_by, kind_at}
use Rattle.ada_regions.specs.Words.{and_then}
use Rattle.ada_regions.specs.declared.types.AdaType.{AdaType}
use Rattle.ada_image.specs.Layout.{is_thing}
use Rattle.ada_image.specs.ImageOfCalls.{FunctionCall, call_of_kind}
use Rattle.ada_legality.specs.declared.parts.ActualPart.{ActualPart}
use Rattle.ada_legality.specs.declared.reading.Asked.TheVariants as asking
use Rattle.ada_legality.specs.declared.reading.Read.{Read}
use Rattle.ada_legality.specs.declared.reading.Shape.TheVariants as shapes
use Rattle.ada_legality.specs.declared.standing.Known.{Known}
use Rattle.ada_legality.specs.Faults.{faults_in}
use Rattle.ada_legality.specs.Findings.{Found}
use Rattle.ada_legality.specs.Places.{place_of}
use Rattle.ada_legality.specs.Calls.{formals_denoted, formals_of_kind}
use Rattle.ada_legality.specs.CallStatements.{value_alone_found}
use Rattle.ada_legality.specs.Values.{denoted_kind, denotes_function, denotes_value, is_function_kind, is_literal_kind, is_object_kind}
use Rattle.ada_legality.specs.Reading.{Reading, actuals_judged, calls_function, fitted, first_relation, first_term}
use Rattle.ada_legality.specs.Reading.{compared_read, signed_read, highest_read, bracketed_read, number_read, text_read}
use Rattle.ada_legality.specs.ReadExpressions.{arguments_read, attribute_read, name_judged, name_read, name_shape, named_expression, logical_expression}
use Rattle.ada_legality.specs.ReadExpressions.{relational_expression, adding_expression, multiplying_expression, signed_expression, highest_expression}
use Rattle.ada_legality.specs.ReadExpressions.{bracketed_expression, denoted_judged, form_read, may_be_value, read_expression, same_reading}
use Rattle.ada_image.specs.BuiltExpressions.{kind_of}
use Rattle.ada_image.specs.BuiltStatements.{call_built, call_in, call_of_form, call_or_value_built, source_built}
use Rattle.image_laws.proofs.Images.Expressions.{argument_of, mapped_form}
use Rattle.image_laws.specs.Clear.{arguments_clear, clear_layer, expression_clear, form_clear, formals_clear, same_clear}
use Rattle.image_laws.specs.Laws.{ReadSourcesBuilt, function_clear}
use Rattle.image_laws.proofs.Forms.Nothing.{none-of, unless-none}
use Rattle.image_laws.proofs.Forms.Operators.{Some-same}
use Rattle.image_laws.proofs.Forms.Actuals.{fitted-values}
use Rattle.image_laws.proofs.Forms.Calls.{actuals-sound}
use Rattle.image_laws.proofs.Forms.Expressions.{expression-law}
use Rattle.image_laws.proofs.Forms.Variables.{operands-shape, addends-shape, factors-shape, form-reading}

None≢Some : {X : Type 0} {x : X} → None ≡ Some x → ⊥
None≢Some e = false≢true (ap is_some e)

-- ---- where no function is called

chosen-call : (b : Bool) (r s : Read) → r.shape ≡ shapes.Other → s.shape ≡ shapes.Other → calls_function (cond b r s).shape ≡ false
chosen-call true r s p q = ap calls_function p
chosen-call false r s p q = ap calls_function q

no-function : (name : Name) (xs : List (Argument Expression)) (kind : Option EntityKind) → and_then kind (call_of_kind name xs) ≡ None
    → holds_of is_function_kind kind ≡ false
unfolding call_of_kind
no-function name xs (Some (entity.Subprogram number is_function specified formals unit)) e = absurd (None≢Some (sym e))
no-function name xs _ e = refl

no-call_of : (x : ExpressionForm Expression) (k : Known) → call_of_form x k.names ≡ None
    → calls_function (form_read same_reading (mapped_form read_expression x) k).0.shape ≡ false
unfolding logical_expression relational_expression adding_expression multiplying_expression signed_expression highest_expression bracketed_expression
    first_relation compared_read first_term signed_read highest_read bracketed_read number_read text_read named_expression name_read name_shape attribute_read
no-call_of (form.Logical operator first others) k e = ap calls_function (operands-shape operator _ _ k)
no-call_of (form.Relational left place operator right) k e = refl
no-call_of (form.Adding first others) k e = ap calls_function (addends-shape _ _ k)
no-call_of (form.Signed place sign.Plus operand) k e = refl
no-call_of (form.Signed place sign.Minus operand) k e = chosen-call _ _ _ refl refl
no-call_of (form.Multiplying first others) k e = ap calls_function (factors-shape _ _ k)
no-call_of (form.Highest place operator operand) k e = refl
no-call_of (form.Number place literal) k e = refl
no-call_of (form.Text place text) k e = refl
no-call_of (form.Null place) k e = refl
no-call_of (form.Bracketed place inner) k e = refl
no-call_of (form.Named name None arguments) k e = no-function name arguments (kind_of k.names name) e
no-call_of (form.Named name (Some a) arguments) k e = refl

-- ---- where one is

same-arguments : (xs : List (Argument Expression)) (k : Known)
    → arguments_read same_reading (map (argument_of read_expression) xs) k ≡ arguments_read read_expression xs k
unfolding arguments_read
same-arguments [] k = refl
same-arguments (a ∷ rest) k = rw (same-arguments rest k) refl

clear-arguments : (xs : List (Argument Expression)) (k : Known)
    → arguments_clear same_clear (map (argument_of expression_clear) xs) k ≡ arguments_clear expression_clear xs k
clear-arguments [] k = refl
clear-arguments (a ∷ rest) k = ap (λ b. expression_clear a.value k && b) (clear-arguments rest k)

module _ (k : Known) (place : Place) (name : Name) (xs : List (Argument Expression)) (a : arguments_clear expression_clear xs k ≡ true)
    (f : faults_in (arguments_read read_expression xs k).1 ≡ []) where
  abbrev actuals : List ActualPart
  actuals = (arguments_read read_expression xs k).0

  -- what is found at what a name denotes, by its kind
  abbrev JudgedAs : Option EntityKind → Found → Type 0
  JudgedAs kind other =
      faults_in (cond (holds_of is_function_kind kind) (actuals_judged k place (unwrap_or (option_map formals_of_kind kind) []) actuals) other) ≡ []

  kind-called : (kind : Option EntityKind) (other : Found) (value : Bool) (c : FunctionCall) → and_then kind (call_of_kind name xs) ≡ Some c
      → (holds_of is_function_kind kind || (holds_of (λ x. is_object_kind x || is_literal_kind x) kind && value)) ≡ true
      → JudgedAs kind other → formals_clear c.formals ≡ true → call_built c k.names ≡ true
  unfolding call_of_kind formals_of_kind
  kind-called (Some (entity.Subprogram number true specified formals unit)) other value c e m g t =
      subst (λ (d : FunctionCall). formals_clear d.formals ≡ true → call_built d k.names ≡ true) (Some-same e) (λ s. actuals-sound k place formals xs s a f g) t
  kind-called (Some (entity.Subprogram number false specified formals unit)) other value c e m g t = absurd (false≢true m)
  kind-called None other value c e m g t = absurd (None≢Some e)
  kind-called (Some _) other value c e m g t = absurd (None≢Some e)

  denoted-call : (has : Bool) (d : Option Denoted) (c : FunctionCall) → and_then (and_then d (denoted_kind k.names)) (call_of_kind name xs) ≡ Some c
      → unwrap_or (option_map (may_be_value k has) d) false ≡ true
      → faults_in (unwrap_or (option_map (denoted_judged k place actuals) d) []) ≡ [] → formals_clear c.formals ≡ true → call_built c k.names ≡ true
  unfolding may_be_value denotes_function denotes_value denoted_judged formals_denoted
  denoted-call has None c e m g t = absurd (None≢Some e)
  denoted-call has (Some (denotes.Unit u)) c e m g t = absurd (None≢Some e)
  denoted-call has (Some (denotes.Item u item)) c e m g t = absurd (None≢Some e)
  denoted-call has (Some (denotes.Entity n)) c e m g t = kind-called (kind_at k.names n) _ _ c e m g t

called-name : (name : Name) (xs : List (Argument Expression)) (k : Known) (c : FunctionCall) → and_then (kind_of k.names name) (call_of_kind name xs) ≡ Some c
    → faults_in ((arguments_read read_expression xs k).1 ++ name_judged k name (arguments_read read_expression xs k).0) ≡ []
    → arguments_clear expression_clear xs k ≡ true → formals_clear c.formals ≡ true → call_built c k.names ≡ true
unfolding name_judged
called-name name xs k c e f a t =
    let p = none-of _ _ f in
    let q = none-of _ _ p.1 in
    denoted-call k (place_of name) name xs a p.0 _ (denoted_by k.names name) c e (unless-none _ _ _ q.0) q.1 t

call-of : (x : ExpressionForm Expression) (k : Known) (c : FunctionCall) → call_of_form x k.names ≡ Some c
    → faults_in (form_read same_reading (mapped_form read_expression x) k).1 ≡ [] → form_clear same_clear (mapped_form expression_clear x) k ≡ true
    → formals_clear c.formals ≡ true → call_built c k.names ≡ true
unfolding named_expression
call-of (form.Named name None xs) k c e f a t =
    called-name name xs k c e (sym (ap (λ r. faults_in (r.1 ++ name_judged k name r.0)) (same-arguments xs k)) ∙ f)
    (sym (clear-arguments xs k) ∙ (and_parts _ _ a).1) t
call-of (form.Named name (Some a) xs) k c e f b t = absurd (None≢Some e)
call-of _ k c e f a t = absurd (None≢Some e)

-- ---- both

pub source-sound : (k : Known) (e : Expression) (t : AdaType) → expression_clear e k ≡ true → function_clear (call_in e k.names) ≡ true → is_thing t ≡ false
    → faults_in (read_expression e k).1 ≡ []
    → faults_in (fitted asking.ForValue (Some t) (read_expression e k).0) ≡ [] → source_built e k.names ≡ true
source-sound k e t c s h f g = go (call_in e k.names) refl s
  where
    go : (d : Option FunctionCall) → call_in e k.names ≡ d → function_clear d ≡ true → call_or_value_built e d k.names ≡ true
    go None q s =
        let w = (expression-law e).at k f c in
        w.built (fitted-values asking.ForValue (read_expression e k).0 t h g w.typed)
        (ap (λ (r : Reading). calls_function (r k).0.shape) (form-reading e) ∙ no-call_of (out-Expression e).form k q)
    go (Some d) q s =
        call-of (out-Expression e).form k d q (sym (ap (λ (r : Reading). faults_in (r k).1) (form-reading e)) ∙ f)
        (sym (ap (λ (r : Known → Bool). r k) (fold_out-Expression (Known → Bool) clear_layer e)) ∙ c) s

pub read_sources_built : ReadSourcesBuilt
unfolding value_alone_found
read_sources_built k e t c s h f = let p = none-of _ _ f in source-sound k e t c s h p.0 p.1
