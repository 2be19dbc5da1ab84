-- Calls, assignments, returns and initial values that break no rule are built, where the table is clear.
use Rattle.std.proofs.Common.{◌≡◌, ℕ, Bool, true, false, cond, ◌&&◌, ◌||◌, List, [], ◌∷◌, ◌++◌, map, Option, Some, None, option_map, is_some}
use Rattle.std.proofs.Common.{refl, sym, ap, ◌∙◌}
use Rattle.std.specs.Prelude.{unwrap_or}
use Rattle.std.proofs.lemmas.Bool.{false≢true, and_from, and_parts}
use Rattle.ann_base.specs.declared.places.Place.{Place}
use Rattle.profile_image.specs.Words.{same_bool}
use Rattle.ada_tree.specs.declared.expressions.Argument.{Argument}
use Rattle.ada_tree.specs.declared.expressions.Expression.{Expression}
use Rattle.ada_tree.specs.declared.expressions.Expression.TheViews.{out-Expression}
use Rattle.ada_tree.specs.declared.expressions.ExpressionForm.{ExpressionForm}
use Rattle.ada_tree.specs.declared.expressions.ExpressionForm.TheVariants as form
use Rattle.ada_tree.specs.declared.names.Name.{Name}
use Rattle.ada_tree.specs.declared.statements.Call.{Call}
use Rattle.ada_regions.specs.declared.entities.Denoted.{Denoted}
use Rattle.ada_regions.specs.declared.entities.Denoted.TheVariants as denotes
use Rattle.ada_regions.specs.declared.entities.EntityKind.{EntityKind}
use Rattle.ada_regions.specs.declared.entities.EntityKind.TheVariants as entity
use Rattle.ada_regions.specs.Completions.{holds_of}
use Rattle.ada_regions.specs.Names.{denoted_by, entity_of, kind_at}
use Rattle.ada_regions.specs.NamesInExpressions.{names_in_arguments, names_in_expression, names_in_form}
use Rattle.ada_regions.proofs.ExpressionFolds.{expression_tells}
use Rattle.ada_regions.specs.Regions.{is_entry}
use Rattle.ada_regions.specs.Words.{and_then}
use Rattle.ada_image.specs.BuiltSequences.{call_if_built}
use Rattle.ada_image.specs.BuiltStatements.{call_in, call_of_form, call_statement_built}
use Rattle.ada_image.specs.BuiltStatements.{source_if_there}
use Rattle.ada_image.specs.ImageOfCalls.{call_of_kind}
use Rattle.ada_legality.specs.declared.standing.Known.{Known}
use Rattle.ada_legality.specs.declared.standing.SubprogramAround.{SubprogramAround}
use Rattle.ada_legality.specs.Calls.{formals_denoted, formals_of_kind}
use Rattle.ada_legality.specs.CallStatements.{call_found, value_alone_found}
use Rattle.ada_legality.specs.Faults.{faults_in}
use Rattle.ada_legality.specs.Findings.{Found}
use Rattle.ada_legality.specs.Places.{place_of}
use Rattle.ada_legality.specs.Reading.{Reading, actuals_judged}
use Rattle.ada_legality.specs.ReadExpressions.{arguments_read, denoted_judged, form_read, index_fits, may_be_value}
use Rattle.ada_legality.specs.ReadExpressions.{name_judged, named_expression, read_expression, same_reading}
use Rattle.ada_legality.specs.SimpleStatements.{function_around, result_expected}
use Rattle.ada_legality.specs.SimpleStatements.{return_found, return_judged}
use Rattle.ada_legality.specs.Values.{denotes_function, denotes_procedure, denotes_value}
use Rattle.ada_legality.specs.Values.{is_function_kind, is_literal_kind, is_object_kind, is_procedure_kind}
use Rattle.image_laws.specs.Clear.{arguments_clear, expression_clear}
use Rattle.image_laws.specs.Laws.{called_clear, function_clear, has_value_type, is_predefined, source_clear}
use Rattle.image_laws.proofs.Images.Expressions.{argument_of, mapped_form}
use Rattle.image_laws.proofs.Forms.Assignments.{read_returns_built}
use Rattle.image_laws.proofs.Forms.Calls.{actuals-sound, read_calls_built}
use Rattle.image_laws.proofs.Forms.Nothing.{none-of, unless-none}
use Rattle.image_laws.proofs.Forms.Procedures.{read_procedures_built}
use Rattle.image_laws.proofs.Forms.Variables.{form-reading}
use Rattle.form_laws.specs.Tables.{ClearTable, kind_clear, loops_stand}
use Rattle.form_laws.specs.Loops.{call_held, held_if, value_held}
use Rattle.form_laws.proofs.Expressions.{expression-known, stands-parts}
use Rattle.form_laws.proofs.Standing.{Standing, names-stand, result_held, value-clear}

-- ---- arguments, and calls of functions that stand alone

pub clear-arguments : (k : Known) → ClearTable k → (xs : List (Argument Expression)) → loops_stand k (names_in_arguments names_in_expression xs) ≡ true
    → faults_in (arguments_read read_expression xs k).1 ≡ [] → arguments_clear expression_clear xs k ≡ true
unfolding arguments_read
clear-arguments k t [] s f = refl
clear-arguments k t (a ∷ rest) s f =
    let parts = stands-parts k (names_in_expression a.value) _ s in
    let p = none-of _ _ f in
    let q = none-of _ _ p.1 in
    and_from _ _ ((expression-known a.value).at k t parts.0 p.0) (clear-arguments k t rest parts.1 q.1)

module _ (k : Known) (t : ClearTable k) where
  kind-function : (name : Name) (xs : List (Argument Expression)) (kind : Option EntityKind) → kind_clear k.names kind ≡ true
      → function_clear (and_then kind (call_of_kind name xs)) ≡ true
  unfolding call_of_kind
  kind-function name xs None c = refl
  kind-function name xs (Some (entity.Subprogram number is_function specified formals unit)) c = (and_parts _ _ c).0
  kind-function name xs (Some _) c = refl

  denoted-function : (name : Name) (xs : List (Argument Expression)) (d : Option Denoted)
      → function_clear (and_then (and_then d (λ x. and_then (entity_of x) (kind_at k.names))) (call_of_kind name xs)) ≡ true
  denoted-function name xs None = refl
  denoted-function name xs (Some (denotes.Entity e)) = kind-function name xs (kind_at k.names e) (t.kinds e)
  denoted-function name xs (Some (denotes.Unit u)) = refl
  denoted-function name xs (Some (denotes.Item u item)) = refl

  form-function : (x : ExpressionForm Expression) → function_clear (call_of_form x k.names) ≡ true
  form-function (form.Named name None xs) = denoted-function name xs (denoted_by k.names name)
  form-function (form.Named name (Some a) xs) = refl
  form-function _ = refl

  pub function-known : (e : Expression) → function_clear (call_in e k.names) ≡ true
  function-known e = form-function (out-Expression e).form

pub source-known : (k : Known) (es : List ℕ) → Standing k es → (e : Expression) → value_held e k.names es ≡ true → faults_in (read_expression e k).1 ≡ []
    → source_clear e k ≡ true
source-known k es s e h f = and_from _ _ (value-clear k es s e h f) (function-known k s.table e)

-- ---- initial values: a call of a function that breaks no rule is built

same-arguments : (xs : List (Argument Expression)) (k : Known)
    → arguments_read same_reading (map (argument_of read_expression) xs) k ≡ arguments_read read_expression xs k
unfolding arguments_read
same-arguments [] k = refl
same-arguments (a ∷ rest) k = rw (same-arguments rest k) refl

module _ (k : Known) (t : ClearTable k) where
  kind-called : (name : Name) (xs : List (Argument Expression)) (has : Bool) (d : Denoted) (kind : Option EntityKind) → kind_clear k.names kind ≡ true
      → loops_stand k (names_in_arguments names_in_expression xs) ≡ true → faults_in (arguments_read read_expression xs k).1 ≡ []
      → (holds_of is_function_kind kind || (holds_of (λ x. is_object_kind x || is_literal_kind x) kind && index_fits k has d)) ≡ true
      → (other : Found)
      → faults_in (cond (holds_of is_function_kind kind)
      (actuals_judged k (place_of name) (unwrap_or (option_map formals_of_kind kind) []) (arguments_read read_expression xs k).0) other) ≡ []
      → call_if_built (and_then kind (call_of_kind name xs)) k.names ≡ true
  unfolding call_of_kind formals_of_kind
  kind-called name xs has d None c s f m other g = refl
  kind-called name xs has d (Some (entity.Subprogram number true specified formals unit)) c s f m other g =
      actuals-sound k (place_of name) formals xs (and_parts _ _ c).0 (clear-arguments k t xs s f) f g
  kind-called name xs has d (Some (entity.Subprogram number false specified formals unit)) c s f m other g = absurd (false≢true m)
  kind-called name xs has d (Some _) c s f m other g = refl

  denoted-called : (name : Name) (xs : List (Argument Expression)) (has : Bool) (d : Option Denoted)
      → loops_stand k (names_in_arguments names_in_expression xs) ≡ true → faults_in (arguments_read read_expression xs k).1 ≡ []
      → unwrap_or (option_map (may_be_value k has) d) false ≡ true
      → faults_in (unwrap_or (option_map (denoted_judged k (place_of name) (arguments_read read_expression xs k).0) d) []) ≡ []
      → call_if_built (and_then (and_then d (λ x. and_then (entity_of x) (kind_at k.names))) (call_of_kind name xs)) k.names ≡ true
  unfolding may_be_value denotes_function denotes_value denoted_judged formals_denoted
  denoted-called name xs has None s f m g = refl
  denoted-called name xs has (Some (denotes.Entity e)) s f m g = kind-called name xs has (denotes.Entity e) (kind_at k.names e) (t.kinds e) s f m _ g
  denoted-called name xs has (Some (denotes.Unit u)) s f m g = refl
  denoted-called name xs has (Some (denotes.Item u item)) s f m g = refl

  named-called : (name : Name) (xs : List (Argument Expression)) → loops_stand k (names_in_arguments names_in_expression xs) ≡ true
      → faults_in ((arguments_read read_expression xs k).1 ++ name_judged k name (arguments_read read_expression xs k).0) ≡ []
      → call_if_built (call_of_form (form.Named name None xs) k.names) k.names ≡ true
  unfolding name_judged
  named-called name xs s f =
      let p = none-of _ _ f in
      let q = none-of _ _ p.1 in
      denoted-called name xs _ (denoted_by k.names name) s p.0 (unless-none _ _ (place_of name) q.0) q.1

  form-called : (x : ExpressionForm Expression) → loops_stand k (names_in_form names_in_expression x) ≡ true
      → faults_in (form_read same_reading (mapped_form read_expression x) k).1 ≡ [] → call_if_built (call_of_form x k.names) k.names ≡ true
  unfolding named_expression
  form-called (form.Named name None xs) s f =
      named-called name xs (and_parts _ _ s).1 (sym (ap (λ r. faults_in (r.1 ++ name_judged k name r.0)) (same-arguments xs k)) ∙ f)
  form-called (form.Named name (Some a) xs) s f = refl
  form-called _ s f = refl

  pub initial-known : (e : Expression) → loops_stand k (names_in_expression e) ≡ true → faults_in (read_expression e k).1 ≡ []
      → call_if_built (call_in e k.names) k.names ≡ true
  initial-known e s f =
      form-called (out-Expression e).form (sym (ap (λ os. loops_stand k os) (expression_tells e)) ∙ s)
      (sym (ap (λ (r : Reading). faults_in (r k).1) (form-reading e)) ∙ f)

-- ---- call statements

module _ (k : Known) (t : ClearTable k) where
  kind-callable : (kind : Option EntityKind) → kind_clear k.names kind ≡ true → holds_of (λ x. is_procedure_kind x || is_entry x) kind ≡ true
      → called_clear kind ≡ true
  kind-callable None c h = absurd (false≢true h)
  kind-callable (Some (entity.Subprogram number is_function specified formals unit)) c h = (and_parts _ _ c).0
  kind-callable (Some (entity.Entry number unit formals)) c h = c
  kind-callable (Some entity.Main) c h = refl
  kind-callable (Some _) c h = absurd (false≢true h)

  call-known : (c : Call) → arguments_clear expression_clear c.arguments k ≡ true → faults_in (call_found c k) ≡ [] → call_statement_built c k.names ≡ true
  unfolding call_found denotes_procedure
  call-known c a f = go (denoted_by k.names c.name) refl (unless-none _ _ (place_of c.name) (none-of _ _ f).0)
    where
      go : (d : Option Denoted) → denoted_by k.names c.name ≡ d → unwrap_or (option_map (denotes_procedure k) d) false ≡ true
          → call_statement_built c k.names ≡ true
      go None q m = absurd (false≢true m)
      go (Some (denotes.Unit u)) q m = absurd (false≢true m)
      go (Some (denotes.Item u item)) q m = read_procedures_built k c (ap is_predefined q) a f
      go (Some (denotes.Entity e)) q m =
          read_calls_built k c
          (ap (λ d. called_clear (and_then d (λ x. and_then (entity_of x) (kind_at k.names)))) q ∙ kind-callable (kind_at k.names e) (t.kinds e) m) a f

pub call-sound : (k : Known) (es : List ℕ) → Standing k es → (c : Call) → call_held c k.names es ≡ true → faults_in (call_found c k) ≡ []
    → call_statement_built c k.names ≡ true
unfolding call_found
call-sound k es s c h f =
    call-known k s.table c
    (clear-arguments k s.table c.arguments (names-stand k es s (names_in_arguments names_in_expression c.arguments) (and_parts _ _ h).1)
    (none-of _ _ (none-of _ _ f).1).0) f

-- ---- returns

returned-there : (f : Option SubprogramAround) → result_held f ≡ true → is_some f ≡ true → has_value_type (result_expected f) ≡ true
returned-there None r h = absurd (false≢true h)
returned-there (Some f) r h = r

same-true : (b : Bool) → same_bool true b ≡ true → b ≡ true
same-true true h = refl
same-true false h = absurd (false≢true h)

pub return-sound : (k : Known) (es : List ℕ) → Standing k es → (place : Place) (e : Option Expression) → held_if value_held e k.names es ≡ true
    → faults_in (return_found place e k) ≡ [] → source_if_there e k.names ≡ true
unfolding return_found return_judged value_alone_found
return-sound k es s place None h f = refl
return-sound k es s place (Some e) h f =
    let p = none-of _ _ f in
    let right = and_parts _ _ (unless-none _ _ place (none-of _ _ p.0).0) in
    read_returns_built k place (Some e)
    (and_from _ _ (returned-there (function_around k) s.result (same-true _ right.0)) (source-known k es s e h (none-of _ _ p.1).0)) f
