-- Values, variables and actuals that statements make stand as those of the text.
use Rattle.std.proofs.Common.{◌≡◌, ℕ, Bool, true, false, cond, not, List, [], ◌∷◌, Option, Some, None, refl, ap, ◌∙◌}
use Rattle.std.proofs.lemmas.Bool.{and_from, and_parts, false≢true}
use Rattle.ada_tree.specs.declared.names.Name.{Name}
use Rattle.ada_tree.specs.declared.expressions.Expression.{Expression}
use Rattle.ada_tree.specs.declared.expressions.Expression.TheViews.{out-Expression}
use Rattle.ada_tree.specs.declared.expressions.ExpressionForm.{ExpressionForm}
use Rattle.ada_tree.specs.declared.expressions.ExpressionForm.TheVariants as form
use Rattle.ada_tree.specs.declared.expressions.Argument.{Argument}
use Rattle.profile_image.specs.declared.image.Image.{Image}
use Rattle.profile_image.specs.declared.numbers.StatementNo.{StatementNo}
use Rattle.profile_image.specs.declared.statements.Actual.TheVariants as actual
use Rattle.profile_image.specs.declared.statements.Callee.{Callee}
use Rattle.profile_image.specs.declared.statements.Callee.TheVariants as callee
use Rattle.profile_image.specs.declared.statements.Destination.{Destination}
use Rattle.profile_image.specs.declared.statements.EntryOwner.{EntryOwner}
use Rattle.profile_image.specs.declared.statements.EntryOwner.TheVariants as entry_owner
use Rattle.profile_image.specs.declared.statements.HandlerName.{HandlerName}
use Rattle.profile_image.specs.declared.statements.Setting.TheVariants as setting
use Rattle.profile_image.specs.declared.statements.StatementForm.{StatementForm}
use Rattle.profile_image.specs.declared.statements.StatementForm.TheVariants as action
use Rattle.profile_image.specs.Program.{form_of, next_of}
use Rattle.profile_image.specs.Words.{same_option}
use Rattle.ada_regions.specs.declared.types.Formal.{Formal}
use Rattle.ada_regions.specs.declared.types.Mode.{Mode}
use Rattle.ada_regions.specs.declared.types.Mode.TheVariants as mode
use Rattle.ada_image.specs.declared.making.Within.{Within}
use Rattle.ada_image.specs.Making.{◌>>=◌, pure, action_put}
use Rattle.ada_image.specs.Layout.{is_thing, subtype_is}
use Rattle.ada_image.specs.ImageOfExpressions.{expression_image, expression_made, object_named, thing_in, first_argument}
use Rattle.ada_image.specs.ImageOfExpressions.{actuals_for, index_made, variable_made, kind_named, optional_value}
use Rattle.ada_image.specs.ImageOfCalls.{call_of_form as image_call_of_form, FunctionCall, function_call, function_call_put, call_put}
use Rattle.ada_image.specs.ImageOfCalls.{call_of_name, target_made, variable_in_form, variable_in, in_made, out_made, in_out_made, mode_made}
use Rattle.ada_image.specs.ImageOfCalls.{thing_actual, actual_made, actuals_made, names_of, arguments_made, callee_of, value_or_none}
use Rattle.ada_image.specs.ImageOfProcedures.{is_in_time, moment_of, setting_with, setting_made, variable_of}
use Rattle.ada_image.specs.ReadStatements.{same_next, same_callee, same_entry_owner, same_handler, value_stands_if, condition_stands}
use Rattle.ada_image.specs.ReadStatements.{target_stands, variable_stands_in_form, variable_stands, variable_stands_if, mode_stands}
use Rattle.ada_image.specs.ReadStatements.{thing_stands, actuals_stand, arguments_stand, call_stands, setting_stands}
use Rattle.ada_image.specs.BuiltStatements.{value_there, value_if_there, variable_form_built, variable_built, variable_there}
use Rattle.ada_image.specs.BuiltStatements.{mode_built, actuals_built, arguments_built, call_of_form, call_in, call_built}
use Rattle.image_laws.proofs.Images.Steps.{Step, step-pure, step-so, step-then, Put, action-step}
use Rattle.image_laws.proofs.Images.Values.{same-number, same-object}
use Rattle.image_laws.proofs.Images.Expressions.{expression-step}

-- ---- the same thing

pub same-next : (s : Option StatementNo) → same_next s s ≡ true
same-next None = refl
same-next (Some s) = same-number s.0

pub same-callee : (c : Callee) → same_callee c c ≡ true
same-callee (callee.Subprogram a) = same-number a.0
same-callee (callee.Operation o a) = and_from _ _ (same-number o.0) (same-number a.0)
same-callee (callee.OwnOperation a) = same-number a.0

pub same-entry_owner : (o : EntryOwner) → same_entry_owner o o ≡ true
same-entry_owner (entry_owner.Object d) = same-number d.0
same-entry_owner entry_owner.Own = refl

pub same-handler : (h : Option HandlerName) → same_option same_handler h h ≡ true
same-handler None = refl
same-handler (Some h) = and_from _ _ (same-number h.object.0) (same-number h.procedure.0)

-- ---- an action that stands

-- It stands there, leads to what comes next, and its form passes a test.
pub record Stood (p : Image) (to : Option StatementNo) (test : StatementNo → StatementForm → Bool) (r : Option StatementNo) : Type 0 where
  pub at : StatementNo
  pub is : r ≡ Some at
  pub next : next_of p at ≡ to
  pub stands : test at (form_of p at) ≡ true

pub stood : {p : Image} {to : Option StatementNo} {f : StatementForm} {r : Option StatementNo} (test : StatementForm → Bool) → Put f to p r → test f ≡ true
    → Stood p to (λ s x. test x) r
stood test h t = record { at = h.at; is = h.is; next = h.stands.next; stands = ap test h.stands.form ∙ t }

-- ---- values and variables

pub value-step : (e : Option Expression) (within : Within) → value_there e within.names ≡ true
    → Step (value_or_none within e) (λ p x. value_stands_if p within e x ≡ true)
unfolding value_or_none
value-step None within b = absurd (false≢true b)
value-step (Some e) within b = expression-step e within b

pub condition-step : (e : Option Expression) (within : Within) → value_if_there e within.names ≡ true
    → Step (optional_value within e) (λ p x. condition_stands p within e x ≡ true)
unfolding optional_value
condition-step None within b = step-pure None _ (λ p. refl)
condition-step (Some e) within b = step-then (expression_made e within) (λ x. pure (Some x)) (expression-step e within b) (λ x. step-pure (Some x) _ (λ p h. h))

pub optional-step : (e : Option Expression) (within : Within) → value_if_there e within.names ≡ true
    → Step (optional_value within e) (λ p x. condition_stands p within e x ≡ true)
unfolding optional_value
optional-step None within b = step-pure None _ (λ p. refl)
optional-step (Some e) within b = step-then (expression_made e within) (λ x. pure (Some x)) (expression-step e within b) (λ x. step-pure (Some x) _ (λ p h. h))

pub target-step : (name : Name) (index : Option Expression) (within : Within) → value_if_there index within.names ≡ true
    → Step (target_made within name index) (λ p v. target_stands p within name index v ≡ true)
unfolding target_made variable_made index_made
target-step name None within b =
    step-pure (record { object = object_named within name; index = None }) _ (λ p. and_from _ _ (same-object (object_named within name)) refl)
target-step name (Some i) within b =
    step-then (expression_made i within) (λ x. pure (record { object = object_named within name; index = Some x })) (expression-step i within b)
    (λ x. step-pure (record { object = object_named within name; index = Some x }) _ (λ p h. and_from _ _ (same-object (object_named within name)) h))

variable-form-step : (x : ExpressionForm Expression) (within : Within) → variable_form_built x within.names ≡ true
    → Step (variable_in_form within x) (λ p v. variable_stands_in_form p within x v ≡ true)
unfolding variable_in_form
variable-form-step (form.Logical operator first others) within b = absurd (false≢true b)
variable-form-step (form.Relational left place operator right) within b = absurd (false≢true b)
variable-form-step (form.Adding first others) within b = absurd (false≢true b)
variable-form-step (form.Signed place s operand) within b = absurd (false≢true b)
variable-form-step (form.Multiplying first others) within b = absurd (false≢true b)
variable-form-step (form.Highest place operator operand) within b = absurd (false≢true b)
variable-form-step (form.Number place literal) within b = absurd (false≢true b)
variable-form-step (form.Text place text) within b = absurd (false≢true b)
variable-form-step (form.Null place) within b = absurd (false≢true b)
variable-form-step (form.Bracketed place inner) within b = absurd (false≢true b)
variable-form-step (form.Named name a arguments) within b = target-step name (first_argument arguments) within b

pub variable-step : (e : Expression) (within : Within) → variable_built e within.names ≡ true
    → Step (variable_in within e) (λ p v. variable_stands p within e v ≡ true)
unfolding variable_in
variable-step e within b = variable-form-step (out-Expression e).form within b

pub variable-there : (e : Option Expression) (within : Within) → variable_there e within.names ≡ true
    → Step (variable_of within e) (λ p v. variable_stands_if p within e v ≡ true)
unfolding variable_of
variable-there None within b = absurd (false≢true b)
variable-there (Some e) within b = variable-step e within b

-- ---- actuals

mode-step : (m : Mode) (e : Expression) (within : Within) → mode_built m e within.names ≡ true
    → Step (mode_made within m e) (λ p a. mode_stands p within m e a ≡ true)
unfolding mode_made in_made out_made in_out_made
mode-step mode.In e within b =
    step-then (expression_made e within) (λ x. pure (actual.In x)) (expression-step e within b) (λ x. step-pure (actual.In x) _ (λ p h. h))
mode-step mode.Out e within b =
    step-then (variable_in within e) (λ x. pure (actual.Out x)) (variable-step e within b) (λ x. step-pure (actual.Out x) _ (λ p h. h))
mode-step mode.InOut e within b =
    step-then (variable_in within e) (λ x. pure (actual.InOut x)) (variable-step e within b) (λ x. step-pure (actual.InOut x) _ (λ p h. h))

actual-chosen : (thing : Bool) (m : Mode) (e : Expression) (within : Within) → cond thing true (mode_built m e within.names) ≡ true
    → Step (cond thing (pure (thing_actual within e)) (mode_made within m e))
    (λ p a. cond thing (thing_stands p within e a) (mode_stands p within m e a) ≡ true)
unfolding thing_actual
actual-chosen true m e within b =
    step-pure (actual.Thing (thing_in within (expression_image e).name)) _ (λ p. same-number (thing_in within (expression_image e).name).0)
actual-chosen false m e within b = mode-step m e within b

pub actuals-step : (fs : List Formal) (es : List (Option Expression)) (within : Within) → actuals_built fs es within.names ≡ true
    → Step (actuals_made within fs es) (λ p xs. actuals_stand p within fs es xs ≡ true)
unfolding actuals_made actual_made
actuals-step [] es within b = step-pure [] _ (λ p. refl)
actuals-step (f ∷ fs) [] within b = absurd (false≢true b)
actuals-step (f ∷ fs) (None ∷ es) within b = absurd (false≢true b)
actuals-step (f ∷ fs) (Some e ∷ es) within b =
    let parts = and_parts _ _ b in
    step-then (actual_made within f e) (λ a. actuals_made within fs es >>= (λ rest. pure (a ∷ rest)))
    (actual-chosen (subtype_is is_thing f.subtype) f.mode e within parts.0)
    (λ a. step-then (actuals_made within fs es) (λ rest. pure (a ∷ rest)) (actuals-step fs es within parts.1)
    (λ rest. step-pure (a ∷ rest) _ (λ p r h. and_from _ _ h r)))

pub arguments-step : (fs : List Formal) (xs : List (Argument Expression)) (within : Within) → arguments_built fs xs within.names ≡ true
    → Step (arguments_made within fs xs) (λ p ys. arguments_stand p within fs xs ys ≡ true)
unfolding arguments_made
arguments-step fs xs within b = actuals-step fs (actuals_for (names_of fs) xs) within b

-- ---- calls of functions of the source

pub call-step : (c : FunctionCall) (d : Destination) (goes : Image → Destination → Bool) (signs : ℕ) (next : Option StatementNo) (within : Within)
    → call_built c within.names ≡ true
    → Step (function_call_put within c d signs next) (λ p r. goes p d ≡ true → Stood p next (λ s f. call_stands p within c (goes p) f) r)
unfolding function_call_put call_put
call-step c d goes signs next within b =
    step-then (arguments_made within c.formals c.arguments) (λ xs. action_put (action.Call (callee_of within c.name c.number c.unit) xs d) signs next)
    (arguments-step c.formals c.arguments within b)
    (λ xs. step-so
    (λ p r h k g. stood (call_stands p within c (goes p)) h (and_from _ _ (same-callee (callee_of within c.name c.number c.unit)) (and_from _ _ k g)))
    (action-step (action.Call (callee_of within c.name c.number c.unit) xs d) signs next))

call-by_form : (x : ExpressionForm Expression) (within : Within) → call_of_form x within.names ≡ image_call_of_form within x
unfolding call_of_name kind_named
call-by_form (form.Logical operator first others) within = refl
call-by_form (form.Relational left place operator right) within = refl
call-by_form (form.Adding first others) within = refl
call-by_form (form.Signed place s operand) within = refl
call-by_form (form.Multiplying first others) within = refl
call-by_form (form.Highest place operator operand) within = refl
call-by_form (form.Number place literal) within = refl
call-by_form (form.Text place text) within = refl
call-by_form (form.Null place) within = refl
call-by_form (form.Bracketed place inner) within = refl
call-by_form (form.Named name None arguments) within = refl
call-by_form (form.Named name (Some a) arguments) within = refl

pub call-same : (e : Expression) (within : Within) → call_in e within.names ≡ function_call within e
unfolding function_call
call-same e within = call-by_form (out-Expression e).form within

-- ---- settings

setting-chosen : (t : Bool) (xs : List (Argument Expression)) (within : Within) → is_in_time within xs ≡ t → value_there (moment_of xs) within.names ≡ true
    → Step (value_or_none within (moment_of xs) >>= (λ e. pure (setting_with t e))) (λ p s. setting_stands p within xs s ≡ true)
setting-chosen true xs within is b =
    step-then (value_or_none within (moment_of xs)) (λ e. pure (setting.In e)) (value-step (moment_of xs) within b)
    (λ e. step-pure (setting.In e) _ (λ p h. and_from _ _ is h))
setting-chosen false xs within is b =
    step-then (value_or_none within (moment_of xs)) (λ e. pure (setting.At e)) (value-step (moment_of xs) within b)
    (λ e. step-pure (setting.At e) _ (λ p h. and_from _ _ (ap not is) h))

pub setting-step : (xs : List (Argument Expression)) (within : Within) → value_there (moment_of xs) within.names ≡ true
    → Step (setting_made within xs) (λ p s. setting_stands p within xs s ≡ true)
unfolding setting_made
setting-step xs within b = setting-chosen (is_in_time within xs) xs within refl b
