-- Simple statements stand (clauses 5.1, 5.2, 5.7, 6.5, 9.5.4, 9.6, 9.8, 11.3), and so do choices.
use Rattle.std.proofs.Common.{◌≡◌, ℕ, pos, Bool, true, false, cond, not, List, [], ◌∷◌, map, Option, Some, None, refl, sym, ap, ◌∙◌}
use Rattle.std.specs.Prelude.{unwrap_or}
use Rattle.std.proofs.lemmas.Bool.{and_from, and_parts}
use Rattle.ada_tree.specs.declared.names.Name.{Name}
use Rattle.ada_tree.specs.declared.names.OneOrMore.{OneOrMore}
use Rattle.ada_tree.specs.declared.expressions.Expression.{Expression}
use Rattle.ada_tree.specs.declared.statements.Assignment.{Assignment}
use Rattle.ada_tree.specs.declared.statements.Choice.{Choice}
use Rattle.ada_tree.specs.declared.statements.Choice.TheVariants as choice
use Rattle.ada_tree.specs.declared.statements.Delay.{Delay}
use Rattle.ada_tree.specs.declared.statements.Exit.{Exit}
use Rattle.ada_tree.specs.declared.statements.HandledExceptions.{HandledExceptions}
use Rattle.profile_image.specs.declared.numbers.StatementNo.{StatementNo}
use Rattle.profile_image.specs.declared.numbers.SubprogramNo.{SubprogramNo}
use Rattle.profile_image.specs.declared.values.Value.{Value}
use Rattle.profile_image.specs.declared.values.Value.TheVariants as value
use Rattle.profile_image.specs.declared.declarations.ExceptionChoice.{ExceptionChoice}
use Rattle.profile_image.specs.declared.declarations.ExceptionChoice.TheVariants as exception_choice
use Rattle.profile_image.specs.declared.statements.Destination.TheVariants as destination
use Rattle.profile_image.specs.declared.statements.StatementForm.TheVariants as action
use Rattle.ada_regions.specs.Names.{last_part}
use Rattle.ada_regions.specs.Statics.{static_value, subtype_of_name}
use Rattle.ada_regions.specs.TypeKinds.{is_array_type}
use Rattle.ada_image.specs.declared.making.Within.{Within}
use Rattle.ada_image.specs.Making.{◌>>=◌, action_put}
use Rattle.ada_image.specs.Layout.{is_kept, subtype_is, scope_no}
use Rattle.ada_image.specs.ImageOfExpressions.{expression_image, expression_made, signs_in, signs_if, object_named, thing_named, thing_in, optional_value}
use Rattle.ada_image.specs.ImageOfCalls.{FunctionCall, function_call, function_call_put, target_made, owner_of_entry}
use Rattle.ada_image.specs.ImageOfStatements.{array_name, array_assigned, controlled_assigned, value_assigned, assigned_whole}
use Rattle.ada_image.specs.ImageOfStatements.{assigned, assignment_put, delay_form, delay_put, no_function, value_returned, return_put}
use Rattle.ada_image.specs.ImageOfStatements.{exception_named, raise_put, loop_left, loop_statement, exit_put, static_or_zero}
use Rattle.ada_image.specs.ImageOfStatements.{choice_made, choices_made, handled_made, entry_at, abort_put, unit_of_entry, requeue_put}
use Rattle.ada_image.specs.ReadExpressions.{same_decl, is_value}
use Rattle.ada_image.specs.ReadStatements.{same_choice, same_handled, all_same, goes_into, is_returned, assigns_value}
use Rattle.ada_image.specs.ReadStatements.{assigns_array, assigns_controlled, assignment_stands, delay_stands, returns_value}
use Rattle.ada_image.specs.ReadStatements.{return_stands, raise_stands, exit_stands, abort_stands, requeue_stands}
use Rattle.ada_image.specs.BuiltExpressions.{expression_built}
use Rattle.ada_image.specs.BuiltStatements.{value_if_there, assigned_built, call_or_value_built, source_built}
use Rattle.ada_image.specs.BuiltStatements.{assignment_built, choice_value_built, choice_built, choices_built, source_if_there}
use Rattle.image_laws.proofs.Images.Steps.{Step, step-so, step-then, action-step}
use Rattle.image_laws.proofs.Images.Values.{same-number, same-object}
use Rattle.image_laws.proofs.Images.Expressions.{same-truth, expression-step}
use Rattle.image_laws.proofs.Images.Actuals.{same-entry_owner, Stood, stood, condition-step, target-step, call-step, call-same}

-- ---- the same list

pub all-same : {X : Type 0} (same : X → X → Bool) → ((x : X) → same x x ≡ true) → (xs : List X) → all_same same xs xs ≡ true
all-same same is [] = refl
all-same same is (x ∷ xs) = and_from _ _ (is x) (all-same same is xs)

given-or_zero : (v : Option Value) → choice_value_built v ≡ true → is_value (unwrap_or v (value.Whole (pos 0))) (unwrap_or v (value.Whole (pos 0))) ≡ true
given-or_zero None b = refl
given-or_zero (Some v) b = b

choice-same : (c : Choice) (within : Within) → choice_built c within.names ≡ true → same_choice (choice_made within c) (choice_made within c) ≡ true
unfolding choice_made static_or_zero
choice-same (choice.Value v) within b = given-or_zero (static_value within.names v) b
choice-same (choice.Range low high) within b =
    let parts = and_parts _ _ b in and_from _ _ (given-or_zero (static_value within.names low) parts.0) (given-or_zero (static_value within.names high) parts.1)
choice-same (choice.Others place) within b = refl

choices-alike : (cs : List Choice) (within : Within) → choices_built cs within.names ≡ true
    → all_same same_choice (map (choice_made within) cs) (map (choice_made within) cs) ≡ true
choices-alike [] within b = refl
choices-alike (c ∷ cs) within b = let parts = and_parts _ _ b in and_from _ _ (choice-same c within parts.0) (choices-alike cs within parts.1)

pub choices-same : (cs : OneOrMore Choice) (within : Within) → choices_built (cs.first ∷ cs.others) within.names ≡ true
    → all_same same_choice (choices_made within cs) (choices_made within cs) ≡ true
unfolding choices_made
choices-same cs within b = choices-alike (cs.first ∷ cs.others) within b

exception-same : (c : ExceptionChoice) → same_handled c c ≡ true
exception-same (exception_choice.Named a) = same-number _
exception-same exception_choice.Others = refl

pub handled-same : (within : Within) (h : HandledExceptions) → all_same same_handled (handled_made within h) (handled_made within h) ≡ true
handled-same within h = all-same same_handled exception-same (handled_made within h)

-- ---- assignments (5.2)

module _ (a : Assignment) (signs : ℕ) (next : Option StatementNo) (within : Within) where
  value-assigned : (c : Option FunctionCall) → value_if_there a.index within.names ≡ true → call_or_value_built a.value c within.names ≡ true
      → Step (value_assigned within a c signs next) (λ p r. Stood p next (λ s f. assigns_value p within a c f) r)
  unfolding value_assigned
  value-assigned None i b =
      step-then (target_made within a.target a.index) (λ t. expression_made a.value within >>= (λ v. action_put (action.Assign t v) signs next))
      (target-step a.target a.index within i)
      (λ t. step-then (expression_made a.value within) (λ v. action_put (action.Assign t v) signs next) (expression-step a.value within b)
      (λ v. step-so (λ p r h k l. stood (assigns_value p within a None) h (and_from _ _ l k)) (action-step (action.Assign t v) signs next)))
  value-assigned (Some c) i b =
      step-then (target_made within a.target a.index) (λ t. function_call_put within c (destination.Variable t) signs next)
      (target-step a.target a.index within i)
      (λ t. call-step c (destination.Variable t) (λ p. goes_into p within a.target a.index) signs next within b)

  source-assigned : value_if_there a.index within.names ≡ true → source_built a.value within.names ≡ true
      → Step (value_assigned within a (function_call within a.value) signs next)
      (λ p r. Stood p next (λ s f. assigns_value p within a (function_call within a.value) f) r)
  source-assigned i b =
      value-assigned (function_call within a.value) i (ap (λ c. call_or_value_built a.value c within.names) (sym (call-same a.value within)) ∙ b)

  whole-assigned : (kept array : Bool) → a.index ≡ None → cond kept true (cond array true (source_built a.value within.names)) ≡ true
      → Step (cond kept (controlled_assigned within a next)
      (cond array (array_assigned within a signs next) (value_assigned within a (function_call within a.value) signs next)))
      (λ p r. Stood p next
      (λ s f.
      cond kept (assigns_controlled p within a f) (cond array (assigns_array p within a f) (assigns_value p within a (function_call within a.value) f))) r)
  unfolding controlled_assigned array_assigned
  whole-assigned true array i b =
      step-so (λ p r h. stood (assigns_controlled p within a) h
      (and_from _ _ (same-number (thing_named within a.target).0) (same-number (thing_in within (expression_image a.value).name).0)))
      (action-step (action.AssignControlled (thing_named within a.target) (thing_in within (expression_image a.value).name)) 0 next)
  whole-assigned false true i b =
      step-so (λ p r h. stood (assigns_array p within a) h
      (and_from _ _ (same-object (object_named within a.target)) (same-object (array_name within (expression_image a.value).name))))
      (action-step (action.AssignArray (object_named within a.target) (array_name within (expression_image a.value).name)) signs next)
  whole-assigned false false i b = source-assigned (ap (λ x. value_if_there x within.names) i) b

  by-index : (index : Option Expression) → a.index ≡ index → assigned_built a index within.names ≡ true
      → Step (assigned within a index signs next) (λ p r. Stood p next (λ s f. assignment_stands p within a index f) r)
  unfolding assigned assigned_whole
  by-index None is b =
      whole-assigned (subtype_is is_kept (subtype_of_name within.names a.target)) (subtype_is is_array_type (subtype_of_name within.names a.target)) is b
  by-index (Some i) is b = let parts = and_parts _ _ b in source-assigned (ap (λ x. value_if_there x within.names) is ∙ parts.0) parts.1

pub assignment-step : (a : Assignment) (next : Option StatementNo) (within : Within) → assignment_built a within.names ≡ true
    → Step (assignment_put within a next) (λ p r. Stood p next (λ s f. assignment_stands p within a a.index f) r)
unfolding assignment_put
assignment-step a next within b = by-index a _ next within a.index refl b

-- ---- delays, returns and raises

delay-chosen : (d : Delay) (t : Bool) → d.until ≡ t → (next : Option StatementNo) (within : Within) → expression_built d.value within.names ≡ true
    → Step (expression_made d.value within >>= (λ e. action_put (delay_form t e) (signs_in within d.value) next))
    (λ p r. Stood p next (λ s f. delay_stands p within d f) r)
delay-chosen d true is next within b =
    step-then (expression_made d.value within) (λ e. action_put (action.DelayUntil e) (signs_in within d.value) next) (expression-step d.value within b)
    (λ e. step-so (λ p r h k. stood (delay_stands p within d) h (and_from _ _ is k)) (action-step (action.DelayUntil e) (signs_in within d.value) next))
delay-chosen d false is next within b =
    step-then (expression_made d.value within) (λ e. action_put (action.Delay e) (signs_in within d.value) next) (expression-step d.value within b)
    (λ e. step-so (λ p r h k. stood (delay_stands p within d) h (and_from _ _ (ap not is) k)) (action-step (action.Delay e) (signs_in within d.value) next))

pub delay-step : (d : Delay) (next : Option StatementNo) (within : Within) → expression_built d.value within.names ≡ true
    → Step (delay_put within d next) (λ p r. Stood p next (λ s f. delay_stands p within d f) r)
unfolding delay_put
delay-step d next within b = delay-chosen d d.until refl next within b

returned-step : (f : SubprogramNo) (e : Expression) (c : Option FunctionCall) (next : Option StatementNo) (within : Within)
    → call_or_value_built e c within.names ≡ true
    → Step (value_returned within f e c next) (λ p r. Stood p next (λ s x. returns_value p f within e c x) r)
unfolding value_returned
returned-step f e None next within b =
    step-then (expression_made e within) (λ v. action_put (action.ReturnValue f v) (signs_in within e) next) (expression-step e within b)
    (λ v. step-so (λ p r h k. stood (returns_value p f within e None) h (and_from _ _ (same-number f.0) k))
    (action-step (action.ReturnValue f v) (signs_in within e) next))
returned-step f e (Some c) next within b =
    step-so (λ p r h. h (same-number f.0)) (call-step c (destination.Return f) (λ p. is_returned p f) (signs_in within e) next within b)

pub return-step : (e : Option Expression) (next : Option StatementNo) (within : Within) → source_if_there e within.names ≡ true
    → Step (return_put within e next) (λ p r. Stood p next (λ s f. return_stands p within e f) r)
unfolding return_put
return-step None next within b = step-so (λ p r h. stood (return_stands p within None) h refl) (action-step action.Return 0 next)
return-step (Some e) next within b =
    returned-step (unwrap_or within.function no_function) e (function_call within e) next within
    (ap (λ c. call_or_value_built e c within.names) (sym (call-same e within)) ∙ b)

pub raise-step : (name : Option Name) (next : Option StatementNo) (within : Within)
    → Step (raise_put within name next) (λ p r. Stood p next (λ s f. raise_stands p within name f) r)
unfolding raise_put
raise-step None next within =
    step-so (λ p r h. stood (raise_stands p within None) h (same-number (unwrap_or within.handling 0)))
    (action-step (action.RaiseAgain (scope_no (unwrap_or within.handling 0))) 0 next)
raise-step (Some name) next within =
    step-so (λ p r h. stood (raise_stands p within (Some name)) h (same-number _)) (action-step (action.Raise (exception_named within name)) 0 next)

-- ---- exits, aborts and requeues

pub exit-step : (e : Exit) (next : Option StatementNo) (within : Within) → value_if_there e.condition within.names ≡ true
    → Step (exit_put within e next) (λ p r. Stood p next (λ s f. exit_stands p within e f) r)
unfolding exit_put
exit-step e next within b =
    step-then (optional_value within e.condition)
    (λ c. action_put (action.Exit c (loop_statement (loop_left within e.loop_name))) (signs_if within e.condition) next)
    (condition-step e.condition within b)
    (λ c. step-so (λ p r h k. stood (exit_stands p within e) h (and_from _ _ k (same-number (loop_statement (loop_left within e.loop_name)).0)))
    (action-step (action.Exit c (loop_statement (loop_left within e.loop_name))) (signs_if within e.condition) next))

pub abort-step : (tasks : OneOrMore Name) (next : Option StatementNo) (within : Within)
    → Step (abort_put within tasks next) (λ p r. Stood p next (λ s f. abort_stands p within tasks f) r)
unfolding abort_put
abort-step tasks next within =
    step-so (λ p r h. stood (abort_stands p within tasks) h
    (all-same same_decl (λ d. same-number d.0) (thing_named within tasks.first ∷ map (thing_named within) tasks.others)))
    (action-step (action.Abort (thing_named within tasks.first ∷ map (thing_named within) tasks.others)) 0 next)

pub requeue-step : (name : Name) (with_abort : Bool) (next : Option StatementNo) (within : Within)
    → Step (requeue_put within name with_abort next) (λ p r. Stood p next (λ s f. requeue_stands p within name with_abort f) r)
unfolding requeue_put
requeue-step name with_abort next within =
    step-so (λ p r h. stood (requeue_stands p within name with_abort) h
    (and_from _ _ (same-number (entry_at within (last_part name).place).0)
    (and_from _ _ (same-entry_owner (owner_of_entry within name (unit_of_entry within name))) (same-truth with_abort))))
    (action-step (action.Requeue (entry_at within (last_part name).place) (owner_of_entry within name (unit_of_entry within name)) with_abort) 0 next)
