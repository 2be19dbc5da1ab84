-- Call statements stand: of a subprogram, an entry or a predefined procedure.
use Rattle.std.proofs.Common.{◌≡◌, ℕ, Bool, true, false, ◌&&◌, List, [], ◌∷◌, Option, Some, None, option_map, refl, ap, ◌∙◌}
use Rattle.std.specs.Prelude.{unwrap_or}
use Rattle.std.proofs.lemmas.Bool.{and_from, and_parts, false≢true}
use Rattle.ada_tree.specs.declared.names.Name.{Name}
use Rattle.ada_tree.specs.declared.expressions.Expression.{Expression}
use Rattle.ada_tree.specs.declared.expressions.Argument.{Argument}
use Rattle.ada_tree.specs.declared.statements.Call.{Call}
use Rattle.profile_image.specs.declared.image.Image.{Image}
use Rattle.profile_image.specs.declared.numbers.DeclNo.{DeclNo}
use Rattle.profile_image.specs.declared.numbers.EntryNo.{EntryNo}
use Rattle.profile_image.specs.declared.numbers.ExprNo.{ExprNo}
use Rattle.profile_image.specs.declared.numbers.StatementNo.{StatementNo}
use Rattle.profile_image.specs.declared.declarations.EntryUnit.{EntryUnit}
use Rattle.profile_image.specs.declared.expressions.VariableName.{VariableName}
use Rattle.profile_image.specs.declared.statements.Destination.TheVariants as destination
use Rattle.profile_image.specs.declared.statements.Setting.{Setting}
use Rattle.profile_image.specs.declared.statements.HandlerName.{HandlerName}
use Rattle.profile_image.specs.declared.statements.StatementForm.{StatementForm}
use Rattle.profile_image.specs.declared.statements.StatementForm.TheVariants as action
use Rattle.ada_regions.specs.declared.types.Formal.{Formal}
use Rattle.ada_regions.specs.declared.predefined.Operation.{Operation}
use Rattle.ada_regions.specs.declared.predefined.Operation.TheVariants as operations
use Rattle.ada_regions.specs.declared.predefined.Predefined.{Predefined}
use Rattle.ada_regions.specs.declared.predefined.Predefined.TheVariants as items
use Rattle.ada_regions.specs.declared.entities.Denoted.{Denoted}
use Rattle.ada_regions.specs.declared.entities.Denoted.TheVariants as denotes
use Rattle.ada_regions.specs.declared.entities.EntityKind.{EntityKind}
use Rattle.ada_regions.specs.declared.entities.EntityKind.TheVariants as entity
use Rattle.ada_regions.specs.Words.{and_then}
use Rattle.ada_regions.specs.PredefinedUnits.{names_of_formals}
use Rattle.ada_regions.specs.Names.{denoted_by, kind_at, entity_of}
use Rattle.ada_image.specs.declared.making.Within.{Within}
use Rattle.ada_image.specs.Making.{Making, ◌>>=◌, action_put, first_given}
use Rattle.ada_image.specs.ImageOfExpressions.{actuals_for, kind_named, optional_value}
use Rattle.ada_image.specs.ImageOfCalls.{function_call_put, entry_call_put, arguments_made, owner_of_entry, value_or_none, pieces_made, put_line_put, not_built}
use Rattle.ada_image.specs.ImageOfStatements.{unit_of_kind, no_unit, unit_of_entry}
use Rattle.ada_image.specs.ImageOfProcedures.{second_of, third_of, thing_of, moment_of, variable_of, handler_of, setting_made, set_event_put}
use Rattle.ada_image.specs.ImageOfProcedures.{set_timer_put, cancel_put, budget_put, task_put, values_put, procedure_with, procedure_put}
use Rattle.ada_image.specs.CallStatements.{entity_call_put, item_call_put, denoted_call_put, signs_in_actuals, call_statement_put}
use Rattle.ada_image.specs.ReadStatements.{same_entry_owner, goes_nowhere, value_stands_if, variable_stands_if, condition_stands}
use Rattle.ada_image.specs.ReadStatements.{setting_stands, thing_is, handler_is, procedure_stands, entry_call_stands, is_call_of_main}
use Rattle.ada_image.specs.ReadStatements.{entity_call_stands, item_call_stands, call_of_name_stands, call_statement_stands}
use Rattle.ada_image.specs.BuiltStatements.{value_there, value_if_there, variable_there, arguments_built, text_built, procedure_built}
use Rattle.ada_image.specs.BuiltStatements.{entity_call_built, item_call_built, denoted_call_built, call_statement_built}
use Rattle.image_laws.proofs.Images.Steps.{Step, step-so, step-then, action-step}
use Rattle.image_laws.proofs.Images.Values.{same-number}
use Rattle.image_laws.proofs.Images.Actuals.{same-entry_owner, same-handler, Stood, stood, value-step}
use Rattle.image_laws.proofs.Images.Actuals.{variable-there, optional-step, setting-step, arguments-step, call-step}
use Rattle.image_laws.proofs.Images.Pieces.{text-step}

-- ---- predefined procedures

module _ (within : Within) (signs : ℕ) (next : Option StatementNo) where
  -- what stands passes a test
  abbrev Stand : (Image → StatementForm → Bool) → Making (Option StatementNo) → Type 0
  Stand test m = Step m (λ p r. Stood p next (λ s f. test p f) r)

  thing-same : (e : Option Expression) (p : Image) → thing_is p within e (thing_of within e) ≡ true
  thing-same e p = same-number (thing_of within e).0

  handler-same : (e : Option Expression) (p : Image) → handler_is p within e (handler_of within e) ≡ true
  handler-same e p = same-handler (handler_of within e)

  line-step : (xs : List (Argument Expression)) (es : List (Option Expression)) → text_built (first_given es) within.names ≡ true
      → Stand (λ p. procedure_stands p within operations.PutLine xs es) (put_line_put within es signs next)
  unfolding put_line_put
  line-step xs [] b = absurd (false≢true b)
  line-step xs (e ∷ es) b =
      step-then (pieces_made within e) (λ pieces. action_put (action.PutLine pieces) signs next) (text-step e within b)
      (λ pieces. step-so (λ p r h k. stood (procedure_stands p within operations.PutLine xs (e ∷ es)) h k) (action-step (action.PutLine pieces) signs next))

  -- a timing event or a timer is set
  set-step : (f : DeclNo → Setting → Option HandlerName → StatementForm) (test : Image → StatementForm → Bool) (xs : List (Argument Expression))
      (es : List (Option Expression))
      → ((p : Image) (d : DeclNo) (s : Setting) (h : Option HandlerName)
      → test p (f d s h) ≡ (thing_is p within (first_given es) d && (setting_stands p within xs s && handler_is p within (third_of es) h)))
      → value_there (moment_of xs) within.names ≡ true
      → Stand test (setting_made within xs >>= (λ s. action_put (f (thing_of within (first_given es)) s (handler_of within (third_of es))) signs next))
  set-step f test xs es same b =
      step-then (setting_made within xs) (λ s. action_put (f (thing_of within (first_given es)) s (handler_of within (third_of es))) signs next)
      (setting-step xs within b)
      (λ s. step-so (λ p r h k. stood (test p) h (same p _ _ _ ∙ and_from _ _ (thing-same (first_given es) p) (and_from _ _ k (handler-same (third_of es) p))))
      (action-step (f (thing_of within (first_given es)) s (handler_of within (third_of es))) signs next))

  cancel-step : (f : DeclNo → VariableName → StatementForm) (test : Image → StatementForm → Bool) (es : List (Option Expression))
      → ((p : Image) (d : DeclNo) (v : VariableName) → test p (f d v) ≡ (thing_is p within (first_given es) d && variable_stands_if p within (second_of es) v))
      → variable_there (second_of es) within.names ≡ true → Stand test (cancel_put f within es signs next)
  unfolding cancel_put
  cancel-step f test es same b =
      step-then (variable_of within (second_of es)) (λ v. action_put (f (thing_of within (first_given es)) v) signs next)
      (variable-there (second_of es) within b)
      (λ v. step-so (λ p r h k. stood (test p) h (same p _ _ ∙ and_from _ _ (thing-same (first_given es) p) k))
      (action-step (f (thing_of within (first_given es)) v) signs next))

  budget-step : (f : DeclNo → ExprNo → StatementForm) (test : Image → StatementForm → Bool) (es : List (Option Expression))
      → ((p : Image) (d : DeclNo) (e : ExprNo) → test p (f d e) ≡ (thing_is p within (first_given es) d && value_stands_if p within (second_of es) e))
      → value_there (second_of es) within.names ≡ true → Stand test (budget_put f within es signs next)
  unfolding budget_put
  budget-step f test es same b =
      step-then (value_or_none within (second_of es)) (λ e. action_put (f (thing_of within (first_given es)) e) signs next) (value-step (second_of es) within b)
      (λ e. step-so (λ p r h k. stood (test p) h (same p _ _ ∙ and_from _ _ (thing-same (first_given es) p) k))
      (action-step (f (thing_of within (first_given es)) e) signs next))

  task-step : (f : ExprNo → Option ExprNo → StatementForm) (test : Image → StatementForm → Bool) (es : List (Option Expression))
      → ((p : Image) (e : ExprNo) (t : Option ExprNo)
      → test p (f e t) ≡ (value_stands_if p within (first_given es) e && condition_stands p within (second_of es) t))
      → (value_there (first_given es) within.names && value_if_there (second_of es) within.names) ≡ true → Stand test (task_put f within es signs next)
  unfolding task_put
  task-step f test es same b =
      let parts = and_parts _ _ b in
      step-then (value_or_none within (first_given es)) (λ e. optional_value within (second_of es) >>= (λ t. action_put (f e t) signs next))
      (value-step (first_given es) within parts.0)
      (λ e. step-then (optional_value within (second_of es)) (λ t. action_put (f e t) signs next) (optional-step (second_of es) within parts.1)
      (λ t. step-so (λ p r h k l. stood (test p) h (same p _ _ ∙ and_from _ _ l k)) (action-step (f e t) signs next)))

  values-step : (f : ExprNo → ExprNo → StatementForm) (test : Image → StatementForm → Bool) (es : List (Option Expression))
      → ((p : Image) (a b : ExprNo) → test p (f a b) ≡ (value_stands_if p within (first_given es) a && value_stands_if p within (second_of es) b))
      → (value_there (first_given es) within.names && value_there (second_of es) within.names) ≡ true → Stand test (values_put f within es signs next)
  unfolding values_put
  values-step f test es same b =
      let parts = and_parts _ _ b in
      step-then (value_or_none within (first_given es)) (λ x. value_or_none within (second_of es) >>= (λ y. action_put (f x y) signs next))
      (value-step (first_given es) within parts.0)
      (λ x. step-then (value_or_none within (second_of es)) (λ y. action_put (f x y) signs next) (value-step (second_of es) within parts.1)
      (λ y. step-so (λ p r h k l. stood (test p) h (same p _ _ ∙ and_from _ _ l k)) (action-step (f x y) signs next)))

  abbrev ProcedureStep : Operation → Type 0
  ProcedureStep o =
      (xs : List (Argument Expression)) (es : List (Option Expression)) → procedure_built o xs es within.names ≡ true
      → Stand (λ p. procedure_stands p within o xs es) (procedure_with within o xs es signs next)

  procedure-step : (o : Operation) → ProcedureStep o
  unfolding procedure_with set_event_put set_timer_put
  procedure-step operations.PutLine xs es b = line-step xs es b
  procedure-step operations.Clock xs es b = absurd (false≢true b)
  procedure-step operations.Microseconds xs es b = absurd (false≢true b)
  procedure-step operations.Milliseconds xs es b = absurd (false≢true b)
  procedure-step operations.Seconds xs es b = absurd (false≢true b)
  procedure-step operations.Minutes xs es b = absurd (false≢true b)
  procedure-step operations.ToDuration xs es b = absurd (false≢true b)
  procedure-step operations.ToTimeSpan xs es b = absurd (false≢true b)
  procedure-step operations.SetEvent xs es b = set-step action.SetEvent (λ p. procedure_stands p within operations.SetEvent xs es) xs es (λ p d s h. refl) b
  procedure-step operations.CancelEvent xs es b =
      cancel-step action.CancelEvent (λ p. procedure_stands p within operations.CancelEvent xs es) es (λ p d v. refl) b
  procedure-step operations.TimeOfEvent xs es b = absurd (false≢true b)
  procedure-step operations.ExecutionClock xs es b = absurd (false≢true b)
  procedure-step operations.SetTimer xs es b = set-step action.SetTimer (λ p. procedure_stands p within operations.SetTimer xs es) xs es (λ p d s h. refl) b
  procedure-step operations.CancelTimer xs es b =
      cancel-step action.CancelTimer (λ p. procedure_stands p within operations.CancelTimer xs es) es (λ p d v. refl) b
  procedure-step operations.TimeRemaining xs es b = absurd (false≢true b)
  procedure-step operations.AddTask xs es b = budget-step action.AddTask (λ p. procedure_stands p within operations.AddTask xs es) es (λ p d e. refl) b
  procedure-step operations.RemoveTask xs es b = budget-step action.RemoveTask (λ p. procedure_stands p within operations.RemoveTask xs es) es (λ p d e. refl) b
  procedure-step operations.Replenish xs es b = budget-step action.Replenish (λ p. procedure_stands p within operations.Replenish xs es) es (λ p d e. refl) b
  procedure-step operations.Add xs es b = budget-step action.AddToBudget (λ p. procedure_stands p within operations.Add xs es) es (λ p d e. refl) b
  procedure-step operations.BudgetHasExpired xs es b = absurd (false≢true b)
  procedure-step operations.BudgetRemaining xs es b = absurd (false≢true b)
  procedure-step operations.SetBudget xs es b =
      step-so (λ p r h.
      stood (procedure_stands p within operations.SetBudget xs es) h (and_from _ _ (thing-same (first_given es) p) (handler-same (second_of es) p)))
      (action-step (action.SetBudget (thing_of within (first_given es)) (handler_of within (second_of es))) signs next)
  procedure-step operations.CancelBudget xs es b =
      cancel-step action.CancelBudget (λ p. procedure_stands p within operations.CancelBudget xs es) es (λ p d v. refl) b
  procedure-step operations.SetPriority xs es b =
      task-step action.SetPriority (λ p. procedure_stands p within operations.SetPriority xs es) es (λ p e t. refl) b
  procedure-step operations.GetPriority xs es b = absurd (false≢true b)
  procedure-step operations.CurrentTask xs es b = absurd (false≢true b)
  procedure-step operations.SetQuantum xs es b = values-step action.SetQuantum (λ p. procedure_stands p within operations.SetQuantum xs es) es (λ p x y. refl) b
  procedure-step operations.SetDeadline xs es b =
      task-step action.SetDeadline (λ p. procedure_stands p within operations.SetDeadline xs es) es (λ p e t. refl) b
  procedure-step operations.GetDeadline xs es b = absurd (false≢true b)
  procedure-step operations.DelayUntilAndSetDeadline xs es b =
      values-step action.DelayUntilAndSetDeadline (λ p. procedure_stands p within operations.DelayUntilAndSetDeadline xs es) es (λ p x y. refl) b
  procedure-step operations.PortValue xs es b = absurd (false≢true b)

  -- ---- calls of what a source declares

  entry-step : (name : Name) (xs : List (Argument Expression)) (number : EntryNo) (unit : EntryUnit) (formals : List Formal) → unit_of_entry within name ≡ unit
      → arguments_built formals xs within.names ≡ true
      → Stand (λ p. entry_call_stands p within name xs number formals) (entry_call_put within name xs number unit formals signs next)
  unfolding entry_call_put
  entry-step name xs number unit formals is b =
      step-then (arguments_made within formals xs) (λ ys. action_put (action.EntryCall number (owner_of_entry within name unit) ys) signs next)
      (arguments-step formals xs within b)
      (λ ys. step-so (λ p r h k. stood (entry_call_stands p within name xs number formals) h
      (and_from _ _ (same-number number.0)
      (and_from _ _
      (ap (λ u. same_entry_owner (owner_of_entry within name unit) (owner_of_entry within name u)) is
      ∙ same-entry_owner (owner_of_entry within name unit)) k)))
      (action-step (action.EntryCall number (owner_of_entry within name unit) ys) signs next))

  unit-named : (name : Name) (number : EntryNo) (unit : EntryUnit) (formals : List Formal) → kind_named within name ≡ Some (entity.Entry number unit formals)
      → unit_of_entry within name ≡ unit
  unfolding unit_of_entry
  unit-named name number unit formals e = ap (λ k. unwrap_or (and_then k unit_of_kind) no_unit) e

  kind-is : (name : Name) (e : ℕ) (k : Option EntityKind) → denoted_by within.names name ≡ Some (denotes.Entity e) → kind_at within.names e ≡ k
      → kind_named within name ≡ k
  unfolding kind_named
  kind-is name e k d h = ap (λ x. and_then x (λ y. and_then (entity_of y) (kind_at within.names))) d ∙ h

  entity-step : (name : Name) (xs : List (Argument Expression)) (k : Option EntityKind) → kind_named within name ≡ k
      → unwrap_or (option_map (λ kind. entity_call_built xs kind within.names) k) false ≡ true
      → Stand (λ p f. unwrap_or (option_map (λ kind. entity_call_stands p within name xs kind f) k) false)
      (unwrap_or (option_map (λ kind. entity_call_put within name xs kind signs next) k) (not_built next))
  unfolding entity_call_put function_call_put
  entity-step name xs None is b = absurd (false≢true b)
  entity-step name xs (Some entity.Package) is b = absurd (false≢true b)
  entity-step name xs (Some entity.Main) is b = step-so (λ p r h. stood is_call_of_main h refl) (action-step action.CallMain signs next)
  entity-step name xs (Some (entity.Mark s)) is b = absurd (false≢true b)
  entity-step name xs (Some (entity.Literal enumeration position)) is b = absurd (false≢true b)
  entity-step name xs (Some (entity.Object s constant x declaration)) is b = absurd (false≢true b)
  entity-step name xs (Some (entity.Parameter s mode declaration)) is b = absurd (false≢true b)
  entity-step name xs (Some (entity.LoopParameter declaration)) is b = absurd (false≢true b)
  entity-step name xs (Some (entity.Component s owner declaration)) is b = absurd (false≢true b)
  entity-step name xs (Some (entity.Exception declaration)) is b = absurd (false≢true b)
  entity-step name xs (Some (entity.Subprogram number is_function specified formals unit)) is b =
      step-so (λ p r h. h refl)
      (call-step (record { name = name; arguments = xs; number = number; unit = unit; formals = formals }) destination.Nowhere
      (λ p. goes_nowhere p) signs next within b)
  entity-step name xs (Some (entity.Entry number unit formals)) is b = entry-step name xs number unit formals (unit-named name number unit formals is) b
  entity-step name xs (Some entity.Label) is b = absurd (false≢true b)

  item-step : (xs : List (Argument Expression)) (item : Predefined) → item_call_built item xs within.names ≡ true
      → Stand (λ p. item_call_stands p within item xs) (item_call_put within item xs signs next)
  unfolding item_call_put procedure_put
  item-step xs (items.Mark s) b = absurd (false≢true b)
  item-step xs (items.Constant of_type v) b = absurd (false≢true b)
  item-step xs (items.Truth t) b = absurd (false≢true b)
  item-step xs (items.Exception e) b = absurd (false≢true b)
  item-step xs (items.Operation o) b = procedure-step o xs (actuals_for (names_of_formals o) xs) b

  denoted-step : (name : Name) (xs : List (Argument Expression)) (d : Option Denoted) → denoted_by within.names name ≡ d
      → denoted_call_built xs d within.names ≡ true
      → Stand (λ p. call_of_name_stands p within name xs d) (denoted_call_put within name xs d signs next)
  unfolding denoted_call_put
  denoted-step name xs None is b = absurd (false≢true b)
  denoted-step name xs (Some (denotes.Entity e)) is b = entity-step name xs (kind_at within.names e) (kind-is name e (kind_at within.names e) is refl) b
  denoted-step name xs (Some (denotes.Unit u)) is b = absurd (false≢true b)
  denoted-step name xs (Some (denotes.Item u item)) is b = item-step xs item b

pub call-statement-step : (c : Call) (next : Option StatementNo) (within : Within) → call_statement_built c within.names ≡ true
    → Step (call_statement_put within c.name c.arguments next) (λ p r. Stood p next (λ s f. call_statement_stands p within c f) r)
unfolding call_statement_put
call-statement-step c next within b = denoted-step within (signs_in_actuals within c.arguments) next c.name c.arguments (denoted_by within.names c.name) refl b
