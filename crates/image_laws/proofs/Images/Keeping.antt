-- Simple statements, calls and declarations begin no scope, and have so many actions.
use Rattle.std.proofs.Common.{◌≡◌, ℕ, Bool, true, false, cond, List, [], ◌∷◌, ◌++◌, Option, Some, None, option_map, length, ◌+◌, ap, subst, refl, ◌∙◌, arith}
use Rattle.std.specs.Prelude.{unwrap_or}
use Rattle.std.proofs.lemmas.List.{length-append}
use Rattle.ada_tree.specs.declared.names.Identifier.{Identifier}
use Rattle.ada_tree.specs.declared.names.Name.{Name}
use Rattle.ada_tree.specs.declared.names.OneOrMore.{OneOrMore}
use Rattle.ada_tree.specs.declared.expressions.Expression.{Expression}
use Rattle.ada_tree.specs.declared.expressions.Expression.TheViews.{out-Expression}
use Rattle.ada_tree.specs.declared.expressions.ExpressionForm.{ExpressionForm}
use Rattle.ada_tree.specs.declared.expressions.ExpressionForm.TheVariants as form
use Rattle.ada_tree.specs.declared.expressions.Addend.{Addend}
use Rattle.ada_tree.specs.declared.expressions.Argument.{Argument}
use Rattle.ada_tree.specs.declared.statements.Assignment.{Assignment}
use Rattle.ada_tree.specs.declared.statements.Delay.{Delay}
use Rattle.ada_tree.specs.declared.statements.Exit.{Exit}
use Rattle.ada_tree.specs.declared.declarations.Declaration.{Declaration}
use Rattle.ada_tree.specs.declared.declarations.Declaration.TheVariants as declaration
use Rattle.profile_image.specs.declared.numbers.DeclNo.{DeclNo}
use Rattle.profile_image.specs.declared.numbers.ExprNo.{ExprNo}
use Rattle.profile_image.specs.declared.numbers.StatementNo.{StatementNo}
use Rattle.profile_image.specs.declared.numbers.SubprogramNo.{SubprogramNo}
use Rattle.profile_image.specs.declared.expressions.VariableName.{VariableName}
use Rattle.profile_image.specs.declared.statements.Actual.TheVariants as actual
use Rattle.profile_image.specs.declared.statements.Destination.{Destination}
use Rattle.profile_image.specs.declared.statements.Destination.TheVariants as destination
use Rattle.profile_image.specs.declared.statements.HandlerName.{HandlerName}
use Rattle.profile_image.specs.declared.statements.Setting.{Setting}
use Rattle.profile_image.specs.declared.statements.StatementForm.{StatementForm}
use Rattle.profile_image.specs.declared.statements.StatementForm.TheVariants as action
use Rattle.ada_regions.specs.declared.types.Formal.{Formal}
use Rattle.ada_regions.specs.declared.types.Mode.{Mode}
use Rattle.ada_regions.specs.declared.types.Mode.TheVariants as mode
use Rattle.ada_regions.specs.declared.types.Subtype.{Subtype}
use Rattle.ada_regions.specs.declared.predefined.Operation.{Operation}
use Rattle.ada_regions.specs.declared.predefined.Operation.TheVariants as operations
use Rattle.ada_regions.specs.declared.predefined.Predefined.{Predefined}
use Rattle.ada_regions.specs.declared.predefined.Predefined.TheVariants as items
use Rattle.ada_regions.specs.declared.entities.Denoted.{Denoted}
use Rattle.ada_regions.specs.declared.entities.Denoted.TheVariants as denotes
use Rattle.ada_regions.specs.declared.entities.EntityKind.{EntityKind}
use Rattle.ada_regions.specs.declared.entities.EntityKind.TheVariants as entity
use Rattle.ada_regions.specs.Words.{all_of}
use Rattle.ada_regions.specs.PredefinedUnits.{names_of_formals}
use Rattle.ada_regions.specs.Names.{denoted_by, kind_at}
use Rattle.ada_regions.specs.Statics.{subtype_of_name}
use Rattle.ada_regions.specs.TypeKinds.{is_task_type, is_controlled_type, is_array_type}
use Rattle.ada_image.specs.declared.making.Lists.{Lists}
use Rattle.ada_image.specs.declared.making.Within.{Within}
use Rattle.ada_image.specs.Making.{action as action_made, Making, ◌>>=◌, pure, value_put, action_put, first_given}
use Rattle.ada_image.specs.Layout.{is_kept, is_thing, subtype_is}
use Rattle.ada_image.specs.ImageOfExpressions.{expression_made, signs_in, signs_if, object_named, first_argument}
use Rattle.ada_image.specs.ImageOfExpressions.{actuals_for, index_made, variable_made, optional_value}
use Rattle.ada_image.specs.ImageOfCalls.{FunctionCall, function_call, target_made, variable_in_form, variable_in, in_made, out_made, in_out_made}
use Rattle.ada_image.specs.ImageOfCalls.{mode_made, thing_actual, actual_made, actuals_made, names_of, arguments_made, callee_of, owner_of_entry}
use Rattle.ada_image.specs.ImageOfCalls.{call_put, entry_call_put, function_call_put, value_or_none, image_piece, image_made, piece_in_form}
use Rattle.ada_image.specs.ImageOfCalls.{piece_made, joined_made, all_joined, pieces_in_form, pieces_made, put_line_put, not_built}
use Rattle.ada_image.specs.ImageOfProcedures.{second_of, third_of, thing_of, moment_of, is_in_time, setting_with, variable_of, handler_of, setting_made}
use Rattle.ada_image.specs.ImageOfProcedures.{set_event_put, set_timer_put, cancel_put, budget_put, task_put, values_put, procedure_with, procedure_put}
use Rattle.ada_image.specs.CallStatements.{entity_call_put, item_call_put, denoted_call_put, signs_in_actuals, call_statement_put}
use Rattle.ada_image.specs.ImageOfStatements.{array_assigned, controlled_assigned, value_assigned, assigned_whole, assigned}
use Rattle.ada_image.specs.ImageOfStatements.{assignment_put, delay_form, delay_put, no_function, value_returned, return_put}
use Rattle.ada_image.specs.ImageOfStatements.{raise_put, loop_left, loop_statement, exit_put, abort_put, requeue_put}
use Rattle.ada_image.specs.ImageOfDeclarations.{number_declared, kind_declared, subtype_declared_as, function_call_if, initialize_if}
use Rattle.ada_image.specs.ImageOfDeclarations.{object_declaration_put, object_elaborated, object_put, objects_put, single_put}
use Rattle.ada_image.specs.ImageOfDeclarations.{declaration_put, declarations_put, activation_put, end_of_activation_put}
use Rattle.ada_image.specs.ImageOfUnits.{outermost}
use Rattle.image_laws.specs.ActionsOfText.{one_if, object_actions, name_actions, names_actions, single_actions}
use Rattle.image_laws.specs.ActionsOfText.{declaration_actions, declarations_actions, activation_actions}
use Rattle.image_laws.proofs.Images.Growing.{expression-grows}

-- no scope begins, and there are so many actions more
pub record Adds {X : Type 0} (m : Making X) (k : ℕ) : Type 0 where
  pub firsts : (l : Lists) → (m l).0.firsts ≡ l.firsts
  pub actions : (l : Lists) → length (m l).0.statements ≡ k + length l.statements

abbrev pub Keeps : {X : Type 0} → Making X → Type 0
Keeps m = Adds m 0

pub no-more : (l : Lists) → length l.statements ≡ 0 + length l.statements
no-more l = omega arith

pub keeps-pure : {X : Type 0} (x : X) → Keeps (pure x)
keeps-pure x = record { firsts = λ l. refl; actions = no-more }

-- a step that adds nothing, and one behind it
pub keeps-then : {X Y : Type 0} {k : ℕ} (m : Making X) (f : X → Making Y) → Keeps m → ((x : X) → Adds (f x) k) → Adds (m >>= f) k
keeps-then m f g h = record {
  firsts = λ l. (h (m l).1).firsts (m l).0 ∙ g.firsts l;
  actions = λ l. let a = (h (m l).1).actions (m l).0 in let b = g.actions l in omega arith;
}

pub adds-then : {X Y : Type 0} (m : Making X) (f : X → Making Y) (a b : ℕ) → Adds m a → ((x : X) → Adds (f x) b) → Adds (m >>= f) (b + a)
adds-then m f a b g h = record {
  firsts = λ l. (h (m l).1).firsts (m l).0 ∙ g.firsts l;
  actions = λ l. let c = (h (m l).1).actions (m l).0 in let d = g.actions l in omega arith;
}

pub action-keeps : (f : StatementForm) (signs : ℕ) (next : Option StatementNo) → Adds (action_put f signs next) 1
unfolding action_put
action-keeps f signs next = record { firsts = λ l. refl; actions = λ l. let x = length-append l.statements (action_made f signs next ∷ []) in omega arith }

pub expression-keeps : (e : Expression) (within : Within) → Keeps (expression_made e within)
expression-keeps e within = record {
  firsts = λ l. (expression-grows e within l).1;
  actions = λ l. ap (λ ss. length ss) (expression-grows e within l).2 ∙ no-more l;
}

module _ (within : Within) where
  -- ---- values, variables and actuals

  target-keeps : (name : Name) (index : Option Expression) → Keeps (target_made within name index)
  unfolding target_made variable_made index_made
  target-keeps name None = record { firsts = λ l. refl; actions = no-more }
  target-keeps name (Some i) =
      keeps-then (expression_made i within) (λ x. pure {X = VariableName} (record { object = object_named within name; index = Some x }))
      (expression-keeps i within) (λ x. keeps-pure _)

  variable-form-keeps : (x : ExpressionForm Expression) → Keeps (variable_in_form within x)
  unfolding variable_in_form
  variable-form-keeps (form.Logical operator first others) = record { firsts = λ l. refl; actions = no-more }
  variable-form-keeps (form.Relational left place operator right) = record { firsts = λ l. refl; actions = no-more }
  variable-form-keeps (form.Adding first others) = record { firsts = λ l. refl; actions = no-more }
  variable-form-keeps (form.Signed place s operand) = record { firsts = λ l. refl; actions = no-more }
  variable-form-keeps (form.Multiplying first others) = record { firsts = λ l. refl; actions = no-more }
  variable-form-keeps (form.Highest place operator operand) = record { firsts = λ l. refl; actions = no-more }
  variable-form-keeps (form.Number place literal) = record { firsts = λ l. refl; actions = no-more }
  variable-form-keeps (form.Text place text) = record { firsts = λ l. refl; actions = no-more }
  variable-form-keeps (form.Null place) = record { firsts = λ l. refl; actions = no-more }
  variable-form-keeps (form.Bracketed place inner) = record { firsts = λ l. refl; actions = no-more }
  variable-form-keeps (form.Named name a arguments) = target-keeps name (first_argument arguments)

  variable-keeps : (e : Expression) → Keeps (variable_in within e)
  unfolding variable_in
  variable-keeps e = variable-form-keeps (out-Expression e).form

  mode-keeps : (m : Mode) (e : Expression) → Keeps (mode_made within m e)
  unfolding mode_made in_made out_made in_out_made
  mode-keeps mode.In e = keeps-then (expression_made e within) (λ x. pure (actual.In x)) (expression-keeps e within) (λ x. keeps-pure _)
  mode-keeps mode.Out e = keeps-then (variable_in within e) (λ x. pure (actual.Out x)) (variable-keeps e) (λ x. keeps-pure _)
  mode-keeps mode.InOut e = keeps-then (variable_in within e) (λ x. pure (actual.InOut x)) (variable-keeps e) (λ x. keeps-pure _)

  actual-keeps : (thing : Bool) (m : Mode) (e : Expression) → Keeps (cond thing (pure (thing_actual within e)) (mode_made within m e))
  actual-keeps true m e = record { firsts = λ l. refl; actions = no-more }
  actual-keeps false m e = mode-keeps m e

  actuals-keep : (fs : List Formal) (es : List (Option Expression)) → Keeps (actuals_made within fs es)
  unfolding actuals_made actual_made
  actuals-keep [] es = record { firsts = λ l. refl; actions = no-more }
  actuals-keep (f ∷ fs) [] = record { firsts = λ l. refl; actions = no-more }
  actuals-keep (f ∷ fs) (None ∷ es) = actuals-keep fs es
  actuals-keep (f ∷ fs) (Some e ∷ es) =
      keeps-then (actual_made within f e) (λ a. actuals_made within fs es >>= (λ rest. pure (a ∷ rest))) (actual-keeps (subtype_is is_thing f.subtype) f.mode e)
      (λ a. keeps-then (actuals_made within fs es) (λ rest. pure (a ∷ rest)) (actuals-keep fs es) (λ rest. keeps-pure _))

  arguments-keep : (fs : List Formal) (xs : List (Argument Expression)) → Keeps (arguments_made within fs xs)
  unfolding arguments_made
  arguments-keep fs xs = actuals-keep fs (actuals_for (names_of fs) xs)

  value-keeps : (e : Option Expression) → Keeps (value_or_none within e)
  unfolding value_or_none value_put
  value-keeps None = record { firsts = λ l. refl; actions = no-more }
  value-keeps (Some e) = expression-keeps e within

  optional-keeps : (e : Option Expression) → Keeps (optional_value within e)
  unfolding optional_value
  optional-keeps None = record { firsts = λ l. refl; actions = no-more }
  optional-keeps (Some e) = keeps-then (expression_made e within) (λ x. pure (Some x)) (expression-keeps e within) (λ x. keeps-pure _)

  pub condition-keeps : (e : Option Expression) → Keeps (optional_value within e)
  unfolding optional_value
  condition-keeps None = record { firsts = λ l. refl; actions = no-more }
  condition-keeps (Some e) = keeps-then (expression_made e within) (λ x. pure (Some x)) (expression-keeps e within) (λ x. keeps-pure _)

  variable-of-keeps : (e : Option Expression) → Keeps (variable_of within e)
  unfolding variable_of
  variable-of-keeps None = record { firsts = λ l. refl; actions = no-more }
  variable-of-keeps (Some e) = variable-keeps e

  call-keeps : (c : FunctionCall) (d : Destination) (signs : ℕ) (next : Option StatementNo) → Adds (function_call_put within c d signs next) 1
  unfolding function_call_put call_put
  call-keeps c d signs next =
      keeps-then (arguments_made within c.formals c.arguments) (λ xs. action_put (action.Call (callee_of within c.name c.number c.unit) xs d) signs next)
      (arguments-keep c.formals c.arguments) (λ xs. action-keeps _ signs next)

  -- ---- texts

  image-keeps : (name : Name) (xs : List (Argument Expression)) → Keeps (image_made within name xs)
  unfolding image_made
  image-keeps name xs =
      keeps-then (value_or_none within (first_argument xs)) (λ e. pure (image_piece e (subtype_of_name within.names name) ∷ []))
      (value-keeps (first_argument xs)) (λ e. keeps-pure _)

  piece-form-keeps : (x : ExpressionForm Expression) → Keeps (piece_in_form within x)
  unfolding piece_in_form
  piece-form-keeps (form.Logical operator first others) = record { firsts = λ l. refl; actions = no-more }
  piece-form-keeps (form.Relational left place operator right) = record { firsts = λ l. refl; actions = no-more }
  piece-form-keeps (form.Adding first others) = record { firsts = λ l. refl; actions = no-more }
  piece-form-keeps (form.Signed place s operand) = record { firsts = λ l. refl; actions = no-more }
  piece-form-keeps (form.Multiplying first others) = record { firsts = λ l. refl; actions = no-more }
  piece-form-keeps (form.Highest place operator operand) = record { firsts = λ l. refl; actions = no-more }
  piece-form-keeps (form.Number place literal) = record { firsts = λ l. refl; actions = no-more }
  piece-form-keeps (form.Text place text) = record { firsts = λ l. refl; actions = no-more }
  piece-form-keeps (form.Null place) = record { firsts = λ l. refl; actions = no-more }
  piece-form-keeps (form.Bracketed place inner) = record { firsts = λ l. refl; actions = no-more }
  piece-form-keeps (form.Named name a arguments) = image-keeps name arguments

  piece-keeps : (e : Expression) → Keeps (piece_made within e)
  unfolding piece_made
  piece-keeps e = piece-form-keeps (out-Expression e).form

  joined-keeps : (xs : List (Addend Expression)) → Keeps (joined_made within xs)
  unfolding joined_made
  joined-keeps [] = record { firsts = λ l. refl; actions = no-more }
  joined-keeps (a ∷ rest) =
      keeps-then (piece_made within a.term) (λ one. joined_made within rest >>= (λ others. pure (one ++ others))) (piece-keeps a.term)
      (λ one. keeps-then (joined_made within rest) (λ others. pure (one ++ others)) (joined-keeps rest) (λ others. keeps-pure _))

  text-form-keeps : (x : ExpressionForm Expression) → Keeps (pieces_in_form within x)
  unfolding pieces_in_form all_joined
  text-form-keeps (form.Logical operator first others) = record { firsts = λ l. refl; actions = no-more }
  text-form-keeps (form.Relational left place operator right) = record { firsts = λ l. refl; actions = no-more }
  text-form-keeps (form.Adding first others) =
      keeps-then (piece_made within first) (λ one. joined_made within (others.first ∷ others.others) >>= (λ rest. pure (one ++ rest))) (piece-keeps first)
      (λ one. keeps-then (joined_made within (others.first ∷ others.others)) (λ rest. pure (one ++ rest)) (joined-keeps (others.first ∷ others.others))
      (λ rest. keeps-pure _))
  text-form-keeps (form.Signed place s operand) = record { firsts = λ l. refl; actions = no-more }
  text-form-keeps (form.Multiplying first others) = record { firsts = λ l. refl; actions = no-more }
  text-form-keeps (form.Highest place operator operand) = record { firsts = λ l. refl; actions = no-more }
  text-form-keeps (form.Number place literal) = record { firsts = λ l. refl; actions = no-more }
  text-form-keeps (form.Text place text) = record { firsts = λ l. refl; actions = no-more }
  text-form-keeps (form.Null place) = record { firsts = λ l. refl; actions = no-more }
  text-form-keeps (form.Bracketed place inner) = record { firsts = λ l. refl; actions = no-more }
  text-form-keeps (form.Named name a arguments) = image-keeps name arguments

  text-keeps : (e : Option Expression) → Keeps (pieces_made within e)
  unfolding pieces_made
  text-keeps None = record { firsts = λ l. refl; actions = no-more }
  text-keeps (Some e) = text-form-keeps (out-Expression e).form

  -- ---- call statements

  module _ (signs : ℕ) (next : Option StatementNo) where
    line-keeps : (es : List (Option Expression)) → Adds (put_line_put within es signs next) 1
    unfolding put_line_put
    line-keeps [] = action-keeps _ signs next
    line-keeps (e ∷ es) =
        keeps-then (pieces_made within e) (λ pieces. action_put (action.PutLine pieces) signs next) (text-keeps e) (λ pieces. action-keeps _ signs next)

    set-keeps : (f : DeclNo → Setting → Option HandlerName → StatementForm) (xs : List (Argument Expression)) (es : List (Option Expression))
        → Adds (setting_made within xs >>= (λ s. action_put (f (thing_of within (first_given es)) s (handler_of within (third_of es))) signs next)) 1
    unfolding setting_made
    set-keeps f xs es =
        keeps-then (value_or_none within (moment_of xs))
        (λ e. action_put (f (thing_of within (first_given es)) (setting_with (is_in_time within xs) e) (handler_of within (third_of es))) signs next)
        (value-keeps (moment_of xs)) (λ e. action-keeps _ signs next)

    cancel-keeps : (f : DeclNo → VariableName → StatementForm) (es : List (Option Expression)) → Adds (cancel_put f within es signs next) 1
    unfolding cancel_put
    cancel-keeps f es =
        keeps-then (variable_of within (second_of es)) (λ v. action_put (f (thing_of within (first_given es)) v) signs next) (variable-of-keeps (second_of es))
        (λ v. action-keeps _ signs next)

    budget-keeps : (f : DeclNo → ExprNo → StatementForm) (es : List (Option Expression)) → Adds (budget_put f within es signs next) 1
    unfolding budget_put
    budget-keeps f es =
        keeps-then (value_or_none within (second_of es)) (λ e. action_put (f (thing_of within (first_given es)) e) signs next) (value-keeps (second_of es))
        (λ e. action-keeps _ signs next)

    task-keeps : (f : ExprNo → Option ExprNo → StatementForm) (es : List (Option Expression)) → Adds (task_put f within es signs next) 1
    unfolding task_put
    task-keeps f es =
        keeps-then (value_or_none within (first_given es)) (λ e. optional_value within (second_of es) >>= (λ t. action_put (f e t) signs next))
        (value-keeps (first_given es))
        (λ e. keeps-then (optional_value within (second_of es)) (λ t. action_put (f e t) signs next) (optional-keeps (second_of es))
        (λ t. action-keeps _ signs next))

    values-keep : (f : ExprNo → ExprNo → StatementForm) (es : List (Option Expression)) → Adds (values_put f within es signs next) 1
    unfolding values_put
    values-keep f es =
        keeps-then (value_or_none within (first_given es)) (λ a. value_or_none within (second_of es) >>= (λ b. action_put (f a b) signs next))
        (value-keeps (first_given es))
        (λ a.
        keeps-then (value_or_none within (second_of es)) (λ b. action_put (f a b) signs next) (value-keeps (second_of es)) (λ b. action-keeps _ signs next))

    procedure-keeps : (o : Operation) (xs : List (Argument Expression)) (es : List (Option Expression)) → Adds (procedure_with within o xs es signs next) 1
    unfolding procedure_with set_event_put set_timer_put
    procedure-keeps operations.PutLine xs es = line-keeps es
    procedure-keeps operations.Clock xs es = action-keeps _ _ next
    procedure-keeps operations.Microseconds xs es = action-keeps _ _ next
    procedure-keeps operations.Milliseconds xs es = action-keeps _ _ next
    procedure-keeps operations.Seconds xs es = action-keeps _ _ next
    procedure-keeps operations.Minutes xs es = action-keeps _ _ next
    procedure-keeps operations.ToDuration xs es = action-keeps _ _ next
    procedure-keeps operations.ToTimeSpan xs es = action-keeps _ _ next
    procedure-keeps operations.SetEvent xs es = set-keeps action.SetEvent xs es
    procedure-keeps operations.CancelEvent xs es = cancel-keeps action.CancelEvent es
    procedure-keeps operations.TimeOfEvent xs es = action-keeps _ _ next
    procedure-keeps operations.ExecutionClock xs es = action-keeps _ _ next
    procedure-keeps operations.SetTimer xs es = set-keeps action.SetTimer xs es
    procedure-keeps operations.CancelTimer xs es = cancel-keeps action.CancelTimer es
    procedure-keeps operations.TimeRemaining xs es = action-keeps _ _ next
    procedure-keeps operations.AddTask xs es = budget-keeps action.AddTask es
    procedure-keeps operations.RemoveTask xs es = budget-keeps action.RemoveTask es
    procedure-keeps operations.Replenish xs es = budget-keeps action.Replenish es
    procedure-keeps operations.Add xs es = budget-keeps action.AddToBudget es
    procedure-keeps operations.BudgetHasExpired xs es = action-keeps _ _ next
    procedure-keeps operations.BudgetRemaining xs es = action-keeps _ _ next
    procedure-keeps operations.SetBudget xs es = action-keeps _ _ next
    procedure-keeps operations.CancelBudget xs es = cancel-keeps action.CancelBudget es
    procedure-keeps operations.SetPriority xs es = task-keeps action.SetPriority es
    procedure-keeps operations.GetPriority xs es = action-keeps _ _ next
    procedure-keeps operations.CurrentTask xs es = action-keeps _ _ next
    procedure-keeps operations.SetQuantum xs es = values-keep action.SetQuantum es
    procedure-keeps operations.SetDeadline xs es = task-keeps action.SetDeadline es
    procedure-keeps operations.GetDeadline xs es = action-keeps _ _ next
    procedure-keeps operations.DelayUntilAndSetDeadline xs es = values-keep action.DelayUntilAndSetDeadline es
    procedure-keeps operations.PortValue xs es = action-keeps _ _ next

    entity-keeps : (name : Name) (xs : List (Argument Expression)) (k : Option EntityKind)
        → Adds (unwrap_or (option_map (λ kind. entity_call_put within name xs kind signs next) k) (not_built next)) 1
    unfolding entity_call_put entry_call_put call_put
    entity-keeps name xs None = action-keeps _ _ next
    entity-keeps name xs (Some entity.Package) = action-keeps _ _ next
    entity-keeps name xs (Some entity.Main) = action-keeps _ _ next
    entity-keeps name xs (Some (entity.Mark s)) = action-keeps _ _ next
    entity-keeps name xs (Some (entity.Literal enumeration position)) = action-keeps _ _ next
    entity-keeps name xs (Some (entity.Object s constant x declaration)) = action-keeps _ _ next
    entity-keeps name xs (Some (entity.Parameter s m declaration)) = action-keeps _ _ next
    entity-keeps name xs (Some (entity.LoopParameter declaration)) = action-keeps _ _ next
    entity-keeps name xs (Some (entity.Component s owner declaration)) = action-keeps _ _ next
    entity-keeps name xs (Some (entity.Exception declaration)) = action-keeps _ _ next
    entity-keeps name xs (Some (entity.Subprogram number is_function specified formals unit)) =
        keeps-then (arguments_made within formals xs) (λ ys. action_put (action.Call (callee_of within name number unit) ys destination.Nowhere) signs next)
        (arguments-keep formals xs) (λ ys. action-keeps _ signs next)
    entity-keeps name xs (Some (entity.Entry number unit formals)) =
        keeps-then (arguments_made within formals xs) (λ ys. action_put (action.EntryCall number (owner_of_entry within name unit) ys) signs next)
        (arguments-keep formals xs) (λ ys. action-keeps _ signs next)
    entity-keeps name xs (Some entity.Label) = action-keeps _ _ next

    item-keeps : (xs : List (Argument Expression)) (item : Predefined) → Adds (item_call_put within item xs signs next) 1
    unfolding item_call_put procedure_put
    item-keeps xs (items.Mark s) = action-keeps _ _ next
    item-keeps xs (items.Constant of_type v) = action-keeps _ _ next
    item-keeps xs (items.Truth t) = action-keeps _ _ next
    item-keeps xs (items.Exception e) = action-keeps _ _ next
    item-keeps xs (items.Operation o) = procedure-keeps o xs (actuals_for (names_of_formals o) xs)

    denoted-keeps : (name : Name) (xs : List (Argument Expression)) (d : Option Denoted) → Adds (denoted_call_put within name xs d signs next) 1
    unfolding denoted_call_put
    denoted-keeps name xs None = action-keeps _ _ next
    denoted-keeps name xs (Some (denotes.Entity e)) = entity-keeps name xs (kind_at within.names e)
    denoted-keeps name xs (Some (denotes.Unit u)) = action-keeps _ _ next
    denoted-keeps name xs (Some (denotes.Item u item)) = item-keeps xs item

  pub call-statement-keeps : (name : Name) (xs : List (Argument Expression)) (next : Option StatementNo) → Adds (call_statement_put within name xs next) 1
  unfolding call_statement_put
  call-statement-keeps name xs next = denoted-keeps (signs_in_actuals within xs) next name xs (denoted_by within.names name)

  -- ---- simple statements

  value-assigned-keeps : (a : Assignment) (c : Option FunctionCall) (signs : ℕ) (next : Option StatementNo) → Adds (value_assigned within a c signs next) 1
  unfolding value_assigned
  value-assigned-keeps a None signs next =
      keeps-then (target_made within a.target a.index) (λ t. expression_made a.value within >>= (λ v. action_put (action.Assign t v) signs next))
      (target-keeps a.target a.index)
      (λ t. keeps-then (expression_made a.value within) (λ v. action_put (action.Assign t v) signs next) (expression-keeps a.value within)
      (λ v. action-keeps _ signs next))
  value-assigned-keeps a (Some c) signs next =
      keeps-then (target_made within a.target a.index) (λ t. function_call_put within c (destination.Variable t) signs next) (target-keeps a.target a.index)
      (λ t. call-keeps c (destination.Variable t) signs next)

  whole-assigned-keeps : (kept array : Bool) (a : Assignment) (signs : ℕ) (next : Option StatementNo)
      → Adds (cond kept (controlled_assigned within a next)
      (cond array (array_assigned within a signs next) (value_assigned within a (function_call within a.value) signs next))) 1
  unfolding controlled_assigned array_assigned
  whole-assigned-keeps true array a signs next = action-keeps _ 0 next
  whole-assigned-keeps false true a signs next = action-keeps _ signs next
  whole-assigned-keeps false false a signs next = value-assigned-keeps a (function_call within a.value) signs next

  assigned-keeps : (a : Assignment) (index : Option Expression) (signs : ℕ) (next : Option StatementNo) → Adds (assigned within a index signs next) 1
  unfolding assigned assigned_whole
  assigned-keeps a None signs next =
      whole-assigned-keeps (subtype_is is_kept (subtype_of_name within.names a.target))
      (subtype_is is_array_type (subtype_of_name within.names a.target)) a signs next
  assigned-keeps a (Some i) signs next = value-assigned-keeps a (function_call within a.value) signs next

  pub assignment-keeps : (a : Assignment) (next : Option StatementNo) → Adds (assignment_put within a next) 1
  unfolding assignment_put
  assignment-keeps a next = assigned-keeps a a.index _ next

  pub delay-keeps : (d : Delay) (next : Option StatementNo) → Adds (delay_put within d next) 1
  unfolding delay_put
  delay-keeps d next =
      keeps-then (expression_made d.value within) (λ e. action_put (delay_form d.until e) (signs_in within d.value) next) (expression-keeps d.value within)
      (λ e. action-keeps _ _ next)

  returned-keeps : (f : SubprogramNo) (e : Expression) (c : Option FunctionCall) (next : Option StatementNo) → Adds (value_returned within f e c next) 1
  unfolding value_returned
  returned-keeps f e None next =
      keeps-then (expression_made e within) (λ v. action_put (action.ReturnValue f v) (signs_in within e) next) (expression-keeps e within)
      (λ v. action-keeps _ _ next)
  returned-keeps f e (Some c) next = call-keeps c (destination.Return f) (signs_in within e) next

  pub return-keeps : (e : Option Expression) (next : Option StatementNo) → Adds (return_put within e next) 1
  unfolding return_put
  return-keeps None next = action-keeps _ 0 next
  return-keeps (Some e) next = returned-keeps (unwrap_or within.function no_function) e (function_call within e) next

  pub raise-keeps : (name : Option Name) (next : Option StatementNo) → Adds (raise_put within name next) 1
  unfolding raise_put
  raise-keeps None next = action-keeps _ 0 next
  raise-keeps (Some name) next = action-keeps _ 0 next

  pub exit-keeps : (e : Exit) (next : Option StatementNo) → Adds (exit_put within e next) 1
  unfolding exit_put
  exit-keeps e next =
      keeps-then (optional_value within e.condition)
      (λ c. action_put (action.Exit c (loop_statement (loop_left within e.loop_name))) (signs_if within e.condition) next) (condition-keeps e.condition)
      (λ c. action-keeps _ _ next)

  pub abort-keeps : (tasks : OneOrMore Name) (next : Option StatementNo) → Adds (abort_put within tasks next) 1
  unfolding abort_put
  abort-keeps tasks next = action-keeps _ 0 next

  pub requeue-keeps : (name : Name) (with_abort : Bool) (next : Option StatementNo) → Adds (requeue_put within name with_abort next) 1
  unfolding requeue_put
  requeue-keeps name with_abort next = action-keeps _ 0 next

  -- ---- declarations

  initialize-keeps : (controlled : Bool) (d : DeclNo) (next : Option StatementNo) → Adds (initialize_if controlled d next) (one_if controlled)
  unfolding initialize_if
  initialize-keeps true d next = action-keeps _ 0 next
  initialize-keeps false d next = keeps-pure next

  declare-keeps : (d : DeclNo) (s : Option Subtype) (c : Option FunctionCall) (signs : ℕ) (next : Option StatementNo)
      → Adds (object_declaration_put within d s c signs next) 1
  unfolding object_declaration_put
  declare-keeps d s None signs next = action-keeps _ _ next
  declare-keeps d s (Some c) signs next = call-keeps c (destination.Declaration d) signs next

  elaborated-keeps : (d : DeclNo) (s : Option Subtype) (initial : Option Expression) (next : Option StatementNo)
      → Adds (object_elaborated within d s initial next) (1 + one_if (subtype_is is_controlled_type s))
  unfolding object_elaborated
  elaborated-keeps d s initial next =
      adds-then (initialize_if (subtype_is is_controlled_type s) d next)
      (λ behind. object_declaration_put within d s (function_call_if within initial) (signs_if within initial) behind)
      (one_if (subtype_is is_controlled_type s)) 1
      (initialize-keeps (subtype_is is_controlled_type s) d next)
      (λ behind. declare-keeps d s (function_call_if within initial) (signs_if within initial) behind)

  object-keeps : (task : Bool) (part : ℕ) (i : Identifier) (s : Option Subtype) (initial : Option Expression) (next : Option StatementNo)
      → Adds (cond task (action_put (action.CreateTask (number_declared within i) part) 0 next)
      (object_elaborated within (number_declared within i) s initial next))
      (cond task 1 (1 + one_if (subtype_is is_controlled_type s)))
  object-keeps true part i s initial next = action-keeps _ 0 next
  object-keeps false part i s initial next = elaborated-keeps (number_declared within i) s initial next

  -- what an identifier declares is told by the names alone
  subtype-same : (i : Identifier) → subtype_declared_as within i ≡ subtype_declared_as (outermost within.names) i
  unfolding subtype_declared_as kind_declared
  subtype-same i = refl

  name-keeps : (part : ℕ) (i : Identifier) (initial : Option Expression) (next : Option StatementNo)
      → Adds (object_put within part initial i next) (name_actions i within.names)
  unfolding object_put
  name-keeps part i initial next =
      subst (λ s. Adds
      (cond (subtype_is is_task_type (subtype_declared_as within i)) (action_put (action.CreateTask (number_declared within i) part) 0 next)
      (object_elaborated within (number_declared within i) (subtype_declared_as within i) initial next))
      (object_actions s))
      (subtype-same i) (object-keeps (subtype_is is_task_type (subtype_declared_as within i)) part i (subtype_declared_as within i) initial next)

  objects-keep : (part : ℕ) (initial : Option Expression) (is : List Identifier) (next : Option StatementNo)
      → Adds (objects_put within part initial is next) (names_actions is within.names)
  unfolding objects_put
  objects-keep part initial [] next = keeps-pure next
  objects-keep part initial (i ∷ is) next =
      adds-then (objects_put within part initial is next) (λ later. object_put within part initial i later) (names_actions is within.names)
      (name_actions i within.names) (objects-keep part initial is next) (λ later. name-keeps part i initial later)

  single-keeps : (part : ℕ) (is_type : Bool) (i : Identifier) (next : Option StatementNo)
      → Adds (single_put within part is_type i next) (single_actions is_type i within.names)
  unfolding single_put
  single-keeps part true i next = keeps-pure next
  single-keeps part false i next = name-keeps part i None next

  declaration-keeps : {Q : Type 0} (part : ℕ) (d : Declaration Q) (next : Option StatementNo)
      → Adds (declaration_put within part d next) (declaration_actions d within.names)
  unfolding declaration_put
  declaration-keeps part (declaration.Object o) next = objects-keep part o.initial (all_of o.names) next
  declaration-keeps part (declaration.Type t) next = keeps-pure next
  declaration-keeps part (declaration.Subtype s) next = keeps-pure next
  declaration-keeps part (declaration.Exception names) next = keeps-pure next
  declaration-keeps part (declaration.Subprogram s) next = keeps-pure next
  declaration-keeps part (declaration.SubprogramBody s body) next = keeps-pure next
  declaration-keeps part (declaration.Task t) next = single-keeps part t.is_type t.name next
  declaration-keeps part (declaration.TaskBody place name body) next = keeps-pure next
  declaration-keeps part (declaration.Protected x) next = single-keeps part x.is_type x.name next
  declaration-keeps part (declaration.ProtectedBody x) next = keeps-pure next
  declaration-keeps part (declaration.Use place name) next = keeps-pure next

  pub declarations-keep : {Q : Type 0} (part : ℕ) (ds : List (Declaration Q)) (next : Option StatementNo)
      → Adds (declarations_put within part ds next) (declarations_actions ds within.names)
  unfolding declarations_put
  declarations-keep part [] next = keeps-pure next
  declarations-keep part (d ∷ ds) next =
      adds-then (declarations_put within part ds next) (λ later. declaration_put within part d later) (declarations_actions ds within.names)
      (declaration_actions d within.names) (declarations-keep part ds next) (λ later. declaration-keeps part d later)

pub activation-keeps : (part : Option ℕ) (next : Option StatementNo) → Adds (activation_put part next) (activation_actions part)
unfolding activation_put
activation-keeps None next = keeps-pure next
activation-keeps (Some part) next = action-keeps _ 0 next

pub end-keeps : (is_task_body : Bool) (next : Option StatementNo) → Adds (end_of_activation_put is_task_body next) (one_if is_task_body)
unfolding end_of_activation_put
end-keeps true next = action-keeps _ 0 next
end-keeps false next = keeps-pure next
