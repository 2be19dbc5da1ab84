-- Predefined procedures (A.10.7, D.2.5, D.2.6, D.5.1, D.14.1, D.14.2, D.15), given their actuals.
use Rattle.std.specs.Prelude.{ℕ, Bool, true, false, cond, List, [], ◌∷◌, Option, Some, None, option_map, unwrap_or}
use Rattle.std.specs.List.{list_any}
use Rattle.std.specs.Str.{bytes_eq}
use Rattle.std.specs.Prelude.{codes}
use Rattle.ada_tree.specs.declared.names.Identifier.{Identifier}
use Rattle.ada_tree.specs.declared.names.Name.{Name}
use Rattle.ada_tree.specs.declared.expressions.Expression.{Expression}
use Rattle.ada_tree.specs.declared.expressions.Expression.TheViews.{out-Expression}
use Rattle.ada_tree.specs.declared.expressions.ExpressionForm.{ExpressionForm}
use Rattle.ada_tree.specs.declared.expressions.ExpressionForm.TheVariants as form
use Rattle.ada_tree.specs.declared.expressions.Argument.{Argument}
use Rattle.profile_image.specs.declared.numbers.DeclNo.{DeclNo}
use Rattle.profile_image.specs.declared.numbers.ExprNo.{ExprNo}
use Rattle.profile_image.specs.declared.numbers.StatementNo.{StatementNo}
use Rattle.profile_image.specs.declared.expressions.VariableName.{VariableName}
use Rattle.profile_image.specs.declared.statements.HandlerName.{HandlerName}
use Rattle.profile_image.specs.declared.statements.Setting.{Setting}
use Rattle.profile_image.specs.declared.statements.Setting.TheVariants as setting
use Rattle.profile_image.specs.declared.statements.StatementForm.{StatementForm}
use Rattle.profile_image.specs.declared.statements.StatementForm.TheVariants as action
use Rattle.ada_regions.specs.declared.predefined.Operation.{Operation}
use Rattle.ada_regions.specs.declared.predefined.Operation.TheVariants as operations
use Rattle.ada_regions.specs.declared.entities.EntityKind.{EntityKind}
use Rattle.ada_regions.specs.declared.entities.EntityKind.TheVariants as entity
use Rattle.ada_regions.specs.Words.{and_then}
use Rattle.std.specs.Option.{option_or}
use Rattle.ada_regions.specs.PredefinedUnits.{names_of_formals}
use Rattle.ada_regions.specs.Names.{entity_denoted, kind_at}
use Rattle.ada_image.specs.declared.making.Within.{Within}
use Rattle.ada_image.specs.Making.{Making, ◌>>=◌, pure, action_put, first_given}
use Rattle.ada_image.specs.TypesOfExpressions.{is_span}
use Rattle.ada_image.specs.ImageOfExpressions.{expression_image, no_declaration_no, thing_in, kind_named, prefix_part}
use Rattle.ada_image.specs.ImageOfExpressions.{object_number, argument_from, actuals_for, optional_value}
use Rattle.ada_image.specs.ImageOfCalls.{no_variable, variable_in, value_or_none, put_line_put, not_built}

abbrev pub second_of : List (Option Expression) → Option Expression
second_of [] = None
second_of (e ∷ es) = first_given es

abbrev pub third_of : List (Option Expression) → Option Expression
third_of [] = None
third_of (e ∷ es) = second_of es

-- the event, timer or budget that an actual names
unfoldable pub thing_of : Within → Option Expression → DeclNo
thing_of within e = thing_in within (and_then e (λ x. (expression_image x).name))

unfoldable pub variable_of : Within → Option Expression → Making VariableName
variable_of within None = no_variable
variable_of within (Some e) = variable_in within e

-- ---- handlers: `'Access` of a procedure of a protected object, or null

-- the single object of the unit in whose body the name stands
unfoldable pub innermost_object : Within → List ℕ → Option DeclNo
innermost_object within [] = None
innermost_object within (e ∷ es) =
    option_or (and_then (kind_at within.names e) object_number) (innermost_object within es)

unfoldable pub object_of_handler : Within → Name → Option DeclNo
object_of_handler within name =
    option_or (and_then (prefix_part name) (λ i. and_then (entity_denoted within.names i.place)
    (λ e. and_then (kind_at within.names e) object_number)))
    (innermost_object within within.units)

unfoldable pub handler_with : Within → Name → EntityKind → Option HandlerName
handler_with within name (entity.Subprogram number is_function specified formals unit) =
    Some (record { object = unwrap_or (object_of_handler within name) no_declaration_no; procedure = number })
handler_with within name _ = None

abbrev pub handler_in_form : Within → ExpressionForm Expression → Option HandlerName
handler_in_form within (form.Logical operator first others) = None
handler_in_form within (form.Relational left place operator right) = None
handler_in_form within (form.Adding first others) = None
handler_in_form within (form.Signed place s operand) = None
handler_in_form within (form.Multiplying first others) = None
handler_in_form within (form.Highest place operator operand) = None
handler_in_form within (form.Number place literal) = None
handler_in_form within (form.Text place text) = None
handler_in_form within (form.Null place) = None
handler_in_form within (form.Bracketed place inner) = None
handler_in_form within (form.Named name a arguments) = and_then (kind_named within name) (handler_with within name)

unfoldable pub handler_of : Within → Option Expression → Option HandlerName
handler_of within e = and_then e (λ x. handler_in_form within (out-Expression x).form)

-- ---- Set_Handler: a span is In_Time, a moment At_Time; a formal's name tells too

abbrev pub formal_is : List ℕ → Option Identifier → Bool
formal_is name None = false
formal_is name (Some i) = bytes_eq i.text name

abbrev pub is_called : List ℕ → Argument Expression → Bool
is_called name a = formal_is name a.formal

unfoldable pub moment_of : List (Argument Expression) → Option Expression
moment_of arguments =
    option_or (argument_from 1 (codes "at_time") 0 arguments) (argument_from 1 (codes "in_time") 0 arguments)

unfoldable pub is_in_time : Within → List (Argument Expression) → Bool
is_in_time within arguments = cond (list_any (is_called (codes "in_time")) arguments) true
    (cond (list_any (is_called (codes "at_time")) arguments) false
    (unwrap_or (option_map (is_span within.names) (moment_of arguments)) false))

abbrev pub setting_with : Bool → ExprNo → Setting
setting_with true e = setting.In e
setting_with false e = setting.At e

unfoldable pub setting_made : Within → List (Argument Expression) → Making Setting
setting_made within arguments = do
  e ← value_or_none within (moment_of arguments)
  pure (setting_with (is_in_time within arguments) e)

unfoldable pub set_event_put : Within → List (Argument Expression) → List (Option Expression) → ℕ
    → Option StatementNo → Making (Option StatementNo)
set_event_put within arguments es signs next = do
  s ← setting_made within arguments
  action_put (action.SetEvent (thing_of within (first_given es)) s (handler_of within (third_of es))) signs next

unfoldable pub set_timer_put : Within → List (Argument Expression) → List (Option Expression) → ℕ
    → Option StatementNo → Making (Option StatementNo)
set_timer_put within arguments es signs next = do
  s ← setting_made within arguments
  action_put (action.SetTimer (thing_of within (first_given es)) s (handler_of within (third_of es))) signs next

-- ---- actions of a thing and a variable, of a thing and a value, of values

unfoldable pub cancel_put : (DeclNo → VariableName → StatementForm) → Within → List (Option Expression) → ℕ
    → Option StatementNo → Making (Option StatementNo)
cancel_put f within es signs next = do
  v ← variable_of within (second_of es)
  action_put (f (thing_of within (first_given es)) v) signs next

unfoldable pub budget_put : (DeclNo → ExprNo → StatementForm) → Within → List (Option Expression) → ℕ
    → Option StatementNo → Making (Option StatementNo)
budget_put f within es signs next = do
  e ← value_or_none within (second_of es)
  action_put (f (thing_of within (first_given es)) e) signs next

unfoldable pub task_put : (ExprNo → Option ExprNo → StatementForm) → Within → List (Option Expression) → ℕ
    → Option StatementNo → Making (Option StatementNo)
task_put f within es signs next = do
  e ← value_or_none within (first_given es)
  t ← optional_value within (second_of es)
  action_put (f e t) signs next

unfoldable pub values_put : (ExprNo → ExprNo → StatementForm) → Within → List (Option Expression) → ℕ
    → Option StatementNo → Making (Option StatementNo)
values_put f within es signs next = do
  a ← value_or_none within (first_given es)
  b ← value_or_none within (second_of es)
  action_put (f a b) signs next

unfoldable pub procedure_with : Within → Operation → List (Argument Expression) → List (Option Expression) → ℕ
    → Option StatementNo → Making (Option StatementNo)
procedure_with within operations.PutLine arguments es signs next = put_line_put within es signs next
procedure_with within operations.Clock arguments es signs next = not_built next
procedure_with within operations.Microseconds arguments es signs next = not_built next
procedure_with within operations.Milliseconds arguments es signs next = not_built next
procedure_with within operations.Seconds arguments es signs next = not_built next
procedure_with within operations.Minutes arguments es signs next = not_built next
procedure_with within operations.ToDuration arguments es signs next = not_built next
procedure_with within operations.ToTimeSpan arguments es signs next = not_built next
procedure_with within operations.SetEvent arguments es signs next = set_event_put within arguments es signs next
procedure_with within operations.CancelEvent arguments es signs next =
    cancel_put action.CancelEvent within es signs next
procedure_with within operations.TimeOfEvent arguments es signs next = not_built next
procedure_with within operations.ExecutionClock arguments es signs next = not_built next
procedure_with within operations.SetTimer arguments es signs next = set_timer_put within arguments es signs next
procedure_with within operations.CancelTimer arguments es signs next =
    cancel_put action.CancelTimer within es signs next
procedure_with within operations.TimeRemaining arguments es signs next = not_built next
procedure_with within operations.AddTask arguments es signs next = budget_put action.AddTask within es signs next
procedure_with within operations.RemoveTask arguments es signs next = budget_put action.RemoveTask within es signs next
procedure_with within operations.Replenish arguments es signs next = budget_put action.Replenish within es signs next
procedure_with within operations.Add arguments es signs next = budget_put action.AddToBudget within es signs next
procedure_with within operations.BudgetHasExpired arguments es signs next = not_built next
procedure_with within operations.BudgetRemaining arguments es signs next = not_built next
procedure_with within operations.SetBudget arguments es signs next =
    action_put (action.SetBudget (thing_of within (first_given es)) (handler_of within (second_of es))) signs next
procedure_with within operations.CancelBudget arguments es signs next =
    cancel_put action.CancelBudget within es signs next
procedure_with within operations.SetPriority arguments es signs next = task_put action.SetPriority within es signs next
procedure_with within operations.GetPriority arguments es signs next = not_built next
procedure_with within operations.CurrentTask arguments es signs next = not_built next
procedure_with within operations.SetQuantum arguments es signs next = values_put action.SetQuantum within es signs next
procedure_with within operations.SetDeadline arguments es signs next = task_put action.SetDeadline within es signs next
procedure_with within operations.GetDeadline arguments es signs next = not_built next
procedure_with within operations.DelayUntilAndSetDeadline arguments es signs next =
    values_put action.DelayUntilAndSetDeadline within es signs next
procedure_with within operations.PortValue arguments es signs next = not_built next

unfoldable pub procedure_put : Within → Operation → List (Argument Expression) → ℕ → Option StatementNo
    → Making (Option StatementNo)
procedure_put within operation arguments signs next =
    procedure_with within operation arguments (actuals_for (names_of_formals operation) arguments) signs next
