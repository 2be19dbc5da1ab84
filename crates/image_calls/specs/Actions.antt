-- The actions of predefined procedures that differ in nothing but in what they make of like arguments, and the names of
-- their formals (ISO/IEC 8652:2012, D.2.5, D.2.6, D.5.1, D.14.1, D.14.2, D.15).
use Rattle.profile_image.specs.declared.numbers.DeclNo.{DeclNo}
use Rattle.profile_image.specs.declared.numbers.ExprNo.{ExprNo}
use Rattle.std.specs.Prelude.{ℕ, List, [], ◌∷◌, Option, codes}
use Rattle.profile_image.specs.declared.expressions.VariableName.{VariableName}
use Rattle.profile_image.specs.declared.statements.StatementForm.{StatementForm}
use Rattle.profile_image.specs.declared.statements.StatementForm.TheVariants as action
use Rattle.image_calls.specs.declared.actions.Cancelling.{Cancelling}
use Rattle.image_calls.specs.declared.actions.Cancelling.TheVariants as cancelling
use Rattle.image_calls.specs.declared.actions.Budgeting.{Budgeting}
use Rattle.image_calls.specs.declared.actions.Budgeting.TheVariants as budgeting
use Rattle.image_calls.specs.declared.actions.OfTask.{OfTask}
use Rattle.image_calls.specs.declared.actions.OfTask.TheVariants as of_task
use Rattle.image_calls.specs.declared.actions.OfValues.{OfValues}
use Rattle.image_calls.specs.declared.actions.OfValues.TheVariants as of_values

-- whose handler Cancel_Handler takes away
abbrev pub cancel_action : Cancelling → DeclNo → VariableName → StatementForm
cancel_action cancelling.Event = action.CancelEvent
cancel_action cancelling.Timer = action.CancelTimer
cancel_action cancelling.Budget = action.CancelBudget

-- the formal for the event, the timer or the budget, and both formals (D.14.1, D.14.2, D.15)
abbrev pub cancelled_formal : Cancelling → List ℕ
cancelled_formal cancelling.Event = codes "event"
cancelled_formal cancelling.Timer = codes "tm"
cancelled_formal cancelling.Budget = codes "gb"

abbrev pub cancel_formals : Cancelling → List (List ℕ)
cancel_formals c = cancelled_formal c ∷ codes "cancelled" ∷ []

-- what is done with a group budget and a value
abbrev pub budget_action : Budgeting → DeclNo → ExprNo → StatementForm
budget_action budgeting.AddTask = action.AddTask
budget_action budgeting.RemoveTask = action.RemoveTask
budget_action budgeting.Replenish = action.Replenish
budget_action budgeting.Add = action.AddToBudget

-- the formal for the value, and both formals (D.14.2)
abbrev pub budgeted_formal : Budgeting → List ℕ
budgeted_formal budgeting.AddTask = codes "t"
budgeted_formal budgeting.RemoveTask = codes "t"
budgeted_formal budgeting.Replenish = codes "to"
budgeted_formal budgeting.Add = codes "interval"

abbrev pub budget_formals : Budgeting → List (List ℕ)
budget_formals b = codes "gb" ∷ budgeted_formal b ∷ []

-- what is set of a task
abbrev pub task_action : OfTask → ExprNo → Option ExprNo → StatementForm
task_action of_task.Priority = action.SetPriority
task_action of_task.Deadline = action.SetDeadline

-- the formal for the value, and both formals (D.2.6, D.5.1)
abbrev pub set_formal : OfTask → List ℕ
set_formal of_task.Priority = codes "priority"
set_formal of_task.Deadline = codes "d"

abbrev pub task_formals : OfTask → List (List ℕ)
task_formals o = set_formal o ∷ codes "t" ∷ []

-- what is done with two values
abbrev pub values_action : OfValues → ExprNo → ExprNo → StatementForm
values_action of_values.Quantum = action.SetQuantum
values_action of_values.DelayUntilAndDeadline = action.DelayUntilAndSetDeadline

-- the formals for the two values (D.2.5, D.2.6)
abbrev pub first_formal : OfValues → List ℕ
first_formal of_values.Quantum = codes "pri"
first_formal of_values.DelayUntilAndDeadline = codes "delay_until_time"

abbrev pub second_formal : OfValues → List ℕ
second_formal of_values.Quantum = codes "quantum"
second_formal of_values.DelayUntilAndDeadline = codes "deadline_offset"

abbrev pub values_formals : OfValues → List (List ℕ)
values_formals o = first_formal o ∷ second_formal o ∷ []
