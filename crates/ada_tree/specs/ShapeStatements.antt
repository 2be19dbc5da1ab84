-- Which statements keep precedence and nest within the levels that are left, given which sequences in them do.
use Rattle.std.specs.Prelude.{ℕ, Bool, true, false, ◌&&◌, List}
use Rattle.std.specs.List.{list_all}
use Rattle.ada_tree.specs.declared.expressions.Expression.{Expression}
use Rattle.ada_tree.specs.declared.expressions.Precedence.TheVariants as precedence
use Rattle.ada_tree.specs.declared.declarations.Parameter.{Parameter}
use Rattle.ada_tree.specs.declared.declarations.SubtypeIndication.{SubtypeIndication}
use Rattle.ada_tree.specs.declared.declarations.Constraint.{Constraint}
use Rattle.ada_tree.specs.declared.declarations.Constraint.TheVariants as constraint
use Rattle.ada_tree.specs.declared.statements.SequenceRole.{SequenceRole}
use Rattle.ada_tree.specs.declared.statements.SequenceRole.TheVariants as role
use Rattle.ada_tree.specs.declared.statements.Statement.{Statement}
use Rattle.ada_tree.specs.declared.statements.Assignment.{Assignment}
use Rattle.ada_tree.specs.declared.statements.Call.{Call}
use Rattle.ada_tree.specs.declared.statements.Delay.{Delay}
use Rattle.ada_tree.specs.declared.statements.If.{If}
use Rattle.ada_tree.specs.declared.statements.Elsif.{Elsif}
use Rattle.ada_tree.specs.declared.statements.Case.{Case}
use Rattle.ada_tree.specs.declared.statements.CaseAlternative.{CaseAlternative}
use Rattle.ada_tree.specs.declared.statements.Choice.{Choice}
use Rattle.ada_tree.specs.declared.statements.Loop.{Loop}
use Rattle.ada_tree.specs.declared.statements.Iteration.{Iteration}
use Rattle.ada_tree.specs.declared.statements.Exit.{Exit}
use Rattle.ada_tree.specs.declared.statements.Block.{Block}
use Rattle.ada_tree.specs.declared.statements.Handler.{Handler}
use Rattle.ada_tree.specs.declared.statements.Accept.{Accept}
use Rattle.ada_tree.specs.declared.statements.AcceptBody.{AcceptBody}
use Rattle.ada_tree.specs.declared.statements.Statement.TheVariants as statement
use Rattle.ada_tree.specs.declared.statements.Choice.TheVariants as choice
use Rattle.ada_tree.specs.declared.statements.Iteration.TheVariants as iteration
use Rattle.ada_tree.specs.declared.selects.SelectForm.{SelectForm}
use Rattle.ada_tree.specs.declared.selects.SelectAlternative.{SelectAlternative}
use Rattle.ada_tree.specs.declared.selects.Guard.{Guard}
use Rattle.ada_tree.specs.declared.selects.Alternative.{Alternative}
use Rattle.ada_tree.specs.declared.selects.Trigger.{Trigger}
use Rattle.ada_tree.specs.declared.selects.SelectForm.TheVariants as select
use Rattle.ada_tree.specs.declared.selects.Alternative.TheVariants as alternative
use Rattle.ada_tree.specs.declared.selects.Trigger.TheVariants as trigger
use Rattle.ada_tree.specs.ShapeExpressions.{within, all_fit, optional_fits, enclosed_fit}
use Rattle.ada_tree.specs.ShapeExpressions.{expression_fits, arguments_fit}

-- an expression where any may stand
abbrev pub value_fits : ℕ → Expression → Bool
value_fits left e = expression_fits e precedence.Logical left

abbrev pub value_fits_at : Expression → ℕ → Bool
value_fits_at e left = expression_fits e precedence.Logical left

-- ---- subtype indications and parameters: a timer's task stands in brackets, and so do parameters

abbrev pub nothing_in_it : ℕ → Bool
nothing_in_it left = true

abbrev pub constraint_fits : ℕ → Constraint → Bool
constraint_fits left (constraint.Access name) = within left nothing_in_it
constraint_fits left (constraint.Range low high) = value_fits left low && value_fits left high

abbrev pub indication_fits : ℕ → SubtypeIndication → Bool
indication_fits left m = optional_fits (constraint_fits left) m.constraint

abbrev pub parameter_fits : ℕ → Parameter → Bool
parameter_fits left p = indication_fits left p.subtype

abbrev pub parameters_fit : ℕ → List Parameter → Bool
parameters_fit left parameters = enclosed_fit left parameter_fits parameters

-- ---- the parts of statements, behind the level that the statement takes

abbrev pub index_fits : ℕ → Expression → Bool
index_fits left index = within left (value_fits_at index)

abbrev pub assignment_fits : ℕ → Assignment → Bool
assignment_fits left a = optional_fits (index_fits left) a.index && value_fits left a.value

abbrev pub call_fits : ℕ → Call → Bool
call_fits left c = arguments_fit expression_fits left c.arguments

abbrev pub delay_fits : ℕ → Delay → Bool
delay_fits left d = value_fits left d.value

abbrev pub choice_fits : ℕ → Choice → Bool
choice_fits left (choice.Value value) = value_fits left value
choice_fits left (choice.Range low high) = value_fits left low && value_fits left high
choice_fits left (choice.Others place) = true

abbrev pub iteration_fits : ℕ → Iteration → Bool
iteration_fits left iteration.Forever = true
iteration_fits left (iteration.While place condition) = value_fits left condition
iteration_fits left (iteration.For place parameter reverse low high) = value_fits left low && value_fits left high

abbrev pub exit_fits : ℕ → Exit → Bool
exit_fits left e = optional_fits (value_fits left) e.condition

abbrev pub guard_fits : ℕ → Guard → Bool
guard_fits left g = value_fits left g.condition

-- the call, the delay and the accept of a select are statements themselves
abbrev pub call_opens : Call → ℕ → Bool
call_opens c left = call_fits left c

abbrev pub delay_opens : Delay → ℕ → Bool
delay_opens d left = delay_fits left d

abbrev pub trigger_fits : ℕ → Trigger → Bool
trigger_fits left (trigger.Call call) = within left (call_opens call)
trigger_fits left (trigger.Delay delay) = within left (delay_opens delay)

module _ {Q : Type 0} (sequence : Q → SequenceRole → ℕ → Bool) where
  abbrev pub statements_fit : ℕ → Q → Bool
  statements_fit left q = sequence q role.Statements left

  abbrev pub elsif_fits : ℕ → Elsif Q → Bool
  elsif_fits left e = value_fits left e.condition && statements_fit left e.statements

  abbrev pub if_fits : ℕ → If Q → Bool
  if_fits left i = value_fits left i.condition
      && (statements_fit left i.statements && (list_all (elsif_fits left) i.elsifs
      && optional_fits (statements_fit left) i.otherwise))

  abbrev pub case_alternative_fits : ℕ → CaseAlternative Q → Bool
  case_alternative_fits left a = all_fit (choice_fits left) a.choices && statements_fit left a.statements

  abbrev pub case_fits : ℕ → Case Q → Bool
  case_fits left c = value_fits left c.selector && all_fit (case_alternative_fits left) c.alternatives

  abbrev pub loop_fits : ℕ → Loop Q → Bool
  loop_fits left l = iteration_fits left l.iteration && statements_fit left l.statements

  abbrev pub block_role : Bool → SequenceRole
  block_role true = role.Body
  block_role false = role.Handled

  abbrev pub block_fits : ℕ → Block Q → Bool
  block_fits left b = sequence b.sequence (block_role b.declare) left

  abbrev pub handler_fits : ℕ → Handler Q → Bool
  handler_fits left h = statements_fit left h.statements

  abbrev pub accept_body_fits : ℕ → AcceptBody Q → Bool
  accept_body_fits left b = sequence b.sequence role.Handled left

  abbrev pub accept_fits : ℕ → Accept Q → Bool
  accept_fits left a = parameters_fit left a.parameters && optional_fits (accept_body_fits left) a.body

  abbrev pub accept_opens : Accept Q → ℕ → Bool
  accept_opens a left = accept_fits left a

  -- ---- select statements

  abbrev pub alternative_fits : ℕ → Alternative Q → Bool
  alternative_fits left (alternative.Accept accept statements) = within left (accept_opens accept)
      && optional_fits (statements_fit left) statements
  alternative_fits left (alternative.Delay delay statements) = within left (delay_opens delay)
      && optional_fits (statements_fit left) statements
  alternative_fits left (alternative.Terminate place) = true

  abbrev pub select_alternative_fits : ℕ → SelectAlternative Q → Bool
  select_alternative_fits left a = optional_fits (guard_fits left) a.guard && alternative_fits left a.alternative

  abbrev pub select_form_fits : ℕ → SelectForm Q → Bool
  select_form_fits left (select.SelectiveAccept s) = all_fit (select_alternative_fits left) s.alternatives
      && optional_fits (statements_fit left) s.otherwise
  select_form_fits left (select.TimedEntryCall t) =
      within left (call_opens t.call) && (optional_fits (statements_fit left) t.statements
      && (within left (delay_opens t.delay) && optional_fits (statements_fit left) t.delay_statements))
  select_form_fits left (select.ConditionalEntryCall c) = within left (call_opens c.call)
      && (optional_fits (statements_fit left) c.statements && statements_fit left c.otherwise)
  select_form_fits left (select.AsynchronousSelect s) = trigger_fits left s.trigger
      && (optional_fits (statements_fit left) s.statements && statements_fit left s.abortable)

  -- ---- all statements

  abbrev pub parts_fit : Statement Q → ℕ → Bool
  parts_fit (statement.Null place) left = true
  parts_fit (statement.Assignment a) left = assignment_fits left a
  parts_fit (statement.Call c) left = call_fits left c
  parts_fit (statement.Delay d) left = delay_fits left d
  parts_fit (statement.If i) left = if_fits left i
  parts_fit (statement.Case c) left = case_fits left c
  parts_fit (statement.Loop l) left = loop_fits left l
  parts_fit (statement.Exit e) left = exit_fits left e
  parts_fit (statement.Block b) left = block_fits left b
  parts_fit (statement.Return place value) left = optional_fits (value_fits left) value
  parts_fit (statement.Raise place exception) left = true
  parts_fit (statement.Abort place tasks) left = true
  parts_fit (statement.Accept a) left = accept_fits left a
  parts_fit (statement.Requeue place entry with_abort) left = true
  parts_fit (statement.Select s) left = select_form_fits left s.form

  -- a statement takes a level at its first token
  abbrev pub statement_fits : ℕ → Statement Q → Bool
  statement_fits left s = within left (parts_fit s)
