-- The effect of the first item of a rest: one case for each action of the profile.
use Rattle.std.specs.Prelude.{ℕ, Bool, true, false, cond, List, [], ◌∷◌, Option, Some, None, length, eqb, ◌-◌}
use Rattle.std.specs.List.{list_any}
use Rattle.ann_base.specs.declared.exceptions.Raised.{Raised}
use Rattle.ann_base.specs.declared.exceptions.Raised.TheVariants as exception
use Rattle.trace_text.specs.declared.events.Who.{Who}
use Rattle.trace_text.specs.declared.events.Who.TheVariants as who
use Rattle.profile_image.specs.declared.image.Image.{Image}
use Rattle.profile_image.specs.declared.numbers.StatementNo.{StatementNo}
use Rattle.profile_machine.specs.declared.run_data.Leaving.{Leaving}
use Rattle.profile_machine.specs.declared.run_data.Leaving.TheVariants as how
use Rattle.profile_image.specs.declared.declarations.Handler.{Handler}
use Rattle.profile_image.specs.declared.declarations.ExceptionChoice.{ExceptionChoice}
use Rattle.profile_image.specs.declared.declarations.ExceptionChoice.TheVariants as choice
use Rattle.profile_image.specs.declared.statements.Actual.{Actual}
use Rattle.profile_image.specs.declared.statements.Callee.{Callee}
use Rattle.profile_image.specs.declared.statements.Callee.TheVariants as callee
use Rattle.profile_image.specs.declared.statements.Destination.{Destination}
use Rattle.profile_image.specs.declared.statements.StatementForm.{StatementForm}
use Rattle.profile_image.specs.declared.statements.StatementForm.TheVariants as form
use Rattle.profile_machine.specs.declared.world.World.{World}
use Rattle.profile_machine.specs.declared.world.marks.Frame.{Frame}
use Rattle.profile_machine.specs.declared.world.marks.Mark.{Mark}
use Rattle.profile_machine.specs.declared.world.marks.AbortableMark.{AbortableMark}
use Rattle.profile_machine.specs.declared.world.appointments.Release.{Release}
use Rattle.profile_machine.specs.declared.world.calls.Call.{Call}
use Rattle.profile_machine.specs.declared.world.calls.CallKind.TheVariants as call_kind
use Rattle.profile_machine.specs.declared.world.marks.Purpose.TheVariants as opened_for
use Rattle.profile_machine.specs.declared.world.marks.ResultTo.TheVariants as bound_for
use Rattle.profile_machine.specs.declared.world.tasks.Waiting.TheVariants as waits_for
use Rattle.profile_machine.specs.declared.world.marks.Mark.TheVariants.{Scope, Handled, InProtected, InAccept}
use Rattle.profile_machine.specs.declared.world.marks.Mark.TheVariants.{Abortable, InInitialize, InFinalize, InAssign}
use Rattle.profile_image.specs.Program.{form_of, next_of, scope_of, marks_of}
use Rattle.profile_machine.specs.declared.world.lines.Part.TheVariants.{Own, TheBlock}
use Rattle.profile_machine.specs.Steps.{Step, changes, looks, nothing, ◌▷◌}
use Rattle.profile_machine.specs.Dispatching.{block}
use Rattle.profile_machine.specs.Frames.{frames_of, top_of, edit_top, goes, raises, leaving_of}
use Rattle.profile_machine.specs.Frames.{with_room, with_mark, pop, pass_on, handlers_in}
use Rattle.profile_machine.specs.Scopes.{open_scope, plainly, innermost}
use Rattle.profile_machine.specs.Values.{moment}
use Rattle.profile_machine.specs.Appointments.{drop_appointment, is_trigger_of}
use Rattle.profile_machine.specs.Calls.{with_call, attempt_with}
use Rattle.profile_machine.specs.CallEnds.{edit_abortable, end_top_abortable}
use Rattle.profile_machine.specs.Statements.{null, assign, assign_array, if_statement, case_statement, while_turn}
use Rattle.profile_machine.specs.Statements.{for_bounds, first_turn, later_turn, exit_statement, block_statement}
use Rattle.profile_machine.specs.Statements.{raise_again, delay_until, relative_moment, put_line, sees}
use Rattle.profile_machine.specs.Subprograms.{call_subprogram, return, return_value}
use Rattle.profile_machine.specs.Protected.{call_operation, call_own_operation}
use Rattle.profile_machine.specs.Priorities.{set_priority, set_quantum, set_deadline_of, delay_and_set_deadline}
use Rattle.profile_machine.specs.Serving.{end_in_protected}
use Rattle.profile_machine.specs.Rendezvous.{accept, selective_accept, end_in_accept}
use Rattle.profile_machine.specs.EntryCalls.{entry_call, asynchronous_select, requeue}
use Rattle.profile_machine.specs.Controlled.{initialize, assign_controlled, end_in_initialize}
use Rattle.profile_machine.specs.Controlled.{end_in_finalize, end_in_assign}
use Rattle.profile_machine.specs.Declarations.{declare}
use Rattle.profile_machine.specs.Tasking.{create, activate, end_own_activation, abort_statement, end_scope_mark}
use Rattle.profile_machine.specs.Handlers.{call_handler, set_event, cancel_event, set_timer, cancel_timer, add_member}
use Rattle.profile_machine.specs.Handlers.{remove_member, replenish, add_to_budget, set_budget, cancel_budget}

-- ---- the environment task calls the main procedure (10.2)

unfoldable pub call_main : Image → Who → StatementNo → Step
call_main p name s =
    with_room name (marks_of p p.main.scope) (scope_of p p.main.scope).size
    (goes name (next_of p s)
    ▷ looks (λ w. changes (open_scope p name p.main.scope (plainly (innermost w name))
    (opened_for.Subprogram [] bound_for.Nowhere))))

-- ---- calls of subprograms and protected operations (6.4, 9.5.1)

unfoldable pub call : Image → Who → StatementNo → Callee → List Actual → Destination → Step
call p name s (callee.Subprogram f) actuals to = call_subprogram p name s f actuals to
call p name s (callee.Operation d f) actuals to = call_operation p name s d f actuals to
call p name s (callee.OwnOperation f) actuals to = call_own_operation p name s f actuals to

-- ---- the end of a sequence with handlers (11.4)

abbrev pub same_exception : Raised → Raised → Bool
same_exception exception.Constraint exception.Constraint = true
same_exception exception.Program exception.Program = true
same_exception exception.Storage exception.Storage = true
same_exception exception.Tasking exception.Tasking = true
same_exception exception.TimerResource exception.TimerResource = true
same_exception exception.GroupBudget exception.GroupBudget = true
same_exception exception.DispatchingPolicy exception.DispatchingPolicy = true
same_exception (exception.User a) (exception.User b) = eqb a b
same_exception _ _ = false

abbrev pub is_handled_by : Raised → ExceptionChoice → Bool
is_handled_by e (choice.Named f) = same_exception e f
is_handled_by e choice.Others = true

abbrev pub handler_for : Raised → List Handler → Option StatementNo
handler_for e [] = None
handler_for e (h ∷ hs) = cond (list_any (is_handled_by e) h.choices) (Some h.first) (handler_for e hs)

-- the scope or accept directly below keeps the exception
abbrev pub keeping : Raised → Mark → Mark
keeping e (Scope m) = Scope (record m { handles = Some e })
keeping e (Handled s) = Handled s
keeping e (InProtected m) = InProtected m
keeping e (InAccept m) = InAccept (record m { handles = Some e })
keeping e (Abortable m) = Abortable m
keeping e (InInitialize l) = InInitialize l
keeping e (InFinalize o) = InFinalize o
keeping e (InAssign m) = InAssign m

unfoldable pub handle_or_pass : Image → Who → Raised → Option StatementNo → Step
handle_or_pass p name e None = pass_on p name (how.Exception e)
handle_or_pass p name e (Some first) = changes (edit_top name (λ f. with_mark (keeping e f.mark) f))
    ▷ goes name (Some first)

unfoldable pub behind_handled : Image → Who → StatementNo → Leaving → Step
behind_handled p name s (how.Exception e) = handle_or_pass p name e (handler_for e (handlers_in (form_of p s)))
behind_handled p name s how.End = nothing
behind_handled p name s how.Return = pass_on p name how.Return
behind_handled p name s (how.Exit loop) = pass_on p name (how.Exit loop)
behind_handled p name s how.Abort = pass_on p name how.Abort
behind_handled p name s how.Terminate = pass_on p name how.Terminate

unfoldable pub end_handled : Image → Who → StatementNo → Leaving → Step
end_handled p name s leaving = changes (pop name) ▷ behind_handled p name s leaving

-- ---- the end of an abortable part (9.7.4): cancellation of the trigger is attempted first

unfoldable pub end_top : Image → Who → Step
end_top p name = looks (λ w. end_top_abortable p Own name (frames_of w name))

abbrev pub waiting_mark : AbortableMark → AbortableMark
waiting_mark m = record m { waits = true }

unfoldable pub wait_for_trigger : Who → Call → Leaving → Step
wait_for_trigger name c leaving =
    changes (edit_top name (λ f. with_mark (edit_abortable waiting_mark f.mark) (record f { left_as = Some leaving })))
    ▷ block TheBlock name (waits_for.EndOfCall c.number)

-- a call that is no longer there needs no wait
abbrev pub drop_trigger : Who → ℕ → World → World
drop_trigger (who.Task t) depth = drop_appointment (is_trigger_of t depth)
drop_trigger who.Agent depth = λ w. w

abbrev pub below : List Frame → ℕ
below frames = length frames - 1

unfoldable pub end_abortable_by : Image → Who → AbortableMark → Leaving → Step
end_abortable_by p name m leaving = elim m.call [
  | None ↦ looks (λ w. changes (drop_trigger name (below (frames_of w name)))) ▷ end_top p name
  | Some c ↦ with_call c (λ d. attempt_with p Own d (end_top p name) (wait_for_trigger name d leaving))
]

unfoldable pub end_in_abortable : Image → Who → AbortableMark → Leaving → Step
end_in_abortable p name m leaving = cond m.triggered (end_top p name) (end_abortable_by p name m leaving)

-- ---- by the first item: a statement

unfoldable pub act_statement : Image → Who → StatementNo → StatementForm → Step
act_statement p name s (form.Declare object) = declare p name s object
act_statement p name s (form.Initialize object) = initialize p name s object
act_statement p name s (form.CreateTask object declarative_part) = create p name s object declarative_part
act_statement p name s (form.Activate declarative_part) = activate p name s declarative_part
act_statement p name s form.EndActivation = end_own_activation p name s
act_statement p name s form.CallMain = call_main p name s
act_statement p name s (form.Handled handlers first) = nothing
act_statement p name s form.Null = null p name s
act_statement p name s (form.Assign target e) = assign p name s target e
act_statement p name s (form.AssignArray target source) = assign_array p name s target source
act_statement p name s (form.AssignControlled target source) = assign_controlled p name s target source
act_statement p name s (form.If condition first otherwise) = if_statement p name condition first otherwise
act_statement p name s (form.Case selector alternatives) = case_statement p name selector alternatives
act_statement p name s (form.Loop body within) = goes name (Some body)
act_statement p name s (form.While condition body within) = while_turn p name s condition body
act_statement p name s (form.For parameter reverse low high turn within) =
    for_bounds p name parameter reverse low high turn
act_statement p name s (form.FirstTurn parameter reverse body) = first_turn p name s parameter reverse body
act_statement p name s (form.LaterTurn parameter reverse body) = later_turn p name s parameter reverse body
act_statement p name s (form.Exit condition of_loop) = exit_statement p name s of_loop condition
act_statement p name s (form.Block scope) = block_statement p name s scope
act_statement p name s form.Return = return name
act_statement p name s (form.ReturnValue function e) = return_value p name function e
act_statement p name s (form.Raise e) = raises Own name e
act_statement p name s (form.RaiseAgain scope) = raise_again p name scope
act_statement p name s (form.Delay e) = sees p name (λ q. delay_until p name s (relative_moment q e))
act_statement p name s (form.DelayUntil e) = sees p name (λ q. delay_until p name s (moment q e))
act_statement p name s (form.Call callee actuals to) = call p name s callee actuals to
act_statement p name s (form.PutLine pieces) = put_line p name s pieces
act_statement p name s (form.EntryCall entry owner actuals) = entry_call p name call_kind.Plain s
act_statement p name s (form.ConditionalCall call otherwise) = entry_call p name call_kind.Conditional s
act_statement p name s (form.TimedCall call delay) = entry_call p name call_kind.Timed s
act_statement p name s (form.AsynchronousSelect trigger abortable) = asynchronous_select p name s trigger
act_statement p name s (form.Accept entry scope) = accept p name s entry
act_statement p name s (form.SelectiveAccept alternatives otherwise) = selective_accept p name s alternatives otherwise
act_statement p name s (form.Abort tasks) = abort_statement p name s tasks
act_statement p name s (form.Requeue entry owner with_abort) = requeue p name entry owner with_abort
act_statement p name s (form.SetEvent event set handler) = set_event p name s event set handler
act_statement p name s (form.CancelEvent event cancelled) = cancel_event p name s event cancelled
act_statement p name s (form.SetTimer timer set handler) = set_timer p name s timer set handler
act_statement p name s (form.CancelTimer timer cancelled) = cancel_timer p name s timer cancelled
act_statement p name s (form.AddTask budget task) = add_member p name s budget task
act_statement p name s (form.RemoveTask budget task) = remove_member p name s budget task
act_statement p name s (form.Replenish budget to) = replenish p name s budget to
act_statement p name s (form.AddToBudget budget interval) = add_to_budget p name s budget interval
act_statement p name s (form.SetBudget budget handler) = set_budget p name s budget handler
act_statement p name s (form.CancelBudget budget cancelled) = cancel_budget p name s budget cancelled
act_statement p name s (form.SetPriority priority task) = set_priority p name s priority task
act_statement p name s (form.SetQuantum level quantum) = set_quantum p name s level quantum
act_statement p name s (form.SetDeadline deadline task) = set_deadline_of p name s deadline task
act_statement p name s (form.DelayUntilAndSetDeadline until offset) = delay_and_set_deadline p name s until offset

-- ---- or the end of the top mark, in whichever way it is left

unfoldable pub end_mark : Image → Who → Frame → Mark → Step
end_mark p name f (Scope m) = end_scope_mark p name m (leaving_of f)
end_mark p name f (Handled s) = end_handled p name s (leaving_of f)
end_mark p name f (InProtected m) = end_in_protected p name m (leaving_of f)
end_mark p name f (InAccept m) = end_in_accept p name m (leaving_of f)
end_mark p name f (Abortable m) = end_in_abortable p name m (leaving_of f)
end_mark p name f (InInitialize l) = end_in_initialize p name l (leaving_of f)
end_mark p name f (InFinalize o) = end_in_finalize p name (leaving_of f)
end_mark p name f (InAssign m) = end_in_assign p name m f.left_as

unfoldable pub act_frame : Image → Who → Frame → Option StatementNo → Step
act_frame p name f (Some s) = act_statement p name s (form_of p s)
act_frame p name f None = end_mark p name f f.mark

-- the agent without a rest calls the handler of the release that it serves; a task without one does nothing
unfoldable pub act_without : Image → Who → Option Release → Step
act_without p name None = nothing
act_without p who.Agent (Some r) = call_handler p r
act_without p (who.Task t) (Some r) = nothing

unfoldable pub act_top : Image → Who → Option Frame → Step
act_top p name None = looks (λ w. act_without p name w.serving)
act_top p name (Some f) = act_frame p name f f.onward

unfoldable pub act : Image → Who → Step
act p name = looks (λ w. act_top p name (top_of w name))
