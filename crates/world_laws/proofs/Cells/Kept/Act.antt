-- The effect of an action: each step keeps the cells right.
use Rattle.std.specs.Prelude.{ℕ, List, Option, Some, None}
use Rattle.ann_base.specs.declared.exceptions.Raised.{Raised}
use Rattle.trace_text.specs.declared.events.Who.{Who}
use Rattle.trace_text.specs.declared.events.Who.TheVariants as who
use Rattle.profile_image.specs.declared.image.Image.{Image}
use Rattle.profile_image.specs.declared.numbers.StatementNo.{StatementNo}
use Rattle.profile_machine.specs.declared.run_data.Leaving.{Leaving}
use Rattle.profile_machine.specs.declared.run_data.Leaving.TheVariants as how
use Rattle.profile_image.specs.declared.statements.Actual.{Actual}
use Rattle.profile_image.specs.declared.statements.Callee.{Callee}
use Rattle.profile_image.specs.declared.statements.Callee.TheVariants as callee
use Rattle.profile_image.specs.declared.statements.Destination.{Destination}
use Rattle.profile_image.specs.declared.statements.StatementForm.{StatementForm}
use Rattle.profile_image.specs.declared.statements.StatementForm.TheVariants as form
use Rattle.profile_machine.specs.declared.world.marks.Frame.{Frame}
use Rattle.profile_machine.specs.declared.world.marks.Mark.{Mark}
use Rattle.profile_machine.specs.declared.world.marks.AbortableMark.{AbortableMark}
use Rattle.profile_machine.specs.declared.world.appointments.Release.{Release}
use Rattle.profile_machine.specs.declared.world.calls.Call.{Call}
use Rattle.profile_machine.specs.declared.world.marks.Mark.TheVariants.{Scope, Handled, InProtected, InAccept, Abortable, InInitialize, InFinalize, InAssign}
use Rattle.profile_machine.specs.declared.world.lines.Part.TheVariants.{Own}
use Rattle.profile_machine.specs.Steps.{changes, looks, ◌▷◌}
use Rattle.profile_machine.specs.Frames.{frames_of}
use Rattle.profile_machine.specs.Calls.{with_call, attempt_with}
use Rattle.profile_machine.specs.Act.{call_main, call, handle_or_pass, behind_handled, end_handled, end_top, wait_for_trigger, drop_trigger}
use Rattle.profile_machine.specs.Act.{below, end_abortable_by, end_in_abortable, act_statement, end_mark, act_frame, act_without, act_top, act}
use Rattle.world_laws.proofs.Cells.RightCells.{Keeps, Alters, then-keeps, nothing-keeps, changes-keeps}
use Rattle.world_laws.proofs.Cells.RightCells.{looks-keeps, sees-keeps, cond-keeps, option-keeps, unchanged-alters}
use Rattle.world_laws.proofs.Cells.Kept.Dispatching.{block-keeps}
use Rattle.world_laws.proofs.Cells.Kept.Frames.{edit_top-alters, goes-keeps, pop-alters, raises-keeps, pass_on-keeps, with_room-keeps}
use Rattle.world_laws.proofs.Cells.Kept.Scopes.{open_scope-alters}
use Rattle.world_laws.proofs.Cells.Kept.Appointments.{drop_appointment-alters}
use Rattle.world_laws.proofs.Cells.Kept.Calls.{with_call-keeps, attempt_with-keeps}
use Rattle.world_laws.proofs.Cells.Kept.CallEnds.{end_top_abortable-keeps}
use Rattle.world_laws.proofs.Cells.Kept.Statements.{null-keeps, assign-keeps, assign_array-keeps, if_statement-keeps, case_statement-keeps}
use Rattle.world_laws.proofs.Cells.Kept.Statements.{while_turn-keeps, for_bounds-keeps, first_turn-keeps, later_turn-keeps, exit_statement-keeps}
use Rattle.world_laws.proofs.Cells.Kept.Statements.{block_statement-keeps, raise_again-keeps, delay_until-keeps, put_line-keeps}
use Rattle.world_laws.proofs.Cells.Kept.Subprograms.{call_subprogram-keeps, return_value-keeps, return-keeps}
use Rattle.world_laws.proofs.Cells.Kept.Protected.{call_operation-keeps, call_own_operation-keeps}
use Rattle.world_laws.proofs.Cells.Kept.Priorities.{set_priority-keeps, set_quantum-keeps, set_deadline_of-keeps, delay_and_set_deadline-keeps}
use Rattle.world_laws.proofs.Cells.Kept.Serving.{end_in_protected-keeps}
use Rattle.world_laws.proofs.Cells.Kept.Rendezvous.{accept-keeps, selective_accept-keeps, end_in_accept-keeps}
use Rattle.world_laws.proofs.Cells.Kept.EntryCalls.{entry_call-keeps, asynchronous_select-keeps, requeue-keeps}
use Rattle.world_laws.proofs.Cells.Kept.Controlled.{initialize-keeps, end_in_initialize-keeps, end_in_finalize-keeps}
use Rattle.world_laws.proofs.Cells.Kept.Controlled.{assign_controlled-keeps, end_in_assign-keeps}
use Rattle.world_laws.proofs.Cells.Kept.Declarations.{declare-keeps}
use Rattle.world_laws.proofs.Cells.Kept.Tasking.{create-keeps, activate-keeps, end_own_activation-keeps, end_scope_mark-keeps, abort_statement-keeps}
use Rattle.world_laws.proofs.Cells.Kept.Handlers.{call_handler-keeps, set_event-keeps, cancel_event-keeps, set_timer-keeps}
use Rattle.world_laws.proofs.Cells.Kept.Handlers.{cancel_timer-keeps, add_member-keeps, remove_member-keeps, replenish-keeps}
use Rattle.world_laws.proofs.Cells.Kept.Handlers.{add_to_budget-keeps, set_budget-keeps, cancel_budget-keeps}

-- ---- the environment task calls the main procedure (10.2)

pub call_main-keeps : (p : Image) (name : Who) (s : StatementNo) → Keeps p (call_main p name s)
unfolding call_main
call_main-keeps p name s = search (with_room-keeps, goes-keeps, then-keeps, looks-keeps, changes-keeps, open_scope-alters) depth 9

-- ---- calls of subprograms and protected operations (6.4, 9.5.1)

pub call-keeps : (p : Image) (name : Who) (s : StatementNo) (callee : Callee) (actuals : List Actual) (to : Destination)
    → Keeps p (call p name s callee actuals to)
unfolding call
call-keeps p name s (callee.Subprogram f) actuals to = search (call_subprogram-keeps)
call-keeps p name s (callee.Operation d f) actuals to = search (call_operation-keeps)
call-keeps p name s (callee.OwnOperation f) actuals to = search (call_own_operation-keeps)

-- ---- the end of a sequence with handlers (11.4)

pub handle_or_pass-keeps : (p : Image) (name : Who) (e : Raised) (found : Option StatementNo) → Keeps p (handle_or_pass p name e found)
unfolding handle_or_pass
handle_or_pass-keeps p name e None = search (pass_on-keeps)
handle_or_pass-keeps p name e (Some first) = search (changes-keeps, edit_top-alters, then-keeps, goes-keeps) depth 7

pub behind_handled-keeps : (p : Image) (name : Who) (s : StatementNo) (leaving : Leaving) → Keeps p (behind_handled p name s leaving)
unfolding behind_handled
behind_handled-keeps p name s (how.Exception e) = search (handle_or_pass-keeps)
behind_handled-keeps p name s how.End = search (nothing-keeps)
behind_handled-keeps p name s how.Return = search (pass_on-keeps)
behind_handled-keeps p name s (how.Exit loop) = search (pass_on-keeps)
behind_handled-keeps p name s how.Abort = search (pass_on-keeps)
behind_handled-keeps p name s how.Terminate = search (pass_on-keeps)

pub end_handled-keeps : (p : Image) (name : Who) (s : StatementNo) (leaving : Leaving) → Keeps p (end_handled p name s leaving)
unfolding end_handled
end_handled-keeps p name s leaving = search (changes-keeps, pop-alters, then-keeps, behind_handled-keeps) depth 7

-- ---- the end of an abortable part (9.7.4)

pub end_top-keeps : (p : Image) (name : Who) → Keeps p (end_top p name)
unfolding end_top
end_top-keeps p name = search (looks-keeps, end_top_abortable-keeps)

pub wait_for_trigger-keeps : {p : Image} (name : Who) (c : Call) (leaving : Leaving) → Keeps p (wait_for_trigger name c leaving)
unfolding wait_for_trigger
wait_for_trigger-keeps name c leaving = search (changes-keeps, edit_top-alters, then-keeps, block-keeps) depth 7

pub drop_trigger-alters : {p : Image} (name : Who) (depth : ℕ) → Alters p (drop_trigger name depth)
drop_trigger-alters (who.Task t) depth = search (drop_appointment-alters)
drop_trigger-alters who.Agent depth = search (unchanged-alters)

pub end_abortable_by-keeps : (p : Image) (name : Who) (m : AbortableMark) (leaving : Leaving) → Keeps p (end_abortable_by p name m leaving)
unfolding end_abortable_by
end_abortable_by-keeps p name m leaving =
    option-keeps m.call (looks (λ w. changes (drop_trigger name (below (frames_of w name)))) ▷ end_top p name)
    (λ c. with_call c (λ d. attempt_with p Own d (end_top p name) (wait_for_trigger name d leaving)))
    (search (looks-keeps, changes-keeps, drop_trigger-alters, then-keeps, end_top-keeps))
    (λ c. search (with_call-keeps, attempt_with-keeps, end_top-keeps, wait_for_trigger-keeps))

pub end_in_abortable-keeps : (p : Image) (name : Who) (m : AbortableMark) (leaving : Leaving) → Keeps p (end_in_abortable p name m leaving)
unfolding end_in_abortable
end_in_abortable-keeps p name m leaving = search (cond-keeps, end_top-keeps, end_abortable_by-keeps) depth 6

-- ---- by the first item

pub act_statement-keeps : (p : Image) (name : Who) (s : StatementNo) (form : StatementForm) → Keeps p (act_statement p name s form)
unfolding act_statement
act_statement-keeps p name s (form.Declare object) = search (declare-keeps)
act_statement-keeps p name s (form.Initialize object) = search (initialize-keeps)
act_statement-keeps p name s (form.CreateTask object declarative_part) = search (create-keeps)
act_statement-keeps p name s (form.Activate declarative_part) = search (activate-keeps)
act_statement-keeps p name s form.EndActivation = search (end_own_activation-keeps)
act_statement-keeps p name s form.CallMain = search (call_main-keeps)
act_statement-keeps p name s (form.Handled handlers first) = search (nothing-keeps)
act_statement-keeps p name s form.Null = search (null-keeps)
act_statement-keeps p name s (form.Assign target e) = search (assign-keeps)
act_statement-keeps p name s (form.AssignArray target source) = search (assign_array-keeps)
act_statement-keeps p name s (form.AssignControlled target source) = search (assign_controlled-keeps)
act_statement-keeps p name s (form.If condition first otherwise) = search (if_statement-keeps)
act_statement-keeps p name s (form.Case selector alternatives) = search (case_statement-keeps)
act_statement-keeps p name s (form.Loop body within) = search (goes-keeps)
act_statement-keeps p name s (form.While condition body within) = search (while_turn-keeps)
act_statement-keeps p name s (form.For parameter reverse low high turn within) = search (for_bounds-keeps)
act_statement-keeps p name s (form.FirstTurn parameter reverse body) = search (first_turn-keeps)
act_statement-keeps p name s (form.LaterTurn parameter reverse body) = search (later_turn-keeps)
act_statement-keeps p name s (form.Exit condition of_loop) = search (exit_statement-keeps)
act_statement-keeps p name s (form.Block scope) = search (block_statement-keeps)
act_statement-keeps p name s form.Return = search (return-keeps)
act_statement-keeps p name s (form.ReturnValue function e) = search (return_value-keeps)
act_statement-keeps p name s (form.Raise e) = search (raises-keeps)
act_statement-keeps p name s (form.RaiseAgain scope) = search (raise_again-keeps)
act_statement-keeps p name s (form.Delay e) = search (sees-keeps, delay_until-keeps)
act_statement-keeps p name s (form.DelayUntil e) = search (sees-keeps, delay_until-keeps)
act_statement-keeps p name s (form.Call callee actuals to) = search (call-keeps)
act_statement-keeps p name s (form.PutLine pieces) = search (put_line-keeps)
act_statement-keeps p name s (form.EntryCall entry owner actuals) = search (entry_call-keeps)
act_statement-keeps p name s (form.ConditionalCall call otherwise) = search (entry_call-keeps)
act_statement-keeps p name s (form.TimedCall call delay) = search (entry_call-keeps)
act_statement-keeps p name s (form.AsynchronousSelect trigger abortable) = search (asynchronous_select-keeps)
act_statement-keeps p name s (form.Accept entry scope) = search (accept-keeps)
act_statement-keeps p name s (form.SelectiveAccept alternatives otherwise) = search (selective_accept-keeps)
act_statement-keeps p name s (form.Abort tasks) = search (abort_statement-keeps)
act_statement-keeps p name s (form.Requeue entry owner with_abort) = search (requeue-keeps)
act_statement-keeps p name s (form.SetEvent event set handler) = search (set_event-keeps)
act_statement-keeps p name s (form.CancelEvent event cancelled) = search (cancel_event-keeps)
act_statement-keeps p name s (form.SetTimer timer set handler) = search (set_timer-keeps)
act_statement-keeps p name s (form.CancelTimer timer cancelled) = search (cancel_timer-keeps)
act_statement-keeps p name s (form.AddTask budget task) = search (add_member-keeps)
act_statement-keeps p name s (form.RemoveTask budget task) = search (remove_member-keeps)
act_statement-keeps p name s (form.Replenish budget to) = search (replenish-keeps)
act_statement-keeps p name s (form.AddToBudget budget interval) = search (add_to_budget-keeps)
act_statement-keeps p name s (form.SetBudget budget handler) = search (set_budget-keeps)
act_statement-keeps p name s (form.CancelBudget budget cancelled) = search (cancel_budget-keeps)
act_statement-keeps p name s (form.SetPriority priority task) = search (set_priority-keeps)
act_statement-keeps p name s (form.SetQuantum level quantum) = search (set_quantum-keeps)
act_statement-keeps p name s (form.SetDeadline deadline task) = search (set_deadline_of-keeps)
act_statement-keeps p name s (form.DelayUntilAndSetDeadline until offset) = search (delay_and_set_deadline-keeps)

-- ---- or the end of the top mark, in whichever way it is left

pub end_mark-keeps : (p : Image) (name : Who) (f : Frame) (mark : Mark) → Keeps p (end_mark p name f mark)
unfolding end_mark
end_mark-keeps p name f (Scope m) = search (end_scope_mark-keeps)
end_mark-keeps p name f (Handled s) = search (end_handled-keeps)
end_mark-keeps p name f (InProtected m) = search (end_in_protected-keeps)
end_mark-keeps p name f (InAccept m) = search (end_in_accept-keeps)
end_mark-keeps p name f (Abortable m) = search (end_in_abortable-keeps)
end_mark-keeps p name f (InInitialize l) = search (end_in_initialize-keeps)
end_mark-keeps p name f (InFinalize o) = search (end_in_finalize-keeps)
end_mark-keeps p name f (InAssign m) = search (end_in_assign-keeps)

pub act_frame-keeps : (p : Image) (name : Who) (f : Frame) (found : Option StatementNo) → Keeps p (act_frame p name f found)
unfolding act_frame
act_frame-keeps p name f (Some s) = search (act_statement-keeps)
act_frame-keeps p name f None = search (end_mark-keeps)

pub act_without-keeps : (p : Image) (name : Who) (found : Option Release) → Keeps p (act_without p name found)
unfolding act_without
act_without-keeps p name None = search (nothing-keeps)
act_without-keeps p who.Agent (Some r) = search (call_handler-keeps)
act_without-keeps p (who.Task t) (Some r) = search (nothing-keeps)

pub act_top-keeps : (p : Image) (name : Who) (found : Option Frame) → Keeps p (act_top p name found)
unfolding act_top
act_top-keeps p name None = search (looks-keeps, act_without-keeps)
act_top-keeps p name (Some f) = search (act_frame-keeps)

pub act-keeps : (p : Image) (name : Who) → Keeps p (act p name)
unfolding act
act-keeps p name = search (looks-keeps, act_top-keeps)
