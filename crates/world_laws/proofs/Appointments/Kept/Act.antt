-- The effect of an action: each step keeps a relation that its parts keep.
use Rattle.std.proofs.Common.{◌≡◌, refl, false}
use Rattle.std.specs.Prelude.{true, Bool, ℕ, List, Option, Some, None}
use Rattle.ann_base.specs.declared.exceptions.Raised.{Raised}
use Rattle.trace_text.specs.declared.events.Who.{Who}
use Rattle.trace_text.specs.declared.events.Who.TheVariants as who
use Rattle.profile_image.specs.declared.image.Image.{Image}
use Rattle.profile_image.specs.declared.numbers.StatementNo.{StatementNo}
use Rattle.profile_machine.specs.declared.run_data.Leaving.{Leaving}
use Rattle.profile_machine.specs.declared.run_data.Leaving.TheVariants as how
use Rattle.profile_image.specs.declared.statements.Actual.{Actual}
use Rattle.profile_image.specs.declared.statements.Callee.{Callee}
use Rattle.profile_image.specs.declared.statements.Callee.TheVariants as callee
use Rattle.profile_image.specs.declared.statements.Destination.{Destination}
use Rattle.profile_image.specs.declared.statements.StatementForm.{StatementForm}
use Rattle.profile_image.specs.declared.statements.StatementForm.TheVariants as form
use Rattle.profile_machine.specs.declared.world.appointments.Release.{Release}
use Rattle.profile_machine.specs.declared.world.calls.Call.{Call}
use Rattle.profile_machine.specs.declared.world.lines.Part.TheVariants.{Own}
use Rattle.profile_machine.specs.declared.world.marks.AbortableMark.{AbortableMark}
use Rattle.profile_machine.specs.declared.world.marks.Frame.{Frame}
use Rattle.profile_machine.specs.declared.world.marks.Mark.{Mark}
use Rattle.profile_machine.specs.declared.world.marks.Mark.TheVariants.{Scope, Handled, InProtected, InAccept, Abortable, InInitialize, InFinalize, InAssign}
use Rattle.profile_machine.specs.Act.{call_main, call, handle_or_pass, behind_handled, end_handled, end_top, wait_for_trigger, drop_trigger}
use Rattle.profile_machine.specs.Act.{below, end_abortable_by, end_in_abortable, act_statement, end_mark, act_without, keeping, waiting_mark}
use Rattle.profile_machine.specs.CallEnds.{edit_abortable}
use Rattle.profile_machine.specs.Calls.{with_call, attempt_with}
use Rattle.profile_machine.specs.Frames.{frames_of, leaving_of}
use Rattle.profile_machine.specs.Steps.{changes, looks, ◌▷◌}
use Rattle.machine_laws.proofs.Moves.{StepRelation, MoveRelation}
use Rattle.machine_laws.proofs.FineMoves.{GoodWorld, Naming}
use Rattle.world_laws.proofs.Appointments.Delays.{nature}
use Rattle.world_laws.proofs.Appointments.FineMoves.{FineMoves, chains}
use Rattle.world_laws.proofs.Appointments.Kept.Appointments.{drop_appointment-alters}
use Rattle.world_laws.proofs.Appointments.Kept.CallEnds.{end_found_abortable-keeps, abortable-nature}
use Rattle.world_laws.proofs.Appointments.Kept.Controlled.{end_in_initialize-keeps, end_in_finalize-keeps}
use Rattle.world_laws.proofs.Appointments.Kept.Controlled.{end_in_assign-keeps, initialize-keeps, assign_controlled-keeps}
use Rattle.world_laws.proofs.Appointments.Kept.Dispatching.{block-keeps}
use Rattle.world_laws.proofs.Appointments.Kept.EntryCalls.{entry_call-keeps, asynchronous_select-keeps, requeue-keeps}
use Rattle.world_laws.proofs.Appointments.Kept.Frames.{pop-alters, edit_top-alters, goes-keeps, plain_steps}
use Rattle.world_laws.proofs.Appointments.Kept.Handlers.{call_handler-keeps, set_event-keeps, cancel_event-keeps, set_timer-keeps}
use Rattle.world_laws.proofs.Appointments.Kept.Handlers.{cancel_timer-keeps, add_member-keeps, remove_member-keeps, replenish-keeps}
use Rattle.world_laws.proofs.Appointments.Kept.Handlers.{add_to_budget-keeps, set_budget-keeps, cancel_budget-keeps}
use Rattle.world_laws.proofs.Appointments.Kept.Priorities.{set_priority-keeps, set_quantum-keeps, set_deadline_of-keeps}
use Rattle.world_laws.proofs.Appointments.Kept.Protected.{call_operation-keeps, call_own_operation-keeps}
use Rattle.world_laws.proofs.Appointments.Kept.Rendezvous.{end_in_accept-keeps, accept-keeps}
use Rattle.world_laws.proofs.Appointments.Kept.Scopes.{open_scope-alters}
use Rattle.world_laws.proofs.Appointments.Kept.Serving.{OwnCalled, end_in_protected-keeps}
use Rattle.world_laws.proofs.Appointments.Kept.Statements.{block_statement-keeps, put_line-keeps}
use Rattle.world_laws.proofs.Appointments.Kept.Subprograms.{call_subprogram-keeps}
use Rattle.world_laws.proofs.Appointments.Kept.Tasking.{end_scope_mark-keeps, create-keeps, activate-keeps, end_own_activation-keeps, abort_statement-keeps}
use Rattle.machine_laws.proofs.Kept.Combinators.{Alters, Keeps, changes-keeps, cond-keeps, looks-keeps}
use Rattle.machine_laws.proofs.Kept.Combinators.{nothing-keeps, option-keeps, then-keeps, unchanged-alters}
use Rattle.machine_laws.proofs.Plain.Calls.{with_call-keeps, attempt_with-keeps}
use Rattle.machine_laws.proofs.Plain.Declarations.{declare-keeps}
use Rattle.machine_laws.proofs.Plain.Frames.{raises-keeps, pass_on-keeps, with_room-keeps}
use Rattle.machine_laws.proofs.Plain.Statements.{null-keeps, assign-keeps, assign_array-keeps, if_statement-keeps, case_statement-keeps, while_turn-keeps}
use Rattle.machine_laws.proofs.Plain.Statements.{for_bounds-keeps, first_turn-keeps, later_turn-keeps, exit_statement-keeps, raise_again-keeps}
use Rattle.machine_laws.proofs.Plain.Subprograms.{return_value-keeps, return-keeps}
use Rattle.machine_laws.proofs.Plain.PlainSteps.{anybody}

-- a mark that keeps an exception is what it was
keeping-nature : (e : Raised) (mark : Mark) → nature (keeping e mark) ≡ nature mark
keeping-nature e (Scope m) = refl
keeping-nature e (Handled s) = refl
keeping-nature e (InProtected m) = refl
keeping-nature e (InAccept m) = refl
keeping-nature e (Abortable m) = refl
keeping-nature e (InInitialize l) = refl
keeping-nature e (InFinalize o) = refl
keeping-nature e (InAssign m) = refl

waiting-nature : (x : Frame) → nature (edit_abortable waiting_mark x.mark) ≡ nature x.mark
waiting-nature x = abortable-nature waiting_mark x.mark

-- statements that may let the end of a delay be appointed
abbrev pub is_delay_form : StatementForm → Bool
is_delay_form (form.Delay e) = true
is_delay_form (form.DelayUntil e) = true
is_delay_form (form.SelectiveAccept alternatives otherwise) = true
is_delay_form (form.DelayUntilAndSetDeadline until offset) = true
is_delay_form _ = false

module _ {G : GoodWorld} {May : Naming} {R : StepRelation} {Q : MoveRelation} (moves : FineMoves G May R Q) where
  pub handle_or_pass-keeps : (p : Image) (name : Who) (e : Raised) (next : Option StatementNo) → Keeps G R (handle_or_pass p name e next)
  unfolding handle_or_pass
  handle_or_pass-keeps p name e None = search (pass_on-keeps, plain_steps, anybody)
  handle_or_pass-keeps p name e (Some first) = search (changes-keeps, edit_top-alters, keeping-nature, then-keeps, goes-keeps, chains)

  pub behind_handled-keeps : (p : Image) (name : Who) (s : StatementNo) (leaving : Leaving) → Keeps G R (behind_handled p name s leaving)
  unfolding behind_handled
  behind_handled-keeps p name s (how.Exception e) = search (handle_or_pass-keeps)
  behind_handled-keeps p name s how.End = search (nothing-keeps, chains)
  behind_handled-keeps p name s how.Return = search (pass_on-keeps, plain_steps, anybody)
  behind_handled-keeps p name s (how.Exit loop) = search (pass_on-keeps, plain_steps, anybody)
  behind_handled-keeps p name s how.Abort = search (pass_on-keeps, plain_steps, anybody)
  behind_handled-keeps p name s how.Terminate = search (pass_on-keeps, plain_steps, anybody)

  pub end_handled-keeps : (p : Image) (name : Who) (s : StatementNo) (leaving : Leaving) → Keeps G R (end_handled p name s leaving)
  unfolding end_handled
  end_handled-keeps p name s leaving =
      then-keeps (chains moves) _ _ (changes-keeps (chains moves) _ (pop-alters moves name)) (behind_handled-keeps p name s leaving)

  pub end_top-keeps : (p : Image) (name : Who) → Keeps G R (end_top p name)
  unfolding end_top
  end_top-keeps p name = end_found_abortable-keeps moves p Own name

  pub wait_for_trigger-keeps : (name : Who) (c : Call) (leaving : Leaving) → May name → Keeps G R (wait_for_trigger name c leaving)
  unfolding wait_for_trigger
  wait_for_trigger-keeps name c leaving other = search (changes-keeps, edit_top-alters, waiting-nature, then-keeps, block-keeps, chains)

  pub drop_trigger-alters : (name : Who) (depth : ℕ) → Alters G R (drop_trigger name depth)
  drop_trigger-alters (who.Task t) depth = search (drop_appointment-alters)
  drop_trigger-alters who.Agent depth = search (unchanged-alters, chains)

  pub end_abortable_by-keeps : (p : Image) (name : Who) (m : AbortableMark) (leaving : Leaving) → May name → Keeps G R (end_abortable_by p name m leaving)
  unfolding end_abortable_by
  end_abortable_by-keeps p name m leaving other =
      option-keeps (chains moves) m.call (looks (λ w. changes (drop_trigger name (below (frames_of w name)))) ▷ end_top p name)
      (λ c. with_call c (λ d. attempt_with p Own d (end_top p name) (wait_for_trigger name d leaving)))
      (search (looks-keeps, changes-keeps, drop_trigger-alters, then-keeps, end_top-keeps, chains))
      (λ c. search (with_call-keeps, attempt_with-keeps, end_top-keeps, wait_for_trigger-keeps, plain_steps))

  pub end_in_abortable-keeps : (p : Image) (name : Who) (m : AbortableMark) (leaving : Leaving) → May name → Keeps G R (end_in_abortable p name m leaving)
  unfolding end_in_abortable
  end_in_abortable-keeps p name m leaving other = search (cond-keeps, end_top-keeps, end_abortable_by-keeps, chains)

  pub call_main-keeps : (p : Image) (name : Who) (s : StatementNo) → Keeps G R (call_main p name s)
  unfolding call_main
  call_main-keeps p name s = search (with_room-keeps, goes-keeps, then-keeps, looks-keeps, changes-keeps, open_scope-alters, chains, plain_steps)

  pub call-keeps : (p : Image) (name : Who) (s : StatementNo) (callee : Callee) (actuals : List Actual) (to : Destination) → May name
      → Keeps G R (call p name s callee actuals to)
  unfolding call
  call-keeps p name s (callee.Subprogram f) actuals to may = search (call_subprogram-keeps)
  call-keeps p name s (callee.Operation d f) actuals to may = search (call_operation-keeps)
  call-keeps p name s (callee.OwnOperation f) actuals to may = search (call_own_operation-keeps)

  pub act_without-keeps : (p : Image) (name : Who) (release : Option Release) → May name → Keeps G R (act_without p name release)
  unfolding act_without
  act_without-keeps p name None may = nothing-keeps (chains moves)
  act_without-keeps p who.Agent (Some r) may = call_handler-keeps moves p r may
  act_without-keeps p (who.Task t) (Some r) may = nothing-keeps (chains moves)

  -- the end of the mark on top
  pub end_mark-keeps : (p : Image) (name : Who) (f : Frame) (mark : Mark) → May name → OwnCalled G name (nature mark) → Keeps G R (end_mark p name f mark)
  unfolding end_mark
  end_mark-keeps p name f (Scope m) may own = end_scope_mark-keeps moves p name m (leaving_of f) may
  end_mark-keeps p name f (Handled s) may own = end_handled-keeps p name s (leaving_of f)
  end_mark-keeps p name f (InProtected m) may own = end_in_protected-keeps moves p name m (leaving_of f) may own
  end_mark-keeps p name f (InAccept m) may own = end_in_accept-keeps moves p name m (leaving_of f) may
  end_mark-keeps p name f (Abortable m) may own = end_in_abortable-keeps p name m (leaving_of f) may
  end_mark-keeps p name f (InInitialize l) may own = end_in_initialize-keeps moves p name l (leaving_of f)
  end_mark-keeps p name f (InFinalize o) may own = end_in_finalize-keeps moves p name (leaving_of f)
  end_mark-keeps p name f (InAssign m) may own = end_in_assign-keeps moves p name m f.left_as

  -- a statement that is no delay
  pub act_plain-keeps : (p : Image) (name : Who) (s : StatementNo) (form : StatementForm) → May name → is_delay_form form ≡ false
      → Keeps G R (act_statement p name s form)
  unfolding act_statement
  act_plain-keeps p name s (form.Declare object) may plain = search (declare-keeps, plain_steps, anybody)
  act_plain-keeps p name s (form.Initialize object) may plain = search (initialize-keeps)
  act_plain-keeps p name s (form.CreateTask object part) may plain = search (create-keeps)
  act_plain-keeps p name s (form.Activate part) may plain = search (activate-keeps)
  act_plain-keeps p name s form.EndActivation may plain = search (end_own_activation-keeps)
  act_plain-keeps p name s form.CallMain may plain = search (call_main-keeps)
  act_plain-keeps p name s (form.Handled handlers first) may plain = search (nothing-keeps, chains)
  act_plain-keeps p name s form.Null may plain = search (null-keeps, plain_steps, anybody)
  act_plain-keeps p name s (form.Assign target e) may plain = search (assign-keeps, plain_steps, anybody)
  act_plain-keeps p name s (form.AssignArray target source) may plain = search (assign_array-keeps, plain_steps, anybody)
  act_plain-keeps p name s (form.AssignControlled target source) may plain = search (assign_controlled-keeps)
  act_plain-keeps p name s (form.If condition first otherwise) may plain = search (if_statement-keeps, plain_steps, anybody)
  act_plain-keeps p name s (form.Case selector alternatives) may plain = search (case_statement-keeps, plain_steps, anybody)
  act_plain-keeps p name s (form.Loop body within) may plain = search (goes-keeps)
  act_plain-keeps p name s (form.While condition body within) may plain = search (while_turn-keeps, plain_steps, anybody)
  act_plain-keeps p name s (form.For parameter reverse low high turn within) may plain = search (for_bounds-keeps, plain_steps, anybody)
  act_plain-keeps p name s (form.FirstTurn parameter reverse body) may plain = search (first_turn-keeps, plain_steps, anybody)
  act_plain-keeps p name s (form.LaterTurn parameter reverse body) may plain = search (later_turn-keeps, plain_steps, anybody)
  act_plain-keeps p name s (form.Exit condition of_loop) may plain = search (exit_statement-keeps, plain_steps, anybody)
  act_plain-keeps p name s (form.Block scope) may plain = search (block_statement-keeps)
  act_plain-keeps p name s form.Return may plain = search (return-keeps, plain_steps)
  act_plain-keeps p name s (form.ReturnValue function e) may plain = search (return_value-keeps, plain_steps)
  act_plain-keeps p name s (form.Raise e) may plain = search (raises-keeps, plain_steps)
  act_plain-keeps p name s (form.RaiseAgain scope) may plain = search (raise_again-keeps, plain_steps)
  act_plain-keeps p name s (form.Delay e) may plain = absurd cc
  act_plain-keeps p name s (form.DelayUntil e) may plain = absurd cc
  act_plain-keeps p name s (form.Call callee actuals to) may plain = search (call-keeps)
  act_plain-keeps p name s (form.PutLine pieces) may plain = put_line-keeps moves p name s pieces
  act_plain-keeps p name s (form.EntryCall entry owner actuals) may plain = search (entry_call-keeps)
  act_plain-keeps p name s (form.ConditionalCall call otherwise) may plain = search (entry_call-keeps)
  act_plain-keeps p name s (form.TimedCall call delay) may plain = search (entry_call-keeps)
  act_plain-keeps p name s (form.AsynchronousSelect trigger abortable) may plain = search (asynchronous_select-keeps)
  act_plain-keeps p name s (form.Accept entry scope) may plain = search (accept-keeps)
  act_plain-keeps p name s (form.SelectiveAccept alternatives otherwise) may plain = absurd cc
  act_plain-keeps p name s (form.Abort tasks) may plain = search (abort_statement-keeps)
  act_plain-keeps p name s (form.Requeue entry owner with_abort) may plain = search (requeue-keeps)
  act_plain-keeps p name s (form.SetEvent event set handler) may plain = search (set_event-keeps)
  act_plain-keeps p name s (form.CancelEvent event cancelled) may plain = search (cancel_event-keeps)
  act_plain-keeps p name s (form.SetTimer timer set handler) may plain = search (set_timer-keeps)
  act_plain-keeps p name s (form.CancelTimer timer cancelled) may plain = search (cancel_timer-keeps)
  act_plain-keeps p name s (form.AddTask budget task) may plain = search (add_member-keeps)
  act_plain-keeps p name s (form.RemoveTask budget task) may plain = search (remove_member-keeps)
  act_plain-keeps p name s (form.Replenish budget to) may plain = search (replenish-keeps)
  act_plain-keeps p name s (form.AddToBudget budget interval) may plain = search (add_to_budget-keeps)
  act_plain-keeps p name s (form.SetBudget budget handler) may plain = search (set_budget-keeps)
  act_plain-keeps p name s (form.CancelBudget budget cancelled) may plain = search (cancel_budget-keeps)
  act_plain-keeps p name s (form.SetPriority priority task) may plain = search (set_priority-keeps)
  act_plain-keeps p name s (form.SetQuantum level quantum) may plain = search (set_quantum-keeps)
  act_plain-keeps p name s (form.SetDeadline deadline task) may plain = search (set_deadline_of-keeps)
  act_plain-keeps p name s (form.DelayUntilAndSetDeadline until offset) may plain = absurd cc
