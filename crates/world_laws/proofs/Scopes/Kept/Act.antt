-- The effect of an action: each step keeps a relation that its parts keep.
use Rattle.std.proofs.Common.{◌≡◌, refl, false}
use Rattle.std.specs.Prelude.{ℕ, List, Option, Some, None}
use Rattle.ann_base.specs.declared.exceptions.Raised.{Raised}
use Rattle.trace_text.specs.declared.events.Who.{Who}
use Rattle.trace_text.specs.declared.events.Who.TheVariants as who
use Rattle.profile_image.specs.declared.image.Image.{Image}
use Rattle.profile_image.specs.declared.numbers.StatementNo.{StatementNo}
use Rattle.profile_machine.specs.declared.run_data.Leaving.{Leaving}
use Rattle.profile_machine.specs.declared.run_data.Leaving.TheVariants as how
use Rattle.profile_image.specs.declared.statements.Actual.{Actual}
use Rattle.profile_image.specs.declared.statements.Callee.{Callee}
use Rattle.profile_image.specs.declared.statements.Callee.TheVariants as callee
use Rattle.profile_image.specs.declared.statements.Destination.{Destination}
use Rattle.profile_image.specs.declared.statements.StatementForm.{StatementForm}
use Rattle.profile_image.specs.declared.statements.StatementForm.TheVariants as form
use Rattle.profile_machine.specs.declared.world.marks.Frame.{Frame}
use Rattle.profile_machine.specs.declared.world.marks.Mark.{Mark}
use Rattle.profile_machine.specs.declared.world.marks.AbortableMark.{AbortableMark}
use Rattle.profile_machine.specs.declared.world.calls.Call.{Call}
use Rattle.profile_machine.specs.declared.world.marks.Mark.TheVariants.{Scope, Handled, InProtected, InAccept, Abortable, InInitialize, InFinalize, InAssign}
use Rattle.profile_machine.specs.declared.world.lines.Part.TheVariants.{Own}
use Rattle.profile_machine.specs.Steps.{changes, looks, ◌▷◌}
use Rattle.profile_machine.specs.Frames.{frames_of, top_of, pop, is_protected}
use Rattle.profile_machine.specs.Calls.{with_call, attempt_with}
use Rattle.profile_machine.specs.Act.{call_main, call, handle_or_pass, behind_handled, end_handled, end_top, wait_for_trigger}
use Rattle.profile_machine.specs.Act.{drop_trigger, below, end_abortable_by, end_in_abortable, act_statement, keeping, waiting_mark}
use Rattle.machine_laws.proofs.Moves.{StepRelation, MoveRelation}
use Rattle.world_laws.proofs.Scopes.FineMoves.{FineMoves, Openings, nature, chains}
use Rattle.world_laws.proofs.Scopes.Kept.Dispatching.{block-keeps}
use Rattle.world_laws.proofs.Scopes.Kept.Frames.{edit_top-alters, goes-keeps, popped, plain_steps}
use Rattle.world_laws.proofs.Scopes.Kept.Scopes.{open_scope-alters}
use Rattle.world_laws.proofs.Scopes.Kept.Appointments.{drop_appointment-alters}
use Rattle.world_laws.proofs.Scopes.Kept.Statements.{block_statement-keeps, delay_until-keeps, put_line-keeps}
use Rattle.world_laws.proofs.Scopes.Kept.Subprograms.{call_subprogram-keeps}
use Rattle.world_laws.proofs.Scopes.Kept.Protected.{call_operation-keeps, call_own_operation-keeps}
use Rattle.world_laws.proofs.Scopes.Kept.Priorities.{set_priority-keeps, set_quantum-keeps, set_deadline_of-keeps, delay_and_set_deadline-keeps}
use Rattle.world_laws.proofs.Scopes.Kept.Rendezvous.{accept-keeps, selective_accept-keeps}
use Rattle.world_laws.proofs.Scopes.Kept.EntryCalls.{entry_call-keeps, asynchronous_select-keeps, requeue-keeps}
use Rattle.world_laws.proofs.Scopes.Kept.Controlled.{initialize-keeps, assign_controlled-keeps}
use Rattle.world_laws.proofs.Scopes.Kept.Tasking.{create-keeps, end_own_activation-keeps}
use Rattle.world_laws.proofs.Scopes.Kept.Handlers.{set_event-keeps, cancel_event-keeps, set_timer-keeps, cancel_timer-keeps, add_member-keeps}
use Rattle.world_laws.proofs.Scopes.Kept.Handlers.{remove_member-keeps, replenish-keeps, add_to_budget-keeps, set_budget-keeps, cancel_budget-keeps}
use Rattle.profile_machine.specs.declared.world.World.{World}
use Rattle.world_laws.proofs.Scopes.Kept.CallEnds.{end_found_abortable-keeps, abortable-nature}
use Rattle.profile_machine.specs.CallEnds.{edit_abortable}
use Rattle.profile_machine.specs.Scopes.{id_in}
use Rattle.profile_machine.specs.Tasking.{activate, abort_statement}
use Rattle.profile_image.specs.declared.numbers.DeclNo.{DeclNo}
use Rattle.machine_laws.proofs.FineMoves.{Anybody, GoodWorld, Naming}
use Rattle.machine_laws.proofs.Kept.Combinators.{Alters, From, Keeps, changes-keeps, changes_then-from, cond-keeps, keeps-from}
use Rattle.machine_laws.proofs.Kept.Combinators.{looks-keeps, nothing-keeps, option-keeps, sees-keeps, then-keeps, unchanged-alters}
use Rattle.machine_laws.proofs.Plain.Frames.{raises-keeps, pass_on-keeps, with_room-keeps}
use Rattle.machine_laws.proofs.Plain.Calls.{with_call-keeps, attempt_with-keeps}
use Rattle.machine_laws.proofs.Plain.Statements.{null-keeps, assign-keeps, assign_array-keeps, if_statement-keeps, case_statement-keeps, while_turn-keeps}
use Rattle.machine_laws.proofs.Plain.Statements.{for_bounds-keeps, first_turn-keeps, later_turn-keeps, exit_statement-keeps, raise_again-keeps}
use Rattle.machine_laws.proofs.Plain.Subprograms.{return_value-keeps, return-keeps}
use Rattle.machine_laws.proofs.Plain.Declarations.{declare-keeps}
use Rattle.machine_laws.proofs.Plain.PlainSteps.{anybody}

-- a mark that keeps an exception is what it was
keeping-nature : (e : Raised) (mark : Mark) → nature (keeping e mark) ≡ nature mark
keeping-nature e (Scope m) = refl
keeping-nature e (Handled s) = refl
keeping-nature e (InProtected m) = refl
keeping-nature e (InAccept m) = refl
keeping-nature e (Abortable m) = refl
keeping-nature e (InInitialize l) = refl
keeping-nature e (InFinalize o) = refl
keeping-nature e (InAssign m) = refl

waiting-nature : (x : Frame) → nature (edit_abortable waiting_mark x.mark) ≡ nature x.mark
waiting-nature x = abortable-nature waiting_mark x.mark

-- what is done with groups of tasks: they are activated, and aborted
pub record Groups (G : GoodWorld) (Acts : Naming) (R : StepRelation) : Type 0 where
  pub activates : (p : Image) (name : Who) (s : StatementNo) (part : ℕ) → Acts name → Keeps G R (activate p name s part)
  pub aborts : (p : Image) (name : Who) (s : StatementNo) (tasks : List DeclNo) → Acts name → Keeps G R (abort_statement p name s tasks)

module _ {G : GoodWorld} {May Other : Naming} {R : StepRelation} {Q : MoveRelation} (moves : FineMoves G May Other R Q) where
  pub handle_or_pass-keeps : (p : Image) (name : Who) (e : Raised) (next : Option StatementNo) → Keeps G R (handle_or_pass p name e next)
  unfolding handle_or_pass
  handle_or_pass-keeps p name e None = search (pass_on-keeps, plain_steps, anybody)
  handle_or_pass-keeps p name e (Some first) = search (changes-keeps, edit_top-alters, keeping-nature, then-keeps, goes-keeps, chains)

  pub behind_handled-keeps : (p : Image) (name : Who) (s : StatementNo) (leaving : Leaving) → Keeps G R (behind_handled p name s leaving)
  unfolding behind_handled
  behind_handled-keeps p name s (how.Exception e) = search (handle_or_pass-keeps)
  behind_handled-keeps p name s how.End = search (nothing-keeps, chains)
  behind_handled-keeps p name s how.Return = search (pass_on-keeps, plain_steps, anybody)
  behind_handled-keeps p name s (how.Exit loop) = search (pass_on-keeps, plain_steps, anybody)
  behind_handled-keeps p name s how.Abort = search (pass_on-keeps, plain_steps, anybody)
  behind_handled-keeps p name s how.Terminate = search (pass_on-keeps, plain_steps, anybody)

  pub end_handled-from : (p : Image) (name : Who) (s : StatementNo) (leaving : Leaving) (f : Frame) (w : World) → G w → May name → top_of w name ≡ Some f
      → is_protected f.mark ≡ false → id_in f.mark ≡ None → From R w (end_handled p name s leaving)
  unfolding end_handled
  end_handled-from p name s leaving f w good may top free none =
      let out = popped moves name f w good may top free none in
      changes_then-from (chains moves) (pop name) _ w out
      (keeps-from (chains moves) (behind_handled p name s leaving) (pop name w) (moves.behind w (pop name w) out) (behind_handled-keeps p name s leaving))

  pub end_top-keeps : (p : Image) (name : Who) → May name → Keeps G R (end_top p name)
  unfolding end_top
  end_top-keeps p name may = end_found_abortable-keeps moves p Own name may

  pub wait_for_trigger-keeps : (name : Who) (c : Call) (leaving : Leaving) → Other name → Keeps G R (wait_for_trigger name c leaving)
  unfolding wait_for_trigger
  wait_for_trigger-keeps name c leaving other = search (changes-keeps, edit_top-alters, waiting-nature, then-keeps, block-keeps, chains)

  pub drop_trigger-alters : (name : Who) (depth : ℕ) → Alters G R (drop_trigger name depth)
  drop_trigger-alters (who.Task t) depth = search (drop_appointment-alters)
  drop_trigger-alters who.Agent depth = search (unchanged-alters, chains)

  pub end_abortable_by-keeps : (p : Image) (name : Who) (m : AbortableMark) (leaving : Leaving) → Other name → Keeps G R (end_abortable_by p name m leaving)
  unfolding end_abortable_by
  end_abortable_by-keeps p name m leaving other =
      option-keeps (chains moves) m.call (looks (λ w. changes (drop_trigger name (below (frames_of w name)))) ▷ end_top p name)
      (λ c. with_call c (λ d. attempt_with p Own d (end_top p name) (wait_for_trigger name d leaving)))
      (search (looks-keeps, changes-keeps, drop_trigger-alters, then-keeps, end_top-keeps, moves.other_may, chains))
      (λ c. search (with_call-keeps, attempt_with-keeps, end_top-keeps, wait_for_trigger-keeps, moves.other_may, plain_steps))

  pub end_in_abortable-keeps : (p : Image) (name : Who) (m : AbortableMark) (leaving : Leaving) → Other name → Keeps G R (end_in_abortable p name m leaving)
  unfolding end_in_abortable
  end_in_abortable-keeps p name m leaving other = search (cond-keeps, end_top-keeps, end_abortable_by-keeps, moves.other_may, chains)

module _ {G : GoodWorld} {Acts : Naming} {R : StepRelation} {Q : MoveRelation} (moves : FineMoves G Anybody Anybody R Q) (openings : Openings G Acts R) where
  pub call_main-keeps : (p : Image) (name : Who) (s : StatementNo) → Acts name → Keeps G R (call_main p name s)
  unfolding call_main
  call_main-keeps p name s acts = search (with_room-keeps, goes-keeps, then-keeps, looks-keeps, changes-keeps, open_scope-alters, chains, plain_steps)

  pub call-keeps : (p : Image) (name : Who) (s : StatementNo) (callee : Callee) (actuals : List Actual) (to : Destination) → Acts name
      → Keeps G R (call p name s callee actuals to)
  unfolding call
  call-keeps p name s (callee.Subprogram f) actuals to acts = search (call_subprogram-keeps)
  call-keeps p name s (callee.Operation d f) actuals to acts = search (call_operation-keeps)
  call-keeps p name s (callee.OwnOperation f) actuals to acts = search (call_own_operation-keeps)

module _ {G : GoodWorld} {Acts : Naming} {R : StepRelation} {Q : MoveRelation} (moves : FineMoves G Anybody Anybody R Q) (openings : Openings G Acts R)
    (groups : Groups G Acts R) where
  pub act_statement-keeps : (p : Image) (name : Who) (s : StatementNo) (form : StatementForm) → Acts name → Keeps G R (act_statement p name s form)
  unfolding act_statement
  act_statement-keeps p name s (form.Declare object) acts = search (declare-keeps, plain_steps, anybody)
  act_statement-keeps p name s (form.Initialize object) acts = search (initialize-keeps)
  act_statement-keeps p name s (form.CreateTask object part) acts = search (create-keeps)
  act_statement-keeps p name s (form.Activate part) acts = groups.activates p name s part acts
  act_statement-keeps p name s form.EndActivation acts = search (end_own_activation-keeps)
  act_statement-keeps p name s form.CallMain acts = search (call_main-keeps)
  act_statement-keeps p name s (form.Handled handlers first) acts = search (nothing-keeps, chains)
  act_statement-keeps p name s form.Null acts = search (null-keeps, plain_steps, anybody)
  act_statement-keeps p name s (form.Assign target e) acts = search (assign-keeps, plain_steps, anybody)
  act_statement-keeps p name s (form.AssignArray target source) acts = search (assign_array-keeps, plain_steps, anybody)
  act_statement-keeps p name s (form.AssignControlled target source) acts = search (assign_controlled-keeps)
  act_statement-keeps p name s (form.If condition first otherwise) acts = search (if_statement-keeps, plain_steps, anybody)
  act_statement-keeps p name s (form.Case selector alternatives) acts = search (case_statement-keeps, plain_steps, anybody)
  act_statement-keeps p name s (form.Loop body within) acts = search (goes-keeps)
  act_statement-keeps p name s (form.While condition body within) acts = search (while_turn-keeps, plain_steps, anybody)
  act_statement-keeps p name s (form.For parameter reverse low high turn within) acts = search (for_bounds-keeps, plain_steps, anybody)
  act_statement-keeps p name s (form.FirstTurn parameter reverse body) acts = search (first_turn-keeps, plain_steps, anybody)
  act_statement-keeps p name s (form.LaterTurn parameter reverse body) acts = search (later_turn-keeps, plain_steps, anybody)
  act_statement-keeps p name s (form.Exit condition of_loop) acts = search (exit_statement-keeps, plain_steps, anybody)
  act_statement-keeps p name s (form.Block scope) acts = search (block_statement-keeps)
  act_statement-keeps p name s form.Return acts = search (return-keeps, plain_steps)
  act_statement-keeps p name s (form.ReturnValue function e) acts = search (return_value-keeps, plain_steps)
  act_statement-keeps p name s (form.Raise e) acts = search (raises-keeps, plain_steps)
  act_statement-keeps p name s (form.RaiseAgain scope) acts = search (raise_again-keeps, plain_steps)
  act_statement-keeps p name s (form.Delay e) acts = search (sees-keeps, delay_until-keeps, chains)
  act_statement-keeps p name s (form.DelayUntil e) acts = search (sees-keeps, delay_until-keeps, chains)
  act_statement-keeps p name s (form.Call callee actuals to) acts = search (call-keeps)
  act_statement-keeps p name s (form.PutLine pieces) acts = search (put_line-keeps)
  act_statement-keeps p name s (form.EntryCall entry owner actuals) acts = search (entry_call-keeps)
  act_statement-keeps p name s (form.ConditionalCall call otherwise) acts = search (entry_call-keeps)
  act_statement-keeps p name s (form.TimedCall call delay) acts = search (entry_call-keeps)
  act_statement-keeps p name s (form.AsynchronousSelect trigger abortable) acts = search (asynchronous_select-keeps)
  act_statement-keeps p name s (form.Accept entry scope) acts = search (accept-keeps)
  act_statement-keeps p name s (form.SelectiveAccept alternatives otherwise) acts = search (selective_accept-keeps)
  act_statement-keeps p name s (form.Abort tasks) acts = groups.aborts p name s tasks acts
  act_statement-keeps p name s (form.Requeue entry owner with_abort) acts = search (requeue-keeps)
  act_statement-keeps p name s (form.SetEvent event set handler) acts = search (set_event-keeps)
  act_statement-keeps p name s (form.CancelEvent event cancelled) acts = search (cancel_event-keeps)
  act_statement-keeps p name s (form.SetTimer timer set handler) acts = search (set_timer-keeps)
  act_statement-keeps p name s (form.CancelTimer timer cancelled) acts = search (cancel_timer-keeps)
  act_statement-keeps p name s (form.AddTask budget task) acts = search (add_member-keeps)
  act_statement-keeps p name s (form.RemoveTask budget task) acts = search (remove_member-keeps)
  act_statement-keeps p name s (form.Replenish budget to) acts = search (replenish-keeps)
  act_statement-keeps p name s (form.AddToBudget budget interval) acts = search (add_to_budget-keeps)
  act_statement-keeps p name s (form.SetBudget budget handler) acts = search (set_budget-keeps)
  act_statement-keeps p name s (form.CancelBudget budget cancelled) acts = search (cancel_budget-keeps)
  act_statement-keeps p name s (form.SetPriority priority task) acts = search (set_priority-keeps)
  act_statement-keeps p name s (form.SetQuantum level quantum) acts = search (set_quantum-keeps)
  act_statement-keeps p name s (form.SetDeadline deadline task) acts = search (set_deadline_of-keeps)
  act_statement-keeps p name s (form.DelayUntilAndSetDeadline until offset) acts = search (delay_and_set_deadline-keeps)
