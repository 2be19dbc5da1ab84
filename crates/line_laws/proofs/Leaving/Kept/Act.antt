-- The effect of an action: each step keeps a relation that its parts keep.
use Rattle.std.proofs.Common.{◌≡◌, refl}
use Rattle.std.specs.Prelude.{ℕ, List, Option, Some, None}
use Rattle.ann_base.specs.declared.exceptions.Raised.{Raised}
use Rattle.trace_text.specs.declared.events.Who.{Who}
use Rattle.trace_text.specs.declared.events.Who.TheVariants as who
use Rattle.profile_image.specs.declared.image.Image.{Image}
use Rattle.profile_image.specs.declared.numbers.StatementNo.{StatementNo}
use Rattle.profile_machine.specs.declared.run_data.Leaving.{Leaving}
use Rattle.profile_machine.specs.declared.run_data.Leaving.TheVariants as how
use Rattle.profile_image.specs.declared.statements.Actual.{Actual}
use Rattle.profile_image.specs.declared.statements.Callee.{Callee}
use Rattle.profile_image.specs.declared.statements.Callee.TheVariants as callee
use Rattle.profile_image.specs.declared.statements.Destination.{Destination}
use Rattle.profile_image.specs.declared.statements.StatementForm.{StatementForm}
use Rattle.profile_image.specs.declared.statements.StatementForm.TheVariants as form
use Rattle.profile_machine.specs.declared.world.marks.Frame.{Frame}
use Rattle.profile_machine.specs.declared.world.marks.Mark.{Mark}
use Rattle.profile_machine.specs.declared.world.calls.Call.{Call}
use Rattle.profile_machine.specs.declared.world.marks.Mark.TheVariants.{Scope, Handled, InProtected, InAccept, Abortable, InInitialize, InFinalize, InAssign}
use Rattle.profile_image.specs.Program.{form_of}
use Rattle.profile_machine.specs.Steps.{changes}
use Rattle.profile_machine.specs.Frames.{edit_top, with_mark}
use Rattle.profile_machine.specs.Act.{call_main, call, handle_or_pass, behind_handled, wait_for_trigger, drop_trigger, act_statement, keeping, waiting_mark}
use Rattle.profile_machine.specs.Frames.{goes}
use Rattle.profile_machine.specs.Dispatching.{block}
use Rattle.profile_machine.specs.declared.world.lines.Part.TheVariants.{TheBlock}
use Rattle.profile_machine.specs.declared.world.tasks.Waiting.TheVariants as waits_for
use Rattle.machine_laws.proofs.Moves.{StepRelation, MoveRelation, Puts}
use Rattle.line_laws.proofs.Leaving.FineMoves.{FineMoves, nature, chains}
use Rattle.line_laws.proofs.Leaving.Kept.Dispatching.{block-keeps}
use Rattle.line_laws.proofs.Leaving.Kept.Frames.{edit_top-alters, goes-keeps, plain_steps}
use Rattle.line_laws.proofs.Leaving.Kept.Scopes.{open_scope-alters}
use Rattle.line_laws.proofs.Leaving.Kept.Appointments.{drop_appointment-alters}
use Rattle.line_laws.proofs.Leaving.Kept.Statements.{block_statement-keeps, delay_until-keeps, put_line-keeps}
use Rattle.line_laws.proofs.Leaving.Kept.Subprograms.{call_subprogram-keeps}
use Rattle.line_laws.proofs.Leaving.Kept.Protected.{call_operation-keeps, call_own_operation-keeps}
use Rattle.line_laws.proofs.Leaving.Kept.Priorities.{set_priority-keeps, set_quantum-keeps, set_deadline_of-keeps, delay_and_set_deadline-keeps}
use Rattle.line_laws.proofs.Leaving.Kept.Rendezvous.{accept-keeps, selective_accept-keeps}
use Rattle.line_laws.proofs.Leaving.Kept.EntryCalls.{entry_call-keeps, asynchronous_select-keeps, requeue-keeps}
use Rattle.line_laws.proofs.Leaving.Kept.Controlled.{initialize-keeps, assign_controlled-keeps}
use Rattle.line_laws.proofs.Leaving.Kept.Tasking.{create-keeps, activate-keeps, end_own_activation-keeps, abort_statement-keeps}
use Rattle.line_laws.proofs.Leaving.Kept.Handlers.{set_event-keeps, cancel_event-keeps, set_timer-keeps, cancel_timer-keeps, add_member-keeps}
use Rattle.line_laws.proofs.Leaving.Kept.Handlers.{remove_member-keeps, replenish-keeps, add_to_budget-keeps, set_budget-keeps, cancel_budget-keeps}
use Rattle.line_laws.proofs.Leaving.Kept.CallEnds.{abortable-nature}
use Rattle.profile_machine.specs.CallEnds.{edit_abortable}
use Rattle.machine_laws.proofs.FineMoves.{GoodWorld, Naming}
use Rattle.machine_laws.proofs.Kept.Combinators.{Alters, Keeps, changes-keeps, looks-keeps, nothing-keeps, sees-keeps, then-keeps, unchanged-alters}
use Rattle.machine_laws.proofs.Plain.Frames.{raises-keeps, pass_on-keeps, with_room-keeps}
use Rattle.machine_laws.proofs.Plain.Statements.{null-keeps, assign-keeps, assign_array-keeps, if_statement-keeps, case_statement-keeps, while_turn-keeps}
use Rattle.machine_laws.proofs.Plain.Statements.{for_bounds-keeps, first_turn-keeps, later_turn-keeps, exit_statement-keeps, raise_again-keeps}
use Rattle.machine_laws.proofs.Plain.Subprograms.{return_value-keeps, return-keeps}
use Rattle.machine_laws.proofs.Plain.Declarations.{declare-keeps}

-- a mark that keeps an exception is what it was
keeping-nature : (e : Raised) (mark : Mark) → nature (keeping e mark) ≡ nature mark
keeping-nature e (Scope m) = refl
keeping-nature e (Handled s) = refl
keeping-nature e (InProtected m) = refl
keeping-nature e (InAccept m) = refl
keeping-nature e (Abortable m) = refl
keeping-nature e (InInitialize l) = refl
keeping-nature e (InFinalize o) = refl
keeping-nature e (InAssign m) = refl

waiting-nature : (x : Frame) → nature (edit_abortable waiting_mark x.mark) ≡ nature x.mark
waiting-nature x = abortable-nature waiting_mark x.mark

module _ {G : GoodWorld} {May Acts Pushes : Naming} {Stops : Type 0} {R : StepRelation} {Q : MoveRelation} (moves : FineMoves G May Acts Pushes Stops R Q) where
  keeping-alters : (name : Who) (e : Raised) → Alters G R (edit_top name (λ f. with_mark (keeping e f.mark) f))
  keeping-alters name e = edit_top-alters moves name (λ f. with_mark (keeping e f.mark) f) (λ f. keeping-nature e f.mark) (λ f. refl)

  pub handle_or_pass-keeps : (p : Image) (name : Who) (e : Raised) (next : Option StatementNo) → May name → Keeps G R (handle_or_pass p name e next)
  unfolding handle_or_pass
  handle_or_pass-keeps p name e None may = search (pass_on-keeps, plain_steps)
  handle_or_pass-keeps p name e (Some first) may =
      then-keeps (chains moves) (changes (edit_top name (λ f. with_mark (keeping e f.mark) f))) (goes name (Some first))
      (changes-keeps (chains moves) _ (keeping-alters name e)) (goes-keeps moves name (Some first) may)

  pub behind_handled-keeps : (p : Image) (name : Who) (s : StatementNo) (leaving : Leaving) → May name → Keeps G R (behind_handled p name s leaving)
  unfolding behind_handled
  behind_handled-keeps p name s (how.Exception e) may = search (handle_or_pass-keeps)
  behind_handled-keeps p name s how.End may = search (nothing-keeps, chains)
  behind_handled-keeps p name s how.Return may = search (pass_on-keeps, plain_steps)
  behind_handled-keeps p name s (how.Exit loop) may = search (pass_on-keeps, plain_steps)
  behind_handled-keeps p name s how.Abort may = search (pass_on-keeps, plain_steps)
  behind_handled-keeps p name s how.Terminate may = search (pass_on-keeps, plain_steps)

  waiting-alters : (name : Who) (leaving : Leaving)
      → Alters G R (edit_top name (λ f. with_mark (edit_abortable waiting_mark f.mark) (record f { left_as = Some leaving })))
  waiting-alters name leaving =
      edit_top-alters moves name (λ f. with_mark (edit_abortable waiting_mark f.mark) (record f { left_as = Some leaving })) waiting-nature (λ f. refl)

  pub wait_for_trigger-keeps : (name : Who) (c : Call) (leaving : Leaving) → May name → Keeps G R (wait_for_trigger name c leaving)
  unfolding wait_for_trigger
  wait_for_trigger-keeps name c leaving may =
      then-keeps (chains moves) (changes (edit_top name (λ f. with_mark (edit_abortable waiting_mark f.mark) (record f { left_as = Some leaving }))))
      (block TheBlock name (waits_for.EndOfCall c.number)) (changes-keeps (chains moves) _ (waiting-alters name leaving))
      (block-keeps moves name (waits_for.EndOfCall c.number) may)

  pub drop_trigger-alters : (name : Who) (depth : ℕ) → Alters G R (drop_trigger name depth)
  drop_trigger-alters (who.Task t) depth = search (drop_appointment-alters)
  drop_trigger-alters who.Agent depth = search (unchanged-alters, chains)

  pub call_main-keeps : (p : Image) (name : Who) (s : StatementNo) → May name → Keeps G R (call_main p name s)
  unfolding call_main
  call_main-keeps p name s may = search (with_room-keeps, goes-keeps, then-keeps, looks-keeps, changes-keeps, open_scope-alters, chains, plain_steps)

  pub call-keeps : (p : Image) (name : Who) (s : StatementNo) (callee : Callee) (actuals : List Actual) (to : Destination) → May name
      → Keeps G R (call p name s callee actuals to)
  unfolding call
  call-keeps p name s (callee.Subprogram f) actuals to may = search (call_subprogram-keeps)
  call-keeps p name s (callee.Operation d f) actuals to may = search (call_operation-keeps)
  call-keeps p name s (callee.OwnOperation f) actuals to may = search (call_own_operation-keeps)

  pub act_statement-keeps : (p : Image) → Puts G R p → (name : Who) (s : StatementNo) (form : StatementForm) → May name → Stops → form_of p s ≡ form
      → Keeps G R (act_statement p name s form)
  unfolding act_statement
  act_statement-keeps p puts name s (form.Declare object) may stops is = search (declare-keeps, plain_steps)
  act_statement-keeps p puts name s (form.Initialize object) may stops is = search (initialize-keeps)
  act_statement-keeps p puts name s (form.CreateTask object part) may stops is = search (create-keeps)
  act_statement-keeps p puts name s (form.Activate part) may stops is = search (activate-keeps)
  act_statement-keeps p puts name s form.EndActivation may stops is = search (end_own_activation-keeps)
  act_statement-keeps p puts name s form.CallMain may stops is = search (call_main-keeps)
  act_statement-keeps p puts name s (form.Handled handlers first) may stops is = search (nothing-keeps, chains)
  act_statement-keeps p puts name s form.Null may stops is = search (null-keeps, plain_steps)
  act_statement-keeps p puts name s (form.Assign target e) may stops is = search (assign-keeps, plain_steps)
  act_statement-keeps p puts name s (form.AssignArray target source) may stops is = search (assign_array-keeps, plain_steps)
  act_statement-keeps p puts name s (form.AssignControlled target source) may stops is = search (assign_controlled-keeps)
  act_statement-keeps p puts name s (form.If condition first otherwise) may stops is = search (if_statement-keeps, plain_steps)
  act_statement-keeps p puts name s (form.Case selector alternatives) may stops is = search (case_statement-keeps, plain_steps)
  act_statement-keeps p puts name s (form.Loop body within) may stops is = search (goes-keeps)
  act_statement-keeps p puts name s (form.While condition body within) may stops is = search (while_turn-keeps, plain_steps)
  act_statement-keeps p puts name s (form.For parameter reverse low high turn within) may stops is = search (for_bounds-keeps, plain_steps)
  act_statement-keeps p puts name s (form.FirstTurn parameter reverse body) may stops is = search (first_turn-keeps, plain_steps)
  act_statement-keeps p puts name s (form.LaterTurn parameter reverse body) may stops is = search (later_turn-keeps, plain_steps)
  act_statement-keeps p puts name s (form.Exit condition of_loop) may stops is = search (exit_statement-keeps, plain_steps)
  act_statement-keeps p puts name s (form.Block scope) may stops is = search (block_statement-keeps)
  act_statement-keeps p puts name s form.Return may stops is = search (return-keeps, plain_steps)
  act_statement-keeps p puts name s (form.ReturnValue function e) may stops is = search (return_value-keeps, plain_steps)
  act_statement-keeps p puts name s (form.Raise e) may stops is = search (raises-keeps, plain_steps)
  act_statement-keeps p puts name s (form.RaiseAgain scope) may stops is = search (raise_again-keeps, plain_steps)
  act_statement-keeps p puts name s (form.Delay e) may stops is = search (sees-keeps, delay_until-keeps, chains)
  act_statement-keeps p puts name s (form.DelayUntil e) may stops is = search (sees-keeps, delay_until-keeps, chains)
  act_statement-keeps p puts name s (form.Call callee actuals to) may stops is = search (call-keeps)
  act_statement-keeps p puts name s (form.PutLine pieces) may stops is = put_line-keeps moves p puts name s pieces is may
  act_statement-keeps p puts name s (form.EntryCall entry owner actuals) may stops is = search (entry_call-keeps)
  act_statement-keeps p puts name s (form.ConditionalCall call otherwise) may stops is = search (entry_call-keeps)
  act_statement-keeps p puts name s (form.TimedCall call delay) may stops is = search (entry_call-keeps)
  act_statement-keeps p puts name s (form.AsynchronousSelect trigger abortable) may stops is = search (asynchronous_select-keeps)
  act_statement-keeps p puts name s (form.Accept entry scope) may stops is = search (accept-keeps)
  act_statement-keeps p puts name s (form.SelectiveAccept alternatives otherwise) may stops is = search (selective_accept-keeps)
  act_statement-keeps p puts name s (form.Abort tasks) may stops is = search (abort_statement-keeps)
  act_statement-keeps p puts name s (form.Requeue entry owner with_abort) may stops is = search (requeue-keeps)
  act_statement-keeps p puts name s (form.SetEvent event set handler) may stops is = search (set_event-keeps)
  act_statement-keeps p puts name s (form.CancelEvent event cancelled) may stops is = search (cancel_event-keeps)
  act_statement-keeps p puts name s (form.SetTimer timer set handler) may stops is = search (set_timer-keeps)
  act_statement-keeps p puts name s (form.CancelTimer timer cancelled) may stops is = search (cancel_timer-keeps)
  act_statement-keeps p puts name s (form.AddTask budget task) may stops is = search (add_member-keeps)
  act_statement-keeps p puts name s (form.RemoveTask budget task) may stops is = search (remove_member-keeps)
  act_statement-keeps p puts name s (form.Replenish budget to) may stops is = search (replenish-keeps)
  act_statement-keeps p puts name s (form.AddToBudget budget interval) may stops is = search (add_to_budget-keeps)
  act_statement-keeps p puts name s (form.SetBudget budget handler) may stops is = search (set_budget-keeps)
  act_statement-keeps p puts name s (form.CancelBudget budget cancelled) may stops is = search (cancel_budget-keeps)
  act_statement-keeps p puts name s (form.SetPriority priority task) may stops is = search (set_priority-keeps)
  act_statement-keeps p puts name s (form.SetQuantum level quantum) may stops is = search (set_quantum-keeps)
  act_statement-keeps p puts name s (form.SetDeadline deadline task) may stops is = search (set_deadline_of-keeps)
  act_statement-keeps p puts name s (form.DelayUntilAndSetDeadline until offset) may stops is = search (delay_and_set_deadline-keeps)
