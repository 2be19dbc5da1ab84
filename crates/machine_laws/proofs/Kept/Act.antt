-- The effect of an action: each step keeps a relation that its parts keep.
use Rattle.std.proofs.lemmas.Bool.{false≢true}
use Rattle.profile_machine.specs.Appointments.{is_trigger_of}
use Rattle.std.proofs.Common.{◌≡◌, refl, ap, false, Bool, true}
use Rattle.std.specs.Prelude.{ℕ, List, Option, Some, None}
use Rattle.ann_base.specs.declared.exceptions.Raised.{Raised}
use Rattle.trace_text.specs.declared.events.Who.{Who}
use Rattle.trace_text.specs.declared.events.Who.TheVariants as who
use Rattle.profile_image.specs.declared.image.Image.{Image}
use Rattle.profile_image.specs.declared.numbers.StatementNo.{StatementNo}
use Rattle.profile_machine.specs.declared.run_data.Leaving.{Leaving}
use Rattle.profile_machine.specs.declared.run_data.Leaving.TheVariants as how
use Rattle.profile_image.specs.declared.statements.Actual.{Actual}
use Rattle.profile_image.specs.declared.statements.Callee.{Callee}
use Rattle.profile_image.specs.declared.statements.Callee.TheVariants as callee
use Rattle.profile_image.specs.declared.statements.Destination.{Destination}
use Rattle.profile_image.specs.declared.statements.StatementForm.{StatementForm}
use Rattle.profile_image.specs.declared.statements.StatementForm.TheVariants as form
use Rattle.profile_machine.specs.declared.world.marks.Frame.{Frame}
use Rattle.profile_machine.specs.declared.world.marks.Mark.{Mark}
use Rattle.profile_machine.specs.declared.world.marks.AbortableMark.{AbortableMark}
use Rattle.profile_machine.specs.declared.world.appointments.Release.{Release}
use Rattle.profile_machine.specs.declared.world.calls.Call.{Call}
use Rattle.profile_machine.specs.declared.world.marks.Mark.TheVariants.{Scope, Handled, InProtected, InAccept, Abortable, InInitialize, InFinalize, InAssign}
use Rattle.profile_machine.specs.declared.world.lines.Part.TheVariants.{Own}
use Rattle.profile_image.specs.Program.{form_of}
use Rattle.profile_machine.specs.Steps.{changes, looks, ◌▷◌}
use Rattle.profile_machine.specs.Frames.{frames_of, top_of, pop, leaving_of, is_protected}
use Rattle.profile_machine.specs.Calls.{with_call, attempt_with}
use Rattle.profile_machine.specs.Tasking.{leave_region}
use Rattle.profile_machine.specs.Act.{call_main, call, handle_or_pass, behind_handled, end_handled, end_top, wait_for_trigger, drop_trigger, below}
use Rattle.profile_machine.specs.Act.{end_abortable_by, end_in_abortable, act_statement, end_mark, act_frame, act_without, act_top, act, keeping, waiting_mark}
use Rattle.machine_laws.proofs.Moves.{StepRelation, MoveRelation, Puts}
use Rattle.machine_laws.proofs.FineMoves.{GoodWorld, Naming, is_abortable}
use Rattle.machine_laws.proofs.FinestMoves.{FinestMoves, MarkOpenings, OwnRegions, SettingMoves, AllMoves, Holding, Anyhow, nature, chains}
use Rattle.profile_machine.specs.Tasks.{edit_task, with_ticks}
use Rattle.machine_laws.proofs.Kept.Dispatching.{block-keeps}
use Rattle.machine_laws.proofs.Kept.Frames.{edit_top-alters, goes-keeps, popped, plain_steps}
use Rattle.machine_laws.proofs.Kept.Scopes.{open_scope-alters}
use Rattle.machine_laws.proofs.Kept.Appointments.{drop_appointment-alters}
use Rattle.machine_laws.proofs.Kept.Statements.{block_statement-keeps, delay_until-keeps, put_line-keeps}
use Rattle.machine_laws.proofs.Kept.Subprograms.{call_subprogram-keeps}
use Rattle.machine_laws.proofs.Kept.Protected.{call_operation-keeps, call_own_operation-keeps}
use Rattle.machine_laws.proofs.Kept.Priorities.{set_priority-keeps, set_quantum-keeps, set_deadline_of-keeps, delay_and_set_deadline-keeps}
use Rattle.machine_laws.proofs.Kept.Serving.{end_in_protected-from, ending, Stays}
use Rattle.machine_laws.proofs.Kept.Rendezvous.{accept-keeps, selective_accept-keeps, end_in_accept-from}
use Rattle.machine_laws.proofs.Kept.EntryCalls.{entry_call-keeps, asynchronous_select-keeps, requeue-keeps}
use Rattle.machine_laws.proofs.Kept.Controlled.{initialize-keeps, assign_controlled-keeps, end_in_initialize-from, end_in_finalize-from, end_in_assign-from}
use Rattle.machine_laws.proofs.Kept.Tasking.{create-keeps, activate-keeps, end_own_activation-keeps}
use Rattle.machine_laws.proofs.Kept.Tasking.{abort_statement-keeps, end_scope_mark-from, own_region-from}
use Rattle.machine_laws.proofs.Kept.Handlers.{call_handler-keeps, set_event-keeps, cancel_event-keeps, set_timer-keeps}
use Rattle.machine_laws.proofs.Kept.Handlers.{cancel_timer-keeps, add_member-keeps, remove_member-keeps, replenish-keeps}
use Rattle.machine_laws.proofs.Kept.Handlers.{add_to_budget-keeps, set_budget-keeps, cancel_budget-keeps, Releasing, releasing}
use Rattle.ann_base.specs.declared.identities.RegionNo.{RegionNo}
use Rattle.profile_machine.specs.declared.world.World.{World}
use Rattle.profile_machine.specs.declared.world.marks.ProtectedMark.{ProtectedMark}
use Rattle.profile_machine.specs.declared.world.marks.ScopeMark.{ScopeMark}
use Rattle.profile_machine.specs.Serving.{end_in_protected}
use Rattle.machine_laws.proofs.Kept.CallEnds.{end_found_abortable-keeps, abortable-nature}
use Rattle.profile_machine.specs.CallEnds.{edit_abortable}
use Rattle.machine_laws.proofs.Kept.Combinators.{Alters, From, Keeps, changes-keeps, changes_then-from, cond-keeps, keeps-from, looks-keeps}
use Rattle.machine_laws.proofs.Kept.Combinators.{looks_at-from, nothing-keeps, option-keeps, sees-keeps, then-keeps, unchanged-alters}
use Rattle.machine_laws.proofs.Plain.Frames.{raises-keeps, pass_on-keeps, with_room-keeps}
use Rattle.machine_laws.proofs.Plain.Calls.{with_call-keeps, attempt_with-keeps}
use Rattle.machine_laws.proofs.Plain.Statements.{null-keeps, assign-keeps, assign_array-keeps, if_statement-keeps, case_statement-keeps, while_turn-keeps}
use Rattle.machine_laws.proofs.Plain.Statements.{for_bounds-keeps, first_turn-keeps, later_turn-keeps, exit_statement-keeps, raise_again-keeps}
use Rattle.machine_laws.proofs.Plain.Subprograms.{return_value-keeps, return-keeps}
use Rattle.machine_laws.proofs.Plain.Declarations.{declare-keeps}
use Rattle.machine_laws.proofs.Plain.PlainSteps.{anybody}

-- a mark that keeps an exception is what it was
keeping-nature : (e : Raised) (mark : Mark) → nature (keeping e mark) ≡ nature mark
keeping-nature e (Scope m) = refl
keeping-nature e (Handled s) = refl
keeping-nature e (InProtected m) = refl
keeping-nature e (InAccept m) = refl
keeping-nature e (Abortable m) = refl
keeping-nature e (InInitialize l) = refl
keeping-nature e (InFinalize o) = refl
keeping-nature e (InAssign m) = refl

waiting-nature : (x : Frame) → nature (edit_abortable waiting_mark x.mark) ≡ nature x.mark
waiting-nature x = abortable-nature waiting_mark x.mark

-- a statement that asks nothing of an event, a timer or a budget's handler
abbrev pub asks_nothing : StatementForm → Bool
asks_nothing (form.SetEvent event set handler) = false
asks_nothing (form.CancelEvent event cancelled) = false
asks_nothing (form.SetTimer timer set handler) = false
asks_nothing (form.CancelTimer timer cancelled) = false
asks_nothing (form.SetBudget budget handler) = false
asks_nothing (form.CancelBudget budget cancelled) = false
asks_nothing _ = true

module _ {G : GoodWorld} {May Other : Naming} {R : StepRelation} {Q : MoveRelation} (moves : FinestMoves G May Other R Q) where
  pub handle_or_pass-keeps : (p : Image) (name : Who) (e : Raised) (next : Option StatementNo) → Keeps G R (handle_or_pass p name e next)
  unfolding handle_or_pass
  handle_or_pass-keeps p name e None = search (pass_on-keeps, plain_steps, anybody)
  handle_or_pass-keeps p name e (Some first) = search (changes-keeps, edit_top-alters, keeping-nature, then-keeps, goes-keeps, chains)

  pub behind_handled-keeps : (p : Image) (name : Who) (s : StatementNo) (leaving : Leaving) → Keeps G R (behind_handled p name s leaving)
  unfolding behind_handled
  behind_handled-keeps p name s (how.Exception e) = search (handle_or_pass-keeps)
  behind_handled-keeps p name s how.End = search (nothing-keeps, chains)
  behind_handled-keeps p name s how.Return = search (pass_on-keeps, plain_steps, anybody)
  behind_handled-keeps p name s (how.Exit loop) = search (pass_on-keeps, plain_steps, anybody)
  behind_handled-keeps p name s how.Abort = search (pass_on-keeps, plain_steps, anybody)
  behind_handled-keeps p name s how.Terminate = search (pass_on-keeps, plain_steps, anybody)

  pub end_handled-from : (p : Image) (name : Who) (s : StatementNo) (leaving : Leaving) (f : Frame) (w : World) → G w → May name → top_of w name ≡ Some f
      → is_protected f.mark ≡ false → From R w (end_handled p name s leaving)
  unfolding end_handled
  end_handled-from p name s leaving f w good may top free =
      let out = popped moves name f w good may top free in
      changes_then-from (chains moves) (pop name) _ w out
      (keeps-from (chains moves) (behind_handled p name s leaving) (pop name w) (moves.behind w (pop name w) out) (behind_handled-keeps p name s leaving))

  pub end_top-keeps : (p : Image) (name : Who) → May name → Keeps G R (end_top p name)
  unfolding end_top
  end_top-keeps p name may = end_found_abortable-keeps moves p Own name may

  pub wait_for_trigger-keeps : (name : Who) (c : Call) (leaving : Leaving) → Other name → Keeps G R (wait_for_trigger name c leaving)
  unfolding wait_for_trigger
  wait_for_trigger-keeps name c leaving other = search (changes-keeps, edit_top-alters, waiting-nature, then-keeps, block-keeps, chains)

  pub drop_trigger-alters : (name : Who) (depth : ℕ) → Alters G R (drop_trigger name depth)
  drop_trigger-alters (who.Task t) depth = drop_appointment-alters moves (is_trigger_of t depth) (λ n h. refl)
  drop_trigger-alters who.Agent depth = search (unchanged-alters, chains)

  pub end_abortable_by-keeps : (p : Image) (name : Who) (m : AbortableMark) (leaving : Leaving) → Other name → Keeps G R (end_abortable_by p name m leaving)
  unfolding end_abortable_by
  end_abortable_by-keeps p name m leaving other =
      option-keeps (chains moves) m.call (looks (λ w. changes (drop_trigger name (below (frames_of w name)))) ▷ end_top p name)
      (λ c. with_call c (λ d. attempt_with p Own d (end_top p name) (wait_for_trigger name d leaving)))
      (search (looks-keeps, changes-keeps, drop_trigger-alters, then-keeps, end_top-keeps, moves.other_may, chains))
      (λ c. search (with_call-keeps, attempt_with-keeps, end_top-keeps, wait_for_trigger-keeps, moves.other_may, plain_steps))

  pub end_in_abortable-keeps : (p : Image) (name : Who) (m : AbortableMark) (leaving : Leaving) → Other name → Keeps G R (end_in_abortable p name m leaving)
  unfolding end_in_abortable
  end_in_abortable-keeps p name m leaving other = search (cond-keeps, end_top-keeps, end_abortable_by-keeps, moves.other_may, chains)

module _ {G : GoodWorld} {May Other : Naming} {R : StepRelation} {Q : MoveRelation} (moves : FinestMoves G May Other R Q)
    (openings : MarkOpenings G May Other R) where
  pub call_main-keeps : (p : Image) (name : Who) (s : StatementNo) → May name → Keeps G R (call_main p name s)
  unfolding call_main
  call_main-keeps p name s may = search (with_room-keeps, goes-keeps, then-keeps, looks-keeps, changes-keeps, open_scope-alters, chains, plain_steps)

  pub call-keeps : (p : Image) (name : Who) (s : StatementNo) (callee : Callee) (actuals : List Actual) (to : Destination) → May name
      → Keeps G R (call p name s callee actuals to)
  unfolding call
  call-keeps p name s (callee.Subprogram f) actuals to may = search (call_subprogram-keeps)
  call-keeps p name s (callee.Operation d f) actuals to may = search (call_operation-keeps)
  call-keeps p name s (callee.OwnOperation f) actuals to may = search (call_own_operation-keeps)

  -- the end of the mark on top, but that a kept scope is left, and that a protected action ends, which are given
  pub end_mark-from : (p : Image) (name : Who) (f : Frame) (mark : Mark) (w : World) → G w → May name → top_of w name ≡ Some f → f.mark ≡ mark
      → ((m : ScopeMark) (r : RegionNo) → mark ≡ Scope m → m.region ≡ Some r → m.being_left ≡ false → From R w (leave_region p name m (leaving_of f) r))
      → ((m : ProtectedMark) → mark ≡ InProtected m → From R w (end_in_protected p name m (leaving_of f))) → From R w (end_mark p name f mark)
  unfolding end_mark
  end_mark-from p name f (Scope m) w good may top is leaves action =
      end_scope_mark-from moves openings p name m (leaving_of f) f w good may top is (λ r region left. leaves m r refl region left)
  end_mark-from p name f (Handled s) w good may top is leaves action = end_handled-from moves p name s (leaving_of f) f w good may top (ap is_protected is)
  end_mark-from p name f (InProtected m) w good may top is leaves action = action m refl
  end_mark-from p name f (InAccept m) w good may top is leaves action = end_in_accept-from moves p name m (leaving_of f) f w good may top (ap is_protected is)
  end_mark-from p name f (Abortable m) w good may top is leaves action =
      keeps-from (chains moves) _ w good
      (end_in_abortable-keeps moves p name m (leaving_of f) (openings.within_part name f w good may top (ap is_abortable is)))
  end_mark-from p name f (InInitialize l) w good may top is leaves action =
      end_in_initialize-from moves p name l (leaving_of f) f w good may top (ap is_protected is)
  end_mark-from p name f (InFinalize o) w good may top is leaves action = end_in_finalize-from moves p name (leaving_of f) f w good may top (ap is_protected is)
  end_mark-from p name f (InAssign m) w good may top is leaves action =
      end_in_assign-from moves openings p name m f.left_as f w good may top (ap is_protected is)

module _ {G : GoodWorld} {May Other : Naming} {R : StepRelation} {Q : MoveRelation} (moves : FinestMoves G May Other R Q)
    (openings : MarkOpenings G May Other R) where
  pub calm_statement-keeps : (p : Image) → Puts G R p → (name : Who) (s : StatementNo) (form : StatementForm) → May name → form_of p s ≡ form
      → asks_nothing form ≡ true → Keeps G R (act_statement p name s form)
  unfolding act_statement
  calm_statement-keeps p puts name s (form.Declare object) may is calm = search (declare-keeps, plain_steps, anybody)
  calm_statement-keeps p puts name s (form.Initialize object) may is calm = search (initialize-keeps)
  calm_statement-keeps p puts name s (form.CreateTask object part) may is calm = search (create-keeps)
  calm_statement-keeps p puts name s (form.Activate part) may is calm = search (activate-keeps)
  calm_statement-keeps p puts name s form.EndActivation may is calm = search (end_own_activation-keeps)
  calm_statement-keeps p puts name s form.CallMain may is calm = search (call_main-keeps)
  calm_statement-keeps p puts name s (form.Handled handlers first) may is calm = search (nothing-keeps, chains)
  calm_statement-keeps p puts name s form.Null may is calm = search (null-keeps, plain_steps, anybody)
  calm_statement-keeps p puts name s (form.Assign target e) may is calm = search (assign-keeps, plain_steps, anybody)
  calm_statement-keeps p puts name s (form.AssignArray target source) may is calm = search (assign_array-keeps, plain_steps, anybody)
  calm_statement-keeps p puts name s (form.AssignControlled target source) may is calm = search (assign_controlled-keeps)
  calm_statement-keeps p puts name s (form.If condition first otherwise) may is calm = search (if_statement-keeps, plain_steps, anybody)
  calm_statement-keeps p puts name s (form.Case selector alternatives) may is calm = search (case_statement-keeps, plain_steps, anybody)
  calm_statement-keeps p puts name s (form.Loop body within) may is calm = search (goes-keeps)
  calm_statement-keeps p puts name s (form.While condition body within) may is calm = search (while_turn-keeps, plain_steps, anybody)
  calm_statement-keeps p puts name s (form.For parameter reverse low high turn within) may is calm = search (for_bounds-keeps, plain_steps, anybody)
  calm_statement-keeps p puts name s (form.FirstTurn parameter reverse body) may is calm = search (first_turn-keeps, plain_steps, anybody)
  calm_statement-keeps p puts name s (form.LaterTurn parameter reverse body) may is calm = search (later_turn-keeps, plain_steps, anybody)
  calm_statement-keeps p puts name s (form.Exit condition of_loop) may is calm = search (exit_statement-keeps, plain_steps, anybody)
  calm_statement-keeps p puts name s (form.Block scope) may is calm = search (block_statement-keeps)
  calm_statement-keeps p puts name s form.Return may is calm = search (return-keeps, plain_steps)
  calm_statement-keeps p puts name s (form.ReturnValue function e) may is calm = search (return_value-keeps, plain_steps)
  calm_statement-keeps p puts name s (form.Raise e) may is calm = search (raises-keeps, plain_steps)
  calm_statement-keeps p puts name s (form.RaiseAgain scope) may is calm = search (raise_again-keeps, plain_steps)
  calm_statement-keeps p puts name s (form.Delay e) may is calm = search (sees-keeps, delay_until-keeps, chains)
  calm_statement-keeps p puts name s (form.DelayUntil e) may is calm = search (sees-keeps, delay_until-keeps, chains)
  calm_statement-keeps p puts name s (form.Call callee actuals to) may is calm = search (call-keeps)
  calm_statement-keeps p puts name s (form.PutLine pieces) may is calm = put_line-keeps moves p puts name s pieces is
  calm_statement-keeps p puts name s (form.EntryCall entry owner actuals) may is calm = search (entry_call-keeps)
  calm_statement-keeps p puts name s (form.ConditionalCall call otherwise) may is calm = search (entry_call-keeps)
  calm_statement-keeps p puts name s (form.TimedCall call delay) may is calm = search (entry_call-keeps)
  calm_statement-keeps p puts name s (form.AsynchronousSelect trigger abortable) may is calm = search (asynchronous_select-keeps)
  calm_statement-keeps p puts name s (form.Accept entry scope) may is calm = search (accept-keeps)
  calm_statement-keeps p puts name s (form.SelectiveAccept alternatives otherwise) may is calm = search (selective_accept-keeps)
  calm_statement-keeps p puts name s (form.Abort tasks) may is calm = search (abort_statement-keeps)
  calm_statement-keeps p puts name s (form.Requeue entry owner with_abort) may is calm = search (requeue-keeps)
  calm_statement-keeps p puts name s (form.SetEvent event set handler) may is calm = absurd (false≢true calm)
  calm_statement-keeps p puts name s (form.CancelEvent event cancelled) may is calm = absurd (false≢true calm)
  calm_statement-keeps p puts name s (form.SetTimer timer set handler) may is calm = absurd (false≢true calm)
  calm_statement-keeps p puts name s (form.CancelTimer timer cancelled) may is calm = absurd (false≢true calm)
  calm_statement-keeps p puts name s (form.AddTask budget task) may is calm = search (add_member-keeps)
  calm_statement-keeps p puts name s (form.RemoveTask budget task) may is calm = search (remove_member-keeps)
  calm_statement-keeps p puts name s (form.Replenish budget to) may is calm = search (replenish-keeps)
  calm_statement-keeps p puts name s (form.AddToBudget budget interval) may is calm = search (add_to_budget-keeps)
  calm_statement-keeps p puts name s (form.SetBudget budget handler) may is calm = absurd (false≢true calm)
  calm_statement-keeps p puts name s (form.CancelBudget budget cancelled) may is calm = absurd (false≢true calm)
  calm_statement-keeps p puts name s (form.SetPriority priority task) may is calm = search (set_priority-keeps)
  calm_statement-keeps p puts name s (form.SetQuantum level quantum) may is calm = search (set_quantum-keeps)
  calm_statement-keeps p puts name s (form.SetDeadline deadline task) may is calm = search (set_deadline_of-keeps)
  calm_statement-keeps p puts name s (form.DelayUntilAndSetDeadline until offset) may is calm = search (delay_and_set_deadline-keeps)

module _ {G : GoodWorld} {May Other : Naming} {R : StepRelation} {Q : MoveRelation} (moves : FinestMoves G May Other R Q)
    (openings : MarkOpenings G May Other R) (settings : SettingMoves G R) (releasing : Releasing G R) where
  pub act_statement-keeps : (p : Image) → Puts G R p → (name : Who) (s : StatementNo) (form : StatementForm) → May name → form_of p s ≡ form
      → Keeps G R (act_statement p name s form)
  unfolding act_statement
  act_statement-keeps p puts name s (form.SetEvent event set handler) may is = search (set_event-keeps)
  act_statement-keeps p puts name s (form.CancelEvent event cancelled) may is = search (cancel_event-keeps)
  act_statement-keeps p puts name s (form.SetTimer timer set handler) may is = search (set_timer-keeps)
  act_statement-keeps p puts name s (form.CancelTimer timer cancelled) may is = search (cancel_timer-keeps)
  act_statement-keeps p puts name s (form.SetBudget budget handler) may is = search (set_budget-keeps)
  act_statement-keeps p puts name s (form.CancelBudget budget cancelled) may is = search (cancel_budget-keeps)
  act_statement-keeps p puts name s form may is = calm_statement-keeps moves openings p puts name s form may is refl

module _ {G : GoodWorld} {May Other : Naming} {Owns : Who → RegionNo → Type 0} {R : StepRelation} {Q : MoveRelation} (moves : FinestMoves G May Other R Q)
    (openings : MarkOpenings G May Other R) (regions : OwnRegions G May Other Owns) where
  pub act_frame-from : (p : Image) (name : Who) (f : Frame) (next : Option StatementNo) (w : World) → G w → May name → top_of w name ≡ Some f
      → ((s : StatementNo) → next ≡ Some s → From R w (act_statement p name s (form_of p s)))
      → ((m : ProtectedMark) → f.mark ≡ InProtected m → From R w (end_in_protected p name m (leaving_of f))) → From R w (act_frame p name f next)
  unfolding act_frame
  act_frame-from p name f (Some s) w good may top statement action = statement s refl
  act_frame-from p name f None w good may top statement action =
      end_mark-from moves openings p name f f.mark w good may top refl
      (λ m r is region left. own_region-from moves openings regions p name f m (leaving_of f) r w good may top is region left) action

  act_top-from : (p : Image) (name : Who) (found : Option Frame) (w : World) → G w → May name → top_of w name ≡ found → From R w (act_without p name w.serving)
      → ((f : Frame) (s : StatementNo) → top_of w name ≡ Some f → f.onward ≡ Some s → From R w (act_statement p name s (form_of p s)))
      → ((f : Frame) (m : ProtectedMark) → top_of w name ≡ Some f → f.mark ≡ InProtected m → From R w (end_in_protected p name m (leaving_of f)))
      → From R w (act_top p name found)
  unfolding act_top
  act_top-from p name None w good may is without statement action = looks_at-from (chains moves) (λ v. act_without p name v.serving) w without
  act_top-from p name (Some f) w good may is without statement action =
      act_frame-from p name f f.onward w good may is (λ s onward. statement f s is onward) (λ m k. action f m is k)

  -- an action, but for a statement that is done, the end of a protected action, and who has no rest
  pub act-from : (p : Image) (name : Who) (w : World) → G w → May name → From R w (act_without p name w.serving)
      → ((f : Frame) (s : StatementNo) → top_of w name ≡ Some f → f.onward ≡ Some s → From R w (act_statement p name s (form_of p s)))
      → ((f : Frame) (m : ProtectedMark) → top_of w name ≡ Some f → f.mark ≡ InProtected m → From R w (end_in_protected p name m (leaving_of f)))
      → From R w (act p name)
  unfolding act
  act-from p name w good may without statement action =
      looks_at-from (chains moves) (λ v. act_top p name (top_of v name)) w (act_top-from p name (top_of w name) w good may refl without statement action)

-- ---- where anybody may be changed

-- ---- where anybody may be changed: who acts, and has a protected action on top, is known to have it

-- of who acts, what is known where its action ends
abbrev pub Acting : Type 1
Acting = Who → World → Type 0

pub record Acts (Act : Acting) (Holds : Holding) : Type 0 where
  pub holds : (name : Who) (f : Frame) (m : ProtectedMark) (w : World) → Act name w → top_of w name ≡ Some f → f.mark ≡ InProtected m → Holds name m.object w
  pub without_ticks : (name : Who) (w : World) → Act name w → Act name (edit_task name (with_ticks None) w)

abbrev pub Anyone : Acting
Anyone name w = Unit {0}

pub acts_anyhow : Acts Anyone Anyhow
acts_anyhow = record { holds = λ name f m w a top is. tt; without_ticks = λ name w a. tt }

module _ {G : GoodWorld} {Act : Acting} {Holds : Holding} {R : StepRelation} {Q : MoveRelation} (moves : AllMoves G Holds R Q) (stays : Stays Holds)
    (acts : Acts Act Holds) where
  act_without-keeps : (p : Image) (name : Who) (release : Option Release) → Keeps G R (act_without p name release)
  unfolding act_without
  act_without-keeps p name None = nothing-keeps (chains moves.fine)
  act_without-keeps p who.Agent (Some r) = call_handler-keeps moves.fine moves.openings moves.handlers p r
  act_without-keeps p (who.Task t) (Some r) = nothing-keeps (chains moves.fine)

  pub any_act-from : (p : Image) → Puts G R p → (name : Who) (w : World) → G w → Act name w → From R w (act p name)
  any_act-from p puts name w good acting =
      act-from moves.fine moves.openings moves.regions p name w good tt
      (keeps-from (chains moves.fine) _ w good (act_without-keeps p name w.serving))
      (λ f s top is. keeps-from (chains moves.fine) _ w good
      (act_statement-keeps moves.fine moves.openings moves.settings (releasing moves) p puts name s (form_of p s) tt refl))
      (λ f m top is. end_in_protected-from moves.fine moves.openings moves.ends (ending moves.fine moves.handlers) stays p name m (leaving_of f) tt tt w good
      (acts.holds name f m w acting top is))
