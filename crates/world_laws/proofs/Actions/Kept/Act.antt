-- The effect of an action: each step leaves worlds good where its parts do.
use Rattle.std.proofs.Common.{◌≡◌, refl, ap, ◌∙◌, false, List, [], ◌∷◌, true}
use Rattle.std.specs.Prelude.{ℕ, Option, Some, None}
use Rattle.ann_base.specs.declared.exceptions.Raised.{Raised}
use Rattle.trace_text.specs.declared.events.Who.{Who}
use Rattle.trace_text.specs.declared.events.Who.TheVariants as who
use Rattle.profile_image.specs.declared.image.Image.{Image}
use Rattle.profile_image.specs.declared.numbers.StatementNo.{StatementNo}
use Rattle.profile_machine.specs.declared.run_data.Leaving.{Leaving}
use Rattle.profile_machine.specs.declared.run_data.Leaving.TheVariants as how
use Rattle.profile_image.specs.declared.statements.Actual.{Actual}
use Rattle.profile_image.specs.declared.statements.Callee.{Callee}
use Rattle.profile_image.specs.declared.statements.Callee.TheVariants as callee
use Rattle.profile_image.specs.declared.statements.Destination.{Destination}
use Rattle.profile_image.specs.declared.statements.StatementForm.{StatementForm}
use Rattle.profile_image.specs.declared.statements.StatementForm.TheVariants as form
use Rattle.profile_machine.specs.declared.world.marks.Frame.{Frame}
use Rattle.profile_machine.specs.declared.world.marks.Mark.{Mark}
use Rattle.profile_machine.specs.declared.world.marks.AbortableMark.{AbortableMark}
use Rattle.profile_machine.specs.declared.world.appointments.Release.{Release}
use Rattle.profile_machine.specs.declared.world.calls.Call.{Call}
use Rattle.profile_machine.specs.declared.world.marks.Mark.TheVariants.{Scope, Handled, InProtected, InAccept, Abortable, InInitialize, InFinalize, InAssign}
use Rattle.profile_machine.specs.declared.world.lines.Part.TheVariants.{Own}
use Rattle.profile_image.specs.Program.{form_of}
use Rattle.profile_machine.specs.Steps.{changes, looks, ◌▷◌, Step, nothing}
use Rattle.profile_machine.specs.Frames.{frames_of, top_of, pop, leaving_of, is_protected}
use Rattle.profile_machine.specs.Calls.{with_call, attempt_with}
use Rattle.profile_machine.specs.Act.{call_main, call, handle_or_pass, behind_handled, end_handled, end_top, wait_for_trigger, drop_trigger, below}
use Rattle.profile_machine.specs.Act.{end_abortable_by, end_in_abortable, act_statement, end_mark, act_frame, act_without, act_top, act, keeping, waiting_mark}
use Rattle.world_laws.proofs.Actions.FineMoves.{FineMoves, chains}
use Rattle.world_laws.proofs.Actions.Sound.{Free, Good}
use Rattle.std.proofs.lemmas.Bool.{false≢true}
use Rattle.profile_machine.specs.declared.world.tasks.State.{State}
use Rattle.profile_machine.specs.declared.world.tasks.State.TheVariants.{Made, Runnable, Blocked}
use Rattle.profile_machine.specs.declared.world.tasks.Task.{Task}
use Rattle.line_laws.proofs.Exits.TaskEdits.{one_of, one_of-is}
use Rattle.world_laws.proofs.Actions.Natures.{nature, natures, guards}
use Rattle.world_tables.specs.Lists.{first_of}
use Rattle.profile_machine.specs.Tasks.{is_runnable_state}
use Rattle.world_laws.proofs.Actions.Kept.Combinators.{changes_then-from}
use Rattle.world_laws.proofs.Actions.Kept.Dispatching.{block-keeps}
use Rattle.world_laws.proofs.Actions.Kept.Frames.{edit_top-alters, goes-keeps, popped, plain_steps}
use Rattle.world_laws.proofs.Actions.Kept.Scopes.{opens-alters}
use Rattle.world_laws.proofs.Actions.Kept.Appointments.{drop_appointment-alters}
use Rattle.world_laws.proofs.Actions.Kept.Statements.{block_statement-keeps, delay_until-keeps, put_line-keeps}
use Rattle.world_laws.proofs.Actions.Kept.Subprograms.{call_subprogram-keeps}
use Rattle.world_laws.proofs.Actions.Kept.Protected.{call_own_operation-keeps, call_operation-from, beside}
use Rattle.world_laws.proofs.Actions.Kept.Priorities.{set_priority-keeps, set_quantum-keeps, set_deadline_of-keeps, delay_and_set_deadline-keeps}
use Rattle.world_laws.proofs.Actions.Kept.Serving.{end_in_protected-from, Stands}
use Rattle.world_laws.proofs.Actions.Kept.Rendezvous.{accept-keeps, selective_accept-keeps, end_in_accept-from}
use Rattle.world_laws.proofs.Actions.Kept.EntryCalls.{requeue-keeps, asynchronous_select-from, entry_call-from}
use Rattle.world_laws.proofs.Actions.Kept.Controlled.{initialize-keeps, assign_controlled-keeps}
use Rattle.world_laws.proofs.Actions.Kept.Controlled.{end_in_initialize-from, end_in_finalize-from, end_in_assign-from}
use Rattle.world_laws.proofs.Actions.Kept.Tasking.{create-keeps, activate-keeps, end_own_activation-keeps, abort_statement-keeps, end_scope_mark-from}
use Rattle.world_laws.proofs.Actions.Kept.Handlers.{set_event-keeps, cancel_event-keeps, set_timer-keeps, cancel_timer-keeps}
use Rattle.world_laws.proofs.Actions.Kept.Handlers.{add_member-keeps, remove_member-keeps, replenish-keeps, add_to_budget-keeps}
use Rattle.world_laws.proofs.Actions.Kept.Handlers.{set_budget-keeps, cancel_budget-keeps, call_handler-from}
use Rattle.profile_machine.specs.declared.world.World.{World}
use Rattle.profile_machine.specs.declared.world.marks.ProtectedMark.{ProtectedMark}
use Rattle.world_laws.proofs.Actions.Kept.CallEnds.{end_found_abortable-keeps, abortable-nature}
use Rattle.profile_machine.specs.CallEnds.{edit_abortable}
use Rattle.world_laws.proofs.Actions.GoodMoves.{Awake, free-floor, good_moves}
use Rattle.ann_base.specs.declared.identities.CallNo.{CallNo}
use Rattle.world_laws.proofs.Actions.Kept.Switching.{Only, only-from}
use Rattle.profile_machine.specs.declared.world.calls.CallKind.TheVariants as call_kind
use Rattle.profile_machine.specs.Values.{condition, moment}
use Rattle.profile_machine.specs.Statements.{relative_moment}
use Rattle.profile_machine.specs.Notation.{task}
use Rattle.world_laws.proofs.Actions.SoundActions.{top_nature}
use Rattle.line_laws.proofs.Exits.Steady.{FreeIn}
use Rattle.line_laws.proofs.Leaving.Modes.{Nobody}
use Rattle.machine_laws.proofs.FineMoves.{GoodWorld, Naming}
use Rattle.machine_laws.proofs.Kept.Combinators.{Alters, From, Keeps, changes-keeps, cond-keeps, keeps-from, looks-keeps}
use Rattle.machine_laws.proofs.Kept.Combinators.{looks_at-from, nothing-keeps, sees-keeps, then-keeps, unchanged-alters}
use Rattle.world_laws.proofs.Behind.{Behind}
use Rattle.machine_laws.proofs.Plain.Frames.{raises-keeps, pass_on-keeps, with_room-keeps}
use Rattle.machine_laws.proofs.Plain.Calls.{with_call-keeps, attempt_with-keeps}
use Rattle.machine_laws.proofs.Plain.Statements.{null-keeps, assign-keeps, assign_array-keeps, if_statement-keeps, case_statement-keeps, while_turn-keeps}
use Rattle.machine_laws.proofs.Plain.Statements.{for_bounds-keeps, first_turn-keeps, later_turn-keeps, exit_statement-keeps, raise_again-keeps}
use Rattle.machine_laws.proofs.Plain.Subprograms.{return_value-keeps, return-keeps}
use Rattle.machine_laws.proofs.Plain.Declarations.{declare-keeps}
use Rattle.machine_laws.proofs.Plain.PlainSteps.{anybody}

-- a mark that keeps an exception is what it was
keeping-nature : (e : Raised) (mark : Mark) → nature (keeping e mark) ≡ nature mark
keeping-nature e (Scope m) = refl
keeping-nature e (Handled s) = refl
keeping-nature e (InProtected m) = refl
keeping-nature e (InAccept m) = refl
keeping-nature e (Abortable m) = refl
keeping-nature e (InInitialize l) = refl
keeping-nature e (InFinalize o) = refl
keeping-nature e (InAssign m) = refl

waiting-nature : (x : Frame) → nature (edit_abortable waiting_mark x.mark) ≡ nature x.mark
waiting-nature x = abortable-nature waiting_mark x.mark

module _ {G : GoodWorld} {F : Naming} (moves : FineMoves G F) where
  pub handle_or_pass-keeps : (p : Image) (name : Who) (e : Raised) (next : Option StatementNo) → Keeps G (Behind G) (handle_or_pass p name e next)
  unfolding handle_or_pass
  handle_or_pass-keeps p name e None = search (pass_on-keeps, plain_steps, anybody)
  handle_or_pass-keeps p name e (Some first) = search (changes-keeps, edit_top-alters, keeping-nature, then-keeps, goes-keeps, chains)

  pub behind_handled-keeps : (p : Image) (name : Who) (s : StatementNo) (leaving : Leaving) → Keeps G (Behind G) (behind_handled p name s leaving)
  unfolding behind_handled
  behind_handled-keeps p name s (how.Exception e) = search (handle_or_pass-keeps)
  behind_handled-keeps p name s how.End = search (nothing-keeps, chains)
  behind_handled-keeps p name s how.Return = search (pass_on-keeps, plain_steps, anybody)
  behind_handled-keeps p name s (how.Exit loop) = search (pass_on-keeps, plain_steps, anybody)
  behind_handled-keeps p name s how.Abort = search (pass_on-keeps, plain_steps, anybody)
  behind_handled-keeps p name s how.Terminate = search (pass_on-keeps, plain_steps, anybody)

  pub end_handled-from : (p : Image) (name : Who) (s : StatementNo) (leaving : Leaving) (f : Frame) (w : World) → G w → top_of w name ≡ Some f
      → is_protected f.mark ≡ false → From (Behind G) w (end_handled p name s leaving)
  unfolding end_handled
  end_handled-from p name s leaving f w good top free =
      let out = popped moves name f w good top free in
      changes_then-from moves (pop name) _ w
      (keeps-from (chains moves) (behind_handled p name s leaving) (pop name w) out (behind_handled-keeps p name s leaving))

  pub end_top-keeps : (p : Image) (name : Who) → Keeps G (Behind G) (end_top p name)
  unfolding end_top
  end_top-keeps p name = end_found_abortable-keeps moves p Own name

  pub wait_for_trigger-keeps : (name : Who) (c : Call) (leaving : Leaving) → F name → Keeps G (Behind G) (wait_for_trigger name c leaving)
  unfolding wait_for_trigger
  wait_for_trigger-keeps name c leaving free = search (changes-keeps, edit_top-alters, waiting-nature, then-keeps, block-keeps, chains)

  pub drop_trigger-alters : (name : Who) (depth : ℕ) → Alters G (Behind G) (drop_trigger name depth)
  drop_trigger-alters (who.Task t) depth = search (drop_appointment-alters)
  drop_trigger-alters who.Agent depth = search (unchanged-alters, chains)

  by_trigger-keeps : (p : Image) (name : Who) (m : AbortableMark) (leaving : Leaving) (call : Option CallNo) → F name
      → Keeps G (Behind G)
      (elim call as (λ _. Step) [
        | None ↦ looks (λ w. changes (drop_trigger name (below (frames_of w name)))) ▷ end_top p name
        | Some c ↦ with_call c (λ d. attempt_with p Own d (end_top p name) (wait_for_trigger name d leaving))
      ])
  by_trigger-keeps p name m leaving None free = search (looks-keeps, changes-keeps, drop_trigger-alters, then-keeps, end_top-keeps, chains)
  by_trigger-keeps p name m leaving (Some c) free =
      with_call-keeps (plain_steps moves) c _
      (λ d. attempt_with-keeps (plain_steps moves) p Own d (end_top p name) (wait_for_trigger name d leaving) (end_top-keeps p name)
      (wait_for_trigger-keeps name d leaving free))

  pub end_abortable_by-keeps : (p : Image) (name : Who) (m : AbortableMark) (leaving : Leaving) → F name
      → Keeps G (Behind G) (end_abortable_by p name m leaving)
  unfolding end_abortable_by
  end_abortable_by-keeps p name m leaving free = by_trigger-keeps p name m leaving m.call free

  pub end_in_abortable-keeps : (p : Image) (name : Who) (m : AbortableMark) (leaving : Leaving) → F name
      → Keeps G (Behind G) (end_in_abortable p name m leaving)
  unfolding end_in_abortable
  end_in_abortable-keeps p name m leaving free = search (cond-keeps, end_top-keeps, end_abortable_by-keeps, chains)

module _ {G : GoodWorld} {F : Naming} (moves : FineMoves G F) where
  pub call_main-keeps : (p : Image) (name : Who) (s : StatementNo) → Keeps G (Behind G) (call_main p name s)
  unfolding call_main
  call_main-keeps p name s = search (with_room-keeps, goes-keeps, then-keeps, looks-keeps, changes-keeps, opens-alters, chains, plain_steps)

-- ---- of who acts, which is ready

call-from : (p : Image) (name : Who) (s : StatementNo) (callee : Callee) (actuals : List Actual) (to : Destination) (w : World) → Good Nobody w → Awake name w
    → From (Behind (Good Nobody)) w (call p name s callee actuals to)
unfolding call
call-from p name s (callee.Subprogram f) actuals to w good awake = keeps-from (chains beside) _ w good (call_subprogram-keeps beside p name s f actuals to)
call-from p name s (callee.Operation d f) actuals to w good awake = call_operation-from p name s d f actuals to w good awake
call-from p name s (callee.OwnOperation f) actuals to w good awake = keeps-from (chains beside) _ w good (call_own_operation-keeps beside p name s f actuals to)

pub act_statement-from : (p : Image) (name : Who) (s : StatementNo) (form : StatementForm) (w : World) → Good Nobody w → Awake name w
    → From (Behind (Good Nobody)) w (act_statement p name s form)
unfolding act_statement
act_statement-from p name s (form.Declare object) w good awake = keeps-from (chains beside) _ w good (declare-keeps (plain_steps beside) p name s object tt)
act_statement-from p name s (form.Initialize object) w good awake = keeps-from (chains beside) _ w good (initialize-keeps beside p name s object)
act_statement-from p name s (form.CreateTask object part) w good awake = keeps-from (chains beside) _ w good (create-keeps p name s object part)
act_statement-from p name s (form.Activate part) w good awake = keeps-from (chains beside) _ w good (activate-keeps p name s part)
act_statement-from p name s form.EndActivation w good awake = keeps-from (chains beside) _ w good (end_own_activation-keeps beside p name s)
act_statement-from p name s form.CallMain w good awake = keeps-from (chains beside) _ w good (call_main-keeps beside p name s)
act_statement-from p name s (form.Handled handlers first) w good awake = keeps-from (chains beside) _ w good (nothing-keeps (chains beside))
act_statement-from p name s form.Null w good awake = keeps-from (chains beside) _ w good (null-keeps (plain_steps beside) p name s tt)
act_statement-from p name s (form.Assign target e) w good awake = keeps-from (chains beside) _ w good (assign-keeps (plain_steps beside) p name s target e tt)
act_statement-from p name s (form.AssignArray target source) w good awake =
    keeps-from (chains beside) _ w good (assign_array-keeps (plain_steps beside) p name s target source tt)
act_statement-from p name s (form.AssignControlled target source) w good awake =
    keeps-from (chains beside) _ w good (assign_controlled-keeps beside p name s target source)
act_statement-from p name s (form.If condition first otherwise) w good awake =
    keeps-from (chains beside) _ w good (if_statement-keeps (plain_steps beside) p name condition first otherwise tt)
act_statement-from p name s (form.Case selector alternatives) w good awake =
    keeps-from (chains beside) _ w good (case_statement-keeps (plain_steps beside) p name selector alternatives tt)
act_statement-from p name s (form.Loop body within) w good awake = keeps-from (chains beside) _ w good (goes-keeps beside name (Some body))
act_statement-from p name s (form.While condition body within) w good awake =
    keeps-from (chains beside) _ w good (while_turn-keeps (plain_steps beside) p name s condition body tt)
act_statement-from p name s (form.For parameter reverse low high turn within) w good awake =
    keeps-from (chains beside) _ w good (for_bounds-keeps (plain_steps beside) p name parameter reverse low high turn tt)
act_statement-from p name s (form.FirstTurn parameter reverse body) w good awake =
    keeps-from (chains beside) _ w good (first_turn-keeps (plain_steps beside) p name s parameter reverse body tt)
act_statement-from p name s (form.LaterTurn parameter reverse body) w good awake =
    keeps-from (chains beside) _ w good (later_turn-keeps (plain_steps beside) p name s parameter reverse body tt)
act_statement-from p name s (form.Exit condition of_loop) w good awake =
    keeps-from (chains beside) _ w good (exit_statement-keeps (plain_steps beside) p name s of_loop condition tt)
act_statement-from p name s (form.Block scope) w good awake = keeps-from (chains beside) _ w good (block_statement-keeps beside p name s scope)
act_statement-from p name s form.Return w good awake = keeps-from (chains beside) _ w good (return-keeps (plain_steps beside) name)
act_statement-from p name s (form.ReturnValue function e) w good awake =
    keeps-from (chains beside) _ w good (return_value-keeps (plain_steps beside) p name function e)
act_statement-from p name s (form.Raise e) w good awake = keeps-from (chains beside) _ w good (raises-keeps (plain_steps beside) Own name e)
act_statement-from p name s (form.RaiseAgain scope) w good awake = keeps-from (chains beside) _ w good (raise_again-keeps (plain_steps beside) p name scope)
act_statement-from p name s (form.Delay e) w good awake =
    keeps-from (chains beside) _ w good (sees-keeps (chains beside) p name _ (λ q. delay_until-keeps p name s (relative_moment q e)))
act_statement-from p name s (form.DelayUntil e) w good awake =
    keeps-from (chains beside) _ w good (sees-keeps (chains beside) p name _ (λ q. delay_until-keeps p name s (moment q e)))
act_statement-from p name s (form.Call callee actuals to) w good awake = call-from p name s callee actuals to w good awake
act_statement-from p name s (form.PutLine pieces) w good awake = keeps-from (chains beside) _ w good (put_line-keeps beside p name s pieces)
act_statement-from p name s (form.EntryCall entry owner actuals) w good awake = entry_call-from p name call_kind.Plain s w good awake
act_statement-from p name s (form.ConditionalCall call otherwise) w good awake = entry_call-from p name call_kind.Conditional s w good awake
act_statement-from p name s (form.TimedCall call delay) w good awake = entry_call-from p name call_kind.Timed s w good awake
act_statement-from p name s (form.AsynchronousSelect trigger abortable) w good awake = asynchronous_select-from p name s trigger w good awake
act_statement-from p name s (form.Accept entry scope) w good awake = keeps-from (chains beside) _ w good (accept-keeps p name s entry)
act_statement-from p name s (form.SelectiveAccept alternatives otherwise) w good awake =
    keeps-from (chains beside) _ w good (selective_accept-keeps p name s alternatives otherwise)
act_statement-from p name s (form.Abort tasks) w good awake = keeps-from (chains beside) _ w good (abort_statement-keeps p name s tasks)
act_statement-from p name s (form.Requeue entry owner with_abort) w good awake =
    keeps-from (chains beside) _ w good (requeue-keeps beside p name entry owner with_abort)
act_statement-from p name s (form.SetEvent event set handler) w good awake =
    keeps-from (chains beside) _ w good (set_event-keeps beside p name s event set handler)
act_statement-from p name s (form.CancelEvent event cancelled) w good awake =
    keeps-from (chains beside) _ w good (cancel_event-keeps beside p name s event cancelled)
act_statement-from p name s (form.SetTimer timer set handler) w good awake =
    keeps-from (chains beside) _ w good (set_timer-keeps beside p name s timer set handler)
act_statement-from p name s (form.CancelTimer timer cancelled) w good awake =
    keeps-from (chains beside) _ w good (cancel_timer-keeps beside p name s timer cancelled)
act_statement-from p name s (form.AddTask budget task) w good awake = keeps-from (chains beside) _ w good (add_member-keeps beside p name s budget task)
act_statement-from p name s (form.RemoveTask budget task) w good awake = keeps-from (chains beside) _ w good (remove_member-keeps beside p name s budget task)
act_statement-from p name s (form.Replenish budget to) w good awake = keeps-from (chains beside) _ w good (replenish-keeps beside p name s budget to)
act_statement-from p name s (form.AddToBudget budget interval) w good awake =
    keeps-from (chains beside) _ w good (add_to_budget-keeps beside p name s budget interval)
act_statement-from p name s (form.SetBudget budget handler) w good awake = keeps-from (chains beside) _ w good (set_budget-keeps beside p name s budget handler)
act_statement-from p name s (form.CancelBudget budget cancelled) w good awake =
    keeps-from (chains beside) _ w good (cancel_budget-keeps beside p name s budget cancelled)
act_statement-from p name s (form.SetPriority priority task) w good awake =
    keeps-from (chains beside) _ w good (set_priority-keeps beside p name s priority task)
act_statement-from p name s (form.SetQuantum level quantum) w good awake = keeps-from (chains beside) _ w good (set_quantum-keeps beside p name s level quantum)
act_statement-from p name s (form.SetDeadline deadline task) w good awake =
    keeps-from (chains beside) _ w good (set_deadline_of-keeps beside p name s deadline task)
act_statement-from p name s (form.DelayUntilAndSetDeadline until offset) w good awake =
    keeps-from (chains beside) _ w good (delay_and_set_deadline-keeps p name s until offset)

-- the end of the mark on top
on_top : (frames : List Frame) (f : Frame) → first_of frames ≡ Some f → top_nature (natures frames) ≡ Some (nature f.mark)
on_top [] f e = absurd cc
on_top (g ∷ gs) f e = let is : g ≡ f = cc in ap (λ (x : Frame). Some (nature x.mark)) is

awake-free_in : (name : Who) (state : State) → is_runnable_state state ≡ true → FreeIn name state
awake-free_in (who.Task n) Runnable e = refl
awake-free_in (who.Task n) Made e = absurd (false≢true e)
awake-free_in (who.Task n) (Blocked waiting) e = absurd (false≢true e)
awake-free_in who.Agent state e = tt

stands : (p : Image) (name : Who) (f : Frame) (m : ProtectedMark) (w : World) → Good Nobody w → Awake name w → top_of w name ≡ Some f → f.mark ≡ InProtected m
    → Stands p name m w
stands p name f m w good awake top is = (
  good,
  (
    ap (λ (t : Task). top_nature (natures t.frames)) (one_of-is w name) ∙ on_top (frames_of w name) f top ∙ ap (λ k. Some (nature k)) is,
    awake-free_in name (one_of w.tasks w.agent name).state awake,
  ),
)

end_mark-from : (p : Image) (name : Who) (f : Frame) (mark : Mark) (w : World) → Good Nobody w → Awake name w → top_of w name ≡ Some f → f.mark ≡ mark
    → From (Behind (Good Nobody)) w (end_mark p name f mark)
unfolding end_mark
end_mark-from p name f (Scope m) w good awake top is = end_scope_mark-from p name m (leaving_of f) f w good top is
end_mark-from p name f (Handled s) w good awake top is = end_handled-from beside p name s (leaving_of f) f w good top (ap is_protected is)
end_mark-from p name f (InProtected m) w good awake top is = end_in_protected-from p name m (leaving_of f) w (stands p name f m w good awake top is)
end_mark-from p name f (InAccept m) w good awake top is = end_in_accept-from p name m (leaving_of f) f w good top (ap is_protected is)
end_mark-from p name f (Abortable m) w good awake top is =
    only-from name _ w (free-floor name f w good.0 top (ap is_protected is) (ap (λ k. (nature k).floor) is)) good
    (end_in_abortable-keeps (good_moves (Only name)) p name m (leaving_of f) refl)
end_mark-from p name f (InInitialize l) w good awake top is = end_in_initialize-from beside p name l (leaving_of f) f w good top (ap is_protected is)
end_mark-from p name f (InFinalize o) w good awake top is = end_in_finalize-from beside p name (leaving_of f) f w good top (ap is_protected is)
end_mark-from p name f (InAssign m) w good awake top is = end_in_assign-from beside p name m f.left_as f w good top (ap is_protected is)

act_frame-from : (p : Image) (name : Who) (f : Frame) (next : Option StatementNo) (w : World) → Good Nobody w → Awake name w → top_of w name ≡ Some f
    → From (Behind (Good Nobody)) w (act_frame p name f next)
unfolding act_frame
act_frame-from p name f (Some s) w good awake top = act_statement-from p name s (form_of p s) w good awake
act_frame-from p name f None w good awake top = end_mark-from p name f f.mark w good awake top refl

-- who has no marks has no action open
no-marks : (name : Who) (w : World) (frames : List Frame) → frames_of w name ≡ frames → first_of frames ≡ None → Free name w
no-marks name w [] is e = ap (λ (t : Task). guards (natures t.frames)) (one_of-is w name) ∙ ap (λ fs. guards (natures fs)) is
no-marks name w (f ∷ fs) is e = absurd cc

act_without-from : (p : Image) (name : Who) (release : Option Release) (w : World) → Good Nobody w → Awake name w → Free name w
    → From (Behind (Good Nobody)) w (act_without p name release)
unfolding act_without
act_without-from p name None w good awake free = keeps-from (chains beside) nothing w good (nothing-keeps (chains beside))
act_without-from p who.Agent (Some r) w good awake free = call_handler-from p r w good awake free
act_without-from p (who.Task t) (Some r) w good awake free = keeps-from (chains beside) nothing w good (nothing-keeps (chains beside))

act_top-from : (p : Image) (name : Who) (found : Option Frame) (w : World) → Good Nobody w → Awake name w → top_of w name ≡ found
    → From (Behind (Good Nobody)) w (act_top p name found)
unfolding act_top
act_top-from p name None w good awake is =
    looks_at-from (chains beside) (λ v. act_without p name v.serving) w
    (act_without-from p name w.serving w good awake (no-marks name w (frames_of w name) refl is))
act_top-from p name (Some f) w good awake is = act_frame-from p name f f.onward w good awake is

pub act-from : (p : Image) (name : Who) (w : World) → Good Nobody w → Awake name w → From (Behind (Good Nobody)) w (act p name)
unfolding act
act-from p name w good awake = looks_at-from (chains beside) (λ v. act_top p name (top_of v name)) w (act_top-from p name (top_of w name) w good awake refl)
