-- The effect of an action: each step keeps a relation that its parts keep.
use Rattle.profile_machine.specs.declared.world.calls.CallKind.TheVariants as call_kind
use Rattle.profile_machine.specs.Dispatching.{block}
use Rattle.profile_machine.specs.WellFormed.{begins_sequence}
use Rattle.profile_machine.specs.declared.world.tasks.Waiting.TheVariants as waits_for
use Rattle.std.proofs.Common.{◌≡◌, refl, ap, false, option_and_then, ◌∙◌, inl}
use Rattle.std.specs.Prelude.{ℕ, List, Option, Some, None}
use Rattle.ann_base.specs.declared.exceptions.Raised.{Raised}
use Rattle.trace_text.specs.declared.events.Who.{Who}
use Rattle.trace_text.specs.declared.events.Who.TheVariants as who
use Rattle.profile_image.specs.declared.image.Image.{Image}
use Rattle.profile_image.specs.declared.numbers.StatementNo.{StatementNo}
use Rattle.profile_machine.specs.declared.run_data.Leaving.{Leaving}
use Rattle.profile_machine.specs.declared.run_data.Leaving.TheVariants as how
use Rattle.profile_image.specs.declared.statements.Actual.{Actual}
use Rattle.profile_image.specs.declared.statements.Callee.{Callee}
use Rattle.profile_image.specs.declared.statements.Callee.TheVariants as callee
use Rattle.profile_image.specs.declared.statements.Destination.{Destination}
use Rattle.profile_image.specs.declared.statements.StatementForm.{StatementForm}
use Rattle.profile_image.specs.declared.statements.StatementForm.TheVariants as form
use Rattle.profile_machine.specs.declared.world.marks.Frame.{Frame}
use Rattle.profile_machine.specs.declared.world.marks.Mark.{Mark}
use Rattle.profile_machine.specs.declared.world.marks.AbortableMark.{AbortableMark}
use Rattle.profile_machine.specs.declared.world.calls.Call.{Call}
use Rattle.profile_machine.specs.declared.world.marks.Mark.TheVariants.{Scope, Handled, InProtected, InAccept, Abortable, InInitialize, InFinalize, InAssign}
use Rattle.profile_machine.specs.declared.world.lines.Part.TheVariants.{Own, TheBlock}
use Rattle.profile_image.specs.Program.{form_of}
use Rattle.profile_machine.specs.Steps.{changes, looks, ◌▷◌}
use Rattle.profile_machine.specs.Frames.{frames_of, top_of, pop, leaving_of, is_protected, onward_of, with_mark, goes, edit_top}
use Rattle.profile_machine.specs.Calls.{with_call, attempt_with}
use Rattle.profile_machine.specs.Act.{call_main, call, handle_or_pass, behind_handled, end_handled, end_top, wait_for_trigger, drop_trigger}
use Rattle.profile_machine.specs.Act.{below, end_abortable_by, end_in_abortable, act_statement, end_mark, act_frame, keeping, waiting_mark}
use Rattle.machine_laws.proofs.FineMoves.{GoodWorld, Naming, nature, is_abortable}
use Rattle.world_laws.proofs.Sequences.FineMoves.{FineMoves, Openings, Loosens, Again, Departing, chains}
use Rattle.world_laws.proofs.Behind.{Behind, wide-from}
use Rattle.world_laws.proofs.Sequences.Kept.Dispatching.{block-keeps}
use Rattle.world_laws.proofs.Sequences.Kept.Frames.{edit_top-alters, goes-keeps, popped, edit_mark-alters, plain_steps}
use Rattle.world_laws.proofs.Sequences.Kept.Scopes.{open_scope-alters}
use Rattle.world_laws.proofs.Sequences.Kept.Appointments.{drop_appointment-alters}
use Rattle.world_laws.proofs.Sequences.Kept.Statements.{block_statement-keeps, delay_until-keeps, put_line-keeps}
use Rattle.world_laws.proofs.Sequences.Kept.Subprograms.{call_subprogram-keeps}
use Rattle.world_laws.proofs.Sequences.Kept.Protected.{call_operation-keeps, call_own_operation-keeps}
use Rattle.world_laws.proofs.Sequences.Kept.Priorities.{set_priority-keeps, set_quantum-keeps, set_deadline_of-keeps, delay_and_set_deadline-keeps}
use Rattle.world_laws.proofs.Sequences.Kept.Rendezvous.{accept-keeps, selective_accept-keeps, end_in_accept-from}
use Rattle.world_laws.proofs.Sequences.Kept.EntryCalls.{entry_call-keeps, asynchronous_select-keeps, requeue-keeps}
use Rattle.world_laws.proofs.Sequences.Kept.Controlled.{initialize-keeps, assign_controlled-keeps}
use Rattle.world_laws.proofs.Sequences.Kept.Controlled.{end_in_initialize-from, end_in_finalize-from, end_in_assign-from}
use Rattle.world_laws.proofs.Sequences.Kept.Tasking.{create-keeps, activate-keeps, end_own_activation-keeps, abort_statement-keeps, end_scope_mark-from}
use Rattle.world_laws.proofs.Sequences.Kept.Handlers.{set_event-keeps, cancel_event-keeps, set_timer-keeps, cancel_timer-keeps, add_member-keeps}
use Rattle.world_laws.proofs.Sequences.Kept.Handlers.{remove_member-keeps, replenish-keeps, add_to_budget-keeps, set_budget-keeps, cancel_budget-keeps}
use Rattle.profile_machine.specs.declared.world.World.{World}
use Rattle.profile_machine.specs.declared.world.marks.ProtectedMark.{ProtectedMark}
use Rattle.profile_machine.specs.Serving.{end_in_protected}
use Rattle.world_laws.proofs.Sequences.Kept.CallEnds.{end_found_abortable-keeps, abortable-nature}
use Rattle.profile_machine.specs.CallEnds.{edit_abortable}
use Rattle.machine_laws.proofs.Kept.Combinators.{Alters, From, Keeps, changes-keeps, changes_then-from, cond-keeps, keeps-from}
use Rattle.machine_laws.proofs.Kept.Combinators.{looks-keeps, nothing-keeps, option-keeps, sees-keeps, then-keeps, unchanged-alters}
use Rattle.machine_laws.proofs.Plain.Frames.{raises-keeps, pass_on-keeps, with_room-keeps}
use Rattle.machine_laws.proofs.Plain.Calls.{with_call-keeps, attempt_with-keeps}
use Rattle.machine_laws.proofs.Plain.Statements.{null-keeps, assign-keeps, assign_array-keeps, if_statement-keeps, case_statement-keeps, while_turn-keeps}
use Rattle.machine_laws.proofs.Plain.Statements.{for_bounds-keeps, first_turn-keeps, later_turn-keeps, exit_statement-keeps, raise_again-keeps}
use Rattle.machine_laws.proofs.Plain.Subprograms.{return_value-keeps, return-keeps}
use Rattle.machine_laws.proofs.Plain.Declarations.{declare-keeps}

-- a mark that keeps an exception is what it was
keeping-nature : (e : Raised) (mark : Mark) → nature (keeping e mark) ≡ nature mark
keeping-nature e (Scope m) = refl
keeping-nature e (Handled s) = refl
keeping-nature e (InProtected m) = refl
keeping-nature e (InAccept m) = refl
keeping-nature e (Abortable m) = refl
keeping-nature e (InInitialize l) = refl
keeping-nature e (InFinalize o) = refl
keeping-nature e (InAssign m) = refl

module _ {p : Image} {G : GoodWorld} {May Other : Naming} (moves : FineMoves p G May Other) where
  pub handle_or_pass-keeps : (name : Who) (e : Raised) (next : Option StatementNo) → May name → Keeps G (Behind G) (handle_or_pass p name e next)
  unfolding handle_or_pass
  handle_or_pass-keeps name e None may = search (pass_on-keeps, plain_steps)
  handle_or_pass-keeps name e (Some first) may =
      then-keeps (chains moves) (changes (edit_top name (λ f. with_mark (keeping e f.mark) f))) (goes name (Some first))
      (changes-keeps (chains moves) _ (edit_mark-alters moves name (keeping e) (λ mark. keeping-nature e mark))) (goes-keeps moves name (Some first) may)

  pub behind_handled-keeps : (name : Who) (s : StatementNo) (leaving : Leaving) → May name → Keeps G (Behind G) (behind_handled p name s leaving)
  unfolding behind_handled
  behind_handled-keeps name s (how.Exception e) may = search (handle_or_pass-keeps)
  behind_handled-keeps name s how.End may = search (nothing-keeps, chains)
  behind_handled-keeps name s how.Return may = search (pass_on-keeps, plain_steps)
  behind_handled-keeps name s (how.Exit loop) may = search (pass_on-keeps, plain_steps)
  behind_handled-keeps name s how.Abort may = search (pass_on-keeps, plain_steps)
  behind_handled-keeps name s how.Terminate may = search (pass_on-keeps, plain_steps)

  pub end_handled-from : (name : Who) (s : StatementNo) (leaving : Leaving) (f : Frame) (w : World) → G w → May name → top_of w name ≡ Some f
      → is_protected f.mark ≡ false → From (Behind G) w (end_handled p name s leaving)
  unfolding end_handled
  end_handled-from name s leaving f w good may top free =
      let out = popped moves name f w good may top free in
      changes_then-from (chains moves) (pop name) _ w out
      (keeps-from (chains moves) (behind_handled p name s leaving) (pop name w) (moves.behind w (pop name w) out) (behind_handled-keeps name s leaving may))

  pub end_top-keeps : (name : Who) → May name → Keeps G (Behind G) (end_top p name)
  unfolding end_top
  end_top-keeps name may = end_found_abortable-keeps moves Own name may

  pub drop_trigger-alters : (name : Who) (depth : ℕ) → Alters G (Behind G) (drop_trigger name depth)
  drop_trigger-alters (who.Task t) depth = search (drop_appointment-alters)
  drop_trigger-alters who.Agent depth = search (unchanged-alters, chains)

module _ {p : Image} {G : GoodWorld} {May Other : Naming} (moves : FineMoves p G May Other) (openings : Openings p G May Other) where
  pub wait_for_trigger-keeps : (name : Who) (c : Call) (leaving : Leaving) → Other name → Keeps G (Behind G) (wait_for_trigger name c leaving)
  unfolding wait_for_trigger
  wait_for_trigger-keeps name c leaving other =
      then-keeps (chains moves) _ (block TheBlock name (waits_for.EndOfCall c.number))
      (changes-keeps (chains moves) _
      (edit_top-alters moves name (λ f. with_mark (edit_abortable waiting_mark f.mark) (record f { left_as = Some leaving }))
      (λ x. abortable-nature waiting_mark x.mark) (λ x. inl refl)))
      (block-keeps moves openings TheBlock name (waits_for.EndOfCall c.number) other refl)

  pub end_abortable_by-keeps : (name : Who) (m : AbortableMark) (leaving : Leaving) → Other name → May name
      → Keeps G (Behind G) (end_abortable_by p name m leaving)
  unfolding end_abortable_by
  end_abortable_by-keeps name m leaving other may =
      option-keeps (chains moves) m.call (looks (λ w. changes (drop_trigger name (below (frames_of w name)))) ▷ end_top p name)
      (λ c. with_call c (λ d. attempt_with p Own d (end_top p name) (wait_for_trigger name d leaving)))
      (then-keeps (chains moves) _ _
      (looks-keeps (chains moves) _ (λ w. changes-keeps (chains moves) _ (drop_trigger-alters moves name (below (frames_of w name)))))
      (end_top-keeps moves name may))
      (λ c. with_call-keeps (plain_steps moves) c _
      (λ d. attempt_with-keeps (plain_steps moves) p Own d _ _ (end_top-keeps moves name may) (wait_for_trigger-keeps name d leaving other)))

  pub end_in_abortable-keeps : (name : Who) (m : AbortableMark) (leaving : Leaving) → Other name → May name
      → Keeps G (Behind G) (end_in_abortable p name m leaving)
  unfolding end_in_abortable
  end_in_abortable-keeps name m leaving other may = search (cond-keeps, end_top-keeps, end_abortable_by-keeps, chains)

  pub call_main-keeps : (name : Who) (s : StatementNo) → May name → Keeps G (Behind G) (call_main p name s)
  unfolding call_main
  call_main-keeps name s may = search (with_room-keeps, goes-keeps, then-keeps, looks-keeps, changes-keeps, open_scope-alters, chains, plain_steps)

  pub call-keeps : (name : Who) (s : StatementNo) (callee : Callee) (actuals : List Actual) (to : Destination) → May name
      → Keeps G (Behind G) (call p name s callee actuals to)
  unfolding call
  call-keeps name s (callee.Subprogram f) actuals to may = search (call_subprogram-keeps)
  call-keeps name s (callee.Operation d f) actuals to may = search (call_operation-keeps)
  call-keeps name s (callee.OwnOperation f) actuals to may = search (call_own_operation-keeps)

module _ {p : Image} {G : GoodWorld} {May Other : Naming} (moves : FineMoves p G May Other) (loose : Loosens p G May Other) (again : Again p G May Other loose)
    (openings : Openings p G May Other) where
  pub act_statement-keeps : (name : Who) (s : StatementNo) (form : StatementForm) → May name → form_of p s ≡ form
      → Keeps G (Behind G) (act_statement p name s form)
  unfolding act_statement
  act_statement-keeps name s (form.Declare object) may is = search (declare-keeps, plain_steps)
  act_statement-keeps name s (form.Initialize object) may is = search (initialize-keeps)
  act_statement-keeps name s (form.CreateTask object part) may is = search (create-keeps)
  act_statement-keeps name s (form.Activate part) may is = search (activate-keeps)
  act_statement-keeps name s form.EndActivation may is = search (end_own_activation-keeps)
  act_statement-keeps name s form.CallMain may is = search (call_main-keeps)
  act_statement-keeps name s (form.Handled handlers first) may is = search (nothing-keeps, chains)
  act_statement-keeps name s form.Null may is = search (null-keeps, plain_steps)
  act_statement-keeps name s (form.Assign target e) may is = search (assign-keeps, plain_steps)
  act_statement-keeps name s (form.AssignArray target source) may is = search (assign_array-keeps, plain_steps)
  act_statement-keeps name s (form.AssignControlled target source) may is = search (assign_controlled-keeps)
  act_statement-keeps name s (form.If condition first otherwise) may is = search (if_statement-keeps, plain_steps)
  act_statement-keeps name s (form.Case selector alternatives) may is = search (case_statement-keeps, plain_steps)
  act_statement-keeps name s (form.Loop body within) may is = search (goes-keeps)
  act_statement-keeps name s (form.While condition body within) may is = search (while_turn-keeps, plain_steps)
  act_statement-keeps name s (form.For parameter reverse low high turn within) may is = search (for_bounds-keeps, plain_steps)
  act_statement-keeps name s (form.FirstTurn parameter reverse body) may is = search (first_turn-keeps, plain_steps)
  act_statement-keeps name s (form.LaterTurn parameter reverse body) may is = search (later_turn-keeps, plain_steps)
  act_statement-keeps name s (form.Exit condition of_loop) may is = search (exit_statement-keeps, plain_steps)
  act_statement-keeps name s (form.Block scope) may is = search (block_statement-keeps)
  act_statement-keeps name s form.Return may is = search (return-keeps, plain_steps)
  act_statement-keeps name s (form.ReturnValue function e) may is = search (return_value-keeps, plain_steps)
  act_statement-keeps name s (form.Raise e) may is = search (raises-keeps, plain_steps)
  act_statement-keeps name s (form.RaiseAgain scope) may is = search (raise_again-keeps, plain_steps)
  act_statement-keeps name s (form.Delay e) may is = search (sees-keeps, delay_until-keeps, chains)
  act_statement-keeps name s (form.DelayUntil e) may is = search (sees-keeps, delay_until-keeps, chains)
  act_statement-keeps name s (form.Call callee actuals to) may is = search (call-keeps)
  act_statement-keeps name s (form.PutLine pieces) may is = put_line-keeps moves name s pieces is may
  act_statement-keeps name s (form.EntryCall entry owner actuals) may is = entry_call-keeps moves loose openings name call_kind.Plain s may
  act_statement-keeps name s (form.ConditionalCall call otherwise) may is = entry_call-keeps moves loose openings name call_kind.Conditional s may
  act_statement-keeps name s (form.TimedCall call delay) may is = entry_call-keeps moves loose openings name call_kind.Timed s may
  act_statement-keeps name s (form.AsynchronousSelect trigger abortable) may is = asynchronous_select-keeps moves loose openings name s trigger may
  act_statement-keeps name s (form.Accept entry scope) may is = search (accept-keeps)
  act_statement-keeps name s (form.SelectiveAccept alternatives otherwise) may is = search (selective_accept-keeps)
  act_statement-keeps name s (form.Abort tasks) may is = search (abort_statement-keeps)
  act_statement-keeps name s (form.Requeue entry owner with_abort) may is = search (requeue-keeps)
  act_statement-keeps name s (form.SetEvent event set handler) may is = search (set_event-keeps)
  act_statement-keeps name s (form.CancelEvent event cancelled) may is = search (cancel_event-keeps)
  act_statement-keeps name s (form.SetTimer timer set handler) may is = search (set_timer-keeps)
  act_statement-keeps name s (form.CancelTimer timer cancelled) may is = search (cancel_timer-keeps)
  act_statement-keeps name s (form.AddTask budget task) may is = search (add_member-keeps)
  act_statement-keeps name s (form.RemoveTask budget task) may is = search (remove_member-keeps)
  act_statement-keeps name s (form.Replenish budget to) may is = search (replenish-keeps)
  act_statement-keeps name s (form.AddToBudget budget interval) may is = search (add_to_budget-keeps)
  act_statement-keeps name s (form.SetBudget budget handler) may is = search (set_budget-keeps)
  act_statement-keeps name s (form.CancelBudget budget cancelled) may is = search (cancel_budget-keeps)
  act_statement-keeps name s (form.SetPriority priority task) may is = search (set_priority-keeps)
  act_statement-keeps name s (form.SetQuantum level quantum) may is = search (set_quantum-keeps)
  act_statement-keeps name s (form.SetDeadline deadline task) may is = search (set_deadline_of-keeps)
  act_statement-keeps name s (form.DelayUntilAndSetDeadline until offset) may is = search (delay_and_set_deadline-keeps)

  -- the end of the mark on top, but of a protected action, whose end is given
  end_mark-from : (name : Who) (Y : GoodWorld) (departs : Departing p Other name G Y) (f : Frame) (mark : Mark) (w : World) → G w → May name
      → top_of w name ≡ Some f → f.mark ≡ mark → begins_sequence p (onward_of w name) ≡ false
      → ((m : ProtectedMark) → mark ≡ InProtected m → From (Behind Y) w (end_in_protected p name m (leaving_of f))) → From (Behind Y) w (end_mark p name f mark)
  unfolding end_mark
  end_mark-from name Y departs f (Scope m) w good may top is plain action =
      end_scope_mark-from moves loose openings name Y departs m (leaving_of f) f w good may top is plain
  end_mark-from name Y departs f (Handled s) w good may top is plain action =
      wide-from G Y _ w departs.over (end_handled-from moves name s (leaving_of f) f w good may top (ap is_protected is))
  end_mark-from name Y departs f (InProtected m) w good may top is plain action = action m refl
  end_mark-from name Y departs f (InAccept m) w good may top is plain action =
      wide-from G Y _ w departs.over (end_in_accept-from moves loose again name m (leaving_of f) f w good may top (ap is_protected is))
  end_mark-from name Y departs f (Abortable m) w good may top is plain action =
      wide-from G Y _ w departs.over
      (keeps-from (chains moves) _ w good
      (end_in_abortable-keeps moves openings name m (leaving_of f) (openings.within_part name f w good may top (ap is_abortable is)) may))
  end_mark-from name Y departs f (InInitialize l) w good may top is plain action =
      wide-from G Y _ w departs.over (end_in_initialize-from moves name l (leaving_of f) f w good may top (ap is_protected is))
  end_mark-from name Y departs f (InFinalize o) w good may top is plain action =
      wide-from G Y _ w departs.over (end_in_finalize-from moves name (leaving_of f) f w good may top (ap is_protected is))
  end_mark-from name Y departs f (InAssign m) w good may top is plain action =
      wide-from G Y _ w departs.over (end_in_assign-from moves openings name m f.left_as f w good may top (ap is_protected is))

  pub act_frame-from : (name : Who) (Y : GoodWorld) (departs : Departing p Other name G Y) (f : Frame) (next : Option StatementNo) (w : World) → G w → May name
      → top_of w name ≡ Some f → f.onward ≡ next → ((m : ProtectedMark) → f.mark ≡ InProtected m → From (Behind Y) w (end_in_protected p name m (leaving_of f)))
      → From (Behind Y) w (act_frame p name f next)
  unfolding act_frame
  act_frame-from name Y departs f (Some s) w good may top on action =
      wide-from G Y _ w departs.over (keeps-from (chains moves) _ w good (act_statement-keeps name s (form_of p s) may refl))
  act_frame-from name Y departs f None w good may top on action =
      end_mark-from name Y departs f f.mark w good may top refl
      (ap (λ t. begins_sequence p (option_and_then (λ g. g.onward) t)) top ∙ ap (begins_sequence p) on) action
