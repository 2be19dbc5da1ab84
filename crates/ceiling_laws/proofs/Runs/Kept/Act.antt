-- The effect of an action: it leads from what holds at first to what holds behind it.
use Rattle.ann_base.specs.declared.exceptions.Raised.{Raised}
use Rattle.ceiling_laws.proofs.Runs.ActingMoves.{ActingMoves, Admitting, Either, either-leads}
use Rattle.ceiling_laws.proofs.Fine.Kept.CallEnds.{end_top_abortable-keeps}
use Rattle.ceiling_laws.proofs.Fine.Kept.Calls.{attempt_with-keeps, with_call-keeps}
use Rattle.ceiling_laws.proofs.Fine.Kept.Controlled.{assign_controlled-keeps, end_in_assign-keeps}
use Rattle.ceiling_laws.proofs.Fine.Kept.Controlled.{end_in_finalize-keeps, end_in_initialize-keeps, initialize-keeps}
use Rattle.ceiling_laws.proofs.Fine.Kept.Declarations.{declare-keeps}
use Rattle.ceiling_laws.proofs.Runs.Kept.EntryCalls.{asynchronous_select-leads, entry_call-leads, requeue-keeps}
use Rattle.ceiling_laws.proofs.Fine.Kept.Frames.{edit_top-alters, goes-keeps, open_if_ready-keeps, pass_on-keeps}
use Rattle.ceiling_laws.proofs.Fine.Kept.Frames.{pop-alters, raises-keeps, weakly, with_room-keeps}
use Rattle.ceiling_laws.proofs.Runs.Kept.Handlers.{add_member-keeps, add_to_budget-keeps, call_handler-leads, cancel_budget-keeps, cancel_event-keeps}
use Rattle.ceiling_laws.proofs.Runs.Kept.Handlers.{cancel_timer-keeps, remove_member-keeps, replenish-keeps, set_budget-keeps, set_event-keeps, set_timer-keeps}
use Rattle.ceiling_laws.proofs.Runs.Kept.Masters.{fits_part}
use Rattle.ceiling_laws.proofs.Runs.Kept.Priorities.{delay_and_set_deadline-keeps, delay_until-keeps}
use Rattle.ceiling_laws.proofs.Runs.Kept.Priorities.{set_deadline_of-leads, set_priority-leads, set_quantum-keeps}
use Rattle.ceiling_laws.proofs.Runs.Kept.Protected.{call_operation-leads, call_own_operation-keeps}
use Rattle.ceiling_laws.proofs.Runs.Kept.Rendezvous.{accept-keeps, end_in_accept-keeps, goes_later, not_later, selective_accept-leads}
use Rattle.ceiling_laws.proofs.Fine.Kept.Scopes.{drop_appointment-alters, open_scope-alters}
use Rattle.ceiling_laws.proofs.Runs.Kept.Serving.{end_in_protected-keeps}
use Rattle.ceiling_laws.proofs.Fine.Kept.Statements.{assign-keeps, assign_array-keeps, block_statement-keeps, case_statement-keeps}
use Rattle.ceiling_laws.proofs.Fine.Kept.Statements.{exit_statement-keeps, first_turn-keeps, for_bounds-keeps, if_statement-keeps}
use Rattle.ceiling_laws.proofs.Fine.Kept.Statements.{later_turn-keeps, null-keeps, put_line-keeps, raise_again-keeps, while_turn-keeps}
use Rattle.ceiling_laws.proofs.Fine.Kept.Subprograms.{call_subprogram-keeps, return-keeps, return_value-keeps}
use Rattle.ceiling_laws.proofs.Runs.Kept.Tasking.{abort_statement-keeps, activate-keeps, create-leads, end_own_activation-keeps}
use Rattle.ceiling_laws.proofs.Runs.Kept.Tasking.{end_scope_mark-leads, take_terminates-leads, unwind_all-keeps}
use Rattle.ceiling_laws.proofs.Runs.Kept.Tasks.{edit_task-alters}
use Rattle.ceiling_laws.proofs.Runs.LevelMoves.{Fitting, Silences, Sleeping}
use Rattle.ceiling_laws.proofs.Runs.Triples.{Alters, Keeps, Leads, State, changes-keeps, cond-keeps, from-leads, looks-keeps, looks-leads}
use Rattle.ceiling_laws.proofs.Runs.Triples.{nothing-keeps, option-keeps, sees-keeps, then-keeps, then-leads, to-leads, unchanged-alters}
use Rattle.ceiling_laws.proofs.Runs.Finer.{fine}
use Rattle.profile_machine.specs.Act.{act, act_frame, act_statement, act_top, act_without, behind_handled, below, call}
use Rattle.profile_machine.specs.Act.{call_main, drop_trigger, end_abortable_by, end_handled, end_in_abortable, end_mark}
use Rattle.profile_machine.specs.Act.{end_top, handle_or_pass, handler_for, keeping, wait_for_trigger, waiting_mark}
use Rattle.profile_machine.specs.Appointments.{is_trigger_of}
use Rattle.profile_machine.specs.CallEnds.{edit_abortable}
use Rattle.profile_machine.specs.Calls.{attempt_with, with_call}
use Rattle.profile_machine.specs.Frames.{frames_of, handlers_in, leaving_of, open_if_ready, top_of, with_mark}
use Rattle.profile_machine.specs.Handlers.{call_handler}
use Rattle.profile_machine.specs.Instant.{effect}
use Rattle.profile_image.specs.Program.{form_of}
use Rattle.profile_machine.specs.Statements.{relative_moment}
use Rattle.profile_machine.specs.Steps.{Step, changes, looks, nothing, ◌▷◌}
use Rattle.profile_machine.specs.Tasking.{take_terminates, unwind_all}
use Rattle.profile_machine.specs.Tasks.{edit_task, with_ticks}
use Rattle.profile_machine.specs.Values.{condition, moment}
use Rattle.profile_image.specs.declared.image.Image.{Image}
use Rattle.profile_image.specs.declared.numbers.StatementNo.{StatementNo}
use Rattle.profile_machine.specs.declared.run_data.Leaving.{Leaving}
use Rattle.profile_machine.specs.declared.run_data.Leaving.TheVariants as how
use Rattle.profile_image.specs.declared.statements.Actual.{Actual}
use Rattle.profile_image.specs.declared.statements.Callee.{Callee}
use Rattle.profile_image.specs.declared.statements.Callee.TheVariants as callee
use Rattle.profile_image.specs.declared.statements.Destination.{Destination}
use Rattle.profile_image.specs.declared.statements.StatementForm.{StatementForm}
use Rattle.profile_image.specs.declared.statements.StatementForm.TheVariants as form
use Rattle.profile_machine.specs.declared.world.World.{World}
use Rattle.profile_machine.specs.declared.world.appointments.Release.{Release}
use Rattle.profile_machine.specs.declared.world.calls.Call.{Call}
use Rattle.profile_machine.specs.declared.world.calls.CallKind.TheVariants as call_kind
use Rattle.profile_machine.specs.declared.world.lines.Part.TheVariants.{Own}
use Rattle.profile_machine.specs.declared.world.lines.Said.{Said}
use Rattle.profile_machine.specs.declared.world.marks.AbortableMark.{AbortableMark}
use Rattle.profile_machine.specs.declared.world.marks.Frame.{Frame}
use Rattle.profile_machine.specs.declared.world.marks.Mark.{Mark}
use Rattle.profile_machine.specs.declared.world.marks.Mark.TheVariants.{Abortable, Handled, InAccept, InAssign, InFinalize, InInitialize, InProtected, Scope}
use Rattle.profile_machine.specs.declared.world.tasks.Waiting.TheVariants as waits_for
use Rattle.std.proofs.Common.{inl, inr, refl, ◌≡◌}
use Rattle.std.specs.Prelude.{List, None, Option, Some, ℕ}
use Rattle.trace_text.specs.declared.events.Who.{Who}
use Rattle.trace_text.specs.declared.events.Who.TheVariants as who
use Rattle.machine_laws.proofs.FineMoves.{Naming}

module _ {X : State} (quiet : Silences X) where
  handle_or_pass-keeps : (p : Image) (name : Who) (e : Raised) (next : Option StatementNo) → Keeps X (handle_or_pass p name e next)
  unfolding handle_or_pass
  handle_or_pass-keeps p name e None = pass_on-keeps (fine quiet) p name (how.Exception e)
  handle_or_pass-keeps p name e (Some first) =
      then-keeps _ _ (changes-keeps _ (edit_top-alters (fine quiet) name (λ f. with_mark (keeping e f.mark) f))) (goes-keeps (fine quiet) name (Some first))

  behind_handled-keeps : (p : Image) (name : Who) (s : StatementNo) (leaving : Leaving) → Keeps X (behind_handled p name s leaving)
  unfolding behind_handled
  behind_handled-keeps p name s (how.Exception e) = handle_or_pass-keeps p name e (handler_for e (handlers_in (form_of p s)))
  behind_handled-keeps p name s how.End = nothing-keeps
  behind_handled-keeps p name s how.Return = pass_on-keeps (fine quiet) p name how.Return
  behind_handled-keeps p name s (how.Exit loop) = pass_on-keeps (fine quiet) p name (how.Exit loop)
  behind_handled-keeps p name s how.Abort = pass_on-keeps (fine quiet) p name how.Abort
  behind_handled-keeps p name s how.Terminate = pass_on-keeps (fine quiet) p name how.Terminate

  pub end_handled-keeps : (p : Image) (name : Who) (s : StatementNo) (leaving : Leaving) → Keeps X (end_handled p name s leaving)
  unfolding end_handled
  end_handled-keeps p name s leaving = then-keeps _ _ (changes-keeps _ (pop-alters (fine quiet) name)) (behind_handled-keeps p name s leaving)

  pub end_top-keeps : (p : Image) (name : Who) → Keeps X (end_top p name)
  unfolding end_top
  end_top-keeps p name = looks-keeps _ (λ w. end_top_abortable-keeps (fine quiet) p Own name (frames_of w name))

  pub drop_trigger-alters : (name : Who) (depth : ℕ) → Alters X (drop_trigger name depth)
  drop_trigger-alters (who.Task t) depth = drop_appointment-alters (fine quiet) (is_trigger_of t depth)
  drop_trigger-alters who.Agent depth = unchanged-alters

  pub call_main-keeps : (p : Image) (name : Who) (s : StatementNo) → Keeps X (call_main p name s)
  unfolding call_main
  call_main-keeps p name s = search (fine, with_room-keeps, goes-keeps, then-keeps, looks-keeps, changes-keeps, open_scope-alters)

module _ {p : Image} {actor : Who} {Fits Narrow : Fitting} {Sleeps : Sleeping} {May : Admitting} {Listed Unmade : World → Naming} {F I J W Y D : State}
    {O N V U : World → State} {E : World → Who → State}
    (acting : ActingMoves p actor Fits Narrow Sleeps May Listed Unmade F I J W Y D O N V U E) where
  -- who acts goes on, comes to its select, or may have entered an object
  at_first : (step : Step) → Keeps F step → Leads F (Either W J) step
  at_first step kept = weakly (fine acting.fresh) (λ w said h. inl (not_later acting w said h)) step kept

  without : (step : Step) → Leads F I step → Leads F (Either W J) step
  without step a = to-leads step a (λ w said h. inl (goes_later acting w said h))

  at_select : (step : Step) → Leads F W step → Leads F (Either W J) step
  at_select step a = to-leads step a (λ w said h. inl h)

  later_on : (step : Step) → Keeps I step → Leads F (Either W J) step
  later_on step kept = without step (from-leads step acting.starts kept)

  wide : (w : World) (said : List Said) → Either I J w said → Either W J w said
  wide w said (inl h) = inl (goes_later acting w said h)
  wide w said (inr h) = inr h

  by_entry : (step : Step) → Leads F (Either I J) step → Leads F (Either W J) step
  by_entry step a = to-leads step a wide

  wait_for_trigger-keeps : (c : Call) (leaving : Leaving) → Keeps I (wait_for_trigger actor c leaving)
  unfolding wait_for_trigger
  wait_for_trigger-keeps c leaving =
      then-keeps _ _
      (changes-keeps _
      (edit_top-alters (fine acting.later.base.quiet) actor (λ f. with_mark (edit_abortable waiting_mark f.mark) (record f { left_as = Some leaving }))))
      (acting.later.blocks actor (waits_for.EndOfCall c.number))

  end_abortable_by-keeps : (m : AbortableMark) (leaving : Leaving) → Keeps I (end_abortable_by p actor m leaving)
  unfolding end_abortable_by
  end_abortable_by-keeps m leaving =
      option-keeps m.call (looks (λ w. changes (drop_trigger actor (below (frames_of w actor)))) ▷ end_top p actor)
      (λ c. with_call c (λ d. attempt_with p Own d (end_top p actor) (wait_for_trigger actor d leaving)))
      (then-keeps _ _ (looks-keeps _ (λ w. changes-keeps _ (drop_trigger-alters acting.later.base.quiet actor (below (frames_of w actor)))))
      (end_top-keeps acting.later.base.quiet p actor))
      (λ c. with_call-keeps (fine acting.later.base.quiet) c _
      (λ d. attempt_with-keeps (fine acting.later.base.quiet) p Own d (end_top p actor) (wait_for_trigger actor d leaving)
      (end_top-keeps acting.later.base.quiet p actor) (wait_for_trigger-keeps d leaving)))

  end_in_abortable-keeps : (m : AbortableMark) (leaving : Leaving) → Keeps I (end_in_abortable p actor m leaving)
  unfolding end_in_abortable
  end_in_abortable-keeps m leaving =
      cond-keeps m.triggered (end_top p actor) (end_abortable_by p actor m leaving) (end_top-keeps acting.later.base.quiet p actor)
      (end_abortable_by-keeps m leaving)

  call-leads : (s : StatementNo) (callee : Callee) (actuals : List Actual) (to : Destination) → Leads F (Either W J) (call p actor s callee actuals to)
  unfolding call
  call-leads s (callee.Subprogram f) actuals to = at_first _ (call_subprogram-keeps (fine acting.fresh) p actor s f actuals to)
  call-leads s (callee.Operation d f) actuals to = by_entry _ (call_operation-leads acting s d f actuals to)
  call-leads s (callee.OwnOperation f) actuals to = at_first _ (call_own_operation-keeps acting.fresh p actor s f actuals to)

  act_statement-leads : (s : StatementNo) (form : StatementForm) → Leads F (Either W J) (act_statement p actor s form)
  unfolding act_statement
  act_statement-leads s (form.Declare object) = later_on _ (declare-keeps (fine acting.later.base.quiet) p acting.makes actor s object)
  act_statement-leads s (form.Initialize object) = at_first _ (initialize-keeps (fine acting.fresh) p actor s object)
  act_statement-leads s (form.CreateTask object part) = by_entry _ (create-leads acting s object part)
  act_statement-leads s (form.Activate part) = later_on _ (activate-keeps acting s part)
  act_statement-leads s form.EndActivation = later_on _ (end_own_activation-keeps acting s)
  act_statement-leads s form.CallMain = at_first _ (call_main-keeps acting.fresh p actor s)
  act_statement-leads s (form.Handled handlers first) = at_first _ nothing-keeps
  act_statement-leads s form.Null = at_first _ (null-keeps (fine acting.fresh) p actor s)
  act_statement-leads s (form.Assign target e) = at_first _ (assign-keeps (fine acting.fresh) p actor s target e)
  act_statement-leads s (form.AssignArray target source) = at_first _ (assign_array-keeps (fine acting.fresh) p actor s target source)
  act_statement-leads s (form.AssignControlled target source) = at_first _ (assign_controlled-keeps (fine acting.fresh) p actor s target source)
  act_statement-leads s (form.If condition first otherwise) = at_first _ (if_statement-keeps (fine acting.fresh) p actor condition first otherwise)
  act_statement-leads s (form.Case selector alternatives) = at_first _ (case_statement-keeps (fine acting.fresh) p actor selector alternatives)
  act_statement-leads s (form.Loop body within) = at_first _ (goes-keeps (fine acting.fresh) actor (Some body))
  act_statement-leads s (form.While condition body within) = at_first _ (while_turn-keeps (fine acting.fresh) p actor s condition body)
  act_statement-leads s (form.For parameter reverse low high turn within) =
      at_first _ (for_bounds-keeps (fine acting.fresh) p actor parameter reverse low high turn)
  act_statement-leads s (form.FirstTurn parameter reverse body) = at_first _ (first_turn-keeps (fine acting.fresh) p actor s parameter reverse body)
  act_statement-leads s (form.LaterTurn parameter reverse body) = at_first _ (later_turn-keeps (fine acting.fresh) p actor s parameter reverse body)
  act_statement-leads s (form.Exit condition of_loop) = at_first _ (exit_statement-keeps (fine acting.fresh) p actor s of_loop condition)
  act_statement-leads s (form.Block scope) = at_first _ (block_statement-keeps (fine acting.fresh) p actor s scope)
  act_statement-leads s form.Return = at_first _ (return-keeps (fine acting.fresh) actor)
  act_statement-leads s (form.ReturnValue function e) = at_first _ (return_value-keeps (fine acting.fresh) p actor function e)
  act_statement-leads s (form.Raise e) = at_first _ (raises-keeps (fine acting.fresh) Own actor e)
  act_statement-leads s (form.RaiseAgain scope) = at_first _ (raise_again-keeps (fine acting.fresh) p actor scope)
  act_statement-leads s (form.Delay e) = later_on _ (sees-keeps p actor _ (λ q. delay_until-keeps acting s (relative_moment q e)))
  act_statement-leads s (form.DelayUntil e) = later_on _ (sees-keeps p actor _ (λ q. delay_until-keeps acting s (moment q e)))
  act_statement-leads s (form.Call callee actuals to) = call-leads s callee actuals to
  act_statement-leads s (form.PutLine pieces) = at_first _ (put_line-keeps (fine acting.fresh) p actor s pieces)
  act_statement-leads s (form.EntryCall entry owner actuals) = by_entry _ (entry_call-leads acting call_kind.Plain s)
  act_statement-leads s (form.ConditionalCall call otherwise) = by_entry _ (entry_call-leads acting call_kind.Conditional s)
  act_statement-leads s (form.TimedCall call delay) = by_entry _ (entry_call-leads acting call_kind.Timed s)
  act_statement-leads s (form.AsynchronousSelect trigger abortable) = by_entry _ (asynchronous_select-leads acting s trigger)
  act_statement-leads s (form.Accept entry scope) = later_on _ (accept-keeps acting s entry)
  act_statement-leads s (form.SelectiveAccept alternatives otherwise) = at_select _ (selective_accept-leads acting s alternatives otherwise)
  act_statement-leads s (form.Abort tasks) = later_on _ (abort_statement-keeps acting s tasks)
  act_statement-leads s (form.Requeue entry owner with_abort) = at_first _ (requeue-keeps acting.fresh p actor entry owner with_abort)
  act_statement-leads s (form.SetEvent event set handler) =
      later_on _ (set_event-keeps acting.later.base (acting.later.fits_own who.Agent) actor s event set handler)
  act_statement-leads s (form.CancelEvent event cancelled) = at_first _ (cancel_event-keeps acting.fresh p actor s event cancelled)
  act_statement-leads s (form.SetTimer timer set handler) =
      later_on _ (set_timer-keeps acting.later.base (acting.later.fits_own who.Agent) actor s timer set handler)
  act_statement-leads s (form.CancelTimer timer cancelled) = at_first _ (cancel_timer-keeps acting.fresh p actor s timer cancelled)
  act_statement-leads s (form.AddTask budget task) = at_first _ (add_member-keeps acting.fresh p actor s budget task)
  act_statement-leads s (form.RemoveTask budget task) = at_first _ (remove_member-keeps acting.fresh p actor s budget task)
  act_statement-leads s (form.Replenish budget to) = at_first _ (replenish-keeps acting.fresh p actor s budget to)
  act_statement-leads s (form.AddToBudget budget interval) = at_first _ (add_to_budget-keeps acting.fresh p actor s budget interval)
  act_statement-leads s (form.SetBudget budget handler) = at_first _ (set_budget-keeps acting.fresh p actor s budget handler)
  act_statement-leads s (form.CancelBudget budget cancelled) = at_first _ (cancel_budget-keeps acting.fresh p actor s budget cancelled)
  act_statement-leads s (form.SetPriority priority task) = without _ (set_priority-leads acting s priority task)
  act_statement-leads s (form.SetQuantum level quantum) = at_first _ (set_quantum-keeps acting.fresh p actor s level quantum)
  act_statement-leads s (form.SetDeadline deadline task) = without _ (set_deadline_of-leads acting s deadline task)
  act_statement-leads s (form.DelayUntilAndSetDeadline until offset) = later_on _ (delay_and_set_deadline-keeps acting s until offset)

  end_mark-leads : (f : Frame) (mark : Mark) → Leads F (Either W J) (end_mark p actor f mark)
  unfolding end_mark
  end_mark-leads f (Scope m) = at_select _ (end_scope_mark-leads acting m (leaving_of f))
  end_mark-leads f (Handled s) = at_first _ (end_handled-keeps acting.fresh p actor s (leaving_of f))
  end_mark-leads f (InProtected m) = later_on _ (end_in_protected-keeps acting m (leaving_of f))
  end_mark-leads f (InAccept m) = later_on _ (end_in_accept-keeps acting m (leaving_of f))
  end_mark-leads f (Abortable m) = later_on _ (end_in_abortable-keeps m (leaving_of f))
  end_mark-leads f (InInitialize l) = at_first _ (end_in_initialize-keeps (fine acting.fresh) p actor l (leaving_of f))
  end_mark-leads f (InFinalize o) = at_first _ (end_in_finalize-keeps (fine acting.fresh) p actor (leaving_of f))
  end_mark-leads f (InAssign m) = at_first _ (end_in_assign-keeps (fine acting.fresh) p actor m f.left_as)

  act_frame-leads : (f : Frame) (next : Option StatementNo) → Leads F (Either W J) (act_frame p actor f next)
  unfolding act_frame
  act_frame-leads f (Some s) = act_statement-leads s (form_of p s)
  act_frame-leads f None = end_mark-leads f f.mark

  -- the agent without a rest calls the handler of what it serves
  act_without-leads : (name : Who) (serving : Option Release) → name ≡ actor → Leads F (Either W J) (act_without p name serving)
  unfolding act_without
  act_without-leads name None is = at_first nothing nothing-keeps
  act_without-leads who.Agent (Some r) is = by_entry (call_handler p r) (call_handler-leads acting r is)
  act_without-leads (who.Task t) (Some r) is = at_first nothing nothing-keeps

  act_top-leads : (found : Option Frame) → Leads F (Either W J) (act_top p actor found)
  unfolding act_top
  act_top-leads None = looks-leads _ (λ w. act_without-leads actor w.serving refl)
  act_top-leads (Some f) = act_frame-leads f f.onward

  act-leads : Leads F (Either W J) (act p actor)
  unfolding act
  act-leads = looks-leads _ (λ w. act_top-leads (top_of w actor))

  -- all of the effect behind the action
  behind_choice : Leads W Y (open_if_ready p actor ▷ take_terminates p actor ▷ unwind_all p actor)
  behind_choice =
      then-leads (open_if_ready p actor) _ (open_if_ready-keeps (fine acting.choosing.quiet) p actor)
      (then-leads (take_terminates p actor) _ (take_terminates-leads acting.choosing) (unwind_all-keeps acting.over actor (fits_part acting.later)))

  behind_entry : Keeps J (open_if_ready p actor ▷ take_terminates p actor ▷ unwind_all p actor)
  behind_entry =
      then-leads (open_if_ready p actor) _ (open_if_ready-keeps (fine acting.entered.base.quiet) p actor)
      (then-leads (take_terminates p actor) _ (take_terminates-leads acting.inside) (unwind_all-keeps acting.entered.base actor (fits_part acting.entered)))

  pub effect-leads : Leads F (Either Y J) (effect p actor)
  unfolding effect
  effect-leads =
      then-leads (changes (edit_task actor (with_ticks None))) _ (changes-keeps _ (edit_task-alters acting.fresh actor (with_ticks None) (λ t. refl)))
      (then-leads (act p actor) _ act-leads (either-leads _ behind_choice behind_entry))
