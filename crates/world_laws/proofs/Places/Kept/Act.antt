-- The effect of an action: it leads from what holds at first to what holds behind it.
use Rattle.ann_base.specs.declared.exceptions.Raised.{Raised}
use Rattle.ann_base.specs.declared.identities.CallNo.{CallNo}
use Rattle.ceiling_laws.proofs.Fine.Cores.{CallerIn}
use Rattle.world_laws.proofs.Places.ActingMoves.{ActingMoves, Lasting, LastingOf}
use Rattle.ceiling_laws.proofs.Fine.Kept.CallEnds.{end_top_abortable-keeps}
use Rattle.ceiling_laws.proofs.Fine.Kept.Calls.{attempt_with-leads}
use Rattle.ceiling_laws.proofs.Fine.Kept.Controlled.{assign_controlled-keeps, end_in_assign-keeps}
use Rattle.ceiling_laws.proofs.Fine.Kept.Controlled.{end_in_finalize-keeps, end_in_initialize-keeps, initialize-keeps}
use Rattle.ceiling_laws.proofs.Fine.Kept.Declarations.{declare-keeps}
use Rattle.world_laws.proofs.Places.Kept.EntryCalls.{asynchronous_select-leads, entry_call-leads, requeue-keeps}
use Rattle.ceiling_laws.proofs.Fine.Kept.Frames.{edit_top-alters, goes-keeps, open_if_ready-keeps, pass_on-keeps}
use Rattle.ceiling_laws.proofs.Fine.Kept.Frames.{pop-alters, raises-keeps, weakly, with_room-keeps}
use Rattle.world_laws.proofs.Places.Kept.Handlers.{add_member-keeps, add_to_budget-keeps, call_handler-leads, cancel_budget-keeps, cancel_event-keeps}
use Rattle.world_laws.proofs.Places.Kept.Handlers.{cancel_timer-keeps, remove_member-keeps, replenish-keeps, set_budget-keeps, set_event-keeps, set_timer-keeps}
use Rattle.world_laws.proofs.Places.Kept.Priorities.{delay_and_set_deadline-leads, delay_until-leads}
use Rattle.world_laws.proofs.Places.Kept.Priorities.{set_deadline_of-leads, set_priority-leads, set_quantum-keeps}
use Rattle.world_laws.proofs.Places.Kept.Protected.{call_operation-leads, call_own_operation-keeps}
use Rattle.world_laws.proofs.Places.Kept.Rendezvous.{accept-leads, end_in_accept-keeps, goes_later, not_later, selective_accept-leads}
use Rattle.ceiling_laws.proofs.Fine.Kept.Scopes.{drop_appointment-alters, open_scope-alters}
use Rattle.world_laws.proofs.Places.Kept.Serving.{end_in_protected-leads}
use Rattle.ceiling_laws.proofs.Fine.Kept.Statements.{assign-keeps, assign_array-keeps, block_statement-keeps, case_statement-keeps}
use Rattle.ceiling_laws.proofs.Fine.Kept.Statements.{exit_statement-keeps, first_turn-keeps, for_bounds-keeps, if_statement-keeps}
use Rattle.ceiling_laws.proofs.Fine.Kept.Statements.{later_turn-keeps, null-keeps, put_line-keeps, raise_again-keeps, while_turn-keeps}
use Rattle.ceiling_laws.proofs.Fine.Kept.Subprograms.{call_subprogram-keeps, return-keeps, return_value-keeps}
use Rattle.world_laws.proofs.Places.Kept.Tasking.{abort_statement-keeps, activate-leads, create-leads, end_own_activation-keeps}
use Rattle.world_laws.proofs.Places.Kept.Tasking.{end_scope_mark-leads, take_terminates-leads, unwind_all-keeps}
use Rattle.ceiling_laws.proofs.Fine.Kept.Tasks.{calls_in, edit_task-alters}
use Rattle.ceiling_laws.proofs.Fine.LevelMoves.{Silences}
use Rattle.world_laws.proofs.Places.Owning.{OwnCall, edit-calls}
use Rattle.ceiling_laws.proofs.Runs.Triples.{Alters, At, Keeps, Leads, State, With, changes-keeps, changes-leads, cond-leads}
use Rattle.ceiling_laws.proofs.Runs.Triples.{for_some-leads, from-leads, from_at, looks-keeps, looks-leads, looks-with, nothing-keeps}
use Rattle.ceiling_laws.proofs.Runs.Triples.{option-leads, sees-leads, then-keeps, then-leads, to-leads, unchanged-alters}
use Rattle.profile_machine.specs.Act.{act, act_frame, act_statement, act_top, act_without, behind_handled, below, call}
use Rattle.profile_machine.specs.Act.{call_main, drop_trigger, end_abortable_by, end_handled, end_in_abortable, end_mark}
use Rattle.profile_machine.specs.Act.{end_top, handle_or_pass, handler_for, keeping, wait_for_trigger, waiting_mark}
use Rattle.profile_machine.specs.Appointments.{is_trigger_of}
use Rattle.profile_machine.specs.CallEnds.{edit_abortable}
use Rattle.profile_machine.specs.Calls.{attempt_with, call_of, with_call}
use Rattle.profile_machine.specs.Frames.{any_protected, frames_of, handlers_in, in_protected, leaving_of, open_if_ready, top_of, with_mark}
use Rattle.profile_machine.specs.Handlers.{call_handler}
use Rattle.profile_machine.specs.Instant.{effect}
use Rattle.profile_image.specs.Program.{form_of}
use Rattle.profile_machine.specs.Statements.{relative_moment}
use Rattle.profile_machine.specs.Steps.{Step, changes, looks, nothing, ◌▷◌}
use Rattle.profile_machine.specs.Serving.{end_in_protected}
use Rattle.profile_machine.specs.Tasking.{take_terminates}
use Rattle.profile_machine.specs.Tasks.{edit_task, edit_task_found, nobody, task_at, with_ticks}
use Rattle.world_tables.specs.Lists.{first_of}
use Rattle.profile_machine.specs.Values.{condition, moment}
use Rattle.profile_image.specs.declared.image.Image.{Image}
use Rattle.profile_image.specs.declared.numbers.StatementNo.{StatementNo}
use Rattle.profile_machine.specs.declared.run_data.Leaving.{Leaving}
use Rattle.profile_machine.specs.declared.run_data.Leaving.TheVariants as how
use Rattle.profile_image.specs.declared.statements.Actual.{Actual}
use Rattle.profile_image.specs.declared.statements.Callee.{Callee}
use Rattle.profile_image.specs.declared.statements.Callee.TheVariants as callee
use Rattle.profile_image.specs.declared.statements.Destination.{Destination}
use Rattle.profile_image.specs.declared.statements.StatementForm.{StatementForm}
use Rattle.profile_image.specs.declared.statements.StatementForm.TheVariants as form
use Rattle.profile_machine.specs.declared.world.World.{World}
use Rattle.profile_machine.specs.declared.world.appointments.Release.{Release}
use Rattle.profile_machine.specs.declared.world.calls.Call.{Call}
use Rattle.profile_machine.specs.declared.world.calls.CallKind.TheVariants as call_kind
use Rattle.profile_machine.specs.declared.world.lines.Part.TheVariants.{Own}
use Rattle.profile_machine.specs.declared.world.marks.AbortableMark.{AbortableMark}
use Rattle.profile_machine.specs.declared.world.marks.Frame.{Frame}
use Rattle.profile_machine.specs.declared.world.marks.Mark.{Mark}
use Rattle.profile_machine.specs.declared.world.marks.ProtectedMark.{ProtectedMark}
use Rattle.profile_machine.specs.declared.world.marks.Mark.TheVariants.{Abortable, Handled, InAccept, InAssign, InFinalize, InInitialize, InProtected, Scope}
use Rattle.profile_machine.specs.declared.world.tasks.Waiting.TheVariants as waits_for
use Rattle.profile_machine.specs.declared.world.tasks.Task.{Task}
use Rattle.std.proofs.Common.{ap, inl, inr, refl, subst, sym, ◌∙◌, ◌≡◌, ◌⊎◌}
use Rattle.std.specs.Prelude.{List, None, Option, Some, [], true, ℕ, unwrap_or}
use Rattle.trace_text.specs.declared.events.Who.{Who}
use Rattle.trace_text.specs.declared.events.Who.TheVariants as who
use Rattle.ceiling_laws.proofs.Runs.LevelMoves.{Fitting, Sleeping}
use Rattle.ceiling_laws.proofs.Runs.SameLemmas.{set_where-found}
use Rattle.ceiling_laws.proofs.Runs.ActingMoves.{Admitting}
use Rattle.machine_laws.proofs.FineMoves.{Naming}

module _ {X : State} (quiet : Silences X) where
  handle_or_pass-keeps : (p : Image) (name : Who) (e : Raised) (next : Option StatementNo) → Keeps X (handle_or_pass p name e next)
  unfolding handle_or_pass
  handle_or_pass-keeps p name e None = pass_on-keeps quiet p name (how.Exception e)
  handle_or_pass-keeps p name e (Some first) =
      then-keeps _ _ (changes-keeps _ (edit_top-alters quiet name (λ f. with_mark (keeping e f.mark) f))) (goes-keeps quiet name (Some first))

  behind_handled-keeps : (p : Image) (name : Who) (s : StatementNo) (leaving : Leaving) → Keeps X (behind_handled p name s leaving)
  unfolding behind_handled
  behind_handled-keeps p name s (how.Exception e) = handle_or_pass-keeps p name e (handler_for e (handlers_in (form_of p s)))
  behind_handled-keeps p name s how.End = nothing-keeps
  behind_handled-keeps p name s how.Return = pass_on-keeps quiet p name how.Return
  behind_handled-keeps p name s (how.Exit loop) = pass_on-keeps quiet p name (how.Exit loop)
  behind_handled-keeps p name s how.Abort = pass_on-keeps quiet p name how.Abort
  behind_handled-keeps p name s how.Terminate = pass_on-keeps quiet p name how.Terminate

  pub end_handled-keeps : (p : Image) (name : Who) (s : StatementNo) (leaving : Leaving) → Keeps X (end_handled p name s leaving)
  unfolding end_handled
  end_handled-keeps p name s leaving = then-keeps _ _ (changes-keeps _ (pop-alters quiet name)) (behind_handled-keeps p name s leaving)

  pub end_top-keeps : (p : Image) (name : Who) → Keeps X (end_top p name)
  unfolding end_top
  end_top-keeps p name = looks-keeps _ (λ w. end_top_abortable-keeps quiet p Own name (frames_of w name))

  pub drop_trigger-alters : (name : Who) (depth : ℕ) → Alters X (drop_trigger name depth)
  drop_trigger-alters (who.Task t) depth = drop_appointment-alters quiet (is_trigger_of t depth)
  drop_trigger-alters who.Agent depth = unchanged-alters

  pub call_main-keeps : (p : Image) (name : Who) (s : StatementNo) → Keeps X (call_main p name s)
  unfolding call_main
  call_main-keeps p name s = search (with_room-keeps, goes-keeps, then-keeps, looks-keeps, changes-keeps, open_scope-alters)

-- the agent has no marks, or is inside a protected action
abbrev pub InsideOrNone : List Frame → Type 0
InsideOrNone frames = (frames ≡ []) ⊎ (any_protected frames ≡ true)

abbrev pub AgentInside : World → Type 0
AgentInside w = InsideOrNone w.agent.frames

inside_top : (frames : List Frame) (f : Frame) → first_of frames ≡ Some f → InsideOrNone frames → any_protected frames ≡ true
inside_top frames f top (inr inside) = inside
inside_top frames f top (inl none) = absurd (let never : None ≡ Some f = ap first_of (sym none) ∙ top in cc)

inside_by : (name : Who) (v : World) (f : Frame) → name ≡ who.Agent → top_of v name ≡ Some f → AgentInside v → in_protected v name ≡ true
inside_by (who.Task t) v f is top h = absurd cc
inside_by who.Agent v f is top h = inside_top v.agent.frames f top h

ticked_found : (name : Who) (w : World) (found : Option Task) → task_at w name ≡ found
    → (edit_task_found name (with_ticks None) w found).agent.frames ≡ w.agent.frames
ticked_found name w None is = refl
ticked_found (who.Task n) w (Some t) is = refl
ticked_found who.Agent w (Some t) is = let one : w.agent ≡ t = cc in ap (λ (u : Task). u.frames) (sym one)

agent-ticked : (name : Who) (w : World) → (edit_task name (with_ticks None) w).agent.frames ≡ w.agent.frames
agent-ticked name w = ticked_found name w (task_at w name) refl

-- who acts has the marks that it had
acting_found : (name : Who) (w : World) (found : Option Task) → task_at w name ≡ found
    → frames_of (edit_task_found name (with_ticks None) w found) name ≡ frames_of w name
acting_found name w None is = refl
acting_found (who.Task n) w (Some t) is =
    ap (λ (r : Option Task). (unwrap_or r nobody).frames) (set_where-found (who.Task n) t (with_ticks None t) w.tasks is refl)
    ∙ sym (ap (λ (r : Option Task). (unwrap_or r nobody).frames) is)
acting_found who.Agent w (Some t) is = let one : w.agent ≡ t = cc in ap (λ (u : Task). u.frames) (sym one)

acting-ticked : (name : Who) (w : World) → frames_of (edit_task name (with_ticks None) w) name ≡ frames_of w name
acting-ticked name w = acting_found name w (task_at w name) refl

-- Who acts: the agent is inside a protected action; the call with which who acts has entered on top was made by it, and a release ends
-- only with an action of the agent.
abbrev pub EnteredBy : List Call × ℕ → Who → ProtectedMark → Type 0
EnteredBy calls name m = ((c : CallNo) → m.own_call ≡ Some c → CallerIn calls.0 calls.1 c name) × ((r : ℕ) → m.release ≡ Some r → who.Agent ≡ name)

abbrev pub TopsEntered : List Call × ℕ → Who → List Frame → Type 0
TopsEntered calls name frames = (f : Frame) (m : ProtectedMark) → first_of frames ≡ Some f → f.mark ≡ InProtected m → EnteredBy calls name m

pub record MayAct (name : Who) (w : World) : Type 0 where
  pub inside : AgentInside w
  pub tops : TopsEntered (calls_in w) name (frames_of w name)

may-ticked : (name : Who) (w : World) → MayAct name w → MayAct name (edit_task name (with_ticks None) w)
may-ticked name w h = record {
  inside = subst InsideOrNone (sym (agent-ticked name w)) h.inside;
  tops =
      subst (λ q. TopsEntered q name (frames_of (edit_task name (with_ticks None) w) name)) (sym (edit-calls name (with_ticks None) w))
      (subst (TopsEntered (calls_in w) name) (sym (acting-ticked name w)) h.tops);
}

module _ {p : Image} {actor : Who} {Fits : Fitting} {Sleeps : Sleeping} {May : Admitting} {Listed Unmade : World → Naming} {F I L W Y B D Z : State}
    {O V : World → State} {N : Lasting} {E : LastingOf}
    (acting : ActingMoves p actor Fits Sleeps May Listed Unmade F I L W Y B D Z O V N E) where
  -- who acts goes on, blocks, or comes to its select
  at_first : (step : Step) → Keeps F step → Leads F W step
  at_first step kept = weakly acting.fresh (not_later acting) step kept

  without : (step : Step) → Leads F I step → Leads F W step
  without step a = to-leads step a (goes_later acting)

  later_on : (step : Step) → Keeps I step → Leads F W step
  later_on step kept = without step (from-leads step acting.starts kept)

  by_entry : (step : Step) → Leads F Y step → Leads F W step
  by_entry step a = to-leads step a acting.rests

  at_last : (step : Step) → Leads I Y step → Leads F W step
  at_last step a = by_entry step (from-leads step acting.starts a)

  wait_for_trigger-leads : (c : Call) (leaving : Leaving) → Leads I Y (wait_for_trigger actor c leaving)
  unfolding wait_for_trigger
  wait_for_trigger-leads c leaving =
      then-leads _ _
      (changes-keeps _
      (edit_top-alters acting.later.base.quiet actor (λ f. with_mark (edit_abortable waiting_mark f.mark) (record f { left_as = Some leaving }))))
      (acting.blocks (waits_for.EndOfCall c.number) refl)

  ends_top : Leads I Y (end_top p actor)
  ends_top = to-leads (end_top p actor) (end_top-keeps acting.later.base.quiet p actor) acting.ceases

  end_abortable_by-leads : (m : AbortableMark) (leaving : Leaving) → Leads I Y (end_abortable_by p actor m leaving)
  unfolding end_abortable_by
  end_abortable_by-leads m leaving =
      option-leads m.call (looks (λ w. changes (drop_trigger actor (below (frames_of w actor)))) ▷ end_top p actor)
      (λ c. with_call c (λ d. attempt_with p Own d (end_top p actor) (wait_for_trigger actor d leaving)))
      (then-leads _ _ (looks-keeps _ (λ w. changes-keeps _ (drop_trigger-alters acting.later.base.quiet actor (below (frames_of w actor))))) ends_top)
      (λ c. looks-leads _
      (λ w. for_some-leads (call_of w c) _ acting.ceases
      (λ d.
      attempt_with-leads acting.later.base.quiet p Own d (end_top p actor) (wait_for_trigger actor d leaving) ends_top (wait_for_trigger-leads d leaving))))

  end_in_abortable-leads : (m : AbortableMark) (leaving : Leaving) → Leads I Y (end_in_abortable p actor m leaving)
  unfolding end_in_abortable
  end_in_abortable-leads m leaving = cond-leads m.triggered (end_top p actor) (end_abortable_by p actor m leaving) ends_top (end_abortable_by-leads m leaving)

  call-leads : (s : StatementNo) (callee : Callee) (actuals : List Actual) (to : Destination) → Leads F W (call p actor s callee actuals to)
  unfolding call
  call-leads s (callee.Subprogram f) actuals to = at_first _ (call_subprogram-keeps acting.fresh p actor s f actuals to)
  call-leads s (callee.Operation d f) actuals to = by_entry _ (call_operation-leads acting s d f actuals to)
  call-leads s (callee.OwnOperation f) actuals to = at_first _ (call_own_operation-keeps acting.fresh p actor s f actuals to)

  -- the agent acts inside a protected action
  abbrev InsideIfAgent : World → Type 0
  InsideIfAgent v = actor ≡ who.Agent → in_protected v actor ≡ true

  last_at : (v : World) (step : Step) → Leads (At I v) Y step → Leads (At F v) W step
  last_at v step a = to-leads step (from-leads step (λ w said h. (acting.starts w said h.0, h.1)) a) acting.rests

  act_statement-leads : (v : World) → InsideIfAgent v → (s : StatementNo) (form : StatementForm) → Leads (At F v) W (act_statement p actor s form)
  unfolding act_statement
  act_statement-leads v inside s (form.Declare object) = from_at _ (later_on _ (declare-keeps acting.later.base.quiet p acting.makes actor s object))
  act_statement-leads v inside s (form.Initialize object) = from_at _ (at_first _ (initialize-keeps acting.fresh p actor s object))
  act_statement-leads v inside s (form.CreateTask object part) = from_at _ (without _ (create-leads acting s object part))
  act_statement-leads v inside s (form.Activate part) = from_at _ (at_last _ (activate-leads acting s part))
  act_statement-leads v inside s form.EndActivation = from_at _ (later_on _ (end_own_activation-keeps acting s))
  act_statement-leads v inside s form.CallMain = from_at _ (at_first _ (call_main-keeps acting.fresh p actor s))
  act_statement-leads v inside s (form.Handled handlers first) = from_at _ (at_first _ nothing-keeps)
  act_statement-leads v inside s form.Null = from_at _ (at_first _ (null-keeps acting.fresh p actor s))
  act_statement-leads v inside s (form.Assign target e) = from_at _ (at_first _ (assign-keeps acting.fresh p actor s target e))
  act_statement-leads v inside s (form.AssignArray target source) = from_at _ (at_first _ (assign_array-keeps acting.fresh p actor s target source))
  act_statement-leads v inside s (form.AssignControlled target source) = from_at _ (at_first _ (assign_controlled-keeps acting.fresh p actor s target source))
  act_statement-leads v inside s (form.If condition first otherwise) =
      from_at _ (at_first _ (if_statement-keeps acting.fresh p actor condition first otherwise))
  act_statement-leads v inside s (form.Case selector alternatives) = from_at _ (at_first _ (case_statement-keeps acting.fresh p actor selector alternatives))
  act_statement-leads v inside s (form.Loop body within) = from_at _ (at_first _ (goes-keeps acting.fresh actor (Some body)))
  act_statement-leads v inside s (form.While condition body within) = from_at _ (at_first _ (while_turn-keeps acting.fresh p actor s condition body))
  act_statement-leads v inside s (form.For parameter reverse low high turn within) =
      from_at _ (at_first _ (for_bounds-keeps acting.fresh p actor parameter reverse low high turn))
  act_statement-leads v inside s (form.FirstTurn parameter reverse body) =
      from_at _ (at_first _ (first_turn-keeps acting.fresh p actor s parameter reverse body))
  act_statement-leads v inside s (form.LaterTurn parameter reverse body) =
      from_at _ (at_first _ (later_turn-keeps acting.fresh p actor s parameter reverse body))
  act_statement-leads v inside s (form.Exit condition of_loop) = from_at _ (at_first _ (exit_statement-keeps acting.fresh p actor s of_loop condition))
  act_statement-leads v inside s (form.Block scope) = from_at _ (at_first _ (block_statement-keeps acting.fresh p actor s scope))
  act_statement-leads v inside s form.Return = from_at _ (at_first _ (return-keeps acting.fresh actor))
  act_statement-leads v inside s (form.ReturnValue function e) = from_at _ (at_first _ (return_value-keeps acting.fresh p actor function e))
  act_statement-leads v inside s (form.Raise e) = from_at _ (at_first _ (raises-keeps acting.fresh Own actor e))
  act_statement-leads v inside s (form.RaiseAgain scope) = from_at _ (at_first _ (raise_again-keeps acting.fresh p actor scope))
  act_statement-leads v inside s (form.Delay e) = from_at _ (at_last _ (sees-leads p actor _ (λ q. delay_until-leads acting s (relative_moment q e))))
  act_statement-leads v inside s (form.DelayUntil e) = from_at _ (at_last _ (sees-leads p actor _ (λ q. delay_until-leads acting s (moment q e))))
  act_statement-leads v inside s (form.Call callee actuals to) = from_at _ (call-leads s callee actuals to)
  act_statement-leads v inside s (form.PutLine pieces) = from_at _ (at_first _ (put_line-keeps acting.fresh p actor s pieces))
  act_statement-leads v inside s (form.EntryCall entry owner actuals) = from_at _ (by_entry _ (entry_call-leads acting call_kind.Plain s))
  act_statement-leads v inside s (form.ConditionalCall call otherwise) = from_at _ (by_entry _ (entry_call-leads acting call_kind.Conditional s))
  act_statement-leads v inside s (form.TimedCall call delay) = from_at _ (by_entry _ (entry_call-leads acting call_kind.Timed s))
  act_statement-leads v inside s (form.AsynchronousSelect trigger abortable) = from_at _ (by_entry _ (asynchronous_select-leads acting s trigger))
  act_statement-leads v inside s (form.Accept entry scope) = from_at _ (at_last _ (accept-leads acting s entry))
  act_statement-leads v inside s (form.SelectiveAccept alternatives otherwise) = from_at _ (selective_accept-leads acting s alternatives otherwise)
  act_statement-leads v inside s (form.Abort tasks) = from_at _ (later_on _ (abort_statement-keeps acting s tasks))
  act_statement-leads v inside s (form.Requeue entry owner with_abort) = from_at _ (at_first _ (requeue-keeps acting.fresh p actor entry owner with_abort))
  act_statement-leads v inside s (form.SetEvent event set handler) =
      from_at _ (later_on _ (set_event-keeps acting.later.base (acting.later.fits_own who.Agent) actor s event set handler))
  act_statement-leads v inside s (form.CancelEvent event cancelled) = from_at _ (at_first _ (cancel_event-keeps acting.fresh p actor s event cancelled))
  act_statement-leads v inside s (form.SetTimer timer set handler) =
      from_at _ (later_on _ (set_timer-keeps acting.later.base (acting.later.fits_own who.Agent) actor s timer set handler))
  act_statement-leads v inside s (form.CancelTimer timer cancelled) = from_at _ (at_first _ (cancel_timer-keeps acting.fresh p actor s timer cancelled))
  act_statement-leads v inside s (form.AddTask budget task) = from_at _ (at_first _ (add_member-keeps acting.fresh p actor s budget task))
  act_statement-leads v inside s (form.RemoveTask budget task) = from_at _ (at_first _ (remove_member-keeps acting.fresh p actor s budget task))
  act_statement-leads v inside s (form.Replenish budget to) = from_at _ (at_first _ (replenish-keeps acting.fresh p actor s budget to))
  act_statement-leads v inside s (form.AddToBudget budget interval) = from_at _ (at_first _ (add_to_budget-keeps acting.fresh p actor s budget interval))
  act_statement-leads v inside s (form.SetBudget budget handler) = from_at _ (at_first _ (set_budget-keeps acting.fresh p actor s budget handler))
  act_statement-leads v inside s (form.CancelBudget budget cancelled) = from_at _ (at_first _ (cancel_budget-keeps acting.fresh p actor s budget cancelled))
  act_statement-leads v inside s (form.SetPriority priority task) = from_at _ (without _ (set_priority-leads acting s priority task))
  act_statement-leads v inside s (form.SetQuantum level quantum) = from_at _ (at_first _ (set_quantum-keeps acting.fresh p actor s level quantum))
  act_statement-leads v inside s (form.SetDeadline deadline task) = from_at _ (without _ (set_deadline_of-leads acting s deadline task))
  act_statement-leads v inside s (form.DelayUntilAndSetDeadline until offset) = last_at v _ (delay_and_set_deadline-leads acting v s until offset inside)

  end_mark-leads : (v : World) (f : Frame) (mark : Mark) → ((m : ProtectedMark) → mark ≡ InProtected m → EnteredBy (calls_in v) actor m)
      → Leads (At F v) W (end_mark p actor f mark)
  unfolding end_mark
  end_mark-leads v f (Scope m) own = from_at _ (end_scope_mark-leads acting m (leaving_of f))
  end_mark-leads v f (Handled s) own = from_at _ (at_first _ (end_handled-keeps acting.fresh p actor s (leaving_of f)))
  end_mark-leads v f (InProtected m) own =
      to-leads _ (from-leads (end_in_protected p actor m (leaving_of f))
      (λ w said h. (acting.starts w said h.0, subst (λ u. OwnCall m.own_call actor u) (sym h.1) (own m refl).0))
      (end_in_protected-leads acting m (leaving_of f) (own m refl).1)) acting.rests
  end_mark-leads v f (InAccept m) own = from_at _ (later_on _ (end_in_accept-keeps acting m (leaving_of f)))
  end_mark-leads v f (Abortable m) own = from_at _ (at_last _ (end_in_abortable-leads m (leaving_of f)))
  end_mark-leads v f (InInitialize l) own = from_at _ (at_first _ (end_in_initialize-keeps acting.fresh p actor l (leaving_of f)))
  end_mark-leads v f (InFinalize o) own = from_at _ (at_first _ (end_in_finalize-keeps acting.fresh p actor (leaving_of f)))
  end_mark-leads v f (InAssign m) own = from_at _ (at_first _ (end_in_assign-keeps acting.fresh p actor m f.left_as))

  act_frame-leads : (v : World) → InsideIfAgent v → (f : Frame) → ((m : ProtectedMark) → f.mark ≡ InProtected m → EnteredBy (calls_in v) actor m)
      → (next : Option StatementNo) → Leads (At F v) W (act_frame p actor f next)
  unfolding act_frame
  act_frame-leads v inside f own (Some s) = act_statement-leads v inside s (form_of p s)
  act_frame-leads v inside f own None = end_mark-leads v f f.mark own

  -- the agent without a rest calls the handler of what it serves
  act_without-leads : (name : Who) (serving : Option Release) → name ≡ actor → Leads F W (act_without p name serving)
  unfolding act_without
  act_without-leads name None is = at_first nothing nothing-keeps
  act_without-leads who.Agent (Some r) is = by_entry (call_handler p r) (call_handler-leads acting r is)
  act_without-leads (who.Task t) (Some r) is = at_first nothing nothing-keeps

  act_top-leads : (v : World) → MayAct actor v → (found : Option Frame) → top_of v actor ≡ found → Leads (At F v) W (act_top p actor found)
  unfolding act_top
  act_top-leads v may None is = from_at _ (looks-leads _ (λ w. act_without-leads actor w.serving refl))
  act_top-leads v may (Some f) is = act_frame-leads v (λ agent. inside_by actor v f agent is may.inside) f (λ m mark. may.tops f m is mark) f.onward

  act-leads : Leads (With F (MayAct actor)) W (act p actor)
  unfolding act
  act-leads = looks-with _ (λ v said h. from-leads _ (λ w more k. (k.0.0, k.1)) (act_top-leads v h.1 (top_of v actor) refl))

  -- all of the effect: no other is who acts
  pub effect-leads : Leads (With F (MayAct actor)) B (effect p actor)
  unfolding effect
  effect-leads =
      then-leads (changes (edit_task actor (with_ticks None))) _
      (changes-leads (edit_task actor (with_ticks None))
      (λ w said h. ((edit_task-alters acting.fresh actor (with_ticks None) (λ t. refl)).turns w said h.0, may-ticked actor w h.1)))
      (then-leads (act p actor) _ act-leads
      (then-leads (open_if_ready p actor) _ (open_if_ready-keeps acting.choosing.quiet p actor)
      (then-leads (take_terminates p actor) _ (take_terminates-leads acting.choosing)
      (unwind_all-keeps acting.over actor (λ name apart. (acting.later.fits_other name, apart))))))
