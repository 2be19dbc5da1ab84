-- Entry calls: each step keeps what its parts keep.
use Rattle.ann_base.specs.declared.exceptions.Raised.{Raised}
use Rattle.ann_base.specs.declared.exceptions.Raised.TheVariants as exception
use Rattle.ann_base.specs.declared.identities.CallNo.{CallNo}
use Rattle.ann_base.specs.declared.identities.ObjectNo.{ObjectNo}
use Rattle.ann_base.specs.declared.identities.TaskNo.{TaskNo}
use Rattle.ceiling_laws.proofs.Fine.CallLemmas.{added-caller}
use Rattle.ceiling_laws.proofs.Fine.Cores.{Same}
use Rattle.world_laws.proofs.Places.ActingMoves.{ActingMoves, Lasting, LastingOf}
use Rattle.ceiling_laws.proofs.Fine.Kept.CallEnds.{gone-keeps}
use Rattle.ceiling_laws.proofs.Fine.Kept.Calls.{edit_call-alters, enqueue-keeps, forget_call-alters, says_call-keeps}
use Rattle.ceiling_laws.proofs.Fine.Kept.Frames.{given-keeps, given-through, goes-keeps, leaves-keeps, raise_if-keeps}
use Rattle.ceiling_laws.proofs.Fine.Kept.Frames.{raise_if-through, raises-keeps, weakly, with_room-keeps, with_room-through}
use Rattle.world_laws.proofs.Places.Kept.Protected.{Admitted, admitted_changes, admitted_says, begin_action_on-leads}
use Rattle.world_laws.proofs.Places.Kept.Protected.{has_entered, not_yet, serve_call-leads, where_let_inside-leads}
use Rattle.world_laws.proofs.Places.Kept.Rendezvous.{accepting_sleeps, meet-leads, meet_without_room-leads}
use Rattle.ceiling_laws.proofs.Fine.Kept.Scopes.{appoint-alters}
use Rattle.world_laws.proofs.Places.Kept.Sending.{not_accepted-leads, open_abortable-alters}
use Rattle.ceiling_laws.proofs.Fine.Kept.Tasks.{same-alters, says-keeps}
use Rattle.ceiling_laws.proofs.Fine.Kept.Waking.{asleep_at, asleep_quiet}
use Rattle.ceiling_laws.proofs.Fine.LevelMoves.{Silences}
use Rattle.ceiling_laws.proofs.Fine.SameLemmas.{edit_task-same}
use Rattle.ceiling_laws.proofs.Runs.Triples.{Alters, At, Keeps, Leads, State, With, branch-leads, changes-keeps, from-leads, from_at, looks-keeps, looks-leads}
use Rattle.ceiling_laws.proofs.Runs.Triples.{looks-with, nothing-keeps, sees-keeps, sees-leads, then-keeps, then-leads, to-leads, unchanged-alters}
use Rattle.profile_machine.specs.Calls.{is_full, says_call}
use Rattle.profile_machine.specs.Dispatching.{active_of, block}
use Rattle.profile_machine.specs.EntryCalls.{add_call, appoint_trigger, async_by_trigger, async_delay, asynchronous_select, call_accepted_by, call_by_barrier}
use Rattle.profile_machine.specs.EntryCalls.{call_callable, call_closed, call_gone, call_meets, call_named, call_not_met, call_object, call_owner}
use Rattle.profile_machine.specs.EntryCalls.{call_passes, call_queues, call_refused, call_runs, call_runs_if_room, call_task, call_without_room, end_at_once}
use Rattle.profile_machine.specs.EntryCalls.{entry_call, entry_parameters, has_room_for_action, is_forbidden, make_call, mark_sending, marks_if_queued}
use Rattle.profile_machine.specs.EntryCalls.{named_call, new_call, numbered, owner_of_entry, requeue, timed_moment, trigger_delay, with_sending}
use Rattle.profile_machine.specs.Frames.{edit_first, edit_top, frames_of, goes, goes_on, raises, with_room}
use Rattle.profile_image.specs.Program.{entry_of, form_of, next_of}
use Rattle.profile_machine.specs.Protected.{begin_action_on, is_barrier_open, where_let_inside}
use Rattle.profile_machine.specs.Rendezvous.{accept_for, delay_moment, is_callable}
use Rattle.profile_machine.specs.Steps.{Step, changes, looks, nothing, says}
use Rattle.profile_machine.specs.Subprograms.{call_that_returns}
use Rattle.profile_machine.specs.Tasks.{waiting_of, with_frames}
use Rattle.profile_image.specs.declared.image.Image.{Image}
use Rattle.profile_image.specs.declared.numbers.EntryNo.{EntryNo}
use Rattle.profile_image.specs.declared.numbers.StatementNo.{StatementNo}
use Rattle.profile_machine.specs.declared.run_data.Leaving.TheVariants as how
use Rattle.profile_image.specs.declared.statements.EntryOwner.{EntryOwner}
use Rattle.profile_image.specs.declared.statements.StatementForm.{StatementForm}
use Rattle.profile_image.specs.declared.statements.StatementForm.TheVariants as form
use Rattle.profile_machine.specs.declared.world.World.{World}
use Rattle.profile_machine.specs.declared.world.appointments.Due.TheVariants as due_for
use Rattle.profile_machine.specs.declared.world.calls.Call.{Call}
use Rattle.profile_machine.specs.declared.world.calls.CallKind.{CallKind}
use Rattle.profile_machine.specs.declared.world.calls.CallKind.TheVariants as call_kind
use Rattle.profile_machine.specs.declared.world.calls.EntryCallNamed.{EntryCallNamed}
use Rattle.profile_machine.specs.declared.world.calls.Owner.{Owner}
use Rattle.profile_machine.specs.declared.world.calls.Owner.TheVariants as owned_by
use Rattle.profile_machine.specs.declared.world.lines.Line.TheVariants as line
use Rattle.profile_machine.specs.declared.world.lines.MeetingEnd.TheVariants as meeting
use Rattle.profile_machine.specs.declared.world.lines.Part.{Part}
use Rattle.profile_machine.specs.declared.world.lines.Part.TheVariants.{OfOther, Own, TheBlock, TheCall, TheFinish}
use Rattle.profile_machine.specs.declared.world.tasks.Waiting.TheVariants as waits_for
use Rattle.std.proofs.Common.{refl, subst, sym, ◌≡◌}
use Rattle.std.specs.Prelude.{Bool, None, Option, Some, false, int_lt, length, pos, suc, true, ℕ, ℤ}
use Rattle.trace_text.specs.declared.events.Mode.TheVariants.{Write}
use Rattle.trace_text.specs.declared.events.Who.{Who}
use Rattle.trace_text.specs.declared.events.Who.TheVariants as who
use Rattle.ceiling_laws.proofs.Runs.LevelMoves.{Fitting, Sleeping}
use Rattle.ceiling_laws.proofs.Runs.ActingMoves.{Admitting}
use Rattle.machine_laws.proofs.FineMoves.{Naming}

add_call-same : (c : Call) (w : World) → Same w (add_call c w)
add_call-same c w = record {
  tasks = refl;
  agent = refl;
  objects = refl;
  drawn_tasks = refl;
  drawn_objects = refl;
  callers = λ k n m. added-caller c w.calls w.drawn.calls n k m;
  delays = λ t e. e;
}

module _ {X : State} (quiet : Silences X) where
  pub add_call-alters : (c : Call) → Alters X (add_call c)
  add_call-alters c = same-alters quiet (add_call c) (add_call-same c)

  pub end_at_once-keeps : (part : Part) (c : Call) (e : Raised) → Keeps X (end_at_once part c e)
  unfolding end_at_once
  end_at_once-keeps part c e = then-keeps _ _ (changes-keeps _ (forget_call-alters quiet c.number)) (raises-keeps quiet part (who.Task c.caller) e)

  pub call_gone-keeps : (p : Image) (c : Call) → Keeps X (call_gone p c)
  unfolding call_gone
  call_gone-keeps p c = then-keeps _ _ (gone-keeps quiet p Own c) (end_at_once-keeps Own c exception.Tasking)

  pub appoint_trigger-alters : (name : Who) (depth : ℕ) (m : ℤ) → Alters X (appoint_trigger name depth m)
  appoint_trigger-alters (who.Task t) depth m = appoint-alters quiet (due_for.Trigger t depth) m (λ u. refl)
  appoint_trigger-alters who.Agent depth m = unchanged-alters

  trigger_delay-keeps : (p : Image) (name : Who) (s trigger : StatementNo) (m : ℤ) (test : Bool) → Keeps X (trigger_delay p name s trigger m test)
  unfolding trigger_delay
  trigger_delay-keeps p name s trigger m false = goes-keeps quiet name (next_of p trigger)
  trigger_delay-keeps p name s trigger m true =
      with_room-keeps quiet name 1 0 _
      (then-keeps _ _ (goes-keeps quiet name (next_of p s))
      (looks-keeps _
      (λ w. then-keeps _ _ (changes-keeps _ (open_abortable-alters quiet p name s None))
      (changes-keeps _ (appoint_trigger-alters name (length (frames_of w name)) m)))))

  pub async_delay-keeps : (p : Image) (name : Who) (s trigger : StatementNo) → Keeps X (async_delay p name s trigger)
  unfolding async_delay
  async_delay-keeps p name s trigger =
      sees-keeps p name _
      (λ q. raise_if-keeps quiet name (is_forbidden q.world name call_kind.Triggering) exception.Program _
      (given-keeps quiet Own name (delay_moment q trigger) _ (λ m. trigger_delay-keeps p name s trigger m (int_lt (pos q.world.time) m))))

  pub mark_sending-alters : (c : Option CallNo) (o : Owner) (e : EntryNo) (with_abort : Bool) → Alters X (mark_sending c o e with_abort)
  mark_sending-alters None o e with_abort = unchanged-alters
  mark_sending-alters (Some c) o e with_abort = edit_call-alters quiet c (with_sending o e with_abort) (λ d. refl) (λ d. refl)

  pub requeue-keeps : (p : Image) (name : Who) (e : EntryNo) (o : EntryOwner) (with_abort : Bool) → Keeps X (requeue p name e o with_abort)
  unfolding requeue
  requeue-keeps p name e o with_abort =
      sees-keeps p name _
      (λ q. given-keeps quiet Own name (owner_of_entry q e o) _
      (λ target. then-keeps _ _ (changes-keeps _ (mark_sending-alters (call_that_returns (frames_of q.world name)) target e with_abort))
      (leaves-keeps quiet name how.Return)))

-- ---- by who acts

module _ {p : Image} {actor : Who} {Fits : Fitting} {Sleeps : Sleeping} {May : Admitting} {Listed Unmade : World → Naming} {F I L W Y B D Z : State}
    {O V : World → State} {N : Lasting} {E : LastingOf}
    (acting : ActingMoves p actor Fits Sleeps May Listed Unmade F I L W Y B D Z O V N E) where
  make_call-leads : (c : Call) (step : Call → Step) → ((n : ℕ) → Leads I Y (step (numbered n c))) → Leads I Y (make_call p c step)
  make_call-leads c step kept =
      then-leads _ _ (goes-keeps acting.later.base.quiet (who.Task c.caller) (next_of p c.statement))
      (looks-leads _
      (λ w. then-leads _ _ (changes-keeps _ (add_call-alters acting.later.base.quiet c))
      (then-leads _ _ (says_call-keeps acting.later.base.quiet TheCall (numbered (suc w.drawn.calls) c)) (kept (suc w.drawn.calls)))))

  -- where it goes on
  on_so : (step : Step) → Keeps I step → Leads I Y step
  on_so step kept = to-leads step kept acting.ceases

  -- ---- of a task's entry

  -- the callee waits when the call is made
  call_meets-leads : (t : TaskNo) (s : StatementNo) (c : Call) → who.Task c.caller ≡ actor → Leads (With I (λ w. Sleeps w (who.Task t))) Y (call_meets p t s c)
  unfolding call_meets
  call_meets-leads t s c is =
      meet-leads acting.later.base (OfOther (who.Task t)) (who.Task t) s c (block TheBlock (who.Task c.caller) (waits_for.Call c.number))
      (end_at_once TheFinish c exception.Storage) (acting.later.fits_other (who.Task t))
      (subst (λ n. Leads I Y (block TheBlock n (waits_for.Call c.number))) (sym is) (acting.blocks (waits_for.Call c.number) refl))
      (to-leads _ (meet_without_room-leads acting.later.base (OfOther (who.Task t)) (who.Task t) s c (end_at_once TheFinish c exception.Storage)
      (acting.later.fits_other (who.Task t)) (end_at_once-keeps (asleep_quiet acting.later.base (who.Task t)) TheFinish c exception.Storage)) acting.ceases)

  make_meeting-leads : (t : TaskNo) (s : StatementNo) (c : Call) → who.Task c.caller ≡ actor
      → Leads (With I (λ w. Sleeps w (who.Task t))) Y (make_call p c (call_meets p t s))
  make_meeting-leads t s c is =
      let quiet = asleep_quiet acting.later.base (who.Task t) in
      then-leads (goes (who.Task c.caller) (next_of p c.statement)) _ (goes-keeps quiet (who.Task c.caller) (next_of p c.statement))
      (looks-leads _ (λ w. then-leads (changes (add_call c)) _ (changes-keeps _ (add_call-alters quiet c))
      (then-leads (says_call TheCall (numbered (suc w.drawn.calls) c)) _ (says_call-keeps quiet TheCall (numbered (suc w.drawn.calls) c))
      (call_meets-leads t s (numbered (suc w.drawn.calls) c) is))))

  call_queues-leads : (c : Call) → who.Task c.caller ≡ actor → Leads I Y (call_queues p c)
  unfolding call_queues
  call_queues-leads c is = then-leads _ _ (enqueue-keeps acting.later.base.quiet p c.number) (not_accepted-leads acting Own c c.kind is)

  call_not_met-leads : (c : Call) (test : Bool) → who.Task c.caller ≡ actor → Leads I Y (call_not_met p c test)
  unfolding call_not_met
  call_not_met-leads c true is =
      make_call-leads c (λ d. end_at_once Own d exception.Program)
      (λ n. on_so _ (end_at_once-keeps acting.later.base.quiet Own (numbered n c) exception.Program))
  call_not_met-leads c false is =
      with_room-through acting.later.base.quiet (λ w k h. h) acting.ceases (who.Task c.caller) (marks_if_queued c.kind) 0 _
      (make_call-leads c (call_queues p) (λ n. call_queues-leads (numbered n c) is))

  call_accepted_by-at : (v : World) (t : TaskNo) (c : Call) (next : Option StatementNo) → accept_for p c.entry (waiting_of v (who.Task t)) ≡ next
      → who.Task c.caller ≡ actor → Leads (At I v) Y (call_accepted_by p t c next)
  unfolding call_accepted_by
  call_accepted_by-at v t c (Some s) e is =
      asleep_at acting.later.base (who.Task t) v _ (accepting_sleeps acting.later.base v c.entry (who.Task t) s e) (make_meeting-leads t s c is)
  call_accepted_by-at v t c None e is = from_at _ (looks-leads _ (λ w. call_not_met-leads c (is_full p w c.owner c.entry) is))

  call_callable-leads : (t : TaskNo) (c : Call) (test : Bool) → who.Task c.caller ≡ actor → Leads I Y (call_callable p t c test)
  unfolding call_callable
  call_callable-leads t c false is = make_call-leads c (call_gone p) (λ n. on_so _ (call_gone-keeps acting.later.base.quiet p (numbered n c)))
  call_callable-leads t c true is = looks-with _ (λ v said h. call_accepted_by-at v t c (accept_for p c.entry (waiting_of v (who.Task t))) refl is)

  call_task-leads : (t : TaskNo) (c : Call) → who.Task c.caller ≡ actor → Leads I Y (call_task p t c)
  unfolding call_task
  call_task-leads t c is = looks-leads _ (λ w. call_callable-leads t c (is_callable w t) is)

  -- ---- of a protected entry, whose caller is let in

  enters_as : (o : ObjectNo) (name : Who) → name ≡ actor → Leads (Admitted acting o) I (says Own (line.Enter name o Write))
  enters_as o name is = subst (λ n. Leads (Admitted acting o) I (says Own (line.Enter n o Write))) (sym is) (acting.enters o Write)

  make_entering-leads : {G : State} (o : ObjectNo) (c : Call) (step : Call → Step) → ((n : ℕ) → Leads (Admitted acting o) G (step (numbered n c)))
      → Leads (Admitted acting o) G (make_call p c step)
  unfolding goes says_call
  make_entering-leads o c step kept =
      then-leads (changes (edit_top (who.Task c.caller) (goes_on (next_of p c.statement)))) _
      (admitted_changes acting o _
      (λ w. edit_task-same (who.Task c.caller) (λ t. with_frames (edit_first (goes_on (next_of p c.statement)) t.frames) t) w (λ t. refl)))
      (looks-leads _ (λ w. then-leads (changes (add_call c)) _ (admitted_changes acting o (add_call c) (add_call-same c))
      (let d = numbered (suc w.drawn.calls) c in
      then-leads (says TheCall (line.Call d.caller d.number d.owner d.entry d.priority)) _
      (admitted_says acting o TheCall (line.Call d.caller d.number d.owner d.entry d.priority) refl) (kept (suc w.drawn.calls)))))

  call_runs-leads : (o : ObjectNo) (c : Call) → who.Task c.caller ≡ actor → Leads (Admitted acting o) I (call_runs p o c)
  unfolding call_runs
  call_runs-leads o c is =
      then-leads (begin_action_on p (who.Task c.caller) o Write (Some c.number) None) _
      (subst (λ n. Leads (Admitted acting o) I (begin_action_on p n o Write (Some c.number) None)) (sym is)
      (begin_action_on-leads acting o Write (Some c.number) None))
      (serve_call-leads acting.later.base.quiet p Own (who.Task c.caller) o c nothing nothing nothing-keeps nothing-keeps)

  call_without_room-leads : (o : ObjectNo) (c : Call) → who.Task c.caller ≡ actor → Leads (Admitted acting o) I (call_without_room o c)
  unfolding call_without_room
  call_without_room-leads o c is =
      let name = who.Task c.caller in
      let quiet = acting.later.base.quiet in
      then-leads (says Own (line.Enter name o Write)) _ (enters_as o name is)
      (then-keeps _ _ (says-keeps quiet Own (line.Start name c.number) refl)
      (then-keeps _ _ (says-keeps quiet Own (line.Finish name c.number (meeting.Raised exception.Storage)) refl)
      (then-keeps _ _ (acting.exits name o) (end_at_once-keeps quiet Own c exception.Storage))))

  call_runs_if_room-leads : (o : ObjectNo) (c : Call) → who.Task c.caller ≡ actor → Leads (Admitted acting o) I (call_runs_if_room p o c)
  unfolding call_runs_if_room
  call_runs_if_room-leads o c is =
      looks-leads _
      (λ w. branch-leads (has_room_for_action p w c) (call_runs p o c) (call_without_room o c) (call_runs-leads o c is) (call_without_room-leads o c is))

  call_passes-leads : (o : ObjectNo) (c : Call) → who.Task c.caller ≡ actor → Leads (Admitted acting o) Y (call_passes p o c)
  unfolding call_passes
  call_passes-leads o c is =
      then-leads (says Own (line.Enter (who.Task c.caller) o Write)) _ (enters_as o (who.Task c.caller) is)
      (then-leads _ _ (enqueue-keeps acting.later.base.quiet p c.number)
      (then-leads _ _ (acting.exits (who.Task c.caller) o) (not_accepted-leads acting Own c c.kind is)))

  call_refused-leads : (o : ObjectNo) (c : Call) → who.Task c.caller ≡ actor → Leads (Admitted acting o) I (call_refused o c)
  unfolding call_refused
  call_refused-leads o c is =
      then-leads (says Own (line.Enter (who.Task c.caller) o Write)) _ (enters_as o (who.Task c.caller) is)
      (then-keeps _ _ (acting.exits (who.Task c.caller) o)
      (end_at_once-keeps acting.later.base.quiet Own c exception.Program))

  room_admitted : (o : ObjectNo) (name : Who) (marks cells : ℕ) (step : Step) → Leads (Admitted acting o) Y step
      → Leads (Admitted acting o) Y (with_room name marks cells step)
  room_admitted o name marks cells step kept = with_room-through acting.fresh (λ w k h. h.0) (not_yet acting) name marks cells step kept

  call_closed-leads : (o : ObjectNo) (c : Call) (test : Bool) → who.Task c.caller ≡ actor → Leads (Admitted acting o) Y (call_closed p o c test)
  unfolding call_closed
  call_closed-leads o c true is =
      has_entered acting (make_call p c (call_refused o)) (make_entering-leads o c (call_refused o) (λ n. call_refused-leads o (numbered n c) is))
  call_closed-leads o c false is =
      room_admitted o (who.Task c.caller) (marks_if_queued c.kind) 0 _ (make_entering-leads o c (call_passes p o) (λ n. call_passes-leads o (numbered n c) is))

  call_by_barrier-leads : (o : ObjectNo) (c : Call) (test : Bool) → who.Task c.caller ≡ actor → Leads (Admitted acting o) Y (call_by_barrier p o c test)
  unfolding call_by_barrier
  call_by_barrier-leads o c true is =
      room_admitted o (who.Task c.caller) 1 0 _
      (has_entered acting (make_call p c (call_runs_if_room p o))
      (make_entering-leads o c (call_runs_if_room p o) (λ n. call_runs_if_room-leads o (numbered n c) is)))
  call_by_barrier-leads o c false is = looks-leads _ (λ w. call_closed-leads o c (is_full p w c.owner c.entry) is)

  call_object-leads : (o : ObjectNo) (c : Call) → who.Task c.caller ≡ actor → Leads F Y (call_object p o c)
  unfolding call_object
  call_object-leads o c is =
      subst (λ n. Leads F Y (where_let_inside p n o Write (looks (λ w. call_by_barrier p o c (is_barrier_open p w (who.Task c.caller) o c.entry))))) (sym is)
      (where_let_inside-leads acting o Write _ (looks-leads _ (λ w. call_by_barrier-leads o c (is_barrier_open p w (who.Task c.caller) o c.entry) is)))

  call_owner-leads : (c : Call) (owner : Owner) → who.Task c.caller ≡ actor → Leads F Y (call_owner p c owner)
  unfolding call_owner
  call_owner-leads c (owned_by.Task t) is = from-leads (call_task p t c) acting.starts (call_task-leads t c is)
  call_owner-leads c (owned_by.Object o) is = call_object-leads o c is

  call_named-leads : (t : TaskNo) (kind : CallKind) (s : StatementNo) (n : EntryCallNamed) → who.Task t ≡ actor → Leads F Y (call_named p t kind s n)
  unfolding call_named
  call_named-leads t kind s n is =
      sees-leads p (who.Task t) _ (λ q.
      given-through acting.fresh (λ w k h. h) (not_yet acting) Own (who.Task t) (owner_of_entry q n.entry n.owner) _ (λ o.
      given-through acting.fresh (λ w k h. h) (not_yet acting) Own (who.Task t) (entry_parameters q (entry_of p n.entry).formals n.actuals) _ (λ parameters.
      given-through acting.fresh (λ w k h. h) (not_yet acting) Own (who.Task t) (timed_moment q (form_of p s)) _
      (λ m. call_owner-leads (new_call t kind s n o (active_of p q.world (who.Task t)) parameters m) o is))))

  entry_call_by : (name : Who) (kind : CallKind) (s : StatementNo) → name ≡ actor → Leads F Y (entry_call p name kind s)
  unfolding entry_call
  entry_call_by (who.Task t) kind s is =
      looks-leads _
      (λ w. raise_if-through acting.fresh (λ v k h. h) (not_yet acting) (who.Task t) (is_forbidden w (who.Task t) kind) exception.Program _
      (call_named-leads t kind s (named_call p s) is))
  entry_call_by who.Agent kind s is =
      weakly acting.fresh (not_yet acting) (raises Own who.Agent exception.Program) (raises-keeps acting.fresh Own who.Agent exception.Program)

  pub entry_call-leads : (kind : CallKind) (s : StatementNo) → Leads F Y (entry_call p actor kind s)
  entry_call-leads kind s = entry_call_by actor kind s refl

  async_by_trigger-leads : (s trigger : StatementNo) (form : StatementForm) → Leads F Y (async_by_trigger p actor s trigger form)
  unfolding async_by_trigger
  async_by_trigger-leads s trigger (form.EntryCall entry owner actuals) = entry_call-leads call_kind.Triggering s
  async_by_trigger-leads s trigger _ = weakly acting.fresh (not_yet acting) (async_delay p actor s trigger) (async_delay-keeps acting.fresh p actor s trigger)

  pub asynchronous_select-leads : (s trigger : StatementNo) → Leads F Y (asynchronous_select p actor s trigger)
  unfolding asynchronous_select
  asynchronous_select-leads s trigger = async_by_trigger-leads s trigger (form_of p trigger)
