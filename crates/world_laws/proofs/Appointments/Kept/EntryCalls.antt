-- Entry calls: each step keeps a relation that its parts keep.
use Rattle.std.proofs.Common.{eq-eqb, sym, subst, cond, arith, ◌≡◌, refl, ap, ◌∙◌}
use Rattle.std.specs.Prelude.{find, eqb, ℕ, suc, ℤ, pos, int_lt, Bool, true, false, Option, Some, None, length}
use Rattle.ann_base.specs.declared.exceptions.Raised.{Raised}
use Rattle.ann_base.specs.declared.exceptions.Raised.TheVariants as exception
use Rattle.ann_base.specs.declared.identities.CallNo.{CallNo}
use Rattle.ann_base.specs.declared.identities.ObjectNo.{ObjectNo}
use Rattle.ann_base.specs.declared.identities.TaskNo.{TaskNo}
use Rattle.trace_text.specs.declared.events.Mode.TheVariants.{Write}
use Rattle.trace_text.specs.declared.events.Who.{Who}
use Rattle.trace_text.specs.declared.events.Who.TheVariants as who
use Rattle.profile_image.specs.declared.image.Image.{Image}
use Rattle.profile_image.specs.declared.numbers.EntryNo.{EntryNo}
use Rattle.profile_image.specs.declared.numbers.StatementNo.{StatementNo}
use Rattle.profile_image.specs.declared.statements.EntryOwner.{EntryOwner}
use Rattle.profile_image.specs.declared.statements.StatementForm.{StatementForm}
use Rattle.profile_image.specs.declared.statements.StatementForm.TheVariants as form
use Rattle.profile_machine.specs.declared.world.World.{World}
use Rattle.profile_machine.specs.declared.world.appointments.Due.TheVariants as due_for
use Rattle.profile_machine.specs.declared.world.calls.Call.{Call}
use Rattle.profile_machine.specs.declared.world.calls.CallKind.{CallKind}
use Rattle.profile_machine.specs.declared.world.calls.CallKind.TheVariants as call_kind
use Rattle.profile_machine.specs.declared.world.calls.EntryCallNamed.{EntryCallNamed}
use Rattle.profile_machine.specs.declared.world.calls.Owner.{Owner}
use Rattle.profile_machine.specs.declared.world.calls.Owner.TheVariants as owned_by
use Rattle.profile_machine.specs.declared.world.lines.Line.TheVariants as line
use Rattle.profile_machine.specs.declared.world.lines.MeetingEnd.TheVariants as meeting
use Rattle.profile_machine.specs.declared.world.lines.Part.{Part}
use Rattle.profile_machine.specs.declared.world.lines.Part.TheVariants.{TheFinish, TheBlock, OfOther, Own, TheCall}
use Rattle.profile_machine.specs.declared.world.tasks.Waiting.TheVariants as waits_for
use Rattle.profile_machine.specs.Calls.{is_call, says_call, is_full}
use Rattle.profile_machine.specs.Dispatching.{block, active_of}
use Rattle.profile_machine.specs.EntryCalls.{timed_moment, owner_of_entry, new_call, named_call, entry_parameters, numbered, marks_if_queued, add_call}
use Rattle.profile_machine.specs.EntryCalls.{make_call, end_at_once, call_gone, call_meets, call_queues, call_not_met, call_accepted_by, call_callable}
use Rattle.profile_machine.specs.EntryCalls.{call_task, call_runs, call_without_room, has_room_for_action, call_runs_if_room, call_passes, call_refused}
use Rattle.profile_machine.specs.EntryCalls.{call_closed, call_by_barrier, call_object, call_owner, call_named, entry_call, appoint_trigger}
use Rattle.profile_machine.specs.EntryCalls.{trigger_delay, async_delay, async_by_trigger, asynchronous_select, mark_sending, requeue, is_forbidden}
use Rattle.profile_machine.specs.Frames.{frames_of}
use Rattle.profile_image.specs.Program.{form_of, entry_of, next_of}
use Rattle.profile_machine.specs.Protected.{begin_action_on, is_barrier_open}
use Rattle.profile_machine.specs.Rendezvous.{is_callable, accept_for, delay_moment}
use Rattle.profile_machine.specs.Steps.{Step, nothing}
use Rattle.profile_machine.specs.Tasks.{waiting_of}
use Rattle.machine_laws.proofs.Moves.{StepRelation, MoveRelation}
use Rattle.ceiling_laws.proofs.Fine.Cores.{Caller}
use Rattle.world_laws.proofs.Appointments.FineMoves.{FineMoves, chains, says-keeps}
use Rattle.world_laws.proofs.Appointments.Kept.Appointments.{appoint-alters}
use Rattle.world_laws.proofs.Appointments.Kept.CallEnds.{gone-keeps}
use Rattle.world_laws.proofs.Appointments.Kept.Dispatching.{block-keeps}
use Rattle.world_laws.proofs.Appointments.Kept.Frames.{goes-keeps, leaves-keeps, plain_steps}
use Rattle.world_laws.proofs.Appointments.Kept.Protected.{where_let_inside-keeps, begin_action_on-from, serve_call-keeps}
use Rattle.world_laws.proofs.Appointments.Kept.Rendezvous.{meet-keeps}
use Rattle.world_laws.proofs.Appointments.Kept.Sending.{open_abortable-alters, not_accepted-keeps}
use Rattle.machine_laws.proofs.FineMoves.{GoodWorld, Naming}
use Rattle.machine_laws.proofs.Kept.Combinators.{Alters, From, Keeps, after-from, changes-keeps, changes_then-from, either-from, keeps-from, looks-from}
use Rattle.machine_laws.proofs.Kept.Combinators.{looks-keeps, looks_at-from, nothing-keeps, sees-keeps, then-from, then-keeps, unchanged-alters}
use Rattle.machine_laws.proofs.Plain.Calls.{edit_call-alters, forget_call-alters, says_call-keeps, enqueue-keeps}
use Rattle.machine_laws.proofs.Plain.Frames.{raises-keeps, given-keeps, raise_if-keeps, with_room-keeps}

module _ {G : GoodWorld} {May : Naming} {R : StepRelation} {Q : MoveRelation} (moves : FineMoves G May R Q) where
  add_call-alters : (c : Call) → Alters G R (add_call c)
  unfolding Alters
  add_call-alters c w good = moves.adds_call c w good

  pub make_call-keeps : (p : Image) (c : Call) (step : Call → Step) → ((n : ℕ) → Keeps G R (step (numbered n c))) → Keeps G R (make_call p c step)
  make_call-keeps p c step kept =
      then-keeps (chains moves) _ _ (goes-keeps moves (who.Task c.caller) (next_of p c.statement))
      (looks-keeps (chains moves) _
      (λ w. then-keeps (chains moves) _ _ (changes-keeps (chains moves) _ (add_call-alters c))
      (then-keeps (chains moves) _ _ (says_call-keeps (plain_steps moves) TheCall (numbered (suc w.drawn.calls) c)) (kept (suc w.drawn.calls)))))

  pub end_at_once-keeps : (part : Part) (c : Call) (e : Raised) → Keeps G R (end_at_once part c e)
  unfolding end_at_once
  end_at_once-keeps part c e = search (changes-keeps, forget_call-alters, then-keeps, raises-keeps, chains, plain_steps)

  pub call_gone-keeps : (p : Image) (c : Call) → Keeps G R (call_gone p c)
  unfolding call_gone
  call_gone-keeps p c = search (gone-keeps, then-keeps, end_at_once-keeps, chains)

  pub call_meets-keeps : (p : Image) (t : TaskNo) (s : StatementNo) (c : Call) → May (who.Task c.caller) → Keeps G R (call_meets p t s c)
  unfolding call_meets
  call_meets-keeps p t s c may =
      meet-keeps moves p (OfOther (who.Task t)) (who.Task t) s c (block TheBlock (who.Task c.caller) (waits_for.Call c.number))
      (end_at_once TheFinish c exception.Storage)
      (block-keeps moves TheBlock (who.Task c.caller) (waits_for.Call c.number) may) (end_at_once-keeps TheFinish c exception.Storage)

  pub call_queues-keeps : (p : Image) (c : Call) → May (who.Task c.caller) → Keeps G R (call_queues p c)
  unfolding call_queues
  call_queues-keeps p c may = then-keeps (chains moves) _ _ (enqueue-keeps (plain_steps moves) p c.number) (not_accepted-keeps moves p Own c c.kind may)

  pub call_not_met-keeps : (p : Image) (c : Call) (test : Bool) → May (who.Task c.caller) → Keeps G R (call_not_met p c test)
  unfolding call_not_met
  call_not_met-keeps p c true may = make_call-keeps p c (λ d. end_at_once Own d exception.Program) (λ n. end_at_once-keeps Own (numbered n c) exception.Program)
  call_not_met-keeps p c false may =
      with_room-keeps (plain_steps moves) (who.Task c.caller) (marks_if_queued c.kind) 0 _
      (make_call-keeps p c (call_queues p) (λ n. call_queues-keeps p (numbered n c) may))

  pub call_accepted_by-keeps : (p : Image) (t : TaskNo) (c : Call) (next : Option StatementNo) → May (who.Task c.caller)
      → Keeps G R (call_accepted_by p t c next)
  unfolding call_accepted_by
  call_accepted_by-keeps p t c (Some s) may = make_call-keeps p c (call_meets p t s) (λ n. call_meets-keeps p t s (numbered n c) may)
  call_accepted_by-keeps p t c None may = looks-keeps (chains moves) _ (λ w. call_not_met-keeps p c (is_full p w c.owner c.entry) may)

  pub call_callable-keeps : (p : Image) (t : TaskNo) (c : Call) (test : Bool) → May (who.Task c.caller) → Keeps G R (call_callable p t c test)
  unfolding call_callable
  call_callable-keeps p t c false may = make_call-keeps p c (call_gone p) (λ n. call_gone-keeps p (numbered n c))
  call_callable-keeps p t c true may = looks-keeps (chains moves) _ (λ w. call_accepted_by-keeps p t c (accept_for p c.entry (waiting_of w (who.Task t))) may)

  pub call_task-keeps : (p : Image) (t : TaskNo) (c : Call) → May (who.Task c.caller) → Keeps G R (call_task p t c)
  unfolding call_task
  call_task-keeps p t c may = looks-keeps (chains moves) _ (λ w. call_callable-keeps p t c (is_callable w t) may)

  -- ---- a call of a protected entry

  call_runs-from : (p : Image) (o : ObjectNo) (c : Call) (w : World) → G w → May (who.Task c.caller) → Caller c.number (who.Task c.caller) w
      → From R w (call_runs p o c)
  unfolding call_runs
  call_runs-from p o c w good may called =
      then-from (chains moves) (begin_action_on p (who.Task c.caller) o Write (Some c.number) None) _ w
      (begin_action_on-from moves p (who.Task c.caller) o Write (Some c.number) None w good may
      (λ n e. let same : c.number ≡ n = cc in subst (λ k. Caller k (who.Task c.caller) w) same called))
      (serve_call-keeps moves p Own (who.Task c.caller) o c nothing nothing (nothing-keeps (chains moves)) (nothing-keeps (chains moves)))

  call_without_room-keeps : (o : ObjectNo) (c : Call) → Keeps G R (call_without_room o c)
  unfolding call_without_room
  call_without_room-keeps o c =
      then-keeps (chains moves) _ _ (says-keeps moves Own (line.Enter (who.Task c.caller) o Write) refl)
      (then-keeps (chains moves) _ _ (says-keeps moves Own (line.Start (who.Task c.caller) c.number) refl)
      (then-keeps (chains moves) _ _ (says-keeps moves Own (line.Finish (who.Task c.caller) c.number (meeting.Raised exception.Storage)) refl)
      (then-keeps (chains moves) _ _ (says-keeps moves Own (line.Exit (who.Task c.caller) o) refl) (end_at_once-keeps Own c exception.Storage))))

  call_runs_if_room-from : (p : Image) (o : ObjectNo) (c : Call) (w : World) → G w → May (who.Task c.caller) → Caller c.number (who.Task c.caller) w
      → From R w (call_runs_if_room p o c)
  unfolding call_runs_if_room
  call_runs_if_room-from p o c w good may called =
      looks_at-from (chains moves) (λ v. elim (has_room_for_action p v c) as (λ _. Step) [ true ↦ call_runs p o c | false ↦ call_without_room o c ]) w
      (either-from (chains moves) (has_room_for_action p w c) (call_runs p o c) (call_without_room o c) w (call_runs-from p o c w good may called)
      (keeps-from (chains moves) _ w good (call_without_room-keeps o c)))

  call_passes-keeps : (p : Image) (o : ObjectNo) (c : Call) → May (who.Task c.caller) → Keeps G R (call_passes p o c)
  unfolding call_passes
  call_passes-keeps p o c may =
      then-keeps (chains moves) _ _ (says-keeps moves Own (line.Enter (who.Task c.caller) o Write) refl)
      (then-keeps (chains moves) _ _ (enqueue-keeps (plain_steps moves) p c.number)
      (then-keeps (chains moves) _ _ (says-keeps moves Own (line.Exit (who.Task c.caller) o) refl) (not_accepted-keeps moves p Own c c.kind may)))

  call_refused-keeps : (o : ObjectNo) (c : Call) → Keeps G R (call_refused o c)
  unfolding call_refused
  call_refused-keeps o c =
      then-keeps (chains moves) _ _ (says-keeps moves Own (line.Enter (who.Task c.caller) o Write) refl)
      (then-keeps (chains moves) _ _ (says-keeps moves Own (line.Exit (who.Task c.caller) o) refl) (end_at_once-keeps Own c exception.Program))

  -- the caller of a call that has just been made
  made-caller : (c : Call) (w : World) → Caller (numbered (suc w.drawn.calls) c).number (who.Task c.caller) (add_call c w)
  made-caller c w = (
    omega arith,
    λ d e. let first : is_call (numbered (suc w.drawn.calls) c).number (numbered (suc w.drawn.calls) c) ≡ true = self-number w.drawn.calls in
        let one : Some (numbered (suc w.drawn.calls) c) ≡ Some d =
        sym (ap (λ b. cond b (Some (numbered (suc w.drawn.calls) c)) (find (is_call (numbered (suc w.drawn.calls) c).number) w.calls)) first) ∙ e in
        let same : numbered (suc w.drawn.calls) c ≡ d = cc in ap (λ (x : Call). who.Task x.caller) (sym same),
  ) where
    self-number : (n : ℕ) → eqb (suc n) (suc n) ≡ true
    self-number n = eq-eqb (suc n) (suc n) refl

  make_run-keeps : (p : Image) (o : ObjectNo) (c : Call) → May (who.Task c.caller) → Keeps G R (make_call p c (call_runs_if_room p o))
  make_run-keeps p o c may =
      then-keeps (chains moves) _ _ (goes-keeps moves (who.Task c.caller) (next_of p c.statement))
      (looks-from (chains moves) _ (λ w good. let made = add_call c w in
      let d = numbered (suc w.drawn.calls) c in
      let added = moves.adds_call c w good in
      changes_then-from (chains moves) (add_call c) _ w added
      (after-from (chains moves) (says_call TheCall d) (call_runs_if_room p o d) made
      (keeps-from (chains moves) _ made (moves.behind w made added) (says_call-keeps (plain_steps moves) TheCall d))
      (λ v xs k. call_runs_if_room-from p o d v (moves.behind made v k) may (moves.called_on d.number (who.Task d.caller) made v k (made-caller c w))))))

  call_closed-keeps : (p : Image) (o : ObjectNo) (c : Call) (test : Bool) → May (who.Task c.caller) → Keeps G R (call_closed p o c test)
  unfolding call_closed
  call_closed-keeps p o c true may = make_call-keeps p c (call_refused o) (λ n. call_refused-keeps o (numbered n c))
  call_closed-keeps p o c false may =
      with_room-keeps (plain_steps moves) (who.Task c.caller) (marks_if_queued c.kind) 0 _
      (make_call-keeps p c (call_passes p o) (λ n. call_passes-keeps p o (numbered n c) may))

  call_by_barrier-keeps : (p : Image) (o : ObjectNo) (c : Call) (test : Bool) → May (who.Task c.caller) → Keeps G R (call_by_barrier p o c test)
  unfolding call_by_barrier
  call_by_barrier-keeps p o c true may = with_room-keeps (plain_steps moves) (who.Task c.caller) 1 0 _ (make_run-keeps p o c may)
  call_by_barrier-keeps p o c false may = looks-keeps (chains moves) _ (λ w. call_closed-keeps p o c (is_full p w c.owner c.entry) may)

  pub call_object-keeps : (p : Image) (o : ObjectNo) (c : Call) → May (who.Task c.caller) → Keeps G R (call_object p o c)
  unfolding call_object
  call_object-keeps p o c may =
      where_let_inside-keeps moves p (who.Task c.caller) o Write _ may
      (looks-keeps (chains moves) _ (λ w. call_by_barrier-keeps p o c (is_barrier_open p w (who.Task c.caller) o c.entry) may))

  pub call_owner-keeps : (p : Image) (c : Call) (owner : Owner) → May (who.Task c.caller) → Keeps G R (call_owner p c owner)
  unfolding call_owner
  call_owner-keeps p c (owned_by.Task t) may = call_task-keeps p t c may
  call_owner-keeps p c (owned_by.Object o) may = call_object-keeps p o c may

  pub call_named-keeps : (p : Image) (t : TaskNo) (kind : CallKind) (s : StatementNo) (n : EntryCallNamed) → May (who.Task t)
      → Keeps G R (call_named p t kind s n)
  unfolding call_named
  call_named-keeps p t kind s n may =
      sees-keeps (chains moves) p (who.Task t) _
      (λ q. given-keeps (plain_steps moves) Own (who.Task t) (owner_of_entry q n.entry n.owner) _
      (λ o. given-keeps (plain_steps moves) Own (who.Task t) (entry_parameters q (entry_of p n.entry).formals n.actuals) _ (λ parameters.
      given-keeps (plain_steps moves) Own (who.Task t) (timed_moment q (form_of p s)) _
      (λ m. call_owner-keeps p (new_call t kind s n o (active_of p q.world (who.Task t)) parameters m) o may))))

  pub entry_call-keeps : (p : Image) (name : Who) (kind : CallKind) (s : StatementNo) → May name → Keeps G R (entry_call p name kind s)
  unfolding entry_call
  entry_call-keeps p (who.Task t) kind s may =
      looks-keeps (chains moves) _
      (λ w.
      raise_if-keeps (plain_steps moves) (who.Task t) (is_forbidden w (who.Task t) kind) exception.Program _ (call_named-keeps p t kind s (named_call p s) may))
  entry_call-keeps p who.Agent kind s may = raises-keeps (plain_steps moves) Own who.Agent exception.Program

  -- ---- triggers that are delays

  appoint_trigger-alters : (name : Who) (depth : ℕ) (m : ℤ) → Alters G R (appoint_trigger name depth m)
  appoint_trigger-alters (who.Task t) depth m = appoint-alters moves (due_for.Trigger t depth) m (λ u. refl)
  appoint_trigger-alters who.Agent depth m = unchanged-alters (chains moves)

  trigger_delay-keeps : (p : Image) (name : Who) (s trigger : StatementNo) (m : ℤ) (test : Bool) → Keeps G R (trigger_delay p name s trigger m test)
  unfolding trigger_delay
  trigger_delay-keeps p name s trigger m false = goes-keeps moves name (next_of p trigger)
  trigger_delay-keeps p name s trigger m true =
      with_room-keeps (plain_steps moves) name 1 0 _
      (then-keeps (chains moves) _ _ (goes-keeps moves name (next_of p s))
      (looks-keeps (chains moves) _
      (λ w. then-keeps (chains moves) _ _ (changes-keeps (chains moves) _ (open_abortable-alters moves p name s None))
      (changes-keeps (chains moves) _ (appoint_trigger-alters name (length (frames_of w name)) m)))))

  async_delay-keeps : (p : Image) (name : Who) (s trigger : StatementNo) → Keeps G R (async_delay p name s trigger)
  unfolding async_delay
  async_delay-keeps p name s trigger =
      sees-keeps (chains moves) p name _
      (λ q. raise_if-keeps (plain_steps moves) name (is_forbidden q.world name call_kind.Triggering) exception.Program _
      (given-keeps (plain_steps moves) Own name (delay_moment q trigger) _ (λ m. trigger_delay-keeps p name s trigger m (int_lt (pos q.world.time) m))))

  async_by_trigger-keeps : (p : Image) (name : Who) (s trigger : StatementNo) (form : StatementForm) → May name
      → Keeps G R (async_by_trigger p name s trigger form)
  unfolding async_by_trigger
  async_by_trigger-keeps p name s trigger (form.EntryCall entry owner actuals) may = entry_call-keeps p name call_kind.Triggering s may
  async_by_trigger-keeps p name s trigger _ may = async_delay-keeps p name s trigger

  pub asynchronous_select-keeps : (p : Image) (name : Who) (s trigger : StatementNo) → May name → Keeps G R (asynchronous_select p name s trigger)
  unfolding asynchronous_select
  asynchronous_select-keeps p name s trigger may = async_by_trigger-keeps p name s trigger (form_of p trigger) may

  pub mark_sending-alters : (c : Option CallNo) (o : Owner) (e : EntryNo) (with_abort : Bool) → Alters G R (mark_sending c o e with_abort)
  mark_sending-alters None o e with_abort = search (unchanged-alters, chains)
  mark_sending-alters (Some c) o e with_abort = search (edit_call-alters, plain_steps)

  pub requeue-keeps : (p : Image) (name : Who) (e : EntryNo) (o : EntryOwner) (with_abort : Bool) → Keeps G R (requeue p name e o with_abort)
  unfolding requeue
  requeue-keeps p name e o with_abort =
      search (sees-keeps, given-keeps, changes-keeps, mark_sending-alters, then-keeps, leaves-keeps, chains, plain_steps) depth 10
