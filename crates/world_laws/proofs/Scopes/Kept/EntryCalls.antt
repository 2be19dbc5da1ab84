-- Entry calls: each step keeps a relation that its parts keep.
use Rattle.std.proofs.Common.{refl, ◌≡◌}
use Rattle.std.specs.Prelude.{ℕ, suc, ℤ, pos, int_lt, Bool, true, false, Option, Some, None, length}
use Rattle.ann_base.specs.declared.identities.CallNo.{CallNo}
use Rattle.ann_base.specs.declared.identities.ObjectNo.{ObjectNo}
use Rattle.ann_base.specs.declared.identities.TaskNo.{TaskNo}
use Rattle.ann_base.specs.declared.exceptions.Raised.{Raised}
use Rattle.ann_base.specs.declared.exceptions.Raised.TheVariants as exception
use Rattle.trace_text.specs.declared.events.Mode.TheVariants.{Write}
use Rattle.profile_machine.specs.declared.world.lines.Line.TheVariants as line
use Rattle.trace_text.specs.declared.events.Who.{Who}
use Rattle.trace_text.specs.declared.events.Who.TheVariants as who
use Rattle.profile_machine.specs.declared.world.calls.EntryCallNamed.{EntryCallNamed}
use Rattle.profile_image.specs.declared.image.Image.{Image}
use Rattle.profile_image.specs.declared.numbers.EntryNo.{EntryNo}
use Rattle.profile_image.specs.declared.numbers.StatementNo.{StatementNo}
use Rattle.profile_image.specs.declared.statements.EntryOwner.{EntryOwner}
use Rattle.profile_image.specs.declared.statements.StatementForm.{StatementForm}
use Rattle.profile_image.specs.declared.statements.StatementForm.TheVariants as form
use Rattle.profile_machine.specs.declared.world.World.{World}
use Rattle.profile_machine.specs.declared.world.calls.Call.{Call}
use Rattle.profile_machine.specs.declared.world.calls.CallKind.{CallKind}
use Rattle.profile_machine.specs.declared.world.calls.CallKind.TheVariants as call_kind
use Rattle.profile_machine.specs.declared.world.calls.Owner.{Owner}
use Rattle.profile_machine.specs.declared.world.appointments.Due.TheVariants as due_for
use Rattle.profile_machine.specs.declared.world.calls.Owner.TheVariants as owned_by
use Rattle.profile_machine.specs.declared.world.lines.Part.{Part}
use Rattle.profile_machine.specs.declared.world.lines.Part.TheVariants.{Own, TheCall, OfOther}
use Rattle.profile_machine.specs.Steps.{Step, changes, looks, ◌▷◌, nothing}
use Rattle.profile_image.specs.Program.{next_of}
use Rattle.profile_machine.specs.Frames.{frames_of, edit_top, goes_on, raise_if, given, goes, new_frame}
use Rattle.profile_machine.specs.Tasks.{waiting_of}
use Rattle.profile_machine.specs.Calls.{says_call}
use Rattle.profile_machine.specs.Protected.{begin_action_on, is_barrier_open, new_protected_mark}
use Rattle.profile_machine.specs.Sending.{open_abortable}
use Rattle.profile_machine.specs.EntryCalls.{numbered, add_call, make_call, end_at_once, call_gone, call_meets, call_queues, call_not_met, call_accepted_by}
use Rattle.profile_machine.specs.EntryCalls.{call_callable, call_task, call_runs, call_without_room, has_room_for_action, call_runs_if_room, call_passes}
use Rattle.profile_machine.specs.EntryCalls.{call_refused, call_closed, call_by_barrier, call_object, call_owner, call_named, entry_call, appoint_trigger}
use Rattle.profile_machine.specs.EntryCalls.{trigger_delay, async_delay, async_by_trigger, asynchronous_select, mark_sending, requeue, is_forbidden}
use Rattle.machine_laws.proofs.Moves.{StepRelation, MoveRelation}
use Rattle.world_laws.proofs.Scopes.FineMoves.{FineMoves, Openings, Live, chains, says-keeps}
use Rattle.world_laws.proofs.Scopes.Kept.Dispatching.{block-keeps}
use Rattle.world_laws.proofs.Scopes.Kept.Frames.{goes-keeps, leaves-keeps, goes_then-from, edit_top-alters, push-alters, plain_steps}
use Rattle.world_laws.proofs.Scopes.Kept.Appointments.{appoint-from}
use Rattle.world_laws.proofs.Scopes.Kept.CallEnds.{gone-keeps}
use Rattle.world_laws.proofs.Scopes.Kept.Protected.{where_let_inside-keeps, serve_call-keeps, begin_action_on-keeps}
use Rattle.world_laws.proofs.Scopes.Kept.Sending.{open_abortable-alters, not_accepted-keeps}
use Rattle.world_laws.proofs.Scopes.Kept.Rendezvous.{meet-from, waiting-live}
use Rattle.profile_machine.specs.Rendezvous.{delay_moment, accept_for}
use Rattle.profile_machine.specs.Values.{seen_by}
use Rattle.machine_laws.proofs.FineMoves.{Anybody, GoodWorld, Naming}
use Rattle.machine_laws.proofs.Kept.Combinators.{Alters, From, Keeps, branch-keeps, changes-keeps, changes_then-from, keeps-from, looks-from}
use Rattle.machine_laws.proofs.Kept.Combinators.{looks-keeps, looks_at-from, nothing-keeps, said_then-from, sees-keeps, then-keeps, unchanged-alters}
use Rattle.machine_laws.proofs.Plain.Frames.{raises-keeps, given-from, given-keeps, raise_if-from, raise_if-keeps, with_room-from, with_room-keeps}
use Rattle.machine_laws.proofs.Plain.Calls.{edit_call-alters, forget_call-alters, says_call-keeps, enqueue-keeps}

module _ {G : GoodWorld} {May Other : Naming} {R : StepRelation} {Q : MoveRelation} (moves : FineMoves G May Other R Q) where
  add_call-alters : (c : Call) → Alters G R (add_call c)
  unfolding Alters
  add_call-alters c w good = moves.adds_call c w good

  pub make_call-keeps : (p : Image) (c : Call) (step : Call → Step) → ((x : Call) → Keeps G R (step x)) → Keeps G R (make_call p c step)
  make_call-keeps p c step kept = search (goes-keeps, then-keeps, looks-keeps, changes-keeps, add_call-alters, says_call-keeps, chains, plain_steps) depth 9

  -- the same of a step with a call that differs in its number alone
  pub numbered_call-keeps : (p : Image) (c : Call) (step : Call → Step) → ((n : ℕ) → Keeps G R (step (numbered n c))) → Keeps G R (make_call p c step)
  numbered_call-keeps p c step kept =
      then-keeps (chains moves) (goes (who.Task c.caller) (next_of p c.statement)) _ (goes-keeps moves (who.Task c.caller) (next_of p c.statement))
      (looks-keeps (chains moves) _ (λ w. then-keeps (chains moves) (changes (add_call c)) _ (changes-keeps (chains moves) _ (add_call-alters c))
      (then-keeps (chains moves) (says_call TheCall (numbered (suc w.drawn.calls) c)) _
      (says_call-keeps (plain_steps moves) TheCall (numbered (suc w.drawn.calls) c)) (kept (suc w.drawn.calls)))))

  pub end_at_once-keeps : (part : Part) (c : Call) (e : Raised) → Keeps G R (end_at_once part c e)
  unfolding end_at_once
  end_at_once-keeps part c e = search (changes-keeps, forget_call-alters, then-keeps, raises-keeps, chains, plain_steps)

  pub call_gone-keeps : (p : Image) (c : Call) → Keeps G R (call_gone p c)
  unfolding call_gone
  call_gone-keeps p c = search (gone-keeps, then-keeps, end_at_once-keeps, chains)

  pub call_queues-keeps : (p : Image) (c : Call) → Keeps G R (call_queues p c)
  unfolding call_queues
  call_queues-keeps p c = search (enqueue-keeps, then-keeps, not_accepted-keeps, chains, plain_steps)

  pub call_not_met-keeps : (p : Image) (c : Call) (test : Bool) → Keeps G R (call_not_met p c test)
  unfolding call_not_met
  call_not_met-keeps p c true = search (make_call-keeps, end_at_once-keeps)
  call_not_met-keeps p c false = search (with_room-keeps, make_call-keeps, call_queues-keeps, plain_steps)

  -- ---- a call of a protected entry

  pub call_without_room-keeps : (o : ObjectNo) (c : Call) → Keeps G R (call_without_room o c)
  unfolding call_without_room
  call_without_room-keeps o c = search (says-keeps, then-keeps, end_at_once-keeps, chains) depth 9

  pub call_passes-keeps : (p : Image) (o : ObjectNo) (c : Call) → Keeps G R (call_passes p o c)
  unfolding call_passes
  call_passes-keeps p o c = search (says-keeps, then-keeps, enqueue-keeps, not_accepted-keeps, chains, plain_steps) depth 9

  pub call_refused-keeps : (o : ObjectNo) (c : Call) → Keeps G R (call_refused o c)
  unfolding call_refused
  call_refused-keeps o c = search (says-keeps, then-keeps, end_at_once-keeps, chains) depth 7

  pub call_closed-keeps : (p : Image) (o : ObjectNo) (c : Call) (test : Bool) → Keeps G R (call_closed p o c test)
  unfolding call_closed
  call_closed-keeps p o c true = search (make_call-keeps, call_refused-keeps)
  call_closed-keeps p o c false = search (with_room-keeps, make_call-keeps, call_passes-keeps, plain_steps)

  appoint_trigger-from : (name : Who) (depth : ℕ) (m : ℤ) (w : World) → G w → From R w (changes (appoint_trigger name depth m))
  appoint_trigger-from (who.Task t) depth m w good = appoint-from moves (due_for.Trigger t depth) m w good
  appoint_trigger-from who.Agent depth m w good =
      keeps-from (chains moves) (changes (λ v. v)) w good (changes-keeps (chains moves) (λ v. v) (unchanged-alters (chains moves)))

  -- the abortable part opens, and the moment is set
  opens_until : (p : Image) (name : Who) (s : StatementNo) (m : ℤ) (w : World) → G w → Other name
      → From R w (looks (λ v. changes (open_abortable p name s None) ▷ changes (appoint_trigger name (length (frames_of v name)) m)))
  unfolding Alters
  opens_until p name s m w good other =
      let opened = open_abortable-alters moves p name s None other w good in
      looks_at-from (chains moves) (λ v. changes (open_abortable p name s None) ▷ changes (appoint_trigger name (length (frames_of v name)) m)) w
      (changes_then-from (chains moves) (open_abortable p name s None) _ w opened
      (appoint_trigger-from name (length (frames_of w name)) m _ (moves.behind w (open_abortable p name s None w) opened)))

  trigger_delay-from : (p : Image) (name : Who) (s trigger : StatementNo) (m : ℤ) (test : Bool) (w : World) → G w → Other name
      → From R w (trigger_delay p name s trigger m test)
  unfolding trigger_delay
  trigger_delay-from p name s trigger m false w good other = keeps-from (chains moves) _ w good (search (goes-keeps))
  trigger_delay-from p name s trigger m true w good other =
      with_room-from (plain_steps moves) name 1 0 _ w good
      (goes_then-from moves name (next_of p s) _ w good (λ good_onward.
      opens_until p name s m _ good_onward other))

  pub mark_sending-alters : (c : Option CallNo) (o : Owner) (e : EntryNo) (with_abort : Bool) → Alters G R (mark_sending c o e with_abort)
  mark_sending-alters None o e with_abort = search (unchanged-alters, chains)
  mark_sending-alters (Some c) o e with_abort = search (edit_call-alters, plain_steps)

  pub requeue-keeps : (p : Image) (name : Who) (e : EntryNo) (o : EntryOwner) (with_abort : Bool) → Keeps G R (requeue p name e o with_abort)
  unfolding requeue
  requeue-keeps p name e o with_abort =
      search (sees-keeps, given-keeps, changes-keeps, mark_sending-alters, then-keeps, leaves-keeps, chains, plain_steps) depth 10

module _ {G : GoodWorld} {Acts : Naming} {R : StepRelation} {Q : MoveRelation} (moves : FineMoves G Anybody Anybody R Q) (openings : Openings G Acts R) where
  -- ---- a call of a task's entry: the callee waits for it

  pub call_meets-from : (p : Image) (t : TaskNo) (s : StatementNo) (c : Call) (w : World) → G w → Live (who.Task t) w → From R w (call_meets p t s c)
  unfolding call_meets
  call_meets-from p t s c w good live =
      meet-from moves openings p (OfOther (who.Task t)) (who.Task t) s c _ _ w good live (search (block-keeps)) (search (end_at_once-keeps))

  said_call_then-from : (part : Part) (c : Call) (g : Step) (w : World) → G w → From R w g → From R w (says_call part c ▷ g)
  unfolding says_call
  said_call_then-from part c g w good k =
      said_then-from (chains moves) part (line.Call c.caller c.number c.owner c.entry c.priority) g w
      (moves.says part (line.Call c.caller c.number c.owner c.entry c.priority) w good) k

  met-from : (p : Image) (t : TaskNo) (s : StatementNo) (c : Call) (w : World) → G w → Live (who.Task t) w → From R w (make_call p c (call_meets p t s))
  unfolding Alters
  met-from p t s c w good live =
      let onward = edit_top (who.Task c.caller) (goes_on (next_of p c.statement)) w in
      let gone = edit_top-alters moves (who.Task c.caller) (goes_on (next_of p c.statement)) (λ x. refl) w good in
      let good_onward = moves.behind w onward gone in
      let made = add_call c onward in
      let added = moves.adds_call c onward good_onward in
      let good_made = moves.behind onward made added in
      let live_made = openings.still_live (who.Task t) onward made added (openings.still_live (who.Task t) w onward gone live) in
      let d = numbered (suc onward.drawn.calls) c in
      goes_then-from moves (who.Task c.caller) (next_of p c.statement) _ w good (λ g.
      looks_at-from (chains moves)
      (λ v. changes (add_call c) ▷ says_call TheCall (numbered (suc v.drawn.calls) c) ▷ call_meets p t s (numbered (suc v.drawn.calls) c)) onward
      (changes_then-from (chains moves) (add_call c) _ onward added
      (said_call_then-from TheCall d (call_meets p t s d) made good_made (call_meets-from p t s d made good_made live_made))))

  call_accepted_by-from : (p : Image) (t : TaskNo) (c : Call) (next : Option StatementNo) (w : World) → G w
      → accept_for p c.entry (waiting_of w (who.Task t)) ≡ next → From R w (call_accepted_by p t c next)
  unfolding call_accepted_by
  call_accepted_by-from p t c (Some s) w good is = met-from p t s c w good (waiting-live p c.entry (who.Task t) s w is)
  call_accepted_by-from p t c None w good is = keeps-from (chains moves) _ w good (search (looks-keeps, call_not_met-keeps, chains))

  call_callable-keeps : (p : Image) (t : TaskNo) (c : Call) (test : Bool) → Keeps G R (call_callable p t c test)
  unfolding call_callable
  call_callable-keeps p t c false = search (make_call-keeps, call_gone-keeps)
  call_callable-keeps p t c true =
      looks-from (chains moves) _ (λ w good. call_accepted_by-from p t c (accept_for p c.entry (waiting_of w (who.Task t))) w good refl)

  pub call_task-keeps : (p : Image) (t : TaskNo) (c : Call) → Keeps G R (call_task p t c)
  unfolding call_task
  call_task-keeps p t c = search (looks-keeps, call_callable-keeps, chains)

  -- ---- a call of a protected entry runs

  call_runs-keeps : (p : Image) (o : ObjectNo) (c : Call) → Acts (who.Task c.caller) → Keeps G R (call_runs p o c)
  unfolding call_runs
  call_runs-keeps p o c acts =
      then-keeps (chains moves) (begin_action_on p (who.Task c.caller) o Write (Some c.number) None) _
      (begin_action_on-keeps moves p (who.Task c.caller) o Write (Some c.number) None tt
      (push-alters moves openings (who.Task c.caller) (new_frame (new_protected_mark o Write (Some c.number) None) None) refl))
      (serve_call-keeps moves openings p Own (who.Task c.caller) o c nothing nothing acts (nothing-keeps (chains moves)) (nothing-keeps (chains moves)))

  call_runs_if_room-keeps : (p : Image) (o : ObjectNo) (c : Call) → Acts (who.Task c.caller) → Keeps G R (call_runs_if_room p o c)
  unfolding call_runs_if_room
  call_runs_if_room-keeps p o c acts =
      looks-keeps (chains moves) _
      (λ w. branch-keeps (chains moves) (has_room_for_action p w c) (call_runs p o c) (call_without_room o c) (call_runs-keeps p o c acts)
      (call_without_room-keeps moves o c))

  call_by_barrier-keeps : (p : Image) (o : ObjectNo) (c : Call) (test : Bool) → Acts (who.Task c.caller) → Keeps G R (call_by_barrier p o c test)
  unfolding call_by_barrier
  call_by_barrier-keeps p o c true acts =
      with_room-keeps (plain_steps moves) (who.Task c.caller) 1 0 _
      (numbered_call-keeps moves p c (call_runs_if_room p o) (λ n. call_runs_if_room-keeps p o (numbered n c) acts))
  call_by_barrier-keeps p o c false acts = search (looks-keeps, call_closed-keeps, chains)

  pub call_object-keeps : (p : Image) (o : ObjectNo) (c : Call) → Acts (who.Task c.caller) → Keeps G R (call_object p o c)
  unfolding call_object
  call_object-keeps p o c acts =
      where_let_inside-keeps moves p (who.Task c.caller) o Write _ tt
      (looks-keeps (chains moves) _ (λ w. call_by_barrier-keeps p o c (is_barrier_open p w (who.Task c.caller) o c.entry) acts))

  pub call_owner-keeps : (p : Image) (c : Call) (owner : Owner) → Acts (who.Task c.caller) → Keeps G R (call_owner p c owner)
  unfolding call_owner
  call_owner-keeps p c (owned_by.Task t) acts = search (call_task-keeps)
  call_owner-keeps p c (owned_by.Object o) acts = search (call_object-keeps)

  pub call_named-keeps : (p : Image) (t : TaskNo) (kind : CallKind) (s : StatementNo) (n : EntryCallNamed) → Acts (who.Task t)
      → Keeps G R (call_named p t kind s n)
  unfolding call_named
  call_named-keeps p t kind s n acts = search (sees-keeps, given-keeps, call_owner-keeps, chains, plain_steps) depth 8

  pub entry_call-keeps : (p : Image) (name : Who) (kind : CallKind) (s : StatementNo) → Acts name → Keeps G R (entry_call p name kind s)
  unfolding entry_call
  entry_call-keeps p (who.Task t) kind s acts = search (looks-keeps, raise_if-keeps, call_named-keeps, chains, plain_steps)
  entry_call-keeps p who.Agent kind s acts = search (raises-keeps, plain_steps)

  pub async_delay-keeps : (p : Image) (name : Who) (s trigger : StatementNo) → Acts name → Keeps G R (async_delay p name s trigger)
  unfolding async_delay
  async_delay-keeps p name s trigger acts =
      looks-from (chains moves)
      (λ v. raise_if name (is_forbidden v name call_kind.Triggering) exception.Program
      (given Own name (delay_moment (seen_by p v name) trigger) (λ m. trigger_delay p name s trigger m (int_lt (pos v.time) m))))
      (λ w good. raise_if-from (plain_steps moves) name (is_forbidden w name call_kind.Triggering) exception.Program _ w good (λ allowed.
      given-from (plain_steps moves) Own name (delay_moment (seen_by p w name) trigger) _ w good (λ m.
      trigger_delay-from moves p name s trigger m (int_lt (pos w.time) m) w good tt)))

  pub async_by_trigger-keeps : (p : Image) (name : Who) (s trigger : StatementNo) (form : StatementForm) → Acts name
      → Keeps G R (async_by_trigger p name s trigger form)
  unfolding async_by_trigger
  async_by_trigger-keeps p name s trigger (form.EntryCall entry owner actuals) acts = search (entry_call-keeps)
  async_by_trigger-keeps p name s trigger _ acts = search (async_delay-keeps)

  pub asynchronous_select-keeps : (p : Image) (name : Who) (s trigger : StatementNo) → Acts name → Keeps G R (asynchronous_select p name s trigger)
  unfolding asynchronous_select
  asynchronous_select-keeps p name s trigger acts = search (async_by_trigger-keeps)
