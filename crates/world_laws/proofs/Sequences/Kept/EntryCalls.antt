-- Entry calls: each step keeps a relation that its parts keep.
use Rattle.profile_machine.specs.declared.world.lines.Line.{Line}
use Rattle.profile_machine.specs.declared.world.tasks.Waiting.TheVariants as waits_for
use Rattle.profile_machine.specs.Dispatching.{block, active_of}
use Rattle.std.proofs.Common.{refl}
use Rattle.std.specs.Prelude.{ℕ, suc, ℤ, pos, int_lt, Bool, true, false, Option, Some, None, length, ◌&&◌}
use Rattle.ann_base.specs.declared.identities.CallNo.{CallNo}
use Rattle.ann_base.specs.declared.identities.ObjectNo.{ObjectNo}
use Rattle.ann_base.specs.declared.identities.TaskNo.{TaskNo}
use Rattle.ann_base.specs.declared.exceptions.Raised.{Raised}
use Rattle.ann_base.specs.declared.exceptions.Raised.TheVariants as exception
use Rattle.trace_text.specs.declared.events.Mode.TheVariants.{Write}
use Rattle.profile_machine.specs.declared.world.lines.Line.TheVariants as line
use Rattle.trace_text.specs.declared.events.Who.{Who}
use Rattle.trace_text.specs.declared.events.Who.TheVariants as who
use Rattle.profile_machine.specs.declared.world.calls.EntryCallNamed.{EntryCallNamed}
use Rattle.profile_image.specs.declared.image.Image.{Image}
use Rattle.profile_image.specs.declared.numbers.EntryNo.{EntryNo}
use Rattle.profile_image.specs.declared.numbers.StatementNo.{StatementNo}
use Rattle.profile_image.specs.declared.statements.EntryOwner.{EntryOwner}
use Rattle.profile_image.specs.declared.statements.StatementForm.{StatementForm}
use Rattle.profile_image.specs.declared.statements.StatementForm.TheVariants as form
use Rattle.profile_machine.specs.declared.world.calls.Call.{Call}
use Rattle.profile_machine.specs.declared.world.calls.CallKind.{CallKind}
use Rattle.profile_machine.specs.declared.world.calls.CallKind.TheVariants as call_kind
use Rattle.profile_machine.specs.declared.world.calls.Owner.{Owner}
use Rattle.profile_machine.specs.declared.world.appointments.Due.TheVariants as due_for
use Rattle.profile_machine.specs.declared.world.calls.Owner.TheVariants as owned_by
use Rattle.profile_machine.specs.declared.world.lines.Part.{Part}
use Rattle.profile_machine.specs.declared.world.lines.Part.TheVariants.{Own, TheCall, TheBlock, OfOther, TheFinish}
use Rattle.profile_machine.specs.Steps.{Step, says, changes, nothing}
use Rattle.profile_image.specs.Program.{next_of, entry_of, form_of}
use Rattle.profile_machine.specs.Frames.{frames_of, new_frame, in_protected, raise_if, given, is_deferred, goes}
use Rattle.profile_machine.specs.Tasks.{waiting_of}
use Rattle.profile_machine.specs.Calls.{says_call, enqueue, is_full}
use Rattle.profile_machine.specs.Protected.{begin_action_on, is_barrier_open, new_protected_mark}
use Rattle.profile_machine.specs.Sending.{open_abortable, is_triggering}
use Rattle.profile_machine.specs.EntryCalls.{numbered, marks_if_queued, add_call, make_call, end_at_once, call_gone, call_meets, call_queues}
use Rattle.profile_machine.specs.EntryCalls.{call_not_met, call_accepted_by, call_callable, call_task, call_runs, call_without_room, has_room_for_action}
use Rattle.profile_machine.specs.EntryCalls.{call_runs_if_room, call_passes, call_refused, call_closed, call_by_barrier, call_object, call_owner}
use Rattle.profile_machine.specs.EntryCalls.{call_named, entry_call, appoint_trigger, trigger_delay, async_delay, async_by_trigger, asynchronous_select}
use Rattle.profile_machine.specs.EntryCalls.{mark_sending, requeue, is_forbidden, owner_of_entry, entry_parameters, timed_moment, named_call, new_call}
use Rattle.machine_laws.proofs.FineMoves.{GoodWorld, Naming, first_is_false}
use Rattle.world_laws.proofs.Sequences.FineMoves.{FineMoves, Openings, Loosens, chains}
use Rattle.world_laws.proofs.Behind.{Behind}
use Rattle.world_laws.proofs.Sequences.Kept.Dispatching.{block-keeps}
use Rattle.world_laws.proofs.Sequences.Kept.Frames.{goes-keeps, leaves-keeps, push-alters, plain_steps}
use Rattle.world_laws.proofs.Sequences.Kept.CallEnds.{gone-keeps}
use Rattle.world_laws.proofs.Sequences.Kept.Protected.{where_let_inside-keeps, serve_call-keeps, begin_action_on-keeps}
use Rattle.world_laws.proofs.Sequences.Kept.Sending.{open_abortable-alters, not_accepted-keeps}
use Rattle.world_laws.proofs.Sequences.Kept.Rendezvous.{meet-keeps}
use Rattle.profile_machine.specs.Rendezvous.{delay_moment, is_callable, accept_for}
use Rattle.profile_machine.specs.Values.{seen_by}
use Rattle.machine_laws.proofs.Kept.Combinators.{Alters, Keeps, branch-keeps, changes-keeps, keeps-from, looks-from, looks-keeps}
use Rattle.machine_laws.proofs.Kept.Combinators.{nothing-keeps, said-keeps, sees-keeps, then-keeps, unchanged-alters}
use Rattle.machine_laws.proofs.Plain.Frames.{raises-keeps, given-from, given-keeps, raise_if-from, raise_if-keeps, with_room-keeps}
use Rattle.machine_laws.proofs.Plain.Calls.{edit_call-alters, forget_call-alters, says_call-keeps, enqueue-keeps}

module _ {p : Image} {G : GoodWorld} {May Other : Naming} (moves : FineMoves p G May Other) where
  add_call-alters : (c : Call) → Alters G (Behind G) (add_call c)
  unfolding Alters
  add_call-alters c w good = moves.adds_call c w good

  pub make_call-keeps : (c : Call) (step : Call → Step) → ((n : ℕ) → Keeps G (Behind G) (step (numbered n c))) → May (who.Task c.caller)
      → Keeps G (Behind G) (make_call p c step)
  make_call-keeps c step kept may =
      then-keeps (chains moves) (goes (who.Task c.caller) (next_of p c.statement)) _ (goes-keeps moves (who.Task c.caller) (next_of p c.statement) may)
      (looks-keeps (chains moves) _ (λ w. let d = numbered (suc w.drawn.calls) c in
      then-keeps (chains moves) (changes (add_call c)) _ (changes-keeps (chains moves) _ (add_call-alters c))
      (then-keeps (chains moves) (says_call TheCall d) (step d) (says_call-keeps (plain_steps moves) TheCall d) (kept (suc w.drawn.calls)))))

  pub end_at_once-keeps : (part : Part) (c : Call) (e : Raised) → Keeps G (Behind G) (end_at_once part c e)
  unfolding end_at_once
  end_at_once-keeps part c e = search (changes-keeps, forget_call-alters, then-keeps, raises-keeps, chains, plain_steps)

  pub call_gone-keeps : (c : Call) → Keeps G (Behind G) (call_gone p c)
  unfolding call_gone
  call_gone-keeps c = search (gone-keeps, then-keeps, end_at_once-keeps, chains)

  told-keeps : (part : Part) (line : Line) → Keeps G (Behind G) (says part line)
  told-keeps part line = said-keeps (chains moves) part line (λ w good. good)

  call_without_room-keeps : (o : ObjectNo) (c : Call) → Keeps G (Behind G) (call_without_room o c)
  unfolding call_without_room
  call_without_room-keeps o c = search (told-keeps, then-keeps, end_at_once-keeps, chains) depth 7

  call_refused-keeps : (o : ObjectNo) (c : Call) → Keeps G (Behind G) (call_refused o c)
  unfolding call_refused
  call_refused-keeps o c = search (told-keeps, then-keeps, end_at_once-keeps, chains)

  appoint_trigger-alters : (name : Who) (depth : ℕ) (m : ℤ) → Alters G (Behind G) (appoint_trigger name depth m)
  unfolding Alters
  appoint_trigger-alters (who.Task t) depth m w good = moves.appoints (due_for.Trigger t depth) m w good
  appoint_trigger-alters who.Agent depth m w good = good

  pub mark_sending-alters : (c : Option CallNo) (o : Owner) (e : EntryNo) (with_abort : Bool) → Alters G (Behind G) (mark_sending c o e with_abort)
  mark_sending-alters None o e with_abort = search (unchanged-alters, chains)
  mark_sending-alters (Some c) o e with_abort = search (edit_call-alters, plain_steps)

  pub requeue-keeps : (name : Who) (e : EntryNo) (o : EntryOwner) (with_abort : Bool) → Keeps G (Behind G) (requeue p name e o with_abort)
  unfolding requeue
  requeue-keeps name e o with_abort =
      search (sees-keeps, given-keeps, changes-keeps, mark_sending-alters, then-keeps, leaves-keeps, chains, plain_steps) depth 10

module _ {p : Image} {G : GoodWorld} {May Other : Naming} (moves : FineMoves p G May Other) (loose : Loosens p G May Other)
    (openings : Openings p G May Other) where
  call_meets-keeps : (t : TaskNo) (s : StatementNo) (c : Call) → Keeps G (Behind G) (call_meets p t s c)
  unfolding call_meets
  call_meets-keeps t s c =
      let other = moves.task_other t in
      meet-keeps moves loose (OfOther (who.Task t)) (who.Task t) s c (block TheBlock (who.Task c.caller) (waits_for.Call c.number))
      (end_at_once TheFinish c exception.Storage) other
      (block-keeps moves openings TheBlock (who.Task c.caller) (waits_for.Call c.number) (moves.task_other c.caller) refl)
      (end_at_once-keeps (loose (who.Task t) other).moves TheFinish c exception.Storage)

  call_queues-keeps : (c : Call) → May (who.Task c.caller) → Keeps G (Behind G) (call_queues p c)
  unfolding call_queues
  call_queues-keeps c may =
      then-keeps (chains moves) (enqueue p c.number) _ (enqueue-keeps (plain_steps moves) p c.number) (not_accepted-keeps moves openings Own c c.kind may)

  call_not_met-keeps : (c : Call) (test : Bool) → May (who.Task c.caller) → Keeps G (Behind G) (call_not_met p c test)
  unfolding call_not_met
  call_not_met-keeps c true may =
      make_call-keeps moves c (λ d. end_at_once Own d exception.Program) (λ n. end_at_once-keeps moves Own (numbered n c) exception.Program) may
  call_not_met-keeps c false may =
      with_room-keeps (plain_steps moves) (who.Task c.caller) (marks_if_queued c.kind) 0 (make_call p c (call_queues p))
      (make_call-keeps moves c (call_queues p) (λ n. call_queues-keeps (numbered n c) may) may)

  call_accepted_by-keeps : (t : TaskNo) (c : Call) (next : Option StatementNo) → May (who.Task c.caller) → Keeps G (Behind G) (call_accepted_by p t c next)
  unfolding call_accepted_by
  call_accepted_by-keeps t c (Some s) may = make_call-keeps moves c (call_meets p t s) (λ n. call_meets-keeps t s (numbered n c)) may
  call_accepted_by-keeps t c None may = looks-keeps (chains moves) _ (λ w. call_not_met-keeps c (is_full p w c.owner c.entry) may)

  call_callable-keeps : (t : TaskNo) (c : Call) (test : Bool) → May (who.Task c.caller) → Keeps G (Behind G) (call_callable p t c test)
  unfolding call_callable
  call_callable-keeps t c false may = make_call-keeps moves c (call_gone p) (λ n. call_gone-keeps moves (numbered n c)) may
  call_callable-keeps t c true may = looks-keeps (chains moves) _ (λ w. call_accepted_by-keeps t c (accept_for p c.entry (waiting_of w (who.Task t))) may)

  call_task-keeps : (t : TaskNo) (c : Call) → May (who.Task c.caller) → Keeps G (Behind G) (call_task p t c)
  unfolding call_task
  call_task-keeps t c may = looks-keeps (chains moves) _ (λ w. call_callable-keeps t c (is_callable w t) may)

  call_passes-keeps : (o : ObjectNo) (c : Call) → May (who.Task c.caller) → Keeps G (Behind G) (call_passes p o c)
  unfolding call_passes
  call_passes-keeps o c may =
      then-keeps (chains moves) (says Own (line.Enter (who.Task c.caller) o Write)) _ (told-keeps moves Own (line.Enter (who.Task c.caller) o Write))
      (then-keeps (chains moves) (enqueue p c.number) _ (enqueue-keeps (plain_steps moves) p c.number)
      (then-keeps (chains moves) (says Own (line.Exit (who.Task c.caller) o)) _ (told-keeps moves Own (line.Exit (who.Task c.caller) o))
      (not_accepted-keeps moves openings Own c c.kind may)))

  call_runs-keeps : (o : ObjectNo) (c : Call) → May (who.Task c.caller) → Keeps G (Behind G) (call_runs p o c)
  unfolding call_runs
  call_runs-keeps o c may =
      then-keeps (chains moves) (begin_action_on p (who.Task c.caller) o Write (Some c.number) None) _
      (begin_action_on-keeps moves (who.Task c.caller) o Write (Some c.number) None
      (push-alters moves openings (who.Task c.caller) (new_frame (new_protected_mark o Write (Some c.number) None) None) may refl refl refl))
      (serve_call-keeps moves openings Own (who.Task c.caller) o c nothing nothing may (nothing-keeps (chains moves)) (nothing-keeps (chains moves)))

  call_runs_if_room-keeps : (o : ObjectNo) (c : Call) → May (who.Task c.caller) → Keeps G (Behind G) (call_runs_if_room p o c)
  unfolding call_runs_if_room
  call_runs_if_room-keeps o c may =
      looks-keeps (chains moves) _
      (λ w. branch-keeps (chains moves) (has_room_for_action p w c) (call_runs p o c) (call_without_room o c) (call_runs-keeps o c may)
      (call_without_room-keeps moves o c))

  call_closed-keeps : (o : ObjectNo) (c : Call) (test : Bool) → May (who.Task c.caller) → Keeps G (Behind G) (call_closed p o c test)
  unfolding call_closed
  call_closed-keeps o c true may = make_call-keeps moves c (call_refused o) (λ n. call_refused-keeps moves o (numbered n c)) may
  call_closed-keeps o c false may =
      with_room-keeps (plain_steps moves) (who.Task c.caller) (marks_if_queued c.kind) 0 (make_call p c (call_passes p o))
      (make_call-keeps moves c (call_passes p o) (λ n. call_passes-keeps o (numbered n c) may) may)

  call_by_barrier-keeps : (o : ObjectNo) (c : Call) (test : Bool) → May (who.Task c.caller) → Keeps G (Behind G) (call_by_barrier p o c test)
  unfolding call_by_barrier
  call_by_barrier-keeps o c true may =
      with_room-keeps (plain_steps moves) (who.Task c.caller) 1 0 (make_call p c (call_runs_if_room p o))
      (make_call-keeps moves c (call_runs_if_room p o) (λ n. call_runs_if_room-keeps o (numbered n c) may) may)
  call_by_barrier-keeps o c false may = looks-keeps (chains moves) _ (λ w. call_closed-keeps o c (is_full p w c.owner c.entry) may)

  call_object-keeps : (o : ObjectNo) (c : Call) → May (who.Task c.caller) → Keeps G (Behind G) (call_object p o c)
  unfolding call_object
  call_object-keeps o c may =
      where_let_inside-keeps moves (who.Task c.caller) o Write _
      (λ w good h. keeps-from (chains moves) _ w good
      (looks-keeps (chains moves) _ (λ v. call_by_barrier-keeps o c (is_barrier_open p v (who.Task c.caller) o c.entry) may)))

  call_owner-keeps : (c : Call) (owner : Owner) → May (who.Task c.caller) → Keeps G (Behind G) (call_owner p c owner)
  unfolding call_owner
  call_owner-keeps c (owned_by.Task t) may = call_task-keeps t c may
  call_owner-keeps c (owned_by.Object o) may = call_object-keeps o c may

  pub call_named-keeps : (t : TaskNo) (kind : CallKind) (s : StatementNo) (n : EntryCallNamed) → May (who.Task t) → Keeps G (Behind G) (call_named p t kind s n)
  unfolding call_named
  call_named-keeps t kind s n may =
      sees-keeps (chains moves) p (who.Task t) _ (λ q. given-keeps (plain_steps moves) Own (who.Task t) (owner_of_entry q n.entry n.owner) _ (λ o.
      given-keeps (plain_steps moves) Own (who.Task t) (entry_parameters q (entry_of p n.entry).formals n.actuals) _ (λ parameters.
      given-keeps (plain_steps moves) Own (who.Task t) (timed_moment q (form_of p s)) _ (λ m.
      call_owner-keeps (new_call t kind s n o (active_of p q.world (who.Task t)) parameters m) o may))))

  pub entry_call-keeps : (name : Who) (kind : CallKind) (s : StatementNo) → May name → Keeps G (Behind G) (entry_call p name kind s)
  unfolding entry_call
  entry_call-keeps (who.Task t) kind s may =
      looks-keeps (chains moves) _
      (λ w.
      raise_if-keeps (plain_steps moves) (who.Task t) (is_forbidden w (who.Task t) kind) exception.Program _ (call_named-keeps t kind s (named_call p s) may))
  entry_call-keeps who.Agent kind s may = raises-keeps (plain_steps moves) Own who.Agent exception.Program

  trigger_delay-keeps : (name : Who) (s trigger : StatementNo) (m : ℤ) (test : Bool) → Other name → May name
      → Keeps G (Behind G) (trigger_delay p name s trigger m test)
  unfolding trigger_delay
  trigger_delay-keeps name s trigger m false other may = goes-keeps moves name (next_of p trigger) may
  trigger_delay-keeps name s trigger m true other may =
      with_room-keeps (plain_steps moves) name 1 0 _
      (then-keeps (chains moves) (goes name (next_of p s)) _ (goes-keeps moves name (next_of p s) may)
      (looks-keeps (chains moves) _
      (λ w.
      then-keeps (chains moves) (changes (open_abortable p name s None)) _ (changes-keeps (chains moves) _ (open_abortable-alters moves name s None other))
      (changes-keeps (chains moves) _ (appoint_trigger-alters moves name (length (frames_of w name)) m)))))

  pub async_delay-keeps : (name : Who) (s trigger : StatementNo) → May name → Keeps G (Behind G) (async_delay p name s trigger)
  unfolding async_delay
  async_delay-keeps name s trigger may =
      looks-from (chains moves)
      (λ v. raise_if name (is_forbidden v name call_kind.Triggering) exception.Program
      (given Own name (delay_moment (seen_by p v name) trigger) (λ m. trigger_delay p name s trigger m (int_lt (pos v.time) m))))
      (λ w good. raise_if-from (plain_steps moves) name (is_forbidden w name call_kind.Triggering) exception.Program _ w good (λ allowed.
      given-from (plain_steps moves) Own name (delay_moment (seen_by p w name) trigger) _ w good (λ m.
      keeps-from (chains moves) _ w good
      (trigger_delay-keeps name s trigger m (int_lt (pos w.time) m)
      (openings.outside name w good may (first_is_false (in_protected w name) (is_triggering call_kind.Triggering && is_deferred w name) allowed)) may))))

  pub async_by_trigger-keeps : (name : Who) (s trigger : StatementNo) (form : StatementForm) → May name
      → Keeps G (Behind G) (async_by_trigger p name s trigger form)
  unfolding async_by_trigger
  async_by_trigger-keeps name s trigger (form.EntryCall entry owner actuals) may = entry_call-keeps name call_kind.Triggering s may
  async_by_trigger-keeps name s trigger _ may = async_delay-keeps name s trigger may

  pub asynchronous_select-keeps : (name : Who) (s trigger : StatementNo) → May name → Keeps G (Behind G) (asynchronous_select p name s trigger)
  unfolding asynchronous_select
  asynchronous_select-keeps name s trigger may = async_by_trigger-keeps name s trigger (form_of p trigger) may
