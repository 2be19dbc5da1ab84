-- Entry calls: each step leaves worlds good where its parts do.
use Rattle.std.proofs.Common.{refl, ap, eq-eqb, subst, sym, ◌≡◌, arith}
use Rattle.std.specs.Prelude.{ℕ, suc, ℤ, pos, int_lt, Bool, true, false, Option, Some, None, length, ◌&&◌, cond, find, ◌||◌}
use Rattle.ann_base.specs.declared.identities.CallNo.{CallNo}
use Rattle.ann_base.specs.declared.identities.ObjectNo.{ObjectNo}
use Rattle.ann_base.specs.declared.identities.TaskNo.{TaskNo}
use Rattle.ann_base.specs.declared.exceptions.Raised.{Raised}
use Rattle.ann_base.specs.declared.exceptions.Raised.TheVariants as exception
use Rattle.trace_text.specs.declared.events.Mode.TheVariants.{Write}
use Rattle.profile_machine.specs.declared.world.lines.Line.TheVariants as line
use Rattle.trace_text.specs.declared.events.Who.{Who}
use Rattle.trace_text.specs.declared.events.Who.TheVariants as who
use Rattle.profile_machine.specs.declared.world.calls.EntryCallNamed.{EntryCallNamed}
use Rattle.profile_image.specs.declared.image.Image.{Image}
use Rattle.profile_image.specs.declared.numbers.EntryNo.{EntryNo}
use Rattle.profile_image.specs.declared.numbers.StatementNo.{StatementNo}
use Rattle.profile_image.specs.declared.statements.EntryOwner.{EntryOwner}
use Rattle.profile_image.specs.declared.statements.StatementForm.{StatementForm}
use Rattle.profile_image.specs.declared.statements.StatementForm.TheVariants as form
use Rattle.profile_machine.specs.declared.world.World.{World}
use Rattle.profile_machine.specs.declared.world.calls.Call.{Call}
use Rattle.profile_machine.specs.declared.world.calls.CallKind.{CallKind}
use Rattle.profile_machine.specs.declared.world.calls.CallKind.TheVariants as call_kind
use Rattle.profile_machine.specs.declared.world.calls.Owner.{Owner}
use Rattle.profile_machine.specs.declared.world.appointments.Due.TheVariants as due_for
use Rattle.profile_machine.specs.declared.world.calls.Owner.TheVariants as owned_by
use Rattle.profile_machine.specs.declared.world.lines.Part.{Part}
use Rattle.profile_machine.specs.declared.world.lines.Part.TheVariants.{Own, TheCall, OfOther, TheBlock, TheFinish}
use Rattle.profile_machine.specs.Steps.{Step, says, changes, looks, ◌▷◌, nothing}
use Rattle.profile_image.specs.Program.{next_of, entry_of, form_of}
use Rattle.profile_machine.specs.Frames.{frames_of, edit_first, edit_top, goes_on, in_protected, raise_if, given, is_deferred, goes, raises}
use Rattle.profile_machine.specs.Tasks.{with_frames, waiting_of}
use Rattle.profile_machine.specs.Calls.{says_call, enqueue, is_full, is_call}
use Rattle.profile_machine.specs.Protected.{begin_action_on, is_barrier_open}
use Rattle.profile_machine.specs.Sending.{open_abortable, is_triggering}
use Rattle.profile_machine.specs.EntryCalls.{numbered, marks_if_queued, add_call, make_call, end_at_once, call_gone, call_meets, call_queues}
use Rattle.profile_machine.specs.EntryCalls.{call_not_met, call_accepted_by, call_callable, call_task, call_runs, call_without_room, has_room_for_action}
use Rattle.profile_machine.specs.EntryCalls.{call_runs_if_room, call_passes, call_refused, call_closed, call_by_barrier, call_object, call_owner}
use Rattle.profile_machine.specs.EntryCalls.{call_named, entry_call, appoint_trigger, trigger_delay, async_delay, async_by_trigger, asynchronous_select}
use Rattle.profile_machine.specs.EntryCalls.{mark_sending, requeue, is_forbidden, entry_parameters, named_call, new_call, owner_of_entry, timed_moment}
use Rattle.machine_laws.proofs.Moves.{LetsIn}
use Rattle.profile_machine.specs.declared.world.tasks.Task.{Task}
use Rattle.world_laws.proofs.Actions.FineMoves.{FineMoves, chains, says-keeps}
use Rattle.world_laws.proofs.Actions.Sound.{Free, Good}
use Rattle.machine_laws.proofs.Kept.Entering.{LetsIn-same, edit_task-objects}
use Rattle.machine_laws.proofs.FineMoves.{GoodWorld, Naming}
use Rattle.world_laws.proofs.Actions.Kept.Combinators.{changes_then-from, says_then-from}
use Rattle.world_laws.proofs.Actions.Kept.Dispatching.{block-keeps}
use Rattle.world_laws.proofs.Actions.Kept.Frames.{goes-keeps, leaves-keeps, goes_then-from, plain_steps}
use Rattle.world_laws.proofs.Actions.Kept.Appointments.{appoint-from}
use Rattle.world_laws.proofs.Actions.Kept.CallEnds.{gone-keeps}
use Rattle.world_laws.proofs.Actions.Kept.Protected.{begin_action_on-from, serve_call-keeps, where_let_inside-from, beside}
use Rattle.world_laws.proofs.Actions.Kept.Sending.{open_abortable-alters, not_accepted-keeps}
use Rattle.world_laws.proofs.Actions.Kept.Rendezvous.{meet-keeps}
use Rattle.profile_machine.specs.Rendezvous.{delay_moment, accept_for, is_callable}
use Rattle.profile_machine.specs.Values.{seen_by, Seen}
use Rattle.world_laws.proofs.Actions.GoodMoves.{Awake, awake-edited, free-by_test, good_moves, first-natures}
use Rattle.world_laws.proofs.Actions.KnownMoves.{Known}
use Rattle.world_laws.proofs.Actions.Kept.Switching.{Only, less-from}
use Rattle.profile_machine.specs.Dispatching.{active_of, block}
use Rattle.profile_machine.specs.declared.world.tasks.Waiting.TheVariants as waits_for
use Rattle.line_laws.proofs.Leaving.Modes.{Nobody}
use Rattle.machine_laws.proofs.Kept.Combinators.{Alters, From, Keeps, changes-keeps, either-from, keeps-from, looks-from, looks-keeps}
use Rattle.machine_laws.proofs.Kept.Combinators.{looks_at-from, nothing-keeps, sees-keeps, then-from, then-keeps, unchanged-alters}
use Rattle.world_laws.proofs.Behind.{Behind}
use Rattle.machine_laws.proofs.Plain.Frames.{raises-keeps, given-from, given-keeps, raise_if-from, with_room-from, with_room-keeps}
use Rattle.machine_laws.proofs.Plain.Calls.{edit_call-alters, forget_call-alters, says_call-keeps, enqueue-keeps}

module _ {G : GoodWorld} {F : Naming} (moves : FineMoves G F) where
  add_call-alters : (c : Call) → Alters G (Behind G) (add_call c)
  unfolding Alters
  add_call-alters c w good = moves.adds_call c w good

  pub make_call-keeps : (p : Image) (c : Call) (step : Call → Step) → ((n : ℕ) → Keeps G (Behind G) (step (numbered n c)))
      → Keeps G (Behind G) (make_call p c step)
  make_call-keeps p c step kept =
      then-keeps (chains moves) (goes (who.Task c.caller) (next_of p c.statement)) _ (goes-keeps moves (who.Task c.caller) (next_of p c.statement))
      (looks-keeps (chains moves) _ (λ w. then-keeps (chains moves) (changes (add_call c)) _ (changes-keeps (chains moves) _ (add_call-alters c))
      (then-keeps (chains moves) (says_call TheCall (numbered (suc w.drawn.calls) c)) _
      (says_call-keeps (plain_steps moves) TheCall (numbered (suc w.drawn.calls) c)) (kept (suc w.drawn.calls)))))

  pub end_at_once-keeps : (part : Part) (c : Call) (e : Raised) → Keeps G (Behind G) (end_at_once part c e)
  unfolding end_at_once
  end_at_once-keeps part c e = search (changes-keeps, forget_call-alters, then-keeps, raises-keeps, chains, plain_steps)

  pub call_gone-keeps : (p : Image) (c : Call) → Keeps G (Behind G) (call_gone p c)
  unfolding call_gone
  call_gone-keeps p c = search (gone-keeps, then-keeps, end_at_once-keeps, chains)

  pub call_meets-keeps : (p : Image) (t : TaskNo) (s : StatementNo) (c : Call) → F (who.Task c.caller) → Keeps G (Behind G) (call_meets p t s c)
  unfolding call_meets
  call_meets-keeps p t s c free =
      meet-keeps moves p (OfOther (who.Task t)) (who.Task t) s c (block TheBlock (who.Task c.caller) (waits_for.Call c.number))
      (end_at_once TheFinish c exception.Storage)
      (block-keeps moves TheBlock (who.Task c.caller) (waits_for.Call c.number) free) (end_at_once-keeps TheFinish c exception.Storage)

  pub call_queues-keeps : (p : Image) (c : Call) → F (who.Task c.caller) → Keeps G (Behind G) (call_queues p c)
  unfolding call_queues
  call_queues-keeps p c free =
      then-keeps (chains moves) (enqueue p c.number) _ (enqueue-keeps (plain_steps moves) p c.number) (not_accepted-keeps moves p Own c c.kind free)

  pub call_not_met-keeps : (p : Image) (c : Call) (test : Bool) → F (who.Task c.caller) → Keeps G (Behind G) (call_not_met p c test)
  unfolding call_not_met
  call_not_met-keeps p c true free =
      make_call-keeps p c (λ d. end_at_once Own d exception.Program) (λ n. end_at_once-keeps Own (numbered n c) exception.Program)
  call_not_met-keeps p c false free =
      with_room-keeps (plain_steps moves) (who.Task c.caller) (marks_if_queued c.kind) 0 _
      (make_call-keeps p c (call_queues p) (λ n. call_queues-keeps p (numbered n c) free))

  pub call_accepted_by-keeps : (p : Image) (t : TaskNo) (c : Call) (next : Option StatementNo) → F (who.Task c.caller)
      → Keeps G (Behind G) (call_accepted_by p t c next)
  unfolding call_accepted_by
  call_accepted_by-keeps p t c (Some s) free = make_call-keeps p c (call_meets p t s) (λ n. call_meets-keeps p t s (numbered n c) free)
  call_accepted_by-keeps p t c None free = looks-keeps (chains moves) _ (λ w. call_not_met-keeps p c (is_full p w c.owner c.entry) free)

  pub call_callable-keeps : (p : Image) (t : TaskNo) (c : Call) (test : Bool) → F (who.Task c.caller) → Keeps G (Behind G) (call_callable p t c test)
  unfolding call_callable
  call_callable-keeps p t c false free = make_call-keeps p c (call_gone p) (λ n. call_gone-keeps p (numbered n c))
  call_callable-keeps p t c true free = looks-keeps (chains moves) _ (λ w. call_accepted_by-keeps p t c (accept_for p c.entry (waiting_of w (who.Task t))) free)

  pub call_task-keeps : (p : Image) (t : TaskNo) (c : Call) → F (who.Task c.caller) → Keeps G (Behind G) (call_task p t c)
  unfolding call_task
  call_task-keeps p t c free = looks-keeps (chains moves) _ (λ w. call_callable-keeps p t c (is_callable w t) free)

  -- ---- a call of a protected entry that is not accepted at once, or not at all

  call_without_room-keeps : (o : ObjectNo) (c : Call) → Keeps G (Behind G) (call_without_room o c)
  unfolding call_without_room
  call_without_room-keeps o c = search (says-keeps, then-keeps, end_at_once-keeps, chains) depth 9

  call_passes-keeps : (p : Image) (o : ObjectNo) (c : Call) → F (who.Task c.caller) → Keeps G (Behind G) (call_passes p o c)
  unfolding call_passes
  call_passes-keeps p o c free =
      then-keeps (chains moves) (says Own (line.Enter (who.Task c.caller) o Write)) _ (says-keeps moves Own (line.Enter (who.Task c.caller) o Write))
      (then-keeps (chains moves) (enqueue p c.number) _ (enqueue-keeps (plain_steps moves) p c.number)
      (then-keeps (chains moves) (says Own (line.Exit (who.Task c.caller) o)) _ (says-keeps moves Own (line.Exit (who.Task c.caller) o))
      (not_accepted-keeps moves p Own c c.kind free)))

  call_refused-keeps : (o : ObjectNo) (c : Call) → Keeps G (Behind G) (call_refused o c)
  unfolding call_refused
  call_refused-keeps o c = search (says-keeps, then-keeps, end_at_once-keeps, chains) depth 7

  call_closed-keeps : (p : Image) (o : ObjectNo) (c : Call) (test : Bool) → F (who.Task c.caller) → Keeps G (Behind G) (call_closed p o c test)
  unfolding call_closed
  call_closed-keeps p o c true free = make_call-keeps p c (call_refused o) (λ n. call_refused-keeps o (numbered n c))
  call_closed-keeps p o c false free =
      with_room-keeps (plain_steps moves) (who.Task c.caller) (marks_if_queued c.kind) 0 _
      (make_call-keeps p c (call_passes p o) (λ n. call_passes-keeps p o (numbered n c) free))

  appoint_trigger-from : (name : Who) (depth : ℕ) (m : ℤ) (w : World) → G w → From (Behind G) w (changes (appoint_trigger name depth m))
  appoint_trigger-from (who.Task t) depth m w good = appoint-from moves (due_for.Trigger t depth) m w good
  appoint_trigger-from who.Agent depth m w good =
      keeps-from (chains moves) (changes (λ v. v)) w good (changes-keeps (chains moves) (λ v. v) (unchanged-alters (chains moves)))

  -- the abortable part opens, and the moment is set
  opens_until : (p : Image) (name : Who) (s : StatementNo) (m : ℤ) (w : World) → G w → F name
      → From (Behind G) w (looks (λ v. changes (open_abortable p name s None) ▷ changes (appoint_trigger name (length (frames_of v name)) m)))
  unfolding Alters
  opens_until p name s m w good free =
      let opened = open_abortable-alters moves p name s None free w good in
      looks_at-from (chains moves) (λ v. changes (open_abortable p name s None) ▷ changes (appoint_trigger name (length (frames_of v name)) m)) w
      (changes_then-from moves (open_abortable p name s None) _ w
      (appoint_trigger-from name (length (frames_of w name)) m _ opened))

  trigger_delay-from : (p : Image) (name : Who) (s trigger : StatementNo) (m : ℤ) (test : Bool) (w : World) → G w → F name
      → From (Behind G) w (trigger_delay p name s trigger m test)
  unfolding trigger_delay
  trigger_delay-from p name s trigger m false w good free = keeps-from (chains moves) _ w good (search (goes-keeps))
  trigger_delay-from p name s trigger m true w good free =
      with_room-from (plain_steps moves) name 1 0 _ w good
      (goes_then-from moves name (next_of p s) _ w good (λ good_onward.
      opens_until p name s m _ good_onward free))

  pub mark_sending-alters : (c : Option CallNo) (o : Owner) (e : EntryNo) (with_abort : Bool) → Alters G (Behind G) (mark_sending c o e with_abort)
  mark_sending-alters None o e with_abort = search (unchanged-alters, chains)
  mark_sending-alters (Some c) o e with_abort = search (edit_call-alters, plain_steps)

  pub requeue-keeps : (p : Image) (name : Who) (e : EntryNo) (o : EntryOwner) (with_abort : Bool) → Keeps G (Behind G) (requeue p name e o with_abort)
  unfolding requeue
  requeue-keeps p name e o with_abort =
      search (sees-keeps, given-keeps, changes-keeps, mark_sending-alters, then-keeps, leaves-keeps, chains, plain_steps) depth 10

-- ---- a call of a protected entry, whose caller is let in

abbrev outside : (c : Call) → FineMoves (Good (Only (who.Task c.caller))) (Only (who.Task c.caller))
outside c = good_moves (Only (who.Task c.caller))

-- who is outside all protected actions, is ready, and made this call
pub record Calling (o : ObjectNo) (c : Call) (w : World) : Type 0 where
  pub good : Good (Only (who.Task c.caller)) w
  pub awake : Awake (who.Task c.caller) w
  pub lets : LetsIn (who.Task c.caller) o Write w

plain-from : (c : Call) (step : Step) (w : World) → Good (Only (who.Task c.caller)) w
    → Keeps (Good (Only (who.Task c.caller))) (Behind (Good (Only (who.Task c.caller)))) step → From (Behind (Good Nobody)) w step
plain-from c step w good a = less-from (Only (who.Task c.caller)) step w (keeps-from (chains (outside c)) step w good a)

call_runs-from : (p : Image) (o : ObjectNo) (c : Call) (w : World) → Calling o c w → Known (who.Task c.caller) c.number w
    → From (Behind (Good Nobody)) w (call_runs p o c)
unfolding call_runs
call_runs-from p o c w h known =
    let name = who.Task c.caller in
    let good : Good Nobody w = (h.good.0, λ n is. absurd is) in
    then-from (chains beside) (begin_action_on p name o Write (Some c.number) None) _ w
    (begin_action_on-from p name o Write (Some c.number) None w good h.awake h.lets (λ e. h.good.1 name refl) tt known)
    (serve_call-keeps beside p Own name o c nothing nothing (nothing-keeps (chains beside)) (nothing-keeps (chains beside)))

call_runs_if_room-from : (p : Image) (o : ObjectNo) (c : Call) (w : World) → Calling o c w → Known (who.Task c.caller) c.number w
    → From (Behind (Good Nobody)) w (call_runs_if_room p o c)
unfolding call_runs_if_room
call_runs_if_room-from p o c w h known =
    looks_at-from (chains beside) (λ v. elim (has_room_for_action p v c) as (λ _. Step) [ true ↦ call_runs p o c | false ↦ call_without_room o c ]) w
    (either-from (chains beside) (has_room_for_action p w c) (call_runs p o c) (call_without_room o c) w (call_runs-from p o c w h known)
    (plain-from c (call_without_room o c) w h.good (call_without_room-keeps (outside c) o c)))

-- the call is made first
made-known : (c : Call) (w : World) → Known (who.Task c.caller) (record { 0 = suc w.drawn.calls }) (add_call c w)
made-known c w = (
  omega arith,
  λ d e. found d
      (ap (λ b. cond b (Some (numbered (suc w.drawn.calls) c)) (find (is_call (record { 0 = suc w.drawn.calls })) w.calls))
      (eq-eqb (suc w.drawn.calls) (suc w.drawn.calls) refl)) e,
  tt,
)
  where
    found : (d : Call) → find (is_call (record { 0 = suc w.drawn.calls })) (add_call c w).calls ≡ Some (numbered (suc w.drawn.calls) c)
        → find (is_call (record { 0 = suc w.drawn.calls })) (add_call c w).calls ≡ Some d → who.Task d.caller ≡ who.Task c.caller
    found d a e = let same : numbered (suc w.drawn.calls) c ≡ d = cc in ap (λ (x : Call). who.Task x.caller) (sym same)

make_call-from : (p : Image) (o : ObjectNo) (c : Call) (w : World) → Calling o c w → From (Behind (Good Nobody)) w (make_call p c (call_runs_if_room p o))
unfolding says_call goes
make_call-from p o c w h =
    let name = who.Task c.caller in
    let f = λ (t : Task). with_frames (edit_first (goes_on (next_of p c.statement)) t.frames) t in
    let onward = edit_top name (goes_on (next_of p c.statement)) w in
    let made = add_call c onward in
    let d = numbered (suc onward.drawn.calls) c in
    let gone = went c p w h.good in
    let calling : Calling o d made =
    record {
      good = (outside c).adds_call c onward gone;
      awake = awake-edited name name f w (λ t. refl) (λ t. refl) h.awake;
      lets = LetsIn-same name o Write w made (edit_task-objects name f w) h.lets;
    } in
    changes_then-from beside (edit_top name (goes_on (next_of p c.statement))) _ w
    (looks_at-from (chains beside)
    (λ v. changes (add_call c) ▷ says_call TheCall (numbered (suc v.drawn.calls) c) ▷ call_runs_if_room p o (numbered (suc v.drawn.calls) c)) onward
    (changes_then-from beside (add_call c) _ onward
    (says_then-from beside TheCall (line.Call d.caller d.number d.owner d.entry d.priority) (call_runs_if_room p o d) made
    (call_runs_if_room-from p o d made calling (made-known c onward)))))
  where
    went : (c : Call) (p : Image) (w : World) → Good (Only (who.Task c.caller)) w
        → Good (Only (who.Task c.caller)) (edit_top (who.Task c.caller) (goes_on (next_of p c.statement)) w)
    went c p w good =
        (outside c).edits_frames (who.Task c.caller) (edit_first (goes_on (next_of p c.statement))) w good
        (λ fs. first-natures (goes_on (next_of p c.statement)) fs (λ x. refl))

call_by_barrier-from : (p : Image) (o : ObjectNo) (c : Call) (test : Bool) (w : World) → Calling o c w
    → From (Behind (Good Nobody)) w (call_by_barrier p o c test)
unfolding call_by_barrier
call_by_barrier-from p o c true w h =
    let good : Good Nobody w = (h.good.0, λ n is. absurd is) in
    with_room-from (plain_steps beside) (who.Task c.caller) 1 0 (make_call p c (call_runs_if_room p o)) w good (make_call-from p o c w h)
call_by_barrier-from p o c false w h =
    plain-from c _ w h.good (looks-keeps (chains (outside c)) _ (λ v. call_closed-keeps (outside c) p o c (is_full p v c.owner c.entry) refl))

call_object-from : (p : Image) (o : ObjectNo) (c : Call) (w : World) → Good (Only (who.Task c.caller)) w → Awake (who.Task c.caller) w
    → From (Behind (Good Nobody)) w (call_object p o c)
unfolding call_object
call_object-from p o c w good awake =
    let less : Good Nobody w = (good.0, λ n is. absurd is) in
    where_let_inside-from beside p (who.Task c.caller) o Write _ w less
    (λ lets. looks_at-from (chains beside) (λ v. call_by_barrier p o c (is_barrier_open p v (who.Task c.caller) o c.entry)) w
    (call_by_barrier-from p o c (is_barrier_open p w (who.Task c.caller) o c.entry) w (record { good = good; awake = awake; lets = lets })))

call_owner-from : (p : Image) (c : Call) (owner : Owner) (w : World) → Good (Only (who.Task c.caller)) w → Awake (who.Task c.caller) w
    → From (Behind (Good Nobody)) w (call_owner p c owner)
unfolding call_owner
call_owner-from p c (owned_by.Task t) w good awake = plain-from c (call_task p t c) w good (call_task-keeps (outside c) p t c refl)
call_owner-from p c (owned_by.Object o) w good awake = call_object-from p o c w good awake

call_named-from : (p : Image) (t : TaskNo) (kind : CallKind) (s : StatementNo) (n : EntryCallNamed) (w : World) → Good (Only (who.Task t)) w
    → Awake (who.Task t) w → From (Behind (Good Nobody)) w (call_named p t kind s n)
unfolding call_named
call_named-from p t kind s n w good awake =
    let q = seen_by p w (who.Task t) in
    let less : Good Nobody w = (good.0, λ n is. absurd is) in
    looks_at-from (chains beside) (λ v. named_by (seen_by p v (who.Task t))) w
    (given-from (plain_steps beside) Own (who.Task t) (owner_of_entry q n.entry n.owner) _ w less (λ o.
    given-from (plain_steps beside) Own (who.Task t) (entry_parameters q (entry_of p n.entry).formals n.actuals) _ w less (λ parameters.
    given-from (plain_steps beside) Own (who.Task t) (timed_moment q (form_of p s)) _ w less (λ m.
    call_owner-from p (new_call t kind s n o (active_of p w (who.Task t)) parameters m) o w good awake))))
  where
    named_by : Seen → Step
    named_by q = given Own (who.Task t) (owner_of_entry q n.entry n.owner) (λ o.
        given Own (who.Task t) (entry_parameters q (entry_of p n.entry).formals n.actuals) (λ parameters.
        given Own (who.Task t) (timed_moment q (form_of p s)) (λ m.
        call_owner p (new_call t kind s n o (active_of p q.world (who.Task t)) parameters m) o)))

allowed-free : (name : Who) (kind : CallKind) (w : World) → is_forbidden w name kind ≡ false → Free name w
allowed-free name kind w e = free-by_test name w (first (in_protected w name) (is_triggering kind && is_deferred w name) e)
  where
    first : (a b : Bool) → (a || b) ≡ false → a ≡ false
    first true b e = e
    first false b e = refl

pub entry_call-from : (p : Image) (name : Who) (kind : CallKind) (s : StatementNo) (w : World) → Good Nobody w → Awake name w
    → From (Behind (Good Nobody)) w (entry_call p name kind s)
unfolding entry_call
entry_call-from p (who.Task t) kind s w good awake =
    looks_at-from (chains beside) (λ v. raise_if (who.Task t) (is_forbidden v (who.Task t) kind) exception.Program (call_named p t kind s (named_call p s))) w
    (raise_if-from (plain_steps beside) (who.Task t) (is_forbidden w (who.Task t) kind) exception.Program _ w good (λ e.
    call_named-from p t kind s (named_call p s) w (good.0, λ n is. subst (λ m. Free m w) (sym is) (allowed-free (who.Task t) kind w e)) awake))
entry_call-from p who.Agent kind s w good awake =
    keeps-from (chains beside) (raises Own who.Agent exception.Program) w good (raises-keeps (plain_steps beside) Own who.Agent exception.Program)

async_delay-keeps : (p : Image) (name : Who) (s trigger : StatementNo) → Keeps (Good Nobody) (Behind (Good Nobody)) (async_delay p name s trigger)
unfolding async_delay
async_delay-keeps p name s trigger =
    let alone = good_moves (Only name) in
    looks-from (chains beside)
    (λ v. raise_if name (is_forbidden v name call_kind.Triggering) exception.Program
    (given Own name (delay_moment (seen_by p v name) trigger) (λ m. trigger_delay p name s trigger m (int_lt (pos v.time) m))))
    (λ w good. raise_if-from (plain_steps beside) name (is_forbidden w name call_kind.Triggering) exception.Program _ w good (λ e.
    given-from (plain_steps beside) Own name (delay_moment (seen_by p w name) trigger) _ w good (λ m.
    less-from (Only name) _ w
    (trigger_delay-from alone p name s trigger m (int_lt (pos w.time) m) w
    (good.0, λ n is. subst (λ k. Free k w) (sym is) (allowed-free name call_kind.Triggering w e)) refl))))

async_by_trigger-from : (p : Image) (name : Who) (s trigger : StatementNo) (form : StatementForm) (w : World) → Good Nobody w → Awake name w
    → From (Behind (Good Nobody)) w (async_by_trigger p name s trigger form)
unfolding async_by_trigger
async_by_trigger-from p name s trigger (form.EntryCall entry owner actuals) w good awake = entry_call-from p name call_kind.Triggering s w good awake
async_by_trigger-from p name s trigger _ w good awake = keeps-from (chains beside) (async_delay p name s trigger) w good (async_delay-keeps p name s trigger)

pub asynchronous_select-from : (p : Image) (name : Who) (s trigger : StatementNo) (w : World) → Good Nobody w → Awake name w
    → From (Behind (Good Nobody)) w (asynchronous_select p name s trigger)
unfolding asynchronous_select
asynchronous_select-from p name s trigger w good awake = async_by_trigger-from p name s trigger (form_of p trigger) w good awake
