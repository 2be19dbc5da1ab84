-- Entry calls: each step keeps a relation that its parts keep.
use Rattle.std.proofs.Common.{refl, ap, ◌∙◌, append_assoc}
use Rattle.std.specs.Prelude.{ℕ, suc, Bool, true, false, List, [], ◌∷◌, ◌++◌, Option, Some, None}
use Rattle.ann_base.specs.declared.identities.CallNo.{CallNo}
use Rattle.ann_base.specs.declared.identities.ObjectNo.{ObjectNo}
use Rattle.ann_base.specs.declared.identities.TaskNo.{TaskNo}
use Rattle.ann_base.specs.declared.exceptions.Raised.{Raised}
use Rattle.ann_base.specs.declared.exceptions.Raised.TheVariants as exception
use Rattle.trace_text.specs.declared.events.Mode.TheVariants.{Write}
use Rattle.profile_machine.specs.declared.world.lines.Line.TheVariants as line
use Rattle.profile_machine.specs.declared.world.lines.MeetingEnd.TheVariants as meeting
use Rattle.profile_machine.specs.declared.world.lines.Said.{Said}
use Rattle.trace_text.specs.declared.events.Who.{Who}
use Rattle.trace_text.specs.declared.events.Who.TheVariants as who
use Rattle.profile_machine.specs.declared.world.calls.EntryCallNamed.{EntryCallNamed}
use Rattle.profile_image.specs.declared.image.Image.{Image}
use Rattle.profile_image.specs.declared.numbers.EntryNo.{EntryNo}
use Rattle.profile_image.specs.declared.numbers.StatementNo.{StatementNo}
use Rattle.profile_image.specs.declared.statements.EntryOwner.{EntryOwner}
use Rattle.profile_machine.specs.declared.world.World.{World}
use Rattle.profile_machine.specs.declared.world.calls.Call.{Call}
use Rattle.profile_machine.specs.declared.world.calls.CallKind.{CallKind}
use Rattle.profile_machine.specs.declared.world.calls.Owner.{Owner}
use Rattle.profile_machine.specs.declared.world.calls.Owner.TheVariants as owned_by
use Rattle.profile_machine.specs.declared.world.lines.Part.{Part}
use Rattle.profile_machine.specs.declared.world.lines.Part.TheVariants.{Own, TheCall}
use Rattle.profile_machine.specs.Steps.{Step, goes_on_with, says, changes, for_some, ◌▷◌, nothing}
use Rattle.profile_image.specs.Program.{next_of}
use Rattle.profile_machine.specs.Frames.{edit_first, edit_top, goes_on}
use Rattle.profile_machine.specs.Tasks.{with_frames}
use Rattle.profile_machine.specs.Calls.{call_of, says_call, enqueued, enqueue, is_full}
use Rattle.profile_machine.specs.Protected.{begin_action_on, is_barrier_open}
use Rattle.profile_machine.specs.Sending.{not_accepted}
use Rattle.profile_machine.specs.EntryCalls.{numbered, marks_if_queued, add_call, make_call, end_at_once, call_gone, call_meets, call_queues}
use Rattle.profile_machine.specs.EntryCalls.{call_not_met, call_accepted_by, call_callable, call_task, call_runs, call_without_room}
use Rattle.profile_machine.specs.EntryCalls.{has_room_for_action, call_runs_if_room, call_passes, call_refused, call_closed, call_by_barrier}
use Rattle.profile_machine.specs.EntryCalls.{call_object, call_owner, call_named, entry_call, mark_sending, requeue}
use Rattle.machine_laws.proofs.Moves.{StepRelation, MoveRelation, LetsIn, own}
use Rattle.world_laws.proofs.Marks.FineMoves.{FineMoves, Openings, chains}
use Rattle.machine_laws.proofs.Kept.Entering.{LetsIn-same, edit_task-objects}
use Rattle.world_laws.proofs.Marks.Kept.Dispatching.{block-keeps}
use Rattle.world_laws.proofs.Marks.Kept.Frames.{goes-keeps, leaves-keeps, goes_then-from, plain_steps}
use Rattle.world_laws.proofs.Marks.Kept.CallEnds.{gone-keeps}
use Rattle.world_laws.proofs.Marks.Kept.Protected.{where_let_inside-keeps, begin_action_on-from, serve_call-keeps}
use Rattle.world_laws.proofs.Marks.Kept.Sending.{not_accepted-keeps}
use Rattle.world_laws.proofs.Marks.Kept.Rendezvous.{meet-keeps}
use Rattle.ann_base.specs.declared.identities.RegionNo.{RegionNo}
use Rattle.machine_laws.proofs.FineMoves.{GoodWorld, Naming}
use Rattle.machine_laws.proofs.Kept.Combinators.{Alters, From, Keeps, Kept, changes-keeps, changes_then-from, either-from, looks-keeps}
use Rattle.machine_laws.proofs.Kept.Combinators.{looks_at-from, nothing-keeps, said_then-from, sees-keeps, then-from, then-keeps, unchanged-alters}
use Rattle.machine_laws.proofs.Plain.Frames.{raises-keeps, given-keeps, raise_if-keeps, with_room-from, with_room-keeps}
use Rattle.machine_laws.proofs.Plain.Calls.{edit_call-alters, forget_call-alters, says_call-keeps, enqueued-alters, enqueue-keeps}

module _ {G : GoodWorld} {May Other : Naming} {R : StepRelation} {Q : MoveRelation} (moves : FineMoves G May Other R Q) where
  add_call-alters : (c : Call) → Alters G R (add_call c)
  unfolding Alters
  add_call-alters c w good = moves.adds_call c w good

  pub make_call-keeps : (p : Image) (c : Call) (step : Call → Step) → ((x : Call) → Keeps G R (step x)) → Keeps G R (make_call p c step)
  make_call-keeps p c step kept = search (goes-keeps, then-keeps, looks-keeps, changes-keeps, add_call-alters, says_call-keeps, chains, plain_steps) depth 9

  pub end_at_once-keeps : (part : Part) (c : Call) (e : Raised) → Keeps G R (end_at_once part c e)
  unfolding end_at_once
  end_at_once-keeps part c e = search (changes-keeps, forget_call-alters, then-keeps, raises-keeps, chains, plain_steps)

  pub call_gone-keeps : (p : Image) (c : Call) → Keeps G R (call_gone p c)
  unfolding call_gone
  call_gone-keeps p c = search (gone-keeps, then-keeps, end_at_once-keeps, chains)

  pub call_meets-keeps : (p : Image) (t : TaskNo) (s : StatementNo) (c : Call) → Keeps G R (call_meets p t s c)
  unfolding call_meets
  call_meets-keeps p t s c = search (meet-keeps, block-keeps, end_at_once-keeps, moves.task_other)

  pub call_queues-keeps : (p : Image) (c : Call) → Keeps G R (call_queues p c)
  unfolding call_queues
  call_queues-keeps p c = search (enqueue-keeps, then-keeps, not_accepted-keeps, chains, plain_steps)

  pub call_not_met-keeps : (p : Image) (c : Call) (test : Bool) → Keeps G R (call_not_met p c test)
  unfolding call_not_met
  call_not_met-keeps p c true = search (make_call-keeps, end_at_once-keeps)
  call_not_met-keeps p c false = search (with_room-keeps, make_call-keeps, call_queues-keeps, plain_steps)

  pub call_accepted_by-keeps : (p : Image) (t : TaskNo) (c : Call) (next : Option StatementNo) → Keeps G R (call_accepted_by p t c next)
  unfolding call_accepted_by
  call_accepted_by-keeps p t c (Some s) = search (make_call-keeps, call_meets-keeps)
  call_accepted_by-keeps p t c None = search (looks-keeps, call_not_met-keeps, chains)

  pub call_callable-keeps : (p : Image) (t : TaskNo) (c : Call) (test : Bool) → Keeps G R (call_callable p t c test)
  unfolding call_callable
  call_callable-keeps p t c false = search (make_call-keeps, call_gone-keeps)
  call_callable-keeps p t c true = search (looks-keeps, call_accepted_by-keeps, chains)

  pub call_task-keeps : (p : Image) (t : TaskNo) (c : Call) → Keeps G R (call_task p t c)
  unfolding call_task
  call_task-keeps p t c = search (looks-keeps, call_callable-keeps, chains)

  -- ---- a call of a protected entry, whose caller is let in

  -- the call is made, and the caller is let in still
  make_call-from : (p : Image) (o : ObjectNo) (c : Call) (step : Call → Step) (w : World) → G w → LetsIn (who.Task c.caller) o Write w
      → ((n : ℕ) (v : World) → G v → LetsIn (who.Task c.caller) o Write v → From R v (step (numbered n c))) → From R w (make_call p c step)
  unfolding says_call
  make_call-from p o c step w good h kept =
      let name = who.Task c.caller in
      let onward = edit_top name (goes_on (next_of p c.statement)) w in
      let made = add_call c onward in
      let d = numbered (suc onward.drawn.calls) c in
      let still : LetsIn name o Write made =
      LetsIn-same name o Write w made (edit_task-objects name (λ t. with_frames (edit_first (goes_on (next_of p c.statement)) t.frames) t) w) h in
      goes_then-from moves name (next_of p c.statement) _ w good (λ good_onward.
      let added = moves.adds_call c onward good_onward in
      let good_made = moves.behind onward made added in
      looks_at-from (chains moves)
      (λ v. changes (add_call c) ▷ says_call TheCall (numbered (suc v.drawn.calls) c) ▷ step (numbered (suc v.drawn.calls) c)) onward
      (changes_then-from (chains moves) (add_call c) _ onward added
      (said_then-from (chains moves) TheCall (line.Call d.caller d.number d.owner d.entry d.priority) (step d) made
      (moves.says TheCall (line.Call d.caller d.number d.owner d.entry d.priority) made good_made refl)
      (kept (suc onward.drawn.calls) made good_made still))))

  -- the action ends at once, without room
  told_without_room-from : (o : ObjectNo) (c : Call) (w : World) → G w → LetsIn (who.Task c.caller) o Write w
      → From R w (says Own (line.Enter (who.Task c.caller) o Write) ▷ says Own (line.Start (who.Task c.caller) c.number)
      ▷ says Own (line.Finish (who.Task c.caller) c.number (meeting.Raised exception.Storage)) ▷ says Own (line.Exit (who.Task c.caller) o))
  unfolding From Kept
  told_without_room-from o c w good h said =
      let name = who.Task c.caller in
      let a = own (line.Enter name o Write) in
      let b = own (line.Start name c.number) in
      let d = own (line.Finish name c.number (meeting.Raised exception.Storage)) in
      let e = own (line.Exit name o) in (
        a ∷ b ∷ d ∷ e ∷ [],
        ap (λ xs. xs ++ e ∷ []) (ap (λ xs. xs ++ d ∷ []) (append_assoc said (a ∷ []) (b ∷ [])) ∙ append_assoc said (a ∷ b ∷ []) (d ∷ []))
            ∙ append_assoc said (a ∷ b ∷ d ∷ []) (e ∷ []),
        moves.visits name o Write (b ∷ d ∷ []) w w good h (refl, (refl, tt)) (moves.stays w good),
      )

  call_without_room-from : (o : ObjectNo) (c : Call) (w : World) → G w → LetsIn (who.Task c.caller) o Write w → From R w (call_without_room o c)
  unfolding call_without_room
  call_without_room-from o c w good h =
      then-from (chains moves)
      (says Own (line.Enter (who.Task c.caller) o Write) ▷ says Own (line.Start (who.Task c.caller) c.number)
      ▷ says Own (line.Finish (who.Task c.caller) c.number (meeting.Raised exception.Storage)) ▷ says Own (line.Exit (who.Task c.caller) o))
      (end_at_once Own c exception.Storage) w
      (told_without_room-from o c w good h)
      (end_at_once-keeps Own c exception.Storage)

  told_refused-from : (o : ObjectNo) (c : Call) (w : World) → G w → LetsIn (who.Task c.caller) o Write w
      → From R w (says Own (line.Enter (who.Task c.caller) o Write) ▷ says Own (line.Exit (who.Task c.caller) o))
  unfolding From Kept
  told_refused-from o c w good h said =
      let name = who.Task c.caller in (
        own (line.Enter name o Write) ∷ own (line.Exit name o) ∷ [],
        append_assoc said (own (line.Enter name o Write) ∷ []) (own (line.Exit name o) ∷ []),
        moves.visits name o Write [] w w good h tt (moves.stays w good),
      )

  -- it is queued in the action
  told_queued-from : (p : Image) (o : ObjectNo) (c d : Call) (w : World) → G w → LetsIn (who.Task c.caller) o Write w
      → From R w (says Own (line.Enter (who.Task c.caller) o Write) ▷ changes (enqueued p d) ▷ says Own (line.Exit (who.Task c.caller) o))
  unfolding From Kept Alters
  told_queued-from p o c d w good h said =
      let name = who.Task c.caller in (
        own (line.Enter name o Write) ∷ own (line.Exit name o) ∷ [],
        append_assoc said (own (line.Enter name o Write) ∷ []) (own (line.Exit name o) ∷ []),
        moves.visits name o Write [] w (enqueued p d w) good h tt (enqueued-alters (plain_steps moves) p d w good),
      )

  passes_found-kept : (p : Image) (o : ObjectNo) (c : Call) (w : World) (found : Option Call) (said : List Said) → G w → LetsIn (who.Task c.caller) o Write w
      → Kept R w said
      (goes_on_with (says Own (line.Exit (who.Task c.caller) o) ▷ not_accepted p Own c c.kind)
      (for_some found (λ d. changes (enqueued p d)) w (said ++ own (line.Enter (who.Task c.caller) o Write) ∷ [])))
  unfolding From
  passes_found-kept p o c w None said good h =
      then-from (chains moves) (says Own (line.Enter (who.Task c.caller) o Write) ▷ says Own (line.Exit (who.Task c.caller) o)) (not_accepted p Own c c.kind) w
      (told_refused-from o c w good h) (not_accepted-keeps moves p Own c c.kind) said
  passes_found-kept p o c w (Some d) said good h =
      then-from (chains moves) (says Own (line.Enter (who.Task c.caller) o Write) ▷ changes (enqueued p d) ▷ says Own (line.Exit (who.Task c.caller) o))
      (not_accepted p Own c c.kind) w (told_queued-from p o c d w good h) (not_accepted-keeps moves p Own c c.kind) said

  call_passes-from : (p : Image) (o : ObjectNo) (c : Call) (w : World) → G w → LetsIn (who.Task c.caller) o Write w → From R w (call_passes p o c)
  unfolding call_passes From enqueue
  call_passes-from p o c w good h said = passes_found-kept p o c w (call_of w c.number) said good h

  call_refused-from : (o : ObjectNo) (c : Call) (w : World) → G w → LetsIn (who.Task c.caller) o Write w → From R w (call_refused o c)
  unfolding call_refused
  call_refused-from o c w good h =
      then-from (chains moves) (says Own (line.Enter (who.Task c.caller) o Write) ▷ says Own (line.Exit (who.Task c.caller) o))
      (end_at_once Own c exception.Program) w (told_refused-from o c w good h) (end_at_once-keeps Own c exception.Program)

  pub mark_sending-alters : (c : Option CallNo) (o : Owner) (e : EntryNo) (with_abort : Bool) → Alters G R (mark_sending c o e with_abort)
  mark_sending-alters None o e with_abort = search (unchanged-alters, chains)
  mark_sending-alters (Some c) o e with_abort = search (edit_call-alters, plain_steps)

  pub requeue-keeps : (p : Image) (name : Who) (e : EntryNo) (o : EntryOwner) (with_abort : Bool) → Keeps G R (requeue p name e o with_abort)
  unfolding requeue
  requeue-keeps p name e o with_abort =
      search (sees-keeps, given-keeps, changes-keeps, mark_sending-alters, then-keeps, leaves-keeps, chains, plain_steps) depth 10

module _ {G : GoodWorld} {May Other : Naming} {Owns : Who → RegionNo → Type 0} {R : StepRelation} {Q : MoveRelation} (moves : FineMoves G May Other R Q)
    (openings : Openings G May Other Owns R) where
  call_runs-from : (p : Image) (o : ObjectNo) (c : Call) (w : World) → G w → LetsIn (who.Task c.caller) o Write w → From R w (call_runs p o c)
  unfolding call_runs
  call_runs-from p o c w good h =
      let may = moves.other_may (who.Task c.caller) (moves.task_other c.caller) in
      then-from (chains moves) (begin_action_on p (who.Task c.caller) o Write (Some c.number) None) _ w
      (begin_action_on-from moves p (who.Task c.caller) o Write (Some c.number) None w good may h)
      (serve_call-keeps moves openings p Own (who.Task c.caller) o c nothing nothing may (nothing-keeps (chains moves)) (nothing-keeps (chains moves)))

  call_runs_if_room-from : (p : Image) (o : ObjectNo) (c : Call) (w : World) → G w → LetsIn (who.Task c.caller) o Write w → From R w (call_runs_if_room p o c)
  unfolding call_runs_if_room
  call_runs_if_room-from p o c w good h =
      looks_at-from (chains moves) (λ v. elim (has_room_for_action p v c) as (λ _. Step) [ true ↦ call_runs p o c | false ↦ call_without_room o c ]) w
      (either-from (chains moves) (has_room_for_action p w c) (call_runs p o c) (call_without_room o c) w (call_runs-from p o c w good h)
      (call_without_room-from moves o c w good h))

  call_closed-from : (p : Image) (o : ObjectNo) (c : Call) (test : Bool) (w : World) → G w → LetsIn (who.Task c.caller) o Write w
      → From R w (call_closed p o c test)
  unfolding call_closed
  call_closed-from p o c true w good h = make_call-from moves p o c (call_refused o) w good h (λ n v g k. call_refused-from moves o (numbered n c) v g k)
  call_closed-from p o c false w good h =
      with_room-from (plain_steps moves) (who.Task c.caller) (marks_if_queued c.kind) 0 (make_call p c (call_passes p o)) w good
      (make_call-from moves p o c (call_passes p o) w good h (λ n v g k. call_passes-from moves p o (numbered n c) v g k))

  call_by_barrier-from : (p : Image) (o : ObjectNo) (c : Call) (test : Bool) (w : World) → G w → LetsIn (who.Task c.caller) o Write w
      → From R w (call_by_barrier p o c test)
  unfolding call_by_barrier
  call_by_barrier-from p o c true w good h =
      with_room-from (plain_steps moves) (who.Task c.caller) 1 0 (make_call p c (call_runs_if_room p o)) w good
      (make_call-from moves p o c (call_runs_if_room p o) w good h (λ n v g k. call_runs_if_room-from p o (numbered n c) v g k))
  call_by_barrier-from p o c false w good h =
      looks_at-from (chains moves) (λ v. call_closed p o c (is_full p v c.owner c.entry)) w (call_closed-from p o c (is_full p w c.owner c.entry) w good h)

  pub call_object-keeps : (p : Image) (o : ObjectNo) (c : Call) → Keeps G R (call_object p o c)
  unfolding call_object
  call_object-keeps p o c =
      where_let_inside-keeps moves p (who.Task c.caller) o Write _ (moves.other_may (who.Task c.caller) (moves.task_other c.caller))
      (λ w good h. looks_at-from (chains moves) (λ v. call_by_barrier p o c (is_barrier_open p v (who.Task c.caller) o c.entry)) w
      (call_by_barrier-from p o c (is_barrier_open p w (who.Task c.caller) o c.entry) w good h))

  pub call_owner-keeps : (p : Image) (c : Call) (owner : Owner) → Keeps G R (call_owner p c owner)
  unfolding call_owner
  call_owner-keeps p c (owned_by.Task t) = search (call_task-keeps)
  call_owner-keeps p c (owned_by.Object o) = search (call_object-keeps)

  pub call_named-keeps : (p : Image) (t : TaskNo) (kind : CallKind) (s : StatementNo) (n : EntryCallNamed) → Keeps G R (call_named p t kind s n)
  unfolding call_named
  call_named-keeps p t kind s n = search (sees-keeps, given-keeps, call_owner-keeps, chains, plain_steps) depth 8

  pub entry_call-keeps : (p : Image) (name : Who) (kind : CallKind) (s : StatementNo) → Keeps G R (entry_call p name kind s)
  unfolding entry_call
  entry_call-keeps p (who.Task t) kind s = search (looks-keeps, raise_if-keeps, call_named-keeps, chains, plain_steps)
  entry_call-keeps p who.Agent kind s = search (raises-keeps, plain_steps)
