-- Accepting calls: each step keeps a relation that its parts keep.
use Rattle.std.proofs.Common.{refl}
use Rattle.std.specs.Prelude.{Bool, true, false, List, Option, Some, None, [], ◌∷◌}
use Rattle.ann_base.specs.declared.exceptions.Raised.TheVariants as exception
use Rattle.ann_base.specs.declared.identities.CallNo.{CallNo}
use Rattle.ann_base.specs.declared.identities.TaskNo.{TaskNo}
use Rattle.trace_text.specs.declared.events.Who.{Who}
use Rattle.profile_image.specs.declared.image.Image.{Image}
use Rattle.profile_image.specs.declared.numbers.EntryNo.{EntryNo}
use Rattle.profile_image.specs.declared.numbers.StatementNo.{StatementNo}
use Rattle.profile_machine.specs.declared.run_data.Leaving.{Leaving}
use Rattle.profile_machine.specs.declared.run_data.Leaving.TheVariants as how
use Rattle.profile_machine.specs.declared.world.World.{World}
use Rattle.profile_machine.specs.declared.world.calls.Call.{Call}
use Rattle.profile_machine.specs.declared.world.calls.Owner.{Owner}
use Rattle.profile_machine.specs.declared.world.calls.Owner.TheVariants as owned_by
use Rattle.profile_machine.specs.declared.world.calls.Sending.{Sending}
use Rattle.profile_machine.specs.declared.world.lines.Part.{Part}
use Rattle.profile_machine.specs.declared.world.lines.Part.TheVariants.{TheFinish, TheBlock}
use Rattle.profile_machine.specs.declared.world.marks.AcceptMark.{AcceptMark}
use Rattle.profile_machine.specs.declared.world.marks.Mark.{Mark}
use Rattle.profile_machine.specs.declared.world.marks.Mark.TheVariants.{InAccept}
use Rattle.profile_machine.specs.declared.world.tasks.Cause.TheVariants as inherited_by
use Rattle.profile_machine.specs.declared.world.tasks.State.TheVariants.{Blocked}
use Rattle.profile_machine.specs.declared.world.tasks.Waiting.TheVariants as waits_for
use Rattle.profile_machine.specs.Calls.{parameters_of, next_call, place_of_entry}
use Rattle.profile_machine.specs.Dispatching.{ready}
use Rattle.profile_machine.specs.Frames.{new_frame, in_protected}
use Rattle.profile_machine.specs.Inheritance.{inherit}
use Rattle.profile_image.specs.Program.{form_of, scope_of}
use Rattle.profile_machine.specs.Rendezvous.{accept_scope, open_accept, has_room_for_accept, begin_accept, finish_without_room}
use Rattle.profile_machine.specs.Rendezvous.{accept_with_room, accept_call, meet_with_room, meet_without_room, meet, accept_or_wait}
use Rattle.profile_machine.specs.Rendezvous.{accept, accept_chosen, wait_at_select, gone_sent, meet_sent, arrive_at, arrive}
use Rattle.profile_machine.specs.Rendezvous.{finish_accept, finish_rendezvous, behind_accept, finished_call, end_in_accept, own_queue}
use Rattle.profile_machine.specs.Scopes.{begin_scope, next_id, plainly, innermost, cells_of, scope_in_use}
use Rattle.profile_machine.specs.Steps.{Step, changes}
use Rattle.profile_machine.specs.Tasks.{with_state, edit_task}
use Rattle.machine_laws.proofs.Moves.{StepRelation, MoveRelation}
use Rattle.world_laws.proofs.Appointments.Delays.{Idle}
use Rattle.world_laws.proofs.Appointments.FineMoves.{FineMoves, chains, says-keeps}
use Rattle.world_laws.proofs.Appointments.Kept.Appointments.{drops_then-from}
use Rattle.world_laws.proofs.Appointments.Kept.CallEnds.{deliver-keeps, gone-keeps}
use Rattle.world_laws.proofs.Appointments.Kept.Dispatching.{ready-from, idle_then-from, block-keeps}
use Rattle.world_laws.proofs.Appointments.Kept.Frames.{push-alters, pop-alters, goes-keeps, open_sequence-keeps, plain_steps}
use Rattle.world_laws.proofs.Appointments.Kept.Inheritance.{inherit-alters, inherit_running-keeps, lose_running-keeps}
use Rattle.world_laws.proofs.Appointments.Kept.Protected.{begin_call-keeps}
use Rattle.world_laws.proofs.Appointments.Kept.Scopes.{end_scope-alters}
use Rattle.world_laws.proofs.Appointments.Kept.Sending.{send_on-keeps, begin_abortable-keeps, sent_not_begun-keeps}
use Rattle.machine_laws.proofs.FineMoves.{GoodWorld, Naming}
use Rattle.machine_laws.proofs.Kept.Combinators.{Alters, From, Keeps, changes-from, changes-keeps, either-from, for_some-keeps}
use Rattle.machine_laws.proofs.Kept.Combinators.{from-keeps, looks-keeps, looks_at-from, nothing-keeps, then-from, then-keeps}
use Rattle.machine_laws.proofs.Plain.Calls.{edit_call-alters, with_call-keeps, enqueue-keeps}
use Rattle.machine_laws.proofs.Plain.Frames.{raises-keeps, pass_on-keeps, raise_if-keeps}
use Rattle.machine_laws.proofs.Plain.PlainSteps.{anybody}
use Rattle.machine_laws.proofs.Plain.Results.{finished_call-caller, finished_call-number}

module _ {G : GoodWorld} {May : Naming} {R : StepRelation} {Q : MoveRelation} (moves : FineMoves G May R Q) where
  open_accept-alters : (p : Image) (name : Who) (s : StatementNo) (c : Call) → Alters G R (open_accept p name s c)
  unfolding Alters
  open_accept-alters p name s c w good =
      let scope = accept_scope (form_of p s) in
      let b = record (plainly (innermost w name)) { values = parameters_of p c } in
      let begun = begin_scope p name scope b w in
      let mark : Mark = InAccept (record { call = c.number; accept = s; within = next_id w; handles = None }) in
      let first = moves.begins_scope p name scope b w good in
      moves.goes_on w begun (open_accept p name s c w) first
      (push-alters moves name (new_frame mark (scope_of p scope).first) refl begun (moves.behind w begun first))

  begin_accept-keeps : (p : Image) (part : Part) (name : Who) (s : StatementNo) (c : Call) → Keeps G R (begin_accept p part name s c)
  unfolding begin_accept
  begin_accept-keeps p part name s c = search (begin_call-keeps, then-keeps, goes-keeps, chains)

  finish_without_room-keeps : (part : Part) (name : Who) (c : Call) → Keeps G R (finish_without_room part name c)
  unfolding finish_without_room
  finish_without_room-keeps part name c = search (says-keeps)

  accept_with_room-keeps : (p : Image) (name : Who) (s : StatementNo) (c : Call) (has_room : Bool) → May name → Keeps G R (accept_with_room p name s c has_room)
  unfolding accept_with_room
  accept_with_room-keeps p name s c true other = search (changes-keeps, open_accept-alters, then-keeps, inherit_running-keeps, chains)
  accept_with_room-keeps p name s c false other = search (finish_without_room-keeps, then-keeps, deliver-keeps, raises-keeps, chains, plain_steps)

  pub accept_call-keeps : (p : Image) (name : Who) (s : StatementNo) (c : CallNo) → May name → Keeps G R (accept_call p name s c)
  unfolding accept_call
  accept_call-keeps p name s c other =
      search (with_call-keeps, begin_accept-keeps, then-keeps, looks-keeps, accept_with_room-keeps, chains, plain_steps) depth 8

  meet_with_room-from : (p : Image) (part : Part) (name : Who) (s : StatementNo) (c : Call) (then_ : Step) (w : World) → G w → Idle name w → Keeps G R then_
      → From R w (meet_with_room p part name s c then_)
  meet_with_room-from p part name s c then_ w good idle kept =
      idle_then-from moves name (begin_accept p part name s c) _ w good idle (begin_accept-keeps p part name s c) (λ a good_a idle_a.
      idle_then-from moves name (changes (open_accept p name s c)) _ a good_a idle_a (changes-keeps (chains moves) _ (open_accept-alters p name s c))
      (λ b good_b idle_b.
      idle_then-from moves name (changes (inherit name (inherited_by.Rendezvous c.number) c.priority)) _ b good_b idle_b
      (changes-keeps (chains moves) _ (inherit-alters moves name (inherited_by.Rendezvous c.number) c.priority)) (λ d good_d idle_d.
      then-from (chains moves) (ready p part name) _ d (ready-from moves p part name d good_d idle_d)
      (then-keeps (chains moves) _ _ (open_sequence-keeps moves p part name) kept))))

  meet_without_room-from : (p : Image) (part : Part) (name : Who) (s : StatementNo) (c : Call) (otherwise : Step) (w : World) → G w → Idle name w
      → Keeps G R otherwise → From R w (meet_without_room p part name s c otherwise)
  meet_without_room-from p part name s c otherwise w good idle kept =
      idle_then-from moves name (begin_accept p TheFinish name s c) _ w good idle (begin_accept-keeps p TheFinish name s c) (λ a good_a idle_a.
      idle_then-from moves name (finish_without_room TheFinish name c) _ a good_a idle_a (finish_without_room-keeps TheFinish name c) (λ b good_b idle_b.
      idle_then-from moves name otherwise _ b good_b idle_b kept (λ d good_d idle_d.
      then-from (chains moves) (ready p part name) _ d (ready-from moves p part name d good_d idle_d)
      (raises-keeps (plain_steps moves) part name exception.Storage))))

  pub meet-keeps : (p : Image) (part : Part) (name : Who) (s : StatementNo) (c : Call) (then_ otherwise : Step) → Keeps G R then_ → Keeps G R otherwise
      → Keeps G R (meet p part name s c then_ otherwise)
  meet-keeps p part name s c then_ otherwise kept also_kept =
      from-keeps (chains moves) _ (λ w good. drops_then-from moves name _ w good (λ v good_v idle.
      looks_at-from (chains moves)
      (λ u. elim (has_room_for_accept p u name s) as (λ _. Step) [
        | true ↦ meet_with_room p part name s c then_
        | false ↦ meet_without_room p part name s c otherwise
      ]) v
      (either-from (chains moves) (has_room_for_accept p v name s) (meet_with_room p part name s c then_) (meet_without_room p part name s c otherwise) v
      (meet_with_room-from p part name s c then_ v good_v idle kept) (meet_without_room-from p part name s c otherwise v good_v idle also_kept))))

  pub accept_or_wait-keeps : (p : Image) (name : Who) (s : StatementNo) (c : Option CallNo) → May name → Keeps G R (accept_or_wait p name s c)
  unfolding accept_or_wait
  accept_or_wait-keeps p name s (Some c) other = search (accept_call-keeps)
  accept_or_wait-keeps p name s None other = search (goes-keeps, then-keeps, block-keeps, chains)

  pub accept_chosen-keeps : (p : Image) (name : Who) (accepts : List StatementNo) (c : CallNo) → May name → Keeps G R (accept_chosen p name accepts c)
  unfolding accept_chosen
  accept_chosen-keeps p name accepts c other = search (with_call-keeps, for_some-keeps, accept_call-keeps, chains, plain_steps)

  -- no delay is appointed for who waits
  pub wait_at_select-keeps : (name : Who) (accepts : List StatementNo) (delay : Option StatementNo) (terminate : Bool) → May name
      → Keeps G R (wait_at_select name accepts delay terminate)
  unfolding wait_at_select
  wait_at_select-keeps name accepts delay true may =
      from-keeps (chains moves) _
      (λ w good. changes-from (chains moves) (edit_task name (with_state (Blocked (waits_for.Select accepts delay true)))) w
      (moves.blocks name (waits_for.Select accepts delay true) w good (moves.idle name w good may)))
  wait_at_select-keeps name accepts delay false may = block-keeps moves TheBlock name (waits_for.Select accepts delay false) may

  pub gone_sent-keeps : (p : Image) (c : Call) → Keeps G R (gone_sent p c)
  unfolding gone_sent
  gone_sent-keeps p c = search (gone-keeps, then-keeps, deliver-keeps, chains)

  pub meet_sent-keeps : (p : Image) (t : TaskNo) (c : Call) (next : Option StatementNo) → Keeps G R (meet_sent p t c next)
  unfolding meet_sent
  meet_sent-keeps p t c (Some s) = search (meet-keeps, begin_abortable-keeps, deliver-keeps)
  meet_sent-keeps p t c None = search (enqueue-keeps, then-keeps, sent_not_begun-keeps, chains, plain_steps)

  pub arrive_at-keeps : (p : Image) (t : TaskNo) (c : Call) (test : Bool) → Keeps G R (arrive_at p t c test)
  unfolding arrive_at
  arrive_at-keeps p t c false = search (gone_sent-keeps)
  arrive_at-keeps p t c true = search (looks-keeps, meet_sent-keeps, chains)

  pub arrive-keeps : (p : Image) (c : Call) (owner : Owner) → Keeps G R (arrive p c owner)
  unfolding arrive
  arrive-keeps p c (owned_by.Task t) = search (looks-keeps, arrive_at-keeps, chains)
  arrive-keeps p c (owned_by.Object o) = search (gone_sent-keeps)

  pub finish_accept-keeps : (p : Image) (name : Who) (c : Call) (sending : Option Sending) → Keeps G R (finish_accept p name c sending)
  unfolding finish_accept
  finish_accept-keeps p name c None = search (says-keeps, then-keeps, deliver-keeps, chains)
  finish_accept-keeps p name c (Some s) = search (says-keeps, then-keeps, send_on-keeps, with_call-keeps, arrive-keeps, chains, plain_steps)

  pub finish_rendezvous-keeps : (p : Image) (name : Who) (c : Call) (leaving : Leaving) → Keeps G R (finish_rendezvous p name c leaving)
  unfolding finish_rendezvous
  finish_rendezvous-keeps p name c (how.Exception e) = search (says-keeps, then-keeps, deliver-keeps, chains)
  finish_rendezvous-keeps p name c how.Abort = search (says-keeps, then-keeps, deliver-keeps, chains)
  finish_rendezvous-keeps p name c how.End = search (finish_accept-keeps)
  finish_rendezvous-keeps p name c how.Return = search (finish_accept-keeps)
  finish_rendezvous-keeps p name c (how.Exit loop) = search (finish_accept-keeps)
  finish_rendezvous-keeps p name c how.Terminate = search (finish_accept-keeps)

  pub behind_accept-keeps : (p : Image) (name : Who) (leaving : Leaving) → Keeps G R (behind_accept p name leaving)
  unfolding behind_accept
  behind_accept-keeps p name how.End = search (nothing-keeps, chains)
  behind_accept-keeps p name how.Return = search (nothing-keeps, chains)
  behind_accept-keeps p name (how.Exit loop) = search (pass_on-keeps, plain_steps, anybody)
  behind_accept-keeps p name (how.Exception e) = search (pass_on-keeps, plain_steps, anybody)
  behind_accept-keeps p name how.Abort = search (pass_on-keeps, plain_steps, anybody)
  behind_accept-keeps p name how.Terminate = search (pass_on-keeps, plain_steps, anybody)

  -- the accept on top finishes its call
  pub end_in_accept-keeps : (p : Image) (name : Who) (m : AcceptMark) (leaving : Leaving) → May name → Keeps G R (end_in_accept p name m leaving)
  unfolding end_in_accept
  end_in_accept-keeps p name m leaving may =
      then-keeps (chains moves) _ _ (looks-keeps (chains moves) _ (λ w.
      then-keeps (chains moves) _ _ (changes-keeps (chains moves) _ (pop-alters moves name))
      (then-keeps (chains moves) _ _ (changes-keeps (chains moves) _ (end_scope-alters moves m.within))
      (then-keeps (chains moves) _ _
      (changes-keeps (chains moves) _
      (edit_call-alters (plain_steps moves) m.call (finished_call p (cells_of (scope_in_use w m.within)) leaving)
      (finished_call-number p (cells_of (scope_in_use w m.within)) leaving) (finished_call-caller p (cells_of (scope_in_use w m.within)) leaving)))
      (with_call-keeps (plain_steps moves) m.call _ (λ c. finish_rendezvous-keeps p name c leaving))))))
      (then-keeps (chains moves) _ _ (lose_running-keeps moves p name (inherited_by.Rendezvous m.call) may) (behind_accept-keeps p name leaving))

  pub accept-keeps : (p : Image) (name : Who) (s : StatementNo) (e : EntryNo) → May name → Keeps G R (accept p name s e)
  unfolding accept
  accept-keeps p name s e may =
      looks-keeps (chains moves) _
      (λ w. raise_if-keeps (plain_steps moves) name (in_protected w name) exception.Program _
      (accept_or_wait-keeps p name s (next_call p w (own_queue w name (place_of_entry p e) ∷ [])) may))
