-- Accepting calls: each step keeps a relation that its parts keep.
use Rattle.std.specs.Prelude.{ℤ, pos, int_le, Bool, true, false, List, Option, Some, None, [], ◌∷◌}
use Rattle.ann_base.specs.declared.identities.CallNo.{CallNo}
use Rattle.ann_base.specs.declared.identities.TaskNo.{TaskNo}
use Rattle.trace_text.specs.declared.events.Who.{Who}
use Rattle.trace_text.specs.declared.events.Who.TheVariants as who
use Rattle.profile_machine.specs.declared.world.calls.DelayMoment.{DelayMoment}
use Rattle.profile_image.specs.declared.image.Image.{Image}
use Rattle.profile_image.specs.declared.numbers.EntryNo.{EntryNo}
use Rattle.profile_image.specs.declared.numbers.StatementNo.{StatementNo}
use Rattle.profile_machine.specs.declared.run_data.Leaving.{Leaving}
use Rattle.profile_machine.specs.declared.run_data.Leaving.TheVariants as how
use Rattle.profile_image.specs.declared.statements.SelectAlternative.{SelectAlternative}
use Rattle.profile_image.specs.declared.statements.SelectKind.{SelectKind}
use Rattle.profile_machine.specs.declared.world.World.{World}
use Rattle.profile_machine.specs.declared.world.marks.Mark.{Mark}
use Rattle.profile_machine.specs.declared.world.calls.Call.{Call}
use Rattle.profile_machine.specs.declared.world.calls.Owner.{Owner}
use Rattle.profile_machine.specs.declared.world.calls.Sending.{Sending}
use Rattle.profile_machine.specs.declared.world.tasks.Waiting.TheVariants as waits_for
use Rattle.profile_machine.specs.declared.world.tasks.Cause.TheVariants as inherited_by
use Rattle.ann_base.specs.declared.exceptions.Raised.TheVariants as exception
use Rattle.profile_machine.specs.declared.world.appointments.Due.TheVariants as due_for
use Rattle.profile_machine.specs.declared.world.calls.Owner.TheVariants as owned_by
use Rattle.profile_machine.specs.declared.world.marks.Mark.TheVariants.{InAccept}
use Rattle.profile_image.specs.Program.{form_of, next_of, scope_of}
use Rattle.profile_machine.specs.declared.world.lines.Part.{Part}
use Rattle.profile_machine.specs.Steps.{Step, changes, ◌▷◌}
use Rattle.profile_machine.specs.Frames.{new_frame, in_protected}
use Rattle.profile_machine.specs.Scopes.{begin_scope, next_id, plainly, innermost}
use Rattle.profile_machine.specs.Appointments.{drop_delay}
use Rattle.profile_machine.specs.Calls.{parameters_of, next_call, place_of_entry}
use Rattle.profile_machine.specs.Rendezvous.{accept_scope, open_accept, has_room_for_accept, begin_accept, finish_without_room, accept_with_room, accept_call}
use Rattle.profile_machine.specs.Rendezvous.{meet_with_room, meet_without_room, meet, accept_or_wait, accept, accept_chosen, wait_at_select, appoint_delay}
use Rattle.profile_machine.specs.Rendezvous.{select_delay, select_wait, select_otherwise, select_by_call, select_open, selective_accept, gone_sent, meet_sent}
use Rattle.profile_machine.specs.Rendezvous.{arrive_at, arrive, finish_accept, finish_rendezvous, behind_accept, own_queue, open_alternatives, open_delays}
use Rattle.std.proofs.Common.{◌≡◌, refl}
use Rattle.profile_machine.specs.declared.world.tasks.Waiting.{Waiting}
use Rattle.profile_machine.specs.Tasks.{edit_task, with_state, waiting_of}
use Rattle.profile_machine.specs.declared.world.tasks.State.TheVariants.{Blocked}
use Rattle.profile_machine.specs.Rendezvous.{accept_for, begin_accept, open_accept}
use Rattle.profile_machine.specs.Frames.{goes, open_sequence, raises}
use Rattle.profile_machine.specs.Dispatching.{ready}
use Rattle.profile_machine.specs.Inheritance.{inherit}
use Rattle.profile_machine.specs.declared.world.tasks.Cause.TheVariants as inherited_by
use Rattle.profile_machine.specs.Protected.{begin_call}
use Rattle.profile_machine.specs.declared.world.calls.Outcome.TheVariants as call_ended
use Rattle.profile_machine.specs.Sending.{begin_abortable}
use Rattle.profile_machine.specs.declared.world.lines.Part.TheVariants.{TheFinish}
use Rattle.profile_machine.specs.Appointments.{drop_delay}
use Rattle.machine_laws.proofs.Moves.{StepRelation, MoveRelation}
use Rattle.line_laws.proofs.Leaving.FineMoves.{FineMoves, Free, waits, chains, says-keeps}
use Rattle.line_laws.proofs.Leaving.Kept.Combinators.{free_then-from}
use Rattle.line_laws.proofs.Leaving.Kept.Dispatching.{ready-keeps, block-keeps, block-keeps}
use Rattle.line_laws.proofs.Leaving.Kept.Frames.{no_call, goes-from, goes-keeps, open_sequence-keeps, goes_then-from, plain_steps}
use Rattle.line_laws.proofs.Leaving.Kept.Inheritance.{inherit-alters, inherit_running-keeps}
use Rattle.line_laws.proofs.Leaving.Kept.Appointments.{appoint-from, drop_delay-alters}
use Rattle.line_laws.proofs.Leaving.Kept.CallEnds.{deliver-keeps, gone-keeps}
use Rattle.line_laws.proofs.Leaving.Kept.Protected.{begin_call-keeps}
use Rattle.line_laws.proofs.Leaving.Kept.Sending.{send_on-keeps, begin_abortable-keeps, sent_not_begun-keeps}
use Rattle.profile_machine.specs.Values.{seen_by}
use Rattle.profile_machine.specs.declared.world.lines.Part.TheVariants.{Own}
use Rattle.machine_laws.proofs.FineMoves.{GoodWorld, Naming}
use Rattle.machine_laws.proofs.Kept.Combinators.{Alters, From, Keeps, changes-from, changes-keeps, either-from, for_some-keeps, keeps-from}
use Rattle.machine_laws.proofs.Kept.Combinators.{looks-from, looks-keeps, looks_at-from, nothing-keeps, then-from, then-keeps, unchanged-alters}
use Rattle.machine_laws.proofs.Plain.Frames.{raises-keeps, pass_on-keeps, raise_if-keeps, given-from, raise_if-from}
use Rattle.machine_laws.proofs.Plain.Calls.{with_call-keeps, enqueue-keeps}

module _ {G : GoodWorld} {May Acts Pushes : Naming} {Stops : Type 0} {R : StepRelation} {Q : MoveRelation} (moves : FineMoves G May Acts Pushes Stops R Q) where
  -- who is free opens an accept
  accept_opened : (p : Image) (name : Who) (s : StatementNo) (c : Call) (w : World) → G w → Pushes name → Free name w → R w [] (open_accept p name s c w)
  accept_opened p name s c w good pushes free =
      let scope = accept_scope (form_of p s) in
      let b = record (plainly (innermost w name)) { values = parameters_of p c } in
      let begun = begin_scope p name scope b w in
      let mark : Mark = InAccept (record { call = c.number; accept = s; within = next_id w; handles = None }) in
      let first = moves.begins_scope p name scope b w good in
      moves.goes_on w begun (open_accept p name s c w) first
      (moves.pushes name (new_frame mark (scope_of p scope).first) begun (moves.behind w begun first) pushes
      (moves.still_free name w begun first free) refl refl (λ n e. no_call n None refl e))

  open_accept-alters : (p : Image) (name : Who) (s : StatementNo) (c : Call) → May name → Alters G R (open_accept p name s c)
  unfolding Alters
  open_accept-alters p name s c may w good = accept_opened p name s c w good (moves.may_pushes name may) (moves.may_free name w good may)

  begin_accept-keeps : (p : Image) (part : Part) (name : Who) (s : StatementNo) (c : Call) → May name → Keeps G R (begin_accept p part name s c)
  unfolding begin_accept
  begin_accept-keeps p part name s c may = search (begin_call-keeps, then-keeps, goes-keeps, chains)

  begin_accept-from : (p : Image) (part : Part) (name : Who) (s : StatementNo) (c : Call) (w : World) → G w → Free name w
      → From R w (begin_accept p part name s c)
  unfolding begin_accept
  begin_accept-from p part name s c w good free =
      free_then-from moves name (begin_call p part name c) (goes name (next_of p s)) w free
      (keeps-from (chains moves) (begin_call p part name c) w good (begin_call-keeps moves p part name c))
      (λ v good_v free_v. goes-from moves name (next_of p s) v good_v free_v)

  finish_without_room-keeps : (part : Part) (name : Who) (c : Call) → Keeps G R (finish_without_room part name c)
  unfolding finish_without_room
  finish_without_room-keeps part name c = search (says-keeps)

  accept_with_room-keeps : (p : Image) (name : Who) (s : StatementNo) (c : Call) (has_room : Bool) → May name → Keeps G R (accept_with_room p name s c has_room)
  unfolding accept_with_room
  accept_with_room-keeps p name s c true may = search (changes-keeps, open_accept-alters, then-keeps, inherit_running-keeps, moves.may_acts, chains)
  accept_with_room-keeps p name s c false may = search (finish_without_room-keeps, then-keeps, deliver-keeps, raises-keeps, chains, plain_steps)

  pub accept_call-keeps : (p : Image) (name : Who) (s : StatementNo) (c : CallNo) → May name → Keeps G R (accept_call p name s c)
  unfolding accept_call
  accept_call-keeps p name s c may = search (with_call-keeps, begin_accept-keeps, then-keeps, looks-keeps, accept_with_room-keeps, chains, plain_steps) depth 8

  meet_with_room-from : (p : Image) (part : Part) (name : Who) (s : StatementNo) (c : Call) (then_ : Step) (w : World) → G w → Pushes name → Free name w
      → Keeps G R then_ → From R w (meet_with_room p part name s c then_)
  meet_with_room-from p part name s c then_ w good pushes free kept =
      free_then-from moves name (begin_accept p part name s c) _ w free (begin_accept-from p part name s c w good free) (λ v good_v free_v.
      then-from (chains moves) (changes (open_accept p name s c))
      (changes (inherit name (inherited_by.Rendezvous c.number) c.priority) ▷ ready p part name ▷ open_sequence p part name ▷ then_) v
      (changes-from (chains moves) (open_accept p name s c) v (accept_opened p name s c v good_v pushes free_v))
      (search (changes-keeps, inherit-alters, then-keeps, ready-keeps, open_sequence-keeps, chains) depth 9))

  meet_without_room-from : (p : Image) (part : Part) (name : Who) (s : StatementNo) (c : Call) (otherwise : Step) (w : World) → G w → Free name w
      → Keeps G R otherwise → From R w (meet_without_room p part name s c otherwise)
  meet_without_room-from p part name s c otherwise w good free kept =
      then-from (chains moves) (begin_accept p TheFinish name s c)
      (finish_without_room TheFinish name c ▷ otherwise ▷ ready p part name ▷ raises part name exception.Storage) w
      (begin_accept-from p TheFinish name s c w good free)
      (search (then-keeps, finish_without_room-keeps, ready-keeps, raises-keeps, chains, plain_steps) depth 9)

  -- who waits meets a call
  pub meet-from : (p : Image) (part : Part) (name : Who) (s : StatementNo) (c : Call) (then_ otherwise : Step) (w : World) → G w → Pushes name → Free name w
      → Keeps G R then_ → Keeps G R otherwise → From R w (meet p part name s c then_ otherwise)
  meet-from p part name s c then_ otherwise w good pushes free kept also_kept =
      free_then-from moves name (changes (drop_delay name)) _ w free
      (keeps-from (chains moves) (changes (drop_delay name)) w good (search (changes-keeps, drop_delay-alters, chains))) (λ v good_v free_v.
      looks_at-from (chains moves)
      (λ u. elim (has_room_for_accept p u name s) as (λ _. Step) [
        | true ↦ meet_with_room p part name s c then_
        | false ↦ meet_without_room p part name s c otherwise
      ]) v
      (either-from (chains moves) (has_room_for_accept p v name s) (meet_with_room p part name s c then_) (meet_without_room p part name s c otherwise) v
      (meet_with_room-from p part name s c then_ v good_v pushes free_v kept) (meet_without_room-from p part name s c otherwise v good_v free_v also_kept)))

  pub accept-waits : (p : Image) (e : EntryNo) (waiting : Option Waiting) (s : StatementNo) → accept_for p e waiting ≡ Some s → waits waiting ≡ true
  accept-waits p e (Some (waits_for.Accept a)) s is = refl
  accept-waits p e (Some (waits_for.Select accepts delay terminate)) s is = refl
  accept-waits p e None s is = absurd cc
  accept-waits p e (Some waits_for.Activation) s is = absurd cc
  accept-waits p e (Some waits_for.Moment) s is = absurd cc
  accept-waits p e (Some (waits_for.Call c)) s is = absurd cc
  accept-waits p e (Some (waits_for.EndOfCall c)) s is = absurd cc
  accept-waits p e (Some (waits_for.Dependents r)) s is = absurd cc
  accept-waits p e (Some waits_for.Release) s is = absurd cc

  pub accept_or_wait-keeps : (p : Image) (name : Who) (s : StatementNo) (c : Option CallNo) → May name → Keeps G R (accept_or_wait p name s c)
  unfolding accept_or_wait
  accept_or_wait-keeps p name s (Some c) may = search (accept_call-keeps)
  accept_or_wait-keeps p name s None may = search (goes-keeps, then-keeps, block-keeps, chains)

  pub accept_chosen-keeps : (p : Image) (name : Who) (accepts : List StatementNo) (c : CallNo) → May name → Keeps G R (accept_chosen p name accepts c)
  unfolding accept_chosen
  accept_chosen-keeps p name accepts c may = search (with_call-keeps, for_some-keeps, accept_call-keeps, chains, plain_steps)

  silent-alters : (name : Who) (accepts : List StatementNo) (delay : Option StatementNo) → May name
      → Alters G R (edit_task name (with_state (Blocked (waits_for.Select accepts delay true))))
  unfolding Alters
  silent-alters name accepts delay may w good = moves.waits_silently name accepts delay w good may

  pub wait_at_select-keeps : (name : Who) (accepts : List StatementNo) (delay : Option StatementNo) (test : Bool) → May name
      → Keeps G R (wait_at_select name accepts delay test)
  unfolding wait_at_select
  wait_at_select-keeps name accepts delay true may = changes-keeps (chains moves) _ (silent-alters name accepts delay may)
  wait_at_select-keeps name accepts delay false may = search (block-keeps)

  appoint_delay-from : (name : Who) (m : ℤ) (w : World) → G w → From R w (changes (appoint_delay name m))
  appoint_delay-from (who.Task t) m w good = appoint-from moves (due_for.Delay t) m w good
  appoint_delay-from who.Agent m w good =
      keeps-from (chains moves) (changes (λ v. v)) w good (changes-keeps (chains moves) (λ v. v) (unchanged-alters (chains moves)))

  select_delay-from : (p : Image) (name : Who) (s : StatementNo) (accepts : List StatementNo) (m : DelayMoment) (terminate test : Bool) (w : World) → G w
      → May name → From R w (select_delay p name s accepts m terminate test)
  unfolding select_delay
  select_delay-from p name s accepts m terminate true w good may = keeps-from (chains moves) _ w good (search (goes-keeps))
  select_delay-from p name s accepts m terminate false w good may =
      goes_then-from moves name (next_of p s) _ w good may (λ good_onward.
      then-from (chains moves) (changes (appoint_delay name m.at)) _ _
      (appoint_delay-from name m.at _ good_onward)
      (wait_at_select-keeps name accepts (Some m.delay) terminate may))

  pub select_wait-keeps : (p : Image) (name : Who) (s : StatementNo) (accepts : List StatementNo) (terminate : Bool) (moment : Option DelayMoment) → May name
      → Keeps G R (select_wait p name s accepts terminate moment)
  unfolding select_wait
  select_wait-keeps p name s accepts terminate None may = search (goes-keeps, then-keeps, wait_at_select-keeps, chains)
  select_wait-keeps p name s accepts terminate (Some m) may =
      looks-from (chains moves) _ (λ w good. select_delay-from p name s accepts m terminate (int_le m.at (pos w.time)) w good may)

  pub select_otherwise-keeps : (p : Image) (name : Who) (s : StatementNo) (kinds : List SelectKind) (m : Option DelayMoment) (next : Option StatementNo)
      → May name → Keeps G R (select_otherwise p name s kinds m next)
  unfolding select_otherwise
  select_otherwise-keeps p name s kinds m (Some otherwise) may = search (goes-keeps)
  select_otherwise-keeps p name s kinds m None may = search (select_wait-keeps)

  pub select_by_call-keeps : (p : Image) (name : Who) (s : StatementNo) (kinds : List SelectKind) (m : Option DelayMoment) (otherwise : Option StatementNo)
      (c : Option CallNo)
      → May name
      → Keeps G R (select_by_call p name s kinds m otherwise c)
  unfolding select_by_call
  select_by_call-keeps p name s kinds m otherwise (Some c) may = search (accept_chosen-keeps)
  select_by_call-keeps p name s kinds m otherwise None may = search (select_otherwise-keeps)

  pub select_open-keeps : (p : Image) (name : Who) (s : StatementNo) (otherwise : Option StatementNo) (kinds : List SelectKind) (moments : List DelayMoment)
      → May name → Keeps G R (select_open p name s otherwise kinds moments)
  unfolding select_open
  select_open-keeps p name s otherwise kinds moments may = search (raise_if-keeps, looks-keeps, select_by_call-keeps, chains, plain_steps)

  pub gone_sent-keeps : (p : Image) (c : Call) → Keeps G R (gone_sent p c)
  unfolding gone_sent
  gone_sent-keeps p c = search (gone-keeps, then-keeps, deliver-keeps, chains)

  meet_sent-from : (p : Image) (t : TaskNo) (c : Call) (next : Option StatementNo) (w : World) → G w → accept_for p c.entry (waiting_of w (who.Task t)) ≡ next
      → From R w (meet_sent p t c next)
  unfolding meet_sent
  meet_sent-from p t c (Some s) w good is =
      let waiting = accept-waits p c.entry (waiting_of w (who.Task t)) s is in
      meet-from p TheFinish (who.Task t) s c (begin_abortable p c.number) _ w good (moves.waiting_pushes (who.Task t) w good waiting)
      (moves.waiting_free (who.Task t) w good waiting) (begin_abortable-keeps moves p c.number)
      (deliver-keeps moves p TheFinish c.number (call_ended.ToRaise exception.Storage))
  meet_sent-from p t c None w good is = keeps-from (chains moves) _ w good (search (enqueue-keeps, then-keeps, sent_not_begun-keeps, chains, plain_steps))

  pub arrive_at-keeps : (p : Image) (t : TaskNo) (c : Call) (test : Bool) → Keeps G R (arrive_at p t c test)
  unfolding arrive_at
  arrive_at-keeps p t c false = search (gone_sent-keeps)
  arrive_at-keeps p t c true = looks-from (chains moves) _ (λ w good. meet_sent-from p t c (accept_for p c.entry (waiting_of w (who.Task t))) w good refl)

  pub arrive-keeps : (p : Image) (c : Call) (owner : Owner) → Keeps G R (arrive p c owner)
  unfolding arrive
  arrive-keeps p c (owned_by.Task t) = search (looks-keeps, arrive_at-keeps, chains)
  arrive-keeps p c (owned_by.Object o) = search (gone_sent-keeps)

  pub finish_accept-keeps : (p : Image) (name : Who) (c : Call) (sending : Option Sending) → Keeps G R (finish_accept p name c sending)
  unfolding finish_accept
  finish_accept-keeps p name c None = search (says-keeps, then-keeps, deliver-keeps, chains)
  finish_accept-keeps p name c (Some s) = search (says-keeps, then-keeps, send_on-keeps, with_call-keeps, arrive-keeps, chains, plain_steps)

  pub finish_rendezvous-keeps : (p : Image) (name : Who) (c : Call) (leaving : Leaving) → Keeps G R (finish_rendezvous p name c leaving)
  unfolding finish_rendezvous
  finish_rendezvous-keeps p name c (how.Exception e) = search (says-keeps, then-keeps, deliver-keeps, chains)
  finish_rendezvous-keeps p name c how.Abort = search (says-keeps, then-keeps, deliver-keeps, chains)
  finish_rendezvous-keeps p name c how.End = search (finish_accept-keeps)
  finish_rendezvous-keeps p name c how.Return = search (finish_accept-keeps)
  finish_rendezvous-keeps p name c (how.Exit loop) = search (finish_accept-keeps)
  finish_rendezvous-keeps p name c how.Terminate = search (finish_accept-keeps)

  pub behind_accept-keeps : (p : Image) (name : Who) (leaving : Leaving) → May name → Keeps G R (behind_accept p name leaving)
  unfolding behind_accept
  behind_accept-keeps p name how.End may = search (nothing-keeps, chains)
  behind_accept-keeps p name how.Return may = search (nothing-keeps, chains)
  behind_accept-keeps p name (how.Exit loop) may = search (pass_on-keeps, plain_steps)
  behind_accept-keeps p name (how.Exception e) may = search (pass_on-keeps, plain_steps)
  behind_accept-keeps p name how.Abort may = search (pass_on-keeps, plain_steps)
  behind_accept-keeps p name how.Terminate may = search (pass_on-keeps, plain_steps)

module _ {G : GoodWorld} {May Acts Pushes : Naming} {Stops : Type 0} {R : StepRelation} {Q : MoveRelation} (moves : FineMoves G May Acts Pushes Stops R Q) where
  pub accept-keeps : (p : Image) (name : Who) (s : StatementNo) (e : EntryNo) → May name → Keeps G R (accept p name s e)
  unfolding accept
  accept-keeps p name s e may =
      looks-from (chains moves) _ (λ w good. raise_if-from (plain_steps moves) name (in_protected w name) exception.Program _ w good
      (λ free. keeps-from (chains moves) _ w good (accept_or_wait-keeps moves p name s (next_call p w (own_queue w name (place_of_entry p e) ∷ [])) may)))

  pub selective_accept-keeps : (p : Image) (name : Who) (s : StatementNo) (alternatives : List SelectAlternative) (otherwise : Option StatementNo) → May name
      → Keeps G R (selective_accept p name s alternatives otherwise)
  unfolding selective_accept
  selective_accept-keeps p name s alternatives otherwise may =
      looks-from (chains moves) _ (λ w good. raise_if-from (plain_steps moves) name (in_protected w name) exception.Program _ w good
      (λ free.
      given-from (plain_steps moves) Own name (open_alternatives (seen_by p w name) alternatives) _ w good (λ kinds.
      given-from (plain_steps moves) Own name (open_delays (seen_by p w name) kinds) _ w good (λ moments.
      keeps-from (chains moves) _ w good (select_open-keeps moves p name s otherwise kinds moments may)))))
