-- Accepting calls: each step keeps what its parts keep.
use Rattle.ann_base.specs.declared.exceptions.Raised.TheVariants as exception
use Rattle.ann_base.specs.declared.identities.CallNo.{CallNo}
use Rattle.ann_base.specs.declared.identities.TaskNo.{TaskNo}
use Rattle.world_laws.proofs.Places.ActingMoves.{ActingMoves, Lasting, LastingOf}
use Rattle.ceiling_laws.proofs.Fine.Kept.CallEnds.{deliver-keeps, gone-keeps}
use Rattle.ceiling_laws.proofs.Fine.Kept.Calls.{edit_call-alters, enqueue-keeps, keeps_sending-caller, keeps_sending-number, with_call-keeps}
use Rattle.ceiling_laws.proofs.Fine.Kept.Frames.{given-through, goes-keeps, open_sequence-keeps, pass_on-keeps}
use Rattle.ceiling_laws.proofs.Fine.Kept.Frames.{pop-alters, push-alters, raise_if-through, raises-keeps, weakly}
use Rattle.world_laws.proofs.Places.Kept.Protected.{begin_call-keeps}
use Rattle.ceiling_laws.proofs.Fine.Kept.Scopes.{begin_scope-alters, drop_delay-alters, end_scope-alters}
use Rattle.world_laws.proofs.Places.Kept.Sending.{begin_abortable-keeps, send_on-keeps, sent_not_begun-keeps}
use Rattle.ceiling_laws.proofs.Fine.Kept.Tasks.{says-keeps}
use Rattle.ceiling_laws.proofs.Fine.Kept.Waking.{Asleep, asleep_at, asleep_quiet}
use Rattle.ceiling_laws.proofs.Fine.LevelMoves.{BaseMoves, Silences}
use Rattle.ceiling_laws.proofs.Runs.Triples.{Alters, At, Keeps, Leads, State, With, branch-leads, changes-keeps}
use Rattle.ceiling_laws.proofs.Runs.Triples.{for_some-keeps, from-leads, from_at, looks-keeps, looks-leads, looks-with}
use Rattle.ceiling_laws.proofs.Runs.Triples.{nothing-keeps, sees-leads, then-keeps, then-leads, to-leads, unchanged-alters}
use Rattle.profile_machine.specs.Appointments.{drop_delay}
use Rattle.profile_machine.specs.CallEnds.{deliver}
use Rattle.profile_machine.specs.Calls.{enqueue, formals_count, next_call, parameters_of, place_of_entry}
use Rattle.profile_machine.specs.Dispatching.{block, ready}
use Rattle.profile_machine.specs.Frames.{goes, in_protected, new_frame, open_sequence}
use Rattle.profile_machine.specs.Inheritance.{inherit}
use Rattle.profile_machine.specs.Masters.{terminate}
use Rattle.profile_image.specs.Program.{form_of, next_of, scope_of}
use Rattle.profile_machine.specs.Rendezvous.{accept, accept_call, accept_chosen, accept_for, accept_or_wait, accept_scope, accept_with_room}
use Rattle.profile_machine.specs.Rendezvous.{appoint_delay, arrive, arrive_at, begin_accept, behind_accept, end_in_accept, finish_accept}
use Rattle.profile_machine.specs.Rendezvous.{finish_rendezvous, finish_without_room, finished_call, first_accept, gone_sent, has_room_for_accept}
use Rattle.profile_machine.specs.Rendezvous.{has_terminate, is_callable, is_closed, least_delay, meet, meet_sent, meet_with_room, meet_without_room}
use Rattle.profile_machine.specs.Rendezvous.{open_accept, open_accepts, open_alternatives, open_delays, own_queue, queues_of_accepts, select_by_call}
use Rattle.profile_machine.specs.Rendezvous.{select_delay, select_open, select_otherwise, select_wait, selective_accept, wait_at_select}
use Rattle.profile_machine.specs.Scopes.{begin_scope, cells_of, innermost, next_id, plainly, scope_in_use}
use Rattle.profile_machine.specs.Sending.{begin_abortable, sent_not_begun}
use Rattle.profile_machine.specs.Serving.{with_values}
use Rattle.profile_machine.specs.Steps.{Step, changes}
use Rattle.profile_machine.specs.Tasks.{task_of, waiting_of}
use Rattle.profile_image.specs.declared.image.Image.{Image}
use Rattle.profile_image.specs.declared.numbers.EntryNo.{EntryNo}
use Rattle.profile_image.specs.declared.numbers.StatementNo.{StatementNo}
use Rattle.profile_machine.specs.declared.run_data.Leaving.{Leaving}
use Rattle.profile_machine.specs.declared.run_data.Leaving.TheVariants as how
use Rattle.profile_image.specs.declared.statements.SelectAlternative.{SelectAlternative}
use Rattle.profile_image.specs.declared.statements.SelectKind.{SelectKind}
use Rattle.profile_machine.specs.declared.world.World.{World}
use Rattle.profile_machine.specs.declared.world.calls.Call.{Call}
use Rattle.profile_machine.specs.declared.world.calls.DelayMoment.{DelayMoment}
use Rattle.profile_machine.specs.declared.world.calls.Outcome.TheVariants as call_ended
use Rattle.profile_machine.specs.declared.world.calls.Owner.{Owner}
use Rattle.profile_machine.specs.declared.world.calls.Owner.TheVariants as owned_by
use Rattle.profile_machine.specs.declared.world.calls.Sending.{Sending}
use Rattle.profile_machine.specs.declared.world.lines.Line.TheVariants as line
use Rattle.profile_machine.specs.declared.world.lines.MeetingEnd.TheVariants as meeting
use Rattle.profile_machine.specs.declared.world.lines.Part.{Part}
use Rattle.profile_machine.specs.declared.world.lines.Part.TheVariants.{Own, TheBlock, TheFinish}
use Rattle.profile_machine.specs.declared.world.lines.Said.{Said}
use Rattle.profile_machine.specs.declared.world.marks.AcceptMark.{AcceptMark}
use Rattle.profile_machine.specs.declared.world.marks.Mark.{Mark}
use Rattle.profile_machine.specs.declared.world.marks.Mark.TheVariants.{InAccept}
use Rattle.profile_machine.specs.declared.world.tasks.Cause.TheVariants as inherited_by
use Rattle.profile_machine.specs.declared.world.tasks.Waiting.TheVariants as waits_for
use Rattle.std.proofs.Common.{ap, refl, ◌≡◌}
use Rattle.std.specs.Prelude.{Bool, List, None, Option, Some, [], false, int_le, is_some, pos, true, ℕ, ℤ, ◌∷◌}
use Rattle.trace_text.specs.declared.events.Who.{Who}
use Rattle.trace_text.specs.declared.events.Who.TheVariants as who
use Rattle.ceiling_laws.proofs.Runs.Kept.Waking.{waiting-blocked}
use Rattle.ceiling_laws.proofs.Runs.LevelMoves.{Fitting, Sleeping}
use Rattle.ceiling_laws.proofs.Runs.ActingMoves.{Admitting}
use Rattle.machine_laws.proofs.FineMoves.{Naming}

module _ {X : State} (quiet : Silences X) where
  pub open_accept-alters : (p : Image) (name : Who) (s : StatementNo) (c : Call) → Alters X (open_accept p name s c)
  open_accept-alters p name s c = record {
    turns = λ w said h.
        let scope = accept_scope (form_of p s) in
        let b = record (plainly (innermost w name)) { values = parameters_of p c } in
        let begun = begin_scope p name scope b w in
        let mark : Mark = InAccept (record { call = c.number; accept = s; within = next_id w; handles = None }) in
        (push-alters quiet name (new_frame mark (scope_of p scope).first)).turns begun said ((begin_scope-alters quiet p name scope b).turns w said h);
  }

  pub begin_accept-keeps : (p : Image) (part : Part) (name : Who) (s : StatementNo) (c : Call) → Keeps X (begin_accept p part name s c)
  unfolding begin_accept
  begin_accept-keeps p part name s c = then-keeps _ _ (begin_call-keeps quiet p part name c) (goes-keeps quiet name (next_of p s))

  pub finish_without_room-keeps : (part : Part) (name : Who) (c : Call) → Keeps X (finish_without_room part name c)
  unfolding finish_without_room
  finish_without_room-keeps part name c = says-keeps quiet part (line.Finish name c.number (meeting.Raised exception.Storage)) refl

  pub behind_accept-keeps : (p : Image) (name : Who) (leaving : Leaving) → Keeps X (behind_accept p name leaving)
  unfolding behind_accept
  behind_accept-keeps p name how.End = nothing-keeps
  behind_accept-keeps p name how.Return = nothing-keeps
  behind_accept-keeps p name (how.Exit loop) = pass_on-keeps quiet p name (how.Exit loop)
  behind_accept-keeps p name (how.Exception e) = pass_on-keeps quiet p name (how.Exception e)
  behind_accept-keeps p name how.Abort = pass_on-keeps quiet p name how.Abort
  behind_accept-keeps p name how.Terminate = pass_on-keeps quiet p name how.Terminate

-- ---- who waited at an accept becomes ready

module _ {p : Image} {Fits : Fitting} {Sleeps : Sleeping} {X : State} (moves : BaseMoves p Fits Sleeps X) where
  asleep_heir : (name : Who) (c : CallNo) (level : ℕ) → Alters (Asleep moves name) (inherit name (inherited_by.Rendezvous c) level)
  asleep_heir name c level = record {
    turns = λ w said h. (
      moves.inherits name (inherited_by.Rendezvous c) level w said refl h.1 h.0,
      moves.sleeps_heir name (inherited_by.Rendezvous c) level w name h.1,
    );
  }

  pub meet_with_room-leads : {Y : State} (part : Part) (name : Who) (s : StatementNo) (c : Call) (then_ : Step) → Fits part name → Leads X Y then_
      → Leads (With X (λ w. Sleeps w name)) Y (meet_with_room p part name s c then_)
  meet_with_room-leads part name s c then_ fits kept =
      then-leads (begin_accept p part name s c) _ (begin_accept-keeps (asleep_quiet moves name) p part name s c)
      (then-leads (changes (open_accept p name s c)) _ (changes-keeps _ (open_accept-alters (asleep_quiet moves name) p name s c))
      (then-leads (changes (inherit name (inherited_by.Rendezvous c.number) c.priority)) _ (changes-keeps _ (asleep_heir name c.number c.priority))
      (then-leads (ready p part name) _ (moves.wakes part name fits)
      (then-leads (open_sequence p part name) then_ (open_sequence-keeps moves.quiet p part name) kept))))

  pub meet_without_room-leads : (part : Part) (name : Who) (s : StatementNo) (c : Call) (otherwise : Step) → Fits part name
      → Keeps (With X (λ w. Sleeps w name)) otherwise → Leads (With X (λ w. Sleeps w name)) X (meet_without_room p part name s c otherwise)
  meet_without_room-leads part name s c otherwise fits kept =
      then-leads (begin_accept p TheFinish name s c) _ (begin_accept-keeps (asleep_quiet moves name) p TheFinish name s c)
      (then-leads (finish_without_room TheFinish name c) _ (finish_without_room-keeps (asleep_quiet moves name) TheFinish name c)
      (then-leads otherwise _ kept (then-leads (ready p part name) _ (moves.wakes part name fits) (raises-keeps moves.quiet part name exception.Storage))))

  pub meet-leads : {Y : State} (part : Part) (name : Who) (s : StatementNo) (c : Call) (then_ otherwise : Step) → Fits part name → Leads X Y then_
      → Leads (With X (λ w. Sleeps w name)) Y (meet_without_room p part name s c otherwise)
      → Leads (With X (λ w. Sleeps w name)) Y (meet p part name s c then_ otherwise)
  meet-leads part name s c then_ otherwise fits kept also_kept =
      then-leads (changes (drop_delay name)) _ (changes-keeps _ (drop_delay-alters (asleep_quiet moves name) name))
      (looks-leads _
      (λ w. branch-leads (has_room_for_accept p w name s) (meet_with_room p part name s c then_) (meet_without_room p part name s c otherwise)
      (meet_with_room-leads part name s c then_ fits kept) also_kept))

  -- a task for which an accept was found waits
  pub accepting_sleeps : (v : World) (e : EntryNo) (name : Who) (s : StatementNo) → accept_for p e (waiting_of v name) ≡ Some s → Sleeps v name
  accepting_sleeps v e name s is =
      moves.sleeps v name (waiting-blocked (λ waiting. is_some (accept_for p e waiting)) refl (task_of v name).state (ap is_some is))

-- ---- by who acts

module _ {p : Image} {actor : Who} {Fits : Fitting} {Sleeps : Sleeping} {May : Admitting} {Listed Unmade : World → Naming} {F I L W Y B D Z : State}
    {O V : World → State} {N : Lasting} {E : LastingOf}
    (acting : ActingMoves p actor Fits Sleeps May Listed Unmade F I L W Y B D Z O V N E) where
  accept_with_room-keeps : (s : StatementNo) (c : Call) (test : Bool) → Keeps I (accept_with_room p actor s c test)
  unfolding accept_with_room
  accept_with_room-keeps s c true =
      then-keeps _ _ (changes-keeps _ (open_accept-alters acting.later.base.quiet p actor s c))
      (acting.later.inherits_running (inherited_by.Rendezvous c.number) c.priority refl)
  accept_with_room-keeps s c false =
      then-keeps _ _ (finish_without_room-keeps acting.later.base.quiet Own actor c)
      (then-keeps _ _ (deliver-keeps acting.later.base Own c.number (call_ended.ToRaise exception.Storage) acting.later.fits_own)
      (raises-keeps acting.later.base.quiet Own actor exception.Storage))

  accept_call-keeps : (s : StatementNo) (c : CallNo) → Keeps I (accept_call p actor s c)
  unfolding accept_call
  accept_call-keeps s c =
      with_call-keeps acting.later.base.quiet c _
      (λ d. then-keeps _ _ (begin_accept-keeps acting.later.base.quiet p Own actor s d)
      (looks-keeps _ (λ w. accept_with_room-keeps s d (has_room_for_accept p w actor s))))

  accept_or_wait-leads : (s : StatementNo) (c : Option CallNo) → Leads I Y (accept_or_wait p actor s c)
  unfolding accept_or_wait
  accept_or_wait-leads s (Some c) = to-leads _ (accept_call-keeps s c) acting.ceases
  accept_or_wait-leads s None = then-leads _ _ (goes-keeps acting.later.base.quiet actor (next_of p s)) (acting.blocks (waits_for.Accept s) refl)

  pub accept-leads : (s : StatementNo) (e : EntryNo) → Leads I Y (accept p actor s e)
  unfolding accept
  accept-leads s e =
      looks-leads _
      (λ w. raise_if-through acting.later.base.quiet (λ v k h. h) acting.ceases actor (in_protected w actor) exception.Program _
      (accept_or_wait-leads s (next_call p w (own_queue w actor (place_of_entry p e) ∷ []))))

  accept_chosen-keeps : (accepts : List StatementNo) (c : CallNo) → Keeps I (accept_chosen p actor accepts c)
  unfolding accept_chosen
  accept_chosen-keeps accepts c =
      with_call-keeps acting.later.base.quiet c _ (λ d. for_some-keeps (first_accept p d.entry accepts) _ (λ s. accept_call-keeps s c))

  -- what holds later holds at a select
  pub goes_later : (w : World) (said : List Said) → I w said → W w said
  goes_later w said h = acting.rests w said (acting.ceases w said h)

  pub not_later : (w : World) (said : List Said) → F w said → W w said
  not_later w said h = goes_later w said (acting.starts w said h)

  wait_at_select-leads : (accepts : List StatementNo) (delay : Option StatementNo) (test : Bool) → Leads F W (wait_at_select actor accepts delay test)
  unfolding wait_at_select
  wait_at_select-leads accepts delay true = acting.waits_at_select accepts delay
  wait_at_select-leads accepts delay false =
      to-leads (block TheBlock actor (waits_for.Select accepts delay false))
      (from-leads (block TheBlock actor (waits_for.Select accepts delay false)) acting.starts
      (acting.blocks (waits_for.Select accepts delay false) refl)) acting.rests

  appoint_delay-alters : (name : Who) (m : ℤ) → name ≡ actor → Alters F (appoint_delay name m)
  appoint_delay-alters (who.Task t) m is = acting.appoints_first t m is
  appoint_delay-alters who.Agent m is = unchanged-alters

  at_first : (step : Step) → Keeps F step → Leads F W step
  at_first step kept = weakly acting.fresh not_later step kept

  select_delay-leads : (s : StatementNo) (accepts : List StatementNo) (m : DelayMoment) (terminate test : Bool)
      → Leads F W (select_delay p actor s accepts m terminate test)
  unfolding select_delay
  select_delay-leads s accepts m terminate true = at_first (goes actor (next_of p m.delay)) (goes-keeps acting.fresh actor (next_of p m.delay))
  select_delay-leads s accepts m terminate false =
      then-leads (goes actor (next_of p s)) _ (goes-keeps acting.fresh actor (next_of p s))
      (then-leads (changes (appoint_delay actor m.at)) _ (changes-keeps _ (appoint_delay-alters actor m.at refl))
      (wait_at_select-leads accepts (Some m.delay) terminate))

  select_wait-leads : (s : StatementNo) (accepts : List StatementNo) (terminate : Bool) (moment : Option DelayMoment)
      → Leads F W (select_wait p actor s accepts terminate moment)
  unfolding select_wait
  select_wait-leads s accepts terminate None =
      then-leads (goes actor (next_of p s)) _ (goes-keeps acting.fresh actor (next_of p s)) (wait_at_select-leads accepts None terminate)
  select_wait-leads s accepts terminate (Some m) = looks-leads _ (λ w. select_delay-leads s accepts m terminate (int_le m.at (pos w.time)))

  select_otherwise-leads : (s : StatementNo) (kinds : List SelectKind) (m : Option DelayMoment) (next : Option StatementNo)
      → Leads F W (select_otherwise p actor s kinds m next)
  unfolding select_otherwise
  select_otherwise-leads s kinds m (Some otherwise) = at_first (goes actor (Some otherwise)) (goes-keeps acting.fresh actor (Some otherwise))
  select_otherwise-leads s kinds m None = select_wait-leads s (open_accepts kinds) (has_terminate kinds) m

  select_by_call-leads : (s : StatementNo) (kinds : List SelectKind) (m : Option DelayMoment) (otherwise : Option StatementNo) (c : Option CallNo)
      → Leads F W (select_by_call p actor s kinds m otherwise c)
  unfolding select_by_call
  select_by_call-leads s kinds m otherwise (Some c) =
      to-leads (accept_chosen p actor (open_accepts kinds) c)
      (from-leads (accept_chosen p actor (open_accepts kinds) c) acting.starts (accept_chosen-keeps (open_accepts kinds) c)) goes_later
  select_by_call-leads s kinds m otherwise None = select_otherwise-leads s kinds m otherwise

  select_open-leads : (s : StatementNo) (otherwise : Option StatementNo) (kinds : List SelectKind) (moments : List DelayMoment)
      → Leads F W (select_open p actor s otherwise kinds moments)
  unfolding select_open
  select_open-leads s otherwise kinds moments =
      raise_if-through acting.fresh (λ w k h. h) not_later actor (is_closed kinds otherwise) exception.Program _
      (looks-leads _ (λ w. select_by_call-leads s kinds (least_delay moments) otherwise (next_call p w (queues_of_accepts p w actor (open_accepts kinds)))))

  pub selective_accept-leads : (s : StatementNo) (alternatives : List SelectAlternative) (otherwise : Option StatementNo)
      → Leads F W (selective_accept p actor s alternatives otherwise)
  unfolding selective_accept
  selective_accept-leads s alternatives otherwise =
      sees-leads p actor _ (λ q. raise_if-through acting.fresh (λ w k h. h) not_later actor (in_protected q.world actor) exception.Program _
      (given-through acting.fresh (λ w k h. h) not_later Own actor (open_alternatives q alternatives) _ (λ kinds.
      given-through acting.fresh (λ w k h. h) not_later Own actor (open_delays q kinds) _ (λ moments. select_open-leads s otherwise kinds moments))))

  -- ---- the end of an accept

  gone_sent-keeps : (c : Call) → Keeps I (gone_sent p c)
  unfolding gone_sent
  gone_sent-keeps c =
      then-keeps _ _ (gone-keeps acting.later.base.quiet p TheFinish c)
      (deliver-keeps acting.later.base TheFinish c.number (call_ended.ToRaise exception.Tasking) acting.fits_finish)

  meet_sent-at : (v : World) (t : TaskNo) (c : Call) (next : Option StatementNo) → accept_for p c.entry (waiting_of v (who.Task t)) ≡ next
      → Leads (At I v) I (meet_sent p t c next)
  unfolding meet_sent
  meet_sent-at v t c (Some s) is =
      asleep_at acting.later.base (who.Task t) v _ (accepting_sleeps acting.later.base v c.entry (who.Task t) s is)
      (meet-leads acting.later.base TheFinish (who.Task t) s c (begin_abortable p c.number)
      (deliver p TheFinish c.number (call_ended.ToRaise exception.Storage)) (acting.fits_finish (who.Task t))
      (begin_abortable-keeps acting.later.base acting.fits_finish c.number) (acting.meets_late t s c))
  meet_sent-at v t c None is =
      from_at _ (then-keeps (enqueue p c.number) (sent_not_begun p c.number) (enqueue-keeps acting.later.base.quiet p c.number)
      (sent_not_begun-keeps acting.later.base acting.fits_finish c.number))

  arrive_at-keeps : (t : TaskNo) (c : Call) (test : Bool) → Keeps I (arrive_at p t c test)
  unfolding arrive_at
  arrive_at-keeps t c false = gone_sent-keeps c
  arrive_at-keeps t c true = looks-with _ (λ v said h. meet_sent-at v t c (accept_for p c.entry (waiting_of v (who.Task t))) refl)

  arrive-keeps : (c : Call) (owner : Owner) → Keeps I (arrive p c owner)
  unfolding arrive
  arrive-keeps c (owned_by.Task t) = looks-keeps _ (λ w. arrive_at-keeps t c (is_callable w t))
  arrive-keeps c (owned_by.Object o) = gone_sent-keeps c

  finish_accept-keeps : (c : Call) (sending : Option Sending) → Keeps I (finish_accept p actor c sending)
  unfolding finish_accept
  finish_accept-keeps c None =
      then-keeps _ _ (says-keeps acting.later.base.quiet TheFinish (line.Finish actor c.number meeting.Ok) refl)
      (deliver-keeps acting.later.base TheFinish c.number call_ended.Finished acting.fits_finish)
  finish_accept-keeps c (Some s) =
      then-keeps _ _ (says-keeps acting.later.base.quiet TheFinish (line.Finish actor c.number meeting.Requeue) refl)
      (then-keeps _ _ (send_on-keeps acting.later.base.quiet c.number s) (with_call-keeps acting.later.base.quiet c.number _ (λ d. arrive-keeps d d.owner)))

  finish_rendezvous-keeps : (c : Call) (leaving : Leaving) → Keeps I (finish_rendezvous p actor c leaving)
  unfolding finish_rendezvous
  finish_rendezvous-keeps c (how.Exception e) =
      then-keeps _ _ (says-keeps acting.later.base.quiet TheFinish (line.Finish actor c.number (meeting.Raised e)) refl)
      (deliver-keeps acting.later.base TheFinish c.number (call_ended.ToRaise e) acting.fits_finish)
  finish_rendezvous-keeps c how.Abort =
      then-keeps _ _ (says-keeps acting.later.base.quiet TheFinish (line.Gone c.caller c.number) refl)
      (deliver-keeps acting.later.base TheFinish c.number (call_ended.ToRaise exception.Tasking) acting.fits_finish)
  finish_rendezvous-keeps c how.End = finish_accept-keeps c c.sending
  finish_rendezvous-keeps c how.Return = finish_accept-keeps c c.sending
  finish_rendezvous-keeps c (how.Exit loop) = finish_accept-keeps c c.sending
  finish_rendezvous-keeps c how.Terminate = finish_accept-keeps c c.sending

  pub end_in_accept-keeps : (m : AcceptMark) (leaving : Leaving) → Keeps I (end_in_accept p actor m leaving)
  unfolding end_in_accept
  end_in_accept-keeps m leaving =
      then-keeps _ _ (looks-keeps _ (λ w. then-keeps _ _ (changes-keeps _ (pop-alters acting.later.base.quiet actor))
      (then-keeps _ _ (changes-keeps _ (end_scope-alters acting.later.base.quiet m.within))
      (then-keeps _ _
      (changes-keeps _
      (edit_call-alters acting.later.base.quiet m.call (finished_call p (cells_of (scope_in_use w m.within)) leaving)
      (λ d. keeps_sending-number leaving (with_values (cells_of (scope_in_use w m.within)) (formals_count p d) d))
      (λ d. keeps_sending-caller leaving (with_values (cells_of (scope_in_use w m.within)) (formals_count p d) d))))
      (with_call-keeps acting.later.base.quiet m.call _ (λ c. finish_rendezvous-keeps c leaving))))))
      (then-keeps _ _ (acting.loses (inherited_by.Rendezvous m.call)) (behind_accept-keeps acting.later.base.quiet p actor leaving))
