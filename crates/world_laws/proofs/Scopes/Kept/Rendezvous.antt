-- Accepting calls: each step keeps a relation that its parts keep.
use Rattle.std.specs.Prelude.{ℤ, pos, int_le, Bool, true, false, List, Option, Some, None, []}
use Rattle.ann_base.specs.declared.identities.CallNo.{CallNo}
use Rattle.ann_base.specs.declared.identities.TaskNo.{TaskNo}
use Rattle.trace_text.specs.declared.events.Who.{Who}
use Rattle.trace_text.specs.declared.events.Who.TheVariants as who
use Rattle.profile_machine.specs.declared.world.calls.DelayMoment.{DelayMoment}
use Rattle.profile_image.specs.declared.image.Image.{Image}
use Rattle.profile_image.specs.declared.numbers.EntryNo.{EntryNo}
use Rattle.profile_image.specs.declared.numbers.StatementNo.{StatementNo}
use Rattle.profile_machine.specs.declared.run_data.Leaving.{Leaving}
use Rattle.profile_machine.specs.declared.run_data.Leaving.TheVariants as how
use Rattle.profile_image.specs.declared.statements.SelectAlternative.{SelectAlternative}
use Rattle.profile_image.specs.declared.statements.SelectKind.{SelectKind}
use Rattle.profile_machine.specs.declared.world.World.{World}
use Rattle.profile_machine.specs.declared.world.marks.AcceptMark.{AcceptMark}
use Rattle.profile_machine.specs.declared.world.calls.Call.{Call}
use Rattle.profile_machine.specs.declared.world.calls.Owner.{Owner}
use Rattle.profile_machine.specs.declared.world.calls.Sending.{Sending}
use Rattle.profile_machine.specs.declared.world.tasks.Waiting.TheVariants as waits_for
use Rattle.profile_machine.specs.declared.world.tasks.Cause.TheVariants as inherited_by
use Rattle.profile_machine.specs.declared.world.appointments.Due.TheVariants as due_for
use Rattle.profile_machine.specs.declared.world.calls.Owner.TheVariants as owned_by
use Rattle.profile_image.specs.Program.{next_of}
use Rattle.profile_machine.specs.declared.world.lines.Part.{Part}
use Rattle.profile_machine.specs.Steps.{Step, changes, ◌▷◌}
use Rattle.profile_machine.specs.Frames.{pop, open_sequence}
use Rattle.profile_machine.specs.Scopes.{end_scope, cells_of, scope_in_use}
use Rattle.profile_machine.specs.Appointments.{drop_delay}
use Rattle.profile_machine.specs.Calls.{edit_call, with_call}
use Rattle.profile_machine.specs.Rendezvous.{open_accept, has_room_for_accept, begin_accept, finish_without_room, accept_with_room, accept_call}
use Rattle.profile_machine.specs.Rendezvous.{meet_with_room, meet_without_room, meet, accept_or_wait, accept, accept_chosen, wait_at_select, appoint_delay}
use Rattle.profile_machine.specs.Rendezvous.{select_delay, select_wait, select_otherwise, select_by_call, select_open, selective_accept, gone_sent, meet_sent}
use Rattle.profile_machine.specs.Rendezvous.{arrive_at, arrive, finish_accept, finish_rendezvous, behind_accept, finished_call, end_in_accept, accept_for}
use Rattle.std.proofs.Common.{◌≡◌, refl}
use Rattle.machine_laws.proofs.Moves.{StepRelation, MoveRelation}
use Rattle.world_laws.proofs.Scopes.FineMoves.{FineMoves, Openings, Live, chains, says-keeps}
use Rattle.world_laws.proofs.Scopes.Kept.Combinators.{both_then-from}
use Rattle.world_laws.proofs.Scopes.Kept.Dispatching.{ready-keeps, block-keeps, blocked-keeps}
use Rattle.world_laws.proofs.Scopes.Kept.Frames.{goes-keeps, open_sequence-keeps, goes_then-from, plain_steps}
use Rattle.world_laws.proofs.Scopes.Kept.Inheritance.{inherit-alters, inherit_running-keeps, lose_running-keeps}
use Rattle.world_laws.proofs.Scopes.Kept.Appointments.{appoint-from, drop_delay-alters}
use Rattle.world_laws.proofs.Scopes.Kept.CallEnds.{deliver-keeps, gone-keeps}
use Rattle.world_laws.proofs.Scopes.Kept.Protected.{begin_call-keeps}
use Rattle.world_laws.proofs.Scopes.Kept.Sending.{send_on-keeps, begin_abortable-keeps, sent_not_begun-keeps}
use Rattle.profile_machine.specs.Inheritance.{lose_running, inherit}
use Rattle.profile_machine.specs.declared.world.lines.Part.TheVariants.{TheFinish}
use Rattle.profile_machine.specs.declared.world.tasks.State.{State}
use Rattle.profile_machine.specs.declared.world.tasks.State.TheVariants.{Made, Runnable, Blocked}
use Rattle.profile_machine.specs.Tasks.{waiting_in, waiting_of, is_made_state, task_of}
use Rattle.profile_machine.specs.Dispatching.{ready}
use Rattle.machine_laws.proofs.FineMoves.{Anybody, GoodWorld, Naming}
use Rattle.machine_laws.proofs.Kept.Combinators.{Alters, From, Keeps, after-from, changes-keeps, changes_then-from, either-from, for_some-keeps, keeps-from}
use Rattle.machine_laws.proofs.Kept.Combinators.{looks-from, looks-keeps, looks_at-from, nothing-keeps, sees-keeps, then-from, then-keeps, unchanged-alters}
use Rattle.machine_laws.proofs.Plain.Frames.{raises-keeps, pass_on-keeps, raise_if-keeps, given-keeps}
use Rattle.machine_laws.proofs.Plain.Calls.{edit_call-alters, with_call-keeps, enqueue-keeps}
use Rattle.machine_laws.proofs.Plain.PlainSteps.{anybody}
use Rattle.machine_laws.proofs.Plain.Results.{finished_call-number, finished_call-caller}

module _ {G : GoodWorld} {May Other : Naming} {R : StepRelation} {Q : MoveRelation} (moves : FineMoves G May Other R Q) where
  begin_accept-keeps : (p : Image) (part : Part) (name : Who) (s : StatementNo) (c : Call) → Keeps G R (begin_accept p part name s c)
  unfolding begin_accept
  begin_accept-keeps p part name s c = search (begin_call-keeps, then-keeps, goes-keeps, chains)

  finish_without_room-keeps : (part : Part) (name : Who) (c : Call) → Keeps G R (finish_without_room part name c)
  unfolding finish_without_room
  finish_without_room-keeps part name c = search (says-keeps)

  pub wait_at_select-keeps : (name : Who) (accepts : List StatementNo) (delay : Option StatementNo) (test : Bool) → Other name
      → Keeps G R (wait_at_select name accepts delay test)
  unfolding wait_at_select
  wait_at_select-keeps name accepts delay true other = blocked-keeps moves name (waits_for.Select accepts delay true) other
  wait_at_select-keeps name accepts delay false other = search (block-keeps)

  appoint_delay-from : (name : Who) (m : ℤ) (w : World) → G w → From R w (changes (appoint_delay name m))
  appoint_delay-from (who.Task t) m w good = appoint-from moves (due_for.Delay t) m w good
  appoint_delay-from who.Agent m w good =
      keeps-from (chains moves) (changes (λ v. v)) w good (changes-keeps (chains moves) (λ v. v) (unchanged-alters (chains moves)))

  select_delay-from : (p : Image) (name : Who) (s : StatementNo) (accepts : List StatementNo) (m : DelayMoment) (terminate test : Bool) (w : World) → G w
      → Other name → From R w (select_delay p name s accepts m terminate test)
  unfolding select_delay
  select_delay-from p name s accepts m terminate true w good other = keeps-from (chains moves) _ w good (search (goes-keeps))
  select_delay-from p name s accepts m terminate false w good other =
      goes_then-from moves name (next_of p s) _ w good (λ good_onward.
      then-from (chains moves) (changes (appoint_delay name m.at)) _ _
      (appoint_delay-from name m.at _ good_onward)
      (wait_at_select-keeps name accepts (Some m.delay) terminate other))

  pub select_wait-keeps : (p : Image) (name : Who) (s : StatementNo) (accepts : List StatementNo) (terminate : Bool) (moment : Option DelayMoment) → Other name
      → Keeps G R (select_wait p name s accepts terminate moment)
  unfolding select_wait
  select_wait-keeps p name s accepts terminate None other = search (goes-keeps, then-keeps, wait_at_select-keeps, chains)
  select_wait-keeps p name s accepts terminate (Some m) other =
      looks-from (chains moves) _ (λ w good. select_delay-from p name s accepts m terminate (int_le m.at (pos w.time)) w good other)

  pub select_otherwise-keeps : (p : Image) (name : Who) (s : StatementNo) (kinds : List SelectKind) (m : Option DelayMoment) (next : Option StatementNo)
      → Other name → Keeps G R (select_otherwise p name s kinds m next)
  unfolding select_otherwise
  select_otherwise-keeps p name s kinds m (Some otherwise) other = search (goes-keeps)
  select_otherwise-keeps p name s kinds m None other = search (select_wait-keeps)

  pub gone_sent-keeps : (p : Image) (c : Call) → Keeps G R (gone_sent p c)
  unfolding gone_sent
  gone_sent-keeps p c = search (gone-keeps, then-keeps, deliver-keeps, chains)

  pub behind_accept-keeps : (p : Image) (name : Who) (leaving : Leaving) → Keeps G R (behind_accept p name leaving)
  unfolding behind_accept
  behind_accept-keeps p name how.End = search (nothing-keeps, chains)
  behind_accept-keeps p name how.Return = search (nothing-keeps, chains)
  behind_accept-keeps p name (how.Exit loop) = search (pass_on-keeps, plain_steps, anybody)
  behind_accept-keeps p name (how.Exception e) = search (pass_on-keeps, plain_steps, anybody)
  behind_accept-keeps p name how.Abort = search (pass_on-keeps, plain_steps, anybody)
  behind_accept-keeps p name how.Terminate = search (pass_on-keeps, plain_steps, anybody)

-- who waits for a meeting is there, and not only made
waiting-made : (p : Image) (e : EntryNo) (s : StatementNo) (state : State) → accept_for p e (waiting_in state) ≡ Some s → is_made_state state ≡ false
waiting-made p e s Made is = absurd cc
waiting-made p e s Runnable is = refl
waiting-made p e s (Blocked waiting) is = refl

pub waiting-live : (p : Image) (e : EntryNo) (name : Who) (s : StatementNo) (w : World) → accept_for p e (waiting_of w name) ≡ Some s → Live name w
waiting-live p e name s w is = waiting-made p e s (task_of w name).state is

module _ {G : GoodWorld} {Acts : Naming} {R : StepRelation} {Q : MoveRelation} (moves : FineMoves G Anybody Anybody R Q) (openings : Openings G Acts R) where
  -- ---- the acceptor acts

  acts_accept-alters : (p : Image) (name : Who) (s : StatementNo) (c : Call) → Acts name → Alters G R (open_accept p name s c)
  unfolding Alters
  acts_accept-alters p name s c acts w good = openings.opens_accept p name s c w good (openings.acts_live name w good acts)

  accept_with_room-keeps : (p : Image) (name : Who) (s : StatementNo) (c : Call) (has_room : Bool) → Acts name
      → Keeps G R (accept_with_room p name s c has_room)
  unfolding accept_with_room
  accept_with_room-keeps p name s c true acts =
      then-keeps (chains moves) (changes (open_accept p name s c)) _ (changes-keeps (chains moves) _ (acts_accept-alters p name s c acts))
      (inherit_running-keeps moves p name (inherited_by.Rendezvous c.number) c.priority tt)
  accept_with_room-keeps p name s c false acts = search (finish_without_room-keeps, then-keeps, deliver-keeps, raises-keeps, chains, plain_steps)

  pub accept_call-keeps : (p : Image) (name : Who) (s : StatementNo) (c : CallNo) → Acts name → Keeps G R (accept_call p name s c)
  unfolding accept_call
  accept_call-keeps p name s c acts = search (with_call-keeps, begin_accept-keeps, then-keeps, looks-keeps, accept_with_room-keeps, chains, plain_steps) depth 8

  pub accept_or_wait-keeps : (p : Image) (name : Who) (s : StatementNo) (c : Option CallNo) → Acts name → Keeps G R (accept_or_wait p name s c)
  unfolding accept_or_wait
  accept_or_wait-keeps p name s (Some c) acts = search (accept_call-keeps)
  accept_or_wait-keeps p name s None acts = search (goes-keeps, then-keeps, block-keeps, chains)

  pub accept_chosen-keeps : (p : Image) (name : Who) (accepts : List StatementNo) (c : CallNo) → Acts name → Keeps G R (accept_chosen p name accepts c)
  unfolding accept_chosen
  accept_chosen-keeps p name accepts c acts = search (with_call-keeps, for_some-keeps, accept_call-keeps, chains, plain_steps)

  pub select_by_call-keeps : (p : Image) (name : Who) (s : StatementNo) (kinds : List SelectKind) (m : Option DelayMoment) (otherwise : Option StatementNo)
      (c : Option CallNo)
      → Acts name
      → Keeps G R (select_by_call p name s kinds m otherwise c)
  unfolding select_by_call
  select_by_call-keeps p name s kinds m otherwise (Some c) acts = search (accept_chosen-keeps)
  select_by_call-keeps p name s kinds m otherwise None acts = search (select_otherwise-keeps)

  pub select_open-keeps : (p : Image) (name : Who) (s : StatementNo) (otherwise : Option StatementNo) (kinds : List SelectKind) (moments : List DelayMoment)
      → Acts name → Keeps G R (select_open p name s otherwise kinds moments)
  unfolding select_open
  select_open-keeps p name s otherwise kinds moments acts = search (raise_if-keeps, looks-keeps, select_by_call-keeps, chains, plain_steps)

  pub accept-keeps : (p : Image) (name : Who) (s : StatementNo) (e : EntryNo) → Acts name → Keeps G R (accept p name s e)
  unfolding accept
  accept-keeps p name s e acts = search (looks-keeps, raise_if-keeps, accept_or_wait-keeps, chains, plain_steps)

  pub selective_accept-keeps : (p : Image) (name : Who) (s : StatementNo) (alternatives : List SelectAlternative) (otherwise : Option StatementNo) → Acts name
      → Keeps G R (selective_accept p name s alternatives otherwise)
  unfolding selective_accept
  selective_accept-keeps p name s alternatives otherwise acts = search (sees-keeps, raise_if-keeps, given-keeps, select_open-keeps, chains, plain_steps) depth 8

  -- ---- the acceptor waited

  meet_with_room-from : (p : Image) (part : Part) (name : Who) (s : StatementNo) (c : Call) (then_ : Step) (w : World) → G w → Live name w → Keeps G R then_
      → From R w (meet_with_room p part name s c then_)
  meet_with_room-from p part name s c then_ w good live kept =
      after-from (chains moves) (begin_accept p part name s c) _ w (keeps-from (chains moves) _ w good (begin_accept-keeps moves p part name s c)) (λ v xs k.
      let good_begun = moves.behind w v k in
      let opened = openings.opens_accept p name s c v good_begun (openings.still_live name w v k live) in
      let w_opened = open_accept p name s c v in
      changes_then-from (chains moves) (open_accept p name s c) _ v opened
      (keeps-from (chains moves)
      (changes (inherit name (inherited_by.Rendezvous c.number) c.priority) ▷ ready p part name ▷ open_sequence p part name ▷ then_) w_opened
      (moves.behind v w_opened opened)
      (then-keeps (chains moves) _ _ (changes-keeps (chains moves) _ (inherit-alters moves name (inherited_by.Rendezvous c.number) c.priority))
      (then-keeps (chains moves) _ _ (ready-keeps moves p part name tt) (then-keeps (chains moves) _ _ (open_sequence-keeps moves p part name tt) kept)))))

  meet_without_room-keeps : (p : Image) (part : Part) (name : Who) (s : StatementNo) (c : Call) (otherwise : Step) → Keeps G R otherwise
      → Keeps G R (meet_without_room p part name s c otherwise)
  meet_without_room-keeps p part name s c otherwise kept =
      search (begin_accept-keeps, then-keeps, finish_without_room-keeps, ready-keeps, raises-keeps, chains, plain_steps) depth 10

  pub meet-from : (p : Image) (part : Part) (name : Who) (s : StatementNo) (c : Call) (then_ otherwise : Step) (w : World) → G w → Live name w → Keeps G R then_
      → Keeps G R otherwise → From R w (meet p part name s c then_ otherwise)
  unfolding Alters
  meet-from p part name s c then_ otherwise w good live kept also_kept =
      let dropped = drop_delay-alters moves name w good in
      let v = drop_delay name w in
      let good_dropped = moves.behind w v dropped in
      changes_then-from (chains moves) (drop_delay name) _ w dropped
      (looks_at-from (chains moves)
      (λ u. elim (has_room_for_accept p u name s) as (λ _. Step) [
        | true ↦ meet_with_room p part name s c then_
        | false ↦ meet_without_room p part name s c otherwise
      ]) v
      (either-from (chains moves) (has_room_for_accept p v name s) (meet_with_room p part name s c then_) (meet_without_room p part name s c otherwise) v
      (meet_with_room-from p part name s c then_ v good_dropped (openings.still_live name w v dropped live) kept)
      (keeps-from (chains moves) _ v good_dropped (meet_without_room-keeps p part name s c otherwise also_kept))))

  meet_sent-from : (p : Image) (t : TaskNo) (c : Call) (next : Option StatementNo) (w : World) → G w → accept_for p c.entry (waiting_of w (who.Task t)) ≡ next
      → From R w (meet_sent p t c next)
  unfolding meet_sent
  meet_sent-from p t c (Some s) w good is =
      meet-from p TheFinish (who.Task t) s c _ _ w good (waiting-live p c.entry (who.Task t) s w is) (search (begin_abortable-keeps)) (search (deliver-keeps))
  meet_sent-from p t c None w good is = keeps-from (chains moves) _ w good (search (enqueue-keeps, then-keeps, sent_not_begun-keeps, chains, plain_steps))

  arrive_at-keeps : (p : Image) (t : TaskNo) (c : Call) (test : Bool) → Keeps G R (arrive_at p t c test)
  unfolding arrive_at
  arrive_at-keeps p t c false = search (gone_sent-keeps)
  arrive_at-keeps p t c true = looks-from (chains moves) _ (λ w good. meet_sent-from p t c (accept_for p c.entry (waiting_of w (who.Task t))) w good refl)

  arrive-keeps : (p : Image) (c : Call) (owner : Owner) → Keeps G R (arrive p c owner)
  unfolding arrive
  arrive-keeps p c (owned_by.Task t) = search (looks-keeps, arrive_at-keeps, chains)
  arrive-keeps p c (owned_by.Object o) = search (gone_sent-keeps)

  finish_accept-keeps : (p : Image) (name : Who) (c : Call) (sending : Option Sending) → Keeps G R (finish_accept p name c sending)
  unfolding finish_accept
  finish_accept-keeps p name c None = search (says-keeps, then-keeps, deliver-keeps, chains)
  finish_accept-keeps p name c (Some s) = search (says-keeps, then-keeps, send_on-keeps, with_call-keeps, arrive-keeps, chains, plain_steps)

  finish_rendezvous-keeps : (p : Image) (name : Who) (c : Call) (leaving : Leaving) → Keeps G R (finish_rendezvous p name c leaving)
  unfolding finish_rendezvous
  finish_rendezvous-keeps p name c (how.Exception e) = search (says-keeps, then-keeps, deliver-keeps, chains)
  finish_rendezvous-keeps p name c how.Abort = search (says-keeps, then-keeps, deliver-keeps, chains)
  finish_rendezvous-keeps p name c how.End = search (finish_accept-keeps)
  finish_rendezvous-keeps p name c how.Return = search (finish_accept-keeps)
  finish_rendezvous-keeps p name c (how.Exit loop) = search (finish_accept-keeps)
  finish_rendezvous-keeps p name c how.Terminate = search (finish_accept-keeps)

  -- the accept on top finishes its call, and its scope is no longer there
  pub end_in_accept-from : (p : Image) (name : Who) (m : AcceptMark) (leaving : Leaving) (w : World) → R w [] (end_scope m.within (pop name w))
      → From R w (end_in_accept p name m leaving)
  unfolding end_in_accept
  end_in_accept-from p name m leaving w out =
      let cells = cells_of (scope_in_use w m.within) in
      then-from (chains moves) _ (lose_running p name (inherited_by.Rendezvous m.call) ▷ behind_accept p name leaving) w
      (looks_at-from (chains moves)
      (λ v. changes (pop name) ▷ changes (end_scope m.within) ▷ changes (edit_call m.call (finished_call p (cells_of (scope_in_use v m.within)) leaving))
      ▷ with_call m.call (λ c. finish_rendezvous p name c leaving)) w
      (both_then-from moves (pop name) (end_scope m.within) _ w out
      (keeps-from (chains moves) (changes (edit_call m.call (finished_call p cells leaving)) ▷ with_call m.call (λ c. finish_rendezvous p name c leaving)) _
      (moves.behind w _ out)
      (then-keeps (chains moves) (changes (edit_call m.call (finished_call p cells leaving))) _
      (changes-keeps (chains moves) _
      (edit_call-alters (plain_steps moves) m.call (finished_call p cells leaving) (finished_call-number p cells leaving)
      (finished_call-caller p cells leaving)))
      (with_call-keeps (plain_steps moves) m.call _ (λ c. finish_rendezvous-keeps p name c leaving))))))
      (search (lose_running-keeps, then-keeps, behind_accept-keeps, chains))
