-- Accepting calls: each step keeps a relation that its parts keep.
use Rattle.std.specs.Prelude.{ℤ, pos, int_le, Bool, true, false, List, Option, Some, None, [], ◌∷◌}
use Rattle.ann_base.specs.declared.identities.CallNo.{CallNo}
use Rattle.ann_base.specs.declared.identities.TaskNo.{TaskNo}
use Rattle.trace_text.specs.declared.events.Who.{Who}
use Rattle.trace_text.specs.declared.events.Who.TheVariants as who
use Rattle.profile_machine.specs.declared.world.calls.DelayMoment.{DelayMoment}
use Rattle.profile_image.specs.declared.image.Image.{Image}
use Rattle.profile_image.specs.declared.numbers.EntryNo.{EntryNo}
use Rattle.profile_image.specs.declared.numbers.StatementNo.{StatementNo}
use Rattle.profile_machine.specs.declared.run_data.Leaving.{Leaving}
use Rattle.profile_machine.specs.declared.run_data.Leaving.TheVariants as how
use Rattle.profile_image.specs.declared.statements.SelectAlternative.{SelectAlternative}
use Rattle.profile_image.specs.declared.statements.SelectKind.{SelectKind}
use Rattle.profile_machine.specs.declared.world.World.{World}
use Rattle.profile_machine.specs.declared.world.marks.Mark.{Mark}
use Rattle.profile_machine.specs.declared.world.marks.AcceptMark.{AcceptMark}
use Rattle.profile_machine.specs.declared.world.calls.Call.{Call}
use Rattle.profile_machine.specs.declared.world.calls.Owner.{Owner}
use Rattle.profile_machine.specs.declared.world.calls.Sending.{Sending}
use Rattle.profile_machine.specs.declared.world.tasks.Waiting.TheVariants as waits_for
use Rattle.profile_machine.specs.declared.world.tasks.Cause.TheVariants as inherited_by
use Rattle.ann_base.specs.declared.exceptions.Raised.TheVariants as exception
use Rattle.profile_machine.specs.declared.world.appointments.Due.TheVariants as due_for
use Rattle.profile_machine.specs.declared.world.calls.Owner.TheVariants as owned_by
use Rattle.profile_machine.specs.declared.world.marks.Mark.TheVariants.{InAccept}
use Rattle.profile_image.specs.Program.{form_of, next_of, scope_of}
use Rattle.profile_machine.specs.declared.world.lines.Part.{Part}
use Rattle.profile_machine.specs.Steps.{Step, changes, ◌▷◌, looks}
use Rattle.profile_machine.specs.Frames.{new_frame, pop, top_of, in_protected}
use Rattle.profile_machine.specs.Scopes.{begin_scope, next_id, plainly, innermost, end_scope, cells_of, scope_in_use}
use Rattle.profile_machine.specs.Appointments.{drop_delay}
use Rattle.profile_machine.specs.Calls.{parameters_of, edit_call, with_call, next_call, place_of_entry}
use Rattle.profile_machine.specs.Rendezvous.{accept_scope, open_accept, has_room_for_accept, begin_accept, finish_without_room, accept_with_room}
use Rattle.profile_machine.specs.Rendezvous.{accept_call, meet_with_room, meet_without_room, meet, accept_or_wait, accept, accept_chosen}
use Rattle.profile_machine.specs.Rendezvous.{wait_at_select, appoint_delay, select_delay, select_wait, select_otherwise, select_by_call, select_open}
use Rattle.profile_machine.specs.Rendezvous.{selective_accept, gone_sent, meet_sent, arrive_at, arrive, finish_accept, finish_rendezvous}
use Rattle.profile_machine.specs.Rendezvous.{behind_accept, finished_call, end_in_accept, own_queue, open_alternatives, open_delays}
use Rattle.std.proofs.Common.{◌≡◌, refl}
use Rattle.machine_laws.proofs.Moves.{StepRelation, MoveRelation}
use Rattle.world_laws.proofs.Marks.MarkFacts.{Ends}
use Rattle.world_laws.proofs.Marks.FineMoves.{FineMoves, Openings, chains, says-keeps}
use Rattle.world_laws.proofs.Marks.Kept.Dispatching.{ready-keeps, block-keeps, blocked-keeps}
use Rattle.world_laws.proofs.Marks.Kept.Frames.{goes-keeps, open_sequence-keeps, goes_then-from, popped, plain_steps}
use Rattle.world_laws.proofs.Marks.Kept.Scopes.{end_scope-alters}
use Rattle.world_laws.proofs.Marks.Kept.Inheritance.{inherit-alters, inherit_running-keeps, lose_running-keeps}
use Rattle.world_laws.proofs.Marks.Kept.Appointments.{appoint-from, drop_delay-alters}
use Rattle.world_laws.proofs.Marks.Kept.CallEnds.{deliver-keeps, gone-keeps}
use Rattle.world_laws.proofs.Marks.Kept.Protected.{begin_call-keeps}
use Rattle.world_laws.proofs.Marks.Kept.Sending.{send_on-keeps, begin_abortable-keeps, sent_not_begun-keeps}
use Rattle.ann_base.specs.declared.identities.RegionNo.{RegionNo}
use Rattle.profile_machine.specs.Values.{seen_by}
use Rattle.profile_machine.specs.Inheritance.{lose_running}
use Rattle.profile_machine.specs.declared.world.marks.Frame.{Frame}
use Rattle.profile_machine.specs.declared.world.lines.Part.TheVariants.{Own}
use Rattle.machine_laws.proofs.FineMoves.{GoodWorld, Naming}
use Rattle.machine_laws.proofs.Kept.Combinators.{Alters, From, Keeps, branch-keeps, changes-keeps, changes_then-from, for_some-keeps, keeps-from}
use Rattle.machine_laws.proofs.Kept.Combinators.{looks-from, looks-keeps, looks_at-from, nothing-keeps, then-from, then-keeps, unchanged-alters}
use Rattle.machine_laws.proofs.Plain.Frames.{raises-keeps, pass_on-keeps, raise_if-keeps, given-from, raise_if-from}
use Rattle.machine_laws.proofs.Plain.Calls.{edit_call-alters, with_call-keeps, enqueue-keeps}
use Rattle.machine_laws.proofs.Plain.PlainSteps.{anybody}
use Rattle.machine_laws.proofs.Plain.Results.{finished_call-number, finished_call-caller}

module _ {G : GoodWorld} {May Other : Naming} {R : StepRelation} {Q : MoveRelation} (moves : FineMoves G May Other R Q) where
  open_accept-alters : (p : Image) (name : Who) (s : StatementNo) (c : Call) → Other name → Alters G R (open_accept p name s c)
  unfolding Alters
  open_accept-alters p name s c other w good =
      let scope = accept_scope (form_of p s) in
      let b = record (plainly (innermost w name)) { values = parameters_of p c } in
      let begun = begin_scope p name scope b w in
      let mark : Mark = InAccept (record { call = c.number; accept = s; within = next_id w; handles = None }) in
      let first = moves.begins_scope p name scope b w good in
      moves.goes_on w begun (open_accept p name s c w) first
      (moves.opens_abortable name (new_frame mark (scope_of p scope).first) begun (moves.behind w begun first) other refl refl refl refl)

  begin_accept-keeps : (p : Image) (part : Part) (name : Who) (s : StatementNo) (c : Call) → Keeps G R (begin_accept p part name s c)
  unfolding begin_accept
  begin_accept-keeps p part name s c = search (begin_call-keeps, then-keeps, goes-keeps, chains)

  finish_without_room-keeps : (part : Part) (name : Who) (c : Call) → Keeps G R (finish_without_room part name c)
  unfolding finish_without_room
  finish_without_room-keeps part name c = search (says-keeps)

  accept_with_room-keeps : (p : Image) (name : Who) (s : StatementNo) (c : Call) (has_room : Bool) → Other name
      → Keeps G R (accept_with_room p name s c has_room)
  unfolding accept_with_room
  accept_with_room-keeps p name s c true other = search (changes-keeps, open_accept-alters, then-keeps, inherit_running-keeps, moves.other_may, chains)
  accept_with_room-keeps p name s c false other = search (finish_without_room-keeps, then-keeps, deliver-keeps, raises-keeps, chains, plain_steps)

  pub accept_call-keeps : (p : Image) (name : Who) (s : StatementNo) (c : CallNo) → Other name → Keeps G R (accept_call p name s c)
  unfolding accept_call
  accept_call-keeps p name s c other =
      search (with_call-keeps, begin_accept-keeps, then-keeps, looks-keeps, accept_with_room-keeps, chains, plain_steps) depth 8

  pub meet_with_room-keeps : (p : Image) (part : Part) (name : Who) (s : StatementNo) (c : Call) (then_ : Step) → Other name → Keeps G R then_
      → Keeps G R (meet_with_room p part name s c then_)
  meet_with_room-keeps p part name s c then_ other kept =
      search
      (begin_accept-keeps, changes-keeps, open_accept-alters, inherit-alters, then-keeps, ready-keeps, open_sequence-keeps, moves.other_may, chains) depth 10

  pub meet_without_room-keeps : (p : Image) (part : Part) (name : Who) (s : StatementNo) (c : Call) (otherwise : Step) → Other name → Keeps G R otherwise
      → Keeps G R (meet_without_room p part name s c otherwise)
  meet_without_room-keeps p part name s c otherwise other kept =
      search (begin_accept-keeps, then-keeps, finish_without_room-keeps, ready-keeps, raises-keeps, chains, plain_steps) depth 10

  pub meet-keeps : (p : Image) (part : Part) (name : Who) (s : StatementNo) (c : Call) (then_ otherwise : Step) → Other name → Keeps G R then_
      → Keeps G R otherwise → Keeps G R (meet p part name s c then_ otherwise)
  meet-keeps p part name s c then_ otherwise other kept also_kept =
      then-keeps (chains moves) (changes (drop_delay name)) _ (search (changes-keeps, drop_delay-alters, chains))
      (looks-keeps (chains moves) _
      (λ w. branch-keeps (chains moves) (has_room_for_accept p w name s) (meet_with_room p part name s c then_) (meet_without_room p part name s c otherwise)
      (search (meet_with_room-keeps)) (search (meet_without_room-keeps))))

  pub accept_or_wait-keeps : (p : Image) (name : Who) (s : StatementNo) (c : Option CallNo) → Other name → Keeps G R (accept_or_wait p name s c)
  unfolding accept_or_wait
  accept_or_wait-keeps p name s (Some c) other = search (accept_call-keeps)
  accept_or_wait-keeps p name s None other = search (goes-keeps, then-keeps, block-keeps, chains)

  pub accept_chosen-keeps : (p : Image) (name : Who) (accepts : List StatementNo) (c : CallNo) → Other name → Keeps G R (accept_chosen p name accepts c)
  unfolding accept_chosen
  accept_chosen-keeps p name accepts c other = search (with_call-keeps, for_some-keeps, accept_call-keeps, chains, plain_steps)

  pub wait_at_select-keeps : (name : Who) (accepts : List StatementNo) (delay : Option StatementNo) (test : Bool) → Other name
      → Keeps G R (wait_at_select name accepts delay test)
  unfolding wait_at_select
  wait_at_select-keeps name accepts delay true other = blocked-keeps moves name (waits_for.Select accepts delay true) other refl
  wait_at_select-keeps name accepts delay false other = search (block-keeps)

  appoint_delay-from : (name : Who) (m : ℤ) (w : World) → G w → From R w (changes (appoint_delay name m))
  appoint_delay-from (who.Task t) m w good = appoint-from moves (due_for.Delay t) m w good refl
  appoint_delay-from who.Agent m w good =
      keeps-from (chains moves) (changes (λ v. v)) w good (changes-keeps (chains moves) (λ v. v) (unchanged-alters (chains moves)))

  select_delay-from : (p : Image) (name : Who) (s : StatementNo) (accepts : List StatementNo) (m : DelayMoment) (terminate test : Bool) (w : World) → G w
      → Other name → From R w (select_delay p name s accepts m terminate test)
  unfolding select_delay
  select_delay-from p name s accepts m terminate true w good other = keeps-from (chains moves) _ w good (search (goes-keeps))
  select_delay-from p name s accepts m terminate false w good other =
      goes_then-from moves name (next_of p s) _ w good (λ good_onward.
      then-from (chains moves) (changes (appoint_delay name m.at)) _ _
      (appoint_delay-from name m.at _ good_onward)
      (wait_at_select-keeps name accepts (Some m.delay) terminate other))

  pub select_wait-keeps : (p : Image) (name : Who) (s : StatementNo) (accepts : List StatementNo) (terminate : Bool) (moment : Option DelayMoment) → Other name
      → Keeps G R (select_wait p name s accepts terminate moment)
  unfolding select_wait
  select_wait-keeps p name s accepts terminate None other = search (goes-keeps, then-keeps, wait_at_select-keeps, chains)
  select_wait-keeps p name s accepts terminate (Some m) other =
      looks-from (chains moves) _ (λ w good. select_delay-from p name s accepts m terminate (int_le m.at (pos w.time)) w good other)

  pub select_otherwise-keeps : (p : Image) (name : Who) (s : StatementNo) (kinds : List SelectKind) (m : Option DelayMoment) (next : Option StatementNo)
      → Other name → Keeps G R (select_otherwise p name s kinds m next)
  unfolding select_otherwise
  select_otherwise-keeps p name s kinds m (Some otherwise) other = search (goes-keeps)
  select_otherwise-keeps p name s kinds m None other = search (select_wait-keeps)

  pub select_by_call-keeps : (p : Image) (name : Who) (s : StatementNo) (kinds : List SelectKind) (m : Option DelayMoment) (otherwise : Option StatementNo)
      (c : Option CallNo)
      → Other name
      → Keeps G R (select_by_call p name s kinds m otherwise c)
  unfolding select_by_call
  select_by_call-keeps p name s kinds m otherwise (Some c) other = search (accept_chosen-keeps)
  select_by_call-keeps p name s kinds m otherwise None other = search (select_otherwise-keeps)

  pub select_open-keeps : (p : Image) (name : Who) (s : StatementNo) (otherwise : Option StatementNo) (kinds : List SelectKind) (moments : List DelayMoment)
      → Other name → Keeps G R (select_open p name s otherwise kinds moments)
  unfolding select_open
  select_open-keeps p name s otherwise kinds moments other = search (raise_if-keeps, looks-keeps, select_by_call-keeps, chains, plain_steps)

  pub gone_sent-keeps : (p : Image) (c : Call) → Keeps G R (gone_sent p c)
  unfolding gone_sent
  gone_sent-keeps p c = search (gone-keeps, then-keeps, deliver-keeps, chains)

  pub meet_sent-keeps : (p : Image) (t : TaskNo) (c : Call) (next : Option StatementNo) → Keeps G R (meet_sent p t c next)
  unfolding meet_sent
  meet_sent-keeps p t c (Some s) = search (meet-keeps, begin_abortable-keeps, deliver-keeps, moves.task_other)
  meet_sent-keeps p t c None = search (enqueue-keeps, then-keeps, sent_not_begun-keeps, chains, plain_steps)

  pub arrive_at-keeps : (p : Image) (t : TaskNo) (c : Call) (test : Bool) → Keeps G R (arrive_at p t c test)
  unfolding arrive_at
  arrive_at-keeps p t c false = search (gone_sent-keeps)
  arrive_at-keeps p t c true = search (looks-keeps, meet_sent-keeps, chains)

  pub arrive-keeps : (p : Image) (c : Call) (owner : Owner) → Keeps G R (arrive p c owner)
  unfolding arrive
  arrive-keeps p c (owned_by.Task t) = search (looks-keeps, arrive_at-keeps, chains)
  arrive-keeps p c (owned_by.Object o) = search (gone_sent-keeps)

  pub finish_accept-keeps : (p : Image) (name : Who) (c : Call) (sending : Option Sending) → Keeps G R (finish_accept p name c sending)
  unfolding finish_accept
  finish_accept-keeps p name c None = search (says-keeps, then-keeps, deliver-keeps, chains)
  finish_accept-keeps p name c (Some s) = search (says-keeps, then-keeps, send_on-keeps, with_call-keeps, arrive-keeps, chains, plain_steps)

  pub finish_rendezvous-keeps : (p : Image) (name : Who) (c : Call) (leaving : Leaving) → Keeps G R (finish_rendezvous p name c leaving)
  unfolding finish_rendezvous
  finish_rendezvous-keeps p name c (how.Exception e) = search (says-keeps, then-keeps, deliver-keeps, chains)
  finish_rendezvous-keeps p name c how.Abort = search (says-keeps, then-keeps, deliver-keeps, chains)
  finish_rendezvous-keeps p name c how.End = search (finish_accept-keeps)
  finish_rendezvous-keeps p name c how.Return = search (finish_accept-keeps)
  finish_rendezvous-keeps p name c (how.Exit loop) = search (finish_accept-keeps)
  finish_rendezvous-keeps p name c how.Terminate = search (finish_accept-keeps)

  pub behind_accept-keeps : (p : Image) (name : Who) (leaving : Leaving) → Keeps G R (behind_accept p name leaving)
  unfolding behind_accept
  behind_accept-keeps p name how.End = search (nothing-keeps, chains)
  behind_accept-keeps p name how.Return = search (nothing-keeps, chains)
  behind_accept-keeps p name (how.Exit loop) = search (pass_on-keeps, plain_steps, anybody)
  behind_accept-keeps p name (how.Exception e) = search (pass_on-keeps, plain_steps, anybody)
  behind_accept-keeps p name how.Abort = search (pass_on-keeps, plain_steps, anybody)
  behind_accept-keeps p name how.Terminate = search (pass_on-keeps, plain_steps, anybody)

  -- the accept on top finishes its call
  accept_ends-from : (p : Image) (name : Who) (m : AcceptMark) (leaving : Leaving) (f : Frame) (w : World) → G w → May name → top_of w name ≡ Some f
      → Ends name f w
      → From R w (looks
      (λ v. changes (pop name) ▷ changes (end_scope m.within) ▷ changes (edit_call m.call (finished_call p (cells_of (scope_in_use v m.within)) leaving))
      ▷ with_call m.call (λ c. finish_rendezvous p name c leaving)))
  accept_ends-from p name m leaving f w good may top free =
      let out = popped moves name f w good may top free in
      looks_at-from (chains moves)
      (λ v. changes (pop name) ▷ changes (end_scope m.within) ▷ changes (edit_call m.call (finished_call p (cells_of (scope_in_use v m.within)) leaving))
      ▷ with_call m.call (λ c. finish_rendezvous p name c leaving)) w
      (changes_then-from (chains moves) (pop name) _ w out
      (keeps-from (chains moves)
      (changes (end_scope m.within) ▷ changes (edit_call m.call (finished_call p (cells_of (scope_in_use w m.within)) leaving))
      ▷ with_call m.call (λ c. finish_rendezvous p name c leaving))
      (pop name w)
      (moves.behind w (pop name w) out)
      (search (
        changes-keeps,
        then-keeps,
        end_scope-alters,
        edit_call-alters,
        with_call-keeps,
        finish_rendezvous-keeps,
        finished_call-number,
        finished_call-caller,
        chains,
        plain_steps,
      ) depth 10)))

  pub end_in_accept-from : (p : Image) (name : Who) (m : AcceptMark) (leaving : Leaving) (f : Frame) (w : World) → G w → May name → top_of w name ≡ Some f
      → Ends name f w → From R w (end_in_accept p name m leaving)
  unfolding end_in_accept
  end_in_accept-from p name m leaving f w good may top free =
      then-from (chains moves) _ (lose_running p name (inherited_by.Rendezvous m.call) ▷ behind_accept p name leaving) w
      (accept_ends-from p name m leaving f w good may top free) (search (lose_running-keeps, then-keeps, behind_accept-keeps, chains))

module _ {G : GoodWorld} {May Other : Naming} {Owns : Who → RegionNo → Type 0} {R : StepRelation} {Q : MoveRelation} (moves : FineMoves G May Other R Q)
    (openings : Openings G May Other Owns R) where
  pub accept-keeps : (p : Image) (name : Who) (s : StatementNo) (e : EntryNo) → May name → Keeps G R (accept p name s e)
  unfolding accept
  accept-keeps p name s e may =
      looks-from (chains moves) _ (λ w good. raise_if-from (plain_steps moves) name (in_protected w name) exception.Program _ w good
      (λ free. keeps-from (chains moves) _ w good
      (accept_or_wait-keeps moves p name s (next_call p w (own_queue w name (place_of_entry p e) ∷ [])) (openings.outside name w good may free))))

  pub selective_accept-keeps : (p : Image) (name : Who) (s : StatementNo) (alternatives : List SelectAlternative) (otherwise : Option StatementNo) → May name
      → Keeps G R (selective_accept p name s alternatives otherwise)
  unfolding selective_accept
  selective_accept-keeps p name s alternatives otherwise may =
      looks-from (chains moves) _ (λ w good. raise_if-from (plain_steps moves) name (in_protected w name) exception.Program _ w good
      (λ free. let other = openings.outside name w good may free in
      given-from (plain_steps moves) Own name (open_alternatives (seen_by p w name) alternatives) _ w good (λ kinds.
      given-from (plain_steps moves) Own name (open_delays (seen_by p w name) kinds) _ w good (λ moments.
      keeps-from (chains moves) _ w good (select_open-keeps moves p name s otherwise kinds moments other)))))
