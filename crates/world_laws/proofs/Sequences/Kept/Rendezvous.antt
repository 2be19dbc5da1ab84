-- Accepting calls: each step keeps a relation that its parts keep.
use Rattle.profile_machine.specs.declared.world.calls.Outcome.TheVariants as call_ended
use Rattle.profile_machine.specs.Sending.{begin_abortable, sent_not_begun}
use Rattle.profile_machine.specs.CallEnds.{deliver}
use Rattle.profile_machine.specs.Dispatching.{ready}
use Rattle.world_laws.proofs.Sequences.Kept.Woken.{opened-turns, raised-turns}
use Rattle.std.specs.Prelude.{ℤ, pos, int_le, Bool, true, false, List, Option, Some, None, [], ◌∷◌}
use Rattle.ann_base.specs.declared.identities.CallNo.{CallNo}
use Rattle.ann_base.specs.declared.identities.TaskNo.{TaskNo}
use Rattle.trace_text.specs.declared.events.Who.{Who}
use Rattle.trace_text.specs.declared.events.Who.TheVariants as who
use Rattle.profile_machine.specs.declared.world.calls.DelayMoment.{DelayMoment}
use Rattle.profile_image.specs.declared.image.Image.{Image}
use Rattle.profile_image.specs.declared.numbers.EntryNo.{EntryNo}
use Rattle.profile_image.specs.declared.numbers.StatementNo.{StatementNo}
use Rattle.profile_machine.specs.declared.run_data.Leaving.{Leaving}
use Rattle.profile_machine.specs.declared.run_data.Leaving.TheVariants as how
use Rattle.profile_image.specs.declared.statements.SelectAlternative.{SelectAlternative}
use Rattle.profile_image.specs.declared.statements.SelectKind.{SelectKind}
use Rattle.profile_machine.specs.declared.world.World.{World}
use Rattle.profile_machine.specs.declared.world.marks.Mark.{Mark}
use Rattle.profile_machine.specs.declared.world.marks.AcceptMark.{AcceptMark}
use Rattle.profile_machine.specs.declared.world.calls.Call.{Call}
use Rattle.profile_machine.specs.declared.world.calls.Owner.{Owner}
use Rattle.profile_machine.specs.declared.world.calls.Sending.{Sending}
use Rattle.profile_machine.specs.declared.world.tasks.Waiting.TheVariants as waits_for
use Rattle.profile_machine.specs.declared.world.tasks.Cause.TheVariants as inherited_by
use Rattle.ann_base.specs.declared.exceptions.Raised.TheVariants as exception
use Rattle.profile_machine.specs.declared.world.appointments.Due.TheVariants as due_for
use Rattle.profile_machine.specs.declared.world.calls.Owner.TheVariants as owned_by
use Rattle.profile_machine.specs.declared.world.marks.Mark.TheVariants.{InAccept}
use Rattle.profile_image.specs.Program.{form_of, next_of, scope_of}
use Rattle.profile_machine.specs.declared.world.lines.Part.{Part}
use Rattle.profile_machine.specs.Steps.{Step, changes, ◌▷◌, looks}
use Rattle.profile_machine.specs.Frames.{new_frame, pop, top_of, is_protected, in_protected, open_sequence, raises}
use Rattle.profile_machine.specs.Scopes.{begin_scope, next_id, plainly, innermost, end_scope, cells_of, scope_in_use}
use Rattle.profile_machine.specs.Appointments.{drop_delay}
use Rattle.profile_machine.specs.Calls.{parameters_of, edit_call, with_call, next_call, place_of_entry, enqueue}
use Rattle.profile_machine.specs.Rendezvous.{accept_scope, open_accept, has_room_for_accept, begin_accept, finish_without_room, accept_with_room}
use Rattle.profile_machine.specs.Rendezvous.{accept_call, meet_with_room, meet_without_room, meet, accept_or_wait, accept, accept_chosen}
use Rattle.profile_machine.specs.Rendezvous.{wait_at_select, appoint_delay, select_delay, select_wait, select_otherwise, select_by_call, select_open}
use Rattle.profile_machine.specs.Rendezvous.{selective_accept, gone_sent, meet_sent, arrive_at, arrive, finish_accept, finish_rendezvous}
use Rattle.profile_machine.specs.Rendezvous.{behind_accept, finished_call, end_in_accept, own_queue, open_alternatives, open_delays}
use Rattle.std.proofs.Common.{◌≡◌, refl, inr}
use Rattle.machine_laws.proofs.FineMoves.{GoodWorld, Naming}
use Rattle.world_laws.proofs.Sequences.FineMoves.{FineMoves, Openings, Loosens, Again, chains, says-keeps}
use Rattle.world_laws.proofs.Behind.{Behind, narrow-turns, then-turns}
use Rattle.world_laws.proofs.Sequences.Kept.Dispatching.{ready-keeps, block-keeps, blocked-keeps}
use Rattle.world_laws.proofs.Sequences.Kept.Frames.{goes-keeps, goes_then-from, popped, plain_steps}
use Rattle.world_laws.proofs.Sequences.Kept.Scopes.{end_scope-alters}
use Rattle.world_laws.proofs.Sequences.Kept.Inheritance.{inherit-alters, inherit_running-keeps, lose_running-keeps}
use Rattle.world_laws.proofs.Sequences.Kept.Appointments.{appoint-from, drop_delay-alters}
use Rattle.world_laws.proofs.Sequences.Kept.CallEnds.{deliver-keeps, gone-keeps}
use Rattle.world_laws.proofs.Sequences.Kept.Protected.{begin_call-keeps}
use Rattle.world_laws.proofs.Sequences.Kept.Sending.{send_on-keeps, begin_abortable-keeps, sent_not_begun-keeps}
use Rattle.profile_machine.specs.Values.{seen_by}
use Rattle.profile_machine.specs.Inheritance.{lose_running, inherit}
use Rattle.profile_machine.specs.declared.world.marks.Frame.{Frame}
use Rattle.profile_machine.specs.declared.world.lines.Part.TheVariants.{Own, TheFinish}
use Rattle.machine_laws.proofs.Kept.Combinators.{Alters, From, Keeps, branch-keeps, changes-keeps, changes_then-from, for_some-keeps, keeps-from}
use Rattle.machine_laws.proofs.Kept.Combinators.{looks-from, looks-keeps, looks_at-from, nothing-keeps, then-from, then-keeps, unchanged-alters}
use Rattle.machine_laws.proofs.Plain.Frames.{raises-keeps, pass_on-keeps, raise_if-keeps, given-from, raise_if-from}
use Rattle.machine_laws.proofs.Plain.Calls.{edit_call-alters, with_call-keeps, enqueue-keeps}
use Rattle.machine_laws.proofs.Plain.Results.{finished_call-number, finished_call-caller}

module _ {p : Image} {G : GoodWorld} {May Other : Naming} (moves : FineMoves p G May Other) where
  open_accept-alters : (name : Who) (s : StatementNo) (c : Call) → Other name → May name → Alters G (Behind G) (open_accept p name s c)
  unfolding Alters
  open_accept-alters name s c other may w good =
      let scope = accept_scope (form_of p s) in
      let b = record (plainly (innermost w name)) { values = parameters_of p c } in
      let begun = begin_scope p name scope b w in
      let mark : Mark = InAccept (record { call = c.number; accept = s; within = next_id w; handles = None }) in
      let first = moves.begins_scope name scope b w good in
      moves.goes_on w begun (open_accept p name s c w) first
      (moves.pushes_other name (new_frame mark (scope_of p scope).first) begun (moves.behind w begun first) may other)

  begin_accept-keeps : (part : Part) (name : Who) (s : StatementNo) (c : Call) → May name → Keeps G (Behind G) (begin_accept p part name s c)
  unfolding begin_accept
  begin_accept-keeps part name s c may = search (begin_call-keeps, then-keeps, goes-keeps, chains)

  finish_without_room-keeps : (part : Part) (name : Who) (c : Call) → Keeps G (Behind G) (finish_without_room part name c)
  unfolding finish_without_room
  finish_without_room-keeps part name c = search (says-keeps)

  appoint_delay-from : (name : Who) (m : ℤ) (w : World) → G w → From (Behind G) w (changes (appoint_delay name m))
  appoint_delay-from (who.Task t) m w good = appoint-from moves (due_for.Delay t) m w good
  appoint_delay-from who.Agent m w good =
      keeps-from (chains moves) (changes (λ v. v)) w good (changes-keeps (chains moves) (λ v. v) (unchanged-alters (chains moves)))

  pub behind_accept-keeps : (name : Who) (leaving : Leaving) → May name → Keeps G (Behind G) (behind_accept p name leaving)
  unfolding behind_accept
  behind_accept-keeps name how.End may = search (nothing-keeps, chains)
  behind_accept-keeps name how.Return may = search (nothing-keeps, chains)
  behind_accept-keeps name (how.Exit loop) may = search (pass_on-keeps, plain_steps)
  behind_accept-keeps name (how.Exception e) may = search (pass_on-keeps, plain_steps)
  behind_accept-keeps name how.Abort may = search (pass_on-keeps, plain_steps)
  behind_accept-keeps name how.Terminate may = search (pass_on-keeps, plain_steps)

module _ {p : Image} {G : GoodWorld} {May Other : Naming} (moves : FineMoves p G May Other) (loose : Loosens p G May Other) where
  pub meet_with_room-keeps : (part : Part) (name : Who) (s : StatementNo) (c : Call) (then_ : Step) → Other name → Keeps G (Behind G) then_
      → Keeps G (Behind G) (meet_with_room p part name s c then_)
  meet_with_room-keeps part name s c then_ other kept =
      let l = loose name other in
      then-turns G l.Loose G (begin_accept p part name s c) _
      (narrow-turns G l.Loose l.Loose (begin_accept p part name s c) (λ w good. l.loosens w good) (begin_accept-keeps l.moves part name s c (inr refl)))
      (then-turns l.Loose l.Loose G (changes (open_accept p name s c)) _
      (changes-keeps (chains l.moves) _ (open_accept-alters l.moves name s c other (inr refl)))
      (then-turns l.Loose l.Loose G (changes (inherit name (inherited_by.Rendezvous c.number) c.priority)) _
      (changes-keeps (chains l.moves) _ (inherit-alters l.moves name (inherited_by.Rendezvous c.number) c.priority))
      (then-turns l.Loose l.Loose G (ready p part name) _ (ready-keeps l.moves part name (inr refl))
      (then-turns l.Loose G G (open_sequence p part name) then_ (opened-turns moves loose part name other) kept))))

  -- its call has ended meanwhile
  pub meet_without_room-keeps : (part : Part) (name : Who) (s : StatementNo) (c : Call) (otherwise : Step) (other : Other name)
      → Keeps (loose name other).Loose (Behind (loose name other).Loose) otherwise → Keeps G (Behind G) (meet_without_room p part name s c otherwise)
  meet_without_room-keeps part name s c otherwise other kept =
      let l = loose name other in
      then-turns G l.Loose G (begin_accept p TheFinish name s c) _
      (narrow-turns G l.Loose l.Loose (begin_accept p TheFinish name s c) (λ w good. l.loosens w good)
      (begin_accept-keeps l.moves TheFinish name s c (inr refl)))
      (then-turns l.Loose l.Loose G (finish_without_room TheFinish name c) _ (finish_without_room-keeps l.moves TheFinish name c)
      (then-turns l.Loose l.Loose G otherwise _ kept
      (then-turns l.Loose l.Loose G (ready p part name) (raises part name exception.Storage) (ready-keeps l.moves part name (inr refl))
      (raised-turns moves loose part name other exception.Storage))))

  pub meet-keeps : (part : Part) (name : Who) (s : StatementNo) (c : Call) (then_ otherwise : Step) (other : Other name) → Keeps G (Behind G) then_
      → Keeps (loose name other).Loose (Behind (loose name other).Loose) otherwise → Keeps G (Behind G) (meet p part name s c then_ otherwise)
  meet-keeps part name s c then_ otherwise other kept also_kept =
      then-keeps (chains moves) (changes (drop_delay name)) _ (changes-keeps (chains moves) _ (drop_delay-alters moves name))
      (looks-keeps (chains moves) _
      (λ w. branch-keeps (chains moves) (has_room_for_accept p w name s) (meet_with_room p part name s c then_)
      (meet_without_room p part name s c otherwise) (meet_with_room-keeps part name s c then_ other kept)
      (meet_without_room-keeps part name s c otherwise other also_kept)))

module _ {p : Image} {G : GoodWorld} {May Other : Naming} (moves : FineMoves p G May Other) (loose : Loosens p G May Other)
    (again : Again p G May Other loose) where
  pub gone_sent-keeps : (c : Call) → Keeps G (Behind G) (gone_sent p c)
  unfolding gone_sent
  gone_sent-keeps c = search (gone-keeps, then-keeps, deliver-keeps, chains)

  pub meet_sent-keeps : (t : TaskNo) (c : Call) (next : Option StatementNo) → Keeps G (Behind G) (meet_sent p t c next)
  unfolding meet_sent
  meet_sent-keeps t c (Some s) =
      let other = moves.task_other t in
      meet-keeps moves loose TheFinish (who.Task t) s c (begin_abortable p c.number) (deliver p TheFinish c.number (call_ended.ToRaise exception.Storage)) other
      (begin_abortable-keeps moves loose c.number)
      (deliver-keeps (loose (who.Task t) other).moves (again (who.Task t) other) TheFinish c.number (call_ended.ToRaise exception.Storage))
  meet_sent-keeps t c None =
      then-keeps (chains moves) (enqueue p c.number) (sent_not_begun p c.number) (enqueue-keeps (plain_steps moves) p c.number)
      (sent_not_begun-keeps moves loose c.number)

  pub arrive_at-keeps : (t : TaskNo) (c : Call) (test : Bool) → Keeps G (Behind G) (arrive_at p t c test)
  unfolding arrive_at
  arrive_at-keeps t c false = search (gone_sent-keeps)
  arrive_at-keeps t c true = search (looks-keeps, meet_sent-keeps, chains)

  pub arrive-keeps : (c : Call) (owner : Owner) → Keeps G (Behind G) (arrive p c owner)
  unfolding arrive
  arrive-keeps c (owned_by.Task t) = search (looks-keeps, arrive_at-keeps, chains)
  arrive-keeps c (owned_by.Object o) = search (gone_sent-keeps)

  pub finish_accept-keeps : (name : Who) (c : Call) (sending : Option Sending) → Keeps G (Behind G) (finish_accept p name c sending)
  unfolding finish_accept
  finish_accept-keeps name c None = search (says-keeps, then-keeps, deliver-keeps, chains)
  finish_accept-keeps name c (Some s) = search (says-keeps, then-keeps, send_on-keeps, with_call-keeps, arrive-keeps, chains, plain_steps)

  pub finish_rendezvous-keeps : (name : Who) (c : Call) (leaving : Leaving) → Keeps G (Behind G) (finish_rendezvous p name c leaving)
  unfolding finish_rendezvous
  finish_rendezvous-keeps name c (how.Exception e) = search (says-keeps, then-keeps, deliver-keeps, chains)
  finish_rendezvous-keeps name c how.Abort = search (says-keeps, then-keeps, deliver-keeps, chains)
  finish_rendezvous-keeps name c how.End = search (finish_accept-keeps)
  finish_rendezvous-keeps name c how.Return = search (finish_accept-keeps)
  finish_rendezvous-keeps name c (how.Exit loop) = search (finish_accept-keeps)
  finish_rendezvous-keeps name c how.Terminate = search (finish_accept-keeps)

  -- the accept on top finishes its call
  accept_ends-from : (name : Who) (m : AcceptMark) (leaving : Leaving) (f : Frame) (w : World) → G w → May name → top_of w name ≡ Some f
      → is_protected f.mark ≡ false
      → From (Behind G) w
      (looks (λ v. changes (pop name) ▷ changes (end_scope m.within) ▷ changes (edit_call m.call (finished_call p (cells_of (scope_in_use v m.within)) leaving))
      ▷ with_call m.call (λ c. finish_rendezvous p name c leaving)))
  accept_ends-from name m leaving f w good may top free =
      let out = popped moves name f w good may top free in
      looks_at-from (chains moves)
      (λ v. changes (pop name) ▷ changes (end_scope m.within) ▷ changes (edit_call m.call (finished_call p (cells_of (scope_in_use v m.within)) leaving))
      ▷ with_call m.call (λ c. finish_rendezvous p name c leaving)) w
      (changes_then-from (chains moves) (pop name) _ w out
      (keeps-from (chains moves)
      (changes (end_scope m.within) ▷ changes (edit_call m.call (finished_call p (cells_of (scope_in_use w m.within)) leaving))
      ▷ with_call m.call (λ c. finish_rendezvous p name c leaving))
      (pop name w)
      (moves.behind w (pop name w) out)
      (search (
        changes-keeps,
        then-keeps,
        end_scope-alters,
        edit_call-alters,
        with_call-keeps,
        finish_rendezvous-keeps,
        finished_call-number,
        finished_call-caller,
        chains,
        plain_steps,
      ) depth 10)))

  pub end_in_accept-from : (name : Who) (m : AcceptMark) (leaving : Leaving) (f : Frame) (w : World) → G w → May name → top_of w name ≡ Some f
      → is_protected f.mark ≡ false → From (Behind G) w (end_in_accept p name m leaving)
  unfolding end_in_accept
  end_in_accept-from name m leaving f w good may top free =
      then-from (chains moves) _ (lose_running p name (inherited_by.Rendezvous m.call) ▷ behind_accept p name leaving) w
      (accept_ends-from name m leaving f w good may top free) (search (lose_running-keeps, then-keeps, behind_accept-keeps, chains))

module _ {p : Image} {G : GoodWorld} {May Other : Naming} (moves : FineMoves p G May Other) (loose : Loosens p G May Other)
    (openings : Openings p G May Other) where
  accept_with_room-keeps : (name : Who) (s : StatementNo) (c : Call) (has_room : Bool) → Other name → May name
      → Keeps G (Behind G) (accept_with_room p name s c has_room)
  unfolding accept_with_room
  accept_with_room-keeps name s c true other may = search (changes-keeps, open_accept-alters, then-keeps, inherit_running-keeps, chains)
  accept_with_room-keeps name s c false other may = search (finish_without_room-keeps, then-keeps, deliver-keeps, raises-keeps, chains, plain_steps)

  pub accept_call-keeps : (name : Who) (s : StatementNo) (c : CallNo) → Other name → May name → Keeps G (Behind G) (accept_call p name s c)
  unfolding accept_call
  accept_call-keeps name s c other may =
      search (with_call-keeps, begin_accept-keeps, then-keeps, looks-keeps, accept_with_room-keeps, chains, plain_steps) depth 8

  pub accept_or_wait-keeps : (name : Who) (s : StatementNo) (c : Option CallNo) → Other name → May name → Keeps G (Behind G) (accept_or_wait p name s c)
  unfolding accept_or_wait
  accept_or_wait-keeps name s (Some c) other may = search (accept_call-keeps)
  accept_or_wait-keeps name s None other may = search (goes-keeps, then-keeps, block-keeps, chains)

  pub accept_chosen-keeps : (name : Who) (accepts : List StatementNo) (c : CallNo) → Other name → May name → Keeps G (Behind G) (accept_chosen p name accepts c)
  unfolding accept_chosen
  accept_chosen-keeps name accepts c other may = search (with_call-keeps, for_some-keeps, accept_call-keeps, chains, plain_steps)

  pub wait_at_select-keeps : (name : Who) (accepts : List StatementNo) (delay : Option StatementNo) (test : Bool) → Other name
      → Keeps G (Behind G) (wait_at_select name accepts delay test)
  unfolding wait_at_select
  wait_at_select-keeps name accepts delay true other = blocked-keeps moves openings name (waits_for.Select accepts delay true) other refl
  wait_at_select-keeps name accepts delay false other = search (block-keeps)

  select_delay-from : (name : Who) (s : StatementNo) (accepts : List StatementNo) (m : DelayMoment) (terminate test : Bool) (w : World) → G w → Other name
      → int_le m.at (pos w.time) ≡ test → May name → From (Behind G) w (select_delay p name s accepts m terminate test)
  unfolding select_delay
  select_delay-from name s accepts m terminate true w good other is may = keeps-from (chains moves) _ w good (search (goes-keeps))
  select_delay-from name s accepts m terminate false w good other is may =
      goes_then-from moves name (next_of p s) _ w good (λ good_onward.
      then-from (chains moves) (changes (appoint_delay name m.at)) _ _
      (appoint_delay-from moves name m.at _ good_onward)
      (wait_at_select-keeps name accepts (Some m.delay) terminate other)) may

  pub select_wait-keeps : (name : Who) (s : StatementNo) (accepts : List StatementNo) (terminate : Bool) (moment : Option DelayMoment) → Other name → May name
      → Keeps G (Behind G) (select_wait p name s accepts terminate moment)
  unfolding select_wait
  select_wait-keeps name s accepts terminate None other may = search (goes-keeps, then-keeps, wait_at_select-keeps, chains)
  select_wait-keeps name s accepts terminate (Some m) other may =
      looks-from (chains moves) _ (λ w good. select_delay-from name s accepts m terminate (int_le m.at (pos w.time)) w good other refl may)

  pub select_otherwise-keeps : (name : Who) (s : StatementNo) (kinds : List SelectKind) (m : Option DelayMoment) (next : Option StatementNo) → Other name
      → May name → Keeps G (Behind G) (select_otherwise p name s kinds m next)
  unfolding select_otherwise
  select_otherwise-keeps name s kinds m (Some otherwise) other may = search (goes-keeps)
  select_otherwise-keeps name s kinds m None other may = search (select_wait-keeps)

  pub select_by_call-keeps : (name : Who) (s : StatementNo) (kinds : List SelectKind) (m : Option DelayMoment) (otherwise : Option StatementNo)
      (c : Option CallNo)
      → Other name
      → May name
      → Keeps G (Behind G) (select_by_call p name s kinds m otherwise c)
  unfolding select_by_call
  select_by_call-keeps name s kinds m otherwise (Some c) other may = search (accept_chosen-keeps)
  select_by_call-keeps name s kinds m otherwise None other may = search (select_otherwise-keeps)

  pub select_open-keeps : (name : Who) (s : StatementNo) (otherwise : Option StatementNo) (kinds : List SelectKind) (moments : List DelayMoment) → Other name
      → May name → Keeps G (Behind G) (select_open p name s otherwise kinds moments)
  unfolding select_open
  select_open-keeps name s otherwise kinds moments other may = search (raise_if-keeps, looks-keeps, select_by_call-keeps, chains, plain_steps)

  pub accept-keeps : (name : Who) (s : StatementNo) (e : EntryNo) → May name → Keeps G (Behind G) (accept p name s e)
  unfolding accept
  accept-keeps name s e may =
      looks-from (chains moves) _ (λ w good. raise_if-from (plain_steps moves) name (in_protected w name) exception.Program _ w good
      (λ free. keeps-from (chains moves) _ w good
      (accept_or_wait-keeps name s (next_call p w (own_queue w name (place_of_entry p e) ∷ [])) (openings.outside name w good may free) may)))

  pub selective_accept-keeps : (name : Who) (s : StatementNo) (alternatives : List SelectAlternative) (otherwise : Option StatementNo) → May name
      → Keeps G (Behind G) (selective_accept p name s alternatives otherwise)
  unfolding selective_accept
  selective_accept-keeps name s alternatives otherwise may =
      looks-from (chains moves) _ (λ w good. raise_if-from (plain_steps moves) name (in_protected w name) exception.Program _ w good
      (λ free. let other = openings.outside name w good may free in
      given-from (plain_steps moves) Own name (open_alternatives (seen_by p w name) alternatives) _ w good (λ kinds.
      given-from (plain_steps moves) Own name (open_delays (seen_by p w name) kinds) _ w good (λ moments.
      keeps-from (chains moves) _ w good (select_open-keeps name s otherwise kinds moments other may)))))
