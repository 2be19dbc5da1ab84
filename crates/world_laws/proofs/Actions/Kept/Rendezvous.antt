-- Accepting calls: each step leaves worlds good where its parts do.
use Rattle.std.specs.Prelude.{ℤ, pos, int_le, Bool, true, false, List, Option, Some, None, [], ◌∷◌}
use Rattle.ann_base.specs.declared.identities.CallNo.{CallNo}
use Rattle.ann_base.specs.declared.identities.TaskNo.{TaskNo}
use Rattle.trace_text.specs.declared.events.Who.{Who}
use Rattle.trace_text.specs.declared.events.Who.TheVariants as who
use Rattle.profile_machine.specs.declared.world.calls.DelayMoment.{DelayMoment}
use Rattle.profile_image.specs.declared.image.Image.{Image}
use Rattle.profile_image.specs.declared.numbers.EntryNo.{EntryNo}
use Rattle.profile_image.specs.declared.numbers.StatementNo.{StatementNo}
use Rattle.profile_machine.specs.declared.run_data.Leaving.{Leaving}
use Rattle.profile_machine.specs.declared.run_data.Leaving.TheVariants as how
use Rattle.profile_image.specs.declared.statements.SelectAlternative.{SelectAlternative}
use Rattle.profile_image.specs.declared.statements.SelectKind.{SelectKind}
use Rattle.profile_machine.specs.declared.world.World.{World}
use Rattle.profile_machine.specs.declared.world.marks.Mark.{Mark}
use Rattle.profile_machine.specs.declared.world.marks.AcceptMark.{AcceptMark}
use Rattle.profile_machine.specs.declared.world.calls.Call.{Call}
use Rattle.profile_machine.specs.declared.world.calls.Owner.{Owner}
use Rattle.profile_machine.specs.declared.world.calls.Sending.{Sending}
use Rattle.profile_machine.specs.declared.world.tasks.Waiting.TheVariants as waits_for
use Rattle.profile_machine.specs.declared.world.tasks.Cause.TheVariants as inherited_by
use Rattle.ann_base.specs.declared.exceptions.Raised.TheVariants as exception
use Rattle.profile_machine.specs.declared.world.appointments.Due.TheVariants as due_for
use Rattle.profile_machine.specs.declared.world.calls.Owner.TheVariants as owned_by
use Rattle.profile_machine.specs.declared.world.marks.Mark.TheVariants.{InAccept}
use Rattle.profile_image.specs.Program.{form_of, next_of, scope_of}
use Rattle.profile_machine.specs.declared.world.lines.Part.{Part}
use Rattle.profile_machine.specs.Steps.{Step, changes, ◌▷◌, looks, says}
use Rattle.profile_machine.specs.Frames.{new_frame, pop, top_of, is_protected, in_protected}
use Rattle.profile_machine.specs.Scopes.{begin_scope, next_id, plainly, innermost, end_scope, cells_of, scope_in_use}
use Rattle.profile_machine.specs.Appointments.{drop_delay}
use Rattle.profile_machine.specs.Calls.{parameters_of, edit_call, with_call, next_call, place_of_entry, enqueue}
use Rattle.profile_machine.specs.Rendezvous.{accept_scope, open_accept, has_room_for_accept, begin_accept, finish_without_room, accept_with_room}
use Rattle.profile_machine.specs.Rendezvous.{accept_call, meet_with_room, meet_without_room, meet, accept_or_wait, accept, accept_chosen}
use Rattle.profile_machine.specs.Rendezvous.{wait_at_select, appoint_delay, select_delay, select_wait, select_otherwise, select_by_call, select_open}
use Rattle.profile_machine.specs.Rendezvous.{selective_accept, gone_sent, meet_sent, arrive_at, arrive, finish_accept, finish_rendezvous, behind_accept}
use Rattle.profile_machine.specs.Rendezvous.{finished_call, end_in_accept, own_queue, open_alternatives, open_delays, accept_for, is_callable}
use Rattle.std.proofs.Common.{◌≡◌, refl}
use Rattle.world_laws.proofs.Actions.FineMoves.{FineMoves, chains, says-keeps}
use Rattle.world_laws.proofs.Actions.Sound.{Good}
use Rattle.world_laws.proofs.Actions.Kept.Combinators.{changes_then-from}
use Rattle.world_laws.proofs.Actions.Kept.Dispatching.{ready-keeps, block-keeps, blocked-keeps}
use Rattle.world_laws.proofs.Actions.Kept.Frames.{goes-keeps, open_sequence-keeps, goes_then-from, popped, plain_steps}
use Rattle.world_laws.proofs.Actions.Kept.Scopes.{end_scope-alters}
use Rattle.world_laws.proofs.Actions.Kept.Inheritance.{inherit-alters, inherit_running-keeps, lose_running-keeps}
use Rattle.world_laws.proofs.Actions.Kept.Appointments.{appoint-from, drop_delay-alters}
use Rattle.world_laws.proofs.Actions.Kept.CallEnds.{deliver-keeps, gone-keeps}
use Rattle.world_laws.proofs.Actions.Kept.Protected.{begin_call-keeps, beside}
use Rattle.world_laws.proofs.Actions.Kept.Sending.{send_on-keeps, begin_abortable-keeps, sent_not_begun-keeps}
use Rattle.profile_machine.specs.Values.{seen_by}
use Rattle.profile_machine.specs.Inheritance.{lose_running}
use Rattle.profile_machine.specs.declared.world.marks.Frame.{Frame}
use Rattle.profile_machine.specs.declared.world.lines.Part.TheVariants.{Own, TheFinish}
use Rattle.world_laws.proofs.Actions.GoodMoves.{free-by_test, good_moves}
use Rattle.world_laws.proofs.Actions.Kept.Switching.{Only, only-from}
use Rattle.profile_machine.specs.declared.world.lines.Line.{Line}
use Rattle.profile_machine.specs.Sending.{begin_abortable, send_on}
use Rattle.profile_machine.specs.declared.world.calls.Outcome.TheVariants as call_ended
use Rattle.profile_machine.specs.CallEnds.{deliver}
use Rattle.profile_machine.specs.declared.world.lines.Line.TheVariants as line
use Rattle.profile_machine.specs.declared.world.lines.MeetingEnd.TheVariants as meeting
use Rattle.profile_machine.specs.Tasks.{waiting_of}
use Rattle.machine_laws.proofs.FineMoves.{GoodWorld, Naming}
use Rattle.machine_laws.proofs.Plain.Results.{finished_call-caller, finished_call-number}
use Rattle.line_laws.proofs.Leaving.Modes.{Nobody}
use Rattle.machine_laws.proofs.Kept.Combinators.{Alters, From, Keeps, branch-keeps, changes-keeps, for_some-keeps, keeps-from, looks-from}
use Rattle.machine_laws.proofs.Kept.Combinators.{looks-keeps, looks_at-from, nothing-keeps, then-from, then-keeps, unchanged-alters}
use Rattle.world_laws.proofs.Behind.{Behind}
use Rattle.machine_laws.proofs.Plain.Frames.{raises-keeps, pass_on-keeps, raise_if-keeps, given-from, raise_if-from}
use Rattle.machine_laws.proofs.Plain.Calls.{edit_call-alters, with_call-keeps, enqueue-keeps}
use Rattle.machine_laws.proofs.Plain.PlainSteps.{anybody}

module _ {G : GoodWorld} {F : Naming} (moves : FineMoves G F) where
  open_accept-alters : (p : Image) (name : Who) (s : StatementNo) (c : Call) → Alters G (Behind G) (open_accept p name s c)
  unfolding Alters
  open_accept-alters p name s c w good =
      let scope = accept_scope (form_of p s) in
      let b = record (plainly (innermost w name)) { values = parameters_of p c } in
      let begun = begin_scope p name scope b w in
      let mark : Mark = InAccept (record { call = c.number; accept = s; within = next_id w; handles = None }) in
      moves.pushes name (new_frame mark (scope_of p scope).first) begun (moves.begins_scope p name scope b w good) refl

  begin_accept-keeps : (p : Image) (part : Part) (name : Who) (s : StatementNo) (c : Call) → Keeps G (Behind G) (begin_accept p part name s c)
  unfolding begin_accept
  begin_accept-keeps p part name s c = search (begin_call-keeps, then-keeps, goes-keeps, chains)

  finish_without_room-keeps : (part : Part) (name : Who) (c : Call) → Keeps G (Behind G) (finish_without_room part name c)
  unfolding finish_without_room
  finish_without_room-keeps part name c = search (says-keeps)

  accept_with_room-keeps : (p : Image) (name : Who) (s : StatementNo) (c : Call) (has_room : Bool) → Keeps G (Behind G) (accept_with_room p name s c has_room)
  unfolding accept_with_room
  accept_with_room-keeps p name s c true = search (changes-keeps, open_accept-alters, then-keeps, inherit_running-keeps, chains)
  accept_with_room-keeps p name s c false = search (finish_without_room-keeps, then-keeps, deliver-keeps, raises-keeps, chains, plain_steps)

  pub accept_call-keeps : (p : Image) (name : Who) (s : StatementNo) (c : CallNo) → Keeps G (Behind G) (accept_call p name s c)
  unfolding accept_call
  accept_call-keeps p name s c = search (with_call-keeps, begin_accept-keeps, then-keeps, looks-keeps, accept_with_room-keeps, chains, plain_steps) depth 8

  pub meet_with_room-keeps : (p : Image) (part : Part) (name : Who) (s : StatementNo) (c : Call) (then_ : Step) → Keeps G (Behind G) then_
      → Keeps G (Behind G) (meet_with_room p part name s c then_)
  meet_with_room-keeps p part name s c then_ kept =
      search (begin_accept-keeps, changes-keeps, open_accept-alters, inherit-alters, then-keeps, ready-keeps, open_sequence-keeps, chains) depth 10

  pub meet_without_room-keeps : (p : Image) (part : Part) (name : Who) (s : StatementNo) (c : Call) (otherwise : Step) → Keeps G (Behind G) otherwise
      → Keeps G (Behind G) (meet_without_room p part name s c otherwise)
  meet_without_room-keeps p part name s c otherwise kept =
      search (begin_accept-keeps, then-keeps, finish_without_room-keeps, ready-keeps, raises-keeps, chains, plain_steps) depth 10

  pub meet-keeps : (p : Image) (part : Part) (name : Who) (s : StatementNo) (c : Call) (then_ otherwise : Step) → Keeps G (Behind G) then_
      → Keeps G (Behind G) otherwise → Keeps G (Behind G) (meet p part name s c then_ otherwise)
  meet-keeps p part name s c then_ otherwise kept also_kept =
      then-keeps (chains moves) (changes (drop_delay name)) _ (search (changes-keeps, drop_delay-alters, chains))
      (looks-keeps (chains moves) _
      (λ w. branch-keeps (chains moves) (has_room_for_accept p w name s) (meet_with_room p part name s c then_) (meet_without_room p part name s c otherwise)
      (search (meet_with_room-keeps)) (search (meet_without_room-keeps))))

  pub accept_or_wait-keeps : (p : Image) (name : Who) (s : StatementNo) (c : Option CallNo) → F name → Keeps G (Behind G) (accept_or_wait p name s c)
  unfolding accept_or_wait
  accept_or_wait-keeps p name s (Some c) free = search (accept_call-keeps)
  accept_or_wait-keeps p name s None free = search (goes-keeps, then-keeps, block-keeps, chains)

  pub accept_chosen-keeps : (p : Image) (name : Who) (accepts : List StatementNo) (c : CallNo) → Keeps G (Behind G) (accept_chosen p name accepts c)
  unfolding accept_chosen
  accept_chosen-keeps p name accepts c = search (with_call-keeps, for_some-keeps, accept_call-keeps, chains, plain_steps)

  pub wait_at_select-keeps : (name : Who) (accepts : List StatementNo) (delay : Option StatementNo) (test : Bool) → F name
      → Keeps G (Behind G) (wait_at_select name accepts delay test)
  unfolding wait_at_select
  wait_at_select-keeps name accepts delay true free = blocked-keeps moves name (waits_for.Select accepts delay true) free
  wait_at_select-keeps name accepts delay false free = search (block-keeps)

  appoint_delay-from : (name : Who) (m : ℤ) (w : World) → G w → From (Behind G) w (changes (appoint_delay name m))
  appoint_delay-from (who.Task t) m w good = appoint-from moves (due_for.Delay t) m w good
  appoint_delay-from who.Agent m w good =
      keeps-from (chains moves) (changes (λ v. v)) w good (changes-keeps (chains moves) (λ v. v) (unchanged-alters (chains moves)))

  select_delay-from : (p : Image) (name : Who) (s : StatementNo) (accepts : List StatementNo) (m : DelayMoment) (terminate test : Bool) (w : World) → G w
      → F name → From (Behind G) w (select_delay p name s accepts m terminate test)
  unfolding select_delay
  select_delay-from p name s accepts m terminate true w good free = keeps-from (chains moves) _ w good (search (goes-keeps))
  select_delay-from p name s accepts m terminate false w good free =
      goes_then-from moves name (next_of p s) _ w good (λ good_onward.
      then-from (chains moves) (changes (appoint_delay name m.at)) _ _
      (appoint_delay-from name m.at _ good_onward)
      (wait_at_select-keeps name accepts (Some m.delay) terminate free))

  pub select_wait-keeps : (p : Image) (name : Who) (s : StatementNo) (accepts : List StatementNo) (terminate : Bool) (moment : Option DelayMoment) → F name
      → Keeps G (Behind G) (select_wait p name s accepts terminate moment)
  unfolding select_wait
  select_wait-keeps p name s accepts terminate None free = search (goes-keeps, then-keeps, wait_at_select-keeps, chains)
  select_wait-keeps p name s accepts terminate (Some m) free =
      looks-from (chains moves) _ (λ w good. select_delay-from p name s accepts m terminate (int_le m.at (pos w.time)) w good free)

  pub select_otherwise-keeps : (p : Image) (name : Who) (s : StatementNo) (kinds : List SelectKind) (m : Option DelayMoment) (next : Option StatementNo)
      → F name → Keeps G (Behind G) (select_otherwise p name s kinds m next)
  unfolding select_otherwise
  select_otherwise-keeps p name s kinds m (Some otherwise) free = search (goes-keeps)
  select_otherwise-keeps p name s kinds m None free = search (select_wait-keeps)

  pub select_by_call-keeps : (p : Image) (name : Who) (s : StatementNo) (kinds : List SelectKind) (m : Option DelayMoment) (otherwise : Option StatementNo)
      (c : Option CallNo)
      → F name
      → Keeps G (Behind G) (select_by_call p name s kinds m otherwise c)
  unfolding select_by_call
  select_by_call-keeps p name s kinds m otherwise (Some c) free = search (accept_chosen-keeps)
  select_by_call-keeps p name s kinds m otherwise None free = search (select_otherwise-keeps)

  pub select_open-keeps : (p : Image) (name : Who) (s : StatementNo) (otherwise : Option StatementNo) (kinds : List SelectKind) (moments : List DelayMoment)
      → F name → Keeps G (Behind G) (select_open p name s otherwise kinds moments)
  unfolding select_open
  select_open-keeps p name s otherwise kinds moments free = search (raise_if-keeps, looks-keeps, select_by_call-keeps, chains, plain_steps)

  pub gone_sent-keeps : (p : Image) (c : Call) → Keeps G (Behind G) (gone_sent p c)
  unfolding gone_sent
  gone_sent-keeps p c = search (gone-keeps, then-keeps, deliver-keeps, chains)

  pub behind_accept-keeps : (p : Image) (name : Who) (leaving : Leaving) → Keeps G (Behind G) (behind_accept p name leaving)
  unfolding behind_accept
  behind_accept-keeps p name how.End = search (nothing-keeps, chains)
  behind_accept-keeps p name how.Return = search (nothing-keeps, chains)
  behind_accept-keeps p name (how.Exit loop) = search (pass_on-keeps, plain_steps, anybody)
  behind_accept-keeps p name (how.Exception e) = search (pass_on-keeps, plain_steps, anybody)
  behind_accept-keeps p name how.Abort = search (pass_on-keeps, plain_steps, anybody)
  behind_accept-keeps p name how.Terminate = search (pass_on-keeps, plain_steps, anybody)

-- ---- an accept ends; a call that is sent on may begin an abortable part

says_then-keeps : (part : Part) (said : Line) (g : Step) → Keeps (Good Nobody) (Behind (Good Nobody)) g
    → Keeps (Good Nobody) (Behind (Good Nobody)) (says part said ▷ g)
says_then-keeps part said g a = then-keeps (chains beside) (says part said) g (says-keeps beside part said) a

meet_sent-keeps : (p : Image) (t : TaskNo) (c : Call) (next : Option StatementNo) → Keeps (Good Nobody) (Behind (Good Nobody)) (meet_sent p t c next)
unfolding meet_sent
meet_sent-keeps p t c (Some s) =
    meet-keeps beside p TheFinish (who.Task t) s c (begin_abortable p c.number) (deliver p TheFinish c.number (call_ended.ToRaise exception.Storage))
    (begin_abortable-keeps p c.number) (deliver-keeps beside p TheFinish c.number (call_ended.ToRaise exception.Storage))
meet_sent-keeps p t c None = then-keeps (chains beside) (enqueue p c.number) _ (enqueue-keeps (plain_steps beside) p c.number) (sent_not_begun-keeps p c.number)

arrive_at-keeps : (p : Image) (t : TaskNo) (c : Call) (test : Bool) → Keeps (Good Nobody) (Behind (Good Nobody)) (arrive_at p t c test)
unfolding arrive_at
arrive_at-keeps p t c false = gone_sent-keeps beside p c
arrive_at-keeps p t c true = looks-keeps (chains beside) _ (λ w. meet_sent-keeps p t c (accept_for p c.entry (waiting_of w (who.Task t))))

arrive-keeps : (p : Image) (c : Call) (owner : Owner) → Keeps (Good Nobody) (Behind (Good Nobody)) (arrive p c owner)
unfolding arrive
arrive-keeps p c (owned_by.Task t) = looks-keeps (chains beside) _ (λ w. arrive_at-keeps p t c (is_callable w t))
arrive-keeps p c (owned_by.Object o) = gone_sent-keeps beside p c

finish_accept-keeps : (p : Image) (name : Who) (c : Call) (sending : Option Sending)
    → Keeps (Good Nobody) (Behind (Good Nobody)) (finish_accept p name c sending)
unfolding finish_accept
finish_accept-keeps p name c None =
    says_then-keeps TheFinish (line.Finish name c.number meeting.Ok) _ (deliver-keeps beside p TheFinish c.number call_ended.Finished)
finish_accept-keeps p name c (Some s) =
    says_then-keeps TheFinish (line.Finish name c.number meeting.Requeue) _
    (then-keeps (chains beside) (send_on c.number s) _ (send_on-keeps beside c.number s)
    (with_call-keeps (plain_steps beside) c.number _ (λ d. arrive-keeps p d d.owner)))

finish_rendezvous-keeps : (p : Image) (name : Who) (c : Call) (leaving : Leaving)
    → Keeps (Good Nobody) (Behind (Good Nobody)) (finish_rendezvous p name c leaving)
unfolding finish_rendezvous
finish_rendezvous-keeps p name c (how.Exception e) =
    says_then-keeps TheFinish (line.Finish name c.number (meeting.Raised e)) _ (deliver-keeps beside p TheFinish c.number (call_ended.ToRaise e))
finish_rendezvous-keeps p name c how.Abort =
    says_then-keeps TheFinish (line.Gone c.caller c.number) _ (deliver-keeps beside p TheFinish c.number (call_ended.ToRaise exception.Tasking))
finish_rendezvous-keeps p name c how.End = finish_accept-keeps p name c c.sending
finish_rendezvous-keeps p name c how.Return = finish_accept-keeps p name c c.sending
finish_rendezvous-keeps p name c (how.Exit loop) = finish_accept-keeps p name c c.sending
finish_rendezvous-keeps p name c how.Terminate = finish_accept-keeps p name c c.sending

-- the accept on top finishes its call
accept_ends-from : (p : Image) (name : Who) (m : AcceptMark) (leaving : Leaving) (f : Frame) (w : World) → Good Nobody w → top_of w name ≡ Some f
    → is_protected f.mark ≡ false
    → From (Behind (Good Nobody)) w
    (looks (λ v. changes (pop name) ▷ changes (end_scope m.within) ▷ changes (edit_call m.call (finished_call p (cells_of (scope_in_use v m.within)) leaving))
    ▷ with_call m.call (λ c. finish_rendezvous p name c leaving)))
accept_ends-from p name m leaving f w good top free =
    let out = popped beside name f w good top free in
    looks_at-from (chains beside)
    (λ v. changes (pop name) ▷ changes (end_scope m.within) ▷ changes (edit_call m.call (finished_call p (cells_of (scope_in_use v m.within)) leaving))
    ▷ with_call m.call (λ c. finish_rendezvous p name c leaving)) w
    (changes_then-from beside (pop name) _ w
    (keeps-from (chains beside)
    (changes (end_scope m.within) ▷ changes (edit_call m.call (finished_call p (cells_of (scope_in_use w m.within)) leaving))
    ▷ with_call m.call (λ c. finish_rendezvous p name c leaving))
    (pop name w) out
    (then-keeps (chains beside) (changes (end_scope m.within)) _ (changes-keeps (chains beside) _ (end_scope-alters beside m.within))
    (then-keeps (chains beside) (changes (edit_call m.call (finished_call p (cells_of (scope_in_use w m.within)) leaving))) _
    (changes-keeps (chains beside) _
    (edit_call-alters (plain_steps beside) m.call (finished_call p (cells_of (scope_in_use w m.within)) leaving)
    (finished_call-number p (cells_of (scope_in_use w m.within)) leaving) (finished_call-caller p (cells_of (scope_in_use w m.within)) leaving)))
    (with_call-keeps (plain_steps beside) m.call _ (λ c. finish_rendezvous-keeps p name c leaving))))))

pub end_in_accept-from : (p : Image) (name : Who) (m : AcceptMark) (leaving : Leaving) (f : Frame) (w : World) → Good Nobody w → top_of w name ≡ Some f
    → is_protected f.mark ≡ false → From (Behind (Good Nobody)) w (end_in_accept p name m leaving)
unfolding end_in_accept
end_in_accept-from p name m leaving f w good top free =
    then-from (chains beside) _ (lose_running p name (inherited_by.Rendezvous m.call) ▷ behind_accept p name leaving) w
    (accept_ends-from p name m leaving f w good top free)
    (then-keeps (chains beside) (lose_running p name (inherited_by.Rendezvous m.call)) _
    (lose_running-keeps beside p name (inherited_by.Rendezvous m.call) refl) (behind_accept-keeps beside p name leaving))

-- ---- who is in no protected action accepts, or waits

pub accept-keeps : (p : Image) (name : Who) (s : StatementNo) (e : EntryNo) → Keeps (Good Nobody) (Behind (Good Nobody)) (accept p name s e)
unfolding accept
accept-keeps p name s e =
    looks-from (chains beside) _ (λ w good. raise_if-from (plain_steps beside) name (in_protected w name) exception.Program _ w good
    (λ free. only-from name _ w (free-by_test name w free) good
    (accept_or_wait-keeps (good_moves (Only name)) p name s (next_call p w (own_queue w name (place_of_entry p e) ∷ [])) refl)))

pub selective_accept-keeps : (p : Image) (name : Who) (s : StatementNo) (alternatives : List SelectAlternative) (otherwise : Option StatementNo)
    → Keeps (Good Nobody) (Behind (Good Nobody)) (selective_accept p name s alternatives otherwise)
unfolding selective_accept
selective_accept-keeps p name s alternatives otherwise =
    looks-from (chains beside) _ (λ w good. raise_if-from (plain_steps beside) name (in_protected w name) exception.Program _ w good
    (λ free. given-from (plain_steps beside) Own name (open_alternatives (seen_by p w name) alternatives) _ w good (λ kinds.
    given-from (plain_steps beside) Own name (open_delays (seen_by p w name) kinds) _ w good (λ moments.
    only-from name _ w (free-by_test name w free) good (select_open-keeps (good_moves (Only name)) p name s otherwise kinds moments refl)))))
