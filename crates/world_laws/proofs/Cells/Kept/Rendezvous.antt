-- Accepts and selective accepts: each step keeps the cells right.
use Rattle.std.specs.Prelude.{ℤ, Bool, true, false, List, Option, Some, None}
use Rattle.ann_base.specs.declared.identities.CallNo.{CallNo}
use Rattle.ann_base.specs.declared.identities.TaskNo.{TaskNo}
use Rattle.profile_machine.specs.declared.world.calls.DelayMoment.{DelayMoment}
use Rattle.trace_text.specs.declared.events.Who.{Who}
use Rattle.trace_text.specs.declared.events.Who.TheVariants as who
use Rattle.profile_image.specs.declared.image.Image.{Image}
use Rattle.profile_image.specs.declared.numbers.EntryNo.{EntryNo}
use Rattle.profile_image.specs.declared.numbers.StatementNo.{StatementNo}
use Rattle.profile_machine.specs.declared.run_data.Leaving.{Leaving}
use Rattle.profile_machine.specs.declared.run_data.Leaving.TheVariants as how
use Rattle.profile_image.specs.declared.statements.SelectAlternative.{SelectAlternative}
use Rattle.profile_image.specs.declared.statements.SelectKind.{SelectKind}
use Rattle.profile_machine.specs.declared.world.marks.Mark.{Mark}
use Rattle.profile_machine.specs.declared.world.marks.AcceptMark.{AcceptMark}
use Rattle.profile_machine.specs.declared.world.calls.Call.{Call}
use Rattle.profile_machine.specs.declared.world.calls.Owner.{Owner}
use Rattle.profile_machine.specs.declared.world.calls.Sending.{Sending}
use Rattle.profile_machine.specs.declared.world.calls.Owner.TheVariants as owned_by
use Rattle.profile_machine.specs.declared.world.marks.Mark.TheVariants.{InAccept}
use Rattle.profile_image.specs.Program.{form_of, scope_of}
use Rattle.profile_machine.specs.declared.world.lines.Part.{Part}
use Rattle.profile_machine.specs.Steps.{Step, changes}
use Rattle.profile_machine.specs.Frames.{new_frame}
use Rattle.profile_machine.specs.Scopes.{begin_scope, next_id, plainly, innermost}
use Rattle.profile_machine.specs.Appointments.{drop_delay}
use Rattle.profile_machine.specs.Calls.{parameters_of}
use Rattle.profile_machine.specs.Rendezvous.{accept_scope, open_accept, has_room_for_accept, begin_accept, finish_without_room, accept_with_room}
use Rattle.profile_machine.specs.Rendezvous.{accept_call, meet_with_room, meet_without_room, meet, accept_or_wait, accept, accept_chosen, wait_at_select}
use Rattle.profile_machine.specs.Rendezvous.{appoint_delay, select_delay, select_wait, select_otherwise, select_by_call, select_open, selective_accept}
use Rattle.profile_machine.specs.Rendezvous.{gone_sent, meet_sent, arrive_at, arrive, finish_accept, finish_rendezvous, behind_accept, end_in_accept}
use Rattle.profile_machine.specs.Masters.{terminate}
use Rattle.world_laws.proofs.Cells.RightCells.{Keeps, Alters, then-keeps, nothing-keeps, changes-keeps, says-keeps}
use Rattle.world_laws.proofs.Cells.RightCells.{looks-keeps, sees-keeps, branch-keeps, for_some-keeps, unchanged-alters}
use Rattle.world_laws.proofs.Cells.Kept.Tasks.{edit_task-alters}
use Rattle.world_laws.proofs.Cells.Kept.Dispatching.{ready-keeps, block-keeps}
use Rattle.world_laws.proofs.Cells.Kept.Frames.{goes-keeps, push-alters, pop-alters, raises-keeps}
use Rattle.world_laws.proofs.Cells.Kept.Frames.{open_sequence-keeps, pass_on-keeps, given-keeps, raise_if-keeps}
use Rattle.world_laws.proofs.Cells.Kept.Scopes.{begin_scope-alters, end_scope-alters}
use Rattle.world_laws.proofs.Cells.Kept.Inheritance.{inherit-alters, inherit_running-keeps, lose_running-keeps}
use Rattle.world_laws.proofs.Cells.Kept.Appointments.{appoint-alters, drop_delay-alters}
use Rattle.world_laws.proofs.Cells.Kept.Calls.{edit_call-alters, with_call-keeps, enqueue-keeps}
use Rattle.world_laws.proofs.Cells.Kept.CallEnds.{deliver-keeps, gone-keeps}
use Rattle.world_laws.proofs.Cells.Kept.Protected.{begin_call-keeps}
use Rattle.world_laws.proofs.Cells.Kept.Sending.{send_on-keeps, begin_abortable-keeps, sent_not_begun-keeps}

-- ---- a rendezvous begins (9.5.2)

pub open_accept-alters : (p : Image) (name : Who) (s : StatementNo) (c : Call) → Alters p (open_accept p name s c)
open_accept-alters p name s c = record {
  at = λ w right.
      let scope = accept_scope (form_of p s) in
      let b = record (plainly (innermost w name)) { values = parameters_of p c } in
      let mark : Mark = InAccept (record { call = c.number; accept = s; within = next_id w; handles = None }) in
      (push-alters name (new_frame mark (scope_of p scope).first)).at (begin_scope p name scope b w) ((begin_scope-alters p name scope b).at w right);
}

pub begin_accept-keeps : (p : Image) (part : Part) (name : Who) (s : StatementNo) (c : Call) → Keeps p (begin_accept p part name s c)
unfolding begin_accept
begin_accept-keeps p part name s c = search (begin_call-keeps, then-keeps, goes-keeps) depth 6

pub finish_without_room-keeps : {p : Image} (part : Part) (name : Who) (c : Call) → Keeps p (finish_without_room part name c)
unfolding finish_without_room
finish_without_room-keeps part name c = search (says-keeps)

pub accept_with_room-keeps : (p : Image) (name : Who) (s : StatementNo) (c : Call) (test : Bool) → Keeps p (accept_with_room p name s c test)
unfolding accept_with_room
accept_with_room-keeps p name s c true = search (changes-keeps, open_accept-alters, then-keeps, inherit_running-keeps) depth 7
accept_with_room-keeps p name s c false = search (finish_without_room-keeps, then-keeps, deliver-keeps, raises-keeps) depth 8

pub accept_call-keeps : (p : Image) (name : Who) (s : StatementNo) (c : CallNo) → Keeps p (accept_call p name s c)
unfolding accept_call
accept_call-keeps p name s c = search (with_call-keeps, begin_accept-keeps, then-keeps, looks-keeps, accept_with_room-keeps) depth 8

pub meet_with_room-keeps : (p : Image) (part : Part) (name : Who) (s : StatementNo) (c : Call) (then_ : Step) → Keeps p then_
    → Keeps p (meet_with_room p part name s c then_)
meet_with_room-keeps p part name s c then_ kept =
    search (begin_accept-keeps, then-keeps, changes-keeps, open_accept-alters, inherit-alters, ready-keeps, open_sequence-keeps) depth 14

pub meet_without_room-keeps : (p : Image) (part : Part) (name : Who) (s : StatementNo) (c : Call) (otherwise : Step) → Keeps p otherwise
    → Keeps p (meet_without_room p part name s c otherwise)
meet_without_room-keeps p part name s c otherwise kept = search (begin_accept-keeps, then-keeps, finish_without_room-keeps, ready-keeps, raises-keeps) depth 11

pub meet-keeps : (p : Image) (part : Part) (name : Who) (s : StatementNo) (c : Call) (then_ otherwise : Step) → Keeps p then_ → Keeps p otherwise
    → Keeps p (meet p part name s c then_ otherwise)
meet-keeps p part name s c then_ otherwise kept also_kept =
    then-keeps (changes (drop_delay name)) _ (changes-keeps _ (drop_delay-alters name))
    (looks-keeps _
    (λ w right. branch-keeps (has_room_for_accept p w name s) (meet_with_room p part name s c then_) (meet_without_room p part name s c otherwise)
    (meet_with_room-keeps p part name s c then_ kept) (meet_without_room-keeps p part name s c otherwise also_kept)))

-- ---- the accept statement (9.5.2)

pub accept_or_wait-keeps : (p : Image) (name : Who) (s : StatementNo) (found : Option CallNo) → Keeps p (accept_or_wait p name s found)
unfolding accept_or_wait
accept_or_wait-keeps p name s (Some c) = search (accept_call-keeps)
accept_or_wait-keeps p name s None = search (goes-keeps, then-keeps, block-keeps) depth 6

pub accept-keeps : (p : Image) (name : Who) (s : StatementNo) (e : EntryNo) → Keeps p (accept p name s e)
unfolding accept
accept-keeps p name s e = search (looks-keeps, raise_if-keeps, accept_or_wait-keeps) depth 6

-- ---- the selective accept (9.7.1)

pub accept_chosen-keeps : (p : Image) (name : Who) (accepts : List StatementNo) (c : CallNo) → Keeps p (accept_chosen p name accepts c)
unfolding accept_chosen
accept_chosen-keeps p name accepts c = search (with_call-keeps, for_some-keeps, accept_call-keeps) depth 6

pub wait_at_select-keeps : {p : Image} (name : Who) (accepts : List StatementNo) (delay : Option StatementNo) (test : Bool)
    → Keeps p (wait_at_select name accepts delay test)
unfolding wait_at_select
wait_at_select-keeps name accepts delay true = search (changes-keeps, edit_task-alters)
wait_at_select-keeps name accepts delay false = search (block-keeps)

pub appoint_delay-alters : {p : Image} (name : Who) (m : ℤ) → Alters p (appoint_delay name m)
appoint_delay-alters (who.Task t) m = search (appoint-alters)
appoint_delay-alters who.Agent m = search (unchanged-alters)

pub select_delay-keeps : (p : Image) (name : Who) (s : StatementNo) (accepts : List StatementNo) (m : DelayMoment) (terminate test : Bool)
    → Keeps p (select_delay p name s accepts m terminate test)
unfolding select_delay
select_delay-keeps p name s accepts m terminate true = search (goes-keeps)
select_delay-keeps p name s accepts m terminate false = search (goes-keeps, then-keeps, changes-keeps, appoint_delay-alters, wait_at_select-keeps) depth 10

pub select_wait-keeps : (p : Image) (name : Who) (s : StatementNo) (accepts : List StatementNo) (terminate : Bool) (found : Option DelayMoment)
    → Keeps p (select_wait p name s accepts terminate found)
unfolding select_wait
select_wait-keeps p name s accepts terminate None = search (goes-keeps, then-keeps, wait_at_select-keeps) depth 7
select_wait-keeps p name s accepts terminate (Some m) = search (looks-keeps, select_delay-keeps) depth 6

pub select_otherwise-keeps : (p : Image) (name : Who) (s : StatementNo) (kinds : List SelectKind) (m : Option DelayMoment) (found : Option StatementNo)
    → Keeps p (select_otherwise p name s kinds m found)
unfolding select_otherwise
select_otherwise-keeps p name s kinds m (Some otherwise) = search (goes-keeps)
select_otherwise-keeps p name s kinds m None = search (select_wait-keeps)

pub select_by_call-keeps : (p : Image) (name : Who) (s : StatementNo) (kinds : List SelectKind) (m : Option DelayMoment) (otherwise : Option StatementNo)
    (found : Option CallNo)
    → Keeps p (select_by_call p name s kinds m otherwise found)
unfolding select_by_call
select_by_call-keeps p name s kinds m otherwise (Some c) = search (accept_chosen-keeps)
select_by_call-keeps p name s kinds m otherwise None = search (select_otherwise-keeps)

pub select_open-keeps : (p : Image) (name : Who) (s : StatementNo) (otherwise : Option StatementNo) (kinds : List SelectKind) (moments : List DelayMoment)
    → Keeps p (select_open p name s otherwise kinds moments)
unfolding select_open
select_open-keeps p name s otherwise kinds moments = search (raise_if-keeps, looks-keeps, select_by_call-keeps) depth 6

pub selective_accept-keeps : (p : Image) (name : Who) (s : StatementNo) (alternatives : List SelectAlternative) (otherwise : Option StatementNo)
    → Keeps p (selective_accept p name s alternatives otherwise)
unfolding selective_accept
selective_accept-keeps p name s alternatives otherwise = search (sees-keeps, raise_if-keeps, given-keeps, select_open-keeps) depth 8

-- ---- the end of an accept (9.5.2, 9.5.4)

pub gone_sent-keeps : (p : Image) (c : Call) → Keeps p (gone_sent p c)
unfolding gone_sent
gone_sent-keeps p c = search (gone-keeps, then-keeps, deliver-keeps) depth 6

pub meet_sent-keeps : (p : Image) (t : TaskNo) (c : Call) (found : Option StatementNo) → Keeps p (meet_sent p t c found)
unfolding meet_sent
meet_sent-keeps p t c (Some s) = search (meet-keeps, begin_abortable-keeps, deliver-keeps) depth 6
meet_sent-keeps p t c None = search (enqueue-keeps, then-keeps, sent_not_begun-keeps) depth 6

pub arrive_at-keeps : (p : Image) (t : TaskNo) (c : Call) (test : Bool) → Keeps p (arrive_at p t c test)
unfolding arrive_at
arrive_at-keeps p t c false = search (gone_sent-keeps)
arrive_at-keeps p t c true = search (looks-keeps, meet_sent-keeps)

pub arrive-keeps : (p : Image) (c : Call) (owner : Owner) → Keeps p (arrive p c owner)
unfolding arrive
arrive-keeps p c (owned_by.Task t) = search (looks-keeps, arrive_at-keeps)
arrive-keeps p c (owned_by.Object o) = search (gone_sent-keeps)

pub finish_accept-keeps : (p : Image) (name : Who) (c : Call) (found : Option Sending) → Keeps p (finish_accept p name c found)
unfolding finish_accept
finish_accept-keeps p name c None = search (says-keeps, then-keeps, deliver-keeps) depth 6
finish_accept-keeps p name c (Some s) = search (says-keeps, then-keeps, send_on-keeps, with_call-keeps, arrive-keeps) depth 9

pub finish_rendezvous-keeps : (p : Image) (name : Who) (c : Call) (leaving : Leaving) → Keeps p (finish_rendezvous p name c leaving)
unfolding finish_rendezvous
finish_rendezvous-keeps p name c (how.Exception e) = search (says-keeps, then-keeps, deliver-keeps) depth 6
finish_rendezvous-keeps p name c how.Abort = search (says-keeps, then-keeps, deliver-keeps) depth 6
finish_rendezvous-keeps p name c how.End = search (finish_accept-keeps)
finish_rendezvous-keeps p name c how.Return = search (finish_accept-keeps)
finish_rendezvous-keeps p name c (how.Exit loop) = search (finish_accept-keeps)
finish_rendezvous-keeps p name c how.Terminate = search (finish_accept-keeps)

pub behind_accept-keeps : (p : Image) (name : Who) (leaving : Leaving) → Keeps p (behind_accept p name leaving)
unfolding behind_accept
behind_accept-keeps p name how.End = search (nothing-keeps)
behind_accept-keeps p name how.Return = search (nothing-keeps)
behind_accept-keeps p name (how.Exit loop) = search (pass_on-keeps)
behind_accept-keeps p name (how.Exception e) = search (pass_on-keeps)
behind_accept-keeps p name how.Abort = search (pass_on-keeps)
behind_accept-keeps p name how.Terminate = search (pass_on-keeps)

pub end_in_accept-keeps : (p : Image) (name : Who) (m : AcceptMark) (leaving : Leaving) → Keeps p (end_in_accept p name m leaving)
unfolding end_in_accept
end_in_accept-keeps p name m leaving =
    search (
      looks-keeps,
      changes-keeps,
      pop-alters,
      then-keeps,
      end_scope-alters,
      edit_call-alters,
      with_call-keeps,
      finish_rendezvous-keeps,
      lose_running-keeps,
      behind_accept-keeps,
    ) depth 14
