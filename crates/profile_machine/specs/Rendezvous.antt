-- Accepting calls (9.5.2, 9.7.1).
use Rattle.std.specs.Prelude.{ℕ, ℤ, pos, int_lt, int_le, Bool, true, false, cond, not}
use Rattle.std.specs.Prelude.{◌&&◌, List, [], ◌∷◌, Option, Some, None, Ok, find, map}
use Rattle.ann_base.specs.Results.{◌>>=◌}
use Rattle.ann_base.specs.declared.identities.CallNo.{CallNo}
use Rattle.ann_base.specs.declared.identities.TaskNo.{TaskNo}
use Rattle.ann_base.specs.declared.exceptions.Raised.TheVariants as exception
use Rattle.profile_machine.specs.declared.world.calls.DelayMoment.{DelayMoment}
use Rattle.profile_machine.specs.declared.world.lines.Line.TheVariants as line
use Rattle.profile_machine.specs.declared.world.lines.MeetingEnd.TheVariants as meeting
use Rattle.trace_text.specs.declared.events.Who.{Who}
use Rattle.trace_text.specs.declared.events.Who.TheVariants as who
use Rattle.profile_image.specs.declared.image.Image.{Image}
use Rattle.profile_image.specs.declared.numbers.EntryNo.{EntryNo}
use Rattle.profile_image.specs.declared.numbers.ExprNo.{ExprNo}
use Rattle.profile_image.specs.declared.numbers.ScopeNo.{ScopeNo}
use Rattle.profile_image.specs.declared.numbers.StatementNo.{StatementNo}
use Rattle.profile_machine.specs.declared.run_data.Leaving.{Leaving}
use Rattle.profile_machine.specs.declared.run_data.Leaving.TheVariants as how
use Rattle.profile_image.specs.declared.statements.StatementForm.{StatementForm}
use Rattle.profile_image.specs.declared.statements.StatementForm.TheVariants as form
use Rattle.profile_image.specs.declared.statements.SelectAlternative.{SelectAlternative}
use Rattle.profile_image.specs.declared.statements.SelectKind.{SelectKind}
use Rattle.profile_image.specs.declared.statements.SelectKind.TheVariants as select
use Rattle.profile_image.specs.declared.values.Value.{Value}
use Rattle.profile_machine.specs.declared.world.World.{World}
use Rattle.profile_machine.specs.declared.world.marks.Mark.{Mark}
use Rattle.profile_machine.specs.declared.world.marks.AcceptMark.{AcceptMark}
use Rattle.profile_machine.specs.declared.world.calls.Call.{Call}
use Rattle.profile_machine.specs.declared.world.calls.Owner.{Owner}
use Rattle.profile_machine.specs.declared.world.calls.Sending.{Sending}
use Rattle.profile_machine.specs.declared.world.tasks.Waiting.{Waiting}
use Rattle.profile_machine.specs.declared.world.tasks.Cause.TheVariants as inherited_by
use Rattle.profile_machine.specs.declared.world.appointments.Due.TheVariants as due_for
use Rattle.profile_machine.specs.declared.world.calls.Outcome.TheVariants as call_ended
use Rattle.profile_machine.specs.declared.world.calls.Owner.TheVariants as owned_by
use Rattle.profile_machine.specs.declared.world.tasks.Waiting.TheVariants as waits_for
use Rattle.profile_machine.specs.declared.world.marks.Mark.TheVariants.{InAccept}
use Rattle.profile_machine.specs.declared.world.tasks.State.TheVariants.{Blocked}
use Rattle.profile_machine.specs.declared.world.tasks.Task as world
use Rattle.profile_image.specs.Words.{same_entry}
use Rattle.profile_image.specs.Program.{form_of, next_of, scope_of, marks_of}
use Rattle.profile_machine.specs.declared.world.lines.Part.{Part}
use Rattle.profile_machine.specs.declared.world.lines.Part.TheVariants.{Own, TheFinish, TheBlock}
use Rattle.profile_machine.specs.Steps.{Step, says, changes, looks, nothing, for_some, ◌▷◌}
use Rattle.profile_machine.specs.Tasks.{edit_task, with_state, found_task, waiting_of}
use Rattle.profile_machine.specs.Dispatching.{ready, block}
use Rattle.profile_machine.specs.Frames.{push, pop, new_frame, goes, raises, given, raise_if}
use Rattle.profile_machine.specs.Frames.{has_room, pass_on, in_protected, open_sequence}
use Rattle.profile_machine.specs.Scopes.{begin_scope, end_scope, cells_of, scope_in_use, next_id, plainly, innermost}
use Rattle.profile_machine.specs.Operators.{Valued}
use Rattle.profile_machine.specs.Values.{Seen, condition, moment}
use Rattle.profile_machine.specs.Inheritance.{inherit, lose_running, inherit_running}
use Rattle.profile_machine.specs.Appointments.{appoint, drop_delay}
use Rattle.profile_machine.specs.Calls.{edit_call, with_call, queue_of, place_of_entry}
use Rattle.profile_machine.specs.Calls.{next_call, enqueue, formals_count, parameters_of}
use Rattle.profile_machine.specs.CallEnds.{deliver, gone}
use Rattle.profile_machine.specs.Protected.{begin_call}
use Rattle.profile_machine.specs.Sending.{send_on, sent_not_begun, begin_abortable}
use Rattle.profile_machine.specs.Serving.{with_values, keeps_sending}
use Rattle.profile_machine.specs.Statements.{sees, relative_moment}

-- ---- accepts

abbrev pub no_scope_no : ScopeNo
no_scope_no = record { 0 = 0 }

abbrev pub accept_scope : StatementForm → ScopeNo
accept_scope (form.Accept entry scope) = scope
accept_scope _ = no_scope_no

abbrev pub accepts_entry : StatementForm → EntryNo → Bool
accepts_entry (form.Accept entry scope) e = same_entry entry e
accepts_entry _ e = false

-- the accept with which a task waits for calls of this entry
abbrev pub first_accept : Image → EntryNo → List StatementNo → Option StatementNo
first_accept p e = find (λ s. accepts_entry (form_of p s) e)

abbrev pub accept_for : Image → EntryNo → Option Waiting → Option StatementNo
accept_for p e (Some (waits_for.Accept s)) = first_accept p e (s ∷ [])
accept_for p e (Some (waits_for.Select accepts delay terminate)) = first_accept p e accepts
accept_for p e _ = None

-- ---- a rendezvous begins (9.5.2): `start`, InAccept is opened, and the call's priority is inherited (D.1)

abbrev pub open_accept : Image → Who → StatementNo → Call → World → World
open_accept p name s c w =
    let scope = accept_scope (form_of p s) in
    let mark : Mark = InAccept (record { call = c.number; accept = s; within = next_id w; handles = None }) in
    push name (new_frame mark (scope_of p scope).first)
    (begin_scope p name scope (record (plainly (innermost w name)) { values = parameters_of p c }) w)

abbrev pub has_room_for_accept : Image → World → Who → StatementNo → Bool
has_room_for_accept p w name s =
    has_room w name (marks_of p (accept_scope (form_of p s))) (scope_of p (accept_scope (form_of p s))).size

-- the call begins, and the acceptor will go on behind its accept
unfoldable pub begin_accept : Image → Part → Who → StatementNo → Call → Step
begin_accept p part name s c = begin_call p part name c ▷ goes name (next_of p s)

-- without room for the accept body it finishes at once with Storage_Error
unfoldable pub finish_without_room : Part → Who → Call → Step
finish_without_room part name c =
    says part (line.Finish name c.number (meeting.Raised exception.Storage))

-- the acceptor acts: it goes to the head where its active priority rises
unfoldable pub accept_with_room : Image → Who → StatementNo → Call → Bool → Step
accept_with_room p name s c true =
    changes (open_accept p name s c) ▷ inherit_running p name (inherited_by.Rendezvous c.number) c.priority
accept_with_room p name s c false =
    finish_without_room Own name c ▷ deliver p Own c.number (call_ended.ToRaise exception.Storage)
    ▷ raises Own name exception.Storage

unfoldable pub accept_call : Image → Who → StatementNo → CallNo → Step
accept_call p name s c =
    with_call c (λ d. begin_accept p Own name s d
    ▷ looks (λ w. accept_with_room p name s d (has_room_for_accept p w name s)))

-- the acceptor waited: it becomes ready, behind the `start`
abbrev pub meet_with_room : Image → Part → Who → StatementNo → Call → Step → Step
meet_with_room p part name s c then_ =
    begin_accept p part name s c ▷ changes (open_accept p name s c)
    ▷ changes (inherit name (inherited_by.Rendezvous c.number) c.priority) ▷ ready p part name
    ▷ open_sequence p part name ▷ then_

-- without room the call has ended at once: its lines and its caller's come first, then those of the acceptor
abbrev pub meet_without_room : Image → Part → Who → StatementNo → Call → Step → Step
meet_without_room p part name s c otherwise =
    begin_accept p TheFinish name s c ▷ finish_without_room TheFinish name c
    ▷ otherwise ▷ ready p part name ▷ raises part name exception.Storage

abbrev pub meet : Image → Part → Who → StatementNo → Call → Step → Step → Step
meet p part name s c then_ otherwise =
    changes (drop_delay name)
    ▷ looks (λ w. elim (has_room_for_accept p w name s) [
      | true ↦ meet_with_room p part name s c then_
      | false ↦
          meet_without_room p part name s c otherwise
    ])

-- ---- the accept statement (9.5.2): it begins with the next call, or waits

abbrev pub own_queue : World → Who → ℕ → List CallNo
own_queue w (who.Task t) place = queue_of w (owned_by.Task t) place
own_queue w who.Agent place = []

unfoldable pub accept_or_wait : Image → Who → StatementNo → Option CallNo → Step
accept_or_wait p name s (Some c) = accept_call p name s c
accept_or_wait p name s None = goes name (next_of p s) ▷ block TheBlock name (waits_for.Accept s)

unfoldable pub accept : Image → Who → StatementNo → EntryNo → Step
accept p name s e =
    looks (λ w. raise_if name (in_protected w name) exception.Program
    (accept_or_wait p name s (next_call p w (own_queue w name (place_of_entry p e) ∷ []))))

-- ---- the selective accept (9.7.1)

-- the guards are evaluated in order
abbrev pub is_open : Seen → Option ExprNo → Valued Bool
is_open q None = Ok true
is_open q (Some e) = condition q e

abbrev pub with_open : Bool → SelectKind → List SelectKind → Valued (List SelectKind)
with_open true kind rest = Ok (kind ∷ rest)
with_open false kind rest = Ok rest

abbrev pub open_alternatives : Seen → List SelectAlternative → Valued (List SelectKind)
open_alternatives q [] = Ok []
open_alternatives q (a ∷ as') = is_open q a.guard >>= λ b. open_alternatives q as' >>= with_open b a.kind

abbrev pub open_accepts : List SelectKind → List StatementNo
open_accepts [] = []
open_accepts (select.Accept s ∷ kinds) = s ∷ open_accepts kinds
open_accepts (select.Delay s ∷ kinds) = open_accepts kinds
open_accepts (select.Terminate ∷ kinds) = open_accepts kinds

abbrev pub has_terminate : List SelectKind → Bool
has_terminate [] = false
has_terminate (select.Accept s ∷ kinds) = has_terminate kinds
has_terminate (select.Delay s ∷ kinds) = has_terminate kinds
has_terminate (select.Terminate ∷ kinds) = true

abbrev pub delay_moment_in : Seen → StatementForm → Valued ℤ
delay_moment_in q (form.Delay e) = relative_moment q e
delay_moment_in q (form.DelayUntil e) = moment q e
delay_moment_in q _ = Ok (pos 0)

abbrev pub delay_moment : Seen → StatementNo → Valued ℤ
delay_moment q s = delay_moment_in q (form_of q.program s)

-- then the delays of the open alternatives, in order
abbrev pub open_delays : Seen → List SelectKind → Valued (List DelayMoment)
open_delays q [] = Ok []
open_delays q (select.Accept s ∷ kinds) = open_delays q kinds
open_delays q (select.Delay s ∷ kinds) = delay_moment q s >>= λ m. open_delays q kinds
    >>= λ rest. Ok (record { delay = s; at = m } ∷ rest)
open_delays q (select.Terminate ∷ kinds) = open_delays q kinds

-- the delay of the least moment; of equal ones the first in the text (own)
abbrev pub earlier : DelayMoment → Option DelayMoment → DelayMoment
earlier m None = m
earlier m (Some n) = cond (int_lt n.at m.at) n m

abbrev pub least_delay : List DelayMoment → Option DelayMoment
least_delay [] = None
least_delay (m ∷ ms) = Some (earlier m (least_delay ms))

abbrev pub queue_of_accept : Image → World → Who → StatementForm → List CallNo
queue_of_accept p w name (form.Accept entry scope) = own_queue w name (place_of_entry p entry)
queue_of_accept p w name _ = []

abbrev pub queues_of_accepts : Image → World → Who → List StatementNo → List (List CallNo)
queues_of_accepts p w name = map (λ s. queue_of_accept p w name (form_of p s))

-- the alternative that accepts the call; of two for one entry the first in the text
unfoldable pub accept_chosen : Image → Who → List StatementNo → CallNo → Step
accept_chosen p name accepts c =
    with_call c (λ d. for_some (first_accept p d.entry accepts) (λ s. accept_call p name s c))

-- a task at an open terminate alternative says that it blocks when it is sure that it need not end at once
unfoldable pub wait_at_select : Who → List StatementNo → Option StatementNo → Bool → Step
wait_at_select name accepts delay true =
    changes (edit_task name (with_state (Blocked (waits_for.Select accepts delay true))))
wait_at_select name accepts delay false = block TheBlock name (waits_for.Select accepts delay false)

abbrev pub appoint_delay : Who → ℤ → World → World
appoint_delay (who.Task t) m = appoint (due_for.Delay t) m
appoint_delay who.Agent m = λ w. w

-- without a call: the else part, the delay that has come, or a wait
unfoldable pub select_delay : Image → Who → StatementNo → List StatementNo → DelayMoment → Bool → Bool → Step
select_delay p name s accepts m terminate true = goes name (next_of p m.delay)
select_delay p name s accepts m terminate false =
    goes name (next_of p s) ▷ changes (appoint_delay name m.at) ▷ wait_at_select name accepts (Some m.delay) terminate

unfoldable pub select_wait : Image → Who → StatementNo → List StatementNo → Bool → Option DelayMoment → Step
select_wait p name s accepts terminate None = goes name (next_of p s) ▷ wait_at_select name accepts None terminate
select_wait p name s accepts terminate (Some m) =
    looks (λ w. select_delay p name s accepts m terminate (int_le m.at (pos w.time)))

unfoldable pub select_otherwise : Image → Who → StatementNo → List SelectKind → Option DelayMoment
    → Option StatementNo → Step
select_otherwise p name s kinds m (Some otherwise) = goes name (Some otherwise)
select_otherwise p name s kinds m None = select_wait p name s (open_accepts kinds) (has_terminate kinds) m

unfoldable pub select_by_call : Image → Who → StatementNo → List SelectKind → Option DelayMoment
    → Option StatementNo → Option CallNo → Step
select_by_call p name s kinds m otherwise (Some c) = accept_chosen p name (open_accepts kinds) c
select_by_call p name s kinds m otherwise None = select_otherwise p name s kinds m otherwise

-- no alternative is open and there is no else part
abbrev pub is_closed : List SelectKind → Option StatementNo → Bool
is_closed [] None = true
is_closed [] (Some s) = false
is_closed (kind ∷ kinds) otherwise = false

unfoldable pub select_open : Image → Who → StatementNo → Option StatementNo → List SelectKind → List DelayMoment → Step
select_open p name s otherwise kinds moments =
    raise_if name (is_closed kinds otherwise) exception.Program
    (looks (λ w. select_by_call p name s kinds (least_delay moments) otherwise
    (next_call p w (queues_of_accepts p w name (open_accepts kinds)))))

unfoldable pub selective_accept : Image → Who → StatementNo → List SelectAlternative → Option StatementNo → Step
selective_accept p name s alternatives otherwise =
    sees p name (λ q. raise_if name (in_protected q.world name) exception.Program
    (given Own name (open_alternatives q alternatives)
    (λ kinds. given Own name (open_delays q kinds) (select_open p name s otherwise kinds))))

-- ---- the end of an accept (9.5.2, 9.5.4)

-- no call on a completed or abnormal task, or on one that is no longer there, is accepted (9.5.3, 9.8)
abbrev pub is_callable_task : Option world.Task → Bool
is_callable_task None = false
is_callable_task (Some t) = not t.completed && not t.abnormal

abbrev pub is_callable : World → TaskNo → Bool
is_callable w t = is_callable_task (found_task (who.Task t) w.tasks)

-- the call is sent on to an entry of a task: it is gone, begins, or is queued
unfoldable pub gone_sent : Image → Call → Step
gone_sent p c = gone p TheFinish c ▷ deliver p TheFinish c.number (call_ended.ToRaise exception.Tasking)

unfoldable pub meet_sent : Image → TaskNo → Call → Option StatementNo → Step
meet_sent p t c (Some s) =
    meet p TheFinish (who.Task t) s c (begin_abortable p c.number)
    (deliver p TheFinish c.number (call_ended.ToRaise exception.Storage))
meet_sent p t c None = enqueue p c.number ▷ sent_not_begun p c.number

unfoldable pub arrive_at : Image → TaskNo → Call → Bool → Step
arrive_at p t c false = gone_sent p c
arrive_at p t c true = looks (λ w. meet_sent p t c (accept_for p c.entry (waiting_of w (who.Task t))))

-- a requeue from an accept names an entry of a task
unfoldable pub arrive : Image → Call → Owner → Step
arrive p c (owned_by.Task t) = looks (λ w. arrive_at p t c (is_callable w t))
arrive p c (owned_by.Object o) = gone_sent p c

unfoldable pub finish_accept : Image → Who → Call → Option Sending → Step
finish_accept p name c None =
    says TheFinish (line.Finish name c.number meeting.Ok) ▷ deliver p TheFinish c.number call_ended.Finished
finish_accept p name c (Some s) =
    says TheFinish (line.Finish name c.number meeting.Requeue) ▷ send_on c.number s
    ▷ with_call c.number (λ d. arrive p d d.owner)

-- an exception is raised in the caller too; where the acceptor is aborted the caller gets Tasking_Error
unfoldable pub finish_rendezvous : Image → Who → Call → Leaving → Step
finish_rendezvous p name c (how.Exception e) =
    says TheFinish (line.Finish name c.number (meeting.Raised e)) ▷ deliver p TheFinish c.number (call_ended.ToRaise e)
finish_rendezvous p name c how.Abort =
    says TheFinish (line.Gone c.caller c.number) ▷ deliver p TheFinish c.number (call_ended.ToRaise exception.Tasking)
finish_rendezvous p name c how.End = finish_accept p name c c.sending
finish_rendezvous p name c how.Return = finish_accept p name c c.sending
finish_rendezvous p name c (how.Exit loop) = finish_accept p name c c.sending
finish_rendezvous p name c how.Terminate = finish_accept p name c c.sending

-- a return ends at the accept
unfoldable pub behind_accept : Image → Who → Leaving → Step
behind_accept p name how.End = nothing
behind_accept p name how.Return = nothing
behind_accept p name (how.Exit loop) = pass_on p name (how.Exit loop)
behind_accept p name (how.Exception e) = pass_on p name (how.Exception e)
behind_accept p name how.Abort = pass_on p name how.Abort
behind_accept p name how.Terminate = pass_on p name how.Terminate

abbrev pub finished_call : Image → List Value → Leaving → Call → Call
finished_call p cells leaving c = keeps_sending leaving (with_values cells (formals_count p c) c)

-- InAccept finishes the call, and the acceptor loses the inherited priority
unfoldable pub end_in_accept : Image → Who → AcceptMark → Leaving → Step
end_in_accept p name m leaving =
    looks (λ w. changes (pop name) ▷ changes (end_scope m.within)
    ▷ changes (edit_call m.call (finished_call p (cells_of (scope_in_use w m.within)) leaving))
    ▷ with_call m.call (λ c. finish_rendezvous p name c leaving))
    ▷ lose_running p name (inherited_by.Rendezvous m.call) ▷ behind_accept p name leaving
