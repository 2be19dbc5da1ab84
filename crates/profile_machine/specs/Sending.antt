-- Calls that are sent on, abortable parts that begin, and calls that are not accepted at once (9.5.4, 9.7).
use Rattle.std.specs.Prelude.{ℕ, ℤ, pos, int_le, Bool, true, false, cond, not, ◌&&◌, ◌||◌, Option, Some, None, is_none}
use Rattle.std.specs.List.{list_any}
use Rattle.ann_base.specs.declared.identities.CallNo.{CallNo}
use Rattle.profile_machine.specs.declared.world.lines.Line.TheVariants as line
use Rattle.trace_text.specs.declared.events.Who.{Who}
use Rattle.trace_text.specs.declared.events.Who.TheVariants as who
use Rattle.profile_image.specs.declared.image.Image.{Image}
use Rattle.profile_image.specs.declared.numbers.StatementNo.{StatementNo}
use Rattle.profile_image.specs.declared.statements.StatementForm.{StatementForm}
use Rattle.profile_image.specs.declared.statements.StatementForm.TheVariants as form
use Rattle.profile_machine.specs.declared.world.World.{World}
use Rattle.profile_machine.specs.declared.world.marks.Mark.{Mark}
use Rattle.profile_machine.specs.declared.world.calls.Call.{Call}
use Rattle.profile_machine.specs.declared.world.calls.CallKind.{CallKind}
use Rattle.profile_machine.specs.declared.world.calls.Owner.{Owner}
use Rattle.profile_machine.specs.declared.world.calls.Owner.TheVariants as owned_by
use Rattle.profile_machine.specs.declared.world.calls.Sending.{Sending}
use Rattle.profile_machine.specs.declared.world.calls.CallKind.TheVariants as call_kind
use Rattle.profile_machine.specs.declared.world.appointments.Due.TheVariants as due_for
use Rattle.profile_machine.specs.declared.world.calls.Outcome.TheVariants as call_ended
use Rattle.profile_machine.specs.declared.world.tasks.Waiting.TheVariants as waits_for
use Rattle.profile_machine.specs.declared.world.marks.Mark.TheVariants.{Abortable}
use Rattle.profile_image.specs.Words.{same_call}
use Rattle.profile_image.specs.Program.{form_of}
use Rattle.profile_machine.specs.declared.world.lines.Part.{Part}
use Rattle.profile_machine.specs.declared.world.lines.Part.TheVariants.{TheFinish, TheBlock}
use Rattle.profile_machine.specs.Steps.{Step, says, changes, looks, when, nothing, ◌▷◌}
use Rattle.profile_machine.specs.Tasks.{task_of, waiting_of}
use Rattle.profile_machine.specs.Dispatching.{ready, block}
use Rattle.profile_machine.specs.Frames.{push, new_frame, has_room}
use Rattle.profile_machine.specs.Appointments.{appoint}
use Rattle.profile_machine.specs.Calls.{call_of, queue_of, place_of_entry, edit_call}
use Rattle.profile_machine.specs.Calls.{with_call, unqueued, says_call, attempt_with}
use Rattle.profile_machine.specs.CallEnds.{deliver, resume, waits_for_call, abortable_depth}

-- ---- abortable parts (9.7.4)

abbrev pub abortable_in : StatementForm → Option StatementNo
abortable_in (form.AsynchronousSelect trigger abortable) = Some abortable
abortable_in _ = None

abbrev pub new_abortable_mark : StatementNo → Option CallNo → Mark
new_abortable_mark select call = Abortable (record { select = select; call = call; triggered = false; waits = false })

abbrev pub open_abortable : Image → Who → StatementNo → Option CallNo → World → World
open_abortable p name select call =
    push name (new_frame (new_abortable_mark select call) (abortable_in (form_of p select)))

-- ---- a call that is queued and was not accepted at once (9.7.2, 9.7.3, 9.7.4)

abbrev pub is_not_future : ℕ → Option ℤ → Bool
is_not_future now None = false
is_not_future now (Some moment) = int_le moment (pos now)

-- a conditional call, and a timed one whose moment has come, is cancelled
unfoldable pub cancel_at_once : Image → Part → Call → Step
cancel_at_once p part c = attempt_with p part c (resume p part c call_ended.Cancelled) nothing

-- a time-out's call stands in its queue, is still served and is not firm, so it may be cancelled
abbrev pub stands_in_queue : Image → World → Call → Bool
stands_in_queue p w c = list_any (same_call c.number) (queue_of w c.owner (place_of_entry p c.entry))

-- an object serves the calls in its queues, and so does a task that is not completed
abbrev pub still_serves : World → Owner → Bool
still_serves w (owned_by.Task t) = not (task_of w (who.Task t)).completed
still_serves w (owned_by.Object o) = true

abbrev pub may_time_out : Image → World → Option Call → Bool
may_time_out p w None = false
may_time_out p w (Some c) = stands_in_queue p w c && not c.firm && still_serves w c.owner

-- another call has no time-out: of one that is not firm no source is known (own)
abbrev pub appoint_timeout : Image → CallNo → Option ℤ → World → World
appoint_timeout p c None w = w
appoint_timeout p c (Some moment) w = cond (may_time_out p w (call_of w c)) (appoint (due_for.Timeout c) moment w) w

unfoldable pub wait_for_call : Call → Step
wait_for_call c = block TheBlock (who.Task c.caller) (waits_for.Call c.number)

unfoldable pub wait_or_cancel : Image → Part → Call → Bool → Step
wait_or_cancel p part c true = cancel_at_once p part c
wait_or_cancel p part c false = changes (appoint_timeout p c.number c.moment) ▷ wait_for_call c

unfoldable pub not_accepted : Image → Part → Call → CallKind → Step
not_accepted p part c call_kind.Plain = wait_for_call c
not_accepted p part c call_kind.Conditional = cancel_at_once p part c
not_accepted p part c call_kind.Timed = looks (λ w. wait_or_cancel p part c (is_not_future w.time c.moment))
not_accepted p part c call_kind.Triggering = changes (open_abortable p (who.Task c.caller) c.statement (Some c.number))

-- ---- a call is sent on (9.5.4)

abbrev pub sent_call : Sending → Call → Call
sent_call s c = record c {
  owner = s.owner;
  entry = s.entry;
  firm = not s.with_abort;
  sent_with_abort = c.sent_with_abort || s.with_abort;
  sending = None;
}

-- its new entry, and its `call` line
unfoldable pub send_on : CallNo → Sending → Step
send_on c s = changes (edit_call c (sent_call s)) ▷ with_call c (says_call TheFinish)

-- sent on with abort and not begun at once: a conditional call, one whose cancellation was attempted, and a timed one
-- whose moment has come
abbrev pub is_conditional : CallKind → Bool
is_conditional call_kind.Plain = false
is_conditional call_kind.Conditional = true
is_conditional call_kind.Timed = false
is_conditional call_kind.Triggering = false

abbrev pub is_to_be_cancelled : ℕ → Call → Bool
is_to_be_cancelled now c = not c.firm && (is_conditional c.kind || c.attempted || is_not_future now c.moment)

unfoldable pub cancel_sent : Image → Call → Step
cancel_sent p c =
    changes (unqueued p c) ▷ says TheFinish (line.Cancel c.caller c.number)
    ▷ deliver p TheFinish c.number call_ended.Cancelled

-- a triggering call whose abortable part has not begun, and whose cancellation was not attempted
abbrev pub is_triggering : CallKind → Bool
is_triggering call_kind.Plain = false
is_triggering call_kind.Conditional = false
is_triggering call_kind.Timed = false
is_triggering call_kind.Triggering = true

abbrev pub may_begin_abortable : World → Call → Bool
may_begin_abortable w c =
    is_triggering c.kind && is_none (abortable_depth w c) && not c.firm && not c.attempted && is_none c.outcome
    && waits_for_call c.number (waiting_of w (who.Task c.caller)) && has_room w (who.Task c.caller) 1 0

-- its abortable part begins, and the caller becomes ready; without room the caller waits on
unfoldable pub begin_abortable : Image → CallNo → Step
begin_abortable p c =
    with_call c (λ d. looks (λ w. when (may_begin_abortable w d)
    (changes (open_abortable p (who.Task d.caller) d.statement (Some d.number))
    ▷ ready p TheFinish (who.Task d.caller))))

-- queued on: a timed call has its time-out again for its first moment
abbrev pub timeout_again : Image → Call → World → World
timeout_again p c = cond c.firm (λ w. w) (appoint_timeout p c.number c.moment)

unfoldable pub sent_not_begun_by : Image → Call → Bool → Step
sent_not_begun_by p c true = cancel_sent p c
sent_not_begun_by p c false = changes (timeout_again p c) ▷ begin_abortable p c.number

unfoldable pub sent_not_begun : Image → CallNo → Step
sent_not_begun p c = with_call c (λ d. looks (λ w. sent_not_begun_by p d (is_to_be_cancelled w.time d)))
