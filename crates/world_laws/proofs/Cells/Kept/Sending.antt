-- Calls that wait or are sent on: each step keeps the cells right.
use Rattle.std.specs.Prelude.{ℤ, Bool, true, false, cond, Option, Some, None}
use Rattle.ann_base.specs.declared.identities.CallNo.{CallNo}
use Rattle.trace_text.specs.declared.events.Who.{Who}
use Rattle.profile_image.specs.declared.image.Image.{Image}
use Rattle.profile_image.specs.declared.numbers.StatementNo.{StatementNo}
use Rattle.profile_machine.specs.declared.world.World.{World}
use Rattle.profile_machine.specs.declared.world.calls.Call.{Call}
use Rattle.profile_machine.specs.declared.world.calls.CallKind.{CallKind}
use Rattle.profile_machine.specs.declared.world.calls.Sending.{Sending}
use Rattle.profile_machine.specs.declared.world.calls.CallKind.TheVariants as call_kind
use Rattle.profile_machine.specs.declared.world.appointments.Due.TheVariants as due_for
use Rattle.profile_machine.specs.declared.world.lines.Part.{Part}
use Rattle.profile_machine.specs.Appointments.{appoint}
use Rattle.profile_machine.specs.Calls.{call_of}
use Rattle.profile_machine.specs.Sending.{open_abortable, cancel_at_once, may_time_out, appoint_timeout, wait_for_call, wait_or_cancel}
use Rattle.profile_machine.specs.Sending.{not_accepted, send_on, cancel_sent, begin_abortable, timeout_again, sent_not_begun_by, sent_not_begun}
use Rattle.profile_machine.specs.Act.{call}
use Rattle.world_laws.proofs.Cells.RightCells.{Right, Keeps, Alters, then-keeps, nothing-keeps, changes-keeps}
use Rattle.world_laws.proofs.Cells.RightCells.{says-keeps, looks-keeps, when-keeps, unchanged-alters}
use Rattle.world_laws.proofs.Cells.Kept.Dispatching.{ready-keeps, block-keeps}
use Rattle.world_laws.proofs.Cells.Kept.Frames.{push-alters}
use Rattle.world_laws.proofs.Cells.Kept.Appointments.{appoint-alters}
use Rattle.world_laws.proofs.Cells.Kept.Calls.{edit_call-alters, with_call-keeps, says_call-keeps, unqueued-alters, attempt_with-keeps}
use Rattle.world_laws.proofs.Cells.Kept.CallEnds.{resume-keeps, deliver-keeps}

-- ---- abortable parts (9.7.4)

pub open_abortable-alters : (p : Image) (name : Who) (select : StatementNo) (call : Option CallNo) → Alters p (open_abortable p name select call)
open_abortable-alters p name select call = search (push-alters)

-- ---- a call that is queued and was not accepted at once (9.7.2, 9.7.3, 9.7.4)

pub cancel_at_once-keeps : (p : Image) (part : Part) (c : Call) → Keeps p (cancel_at_once p part c)
unfolding cancel_at_once
cancel_at_once-keeps p part c = search (attempt_with-keeps, resume-keeps, nothing-keeps) depth 6

either-right : (p : Image) (test : Bool) (v w : World) → Right p v → Right p w → Right p (cond test v w)
either-right p true v w a b = a
either-right p false v w a b = b

pub appoint_timeout-alters : (p : Image) (c : CallNo) (moment : Option ℤ) → Alters p (appoint_timeout p c moment)
appoint_timeout-alters p c None = record { at = λ w right. right }
appoint_timeout-alters p c (Some moment) = record {
  at =
      λ w right.
      either-right p (may_time_out p w (call_of w c)) (appoint (due_for.Timeout c) moment w) w ((appoint-alters (due_for.Timeout c) moment).at w right) right;
}

pub wait_for_call-keeps : {p : Image} (c : Call) → Keeps p (wait_for_call c)
unfolding wait_for_call
wait_for_call-keeps c = search (block-keeps)

pub wait_or_cancel-keeps : (p : Image) (part : Part) (c : Call) (test : Bool) → Keeps p (wait_or_cancel p part c test)
unfolding wait_or_cancel
wait_or_cancel-keeps p part c true = search (cancel_at_once-keeps)
wait_or_cancel-keeps p part c false = search (changes-keeps, appoint_timeout-alters, then-keeps, wait_for_call-keeps) depth 7

pub not_accepted-keeps : (p : Image) (part : Part) (c : Call) (kind : CallKind) → Keeps p (not_accepted p part c kind)
unfolding not_accepted
not_accepted-keeps p part c call_kind.Plain = search (wait_for_call-keeps)
not_accepted-keeps p part c call_kind.Conditional = search (cancel_at_once-keeps)
not_accepted-keeps p part c call_kind.Timed = search (looks-keeps, wait_or_cancel-keeps)
not_accepted-keeps p part c call_kind.Triggering = search (changes-keeps, open_abortable-alters)

-- ---- a call is sent on (9.5.4)

pub send_on-keeps : {p : Image} (c : CallNo) (s : Sending) → Keeps p (send_on c s)
unfolding send_on
send_on-keeps c s = search (changes-keeps, edit_call-alters, then-keeps, with_call-keeps, says_call-keeps) depth 8

pub cancel_sent-keeps : (p : Image) (c : Call) → Keeps p (cancel_sent p c)
unfolding cancel_sent
cancel_sent-keeps p c = search (changes-keeps, unqueued-alters, then-keeps, says-keeps, deliver-keeps) depth 9

pub begin_abortable-keeps : (p : Image) (c : CallNo) → Keeps p (begin_abortable p c)
unfolding begin_abortable
begin_abortable-keeps p c = search (with_call-keeps, looks-keeps, when-keeps, changes-keeps, open_abortable-alters, then-keeps, ready-keeps) depth 10

either-alters : {p : Image} (test : Bool) (f g : World → World) → Alters p f → Alters p g → Alters p (cond test f g)
either-alters true f g a b = a
either-alters false f g a b = b

pub timeout_again-alters : (p : Image) (c : Call) → Alters p (timeout_again p c)
timeout_again-alters p c = either-alters c.firm (λ w. w) (appoint_timeout p c.number c.moment) unchanged-alters (appoint_timeout-alters p c.number c.moment)

pub sent_not_begun_by-keeps : (p : Image) (c : Call) (test : Bool) → Keeps p (sent_not_begun_by p c test)
unfolding sent_not_begun_by
sent_not_begun_by-keeps p c true = search (cancel_sent-keeps)
sent_not_begun_by-keeps p c false = search (changes-keeps, timeout_again-alters, then-keeps, begin_abortable-keeps) depth 7

pub sent_not_begun-keeps : (p : Image) (c : CallNo) → Keeps p (sent_not_begun p c)
unfolding sent_not_begun
sent_not_begun-keeps p c = search (with_call-keeps, looks-keeps, sent_not_begun_by-keeps) depth 6
