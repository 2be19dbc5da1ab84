-- Calls that are sent on, and abortable parts that begin: each step keeps a relation that its parts keep.
use Rattle.std.proofs.Common.{◌≡◌, ℤ, Bool, true, false, cond, not, ◌&&◌, Option, Some, None, refl, sym, []}
use Rattle.std.specs.Prelude.{◌||◌}
use Rattle.std.proofs.lemmas.Bool.{false≢true}
use Rattle.ann_base.specs.declared.identities.CallNo.{CallNo}
use Rattle.trace_text.specs.declared.events.Who.{Who}
use Rattle.profile_image.specs.declared.image.Image.{Image}
use Rattle.profile_image.specs.declared.numbers.StatementNo.{StatementNo}
use Rattle.profile_machine.specs.declared.world.World.{World}
use Rattle.profile_machine.specs.declared.world.calls.Call.{Call}
use Rattle.profile_machine.specs.declared.world.calls.CallKind.{CallKind}
use Rattle.profile_machine.specs.declared.world.calls.Sending.{Sending}
use Rattle.profile_machine.specs.declared.world.calls.CallKind.TheVariants as call_kind
use Rattle.profile_machine.specs.declared.world.appointments.Due.TheVariants as due_for
use Rattle.profile_machine.specs.declared.world.lines.Part.{Part}
use Rattle.profile_machine.specs.Steps.{changes}
use Rattle.profile_machine.specs.Appointments.{appoint}
use Rattle.profile_machine.specs.Calls.{call_of}
use Rattle.profile_machine.specs.Sending.{open_abortable, is_not_future, is_conditional, is_to_be_cancelled, cancel_at_once, appoint_timeout}
use Rattle.profile_machine.specs.Sending.{wait_for_call, wait_or_cancel, not_accepted, send_on, cancel_sent, begin_abortable, timeout_again}
use Rattle.profile_machine.specs.Sending.{sent_not_begun_by, sent_not_begun, new_abortable_mark, abortable_in, may_time_out}
use Rattle.machine_laws.proofs.Moves.{StepRelation, MoveRelation}
use Rattle.machine_laws.proofs.FineMoves.{GoodWorld, Naming}
use Rattle.machine_laws.proofs.FinestMoves.{FinestMoves, chains, says-keeps}
use Rattle.machine_laws.proofs.Kept.Dispatching.{ready-keeps, block-keeps}
use Rattle.machine_laws.proofs.Kept.Appointments.{is_later}
use Rattle.machine_laws.proofs.Kept.CallEnds.{deliver-keeps}
use Rattle.profile_image.specs.Program.{form_of}
use Rattle.profile_machine.specs.Frames.{new_frame}
use Rattle.machine_laws.proofs.Kept.Combinators.{Alters, From, Keeps, changes-from, changes-keeps, keeps-from, looks-from}
use Rattle.machine_laws.proofs.Kept.Combinators.{looks-keeps, nothing-keeps, then-from, then-keeps, unchanged-alters, when-keeps}
use Rattle.machine_laws.proofs.Plain.Calls.{edit_call-alters, with_call-keeps, says_call-keeps, unqueued-alters, attempt_with-keeps}
use Rattle.machine_laws.proofs.Plain.Results.{resume-keeps}
use Rattle.machine_laws.proofs.Kept.Frames.{plain_steps}
use Rattle.machine_laws.proofs.Plain.PlainSteps.{anybody}

-- of a test that fails, unless the first part is why
pub last_is_false : (a b c d : Bool) → (not a && (b || c || d)) ≡ false → a ≡ false → d ≡ false
last_is_false true b c d h k = absurd (false≢true (sym k))
last_is_false false true c d h k = absurd (false≢true (sym h))
last_is_false false false true d h k = absurd (false≢true (sym h))
last_is_false false false false d h k = h

module _ {G : GoodWorld} {May Other : Naming} {R : StepRelation} {Q : MoveRelation} (moves : FinestMoves G May Other R Q) where
  pub open_abortable-alters : (p : Image) (name : Who) (select : StatementNo) (call : Option CallNo) → Other name
      → Alters G R (open_abortable p name select call)
  unfolding Alters
  open_abortable-alters p name select call other w good =
      moves.opens_abortable name (new_frame (new_abortable_mark select call) (abortable_in (form_of p select))) w good other refl refl refl

  pub cancel_at_once-keeps : (p : Image) (part : Part) (c : Call) → Keeps G R (cancel_at_once p part c)
  unfolding cancel_at_once
  cancel_at_once-keeps p part c = search (attempt_with-keeps, resume-keeps, nothing-keeps, chains, plain_steps, anybody)

  appoint_timeout-from : (p : Image) (c : CallNo) (moment : Option ℤ) (w : World) → G w → is_not_future w.time moment ≡ false
      → From R w (changes (appoint_timeout p c moment))
  appoint_timeout-from p c None w good later =
      keeps-from (chains moves) (changes (λ v. v)) w good (changes-keeps (chains moves) (λ v. v) (unchanged-alters (chains moves)))
  appoint_timeout-from p c (Some moment) w good later =
      changes-from (chains moves) (appoint_timeout p c (Some moment)) w (timed (may_time_out p w (call_of w c))) where
        timed : (may : Bool) → R w [] (cond may (appoint (due_for.Timeout c) moment w) w)
        timed true = moves.appoints (due_for.Timeout c) moment w good refl (is_later w.time moment later)
        timed false = moves.stays w good

  pub wait_for_call-keeps : (c : Call) → Keeps G R (wait_for_call c)
  unfolding wait_for_call
  wait_for_call-keeps c = search (block-keeps, moves.task_other)

  wait_or_cancel-from : (p : Image) (part : Part) (c : Call) (test : Bool) (w : World) → G w → is_not_future w.time c.moment ≡ test
      → From R w (wait_or_cancel p part c test)
  unfolding wait_or_cancel
  wait_or_cancel-from p part c true w good is = keeps-from (chains moves) (cancel_at_once p part c) w good (cancel_at_once-keeps p part c)
  wait_or_cancel-from p part c false w good is =
      then-from (chains moves) (changes (appoint_timeout p c.number c.moment)) (wait_for_call c) w (appoint_timeout-from p c.number c.moment w good is)
      (wait_for_call-keeps c)

  pub not_accepted-keeps : (p : Image) (part : Part) (c : Call) (kind : CallKind) → Keeps G R (not_accepted p part c kind)
  unfolding not_accepted
  not_accepted-keeps p part c call_kind.Plain = search (wait_for_call-keeps)
  not_accepted-keeps p part c call_kind.Conditional = search (cancel_at_once-keeps)
  not_accepted-keeps p part c call_kind.Timed = looks-from (chains moves) _ (λ w good. wait_or_cancel-from p part c (is_not_future w.time c.moment) w good refl)
  not_accepted-keeps p part c call_kind.Triggering = search (changes-keeps, open_abortable-alters, moves.task_other, chains)

  pub send_on-keeps : (c : CallNo) (s : Sending) → Keeps G R (send_on c s)
  unfolding send_on
  send_on-keeps c s = search (changes-keeps, edit_call-alters, then-keeps, with_call-keeps, says_call-keeps, chains, plain_steps)

  pub cancel_sent-keeps : (p : Image) (c : Call) → Keeps G R (cancel_sent p c)
  unfolding cancel_sent
  cancel_sent-keeps p c = search (changes-keeps, unqueued-alters, then-keeps, says-keeps, deliver-keeps, chains, plain_steps) depth 8

  pub begin_abortable-keeps : (p : Image) (c : CallNo) → Keeps G R (begin_abortable p c)
  unfolding begin_abortable
  begin_abortable-keeps p c =
      search
      (with_call-keeps, looks-keeps, when-keeps, changes-keeps, open_abortable-alters, then-keeps, ready-keeps, moves.task_other, chains, plain_steps) depth 10

  unless_firm-from : (p : Image) (firm : Bool) (c : Call) (w : World) → G w → (firm ≡ false → is_not_future w.time c.moment ≡ false)
      → From R w (changes (cond firm (λ v. v) (appoint_timeout p c.number c.moment)))
  unless_firm-from p true c w good later =
      keeps-from (chains moves) (changes (λ v. v)) w good (changes-keeps (chains moves) (λ v. v) (unchanged-alters (chains moves)))
  unless_firm-from p false c w good later = appoint_timeout-from p c.number c.moment w good (later refl)

  sent_not_begun_by-from : (p : Image) (c : Call) (test : Bool) (w : World) → G w → is_to_be_cancelled w.time c ≡ test → From R w (sent_not_begun_by p c test)
  unfolding sent_not_begun_by
  sent_not_begun_by-from p c true w good is = keeps-from (chains moves) (cancel_sent p c) w good (cancel_sent-keeps p c)
  sent_not_begun_by-from p c false w good is =
      then-from (chains moves) (changes (timeout_again p c)) (begin_abortable p c.number) w
      (unless_firm-from p c.firm c w good (last_is_false c.firm (is_conditional c.kind) c.attempted (is_not_future w.time c.moment) is))
      (begin_abortable-keeps p c.number)

  pub sent_not_begun-keeps : (p : Image) (c : CallNo) → Keeps G R (sent_not_begun p c)
  unfolding sent_not_begun
  sent_not_begun-keeps p c =
      with_call-keeps (plain_steps moves) c _
      (λ d. looks-from (chains moves) _ (λ w good. sent_not_begun_by-from p d (is_to_be_cancelled w.time d) w good refl))
