-- Calls that are sent on, and abortable parts that begin: each step keeps a relation that its parts keep.
use Rattle.trace_text.specs.declared.events.Who.TheVariants as who
use Rattle.profile_machine.specs.declared.world.tasks.Waiting.TheVariants as waits_for
use Rattle.world_laws.proofs.Sequences.TaskEdits.{onward-pushed}
use Rattle.profile_machine.specs.declared.world.lines.Part.TheVariants.{TheFinish, TheBlock}
use Rattle.profile_machine.specs.Dispatching.{ready}
use Rattle.std.proofs.Common.{◌≡◌, ℤ, Bool, true, false, cond, Option, Some, None, refl, []}
use Rattle.ann_base.specs.declared.identities.CallNo.{CallNo}
use Rattle.trace_text.specs.declared.events.Who.{Who}
use Rattle.profile_image.specs.declared.image.Image.{Image}
use Rattle.profile_image.specs.declared.numbers.StatementNo.{StatementNo}
use Rattle.profile_machine.specs.declared.world.World.{World}
use Rattle.profile_machine.specs.declared.world.calls.Call.{Call}
use Rattle.profile_machine.specs.declared.world.calls.CallKind.{CallKind}
use Rattle.profile_machine.specs.declared.world.calls.Sending.{Sending}
use Rattle.profile_machine.specs.declared.world.calls.CallKind.TheVariants as call_kind
use Rattle.profile_machine.specs.declared.world.appointments.Due.TheVariants as due_for
use Rattle.profile_machine.specs.declared.world.lines.Part.{Part}
use Rattle.profile_machine.specs.Steps.{changes, ◌▷◌}
use Rattle.profile_machine.specs.Appointments.{appoint}
use Rattle.profile_machine.specs.Calls.{call_of}
use Rattle.profile_machine.specs.Sending.{open_abortable, is_not_future, is_conditional, is_to_be_cancelled, cancel_at_once, appoint_timeout}
use Rattle.profile_machine.specs.Sending.{wait_for_call, wait_or_cancel, not_accepted, send_on, cancel_sent, begin_abortable, timeout_again}
use Rattle.profile_machine.specs.Sending.{sent_not_begun_by, sent_not_begun, new_abortable_mark, abortable_in, may_begin_abortable, may_time_out}
use Rattle.machine_laws.proofs.FineMoves.{GoodWorld, Naming}
use Rattle.world_laws.proofs.Sequences.FineMoves.{FineMoves, Openings, Loosens, chains, says-keeps}
use Rattle.world_laws.proofs.Behind.{Behind}
use Rattle.world_laws.proofs.Sequences.Kept.Dispatching.{block-keeps, ready-from}
use Rattle.world_laws.proofs.Sequences.Kept.CallEnds.{deliver-keeps}
use Rattle.profile_image.specs.Program.{form_of}
use Rattle.profile_machine.specs.Frames.{new_frame, push}
use Rattle.machine_laws.proofs.Kept.Sending.{last_is_false}
use Rattle.machine_laws.proofs.Kept.Combinators.{Alters, From, Keeps, changes-from, changes-keeps, changes_then-from, from-keeps, keeps-from}
use Rattle.machine_laws.proofs.Kept.Combinators.{looks-from, looks-keeps, nothing-keeps, then-from, then-keeps, unchanged-alters, when-keeps}
use Rattle.machine_laws.proofs.Plain.Calls.{edit_call-alters, with_call-keeps, says_call-keeps, unqueued-alters, attempt_with-keeps}
use Rattle.machine_laws.proofs.Plain.Results.{resume-keeps}
use Rattle.world_laws.proofs.Sequences.Kept.Frames.{plain_steps}

-- of a test that fails, unless the first part is why

module _ {p : Image} {G : GoodWorld} {May Other : Naming} (moves : FineMoves p G May Other) where
  pub open_abortable-alters : (name : Who) (select : StatementNo) (call : Option CallNo) → Other name → Alters G (Behind G) (open_abortable p name select call)
  unfolding Alters
  open_abortable-alters name select call other w good =
      moves.opens_abortable name (new_frame (new_abortable_mark select call) (abortable_in (form_of p select))) w good other (moves.fits.abortable select)

  pub cancel_at_once-keeps : (part : Part) (c : Call) → May (who.Task c.caller) → Keeps G (Behind G) (cancel_at_once p part c)
  unfolding cancel_at_once
  cancel_at_once-keeps part c may = search (attempt_with-keeps, resume-keeps, nothing-keeps, chains, plain_steps)

  appoint_timeout-from : (p : Image) (c : CallNo) (moment : Option ℤ) (w : World) → G w → is_not_future w.time moment ≡ false
      → From (Behind G) w (changes (appoint_timeout p c moment))
  appoint_timeout-from p c None w good later =
      keeps-from (chains moves) (changes (λ v. v)) w good (changes-keeps (chains moves) (λ v. v) (unchanged-alters (chains moves)))
  appoint_timeout-from p c (Some moment) w good later =
      changes-from (chains moves) (appoint_timeout p c (Some moment)) w (timed (may_time_out p w (call_of w c))) where
        timed : (may : Bool) → Behind G w [] (cond may (appoint (due_for.Timeout c) moment w) w)
        timed true = moves.appoints (due_for.Timeout c) moment w good
        timed false = moves.stays w good

  pub send_on-keeps : (c : CallNo) (s : Sending) → Keeps G (Behind G) (send_on c s)
  unfolding send_on
  send_on-keeps c s = search (changes-keeps, edit_call-alters, then-keeps, with_call-keeps, says_call-keeps, chains, plain_steps)

module _ {p : Image} {G : GoodWorld} {May Other : Naming} (moves : FineMoves p G May Other) (openings : Openings p G May Other) where
  pub wait_for_call-keeps : (c : Call) → Keeps G (Behind G) (wait_for_call c)
  unfolding wait_for_call
  wait_for_call-keeps c = block-keeps moves openings TheBlock (who.Task c.caller) (waits_for.Call c.number) (moves.task_other c.caller) refl

  wait_or_cancel-from : (part : Part) (c : Call) (test : Bool) (w : World) → G w → is_not_future w.time c.moment ≡ test → May (who.Task c.caller)
      → From (Behind G) w (wait_or_cancel p part c test)
  unfolding wait_or_cancel
  wait_or_cancel-from part c true w good is may = keeps-from (chains moves) (cancel_at_once p part c) w good (cancel_at_once-keeps moves part c may)
  wait_or_cancel-from part c false w good is may =
      then-from (chains moves) (changes (appoint_timeout p c.number c.moment)) (wait_for_call c) w (appoint_timeout-from moves p c.number c.moment w good is)
      (wait_for_call-keeps c)

  pub not_accepted-keeps : (part : Part) (c : Call) (kind : CallKind) → May (who.Task c.caller) → Keeps G (Behind G) (not_accepted p part c kind)
  unfolding not_accepted
  not_accepted-keeps part c call_kind.Plain may = search (wait_for_call-keeps)
  not_accepted-keeps part c call_kind.Conditional may = cancel_at_once-keeps moves part c may
  not_accepted-keeps part c call_kind.Timed may =
      looks-from (chains moves) _ (λ w good. wait_or_cancel-from part c (is_not_future w.time c.moment) w good refl may)
  not_accepted-keeps part c call_kind.Triggering may = search (changes-keeps, open_abortable-alters, moves.task_other, chains)

module _ {p : Image} {G : GoodWorld} {May Other : Naming} (moves : FineMoves p G May Other) (loose : Loosens p G May Other) where
  pub cancel_sent-keeps : (c : Call) → Keeps G (Behind G) (cancel_sent p c)
  unfolding cancel_sent
  cancel_sent-keeps c = search (changes-keeps, unqueued-alters, then-keeps, says-keeps, deliver-keeps, chains, plain_steps) depth 8

  -- its abortable part begins plainly, so the caller may be ready
  part_begins-keeps : (d : Call)
      → Keeps G (Behind G) (changes (open_abortable p (who.Task d.caller) d.statement (Some d.number)) ▷ ready p TheFinish (who.Task d.caller))
  unfolding Alters
  part_begins-keeps d =
      let name = who.Task d.caller in
      let f = new_frame (new_abortable_mark d.statement (Some d.number)) (abortable_in (form_of p d.statement)) in
      from-keeps (chains moves) _ (λ w good.
      let opened = open_abortable-alters moves name d.statement (Some d.number) (moves.task_other d.caller) w good in
      changes_then-from (chains moves) (open_abortable p name d.statement (Some d.number)) (ready p TheFinish name) w opened
      (ready-from moves TheFinish name (push name f w)
      (moves.readies_plainly name (push name f w) opened (onward-pushed p name f w (moves.fits.abortable d.statement)))))

  pub begin_abortable-keeps : (c : CallNo) → Keeps G (Behind G) (begin_abortable p c)
  unfolding begin_abortable
  begin_abortable-keeps c =
      with_call-keeps (plain_steps moves) c _
      (λ d. looks-keeps (chains moves) _ (λ w. when-keeps (chains moves) (may_begin_abortable w d) _ (part_begins-keeps d)))

  unless_firm-from : (p : Image) (firm : Bool) (c : Call) (w : World) → G w → (firm ≡ false → is_not_future w.time c.moment ≡ false)
      → From (Behind G) w (changes (cond firm (λ v. v) (appoint_timeout p c.number c.moment)))
  unless_firm-from p true c w good later =
      keeps-from (chains moves) (changes (λ v. v)) w good (changes-keeps (chains moves) (λ v. v) (unchanged-alters (chains moves)))
  unless_firm-from p false c w good later = appoint_timeout-from moves p c.number c.moment w good (later refl)

  sent_not_begun_by-from : (c : Call) (test : Bool) (w : World) → G w → is_to_be_cancelled w.time c ≡ test → From (Behind G) w (sent_not_begun_by p c test)
  unfolding sent_not_begun_by
  sent_not_begun_by-from c true w good is = keeps-from (chains moves) (cancel_sent p c) w good (cancel_sent-keeps c)
  sent_not_begun_by-from c false w good is =
      then-from (chains moves) (changes (timeout_again p c)) (begin_abortable p c.number) w
      (unless_firm-from p c.firm c w good (last_is_false c.firm (is_conditional c.kind) c.attempted (is_not_future w.time c.moment) is))
      (begin_abortable-keeps c.number)

  pub sent_not_begun-keeps : (c : CallNo) → Keeps G (Behind G) (sent_not_begun p c)
  unfolding sent_not_begun
  sent_not_begun-keeps c =
      with_call-keeps (plain_steps moves) c _ (λ d. looks-from (chains moves) _ (λ w good. sent_not_begun_by-from d (is_to_be_cancelled w.time d) w good refl))
