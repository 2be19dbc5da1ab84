-- Calls that are sent on, and abortable parts that begin: each step keeps a relation that its parts keep.
use Rattle.std.proofs.Common.{◌≡◌, ℤ, Bool, true, false, cond, not, ◌&&◌, Option, Some, None, refl, []}
use Rattle.std.specs.Prelude.{is_none}
use Rattle.std.proofs.lemmas.Bool.{and_parts}
use Rattle.ann_base.specs.declared.identities.CallNo.{CallNo}
use Rattle.trace_text.specs.declared.events.Who.{Who}
use Rattle.trace_text.specs.declared.events.Who.TheVariants as who
use Rattle.profile_image.specs.declared.image.Image.{Image}
use Rattle.profile_image.specs.declared.numbers.StatementNo.{StatementNo}
use Rattle.profile_machine.specs.declared.world.World.{World}
use Rattle.profile_machine.specs.declared.world.appointments.Due.TheVariants as due_for
use Rattle.profile_machine.specs.declared.world.calls.Call.{Call}
use Rattle.profile_machine.specs.declared.world.calls.CallKind.{CallKind}
use Rattle.profile_machine.specs.declared.world.calls.CallKind.TheVariants as call_kind
use Rattle.profile_machine.specs.declared.world.calls.Sending.{Sending}
use Rattle.profile_machine.specs.declared.world.lines.Part.{Part}
use Rattle.profile_machine.specs.declared.world.lines.Part.TheVariants.{TheFinish, TheBlock}
use Rattle.profile_machine.specs.declared.world.tasks.Waiting.TheVariants as waits_for
use Rattle.profile_machine.specs.CallEnds.{waits_for_call, abortable_depth}
use Rattle.profile_machine.specs.Dispatching.{ready}
use Rattle.profile_machine.specs.Frames.{has_room, new_frame}
use Rattle.profile_image.specs.Program.{form_of}
use Rattle.profile_machine.specs.Calls.{call_of}
use Rattle.profile_machine.specs.Appointments.{appoint}
use Rattle.profile_machine.specs.Sending.{may_begin_abortable, is_triggering, open_abortable, is_not_future, is_to_be_cancelled, cancel_at_once}
use Rattle.profile_machine.specs.Sending.{appoint_timeout, wait_for_call, wait_or_cancel, not_accepted, send_on, cancel_sent, begin_abortable}
use Rattle.profile_machine.specs.Sending.{timeout_again, sent_not_begun_by, sent_not_begun, new_abortable_mark, abortable_in, may_time_out}
use Rattle.profile_machine.specs.Steps.{◌▷◌, when, nothing, changes}
use Rattle.profile_machine.specs.Tasks.{waiting_of}
use Rattle.machine_laws.proofs.Moves.{StepRelation, MoveRelation}
use Rattle.world_laws.proofs.Appointments.FineMoves.{FineMoves, chains, says-keeps}
use Rattle.world_laws.proofs.Appointments.Kept.CallEnds.{waits-call, deliver-keeps}
use Rattle.world_laws.proofs.Appointments.Kept.Dispatching.{ready-from, idle_then-from, block-keeps}
use Rattle.world_laws.proofs.Appointments.Kept.Frames.{push-alters, plain_steps}
use Rattle.machine_laws.proofs.FineMoves.{GoodWorld, Naming}
use Rattle.machine_laws.proofs.Kept.Combinators.{Alters, From, Keeps, changes-keeps, keeps-from, looks-from}
use Rattle.machine_laws.proofs.Kept.Combinators.{looks-keeps, nothing-keeps, then-keeps, unchanged-alters}
use Rattle.machine_laws.proofs.Plain.Results.{resume-keeps}
use Rattle.machine_laws.proofs.Plain.Calls.{edit_call-alters, with_call-keeps, says_call-keeps, unqueued-alters, attempt_with-keeps}
use Rattle.machine_laws.proofs.Plain.PlainSteps.{anybody}

module _ {G : GoodWorld} {May : Naming} {R : StepRelation} {Q : MoveRelation} (moves : FineMoves G May R Q) where
  pub open_abortable-alters : (p : Image) (name : Who) (select : StatementNo) (call : Option CallNo) → Alters G R (open_abortable p name select call)
  open_abortable-alters p name select call = push-alters moves name (new_frame (new_abortable_mark select call) (abortable_in (form_of p select))) refl

  pub cancel_at_once-keeps : (p : Image) (part : Part) (c : Call) → Keeps G R (cancel_at_once p part c)
  unfolding cancel_at_once
  cancel_at_once-keeps p part c = search (attempt_with-keeps, resume-keeps, nothing-keeps, chains, plain_steps, anybody)

  appoint_timeout-alters : (p : Image) (c : CallNo) (moment : Option ℤ) → Alters G R (appoint_timeout p c moment)
  unfolding Alters
  appoint_timeout-alters p c None w good = moves.stays w good
  appoint_timeout-alters p c (Some moment) w good = timed (may_time_out p w (call_of w c)) where
    timed : (may : Bool) → R w [] (cond may (appoint (due_for.Timeout c) moment w) w)
    timed true = moves.appoints (due_for.Timeout c) moment w good (λ t. refl)
    timed false = moves.stays w good

  pub wait_for_call-keeps : (c : Call) → May (who.Task c.caller) → Keeps G R (wait_for_call c)
  unfolding wait_for_call
  wait_for_call-keeps c may = block-keeps moves TheBlock (who.Task c.caller) (waits_for.Call c.number) may

  wait_or_cancel-keeps : (p : Image) (part : Part) (c : Call) (test : Bool) → May (who.Task c.caller) → Keeps G R (wait_or_cancel p part c test)
  unfolding wait_or_cancel
  wait_or_cancel-keeps p part c true may = cancel_at_once-keeps p part c
  wait_or_cancel-keeps p part c false may =
      then-keeps (chains moves) _ _ (changes-keeps (chains moves) _ (appoint_timeout-alters p c.number c.moment)) (wait_for_call-keeps c may)

  pub not_accepted-keeps : (p : Image) (part : Part) (c : Call) (kind : CallKind) → May (who.Task c.caller) → Keeps G R (not_accepted p part c kind)
  unfolding not_accepted
  not_accepted-keeps p part c call_kind.Plain may = wait_for_call-keeps c may
  not_accepted-keeps p part c call_kind.Conditional may = cancel_at_once-keeps p part c
  not_accepted-keeps p part c call_kind.Timed may = looks-keeps (chains moves) _ (λ w. wait_or_cancel-keeps p part c (is_not_future w.time c.moment) may)
  not_accepted-keeps p part c call_kind.Triggering may =
      changes-keeps (chains moves) _ (open_abortable-alters p (who.Task c.caller) c.statement (Some c.number))

  pub send_on-keeps : (c : CallNo) (s : Sending) → Keeps G R (send_on c s)
  unfolding send_on
  send_on-keeps c s = search (changes-keeps, edit_call-alters, then-keeps, with_call-keeps, says_call-keeps, chains, plain_steps)

  pub cancel_sent-keeps : (p : Image) (c : Call) → Keeps G R (cancel_sent p c)
  unfolding cancel_sent
  cancel_sent-keeps p c = search (changes-keeps, unqueued-alters, then-keeps, says-keeps, deliver-keeps, chains, plain_steps) depth 8

  -- where it waits for the call its abortable part opens
  opens_where : (p : Image) (d : Call) (w : World) (test : Bool) → G w → may_begin_abortable w d ≡ test
      → From R w (when test (changes (open_abortable p (who.Task d.caller) d.statement (Some d.number)) ▷ ready p TheFinish (who.Task d.caller)))
  opens_where p d w false good is = keeps-from (chains moves) nothing w good (nothing-keeps (chains moves))
  opens_where p d w true good is =
      let name = who.Task d.caller in
      let few = is_triggering d.kind && is_none (abortable_depth w d) && not d.firm && not d.attempted && is_none d.outcome in
      let waits : waits_for_call d.number (waiting_of w name) ≡ true =
      (and_parts few (waits_for_call d.number (waiting_of w name))
      ((and_parts (few && waits_for_call d.number (waiting_of w name)) (has_room w name 1 0) is).0)).1 in
      idle_then-from moves name (changes (open_abortable p name d.statement (Some d.number))) (ready p TheFinish name) w good
      (moves.asleep name w good (waits-call d.number (waiting_of w name) waits))
      (changes-keeps (chains moves) _ (open_abortable-alters p name d.statement (Some d.number)))
      (λ v good_v idle. ready-from moves p TheFinish name v good_v idle)

  pub begin_abortable-keeps : (p : Image) (c : CallNo) → Keeps G R (begin_abortable p c)
  unfolding begin_abortable
  begin_abortable-keeps p c =
      with_call-keeps (plain_steps moves) c _ (λ d. looks-from (chains moves) _ (λ w good. opens_where p d w (may_begin_abortable w d) good refl))

  timeout_again-alters : (p : Image) (c : Call) → Alters G R (timeout_again p c)
  timeout_again-alters p c = unless_firm c.firm where
    unless_firm : (firm : Bool) → Alters G R (cond firm (λ v. v) (appoint_timeout p c.number c.moment))
    unless_firm true = unchanged-alters (chains moves)
    unless_firm false = appoint_timeout-alters p c.number c.moment

  sent_not_begun_by-keeps : (p : Image) (c : Call) (test : Bool) → Keeps G R (sent_not_begun_by p c test)
  unfolding sent_not_begun_by
  sent_not_begun_by-keeps p c true = cancel_sent-keeps p c
  sent_not_begun_by-keeps p c false =
      then-keeps (chains moves) _ _ (changes-keeps (chains moves) _ (timeout_again-alters p c)) (begin_abortable-keeps p c.number)

  pub sent_not_begun-keeps : (p : Image) (c : CallNo) → Keeps G R (sent_not_begun p c)
  unfolding sent_not_begun
  sent_not_begun-keeps p c =
      with_call-keeps (plain_steps moves) c _ (λ d. looks-keeps (chains moves) _ (λ w. sent_not_begun_by-keeps p d (is_to_be_cancelled w.time d)))
