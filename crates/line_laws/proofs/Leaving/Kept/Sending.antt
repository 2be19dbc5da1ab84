-- Calls that are sent on, and abortable parts that begin: each step keeps a relation that its parts keep.
use Rattle.std.proofs.Common.{◌≡◌, ℤ, Bool, true, false, cond, not, ◌&&◌, Option, Some, None, refl, []}
use Rattle.std.proofs.lemmas.Bool.{and_parts}
use Rattle.ann_base.specs.declared.identities.CallNo.{CallNo}
use Rattle.trace_text.specs.declared.events.Who.{Who}
use Rattle.profile_image.specs.declared.image.Image.{Image}
use Rattle.profile_image.specs.declared.numbers.StatementNo.{StatementNo}
use Rattle.profile_machine.specs.declared.world.World.{World}
use Rattle.profile_machine.specs.declared.world.calls.Call.{Call}
use Rattle.profile_machine.specs.declared.world.calls.CallKind.{CallKind}
use Rattle.profile_machine.specs.declared.world.calls.Sending.{Sending}
use Rattle.profile_machine.specs.declared.world.calls.CallKind.TheVariants as call_kind
use Rattle.profile_machine.specs.declared.world.appointments.Due.TheVariants as due_for
use Rattle.profile_machine.specs.declared.world.lines.Part.{Part}
use Rattle.profile_machine.specs.Steps.{changes}
use Rattle.profile_machine.specs.Appointments.{appoint}
use Rattle.profile_machine.specs.Calls.{call_of}
use Rattle.profile_machine.specs.Sending.{open_abortable, is_not_future, is_conditional, is_to_be_cancelled, cancel_at_once, appoint_timeout}
use Rattle.profile_machine.specs.Sending.{wait_for_call, wait_or_cancel, not_accepted, send_on, cancel_sent, begin_abortable, timeout_again}
use Rattle.profile_machine.specs.Sending.{sent_not_begun_by, sent_not_begun, new_abortable_mark, abortable_in, may_time_out}
use Rattle.machine_laws.proofs.Moves.{StepRelation, MoveRelation}
use Rattle.line_laws.proofs.Leaving.FineMoves.{FineMoves, chains, says-keeps}
use Rattle.line_laws.proofs.Leaving.Kept.Dispatching.{ready-keeps, block-keeps}
use Rattle.line_laws.proofs.Leaving.Kept.CallEnds.{deliver-keeps, waits-call}
use Rattle.line_laws.proofs.Leaving.Kept.Frames.{push-alters, no_call, plain_steps}
use Rattle.trace_text.specs.declared.events.Who.TheVariants as who
use Rattle.profile_machine.specs.Tasks.{waiting_of}
use Rattle.profile_machine.specs.CallEnds.{waits_for_call, abortable_depth}
use Rattle.profile_machine.specs.Sending.{may_begin_abortable, is_triggering}
use Rattle.profile_machine.specs.Dispatching.{ready}
use Rattle.profile_machine.specs.Frames.{push, has_room}
use Rattle.profile_machine.specs.Steps.{when, nothing, ◌▷◌}
use Rattle.std.specs.Prelude.{is_none}
use Rattle.profile_machine.specs.declared.world.lines.Part.TheVariants.{TheFinish}
use Rattle.profile_image.specs.Program.{form_of}
use Rattle.profile_machine.specs.Frames.{new_frame}
use Rattle.machine_laws.proofs.FineMoves.{GoodWorld, Naming}
use Rattle.machine_laws.proofs.Kept.Sending.{last_is_false}
use Rattle.machine_laws.proofs.Kept.Combinators.{Alters, From, Keeps, changes-from, changes-keeps, keeps-from}
use Rattle.machine_laws.proofs.Kept.Combinators.{looks-from, nothing-keeps, then-from, then-keeps, unchanged-alters}
use Rattle.machine_laws.proofs.Plain.Calls.{edit_call-alters, with_call-keeps, says_call-keeps, unqueued-alters, attempt_with-keeps}
use Rattle.machine_laws.proofs.Plain.Results.{resume-keeps}

-- of a test that fails, unless the first part is why

module _ {G : GoodWorld} {May Acts Pushes : Naming} {Stops : Type 0} {R : StepRelation} {Q : MoveRelation} (moves : FineMoves G May Acts Pushes Stops R Q) where
  pub open_abortable-alters : (p : Image) (name : Who) (select : StatementNo) (call : Option CallNo) → May name → Alters G R (open_abortable p name select call)
  open_abortable-alters p name select call may =
      push-alters moves name (new_frame (new_abortable_mark select call) (abortable_in (form_of p select))) may refl refl refl

  pub cancel_at_once-keeps : (p : Image) (part : Part) (c : Call) → May (who.Task c.caller) → Keeps G R (cancel_at_once p part c)
  unfolding cancel_at_once
  cancel_at_once-keeps p part c may = search (attempt_with-keeps, resume-keeps, nothing-keeps, chains, plain_steps)

  appoint_timeout-from : (p : Image) (c : CallNo) (moment : Option ℤ) (w : World) → G w → is_not_future w.time moment ≡ false
      → From R w (changes (appoint_timeout p c moment))
  appoint_timeout-from p c None w good later =
      keeps-from (chains moves) (changes (λ v. v)) w good (changes-keeps (chains moves) (λ v. v) (unchanged-alters (chains moves)))
  appoint_timeout-from p c (Some moment) w good later =
      changes-from (chains moves) (appoint_timeout p c (Some moment)) w (timed (may_time_out p w (call_of w c))) where
        timed : (may : Bool) → R w [] (cond may (appoint (due_for.Timeout c) moment w) w)
        timed true = moves.appoints (due_for.Timeout c) moment w good
        timed false = moves.stays w good

  pub wait_for_call-keeps : (c : Call) → May (who.Task c.caller) → Keeps G R (wait_for_call c)
  unfolding wait_for_call
  wait_for_call-keeps c may = search (block-keeps)

  wait_or_cancel-from : (p : Image) (part : Part) (c : Call) (test : Bool) (w : World) → G w → May (who.Task c.caller) → is_not_future w.time c.moment ≡ test
      → From R w (wait_or_cancel p part c test)
  unfolding wait_or_cancel
  wait_or_cancel-from p part c true w good may is = keeps-from (chains moves) (cancel_at_once p part c) w good (cancel_at_once-keeps p part c may)
  wait_or_cancel-from p part c false w good may is =
      then-from (chains moves) (changes (appoint_timeout p c.number c.moment)) (wait_for_call c) w (appoint_timeout-from p c.number c.moment w good is)
      (wait_for_call-keeps c may)

  pub not_accepted-keeps : (p : Image) (part : Part) (c : Call) (kind : CallKind) → May (who.Task c.caller) → Keeps G R (not_accepted p part c kind)
  unfolding not_accepted
  not_accepted-keeps p part c call_kind.Plain may = search (wait_for_call-keeps)
  not_accepted-keeps p part c call_kind.Conditional may = search (cancel_at_once-keeps)
  not_accepted-keeps p part c call_kind.Timed may =
      looks-from (chains moves) _ (λ w good. wait_or_cancel-from p part c (is_not_future w.time c.moment) w good may refl)
  not_accepted-keeps p part c call_kind.Triggering may = search (changes-keeps, open_abortable-alters, chains)

  pub send_on-keeps : (c : CallNo) (s : Sending) → Keeps G R (send_on c s)
  unfolding send_on
  send_on-keeps c s = search (changes-keeps, edit_call-alters, then-keeps, with_call-keeps, says_call-keeps, chains, plain_steps)

  pub cancel_sent-keeps : (p : Image) (c : Call) → Keeps G R (cancel_sent p c)
  unfolding cancel_sent
  cancel_sent-keeps p c = search (changes-keeps, unqueued-alters, then-keeps, says-keeps, deliver-keeps, chains, plain_steps) depth 8

  first-of-all : (a b c d e f g : Bool) → (a && b && c && d && e && f && g) ≡ true → f ≡ true
  first-of-all true true true true true f g h = (and_parts f g h).0
  first-of-all true true true true false f g h = absurd cc
  first-of-all true true true false e f g h = absurd cc
  first-of-all true true false d e f g h = absurd cc
  first-of-all true false c d e f g h = absurd cc
  first-of-all false b c d e f g h = absurd cc

  -- who waits for the call opens its abortable part, and becomes ready
  opens_part-from : (p : Image) (d : Call) (w : World) → G w → waits_for_call d.number (waiting_of w (who.Task d.caller)) ≡ true
      → From R w (changes (open_abortable p (who.Task d.caller) d.statement (Some d.number)) ▷ ready p TheFinish (who.Task d.caller))
  opens_part-from p d w good is =
      let name = who.Task d.caller in
      let waiting = waits-call moves d.number (waiting_of w name) is in
      let f = new_frame (new_abortable_mark d.statement (Some d.number)) (abortable_in (form_of p d.statement)) in
      then-from (chains moves) (changes (open_abortable p name d.statement (Some d.number))) (ready p TheFinish name) w
      (changes-from (chains moves) (push name f) w
      (moves.pushes name f w good (moves.waiting_pushes name w good waiting) (moves.waiting_free name w good waiting) refl refl
      (λ c e. no_call c None refl e)))
      (ready-keeps moves p TheFinish name)

  begins-from : (p : Image) (d : Call) (w : World) (test : Bool) → G w → may_begin_abortable w d ≡ test
      → From R w (when test (changes (open_abortable p (who.Task d.caller) d.statement (Some d.number)) ▷ ready p TheFinish (who.Task d.caller)))
  begins-from p d w true good is =
      opens_part-from p d w good
      (first-of-all (is_triggering d.kind) (is_none (abortable_depth w d)) (not d.firm) (not d.attempted) (is_none d.outcome)
      (waits_for_call d.number (waiting_of w (who.Task d.caller))) (has_room w (who.Task d.caller) 1 0) is)
  begins-from p d w false good is = keeps-from (chains moves) nothing w good (nothing-keeps (chains moves))

  pub begin_abortable-keeps : (p : Image) (c : CallNo) → Keeps G R (begin_abortable p c)
  unfolding begin_abortable
  begin_abortable-keeps p c =
      with_call-keeps (plain_steps moves) c _ (λ d. looks-from (chains moves) _ (λ w good. begins-from p d w (may_begin_abortable w d) good refl))

  unless_firm-from : (p : Image) (firm : Bool) (c : Call) (w : World) → G w → (firm ≡ false → is_not_future w.time c.moment ≡ false)
      → From R w (changes (cond firm (λ v. v) (appoint_timeout p c.number c.moment)))
  unless_firm-from p true c w good later =
      keeps-from (chains moves) (changes (λ v. v)) w good (changes-keeps (chains moves) (λ v. v) (unchanged-alters (chains moves)))
  unless_firm-from p false c w good later = appoint_timeout-from p c.number c.moment w good (later refl)

  sent_not_begun_by-from : (p : Image) (c : Call) (test : Bool) (w : World) → G w → is_to_be_cancelled w.time c ≡ test → From R w (sent_not_begun_by p c test)
  unfolding sent_not_begun_by
  sent_not_begun_by-from p c true w good is = keeps-from (chains moves) (cancel_sent p c) w good (cancel_sent-keeps p c)
  sent_not_begun_by-from p c false w good is =
      then-from (chains moves) (changes (timeout_again p c)) (begin_abortable p c.number) w
      (unless_firm-from p c.firm c w good (last_is_false c.firm (is_conditional c.kind) c.attempted (is_not_future w.time c.moment) is))
      (begin_abortable-keeps p c.number)

  pub sent_not_begun-keeps : (p : Image) (c : CallNo) → Keeps G R (sent_not_begun p c)
  unfolding sent_not_begun
  sent_not_begun-keeps p c =
      with_call-keeps (plain_steps moves) c _
      (λ d. looks-from (chains moves) _ (λ w good. sent_not_begun_by-from p d (is_to_be_cancelled w.time d) w good refl))
