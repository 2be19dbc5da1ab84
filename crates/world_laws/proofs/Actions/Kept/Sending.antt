-- Calls that are sent on, and abortable parts that begin: each step leaves worlds good where its parts do.
use Rattle.std.proofs.Common.{◌≡◌, ℤ, Bool, true, false, cond, not, ◌&&◌, Option, Some, None, refl, is_none}
use Rattle.std.proofs.lemmas.Bool.{false≢true}
use Rattle.ann_base.specs.declared.identities.CallNo.{CallNo}
use Rattle.trace_text.specs.declared.events.Who.{Who}
use Rattle.profile_image.specs.declared.image.Image.{Image}
use Rattle.profile_image.specs.declared.numbers.StatementNo.{StatementNo}
use Rattle.profile_machine.specs.declared.world.calls.Call.{Call}
use Rattle.profile_machine.specs.declared.world.calls.CallKind.{CallKind}
use Rattle.profile_machine.specs.declared.world.calls.Sending.{Sending}
use Rattle.profile_machine.specs.declared.world.calls.CallKind.TheVariants as call_kind
use Rattle.profile_machine.specs.declared.world.appointments.Due.TheVariants as due_for
use Rattle.profile_machine.specs.declared.world.lines.Part.{Part}
use Rattle.profile_machine.specs.Steps.{changes, ◌▷◌}
use Rattle.profile_machine.specs.Calls.{call_of}
use Rattle.profile_machine.specs.Appointments.{appoint}
use Rattle.profile_machine.specs.Sending.{open_abortable, is_not_future, is_to_be_cancelled, cancel_at_once, appoint_timeout, wait_for_call}
use Rattle.profile_machine.specs.Sending.{wait_or_cancel, not_accepted, send_on, cancel_sent, begin_abortable, timeout_again, sent_not_begun_by}
use Rattle.profile_machine.specs.Sending.{sent_not_begun, new_abortable_mark, abortable_in, may_begin_abortable, is_triggering, may_time_out}
use Rattle.world_laws.proofs.Actions.FineMoves.{FineMoves, chains, says-keeps}
use Rattle.world_laws.proofs.Actions.Sound.{Good}
use Rattle.world_laws.proofs.Actions.GoodMoves.{good_moves, free-waiting}
use Rattle.trace_text.specs.declared.events.Who.TheVariants as who
use Rattle.profile_machine.specs.declared.world.tasks.Waiting.{Waiting}
use Rattle.world_laws.proofs.Actions.Kept.Switching.{Only, only-from}
use Rattle.world_laws.proofs.Actions.Kept.Combinators.{when-from}
use Rattle.world_laws.proofs.Actions.Kept.Dispatching.{ready-keeps, block-keeps}
use Rattle.world_laws.proofs.Actions.Kept.CallEnds.{deliver-keeps}
use Rattle.profile_image.specs.Program.{form_of}
use Rattle.profile_machine.specs.Frames.{new_frame, has_room}
use Rattle.profile_machine.specs.declared.world.lines.Part.TheVariants.{TheBlock, TheFinish}
use Rattle.profile_machine.specs.Dispatching.{ready}
use Rattle.profile_machine.specs.CallEnds.{waits_for_call, abortable_depth}
use Rattle.profile_machine.specs.Tasks.{waiting_of}
use Rattle.profile_machine.specs.declared.world.tasks.Waiting.TheVariants as waits_for
use Rattle.machine_laws.proofs.FineMoves.{GoodWorld, Naming}
use Rattle.line_laws.proofs.Leaving.Modes.{Nobody}
use Rattle.machine_laws.proofs.Kept.Combinators.{Alters, Keeps, changes-keeps, looks-from, looks-keeps, nothing-keeps, then-keeps}
use Rattle.world_laws.proofs.Behind.{Behind}
use Rattle.machine_laws.proofs.Plain.Calls.{edit_call-alters, with_call-keeps, says_call-keeps, unqueued-alters, attempt_with-keeps}
use Rattle.machine_laws.proofs.Plain.Results.{resume-keeps}
use Rattle.world_laws.proofs.Actions.Kept.Frames.{plain_steps}
use Rattle.machine_laws.proofs.Plain.PlainSteps.{anybody}

module _ {G : GoodWorld} {F : Naming} (moves : FineMoves G F) where
  pub open_abortable-alters : (p : Image) (name : Who) (select : StatementNo) (call : Option CallNo) → F name
      → Alters G (Behind G) (open_abortable p name select call)
  unfolding Alters
  open_abortable-alters p name select call free w good =
      moves.opens_abortable name (new_frame (new_abortable_mark select call) (abortable_in (form_of p select))) w good free refl

  pub cancel_at_once-keeps : (p : Image) (part : Part) (c : Call) → Keeps G (Behind G) (cancel_at_once p part c)
  unfolding cancel_at_once
  cancel_at_once-keeps p part c = search (attempt_with-keeps, resume-keeps, nothing-keeps, chains, plain_steps, anybody)

  appoint_timeout-alters : (p : Image) (c : CallNo) (moment : Option ℤ) → Alters G (Behind G) (appoint_timeout p c moment)
  unfolding Alters
  appoint_timeout-alters p c None w good = good
  appoint_timeout-alters p c (Some moment) w good = timed (may_time_out p w (call_of w c)) where
    timed : (may : Bool) → G (cond may (appoint (due_for.Timeout c) moment w) w)
    timed true = moves.appoints (due_for.Timeout c) moment w good
    timed false = good

  pub wait_for_call-keeps : (c : Call) → F (who.Task c.caller) → Keeps G (Behind G) (wait_for_call c)
  unfolding wait_for_call
  wait_for_call-keeps c free = block-keeps moves TheBlock (who.Task c.caller) (waits_for.Call c.number) free

  wait_or_cancel-keeps : (p : Image) (part : Part) (c : Call) (test : Bool) → F (who.Task c.caller) → Keeps G (Behind G) (wait_or_cancel p part c test)
  unfolding wait_or_cancel
  wait_or_cancel-keeps p part c true free = cancel_at_once-keeps p part c
  wait_or_cancel-keeps p part c false free =
      then-keeps (chains moves) (changes (appoint_timeout p c.number c.moment)) (wait_for_call c)
      (changes-keeps (chains moves) _ (appoint_timeout-alters p c.number c.moment)) (wait_for_call-keeps c free)

  pub not_accepted-keeps : (p : Image) (part : Part) (c : Call) (kind : CallKind) → F (who.Task c.caller) → Keeps G (Behind G) (not_accepted p part c kind)
  unfolding not_accepted
  not_accepted-keeps p part c call_kind.Plain free = wait_for_call-keeps c free
  not_accepted-keeps p part c call_kind.Conditional free = cancel_at_once-keeps p part c
  not_accepted-keeps p part c call_kind.Timed free = looks-keeps (chains moves) _ (λ w. wait_or_cancel-keeps p part c (is_not_future w.time c.moment) free)
  not_accepted-keeps p part c call_kind.Triggering free =
      changes-keeps (chains moves) _ (open_abortable-alters p (who.Task c.caller) c.statement (Some c.number) free)

  pub send_on-keeps : (c : CallNo) (s : Sending) → Keeps G (Behind G) (send_on c s)
  unfolding send_on
  send_on-keeps c s = search (changes-keeps, edit_call-alters, then-keeps, with_call-keeps, says_call-keeps, chains, plain_steps)

  pub cancel_sent-keeps : (p : Image) (c : Call) → Keeps G (Behind G) (cancel_sent p c)
  unfolding cancel_sent
  cancel_sent-keeps p c = search (changes-keeps, unqueued-alters, then-keeps, says-keeps, deliver-keeps, chains, plain_steps) depth 8

  unless_firm-alters : (p : Image) (firm : Bool) (c : Call) → Alters G (Behind G) (cond firm (λ v. v) (appoint_timeout p c.number c.moment))
  unfolding Alters
  unless_firm-alters p true c w good = good
  unless_firm-alters p false c w good = appoint_timeout-alters p c.number c.moment w good

  begins_part-keeps : (p : Image) (d : Call) → F (who.Task d.caller)
      → Keeps G (Behind G) (changes (open_abortable p (who.Task d.caller) d.statement (Some d.number)) ▷ ready p TheFinish (who.Task d.caller))
  begins_part-keeps p d free =
      then-keeps (chains moves) (changes (open_abortable p (who.Task d.caller) d.statement (Some d.number))) _
      (changes-keeps (chains moves) _ (open_abortable-alters p (who.Task d.caller) d.statement (Some d.number) free))
      (ready-keeps moves p TheFinish (who.Task d.caller))

-- ---- an abortable part begins of who waits for its call, and so has no action open

sixth : (a b c d e f g : Bool) → (a && b && c && d && e && f && g) ≡ true → f ≡ true
sixth a b c d e true g h = refl
sixth true true true true true false g h = cc
sixth true true true true false false g h = cc
sixth true true true false e false g h = cc
sixth true true false d e false g h = cc
sixth true false c d e false g h = cc
sixth false b c d e false g h = cc

waiting-some : (c : CallNo) (waiting : Option Waiting) → waits_for_call c waiting ≡ true → (x : Waiting) × (waiting ≡ Some x)
waiting-some c (Some x) e = (x, refl)
waiting-some c None e = absurd (false≢true e)

pub begin_abortable-keeps : (p : Image) (c : CallNo) → Keeps (Good Nobody) (Behind (Good Nobody)) (begin_abortable p c)
unfolding begin_abortable
begin_abortable-keeps p c =
    let beside = good_moves Nobody in
    with_call-keeps (plain_steps beside) c _ (λ d. looks-from (chains beside) _ (λ w good. when-from beside (may_begin_abortable w d) _ w good (λ e.
    let name = who.Task d.caller in
    let waits =
    sixth (is_triggering d.kind) (is_none (abortable_depth w d)) (not d.firm) (not d.attempted) (is_none d.outcome)
    (waits_for_call d.number (waiting_of w name)) (has_room w name 1 0) e in
    let found = waiting-some d.number (waiting_of w name) waits in
    only-from name _ w (free-waiting name found.0 w good.0 found.1) good (begins_part-keeps (good_moves (Only name)) p d refl))))

sent_not_begun_by-keeps : (p : Image) (c : Call) (test : Bool) → Keeps (Good Nobody) (Behind (Good Nobody)) (sent_not_begun_by p c test)
unfolding sent_not_begun_by
sent_not_begun_by-keeps p c true = cancel_sent-keeps (good_moves Nobody) p c
sent_not_begun_by-keeps p c false =
    let beside = good_moves Nobody in
    then-keeps (chains beside) (changes (timeout_again p c)) (begin_abortable p c.number)
    (changes-keeps (chains beside) _ (unless_firm-alters beside p c.firm c)) (begin_abortable-keeps p c.number)

pub sent_not_begun-keeps : (p : Image) (c : CallNo) → Keeps (Good Nobody) (Behind (Good Nobody)) (sent_not_begun p c)
unfolding sent_not_begun
sent_not_begun-keeps p c =
    with_call-keeps (plain_steps (good_moves Nobody)) c _
    (λ d. looks-keeps (chains (good_moves Nobody)) _ (λ w. sent_not_begun_by-keeps p d (is_to_be_cancelled w.time d)))
