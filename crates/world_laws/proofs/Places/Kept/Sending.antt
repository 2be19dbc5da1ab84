-- Calls that are sent on, and abortable parts that begin: each step keeps what its parts keep.
use Rattle.ann_base.specs.declared.identities.CallNo.{CallNo}
use Rattle.world_laws.proofs.Places.ActingMoves.{ActingMoves, Lasting, LastingOf}
use Rattle.ceiling_laws.proofs.Fine.Kept.CallEnds.{deliver-keeps, resume-keeps}
use Rattle.ceiling_laws.proofs.Fine.Kept.Calls.{attempt_with-keeps, edit_call-alters, says_call-keeps, unqueued-alters, with_call-keeps}
use Rattle.ceiling_laws.proofs.Fine.Kept.Frames.{push-alters}
use Rattle.ceiling_laws.proofs.Fine.Kept.Scopes.{appoint-alters}
use Rattle.ceiling_laws.proofs.Fine.Kept.Tasks.{says-keeps}
use Rattle.ceiling_laws.proofs.Fine.Kept.Waking.{asleep_at, asleep_quiet}
use Rattle.ceiling_laws.proofs.Fine.LevelMoves.{BaseMoves, Silences}
use Rattle.ceiling_laws.proofs.Runs.Triples.{Alters, At, Keeps, Leads, State, changes-keeps, from_at, looks-keeps, looks-leads}
use Rattle.ceiling_laws.proofs.Runs.Triples.{looks-with, nothing-keeps, then-keeps, then-leads, to-leads, unchanged-alters}
use Rattle.profile_machine.specs.Act.{call}
use Rattle.profile_machine.specs.CallEnds.{abortable_depth, resume, waits_for_call}
use Rattle.profile_machine.specs.Dispatching.{block, ready}
use Rattle.profile_machine.specs.Frames.{has_room, new_frame}
use Rattle.profile_image.specs.Program.{form_of}
use Rattle.profile_machine.specs.Calls.{call_of}
use Rattle.profile_machine.specs.Appointments.{appoint}
use Rattle.profile_machine.specs.Sending.{abortable_in, appoint_timeout, begin_abortable, cancel_at_once, cancel_sent, is_not_future, is_to_be_cancelled}
use Rattle.profile_machine.specs.Sending.{is_triggering, may_begin_abortable, new_abortable_mark, not_accepted, open_abortable, send_on, sent_call}
use Rattle.profile_machine.specs.Sending.{sent_not_begun, sent_not_begun_by, timeout_again, wait_for_call, wait_or_cancel, may_time_out}
use Rattle.profile_machine.specs.Steps.{changes, nothing, when, ◌▷◌}
use Rattle.profile_machine.specs.Tasks.{task_of, waiting_of}
use Rattle.profile_machine.specs.Values.{moment}
use Rattle.profile_image.specs.declared.image.Image.{Image}
use Rattle.profile_image.specs.declared.numbers.StatementNo.{StatementNo}
use Rattle.profile_machine.specs.declared.world.World.{World}
use Rattle.profile_machine.specs.declared.world.appointments.Due.TheVariants as due_for
use Rattle.profile_machine.specs.declared.world.calls.Call.{Call}
use Rattle.profile_machine.specs.declared.world.calls.CallKind.{CallKind}
use Rattle.profile_machine.specs.declared.world.calls.CallKind.TheVariants as call_kind
use Rattle.profile_machine.specs.declared.world.calls.Outcome.TheVariants as call_ended
use Rattle.profile_machine.specs.declared.world.calls.Sending.{Sending}
use Rattle.profile_machine.specs.declared.world.lines.Line.TheVariants as line
use Rattle.profile_machine.specs.declared.world.lines.Said.{Said}
use Rattle.profile_machine.specs.declared.world.lines.Part.{Part}
use Rattle.profile_machine.specs.declared.world.lines.Part.TheVariants.{TheBlock, TheFinish}
use Rattle.profile_machine.specs.declared.world.tasks.Waiting.TheVariants as waits_for
use Rattle.std.proofs.Common.{Bool, None, Option, Some, cond, false, not, refl, subst, sym, true, ℤ, ◌&&◌, ◌≡◌, List}
use Rattle.std.specs.Prelude.{is_none}
use Rattle.std.proofs.lemmas.Bool.{and_parts}
use Rattle.trace_text.specs.declared.events.Who.{Who}
use Rattle.trace_text.specs.declared.events.Who.TheVariants as who
use Rattle.ceiling_laws.proofs.Runs.Kept.Waking.{waiting-blocked}
use Rattle.ceiling_laws.proofs.Runs.LevelMoves.{FitsAll, Fitting, Sleeping}
use Rattle.ceiling_laws.proofs.Runs.ActingMoves.{Admitting}
use Rattle.machine_laws.proofs.FineMoves.{Naming}

module _ {X : State} (quiet : Silences X) where
  pub open_abortable-alters : (p : Image) (name : Who) (select : StatementNo) (call : Option CallNo) → Alters X (open_abortable p name select call)
  open_abortable-alters p name select call = push-alters quiet name (new_frame (new_abortable_mark select call) (abortable_in (form_of p select)))

  pub cancel_at_once-keeps : (p : Image) (part : Part) (c : Call) → Keeps X (cancel_at_once p part c)
  unfolding cancel_at_once
  cancel_at_once-keeps p part c =
      attempt_with-keeps quiet p part c (resume p part c call_ended.Cancelled) nothing (resume-keeps quiet p part c call_ended.Cancelled) nothing-keeps

  pub appoint_timeout-alters : (p : Image) (c : CallNo) (moment : Option ℤ) → Alters X (appoint_timeout p c moment)
  appoint_timeout-alters p c None = unchanged-alters
  appoint_timeout-alters p c (Some moment) = record { turns = λ w said h. timed w said h (may_time_out p w (call_of w c)) } where
    timed : (w : World) (said : List Said) → X w said → (may : Bool) → X (cond may (appoint (due_for.Timeout c) moment w) w) said
    timed w said h true = (appoint-alters quiet (due_for.Timeout c) moment (λ t. refl)).turns w said h
    timed w said h false = h

  timeout_if-alters : (p : Image) (firm : Bool) (c : Call) → Alters X (cond firm (λ w. w) (appoint_timeout p c.number c.moment))
  timeout_if-alters p true c = unchanged-alters
  timeout_if-alters p false c = appoint_timeout-alters p c.number c.moment

  pub timeout_again-alters : (p : Image) (c : Call) → Alters X (timeout_again p c)
  timeout_again-alters p c = timeout_if-alters p c.firm c

  pub send_on-keeps : (c : CallNo) (s : Sending) → Keeps X (send_on c s)
  unfolding send_on
  send_on-keeps c s =
      then-keeps _ _ (changes-keeps _ (edit_call-alters quiet c (sent_call s) (λ d. refl) (λ d. refl)))
      (with_call-keeps quiet c _ (says_call-keeps quiet TheFinish))

-- ---- a call that was sent on

module _ {p : Image} {Fits : Fitting} {Sleeps : Sleeping} {X : State} (moves : BaseMoves p Fits Sleeps X) (fits_finish : FitsAll Fits TheFinish) where
  cancel_sent-keeps : (c : Call) → Keeps X (cancel_sent p c)
  unfolding cancel_sent
  cancel_sent-keeps c =
      then-keeps _ _ (changes-keeps _ (unqueued-alters moves.quiet p c))
      (then-keeps _ _ (says-keeps moves.quiet TheFinish (line.Cancel c.caller c.number) refl)
      (deliver-keeps moves TheFinish c.number call_ended.Cancelled fits_finish))

  -- where it waits for the call its abortable part opens
  opens_at : (v : World) (d : Call) (test : Bool) → may_begin_abortable v d ≡ test
      → Leads (At X v) X (when test (changes (open_abortable p (who.Task d.caller) d.statement (Some d.number)) ▷ ready p TheFinish (who.Task d.caller)))
  opens_at v d false is = from_at nothing nothing-keeps
  opens_at v d true is =
      let name = who.Task d.caller in
      let few = is_triggering d.kind && is_none (abortable_depth v d) && not d.firm && not d.attempted && is_none d.outcome in
      let waits : waits_for_call d.number (waiting_of v name) ≡ true =
      (and_parts few (waits_for_call d.number (waiting_of v name))
      ((and_parts (few && waits_for_call d.number (waiting_of v name)) (has_room v name 1 0) is).0)).1 in
      asleep_at moves name v _ (moves.sleeps v name (waiting-blocked (waits_for_call d.number) refl (task_of v name).state waits))
      (then-leads _ (ready p TheFinish name) (changes-keeps _ (open_abortable-alters (asleep_quiet moves name) p name d.statement (Some d.number)))
      (moves.wakes TheFinish name (fits_finish name)))

  pub begin_abortable-keeps : (c : CallNo) → Keeps X (begin_abortable p c)
  unfolding begin_abortable
  begin_abortable-keeps c = with_call-keeps moves.quiet c _ (λ d. looks-with _ (λ v said h. opens_at v d (may_begin_abortable v d) refl))

  sent_not_begun_by-keeps : (c : Call) (test : Bool) → Keeps X (sent_not_begun_by p c test)
  unfolding sent_not_begun_by
  sent_not_begun_by-keeps c true = cancel_sent-keeps c
  sent_not_begun_by-keeps c false = then-keeps _ _ (changes-keeps _ (timeout_again-alters moves.quiet p c)) (begin_abortable-keeps c.number)

  pub sent_not_begun-keeps : (c : CallNo) → Keeps X (sent_not_begun p c)
  unfolding sent_not_begun
  sent_not_begun-keeps c = with_call-keeps moves.quiet c _ (λ d. looks-keeps _ (λ w. sent_not_begun_by-keeps d (is_to_be_cancelled w.time d)))

-- ---- who acts waits for its call

module _ {p : Image} {actor : Who} {Fits : Fitting} {Sleeps : Sleeping} {May : Admitting} {Listed Unmade : World → Naming} {F I L W Y B D Z : State}
    {O V : World → State} {N : Lasting} {E : LastingOf}
    (acting : ActingMoves p actor Fits Sleeps May Listed Unmade F I L W Y B D Z O V N E) where
  pub wait_for_call-leads : (c : Call) → who.Task c.caller ≡ actor → Leads I Y (wait_for_call c)
  unfolding wait_for_call
  wait_for_call-leads c is = subst (λ n. Leads I Y (block TheBlock n (waits_for.Call c.number))) (sym is) (acting.blocks (waits_for.Call c.number) refl)

  cancelled-leads : (part : Part) (c : Call) → Leads I Y (cancel_at_once p part c)
  cancelled-leads part c = to-leads (cancel_at_once p part c) (cancel_at_once-keeps acting.later.base.quiet p part c) acting.ceases

  wait_or_cancel-leads : (part : Part) (c : Call) (test : Bool) → who.Task c.caller ≡ actor → Leads I Y (wait_or_cancel p part c test)
  unfolding wait_or_cancel
  wait_or_cancel-leads part c true is = cancelled-leads part c
  wait_or_cancel-leads part c false is =
      then-leads _ _ (changes-keeps _ (appoint_timeout-alters acting.later.base.quiet p c.number c.moment)) (wait_for_call-leads c is)

  pub not_accepted-leads : (part : Part) (c : Call) (kind : CallKind) → who.Task c.caller ≡ actor → Leads I Y (not_accepted p part c kind)
  unfolding not_accepted
  not_accepted-leads part c call_kind.Plain is = wait_for_call-leads c is
  not_accepted-leads part c call_kind.Conditional is = cancelled-leads part c
  not_accepted-leads part c call_kind.Timed is = looks-leads _ (λ w. wait_or_cancel-leads part c (is_not_future w.time c.moment) is)
  not_accepted-leads part c call_kind.Triggering is =
      to-leads _ (changes-keeps _ (open_abortable-alters acting.later.base.quiet p (who.Task c.caller) c.statement (Some c.number))) acting.ceases
