-- Queued calls that are served, and objects that are released: each step keeps what its parts keep.
use Rattle.ann_base.specs.declared.exceptions.Raised.{Raised}
use Rattle.ann_base.specs.declared.exceptions.Raised.TheVariants as exception
use Rattle.ann_base.specs.declared.identities.CallNo.{CallNo}
use Rattle.ann_base.specs.declared.identities.ObjectNo.{ObjectNo}
use Rattle.ceiling_laws.proofs.Runs.ActingMoves.{ActingMoves, Admitting}
use Rattle.ceiling_laws.proofs.Fine.Kept.CallEnds.{deliver-keeps, resume-keeps}
use Rattle.ceiling_laws.proofs.Fine.Kept.Calls.{attempt_with-keeps, edit_call-alters, enqueue-keeps, forget_call-alters}
use Rattle.ceiling_laws.proofs.Fine.Kept.Calls.{with_call-keeps, keeps_sending-number, keeps_sending-caller}
use Rattle.ceiling_laws.proofs.Fine.Kept.Frames.{edit_top-alters, leaves-keeps, pass_on-keeps, pop-alters}
use Rattle.ceiling_laws.proofs.Runs.Kept.Protected.{edit_top_protected-alters, serve_call-keeps}
use Rattle.ceiling_laws.proofs.Runs.Kept.Sending.{begin_abortable-keeps, open_abortable-alters, send_on-keeps, sent_not_begun-keeps, wait_for_call-keeps}
use Rattle.ceiling_laws.proofs.Runs.Kept.Tasks.{edit_object-alters, plain-alters, says-keeps}
use Rattle.ceiling_laws.proofs.Runs.LevelMoves.{FitsAll, Fitting, Silences, Sleeping}
use Rattle.ceiling_laws.proofs.Runs.Triples.{Alters, Keeps, State, changes-keeps, looks-keeps, nothing-keeps, then-keeps, when-keeps}
use Rattle.ceiling_laws.proofs.Runs.Finer.{fine, fine_base}
use Rattle.profile_machine.specs.Act.{call}
use Rattle.profile_machine.specs.Calls.{forget_call, formals_count}
use Rattle.profile_machine.specs.Dispatching.{block}
use Rattle.profile_machine.specs.Frames.{frames_of, leaves}
use Rattle.profile_machine.specs.Handlers.{release}
use Rattle.profile_machine.specs.Protected.{is_action_of, served_next}
use Rattle.profile_machine.specs.Sending.{wait_for_call}
use Rattle.profile_machine.specs.Serving.{begins_part, behind_action, chosen_is_sent, close_action, end_body_of_entry, end_entry_body}
use Rattle.profile_machine.specs.Serving.{end_in_protected, end_in_protected_by, end_operation, end_release, finish_call, finish_raised, finish_well}
use Rattle.profile_machine.specs.Serving.{go_on_by_mode, is_own_call, is_served_now, keep_values, keeps_sending, may_open_abortable, no_longer_serves}
use Rattle.profile_machine.specs.Serving.{not_left, outcome_by, part_of_start, release_object, resume_own, serve_calls, serve_chosen, serve_ends}
use Rattle.profile_machine.specs.Serving.{serve_next, serves_nothing, settle_sent, wait_for_own, wait_or_unwind, with_body_left, with_values}
use Rattle.profile_machine.specs.Steps.{Step, changes, ◌▷◌}
use Rattle.profile_machine.specs.Unwinding.{may_unwind}
use Rattle.profile_machine.specs.Values.{object_of}
use Rattle.profile_image.specs.Words.{without}
use Rattle.ann_base.specs.Lists.{is_empty}
use Rattle.profile_image.specs.declared.image.Image.{Image}
use Rattle.profile_machine.specs.declared.run_data.Leaving.{Leaving}
use Rattle.profile_machine.specs.declared.run_data.Leaving.TheVariants as how
use Rattle.profile_image.specs.declared.values.Value.{Value}
use Rattle.profile_machine.specs.declared.world.World.{World}
use Rattle.profile_machine.specs.declared.world.calls.Call.{Call}
use Rattle.profile_machine.specs.declared.world.calls.Outcome.{Outcome}
use Rattle.profile_machine.specs.declared.world.calls.Outcome.TheVariants as call_ended
use Rattle.profile_machine.specs.declared.world.calls.Sending.{Sending}
use Rattle.profile_machine.specs.declared.world.lines.Line.TheVariants as line
use Rattle.profile_machine.specs.declared.world.lines.MeetingEnd.TheVariants as meeting
use Rattle.profile_machine.specs.declared.world.lines.Part.TheVariants.{Own, TheBlock, TheFinish}
use Rattle.profile_machine.specs.declared.world.marks.ProtectedMark.{ProtectedMark}
use Rattle.profile_machine.specs.declared.world.tasks.Cause.TheVariants as inherited_by
use Rattle.profile_machine.specs.declared.world.tasks.Waiting.TheVariants as waits_for
use Rattle.std.proofs.Common.{refl}
use Rattle.std.specs.Prelude.{Bool, List, None, Option, Some, false, length, suc, true, zero, ℕ}
use Rattle.trace_text.specs.declared.events.Mode.{Mode}
use Rattle.trace_text.specs.declared.events.Mode.TheVariants.{Read, Write}
use Rattle.trace_text.specs.declared.events.Who.{Who}
use Rattle.trace_text.specs.declared.events.Who.TheVariants as who
use Rattle.machine_laws.proofs.FineMoves.{Naming}

module _ {X : State} (quiet : Silences X) where
  pub keep_values-keeps : (p : Image) (c : CallNo) (cells : List Value) → Keeps X (keep_values p c cells)
  unfolding keep_values
  keep_values-keeps p c cells =
      with_call-keeps (fine quiet) c _ (λ d. changes-keeps _ (edit_call-alters (fine quiet) c (with_values cells (formals_count p d)) (λ d. refl) (λ d. refl)))

  pub end_body_of_entry-keeps : (p : Image) (c : CallNo) (cells : List Value) (leaving : Leaving) → Keeps X (end_body_of_entry p c cells leaving)
  unfolding end_body_of_entry
  end_body_of_entry-keeps p c cells leaving =
      then-keeps _ _ (changes-keeps _ (edit_call-alters (fine quiet) c (keeps_sending leaving) (keeps_sending-number leaving) (keeps_sending-caller leaving)))
      (keep_values-keeps p c cells)

  pub close_action-alters : (name : Who) (o : ObjectNo) → Alters X (close_action name o)
  close_action-alters name o = edit_object-alters quiet o (λ x. record x { actions = without (is_action_of name) x.actions }) (λ x. refl)

  serves_nothing-alters : Alters X serves_nothing
  serves_nothing-alters = plain-alters quiet serves_nothing (λ w. refl) (λ w. refl) (λ w. refl) (λ w. refl) (λ w. refl) (λ w t e. e)

  module _ (blocks : Keeps X (block TheBlock who.Agent waits_for.Release)) where
    serve_ends-keeps : (n : ℕ) → Keeps X (serve_ends n)
    unfolding serve_ends
    serve_ends-keeps n =
        then-keeps _ _ (says-keeps quiet Own (line.Served n) refl)
        (then-keeps _ _ (changes-keeps _ serves_nothing-alters) (looks-keeps _ (λ w. when-keeps (is_empty w.releases) _ blocks)))

    pub end_release-keeps : (n : ℕ) → Keeps X (end_release n)
    unfolding end_release
    end_release-keeps n = looks-keeps _ (λ w. when-keeps (is_served_now n w.serving) _ (serve_ends-keeps n))

module _ {p : Image} {actor : Who} {Fits Narrow : Fitting} {Sleeps : Sleeping} {May : Admitting} {Listed Unmade : World → Naming} {F I J W Y D : State}
    {O N V U : World → State} {E : World → Who → State}
    (acting : ActingMoves p actor Fits Narrow Sleeps May Listed Unmade F I J W Y D O N V U E) where
  wait_or_unwind-keeps : (c : Call) (test : Bool) → Keeps I (wait_or_unwind p actor c test)
  unfolding wait_or_unwind
  wait_or_unwind-keeps c true =
      attempt_with-keeps (fine acting.later.base.quiet) p Own c (changes (forget_call c.number) ▷ leaves actor how.Abort) (wait_for_call c)
      (then-keeps _ _ (changes-keeps _ (forget_call-alters (fine acting.later.base.quiet) c.number))
      (leaves-keeps (fine acting.later.base.quiet) actor how.Abort))
      (wait_for_call-keeps acting.later c)
  wait_or_unwind-keeps c false = wait_for_call-keeps acting.later c

  wait_for_own-keeps : (c : Call) (test : Bool) → Keeps I (wait_for_own p actor c test)
  unfolding wait_for_own
  wait_for_own-keeps c true = changes-keeps _ (open_abortable-alters acting.later.base.quiet p (who.Task c.caller) c.statement (Some c.number))
  wait_for_own-keeps c false = looks-keeps _ (λ w. wait_or_unwind-keeps c (may_unwind (frames_of w actor)))

  resume_own-keeps : (c : Call) (outcome : Option Outcome) → Keeps I (resume_own p actor c outcome)
  unfolding resume_own
  resume_own-keeps c (Some outcome) = resume-keeps (fine acting.later.base.quiet) p TheBlock c outcome
  resume_own-keeps c None = looks-keeps _ (λ w. wait_for_own-keeps c (may_open_abortable w actor c))

  behind_action-keeps : (m : ProtectedMark) (n : Option ℕ) (c : Option CallNo) → Keeps I (behind_action p actor m n c)
  unfolding behind_action
  behind_action-keeps m (Some release) call = end_release-keeps acting.later.base.quiet (acting.later.blocks who.Agent waits_for.Release) release
  behind_action-keeps m None None = pass_on-keeps (fine acting.later.base.quiet) p actor m.body_left
  behind_action-keeps m None (Some c) = with_call-keeps (fine acting.later.base.quiet) c _ (λ d. resume_own-keeps d d.outcome)

  pub release_object-keeps : (m : ProtectedMark) → Keeps I (release_object p actor m)
  unfolding release_object
  release_object-keeps m =
      then-keeps _ _ (acting.exits actor m.object)
      (then-keeps _ _ (changes-keeps _ (pop-alters (fine acting.later.base.quiet) actor))
      (then-keeps _ _ (changes-keeps _ (close_action-alters acting.later.base.quiet actor m.object))
      (then-keeps _ _ (acting.loses (inherited_by.Ceiling m.object)) (then-keeps _ _ acting.sets_deferred (behind_action-keeps m m.release m.own_call)))))

  settle_sent-keeps : (c : Option CallNo) (test : Bool) → Keeps I (settle_sent p c test)
  unfolding settle_sent
  settle_sent-keeps None is_served = nothing-keeps
  settle_sent-keeps (Some c) true = nothing-keeps
  settle_sent-keeps (Some c) false = sent_not_begun-keeps acting c

  begins_part-keeps : (test : Bool) (c : CallNo) → Keeps I (begins_part p test c)
  unfolding begins_part
  begins_part-keeps true c = begin_abortable-keeps acting c
  begins_part-keeps false c = nothing-keeps

  fits_start : (is_sent : Bool) → FitsAll Fits (part_of_start is_sent)
  fits_start true = acting.fits_finish
  fits_start false = acting.later.fits_own

  serve_chosen-keeps : (m : ProtectedMark) (is_sent : Bool) (again : Step) (c : Option CallNo) → Keeps I again
      → Keeps I (serve_chosen p actor m is_sent again c)
  serve_chosen-keeps m is_sent again None kept = release_object-keeps m
  serve_chosen-keeps m is_sent again (Some c) kept =
      with_call-keeps (fine acting.later.base.quiet) c _
      (λ d. serve_call-keeps acting.later.base.quiet p (part_of_start is_sent) actor m.object d (begins_part p is_sent c) _ (begins_part-keeps is_sent c)
      (then-keeps _ again
      (deliver-keeps (fine_base acting.later.base) (part_of_start is_sent) c (call_ended.ToRaise exception.Storage) (fits_start is_sent)) kept))

  serve_next-keeps : (fuel : ℕ) (m : ProtectedMark) (sent : Option CallNo) → Keeps I (serve_next fuel p actor m sent)
  unfolding serve_next
  serve_next-keeps zero m sent = release_object-keeps m
  serve_next-keeps (suc fuel) m sent =
      looks-keeps _ (λ w. let chosen = served_next p w actor (object_of w m.object) in
      then-keeps _ _ (settle_sent-keeps sent (chosen_is_sent sent chosen))
      (serve_chosen-keeps m (chosen_is_sent sent chosen) (serve_next fuel p actor m None) chosen (serve_next-keeps fuel m None)))

  serve_calls-keeps : (m : ProtectedMark) (sent : Option CallNo) → Keeps I (serve_calls p actor m sent)
  unfolding serve_calls
  serve_calls-keeps m sent = looks-keeps _ (λ w. serve_next-keeps (suc (length w.calls)) m sent)

  go_on_by_mode-keeps : (m : ProtectedMark) (mode : Mode) → Keeps I (go_on_by_mode p actor m mode)
  unfolding go_on_by_mode
  go_on_by_mode-keeps m Read = release_object-keeps m
  go_on_by_mode-keeps m Write = serve_calls-keeps m None

  end_operation-keeps : (m : ProtectedMark) (leaving : Leaving) → Keeps I (end_operation p actor m leaving)
  unfolding end_operation
  end_operation-keeps m leaving =
      then-keeps _ _ (changes-keeps _ (edit_top_protected-alters acting.later.base.quiet actor (with_body_left leaving)))
      (then-keeps _ _ (changes-keeps _ (edit_top-alters (fine acting.later.base.quiet) actor not_left)) (go_on_by_mode-keeps (with_body_left leaving m) m.mode))

  finish_raised-keeps : (m : ProtectedMark) (c : Call) (e : Raised) → Keeps I (finish_raised p actor m c e)
  unfolding finish_raised
  finish_raised-keeps m c e =
      then-keeps _ _ (says-keeps acting.later.base.quiet TheFinish (line.Finish actor c.number (meeting.Raised e)) refl)
      (then-keeps _ _ (deliver-keeps (fine_base acting.later.base) TheFinish c.number (outcome_by (is_own_call actor m.own_call c) e) acting.fits_finish)
      (serve_calls-keeps m None))

  finish_well-keeps : (m : ProtectedMark) (c : Call) (sending : Option Sending) → Keeps I (finish_well p actor m c sending)
  unfolding finish_well
  finish_well-keeps m c None =
      then-keeps _ _ (says-keeps acting.later.base.quiet TheFinish (line.Finish actor c.number meeting.Ok) refl)
      (then-keeps _ _ (deliver-keeps (fine_base acting.later.base) TheFinish c.number call_ended.Finished acting.fits_finish) (serve_calls-keeps m None))
  finish_well-keeps m c (Some s) =
      then-keeps _ _ (says-keeps acting.later.base.quiet TheFinish (line.Finish actor c.number meeting.Requeue) refl)
      (then-keeps _ _ (send_on-keeps acting.later.base.quiet c.number s)
      (then-keeps _ _ (enqueue-keeps (fine acting.later.base.quiet) p c.number) (serve_calls-keeps m (Some c.number))))

  finish_call-keeps : (m : ProtectedMark) (leaving : Leaving) (c : Call) → Keeps I (finish_call p actor m leaving c)
  unfolding finish_call
  finish_call-keeps m (how.Exception e) c = finish_raised-keeps m c e
  finish_call-keeps m how.End c = finish_well-keeps m c c.sending
  finish_call-keeps m how.Return c = finish_well-keeps m c c.sending
  finish_call-keeps m (how.Exit loop) c = finish_well-keeps m c c.sending
  finish_call-keeps m how.Abort c = finish_well-keeps m c c.sending
  finish_call-keeps m how.Terminate c = finish_well-keeps m c c.sending

  end_entry_body-keeps : (m : ProtectedMark) (leaving : Leaving) (c : CallNo) → Keeps I (end_entry_body p actor m leaving c)
  unfolding end_entry_body
  end_entry_body-keeps m leaving c =
      then-keeps _ _ (changes-keeps _ (edit_top_protected-alters acting.later.base.quiet actor no_longer_serves))
      (then-keeps _ _ (changes-keeps _ (edit_top-alters (fine acting.later.base.quiet) actor not_left))
      (with_call-keeps (fine acting.later.base.quiet) c _ (finish_call-keeps (no_longer_serves m) leaving)))

  end_in_protected_by-keeps : (m : ProtectedMark) (leaving : Leaving) (c : Option CallNo) → Keeps I (end_in_protected_by p actor m leaving c)
  unfolding end_in_protected_by
  end_in_protected_by-keeps m leaving None = end_operation-keeps m leaving
  end_in_protected_by-keeps m leaving (Some c) = end_entry_body-keeps m leaving c

  pub end_in_protected-keeps : (m : ProtectedMark) (leaving : Leaving) → Keeps I (end_in_protected p actor m leaving)
  unfolding end_in_protected
  end_in_protected-keeps m leaving = end_in_protected_by-keeps m leaving m.serves
