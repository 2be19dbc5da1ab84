-- Queued calls that are served, and objects that are released: each step keeps a relation that its parts keep.
use Rattle.std.proofs.Common.{◌≡◌, refl, sym, subst}
use Rattle.std.specs.Prelude.{ℕ, zero, suc, Bool, true, false, Option, Some, None, length}
use Rattle.ann_base.specs.declared.exceptions.Raised.{Raised}
use Rattle.ann_base.specs.declared.exceptions.Raised.TheVariants as exception
use Rattle.ann_base.specs.declared.identities.CallNo.{CallNo}
use Rattle.ann_base.specs.declared.identities.ObjectNo.{ObjectNo}
use Rattle.trace_text.specs.declared.events.Mode.{Mode}
use Rattle.trace_text.specs.declared.events.Mode.TheVariants.{Read, Write}
use Rattle.trace_text.specs.declared.events.Who.{Who}
use Rattle.trace_text.specs.declared.events.Who.TheVariants as who
use Rattle.profile_image.specs.declared.image.Image.{Image}
use Rattle.profile_machine.specs.declared.run_data.Leaving.{Leaving}
use Rattle.profile_machine.specs.declared.run_data.Leaving.TheVariants as how
use Rattle.profile_machine.specs.declared.world.World.{World}
use Rattle.profile_machine.specs.declared.world.calls.Call.{Call}
use Rattle.profile_machine.specs.declared.world.calls.Outcome.{Outcome}
use Rattle.profile_machine.specs.declared.world.calls.Outcome.TheVariants as call_ended
use Rattle.profile_machine.specs.declared.world.calls.Sending.{Sending}
use Rattle.profile_machine.specs.declared.world.lines.Line.TheVariants as line
use Rattle.profile_machine.specs.declared.world.lines.Part.TheVariants.{Own, TheBlock}
use Rattle.profile_machine.specs.declared.world.marks.ProtectedMark.{ProtectedMark}
use Rattle.profile_machine.specs.declared.world.tasks.Cause.TheVariants as inherited_by
use Rattle.profile_machine.specs.declared.world.tasks.Waiting.TheVariants as waits_for
use Rattle.profile_machine.specs.Calls.{forget_call, call_of}
use Rattle.profile_machine.specs.Dispatching.{block}
use Rattle.profile_machine.specs.Frames.{leaves, frames_of}
use Rattle.profile_machine.specs.Protected.{served_next}
use Rattle.profile_machine.specs.Sending.{wait_for_call}
use Rattle.profile_machine.specs.Serving.{may_open_abortable, serves_nothing, is_served_now, serve_ends, end_release, close_action}
use Rattle.profile_machine.specs.Serving.{wait_or_unwind, wait_for_own, resume_own, behind_action, release_object, settle_sent, begins_part}
use Rattle.profile_machine.specs.Serving.{chosen_is_sent, serve_chosen, serve_next, serve_calls, go_on_by_mode, end_operation, finish_raised}
use Rattle.profile_machine.specs.Serving.{finish_well, finish_call, end_entry_body, end_in_protected_by, end_in_protected, part_of_start}
use Rattle.profile_machine.specs.Steps.{for_some, Step, changes, nothing, ◌▷◌}
use Rattle.profile_machine.specs.Unwinding.{may_unwind}
use Rattle.profile_machine.specs.Values.{object_of}
use Rattle.ann_base.specs.Lists.{is_empty}
use Rattle.machine_laws.proofs.Moves.{StepRelation, MoveRelation, own}
use Rattle.ceiling_laws.proofs.Fine.Cores.{Caller}
use Rattle.world_laws.proofs.Appointments.FineMoves.{FineMoves, chains, says-keeps}
use Rattle.world_laws.proofs.Appointments.Kept.CallEnds.{deliver-keeps}
use Rattle.world_laws.proofs.Appointments.Kept.Dispatching.{block-from}
use Rattle.world_laws.proofs.Appointments.Kept.Frames.{pop-alters, edit_top-alters, leaves-keeps, plain_steps}
use Rattle.world_laws.proofs.Appointments.Kept.Inheritance.{lose_running-keeps}
use Rattle.world_laws.proofs.Appointments.Kept.Priorities.{set_deferred-keeps}
use Rattle.world_laws.proofs.Appointments.Kept.Protected.{edit_top_protected-alters, serve_call-keeps}
use Rattle.world_laws.proofs.Appointments.Kept.Sending.{open_abortable-alters, wait_for_call-keeps, send_on-keeps, begin_abortable-keeps, sent_not_begun-keeps}
use Rattle.machine_laws.proofs.FineMoves.{GoodWorld, Naming}
use Rattle.machine_laws.proofs.Kept.Combinators.{Alters, From, Keeps, changes-keeps, from-keeps, keeps-from}
use Rattle.machine_laws.proofs.Kept.Combinators.{looks-from, looks-keeps, nothing-keeps, then-keeps, when-keeps}
use Rattle.machine_laws.proofs.Plain.Results.{resume-keeps}
use Rattle.machine_laws.proofs.Plain.Calls.{forget_call-alters, with_call-keeps, enqueue-keeps, attempt_with-keeps}
use Rattle.machine_laws.proofs.Plain.Frames.{pass_on-keeps}

-- the call of its own with which somebody entered is its own
abbrev pub OwnCalled : GoodWorld → Who → Option CallNo → Type 0
OwnCalled G name call = (w : World) → G w → (c : CallNo) → call ≡ Some c → Caller c name w

module _ {G : GoodWorld} {May : Naming} {R : StepRelation} {Q : MoveRelation} (moves : FineMoves G May R Q) where
  serves_nothing-alters : Alters G R serves_nothing
  unfolding Alters
  serves_nothing-alters w good = moves.serves w good

  agent_blocks : Keeps G R (block TheBlock who.Agent waits_for.Release)
  agent_blocks = from-keeps (chains moves) _ (λ w good. block-from moves TheBlock who.Agent waits_for.Release w good tt)

  serve_ends-keeps : (n : ℕ) → Keeps G R (serve_ends n)
  unfolding serve_ends
  serve_ends-keeps n =
      then-keeps (chains moves) _ _ (says-keeps moves Own (line.Served n) refl)
      (then-keeps (chains moves) _ _ (changes-keeps (chains moves) _ serves_nothing-alters)
      (looks-keeps (chains moves) _ (λ w. when-keeps (chains moves) (is_empty w.releases) _ agent_blocks)))

  pub end_release-keeps : (n : ℕ) → Keeps G R (end_release n)
  unfolding end_release
  end_release-keeps n = looks-keeps (chains moves) _ (λ w. when-keeps (chains moves) (is_served_now n w.serving) _ (serve_ends-keeps n))

  -- ---- a protected action goes on and ends

  close_action-alters : (name : Who) (o : ObjectNo) → Alters G R (close_action name o)
  unfolding Alters
  close_action-alters name o w good = moves.closes name o w good

  wait_or_unwind-keeps : (p : Image) (name : Who) (c : Call) (test : Bool) → May (who.Task c.caller) → Keeps G R (wait_or_unwind p name c test)
  unfolding wait_or_unwind
  wait_or_unwind-keeps p name c true may =
      attempt_with-keeps (plain_steps moves) p Own c (changes (forget_call c.number) ▷ leaves name how.Abort) (wait_for_call c)
      (then-keeps (chains moves) _ _ (changes-keeps (chains moves) _ (forget_call-alters (plain_steps moves) c.number)) (leaves-keeps moves name how.Abort))
      (wait_for_call-keeps moves c may)
  wait_or_unwind-keeps p name c false may = wait_for_call-keeps moves c may

  wait_for_own-keeps : (p : Image) (name : Who) (c : Call) (test : Bool) → May (who.Task c.caller) → Keeps G R (wait_for_own p name c test)
  unfolding wait_for_own
  wait_for_own-keeps p name c true may = changes-keeps (chains moves) _ (open_abortable-alters moves p (who.Task c.caller) c.statement (Some c.number))
  wait_for_own-keeps p name c false may = looks-keeps (chains moves) _ (λ w. wait_or_unwind-keeps p name c (may_unwind (frames_of w name)) may)

  resume_own-keeps : (p : Image) (name : Who) (c : Call) (outcome : Option Outcome) → May (who.Task c.caller) → Keeps G R (resume_own p name c outcome)
  unfolding resume_own
  resume_own-keeps p name c (Some outcome) may = resume-keeps (plain_steps moves) p TheBlock c outcome tt
  resume_own-keeps p name c None may = looks-keeps (chains moves) _ (λ w. wait_for_own-keeps p name c (may_open_abortable w name c) may)

  resume_found-from : (p : Image) (name : Who) (found : Option Call) (w : World) → G w → May name → ((d : Call) → found ≡ Some d → who.Task d.caller ≡ name)
      → From R w (for_some found (λ d. resume_own p name d d.outcome))
  resume_found-from p name None w good may called = keeps-from (chains moves) nothing w good (nothing-keeps (chains moves))
  resume_found-from p name (Some d) w good may called =
      keeps-from (chains moves) _ w good (resume_own-keeps p name d d.outcome (subst May (sym (called d refl)) may))

  behind_action-keeps : (p : Image) (name : Who) (m : ProtectedMark) (n : Option ℕ) (c : Option CallNo) → May name → OwnCalled G name c
      → Keeps G R (behind_action p name m n c)
  unfolding behind_action
  behind_action-keeps p name m (Some release) call may own = end_release-keeps release
  behind_action-keeps p name m None None may own = pass_on-keeps (plain_steps moves) p name m.body_left tt
  behind_action-keeps p name m None (Some c) may own =
      looks-from (chains moves) _ (λ w good. resume_found-from p name (call_of w c) w good may (own w good c refl).1)

  pub release_object-keeps : (p : Image) (name : Who) (m : ProtectedMark) → May name → OwnCalled G name m.own_call → Keeps G R (release_object p name m)
  unfolding release_object
  release_object-keeps p name m may own =
      then-keeps (chains moves) _ _ (says-keeps moves Own (line.Exit name m.object) refl)
      (then-keeps (chains moves) _ _ (changes-keeps (chains moves) _ (pop-alters moves name))
      (then-keeps (chains moves) _ _ (changes-keeps (chains moves) _ (close_action-alters name m.object))
      (then-keeps (chains moves) _ _ (lose_running-keeps moves p name (inherited_by.Ceiling m.object) may)
      (then-keeps (chains moves) _ _ (set_deferred-keeps moves p name) (behind_action-keeps p name m m.release m.own_call may own)))))

  pub settle_sent-keeps : (p : Image) (c : Option CallNo) (test : Bool) → Keeps G R (settle_sent p c test)
  unfolding settle_sent
  settle_sent-keeps p None is_served = search (nothing-keeps, chains)
  settle_sent-keeps p (Some c) true = search (nothing-keeps, chains)
  settle_sent-keeps p (Some c) false = search (sent_not_begun-keeps)

  pub begins_part-keeps : (p : Image) (test : Bool) (c : CallNo) → Keeps G R (begins_part p test c)
  unfolding begins_part
  begins_part-keeps p true c = search (begin_abortable-keeps)
  begins_part-keeps p false c = search (nothing-keeps, chains)

  pub serve_chosen-keeps : (p : Image) (name : Who) (m : ProtectedMark) (is_sent : Bool) (again : Step) (c : Option CallNo) → May name
      → OwnCalled G name m.own_call → Keeps G R again → Keeps G R (serve_chosen p name m is_sent again c)
  serve_chosen-keeps p name m is_sent again None other own kept = release_object-keeps p name m other own
  serve_chosen-keeps p name m is_sent again (Some c) other own kept =
      with_call-keeps (plain_steps moves) c _
      (λ d. serve_call-keeps moves p (part_of_start is_sent) name m.object d (begins_part p is_sent c) _ (begins_part-keeps p is_sent c)
      (then-keeps (chains moves) _ again (deliver-keeps moves p (part_of_start is_sent) c (call_ended.ToRaise exception.Storage)) kept))

  pub serve_next-keeps : (fuel : ℕ) (p : Image) (name : Who) (mark : ProtectedMark) (sent : Option CallNo) → May name → OwnCalled G name mark.own_call
      → Keeps G R (serve_next fuel p name mark sent)
  unfolding serve_next
  serve_next-keeps zero p name mark sent other own = release_object-keeps p name mark other own
  serve_next-keeps (suc fuel) p name mark sent other own =
      looks-keeps (chains moves) _ (λ w. let chosen = served_next p w name (object_of w mark.object) in
      then-keeps (chains moves) (settle_sent p sent (chosen_is_sent sent chosen)) _ (settle_sent-keeps p sent (chosen_is_sent sent chosen))
      (serve_chosen-keeps p name mark (chosen_is_sent sent chosen) (serve_next fuel p name mark None) chosen other own
      (serve_next-keeps fuel p name mark None other own)))

  pub serve_calls-keeps : (p : Image) (name : Who) (m : ProtectedMark) (sent : Option CallNo) → May name → OwnCalled G name m.own_call
      → Keeps G R (serve_calls p name m sent)
  unfolding serve_calls
  serve_calls-keeps p name m sent other own = looks-keeps (chains moves) _ (λ w. serve_next-keeps (suc (length w.calls)) p name m sent other own)

  pub go_on_by_mode-keeps : (p : Image) (name : Who) (m : ProtectedMark) (mode : Mode) → May name → OwnCalled G name m.own_call
      → Keeps G R (go_on_by_mode p name m mode)
  unfolding go_on_by_mode
  go_on_by_mode-keeps p name m Read other own = release_object-keeps p name m other own
  go_on_by_mode-keeps p name m Write other own = serve_calls-keeps p name m None other own

  pub end_operation-keeps : (p : Image) (name : Who) (m : ProtectedMark) (leaving : Leaving) → May name → OwnCalled G name m.own_call
      → Keeps G R (end_operation p name m leaving)
  unfolding end_operation
  end_operation-keeps p name m leaving other own =
      search (changes-keeps, edit_top_protected-alters, then-keeps, edit_top-alters, go_on_by_mode-keeps, chains) depth 7

  pub finish_raised-keeps : (p : Image) (name : Who) (m : ProtectedMark) (c : Call) (e : Raised) → May name → OwnCalled G name m.own_call
      → Keeps G R (finish_raised p name m c e)
  unfolding finish_raised
  finish_raised-keeps p name m c e other own =
      search (says-keeps, then-keeps, deliver-keeps, serve_calls-keeps, chains)

  pub finish_well-keeps : (p : Image) (name : Who) (m : ProtectedMark) (c : Call) (sending : Option Sending) → May name → OwnCalled G name m.own_call
      → Keeps G R (finish_well p name m c sending)
  unfolding finish_well
  finish_well-keeps p name m c None other own =
      search (says-keeps, then-keeps, deliver-keeps, serve_calls-keeps, chains)
  finish_well-keeps p name m c (Some s) other own =
      search (says-keeps, then-keeps, send_on-keeps, enqueue-keeps, serve_calls-keeps, chains, plain_steps) depth 8

  pub finish_call-keeps : (p : Image) (name : Who) (m : ProtectedMark) (leaving : Leaving) (c : Call) → May name → OwnCalled G name m.own_call
      → Keeps G R (finish_call p name m leaving c)
  unfolding finish_call
  finish_call-keeps p name m (how.Exception e) c other own = finish_raised-keeps p name m c e other own
  finish_call-keeps p name m how.End c other own = finish_well-keeps p name m c c.sending other own
  finish_call-keeps p name m how.Return c other own = finish_well-keeps p name m c c.sending other own
  finish_call-keeps p name m (how.Exit loop) c other own = finish_well-keeps p name m c c.sending other own
  finish_call-keeps p name m how.Abort c other own = finish_well-keeps p name m c c.sending other own
  finish_call-keeps p name m how.Terminate c other own = finish_well-keeps p name m c c.sending other own

  pub end_entry_body-keeps : (p : Image) (name : Who) (m : ProtectedMark) (leaving : Leaving) (c : CallNo) → May name → OwnCalled G name m.own_call
      → Keeps G R (end_entry_body p name m leaving c)
  unfolding end_entry_body
  end_entry_body-keeps p name m leaving c other own =
      search (changes-keeps, edit_top_protected-alters, then-keeps, edit_top-alters, with_call-keeps, finish_call-keeps, chains, plain_steps) depth 8

  pub end_in_protected_by-keeps : (p : Image) (name : Who) (m : ProtectedMark) (leaving : Leaving) (c : Option CallNo) → May name → OwnCalled G name m.own_call
      → Keeps G R (end_in_protected_by p name m leaving c)
  unfolding end_in_protected_by
  end_in_protected_by-keeps p name m leaving None other own = end_operation-keeps p name m leaving other own
  end_in_protected_by-keeps p name m leaving (Some c) other own = end_entry_body-keeps p name m leaving c other own

  pub end_in_protected-keeps : (p : Image) (name : Who) (m : ProtectedMark) (leaving : Leaving) → May name → OwnCalled G name m.own_call
      → Keeps G R (end_in_protected p name m leaving)
  unfolding end_in_protected
  end_in_protected-keeps p name m leaving other own = end_in_protected_by-keeps p name m leaving m.serves other own

-- ---- the scope of an entry body has ended
