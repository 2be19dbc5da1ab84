-- Queued calls that are served, and objects that are released: each step keeps a relation that its parts keep.
use Rattle.profile_machine.specs.declared.world.lines.Part.{Part}
use Rattle.ann_base.specs.declared.identities.ObjectNo.{ObjectNo}
use Rattle.profile_machine.specs.CallEnds.{deliver}
use Rattle.profile_machine.specs.Sending.{send_on, wait_for_call}
use Rattle.profile_machine.specs.declared.world.lines.MeetingEnd.TheVariants as meeting
use Rattle.profile_machine.specs.declared.world.marks.Purpose.TheVariants as opened_for
use Rattle.profile_machine.specs.Unwinding.{may_unwind}
use Rattle.profile_machine.specs.Calls.{parameters_of, enqueue, forget_call, call_of}
use Rattle.profile_machine.specs.declared.world.tasks.State.TheVariants.{Blocked}
use Rattle.profile_machine.specs.Tasks.{edit_task, with_state}
use Rattle.std.specs.Prelude.{ℕ, zero, suc, Bool, true, false, Option, Some, None, length}
use Rattle.ann_base.specs.declared.identities.CallNo.{CallNo}
use Rattle.ann_base.specs.declared.exceptions.Raised.{Raised}
use Rattle.ann_base.specs.declared.exceptions.Raised.TheVariants as exception
use Rattle.trace_text.specs.declared.events.Mode.{Mode}
use Rattle.trace_text.specs.declared.events.Mode.TheVariants.{Read, Write}
use Rattle.trace_text.specs.declared.events.Who.{Who}
use Rattle.profile_image.specs.declared.image.Image.{Image}
use Rattle.profile_machine.specs.declared.run_data.Leaving.{Leaving}
use Rattle.profile_machine.specs.declared.run_data.Leaving.TheVariants as how
use Rattle.profile_machine.specs.declared.world.World.{World}
use Rattle.profile_machine.specs.declared.world.marks.ProtectedMark.{ProtectedMark}
use Rattle.profile_machine.specs.declared.world.calls.Call.{Call}
use Rattle.profile_machine.specs.declared.world.calls.Outcome.{Outcome}
use Rattle.profile_machine.specs.declared.world.calls.Outcome.TheVariants as call_ended
use Rattle.profile_machine.specs.declared.world.calls.Sending.{Sending}
use Rattle.profile_machine.specs.declared.world.lines.Line.TheVariants as line
use Rattle.profile_machine.specs.declared.world.lines.Part.TheVariants.{Own, TheBlock, TheFinish}
use Rattle.profile_machine.specs.declared.world.tasks.Cause.TheVariants as inherited_by
use Rattle.profile_machine.specs.Frames.{pop, edit_top, frames_of, leaves}
use Rattle.profile_machine.specs.Inheritance.{lose_running}
use Rattle.profile_machine.specs.Priorities.{set_deferred}
use Rattle.profile_machine.specs.declared.world.tasks.Waiting.TheVariants as waits_for
use Rattle.trace_text.specs.declared.events.Who.TheVariants as who
use Rattle.profile_image.specs.Words.{without}
use Rattle.ann_base.specs.Lists.{is_empty}
use Rattle.profile_machine.specs.Dispatching.{block, says_block, word_of, without_kept_level}
use Rattle.profile_machine.specs.Steps.{Step, says, changes, ◌▷◌}
use Rattle.profile_machine.specs.Protected.{served_next, is_action_of, body_scope_of, body_of_object}
use Rattle.profile_machine.specs.Protected.{has_room_for_body, begin_call, edit_top_protected, body_opens, serve_call}
use Rattle.profile_machine.specs.Values.{object_of}
use Rattle.profile_machine.specs.Serving.{serves_nothing, is_served_now, serve_ends, end_release, close_action, wait_or_unwind}
use Rattle.profile_machine.specs.Serving.{wait_for_own, resume_own, behind_action, release_object, settle_sent, begins_part, chosen_is_sent}
use Rattle.profile_machine.specs.Serving.{serve_chosen, serve_next, serve_calls, go_on_by_mode, end_operation, finish_raised, finish_well}
use Rattle.profile_machine.specs.Serving.{finish_call, end_entry_body, end_in_protected_by, end_in_protected, part_of_start, not_left}
use Rattle.profile_machine.specs.Serving.{outcome_by, is_own_call, may_open_abortable, with_body_left, no_longer_serves}
use Rattle.std.proofs.Common.{◌≡◌, refl, sym, inl, ◌∙◌}
use Rattle.machine_laws.proofs.Moves.{own}
use Rattle.machine_laws.proofs.FineMoves.{GoodWorld, Naming}
use Rattle.world_laws.proofs.Sequences.FineMoves.{FineMoves, Openings, Loosens, Ending, chains, says-keeps}
use Rattle.world_laws.proofs.Behind.{Behind, Turns, then-turns, wide-turns, changes-turns, looks-turns}
use Rattle.world_laws.proofs.Behind.{turns-from, when-turns, says-turns, with_call-turns, branch-turns}
use Rattle.world_laws.proofs.Sequences.Kept.Frames.{edit_top-alters, leaves-keeps, plain_steps}
use Rattle.world_laws.proofs.Sequences.Kept.Inheritance.{lose_running-keeps}
use Rattle.world_laws.proofs.Sequences.Kept.Calls.{with_call_known-keeps}
use Rattle.world_laws.proofs.Sequences.Kept.CallEnds.{deliver-keeps}
use Rattle.world_laws.proofs.Sequences.Kept.Protected.{edit_top_protected-alters, begin_call-keeps}
use Rattle.world_laws.proofs.Sequences.Kept.Priorities.{set_deferred-keeps}
use Rattle.world_laws.proofs.Sequences.Kept.Sending.{open_abortable-alters, wait_for_call-keeps, send_on-keeps, begin_abortable-keeps, sent_not_begun-keeps}
use Rattle.machine_laws.proofs.Kept.Combinators.{Alters, Keeps, changes-keeps, looks-keeps, nothing-keeps, said-keeps, then-keeps}
use Rattle.machine_laws.proofs.Plain.Frames.{pass_on-keeps}
use Rattle.machine_laws.proofs.Plain.Calls.{forget_call-alters, enqueue-keeps, attempt_with-keeps}
use Rattle.machine_laws.proofs.Plain.Results.{resume-keeps}

-- ---- where nothing else is served

module _ {p : Image} {G : GoodWorld} {May Other : Naming} (moves : FineMoves p G May Other) (openings : Openings p G May Other) where
  wait_or_unwind-keeps : (name : Who) (c : Call) (test : Bool) → Keeps G (Behind G) (wait_or_unwind p name c test)
  unfolding wait_or_unwind
  wait_or_unwind-keeps name c true =
      attempt_with-keeps (plain_steps moves) p Own c _ (wait_for_call c)
      (then-keeps (chains moves) (changes (forget_call c.number)) (leaves name how.Abort)
      (changes-keeps (chains moves) _ (forget_call-alters (plain_steps moves) c.number)) (leaves-keeps moves name how.Abort))
      (wait_for_call-keeps moves openings c)
  wait_or_unwind-keeps name c false = wait_for_call-keeps moves openings c

  wait_for_own-keeps : (name : Who) (c : Call) (test : Bool) → Keeps G (Behind G) (wait_for_own p name c test)
  unfolding wait_for_own
  wait_for_own-keeps name c true =
      changes-keeps (chains moves) _ (open_abortable-alters moves (who.Task c.caller) c.statement (Some c.number) (moves.task_other c.caller))
  wait_for_own-keeps name c false = looks-keeps (chains moves) _ (λ w. wait_or_unwind-keeps name c (may_unwind (frames_of w name)))

  resume_own-keeps : (name : Who) (c : Call) (outcome : Option Outcome) → May (who.Task c.caller) → Keeps G (Behind G) (resume_own p name c outcome)
  unfolding resume_own
  resume_own-keeps name c (Some outcome) may = resume-keeps (plain_steps moves) p TheBlock c outcome may
  resume_own-keeps name c None may = looks-keeps (chains moves) _ (λ w. wait_for_own-keeps name c (may_open_abortable w name c))

  pub behind_task_action-keeps : (name : Who) (m : ProtectedMark) (own_call : Option CallNo) → May name
      → ((c : CallNo) → own_call ≡ Some c → (w : World) → G w → (d : Call) → call_of w c ≡ Some d → May (who.Task d.caller))
      → Keeps G (Behind G) (behind_action p name m None own_call)
  unfolding behind_action
  behind_task_action-keeps name m None may knows = pass_on-keeps (plain_steps moves) p name m.body_left may
  behind_task_action-keeps name m (Some c) may knows =
      with_call_known-keeps moves c _ (λ w good d is. resume_own-keeps name d d.outcome (knows c refl w good d is))

module _ {p : Image} {G : GoodWorld} {May Other : Naming} (moves : FineMoves p G May Other) where
  pub settle_sent-keeps : (loose : Loosens p G May Other) (c : Option CallNo) (test : Bool) → Keeps G (Behind G) (settle_sent p c test)
  unfolding settle_sent
  settle_sent-keeps loose None is_served = nothing-keeps (chains moves)
  settle_sent-keeps loose (Some c) true = nothing-keeps (chains moves)
  settle_sent-keeps loose (Some c) false = sent_not_begun-keeps moves loose c

  begins_part-keeps : (loose : Loosens p G May Other) (test : Bool) (c : CallNo) → Keeps G (Behind G) (begins_part p test c)
  unfolding begins_part
  begins_part-keeps loose true c = begin_abortable-keeps moves loose c
  begins_part-keeps loose false c = nothing-keeps (chains moves)

-- ---- a protected action goes on and ends

module _ {p : Image} {Other : Naming} {name : Who} {release : Option ℕ} {own_call : Option CallNo} (e : Ending p Other name release own_call) where
  closes-alters : (o : ObjectNo) → Alters e.E (Behind e.E) (close_action name o)
  unfolding Alters
  closes-alters o w good = e.ended.edits_any_object o (λ x. record x { actions = without (is_action_of name) x.actions }) w good

  -- the agent has served its release
  told_served-keeps : (n : ℕ) → Keeps e.E (Behind e.E) (says Own (line.Served n))
  told_served-keeps n = said-keeps (chains e.ended) Own (line.Served n) (λ w good. good)

  sleeps-turns : (n : ℕ) → release ≡ Some n → Turns e.E e.Y (block TheBlock who.Agent waits_for.Release)
  unfolding block says_block
  sleeps-turns n is =
      then-turns e.E e.Y e.Y (changes (edit_task who.Agent (with_state (Blocked waits_for.Release)))) _
      (changes-turns e.E e.Y _ (λ w good. e.sleeps n w is good))
      (then-turns e.Y e.Y e.Y (changes (edit_task who.Agent without_kept_level)) (says TheBlock (line.Block who.Agent (word_of waits_for.Release)))
      (changes-turns e.Y e.Y _ (λ w good. e.over_kept_level w good))
      (says-turns e.Y TheBlock (line.Block who.Agent (word_of waits_for.Release))))

  serve_ends-turns : (n m : ℕ) → release ≡ Some m → Turns e.E e.Y (serve_ends n)
  unfolding serve_ends
  serve_ends-turns n m is =
      then-turns e.E e.E e.Y (says Own (line.Served n)) _ (told_served-keeps n)
      (then-turns e.E e.E e.Y (changes serves_nothing) _ (changes-turns e.E e.E serves_nothing e.serves)
      (looks-turns e.E e.Y _ (λ w good. turns-from e.E e.Y _ w good (when-turns e.E e.Y (is_empty w.releases) _ e.ended_over (λ none. sleeps-turns m is)))))

  pub end_release-turns : (n m : ℕ) → release ≡ Some m → Turns e.E e.Y (end_release n)
  unfolding end_release
  end_release-turns n m is =
      looks-turns e.E e.Y _
      (λ w good. turns-from e.E e.Y _ w good (when-turns e.E e.Y (is_served_now n w.serving) _ e.ended_over (λ here. serve_ends-turns n m is)))

  behind_action-turns : (m : ProtectedMark) (n : Option ℕ) → n ≡ release → m.own_call ≡ own_call → Turns e.E e.Y (behind_action p name m n m.own_call)
  unfolding behind_action
  behind_action-turns m (Some n) is own = end_release-turns n n (sym is)
  behind_action-turns m None is own =
      wide-turns e.E e.E e.Y (behind_action p name m None m.own_call) e.ended_over
      (behind_task_action-keeps e.ended e.ended_openings name m m.own_call (e.may (sym is)) (λ c k. e.knows (sym is) c (sym own ∙ k)))

  release_object-turns : (m : ProtectedMark) → (m.release ≡ release) × (m.own_call ≡ own_call) → Turns e.S e.Y (release_object p name m)
  unfolding release_object
  release_object-turns m is =
      then-turns e.S e.S e.Y (says Own (line.Exit name m.object)) _ (said-keeps (chains e.serving) Own (line.Exit name m.object) (λ w good. good))
      (then-turns e.S e.E e.Y (changes (pop name)) _ (changes-turns e.S e.E (pop name) e.pops)
      (then-turns e.E e.E e.Y (changes (close_action name m.object)) _ (changes-keeps (chains e.ended) _ (closes-alters m.object))
      (then-turns e.E e.E e.Y (lose_running p name (inherited_by.Ceiling m.object)) _ (lose_running-keeps e.ended name (inherited_by.Ceiling m.object))
      (then-turns e.E e.E e.Y (set_deferred p name) _ (set_deferred-keeps e.ended name) (behind_action-turns m m.release is.0 is.1)))))

  -- a body opens
  body_opens-turns : (o : ObjectNo) (c : Call) → Turns e.S e.G (body_opens p name o c)
  unfolding body_opens
  body_opens-turns o c =
      then-turns e.S e.S e.G (changes (edit_top_protected name (λ m. record m { serves = Some c.number }))) _
      (changes-keeps (chains e.serving) _ (edit_top_protected-alters e.serving name (λ m. record m { serves = Some c.number }) (λ m. refl)))
      (looks-turns e.S e.G _
      (λ w good. turns-from e.S e.G _ w good
      (changes-turns e.S e.G _
      (λ v h.
      e.opens (body_scope_of p c.entry) (body_of_object p w (body_scope_of p c.entry) o None (parameters_of p c)) (opened_for.EntryBody c.number) v h))))

  serve_call-turns : (part : Part) (o : ObjectNo) (c : Call) (then_ otherwise : Step) → Keeps e.G (Behind e.G) then_ → Turns e.S e.Y otherwise
      → Turns e.S e.Y (serve_call p part name o c then_ otherwise)
  serve_call-turns part o c then_ otherwise kept turned =
      looks-turns e.S e.Y _ (λ w good. turns-from e.S e.Y _ w good
      (then-turns e.S e.S e.Y (begin_call p part name c) _ (begin_call-keeps e.serving part name c)
      (branch-turns e.S e.Y (has_room_for_body p w name c.entry) (body_opens p name o c ▷ then_)
      (says part (line.Finish name c.number (meeting.Raised exception.Storage)) ▷ otherwise)
      (then-turns e.S e.G e.Y (body_opens p name o c) then_ (body_opens-turns o c) (wide-turns e.G e.G e.Y then_ e.opened_over kept))
      (then-turns e.S e.S e.Y (says part (line.Finish name c.number (meeting.Raised exception.Storage))) otherwise
      (says-keeps e.serving part (line.Finish name c.number (meeting.Raised exception.Storage)) refl) turned))))

  serve_chosen-turns : (m : ProtectedMark) (is_sent : Bool) (again : Step) (c : Option CallNo) → (m.release ≡ release) × (m.own_call ≡ own_call)
      → Turns e.S e.Y again → Turns e.S e.Y (serve_chosen p name m is_sent again c)
  serve_chosen-turns m is_sent again None is turned = release_object-turns m is
  serve_chosen-turns m is_sent again (Some c) is turned =
      with_call-turns e.S e.Y c _ e.served_over
      (λ d. serve_call-turns (part_of_start is_sent) m.object d (begins_part p is_sent c) _ (begins_part-keeps e.opened e.opened_loose is_sent c)
      (then-turns e.S e.S e.Y (deliver p (part_of_start is_sent) c (call_ended.ToRaise exception.Storage)) again
      (deliver-keeps e.serving e.serving_loose (part_of_start is_sent) c (call_ended.ToRaise exception.Storage)) turned))

  serve_next-turns : (fuel : ℕ) (m : ProtectedMark) (sent : Option CallNo) → (m.release ≡ release) × (m.own_call ≡ own_call)
      → Turns e.S e.Y (serve_next fuel p name m sent)
  unfolding serve_next
  serve_next-turns zero m sent is = release_object-turns m is
  serve_next-turns (suc fuel) m sent is =
      looks-turns e.S e.Y _ (λ w good. let chosen = served_next p w name (object_of w m.object) in
      turns-from e.S e.Y _ w good
      (then-turns e.S e.S e.Y (settle_sent p sent (chosen_is_sent sent chosen)) _
      (settle_sent-keeps e.serving e.serving_loose sent (chosen_is_sent sent chosen))
      (serve_chosen-turns m (chosen_is_sent sent chosen) (serve_next fuel p name m None) chosen is (serve_next-turns fuel m None is))))

  serve_calls-turns : (m : ProtectedMark) (sent : Option CallNo) → (m.release ≡ release) × (m.own_call ≡ own_call) → Turns e.S e.Y (serve_calls p name m sent)
  unfolding serve_calls
  serve_calls-turns m sent is = looks-turns e.S e.Y _ (λ w good. turns-from e.S e.Y _ w good (serve_next-turns (suc (length w.calls)) m sent is))

  go_on_by_mode-turns : (m : ProtectedMark) (mode : Mode) → (m.release ≡ release) × (m.own_call ≡ own_call) → Turns e.S e.Y (go_on_by_mode p name m mode)
  unfolding go_on_by_mode
  go_on_by_mode-turns m Read is = release_object-turns m is
  go_on_by_mode-turns m Write is = serve_calls-turns m None is

  not_left-keeps : Keeps e.S (Behind e.S) (changes (edit_top name not_left))
  not_left-keeps = changes-keeps (chains e.serving) _ (edit_top-alters e.serving name not_left (λ x. refl) (λ x. inl refl))

  marks-keeps : (f : ProtectedMark → ProtectedMark) → ((m : ProtectedMark) → (f m).release ≡ m.release)
      → Keeps e.S (Behind e.S) (changes (edit_top_protected name f))
  marks-keeps f same = changes-keeps (chains e.serving) _ (edit_top_protected-alters e.serving name f same)

  end_operation-turns : (m : ProtectedMark) (leaving : Leaving) → (m.release ≡ release) × (m.own_call ≡ own_call)
      → Turns e.S e.Y (end_operation p name m leaving)
  unfolding end_operation
  end_operation-turns m leaving is =
      then-turns e.S e.S e.Y (changes (edit_top_protected name (with_body_left leaving))) _ (marks-keeps (with_body_left leaving) (λ x. refl))
      (then-turns e.S e.S e.Y (changes (edit_top name not_left)) _ not_left-keeps (go_on_by_mode-turns (with_body_left leaving m) m.mode is))

  finish_raised-turns : (m : ProtectedMark) (c : Call) (x : Raised) → (m.release ≡ release) × (m.own_call ≡ own_call)
      → Turns e.S e.Y (finish_raised p name m c x)
  unfolding finish_raised
  finish_raised-turns m c x is =
      then-turns e.S e.S e.Y (says TheFinish (line.Finish name c.number (meeting.Raised x))) _
      (says-keeps e.serving TheFinish (line.Finish name c.number (meeting.Raised x)) refl)
      (then-turns e.S e.S e.Y (deliver p TheFinish c.number (outcome_by (is_own_call name m.own_call c) x)) _
      (deliver-keeps e.serving e.serving_loose TheFinish c.number (outcome_by (is_own_call name m.own_call c) x)) (serve_calls-turns m None is))

  finish_well-turns : (m : ProtectedMark) (c : Call) (sending : Option Sending) → (m.release ≡ release) × (m.own_call ≡ own_call)
      → Turns e.S e.Y (finish_well p name m c sending)
  unfolding finish_well
  finish_well-turns m c None is =
      then-turns e.S e.S e.Y (says TheFinish (line.Finish name c.number meeting.Ok)) _
      (says-keeps e.serving TheFinish (line.Finish name c.number meeting.Ok) refl)
      (then-turns e.S e.S e.Y (deliver p TheFinish c.number call_ended.Finished) _
      (deliver-keeps e.serving e.serving_loose TheFinish c.number call_ended.Finished) (serve_calls-turns m None is))
  finish_well-turns m c (Some s) is =
      then-turns e.S e.S e.Y (says TheFinish (line.Finish name c.number meeting.Requeue)) _
      (says-keeps e.serving TheFinish (line.Finish name c.number meeting.Requeue) refl)
      (then-turns e.S e.S e.Y (send_on c.number s) _ (send_on-keeps e.serving c.number s)
      (then-turns e.S e.S e.Y (enqueue p c.number) _ (enqueue-keeps (plain_steps e.serving) p c.number) (serve_calls-turns m (Some c.number) is)))

  finish_call-turns : (m : ProtectedMark) (leaving : Leaving) (c : Call) → (m.release ≡ release) × (m.own_call ≡ own_call)
      → Turns e.S e.Y (finish_call p name m leaving c)
  unfolding finish_call
  finish_call-turns m (how.Exception x) c is = finish_raised-turns m c x is
  finish_call-turns m how.End c is = finish_well-turns m c c.sending is
  finish_call-turns m how.Return c is = finish_well-turns m c c.sending is
  finish_call-turns m (how.Exit loop) c is = finish_well-turns m c c.sending is
  finish_call-turns m how.Abort c is = finish_well-turns m c c.sending is
  finish_call-turns m how.Terminate c is = finish_well-turns m c c.sending is

  end_entry_body-turns : (m : ProtectedMark) (leaving : Leaving) (c : CallNo) → (m.release ≡ release) × (m.own_call ≡ own_call)
      → Turns e.S e.Y (end_entry_body p name m leaving c)
  unfolding end_entry_body
  end_entry_body-turns m leaving c is =
      then-turns e.S e.S e.Y (changes (edit_top_protected name no_longer_serves)) _ (marks-keeps no_longer_serves (λ x. refl))
      (then-turns e.S e.S e.Y (changes (edit_top name not_left)) _ not_left-keeps
      (with_call-turns e.S e.Y c _ e.served_over (λ d. finish_call-turns (no_longer_serves m) leaving d is)))

  end_in_protected_by-turns : (m : ProtectedMark) (leaving : Leaving) (c : Option CallNo) → (m.release ≡ release) × (m.own_call ≡ own_call)
      → Turns e.S e.Y (end_in_protected_by p name m leaving c)
  unfolding end_in_protected_by
  end_in_protected_by-turns m leaving None is = end_operation-turns m leaving is
  end_in_protected_by-turns m leaving (Some c) is = end_entry_body-turns m leaving c is

  pub end_in_protected-turns : (m : ProtectedMark) (leaving : Leaving) → (m.release ≡ release) × (m.own_call ≡ own_call)
      → Turns e.S e.Y (end_in_protected p name m leaving)
  unfolding end_in_protected
  end_in_protected-turns m leaving is = end_in_protected_by-turns m leaving m.serves is

-- ---- the scope of an entry body has ended
