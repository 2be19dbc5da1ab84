-- Queued calls that are served, and objects that are released: each step keeps a relation that its parts keep.
use Rattle.std.specs.Prelude.{ℕ, zero, suc, Bool, true, false, List, [], ◌∷◌, Option, Some, None, length}
use Rattle.std.proofs.lemmas.Bool.{eqb-true}
use Rattle.ann_base.specs.declared.identities.CallNo.{CallNo}
use Rattle.ann_base.specs.declared.identities.ObjectNo.{ObjectNo}
use Rattle.ann_base.specs.declared.exceptions.Raised.{Raised}
use Rattle.ann_base.specs.declared.exceptions.Raised.TheVariants as exception
use Rattle.trace_text.specs.declared.events.Mode.{Mode}
use Rattle.trace_text.specs.declared.events.Mode.TheVariants.{Read, Write}
use Rattle.trace_text.specs.declared.events.Who.{Who}
use Rattle.profile_image.specs.declared.image.Image.{Image}
use Rattle.profile_machine.specs.declared.run_data.Leaving.{Leaving}
use Rattle.profile_machine.specs.declared.run_data.Leaving.TheVariants as how
use Rattle.profile_machine.specs.declared.world.World.{World}
use Rattle.profile_machine.specs.declared.world.appointments.Release.{Release}
use Rattle.profile_machine.specs.declared.world.marks.ProtectedMark.{ProtectedMark}
use Rattle.profile_machine.specs.declared.world.calls.Call.{Call}
use Rattle.profile_machine.specs.declared.world.calls.Outcome.{Outcome}
use Rattle.profile_machine.specs.declared.world.calls.Outcome.TheVariants as call_ended
use Rattle.profile_machine.specs.declared.world.calls.Sending.{Sending}
use Rattle.profile_machine.specs.declared.world.lines.Line.TheVariants as line
use Rattle.profile_machine.specs.declared.world.lines.Part.TheVariants.{Own, TheFinish, TheBlock}
use Rattle.profile_machine.specs.declared.world.lines.Said.{Said}
use Rattle.profile_machine.specs.declared.world.lines.MeetingEnd.TheVariants as meeting
use Rattle.profile_machine.specs.declared.world.tasks.Task.{Task}
use Rattle.profile_machine.specs.Calls.{call_of, with_call, enqueue}
use Rattle.profile_machine.specs.CallEnds.{deliver}
use Rattle.profile_machine.specs.Sending.{send_on}
use Rattle.profile_machine.specs.Unwinding.{may_unwind}
use Rattle.line_laws.proofs.Exits.TaskEdits.{one_of-is}
use Rattle.machine_laws.proofs.Kept.Protected.{protected-nature}
use Rattle.line_laws.proofs.Exits.Steady.{Holds, action_on_top, Steady, says-steady, changes-steady, edit_top-spares, edit_top_protected-spares}
use Rattle.line_laws.proofs.Exits.Steady.{deliver-steady, enqueue-steady, send_on-steady, settle_sent-steady, begin_call-steady}
use Rattle.profile_machine.specs.declared.world.tasks.Cause.TheVariants as inherited_by
use Rattle.profile_machine.specs.Frames.{frames_of, edit_top, pop}
use Rattle.profile_machine.specs.Inheritance.{lose_running}
use Rattle.profile_machine.specs.Priorities.{set_deferred}
use Rattle.profile_machine.specs.declared.world.tasks.Waiting.TheVariants as waits_for
use Rattle.profile_machine.specs.declared.world.marks.Mark.TheVariants.{InProtected}
use Rattle.trace_text.specs.declared.events.Who.TheVariants as who
use Rattle.ann_base.specs.Lists.{is_empty}
use Rattle.profile_machine.specs.Dispatching.{block}
use Rattle.profile_machine.specs.Steps.{Step, Done, done, goes_on_with, says, changes, looks, when, nothing, for_some, ◌▷◌}
use Rattle.profile_machine.specs.Protected.{served_next, edit_top_protected, begin_call, body_opens, serve_call, has_room_for_body}
use Rattle.profile_machine.specs.Values.{object_of}
use Rattle.profile_machine.specs.Serving.{serves_nothing, is_served_now, serve_ends, end_release, close_action, wait_or_unwind}
use Rattle.profile_machine.specs.Serving.{wait_for_own, resume_own, behind_action, release_object, settle_sent, begins_part, chosen_is_sent}
use Rattle.profile_machine.specs.Serving.{serve_chosen, serve_next, serve_calls, go_on_by_mode, end_operation, finish_raised, finish_well}
use Rattle.profile_machine.specs.Serving.{finish_call, end_entry_body, end_in_protected_by, end_in_protected, part_of_start, with_body_left}
use Rattle.profile_machine.specs.Serving.{no_longer_serves, not_left, outcome_by, is_own_call, may_open_abortable}
use Rattle.std.proofs.Common.{◌≡◌, refl, sym, subst, ap, ◌∙◌}
use Rattle.machine_laws.proofs.Moves.{StepRelation, MoveRelation, own}
use Rattle.world_laws.proofs.Marks.FineMoves.{RegionMoves, chains, says-keeps}
use Rattle.machine_laws.proofs.FinestMoves.{natures, action_first}
use Rattle.line_laws.proofs.Exits.Steady.{FreeIn}
use Rattle.world_laws.proofs.Marks.Kept.Dispatching.{block-keeps}
use Rattle.world_laws.proofs.Marks.Kept.Frames.{leaves-keeps, plain_steps}
use Rattle.world_laws.proofs.Marks.Kept.Tasks.{edit_top-alters}
use Rattle.world_laws.proofs.Marks.Kept.Inheritance.{lose_running-keeps}
use Rattle.world_laws.proofs.Marks.Kept.CallEnds.{deliver-keeps}
use Rattle.world_laws.proofs.Marks.Kept.Protected.{edit_top_protected-alters, begin_call-keeps, body_opens-keeps}
use Rattle.world_laws.proofs.Marks.Kept.Priorities.{set_deferred-keeps}
use Rattle.world_laws.proofs.Marks.Kept.Sending.{open_abortable-alters, wait_for_call-keeps, send_on-keeps, begin_abortable-keeps, sent_not_begun-keeps}
use Rattle.machine_laws.proofs.FineMoves.{GoodWorld}
use Rattle.machine_laws.proofs.Kept.Combinators.{From, Keeps, Kept, changes-keeps, either-from, keeps-from, looks-from, looks-keeps}
use Rattle.machine_laws.proofs.Kept.Combinators.{looks_at-from, nothing-keeps, then-from, then-keeps, then-kept, when-keeps, world_behind}
use Rattle.machine_laws.proofs.Plain.Frames.{pass_on-keeps}
use Rattle.machine_laws.proofs.Plain.Calls.{forget_call-alters, with_call-keeps, enqueue-keeps, attempt_with-keeps}
use Rattle.machine_laws.proofs.Plain.Results.{resume-keeps}

-- ---- the agent has served a release

module _ {G : GoodWorld} {R : StepRelation} {Q : MoveRelation} (moves : RegionMoves G R Q) where
  -- the release that the agent serves ends, and is told
  told_served-from : (r : Release) (n : ℕ) (w : World) → G w → w.serving ≡ Some r → n ≡ r.number → From R w (says Own (line.Served n) ▷ changes serves_nothing)
  unfolding From Kept
  told_served-from r n w good is e said =
      (own (line.Served n) ∷ [], refl, subst (λ m. R w (own (line.Served m) ∷ []) (serves_nothing w)) (sym e) (moves.has_served r w good is))

  serve_ends-from : (r : Release) (n : ℕ) (w : World) → G w → w.serving ≡ Some r → n ≡ r.number → From R w (serve_ends n)
  unfolding serve_ends
  serve_ends-from r n w good is e =
      then-from (chains moves.fine) (says Own (line.Served n) ▷ changes serves_nothing)
      (looks (λ v. when (is_empty v.releases) (block TheBlock who.Agent waits_for.Release))) w
      (told_served-from r n w good is e)
      (looks-keeps (chains moves.fine) _
      (λ v. when-keeps (chains moves.fine) (is_empty v.releases) _ (block-keeps moves.fine TheBlock who.Agent waits_for.Release tt refl)))

  end_served-from : (n : ℕ) (w : World) (serving : Option Release) (test : Bool) → G w → w.serving ≡ serving → is_served_now n serving ≡ test
      → From R w (when test (serve_ends n))
  end_served-from n w None true good is e = cc
  end_served-from n w (Some r) true good is e = serve_ends-from r n w good is (eqb-true n r.number e)
  end_served-from n w serving false good is e = keeps-from (chains moves.fine) nothing w good (nothing-keeps (chains moves.fine))

  pub end_release-keeps : (n : ℕ) → Keeps G R (end_release n)
  unfolding end_release
  end_release-keeps n = looks-from (chains moves.fine) _ (λ w good. end_served-from n w w.serving (is_served_now n w.serving) good refl refl)

-- ---- a protected action goes on and ends: whose it is waits for no entry call, and has it on top up to its end

module _ {G : GoodWorld} {R : StepRelation} {Q : MoveRelation} (moves : RegionMoves G R Q) where
  -- a good world in which it is so
  abbrev Held : Who → ObjectNo → World → Type 0
  Held me o w = G w × Holds action_on_top me o w

  -- a step that leaves it there, and what is done behind it
  kept_then : (me : Who) (o : ObjectNo) (g : Step) (w : World) (said : List Said) (d : Done) → Kept R w said d → Holds action_on_top me o (world_behind d)
      → ((v : World) → Held me o v → From R v g) → Kept R w said (goes_on_with g d)
  unfolding From Kept
  kept_then me o g w said (done v ys) a h k = then-kept (chains moves.fine) w v said ys (g v ys) a (k v (moves.fine.behind w v a.2, h) ys)

  step_then : (me : Who) (o : ObjectNo) (f g : Step) (w : World) → Held me o w → Keeps G R f → Steady action_on_top me o f
      → ((v : World) → Held me o v → From R v g) → From R w (f ▷ g)
  unfolding From Keeps Steady
  step_then me o f g w h a b k said = kept_then me o g w said (f w said) (a w h.0 said) (b w h.1 said) k

  some_from : {X : Type 0} (x : Option X) (f : X → Step) (w : World) → G w → ((y : X) → From R w (f y)) → From R w (for_some x f)
  some_from None f w good k = keeps-from (chains moves.fine) nothing w good (nothing-keeps (chains moves.fine))
  some_from (Some x) f w good k = k x

  call_then : (me : Who) (o : ObjectNo) (c : CallNo) (f : Call → Step) (w : World) → Held me o w → ((d : Call) → From R w (f d)) → From R w (with_call c f)
  call_then me o c f w h k = looks_at-from (chains moves.fine) (λ v. for_some (call_of v c) f) w (some_from (call_of w c) f w h.0 k)

  told_exit-from : (name : Who) (m : ProtectedMark) (w : World) → Held name m.object w
      → From R w (says Own (line.Exit name m.object) ▷ changes (pop name) ▷ changes (close_action name m.object))
  unfolding From Kept
  told_exit-from name m w h said = (
    own (line.Exit name m.object) ∷ [],
    refl,
    moves.exits.exits name m w h.0 tt (sym (ap (λ (t : Task). action_first (natures t.frames)) (one_of-is w name)) ∙ h.1.0)
        (subst (λ (t : Task). FreeIn name t.state) (one_of-is w name) h.1.1),
  )

  wait_or_unwind-keeps : (p : Image) (name : Who) (c : Call) (test : Bool) → Keeps G R (wait_or_unwind p name c test)
  unfolding wait_or_unwind
  wait_or_unwind-keeps p name c true =
      attempt_with-keeps (plain_steps moves.fine) p Own c _ _
      (then-keeps (chains moves.fine) _ _ (changes-keeps (chains moves.fine) _ (forget_call-alters (plain_steps moves.fine) c.number))
      (leaves-keeps moves.fine name how.Abort))
      (wait_for_call-keeps moves.fine c)
  wait_or_unwind-keeps p name c false = wait_for_call-keeps moves.fine c

  wait_for_own-keeps : (p : Image) (name : Who) (c : Call) (test : Bool) → Keeps G R (wait_for_own p name c test)
  unfolding wait_for_own
  wait_for_own-keeps p name c true = changes-keeps (chains moves.fine) _ (open_abortable-alters moves.fine p (who.Task c.caller) c.statement c.number tt)
  wait_for_own-keeps p name c false = looks-keeps (chains moves.fine) _ (λ w. wait_or_unwind-keeps p name c (may_unwind (frames_of w name)))

  resume_own-keeps : (p : Image) (name : Who) (c : Call) (outcome : Option Outcome) → Keeps G R (resume_own p name c outcome)
  unfolding resume_own
  resume_own-keeps p name c (Some outcome) = resume-keeps (plain_steps moves.fine) p TheBlock c outcome tt
  resume_own-keeps p name c None = looks-keeps (chains moves.fine) _ (λ w. wait_for_own-keeps p name c (may_open_abortable w name c))

  behind_action-keeps : (p : Image) (name : Who) (m : ProtectedMark) (n : Option ℕ) (c : Option CallNo) → Keeps G R (behind_action p name m n c)
  unfolding behind_action
  behind_action-keeps p name m (Some release) call = end_release-keeps moves release
  behind_action-keeps p name m None None = pass_on-keeps (plain_steps moves.fine) p name m.body_left tt
  behind_action-keeps p name m None (Some c) = with_call-keeps (plain_steps moves.fine) c _ (λ d. resume_own-keeps p name d d.outcome)

  release_object-from : (p : Image) (name : Who) (m : ProtectedMark) (w : World) → Held name m.object w → From R w (release_object p name m)
  unfolding release_object
  release_object-from p name m w h =
      then-from (chains moves.fine) (says Own (line.Exit name m.object) ▷ changes (pop name) ▷ changes (close_action name m.object))
      (lose_running p name (inherited_by.Ceiling m.object) ▷ set_deferred p name ▷ behind_action p name m m.release m.own_call) w
      (told_exit-from name m w h)
      (then-keeps (chains moves.fine) _ _ (lose_running-keeps moves.fine p name (inherited_by.Ceiling m.object) tt)
      (then-keeps (chains moves.fine) _ _ (set_deferred-keeps moves.fine p name tt) (behind_action-keeps p name m m.release m.own_call)))

  settle_sent-keeps : (p : Image) (c : Option CallNo) (test : Bool) → Keeps G R (settle_sent p c test)
  unfolding settle_sent
  settle_sent-keeps p None is_served = nothing-keeps (chains moves.fine)
  settle_sent-keeps p (Some c) true = nothing-keeps (chains moves.fine)
  settle_sent-keeps p (Some c) false = sent_not_begun-keeps moves.fine p c

  begins_part-keeps : (p : Image) (test : Bool) (c : CallNo) → Keeps G R (begins_part p test c)
  unfolding begins_part
  begins_part-keeps p true c = begin_abortable-keeps moves.fine p c
  begins_part-keeps p false c = nothing-keeps (chains moves.fine)

  -- queued calls are served, and then the object is released
  module _ (p : Image) (name : Who) (m : ProtectedMark) where
    served-from : (is_sent : Bool) (c : CallNo) (d : Call) (again : Step) (w : World) → ((v : World) → Held name m.object v → From R v again)
        → Held name m.object w
        → From R w (serve_call p (part_of_start is_sent) name m.object d (begins_part p is_sent c)
        (deliver p (part_of_start is_sent) c (call_ended.ToRaise exception.Storage) ▷ again))
    served-from is_sent c d again w onward h =
        let part = part_of_start is_sent in
        let otherwise = deliver p part c (call_ended.ToRaise exception.Storage) ▷ again in
        let by_room =
        λ (b : Bool). elim b as (λ _. Step) [
          | true ↦ body_opens p name m.object d ▷ begins_part p is_sent c
          | false ↦ says part (line.Finish name d.number (meeting.Raised exception.Storage)) ▷ otherwise
        ] in
        looks_at-from (chains moves.fine) (λ v. begin_call p part name d ▷ by_room (has_room_for_body p v name d.entry)) w
        (step_then name m.object (begin_call p part name d) (by_room (has_room_for_body p w name d.entry)) w h (begin_call-keeps moves.fine p part name d)
        (begin_call-steady action_on_top name m.object p part name d)
        (λ v k. either-from (chains moves.fine) (has_room_for_body p w name d.entry) (body_opens p name m.object d ▷ begins_part p is_sent c)
        (says part (line.Finish name d.number (meeting.Raised exception.Storage)) ▷ otherwise) v
        (keeps-from (chains moves.fine) _ v k.0
        (then-keeps (chains moves.fine) _ _ (body_opens-keeps moves.fine moves.openings p name m.object d tt) (begins_part-keeps p is_sent c)))
        (step_then name m.object (says part (line.Finish name d.number (meeting.Raised exception.Storage))) otherwise v k
        (says-keeps moves.fine part (line.Finish name d.number (meeting.Raised exception.Storage)) refl) (says-steady action_on_top name m.object part _)
        (λ u l. step_then name m.object (deliver p part c (call_ended.ToRaise exception.Storage)) again u l
        (deliver-keeps moves.fine p part c (call_ended.ToRaise exception.Storage))
        (deliver-steady action_on_top name m.object p part c (call_ended.ToRaise exception.Storage)) onward))))

    serve_chosen-from : (is_sent : Bool) (again : Step) (chosen : Option CallNo) (w : World) → ((v : World) → Held name m.object v → From R v again)
        → Held name m.object w → From R w (serve_chosen p name m is_sent again chosen)
    serve_chosen-from is_sent again None w onward h = release_object-from p name m w h
    serve_chosen-from is_sent again (Some c) w onward h = call_then name m.object c _ w h (λ d. served-from is_sent c d again w onward h)

    serve_next-from : (fuel : ℕ) (sent : Option CallNo) (w : World) → Held name m.object w → From R w (serve_next fuel p name m sent)
    unfolding serve_next
    serve_next-from zero sent w h = release_object-from p name m w h
    serve_next-from (suc fuel) sent w h =
        let chosen = λ (v : World). served_next p v name (object_of v m.object) in
        looks_at-from (chains moves.fine)
        (λ v. settle_sent p sent (chosen_is_sent sent (chosen v))
        ▷ serve_chosen p name m (chosen_is_sent sent (chosen v)) (serve_next fuel p name m None) (chosen v)) w
        (step_then name m.object (settle_sent p sent (chosen_is_sent sent (chosen w))) _ w h (settle_sent-keeps p sent (chosen_is_sent sent (chosen w)))
        (settle_sent-steady action_on_top name m.object p sent (chosen_is_sent sent (chosen w)))
        (λ v k. serve_chosen-from (chosen_is_sent sent (chosen w)) (serve_next fuel p name m None) (chosen w) v (λ u l. serve_next-from fuel None u l) k))

    serve_calls-from : (sent : Option CallNo) (w : World) → Held name m.object w → From R w (serve_calls p name m sent)
    unfolding serve_calls
    serve_calls-from sent w h =
        looks_at-from (chains moves.fine) (λ v. serve_next (suc (length v.calls)) p name m sent) w (serve_next-from (suc (length w.calls)) sent w h)

    by_mode-from : (mode : Mode) (w : World) → Held name m.object w → From R w (go_on_by_mode p name m mode)
    unfolding go_on_by_mode
    by_mode-from Read w h = release_object-from p name m w h
    by_mode-from Write w h = serve_calls-from None w h

    raised-from : (c : Call) (e : Raised) (w : World) → Held name m.object w → From R w (finish_raised p name m c e)
    unfolding finish_raised
    raised-from c e w h =
        step_then name m.object (says TheFinish (line.Finish name c.number (meeting.Raised e))) _ w h
        (says-keeps moves.fine TheFinish (line.Finish name c.number (meeting.Raised e)) refl) (says-steady action_on_top name m.object TheFinish _)
        (λ v k. step_then name m.object (deliver p TheFinish c.number (outcome_by (is_own_call name m.own_call c) e)) _ v k
        (deliver-keeps moves.fine p TheFinish c.number (outcome_by (is_own_call name m.own_call c) e))
        (deliver-steady action_on_top name m.object p TheFinish c.number (outcome_by (is_own_call name m.own_call c) e))
        (λ u l. serve_calls-from None u l))

    well-from : (c : Call) (sending : Option Sending) (w : World) → Held name m.object w → From R w (finish_well p name m c sending)
    unfolding finish_well
    well-from c None w h =
        step_then name m.object (says TheFinish (line.Finish name c.number meeting.Ok)) _ w h
        (says-keeps moves.fine TheFinish (line.Finish name c.number meeting.Ok) refl) (says-steady action_on_top name m.object TheFinish _)
        (λ v k. step_then name m.object (deliver p TheFinish c.number call_ended.Finished) _ v k
        (deliver-keeps moves.fine p TheFinish c.number call_ended.Finished)
        (deliver-steady action_on_top name m.object p TheFinish c.number call_ended.Finished)
        (λ u l. serve_calls-from None u l))
    well-from c (Some s) w h =
        step_then name m.object (says TheFinish (line.Finish name c.number meeting.Requeue)) _ w h
        (says-keeps moves.fine TheFinish (line.Finish name c.number meeting.Requeue) refl) (says-steady action_on_top name m.object TheFinish _)
        (λ v k. step_then name m.object (send_on c.number s) _ v k (send_on-keeps moves.fine c.number s) (send_on-steady action_on_top name m.object c.number s)
        (λ u l. step_then name m.object (enqueue p c.number) _ u l (enqueue-keeps (plain_steps moves.fine) p c.number)
        (enqueue-steady action_on_top name m.object p c.number)
        (λ t n. serve_calls-from (Some c.number) t n)))

    finish-from : (leaving : Leaving) (c : Call) (w : World) → Held name m.object w → From R w (finish_call p name m leaving c)
    unfolding finish_call
    finish-from (how.Exception e) c w h = raised-from c e w h
    finish-from how.End c w h = well-from c c.sending w h
    finish-from how.Return c w h = well-from c c.sending w h
    finish-from (how.Exit loop) c w h = well-from c c.sending w h
    finish-from how.Abort c w h = well-from c c.sending w h
    finish-from how.Terminate c w h = well-from c c.sending w h

  -- a body in the action has ended
  module _ (p : Image) (name : Who) (m : ProtectedMark) (leaving : Leaving) where
    edits_then : (f : ProtectedMark → ProtectedMark) (g : Step) (w : World) → ((x : ProtectedMark) → (f x).release ≡ x.release)
        → ((x : ProtectedMark) → (f x).object ≡ x.object) → Held name m.object w → ((v : World) → Held name m.object v → From R v g)
        → From R w (changes (edit_top_protected name f) ▷ changes (edit_top name not_left) ▷ g)
    edits_then f g w same alike h onward =
        step_then name m.object (changes (edit_top_protected name f)) _ w h
        (changes-keeps (chains moves.fine) _ (edit_top_protected-alters moves.fine name f same alike))
        (changes-steady action_on_top name m.object _
        (edit_top_protected-spares action_on_top name m.object name f (λ k. protected-nature f same alike (InProtected k))))
        (λ v k. step_then name m.object (changes (edit_top name not_left)) g v k
        (changes-keeps (chains moves.fine) _ (edit_top-alters moves.fine name not_left (λ x. refl) (λ x. refl)))
        (changes-steady action_on_top name m.object _ (edit_top-spares action_on_top name m.object name not_left (λ x. refl))) onward)

    operation-from : (w : World) → Held name m.object w → From R w (end_operation p name m leaving)
    unfolding end_operation
    operation-from w h =
        edits_then (with_body_left leaving) (go_on_by_mode p name (with_body_left leaving m) m.mode) w (λ x. refl) (λ x. refl) h
        (λ v k. by_mode-from p name (with_body_left leaving m) m.mode v k)

    entry_body-from : (c : CallNo) (w : World) → Held name m.object w → From R w (end_entry_body p name m leaving c)
    unfolding end_entry_body
    entry_body-from c w h =
        edits_then no_longer_serves (with_call c (finish_call p name (no_longer_serves m) leaving)) w (λ x. refl) (λ x. refl) h
        (λ v k. call_then name m.object c (finish_call p name (no_longer_serves m) leaving) v k (λ d. finish-from p name (no_longer_serves m) leaving d v k))

    by_body-from : (serves : Option CallNo) (w : World) → Held name m.object w → From R w (end_in_protected_by p name m leaving serves)
    unfolding end_in_protected_by
    by_body-from None w h = operation-from w h
    by_body-from (Some c) w h = entry_body-from c w h

    pub end_in_protected-from : (w : World) → G w → Holds action_on_top name m.object w → From R w (end_in_protected p name m leaving)
    unfolding end_in_protected
    end_in_protected-from w good h = by_body-from m.serves w (good, h)

-- ---- the scope of an entry body has ended
