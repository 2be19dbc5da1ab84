-- A protected action goes on and ends: its mark stands above all scopes of its task until it is left, so it ends no scope.
use Rattle.std.specs.Prelude.{ℕ, zero, suc, Bool, true, false, cond, List, [], ◌∷◌, Option, Some, None, is_some, length}
use Rattle.std.proofs.Common.{◌≡◌, refl, sym, ap, subst, ◌∙◌}
use Rattle.std.proofs.lemmas.Bool.{false≢true}
use Rattle.ann_base.specs.declared.exceptions.Raised.{Raised}
use Rattle.ann_base.specs.declared.exceptions.Raised.TheVariants as exception
use Rattle.ann_base.specs.declared.identities.CallNo.{CallNo}
use Rattle.trace_text.specs.declared.events.Mode.{Mode}
use Rattle.trace_text.specs.declared.events.Mode.TheVariants.{Read, Write}
use Rattle.trace_text.specs.declared.events.Who.{Who}
use Rattle.profile_image.specs.declared.image.Image.{Image}
use Rattle.profile_machine.specs.declared.run_data.Leaving.{Leaving}
use Rattle.profile_machine.specs.declared.run_data.Leaving.TheVariants as how
use Rattle.profile_machine.specs.declared.world.World.{World}
use Rattle.profile_machine.specs.declared.world.calls.Call.{Call}
use Rattle.profile_machine.specs.declared.world.calls.Outcome.TheVariants as call_ended
use Rattle.profile_machine.specs.declared.world.calls.Sending.{Sending}
use Rattle.profile_machine.specs.declared.world.lines.Line.TheVariants as line
use Rattle.profile_machine.specs.declared.world.lines.MeetingEnd.TheVariants as meeting
use Rattle.profile_machine.specs.declared.world.lines.Part.TheVariants.{Own, TheFinish}
use Rattle.profile_machine.specs.declared.world.marks.Frame.{Frame}
use Rattle.profile_machine.specs.declared.world.marks.Mark.{Mark}
use Rattle.profile_machine.specs.declared.world.marks.Mark.TheVariants.{Scope, Handled, InProtected, InAccept, Abortable, InInitialize, InFinalize, InAssign}
use Rattle.profile_machine.specs.declared.world.marks.ProtectedMark.{ProtectedMark}
use Rattle.profile_machine.specs.declared.world.scopes.ScopeId.{ScopeId}
use Rattle.profile_machine.specs.declared.world.tasks.Task.{Task}
use Rattle.profile_machine.specs.declared.world.tasks.Cause.TheVariants as inherited_by
use Rattle.world_tables.specs.Lists.{first_of, rest_of}
use Rattle.profile_machine.specs.Steps.{Step, says, changes, for_some, ◌▷◌}
use Rattle.profile_machine.specs.Tasks.{is_made, with_frames}
use Rattle.profile_machine.specs.Frames.{edit_top, frames_of, is_protected, pop, top_of}
use Rattle.profile_machine.specs.Inheritance.{lose_running}
use Rattle.profile_machine.specs.Priorities.{set_deferred}
use Rattle.profile_machine.specs.Scopes.{id_in}
use Rattle.profile_machine.specs.Calls.{call_of, enqueue}
use Rattle.profile_machine.specs.CallEnds.{deliver}
use Rattle.profile_machine.specs.Protected.{begin_call, body_opens, edit_top_protected, has_room_for_body, serve_call, served_next}
use Rattle.profile_machine.specs.Sending.{send_on}
use Rattle.profile_machine.specs.Values.{object_of}
use Rattle.profile_machine.specs.Serving.{begins_part, behind_action, chosen_is_sent, close_action, end_entry_body, end_in_protected, end_in_protected_by}
use Rattle.profile_machine.specs.Serving.{end_operation, finish_call, finish_raised, finish_well, go_on_by_mode, is_own_call, no_longer_serves, not_left}
use Rattle.profile_machine.specs.Serving.{outcome_by, part_of_start, release_object, serve_calls, serve_chosen, serve_next, settle_sent, with_body_left}
use Rattle.world_laws.proofs.Scopes.FineMoves.{Live, natures, chains, says-keeps}
use Rattle.world_laws.proofs.Scopes.ScopeKeys.{scope_keys}
use Rattle.world_laws.proofs.Scopes.TaskMarks.{opened-owns, owns_in, shielded}
use Rattle.world_laws.proofs.Scopes.Likeness.{Same, like_at}
use Rattle.world_laws.proofs.Scopes.QuietMoves.{SameStep, quiet}
use Rattle.world_laws.proofs.Scopes.TaskPuts.{edited-rest}
use Rattle.world_laws.proofs.Scopes.GoodWorlds.{Good, GoodWorld, marks-good, nobody_free}
use Rattle.world_laws.proofs.Scopes.ScopeSteps.{There, there-is, popped-put, put-live, top-there}
use Rattle.world_laws.proofs.Scopes.ActingMoves.{ActingWorld, Led, acting, acting-lifts, openings}
use Rattle.world_laws.proofs.Scopes.Lifting.{StepOf, quietly_then-from}
use Rattle.world_laws.proofs.Scopes.Kept.Frames.{edit_top-alters, plain_steps}
use Rattle.world_laws.proofs.Scopes.Kept.Inheritance.{lose_running-keeps}
use Rattle.world_laws.proofs.Scopes.Kept.Priorities.{set_deferred-keeps}
use Rattle.world_laws.proofs.Scopes.Kept.CallEnds.{deliver-keeps}
use Rattle.world_laws.proofs.Scopes.Kept.Protected.{begin_call-keeps, body_opens-keeps, edit_top_protected-alters}
use Rattle.world_laws.proofs.Scopes.Kept.Sending.{send_on-keeps}
use Rattle.world_laws.proofs.Scopes.Kept.Serving.{begins_part-keeps, behind_action-keeps, close_action-alters, settle_sent-keeps}
use Rattle.machine_laws.proofs.FineMoves.{AnyWorld}
use Rattle.line_laws.proofs.Exits.TaskEdits.{one_of-is}
use Rattle.machine_laws.proofs.Kept.Combinators.{From, Keeps, changes-keeps, changes_then-from, either-from}
use Rattle.machine_laws.proofs.Kept.Combinators.{keeps-from, looks_at-from, nothing-keeps, then-keeps}
use Rattle.machine_laws.proofs.Plain.Calls.{enqueue-keeps}

-- ---- the mark of an action above all scopes

abbrev pub Shielded : Who → World → Type 0
Shielded name w = shielded (natures (frames_of w name)) ≡ true

same-shield : (w v : World) (name : Who) → Same w v → Shielded name w → Shielded name v
same-shield w v name s h = let l = like_at w v name s in l.shield h

protected-none : (mark : Mark) → is_protected mark ≡ true → id_in mark ≡ None
protected-none (Scope m) e = absurd (false≢true e)
protected-none (Handled s) e = refl
protected-none (InProtected m) e = refl
protected-none (InAccept m) e = absurd (false≢true e)
protected-none (Abortable m) e = refl
protected-none (InInitialize l) e = refl
protected-none (InFinalize o) e = refl
protected-none (InAssign m) e = refl

-- one that is on top stands there
top-shields : (f : Frame) (fs : List Frame) → first_of fs ≡ Some f → is_protected f.mark ≡ true → shielded (natures fs) ≡ true
top-shields f [] top e = absurd cc
top-shields f (g ∷ fs) top e =
    let same : g ≡ f = cc in
    let here : is_protected g.mark ≡ true = ap (λ (x : Frame). is_protected x.mark) same ∙ e in
    shields (is_protected g.mark) (shielded (natures fs)) here where
      shields : (b c : Bool) → b ≡ true → cond b true (cond (is_some (id_in g.mark)) false c) ≡ true
      shields true c h = refl
      shields false c h = absurd (false≢true h)

pub top-shielded : (name : Who) (f : Frame) (w : World) → top_of w name ≡ Some f → is_protected f.mark ≡ true → Shielded name w
top-shielded name f w top e = top-shields f (frames_of w name) top e

-- ---- it ends

-- whatever stands on top of somebody so shielded has no scope
top-none : (action : Bool) (mark : Mark) (rest : Bool) → is_protected mark ≡ action → cond action true (cond (is_some (id_in mark)) false rest) ≡ true
    → id_in mark ≡ None
top-none true mark rest is e = protected-none mark is
top-none false mark rest is e = none-here (id_in mark) e where
  none-here : (id : Option ScopeId) → cond (is_some id) false rest ≡ true → id ≡ None
  none-here None h = refl
  none-here (Some id) h = absurd (false≢true h)

shielded-owns : (fs : List Frame) → shielded (natures fs) ≡ true → owns_in (natures (rest_of fs)) ≡ owns_in (natures fs)
shielded-owns [] h = refl
shielded-owns (f ∷ fs) h = sym (opened-owns f fs (top-none (is_protected f.mark) f.mark (shielded (natures fs)) refl h))

-- somebody who is there
shielded-there : (name : Who) (w : World) (fs : List Frame) → frames_of w name ≡ fs → shielded (natures fs) ≡ true → There name w
shielded-there name w [] is h = absurd (false≢true h)
shielded-there name w (f ∷ fs) is h = top-there name f w (ap first_of is)

pop-live : (name : Who) (w : World) → There name w → (n : Who) → Live n w → Live n (pop name w)
pop-live name w there n e =
    let v = pop name w in
    subst (λ (x : Task). is_made x ≡ false) (one_of-is v n)
    (put-live name there.task (with_frames (rest_of there.task.frames) there.task) w.tasks w.agent v.tasks v.agent (popped-put name w there) (λ h. h) n
    (subst (λ (x : Task). is_made x ≡ false) (sym (one_of-is w n)) e))

pub pop-led : (me : Who) (w : World) → ActingWorld me w → Shielded me w → Led me w (pop me w)
pop-led me w g h =
    let there = shielded-there me w (frames_of w me) refl h in
    let t = there.task in
    let v = pop me w in
    let put = popped-put me w there in
    let here : shielded (natures t.frames) ≡ true = subst (λ (x : Task). shielded (natures x.frames) ≡ true) (there-is me w there) h in
    let kept =
    marks-good nobody_free me t (with_frames (rest_of t.frames) t) w.tasks w.agent v.tasks v.agent
    (scope_keys w.scopes) w.drawn.tasks w.drawn.scopes put g.0 refl (shielded-owns t.frames here) (λ e. e) in
    let rest = edited-rest me (λ u. with_frames (rest_of u.frames) u) w in
    let good : GoodWorld v =
    subst (λ d. Good nobody_free v.tasks v.agent (scope_keys v.scopes) d.tasks d.scopes) (sym rest.1)
    (subst (λ ss. Good nobody_free v.tasks v.agent (scope_keys ss) w.drawn.tasks w.drawn.scopes) (sym rest.0) kept) in
    record { good = good; live = pop-live me w there me g.1; still = pop-live me w there }

module _ (p : Image) (me : Who) where
  step_then : (f g : Step) (w : World) → ActingWorld me w → Shielded me w → Keeps AnyWorld SameStep f
      → ((v : World) → ActingWorld me v → Shielded me v → From (StepOf (Led me)) v g) → From (StepOf (Led me)) w (f ▷ g)
  step_then f g w good h kept next = quietly_then-from (acting-lifts me) f g w good kept (λ v same good_v. next v good_v (same-shield w v me same h))

  release_object-from : (m : ProtectedMark) (w : World) → ActingWorld me w → Shielded me w → From (StepOf (Led me)) w (release_object p me m)
  unfolding release_object
  release_object-from m w good h =
      step_then (says Own (line.Exit me m.object)) _ w good h (says-keeps quiet Own (line.Exit me m.object)) (λ v good_v k.
      let out = pop-led me v good_v k in
      changes_then-from (chains (acting me)) (pop me) _ v out
      (keeps-from (chains (acting me))
      (changes (close_action me m.object) ▷ lose_running p me (inherited_by.Ceiling m.object) ▷ set_deferred p me
      ▷ behind_action p me m m.release m.own_call)
      (pop me v)
      (out.good, out.live)
      (then-keeps (chains (acting me)) _ _ (changes-keeps (chains (acting me)) _ (close_action-alters (acting me) me m.object))
      (then-keeps (chains (acting me)) _ _ (lose_running-keeps (acting me) p me (inherited_by.Ceiling m.object) tt)
      (then-keeps (chains (acting me)) _ _ (set_deferred-keeps (acting me) p me tt) (behind_action-keeps (acting me) p me m m.release m.own_call))))))

  -- queued calls are served, and then the object is released
  module _ (m : ProtectedMark) where
    served-from : (is_sent : Bool) (c : CallNo) (d : Call) (again : Step) (w : World)
        → ((v : World) → ActingWorld me v → Shielded me v → From (StepOf (Led me)) v again) → ActingWorld me w → Shielded me w
        → From (StepOf (Led me)) w
        (serve_call p (part_of_start is_sent) me m.object d (begins_part p is_sent c)
        (deliver p (part_of_start is_sent) c (call_ended.ToRaise exception.Storage) ▷ again))
    served-from is_sent c d again w onward good h =
        let part = part_of_start is_sent in
        let otherwise = deliver p part c (call_ended.ToRaise exception.Storage) ▷ again in
        let by_room =
        λ (b : Bool). elim b as (λ _. Step) [
          | true ↦ body_opens p me m.object d ▷ begins_part p is_sent c
          | false ↦ says part (line.Finish me d.number (meeting.Raised exception.Storage)) ▷ otherwise
        ] in
        looks_at-from (chains (acting me)) (λ v. begin_call p part me d ▷ by_room (has_room_for_body p v me d.entry)) w
        (step_then (begin_call p part me d) (by_room (has_room_for_body p w me d.entry)) w good h (begin_call-keeps quiet p part me d)
        (λ v g k. either-from (chains (acting me)) (has_room_for_body p w me d.entry) (body_opens p me m.object d ▷ begins_part p is_sent c)
        (says part (line.Finish me d.number (meeting.Raised exception.Storage)) ▷ otherwise) v
        (keeps-from (chains (acting me)) _ v g
        (then-keeps (chains (acting me)) _ _ (body_opens-keeps (acting me) (openings me) p me m.object d refl) (begins_part-keeps (acting me) p is_sent c)))
        (step_then (says part (line.Finish me d.number (meeting.Raised exception.Storage))) otherwise v g k
        (says-keeps quiet part (line.Finish me d.number (meeting.Raised exception.Storage)))
        (λ u g_u l. step_then (deliver p part c (call_ended.ToRaise exception.Storage)) again u g_u l
        (deliver-keeps quiet p part c (call_ended.ToRaise exception.Storage)) onward))))

    found-from : (is_sent : Bool) (c : CallNo) (again : Step) (found : Option Call) (w : World)
        → ((v : World) → ActingWorld me v → Shielded me v → From (StepOf (Led me)) v again) → ActingWorld me w → Shielded me w
        → From (StepOf (Led me)) w
        (for_some found
        (λ d. serve_call p (part_of_start is_sent) me m.object d (begins_part p is_sent c)
        (deliver p (part_of_start is_sent) c (call_ended.ToRaise exception.Storage) ▷ again)))
    found-from is_sent c again None w onward good h = keeps-from (chains (acting me)) _ w good (nothing-keeps (chains (acting me)))
    found-from is_sent c again (Some d) w onward good h = served-from is_sent c d again w onward good h

    serve_chosen-from : (is_sent : Bool) (again : Step) (chosen : Option CallNo) (w : World)
        → ((v : World) → ActingWorld me v → Shielded me v → From (StepOf (Led me)) v again) → ActingWorld me w → Shielded me w
        → From (StepOf (Led me)) w (serve_chosen p me m is_sent again chosen)
    serve_chosen-from is_sent again None w onward good h = release_object-from m w good h
    serve_chosen-from is_sent again (Some c) w onward good h =
        looks_at-from (chains (acting me))
        (λ v. for_some (call_of v c)
        (λ d. serve_call p (part_of_start is_sent) me m.object d (begins_part p is_sent c)
        (deliver p (part_of_start is_sent) c (call_ended.ToRaise exception.Storage) ▷ again))) w
        (found-from is_sent c again (call_of w c) w onward good h)

    serve_next-from : (fuel : ℕ) (sent : Option CallNo) (w : World) → ActingWorld me w → Shielded me w → From (StepOf (Led me)) w (serve_next fuel p me m sent)
    unfolding serve_next
    serve_next-from zero sent w good h = release_object-from m w good h
    serve_next-from (suc fuel) sent w good h =
        let chosen = λ (v : World). served_next p v me (object_of v m.object) in
        looks_at-from (chains (acting me))
        (λ v. settle_sent p sent (chosen_is_sent sent (chosen v))
        ▷ serve_chosen p me m (chosen_is_sent sent (chosen v)) (serve_next fuel p me m None) (chosen v)) w
        (step_then (settle_sent p sent (chosen_is_sent sent (chosen w))) _ w good h (settle_sent-keeps quiet p sent (chosen_is_sent sent (chosen w)))
        (λ v g k.
        serve_chosen-from (chosen_is_sent sent (chosen w)) (serve_next fuel p me m None) (chosen w) v (λ u g_u l. serve_next-from fuel None u g_u l) g k))

    serve_calls-from : (sent : Option CallNo) (w : World) → ActingWorld me w → Shielded me w → From (StepOf (Led me)) w (serve_calls p me m sent)
    unfolding serve_calls
    serve_calls-from sent w good h =
        looks_at-from (chains (acting me)) (λ v. serve_next (suc (length v.calls)) p me m sent) w (serve_next-from (suc (length w.calls)) sent w good h)

    by_mode-from : (mode : Mode) (w : World) → ActingWorld me w → Shielded me w → From (StepOf (Led me)) w (go_on_by_mode p me m mode)
    unfolding go_on_by_mode
    by_mode-from Read w good h = release_object-from m w good h
    by_mode-from Write w good h = serve_calls-from None w good h

    raised-from : (c : Call) (e : Raised) (w : World) → ActingWorld me w → Shielded me w → From (StepOf (Led me)) w (finish_raised p me m c e)
    unfolding finish_raised
    raised-from c e w good h =
        step_then (says TheFinish (line.Finish me c.number (meeting.Raised e))) _ w good h
        (says-keeps quiet TheFinish (line.Finish me c.number (meeting.Raised e)))
        (λ v g k. step_then (deliver p TheFinish c.number (outcome_by (is_own_call me m.own_call c) e)) _ v g k
        (deliver-keeps quiet p TheFinish c.number (outcome_by (is_own_call me m.own_call c) e))
        (λ u g_u l. serve_calls-from None u g_u l))

    well-from : (c : Call) (sending : Option Sending) (w : World) → ActingWorld me w → Shielded me w → From (StepOf (Led me)) w (finish_well p me m c sending)
    unfolding finish_well
    well-from c None w good h =
        step_then (says TheFinish (line.Finish me c.number meeting.Ok)) _ w good h (says-keeps quiet TheFinish (line.Finish me c.number meeting.Ok))
        (λ v g k. step_then (deliver p TheFinish c.number call_ended.Finished) _ v g k (deliver-keeps quiet p TheFinish c.number call_ended.Finished)
        (λ u g_u l. serve_calls-from None u g_u l))
    well-from c (Some s) w good h =
        step_then (says TheFinish (line.Finish me c.number meeting.Requeue)) _ w good h (says-keeps quiet TheFinish (line.Finish me c.number meeting.Requeue))
        (λ v g k. step_then (send_on c.number s) _ v g k (send_on-keeps quiet c.number s)
        (λ u g_u l.
        step_then (enqueue p c.number) _ u g_u l (enqueue-keeps (plain_steps quiet) p c.number) (λ x g_x j. serve_calls-from (Some c.number) x g_x j)))

    finish_call-from : (leaving : Leaving) (c : Call) (w : World) → ActingWorld me w → Shielded me w → From (StepOf (Led me)) w (finish_call p me m leaving c)
    unfolding finish_call
    finish_call-from (how.Exception e) c w good h = raised-from c e w good h
    finish_call-from how.End c w good h = well-from c c.sending w good h
    finish_call-from how.Return c w good h = well-from c c.sending w good h
    finish_call-from (how.Exit loop) c w good h = well-from c c.sending w good h
    finish_call-from how.Abort c w good h = well-from c c.sending w good h
    finish_call-from how.Terminate c w good h = well-from c c.sending w good h

    called-from : (leaving : Leaving) (found : Option Call) (w : World) → ActingWorld me w → Shielded me w
        → From (StepOf (Led me)) w (for_some found (finish_call p me m leaving))
    called-from leaving None w good h = keeps-from (chains (acting me)) _ w good (nothing-keeps (chains (acting me)))
    called-from leaving (Some c) w good h = finish_call-from leaving c w good h

  end_operation-from : (m : ProtectedMark) (leaving : Leaving) (w : World) → ActingWorld me w → Shielded me w
      → From (StepOf (Led me)) w (end_operation p me m leaving)
  unfolding end_operation
  end_operation-from m leaving w good h =
      step_then (changes (edit_top_protected me (with_body_left leaving))) _ w good h
      (changes-keeps (chains quiet) _ (edit_top_protected-alters quiet me (with_body_left leaving)))
      (λ v g k. step_then (changes (edit_top me not_left)) _ v g k (changes-keeps (chains quiet) _ (edit_top-alters quiet me not_left (λ x. refl)))
      (λ u g_u l. by_mode-from (with_body_left leaving m) m.mode u g_u l))

  end_entry_body-from : (m : ProtectedMark) (leaving : Leaving) (c : CallNo) (w : World) → ActingWorld me w → Shielded me w
      → From (StepOf (Led me)) w (end_entry_body p me m leaving c)
  unfolding end_entry_body
  end_entry_body-from m leaving c w good h =
      step_then (changes (edit_top_protected me no_longer_serves)) _ w good h
      (changes-keeps (chains quiet) _ (edit_top_protected-alters quiet me no_longer_serves))
      (λ v g k. step_then (changes (edit_top me not_left)) _ v g k (changes-keeps (chains quiet) _ (edit_top-alters quiet me not_left (λ x. refl)))
      (λ u g_u l. looks_at-from (chains (acting me)) (λ x. for_some (call_of x c) (finish_call p me (no_longer_serves m) leaving)) u
      (called-from (no_longer_serves m) leaving (call_of u c) u g_u l)))

  by_serves-from : (m : ProtectedMark) (leaving : Leaving) (c : Option CallNo) (w : World) → ActingWorld me w → Shielded me w
      → From (StepOf (Led me)) w (end_in_protected_by p me m leaving c)
  unfolding end_in_protected_by
  by_serves-from m leaving None w good h = end_operation-from m leaving w good h
  by_serves-from m leaving (Some c) w good h = end_entry_body-from m leaving c w good h

  pub end_in_protected-from : (m : ProtectedMark) (leaving : Leaving) (w : World) → ActingWorld me w → Shielded me w
      → From (StepOf (Led me)) w (end_in_protected p me m leaving)
  unfolding end_in_protected
  end_in_protected-from m leaving w good h = by_serves-from m leaving m.serves w good h
