-- Queued calls that are served, and objects that are released: each step keeps a relation that its parts keep.
use Rattle.std.specs.Prelude.{ℕ, zero, suc, Bool, true, false, List, [], ◌∷◌, Option, Some, None, length}
use Rattle.std.proofs.lemmas.Bool.{eqb-true}
use Rattle.ann_base.specs.declared.identities.CallNo.{CallNo}
use Rattle.ann_base.specs.declared.identities.ObjectNo.{ObjectNo}
use Rattle.ann_base.specs.declared.exceptions.Raised.{Raised}
use Rattle.ann_base.specs.declared.exceptions.Raised.TheVariants as exception
use Rattle.trace_text.specs.declared.events.Mode.{Mode}
use Rattle.trace_text.specs.declared.events.Mode.TheVariants.{Read, Write}
use Rattle.trace_text.specs.declared.events.Who.{Who}
use Rattle.profile_image.specs.declared.image.Image.{Image}
use Rattle.profile_machine.specs.declared.run_data.Leaving.{Leaving}
use Rattle.profile_machine.specs.declared.run_data.Leaving.TheVariants as how
use Rattle.profile_machine.specs.declared.world.World.{World}
use Rattle.profile_machine.specs.declared.world.appointments.Release.{Release}
use Rattle.profile_machine.specs.declared.world.marks.ProtectedMark.{ProtectedMark}
use Rattle.profile_machine.specs.declared.world.calls.Call.{Call}
use Rattle.profile_machine.specs.declared.world.calls.Outcome.{Outcome}
use Rattle.profile_machine.specs.declared.world.calls.Outcome.TheVariants as call_ended
use Rattle.profile_machine.specs.declared.world.calls.Sending.{Sending}
use Rattle.profile_machine.specs.declared.world.lines.Line.TheVariants as line
use Rattle.profile_machine.specs.declared.world.lines.Part.{Part}
use Rattle.profile_machine.specs.declared.world.lines.Part.TheVariants.{Own, TheFinish, TheBlock}
use Rattle.profile_machine.specs.declared.world.lines.Said.{Said}
use Rattle.profile_machine.specs.declared.world.lines.MeetingEnd.TheVariants as meeting
use Rattle.profile_machine.specs.Calls.{call_of, with_call, enqueue}
use Rattle.profile_machine.specs.CallEnds.{deliver}
use Rattle.profile_machine.specs.Sending.{send_on}
use Rattle.profile_machine.specs.declared.world.tasks.Cause.TheVariants as inherited_by
use Rattle.profile_machine.specs.Frames.{edit_top, pop}
use Rattle.profile_machine.specs.Inheritance.{lose_running}
use Rattle.profile_machine.specs.Priorities.{set_deferred}
use Rattle.profile_machine.specs.declared.world.tasks.Waiting.TheVariants as waits_for
use Rattle.trace_text.specs.declared.events.Who.TheVariants as who
use Rattle.ann_base.specs.Lists.{is_empty}
use Rattle.profile_machine.specs.Dispatching.{block}
use Rattle.profile_machine.specs.Steps.{Step, Done, done, goes_on_with, says, changes, looks, when, nothing, for_some, ◌▷◌}
use Rattle.profile_machine.specs.Protected.{served_next, edit_top_protected, begin_call, body_opens, serve_call, has_room_for_body}
use Rattle.profile_machine.specs.Values.{object_of}
use Rattle.profile_machine.specs.Serving.{serves_nothing, is_served_now, serve_ends, end_release, close_action, wait_or_unwind, wait_for_own, resume_own}
use Rattle.profile_machine.specs.Serving.{behind_action, release_object, settle_sent, begins_part, chosen_is_sent, serve_chosen, serve_next, serve_calls}
use Rattle.profile_machine.specs.Serving.{go_on_by_mode, end_operation, finish_raised, finish_well, finish_call, end_entry_body, end_in_protected_by}
use Rattle.profile_machine.specs.Serving.{end_in_protected, part_of_start, with_body_left, no_longer_serves, not_left, outcome_by, is_own_call}
use Rattle.std.proofs.Common.{◌≡◌, refl, sym, subst}
use Rattle.machine_laws.proofs.Moves.{StepRelation, MoveRelation, own}
use Rattle.machine_laws.proofs.FineMoves.{GoodWorld, Naming, Anybody, AnyRelease}
use Rattle.machine_laws.proofs.FinestMoves.{FinestMoves, MarkOpenings, ActionEnds, HandlerMoves, Holding, Anyhow, chains, says-keeps}
use Rattle.machine_laws.proofs.Kept.Dispatching.{block-keeps}
use Rattle.machine_laws.proofs.Kept.Frames.{edit_top-alters, leaves-keeps, plain_steps}
use Rattle.machine_laws.proofs.Kept.Inheritance.{lose_running-keeps}
use Rattle.machine_laws.proofs.Kept.CallEnds.{deliver-keeps}
use Rattle.machine_laws.proofs.Kept.Protected.{edit_top_protected-alters, begin_call-keeps, body_opens-keeps}
use Rattle.machine_laws.proofs.Kept.Priorities.{set_deferred-keeps}
use Rattle.machine_laws.proofs.Kept.Sending.{open_abortable-alters, wait_for_call-keeps, send_on-keeps, begin_abortable-keeps, sent_not_begun-keeps}
use Rattle.machine_laws.proofs.Kept.Combinators.{From, Keeps, Kept, changes-keeps, either-from, keeps-from, looks-from, looks-keeps}
use Rattle.machine_laws.proofs.Kept.Combinators.{looks_at-from, nothing-keeps, then-from, then-keeps, then-kept, when-keeps, world_behind}
use Rattle.machine_laws.proofs.Plain.Frames.{pass_on-keeps}
use Rattle.machine_laws.proofs.Plain.Calls.{forget_call-alters, with_call-keeps, enqueue-keeps, attempt_with-keeps}
use Rattle.machine_laws.proofs.Plain.Results.{resume-keeps}
use Rattle.machine_laws.proofs.Plain.PlainSteps.{anybody}

-- what is known of who has a protected action stays so while calls are served
pub record Stays (Holds : Holding) : Type 0 where
  pub edits_action : (name : Who) (o : ObjectNo) (f : ProtectedMark → ProtectedMark) (w : World) → ((m : ProtectedMark) → (f m).release ≡ m.release)
      → ((m : ProtectedMark) → (f m).object ≡ m.object) → Holds name o w → Holds name o (edit_top_protected name f w)
  pub goes_on : (name : Who) (o : ObjectNo) (w : World) → Holds name o w → Holds name o (edit_top name not_left w)
  pub begins_call : (name : Who) (o : ObjectNo) (p : Image) (part : Part) (c : Call) (w : World) (said : List Said) → Holds name o w
      → Holds name o (world_behind (begin_call p part name c w said))
  pub delivers : (name : Who) (o : ObjectNo) (p : Image) (part : Part) (c : CallNo) (outcome : Outcome) (w : World) (said : List Said) → Holds name o w
      → Holds name o (world_behind (deliver p part c outcome w said))
  pub sends_on : (name : Who) (o : ObjectNo) (c : CallNo) (s : Sending) (w : World) (said : List Said) → Holds name o w
      → Holds name o (world_behind (send_on c s w said))
  pub enqueues : (name : Who) (o : ObjectNo) (p : Image) (c : CallNo) (w : World) (said : List Said) → Holds name o w
      → Holds name o (world_behind (enqueue p c w said))
  pub settles_sent : (name : Who) (o : ObjectNo) (p : Image) (c : Option CallNo) (test : Bool) (w : World) (said : List Said) → Holds name o w
      → Holds name o (world_behind (settle_sent p c test w said))

pub stays_anyhow : Stays Anyhow
stays_anyhow = record {
  edits_action = λ name o f w same alike h. tt;
  goes_on = λ name o w h. tt;
  begins_call = λ name o p part c w said h. tt;
  delivers = λ name o p part c outcome w said h. tt;
  sends_on = λ name o c s w said h. tt;
  enqueues = λ name o p c w said h. tt;
  settles_sent = λ name o p c test w said h. tt;
}

-- the release that the agent serves ends, of a release that may end
pub record Ending (G : GoodWorld) (MayEnd : Who → Option ℕ → Type 0) (R : StepRelation) : Type 0 where
  pub ends : (name : Who) (n : ℕ) → MayEnd name (Some n) → Keeps G R (end_release n)

-- ---- where anybody may be changed, it may end

module _ {G : GoodWorld} {R : StepRelation} {Q : MoveRelation} (moves : FinestMoves G Anybody Anybody R Q) (handlers : HandlerMoves G R) where
  -- the release that the agent serves ends, and is told
  told_served-from : (r : Release) (n : ℕ) (w : World) → G w → w.serving ≡ Some r → n ≡ r.number → From R w (says Own (line.Served n) ▷ changes serves_nothing)
  unfolding From Kept
  told_served-from r n w good is e said =
      (own (line.Served n) ∷ [], refl, subst (λ m. R w (own (line.Served m) ∷ []) (serves_nothing w)) (sym e) (handlers.has_served r w good is))

  serve_ends-from : (r : Release) (n : ℕ) (w : World) → G w → w.serving ≡ Some r → n ≡ r.number → From R w (serve_ends n)
  unfolding serve_ends
  serve_ends-from r n w good is e =
      then-from (chains moves) (says Own (line.Served n) ▷ changes serves_nothing)
      (looks (λ v. when (is_empty v.releases) (block TheBlock who.Agent waits_for.Release))) w
      (told_served-from r n w good is e)
      (looks-keeps (chains moves) _ (λ v. when-keeps (chains moves) (is_empty v.releases) _ (block-keeps moves TheBlock who.Agent waits_for.Release tt)))

  end_served-from : (n : ℕ) (w : World) (serving : Option Release) (test : Bool) → G w → w.serving ≡ serving → is_served_now n serving ≡ test
      → From R w (when test (serve_ends n))
  end_served-from n w None true good is e = cc
  end_served-from n w (Some r) true good is e = serve_ends-from r n w good is (eqb-true n r.number e)
  end_served-from n w serving false good is e = keeps-from (chains moves) nothing w good (nothing-keeps (chains moves))

  pub end_release-keeps : (n : ℕ) → Keeps G R (end_release n)
  unfolding end_release
  end_release-keeps n = looks-from (chains moves) _ (λ w good. end_served-from n w w.serving (is_served_now n w.serving) good refl refl)

  pub ending : Ending G AnyRelease R
  ending = record { ends = λ name n may. end_release-keeps n }

-- ---- behind a protected action

module _ {G : GoodWorld} {May Other : Naming} {R : StepRelation} {Q : MoveRelation} (moves : FinestMoves G May Other R Q) where
  pub wait_or_unwind-keeps : (p : Image) (name : Who) (c : Call) (test : Bool) → Keeps G R (wait_or_unwind p name c test)
  unfolding wait_or_unwind
  wait_or_unwind-keeps p name c true =
      search (attempt_with-keeps, changes-keeps, forget_call-alters, then-keeps, leaves-keeps, wait_for_call-keeps, chains, plain_steps)
  wait_or_unwind-keeps p name c false = search (wait_for_call-keeps)

  pub wait_for_own-keeps : (p : Image) (name : Who) (c : Call) (test : Bool) → Other name → Keeps G R (wait_for_own p name c test)
  unfolding wait_for_own
  wait_for_own-keeps p name c true other = search (changes-keeps, open_abortable-alters, moves.task_other, chains)
  wait_for_own-keeps p name c false other = search (looks-keeps, wait_or_unwind-keeps, chains)

  pub resume_own-keeps : (p : Image) (name : Who) (c : Call) (outcome : Option Outcome) → Other name → Keeps G R (resume_own p name c outcome)
  unfolding resume_own
  resume_own-keeps p name c (Some outcome) other = search (resume-keeps, plain_steps, anybody)
  resume_own-keeps p name c None other = search (looks-keeps, wait_for_own-keeps, chains)

  pub settle_sent-keeps : (p : Image) (c : Option CallNo) (test : Bool) → Keeps G R (settle_sent p c test)
  unfolding settle_sent
  settle_sent-keeps p None is_served = search (nothing-keeps, chains)
  settle_sent-keeps p (Some c) true = search (nothing-keeps, chains)
  settle_sent-keeps p (Some c) false = search (sent_not_begun-keeps)

  begins_part-keeps : (p : Image) (test : Bool) (c : CallNo) → Keeps G R (begins_part p test c)
  unfolding begins_part
  begins_part-keeps p true c = search (begin_abortable-keeps)
  begins_part-keeps p false c = search (nothing-keeps, chains)

-- ---- a protected action goes on and ends: what is known of whose it is stays so up to its end

module _ {G : GoodWorld} {May Other : Naming} {MayEnd : Who → Option ℕ → Type 0} {Holds : Holding} {R : StepRelation} {Q : MoveRelation}
    (moves : FinestMoves G May Other R Q) (openings : MarkOpenings G May Other R) (ends : ActionEnds G May MayEnd Holds R) (ending : Ending G MayEnd R)
    (stays : Stays Holds) where
  -- a step that leaves it there, and what is done behind it
  kept_then : (me : Who) (o : ObjectNo) (g : Step) (w : World) (said : List Said) (d : Done) → Kept R w said d → Holds me o (world_behind d)
      → ((v : World) → G v → Holds me o v → From R v g) → Kept R w said (goes_on_with g d)
  unfolding From Kept
  kept_then me o g w said (done v ys) a h k = then-kept (chains moves) w v said ys (g v ys) a (k v (moves.behind w v a.2) h ys)

  step_then : (me : Who) (o : ObjectNo) (f g : Step) (w : World) → G w → Keeps G R f → ((said : List Said) → Holds me o (world_behind (f w said)))
      → ((v : World) → G v → Holds me o v → From R v g) → From R w (f ▷ g)
  unfolding From Keeps
  step_then me o f g w good a b k said = kept_then me o g w said (f w said) (a w good said) (b said) k

  some_from : {X : Type 0} (x : Option X) (f : X → Step) (w : World) → G w → ((y : X) → From R w (f y)) → From R w (for_some x f)
  some_from None f w good k = keeps-from (chains moves) nothing w good (nothing-keeps (chains moves))
  some_from (Some x) f w good k = k x

  call_then : (c : CallNo) (f : Call → Step) (w : World) → G w → ((d : Call) → From R w (f d)) → From R w (with_call c f)
  call_then c f w good k = looks_at-from (chains moves) (λ v. for_some (call_of v c) f) w (some_from (call_of w c) f w good k)

  module _ (p : Image) (name : Who) (other : Other name) where
    behind_action-keeps : (m : ProtectedMark) (n : Option ℕ) (c : Option CallNo) → MayEnd name n → Keeps G R (behind_action p name m n c)
    unfolding behind_action
    behind_action-keeps m (Some release) call may_end = ending.ends name release may_end
    behind_action-keeps m None None may_end = pass_on-keeps (plain_steps moves) p name m.body_left tt
    behind_action-keeps m None (Some c) may_end = with_call-keeps (plain_steps moves) c _ (λ d. resume_own-keeps moves p name d d.outcome other)

  module _ (p : Image) (name : Who) (m : ProtectedMark) (other : Other name) (may_end : MayEnd name m.release) where
    told_exit-from : (w : World) → G w → Holds name m.object w
        → From R w (says Own (line.Exit name m.object) ▷ changes (pop name) ▷ changes (close_action name m.object))
    unfolding From Kept
    told_exit-from w good h said = (own (line.Exit name m.object) ∷ [], refl, ends.exits name m w good (moves.other_may name other) may_end h)

    release_object-from : (w : World) → G w → Holds name m.object w → From R w (release_object p name m)
    unfolding release_object
    release_object-from w good h =
        then-from (chains moves) (says Own (line.Exit name m.object) ▷ changes (pop name) ▷ changes (close_action name m.object))
        (lose_running p name (inherited_by.Ceiling m.object) ▷ set_deferred p name ▷ behind_action p name m m.release m.own_call) w
        (told_exit-from w good h)
        (then-keeps (chains moves) _ _ (lose_running-keeps moves p name (inherited_by.Ceiling m.object) (moves.other_may name other))
        (then-keeps (chains moves) _ _ (set_deferred-keeps moves p name (moves.other_may name other))
        (behind_action-keeps p name other m m.release m.own_call may_end)))

    -- queued calls are served, and then the object is released
    served-from : (is_sent : Bool) (c : CallNo) (d : Call) (again : Step) (w : World) → ((v : World) → G v → Holds name m.object v → From R v again) → G w
        → Holds name m.object w
        → From R w (serve_call p (part_of_start is_sent) name m.object d (begins_part p is_sent c)
        (deliver p (part_of_start is_sent) c (call_ended.ToRaise exception.Storage) ▷ again))
    served-from is_sent c d again w onward good h =
        let part = part_of_start is_sent in
        let otherwise = deliver p part c (call_ended.ToRaise exception.Storage) ▷ again in
        let by_room =
        λ (b : Bool). elim b as (λ _. Step) [
          | true ↦ body_opens p name m.object d ▷ begins_part p is_sent c
          | false ↦ says part (line.Finish name d.number (meeting.Raised exception.Storage)) ▷ otherwise
        ] in
        looks_at-from (chains moves) (λ v. begin_call p part name d ▷ by_room (has_room_for_body p v name d.entry)) w
        (step_then name m.object (begin_call p part name d) (by_room (has_room_for_body p w name d.entry)) w good (begin_call-keeps moves p part name d)
        (λ said. stays.begins_call name m.object p part d w said h)
        (λ v fine k. either-from (chains moves) (has_room_for_body p w name d.entry) (body_opens p name m.object d ▷ begins_part p is_sent c)
        (says part (line.Finish name d.number (meeting.Raised exception.Storage)) ▷ otherwise) v
        (keeps-from (chains moves) _ v fine
        (then-keeps (chains moves) _ _ (body_opens-keeps moves openings p name m.object d (moves.other_may name other))
        (begins_part-keeps moves p is_sent c)))
        (step_then name m.object (says part (line.Finish name d.number (meeting.Raised exception.Storage))) otherwise v fine
        (says-keeps moves part (line.Finish name d.number (meeting.Raised exception.Storage)) refl) (λ said. k)
        (λ u good_u l. step_then name m.object (deliver p part c (call_ended.ToRaise exception.Storage)) again u good_u
        (deliver-keeps moves p part c (call_ended.ToRaise exception.Storage))
        (λ said. stays.delivers name m.object p part c (call_ended.ToRaise exception.Storage) u said l) onward))))

    serve_chosen-from : (is_sent : Bool) (again : Step) (chosen : Option CallNo) (w : World) → ((v : World) → G v → Holds name m.object v → From R v again)
        → G w → Holds name m.object w → From R w (serve_chosen p name m is_sent again chosen)
    serve_chosen-from is_sent again None w onward good h = release_object-from w good h
    serve_chosen-from is_sent again (Some c) w onward good h = call_then c _ w good (λ d. served-from is_sent c d again w onward good h)

    serve_next-from : (fuel : ℕ) (sent : Option CallNo) (w : World) → G w → Holds name m.object w → From R w (serve_next fuel p name m sent)
    unfolding serve_next
    serve_next-from zero sent w good h = release_object-from w good h
    serve_next-from (suc fuel) sent w good h =
        let chosen = λ (v : World). served_next p v name (object_of v m.object) in
        looks_at-from (chains moves)
        (λ v. settle_sent p sent (chosen_is_sent sent (chosen v))
        ▷ serve_chosen p name m (chosen_is_sent sent (chosen v)) (serve_next fuel p name m None) (chosen v)) w
        (step_then name m.object (settle_sent p sent (chosen_is_sent sent (chosen w))) _ w good
        (settle_sent-keeps moves p sent (chosen_is_sent sent (chosen w)))
        (λ said. stays.settles_sent name m.object p sent (chosen_is_sent sent (chosen w)) w said h)
        (λ v fine k. serve_chosen-from (chosen_is_sent sent (chosen w)) (serve_next fuel p name m None) (chosen w) v
        (λ u good_u l. serve_next-from fuel None u good_u l) fine k))

    serve_calls-from : (sent : Option CallNo) (w : World) → G w → Holds name m.object w → From R w (serve_calls p name m sent)
    unfolding serve_calls
    serve_calls-from sent w good h =
        looks_at-from (chains moves) (λ v. serve_next (suc (length v.calls)) p name m sent) w (serve_next-from (suc (length w.calls)) sent w good h)

    by_mode-from : (mode : Mode) (w : World) → G w → Holds name m.object w → From R w (go_on_by_mode p name m mode)
    unfolding go_on_by_mode
    by_mode-from Read w good h = release_object-from w good h
    by_mode-from Write w good h = serve_calls-from None w good h

    raised-from : (c : Call) (e : Raised) (w : World) → G w → Holds name m.object w → From R w (finish_raised p name m c e)
    unfolding finish_raised
    raised-from c e w good h =
        step_then name m.object (says TheFinish (line.Finish name c.number (meeting.Raised e))) _ w good
        (says-keeps moves TheFinish (line.Finish name c.number (meeting.Raised e)) refl) (λ said. h)
        (λ v fine k. step_then name m.object (deliver p TheFinish c.number (outcome_by (is_own_call name m.own_call c) e)) _ v fine
        (deliver-keeps moves p TheFinish c.number (outcome_by (is_own_call name m.own_call c) e))
        (λ said. stays.delivers name m.object p TheFinish c.number (outcome_by (is_own_call name m.own_call c) e) v said k)
        (λ u good_u l. serve_calls-from None u good_u l))

    well-from : (c : Call) (sending : Option Sending) (w : World) → G w → Holds name m.object w → From R w (finish_well p name m c sending)
    unfolding finish_well
    well-from c None w good h =
        step_then name m.object (says TheFinish (line.Finish name c.number meeting.Ok)) _ w good
        (says-keeps moves TheFinish (line.Finish name c.number meeting.Ok) refl) (λ said. h)
        (λ v fine k. step_then name m.object (deliver p TheFinish c.number call_ended.Finished) _ v fine
        (deliver-keeps moves p TheFinish c.number call_ended.Finished)
        (λ said. stays.delivers name m.object p TheFinish c.number call_ended.Finished v said k)
        (λ u good_u l. serve_calls-from None u good_u l))
    well-from c (Some s) w good h =
        step_then name m.object (says TheFinish (line.Finish name c.number meeting.Requeue)) _ w good
        (says-keeps moves TheFinish (line.Finish name c.number meeting.Requeue) refl) (λ said. h)
        (λ v fine k.
        step_then name m.object (send_on c.number s) _ v fine (send_on-keeps moves c.number s) (λ said. stays.sends_on name m.object c.number s v said k)
        (λ u good_u l. step_then name m.object (enqueue p c.number) _ u good_u (enqueue-keeps (plain_steps moves) p c.number)
        (λ said. stays.enqueues name m.object p c.number u said l)
        (λ t good_t n. serve_calls-from (Some c.number) t good_t n)))

    finish-from : (leaving : Leaving) (c : Call) (w : World) → G w → Holds name m.object w → From R w (finish_call p name m leaving c)
    unfolding finish_call
    finish-from (how.Exception e) c w good h = raised-from c e w good h
    finish-from how.End c w good h = well-from c c.sending w good h
    finish-from how.Return c w good h = well-from c c.sending w good h
    finish-from (how.Exit loop) c w good h = well-from c c.sending w good h
    finish-from how.Abort c w good h = well-from c c.sending w good h
    finish-from how.Terminate c w good h = well-from c c.sending w good h

  -- a body in the action has ended
  module _ (p : Image) (name : Who) (m : ProtectedMark) (leaving : Leaving) (other : Other name) (may_end : MayEnd name m.release) where
    edits_then : (f : ProtectedMark → ProtectedMark) (g : Step) (w : World) → ((x : ProtectedMark) → (f x).release ≡ x.release)
        → ((x : ProtectedMark) → (f x).object ≡ x.object) → G w → Holds name m.object w → ((v : World) → G v → Holds name m.object v → From R v g)
        → From R w (changes (edit_top_protected name f) ▷ changes (edit_top name not_left) ▷ g)
    edits_then f g w same alike good h onward =
        step_then name m.object (changes (edit_top_protected name f)) _ w good
        (changes-keeps (chains moves) _ (edit_top_protected-alters moves name f same alike)) (λ said. stays.edits_action name m.object f w same alike h)
        (λ v fine k. step_then name m.object (changes (edit_top name not_left)) g v fine
        (changes-keeps (chains moves) _ (edit_top-alters moves name not_left (λ x. refl))) (λ said. stays.goes_on name m.object v k) onward)

    operation-from : (w : World) → G w → Holds name m.object w → From R w (end_operation p name m leaving)
    unfolding end_operation
    operation-from w good h =
        edits_then (with_body_left leaving) (go_on_by_mode p name (with_body_left leaving m) m.mode) w (λ x. refl) (λ x. refl) good h
        (λ v fine k. by_mode-from p name (with_body_left leaving m) other may_end m.mode v fine k)

    entry_body-from : (c : CallNo) (w : World) → G w → Holds name m.object w → From R w (end_entry_body p name m leaving c)
    unfolding end_entry_body
    entry_body-from c w good h =
        edits_then no_longer_serves (with_call c (finish_call p name (no_longer_serves m) leaving)) w (λ x. refl) (λ x. refl) good h
        (λ v fine k. call_then c (finish_call p name (no_longer_serves m) leaving) v fine
        (λ d. finish-from p name (no_longer_serves m) other may_end leaving d v fine k))

    by_body-from : (serves : Option CallNo) (w : World) → G w → Holds name m.object w → From R w (end_in_protected_by p name m leaving serves)
    unfolding end_in_protected_by
    by_body-from None w good h = operation-from w good h
    by_body-from (Some c) w good h = entry_body-from c w good h

    pub end_in_protected-from : (w : World) → G w → Holds name m.object w → From R w (end_in_protected p name m leaving)
    unfolding end_in_protected
    end_in_protected-from w good h = by_body-from m.serves w good h
