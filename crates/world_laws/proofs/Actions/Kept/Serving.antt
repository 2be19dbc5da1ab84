-- Queued calls that are served, and objects that are released: each step leaves worlds good where its parts do.
use Rattle.std.specs.Prelude.{ℕ, zero, suc, Bool, true, false, List, [], ◌∷◌, Option, Some, None, length, is_some, ◌||◌}
use Rattle.ann_base.specs.declared.identities.CallNo.{CallNo}
use Rattle.ann_base.specs.declared.identities.ObjectNo.{ObjectNo}
use Rattle.ann_base.specs.declared.exceptions.Raised.{Raised}
use Rattle.ann_base.specs.declared.exceptions.Raised.TheVariants as exception
use Rattle.trace_text.specs.declared.events.Mode.{Mode}
use Rattle.trace_text.specs.declared.events.Mode.TheVariants.{Read, Write}
use Rattle.trace_text.specs.declared.events.Who.{Who}
use Rattle.profile_image.specs.declared.image.Image.{Image}
use Rattle.profile_machine.specs.declared.run_data.Leaving.{Leaving}
use Rattle.profile_machine.specs.declared.run_data.Leaving.TheVariants as how
use Rattle.profile_machine.specs.declared.world.World.{World}
use Rattle.profile_machine.specs.declared.world.marks.ProtectedMark.{ProtectedMark}
use Rattle.profile_machine.specs.declared.world.calls.Call.{Call}
use Rattle.profile_machine.specs.declared.world.calls.Outcome.{Outcome}
use Rattle.profile_machine.specs.declared.world.calls.Outcome.TheVariants as call_ended
use Rattle.profile_machine.specs.declared.world.calls.Sending.{Sending}
use Rattle.profile_machine.specs.declared.world.lines.Line.TheVariants as line
use Rattle.profile_machine.specs.declared.world.lines.Part.TheVariants.{Own, TheFinish, TheBlock, ThePlacing}
use Rattle.profile_machine.specs.declared.world.lines.MeetingEnd.TheVariants as meeting
use Rattle.profile_machine.specs.Calls.{call_of, with_call, enqueue}
use Rattle.profile_machine.specs.CallEnds.{deliver}
use Rattle.profile_machine.specs.Sending.{send_on}
use Rattle.profile_machine.specs.Unwinding.{may_unwind}
use Rattle.world_laws.proofs.Actions.OnTop.{nature_on_top}
use Rattle.line_laws.proofs.Exits.Steady.{Holds, Steady, changes-steady, edit_top-spares, edit_top_protected-spares}
use Rattle.line_laws.proofs.Exits.Steady.{deliver-steady, enqueue-steady, send_on-steady, settle_sent-steady, begin_call-steady}
use Rattle.profile_machine.specs.declared.world.tasks.Cause.TheVariants as inherited_by
use Rattle.profile_machine.specs.Frames.{frames_of, edit_top, pop}
use Rattle.profile_machine.specs.Inheritance.{lose_running, falls, lose}
use Rattle.profile_machine.specs.Priorities.{set_deferred}
use Rattle.profile_machine.specs.declared.world.tasks.Waiting.TheVariants as waits_for
use Rattle.trace_text.specs.declared.events.Who.TheVariants as who
use Rattle.ann_base.specs.Lists.{is_empty}
use Rattle.profile_machine.specs.Dispatching.{to_head}
use Rattle.profile_machine.specs.Steps.{Step, Done, done, goes_on_with, says, changes, when, for_some, ◌▷◌}
use Rattle.profile_machine.specs.Protected.{served_next, edit_top_protected, begin_call, body_opens, serve_call, has_room_for_body}
use Rattle.profile_machine.specs.Values.{object_of}
use Rattle.profile_machine.specs.Serving.{serves_nothing, is_served_now, serve_ends, end_release, close_action, wait_or_unwind}
use Rattle.profile_machine.specs.Serving.{wait_for_own, resume_own, behind_action, release_object, settle_sent, begins_part, chosen_is_sent}
use Rattle.profile_machine.specs.Serving.{serve_chosen, serve_next, serve_calls, go_on_by_mode, end_operation, finish_raised, finish_well}
use Rattle.profile_machine.specs.Serving.{finish_call, end_entry_body, end_in_protected_by, end_in_protected, part_of_start, with_body_left}
use Rattle.profile_machine.specs.Serving.{no_longer_serves, not_left, outcome_by, is_own_call, may_open_abortable}
use Rattle.std.proofs.Common.{◌≡◌, refl, sym, subst}
use Rattle.std.proofs.lemmas.Bool.{or_right}
use Rattle.world_tables.specs.Lists.{rest_of}
use Rattle.machine_laws.proofs.Moves.{own}
use Rattle.machine_laws.proofs.FineMoves.{GoodWorld, Naming}
use Rattle.world_laws.proofs.Actions.FineMoves.{FineMoves, chains, says-keeps}
use Rattle.world_laws.proofs.Actions.Sound.{Sound, Free, Good, MarksSound, ReleaseSound, OwnSound, marks_of}
use Rattle.world_laws.proofs.Actions.SoundEdits.{others-edited}
use Rattle.world_laws.proofs.Actions.SoundActions.{top_nature, acted, end-good, end-once, end-free, lose_ceiling-good}
use Rattle.world_laws.proofs.Actions.GoodMoves.{good_moves}
use Rattle.world_laws.proofs.Actions.KnownMoves.{GoodKnown, known-edited, known_moves}
use Rattle.world_laws.proofs.Actions.Kept.Switching.{Only, less-from}
use Rattle.world_laws.proofs.Actions.Natures.{Nature, nature, marks}
use Rattle.world_laws.proofs.Actions.Kept.Combinators.{changes_then-from, for_some-from, says_then-from}
use Rattle.world_laws.proofs.Actions.Kept.Dispatching.{block-keeps, to_head-keeps}
use Rattle.world_laws.proofs.Actions.Kept.Frames.{edit_top-alters, leaves-keeps, plain_steps}
use Rattle.world_laws.proofs.Actions.Kept.CallEnds.{deliver-keeps}
use Rattle.world_laws.proofs.Actions.Kept.Protected.{edit_top_protected-alters, begin_call-keeps, body_opens-keeps, beside}
use Rattle.world_laws.proofs.Actions.Kept.Priorities.{set_deferred-keeps}
use Rattle.world_laws.proofs.Actions.Kept.Sending.{open_abortable-alters, wait_for_call-keeps, send_on-keeps, begin_abortable-keeps, sent_not_begun-keeps}
use Rattle.profile_machine.specs.declared.world.marks.Mark.TheVariants.{InProtected}
use Rattle.profile_machine.specs.Tasks.{with_frames}
use Rattle.line_laws.proofs.Leaving.Modes.{Nobody}
use Rattle.machine_laws.proofs.Plain.Results.{resume-keeps}
use Rattle.machine_laws.proofs.Kept.Combinators.{Alters, From, Keeps, changes-keeps, either-from, keeps-from, looks-from, looks-keeps}
use Rattle.machine_laws.proofs.Kept.Combinators.{looks_at-from, nothing-keeps, then-from, then-keeps, when-keeps, world_behind, Kept, then-kept}
use Rattle.world_laws.proofs.Behind.{Behind, wide-from}
use Rattle.profile_machine.specs.declared.world.lines.Said.{Said}
use Rattle.machine_laws.proofs.Plain.Frames.{pass_on-keeps}
use Rattle.machine_laws.proofs.Plain.Calls.{forget_call-alters, enqueue-keeps, attempt_with-keeps}

-- ---- the agent has served a release

module _ {G : GoodWorld} {F : Naming} (moves : FineMoves G F) where
  serves_nothing-alters : Alters G (Behind G) serves_nothing
  unfolding Alters
  serves_nothing-alters w good = moves.has_served w good

  serve_ends-keeps : (n : ℕ) → F who.Agent → Keeps G (Behind G) (serve_ends n)
  unfolding serve_ends
  serve_ends-keeps n free =
      then-keeps (chains moves) (says Own (line.Served n)) _ (says-keeps moves Own (line.Served n))
      (then-keeps (chains moves) (changes serves_nothing) _ (changes-keeps (chains moves) _ serves_nothing-alters)
      (looks-keeps (chains moves) _ (λ v. when-keeps (chains moves) (is_empty v.releases) _ (block-keeps moves TheBlock who.Agent waits_for.Release free))))

  pub end_release-keeps : (n : ℕ) → F who.Agent → Keeps G (Behind G) (end_release n)
  unfolding end_release
  end_release-keeps n free = looks-keeps (chains moves) _ (λ w. when-keeps (chains moves) (is_served_now n w.serving) _ (serve_ends-keeps n free))

  -- ---- behind an action with which somebody entered by a call of its own

  wait_or_unwind-keeps : (p : Image) (name : Who) (c : Call) (test : Bool) → F (who.Task c.caller) → Keeps G (Behind G) (wait_or_unwind p name c test)
  unfolding wait_or_unwind
  wait_or_unwind-keeps p name c true free =
      attempt_with-keeps (plain_steps moves) p Own c _ _
      (then-keeps (chains moves) _ _ (changes-keeps (chains moves) _ (forget_call-alters (plain_steps moves) c.number)) (leaves-keeps moves name how.Abort))
      (wait_for_call-keeps moves c free)
  wait_or_unwind-keeps p name c false free = wait_for_call-keeps moves c free

  wait_for_own-keeps : (p : Image) (name : Who) (c : Call) (test : Bool) → F (who.Task c.caller) → Keeps G (Behind G) (wait_for_own p name c test)
  unfolding wait_for_own
  wait_for_own-keeps p name c true free = changes-keeps (chains moves) _ (open_abortable-alters moves p (who.Task c.caller) c.statement (Some c.number) free)
  wait_for_own-keeps p name c false free = looks-keeps (chains moves) _ (λ w. wait_or_unwind-keeps p name c (may_unwind (frames_of w name)) free)

  resume_own-keeps : (p : Image) (name : Who) (c : Call) (outcome : Option Outcome) → F (who.Task c.caller) → Keeps G (Behind G) (resume_own p name c outcome)
  unfolding resume_own
  resume_own-keeps p name c (Some outcome) free = resume-keeps (plain_steps moves) p TheBlock c outcome tt
  resume_own-keeps p name c None free = looks-keeps (chains moves) _ (λ w. wait_for_own-keeps p name c (may_open_abortable w name c) free)

  -- a ceiling is lost, where that leaves the world good
  ceiling_lost-from : (p : Image) (name : Who) (o : ObjectNo) (v : World) → G (lose name (inherited_by.Ceiling o) v)
      → From (Behind G) v (lose_running p name (inherited_by.Ceiling o))
  unfolding lose_running
  ceiling_lost-from p name o v good =
      let f = lose name (inherited_by.Ceiling o) in
      looks_at-from (chains moves) (λ u. changes f ▷ when (falls p name u (f u)) (to_head p ThePlacing name)) v
      (changes_then-from moves f (when (falls p name v (f v)) (to_head p ThePlacing name)) v
      (keeps-from (chains moves) _ (f v) good
      (when-keeps (chains moves) (falls p name v (f v)) (to_head p ThePlacing name) (to_head-keeps moves p ThePlacing name))))

-- ---- the action on top ends

top-sound : (name : Who) (m : ProtectedMark) (w : World) → Sound w → top_nature (marks_of w.tasks w.agent name) ≡ Some (acted m)
    → ReleaseSound name m.release × OwnSound w.drawn.calls w.calls name m.own_call
top-sound name m w h top = step (marks_of w.tasks w.agent name) (h.5 name).0 top
  where
    step : (ns : List Nature) → MarksSound w.drawn w.calls name ns → top_nature ns ≡ Some (acted m)
        → ReleaseSound name m.release × OwnSound w.drawn.calls w.calls name m.own_call
    step [] g e = absurd cc
    step (n ∷ ns) g e = let is : n ≡ acted m = cc in
        (subst (λ (x : Nature). ReleaseSound name x.release) is g.0.2, subst (λ (x : Nature). OwnSound w.drawn.calls w.calls name x.own) is g.0.3)

known-from : (name : Who) (c : CallNo) (step : Step) (v : World) → From (Behind (GoodKnown (Only name) name c)) v step → From (Behind (Good Nobody)) v step
known-from name c step v a = wide-from (GoodKnown (Only name) name c) (Good Nobody) step v (λ u g. (g.0.0, λ n is. absurd is)) a

module _ (p : Image) (name : Who) (m : ProtectedMark) where
  behind_release-keeps : (r : ℕ) (own : Option CallNo) → who.Agent ≡ name
      → Keeps (Good (Only name)) (Behind (Good (Only name))) (behind_action p name m (Some r) own)
  unfolding behind_action
  behind_release-keeps r own is = end_release-keeps (good_moves (Only name)) r is

  behind_none-keeps : Keeps (Good Nobody) (Behind (Good Nobody)) (behind_action p name m None None)
  unfolding behind_action
  behind_none-keeps = pass_on-keeps (plain_steps beside) p name m.body_left tt

  behind_own-keeps : (c : CallNo) → Keeps (GoodKnown (Only name) name c) (Behind (GoodKnown (Only name) name c)) (behind_action p name m None (Some c))
  unfolding behind_action
  behind_own-keeps c =
      let known = known_moves name c (Only name) in
      looks-from (chains known) _
      (λ u g.
      for_some-from known (call_of u c) _ u g (λ d found. keeps-from (chains known) _ u g (resume_own-keeps known p name d d.outcome (g.1.1 d found))))

  -- behind the end of the action
  ended-from : (release : Option ℕ) (own : Option CallNo) (v : World) → Good Nobody v → marks m.object (marks_of v.tasks v.agent name) ≡ false
      → ((is_some own || is_some release) ≡ true → Free name v) → ReleaseSound name release → OwnSound v.drawn.calls v.calls name own
      → From (Behind (Good Nobody)) v (lose_running p name (inherited_by.Ceiling m.object) ▷ set_deferred p name ▷ behind_action p name m release own)
  ended-from (Some r) own v good none free agent known =
      let only = good_moves (Only name) in
      let better : Good (Only name) v = (good.0, λ n is. subst (λ k. Free k v) (sym is) (free (or_right (is_some own) true refl))) in
      less-from (Only name) _ v
      (then-from (chains only) (lose_running p name (inherited_by.Ceiling m.object)) (set_deferred p name ▷ behind_action p name m (Some r) own) v
      (ceiling_lost-from only p name m.object v (lose_ceiling-good (Only name) name m.object v none better))
      (then-keeps (chains only) (set_deferred p name) _ (set_deferred-keeps only p name) (behind_release-keeps r own (sym agent))))
  ended-from None None v good none free agent known =
      then-from (chains beside) (lose_running p name (inherited_by.Ceiling m.object)) (set_deferred p name ▷ behind_action p name m None None) v
      (ceiling_lost-from beside p name m.object v (lose_ceiling-good Nobody name m.object v none good))
      (then-keeps (chains beside) (set_deferred p name) _ (set_deferred-keeps beside p name) behind_none-keeps)
  ended-from None (Some c) v good none free agent known =
      let own = known_moves name c (Only name) in
      let better : Good (Only name) v = (good.0, λ n is. subst (λ k. Free k v) (sym is) (free refl)) in
      known-from name c _ v
      (then-from (chains own) (lose_running p name (inherited_by.Ceiling m.object)) (set_deferred p name ▷ behind_action p name m None (Some c)) v
      (ceiling_lost-from own p name m.object v (lose_ceiling-good (Only name) name m.object v none better, known-edited name c name _ v known))
      (then-keeps (chains own) (set_deferred p name) _ (set_deferred-keeps own p name) (behind_own-keeps c)))

  -- somebody has it on top
  abbrev pub Stands : World → Type 0
  Stands v = Good Nobody v × Holds nature_on_top name (acted m) v

  pub release_object-from : (w : World) → Stands w → From (Behind (Good Nobody)) w (release_object p name m)
  unfolding release_object
  release_object-from w h =
      let v = close_action name m.object (pop name w) in
      let known = top-sound name m w h.0.0 h.1.0 in
      says_then-from beside Own (line.Exit name m.object) _ w
      (changes_then-from beside (pop name) _ w (changes_then-from beside (close_action name m.object) _ (pop name w)
      (ended-from m.release m.own_call v (end-good name m w h.1.0 Nobody h.0) (end-once name m w h.1.0 h.0.0)
      (λ floor. end-free name m w h.1.0 floor h.0.0) known.0
      (others-edited (λ d cs o. OwnSound d.calls cs name m.own_call) name (λ t. with_frames (rest_of t.frames) t) w known.1))))

  -- ---- steps that leave it there

  kept_then : (g : Step) (w : World) (said : List Said) (d : Done) → Kept (Behind (Good Nobody)) w said d → Holds nature_on_top name (acted m) (world_behind d)
      → ((v : World) → Stands v → From (Behind (Good Nobody)) v g) → Kept (Behind (Good Nobody)) w said (goes_on_with g d)
  unfolding From Kept
  kept_then g w said (done v ys) a h k = then-kept (chains beside) w v said ys (g v ys) a (k v (a.2, h) ys)

  step_then : (f g : Step) (w : World) → Stands w → Keeps (Good Nobody) (Behind (Good Nobody)) f → Steady nature_on_top name (acted m) f
      → ((v : World) → Stands v → From (Behind (Good Nobody)) v g) → From (Behind (Good Nobody)) w (f ▷ g)
  unfolding From Keeps Steady
  step_then f g w h a b k said = kept_then g w said (f w said) (a w h.0 said) (b w h.1 said) k

  call_then : (c : CallNo) (f : Call → Step) (w : World) → Stands w → ((d : Call) → From (Behind (Good Nobody)) w (f d))
      → From (Behind (Good Nobody)) w (with_call c f)
  call_then c f w h k = looks_at-from (chains beside) (λ v. for_some (call_of v c) f) w (for_some-from beside (call_of w c) f w h.0 (λ d found. k d))

  settle_sent-keeps : (c : Option CallNo) (test : Bool) → Keeps (Good Nobody) (Behind (Good Nobody)) (settle_sent p c test)
  unfolding settle_sent
  settle_sent-keeps None is_served = nothing-keeps (chains beside)
  settle_sent-keeps (Some c) true = nothing-keeps (chains beside)
  settle_sent-keeps (Some c) false = sent_not_begun-keeps p c

  begins_part-keeps : (test : Bool) (c : CallNo) → Keeps (Good Nobody) (Behind (Good Nobody)) (begins_part p test c)
  unfolding begins_part
  begins_part-keeps true c = begin_abortable-keeps p c
  begins_part-keeps false c = nothing-keeps (chains beside)

  served-from : (is_sent : Bool) (c : CallNo) (d : Call) (again : Step) (w : World) → ((v : World) → Stands v → From (Behind (Good Nobody)) v again) → Stands w
      → From (Behind (Good Nobody)) w
      (serve_call p (part_of_start is_sent) name m.object d (begins_part p is_sent c)
      (deliver p (part_of_start is_sent) c (call_ended.ToRaise exception.Storage) ▷ again))
  served-from is_sent c d again w onward h =
      let part = part_of_start is_sent in
      let otherwise = deliver p part c (call_ended.ToRaise exception.Storage) ▷ again in
      let by_room =
      λ (b : Bool). elim b as (λ _. Step) [
        | true ↦ body_opens p name m.object d ▷ begins_part p is_sent c
        | false ↦ says part (line.Finish name d.number (meeting.Raised exception.Storage)) ▷ otherwise
      ] in
      looks_at-from (chains beside) (λ v. begin_call p part name d ▷ by_room (has_room_for_body p v name d.entry)) w
      (step_then (begin_call p part name d) (by_room (has_room_for_body p w name d.entry)) w h (begin_call-keeps beside p part name d)
      (begin_call-steady nature_on_top name (acted m) p part name d)
      (λ v k. either-from (chains beside) (has_room_for_body p w name d.entry) (body_opens p name m.object d ▷ begins_part p is_sent c)
      (says part (line.Finish name d.number (meeting.Raised exception.Storage)) ▷ otherwise) v
      (keeps-from (chains beside) _ v k.0 (then-keeps (chains beside) _ _ (body_opens-keeps beside p name m.object d) (begins_part-keeps is_sent c)))
      (says_then-from beside part (line.Finish name d.number (meeting.Raised exception.Storage)) otherwise v
      (step_then (deliver p part c (call_ended.ToRaise exception.Storage)) again v k (deliver-keeps beside p part c (call_ended.ToRaise exception.Storage))
      (deliver-steady nature_on_top name (acted m) p part c (call_ended.ToRaise exception.Storage)) onward))))

  serve_chosen-from : (is_sent : Bool) (again : Step) (chosen : Option CallNo) (w : World) → ((v : World) → Stands v → From (Behind (Good Nobody)) v again)
      → Stands w → From (Behind (Good Nobody)) w (serve_chosen p name m is_sent again chosen)
  serve_chosen-from is_sent again None w onward h = release_object-from w h
  serve_chosen-from is_sent again (Some c) w onward h = call_then c _ w h (λ d. served-from is_sent c d again w onward h)

  serve_next-from : (fuel : ℕ) (sent : Option CallNo) (w : World) → Stands w → From (Behind (Good Nobody)) w (serve_next fuel p name m sent)
  unfolding serve_next
  serve_next-from zero sent w h = release_object-from w h
  serve_next-from (suc fuel) sent w h =
      let chosen = λ (v : World). served_next p v name (object_of v m.object) in
      looks_at-from (chains beside)
      (λ v. settle_sent p sent (chosen_is_sent sent (chosen v))
      ▷ serve_chosen p name m (chosen_is_sent sent (chosen v)) (serve_next fuel p name m None) (chosen v)) w
      (step_then (settle_sent p sent (chosen_is_sent sent (chosen w))) _ w h (settle_sent-keeps sent (chosen_is_sent sent (chosen w)))
      (settle_sent-steady nature_on_top name (acted m) p sent (chosen_is_sent sent (chosen w)))
      (λ v k. serve_chosen-from (chosen_is_sent sent (chosen w)) (serve_next fuel p name m None) (chosen w) v (λ u l. serve_next-from fuel None u l) k))

  serve_calls-from : (sent : Option CallNo) (w : World) → Stands w → From (Behind (Good Nobody)) w (serve_calls p name m sent)
  unfolding serve_calls
  serve_calls-from sent w h =
      looks_at-from (chains beside) (λ v. serve_next (suc (length v.calls)) p name m sent) w (serve_next-from (suc (length w.calls)) sent w h)

  by_mode-from : (mode : Mode) (w : World) → Stands w → From (Behind (Good Nobody)) w (go_on_by_mode p name m mode)
  unfolding go_on_by_mode
  by_mode-from Read w h = release_object-from w h
  by_mode-from Write w h = serve_calls-from None w h

  raised-from : (c : Call) (e : Raised) (w : World) → Stands w → From (Behind (Good Nobody)) w (finish_raised p name m c e)
  unfolding finish_raised
  raised-from c e w h =
      says_then-from beside TheFinish (line.Finish name c.number (meeting.Raised e)) _ w
      (step_then (deliver p TheFinish c.number (outcome_by (is_own_call name m.own_call c) e)) _ w h
      (deliver-keeps beside p TheFinish c.number (outcome_by (is_own_call name m.own_call c) e))
      (deliver-steady nature_on_top name (acted m) p TheFinish c.number (outcome_by (is_own_call name m.own_call c) e))
      (λ u l. serve_calls-from None u l))

  well-from : (c : Call) (sending : Option Sending) (w : World) → Stands w → From (Behind (Good Nobody)) w (finish_well p name m c sending)
  unfolding finish_well
  well-from c None w h =
      says_then-from beside TheFinish (line.Finish name c.number meeting.Ok) _ w
      (step_then (deliver p TheFinish c.number call_ended.Finished) _ w h (deliver-keeps beside p TheFinish c.number call_ended.Finished)
      (deliver-steady nature_on_top name (acted m) p TheFinish c.number call_ended.Finished)
      (λ u l. serve_calls-from None u l))
  well-from c (Some s) w h =
      says_then-from beside TheFinish (line.Finish name c.number meeting.Requeue) _ w
      (step_then (send_on c.number s) _ w h (send_on-keeps beside c.number s) (send_on-steady nature_on_top name (acted m) c.number s)
      (λ u l. step_then (enqueue p c.number) _ u l (enqueue-keeps (plain_steps beside) p c.number) (enqueue-steady nature_on_top name (acted m) p c.number)
      (λ t n. serve_calls-from (Some c.number) t n)))

  finish-from : (leaving : Leaving) (c : Call) (w : World) → Stands w → From (Behind (Good Nobody)) w (finish_call p name m leaving c)
  unfolding finish_call
  finish-from (how.Exception e) c w h = raised-from c e w h
  finish-from how.End c w h = well-from c c.sending w h
  finish-from how.Return c w h = well-from c c.sending w h
  finish-from (how.Exit loop) c w h = well-from c c.sending w h
  finish-from how.Abort c w h = well-from c c.sending w h
  finish-from how.Terminate c w h = well-from c c.sending w h

-- ---- a body in the action has ended

module _ (p : Image) (name : Who) (m : ProtectedMark) (leaving : Leaving) where
  edits_then : (f : ProtectedMark → ProtectedMark) (g : Step) (w : World) → ((x : ProtectedMark) → nature (InProtected (f x)) ≡ nature (InProtected x))
      → Stands p name m w → ((v : World) → Stands p name m v → From (Behind (Good Nobody)) v g)
      → From (Behind (Good Nobody)) w (changes (edit_top_protected name f) ▷ changes (edit_top name not_left) ▷ g)
  edits_then f g w same h onward =
      step_then p name m (changes (edit_top_protected name f)) _ w h (changes-keeps (chains beside) _ (edit_top_protected-alters beside name f same))
      (changes-steady nature_on_top name (acted m) _ (edit_top_protected-spares nature_on_top name (acted m) name f same))
      (λ v k. step_then p name m (changes (edit_top name not_left)) g v k (changes-keeps (chains beside) _ (edit_top-alters beside name not_left (λ x. refl)))
      (changes-steady nature_on_top name (acted m) _ (edit_top-spares nature_on_top name (acted m) name not_left (λ x. refl))) onward)

  operation-from : (w : World) → Stands p name m w → From (Behind (Good Nobody)) w (end_operation p name m leaving)
  unfolding end_operation
  operation-from w h =
      edits_then (with_body_left leaving) (go_on_by_mode p name (with_body_left leaving m) m.mode) w (λ x. refl) h
      (λ v k. by_mode-from p name (with_body_left leaving m) m.mode v k)

  entry_body-from : (c : CallNo) (w : World) → Stands p name m w → From (Behind (Good Nobody)) w (end_entry_body p name m leaving c)
  unfolding end_entry_body
  entry_body-from c w h =
      edits_then no_longer_serves (with_call c (finish_call p name (no_longer_serves m) leaving)) w (λ x. refl) h
      (λ v k. call_then p name m c (finish_call p name (no_longer_serves m) leaving) v k (λ d. finish-from p name (no_longer_serves m) leaving d v k))

  by_body-from : (serves : Option CallNo) (w : World) → Stands p name m w → From (Behind (Good Nobody)) w (end_in_protected_by p name m leaving serves)
  unfolding end_in_protected_by
  by_body-from None w h = operation-from w h
  by_body-from (Some c) w h = entry_body-from c w h

  pub end_in_protected-from : (w : World) → Stands p name m w → From (Behind (Good Nobody)) w (end_in_protected p name m leaving)
  unfolding end_in_protected
  end_in_protected-from w h = by_body-from m.serves w h

-- ---- the scope of an entry body has ended
