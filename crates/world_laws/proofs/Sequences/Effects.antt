-- The effect of an action, and all of an instant, leave everybody at rest.
use Rattle.world_laws.proofs.Sequences.OwnCalls.{Knows}
use Rattle.world_laws.proofs.Sequences.Kept.Dispatching.{to_tail-keeps}
use Rattle.profile_machine.specs.Dispatching.{to_tail}
use Rattle.std.proofs.Common.{◌≡◌, ℕ, Bool, true, false, List, [], ◌∷◌, Option, Some, None, refl, sym, ap, subst, ◌∙◌, ◌⊎◌, inl, inr, not, ◌&&◌, ◌+◌}
use Rattle.std.proofs.lemmas.Bool.{false≢true}
use Rattle.ann_base.specs.declared.identities.TaskNo.{TaskNo}
use Rattle.trace_text.specs.declared.events.Mode.TheVariants.{Write}
use Rattle.trace_text.specs.declared.events.Who.{Who}
use Rattle.trace_text.specs.declared.events.Who.TheVariants as who
use Rattle.profile_image.specs.declared.image.Image.{Image}
use Rattle.profile_image.specs.declared.numbers.StatementNo.{StatementNo}
use Rattle.profile_machine.specs.declared.run_data.Leaving.{Leaving}
use Rattle.profile_machine.specs.declared.world.World.{World}
use Rattle.profile_machine.specs.declared.world.appointments.Release.{Release}
use Rattle.profile_machine.specs.declared.world.lines.Line.TheVariants as line
use Rattle.profile_machine.specs.declared.world.lines.Part.TheVariants.{Own, ThePlacing}
use Rattle.profile_machine.specs.declared.world.marks.Frame.{Frame}
use Rattle.profile_machine.specs.declared.world.marks.Mark.TheVariants.{InProtected}
use Rattle.profile_machine.specs.declared.world.marks.ProtectedMark.{ProtectedMark}
use Rattle.profile_machine.specs.declared.world.marks.Purpose.TheVariants as opened_for
use Rattle.profile_machine.specs.declared.world.marks.ResultTo.TheVariants as bound_for
use Rattle.profile_machine.specs.declared.world.objects.Entering.{Entering}
use Rattle.profile_machine.specs.declared.world.objects.Entering.TheVariants as entering_is
use Rattle.profile_machine.specs.declared.world.tasks.Cause.TheVariants as inherited_by
use Rattle.profile_machine.specs.declared.world.tasks.State.{State}
use Rattle.profile_machine.specs.declared.world.tasks.State.TheVariants.{Made, Runnable, Blocked}
use Rattle.profile_image.specs.Words.{same_who}
use Rattle.world_tables.specs.Lists.{first_of, rest_of}
use Rattle.profile_image.specs.Program.{subprogram_of, marks_of, size_of_body}
use Rattle.profile_machine.specs.Steps.{Move, says, changes, looks, when, nothing, settles, rests}
use Rattle.profile_machine.specs.Tasks.{task_of, edit_task, with_ticks, is_runnable, is_runnable_state, with_frames, nobody, task_at}
use Rattle.profile_machine.specs.Frames.{top_of, push, new_frame, onward_of, leaving_of, has_room, open_at, open_sequence, open_if_ready}
use Rattle.profile_machine.specs.Scopes.{open_scope}
use Rattle.profile_machine.specs.Values.{object_of}
use Rattle.profile_machine.specs.Inheritance.{inherit_running}
use Rattle.profile_machine.specs.Protected.{entering, find_held, begin_action_on, open_action, new_protected_mark, ceiling_of, body_of_object}
use Rattle.profile_machine.specs.Serving.{end_release, end_in_protected}
use Rattle.profile_machine.specs.Tasking.{take_terminates, unwind_all}
use Rattle.profile_machine.specs.Handlers.{argument_values, begin_handler, begin_handler_if_room, enter_handler, call_handler}
use Rattle.profile_machine.specs.Act.{act_without, act_top, act}
use Rattle.profile_machine.specs.Instant.{effect, is_over, effect_of_runner, finish_action, instant}
use Rattle.profile_machine.specs.WellFormed.{begins_sequence}
use Rattle.machine_laws.proofs.FineMoves.{GoodWorld, Nature, nature, natures, edit_task-drawn}
use Rattle.world_laws.proofs.Sequences.FineMoves.{Fits, FineMoves, Nobody, Loosens, Again, chains}
use Rattle.world_laws.proofs.Behind.{Behind, BehindMove, Turns, then-turns, then_turn-from, turns-from, looks-turns, look-from, wide-from}
use Rattle.world_laws.proofs.Behind.{wide-turns, nothing-turns, changes-turns, branch-turns, says-turns, narrow-turns, changes_turn-from}
use Rattle.world_laws.proofs.Sequences.TaskEdits.{by_bool, who-same, edited-own}
use Rattle.world_laws.proofs.Sequences.Points.{Marking, IsTask, Fine, begins, fine-edited, edited_found-calls}
use Rattle.world_laws.proofs.Sequences.FineSteps.{fine_moves}
use Rattle.world_laws.proofs.Sequences.Loosened.{fine_loosens, fine_again, loosening, loosened, Freed}
use Rattle.world_laws.proofs.Sequences.Turned.{fine-turned}
use Rattle.world_laws.proofs.Sequences.Actors.{Rests, rests_points, nobody_free, nobody_stacks, Rooted, Standing}
use Rattle.world_laws.proofs.Sequences.Actors.{rooted_stacks, rooted-last, Apart, acting_points, Acts, HasActed, acts_points}
use Rattle.world_laws.proofs.Sequences.Actors.{Is, acts_free, task_stacks, fine-wide, acts-over, of_agent, Any, any_callings}
use Rattle.world_laws.proofs.Sequences.ActingRuns.{KnowingWorld, ActingWorld, PlainWorld, ActedWorld, JustSo, acting_moves}
use Rattle.world_laws.proofs.Sequences.ActingRuns.{quiet_moves, task_openings, agent_openings, departing, task_ending}
use Rattle.world_laws.proofs.Sequences.ActingRuns.{last_ending, inner_ending, acting_loose, still, plain-begins, no-natures}
use Rattle.world_laws.proofs.Sequences.Kept.Woken.{opened-turns, opened_by-turns}
use Rattle.world_laws.proofs.Sequences.Kept.Inheritance.{inherit_running-keeps}
use Rattle.world_laws.proofs.Sequences.Kept.Protected.{opens_action-alters}
use Rattle.world_laws.proofs.Sequences.Kept.Serving.{end_in_protected-turns, end_release-turns}
use Rattle.world_laws.proofs.Sequences.Kept.Tasking.{take_terminates-keeps, unwind_all-keeps}
use Rattle.world_laws.proofs.Sequences.Kept.Act.{act_frame-from}
use Rattle.world_laws.proofs.Sequences.Kept.Instant.{behind_action-leads}
use Rattle.machine_laws.proofs.Kept.Combinators.{From, Leads, changes-keeps, looks-keeps, said-keeps, settles-from, then-keeps}

top-natures : (fs : List Frame) (f : Frame) → first_of fs ≡ Some f → natures fs ≡ nature f.mark ∷ natures (rest_of fs)
top-natures [] f e = cc
top-natures (x ∷ xs) f e = let one : x ≡ f = cc in ap (λ g. nature g.mark ∷ natures xs) one

no-frames : (fs : List Frame) → first_of fs ≡ None → natures fs ≡ []
no-frames [] e = refl
no-frames (x ∷ xs) e = cc

runs-so : (s : State) → is_runnable_state s ≡ true → s ≡ Runnable
runs-so Made e = absurd (false≢true e)
runs-so Runnable e = refl
runs-so (Blocked waiting) e = absurd (false≢true e)

acts_so : (a : Who) (s : State) (g : Bool) → s ≡ Runnable → Acts a s g
acts_so (who.Task n) Made g e = refl
acts_so (who.Task n) Runnable g e = refl
acts_so (who.Task n) (Blocked waiting) g e = cc
acts_so who.Agent s g e = e

rests-ready : (b : Who) (s : State) → s ≡ Runnable → Rests b s false
rests-ready (who.Task n) s e = λ m. refl
rests-ready who.Agent s e = (refl, ap of_agent e)

settled-own : (name b : Who) (s : State) (g : Bool) → name ≡ b → is_runnable_state s ≡ false → HasActed name s g → Rests b s g
settled-own name b s g is not_ready (inl ready) = absurd (false≢true (sym not_ready ∙ ready))
settled-own name b s g is not_ready (inr h) = subst (λ n. Rests n s g) is h

module _ {p : Image} (fits : Fits p) where
  abbrev pub RestingWorld : GoodWorld
  RestingWorld = Fine p Rests Standing Any

  pub resting_moves : FineMoves p RestingWorld Nobody IsTask
  resting_moves = fine_moves fits any_callings rests_points (nobody_free Rests) (nobody_stacks Standing)

  unfoldable pub resting_loose : Loosens p RestingWorld Nobody IsTask
  resting_loose = fine_loosens fits any_callings Rests Nobody rests_points (nobody_free Rests) (nobody_stacks Standing)

  -- ---- a task acts

  task_without-turns : (n : TaskNo) (r : Option Release)
      → Turns (ActingWorld fits (who.Task n) Standing) (ActedWorld fits (who.Task n)) (act_without p (who.Task n) r)
  unfolding act_without
  task_without-turns n None =
      nothing-turns (ActingWorld fits (who.Task n) Standing) (ActedWorld fits (who.Task n)) (λ w g. acts-over (still fits) (who.Task n) w g)
  task_without-turns n (Some r) =
      nothing-turns (ActingWorld fits (who.Task n) Standing) (ActedWorld fits (who.Task n)) (λ w g. acts-over (still fits) (who.Task n) w g)

  task_again : (n : TaskNo)
      → Again p (ActingWorld fits (who.Task n) Standing) (Is (who.Task n)) IsTask (acting_loose fits (who.Task n) Standing (task_stacks Standing n))
  unfolding acting_loose
  task_again n =
      fine_again fits any_callings (Apart (who.Task n) (Acts (who.Task n))) (Is (who.Task n))
      (acting_points (who.Task n) (Acts (who.Task n)) (acts_points (who.Task n))) (acts_free (who.Task n)) (task_stacks Standing n)

  -- who made the call that its action ends is known
  abbrev pub OwnKnown : Who → World → Type 0
  OwnKnown name w = (f : Frame) (m : ProtectedMark) → top_of w name ≡ Some f → f.mark ≡ InProtected m → Knows m.own_call name w.drawn.calls w.calls

  task_ended : (n : TaskNo) (m : ProtectedMark) (leaving : Leaving) (w : World) → ActingWorld fits (who.Task n) Standing w
      → Knows m.own_call (who.Task n) w.drawn.calls w.calls → From (Behind (ActedWorld fits (who.Task n))) w (end_in_protected p (who.Task n) m leaving)
  unfolding task_ending
  task_ended n m leaving w g known =
      turns-from (KnowingWorld fits (who.Task n) Standing (Knows m.own_call (who.Task n))) (ActedWorld fits (who.Task n)) _ w
      (record { agent = g.agent; apart = g.apart; below = g.below; units = g.units; calls = known; marks = g.marks; points = g.points })
      (end_in_protected-turns (task_ending fits n m.release m.own_call) m leaving (refl, refl))

  task_top-from : (n : TaskNo) (found : Option Frame) (w : World) → ActingWorld fits (who.Task n) Standing w → OwnKnown (who.Task n) w
      → top_of w (who.Task n) ≡ found → From (Behind (ActedWorld fits (who.Task n))) w (act_top p (who.Task n) found)
  unfolding act_top
  task_top-from n None w g known is =
      look-from (ActedWorld fits (who.Task n)) (λ v. act_without p (who.Task n) v.serving) w
      (turns-from (ActingWorld fits (who.Task n) Standing) (ActedWorld fits (who.Task n)) _ w g (task_without-turns n w.serving))
  task_top-from n (Some f) w g known is =
      act_frame-from (acting_moves fits (who.Task n) Standing (task_stacks Standing n)) (acting_loose fits (who.Task n) Standing (task_stacks Standing n))
      (task_again n) (task_openings fits n Standing Any any_callings)
      (who.Task n) (ActedWorld fits (who.Task n)) (departing fits (who.Task n) Standing (still fits)) f f.onward w g refl is refl
      (λ m k. task_ended n m (leaving_of f) w g (known f m is k))

  -- ---- the agent acts

  agent_again : Again p (ActingWorld fits who.Agent Rooted) (Is who.Agent) IsTask (acting_loose fits who.Agent Rooted (rooted_stacks (Is who.Agent)))
  unfolding acting_loose
  agent_again =
      fine_again fits any_callings (Apart who.Agent (Acts who.Agent)) (Is who.Agent) (acting_points who.Agent (Acts who.Agent) (acts_points who.Agent))
      (acts_free who.Agent) (rooted_stacks (Is who.Agent))

  agent_last_ended : (m : ProtectedMark) (leaving : Leaving) (w : World) (n : Nature) (r : ℕ) → m.release ≡ Some r → Rooted (n ∷ [])
      → ActingWorld fits who.Agent (JustSo fits (n ∷ [])) w → From (Behind (ActedWorld fits who.Agent)) w (end_in_protected p who.Agent m leaving)
  unfolding last_ending
  agent_last_ended m leaving w n r is root g =
      turns-from (ActingWorld fits who.Agent (JustSo fits (n ∷ []))) (ActedWorld fits who.Agent) _ w g
      (end_in_protected-turns (last_ending fits n r m.own_call root) m leaving (is, refl))

  agent_inner_ended : (m : ProtectedMark) (leaving : Leaving) (w : World) (n : Nature) (ns : List Nature) → m.release ≡ None → n.release ≡ None
      → Rooted (n ∷ ns) → ActingWorld fits who.Agent (JustSo fits (n ∷ ns)) w → Knows m.own_call who.Agent w.drawn.calls w.calls
      → From (Behind (ActedWorld fits who.Agent)) w (end_in_protected p who.Agent m leaving)
  unfolding inner_ending
  agent_inner_ended m leaving w n ns is none root g known =
      turns-from (KnowingWorld fits who.Agent (JustSo fits (n ∷ ns)) (Knows m.own_call who.Agent)) (ActedWorld fits who.Agent) _ w
      (record { agent = g.agent; apart = g.apart; below = g.below; units = g.units; calls = known; marks = g.marks; points = g.points })
      (end_in_protected-turns (inner_ending fits n ns m.own_call none root) m leaving (is, refl))

  agent_ends-by : (m : ProtectedMark) (leaving : Leaving) (w : World) (n : Nature) (ns : List Nature) (release : Option ℕ) → m.release ≡ release
      → n.release ≡ release → Rooted (n ∷ ns) → ActingWorld fits who.Agent (JustSo fits (n ∷ ns)) w → Knows m.own_call who.Agent w.drawn.calls w.calls
      → From (Behind (ActedWorld fits who.Agent)) w (end_in_protected p who.Agent m leaving)
  agent_ends-by m leaving w n ns (Some r) is same root g known =
      let last = rooted-last n ns r same root in
      agent_last_ended m leaving w n r is (subst (λ ms. Rooted (n ∷ ms)) last root) (subst (λ ms. ActingWorld fits who.Agent (JustSo fits (n ∷ ms)) w) last g)
  agent_ends-by m leaving w n ns None is same root g known = agent_inner_ended m leaving w n ns is same root g known

  agent_ends-from : (m : ProtectedMark) (f : Frame) (leaving : Leaving) (w : World) → ActingWorld fits who.Agent Rooted w → OwnKnown who.Agent w
      → top_of w who.Agent ≡ Some f → f.mark ≡ InProtected m → From (Behind (ActedWorld fits who.Agent)) w (end_in_protected p who.Agent m leaving)
  agent_ends-from m f leaving w g known top is =
      let shape = top-natures w.agent.frames f top in
      agent_ends-by m leaving w (nature f.mark) (natures (rest_of w.agent.frames)) m.release refl (ap (λ k. (nature k).release) is) (subst Rooted shape g.marks)
      (record { agent = g.agent; apart = g.apart; below = g.below; units = g.units; calls = g.calls; marks = shape; points = g.points }) (known f m top is)

  -- ---- the agent calls a handler

  abbrev Alone : GoodWorld
  Alone = ActingWorld fits who.Agent (JustSo fits [])

  alone_plain : (w : World) → Alone w → PlainWorld fits who.Agent (JustSo fits []) w
  alone_plain w g = plain-begins fits who.Agent (JustSo fits []) w g (ap (begins_sequence p) (no-natures w.agent.frames g.marks))

  abbrev handler_mark : Release → Nature
  handler_mark r = nature (new_protected_mark r.handler.object Write None (Some r.number))

  served-turns : (r : Release) → Turns Alone (ActedWorld fits who.Agent) (end_release r.number)
  unfolding last_ending
  served-turns r =
      narrow-turns Alone (PlainWorld fits who.Agent (JustSo fits [])) (ActedWorld fits who.Agent) (end_release r.number) alone_plain
      (end_release-turns (last_ending fits (handler_mark r) r.number None (refl, refl, refl)) r.number r.number refl)

  pushed_alone : (r : Release) (w : World) → Alone w
      → ActingWorld fits who.Agent Rooted (push who.Agent (new_frame (new_protected_mark r.handler.object Write None (Some r.number)) None) w)
  pushed_alone r w g =
      let f = new_frame (new_protected_mark r.handler.object Write None (Some r.number)) None in
      let root : Rooted (nature f.mark ∷ natures w.agent.frames) = subst (λ ns. Rooted (nature f.mark ∷ ns)) (sym g.marks) (refl, refl, refl) in
      fine-turned who.Agent (λ t. with_frames (f ∷ t.frames) t) w (λ m cs k. k) (λ t. refl) (λ t fit. fit) (λ is m. root)
      (λ apart m. absurd (false≢true (sym apart)))
      (λ h. ((λ apart. absurd (false≢true (sym apart))), (λ same. h.1 same)))
      (λ is h. h)
      (λ b t k apart h. h) g

  begun_action-turns : (r : Release) → Turns Alone (ActingWorld fits who.Agent Rooted) (begin_action_on p who.Agent r.handler.object Write None (Some r.number))
  unfolding begin_action_on
  begun_action-turns r =
      let quiet = quiet_moves fits who.Agent (JustSo fits []) Any any_callings in
      let R = ActingWorld fits who.Agent Rooted in
      then-turns Alone Alone R (says Own (line.Enter who.Agent r.handler.object Write)) _ (says-turns Alone Own (line.Enter who.Agent r.handler.object Write))
      (then-turns Alone Alone R (changes (open_action who.Agent r.handler.object Write)) _
      (changes-keeps (chains quiet) _ (opens_action-alters quiet who.Agent r.handler.object Write))
      (then-turns Alone Alone R (looks (λ w. inherit_running p who.Agent (inherited_by.Ceiling r.handler.object) (ceiling_of (object_of w r.handler.object)))) _
      (looks-keeps (chains quiet) _
      (λ w. inherit_running-keeps quiet who.Agent (inherited_by.Ceiling r.handler.object) (ceiling_of (object_of w r.handler.object))))
      (changes-turns Alone R (push who.Agent (new_frame (new_protected_mark r.handler.object Write None (Some r.number)) None)) (λ w g. pushed_alone r w g))))

  begun_handler-turns : (r : Release) → Turns Alone (ActedWorld fits who.Agent) (begin_handler p r)
  unfolding begin_handler
  begun_handler-turns r =
      let R = ActingWorld fits who.Agent Rooted in
      let scope = (subprogram_of p r.handler.procedure).scope in
      then-turns Alone R (ActedWorld fits who.Agent) (begin_action_on p who.Agent r.handler.object Write None (Some r.number)) _ (begun_action-turns r)
      (looks-turns R (ActedWorld fits who.Agent) _ (λ w g. turns-from R (ActedWorld fits who.Agent) _ w g
      (changes-turns R (ActedWorld fits who.Agent) _
      (λ v h. acts-over (λ ns k. inr k) who.Agent
      (open_scope p who.Agent scope (body_of_object p w scope r.handler.object None (argument_values r.argument))
      (opened_for.Subprogram [] bound_for.Nowhere) v)
      ((agent_openings fits Any any_callings).opens_scope who.Agent scope (body_of_object p w scope r.handler.object None (argument_values r.argument))
      (opened_for.Subprogram [] bound_for.Nowhere) v h refl)))))

  begun_if_room-turns : (r : Release) → Turns Alone (ActedWorld fits who.Agent) (begin_handler_if_room p r)
  unfolding begin_handler_if_room
  begun_if_room-turns r =
      looks-turns Alone (ActedWorld fits who.Agent) _ (λ w g. turns-from Alone (ActedWorld fits who.Agent) _ w g
      (branch-turns Alone (ActedWorld fits who.Agent)
      (has_room w who.Agent (1 + marks_of p (subprogram_of p r.handler.procedure).scope) (size_of_body p r.handler.procedure)) (begin_handler p r)
      (end_release r.number) (begun_handler-turns r) (served-turns r)))

  held-turns : (r : Release) → Turns Alone (ActedWorld fits who.Agent) (find_held p who.Agent r.handler.object Write)
  unfolding find_held
  held-turns r =
      let quiet = quiet_moves fits who.Agent (JustSo fits []) Any any_callings in
      wide-turns Alone Alone (ActedWorld fits who.Agent) _ (λ w g. acts-over (λ ns is. inl is) who.Agent w g)
      (then-keeps (chains quiet) (says Own (line.Held who.Agent r.handler.object Write)) (to_tail p ThePlacing who.Agent)
      (said-keeps (chains quiet) Own (line.Held who.Agent r.handler.object Write) (λ w g. g)) (to_tail-keeps quiet ThePlacing who.Agent))

  entered-turns : (r : Release) (is : Entering) → Turns Alone (ActedWorld fits who.Agent) (enter_handler p r is)
  unfolding enter_handler
  entered-turns r entering_is.SameObject = served-turns r
  entered-turns r entering_is.AboveCeiling = served-turns r
  entered-turns r entering_is.Held = held-turns r
  entered-turns r entering_is.Inside = begun_if_room-turns r

  called-turns : (r : Release) → Turns Alone (ActedWorld fits who.Agent) (call_handler p r)
  unfolding call_handler
  called-turns r =
      looks-turns Alone (ActedWorld fits who.Agent) _
      (λ w g. turns-from Alone (ActedWorld fits who.Agent) _ w g (entered-turns r (entering p w who.Agent r.handler.object Write)))

  agent_without-turns : (r : Option Release) → Turns Alone (ActedWorld fits who.Agent) (act_without p who.Agent r)
  unfolding act_without
  agent_without-turns None = nothing-turns Alone (ActedWorld fits who.Agent) (λ w g. acts-over (λ ns is. inl is) who.Agent w g)
  agent_without-turns (Some r) = called-turns r

  standing-rooted : (fs : List Frame) (f : Frame) → first_of fs ≡ Some f → Standing (natures fs) → Rooted (natures fs)
  standing-rooted [] f e h = absurd (let never : None ≡ Some f = e in cc)
  standing-rooted (x ∷ xs) f e (inl is) = absurd (let never : nature x.mark ∷ natures xs ≡ [] = is in cc)
  standing-rooted (x ∷ xs) f e (inr h) = h

  agent_top-from : (found : Option Frame) (w : World) → ActingWorld fits who.Agent Standing w → OwnKnown who.Agent w → top_of w who.Agent ≡ found
      → From (Behind (ActedWorld fits who.Agent)) w (act_top p who.Agent found)
  unfolding act_top
  agent_top-from None w g known is =
      look-from (ActedWorld fits who.Agent) (λ v. act_without p who.Agent v.serving) w
      (turns-from Alone (ActedWorld fits who.Agent) _ w
      (record {
        agent = g.agent;
        apart = g.apart;
        below = g.below;
        units = g.units;
        calls = g.calls;
        marks = no-frames w.agent.frames is;
        points = g.points;
      })
      (agent_without-turns w.serving))
  agent_top-from (Some f) w g known is =
      let rooted : ActingWorld fits who.Agent Rooted w =
      record {
        agent = g.agent;
        apart = g.apart;
        below = g.below;
        units = g.units;
        calls = g.calls;
        marks = standing-rooted w.agent.frames f is g.marks;
        points = g.points;
      } in
      act_frame-from (acting_moves fits who.Agent Rooted (rooted_stacks (Is who.Agent)))
      (acting_loose fits who.Agent Rooted (rooted_stacks (Is who.Agent))) agent_again (agent_openings fits Any any_callings)
      who.Agent (ActedWorld fits who.Agent) (departing fits who.Agent Rooted (λ ns h. inr h)) f f.onward w rooted refl is refl
      (λ m k. agent_ends-from m f (leaving_of f) w rooted known is k)

  -- ---- an action, and what comes behind it

  acts-from : (name : Who) (w : World) → ActingWorld fits name Standing w → OwnKnown name w → From (Behind (ActedWorld fits name)) w (act p name)
  unfolding act
  acts-from (who.Task n) w g known =
      look-from (ActedWorld fits (who.Task n)) (λ v. act_top p (who.Task n) (top_of v (who.Task n))) w (task_top-from n (top_of w (who.Task n)) w g known refl)
  acts-from who.Agent w g known =
      look-from (ActedWorld fits who.Agent) (λ v. act_top p who.Agent (top_of v who.Agent)) w (agent_top-from (top_of w who.Agent) w g known refl)

  -- who has acted and is not ready rests
  settled-point : (name b : Who) (s : State) (g : Bool) → (name ≡ b → is_runnable_state s ≡ false) → Apart name (HasActed name) b s g → Rests b s g
  settled-point name b s g not_ready h =
      by_bool (same_who name b) (λ same. settled-own name b s g (who-same name b same) (not_ready (who-same name b same)) (h.1 same)) (λ apart. h.0 apart)

  rested : (name : Who) (w : World) → is_runnable (task_of w name) ≡ false → ActedWorld fits name w → RestingWorld w
  rested name w not_ready g = record {
    agent = g.agent;
    apart = g.apart;
    below = g.below;
    units = g.units;
    calls = g.calls;
    marks = g.marks;
    points = λ b. settled-point name b (task_of w b).state (begins p w b) (λ is. subst (λ n. is_runnable (task_of w n) ≡ false) is not_ready) (g.points b);
  }

  loose-point : (name b : Who) (s : State) (g : Bool) → (name ≡ b → s ≡ Runnable) → Apart name (HasActed name) b s g → loosened Rests name b s g
  loose-point name b s g ready h =
      by_bool (same_who name b)
      (λ same. subst (λ c. Rests b s (not c && g)) (sym same) (rests-ready b s (ready (who-same name b same))))
      (λ apart. subst (λ c. Rests b s (not c && g)) (sym apart) (h.0 apart))

  module _ {A : Marking} where
    loose_world : (name : Who) (w : World) → A (natures w.agent.frames) → is_runnable (task_of w name) ≡ true → ActedWorld fits name w
        → Fine p (loosened Rests name) A Any w
    loose_world name w marks ready g = record {
      agent = g.agent;
      apart = g.apart;
      below = g.below;
      units = g.units;
      calls = g.calls;
      marks = marks;
      points =
          λ b. loose-point name b (task_of w b).state (begins p w b)
          (λ is. subst (λ n. (task_of w n).state ≡ Runnable) is (runs-so (task_of w name).state ready)) (g.points b);
    }

  none_opened-from : (w : World) (next : Option StatementNo) → next ≡ None → RestingWorld w → From (Behind RestingWorld) w (open_at p Own who.Agent next)
  unfolding open_at
  none_opened-from w None is g = turns-from RestingWorld RestingWorld nothing w g (nothing-turns RestingWorld RestingWorld (λ v h. h))
  none_opened-from w (Some s) is g = cc

  alone-point : (w : World) → onward_of w who.Agent ≡ None → is_runnable (task_of w who.Agent) ≡ true → (b : Who)
      → Apart who.Agent (HasActed who.Agent) b (task_of w b).state (begins p w b) → Rests b (task_of w b).state (begins p w b)
  alone-point w none ready (who.Task n) h = h.0 refl
  alone-point w none ready who.Agent h = (ap (begins_sequence p) none, ap of_agent (runs-so w.agent.state ready))

  agent_opens-from : (w : World) → Standing (natures w.agent.frames) → is_runnable (task_of w who.Agent) ≡ true → ActedWorld fits who.Agent w
      → From (Behind RestingWorld) w (open_sequence p Own who.Agent)
  unfolding open_sequence loosening
  agent_opens-from w (inl alone) ready g =
      let none = no-natures w.agent.frames alone in
      look-from RestingWorld (λ v. open_at p Own who.Agent (onward_of v who.Agent)) w
      (none_opened-from w (onward_of w who.Agent) none
      (record {
        agent = g.agent;
        apart = g.apart;
        below = g.below;
        units = g.units;
        calls = g.calls;
        marks = g.marks;
        points = λ b. alone-point w none ready b (g.points b);
      }))
  agent_opens-from w (inr root) ready g =
      wide-from (Fine p Rests Rooted Any) RestingWorld (open_sequence p Own who.Agent) w
      (λ v h. fine-wide (λ ns k. inr k) (λ m cs k. k) Rests Rests v (λ b s k h. h) h)
      (turns-from (Fine p (loosened Rests who.Agent) Rooted Any) (Fine p Rests Rooted Any) _ w (loose_world who.Agent w root ready g)
      (opened_by-turns (loosening fits any_callings Rests Nobody rests_points (nobody_free Rests) who.Agent (rooted_stacks (Freed Nobody who.Agent))) Own))

  opens-by : (name : Who) (w : World) → is_runnable (task_of w name) ≡ true → ActedWorld fits name w → From (Behind RestingWorld) w (open_sequence p Own name)
  unfolding resting_loose fine_loosens loosening
  opens-by (who.Task n) w ready g =
      turns-from (Fine p (loosened Rests (who.Task n)) Standing Any) RestingWorld _ w (loose_world (who.Task n) w g.marks ready g)
      (opened-turns resting_moves resting_loose Own (who.Task n) tt)
  opens-by who.Agent w ready g = agent_opens-from w g.marks ready g

  opens_if-from : (name : Who) (b : Bool) (w : World) → is_runnable (task_of w name) ≡ b → ActedWorld fits name w
      → From (Behind RestingWorld) w (when b (open_sequence p Own name))
  opens_if-from name true w is g = opens-by name w is g
  opens_if-from name false w is g = turns-from RestingWorld RestingWorld nothing w (rested name w is g) (nothing-turns RestingWorld RestingWorld (λ v h. h))

  open_if_ready-turns : (name : Who) → Turns (ActedWorld fits name) RestingWorld (open_if_ready p name)
  unfolding open_if_ready
  open_if_ready-turns name = looks-turns (ActedWorld fits name) RestingWorld _ (λ w g. opens_if-from name (is_runnable (task_of w name)) w refl g)

  acting_first : (name : Who) (w : World) → is_runnable (task_of w name) ≡ true → RestingWorld w → ActingWorld fits name Standing w
  acting_first name w ready g = record {
    agent = g.agent;
    apart = g.apart;
    below = g.below;
    units = g.units;
    calls = g.calls;
    marks = g.marks;
    points = λ b. (
      (λ apart. g.points b),
      (λ same. acts_so name (task_of w b).state (begins p w b)
          (subst (λ n. (task_of w n).state ≡ Runnable) (who-same name b same) (runs-so (task_of w name).state ready))),
    );
  }

  unticked : (name : Who) (w : World) → ActingWorld fits name Standing w → ActingWorld fits name Standing (edit_task name (with_ticks None) w)
  unticked name w g = fine-edited name (with_ticks None) w (λ t. refl) (λ t fit. fit) (λ is m. m) (λ h. h) g

  known-edited : (name : Who) (v w : World) → v.calls ≡ w.calls → v.drawn ≡ w.drawn
      → (task_of v name ≡ with_ticks None (task_of w name)) ⊎ ((v ≡ w) × (task_of w name ≡ nobody)) → OwnKnown name w → OwnKnown name v
  known-edited name v w calls drawn (inl is) known f m top mark =
      subst (λ d. Knows m.own_call name d.calls v.calls) (sym drawn)
      (subst (Knows m.own_call name w.drawn.calls) (sym calls) (known f m (sym (ap (λ t. first_of t.frames) is) ∙ top) mark))
  known-edited name v w calls drawn (inr same) known f m top mark = (subst (OwnKnown name) (sym same.0) known) f m top mark

  unticked-known : (name : Who) (w : World) → OwnKnown name w → OwnKnown name (edit_task name (with_ticks None) w)
  unticked-known name w known =
      known-edited name (edit_task name (with_ticks None) w) w (edited_found-calls name (with_ticks None) w (task_at w name))
      (edit_task-drawn name (with_ticks None) w) (edited-own name (with_ticks None) w (λ t. refl)) known

  pub effect-from : (name : Who) (w : World) → is_runnable (task_of w name) ≡ true → OwnKnown name w → RestingWorld w
      → From (Behind RestingWorld) w (effect p name)
  unfolding effect
  effect-from name w ready known g =
      let Y = ActedWorld fits name in
      let Z = RestingWorld in
      let v = edit_task name (with_ticks None) w in
      changes_turn-from Z (edit_task name (with_ticks None)) _ w
      (then_turn-from Y Z (act p name) _ v (acts-from name v (unticked name w (acting_first name w ready g)) (unticked-known name w known))
      (then-turns Y Z Z (open_if_ready p name) _ (open_if_ready-turns name)
      (then-keeps (chains resting_moves) (take_terminates p name) (unwind_all p name) (take_terminates-keeps resting_moves resting_loose name)
      (unwind_all-keeps resting_moves resting_loose name))))

  -- ---- an instant, of which who ran and whose action is over is ready

  abbrev pub RunnerReady : World → Type 0
  RunnerReady w = (name : Who) → w.ran ≡ Some name → is_over (task_of w name).ticks_left ≡ true → is_runnable (task_of w name) ≡ true

  acted-by : (name : Who) (b : Bool) (w : World) → is_over (task_of w name).ticks_left ≡ b
      → (is_over (task_of w name).ticks_left ≡ true → is_runnable (task_of w name) ≡ true) → OwnKnown name w → RestingWorld w
      → RestingWorld ((elim b as (λ _. Move) [ true ↦ settles p (effect p name) | false ↦ rests ]) w).0
  acted-by name true w is ready known g =
      settles-from (BehindMove RestingWorld) p resting_moves.settles (effect p name) w (effect-from name w (ready is) known g)
  acted-by name false w is ready known g = g

  ran-by : (ran : Option Who) (w : World) → w.ran ≡ ran → RunnerReady w → ((name : Who) → OwnKnown name w) → RestingWorld w
      → RestingWorld (effect_of_runner p ran w).0
  ran-by None w is ready known g = g
  ran-by (Some name) w is ready known g = acted-by name (is_over (task_of w name).ticks_left) w refl (ready name is) (known name) g

  pub instant-rests : (w : World) → RunnerReady w → ((name : Who) → OwnKnown name w) → RestingWorld w → RestingWorld (instant p w).0
  unfolding Leads
  instant-rests w ready known g =
      let first = ran-by w.ran w refl ready known g in
      behind_action-leads resting_moves resting_loose (finish_action p w).0 first
