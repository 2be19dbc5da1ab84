-- The agent's protected action ends: queued calls are served, and where it is the action of its release the release has been
-- served, and the agent blocks if none is pending.
use Rattle.std.proofs.Common.{◌≡◌, ℕ, zero, suc, Bool, true, false, not, ◌||◌, List, [], ◌∷◌}
use Rattle.std.proofs.Common.{length, Option, Some, None, refl, sym, ap, subst, ◌∙◌, append_assoc}
use Rattle.ann_base.specs.declared.identities.CallNo.{CallNo}
use Rattle.ann_base.specs.declared.identities.ObjectNo.{ObjectNo}
use Rattle.ann_base.specs.declared.exceptions.Raised.{Raised}
use Rattle.ann_base.specs.declared.exceptions.Raised.TheVariants as exception
use Rattle.trace_text.specs.declared.events.Mode.{Mode}
use Rattle.trace_text.specs.declared.events.Mode.TheVariants.{Read, Write}
use Rattle.trace_text.specs.declared.events.Who.TheVariants as who
use Rattle.profile_image.specs.declared.image.Image.{Image}
use Rattle.profile_machine.specs.declared.run_data.Leaving.{Leaving}
use Rattle.profile_machine.specs.declared.run_data.Leaving.TheVariants as how
use Rattle.profile_machine.specs.declared.world.World.{World}
use Rattle.profile_machine.specs.declared.world.marks.Frame.{Frame}
use Rattle.profile_machine.specs.declared.world.marks.Mark.TheVariants.{InProtected}
use Rattle.profile_machine.specs.declared.world.marks.ProtectedMark.{ProtectedMark}
use Rattle.profile_machine.specs.declared.world.calls.Call.{Call}
use Rattle.profile_machine.specs.declared.world.calls.Outcome.{Outcome}
use Rattle.profile_machine.specs.declared.world.calls.Outcome.TheVariants as call_ended
use Rattle.profile_machine.specs.declared.world.calls.Sending.{Sending}
use Rattle.profile_machine.specs.declared.world.tasks.Cause.TheVariants as inherited_by
use Rattle.profile_machine.specs.declared.world.tasks.State.TheVariants.{Blocked}
use Rattle.profile_machine.specs.declared.world.tasks.Waiting.TheVariants as waits_for
use Rattle.profile_machine.specs.declared.world.lines.Line.TheVariants as said
use Rattle.profile_machine.specs.declared.world.lines.Part.TheVariants.{Own, TheFinish, TheBlock}
use Rattle.profile_machine.specs.declared.world.lines.MeetingEnd.TheVariants as meeting
use Rattle.profile_machine.specs.declared.world.lines.Said.{Said}
use Rattle.ann_base.specs.Lists.{is_empty}
use Rattle.world_tables.specs.Lists.{rest_of}
use Rattle.profile_machine.specs.Steps.{Step, says, changes, when, nothing, for_some, ◌▷◌}
use Rattle.profile_machine.specs.Tasks.{edit_task, with_state}
use Rattle.profile_machine.specs.Dispatching.{block, says_block, without_kept_level, word_of}
use Rattle.profile_machine.specs.Frames.{frames_of, top_of, pop, edit_top}
use Rattle.profile_machine.specs.Calls.{with_call, call_of, enqueue}
use Rattle.profile_machine.specs.CallEnds.{deliver}
use Rattle.profile_machine.specs.Inheritance.{lose_running}
use Rattle.profile_machine.specs.Priorities.{set_deferred}
use Rattle.profile_machine.specs.Values.{object_of}
use Rattle.profile_machine.specs.Protected.{edit_top_protected, serve_call, begin_call, body_opens, has_room_for_body, served_next}
use Rattle.profile_machine.specs.Sending.{send_on}
use Rattle.profile_machine.specs.Unwinding.{may_unwind}
use Rattle.profile_machine.specs.Serving.{wait_for_own, resume_own, may_open_abortable, serves_nothing, is_served_now, serve_ends, end_release, close_action}
use Rattle.profile_machine.specs.Serving.{behind_action, release_object, settle_sent, begins_part, chosen_is_sent, part_of_start, serve_chosen, serve_next}
use Rattle.profile_machine.specs.Serving.{serve_calls, go_on_by_mode, with_body_left, not_left, end_operation, is_own_call, outcome_by, finish_raised}
use Rattle.profile_machine.specs.Serving.{finish_well, finish_call, no_longer_serves, end_entry_body, end_in_protected_by, end_in_protected}
use Rattle.machine_laws.proofs.Moves.{own}
use Rattle.machine_laws.proofs.FineMoves.{Nature, nature, natures}
use Rattle.machine_laws.proofs.Kept.Frames.{edit_top-alters, plain_steps}
use Rattle.machine_laws.proofs.Kept.Inheritance.{lose_running-keeps}
use Rattle.machine_laws.proofs.Kept.Priorities.{set_deferred-keeps}
use Rattle.machine_laws.proofs.Kept.CallEnds.{deliver-keeps}
use Rattle.machine_laws.proofs.Kept.Protected.{edit_top_protected-alters, begin_call-keeps, body_opens-keeps}
use Rattle.machine_laws.proofs.Kept.Sending.{open_abortable-alters, send_on-keeps, begin_abortable-keeps}
use Rattle.machine_laws.proofs.Kept.Serving.{wait_or_unwind-keeps, Ending, settle_sent-keeps}
use Rattle.line_laws.proofs.Handlers.AgentLines.{closes, closes_behind}
use Rattle.line_laws.proofs.Handlers.AgentWorlds.{Colour, Apart}
use Rattle.line_laws.proofs.Handlers.AgentMarks.{Rooted, Standing, Emptied, rooted, emptied, stands_rooted, above_lowest, lowest_alone, has_top}
use Rattle.line_laws.proofs.Handlers.SparedMoves.{Spared, NoRelease, spares}
use Rattle.line_laws.proofs.Handlers.OwnMoves.{Busy, BusyStep, busies, busy_openings, spared, agent_marked, owned-popped}
use Rattle.line_laws.proofs.Handlers.Attending.{Acted, calm_so, closes_so, busy-acted, busy_then, spared_then}
use Rattle.line_laws.proofs.Handlers.Mixed.{from_by, keeps_at, then_by, looks_by, when_by, some_by, either_by, nothing_by}
use Rattle.machine_laws.proofs.FinestMoves.{chains, says-keeps}
use Rattle.machine_laws.proofs.Kept.Combinators.{From, Keeps, Kept, changes-keeps, from-keeps, keeps-from, looks-keeps, nothing-keeps, then-keeps}
use Rattle.machine_laws.proofs.Plain.Frames.{pass_on-keeps}
use Rattle.machine_laws.proofs.Plain.Calls.{with_call-keeps, enqueue-keeps}
use Rattle.machine_laws.proofs.Plain.Results.{resume-keeps}

-- ---- the release has been served

pub emptied-stands : (ns : List Nature) → Emptied ns → Standing ns
emptied-stands ns e = subst Standing (sym e) tt

-- the world in which the agent has blocked
abbrev blocked_world : World → World
blocked_world w = edit_task who.Agent without_kept_level (edit_task who.Agent (with_state (Blocked waits_for.Release)) (serves_nothing w))

free-acted : (n : ℕ) (w : World) → Busy Emptied None w → is_empty w.releases ≡ false → Acted w (own (said.Served n) ∷ []) (serves_nothing w)
free-acted n w good pending = record {
  attending = record {
    colour = good.colour;
    apart = record { tasks = good.apart.tasks; marks = good.apart.marks; attends = good.apart.attends; drawn = good.apart.drawn; none = good.apart.none };
    marks = good.marks;
    attends = good.runs ∙ sym (ap not pending);
  };
  placing = calm_so (refl, tt) (good.runs ∙ sym (ap (λ q. q || false) good.runs));
}

blocked-acted : (n : ℕ) (w : World) → Busy Emptied None w → is_empty w.releases ≡ true
    → Acted w (own (said.Served n) ∷ record { part = TheBlock; line = said.Block who.Agent (word_of waits_for.Release) } ∷ []) (blocked_world w)
blocked-acted n w good none = record {
  attending = record {
    colour = good.colour;
    apart = record { tasks = good.apart.tasks; marks = good.apart.marks; attends = tt; drawn = good.apart.drawn; none = good.apart.none };
    marks = good.marks;
    attends = sym (ap not none);
  };
  placing = closes_so (closes_behind _ _ (closes _ [] refl refl tt)) refl;
}

ends-test : (n : ℕ) (w : World) (test : Bool) → Busy Emptied None w → is_empty w.releases ≡ test
    → From Acted w (says Own (said.Served n) ▷ changes serves_nothing ▷ when test (block TheBlock who.Agent waits_for.Release))
unfolding From Kept block says_block
ends-test n w true good e before = (
  own (said.Served n) ∷ record { part = TheBlock; line = said.Block who.Agent (word_of waits_for.Release) } ∷ [],
  append_assoc before (own (said.Served n) ∷ []) (record { part = TheBlock; line = said.Block who.Agent (word_of waits_for.Release) } ∷ []),
  blocked-acted n w good e,
)
ends-test n w false good e before = (own (said.Served n) ∷ [], refl, free-acted n w good e)

serve_ends-from : (n : ℕ) (w : World) → Busy Emptied None w → From Acted w (serve_ends n)
unfolding serve_ends From
serve_ends-from n w good before = ends-test n w (is_empty w.releases) good refl before

pub end_release-from : (n : ℕ) (w : World) → Busy Emptied None w → From Acted w (end_release n)
unfolding end_release
end_release-from n w good =
    looks_by Acted (λ v. when (is_served_now n v.serving) (serve_ends n)) w
    (when_by Acted (is_served_now n w.serving) (serve_ends n) w (λ e. serve_ends-from n w good)
    (λ e. nothing_by Acted w (busy-acted Emptied emptied-stands None w [] w good.runs (record { busy = good; calm = tt }))))

-- ---- the action of an object ends

abbrev action_of : Option ℕ → Nature
action_of release = record { region = None; release = release; action = true; abortable = false }

-- an action of the agent stands on top
pub record Heads (release : Option ℕ) (w : World) : Type 0 where
  pub busy : Busy Rooted None w
  pub rest : List Nature
  pub heads : natures w.agent.frames ≡ action_of release ∷ rest

rest-natures : (fs : List Frame) (n : Nature) (rest : List Nature) → natures fs ≡ n ∷ rest → natures (rest_of fs) ≡ rest
rest-natures [] n rest e = cc
rest-natures (f ∷ fs) n rest e = cc

exited : (Stands : List Nature → Type 0) (m : ProtectedMark) (w : World) → (h : Heads m.release w) → Stands h.rest
    → BusyStep Stands None w (own (said.Exit who.Agent m.object) ∷ []) (close_action who.Agent m.object (pop who.Agent w))
exited Stands m w h stands =
    let out = agent_marked h.busy.colour w (rest_of w.agent.frames) h.busy.apart (owned-popped h.busy.colour w.agent.frames h.busy.apart.marks) in
    record {
      busy = record {
        colour = h.busy.colour;
        apart = record { tasks = out.tasks; marks = out.marks; attends = out.attends; drawn = out.drawn; none = out.none };
        held_owned = tt;
        marks = subst Stands (sym (rest-natures w.agent.frames (action_of m.release) h.rest h.heads)) stands;
        runs = h.busy.runs;
        serves = h.busy.serves;
      };
      calm = (refl, tt);
    }

exit-from : (Stands : List Nature → Type 0) (m : ProtectedMark) (w : World) → (h : Heads m.release w) → Stands h.rest
    → From (BusyStep Stands None) w (says Own (said.Exit who.Agent m.object) ▷ changes (pop who.Agent) ▷ changes (close_action who.Agent m.object))
unfolding From Kept
exit-from Stands m w h stands before = (own (said.Exit who.Agent m.object) ∷ [], refl, exited Stands m w h stands)

-- the holder's own call, if there is one, is a task's
module _ (colour : Colour) where
  own_waits-keeps : (p : Image) (c : Call) (test : Bool) → Keeps (Apart colour) (Spared colour true) (wait_for_own p who.Agent c test)
  unfolding wait_for_own
  own_waits-keeps p c true =
      changes-keeps (chains (spares colour true)) _ (open_abortable-alters (spares colour true) p (who.Task c.caller) c.statement (Some c.number) tt)
  own_waits-keeps p c false =
      looks-keeps (chains (spares colour true)) _ (λ w. wait_or_unwind-keeps (spares colour true) p who.Agent c (may_unwind (frames_of w who.Agent)))

  own_resumes-keeps : (p : Image) (c : Call) (outcome : Option Outcome) → Keeps (Apart colour) (Spared colour true) (resume_own p who.Agent c outcome)
  unfolding resume_own
  own_resumes-keeps p c (Some outcome) = resume-keeps (plain_steps (spares colour true)) p TheBlock c outcome tt
  own_resumes-keeps p c None = looks-keeps (chains (spares colour true)) _ (λ w. own_waits-keeps p c (may_open_abortable w who.Agent c))

  own_call-keeps : (p : Image) (c : CallNo) → Keeps (Apart colour) (Spared colour true) (with_call c (λ d. resume_own p who.Agent d d.outcome))
  own_call-keeps p c = with_call-keeps (plain_steps (spares colour true)) c _ (λ d. own_resumes-keeps p d d.outcome)

-- what stands behind the exit
own_call-from : (p : Image) (c : CallNo) (w : World) → Busy Rooted None w
    → From (BusyStep Rooted None) w (with_call c (λ d. resume_own p who.Agent d d.outcome))
own_call-from p c w good =
    from_by (Spared good.colour true) (BusyStep Rooted None) (with_call c (λ d. resume_own p who.Agent d d.outcome)) w (λ v xs s. spared rooted None w v good s)
    (keeps_at (Apart good.colour) (Spared good.colour true) (with_call c (λ d. resume_own p who.Agent d d.outcome)) w good.apart
    (own_call-keeps good.colour p c))

goes_on-keeps : (p : Image) (m : ProtectedMark) (call : Option CallNo) → Keeps (Busy Rooted None) (BusyStep Rooted None) (behind_action p who.Agent m None call)
unfolding behind_action
goes_on-keeps p m None = pass_on-keeps (plain_steps (busies rooted None)) p who.Agent m.body_left tt
goes_on-keeps p m (Some c) = from-keeps (chains (busies rooted None)) _ (λ w good. own_call-from p c w good)

behind_inner-from : (p : Image) (m : ProtectedMark) (call : Option CallNo) (w : World) → Busy Rooted None w
    → From (BusyStep Rooted None) w
    (lose_running p who.Agent (inherited_by.Ceiling m.object) ▷ set_deferred p who.Agent ▷ behind_action p who.Agent m None call)
behind_inner-from p m call w good =
    let moves = busies rooted None in
    keeps-from (chains moves) _ w good
    (then-keeps (chains moves) _ _ (lose_running-keeps moves p who.Agent (inherited_by.Ceiling m.object) tt)
    (then-keeps (chains moves) _ _ (set_deferred-keeps moves p who.Agent tt) (goes_on-keeps p m call)))

behind_lowest-from : (p : Image) (m : ProtectedMark) (n : ℕ) (call : Option CallNo) (w : World) → Busy Emptied None w
    → From Acted w (lose_running p who.Agent (inherited_by.Ceiling m.object) ▷ set_deferred p who.Agent ▷ behind_action p who.Agent m (Some n) call)
unfolding behind_action
behind_lowest-from p m n call w good =
    let moves = busies emptied None in
    then_by (BusyStep Emptied None) Acted Acted (lose_running p who.Agent (inherited_by.Ceiling m.object)) (set_deferred p who.Agent ▷ end_release n) w
    (λ v u xs zs s k. busy_then Emptied emptied-stands None w v u xs zs good.runs s k)
    (keeps-from (chains moves) _ w good (lose_running-keeps moves p who.Agent (inherited_by.Ceiling m.object) tt))
    (λ v xs s. then_by (BusyStep Emptied None) Acted Acted (set_deferred p who.Agent) (end_release n) v
    (λ u t ys zs k l. busy_then Emptied emptied-stands None v u t ys zs s.busy.runs k l)
    (keeps-from (chains moves) _ v s.busy (set_deferred-keeps moves p who.Agent tt))
    (λ u ys k. end_release-from n u k.busy))

-- by the release that ends with it
released-from : (p : Image) (m : ProtectedMark) (release : Option ℕ) (w : World) → m.release ≡ release → Heads m.release w
    → From Acted w
    (says Own (said.Exit who.Agent m.object) ▷ changes (pop who.Agent) ▷ changes (close_action who.Agent m.object)
    ▷ lose_running p who.Agent (inherited_by.Ceiling m.object) ▷ set_deferred p who.Agent ▷ behind_action p who.Agent m release m.own_call)
released-from p m None w e h =
    let stands : Rooted (action_of m.release ∷ h.rest) = subst Rooted h.heads h.busy.marks in
    then_by (BusyStep Rooted None) Acted Acted (says Own (said.Exit who.Agent m.object) ▷ changes (pop who.Agent) ▷ changes (close_action who.Agent m.object))
    (lose_running p who.Agent (inherited_by.Ceiling m.object) ▷ set_deferred p who.Agent ▷ behind_action p who.Agent m None m.own_call) w
    (λ v u xs zs s k. busy_then Rooted stands_rooted None w v u xs zs h.busy.runs s k)
    (exit-from Rooted m w h (above_lowest (action_of m.release) h.rest e stands))
    (λ v xs s. from_by (BusyStep Rooted None) Acted _ v (λ u zs k. busy-acted Rooted stands_rooted None v zs u s.busy.runs k)
    (behind_inner-from p m m.own_call v s.busy))
released-from p m (Some n) w e h =
    let stands : Rooted (action_of m.release ∷ h.rest) = subst Rooted h.heads h.busy.marks in
    then_by (BusyStep Emptied None) Acted Acted (says Own (said.Exit who.Agent m.object) ▷ changes (pop who.Agent) ▷ changes (close_action who.Agent m.object))
    (lose_running p who.Agent (inherited_by.Ceiling m.object) ▷ set_deferred p who.Agent ▷ behind_action p who.Agent m (Some n) m.own_call) w
    (λ v u xs zs s k. busy_then Emptied emptied-stands None w v u xs zs h.busy.runs s k)
    (exit-from Emptied m w h (lowest_alone (action_of m.release) h.rest n e stands))
    (λ v xs s. behind_lowest-from p m n m.own_call v s.busy)

pub release_object-from : (p : Image) (m : ProtectedMark) (w : World) → Heads m.release w → From Acted w (release_object p who.Agent m)
unfolding release_object
release_object-from p m w h = released-from p m m.release w refl h

-- ---- steps that spare the agent stand before

heads-spared : (release : Option ℕ) (w v : World) {lines : List Said} → (h : Heads release w) → Spared h.busy.colour true w lines v → Heads release v
heads-spared release w v h s = record { busy = (spared rooted None w v h.busy s).busy; rest = h.rest; heads = s.marks_same ∙ h.heads }

step_then : (release : Option ℕ) (f g : Step) (w : World) → Heads release w → ((colour : Colour) → Keeps (Apart colour) (Spared colour true) f)
    → ((v : World) → Heads release v → From Acted v g) → From Acted w (f ▷ g)
step_then release f g w h kept onward =
    then_by (Spared h.busy.colour true) Acted Acted f g w (λ v u xs zs s k. spared_then h.busy.colour w v u xs zs s k)
    (keeps_at (Apart h.busy.colour) (Spared h.busy.colour true) f w h.busy.apart (kept h.busy.colour))
    (λ v xs s. onward v (heads-spared release w v h s))

-- a call that may not be there; where nothing is done the agent serves on
heads-rests : (release : Option ℕ) (w : World) → Heads release w → From Acted w nothing
heads-rests release w h = nothing_by Acted w (busy-acted Rooted stands_rooted None w [] w h.busy.runs (record { busy = h.busy; calm = tt }))

call_then : (release : Option ℕ) (c : CallNo) (f : Call → Step) (w : World) → Heads release w → ((d : Call) → From Acted w (f d)) → From Acted w (with_call c f)
call_then release c f w h kept = looks_by Acted (λ v. for_some (call_of v c) f) w (some_by Acted (call_of w c) f w kept (heads-rests release w h))

pub spared-ending : (colour : Colour) → Ending (Apart colour) NoRelease (Spared colour true)
spared-ending colour = record { ends = λ name n may. cc }

settles-keeps : (colour : Colour) (p : Image) (sent : Option CallNo) (served : Bool) → Keeps (Apart colour) (Spared colour true) (settle_sent p sent served)
settles-keeps colour p sent served = settle_sent-keeps (spares colour true) p sent served

begins-keeps : (p : Image) (sent : Bool) (c : CallNo) → Keeps (Busy Rooted None) (BusyStep Rooted None) (begins_part p sent c)
unfolding begins_part
begins-keeps p true c = begin_abortable-keeps (busies rooted None) p c
begins-keeps p false c = nothing-keeps (chains (busies rooted None))

-- the body of a queued call opens
opens-from : (p : Image) (c : Call) (o : ObjectNo) (sent : Bool) (number : CallNo) (w : World) → Busy Rooted None w
    → From Acted w (body_opens p who.Agent o c ▷ begins_part p sent number)
opens-from p c o sent number w good =
    let moves = busies rooted None in
    from_by (BusyStep Rooted None) Acted (body_opens p who.Agent o c ▷ begins_part p sent number) w
    (λ v xs s. busy-acted Rooted stands_rooted None w xs v good.runs s)
    (keeps-from (chains moves) _ w good
    (then-keeps (chains moves) _ _ (body_opens-keeps moves (busy_openings None) p who.Agent o c tt) (begins-keeps p sent number)))

-- ---- queued calls are served, and then the object is released

module _ (p : Image) (m : ProtectedMark) where
  serve_call-from : (is_sent : Bool) (c : CallNo) (d : Call) (again : Step) (w : World) → ((v : World) → Heads m.release v → From Acted v again)
      → Heads m.release w
      → From Acted w
      (serve_call p (part_of_start is_sent) who.Agent m.object d (begins_part p is_sent c)
      (deliver p (part_of_start is_sent) c (call_ended.ToRaise exception.Storage) ▷ again))
  serve_call-from is_sent c d again w onward h =
      let part = part_of_start is_sent in
      let otherwise = deliver p part c (call_ended.ToRaise exception.Storage) ▷ again in
      let by_room =
      λ (b : Bool). elim b as (λ _. Step) [
        | true ↦ body_opens p who.Agent m.object d ▷ begins_part p is_sent c
        | false ↦ says part (said.Finish who.Agent d.number (meeting.Raised exception.Storage)) ▷ otherwise
      ] in
      looks_by Acted (λ v. begin_call p part who.Agent d ▷ by_room (has_room_for_body p v who.Agent d.entry)) w
      (step_then m.release (begin_call p part who.Agent d) (by_room (has_room_for_body p w who.Agent d.entry)) w h
      (λ colour. begin_call-keeps (spares colour true) p part who.Agent d)
      (λ v k. either_by Acted (has_room_for_body p w who.Agent d.entry) (body_opens p who.Agent m.object d ▷ begins_part p is_sent c)
      (says part (said.Finish who.Agent d.number (meeting.Raised exception.Storage)) ▷ otherwise) v
      (opens-from p d m.object is_sent c v k.busy)
      (step_then m.release (says part (said.Finish who.Agent d.number (meeting.Raised exception.Storage))) otherwise v k
      (λ colour. says-keeps (spares colour true) part (said.Finish who.Agent d.number (meeting.Raised exception.Storage)) refl)
      (λ u l. step_then m.release (deliver p part c (call_ended.ToRaise exception.Storage)) again u l
      (λ colour. deliver-keeps (spares colour true) p part c (call_ended.ToRaise exception.Storage)) onward))))

  serve_chosen-from : (is_sent : Bool) (again : Step) (chosen : Option CallNo) (w : World) → ((v : World) → Heads m.release v → From Acted v again)
      → Heads m.release w → From Acted w (serve_chosen p who.Agent m is_sent again chosen)
  serve_chosen-from is_sent again None w onward h = release_object-from p m w h
  serve_chosen-from is_sent again (Some c) w onward h = call_then m.release c _ w h (λ d. serve_call-from is_sent c d again w onward h)

  serve_next-from : (fuel : ℕ) (sent : Option CallNo) (w : World) → Heads m.release w → From Acted w (serve_next fuel p who.Agent m sent)
  unfolding serve_next
  serve_next-from zero sent w h = release_object-from p m w h
  serve_next-from (suc fuel) sent w h =
      let served = λ (v : World). served_next p v who.Agent (object_of v m.object) in
      looks_by Acted
      (λ v. settle_sent p sent (chosen_is_sent sent (served v))
      ▷ serve_chosen p who.Agent m (chosen_is_sent sent (served v)) (serve_next fuel p who.Agent m None) (served v)) w
      (step_then m.release (settle_sent p sent (chosen_is_sent sent (served w))) _ w h (λ colour. settles-keeps colour p sent (chosen_is_sent sent (served w)))
      (λ v k. serve_chosen-from (chosen_is_sent sent (served w)) (serve_next fuel p who.Agent m None) (served w) v (λ u l. serve_next-from fuel None u l) k))

  serve_calls-from : (sent : Option CallNo) (w : World) → Heads m.release w → From Acted w (serve_calls p who.Agent m sent)
  unfolding serve_calls
  serve_calls-from sent w h = looks_by Acted (λ v. serve_next (suc (length v.calls)) p who.Agent m sent) w (serve_next-from (suc (length w.calls)) sent w h)

  by_mode-from : (mode : Mode) (w : World) → Heads m.release w → From Acted w (go_on_by_mode p who.Agent m mode)
  unfolding go_on_by_mode
  by_mode-from Read w h = release_object-from p m w h
  by_mode-from Write w h = serve_calls-from None w h

  raised-from : (c : Call) (e : Raised) (w : World) → Heads m.release w → From Acted w (finish_raised p who.Agent m c e)
  unfolding finish_raised
  raised-from c e w h =
      step_then m.release (says TheFinish (said.Finish who.Agent c.number (meeting.Raised e))) _ w h
      (λ colour. says-keeps (spares colour true) TheFinish (said.Finish who.Agent c.number (meeting.Raised e)) refl)
      (λ v k. step_then m.release (deliver p TheFinish c.number (outcome_by (is_own_call who.Agent m.own_call c) e)) _ v k
      (λ colour. deliver-keeps (spares colour true) p TheFinish c.number (outcome_by (is_own_call who.Agent m.own_call c) e))
      (λ u l. serve_calls-from None u l))

  well-from : (c : Call) (sending : Option Sending) (w : World) → Heads m.release w → From Acted w (finish_well p who.Agent m c sending)
  unfolding finish_well
  well-from c None w h =
      step_then m.release (says TheFinish (said.Finish who.Agent c.number meeting.Ok)) _ w h
      (λ colour. says-keeps (spares colour true) TheFinish (said.Finish who.Agent c.number meeting.Ok) refl)
      (λ v k. step_then m.release (deliver p TheFinish c.number call_ended.Finished) _ v k
      (λ colour. deliver-keeps (spares colour true) p TheFinish c.number call_ended.Finished)
      (λ u l. serve_calls-from None u l))
  well-from c (Some s) w h =
      step_then m.release (says TheFinish (said.Finish who.Agent c.number meeting.Requeue)) _ w h
      (λ colour. says-keeps (spares colour true) TheFinish (said.Finish who.Agent c.number meeting.Requeue) refl)
      (λ v k. step_then m.release (send_on c.number s) _ v k (λ colour. send_on-keeps (spares colour true) c.number s)
      (λ u l. step_then m.release (enqueue p c.number) _ u l (λ colour. enqueue-keeps (plain_steps (spares colour true)) p c.number)
      (λ t n. serve_calls-from (Some c.number) t n)))

  finish-from : (leaving : Leaving) (c : Call) (w : World) → Heads m.release w → From Acted w (finish_call p who.Agent m leaving c)
  unfolding finish_call
  finish-from (how.Exception e) c w h = raised-from c e w h
  finish-from how.End c w h = well-from c c.sending w h
  finish-from how.Return c w h = well-from c c.sending w h
  finish-from (how.Exit loop) c w h = well-from c c.sending w h
  finish-from how.Abort c w h = well-from c c.sending w h
  finish-from how.Terminate c w h = well-from c c.sending w h

-- ---- a body in the action has ended

module _ (p : Image) (m : ProtectedMark) (leaving : Leaving) where
  edits_then : (f : ProtectedMark → ProtectedMark) (g : Step) (w : World) → ((x : ProtectedMark) → (f x).release ≡ x.release)
      → ((x : ProtectedMark) → (f x).object ≡ x.object) → Heads m.release w → ((v : World) → Heads m.release v → From Acted v g)
      → From Acted w (changes (edit_top_protected who.Agent f) ▷ changes (edit_top who.Agent not_left) ▷ g)
  edits_then f g w same alike h onward =
      step_then m.release (changes (edit_top_protected who.Agent f)) _ w h
      (λ colour. changes-keeps (chains (spares colour true)) _ (edit_top_protected-alters (spares colour true) who.Agent f same alike))
      (λ v k. step_then m.release (changes (edit_top who.Agent not_left)) g v k
      (λ colour. changes-keeps (chains (spares colour true)) _ (edit_top-alters (spares colour true) who.Agent not_left (λ x. refl))) onward)

  operation-from : (w : World) → Heads m.release w → From Acted w (end_operation p who.Agent m leaving)
  unfolding end_operation
  operation-from w h =
      edits_then (with_body_left leaving) (go_on_by_mode p who.Agent (with_body_left leaving m) m.mode) w (λ x. refl) (λ x. refl) h
      (λ v k. by_mode-from p (with_body_left leaving m) m.mode v k)

  entry_body-from : (c : CallNo) (w : World) → Heads m.release w → From Acted w (end_entry_body p who.Agent m leaving c)
  unfolding end_entry_body
  entry_body-from c w h =
      edits_then no_longer_serves (with_call c (finish_call p who.Agent (no_longer_serves m) leaving)) w (λ x. refl) (λ x. refl) h
      (λ v k. call_then m.release c (finish_call p who.Agent (no_longer_serves m) leaving) v k (λ d. finish-from p (no_longer_serves m) leaving d v k))

  by_body-from : (serves : Option CallNo) (w : World) → Heads m.release w → From Acted w (end_in_protected_by p who.Agent m leaving serves)
  unfolding end_in_protected_by
  by_body-from None w h = operation-from w h
  by_body-from (Some c) w h = entry_body-from c w h

  pub action_end-from : (f : Frame) (w : World) → Busy Rooted None w → top_of w who.Agent ≡ Some f → f.mark ≡ InProtected m
      → From Acted w (end_in_protected p who.Agent m leaving)
  unfolding end_in_protected
  action_end-from f w good top is =
      let found = has_top w.agent.frames f top in
      by_body-from m.serves w (record { busy = good; rest = natures found.0; heads = ap natures found.1 ∙ ap (λ x. nature x ∷ natures found.0) is })
