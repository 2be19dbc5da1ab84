-- Tocks keep the agent ready exactly where it has something to serve; where it is chosen it serves a release behind the tock.
use Rattle.std.proofs.Common.{◌≡◌, Bool, true, false, cond, not, ◌||◌, List, [], ◌∷◌, ◌++◌, Option, Some, None, is_some, refl, sym, ap, subst, ◌∙◌}
use Rattle.std.specs.Prelude.{unwrap_or}
use Rattle.std.proofs.lemmas.Bool.{false≢true}
use Rattle.trace_text.specs.declared.events.Event.{Event}
use Rattle.trace_text.specs.declared.events.Event.TheVariants as line
use Rattle.trace_text.specs.declared.events.Who.{Who}
use Rattle.trace_text.specs.declared.events.Who.TheVariants as who
use Rattle.trace_text.specs.Queue.{runner_after}
use Rattle.profile_image.specs.declared.image.Image.{Image}
use Rattle.profile_machine.specs.declared.world.World.{World}
use Rattle.profile_machine.specs.declared.world.appointments.Release.{Release}
use Rattle.profile_machine.specs.declared.world.marks.Frame.{Frame}
use Rattle.profile_image.specs.Words.{same_who, same_option}
use Rattle.ann_base.specs.Lists.{is_empty}
use Rattle.profile_machine.specs.Cost.{cost}
use Rattle.profile_machine.specs.Dispatching.{choose}
use Rattle.profile_machine.specs.Handlers.{charge}
use Rattle.profile_machine.specs.Steps.{rests}
use Rattle.profile_machine.specs.Tasks.{task_of, with_ticks}
use Rattle.profile_machine.specs.Run.{say, says_run, serve_if_free, serve, begin_action, one_tick_less, says_idle, next_tick, tock}
use Rattle.machine_laws.specs.LineKinds.{is_of_effect, AllAre}
use Rattle.machine_laws.proofs.FineMoves.{natures}
use Rattle.machine_laws.proofs.Kept.Combinators.{Alters}
use Rattle.machine_laws.proofs.Kept.Handlers.{charge-alters}
use Rattle.machine_laws.proofs.Kept.Run.{before_tick, tock-parts}
use Rattle.machine_laws.proofs.DispatchLemmas.{ran-path}
use Rattle.line_laws.proofs.Handlers.AgentMarks.{Standing}
use Rattle.line_laws.proofs.Handlers.SparedMoves.{agent_runs, Spared, spares, spared_settings}
use Rattle.line_laws.proofs.Handlers.Attending.{Marked, Attending, attending-spared, or_false}
use Rattle.line_laws.proofs.Ticks.ReleaseLemmas.{charged}

-- ---- who runs, by lines

abbrev pub runner_behind : Option Who → List Event → Option Who
runner_behind runner [] = runner
runner_behind runner (x ∷ xs) = runner_behind (runner_after runner x) xs

runner-append : (r : Option Who) (xs ys : List Event) → runner_behind r (xs ++ ys) ≡ runner_behind (runner_behind r xs) ys
runner-append r [] ys = refl
runner-append r (x ∷ xs) ys = runner-append (runner_after r x) xs ys

effect-runner : (r : Option Who) (event : Event) → is_of_effect event ≡ true → runner_after r event ≡ r
effect-runner r (line.Run name) e = cc
effect-runner r line.Idle e = cc
effect-runner r _ e = refl

pub effects-runner : (r : Option Who) (events : List Event) → AllAre is_of_effect events → runner_behind r events ≡ r
effects-runner r [] a = refl
effects-runner r (x ∷ xs) a = ap (λ q. runner_behind q xs) (effect-runner r x a.0) ∙ effects-runner r xs a.1

run-runner : (same : Bool) (ran : Option Who) (name : Who) (w : World) → same_option same_who ran (Some name) ≡ same
    → runner_behind ran (cond same rests (say (line.Run name)) w).1 ≡ Some name
run-runner true ran name w e = ran-path ran name e
run-runner false ran name w e = refl

serve_if_free-runner : (r : Option Who) (serving : Option Release) (frames : List Frame) (releases : List Release) (w : World)
    → runner_behind r ((serve_if_free serving frames releases w).1 ++ []) ≡ r
serve_if_free-runner r None [] [] w = refl
serve_if_free-runner r None [] (x ∷ rest) w = refl
serve_if_free-runner r None (f ∷ fs) releases w = refl
serve_if_free-runner r (Some x) frames releases w = refl

serve-runner : (r : Option Who) (name : Who) (w : World) → runner_behind r ((serve name w).1 ++ []) ≡ r
serve-runner r (who.Task t) w = refl
serve-runner r who.Agent w = serve_if_free-runner r w.serving w.agent.frames w.releases w

idle-runner : (ran : Option Who) (w : World) → runner_behind ran (says_idle ran w).1 ≡ None
idle-runner None w = refl
idle-runner (Some name) w = refl

before_tick-runner : (p : Image) (chosen : Option Who) (w : World) → runner_behind w.ran (before_tick p chosen w).1 ≡ chosen
before_tick-runner p None w = idle-runner w.ran w
before_tick-runner p (Some name) w =
    let first = says_run name w.ran w in
    runner-append w.ran first.1 ((serve name first.0).1 ++ [])
    ∙ ap (λ r. runner_behind r ((serve name first.0).1 ++ [])) (run-runner (same_option same_who w.ran (Some name)) w.ran name w refl)
    ∙ serve-runner (Some name) name first.0

pub tock-runner : (p : Image) (w : World) → runner_behind w.ran (tock p w).1 ≡ choose w
tock-runner p w = ap (λ a. runner_behind w.ran a.1) (tock-parts p w) ∙ before_tick-runner p (choose w) w

-- ---- what the agent has behind a tock

pub record Ticked (chosen : Option Who) (before after : World) : Type 0 where
  pub attending : Attending after
  pub runs_same : agent_runs after ≡ agent_runs before
  pub serves : chosen ≡ Some who.Agent → agent_runs before ≡ true → is_some after.serving ≡ true

ticked-rests : (w : World) → Attending w → is_some w.serving ≡ true → Ticked (Some who.Agent) w w
ticked-rests w h is = record { attending = h; runs_same = refl; serves = λ chosen runs. is }

nothing-served : {P : Type 0} (w : World) → Attending w → w.serving ≡ None → w.releases ≡ [] → agent_runs w ≡ true → P
nothing-served w h is none runs =
    absurd (false≢true (sym (h.attends ∙ ap (λ q. is_some q || not (is_empty w.releases)) is ∙ ap (λ q. not (is_empty q)) none) ∙ runs))

no_marks : {P : Type 0} (w : World) (f : Frame) (fs : List Frame) → Attending w → w.serving ≡ None → w.agent.frames ≡ f ∷ fs → P
no_marks w f fs h is e =
    absurd (let none : natures (f ∷ fs) ≡ [] = subst (λ q. natures q ≡ []) e (subst (λ r. Marked r (natures w.agent.frames)) is h.marks) in cc)

serve_if_free-ticked : (serving : Option Release) (frames : List Frame) (releases : List Release) (w : World) → w.serving ≡ serving → w.agent.frames ≡ frames
    → w.releases ≡ releases → Attending w → Ticked (Some who.Agent) w (serve_if_free serving frames releases w).0
serve_if_free-ticked None [] [] w is e none h = record { attending = h; runs_same = refl; serves = λ chosen runs. nothing-served w h is none runs }
serve_if_free-ticked None [] (r ∷ rest) w is e pending h = record {
  attending = record {
    colour = h.colour;
    apart = record { tasks = h.apart.tasks; marks = h.apart.marks; attends = h.apart.attends; drawn = h.apart.drawn; none = h.apart.none };
    marks = subst (λ fs. Standing (natures fs)) (sym e) tt;
    attends = h.attends ∙ ap (λ q. is_some q || not (is_empty w.releases)) is ∙ ap (λ q. not (is_empty q)) pending;
  };
  runs_same = refl;
  serves = λ chosen runs. refl;
}
serve_if_free-ticked None (f ∷ fs) releases w is e pending h = no_marks w f fs h is e
serve_if_free-ticked (Some r) frames releases w is e pending h = ticked-rests w h (ap is_some is)

serve-ticked : (name : Who) (w : World) → Attending w → Ticked (Some name) w (serve name w).0
serve-ticked (who.Task t) w h = record { attending = h; runs_same = refl; serves = λ chosen runs. cc }
serve-ticked who.Agent w h = serve_if_free-ticked w.serving w.agent.frames w.releases w refl refl refl h

-- who is chosen begins its action, and is charged for the tick

module _ (p : Image) (name : Who) where
  charged-spared : (w : World) → (h : Attending w) → Spared h.colour true w [] (charged p name w)
  unfolding Alters
  charged-spared w h =
      let moves = spares h.colour true in
      let begun = begin_action p name w in
      let paid = charge p name begun in
      let first =
      moves.edits_task name (with_ticks (Some (unwrap_or (task_of w name).ticks_left (cost p w name)))) w h.apart (λ t. refl) (λ t. refl) (λ t. refl)
      (λ t. refl) (λ t. refl) in
      let second = charge-alters moves (spared_settings h.colour true) p name begun (moves.behind w begun first) in
      let third =
      moves.edits_task name (λ t. with_ticks (one_tick_less t.ticks_left) t) paid (moves.behind begun paid second) (λ t. refl) (λ t. refl) (λ t. refl)
      (λ t. refl) (λ t. refl) in
      moves.goes_on w begun (charged p name w) {xs = []} {ys = []} first (moves.goes_on begun paid (charged p name w) {xs = []} {ys = []} second third)

  charged-ticked : (w v : World) → Ticked (Some name) w v → Ticked (Some name) w (charged p name v)
  charged-ticked w v t =
      let s = charged-spared v t.attending in
      record {
        attending = attending-spared t.attending.colour true v (charged p name v) t.attending s;
        runs_same = s.called ∙ or_false (agent_runs v) ∙ t.runs_same;
        serves = λ chosen runs. ap is_some s.serving_same ∙ t.serves chosen runs;
      }

  run-ticked : (same : Bool) (w : World) → Attending w → Ticked (Some name) w (charged p name (serve name (cond same rests (say (line.Run name)) w).0).0)
  run-ticked true w h = charged-ticked w (serve name w).0 (serve-ticked name w h)
  run-ticked false w h = charged-ticked w (serve name w).0 (serve-ticked name w h)

idle-ticked : (ran : Option Who) (w : World) → Attending w → Ticked None w (says_idle ran w).0
idle-ticked None w h = record { attending = h; runs_same = refl; serves = λ chosen runs. cc }
idle-ticked (Some name) w h = record { attending = h; runs_same = refl; serves = λ chosen runs. cc }

before_tick-ticked : (p : Image) (chosen : Option Who) (w : World) → Attending w → Ticked chosen w (before_tick p chosen w).0
before_tick-ticked p None w h = idle-ticked w.ran w h
before_tick-ticked p (Some name) w h = run-ticked p name (same_option same_who w.ran (Some name)) w h

next-ticked : (chosen : Option Who) (w v : World) → Ticked chosen w v → Ticked chosen w (next_tick chosen v)
next-ticked chosen w v t = record {
  attending = record {
    colour = t.attending.colour;
    apart = record {
      tasks = t.attending.apart.tasks;
      marks = t.attending.apart.marks;
      attends = t.attending.apart.attends;
      drawn = t.attending.apart.drawn;
      none = t.attending.apart.none;
    };
    marks = t.attending.marks;
    attends = t.attending.attends;
  };
  runs_same = t.runs_same;
  serves = t.serves;
}

pub tock-ticked : (p : Image) (w : World) → Attending w → Ticked (choose w) w (tock p w).0
tock-ticked p w h =
    subst (λ (a : World × List Event). Ticked (choose w) w a.0) (sym (tock-parts p w))
    (next-ticked (choose w) w (before_tick p (choose w) w).0 (before_tick-ticked p (choose w) w h))
