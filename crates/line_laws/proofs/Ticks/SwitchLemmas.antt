-- Every run keeps the law of switches: the runner that lines show is the one that the world has, and a tock compares with it.
use Rattle.std.proofs.Common.{◌≡◌, ℕ, ℤ, Bool, true, false, not, cond, List, [], ◌∷◌, ◌++◌, Option, Some, None, refl, sym, ap, subst, ◌∙◌}
use Rattle.trace_text.specs.declared.events.Event.{Event}
use Rattle.trace_text.specs.declared.events.Event.TheVariants as line
use Rattle.trace_text.specs.declared.events.Who.{Who}
use Rattle.trace_text.specs.declared.events.Who.TheVariants as who
use Rattle.trace_text.specs.Queue.{runner_after, somebody_eq}
use Rattle.profile_image.specs.declared.image.Image.{Image}
use Rattle.profile_image.specs.declared.script_items.Item.{Item}
use Rattle.profile_machine.specs.declared.world.World.{World}
use Rattle.profile_machine.specs.declared.world.marks.Frame.{Frame}
use Rattle.profile_machine.specs.declared.world.appointments.Release.{Release}
use Rattle.profile_image.specs.Words.{same_who, same_option}
use Rattle.profile_machine.specs.Steps.{rests}
use Rattle.profile_machine.specs.Dispatching.{choose}
use Rattle.profile_machine.specs.Instant.{instant}
use Rattle.profile_machine.specs.Run.{say, says_run, serve_if_free, serve, says_idle, opening, tock, run_of}
use Rattle.machine_laws.specs.LineKinds.{is_of_effect, AllAre}
use Rattle.machine_laws.proofs.TimeLemmas.{instants_keep_runner, opening-runner}
use Rattle.machine_laws.proofs.LineLemmas.{instants_say_effects, openings_say_effects}
use Rattle.machine_laws.proofs.Kept.Run.{before_tick, tock-parts}
use Rattle.machine_laws.proofs.DispatchLemmas.{effect-runner, ran-path, tock-ran}
use Rattle.line_laws.specs.TickLaws.{is_switch, SwitchesOk}
use Rattle.line_laws.proofs.Ticks.LineByLine.{seen_behind, seen_behind-append, Follow, Follow-append, Leads_on, OfRuns, run-at_each_line}

-- ---- what lines show

abbrev runner_behind : Option Who → List Event → Option Who
runner_behind = seen_behind runner_after is_switch

abbrev Switch : Option Who → List Event → Type 0
Switch = Follow runner_after is_switch

ShowsRunner : Option Who → World → Type 0
ShowsRunner runner w = w.ran ≡ runner

-- ---- the lines of effects

effect-switch : (r : Option Who) (event : Event) → is_of_effect event ≡ true → is_switch r event ≡ true
effect-switch r (line.Run name) e = cc
effect-switch r line.Idle e = cc
effect-switch r (line.Serve release) e = cc
effect-switch r _ e = refl

effects-switch : (r : Option Who) (events : List Event) → AllAre is_of_effect events → Switch r events × (runner_behind r events ≡ r)
effects-switch r [] a = (tt, refl)
effects-switch r (x ∷ xs) a =
    let same : runner_after r x ≡ r = effect-runner r x a.0 in
    let onward = effects-switch r xs a.1 in
    ((effect-switch r x a.0, subst (λ q. Switch q xs) (sym same) onward.0), ap (λ q. runner_behind q xs) same ∙ onward.1)

effects-lead_on : (r : Option Who) (events : List Event) (w : World) → AllAre is_of_effect events → w.ran ≡ r
    → Leads_on runner_after is_switch ShowsRunner r events w
unfolding ShowsRunner
effects-lead_on r events w a e = let h = effects-switch r events a in record { follow = h.0; shows = e ∙ sym h.1 }

-- ---- the lines of a tock

somebody_eq-is : (a b : Option Who) → somebody_eq a b ≡ same_option same_who a b
somebody_eq-is None None = refl
somebody_eq-is None (Some b) = refl
somebody_eq-is (Some a) None = refl
somebody_eq-is (Some (who.Task a)) (Some (who.Task b)) = refl
somebody_eq-is (Some (who.Task a)) (Some who.Agent) = refl
somebody_eq-is (Some who.Agent) (Some (who.Task b)) = refl
somebody_eq-is (Some who.Agent) (Some who.Agent) = refl

-- these lines lead from one runner to another
abbrev Passes : Option Who → List Event → Option Who → Type 0
Passes r events next = Switch r events × (runner_behind r events ≡ next)

Passes-append : (r next last : Option Who) (xs ys : List Event) → Passes r xs next → Passes next ys last → Passes r (xs ++ ys) last
Passes-append r next last xs ys a b = (
  Follow-append runner_after is_switch r xs ys a.0 (subst (λ q. Switch q ys) (sym a.1) b.0),
  seen_behind-append runner_after is_switch r xs ys ∙ ap (λ q. runner_behind q ys) a.1 ∙ b.1,
)

run-passes : (same : Bool) (ran : Option Who) (name : Who) (w : World) → same_option same_who ran (Some name) ≡ same
    → Passes ran (cond same rests (say (line.Run name)) w).1 (Some name)
run-passes true ran name w e = (tt, ran-path ran name e)
run-passes false ran name w e = ((ap not (somebody_eq-is ran (Some name) ∙ e), tt), refl)

serve_if_free-passes : (serving : Option Release) (frames : List Frame) (releases : List Release) (w : World)
    → Passes (Some who.Agent) ((serve_if_free serving frames releases w).1 ++ []) (Some who.Agent)
serve_if_free-passes None [] [] w = (tt, refl)
serve_if_free-passes None [] (x ∷ rest) w = ((refl, tt), refl)
serve_if_free-passes None (f ∷ fs) releases w = (tt, refl)
serve_if_free-passes (Some x) frames releases w = (tt, refl)

serve-passes : (name : Who) (w : World) → Passes (Some name) ((serve name w).1 ++ []) (Some name)
serve-passes (who.Task t) w = (tt, refl)
serve-passes who.Agent w = serve_if_free-passes w.serving w.agent.frames w.releases w

idle-passes : (ran : Option Who) (w : World) → Passes ran (says_idle ran w).1 None
idle-passes None w = (tt, refl)
idle-passes (Some name) w = ((refl, tt), refl)

before_tick-passes : (p : Image) (chosen : Option Who) (w : World) → Passes w.ran (before_tick p chosen w).1 chosen
before_tick-passes p None w = idle-passes w.ran w
before_tick-passes p (Some name) w =
    let first = says_run name w.ran w in
    Passes-append w.ran (Some name) (Some name) first.1 ((serve name first.0).1 ++ [])
    (run-passes (same_option same_who w.ran (Some name)) w.ran name w refl)
    (serve-passes name first.0)

tock-passes : (p : Image) (w : World) → Passes w.ran (tock p w).1 (choose w)
tock-passes p w = subst (λ (a : World × List Event). Passes w.ran a.1 (choose w)) (sym (tock-parts p w)) (before_tick-passes p (choose w) w)

tocks-lead_on : (p : Image) (r : Option Who) (w : World) → ShowsRunner r w → Leads_on runner_after is_switch ShowsRunner r (tock p w).1 (tock p w).0
unfolding ShowsRunner
tocks-lead_on p r w e =
    let h : Passes r (tock p w).1 (choose w) = subst (λ q. Passes q (tock p w).1 (choose w)) e (tock-passes p w) in
    record { follow = h.0; shows = tock-ran p w ∙ sym h.1 }

-- ---- every run

switches : OfRuns runner_after is_switch ShowsRunner None
unfolding ShowsRunner
switches = record {
  openings = λ p script. let o = opening p script in effects-lead_on None o.1 o.0 (openings_say_effects p script) (opening-runner p script);
  instants = λ p r w e. let i = instant p w in effects-lead_on r i.1 i.0 (instants_say_effects p w) (instants_keep_runner p w ∙ e);
  tocks = tocks-lead_on;
  ends = λ p bound r w reason shown e. refl;
  bound = λ r. refl;
}

pub runs_switch : (p : Image) (script : List (ℤ × Item)) (bound : ℕ) → SwitchesOk (run_of p script bound)
runs_switch p script bound = run-at_each_line runner_after is_switch switches p script bound
