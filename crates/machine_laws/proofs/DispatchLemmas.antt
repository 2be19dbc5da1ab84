-- Every run keeps the law of dispatching: what its lines show is what its worlds have, and a tock runs the first.
use Rattle.std.proofs.Common.{◌≡◌, ℕ, ℤ, zero, suc, ◌<◌, ◌≤◌, Bool, true, false, cond, leb, List}
use Rattle.std.proofs.Common.{[], ◌∷◌, ◌++◌, Option, Some, None, refl, sym, ap, subst, ◌∙◌, arith}
use Rattle.std.proofs.lemmas.Bool.{eqb-true}
use Rattle.trace_text.specs.declared.events.Event.{Event}
use Rattle.trace_text.specs.declared.events.Event.TheVariants as line
use Rattle.trace_text.specs.declared.events.Ended.{Ended}
use Rattle.trace_text.specs.declared.events.Ended.TheVariants as why
use Rattle.trace_text.specs.declared.events.Who.{Who}
use Rattle.trace_text.specs.declared.events.Who.TheVariants as who
use Rattle.trace_text.specs.Queue.{TraceLine, RisesFrom, seen_from, up_to, last_from, head_of, who_of, runner_after, Sight, see, nothing_seen}
use Rattle.trace_text.specs.Laws.{DispatchOk}
use Rattle.profile_image.specs.declared.image.Image.{Image}
use Rattle.profile_image.specs.declared.script_items.Item.{Item}
use Rattle.profile_machine.specs.declared.world.World.{World}
use Rattle.profile_machine.specs.declared.world.marks.Frame.{Frame}
use Rattle.profile_machine.specs.declared.world.appointments.Release.{Release}
use Rattle.profile_image.specs.Words.{same_who, same_option}
use Rattle.profile_machine.specs.Steps.{places_after_all, rests}
use Rattle.profile_machine.specs.Dispatching as dispatching
use Rattle.profile_machine.specs.Dispatching.{choose}
use Rattle.profile_machine.specs.Instant.{instant}
use Rattle.profile_machine.specs.Run.{Ran, say, says_run, serve_if_free, serve, says_idle, opening, tock, stop, at_tick, run_from, run_of}
use Rattle.machine_laws.specs.LineKinds.{is_of_effect, AllAre}
use Rattle.machine_laws.proofs.TimeLemmas.{instants_take_no_time, instants_keep_runner, tocks_take_one_tick, opening_now, opening-runner}
use Rattle.machine_laws.proofs.LineLemmas.{instants_say_effects, tocks_say_ticks, openings_say_effects}
use Rattle.machine_laws.proofs.PlaceLemmas.{openings_place_by_lines, instants_place_by_lines, tocks_place_nobody, tock_lines-places}
use Rattle.machine_laws.proofs.QueueLemmas.{lined, lined-after, lined-head, by_test}
use Rattle.machine_laws.proofs.RunLemmas.{run_from-rises, turn}
use Rattle.machine_laws.proofs.Kept.Run.{before_tick, tock-parts}

-- ---- what lines of one tick show

after_all : Sight → List Event → Sight
after_all s [] = s
after_all s (x ∷ xs) = after_all (see s x) xs

seen-at_tick : (n : ℕ) (s : Sight) (events : List Event) (rest : List TraceLine)
    → seen_from see s (at_tick n events ++ rest) ≡ seen_from see (after_all s events) rest
unfolding after_all
seen-at_tick n s [] rest = refl
seen-at_tick n s (x ∷ xs) rest = seen-at_tick n (see s x) xs rest

after_all-append : (s : Sight) (xs ys : List Event) → after_all s (xs ++ ys) ≡ after_all (after_all s xs) ys
unfolding after_all
after_all-append s [] ys = refl
after_all-append s (x ∷ xs) ys = after_all-append (see s x) xs ys

after_all-queue : (s : Sight) (events : List Event) → lined (after_all s events).queue ≡ places_after_all events (lined s.queue)
unfolding after_all
after_all-queue s [] = refl
after_all-queue s (x ∷ xs) = after_all-queue (see s x) xs ∙ ap (places_after_all xs) (lined-after s.queue x)

-- the runner that lines show
runner_by : Option Who → List Event → Option Who
runner_by r [] = r
runner_by r (x ∷ xs) = runner_by (runner_after r x) xs

after_all-runner : (s : Sight) (events : List Event) → (after_all s events).runner ≡ runner_by s.runner events
unfolding after_all runner_by
after_all-runner s [] = refl
after_all-runner s (x ∷ xs) = after_all-runner (see s x) xs

runner_by-append : (r : Option Who) (xs ys : List Event) → runner_by r (xs ++ ys) ≡ runner_by (runner_by r xs) ys
unfolding runner_by
runner_by-append r [] ys = refl
runner_by-append r (x ∷ xs) ys = runner_by-append (runner_after r x) xs ys

pub effect-runner : (r : Option Who) (event : Event) → is_of_effect event ≡ true → runner_after r event ≡ r
effect-runner r (line.Run name) e = cc
effect-runner r line.Idle e = cc
effect-runner r _ e = refl

effects-runner : (r : Option Who) (events : List Event) → AllAre is_of_effect events → runner_by r events ≡ r
unfolding runner_by
effects-runner r [] a = refl
effects-runner r (x ∷ xs) a = ap (λ q. runner_by q xs) (effect-runner r x a.0) ∙ effects-runner r xs a.1

-- ---- a tock shows the one that is chosen

pub same_who-path : (a b : Who) → same_who a b ≡ true → a ≡ b
same_who-path (who.Task a) (who.Task b) e = ap (λ n. who.Task (record { 0 = n })) (eqb-true a.0 b.0 e)
same_who-path (who.Task a) who.Agent e = cc
same_who-path who.Agent (who.Task b) e = cc
same_who-path who.Agent who.Agent e = refl

pub ran-path : (ran : Option Who) (name : Who) → same_option same_who ran (Some name) ≡ true → ran ≡ Some name
ran-path None name e = cc
ran-path (Some other) name e = ap Some (same_who-path other name e)

run-test : (same : Bool) (ran : Option Who) (name : Who) (w : World) → (same ≡ true → ran ≡ Some name)
    → runner_by ran (cond same rests (say (line.Run name)) w).1 ≡ Some name
unfolding runner_by
run-test true ran name w k = k refl
run-test false ran name w k = refl

serve_if_free-runner : (r : Option Who) (serving : Option Release) (frames : List Frame) (releases : List Release) (w : World)
    → runner_by r ((serve_if_free serving frames releases w).1 ++ []) ≡ r
unfolding runner_by
serve_if_free-runner r None [] [] w = refl
serve_if_free-runner r None [] (x ∷ rest) w = refl
serve_if_free-runner r None (f ∷ fs) releases w = refl
serve_if_free-runner r (Some x) frames releases w = refl

serve-runner : (r : Option Who) (name : Who) (w : World) → runner_by r ((serve name w).1 ++ []) ≡ r
unfolding runner_by
serve-runner r (who.Task t) w = refl
serve-runner r who.Agent w = serve_if_free-runner r w.serving w.agent.frames w.releases w

idle-runner : (ran : Option Who) (w : World) → runner_by ran (says_idle ran w).1 ≡ None
unfolding runner_by
idle-runner None w = refl
idle-runner (Some name) w = refl

before_tick-runner : (p : Image) (chosen : Option Who) (w : World) → runner_by w.ran (before_tick p chosen w).1 ≡ chosen
before_tick-runner p None w = idle-runner w.ran w
before_tick-runner p (Some name) w =
    let first = says_run name w.ran w in
    runner_by-append w.ran first.1 ((serve name first.0).1 ++ [])
    ∙ ap (λ r. runner_by r ((serve name first.0).1 ++ [])) (run-test (same_option same_who w.ran (Some name)) w.ran name w (ran-path w.ran name))
    ∙ serve-runner (Some name) name first.0

tock-runner : (p : Image) (w : World) → runner_by w.ran (tock p w).1 ≡ choose w
tock-runner p w = ap (λ a. runner_by w.ran a.1) (tock-parts p w) ∙ before_tick-runner p (choose w) w

pub tock-ran : (p : Image) (w : World) → (tock p w).0.ran ≡ choose w
tock-ran p w = ap (λ a. a.0.ran) (tock-parts p w)

-- ---- lines and worlds show one thing

record Shows (s : Sight) (w : World) : Type 0 where
  pub queue : w.places ≡ lined s.queue
  pub runner : w.ran ≡ s.runner

Runs_first : Sight → Type 0
Runs_first s = s.runner ≡ who_of (head_of s.queue)

opening-shows : (p : Image) (script : List (ℤ × Item)) → Shows (after_all nothing_seen (opening p script).1) (opening p script).0
opening-shows p script = let o = opening p script in record {
  queue = openings_place_by_lines p script ∙ sym (after_all-queue nothing_seen o.1);
  runner = opening-runner p script ∙ sym (after_all-runner nothing_seen o.1 ∙ effects-runner None o.1 (openings_say_effects p script));
}

instant-shows : (p : Image) (s : Sight) (w : World) → Shows s w → Shows (after_all s (instant p w).1) (instant p w).0
instant-shows p s w h = let i = instant p w in record {
  queue = instants_place_by_lines p w ∙ ap (places_after_all i.1) h.queue ∙ sym (after_all-queue s i.1);
  runner = instants_keep_runner p w ∙ h.runner ∙ sym (after_all-runner s i.1 ∙ effects-runner s.runner i.1 (instants_say_effects p w));
}

tock-queue : (p : Image) (s : Sight) (w : World) → Shows s w → w.places ≡ lined (after_all s (tock p w).1).queue
tock-queue p s w h =
    let t = tock p w in
    h.queue ∙ sym (tock_lines-places t.1 (lined s.queue) (tocks_say_ticks p w)) ∙ sym (after_all-queue s t.1)

tock-seen : (p : Image) (s : Sight) (w : World) → Shows s w → (after_all s (tock p w).1).runner ≡ choose w
tock-seen p s w h = let t = tock p w in after_all-runner s t.1 ∙ ap (λ r. runner_by r t.1) (sym h.runner) ∙ tock-runner p w

tock-shows : (p : Image) (s : Sight) (w : World) → Shows s w → Shows (after_all s (tock p w).1) (tock p w).0
tock-shows p s w h = record {
  queue = tocks_place_nobody p w ∙ tock-queue p s w h;
  runner = tock-ran p w ∙ sym (tock-seen p s w h);
}

tock-first : (p : Image) (s : Sight) (w : World) → Shows s w → Runs_first (after_all s (tock p w).1)
unfolding Runs_first
tock-first p s w h =
    let after = after_all s (tock p w).1 in
    tock-seen p s w h ∙ ap dispatching.head_of (tock-queue p s w h) ∙ lined-head after.queue

-- ---- at each tick of a run

Held : Sight → ℕ → List TraceLine → Type 0
Held s now lines = (tick : ℕ) → now ≤ tick → tick < last_from now lines → Runs_first (seen_from see s (up_to tick lines))

up_to-at_tick : (tick now : ℕ) (events : List Event) (rest : List TraceLine) → now ≤ tick
    → up_to tick (at_tick now events ++ rest) ≡ at_tick now events ++ up_to tick rest
up_to-at_tick tick now [] rest a = refl
up_to-at_tick tick now (x ∷ xs) rest a = let within : leb now tick ≡ true = grind arith in rw within (ap (λ l. (now, x) ∷ l) (up_to-at_tick tick now xs rest a))

pub up_to-later : (tick later : ℕ) (rest : List TraceLine) → tick < later → RisesFrom later rest → up_to tick rest ≡ []
up_to-later tick later [] a h = refl
up_to-later tick later (x ∷ xs) a h = let beyond : leb x.0 tick ≡ false = grind (arith, h.0) in rw beyond refl

last_from-at_tick : (now : ℕ) (events : List Event) (rest : List TraceLine) → last_from now (at_tick now events ++ rest) ≡ last_from now rest
last_from-at_tick now [] rest = refl
last_from-at_tick now (x ∷ xs) rest = last_from-at_tick now xs rest

last_from-alone : (now : ℕ) (events : List Event) → last_from now (at_tick now events) ≡ now
last_from-alone now [] = refl
last_from-alone now (x ∷ xs) = last_from-alone now xs

last_from-later : (m n : ℕ) (rest : List TraceLine) → m ≤ n → last_from m rest ≤ last_from n rest
last_from-later m n [] a = a
last_from-later m n (x ∷ xs) a = omega arith

seen-up_to : (tick now : ℕ) (s : Sight) (events : List Event) (rest : List TraceLine) → now ≤ tick
    → seen_from see s (up_to tick (at_tick now events ++ rest)) ≡ seen_from see (after_all s events) (up_to tick rest)
seen-up_to tick now s events rest a = ap (seen_from see s) (up_to-at_tick tick now events rest a) ∙ seen-at_tick now s events (up_to tick rest)

-- the lines of one turn, and what is left of the run
Held-turn : (s : Sight) (now : ℕ) (events : List Event) (rest : List TraceLine) → RisesFrom (suc now) rest → Runs_first (after_all s events)
    → Held (after_all s events) (suc now) rest → Held s now (at_tick now events ++ rest)
unfolding Held
Held-turn s now events rest rises first later tick a b =
    let seen = seen-up_to tick now s events rest a in
    let within : tick < last_from now rest = subst (λ n. tick < n) (last_from-at_tick now events rest) b in
    by_test (leb (suc now) tick)
    (λ t. let more : last_from now rest ≤ last_from (suc now) rest = last_from-later now (suc now) rest (omega arith) in
    subst Runs_first (sym seen) (later tick (grind arith) (omega arith)))
    (λ f. let now_is : tick < suc now = grind arith in
    subst Runs_first (sym (seen ∙ ap (seen_from see (after_all s events)) (up_to-later tick (suc now) rest now_is rises))) first)

Held-stopped : (s : Sight) (now : ℕ) (events : List Event) → Held s now (at_tick now events)
unfolding Held
Held-stopped s now events tick a b = absurd (let none : tick < now = subst (λ n. tick < n) (last_from-alone now events) b in omega arith)

turn-held : (s : Sight) (now : ℕ) (i t : World × List Event) (rest : Ran) (reason : Option Ended) → RisesFrom (suc now) rest.lines
    → Runs_first (after_all s (i.1 ++ t.1)) → Held (after_all s (i.1 ++ t.1)) (suc now) rest.lines → Held s now (turn now i t rest reason).lines
unfolding turn
turn-held s now i t rest (Some reason) rises first later = Held-stopped s now (i.1 ++ line.End reason ∷ [])
turn-held s now i t rest None rises first later = Held-turn s now (i.1 ++ t.1) rest.lines rises first later

run_from-held : (fuel : ℕ) (p : Image) (bound : ℕ) (w : World) (s : Sight) → Shows s w → Held s w.time (run_from fuel p bound w).lines
unfolding turn
run_from-held zero p bound w s h = Held-stopped s w.time (line.End why.Bound ∷ [])
run_from-held (suc fuel) p bound w s h =
    let i = instant p w in
    let t = tock p i.0 in
    let behind : Shows (after_all s i.1) i.0 = instant-shows p s w h in
    let joined : after_all s (i.1 ++ t.1) ≡ after_all (after_all s i.1) t.1 = after_all-append s i.1 t.1 in
    let later : t.0.time ≡ suc w.time = tocks_take_one_tick p i.0 ∙ ap (λ n. suc n) (instants_take_no_time p w) in
    let shown : Shows (after_all s (i.1 ++ t.1)) t.0 = subst (λ q. Shows q t.0) (sym joined) (tock-shows p (after_all s i.1) i.0 behind) in
    turn-held s w.time i t (run_from fuel p bound t.0) (stop p bound i.0)
    (subst (λ n. RisesFrom n (run_from fuel p bound t.0).lines) later (run_from-rises fuel p bound t.0))
    (subst Runs_first (sym joined) (tock-first p (after_all s i.1) i.0 behind))
    (subst (λ n. Held (after_all s (i.1 ++ t.1)) n (run_from fuel p bound t.0).lines) later (run_from-held fuel p bound t.0 (after_all s (i.1 ++ t.1)) shown))

pub runs_dispatch : (p : Image) (script : List (ℤ × Item)) (bound : ℕ) → DispatchOk (run_of p script bound)
unfolding Held Runs_first
runs_dispatch p script bound tick b =
    let o = opening p script in
    let rest = (run_from (suc bound) p bound o.0).lines in
    let within : tick < last_from 0 rest = subst (λ n. tick < n) (last_from-at_tick 0 o.1 rest) b in
    let held : Held (after_all nothing_seen o.1) 0 rest =
    subst (λ n. Held (after_all nothing_seen o.1) n rest) (opening_now p script)
    (run_from-held (suc bound) p bound o.0 (after_all nothing_seen o.1) (opening-shows p script)) in
    subst (λ q. q.runner ≡ who_of (head_of q.queue)) (sym (seen-up_to tick 0 nothing_seen o.1 rest (omega arith))) (held tick (omega arith) within)
