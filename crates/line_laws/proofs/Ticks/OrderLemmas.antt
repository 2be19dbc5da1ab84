-- The lines of each tick of every run stand in their order: those of the instant, and behind them those of the tock.
use Rattle.std.proofs.Common.{◌≡◌, ℕ, ℤ, zero, suc, ◌≤◌, Bool, true, false, not, cond, eqb, ◌&&◌, List, []}
use Rattle.std.proofs.Common.{◌∷◌, ◌++◌, Option, Some, None, refl, sym, ap, subst, ◌∙◌, append_assoc, arith}
use Rattle.std.proofs.lemmas.Bool.{and_from, or_left, or_right}
use Rattle.trace_text.specs.declared.events.Event.{Event}
use Rattle.trace_text.specs.declared.events.Event.TheVariants as line
use Rattle.trace_text.specs.declared.events.Ended.{Ended}
use Rattle.trace_text.specs.declared.events.Ended.TheVariants as why
use Rattle.trace_text.specs.declared.events.Who.{Who}
use Rattle.trace_text.specs.declared.events.Who.TheVariants as who
use Rattle.trace_text.specs.Queue.{TraceLine, RisesFrom}
use Rattle.profile_image.specs.declared.image.Image.{Image}
use Rattle.profile_image.specs.declared.script_items.Item.{Item}
use Rattle.profile_machine.specs.declared.world.World.{World}
use Rattle.profile_machine.specs.declared.world.marks.Frame.{Frame}
use Rattle.profile_machine.specs.declared.world.appointments.Release.{Release}
use Rattle.profile_image.specs.Words.{same_who, same_option}
use Rattle.profile_machine.specs.Steps.{rests}
use Rattle.profile_machine.specs.Dispatching.{choose}
use Rattle.profile_machine.specs.Instant.{instant}
use Rattle.profile_machine.specs.Run.{Ran, opening, tock, stop, say, says_run, serve_if_free, serve, says_idle, at_tick, run_from, run_of}
use Rattle.machine_laws.specs.LineKinds.{is_of_effect, AllAre}
use Rattle.machine_laws.proofs.TimeLemmas.{instants_take_no_time, tocks_take_one_tick}
use Rattle.machine_laws.proofs.LineLemmas.{instants_say_effects, openings_say_effects}
use Rattle.machine_laws.proofs.RunLemmas.{run_from-rises, turn, at_tick-append}
use Rattle.machine_laws.proofs.Kept.Run.{before_tick, tock-parts}
use Rattle.line_laws.specs.TickLaws.{is_run, is_serve, may_follow, stands_rightly, follows_tick_order}

Ordered : List TraceLine → Type 0
Ordered lines = follows_tick_order lines ≡ true

-- ---- one line before others

pair-ordered : (x y : TraceLine) (rest : List TraceLine) → stands_rightly x y ≡ true → Ordered (y ∷ rest) → Ordered (x ∷ y ∷ rest)
unfolding Ordered
pair-ordered x y rest e h = and_from (stands_rightly x y) (follows_tick_order (y ∷ rest)) e h

-- a line of an effect may stand before any
effect-ordered : (n : ℕ) (x : Event) (rest : List TraceLine) → is_of_effect x ≡ true → Ordered rest → Ordered ((n, x) ∷ rest)
unfolding Ordered
effect-ordered n x [] e h = refl
effect-ordered n x (y ∷ ys) e h =
    pair-ordered (n, x) y ys (or_right (not (eqb n y.0)) (may_follow x y.1) (or_left (is_of_effect x) (is_run x && is_serve y.1) e)) h

-- any line may stand before one of a later tick
other_tick : (n m : ℕ) → suc n ≤ m → eqb n m ≡ false
other_tick n m a = grind arith

later-ordered : (n : ℕ) (x : Event) (rest : List TraceLine) → RisesFrom (suc n) rest → Ordered rest → Ordered ((n, x) ∷ rest)
unfolding Ordered
later-ordered n x [] r h = refl
later-ordered n x (y ∷ ys) r h =
    pair-ordered (n, x) y ys (or_left (not (eqb n y.0)) (may_follow x y.1) (ap not (other_tick n y.0 r.0))) h

end-ordered : (n : ℕ) (reason : Ended) → Ordered ((n, line.End reason) ∷ [])
unfolding Ordered
end-ordered n reason = refl

-- ---- the lines of an instant, and of a tock

effects-ordered : (n : ℕ) (events : List Event) (rest : List TraceLine) → AllAre is_of_effect events → Ordered rest → Ordered (at_tick n events ++ rest)
effects-ordered n [] rest a h = h
effects-ordered n (x ∷ xs) rest a h = effect-ordered n x (at_tick n xs ++ rest) a.0 (effects-ordered n xs rest a.1 h)

AtMostServe : List Event → Type 0
AtMostServe [] = Unit {0}
AtMostServe (x ∷ []) = is_serve x ≡ true
AtMostServe (x ∷ y ∷ rest) = ⊥

serve_if_free-one : (serving : Option Release) (frames : List Frame) (releases : List Release) (w : World)
    → AtMostServe ((serve_if_free serving frames releases w).1 ++ [])
unfolding AtMostServe
serve_if_free-one None [] [] w = tt
serve_if_free-one None [] (x ∷ rest) w = refl
serve_if_free-one None (f ∷ fs) releases w = tt
serve_if_free-one (Some x) frames releases w = tt

serve-one : (name : Who) (w : World) → AtMostServe ((serve name w).1 ++ [])
unfolding AtMostServe
serve-one (who.Task t) w = tt
serve-one who.Agent w = serve_if_free-one w.serving w.agent.frames w.releases w

serve-ordered : (n : ℕ) (lines : List Event) (rest : List TraceLine) → AtMostServe lines → RisesFrom (suc n) rest → Ordered rest
    → Ordered (at_tick n lines ++ rest)
unfolding AtMostServe
serve-ordered n [] rest a r h = h
serve-ordered n (x ∷ []) rest a r h = later-ordered n x rest r h
serve-ordered n (x ∷ y ∷ more) rest a r h = absurd a

run-ordered : (same : Bool) (name : Who) (w : World) (n : ℕ) (lines : List Event) (rest : List TraceLine) → AtMostServe lines → RisesFrom (suc n) rest
    → Ordered rest → Ordered (at_tick n ((cond same rests (say (line.Run name)) w).1 ++ lines) ++ rest)
unfolding AtMostServe
run-ordered true name w n lines rest a r h = serve-ordered n lines rest a r h
run-ordered false name w n [] rest a r h = later-ordered n (line.Run name) rest r h
run-ordered false name w n (x ∷ []) rest a r h =
    pair-ordered (n, line.Run name) (n, x) rest (or_right (not (eqb n n)) (is_serve x) a) (later-ordered n x rest r h)
run-ordered false name w n (x ∷ y ∷ more) rest a r h = absurd a

idle-ordered : (ran : Option Who) (w : World) (n : ℕ) (rest : List TraceLine) → RisesFrom (suc n) rest → Ordered rest
    → Ordered (at_tick n (says_idle ran w).1 ++ rest)
idle-ordered None w n rest r h = h
idle-ordered (Some name) w n rest r h = later-ordered n line.Idle rest r h

before_tick-ordered : (p : Image) (chosen : Option Who) (w : World) (n : ℕ) (rest : List TraceLine) → RisesFrom (suc n) rest → Ordered rest
    → Ordered (at_tick n (before_tick p chosen w).1 ++ rest)
before_tick-ordered p None w n rest r h = idle-ordered w.ran w n rest r h
before_tick-ordered p (Some name) w n rest r h =
    let first = says_run name w.ran w in
    run-ordered (same_option same_who w.ran (Some name)) name w n ((serve name first.0).1 ++ []) rest (serve-one name first.0) r h

tock-ordered : (p : Image) (w : World) (n : ℕ) (rest : List TraceLine) → RisesFrom (suc n) rest → Ordered rest → Ordered (at_tick n (tock p w).1 ++ rest)
tock-ordered p w n rest r h =
    subst (λ (a : World × List Event). Ordered (at_tick n a.1 ++ rest)) (sym (tock-parts p w)) (before_tick-ordered p (choose w) w n rest r h)

-- ---- what is left of a run

turn-ordered : (now : ℕ) (i t : World × List Event) (rest : Ran) (reason : Option Ended) → AllAre is_of_effect i.1 → Ordered (at_tick now t.1 ++ rest.lines)
    → Ordered (turn now i t rest reason).lines
unfolding turn
turn-ordered now i t rest (Some reason) a h =
    subst Ordered (sym (at_tick-append now i.1 (line.End reason ∷ []))) (effects-ordered now i.1 ((now, line.End reason) ∷ []) a (end-ordered now reason))
turn-ordered now i t rest None a h =
    let parts : at_tick now (i.1 ++ t.1) ++ rest.lines ≡ at_tick now i.1 ++ (at_tick now t.1 ++ rest.lines) =
    ap (λ xs. xs ++ rest.lines) (at_tick-append now i.1 t.1) ∙ append_assoc (at_tick now i.1) (at_tick now t.1) rest.lines in
    subst Ordered (sym parts) (effects-ordered now i.1 (at_tick now t.1 ++ rest.lines) a h)

run_from-ordered : (fuel : ℕ) (p : Image) (bound : ℕ) (w : World) → Ordered (run_from fuel p bound w).lines
unfolding turn
run_from-ordered zero p bound w = end-ordered w.time why.Bound
run_from-ordered (suc fuel) p bound w =
    let i = instant p w in
    let t = tock p i.0 in
    let later : t.0.time ≡ suc w.time = tocks_take_one_tick p i.0 ∙ ap (λ n. suc n) (instants_take_no_time p w) in
    turn-ordered w.time i t (run_from fuel p bound t.0) (stop p bound i.0) (instants_say_effects p w)
    (tock-ordered p i.0 w.time (run_from fuel p bound t.0).lines
    (subst (λ n. RisesFrom n (run_from fuel p bound t.0).lines) later (run_from-rises fuel p bound t.0))
    (run_from-ordered fuel p bound t.0))

pub runs_are_in_tick_order : (p : Image) (script : List (ℤ × Item)) (bound : ℕ) → follows_tick_order (run_of p script bound) ≡ true
unfolding Ordered
runs_are_in_tick_order p script bound =
    let o = opening p script in
    effects-ordered 0 o.1 (run_from (suc bound) p bound o.0).lines (openings_say_effects p script) (run_from-ordered (suc bound) p bound o.0)
