-- In every run who enters an object has in that tick neither been placed, nor taken out, nor entered or left one.
use Rattle.blocking_laws.proofs.EnterLemmas.{is_coming}
use Rattle.ceiling_laws.proofs.Runs.FreeMoves.{anywhere}
use Rattle.ceiling_laws.proofs.Runs.LevelMoves.{is_apart}
use Rattle.line_laws.proofs.Ticks.LineByLine.{Follow, Follow-all, Follow-append, seen_behind}
use Rattle.machine_laws.proofs.LineLemmas.{tocks_say_ticks}
use Rattle.machine_laws.proofs.RunLemmas.{turn}
use Rattle.machine_laws.proofs.TimeLemmas.{instants_take_no_time, opening-runner, opening_now, tocks_take_one_tick}
use Rattle.machine_laws.specs.LineKinds.{is_of_tock}
use Rattle.profile_machine.specs.Instant.{effect, instant}
use Rattle.profile_machine.specs.Lines.{event_of}
use Rattle.profile_machine.specs.Run.{Ran, at_tick, opening, run_from, stop, tock}
use Rattle.profile_machine.specs.Steps.{settles}
use Rattle.profile_image.specs.declared.image.Image.{Image}
use Rattle.profile_machine.specs.declared.world.World.{World}
use Rattle.profile_machine.specs.declared.world.lines.Line.{Line}
use Rattle.profile_machine.specs.declared.world.lines.Line.TheVariants as line
use Rattle.std.proofs.Common.{List, None, Option, Some, [], ap, arith, eq-eqb, eqb, false, refl, subst, suc, sym, true, zero, ℕ, ◌&&◌, ◌++◌, ◌<◌, ◌∙◌, ◌∷◌, ◌≡◌}
use Rattle.std.proofs.lemmas.Bool.{and_from}
use Rattle.trace_text.specs.Queue.{TraceLine}
use Rattle.trace_text.specs.declared.events.Ended.{Ended}
use Rattle.trace_text.specs.declared.events.Ended.TheVariants as why
use Rattle.trace_text.specs.declared.events.Event.{Event}
use Rattle.trace_text.specs.declared.events.Event.TheVariants as written
use Rattle.trace_text.specs.declared.events.Who.{Who}
use Rattle.blocking_laws.specs.FreshLines.{RunsEnterFresh}
use Rattle.blocking_laws.specs.MovingLaws.{enters_from, is_fresh_entry, touched_at, touched_by}
use Rattle.blocking_laws.proofs.EnterLaws.{OfEnters}
use Rattle.blocking_laws.proofs.EnterRuns.{OfActor, effect-lawful, instant-lawful, opening-lawful}

-- ---- lines of one tick

abbrev touched_after : List Who → Event → List Who
touched_after touched event = touched_by event ++ touched

abbrev Fresh : List Who → List Event → Type 0
Fresh = Follow touched_after is_fresh_entry

abbrev touched_behind : List Who → List Event → List Who
touched_behind = seen_behind touched_after is_fresh_entry

same-tick : (n : ℕ) (touched : List Who) → touched_at (eqb n n) touched ≡ touched
same-tick n touched = ap (λ b. touched_at b touched) (eq-eqb n n refl)

within : (n : ℕ) (touched : List Who) (events : List Event) (rest : List TraceLine) → Fresh touched events
    → enters_from n (touched_behind touched events) rest ≡ true → enters_from n touched (at_tick n events ++ rest) ≡ true
within n touched [] rest h k = k
within n touched (x ∷ xs) rest h k =
    subst (λ t. (is_fresh_entry t x && enters_from n (touched_by x ++ t) (at_tick n xs ++ rest)) ≡ true) (sym (same-tick n touched))
    (and_from (is_fresh_entry touched x) (enters_from n (touched_after touched x) (at_tick n xs ++ rest)) h.0
    (within n (touched_after touched x) xs rest h.1 k))

later : (m n : ℕ) → m < n → eqb n m ≡ false
later m n h = grind arith

-- what comes at a later tick is right whatever was touched before
abbrev RightFrom : ℕ → List TraceLine → Type 0
RightFrom n lines = (m : ℕ) (touched : List Who) → m < n → enters_from m touched lines ≡ true

next : (n : ℕ) → n < suc n
next n = omega arith

after : (m n : ℕ) → m < n → m < suc n
after m n h = omega (arith, h)

begins : (m n : ℕ) (touched : List Who) (events : List Event) (rest : List TraceLine) → m < n → Fresh [] events → RightFrom (suc n) rest
    → enters_from m touched (at_tick n events ++ rest) ≡ true
begins m n touched [] rest sooner h k = k m touched (after m n sooner)
begins m n touched (x ∷ xs) rest sooner h k =
    subst (λ b. (is_fresh_entry (touched_at b touched) x && enters_from n (touched_by x ++ touched_at b touched) (at_tick n xs ++ rest)) ≡ true)
    (sym (later m n sooner))
    (and_from (is_fresh_entry [] x) (enters_from n (touched_after [] x) (at_tick n xs ++ rest)) h.0
    (within n (touched_after [] x) xs rest h.1 (k n (touched_behind (touched_after [] x) xs) (next n))))

-- ---- an instant and a tock

fresh_other : (p : Image) (touched : List Who) (x : Line) → is_coming x ≡ false → is_fresh_entry touched (event_of p x) ≡ true
fresh_other p touched (line.Enter name object mode) e = cc
fresh_other p touched (line.Held name object mode) e = cc
fresh_other p touched _ e = refl

quiet-still : (p : Image) (touched : List Who) (x : Line) → is_apart x ≡ false → touched_after touched (event_of p x) ≡ touched
quiet-still p touched (line.New what declared level) e = cc
quiet-still p touched (line.Ready who level end deadline) e = cc
quiet-still p touched (line.Block who waits) e = cc
quiet-still p touched (line.Base task level) e = cc
quiet-still p touched (line.Done task) e = cc
quiet-still p touched (line.Enter who object mode) e = cc
quiet-still p touched (line.Exit who object) e = cc
quiet-still p touched (line.Held who object mode) e = cc
quiet-still p touched _ e = refl

fresh_enters : (p : Image) → OfEnters touched_after is_fresh_entry p
fresh_enters p = record { others = fresh_other p; still = quiet-still p }

AnyWorld : World → Type 0
AnyWorld w = Unit {0}

fresh_actor : (p : Image) (name : Who) → OfActor touched_after is_fresh_entry p name [] anywhere AnyWorld
unfolding AnyWorld
fresh_actor p name = record {
  silently = λ a b same h. tt;
  ends_scope = λ id w h. tt;
  appoints = λ t moment w h. tt;
  may = λ w o mode e. tt;
  may_held = λ w o mode e. tt;
  may_on = λ a b o same m. tt;
  right = λ w o mode known may. refl;
  right_held = λ w o mode known may. refl;
}

effect-fresh : (p : Image) (w : World) (name : Who) → Fresh [] (settles p (effect p name) w).1
unfolding AnyWorld
effect-fresh p w name =
    effect-lawful touched_after is_fresh_entry (fresh_enters p) w name [] anywhere AnyWorld (fresh_actor p name) tt

instant-fresh : (p : Image) (w : World) → Fresh [] (instant p w).1
instant-fresh p w = instant-lawful touched_after is_fresh_entry (fresh_enters p) w [] (λ name ran over. effect-fresh p w name)

-- nobody acts where nobody has run
idle-fresh : (p : Image) (w : World) (touched : List Who) → w.ran ≡ None → Fresh touched (instant p w).1
idle-fresh p w touched none =
    instant-lawful touched_after is_fresh_entry (fresh_enters p) w touched
    (λ name ran over. absurd (let never : None ≡ Some name = sym none ∙ ran in cc))

tock_line-fresh : (touched : List Who) (event : Event) → is_of_tock event ≡ true → is_fresh_entry touched event ≡ true
tock_line-fresh touched (written.Enter name object mode) e = cc
tock_line-fresh touched _ e = refl

tock-fresh : (p : Image) (w : World) (touched : List Who) → Fresh touched (tock p w).1
tock-fresh p w touched = Follow-all touched_after is_fresh_entry is_of_tock tock_line-fresh touched (tock p w).1 (tocks_say_ticks p w)

with-end : (touched : List Who) (events : List Event) (reason : Ended) → Fresh touched events → Fresh touched (events ++ written.End reason ∷ [])
with-end touched events reason h = Follow-append touched_after is_fresh_entry touched events (written.End reason ∷ []) h (refl, tt)

with-tock : (p : Image) (w : World) (touched : List Who) (events : List Event) → Fresh touched events → Fresh touched (events ++ (tock p w).1)
with-tock p w touched events h =
    Follow-append touched_after is_fresh_entry touched events (tock p w).1 h (tock-fresh p w (touched_behind touched events))

-- ---- a run

staying : (n : ℕ) (touched : List Who) (events : List Event) → Fresh touched events → enters_from n touched (at_tick n events) ≡ true
staying n touched [] h = refl
staying n touched (x ∷ xs) h =
    subst (λ t. (is_fresh_entry t x && enters_from n (touched_by x ++ t) (at_tick n xs)) ≡ true) (sym (same-tick n touched))
    (and_from (is_fresh_entry touched x) (enters_from n (touched_after touched x) (at_tick n xs)) h.0 (staying n (touched_after touched x) xs h.1))

alone : (m n : ℕ) (touched : List Who) (events : List Event) → m < n → Fresh [] events → enters_from m touched (at_tick n events) ≡ true
alone m n touched [] sooner h = refl
alone m n touched (x ∷ xs) sooner h =
    subst (λ b. (is_fresh_entry (touched_at b touched) x && enters_from n (touched_by x ++ touched_at b touched) (at_tick n xs)) ≡ true)
    (sym (later m n sooner))
    (and_from (is_fresh_entry [] x) (enters_from n (touched_after [] x) (at_tick n xs)) h.0 (staying n (touched_after [] x) xs h.1))

turn-begins : (m now : ℕ) (touched : List Who) (i t : World × List Event) (rest : Ran) (reason : Option Ended) → m < now
    → ((other : Ended) → Fresh [] (i.1 ++ written.End other ∷ [])) → Fresh [] (i.1 ++ t.1) → RightFrom (suc now) rest.lines
    → enters_from m touched (turn now i t rest reason).lines ≡ true
unfolding turn
turn-begins m now touched i t rest (Some reason) sooner ends h k = alone m now touched (i.1 ++ written.End reason ∷ []) sooner (ends reason)
turn-begins m now touched i t rest None sooner ends h k = begins m now touched (i.1 ++ t.1) rest.lines sooner h k

turn-stays : (now : ℕ) (touched : List Who) (i t : World × List Event) (rest : Ran) (reason : Option Ended)
    → ((other : Ended) → Fresh touched (i.1 ++ written.End other ∷ [])) → Fresh touched (i.1 ++ t.1) → RightFrom (suc now) rest.lines
    → enters_from now touched (turn now i t rest reason).lines ≡ true
unfolding turn
turn-stays now touched i t rest (Some reason) ends h k = staying now touched (i.1 ++ written.End reason ∷ []) (ends reason)
turn-stays now touched i t rest None ends h k =
    within now touched (i.1 ++ t.1) rest.lines h (k now (touched_behind touched (i.1 ++ t.1)) (next now))

ticks-on : (p : Image) (w : World) → (tock p (instant p w).0).0.time ≡ suc w.time
ticks-on p w = tocks_take_one_tick p (instant p w).0 ∙ ap (λ n. suc n) (instants_take_no_time p w)

run_from-right : (fuel : ℕ) (p : Image) (bound : ℕ) (w : World) → RightFrom w.time (run_from fuel p bound w).lines
unfolding turn
run_from-right zero p bound w m touched sooner = alone m w.time touched (written.End why.Bound ∷ []) sooner (refl, tt)
run_from-right (suc fuel) p bound w m touched sooner =
    let i = instant p w in
    let t = tock p i.0 in
    turn-begins m w.time touched i t (run_from fuel p bound t.0) (stop p bound i.0) sooner (λ other. with-end [] i.1 other (instant-fresh p w))
    (with-tock p i.0 [] i.1 (instant-fresh p w))
    (subst (λ n. RightFrom n (run_from fuel p bound t.0).lines) (ticks-on p w) (run_from-right fuel p bound t.0))

-- at the tick of the opening nobody acts
run_from-first : (fuel : ℕ) (p : Image) (bound : ℕ) (w : World) (touched : List Who) → w.ran ≡ None
    → enters_from w.time touched (run_from (suc fuel) p bound w).lines ≡ true
unfolding turn
run_from-first fuel p bound w touched none =
    let i = instant p w in
    let t = tock p i.0 in
    turn-stays w.time touched i t (run_from fuel p bound t.0) (stop p bound i.0) (λ other. with-end touched i.1 other (idle-fresh p w touched none))
    (with-tock p i.0 touched i.1 (idle-fresh p w touched none))
    (subst (λ n. RightFrom n (run_from fuel p bound t.0).lines) (ticks-on p w) (run_from-right fuel p bound t.0))

pub runs_enter_fresh : RunsEnterFresh
runs_enter_fresh p script bound =
    let o = opening p script in
    within 0 [] o.1 (run_from (suc bound) p bound o.0).lines (opening-lawful touched_after is_fresh_entry (fresh_enters p) [] script)
    (subst (λ n. enters_from n (touched_behind [] o.1) (run_from (suc bound) p bound o.0).lines ≡ true) (opening_now p script)
    (run_from-first bound p bound o.0 (touched_behind [] o.1) (opening-runner p script)))
