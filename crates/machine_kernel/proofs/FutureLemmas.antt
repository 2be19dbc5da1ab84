-- What is still to come stays the same when a kernel goes on, but for the line that is told.
use Rattle.std.proofs.Common.{◌≡◌, ◌+◌, ◌*◌, ◌-◌, ◌<◌, ◌≤◌, ℕ, suc, ℤ, Bool, true, false, List, [], ◌∷◌, ◌++◌}
use Rattle.std.proofs.Common.{Option, Some, None, length, arith, refl, sym, ap, ◌∙◌, append_assoc, append-nil}
use Rattle.trace_text.specs.declared.events.Event.{Event}
use Rattle.trace_text.specs.declared.events.Event.TheVariants as line
use Rattle.trace_text.specs.declared.events.Ended.{Ended}
use Rattle.profile_image.specs.declared.image.Image.{Image}
use Rattle.profile_image.specs.declared.script_items.Item.{Item}
use Rattle.profile_machine.specs.declared.world.World.{World}
use Rattle.profile_machine.specs.Instant.{instant}
use Rattle.profile_machine.specs.Run.{tock, stop, opening, run_from, at_tick, lines_of_run, stop_of_run}
use Rattle.machine_kernel.specs.Busy.{passed}
use Rattle.machine_kernel.specs.Future.{Shown, advanced, advanced_by, future_of, first_line, lines_from, lines_unless, after_instant}
use Rattle.machine_kernel.specs.Future.{goes_by, unless_stopped, end_lines, stop_of, stop_from, stop_unless, opened, left_of, flag}
use Rattle.machine_kernel.proofs.BusyLemmas.{QuietStretches, passed-run, passed-later}

at_tick-append : (now : ℕ) (xs ys : List Event) → at_tick now (xs ++ ys) ≡ at_tick now xs ++ at_tick now ys
at_tick-append now [] ys = refl
at_tick-append now (x ∷ xs) ys = ap (λ zs. (now, x) ∷ zs) (at_tick-append now xs ys)

-- the run from an instant on, by the stop that is found there
lines_by : Option Ended → Image → ℕ → ℕ → World → World × List Event → List (ℕ × Event)
lines_by (Some reason) p bound fuel w i = at_tick w.time (i.1 ++ line.End reason ∷ [])
lines_by None p bound fuel w i =
    let t = tock p i.0 in
    at_tick w.time (i.1 ++ t.1) ++ (run_from fuel p bound t.0).lines

stop_by : Option Ended → ℕ → Image → ℕ → World → Ended
stop_by (Some reason) fuel p bound w = reason
stop_by None fuel p bound w = (run_from fuel p bound (tock p w).0).stop

from-instant : (fuel : ℕ) (p : Image) (bound : ℕ) (w : World) (found : Option Ended) → stop p bound (instant p w).0 ≡ found
    → (run_from (suc fuel) p bound w).lines ≡ lines_by found p bound fuel w (instant p w)
unfolding lines_by
from-instant fuel p bound w None e = rw (e, run_from) refl
from-instant fuel p bound w (Some reason) e = rw (e, run_from) refl

-- what a kernel shows goes on in time: an instant stands, a tock passes one tick below the bound, and idle and busy
-- stretches say nothing
pub record Moves (s : Shown) : Type 0 where
  pub stands : (instant s.program s.world).0.time ≡ s.world.time
  pub passes : (tock s.program s.world).0.time ≡ suc s.world.time
  pub before : s.at_instant ≡ false → s.stop ≡ None → s.world.time < s.bound
  pub quiet : QuietStretches

-- behind an instant
instant-future : (s : Shown) (found : Option Ended) → stop s.program s.bound (instant s.program s.world).0 ≡ found
    → (instant s.program s.world).0.time ≡ s.world.time →
    at_tick s.world.time ((instant s.program s.world).1 ++ end_lines found) ++ lines_unless found (after_instant s (instant s.program s.world))
    ≡ (run_from (suc (s.bound - s.world.time)) s.program s.bound s.world).lines
unfolding lines_by
instant-future s (Some reason) e stands = append-nil _ ∙ sym (from-instant (s.bound - s.world.time) s.program s.bound s.world (Some reason) e)
instant-future s None e stands =
    let p = s.program in
    let now = s.world.time in
    let i = instant p s.world in
    let t = tock p i.0 in
    let rest = (run_from (s.bound - now) p s.bound t.0).lines in
    ap (λ n. at_tick now (i.1 ++ []) ++ (at_tick n t.1 ++ (run_from (s.bound - n) p s.bound t.0).lines)) stands
    ∙ ap (λ xs. at_tick now xs ++ (at_tick now t.1 ++ rest)) (append-nil i.1)
    ∙ sym (append_assoc (at_tick now i.1) (at_tick now t.1) rest)
    ∙ ap (λ xs. xs ++ rest) (sym (at_tick-append now i.1 t.1))
    ∙ sym (from-instant (s.bound - now) p s.bound s.world None e)

-- the ticks up to the bound, behind one tick
ticks-left : (bound now next : ℕ) → next ≡ suc now → now < bound → suc (bound - next) ≡ bound - now
ticks-left bound now next e a = omega arith

-- behind a tock and a jump
tock-run : (s : Shown) → QuietStretches → (tock s.program s.world).0.time ≡ suc s.world.time → s.world.time < s.bound →
    run_from (suc (s.bound - (passed s.program s.bound (tock s.program s.world).0).time)) s.program s.bound
    (passed s.program s.bound (tock s.program s.world).0)
    ≡ run_from (s.bound - s.world.time) s.program s.bound (tock s.program s.world).0
tock-run s quiet passes before =
    passed-run quiet s.program s.bound (tock s.program s.world).0
    ∙ ap (λ n. run_from n s.program s.bound (tock s.program s.world).0) (ticks-left s.bound s.world.time (tock s.program s.world).0.time passes before)

tock-future : (s : Shown) → QuietStretches → (tock s.program s.world).0.time ≡ suc s.world.time → s.world.time < s.bound →
    at_tick s.world.time (tock s.program s.world).1
    ++ (run_from (suc (s.bound - (passed s.program s.bound (tock s.program s.world).0).time)) s.program s.bound
    (passed s.program s.bound (tock s.program s.world).0)).lines
    ≡ lines_from false s.program s.bound s.world
tock-future s quiet passes before = ap (λ r. at_tick s.world.time (tock s.program s.world).1 ++ r.lines) (tock-run s quiet passes before)

goes-future : (at_instant : Bool) (s : Shown) → s.at_instant ≡ at_instant → s.stop ≡ None → Moves s
    → future_of (goes_by at_instant s) ≡ lines_from at_instant s.program s.bound s.world
goes-future true s at e m = instant-future s (stop s.program s.bound (instant s.program s.world).0) refl m.stands
goes-future false s at e m = rw e (tock-future s m.quiet m.passes (m.before at e))

unstopped-future : (found : Option Ended) (s : Shown) → s.stop ≡ found → s.owed ≡ [] → Moves s → future_of (unless_stopped found s) ≡ lines_unless found s
unstopped-future None s e owed m = goes-future s.at_instant s refl e m
unstopped-future (Some why) s e owed m = ap (λ xs. xs ++ lines_unless s.stop s) owed ∙ ap (λ found. lines_unless found s) e

lines-told : (found : Option Ended) (s : Shown) (xs : List (ℕ × Event)) → lines_unless found (record s { owed = xs }) ≡ lines_unless found s
lines-told None s xs = refl
lines-told (Some why) s xs = refl

advanced-by : (owed : List (ℕ × Event)) (s : Shown) → s.owed ≡ owed → Moves s
    → first_line owed ++ future_of (advanced_by owed s) ≡ owed ++ lines_unless s.stop s
advanced-by [] s e m = unstopped-future s.stop s refl e m
advanced-by (x ∷ xs) s e m = ap (λ ys. x ∷ (xs ++ ys)) (lines-told s.stop s xs)

-- what is told first, and what is to come behind it, is what was to come
pub advanced-future : (s : Shown) → Moves s → first_line s.owed ++ future_of (advanced s) ≡ future_of s
advanced-future s m = advanced-by s.owed s refl m

-- ---- why the run ends

stop-from-instant : (fuel : ℕ) (p : Image) (bound : ℕ) (w : World) (found : Option Ended) → stop p bound (instant p w).0 ≡ found
    → (run_from (suc fuel) p bound w).stop ≡ stop_by found fuel p bound (instant p w).0
unfolding stop_by
stop-from-instant fuel p bound w None e = rw (e, run_from) refl
stop-from-instant fuel p bound w (Some reason) e = rw (e, run_from) refl

instant-stop : (s : Shown) (found : Option Ended) → stop s.program s.bound (instant s.program s.world).0 ≡ found
    → (instant s.program s.world).0.time ≡ s.world.time →
    stop_unless found (record (after_instant s (instant s.program s.world)) { stop = found })
    ≡ (run_from (suc (s.bound - s.world.time)) s.program s.bound s.world).stop
unfolding stop_by
instant-stop s (Some reason) e stands = sym (stop-from-instant (s.bound - s.world.time) s.program s.bound s.world (Some reason) e)
instant-stop s None e stands =
    ap (λ n. (run_from (s.bound - n) s.program s.bound (tock s.program (instant s.program s.world).0).0).stop) stands
    ∙ sym (stop-from-instant (s.bound - s.world.time) s.program s.bound s.world None e)

goes-stop : (at_instant : Bool) (s : Shown) → s.at_instant ≡ at_instant → s.stop ≡ None → Moves s
    → stop_of (goes_by at_instant s) ≡ stop_from at_instant s.program s.bound s.world
goes-stop true s at e m = instant-stop s (stop s.program s.bound (instant s.program s.world).0) refl m.stands
goes-stop false s at e m =
    rw e (ap (λ r. r.stop) (tock-run s m.quiet m.passes (m.before at e)))

unstopped-stop : (found : Option Ended) (s : Shown) → s.stop ≡ found → Moves s → stop_of (unless_stopped found s) ≡ stop_unless found s
unstopped-stop None s e m = goes-stop s.at_instant s refl e m
unstopped-stop (Some why) s e m = ap (λ found. stop_unless found s) e

stop-told : (found : Option Ended) (s : Shown) (xs : List (ℕ × Event)) → stop_unless found (record s { owed = xs }) ≡ stop_unless found s
stop-told None s xs = refl
stop-told (Some why) s xs = refl

advanced-by-stop : (owed : List (ℕ × Event)) (s : Shown) → s.owed ≡ owed → Moves s → stop_of (advanced_by owed s) ≡ stop_of s
advanced-by-stop [] s e m = unstopped-stop s.stop s refl m
advanced-by-stop (x ∷ xs) s e m = stop-told s.stop s xs

-- a run ends for the reason for which it would have ended
pub advanced-stop : (s : Shown) → Moves s → stop_of (advanced s) ≡ stop_of s
advanced-stop s m = advanced-by-stop s.owed s refl m

-- ---- at the opening

pub opened-future : (p : Image) (script : List (ℤ × Item)) (bound : ℕ) → (opening p script).0.time ≡ 0
    → future_of (opened p script bound) ≡ lines_of_run p script bound
unfolding lines_of_run
opened-future p script bound e =
    ap (λ n. at_tick 0 (opening p script).1 ++ (run_from (suc (bound - n)) p bound (opening p script).0).lines) e
    ∙ ap (λ n. at_tick 0 (opening p script).1 ++ (run_from (suc n) p bound (opening p script).0).lines) (let m : bound - 0 ≡ bound = omega arith in m)

pub opened-stop : (p : Image) (script : List (ℤ × Item)) (bound : ℕ) → (opening p script).0.time ≡ 0
    → stop_of (opened p script bound) ≡ stop_of_run p script bound
unfolding stop_of_run
opened-stop p script bound e =
    ap (λ n. (run_from (suc (bound - n)) p bound (opening p script).0).stop) e
    ∙ ap (λ n. (run_from (suc n) p bound (opening p script).0).stop) (let m : bound - 0 ≡ bound = omega arith in m)

-- ---- how far the end is

-- with as many lines to come, a later tick is nearer to the bound
tick-nearer : (after before bound now next there here : ℕ) → after ≡ before → next ≡ suc now → now < bound → next ≤ there → here ≡ 0 →
    after + (2 * (bound - there) + 1) < before + (2 * (bound - now) + here)
tick-nearer after before bound now next there here same e a later none = omega arith

goes-left : (at_instant : Bool) (s : Shown) → s.at_instant ≡ at_instant → s.stop ≡ None → Moves s
    → length (future_of (goes_by at_instant s)) ≡ length (future_of s) → left_of (goes_by at_instant s) < left_of s
goes-left true s at e m same =
    let stands : (instant s.program s.world).0.time ≡ s.world.time = m.stands in
    let here : flag s.at_instant ≡ 1 = ap flag at in
    let f : 2 * (s.bound - (instant s.program s.world).0.time) ≡ 2 * (s.bound - s.world.time) = ap (λ n. 2 * (s.bound - n)) stands in
    omega arith
goes-left false s at e m same =
    tick-nearer (length (future_of (goes_by false s))) (length (future_of s)) s.bound s.world.time (tock s.program s.world).0.time
    (passed s.program s.bound (tock s.program s.world).0).time (flag s.at_instant)
    same m.passes (m.before at e) (passed-later s.program s.bound (tock s.program s.world).0) (ap flag at)

unstopped-left : (found : Option Ended) (s : Shown) → s.stop ≡ found → found ≡ None → Moves s
    → length (future_of (unless_stopped found s)) ≡ length (future_of s) → left_of (unless_stopped found s) < left_of s
unstopped-left None s e n m same = goes-left s.at_instant s refl e m same
unstopped-left (Some why) s e n m same = cc

advanced-by-left : (owed : List (ℕ × Event)) (s : Shown) → s.owed ≡ owed → (owed ≡ [] → s.stop ≡ None) → Moves s → left_of (advanced_by owed s) < left_of s
advanced-by-left [] s e none m =
    let same : length (future_of (advanced_by [] s)) ≡ length (future_of s) =
    ap length (advanced-by [] s e m) ∙ ap (λ xs. length (xs ++ lines_unless s.stop s)) (sym e) in
    unstopped-left s.stop s refl (none refl) m same
advanced-by-left (x ∷ xs) s e none m =
    let told : suc (length (future_of (record s { owed = xs }))) ≡ length (future_of s) =
    ap length (advanced-by (x ∷ xs) s e m) ∙ ap (λ ys. length (ys ++ lines_unless s.stop s)) (sym e) in
    omega arith

-- each step of a run that has not stopped comes nearer to its end
pub advanced-left : (s : Shown) → (s.owed ≡ [] → s.stop ≡ None) → Moves s → left_of (advanced s) < left_of s
advanced-left s none m = advanced-by-left s.owed s refl none m

-- where nothing is owed and a stop is reached, nothing is to come
pub stopped-future : (s : Shown) (why : Ended) → s.owed ≡ [] → s.stop ≡ Some why → future_of s ≡ []
stopped-future s why o e = ap (λ xs. xs ++ lines_unless s.stop s) o ∙ ap (λ found. lines_unless found s) e

pub stopped-stop : (s : Shown) (why : Ended) → s.stop ≡ Some why → stop_of s ≡ why
stopped-stop s why e = ap (λ found. stop_unless found s) e
