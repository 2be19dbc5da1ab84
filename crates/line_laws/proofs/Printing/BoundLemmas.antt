-- Two runs of one program and script under two bounds, by induction over their ticks.
use Rattle.std.proofs.Common.{◌≡◌, ℕ, ℤ, zero, suc, ◌+◌, ◌<◌, ◌≤◌, Bool, true, false, cond, eqb, ◌&&◌, List, []}
use Rattle.std.proofs.Common.{◌∷◌, ◌++◌, Option, Some, None, refl, sym, ap, subst, ◌∙◌, append_assoc, arith}
use Rattle.std.specs.Prelude.{◌≢◌, nat_le, if◌then◌else◌}
use Rattle.std.proofs.lemmas.Bool.{eqb-true}
use Rattle.ann_base.specs.declared.exceptions.Raised.{Raised}
use Rattle.trace_text.specs.declared.events.Event.{Event}
use Rattle.trace_text.specs.declared.events.Event.TheVariants as line
use Rattle.trace_text.specs.declared.events.Ended.{Ended}
use Rattle.trace_text.specs.declared.events.Ended.TheVariants as why
use Rattle.trace_text.specs.Queue.{TraceLine, RisesFrom, up_to}
use Rattle.profile_image.specs.declared.image.Image.{Image}
use Rattle.profile_image.specs.declared.script_items.Item.{Item}
use Rattle.profile_machine.specs.declared.world.World.{World}
use Rattle.ann_base.specs.Lists.{is_empty}
use Rattle.profile_machine.specs.Instant.{instant}
use Rattle.profile_machine.specs.Run.{Ran, opening, tock, stop, stop_by_end, stop_by_stuck, at_tick, stopped, then_runs, run_from, run, run_of}
use Rattle.std.specs.Option.{option_or}
use Rattle.machine_laws.proofs.TimeLemmas.{instants_take_no_time, tocks_take_one_tick, opening_now}
use Rattle.machine_laws.proofs.RunLemmas.{below_bound, run_from-rises, turn, at_tick-append}
use Rattle.machine_laws.proofs.DispatchLemmas.{up_to-later}
use Rattle.line_laws.specs.Bounds.{AreCutAt, GoesOn}

-- ---- lines of one tick

rises-sooner : (n : ℕ) (rest : List TraceLine) → RisesFrom (suc n) rest → RisesFrom n rest
rises-sooner n [] h = tt
rises-sooner n (x ∷ xs) h = (omega (arith, h.0), h.1)

rises-then : (n : ℕ) (events : List Event) (rest : List TraceLine) → RisesFrom (suc n) rest → RisesFrom n (at_tick n events ++ rest)
rises-then n [] rest h = rises-sooner n rest h
rises-then n (x ∷ xs) rest h = (omega arith, rises-then n xs rest h)

-- ---- one instant, what follows it, and what is left of the run

by_end-other : (p : Image) (ended : Option (Option Raised)) → stop_by_end p ended ≢ Some why.Bound
by_end-other p None e = cc
by_end-other p (Some None) e = cc
by_end-other p (Some (Some raised)) e = cc

by_stuck-other : (b : Bool) → cond b (Some why.Stuck) None ≢ Some why.Bound
by_stuck-other true e = cc
by_stuck-other false e = cc

-- the same lines stand before what is left of both
then-goes_on : (bound now : ℕ) (events : List Event) (short long : Ran) → GoesOn bound short long
    → GoesOn bound (then_runs now events short) (then_runs now events long)
then-goes_on bound now events short long h = record {
  ended = λ e. ap (then_runs now events) (h.ended e);
  cut = λ e. let c = h.cut e in record {
    front = at_tick now events ++ c.front;
    rest = c.rest;
    short_is = ap (λ xs. at_tick now events ++ xs) c.short_is ∙ sym (append_assoc (at_tick now events) c.front ((bound, line.End why.Bound) ∷ []));
    long_is = ap (λ xs. at_tick now events ++ xs) c.long_is ∙ sym (append_assoc (at_tick now events) c.front c.rest);
    later = c.later;
  };
}

cut_end : (bound now : ℕ) (events : List Event) → now ≡ bound
    → at_tick now (events ++ line.End why.Bound ∷ []) ≡ at_tick now events ++ (bound, line.End why.Bound) ∷ []
cut_end bound now events e =
    at_tick-append now events (line.End why.Bound ∷ []) ∙ ap (λ n. at_tick now events ++ (n, line.End why.Bound) ∷ []) e

-- the bound ended the shorter one here
cut-here : (bound now : ℕ) (i t : World × List Event) (long : Ran) (at_long : Bool) → now ≡ bound → RisesFrom (suc now) long.lines
    → AreCutAt bound (stopped now i.1 why.Bound).lines (turn now i t long (cond at_long (Some why.Bound) None)).lines
unfolding turn
cut-here bound now i t long true e rises = record {
  front = at_tick now i.1;
  rest = (bound, line.End why.Bound) ∷ [];
  short_is = cut_end bound now i.1 e;
  long_is = cut_end bound now i.1 e;
  later = (omega arith, tt);
}
cut-here bound now i t long false e rises = record {
  front = at_tick now i.1;
  rest = at_tick now t.1 ++ long.lines;
  short_is = cut_end bound now i.1 e;
  long_is = ap (λ xs. xs ++ long.lines) (at_tick-append now i.1 t.1) ∙ append_assoc (at_tick now i.1) (at_tick now t.1) long.lines;
  later = subst (λ n. RisesFrom n (at_tick now t.1 ++ long.lines)) e (rises-then now t.1 long.lines rises);
}

turn-goes_on : (bound now : ℕ) (i t : World × List Event) (short long : Ran) (ended stuck : Option Ended) (at_short at_long : Bool)
    → ended ≢ Some why.Bound → stuck ≢ Some why.Bound → (at_short ≡ true → now ≡ bound) → (at_short ≡ false → at_long ≡ false)
    → RisesFrom (suc now) long.lines → (at_short ≡ false → GoesOn bound short long)
    → GoesOn bound (turn now i t short (option_or ended (option_or stuck (cond at_short (Some why.Bound) None))))
    (turn now i t long (option_or ended (option_or stuck (cond at_long (Some why.Bound) None))))
unfolding turn
turn-goes_on bound now i t short long (Some reason) stuck at_short at_long a b reached under rises onward = record {
  ended = λ e. refl;
  cut = λ e. absurd (a (ap Some e));
}
turn-goes_on bound now i t short long None (Some reason) at_short at_long a b reached under rises onward = record {
  ended = λ e. refl;
  cut = λ e. absurd (b (ap Some e));
}
turn-goes_on bound now i t short long None None true at_long a b reached under rises onward = record {
  ended = λ e. absurd (e refl);
  cut = λ e. cut-here bound now i t long at_long (reached refl) rises;
}
turn-goes_on bound now i t short long None None false true a b reached under rises onward = absurd (let e : true ≡ false = under refl in cc)
turn-goes_on bound now i t short long None None false false a b reached under rises onward = then-goes_on bound now (i.1 ++ t.1) short long (onward refl)

-- ---- what is left of two runs

below : (n bound : ℕ) → eqb n bound ≡ false → n ≤ bound → suc n ≤ bound
below n bound e a = grind arith

not_at : (n bound more : ℕ) → suc n ≤ bound → eqb n (bound + more) ≡ false
not_at n bound more a = grind arith

goes_on : (f g : ℕ) (p : Image) (bound more : ℕ) (w : World) → w.time ≤ bound → suc bound ≤ f + w.time → suc (bound + more) ≤ g + w.time
    → GoesOn bound (run_from f p bound w) (run_from g p (bound + more) w)
unfolding turn
goes_on zero g p bound more w a b c = absurd (omega arith)
goes_on (suc f) zero p bound more w a b c = absurd (omega arith)
goes_on (suc f) (suc g) p bound more w a b c =
    let i = instant p w in
    let t = tock p i.0 in
    let same : i.0.time ≡ w.time = instants_take_no_time p w in
    let later : t.0.time ≡ suc w.time = tocks_take_one_tick p i.0 ∙ ap (λ n. suc n) same in
    turn-goes_on bound w.time i t (run_from f p bound t.0) (run_from g p (bound + more) t.0) (stop_by_end p i.0.ended) (stop_by_stuck i.0) (eqb i.0.time bound)
    (eqb i.0.time (bound + more))
    (by_end-other p i.0.ended)
    (by_stuck-other (is_empty i.0.places && is_empty i.0.appointments && is_empty i.0.script))
    (λ e. sym same ∙ eqb-true i.0.time bound e)
    (λ e. not_at i.0.time bound more (below i.0.time bound e (omega arith)))
    (subst (λ n. RisesFrom n (run_from g p (bound + more) t.0).lines) later (run_from-rises g p (bound + more) t.0))
    (λ e. let room : suc i.0.time ≤ bound = below i.0.time bound e (omega arith) in goes_on f g p bound more t.0 (omega arith) (omega arith) (omega arith))

pub longer_runs_go_on : (p : Image) (script : List (ℤ × Item)) (bound more : ℕ) → GoesOn bound (run p script bound) (run p script (bound + more))
longer_runs_go_on p script bound more =
    let o = opening p script in
    let start : o.0.time ≡ 0 = opening_now p script in
    then-goes_on bound 0 o.1 (run_from (suc bound) p bound o.0) (run_from (suc (bound + more)) p (bound + more) o.0)
    (goes_on (suc bound) (suc (bound + more)) p bound more o.0 (omega arith) (omega arith) (omega arith))

-- ---- the lines before the bound

up_to-front : (tick : ℕ) (front xs : List TraceLine) → up_to tick xs ≡ [] → up_to tick (front ++ xs) ≡ up_to tick front
up_to-front tick [] xs e = e
up_to-front tick (x ∷ front) xs e = ap (λ (rest : List TraceLine). if nat_le x.0 tick then x ∷ rest else []) (up_to-front tick front xs e)

cut-same : (bound tick : ℕ) (short long : List TraceLine) → tick < bound → AreCutAt bound short long → up_to tick long ≡ up_to tick short
cut-same bound tick short long a c =
    let at_bound : RisesFrom bound ((bound, line.End why.Bound) ∷ []) = (omega arith, tt) in
    ap (up_to tick) c.long_is ∙ up_to-front tick c.front c.rest (up_to-later tick bound c.rest a c.later)
    ∙ sym (ap (up_to tick) c.short_is
    ∙ up_to-front tick c.front ((bound, line.End why.Bound) ∷ []) (up_to-later tick bound ((bound, line.End why.Bound) ∷ []) a at_bound))

by_reason : {P : Type 0} (reason : Ended) → (reason ≡ why.Bound → P) → (reason ≢ why.Bound → P) → P
by_reason why.Completed f g = g (λ e. cc)
by_reason (why.Exception name) f g = g (λ e. cc)
by_reason why.Stuck f g = g (λ e. cc)
by_reason why.Bound f g = f refl

pub bounds_change_nothing_before : (p : Image) (script : List (ℤ × Item)) (bound more tick : ℕ) → tick < bound
    → up_to tick (run_of p script (bound + more)) ≡ up_to tick (run_of p script bound)
bounds_change_nothing_before p script bound more tick a =
    let short = run p script bound in
    let long = run p script (bound + more) in
    let h = longer_runs_go_on p script bound more in
    by_reason short.stop (λ e. cut-same bound tick short.lines long.lines a (h.cut e)) (λ e. ap (λ r. up_to tick r.lines) (h.ended e))

-- ---- no run counts down to its end

turn-same : (now : ℕ) (i t : World × List Event) (first second : Ran) (reason : Option Ended) → (reason ≡ None → first ≡ second)
    → turn now i t first reason ≡ turn now i t second reason
unfolding turn
turn-same now i t first second (Some reason) h = refl
turn-same now i t first second None h = ap (then_runs now (i.1 ++ t.1)) (h refl)

same_run : (f g : ℕ) (p : Image) (bound : ℕ) (w : World) → w.time ≤ bound → suc bound ≤ f + w.time → suc bound ≤ g + w.time
    → run_from f p bound w ≡ run_from g p bound w
unfolding turn
same_run zero g p bound w a b c = absurd (omega arith)
same_run (suc f) zero p bound w a b c = absurd (omega arith)
same_run (suc f) (suc g) p bound w a b c =
    let i = instant p w in
    let t = tock p i.0 in
    let same : i.0.time ≡ w.time = instants_take_no_time p w in
    let later : t.0.time ≡ suc i.0.time = tocks_take_one_tick p i.0 in
    turn-same w.time i t (run_from f p bound t.0) (run_from g p bound t.0) (stop p bound i.0)
    (λ e. let room : suc i.0.time ≤ bound = below_bound p bound i.0 e (omega arith) in same_run f g p bound t.0 (omega arith) (omega arith) (omega arith))

pub runs_have_ticks_left : (p : Image) (script : List (ℤ × Item)) (bound more : ℕ)
    → run_from (suc bound + more) p bound (opening p script).0 ≡ run_from (suc bound) p bound (opening p script).0
runs_have_ticks_left p script bound more =
    let o = opening p script in
    let start : o.0.time ≡ 0 = opening_now p script in
    same_run (suc bound + more) (suc bound) p bound o.0 (omega arith) (omega arith) (omega arith)
