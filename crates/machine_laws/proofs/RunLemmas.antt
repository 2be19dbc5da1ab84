-- The lines of a run, by induction over its fuel: an instant takes no time, and a tock takes one tick.
use Rattle.std.proofs.Common.{◌≡◌, ℕ, ℤ, zero, suc, ◌+◌, ◌≤◌, Bool, true, false, cond, eqb, ◌&&◌, List}
use Rattle.std.proofs.Common.{[], ◌∷◌, ◌++◌, Option, Some, None, refl, sym, ap, subst, ◌∙◌, arith}
use Rattle.std.proofs.lemmas.Bool.{eqb-true}
use Rattle.ann_base.specs.declared.exceptions.Raised.{Raised}
use Rattle.trace_text.specs.declared.events.Event.{Event}
use Rattle.trace_text.specs.declared.events.Event.TheVariants as line
use Rattle.trace_text.specs.declared.events.Ended.{Ended}
use Rattle.trace_text.specs.declared.events.Ended.TheVariants as why
use Rattle.trace_text.specs.Queue.{TraceLine, RisesFrom}
use Rattle.profile_image.specs.declared.image.Image.{Image}
use Rattle.profile_image.specs.declared.script_items.Item.{Item}
use Rattle.profile_machine.specs.declared.world.World.{World}
use Rattle.ann_base.specs.Lists.{is_empty}
use Rattle.profile_machine.specs.Instant.{instant}
use Rattle.profile_machine.specs.Run.{Ran, opening, tock, stop, stop_by_end, stop_by_stuck, stop_by_bound, at_tick, stopped, then_runs, run_from, run, run_of}
use Rattle.std.specs.Option.{option_or}
use Rattle.machine_laws.specs.RunLaws.{AllUpTo, NoneEnds, EndsAt}
use Rattle.machine_laws.specs.LineKinds.{AllAre, is_no_end}
use Rattle.machine_laws.proofs.LineLemmas.{AllAre-append, instant-no_end, tock-no_end-lines, opening-no_end}
use Rattle.machine_laws.specs.Reached.{Comes, opened, ticked, Reached, before, behind}
use Rattle.machine_laws.proofs.TimeLemmas.{instants_take_no_time, tocks_take_one_tick, opening_now}

-- ---- why a run stops

-- the test of the bound says whether now is the bound
bound-reached : (b : Bool) → cond b (Some why.Bound) None ≡ None → b ≡ false
bound-reached true e = cc
bound-reached false e = refl

later-none : (a b : Option Ended) → option_or a b ≡ None → b ≡ None
later-none (Some reason) b e = cc
later-none None b e = e

going_on-below : (p : Image) (bound : ℕ) (w : World) → stop p bound w ≡ None → eqb w.time bound ≡ false
going_on-below p bound w e =
    bound-reached (eqb w.time bound)
    (later-none (stop_by_stuck w) (stop_by_bound bound w) (later-none (stop_by_end p w.ended) (option_or (stop_by_stuck w) (stop_by_bound bound w)) e))

-- a run that goes on stands below the bound
pub below_bound : (p : Image) (bound : ℕ) (w : World) → stop p bound w ≡ None → w.time ≤ bound → suc w.time ≤ bound
below_bound p bound w e a = let test : eqb w.time bound ≡ false = going_on-below p bound w e in grind arith

-- only the test of the bound gives the bound as the reason
by_end-other : (p : Image) (ended : Option (Option Raised)) → stop_by_end p ended ≡ Some why.Bound → ⊥
by_end-other p None e = cc
by_end-other p (Some None) e = cc
by_end-other p (Some (Some raised)) e = cc

by_stuck-other : (b : Bool) → cond b (Some why.Stuck) None ≡ Some why.Bound → ⊥
by_stuck-other true e = cc
by_stuck-other false e = cc

by_bound-test : (b : Bool) → cond b (Some why.Bound) None ≡ Some why.Bound → b ≡ true
by_bound-test true e = refl
by_bound-test false e = cc

option_or-later : (a b : Option Ended) (reason : Ended) → (a ≡ Some reason → ⊥) → option_or a b ≡ Some reason → b ≡ Some reason
option_or-later (Some other) b reason f e = absurd (f e)
option_or-later None b reason f e = e

pub stop-bound : (p : Image) (bound : ℕ) (w : World) → stop p bound w ≡ Some why.Bound → w.time ≡ bound
stop-bound p bound w e =
    eqb-true w.time bound (by_bound-test (eqb w.time bound)
    (option_or-later (stop_by_stuck w) (stop_by_bound bound w) why.Bound (by_stuck-other (is_empty w.places && is_empty w.appointments && is_empty w.script))
    (option_or-later (stop_by_end p w.ended) (option_or (stop_by_stuck w) (stop_by_bound bound w)) why.Bound (by_end-other p w.ended) e)))

-- ---- lists of lines

RisesFrom-less : (m n : ℕ) (xs : List TraceLine) → m ≤ n → RisesFrom n xs → RisesFrom m xs
RisesFrom-less m n [] a h = tt
RisesFrom-less m n (x ∷ xs) a h = (omega (arith, h.0), h.1)

RisesFrom-at_tick : (m n : ℕ) (events : List Event) → m ≤ n → RisesFrom m (at_tick n events)
RisesFrom-at_tick m n [] a = tt
RisesFrom-at_tick m n (x ∷ xs) a = (a, RisesFrom-at_tick n n xs (omega arith))

RisesFrom-then : (m n : ℕ) (events : List Event) (rest : List TraceLine) → m ≤ n → RisesFrom n rest → RisesFrom m (at_tick n events ++ rest)
RisesFrom-then m n [] rest a h = RisesFrom-less m n rest a h
RisesFrom-then m n (x ∷ xs) rest a h = (a, RisesFrom-then n n xs rest (omega arith) h)

AllUpTo-at_tick : (bound n : ℕ) (events : List Event) → n ≤ bound → AllUpTo bound (at_tick n events)
AllUpTo-at_tick bound n [] a = tt
AllUpTo-at_tick bound n (x ∷ xs) a = (a, AllUpTo-at_tick bound n xs a)

AllUpTo-then : (bound n : ℕ) (events : List Event) (rest : List TraceLine) → n ≤ bound → AllUpTo bound rest → AllUpTo bound (at_tick n events ++ rest)
AllUpTo-then bound n [] rest a h = h
AllUpTo-then bound n (x ∷ xs) rest a h = (a, AllUpTo-then bound n xs rest a h)

NoneEnds-at_tick : (n : ℕ) (events : List Event) → AllAre is_no_end events → NoneEnds (at_tick n events)
NoneEnds-at_tick n [] a = tt
NoneEnds-at_tick n (x ∷ xs) a = (a.0, NoneEnds-at_tick n xs a.1)

NoneEnds-then : (n : ℕ) (events : List Event) (rest : List TraceLine) → AllAre is_no_end events → NoneEnds rest → NoneEnds (at_tick n events ++ rest)
NoneEnds-then n [] rest a h = h
NoneEnds-then n (x ∷ xs) rest a h = (a.0, NoneEnds-then n xs rest a.1 h)

pub at_tick-append : (n : ℕ) (xs ys : List Event) → at_tick n (xs ++ ys) ≡ at_tick n xs ++ at_tick n ys
at_tick-append n [] ys = refl
at_tick-append n (x ∷ xs) ys = ap (λ rest. (n, x) ∷ rest) (at_tick-append n xs ys)

append-three : (xs ys zs : List TraceLine) → xs ++ (ys ++ zs) ≡ (xs ++ ys) ++ zs
append-three [] ys zs = refl
append-three (x ∷ xs) ys zs = ap (λ rest. x ∷ rest) (append-three xs ys zs)

-- ---- what is left of a run, from a tick on

record Goes (bound now : ℕ) (r : Ran) : Type 0 where
  pub rises : RisesFrom now r.lines
  pub within : AllUpTo bound r.lines
  pub ends : EndsAt bound r

stopped-goes : (bound now : ℕ) (events : List Event) (reason : Ended) → AllAre is_no_end events → now ≤ bound → (reason ≡ why.Bound → now ≡ bound)
    → Goes bound now (stopped now events reason)
stopped-goes bound now events reason n a b = record {
  rises = RisesFrom-at_tick now now (events ++ line.End reason ∷ []) (omega arith);
  within = AllUpTo-at_tick bound now (events ++ line.End reason ∷ []) a;
  ends = record {
    front = at_tick now events;
    last = now;
    shape = at_tick-append now events (line.End reason ∷ []);
    once = NoneEnds-at_tick now events n;
    at_bound = b;
  };
}

then_runs-goes : (bound now next : ℕ) (events : List Event) (rest : Ran) → AllAre is_no_end events → now ≤ bound → now ≤ next → Goes bound next rest
    → Goes bound now (then_runs now events rest)
then_runs-goes bound now next events rest n a b h = record {
  rises = RisesFrom-then now now events rest.lines (omega arith) (RisesFrom-less now next rest.lines b h.rises);
  within = AllUpTo-then bound now events rest.lines a h.within;
  ends = record {
    front = at_tick now events ++ h.ends.front;
    last = h.ends.last;
    shape = ap (λ xs. at_tick now events ++ xs) h.ends.shape ∙ append-three (at_tick now events) h.ends.front ((h.ends.last, line.End rest.stop) ∷ []);
    once = NoneEnds-then now events h.ends.front n h.ends.once;
    at_bound = h.ends.at_bound;
  };
}

-- one instant, what follows it, and what is left of the run
unfoldable pub turn : ℕ → World × List Event → World × List Event → Ran → Option Ended → Ran
turn now i t rest (Some reason) = stopped now i.1 reason
turn now i t rest None = then_runs now (i.1 ++ t.1) rest

turn-goes : (bound now next : ℕ) (i t : World × List Event) (rest : Ran) (reason : Option Ended) → AllAre is_no_end i.1 → AllAre is_no_end t.1 → now ≤ bound
    → now ≤ next → (reason ≡ Some why.Bound → now ≡ bound) → (reason ≡ None → Goes bound next rest) → Goes bound now (turn now i t rest reason)
unfolding turn
turn-goes bound now next i t rest (Some reason) n l a b k h = stopped-goes bound now i.1 reason n a (λ e. k (ap Some e))
turn-goes bound now next i t rest None n l a b k h = then_runs-goes bound now next (i.1 ++ t.1) rest (AllAre-append is_no_end i.1 t.1 n l) a b (h refl)

turn-rises : (now next : ℕ) (i t : World × List Event) (rest : Ran) (reason : Option Ended) → now ≤ next → RisesFrom next rest.lines
    → RisesFrom now (turn now i t rest reason).lines
unfolding turn
turn-rises now next i t rest (Some reason) a h = RisesFrom-at_tick now now (i.1 ++ line.End reason ∷ []) (omega arith)
turn-rises now next i t rest None a h = RisesFrom-then now now (i.1 ++ t.1) rest.lines (omega arith) (RisesFrom-less now next rest.lines a h)

-- the ticks of what is left do not fall, with any fuel
pub run_from-rises : (fuel : ℕ) (p : Image) (bound : ℕ) (w : World) → RisesFrom w.time (run_from fuel p bound w).lines
unfolding turn
run_from-rises zero p bound w = RisesFrom-at_tick w.time w.time (line.End why.Bound ∷ []) (omega arith)
run_from-rises (suc fuel) p bound w =
    let i = instant p w in
    let t = tock p i.0 in
    let later : t.0.time ≡ suc w.time = tocks_take_one_tick p i.0 ∙ ap (λ n. suc n) (instants_take_no_time p w) in
    turn-rises w.time (suc w.time) i t (run_from fuel p bound t.0) (stop p bound i.0) (omega arith)
    (subst (λ n. RisesFrom n (run_from fuel p bound t.0).lines) later (run_from-rises fuel p bound t.0))

run_from-goes : (fuel : ℕ) (p : Image) (bound : ℕ) (w : World) → w.time ≤ bound → fuel + w.time ≡ suc bound → Goes bound w.time (run_from fuel p bound w)
unfolding turn
run_from-goes zero p bound w a b = absurd (omega arith)
run_from-goes (suc fuel) p bound w a b =
    let i = instant p w in
    let t = tock p i.0 in
    let same : i.0.time ≡ w.time = instants_take_no_time p w in
    let later : t.0.time ≡ suc w.time = tocks_take_one_tick p i.0 ∙ ap (λ n. suc n) same in
    turn-goes bound w.time (suc w.time) i t (run_from fuel p bound t.0) (stop p bound i.0) (instant-no_end p w) (tock-no_end-lines p i.0) a (omega arith)
    (λ e. sym same ∙ stop-bound p bound i.0 e)
    (λ e. let below : suc i.0.time ≤ bound = below_bound p bound i.0 e (omega arith) in
    subst (λ n. Goes bound n (run_from fuel p bound t.0)) later (run_from-goes fuel p bound t.0 (omega arith) (omega arith)))

run-goes : (p : Image) (script : List (ℤ × Item)) (bound : ℕ) → Goes bound 0 (run p script bound)
run-goes p script bound =
    let o = opening p script in
    let start : o.0.time ≡ 0 = opening_now p script in
    then_runs-goes bound 0 0 o.1 (run_from (suc bound) p bound o.0) (opening-no_end p script) (omega arith) (omega arith)
    (subst (λ n. Goes bound n (run_from (suc bound) p bound o.0)) start (run_from-goes (suc bound) p bound o.0 (omega arith) (omega arith)))

-- ---- the laws

pub lines_stay_within : (p : Image) (script : List (ℤ × Item)) (bound : ℕ) → AllUpTo bound (run_of p script bound)
lines_stay_within p script bound = (run-goes p script bound).within

pub ticks_never_fall : (p : Image) (script : List (ℤ × Item)) (bound : ℕ) → RisesFrom 0 (run_of p script bound)
ticks_never_fall p script bound = (run-goes p script bound).rises

pub runs_end : (p : Image) (script : List (ℤ × Item)) (bound : ℕ) → EndsAt bound (run p script bound)
runs_end p script bound = (run-goes p script bound).ends

comes-within : (p : Image) (script : List (ℤ × Item)) (bound : ℕ) (w : World) → Comes p script bound w → w.time ≤ bound
comes-within p script bound _ opened = let start : (opening p script).0.time ≡ 0 = opening_now p script in omega arith
comes-within p script bound _ (ticked w c e) =
    let i = instant p w in
    let below : suc i.0.time ≤ bound = below_bound p bound i.0 e (subst (λ n. n ≤ bound) (sym (instants_take_no_time p w)) (comes-within p script bound w c)) in
    let later : (tock p i.0).0.time ≡ suc i.0.time = tocks_take_one_tick p i.0 in
    omega arith

pub worlds_stay_within : (p : Image) (script : List (ℤ × Item)) (bound : ℕ) (w : World) → Reached p script bound w → w.time ≤ bound
worlds_stay_within p script bound _ (before w c) = comes-within p script bound w c
worlds_stay_within p script bound _ (behind w c) = subst (λ n. n ≤ bound) (sym (instants_take_no_time p w)) (comes-within p script bound w c)
