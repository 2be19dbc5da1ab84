-- A jump over idle ticks leaves what is left of a run as it is, and stays within the bound.
use Rattle.std.proofs.Common.{◌≡◌, ℕ, suc, ◌+◌, ◌-◌, ◌<◌, ◌≤◌, ℤ, pos, negsuc, ◌≤ℤ◌, max, Bool, true, false, cond, not}
use Rattle.std.proofs.Common.{◌&&◌, ltb, List, [], ◌∷◌, Option, Some, None, is_none, refl, sym, subst, ap, ◌∙◌, arith}
use Rattle.std.proofs.lemmas.Int.{ints}
use Rattle.std.proofs.lemmas.Bool.{ltb-true, ltb-false}
use Rattle.profile_image.specs.declared.image.Image.{Image}
use Rattle.profile_image.specs.declared.script_items.Item.{Item}
use Rattle.profile_machine.specs.declared.world.World.{World}
use Rattle.profile_machine.specs.declared.world.appointments.Appointment.{Appointment}
use Rattle.ann_base.specs.Lists.{is_empty}
use Rattle.profile_machine.specs.Run.{run_from}
use Rattle.machine_laws.specs.IdleLaws.{idle_at, NoneBefore, FirstNotBefore, IdleStretches}
use Rattle.machine_kernel.specs.Jump.{sooner, first_appointed, first_item, is_idle, jumped}

-- ---- the first tick

sooner-most : (z : ℤ) (tick : ℕ) → sooner z tick ≤ tick
sooner-most (pos at) tick = omega arith
sooner-most (negsuc before) tick = omega arith

first_appointed-most : (xs : List Appointment) (tick : ℕ) → first_appointed xs tick ≤ tick
first_appointed-most [] tick = omega arith
first_appointed-most (a ∷ rest) tick = omega (arith, first_appointed-most rest (sooner a.moment tick), sooner-most a.moment tick)

first_item-most : (xs : List (ℤ × Item)) (tick : ℕ) → first_item xs tick ≤ tick
first_item-most [] tick = omega arith
first_item-most (x ∷ rest) tick = sooner-most x.0 tick

-- what is not before a tick behind the first
sooner-none : (m : ℕ) (z : ℤ) (tick : ℕ) → 0 < m → m ≤ sooner z tick → pos m ≤ℤ z
sooner-none m (pos at) tick a h =
    let below : m ≤ at = omega arith in
    grind (arith, ints)
sooner-none m (negsuc before) tick a h = absurd (omega (arith, a, h))

first_appointed-none : (m : ℕ) (xs : List Appointment) (tick : ℕ) → 0 < m → m ≤ first_appointed xs tick → NoneBefore m xs
first_appointed-none m [] tick a h = tt
first_appointed-none m (x ∷ rest) tick a h =
    (sooner-none m x.moment tick a (omega (arith, h, first_appointed-most rest (sooner x.moment tick))), first_appointed-none m rest (sooner x.moment tick) a h)

first_item-none : (m : ℕ) (xs : List (ℤ × Item)) (tick : ℕ) → 0 < m → m ≤ first_item xs tick → FirstNotBefore m xs
first_item-none m [] tick a h = tt
first_item-none m (x ∷ rest) tick a h = sooner-none m x.0 tick a h

unfoldable pub first_ahead : ℕ → World → ℕ
first_ahead bound w = first_item w.script (first_appointed w.appointments bound)

pub first_ahead-appointments : (m bound : ℕ) (w : World) → 0 < m → m ≤ first_ahead bound w → NoneBefore m w.appointments
unfolding first_ahead
first_ahead-appointments m bound w a h =
    first_appointed-none m w.appointments bound a (omega (arith, h, first_item-most w.script (first_appointed w.appointments bound)))

pub first_ahead-script : (m bound : ℕ) (w : World) → 0 < m → m ≤ first_ahead bound w → FirstNotBefore m w.script
unfolding first_ahead
first_ahead-script m bound w a h = first_item-none m w.script (first_appointed w.appointments bound) a h

pub first_ahead-most : (bound : ℕ) (w : World) → first_ahead bound w ≤ bound
unfolding first_ahead
first_ahead-most bound w = omega (arith, first_item-most w.script (first_appointed w.appointments bound), first_appointed-most w.appointments bound)

-- ---- the time behind a jump

within-by : (b : Bool) (bound : ℕ) (w : World) → w.time ≤ bound → (cond b (record w { time = max w.time (first_ahead bound w) }) w).time ≤ bound
within-by true bound w a = omega (arith, a, first_ahead-most bound w)
within-by false bound w a = a

pub jumped_within : (bound : ℕ) (w : World) → w.time ≤ bound → (jumped bound w).time ≤ bound
unfolding first_ahead jumped
jumped_within bound w a = within-by (is_idle w) bound w a

later-by : (b : Bool) (n : ℕ) (w : World) → w.time ≤ (cond b (record w { time = max w.time n }) w).time
later-by true n w = omega arith
later-by false n w = omega arith

pub jumped-later : (bound : ℕ) (w : World) → w.time ≤ (jumped bound w).time
unfolding jumped
jumped-later bound w = later-by (is_idle w) (first_item w.script (first_appointed w.appointments bound)) w

-- ---- an idle world

pub none-there : {X : Type 0} (xs : List X) → is_empty xs ≡ true → xs ≡ []
none-there [] e = refl
none-there (x ∷ xs) e = cc

pub none-given : {X : Type 0} (x : Option X) → is_none x ≡ true → x ≡ None
none-given None e = refl
none-given (Some x) e = cc

-- what an idle world is
record Idle (w : World) : Type 0 where
  pub places : w.places ≡ []
  pub ran : w.ran ≡ None
  pub ended : w.ended ≡ None
  pub timers : w.timers_due ≡ []
  pub budget : w.budget_due ≡ None
  pub ahead : (is_empty w.appointments && is_empty w.script) ≡ false

idle-parts : (w : World) (places ran ended timers budget none : Bool) → is_empty w.places ≡ places → is_none w.ran ≡ ran → is_none w.ended ≡ ended
    → is_empty w.timers_due ≡ timers → is_none w.budget_due ≡ budget → (is_empty w.appointments && is_empty w.script) ≡ none
    → (places && ran && ended && timers && budget && not none) ≡ true → Idle w
idle-parts w true true true true true false a b c d e f h = record {
  places = none-there w.places a;
  ran = none-given w.ran b;
  ended = none-given w.ended c;
  timers = none-there w.timers_due d;
  budget = none-given w.budget_due e;
  ahead = f;
}
idle-parts w false ran ended timers budget none a b c d e f h = cc
idle-parts w true false ended timers budget none a b c d e f h = cc
idle-parts w true true false timers budget none a b c d e f h = cc
idle-parts w true true true false budget none a b c d e f h = cc
idle-parts w true true true true false none a b c d e f h = cc
idle-parts w true true true true true true a b c d e f h = cc

idle-world : (w : World) → is_idle w ≡ true → Idle w
idle-world w h =
    idle-parts w (is_empty w.places) (is_none w.ran) (is_none w.ended) (is_empty w.timers_due) (is_none w.budget_due)
    (is_empty w.appointments && is_empty w.script) refl refl refl refl refl refl h

same-world : (w : World) (n : ℕ) → Idle w → record w { time = n } ≡ idle_at w n
same-world w n i =
    ap (λ x. record w { time = n; places = x }) i.places
    ∙ ap (λ x. record w { time = n; places = []; ran = x }) i.ran
    ∙ ap (λ x. record w { time = n; places = []; ran = None; ended = x }) i.ended
    ∙ ap (λ x. record w { time = n; places = []; ran = None; ended = None; timers_due = x }) i.timers
    ∙ ap (λ x. record w { time = n; places = []; ran = None; ended = None; timers_due = []; budget_due = x }) i.budget

-- ---- the rest of the run

module _ (stretches : IdleStretches) (p : Image) (bound : ℕ) (w : World) where
  -- to a tick that is still to come
  stretch-run : (m : ℕ) → Idle w → w.time < m → m ≤ bound → NoneBefore m w.appointments → FirstNotBefore m w.script
      → run_from (suc (bound - m)) p bound (record w { time = m }) ≡ run_from (suc (bound - w.time)) p bound w
  stretch-run m i a b h s =
      let there : w.time + (m - w.time) ≡ m = omega arith in
      let within : w.time + (m - w.time) ≤ bound = omega arith in
      let count : (m - w.time) + suc (bound - m) ≡ suc (bound - w.time) = omega arith in
      ap (run_from (suc (bound - m)) p bound) (same-world w m i)
      ∙ ap (λ n. run_from (suc (bound - m)) p bound (idle_at w n)) (sym there)
      ∙ sym (stretches p bound w w.time (m - w.time) (suc (bound - m)) within i.ahead
      (subst (λ n. NoneBefore n w.appointments) (sym there) h) (subst (λ n. FirstNotBefore n w.script) (sym there) s))
      ∙ ap (λ n. run_from n p bound (idle_at w w.time)) count
      ∙ ap (run_from (suc (bound - w.time)) p bound) (sym (same-world w w.time i))

  -- to the first tick at which something is due, or nowhere
  first-run : (b : Bool) → ltb w.time (first_ahead bound w) ≡ b → Idle w
      → run_from (suc (bound - max w.time (first_ahead bound w))) p bound (record w { time = max w.time (first_ahead bound w) })
      ≡ run_from (suc (bound - w.time)) p bound w
  first-run true e i =
      let later : w.time < first_ahead bound w = ltb-true w.time (first_ahead bound w) e in
      let some : 0 < first_ahead bound w = omega arith in
      let itself : first_ahead bound w ≤ first_ahead bound w = omega arith in
      let same : max w.time (first_ahead bound w) ≡ first_ahead bound w = omega arith in
      ap (λ n. run_from (suc (bound - n)) p bound (record w { time = n })) same
      ∙ stretch-run (first_ahead bound w) i later (first_ahead-most bound w)
      (first_ahead-appointments (first_ahead bound w) bound w some itself) (first_ahead-script (first_ahead bound w) bound w some itself)
  first-run false e i =
      let past : first_ahead bound w ≤ w.time = ltb-false w.time (first_ahead bound w) e in
      let same : max w.time (first_ahead bound w) ≡ w.time = omega arith in
      ap (λ n. run_from (suc (bound - n)) p bound (record w { time = n })) same

  run-by : (b : Bool) → is_idle w ≡ b
      → run_from (suc (bound - (cond b (record w { time = max w.time (first_ahead bound w) }) w).time)) p bound
      (cond b (record w { time = max w.time (first_ahead bound w) }) w)
      ≡ run_from (suc (bound - w.time)) p bound w
  run-by true e = first-run (ltb w.time (first_ahead bound w)) refl (idle-world w e)
  run-by false e = refl

  pub jumped-run : run_from (suc (bound - (jumped bound w).time)) p bound (jumped bound w) ≡ run_from (suc (bound - w.time)) p bound w
  unfolding first_ahead jumped
  jumped-run = run-by (is_idle w) refl
