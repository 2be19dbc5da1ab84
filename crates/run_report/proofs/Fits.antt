-- What is kept of each task fits the clocks, with a line more.
use Rattle.std.proofs.Common.{◌≡◌, ◌≤◌, ◌+◌, ◌-◌, ◌&&◌, ◌||◌, ◌==◌, ℕ, Bool, true, false, if◌then◌else◌, List, []}
use Rattle.std.proofs.Common.{◌∷◌, ◌++◌, Option, Some, None, is_some, map, refl, ap, sym, subst, ◌∙◌, arith, inl, inr}
use Rattle.std.specs.List.{AllByRecursion, list_all}
use Rattle.std.specs.Option.{option_map}
use Rattle.std.proofs.lemmas.Bool.{and_parts, cases_eq, eq-eqb, eqb-true, ne_eqb}
use Rattle.ann_base.specs.declared.identities.TaskNo.{TaskNo}
use Rattle.trace_text.specs.declared.events.Created.TheVariants as created
use Rattle.trace_text.specs.declared.events.Event.{Event}
use Rattle.trace_text.specs.declared.events.Event.TheVariants.{New, Base}
use Rattle.run_report.specs.declared.tallies.Tally.{Tally}
use Rattle.run_report.specs.declared.tallies.Passing.{Passing}
use Rattle.run_report.specs.declared.clocks.Clock.{Clock}
use Rattle.run_report.specs.declared.dated.Dated.{Dated}
use Rattle.run_report.specs.Accounts.{is_lower}
use Rattle.run_report.specs.Kept.{ticks_if, streak_after, level_if, base_after}
use Rattle.run_report.specs.Clocks.{clock_of, clock_at, passed, goes_on, level_given, new_clock, with_clock, wait_level, waited_by, told_streak, tally_by_clock}
use Rattle.run_report.specs.Clocks.{tally_at, told, dated, settled, next_tally, next_waited, stepped, IsTimedBy, IsFit, HasClock, IsShown, IsQuietBy, IsQuiet}
use Rattle.run_report.proofs.Waits.{passed_at, some_mapped, minus_more, ticks_most, open_more, closed_more}
use Rattle.run_report.proofs.Waits.{after_none, after_some, chosen, other, gone_most, most_max}

-- ---- what is told stays within the ticks

told_low_by : (o : Option Clock) (tick : ℕ) (one : Dated) → one.tick ≤ tick → one.kept.tally.lower ≤ one.tick → IsTimedBy o tick one
    → (tally_by_clock o tick one).lower ≤ tick
told_low_by None tick one at lower timed = omega (arith, at, lower)
told_low_by (Some clock) tick one at lower timed = omega (arith, at, lower, timed.grown)

told_streak_by : (o : Option Clock) (tick : ℕ) (one : Dated) → one.tick ≤ tick → one.kept.tally.streak ≤ one.tick → IsTimedBy o tick one
    → told_streak o tick one ≤ tick
told_streak_by None tick one at streak timed = omega (arith, gone_most (tick - one.tick) one.kept.tally.streak, at, streak)
told_streak_by (Some clock) tick one at streak timed = elim (cases_eq (clock.waited - one.waited) (tick - one.tick)) [
  | inl same ↦ omega (arith, chosen (clock.waited - one.waited) (tick - one.tick) one.kept.tally.streak clock.streak same, at, streak)
  | inr apart ↦ let less =
      timed.broken apart in omega (arith, other (clock.waited - one.waited) (tick - one.tick) one.kept.tally.streak clock.streak apart, at, less)
]

pub told_low : (clocks : List Clock) (tick : ℕ) (one : Dated) → IsFit clocks tick one → (tally_at clocks tick one).lower ≤ tick
told_low clocks tick one fit = told_low_by (clock_at (wait_level one.kept.tally) clocks) tick one fit.at fit.lower fit.timed

pub told_short : (clocks : List Clock) (tick : ℕ) (one : Dated) → IsFit clocks tick one → (tally_at clocks tick one).streak ≤ tick
told_short clocks tick one fit = told_streak_by (clock_at (wait_level one.kept.tally) clocks) tick one fit.at fit.streak fit.timed

-- ---- ticks that pass

timed_passed : (o : Option Clock) (passing : Passing) (tick : ℕ) (one : Dated) → one.tick ≤ tick → IsTimedBy o tick one
    → IsTimedBy (option_map (passed passing) o) (tick + passing.elapsed) one
timed_passed None passing tick one at timed = tt
timed_passed (Some clock) passing tick one at timed =
    let w = is_lower passing.base (Some clock.level) in
    let d = passing.elapsed in
    let g = clock.waited - one.waited in
    let n = tick - one.tick in
    let grown_is = minus_more clock.waited (ticks_if w d) one.waited timed.from in
    let gone_is = minus_more tick d one.tick at in
    record {
      from = omega (arith, timed.from);
      grown = omega (arith, grown_is, gone_is, timed.grown, ticks_most w d);
      unbroken =
          λ e.
          subst (λ x. x ≤ streak_after d w clock.streak) (sym gone_is) (open_more g n d clock.streak w timed.grown timed.unbroken (sym grown_is ∙ e ∙ gone_is));
      broken =
          λ apart. subst (λ x. streak_after d w clock.streak ≤ x) (sym gone_is)
          (closed_more g n d clock.streak w timed.broken (λ e. apart (grown_is ∙ e ∙ sym gone_is)));
    }

clocked_passed : (level : Option ℕ) (passing : Passing) (clocks : List Clock)
    → is_some (clock_at level (map (passed passing) clocks)) ≡ is_some (clock_at level clocks)
clocked_passed level passing clocks = ap is_some (passed_at level passing clocks) ∙ some_mapped passing (clock_at level clocks)

pub fit_passed : (clocks : List Clock) (passing : Passing) (last tick : ℕ) (one : Dated) → tick ≡ last + passing.elapsed → IsFit clocks last one
    → IsFit (map (passed passing) clocks) tick one
fit_passed clocks passing last tick one gone fit = record {
  at = omega (arith, gone, fit.at);
  lower = fit.lower;
  streak = fit.streak;
  longest = fit.longest;
  clocked = clocked_passed one.kept.tally.base passing clocks ∙ fit.clocked;
  timed = subst (λ n. IsTimedBy (clock_at (wait_level one.kept.tally) (map (passed passing) clocks)) n one) (sym gone)
      (subst (λ o. IsTimedBy o (last + passing.elapsed) one) (sym (passed_at (wait_level one.kept.tally) passing clocks))
      (timed_passed (clock_at (wait_level one.kept.tally) clocks) passing last one fit.at fit.timed));
}

-- ---- a task that is told at a tick

timed_now : (o : Option Clock) (tally : Tally) (waited tick : ℕ) (one : Dated) → waited ≡ waited_by o → IsTimedBy o tick (dated tally waited tick one)
timed_now None tally waited tick one e = tt
timed_now (Some clock) tally waited tick one e = record {
  from = omega (arith, e);
  grown = omega (arith, e);
  unbroken = λ _. omega arith;
  broken = λ apart. absurd (apart (omega (arith, e)));
}

pub fit_dated : (clocks : List Clock) (tally : Tally) (waited tick : ℕ) (one : Dated) → waited ≡ waited_by (clock_at (wait_level tally) clocks)
    → tally.lower ≤ tick → tally.streak ≤ tick → tally.streak ≤ tally.longest → is_some (clock_at tally.base clocks) ≡ true
    → IsFit clocks tick (dated tally waited tick one)
fit_dated clocks tally waited tick one e lower streak longest clocked = record {
  at = omega arith;
  lower = lower;
  streak = streak;
  longest = longest;
  clocked = clocked;
  timed = timed_now (clock_at (wait_level tally) clocks) tally waited tick one e;
}

pub fit_settled : (clocks : List Clock) (last : ℕ) (one : Dated) → IsFit clocks last one → IsFit clocks last (settled clocks last one)
fit_settled clocks last one fit =
    let tally = tally_at clocks last one in
    fit_dated clocks tally (waited_by (clock_at (wait_level one.kept.tally) clocks)) last one refl (told_low clocks last one fit)
    (told_short clocks last one fit) (most_max one.kept.tally.longest tally.streak) fit.clocked

streak_most : (d q : ℕ) (w : Bool) → streak_after d w q ≤ q + d
streak_most d q true = elim (cases_eq d 0) [
  | inl none ↦ omega (arith, after_none d q true none)
  | inr some ↦ omega (arith, after_some d q true some)
]
streak_most d q false = elim (cases_eq d 0) [
  | inl none ↦ omega (arith, after_none d q false none)
  | inr some ↦ omega (arith, after_some d q false some)
]

-- the base priority that a task has behind a line has a clock
level_known : (b : Bool) (level : ℕ) (base : Option ℕ) (clocks : List Clock) → is_some (clock_at (Some level) clocks) ≡ true
    → is_some (clock_at base clocks) ≡ true → is_some (clock_at (level_if b level base) clocks) ≡ true
level_known true level base clocks given own = given
level_known false level base clocks given own = own

base_known : (task : TaskNo) (base : Option ℕ) (event : Event) (clocks : List Clock) → HasClock clocks (level_given event)
    → is_some (clock_at base clocks) ≡ true → is_some (clock_at (base_after task base event) clocks) ≡ true
base_known task base (New (created.Task other) name level) clocks given own = level_known (task.0 == other.0) level base clocks given own
base_known task base (Base other level) clocks given own = level_known (task.0 == other.0) level base clocks given own
base_known task base event clocks given own = own

pub given_passed : (level : Option ℕ) (passing : Passing) (clocks : List Clock) → HasClock clocks level → HasClock (map (passed passing) clocks) level
given_passed None passing clocks given = tt
given_passed (Some level) passing clocks given = clocked_passed (Some level) passing clocks ∙ given

pub fit_stepped : (clocks : List Clock) (passing : Passing) (last tick : ℕ) (event : Event) (one : Dated) → tick ≡ last + passing.elapsed
    → HasClock clocks (level_given event) → IsFit clocks last one → IsFit (map (passed passing) clocks) tick (stepped clocks last passing tick event one)
fit_stepped clocks passing last tick event one gone given fit =
    let next = next_tally clocks last passing tick event one in
    let before = tally_at clocks last one in
    fit_dated (map (passed passing) clocks) next (next_waited clocks passing next) tick one
    (ap waited_by (sym (passed_at (wait_level next) passing clocks)))
    (omega (arith, told_low clocks last one fit, ticks_most (is_some before.since && is_lower passing.base before.base) passing.elapsed, gone))
    (omega (arith, told_short clocks last one fit, streak_most passing.elapsed before.streak (is_some before.since && is_lower passing.base before.base), gone))
    (most_max before.longest next.streak)
    (base_known one.kept.task one.kept.tally.base event (map (passed passing) clocks) (given_passed (level_given event) passing clocks given)
    (clocked_passed one.kept.tally.base passing clocks ∙ fit.clocked))

-- ---- a clock more

end_by : (b : Bool) (first : Clock) (here rest : Option Clock) → is_some (if b then Some first else here) ≡ true → (is_some here ≡ true → rest ≡ here)
    → (if b then Some first else rest) ≡ (if b then Some first else here)
end_by true first here rest known same = refl
end_by false first here rest known same = same known

of_end : (level : ℕ) (clocks more : List Clock) → is_some (clock_of level clocks) ≡ true → clock_of level (clocks ++ more) ≡ clock_of level clocks
of_end level [] more known = cc
of_end level (clock ∷ clocks) more known =
    end_by (clock.level == level) clock (clock_of level clocks) (clock_of level (clocks ++ more)) known (of_end level clocks more)

at_end : (level : Option ℕ) (clocks more : List Clock) → is_some (clock_at level clocks) ≡ true → clock_at level (clocks ++ more) ≡ clock_at level clocks
at_end None clocks more known = refl
at_end (Some level) clocks more known = of_end level clocks more known

with_by : (b : Bool) (own : ℕ) (level : Option ℕ) (clocks : List Clock) → is_some (clock_at level clocks) ≡ true
    → clock_at level (if b then clocks else clocks ++ new_clock own ∷ []) ≡ clock_at level clocks
with_by true own level clocks known = refl
with_by false own level clocks known = at_end level clocks (new_clock own ∷ []) known

pub with_same : (given level : Option ℕ) (clocks : List Clock) → is_some (clock_at level clocks) ≡ true
    → clock_at level (with_clock given clocks) ≡ clock_at level clocks
with_same None level clocks known = refl
with_same (Some own) level clocks known = with_by (is_some (clock_of own clocks)) own level clocks known

wait_by : (b : Bool) (base : Option ℕ) (given : Option ℕ) (clocks : List Clock) → is_some (clock_at base clocks) ≡ true
    → clock_at (if b then base else None) (with_clock given clocks) ≡ clock_at (if b then base else None) clocks
wait_by true base given clocks known = with_same given base clocks known
wait_by false base given clocks known = refl

pub wait_same : (given : Option ℕ) (clocks : List Clock) (last : ℕ) (one : Dated) → IsFit clocks last one
    → clock_at (wait_level one.kept.tally) (with_clock given clocks) ≡ clock_at (wait_level one.kept.tally) clocks
wait_same given clocks last one fit = wait_by (is_some one.kept.tally.since) one.kept.tally.base given clocks fit.clocked

pub told_with : (given : Option ℕ) (clocks : List Clock) (last : ℕ) (one : Dated) → IsFit clocks last one
    → told (with_clock given clocks) last one ≡ told clocks last one
told_with given clocks last one fit = ap (λ o. record one.kept { tally = tally_by_clock o last one }) (wait_same given clocks last one fit)

pub fit_with : (given : Option ℕ) (clocks : List Clock) (last : ℕ) (one : Dated) → IsFit clocks last one → IsFit (with_clock given clocks) last one
fit_with given clocks last one fit = record {
  at = fit.at;
  lower = fit.lower;
  streak = fit.streak;
  longest = fit.longest;
  clocked = ap is_some (with_same given one.kept.tally.base clocks fit.clocked) ∙ fit.clocked;
  timed = subst (λ o. IsTimedBy o last one) (sym (wait_same given clocks last one fit)) fit.timed;
}

found_if : (b : Bool) (first : Clock) (rest : Option Clock) → is_some rest ≡ true → is_some (if b then Some first else rest) ≡ true
found_if true first rest known = refl
found_if false first rest known = known

new_found : (level : ℕ) (clocks : List Clock) → is_some (clock_of level (clocks ++ new_clock level ∷ [])) ≡ true
new_found level [] = ap (λ b. is_some (if b then Some (new_clock level) else None)) (eq-eqb level level refl)
new_found level (clock ∷ clocks) = found_if (clock.level == level) clock (clock_of level (clocks ++ new_clock level ∷ [])) (new_found level clocks)

given_by : (b : Bool) (level : ℕ) (clocks : List Clock) → is_some (clock_of level clocks) ≡ b
    → is_some (clock_of level (if b then clocks else clocks ++ new_clock level ∷ [])) ≡ true
given_by true level clocks e = e
given_by false level clocks e = new_found level clocks

pub given_with : (given : Option ℕ) (clocks : List Clock) → HasClock (with_clock given clocks) given
given_with None clocks = tt
given_with (Some level) clocks = given_by (is_some (clock_of level clocks)) level clocks refl

-- ---- no waiting ends that is not told

small_streak : (g n s q l : ℕ) → g ≤ n → (g ≡ n → n ≤ q) → q ≡ 0 → s ≤ l → (if g == n then s + n else q) ≤ l
small_streak g n s q l fits whole none less = elim (cases_eq g n) [
  | inl same ↦ let low = whole same in omega (arith, chosen g n s q same, low, none, less)
  | inr apart ↦ omega (arith, other g n s q apart, none)
]

quiet_by : (a b c : Bool) → (a || b || c) ≡ true → a ≡ false → b ≡ false → c ≡ true
quiet_by true b c any not_a not_b = cc
quiet_by false true c any not_a not_b = cc
quiet_by false false c any not_a not_b = any

quiet_clock : (o : Option Clock) (passing : Passing) (tick : ℕ) (one : Dated) → IsTimedBy o tick one → one.kept.tally.streak ≤ one.kept.tally.longest
    → ((clock : Clock) → o ≡ Some clock → goes_on passing clock ≡ true) → IsQuietBy o passing tick one
quiet_clock None passing tick one timed less on = tt
quiet_clock (Some clock) passing tick one timed less on = λ some ends.
    let none =
    eqb-true clock.streak 0
    (quiet_by (passing.elapsed == 0) (is_lower passing.base (Some clock.level)) (clock.streak == 0) (on clock refl)
    (ne_eqb passing.elapsed 0 (λ e. omega (arith, some, e))) ends) in
    small_streak (clock.waited - one.waited) (tick - one.tick) one.kept.tally.streak clock.streak one.kept.tally.longest timed.grown timed.unbroken none less

on_of_by : (b : Bool) (passing : Passing) (first clock : Clock) (rest : Option Clock) → goes_on passing first ≡ true
    → (rest ≡ Some clock → goes_on passing clock ≡ true) → (if b then Some first else rest) ≡ Some clock → goes_on passing clock ≡ true
on_of_by true passing first clock rest on more e = let same : first ≡ clock = cc in subst (λ c. goes_on passing c ≡ true) same on
on_of_by false passing first clock rest on more e = more e

on_of : (level : ℕ) (passing : Passing) (clocks : List Clock) → list_all (goes_on passing) clocks ≡ true → (clock : Clock) → clock_of level clocks ≡ Some clock
    → goes_on passing clock ≡ true
on_of level passing [] all clock e = cc
on_of level passing (first ∷ clocks) all clock e =
    let parts = and_parts (goes_on passing first) (list_all (goes_on passing) clocks) all in
    on_of_by (first.level == level) passing first clock (clock_of level clocks) parts.0 (on_of level passing clocks parts.1 clock) e

on_at : (level : Option ℕ) (passing : Passing) (clocks : List Clock) → list_all (goes_on passing) clocks ≡ true → (clock : Clock)
    → clock_at level clocks ≡ Some clock → goes_on passing clock ≡ true
on_at None passing clocks all clock e = cc
on_at (Some level) passing clocks all clock e = on_of level passing clocks all clock e

pub quiet_on : (clocks : List Clock) (passing : Passing) (last : ℕ) (one : Dated) → list_all (goes_on passing) clocks ≡ true → IsFit clocks last one
    → IsQuiet clocks passing last one
quiet_on clocks passing last one all fit =
    quiet_clock (clock_at (wait_level one.kept.tally) clocks) passing last one fit.timed fit.longest (on_at (wait_level one.kept.tally) passing clocks all)

quiet_told : (o : Option Clock) (passing : Passing) (tally : Tally) (waited last : ℕ) (one : Dated) → waited ≡ waited_by o → tally.streak ≤ tally.longest
    → IsQuietBy o passing last (dated tally waited last one)
quiet_told None passing tally waited last one e less = tt
quiet_told (Some clock) passing tally waited last one e less = λ _ _.
    omega (arith, chosen (clock.waited - waited) (last - last) tally.streak clock.streak (omega (arith, e)), less)

pub quiet_settled : (clocks : List Clock) (passing : Passing) (last : ℕ) (one : Dated) → IsQuiet clocks passing last (settled clocks last one)
quiet_settled clocks passing last one =
    let tally = tally_at clocks last one in
    quiet_told (clock_at (wait_level one.kept.tally) clocks) passing tally (waited_by (clock_at (wait_level one.kept.tally) clocks)) last one refl
    (most_max one.kept.tally.longest tally.streak)

-- ---- what the clocks show

pub shown_passed : (passing : Passing) (last tick : ℕ) (clocks : List Clock) → tick ≡ last + passing.elapsed → AllByRecursion (IsShown last) clocks
    → AllByRecursion (IsShown tick) (map (passed passing) clocks)
shown_passed passing last tick [] gone shown = tt
shown_passed passing last tick (clock ∷ clocks) gone shown =
    let w = is_lower passing.base (Some clock.level) in (
      record {
        waited = omega (arith, shown.0.waited, ticks_most w passing.elapsed, gone);
        streak = omega (arith, shown.0.streak, streak_most passing.elapsed clock.streak w, gone);
      },
      shown_passed passing last tick clocks gone shown.1,
    )

shown_end : (tick level : ℕ) (clocks : List Clock) → AllByRecursion (IsShown tick) clocks → AllByRecursion (IsShown tick) (clocks ++ new_clock level ∷ [])
shown_end tick level [] shown = (record { waited = omega arith; streak = omega arith }, tt)
shown_end tick level (clock ∷ clocks) shown = (shown.0, shown_end tick level clocks shown.1)

shown_by : (b : Bool) (tick level : ℕ) (clocks : List Clock) → AllByRecursion (IsShown tick) clocks
    → AllByRecursion (IsShown tick) (if b then clocks else clocks ++ new_clock level ∷ [])
shown_by true tick level clocks shown = shown
shown_by false tick level clocks shown = shown_end tick level clocks shown

pub shown_with : (given : Option ℕ) (tick : ℕ) (clocks : List Clock) → AllByRecursion (IsShown tick) clocks
    → AllByRecursion (IsShown tick) (with_clock given clocks)
shown_with None tick clocks shown = shown
shown_with (Some level) tick clocks shown = shown_by (is_some (clock_of level clocks)) tick level clocks shown

shown_if : (b : Bool) (most : ℕ) (first clock : Clock) (rest : Option Clock) → IsShown most first → (rest ≡ Some clock → IsShown most clock)
    → (if b then Some first else rest) ≡ Some clock → IsShown most clock
shown_if true most first clock rest shown more e = let same : first ≡ clock = cc in subst (IsShown most) same shown
shown_if false most first clock rest shown more e = more e

shown_of : (level most : ℕ) (clocks : List Clock) (clock : Clock) → AllByRecursion (IsShown most) clocks → clock_of level clocks ≡ Some clock
    → IsShown most clock
shown_of level most [] clock shown e = cc
shown_of level most (first ∷ clocks) clock shown e =
    shown_if (first.level == level) most first clock (clock_of level clocks) shown.0 (shown_of level most clocks clock shown.1) e

pub shown_at : (level : Option ℕ) (most : ℕ) (clocks : List Clock) (clock : Clock) → AllByRecursion (IsShown most) clocks → clock_at level clocks ≡ Some clock
    → IsShown most clock
shown_at None most clocks clock shown e = cc
shown_at (Some level) most clocks clock shown e = shown_of level most clocks clock shown e
