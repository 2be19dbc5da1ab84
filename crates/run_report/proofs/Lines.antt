-- A line, on all that is kept.
use Rattle.std.proofs.Common.{◌≡◌, ◌≤◌, ◌+◌, ◌-◌, ◌&&◌, ◌||◌, ◌==◌, ℕ, zero, suc, max, nat_le, Bool, true, false, not, if◌then◌else◌, List, []}
use Rattle.std.proofs.Common.{◌∷◌, ◌++◌, Option, Some, None, is_some, map, length, slice_get, refl, ap, sym, subst, ◌∙◌, arith, append-nil}
use Rattle.std.specs.Prelude.{unwrap_or}
use Rattle.std.specs.List.{AllByRecursion, list_all}
use Rattle.std.specs.Ordering.{nat_cmp}
use Rattle.std.specs.BTreeMap.{insert_entry}
use Rattle.std.specs.Map.{keys_of}
use Rattle.std.proofs.lemmas.Bool.{and_parts, eq-eqb, leb-true, not-true, or_right}
use Rattle.std.proofs.lemmas.List.{map-append}
use Rattle.ann_base.specs.declared.identities.TaskNo.{TaskNo}
use Rattle.trace_text.specs.declared.lines.TheConstants.{LAST_TICK}
use Rattle.trace_text.specs.declared.events.Who.TheVariants as subject
use Rattle.trace_text.specs.declared.events.Created.TheVariants as created
use Rattle.trace_text.specs.declared.events.Event.{Event}
use Rattle.trace_text.specs.declared.events.Event.TheVariants.{New, Base}
use Rattle.trace_text.specs.Queue.{somebody_eq}
use Rattle.trace_text.specs.Laws.{has, is_subject_formed, is_formed_next}
use Rattle.trace_lines.specs.Seen.{Seen, see_line, kept_bases, shape_of, is_formed_after}
use Rattle.trace_lines.proofs.LevelLookups.{has-insert_entry}
use Rattle.run_report.specs.declared.tallies.Tally.{Tally}
use Rattle.run_report.specs.declared.tallies.Passing.{Passing}
use Rattle.run_report.specs.declared.tallies.Move.{Move}
use Rattle.run_report.specs.declared.tallies.Move.TheVariants.{Enters, Leaves, Stays}
use Rattle.run_report.specs.declared.clocks.Clock.{Clock}
use Rattle.run_report.specs.declared.dated.Dated.{Dated}
use Rattle.run_report.specs.declared.report.Kept.{Kept}
use Rattle.run_report.specs.declared.report.TheConstants.{MOST_TRACED_TASKS}
use Rattle.run_report.specs.Kept.{fresh, ticks_if, is_put_off, passing_in, response_at, move_of, kept_after, newly_kept, Reported, report_line, account_in}
use Rattle.run_report.specs.Clocks.{passed, goes_on, level_given, with_clock, tally_at, told, settled, made_quiet, stepped}
use Rattle.run_report.specs.Clocks.{number_in, named_by, is_number, created_number, newly_dated, place_in, noted, is_told, followed}
use Rattle.run_report.specs.Clocks.{HasClock, IsKnown, IsFit, IsWithin, IsShown, IsQuiet, IsSame, IsReady, IsFound, IsKept, IsReport}
use Rattle.run_report.proofs.Waits.{ticks_most, told_on, told_stepped, told_settled, waits_same, gone_zero, minus_itself}
use Rattle.run_report.proofs.Fits.{fit_passed, fit_stepped, fit_settled, told_with, fit_with, given_with}
use Rattle.run_report.proofs.Fits.{given_passed, quiet_on, quiet_settled, shown_passed, shown_with}
use Rattle.run_report.proofs.Places.{placed_mapped, once_mapped, task_followed, once_end, found_end, noted_there}

-- ---- no figure passes its type

response_most : (move : Move) (tick : ℕ) (since : Option ℕ) → unwrap_or (response_at move tick since) 0 ≤ tick
response_most (Enters end) tick since = omega arith
response_most Leaves tick None = omega arith
response_most Leaves tick (Some since) = omega arith
response_most Stays tick since = omega arith

within_more : (most more : ℕ) (one : Dated) → most ≤ more → IsWithin most one → IsWithin more one
within_more most more one less within = record {
  jobs = omega (arith, less, within.jobs);
  sum = omega (arith, less, within.sum);
  run = omega (arith, less, within.run);
  preempted = omega (arith, less, within.preempted);
}

within_stepped : (clocks : List Clock) (last : ℕ) (passing : Passing) (tick : ℕ) (event : Event) (one : Dated) (most : ℕ) → passing.elapsed ≤ LAST_TICK
    → tick ≤ LAST_TICK → IsWithin most one → IsWithin (most + LAST_TICK) (stepped clocks last passing tick event one)
within_stepped clocks last passing tick event one most few small within =
    let tally = tally_at clocks last one in
    let response = response_at (move_of one.kept.task event) tick tally.since in
    record {
      jobs = omega (arith, within.jobs, ticks_most (is_some response) 1);
      sum = omega (arith, within.sum, response_most (move_of one.kept.task event) tick tally.since, small);
      run = omega (arith, within.run, ticks_most (somebody_eq passing.runner (Some (subject.Task one.kept.task))) passing.elapsed, few);
      preempted = omega (arith, within.preempted, ticks_most (is_put_off one.kept.task passing.runner tick event tally) 1);
    }

-- ---- what is told behind a line

or_by : (a b : Bool) → (a || (b || false)) ≡ false → (b ≡ false) × (a ≡ false)
or_by true b e = cc
or_by false true e = cc
or_by false false e = (refl, refl)

told_by_test : (clocks : List Clock) (passing : Passing) (last tick : ℕ) (event : Event) (one : Dated) (b : Bool) → is_told passing event one.kept.task.0 ≡ b
    → tick ≡ last + passing.elapsed → IsFit clocks last one → IsQuiet clocks passing last one
    → told (map (passed passing) clocks) tick (if b then stepped clocks last passing tick event one else one)
    ≡ kept_after passing tick event (told clocks last one)
told_by_test clocks passing last tick event one true e gone fit quiet = told_stepped clocks passing last tick event one
told_by_test clocks passing last tick event one false e gone fit quiet =
    let parts = or_by (is_number (number_in passing.runner) one.kept.task.0) (is_number (named_by event) one.kept.task.0) e in
    told_on clocks passing last tick event one gone fit quiet parts.0 parts.1

told_followed : (clocks : List Clock) (passing : Passing) (last tick : ℕ) (event : Event) (items : List Dated) → tick ≡ last + passing.elapsed
    → AllByRecursion (IsFit clocks last) items → AllByRecursion (IsQuiet clocks passing last) items
    → map (told (map (passed passing) clocks) tick) (map (followed clocks last passing tick event) items)
    ≡ map (kept_after passing tick event) (map (told clocks last) items)
told_followed clocks passing last tick event [] gone fit quiet = refl
told_followed clocks passing last tick event (one ∷ items) gone fit quiet =
    ap (λ k. k ∷ map (told (map (passed passing) clocks) tick) (map (followed clocks last passing tick event) items))
    (told_by_test clocks passing last tick event one (is_told passing event one.kept.task.0) refl gone fit.0 quiet.0)
    ∙ ap (λ ks. kept_after passing tick event (told clocks last one) ∷ ks) (told_followed clocks passing last tick event items gone fit.1 quiet.1)

told_fresh : (task : TaskNo) (name : List ℕ) (level tick : ℕ) (clocks : List Clock)
    → map (told clocks tick) (newly_dated tick (New (created.Task task) name level)) ≡ newly_kept (New (created.Task task) name level)
told_fresh task name level tick clocks =
    let streak = gone_zero (tick - tick) 0 (minus_itself tick) in
    ap (λ (t : Tally). record { task = task; name = name; tally = t } ∷ [])
    (waits_same (record fresh { base = Some level }) 0 0 (max 0 (if (tick - tick) == 0 then 0 else 0)) 0 (if (tick - tick) == 0 then 0 else 0) 0 refl
    (ap (λ x. max 0 x) streak) streak)

told_newly : (event : Event) (tick : ℕ) (clocks : List Clock) → map (told clocks tick) (newly_dated tick event) ≡ newly_kept event
told_newly (New (created.Task task) name level) tick clocks = told_fresh task name level tick clocks
told_newly event tick clocks = refl

pub told_line : (clocks : List Clock) (passing : Passing) (last tick : ℕ) (event : Event) (items : List Dated) → tick ≡ last + passing.elapsed
    → AllByRecursion (IsFit clocks last) items → AllByRecursion (IsQuiet clocks passing last) items
    → map (told (map (passed passing) clocks) tick) (map (followed clocks last passing tick event) items ++ newly_dated tick event)
    ≡ map (kept_after passing tick event) (map (told clocks last) items) ++ newly_kept event
told_line clocks passing last tick event items gone fit quiet =
    map-append (told (map (passed passing) clocks) tick) (map (followed clocks last passing tick event) items) (newly_dated tick event)
    ∙ ap (λ ks. ks ++ map (told (map (passed passing) clocks) tick) (newly_dated tick event))
    (told_followed clocks passing last tick event items gone fit quiet)
    ∙ ap (λ ks. map (kept_after passing tick event) (map (told clocks last) items) ++ ks) (told_newly event tick (map (passed passing) clocks))

-- ---- what holds of all that is kept

all_append : (P : Dated → Type 0) (items more : List Dated) → AllByRecursion P items → AllByRecursion P more → AllByRecursion P (items ++ more)
all_append P [] more all rest = rest
all_append P (one ∷ items) more all rest = (all.0, all_append P items more all.1 rest)

all_mapped : (P Q : Dated → Type 0) (h : Dated → Dated) (items : List Dated) → ((one : Dated) → P one → Q (h one)) → AllByRecursion P items
    → AllByRecursion Q (map h items)
all_mapped P Q h [] step all = tt
all_mapped P Q h (one ∷ items) step all = (step one all.0, all_mapped P Q h items step all.1)

pub all_with : (P Q : Dated → Type 0) (items : List Dated) → ((one : Dated) → P one → Q one) → AllByRecursion P items → AllByRecursion Q items
all_with P Q [] step all = tt
all_with P Q (one ∷ items) step all = (step one all.0, all_with P Q items step all.1)

pub shown_more : (last most : ℕ) (clocks : List Clock) → last ≤ most → AllByRecursion (IsShown last) clocks → AllByRecursion (IsShown most) clocks
shown_more last most [] less shown = tt
shown_more last most (clock ∷ clocks) less shown = (
  record { waited = omega (arith, shown.0.waited, less); streak = omega (arith, shown.0.streak, less) },
  shown_more last most clocks less shown.1,
)

fit_by_test : (clocks : List Clock) (passing : Passing) (last tick : ℕ) (event : Event) (one : Dated) (b : Bool) → tick ≡ last + passing.elapsed
    → HasClock clocks (level_given event) → IsFit clocks last one
    → IsFit (map (passed passing) clocks) tick (if b then stepped clocks last passing tick event one else one)
fit_by_test clocks passing last tick event one true gone given fit = fit_stepped clocks passing last tick event one gone given fit
fit_by_test clocks passing last tick event one false gone given fit = fit_passed clocks passing last tick one gone fit

fit_newly : (event : Event) (tick : ℕ) (clocks : List Clock) → HasClock clocks (level_given event) → AllByRecursion (IsFit clocks tick) (newly_dated tick event)
fit_newly (New (created.Task task) name level) tick clocks given = (
  record { at = omega arith; lower = omega arith; streak = omega arith; longest = omega arith; clocked = given; timed = tt },
  tt,
)
fit_newly event tick clocks given = tt

within_newly : (event : Event) (tick most : ℕ) → AllByRecursion (IsWithin most) (newly_dated tick event)
within_newly (New (created.Task task) name level) tick most = (record { jobs = omega arith; sum = omega arith; run = omega arith; preempted = omega arith }, tt)
within_newly event tick most = tt

within_by_test : (clocks : List Clock) (passing : Passing) (last tick : ℕ) (event : Event) (one : Dated) (most : ℕ) (b : Bool) → passing.elapsed ≤ LAST_TICK
    → tick ≤ LAST_TICK → IsWithin most one
    → IsWithin (most + LAST_TICK) (if b then stepped clocks last passing tick event one else one)
within_by_test clocks passing last tick event one most true few small within = within_stepped clocks last passing tick event one most few small within
within_by_test clocks passing last tick event one most false few small within = within_more most (most + LAST_TICK) one (omega arith) within

pub kept_line : (clocks : List Clock) (passing : Passing) (last tick most : ℕ) (event : Event) (items : List Dated) → tick ≡ last + passing.elapsed
    → passing.elapsed ≤ LAST_TICK → tick ≤ LAST_TICK → HasClock clocks (level_given event) → IsKept last most items clocks
    → IsKept tick (most + LAST_TICK) (map (followed clocks last passing tick event) items ++ newly_dated tick event) (map (passed passing) clocks)
kept_line clocks passing last tick most event items gone few small given kept = record {
  fit = all_append (IsFit (map (passed passing) clocks) tick) (map (followed clocks last passing tick event) items) (newly_dated tick event)
      (all_mapped (IsFit clocks last) (IsFit (map (passed passing) clocks) tick) (followed clocks last passing tick event) items
      (λ one fit. fit_by_test clocks passing last tick event one (is_told passing event one.kept.task.0) gone given fit) kept.fit)
      (fit_newly event tick (map (passed passing) clocks) (given_passed (level_given event) passing clocks given));
  within = all_append (IsWithin (most + LAST_TICK)) (map (followed clocks last passing tick event) items) (newly_dated tick event)
      (all_mapped (IsWithin most) (IsWithin (most + LAST_TICK)) (followed clocks last passing tick event) items
      (λ one within. within_by_test clocks passing last tick event one most (is_told passing event one.kept.task.0) few small within) kept.within)
      (within_newly event tick (most + LAST_TICK));
  shown = shown_passed passing last tick clocks gone kept.shown;
}

-- ---- what makes a line ready

all_told_with : (given : Option ℕ) (clocks : List Clock) (last : ℕ) (items : List Dated) → AllByRecursion (IsFit clocks last) items
    → map (told (with_clock given clocks) last) items ≡ map (told clocks last) items
all_told_with given clocks last [] fit = refl
all_told_with given clocks last (one ∷ items) fit =
    ap (λ k. k ∷ map (told (with_clock given clocks) last) items) (told_with given clocks last one fit.0)
    ∙ ap (λ ks. told clocks last one ∷ ks) (all_told_with given clocks last items fit.1)

all_told_settled : (clocks : List Clock) (last : ℕ) (items : List Dated)
    → map (told clocks last) (map (settled clocks last) items) ≡ map (told clocks last) items
all_told_settled clocks last [] = refl
all_told_settled clocks last (one ∷ items) =
    ap (λ k. k ∷ map (told clocks last) (map (settled clocks last) items)) (told_settled clocks last one)
    ∙ ap (λ ks. told clocks last one ∷ ks) (all_told_settled clocks last items)

all_quiet_settled : (clocks : List Clock) (passing : Passing) (last : ℕ) (items : List Dated)
    → AllByRecursion (IsQuiet clocks passing last) (map (settled clocks last) items)
all_quiet_settled clocks passing last [] = tt
all_quiet_settled clocks passing last (one ∷ items) = (quiet_settled clocks passing last one, all_quiet_settled clocks passing last items)

pub same_with : (last : ℕ) (items : List Dated) (clocks : List Clock) (places : ℕ → Option ℕ) (given : Option ℕ) → AllByRecursion (IsFit clocks last) items
    → IsKnown items places → IsSame last items clocks items (with_clock given clocks) places
same_with last items clocks places given fit known = record {
  tells = all_told_with given clocks last items fit;
  fit = all_with (IsFit clocks last) (IsFit (with_clock given clocks) last) items (λ one f. fit_with given clocks last one f) fit;
  within = λ most w. w;
  shown = λ s. shown_with given last clocks s;
  once = λ o. o;
  placed = λ n. refl;
  known = known;
}

task_settled : (clocks : List Clock) (last : ℕ) (one : Dated) → (settled clocks last one).kept.task.0 ≡ one.kept.task.0
task_settled clocks last one = refl

pub same_settled : (last : ℕ) (items : List Dated) (clocks : List Clock) (places : ℕ → Option ℕ) (given : Option ℕ) → AllByRecursion (IsFit clocks last) items
    → IsKnown items places → IsSame last items clocks (map (settled (with_clock given clocks) last) items) (with_clock given clocks) places
same_settled last items clocks places given fit known =
    let more = with_clock given clocks in
    let fit_more = all_with (IsFit clocks last) (IsFit more last) items (λ one f. fit_with given clocks last one f) fit in
    record {
      tells = all_told_settled more last items ∙ all_told_with given clocks last items fit;
      fit = all_mapped (IsFit more last) (IsFit more last) (settled more last) items (λ one f. fit_settled more last one f) fit_more;
      within =
          λ most w. all_mapped (IsWithin most) (IsWithin most) (settled more last) items
          (λ one x. record { jobs = x.jobs; sum = x.sum; run = x.run; preempted = x.preempted }) w;
      shown = λ s. shown_with given last clocks s;
      once = λ o. once_mapped (settled more last) (task_settled more last) items o;
      placed = λ n. placed_mapped (settled more last) (task_settled more last) n items;
      known = λ n p e. known n p (sym (placed_mapped (settled more last) (task_settled more last) n items) ∙ e);
    }

length_mapped : (h : Dated → Dated) (items : List Dated) → length (map h items) ≡ length items
length_mapped h [] = refl
length_mapped h (one ∷ items) = ap (λ n. suc n) (length_mapped h items)

pub ready_on : (event : Event) (passing : Passing) (last : ℕ) (items : List Dated) (clocks : List Clock) (places places' : ℕ → Option ℕ)
    → AllByRecursion (IsFit clocks last) items → list_all (goes_on passing) (with_clock (level_given event) clocks) ≡ true
    → ((number : ℕ) → places' number ≡ noted (created_number event) (length items) number (places number))
    → IsReady event passing last items (with_clock (level_given event) clocks) places'
ready_on event passing last items clocks places places' fit on noted_is = record {
  given = given_with (level_given event) clocks;
  quiet =
      all_with (IsFit clocks last) (IsQuiet (with_clock (level_given event) clocks) passing last) items
      (λ one f. quiet_on (with_clock (level_given event) clocks) passing last one on (fit_with (level_given event) clocks last one f)) fit;
  noted_now = noted_there places places' (created_number event) (length items) noted_is;
}

pub ready_settled : (event : Event) (passing : Passing) (last : ℕ) (items : List Dated) (clocks : List Clock) (places places' : ℕ → Option ℕ)
    → ((number : ℕ) → places' number ≡ noted (created_number event) (length items) number (places number))
    → IsReady event passing last (map (settled (with_clock (level_given event) clocks) last) items) (with_clock (level_given event) clocks) places'
ready_settled event passing last items clocks places places' noted_is = record {
  given = given_with (level_given event) clocks;
  quiet = all_quiet_settled (with_clock (level_given event) clocks) passing last items;
  noted_now =
      λ number e. noted_there places places' (created_number event) (length items) noted_is number e
      ∙ ap Some (sym (length_mapped (settled (with_clock (level_given event) clocks) last) items));
}

pub same_quiet : (b : Bool) (last : ℕ) (items : List Dated) (clocks : List Clock) (places : ℕ → Option ℕ) (given : Option ℕ)
    → AllByRecursion (IsFit clocks last) items → IsKnown items places
    → IsSame last items clocks (if b then items else map (settled (with_clock given clocks) last) items) (with_clock given clocks) places
same_quiet true last items clocks places given fit known = same_with last items clocks places given fit known
same_quiet false last items clocks places given fit known = same_settled last items clocks places given fit known

quiet_by : (b : Bool) (event : Event) (passing : Passing) (last : ℕ) (items : List Dated) (clocks : List Clock) (places places' : ℕ → Option ℕ)
    → list_all (goes_on passing) (with_clock (level_given event) clocks) ≡ b → AllByRecursion (IsFit clocks last) items
    → ((number : ℕ) → places' number ≡ noted (created_number event) (length items) number (places number))
    → IsReady event passing last (if b then items else map (settled (with_clock (level_given event) clocks) last) items)
    (with_clock (level_given event) clocks) places'
quiet_by true event passing last items clocks places places' on fit noted_is = ready_on event passing last items clocks places places' fit on noted_is
quiet_by false event passing last items clocks places places' on fit noted_is = ready_settled event passing last items clocks places places' noted_is

pub ready_quiet : (event : Event) (passing : Passing) (last : ℕ) (items : List Dated) (clocks : List Clock) (places places' : ℕ → Option ℕ)
    → AllByRecursion (IsFit clocks last) items
    → ((number : ℕ) → places' number ≡ noted (created_number event) (length items) number (places number))
    → IsReady event passing last (made_quiet (with_clock (level_given event) clocks) last passing items) (with_clock (level_given event) clocks) places'
ready_quiet event passing last items clocks places places' fit noted_is =
    quiet_by (list_all (goes_on passing) (with_clock (level_given event) clocks)) event passing last items clocks places places' refl fit noted_is

-- ---- what finds a task behind a line

-- a task that a line creates is not there before
new_by : (items : List Dated) (places : ℕ → Option ℕ) (bases : List (ℕ × ℕ)) (number : ℕ) (o : Option ℕ) → place_in number items ≡ o
    → IsFound items places bases → has number (keys_of bases) ≡ false → o ≡ None
new_by items places bases number None e found none = refl
new_by items places bases number (Some place) e found none = let wrong : true ≡ false = sym (found.created number place e) ∙ none in cc

created_absent : (seen : Seen) (event : Event) (number : ℕ) → is_subject_formed (shape_of seen) event ≡ true → created_number event ≡ Some number
    → has number (keys_of seen.bases) ≡ false
created_absent seen (New (created.Task task) name level) number formed e =
    let same : task.0 ≡ number = cc in
    subst (λ n. has n (keys_of seen.bases) ≡ false) same (not-true (has task.0 (keys_of seen.bases)) formed)
created_absent seen (New (created.Object object) name level) number formed e = cc
created_absent seen event number formed e = cc

subject_formed : (seen : Seen) (tick : ℕ) (event : Event) → is_formed_after seen tick event ≡ true → is_subject_formed (shape_of seen) event ≡ true
subject_formed seen tick event formed =
    let parts = and_parts (nat_le seen.tick tick && nat_le tick LAST_TICK) (is_formed_next (shape_of seen) event) formed in
    (and_parts (not seen.is_ended) (is_subject_formed (shape_of seen) event) parts.1).1

pub rises_tick : (seen : Seen) (tick : ℕ) (event : Event) → is_formed_after seen tick event ≡ true → (seen.tick ≤ tick) × (tick ≤ LAST_TICK)
rises_tick seen tick event formed =
    let parts = and_parts (nat_le seen.tick tick && nat_le tick LAST_TICK) (is_formed_next (shape_of seen) event) formed in
    let ticks = and_parts (nat_le seen.tick tick) (nat_le tick LAST_TICK) parts.0 in
    (leb-true seen.tick tick ticks.0, leb-true tick LAST_TICK ticks.1)

pub created_new : (seen : Seen) (tick : ℕ) (event : Event) (items : List Dated) (places : ℕ → Option ℕ) → is_formed_after seen tick event ≡ true
    → IsFound items places seen.bases → (number : ℕ) → created_number event ≡ Some number → place_in number items ≡ None
created_new seen tick event items places formed found number e =
    new_by items places seen.bases number (place_in number items) refl found (created_absent seen event number (subject_formed seen tick event formed) e)

has_more : (number key level : ℕ) (bases : List (ℕ × ℕ)) → has number (keys_of bases) ≡ true
    → has number (keys_of (insert_entry nat_cmp bases key level)) ≡ true
has_more number key level bases known = has-insert_entry number bases key level ∙ or_right (number == key) (has number (keys_of bases)) known

has_stays : (number : ℕ) (bases : List (ℕ × ℕ)) (event : Event) → has number (keys_of bases) ≡ true → has number (keys_of (kept_bases bases event)) ≡ true
has_stays number bases (New (created.Task task) name level) known = has_more number task.0 level bases known
has_stays number bases (Base task level) known = has_more number task.0 level bases known
has_stays number bases event known = known

has_new : (key level : ℕ) (bases : List (ℕ × ℕ)) → has key (keys_of (insert_entry nat_cmp bases key level)) ≡ true
has_new key level bases = has-insert_entry key bases key level ∙ ap (λ b. b || has key (keys_of bases)) (eq-eqb key key refl)

found_stays : (items : List Dated) (places : ℕ → Option ℕ) (bases : List (ℕ × ℕ)) (event : Event) → IsFound items places bases
    → IsFound (items ++ []) places (kept_bases bases event)
found_stays items places bases event found = subst (λ xs. IsFound xs places (kept_bases bases event)) (sym (append-nil items)) (record {
  once = found.once;
  known = found.known;
  created = λ number place e. has_stays number bases event (found.created number place e);
})

found_new : (items : List Dated) (places : ℕ → Option ℕ) (bases : List (ℕ × ℕ)) (one : Dated) (level : ℕ) → IsFound items places bases
    → place_in one.kept.task.0 items ≡ None → places one.kept.task.0 ≡ Some (length items)
    → IsFound (items ++ one ∷ []) places (insert_entry nat_cmp bases one.kept.task.0 level)
found_new items places bases one level found none there = record {
  once = once_end items one found.once none;
  known = λ number place e. found_end number place items one (place_in number items) (number == one.kept.task.0) refl refl e (places number ≡ Some place)
      (λ was. found.known number place was) (λ same here. ap places same ∙ there ∙ ap Some here);
  created =
      λ number place e. found_end number place items one (place_in number items) (number == one.kept.task.0) refl refl e
      (has number (keys_of (insert_entry nat_cmp bases one.kept.task.0 level)) ≡ true)
      (λ was. has_more number one.kept.task.0 level bases (found.created number place was))
      (λ same here. subst (λ n. has n (keys_of (insert_entry nat_cmp bases one.kept.task.0 level)) ≡ true) (sym same) (has_new one.kept.task.0 level bases));
}

found_event : (items : List Dated) (places : ℕ → Option ℕ) (bases : List (ℕ × ℕ)) (tick : ℕ) (event : Event) → IsFound items places bases
    → ((number : ℕ) → created_number event ≡ Some number → place_in number items ≡ None)
    → ((number : ℕ) → created_number event ≡ Some number → places number ≡ Some (length items))
    → IsFound (items ++ newly_dated tick event) places (kept_bases bases event)
found_event items places bases tick (New (created.Task task) name level) found none there =
    found_new items places bases
    (record { kept = record { task = task; name = name; tally = record fresh { base = Some level } }; tick = tick; waited = 0 }) level found
    (none task.0 refl) (there task.0 refl)
found_event items places bases tick event found none there = found_stays items places bases event found

found_mapped : (h : Dated → Dated) → ((one : Dated) → (h one).kept.task.0 ≡ one.kept.task.0)
    → (items : List Dated) (places : ℕ → Option ℕ) (bases : List (ℕ × ℕ)) → IsFound items places bases → IsFound (map h items) places bases
found_mapped h same items places bases found = record {
  once = once_mapped h same items found.once;
  known = λ number place e. found.known number place (sym (placed_mapped h same number items) ∙ e);
  created = λ number place e. found.created number place (sym (placed_mapped h same number items) ∙ e);
}

pub found_line : (clocks : List Clock) (last : ℕ) (passing : Passing) (tick : ℕ) (event : Event) (items : List Dated) (places : ℕ → Option ℕ)
    (bases : List (ℕ × ℕ))
    → IsFound items places bases
    → ((number : ℕ) → created_number event ≡ Some number → place_in number items ≡ None)
    → ((number : ℕ) → created_number event ≡ Some number → places number ≡ Some (length items))
    → IsFound (map (followed clocks last passing tick event) items ++ newly_dated tick event) places (kept_bases bases event)
found_line clocks last passing tick event items places bases found none there =
    let h = followed clocks last passing tick event in
    let same = task_followed clocks last passing tick event in
    found_event (map h items) places bases tick event (found_mapped h same items places bases found)
    (λ number e. placed_mapped h same number items ∙ none number e)
    (λ number e. there number e ∙ ap Some (sym (length_mapped h items)))

-- ---- the report as it was, made ready, and behind the line

pub report_same : (seen : Seen) (most agent_run idle len : ℕ) (items items' : List Dated) (clocks clocks' : List Clock) (places places' : ℕ → Option ℕ)
    → IsReport seen most agent_run idle len items clocks places → IsSame seen.tick items clocks items' clocks' places'
    → IsReport seen most agent_run idle len items' clocks' places'
report_same seen most agent_run idle len items items' clocks clocks' places places' report same = record {
  count = report.count;
  tick = report.tick;
  most_agent = report.most_agent;
  most_idle = report.most_idle;
  kept = record { fit = same.fit; within = same.within most report.kept.within; shown = same.shown report.kept.shown };
  found = record {
    once = same.once report.found.once;
    known = same.known;
    created = λ number place e. report.found.created number place (sym (same.placed number) ∙ e);
  };
}

gone_ticks : (last tick : ℕ) → last ≤ tick → tick ≡ last + (tick - last)
gone_ticks last tick less = omega (arith, less)

few_ticks : (last tick most : ℕ) → tick ≤ most → tick - last ≤ most
few_ticks last tick most less = omega (arith, less)

pub line_told : (seen : Seen) (tick : ℕ) (event : Event) (items : List Dated) (clocks : List Clock) → is_formed_after seen tick event ≡ true
    → AllByRecursion (IsFit clocks seen.tick) items → AllByRecursion (IsQuiet clocks (passing_in seen tick) seen.tick) items
    → map (told (map (passed (passing_in seen tick)) clocks) tick)
    (map (followed clocks seen.tick (passing_in seen tick) tick event) items ++ newly_dated tick event)
    ≡ map (kept_after (passing_in seen tick) tick event) (map (told clocks seen.tick) items) ++ newly_kept event
line_told seen tick event items clocks formed fit quiet =
    told_line clocks (passing_in seen tick) seen.tick tick event items (gone_ticks seen.tick tick (rises_tick seen tick event formed).0) fit quiet

pub report_after : (seen : Seen) (tick : ℕ) (event : Event) (most agent_run idle len agent_run' idle' len' : ℕ) (items : List Dated) (clocks : List Clock)
    (places : ℕ → Option ℕ)
    → is_formed_after seen tick event ≡ true
    → IsReport seen most agent_run idle len items clocks places → IsReady event (passing_in seen tick) seen.tick items clocks places → len' ≤ MOST_TRACED_TASKS
    → agent_run' ≤ most + LAST_TICK → idle' ≤ most + LAST_TICK
    → IsReport (see_line seen (tick, event)) (most + LAST_TICK) agent_run' idle' len'
    (map (followed clocks seen.tick (passing_in seen tick) tick event) items ++ newly_dated tick event) (map (passed (passing_in seen tick)) clocks) places
report_after seen tick event most agent_run idle len agent_run' idle' len' items clocks places formed report ready count most_agent most_idle =
    let rises = rises_tick seen tick event formed in
    record {
      count = count;
      tick = rises.1;
      most_agent = most_agent;
      most_idle = most_idle;
      kept =
          kept_line clocks (passing_in seen tick) seen.tick tick most event items (gone_ticks seen.tick tick rises.0)
          (few_ticks seen.tick tick LAST_TICK rises.1) rises.1 ready.given report.kept;
      found =
          found_line clocks seen.tick (passing_in seen tick) tick event items places seen.bases report.found
          (created_new seen tick event items places formed report.found) ready.noted_now;
    }

pub report_fit : (seen : Seen) (most agent_run idle len : ℕ) (items : List Dated) (clocks : List Clock) (places : ℕ → Option ℕ)
    → IsReport seen most agent_run idle len items clocks places → AllByRecursion (IsFit clocks seen.tick) items
report_fit seen most agent_run idle len items clocks places report = report.kept.fit

pub report_tick : (seen : Seen) (most agent_run idle len : ℕ) (items : List Dated) (clocks : List Clock) (places : ℕ → Option ℕ)
    → IsReport seen most agent_run idle len items clocks places → seen.tick ≤ LAST_TICK
report_tick seen most agent_run idle len items clocks places report = report.tick

pub report_stays : (seen : Seen) (most agent_run idle len len' : ℕ) (items items' : List Dated) (clocks clocks' : List Clock) (places places' : ℕ → Option ℕ)
    → IsReport seen most agent_run idle len items clocks places → IsSame seen.tick items clocks items' clocks' places'
    → len' ≡ len → IsReport seen most agent_run idle len' items' clocks' places'
report_stays seen most agent_run idle len len' items items' clocks clocks' places places' report same e =
    subst (λ n. IsReport seen most agent_run idle n items' clocks' places') (sym e)
    (report_same seen most agent_run idle len items items' clocks clocks' places places' report same)

pub all_within : (most more : ℕ) (items : List Dated) → most ≤ more → AllByRecursion (IsWithin most) items → AllByRecursion (IsWithin more) items
all_within most more items less within = all_with (IsWithin most) (IsWithin more) items (λ one w. within_more most more one less w) within

-- what all this says
abbrev pub reported_by : Seen → List Dated → List Clock → ℕ → ℕ → Reported
reported_by seen items clocks agent_run idle = record { seen = seen; kept = map (told clocks seen.tick) items; agent_run = agent_run; idle = idle }

-- what the report says behind the line
pub reported_line : (seen : Seen) (tick : ℕ) (event : Event) (agent_run idle : ℕ) (items items' : List Dated) (clocks clocks' : List Clock)
    (places' : ℕ → Option ℕ)
    → is_formed_after seen tick event ≡ true
    → IsSame seen.tick items clocks items' clocks' places' → IsReady event (passing_in seen tick) seen.tick items' clocks' places'
    → reported_by (see_line seen (tick, event)) (map (followed clocks' seen.tick (passing_in seen tick) tick event) items' ++ newly_dated tick event)
    (map (passed (passing_in seen tick)) clocks')
    (agent_run + ticks_if (somebody_eq seen.runner (Some subject.Agent)) (tick - seen.tick)) (idle + ticks_if (somebody_eq seen.runner None) (tick - seen.tick))
    ≡ report_line (reported_by seen items clocks agent_run idle) (tick, event)
reported_line seen tick event agent_run idle items items' clocks clocks' places' formed same ready =
    ap (λ (ks : List Kept). record {
      seen = see_line seen (tick, event);
      kept = ks;
      agent_run = agent_run + ticks_if (somebody_eq seen.runner (Some subject.Agent)) (tick - seen.tick);
      idle = idle + ticks_if (somebody_eq seen.runner None) (tick - seen.tick);
    })
    (line_told seen tick event items' clocks' formed same.fit ready.quiet
    ∙ ap (λ ks. map (kept_after (passing_in seen tick) tick event) ks ++ newly_kept event) same.tells)

-- the account of the task at a place
pub account_told : (clocks : List Clock) (last : ℕ) (items : List Dated) (place : ℕ) (one : Dated) → slice_get items place ≡ Some one
    → Some (account_in (told clocks last one)) ≡ slice_get (map account_in (map (told clocks last) items)) place
account_told clocks last [] place one e = cc
account_told clocks last (first ∷ items) zero one e =
    let same : first ≡ one = cc in
    ap (λ d. Some (account_in (told clocks last d))) (sym same)
account_told clocks last (first ∷ items) (suc place) one e = account_told clocks last items place one e

-- the same of what the calls give
pub added_line : (seen seen' : Seen) (tick : ℕ) (event : Event) (agent_run idle agent_ticks idle_ticks last : ℕ) (passing : Passing)
    (items items' items'' : List Dated) (clocks clocks' clocks'' : List Clock) (places' : ℕ → Option ℕ)
    → is_formed_after seen tick event ≡ true
    → seen' ≡ see_line seen (tick, event) → last ≡ seen.tick → passing ≡ passing_in seen tick
    → items'' ≡ map (followed clocks' last passing tick event) items' ++ newly_dated tick event → clocks'' ≡ map (passed passing) clocks'
    → agent_ticks ≡ ticks_if (somebody_eq passing.runner (Some subject.Agent)) passing.elapsed
    → idle_ticks ≡ ticks_if (somebody_eq passing.runner None) passing.elapsed
    → IsSame last items clocks items' clocks' places' → IsReady event passing last items' clocks' places'
    → reported_by seen' items'' clocks'' (agent_run + agent_ticks) (idle + idle_ticks)
    ≡ report_line (reported_by seen items clocks agent_run idle) (tick, event)
added_line seen seen' tick event agent_run idle agent_ticks idle_ticks last passing items items' items'' clocks clocks' clocks'' places' formed seen_is last_is
    passing_is items_are clocks_are agent_is idle_is same ready =
    let same_here = subst (λ n. IsSame n items clocks items' clocks' places') last_is same in
    let ready_here =
    subst (λ p. IsReady event p seen.tick items' clocks' places') passing_is (subst (λ n. IsReady event passing n items' clocks' places') last_is ready) in
    ap (λ s. reported_by s items'' clocks'' (agent_run + agent_ticks) (idle + idle_ticks)) seen_is
    ∙ ap (λ xs. reported_by (see_line seen (tick, event)) xs clocks'' (agent_run + agent_ticks) (idle + idle_ticks)) items_are
    ∙ ap (λ cs. reported_by (see_line seen (tick, event)) (map (followed clocks' last passing tick event) items' ++ newly_dated tick event) cs
    (agent_run + agent_ticks) (idle + idle_ticks)) clocks_are
    ∙ ap (λ n. reported_by (see_line seen (tick, event)) (map (followed clocks' last passing tick event) items' ++ newly_dated tick event)
    (map (passed passing) clocks') (agent_run + n) (idle + idle_ticks)) agent_is
    ∙ ap (λ n. reported_by (see_line seen (tick, event)) (map (followed clocks' last passing tick event) items' ++ newly_dated tick event)
    (map (passed passing) clocks') (agent_run + ticks_if (somebody_eq passing.runner (Some subject.Agent)) passing.elapsed) (idle + n)) idle_is
    ∙ ap (λ n. reported_by (see_line seen (tick, event)) (map (followed clocks' n passing tick event) items' ++ newly_dated tick event)
    (map (passed passing) clocks') (agent_run + ticks_if (somebody_eq passing.runner (Some subject.Agent)) passing.elapsed)
    (idle + ticks_if (somebody_eq passing.runner None) passing.elapsed)) last_is
    ∙ ap (λ (p : Passing). reported_by (see_line seen (tick, event)) (map (followed clocks' seen.tick p tick event) items' ++ newly_dated tick event)
    (map (passed p) clocks') (agent_run + ticks_if (somebody_eq p.runner (Some subject.Agent)) p.elapsed)
    (idle + ticks_if (somebody_eq p.runner None) p.elapsed)) passing_is
    ∙ reported_line seen tick event agent_run idle items items' clocks clocks' places' formed same_here ready_here

pub added_kept : (seen seen' : Seen) (tick : ℕ) (event : Event) (most agent_run idle agent_run' idle' last len len' : ℕ) (passing : Passing)
    (items items' items'' : List Dated) (clocks clocks' clocks'' : List Clock) (places places' : ℕ → Option ℕ)
    → is_formed_after seen tick event ≡ true
    → seen' ≡ see_line seen (tick, event) → last ≡ seen.tick → passing ≡ passing_in seen tick
    → items'' ≡ map (followed clocks' last passing tick event) items' ++ newly_dated tick event → clocks'' ≡ map (passed passing) clocks'
    → IsReport seen most agent_run idle len items clocks places → IsSame last items clocks items' clocks' places'
    → IsReady event passing last items' clocks' places'
    → len' ≤ MOST_TRACED_TASKS → agent_run' ≤ most + LAST_TICK → idle' ≤ most + LAST_TICK
    → IsReport seen' (most + LAST_TICK) agent_run' idle' len' items'' clocks'' places'
added_kept seen seen' tick event most agent_run idle agent_run' idle' last len len' passing items items' items'' clocks clocks' clocks'' places places' formed
    seen_is last_is passing_is items_are clocks_are report same ready count most_agent most_idle =
    let same_here = subst (λ n. IsSame n items clocks items' clocks' places') last_is same in
    let ready_here =
    subst (λ p. IsReady event p seen.tick items' clocks' places') passing_is (subst (λ n. IsReady event passing n items' clocks' places') last_is ready) in
    let report_here = report_same seen most agent_run idle len items items' clocks clocks' places places' report same_here in
    let after =
    report_after seen tick event most agent_run idle len agent_run' idle' len' items' clocks' places' formed report_here ready_here count most_agent
    most_idle in
    let items_here =
    items_are ∙ ap (λ n. map (followed clocks' n passing tick event) items' ++ newly_dated tick event) last_is
    ∙ ap (λ p. map (followed clocks' seen.tick p tick event) items' ++ newly_dated tick event) passing_is in
    let clocks_here = clocks_are ∙ ap (λ p. map (passed p) clocks') passing_is in
    subst (λ s. IsReport s (most + LAST_TICK) agent_run' idle' len' items'' clocks'' places') (sym seen_is)
    (subst (λ xs. IsReport (see_line seen (tick, event)) (most + LAST_TICK) agent_run' idle' len' xs clocks'' places') (sym items_here)
    (subst (λ cs. IsReport (see_line seen (tick, event)) (most + LAST_TICK) agent_run' idle' len'
    (map (followed clocks' seen.tick (passing_in seen tick) tick event) items' ++ newly_dated tick event) cs places')
    (sym clocks_here) after))

pub few_more : (most n more ticks now : ℕ) → n ≤ most → more ≤ ticks → ticks ≤ now → now ≤ LAST_TICK → n + more ≤ most + LAST_TICK
few_more most n more ticks now a b c d = omega (arith, a, b, c, d)
