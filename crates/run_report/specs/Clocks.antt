-- How long each task waited: told by a clock for each base priority, and by when a line last told of the task. Beside
-- it how a task is found by its number.
use Rattle.std.specs.Prelude.{◌≡◌, ◌≤◌, ◌<◌, ℕ, zero, suc, ◌+◌, ◌-◌, ◌==◌, Bool, true, false, ◌||◌, max, if◌then◌else◌}
use Rattle.std.specs.Prelude.{List, [], ◌∷◌, ◌++◌, Option, Some, None, map, is_some, length, slice_get, cond, find}
use Rattle.std.specs.List.{AllByRecursion, list_all}
use Rattle.std.specs.Option.{option_map}
use Rattle.std.specs.Ordering.{nat_cmp}
use Rattle.std.specs.BTreeMap.{is_at}
use Rattle.std.specs.Map.{keys_of}
use Rattle.trace_text.specs.declared.lines.TheConstants.{LAST_TICK}
use Rattle.trace_text.specs.declared.events.Who.{Who}
use Rattle.trace_text.specs.declared.events.Who.TheVariants as subject
use Rattle.trace_text.specs.declared.events.Created.TheVariants as created
use Rattle.trace_text.specs.declared.events.Event.{Event}
use Rattle.trace_text.specs.declared.events.Event.TheVariants.{New, Ready, Block, Base, Done}
use Rattle.trace_text.specs.Laws.{has}
use Rattle.run_report.specs.declared.tallies.Tally.{Tally}
use Rattle.run_report.specs.declared.tallies.Passing.{Passing}
use Rattle.run_report.specs.declared.clocks.Clock.{Clock}
use Rattle.run_report.specs.declared.dated.Dated.{Dated}
use Rattle.run_report.specs.declared.dated.Step.{Step}
use Rattle.run_report.specs.declared.report.Kept.{Kept}
use Rattle.trace_lines.specs.Seen.{Seen}
use Rattle.run_report.specs.declared.report.TheConstants.{MOST_TRACED_TASKS}
use Rattle.run_report.specs.Accounts.{is_lower}
use Rattle.run_report.specs.Kept.{fresh, ticks_if, streak_after, tally_after}

-- ---- clocks

-- the clock of a base priority
abbrev pub clock_of : ℕ → List Clock → Option Clock
clock_of level clocks = find (λ clock. clock.level == level) clocks

abbrev pub clock_at : Option ℕ → List Clock → Option Clock
clock_at None clocks = None
clock_at (Some level) clocks = clock_of level clocks

-- a clock with these ticks more
abbrev pub passed : Passing → Clock → Clock
passed passing clock = record {
  level = clock.level;
  waited = clock.waited + ticks_if (is_lower passing.base (Some clock.level)) passing.elapsed;
  streak = streak_after passing.elapsed (is_lower passing.base (Some clock.level)) clock.streak;
}

-- no waiting ends while these ticks pass
abbrev pub goes_on : Passing → Clock → Bool
goes_on passing clock = passing.elapsed == 0 || is_lower passing.base (Some clock.level) || clock.streak == 0

-- the base priority that a line gives to a task
abbrev pub level_given : Event → Option ℕ
level_given (New (created.Task task) name level) = Some level
level_given (Base task level) = Some level
level_given _ = None

abbrev pub new_clock : ℕ → Clock
new_clock level = record { level = level; waited = 0; streak = 0 }

-- with a clock of this base priority
abbrev pub with_clock : Option ℕ → List Clock → List Clock
with_clock None clocks = clocks
with_clock (Some level) clocks = if is_some (clock_of level clocks) then clocks else clocks ++ new_clock level ∷ []

-- ---- what a clock and a date tell of a task

-- the base priority at which it waits: a task that is not ready does not
abbrev pub wait_level : Tally → Option ℕ
wait_level tally = if is_some tally.since then tally.base else None

abbrev pub waited_by : Option Clock → ℕ
waited_by None = 0
waited_by (Some clock) = clock.waited

abbrev pub lower_by : Option Clock → ℕ → ℕ → ℕ
lower_by None waited lower = lower
lower_by (Some clock) waited lower = lower + (clock.waited - waited)

abbrev pub streak_by : Option Clock → ℕ → ℕ → ℕ → ℕ
streak_by None gone waited streak = if gone == 0 then streak else 0
streak_by (Some clock) gone waited streak = if clock.waited - waited == gone then streak + gone else clock.streak

abbrev pub told_streak : Option Clock → ℕ → Dated → ℕ
told_streak clock tick one = streak_by clock (tick - one.tick) one.waited one.kept.tally.streak

abbrev pub tally_by_clock : Option Clock → ℕ → Dated → Tally
tally_by_clock clock tick one = record one.kept.tally {
  lower = lower_by clock one.waited one.kept.tally.lower;
  longest = max one.kept.tally.longest (told_streak clock tick one);
  streak = told_streak clock tick one;
}

abbrev pub tally_at : List Clock → ℕ → Dated → Tally
tally_at clocks tick one = tally_by_clock (clock_at (wait_level one.kept.tally) clocks) tick one

abbrev pub told : List Clock → ℕ → Dated → Kept
told clocks tick one = record one.kept { tally = tally_at clocks tick one }

-- a task with another tally at a tick, and with what its clock shows then
abbrev pub dated : Tally → ℕ → ℕ → Dated → Dated
dated tally waited tick one = record { kept = record one.kept { tally = tally }; tick = tick; waited = waited }

-- the same, told at a tick
abbrev pub settled : List Clock → ℕ → Dated → Dated
settled clocks tick one =
    dated (tally_at clocks tick one) (waited_by (clock_at (wait_level one.kept.tally) clocks)) tick one

-- no waiting that is not told yet ends while these ticks pass
abbrev pub made_quiet : List Clock → ℕ → Passing → List Dated → List Dated
made_quiet clocks last passing items = if list_all (goes_on passing) clocks then items
    else map (settled clocks last) items

-- ---- a line

abbrev pub next_tally : List Clock → ℕ → Passing → ℕ → Event → Dated → Tally
next_tally clocks last passing tick event one = tally_after one.kept.task passing tick event (tally_at clocks last one)

-- what its clock shows behind the line
abbrev pub next_waited : List Clock → Passing → Tally → ℕ
next_waited clocks passing tally = waited_by (option_map (passed passing) (clock_at (wait_level tally) clocks))

abbrev pub stepped : List Clock → ℕ → Passing → ℕ → Event → Dated → Dated
stepped clocks last passing tick event one =
    dated (next_tally clocks last passing tick event one)
    (next_waited clocks passing (next_tally clocks last passing tick event one)) tick one

-- the number of a subject that is a task
abbrev pub number_in : Option Who → Option ℕ
number_in None = None
number_in (Some (subject.Task task)) = Some task.0
number_in (Some subject.Agent) = None

-- the number of the task that a line creates, places in the queue, takes out, or gives a base priority
abbrev pub named_by : Event → Option ℕ
named_by (New (created.Task task) name level) = Some task.0
named_by (Ready who level end deadline) = number_in (Some who)
named_by (Block who why) = number_in (Some who)
named_by (Base task level) = Some task.0
named_by (Done task) = Some task.0
named_by _ = None

abbrev pub is_number : Option ℕ → ℕ → Bool
is_number None number = false
is_number (Some other) number = other == number

-- the number of the task that a line creates
abbrev pub created_number : Event → Option ℕ
created_number (New (created.Task task) name level) = Some task.0
created_number _ = None

abbrev pub newly_dated : ℕ → Event → List Dated
newly_dated tick (New (created.Task task) name level) = record {
  kept = record {
    task = task;
    name = name;
    tally = record fresh { base = Some level };
  };
  tick = tick;
  waited = 0;
} ∷ []
newly_dated tick _ = []

-- ---- where a task is kept

abbrev pub place_in : ℕ → List Dated → Option ℕ
place_in number [] = None
place_in number (one ∷ items) = if number == one.kept.task.0 then Some 0
    else option_map (λ place. suc place) (place_in number items)

abbrev pub place_at : Option ℕ → List Dated → Option ℕ
place_at None items = None
place_at (Some number) items = place_in number items

-- the place, where the task there has the number
abbrev pub place_if : Bool → ℕ → Option ℕ
place_if holds place = if holds then Some place else None

abbrev pub place_of : ℕ → ℕ → Option Dated → Option ℕ
place_of number place None = None
place_of number place (Some one) = place_if (one.kept.task.0 == number) place

abbrev pub checked_place : List Dated → Option ℕ → ℕ → Option ℕ
checked_place items None number = None
checked_place items (Some place) number = place_of number place (slice_get items place)

abbrev pub IsEachOnce : List Dated → Type 0
IsEachOnce [] = Unit {0}
IsEachOnce (one ∷ items) = (place_in one.kept.task.0 items ≡ None) × IsEachOnce items

-- what a number finds once a place is noted
abbrev pub noted : Option ℕ → ℕ → ℕ → Option ℕ → Option ℕ
noted None place number found = found
noted (Some other) place number found = cond (is_at (nat_cmp other) number) (Some place) found

-- a step of the task at a place
abbrev pub step_of : List Clock → ℕ → Passing → ℕ → Event → ℕ → Option Dated → Option Step
step_of clocks last passing tick event place None = None
step_of clocks last passing tick event place (Some one) = Some (record {
  place = place;
  tally = next_tally clocks last passing tick event one;
  waited = next_waited clocks passing (next_tally clocks last passing tick event one);
})

abbrev pub step_at : List Clock → ℕ → Passing → ℕ → Event → Option ℕ → List Dated → Option Step
step_at clocks last passing tick event None items = None
step_at clocks last passing tick event (Some place) items =
    step_of clocks last passing tick event place (slice_get items place)

-- with what a step gives at a place
abbrev pub written_at : ℕ → Tally → ℕ → ℕ → List Dated → List Dated
written_at place tally waited tick [] = []
written_at zero tally waited tick (one ∷ items) = dated tally waited tick one ∷ items
written_at (suc place) tally waited tick (one ∷ items) = one ∷ written_at place tally waited tick items

abbrev pub written : Option Step → ℕ → List Dated → List Dated
written None tick items = items
written (Some step) tick items = written_at step.place step.tally step.waited tick items

-- ---- what holds of all that is kept

-- what a clock shows fits a task that waits by it
pub record IsTimed (clock : Clock) (tick : ℕ) (one : Dated) : Type 0 where
  pub from : one.waited ≤ clock.waited
  pub grown : clock.waited - one.waited ≤ tick - one.tick
  pub unbroken : clock.waited - one.waited ≡ tick - one.tick → tick - one.tick ≤ clock.streak
  pub broken : (clock.waited - one.waited ≡ tick - one.tick → ⊥) → clock.streak ≤ tick - one.tick

abbrev pub IsTimedBy : Option Clock → ℕ → Dated → Type 0
IsTimedBy None tick one = Unit {0}
IsTimedBy (Some clock) tick one = IsTimed clock tick one

pub record IsFit (clocks : List Clock) (tick : ℕ) (one : Dated) : Type 0 where
  pub at : one.tick ≤ tick
  pub lower : one.kept.tally.lower ≤ one.tick
  pub streak : one.kept.tally.streak ≤ one.tick
  pub longest : one.kept.tally.streak ≤ one.kept.tally.longest
  pub clocked : is_some (clock_at one.kept.tally.base clocks) ≡ true
  pub timed : IsTimedBy (clock_at (wait_level one.kept.tally) clocks) tick one

-- no figure that is counted is above this one
pub record IsWithin (most : ℕ) (one : Dated) : Type 0 where
  pub jobs : one.kept.tally.jobs ≤ most
  pub sum : one.kept.tally.sum ≤ most
  pub run : one.kept.tally.run ≤ most
  pub preempted : one.kept.tally.preempted ≤ most

pub record IsShown (tick : ℕ) (clock : Clock) : Type 0 where
  pub waited : clock.waited ≤ tick
  pub streak : clock.streak ≤ tick

-- each task is kept once and found by its number, and was created
pub record IsFound (items : List Dated) (places : ℕ → Option ℕ) (bases : List (ℕ × ℕ)) : Type 0 where
  pub once : IsEachOnce items
  pub known : (number place : ℕ) → place_in number items ≡ Some place → places number ≡ Some place
  pub created : (number place : ℕ) → place_in number items ≡ Some place → has number (keys_of bases) ≡ true

-- no waiting of this task ends while these ticks pass, or it is told already
abbrev pub IsQuietBy : Option Clock → Passing → ℕ → Dated → Type 0
IsQuietBy None passing tick one = Unit {0}
IsQuietBy (Some clock) passing tick one = 0 < passing.elapsed → is_lower passing.base (Some clock.level) ≡ false
    → told_streak (Some clock) tick one ≤ one.kept.tally.longest

abbrev pub IsQuiet : List Clock → Passing → ℕ → Dated → Type 0
IsQuiet clocks passing tick one = IsQuietBy (clock_at (wait_level one.kept.tally) clocks) passing tick one

pub record IsKept (tick most : ℕ) (items : List Dated) (clocks : List Clock) : Type 0 where
  pub fit : AllByRecursion (IsFit clocks tick) items
  pub within : AllByRecursion (IsWithin most) items
  pub shown : AllByRecursion (IsShown tick) clocks

pub record IsReport (seen : Seen) (most agent_run idle len : ℕ) (items : List Dated) (clocks : List Clock)
    (places : ℕ → Option ℕ) : Type 0 where
  pub count : len ≤ MOST_TRACED_TASKS
  pub tick : seen.tick ≤ LAST_TICK
  pub most_agent : agent_run ≤ most
  pub most_idle : idle ≤ most
  pub kept : IsKept seen.tick most items clocks
  pub found : IsFound items places seen.bases

-- ---- what is made ready before a line, and what the line then makes

abbrev pub HasClock : List Clock → Option ℕ → Type 0
HasClock clocks None = Unit {0}
HasClock clocks (Some level) = is_some (clock_of level clocks) ≡ true

abbrev pub IsKnown : List Dated → (ℕ → Option ℕ) → Type 0
IsKnown items places = (number place : ℕ) → place_in number items ≡ Some place → places number ≡ Some place

-- the same is told, and found
pub record IsSame (last : ℕ) (items : List Dated) (clocks : List Clock) (items' : List Dated)
    (clocks' : List Clock) (places' : ℕ → Option ℕ) : Type 0 where
  pub tells : map (told clocks' last) items' ≡ map (told clocks last) items
  pub fit : AllByRecursion (IsFit clocks' last) items'
  pub within : (most : ℕ) → AllByRecursion (IsWithin most) items → AllByRecursion (IsWithin most) items'
  pub shown : AllByRecursion (IsShown last) clocks → AllByRecursion (IsShown last) clocks'
  pub once : IsEachOnce items → IsEachOnce items'
  pub placed : (number : ℕ) → place_in number items' ≡ place_in number items
  pub known : IsKnown items' places'

pub record IsReady (event : Event) (passing : Passing) (last : ℕ) (items : List Dated) (clocks : List Clock)
    (places : ℕ → Option ℕ) : Type 0 where
  pub given : HasClock clocks (level_given event)
  pub quiet : AllByRecursion (IsQuiet clocks passing last) items
  pub noted_now : (number : ℕ) → created_number event ≡ Some number → places number ≡ Some (length items)

abbrev pub is_told : Passing → Event → ℕ → Bool
is_told passing event number = is_number (number_in passing.runner) number
    || (is_number (named_by event) number || false)

abbrev pub followed : List Clock → ℕ → Passing → ℕ → Event → Dated → Dated
followed clocks last passing tick event one = if is_told passing event one.kept.task.0
    then stepped clocks last passing tick event one else one
