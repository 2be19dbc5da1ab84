-- Each handler is released at its tick, and no other (C.3, D.14, D.15): a law on the history of a run, which is what
-- its instants lead from and to, and say. It keeps an account of what was asked for and has not come yet. What the
-- machine itself keeps of settings, in its appointments, timers, budgets' handlers, script and flags, is not looked at:
-- a machine that forgets one breaks the law.
use Rattle.std.specs.Prelude.{◌≡◌, ℕ, zero, suc, ℤ, pos, int_le, int_lt, Bool, true, false, cond, ◌&&◌, List}
use Rattle.std.specs.Prelude.{[], ◌∷◌, ◌+◌, ◌++◌, Some, None, eqb, ltb, length, filter, map, replicate, IsTrue}
use Rattle.ann_base.specs.declared.identities.TaskNo.{TaskNo}
use Rattle.trace_text.specs.declared.events.Event.{Event}
use Rattle.trace_text.specs.declared.events.Event.TheVariants as line
use Rattle.trace_text.specs.declared.events.Who.TheVariants as who
use Rattle.profile_image.specs.declared.image.Image.{Image}
use Rattle.profile_image.specs.declared.script_items.Item.{Item}
use Rattle.profile_machine.specs.declared.world.World.{World}
use Rattle.profile_machine.specs.declared.world.appointments.Budget.{Budget}
use Rattle.profile_machine.specs.declared.world.appointments.HandlerOf.{HandlerOf}
use Rattle.profile_image.specs.declared.limits.TheConstants.{LAST_OUTSIDE_LINE}
use Rattle.profile_image.specs.Words.{without}
use Rattle.profile_machine.specs.Steps.{Move}
use Rattle.profile_machine.specs.Tasks.{task_of}
use Rattle.profile_machine.specs.Handlers.{has_run_out}
use Rattle.profile_machine.specs.Instant.{finish_action}
use Rattle.profile_machine.specs.Run.{opening, stop, tock, run_of}
use Rattle.profile_machine.specs.Releases.{NamedHandler, named_handler, same_handlers, released}
use Rattle.profile_machine.specs.Releases.{Flags, flags_after, due_by_item, later_steps}
use Rattle.release_laws.specs.Asked.{Request, OfEvent, OfTimer, OfBudget, asked}

-- ---- histories

-- one instant: the world before it, the world in which the action that ended has had its effect, the world behind it
-- all, and its lines
pub record Passage : Type 0 where
  pub before : World
  pub acted : World
  pub after : World
  pub lines : List Event

-- what makes a history: the first step of an instant, its other steps, and a tock
pub record Machine : Type 0 where
  pub acts : Move
  pub goes_on : Move
  pub ticks : Move

abbrev pub machine_of : Image → Machine
machine_of p = record { acts = finish_action p; goes_on = later_steps p; ticks = tock p }

abbrev pub passage : Machine → World → Passage
passage m w =
    let first = m.acts w in
    let rest = m.goes_on first.0 in
    record { before = w; acted = first.0; after = rest.0; lines = first.1 ++ rest.1 }

-- the instants of a run from a world on, up to the first at which it stops: the fuel is one more than the ticks that
-- are left
abbrev pub history_from : ℕ → Machine → Image → ℕ → World → List Passage
history_from zero m p bound w = []
history_from (suc fuel) m p bound w =
    let x = passage m w in
    elim (stop p bound x.after) [
      | Some reason ↦ x ∷ []
      | None ↦ x ∷ history_from fuel m p bound (m.ticks x.after).0
    ]

abbrev pub history_by : Machine → Image → List (ℤ × Item) → ℕ → List Passage
history_by m p script bound = history_from (suc bound) m p bound (opening p script).0

abbrev pub history : Image → List (ℤ × Item) → ℕ → List Passage
history p = history_by (machine_of p) p

-- ---- the account

-- an event that is set for a later moment, and a timer of a task that is set to a value which the task's clock has not
-- reached
pub record EventSet : Type 0 where
  pub event : ℕ
  pub handler : HandlerOf
  pub moment : ℤ

pub record TimerSet : Type 0 where
  pub timer : ℕ
  pub task : TaskNo
  pub handler : HandlerOf
  pub value : ℤ

pub record BudgetSet : Type 0 where
  pub budget : ℕ
  pub handler : HandlerOf

-- What was asked for: events by moment, and of one moment in the order of setting; timers in the order of setting;
-- handlers of budgets; the items of the script that have not come, which interrupts are masked, and which of these have
-- come. Beside it what was left of the budgets behind the instant before.
pub record Account : Type 0 where
  pub events : List EventSet
  pub timers : List TimerSet
  pub budgets : List BudgetSet
  pub left : List Budget
  pub ahead : List (ℤ × Item)
  pub flags : Flags

abbrev pub first_account : List (ℤ × Item) → Account
first_account script = record {
  events = [];
  timers = [];
  budgets = [];
  left = [];
  ahead = script;
  flags = record {
    masked = replicate (LAST_OUTSIDE_LINE + 1) false;
    kept_interrupts = replicate (LAST_OUTSIDE_LINE + 1) false;
  };
}

-- ---- events: a setting takes the place of the one before; it comes at its moment

abbrev pub but_event : ℕ → List EventSet → List EventSet
but_event n = without (λ s. eqb n s.event)

abbrev pub put_event : EventSet → List EventSet → List EventSet
put_event new [] = new ∷ []
put_event new (s ∷ rest) = cond (int_lt new.moment s.moment) (new ∷ s ∷ rest) (s ∷ put_event new rest)

abbrev pub events_asked : ℕ → Request → List EventSet → List EventSet
events_asked time (OfEvent n None moment) events = but_event n events
events_asked time (OfEvent n (Some h) moment) events =
    cond (int_lt (pos time) moment) (put_event (record {
      event = n;
      handler = h;
      moment = moment;
    }) (but_event n events)) (but_event n events)
events_asked time _ events = events

abbrev pub has_come : ℕ → EventSet → Bool
has_come time s = int_le s.moment (pos time)

-- ---- timers: the same of a value of the task's clock. A number that is no timer's keeps no setting.

abbrev pub but_timer : ℕ → List TimerSet → List TimerSet
but_timer n = without (λ s. eqb n s.timer)

abbrev pub is_number_of : {X : Type 0} → List X → ℕ → Bool
is_number_of xs n = ltb n (length xs)

abbrev pub clock_of : World → TaskNo → ℕ
clock_of w t = (task_of w (who.Task t)).cpu_ticks

abbrev pub timers_asked : World → Request → List TimerSet → List TimerSet
timers_asked w (OfTimer n t None value) timers = but_timer n timers
timers_asked w (OfTimer n t (Some h) value) timers =
    cond (is_number_of w.timers n && int_lt (pos (clock_of w t)) value) (but_timer n timers
    ++ record { timer = n; task = t; handler = h; value = value } ∷ []) (but_timer n timers)
timers_asked w _ timers = timers

abbrev pub is_reached : World → TimerSet → Bool
is_reached w s = int_le s.value (pos (clock_of w s.task))

-- ---- budgets: a handler stays until it is set again or cancelled; a budget is due where the tick has brought it to
-- zero

abbrev pub but_budget : ℕ → List BudgetSet → List BudgetSet
but_budget n = without (λ s. eqb n s.budget)

abbrev pub budgets_asked : World → Request → List BudgetSet → List BudgetSet
budgets_asked w (OfBudget n None) budgets = but_budget n budgets
budgets_asked w (OfBudget n (Some h)) budgets =
    cond (is_number_of w.budgets n) (but_budget n budgets ++ record { budget = n; handler = h }
    ∷ []) (but_budget n budgets)
budgets_asked w _ budgets = budgets

-- those of this number, counted on with the budgets
abbrev pub budgets_run_out : ℕ → List Budget → List Budget → List BudgetSet → List BudgetSet
budgets_run_out n [] after budgets = []
budgets_run_out n (x ∷ xs) [] budgets = []
budgets_run_out n (x ∷ xs) (y ∷ ys) budgets = cond (has_run_out x y) (filter (λ s. eqb n s.budget) budgets) []
    ++ budgets_run_out (suc n) xs ys budgets

-- ---- interrupts: the items of the script whose moment has come, and those that are still ahead

abbrev pub items_come : ℕ → List (ℤ × Item) → List Item
items_come time [] = []
items_come time (x ∷ rest) = cond (int_le x.0 (pos time)) (x.1 ∷ items_come time rest) []

abbrev pub items_ahead : ℕ → List (ℤ × Item) → List (ℤ × Item)
items_ahead time [] = []
items_ahead time (x ∷ rest) = cond (int_le x.0 (pos time)) (items_ahead time rest) (x ∷ rest)

abbrev pub flags_behind : List Item → Flags → Flags
flags_behind [] flags = flags
flags_behind (x ∷ xs) flags = flags_behind xs (flags_after x flags)

-- the handlers of attached interrupts that come unmasked, and that are unmasked when they have come
abbrev pub due_by_items : Image → World → List Item → Flags → List NamedHandler
due_by_items p w [] flags = []
due_by_items p w (x ∷ xs) flags = due_by_item p w x flags ++ due_by_items p w xs (flags_after x flags)

-- ---- what an instant owes by an account, and the account behind it

-- a setting that is due at once
abbrev pub owed_at_once : Image → World → Request → List NamedHandler
owed_at_once p w (OfEvent n (Some h) moment) = cond (int_lt (pos w.time) moment) [] (named_handler p h ∷ [])
owed_at_once p w (OfTimer n t (Some h) value) = cond (int_lt (pos (clock_of w t)) value) [] (named_handler p h ∷ [])
owed_at_once p w _ = []

abbrev pub owed_of_interrupts : Image → Account → Passage → List NamedHandler
owed_of_interrupts p a x = due_by_items p x.acted (items_come x.before.time a.ahead) a.flags

abbrev pub owed_of_events : Image → Account → Passage → List NamedHandler
owed_of_events p a x =
    map (λ s. named_handler p s.handler) (filter (has_come x.before.time)
    (events_asked x.before.time (asked p x.before) a.events))

abbrev pub owed_of_timers : Image → Account → Passage → List NamedHandler
owed_of_timers p a x =
    map (λ s. named_handler p s.handler) (filter (is_reached x.before)
    (timers_asked x.before (asked p x.before) a.timers))

abbrev pub owed_of_budgets : Image → Account → Passage → List NamedHandler
owed_of_budgets p a x =
    map (λ s. named_handler p s.handler) (budgets_run_out 0 a.left x.before.budgets
    (budgets_asked x.before (asked p x.before) a.budgets))

abbrev pub account_behind : Image → Account → Passage → Account
account_behind p a x =
    let request = asked p x.before in
    let time = x.before.time in
    record {
      events = without (has_come time) (events_asked time request a.events);
      timers = without (is_reached x.before) (timers_asked x.before request a.timers);
      budgets = budgets_asked x.before request a.budgets;
      left = x.after.budgets;
      ahead = items_ahead time a.ahead;
      flags = flags_behind (items_come time a.ahead) a.flags;
    }

-- ---- the laws

-- what is true of each instant of a history, with the account before it
abbrev pub AtEachInstant : Image → (Account → Passage → Type 0) → Account → List Passage → Type 0
AtEachInstant p Is a [] = Unit {0}
AtEachInstant p Is a (x ∷ xs) = Is a x × AtEachInstant p Is (account_behind p a x) xs

-- these are released, one behind the other, among others before and behind them
pub record StandIn (owed all : List NamedHandler) : Type 0 where
  pub front : List NamedHandler
  pub back : List NamedHandler
  pub parts : all ≡ front ++ owed ++ back

abbrev pub ReleasesEvents : Image → Account → Passage → Type 0
ReleasesEvents p a x = StandIn (owed_of_events p a x) (released x.lines)

abbrev pub ReleasesTimers : Image → Account → Passage → Type 0
ReleasesTimers p a x = StandIn (owed_of_timers p a x) (released x.lines)

abbrev pub ReleasesBudgets : Image → Account → Passage → Type 0
ReleasesBudgets p a x = StandIn (owed_of_budgets p a x) (released x.lines)

abbrev pub ReleasesInterrupts : Image → Account → Passage → Type 0
ReleasesInterrupts p a x = StandIn (owed_of_interrupts p a x) (released x.lines)

-- all that an instant owes, in the order of its steps
abbrev pub owed_in_all : Image → Account → Passage → List NamedHandler
owed_in_all p a x = owed_at_once p x.before (asked p x.before) ++ owed_of_interrupts p a x ++ owed_of_events p a x
    ++ owed_of_timers p a x ++ owed_of_budgets p a x

-- what is owed is released, and nothing else: each release has a cause
abbrev pub ReleasesAll : Image → Account → Passage → Type 0
ReleasesAll p a x = released x.lines ≡ owed_in_all p a x

abbrev pub HistoryOk : Image → Account → List Passage → Type 0
HistoryOk p = AtEachInstant p (ReleasesAll p)

-- the test
abbrev pub follows_releases : Image → Account → List Passage → Bool
follows_releases p a [] = true
follows_releases p a (x ∷ xs) = same_handlers (released x.lines) (owed_in_all p a x)
    && follows_releases p (account_behind p a x) xs

-- ---- of every run

abbrev pub OfEveryRun : (Image → Account → Passage → Type 0) → Type 0
OfEveryRun Is = (p : Image) (script : List (ℤ × Item)) (bound : ℕ)
    → AtEachInstant p (Is p) (first_account script) (history p script bound)

-- so the test computes to true on the history of every run
abbrev pub RunsFollow : Type 0
RunsFollow = (p : Image) (script : List (ℤ × Item)) (bound : ℕ)
    → IsTrue (follows_releases p (first_account script) (history p script bound))

-- ---- the `release` lines of a run, with their ticks

abbrev pub with_release : ℕ → Event → List (ℕ × NamedHandler) → List (ℕ × NamedHandler)
with_release tick (line.Release n object handler) rest = (tick, record { object = object; procedure = handler }) ∷ rest
with_release tick _ rest = rest

abbrev pub releases_in : List (ℕ × Event) → List (ℕ × NamedHandler)
releases_in [] = []
releases_in (x ∷ xs) = with_release x.0 x.1 (releases_in xs)

abbrev pub all_at : ℕ → List NamedHandler → List (ℕ × NamedHandler)
all_at tick = map (λ h. (tick, h))

-- what the instants of a history owe, each at its tick
abbrev pub owed_by : Image → Account → List Passage → List (ℕ × NamedHandler)
owed_by p a [] = []
owed_by p a (x ∷ xs) = all_at x.before.time (owed_in_all p a x) ++ owed_by p (account_behind p a x) xs

-- the lines of the run of an image with a script up to a bound tell what its history owes, and nothing else
abbrev pub ReleasesOk : Image → List (ℤ × Item) → ℕ → List (ℕ × Event) → Type 0
ReleasesOk p script bound lines = releases_in lines ≡ owed_by p (first_account script) (history p script bound)

-- and so do those of every run
abbrev pub RunsTellReleases : Type 0
RunsTellReleases =
    (p : Image) (script : List (ℤ × Item)) (bound : ℕ) → ReleasesOk p script bound (run_of p script bound)
