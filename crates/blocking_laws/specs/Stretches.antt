-- Stretches of a list of lines: parts in which priorities change by protected actions alone. At first no action is
-- open; who has none open stands at most at its base priority; and no base priority is set (D.1, D.3, D.5.1).
use Rattle.std.specs.Prelude.{◌≡◌, ℕ, ℤ, ◌≤◌, Bool, true, false, ◌&&◌, ◌||◌}
use Rattle.std.specs.Prelude.{nat_lt, nat_le, IsTrue, List, [], Option, Some, None}
use Rattle.std.specs.List.{list_all, list_any}
use Rattle.ann_base.specs.Lists.{is_empty}
use Rattle.trace_text.specs.declared.events.Action.{Action}
use Rattle.trace_text.specs.declared.events.Entry.{Entry}
use Rattle.trace_text.specs.declared.events.Event.{Event}
use Rattle.trace_text.specs.declared.events.Event.TheVariants.{Base}
use Rattle.trace_text.specs.declared.events.Who.{Who}
use Rattle.trace_text.specs.Laws.{actions_after, base_of, bases_after}
use Rattle.trace_text.specs.Queue.{TraceLine, queue_after, runner_after, seen_from, up_to, who_eq}
use Rattle.blocking_laws.specs.Windows.{AtLinesBehind, AtTicksFrom, follows_lines_behind, follows_ticks_from}

-- what lines show of blocking: the ready queues, who runs, the protected actions that are open, and the base priorities
pub record Past : Type 0 where
  pub queue : List Entry
  pub runner : Option Who
  pub actions : List Action
  pub bases : List (ℕ × ℕ)

abbrev pub nothing_past : Past
nothing_past = record { queue = []; runner = None; actions = []; bases = [] }

abbrev pub past_after : Past → Event → Past
past_after past event = record {
  queue = queue_after past.queue event;
  runner = runner_after past.runner event;
  actions = actions_after past.actions event;
  bases = bases_after past.bases event;
}

-- behind all lines up to a tick
abbrev pub past_at : ℕ → List TraceLine → Past
past_at tick lines = seen_from past_after nothing_past (up_to tick lines)

-- somebody has a protected action open
abbrev pub has_open : Who → List Action → Bool
has_open who = list_any (λ action. who_eq who action.who)

-- A level that is at most this base priority, and below it where there is a deadline. Of the agent, whose base priority
-- no line tells, nothing is asked.
abbrev pub is_own_level : Option ℕ → ℕ → Option ℤ → Bool
is_own_level None level deadline = true
is_own_level (Some base) level None = nat_le level base
is_own_level (Some base) level (Some deadline) = nat_lt level base

-- nobody has inherited a priority, unless it has a protected action open
abbrev pub is_plain : Past → Bool
is_plain past = list_all (λ entry. has_open entry.who past.actions
    || is_own_level (base_of entry.who past.bases) entry.level entry.deadline) past.queue

abbrev pub sets_no_base : Event → Bool
sets_no_base (Base task level) = false
sets_no_base _ = true

-- from behind one tick to behind another
pub record Stretch (first last : ℕ) (lines : List TraceLine) : Type 0 where
  pub order : first ≤ last
  pub free : (past_at first lines).actions ≡ []
  pub plain : AtTicksFrom past_after nothing_past first last (λ past. IsTrue (is_plain past)) lines
  pub bases : AtLinesBehind first last sets_no_base lines

abbrev pub is_stretch : ℕ → ℕ → List TraceLine → Bool
is_stretch first last lines = nat_le first last && is_empty (past_at first lines).actions
    && follows_ticks_from past_after is_plain first last 0 nothing_past lines
    && follows_lines_behind first last sets_no_base lines
