-- Blocked at most once: laws of the stretches of a list of lines (D.2.1, D.3). Nothing here knows how the lines came
-- about.
use Rattle.std.specs.Prelude.{◌≡◌, ℕ, ◌<◌, ◌≤◌, Bool, true, false, nat_lt, nat_le, IsTrue, List, Option, Some, None}
use Rattle.ann_base.specs.declared.identities.TaskNo.{TaskNo}
use Rattle.trace_text.specs.declared.events.Entry.{Entry}
use Rattle.trace_text.specs.declared.events.Event.{Event}
use Rattle.trace_text.specs.declared.events.Event.TheVariants.{Held}
use Rattle.trace_text.specs.declared.events.Who.{Who}
use Rattle.trace_text.specs.declared.events.Who.TheVariants as subject
use Rattle.trace_text.specs.Laws.{base_of, level_of}
use Rattle.trace_text.specs.Queue.{TraceLine, entry_of, last_from}
use Rattle.blocking_laws.specs.Stretches.{Past, Stretch, has_open, nothing_past, past_after, past_at}
use Rattle.blocking_laws.specs.Windows.{AtLinesBehind, AtTicksFrom}

-- NEVER HELD. In a stretch no call finds its object held.
abbrev pub finds_none_held : Event → Bool
finds_none_held (Held who object mode) = false
finds_none_held _ = true

abbrev pub NeverHeldOk : List TraceLine → Type 0
NeverHeldOk lines = (first last : ℕ) → Stretch first last lines → AtLinesBehind first last finds_none_held lines

-- BLOCKED ONCE. While a task stands in the ready queues at its base priority at least, one task of lower base priority
-- runs at most, and only in protected actions, of which one was open when the task came there.
abbrev pub is_from : Option ℕ → Option Entry → Bool
is_from None entry = false
is_from (Some level) None = false
is_from (Some level) (Some entry) = nat_le level entry.level

-- a task stands in the ready queues at its base priority, or above it
abbrev pub stands_at_base : TaskNo → Past → Bool
stands_at_base task past = is_from (level_of task.0 past.bases) (entry_of (subject.Task task) past.queue)

abbrev pub is_above : ℕ → Option ℕ → Bool
is_above level None = false
is_above level (Some other) = nat_lt level other

abbrev pub is_lower : Option ℕ → Option ℕ → Bool
is_lower None other = false
is_lower (Some level) other = is_above level other

abbrev pub base_of_runner : Option Who → List (ℕ × ℕ) → Option ℕ
base_of_runner None bases = None
base_of_runner (Some who) bases = base_of who bases

-- who runs is a task of lower base priority
abbrev pub runs_lower : TaskNo → Past → Bool
runs_lower task past = is_lower (base_of_runner past.runner past.bases) (level_of task.0 past.bases)

-- a task stands there behind each tick from one to another
abbrev pub Waits : TaskNo → ℕ → ℕ → List TraceLine → Type 0
Waits task begun until = AtTicksFrom past_after nothing_past begun until (λ past. IsTrue (stands_at_base task past))

-- At each of these ticks at which a task of lower base priority runs it is this one, and behind all ticks up to that
-- one it has had an action open.
pub record BlockedBy (who : Who) (task : TaskNo) (begun until : ℕ) (lines : List TraceLine) : Type 0 where
  pub runs : (tick : ℕ) → begun ≤ tick → tick ≤ until → tick < last_from 0 lines
      → runs_lower task (past_at tick lines) ≡ true → (past_at tick lines).runner ≡ Some who
  pub inside : (tick : ℕ) → begun ≤ tick → tick ≤ until → tick < last_from 0 lines
      → runs_lower task (past_at tick lines) ≡ true
      → AtTicksFrom past_after nothing_past begun tick (λ past. IsTrue (has_open who past.actions)) lines

-- at none of them does such a task run
abbrev pub NeverBlocked : TaskNo → ℕ → ℕ → List TraceLine → Type 0
NeverBlocked task begun until lines = (tick : ℕ) → begun ≤ tick → tick ≤ until → tick < last_from 0 lines
    → runs_lower task (past_at tick lines) ≡ false

-- who stands there from the first tick of the stretch on is never blocked
pub record BlockedOnce (task : TaskNo) (first begun until : ℕ) (lines : List TraceLine) : Type 0 where
  pub who : Who
  pub by : BlockedBy who task begun until lines
  pub at_first : begun ≡ first → NeverBlocked task begun until lines

abbrev pub BlockedOnceOk : List TraceLine → Type 0
BlockedOnceOk lines = (first last : ℕ) → Stretch first last lines → (task : TaskNo) (begun until : ℕ) → first ≤ begun
    → begun ≤ until → until ≤ last → Waits task begun until lines → BlockedOnce task first begun until lines
