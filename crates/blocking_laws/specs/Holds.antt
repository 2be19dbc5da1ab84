-- The protected actions that lines show as open, each with the number of the line by which it began; and the classical
-- form of blocking: one action, on an object whose ceiling is not below the level of who waits (D.3).
use Rattle.std.specs.Prelude.{◌≡◌, ℕ, zero, suc, ◌+◌, ◌<◌, ◌≤◌, Bool, true, false, ◌&&◌}
use Rattle.std.specs.Prelude.{◌==◌, if◌then◌else◌, IsTrue, List, [], ◌∷◌, Option, Some}
use Rattle.std.specs.List.{list_any}
use Rattle.trace_text.specs.declared.events.Action.{Action}
use Rattle.trace_text.specs.declared.events.Event.{Event}
use Rattle.trace_text.specs.declared.events.Event.TheVariants.{Enter, Exit}
use Rattle.trace_text.specs.declared.events.Who.{Who}
use Rattle.trace_text.specs.Laws.{ceilings_after, level_of}
use Rattle.trace_text.specs.Queue.{TraceLine, entry_of, last_from, seen_from, somebody_eq, up_to, who_eq}
use Rattle.blocking_laws.specs.BlockingLaws.{base_of_runner, is_from, is_lower}
use Rattle.blocking_laws.specs.MovingLaws.{is_within}
use Rattle.blocking_laws.specs.Stretches.{Past, Stretch, nothing_past, past_after, past_at}
use Rattle.blocking_laws.specs.Windows.{AtTicksFrom}

pub record Hold : Type 0 where
  pub action : Action
  pub begun : ℕ

-- how many lines there were, and which actions are open, the last first
pub record Holding : Type 0 where
  pub count : ℕ
  pub holds : List Hold

abbrev pub nothing_held : Holding
nothing_held = record { count = 0; holds = [] }

abbrev pub released : ℕ → Who → List Hold → List Hold
released object who [] = []
released object who (hold ∷ holds) = if object == hold.action.object && who_eq who hold.action.who then holds
    else hold ∷ released object who holds

abbrev pub holds_after : ℕ → List Hold → Event → List Hold
holds_after count holds (Enter who object mode) = record {
  action = record { object = object.0; who = who; mode = mode };
  begun = count;
} ∷ holds
holds_after count holds (Exit who object) = released object.0 who holds
holds_after count holds _ = holds

abbrev pub holding_after : Holding → Event → Holding
holding_after holding event = record {
  count = suc holding.count;
  holds = holds_after holding.count holding.holds event;
}

-- this action is open
abbrev pub has_hold : Hold → List Hold → Bool
has_hold hold = list_any (λ other. hold.begun == other.begun)

-- the ceiling of an object, behind all lines up to a tick
abbrev pub ceiling_at : ℕ → ℕ → List TraceLine → Option ℕ
ceiling_at object tick lines = level_of object (seen_from ceilings_after [] (up_to tick lines))

-- somebody, a task or the agent, stands in the ready queues at a level, or above it
abbrev pub WaitsAt : Who → ℕ → ℕ → ℕ → List TraceLine → Type 0
WaitsAt who level begun until =
    AtTicksFrom past_after nothing_past begun until (λ past. IsTrue (is_from (Some level) (entry_of who past.queue)))

-- who runs is a task whose base priority is below a level
abbrev pub runs_below : ℕ → Past → Bool
runs_below level past = is_lower (base_of_runner past.runner past.bases) (Some level)

-- ONE ACTION. At each of the ticks at which a task of lower base priority runs it runs in one action, which has been
-- open behind all of them, on an object whose ceiling is not below the level; and at none, if it waits from the first
-- tick of the stretch on.
pub record OneAction (level first begun until : ℕ) (lines : List TraceLine) : Type 0 where
  pub hold : Hold
  pub runs : (tick : ℕ) → begun ≤ tick → tick ≤ until → tick < last_from 0 lines
      → runs_below level (past_at tick lines) ≡ true → (past_at tick lines).runner ≡ Some hold.action.who
  pub ceiling : (tick : ℕ) → begun ≤ tick → tick ≤ until → tick < last_from 0 lines
      → runs_below level (past_at tick lines) ≡ true
      → IsTrue (is_within (Some level) (ceiling_at hold.action.object tick lines))
  pub inside : (tick : ℕ) → begun ≤ tick → tick ≤ until → tick < last_from 0 lines
      → runs_below level (past_at tick lines) ≡ true
      → AtTicksFrom holding_after nothing_held begun tick (λ holding. IsTrue (has_hold hold holding.holds)) lines
  pub at_first : begun ≡ first → (tick : ℕ) → begun ≤ tick → tick ≤ until → tick < last_from 0 lines
      → runs_below level (past_at tick lines) ≡ false

abbrev pub OneActionOk : List TraceLine → Type 0
OneActionOk lines = (first last : ℕ) → Stretch first last lines → (who : Who) (level begun until : ℕ) → first ≤ begun
    → begun ≤ until → until ≤ last → WaitsAt who level begun until lines → OneAction level first begun until lines

-- HOW LONG. Of so many ticks, for how many a test holds.
abbrev pub count_ticks : ℕ → ℕ → (ℕ → Bool) → ℕ
count_ticks begun zero test = 0
count_ticks begun (suc count) test = count_ticks begun count test + (if test (begun + count) then 1 else 0)

-- at a tick somebody runs in an action that is open, on an object whose ceiling is not below a level
abbrev pub runs_in : ℕ → Hold → List TraceLine → ℕ → Bool
runs_in level hold lines tick = somebody_eq (past_at tick lines).runner (Some hold.action.who)
    && has_hold hold (seen_from holding_after nothing_held (up_to tick lines)).holds
    && is_within (Some level) (ceiling_at hold.action.object tick lines)

-- Of the ticks at which somebody waits at a level, tasks of lower base priority run at no more than anybody runs in one
-- such action.
abbrev pub BlockingBoundOk : List TraceLine → Type 0
BlockingBoundOk lines =
    (first last : ℕ) → Stretch first last lines → (who : Who) (level begun until : ℕ) → first ≤ begun
    → begun ≤ until → until ≤ last → WaitsAt who level begun until lines → (count most : ℕ) → begun + count ≤ suc until
    → begun + count ≤ last_from 0 lines
    → ((hold : Hold) → count_ticks begun count (runs_in level hold lines) ≤ most)
    → count_ticks begun count (λ tick. runs_below level (past_at tick lines)) ≤ most
