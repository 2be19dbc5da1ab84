-- At which level lines show somebody: those of an effect, and those of a run.
use Rattle.ceiling_laws.specs.CeilingLaws.{edf_is_below_interrupts}
use Rattle.ceiling_laws.specs.Puts.{last_put, place_by, with_put}
use Rattle.ceiling_laws.specs.RunLaws.{Tells, levels_told}
use Rattle.profile_machine.specs.Dispatching.{active_of, block, ready, to_head, to_tail}
use Rattle.profile_machine.specs.Instant.{budgets_due, events_due, is_over, moments_due}
use Rattle.profile_machine.specs.Instant.{quantum_spent, script_items, timers_due}
use Rattle.profile_machine.specs.Run.{run_of, tock}
use Rattle.profile_machine.specs.Steps.{Done, done, settled, ◌▶◌}
use Rattle.profile_machine.specs.Tasks.{is_runnable, task_at, task_of, waiting_of}
use Rattle.profile_image.specs.declared.image.Image.{Image}
use Rattle.profile_image.specs.declared.script_items.Item.{Item}
use Rattle.profile_machine.specs.declared.world.World.{World}
use Rattle.profile_machine.specs.declared.world.lines.Part.{Part}
use Rattle.profile_machine.specs.declared.world.lines.Said.{Said}
use Rattle.profile_machine.specs.declared.world.tasks.Task.{Task}
use Rattle.profile_machine.specs.declared.world.tasks.Waiting.{Waiting}
use Rattle.std.specs.Prelude.{IsTrue, List, None, Option, Some, false, true, ℕ, ℤ, ◌≡◌, ◌≤◌}
use Rattle.trace_text.specs.Laws.{CeilingOk, Levels, no_levels}
use Rattle.trace_text.specs.Queue.{entry_of}
use Rattle.trace_text.specs.declared.events.Entry.{Entry}
use Rattle.trace_text.specs.declared.events.Event.{Event}
use Rattle.trace_text.specs.declared.events.Who.{Who}

abbrev pub level_in : Option Entry → Option ℕ
level_in None = None
level_in (Some entry) = Some entry.level

-- the level at which somebody stands in the queue that lines show
abbrev pub level_shown : Who → Levels → Option ℕ
level_shown name sight = level_in (entry_of name sight.entries)

-- The lines of an effect, in their order, show everybody where that line leaves it that comes last by its part, and of
-- those of one part the one that was said last; where no line speaks of its place, as before.
abbrev pub EffectsPlaceByTheLast : Type 0
EffectsPlaceByTheLast = (p : Image) (w : World) (said : List Said) (sight : Levels) (name : Who)
    → level_shown name (levels_told sight (settled p (done w said)).1)
    ≡ place_by (last_put name said) (level_shown name sight)

-- ---- single steps

-- a step has said that somebody stands at the active priority that it has behind the step
abbrev pub PlacesAtActive : Image → Part → Who → List Said → Done → Type 0
PlacesAtActive p part name said (done w more) = last_put name more
    ≡ with_put (last_put name said) part (Some (Some (active_of p w name)))

-- it has said that somebody stands nowhere
abbrev pub TakesOut : Part → Who → List Said → Done → Type 0
TakesOut part name said (done w more) = last_put name more ≡ with_put (last_put name said) part (Some None)

-- Who becomes ready, and who goes to the head or the tail, is placed at its active priority behind that (D.2.1).
abbrev pub ReadyPlaces : Type 0
ReadyPlaces = (p : Image) (part : Part) (name : Who) (w : World) (said : List Said)
    → PlacesAtActive p part name said (ready p part name w said)

abbrev pub TailPlaces : Type 0
TailPlaces = (p : Image) (part : Part) (name : Who) (w : World) (said : List Said)
    → PlacesAtActive p part name said (to_tail p part name w said)

abbrev pub HeadPlaces : Type 0
HeadPlaces = (p : Image) (part : Part) (name : Who) (w : World) (said : List Said)
    → PlacesAtActive p part name said (to_head p part name w said)

-- who blocks is taken out
abbrev pub BlockTakesOut : Type 0
BlockTakesOut = (part : Part) (name : Who) (waiting : Waiting) (w : World) (said : List Said)
    → TakesOut part name said (block part name waiting w said)

-- ---- instants and runs

abbrev pub IsAtMost : Option ℕ → ℕ → Type 0
IsAtMost None limit = Unit {0}
IsAtMost (Some level) limit = level ≤ limit

-- everybody who stands in the queue that lines show stands at or below its active priority
abbrev pub AreAtMostActive : Image → Levels → World → Type 0
AreAtMostActive p sight w = (name : Who) → IsAtMost (level_shown name sight) (active_of p w name)

-- What comes about in an instant beside the effect of who acts leaves it so: in any world, whatever its lines have
-- shown.
abbrev pub OthersKeepPlaces : Type 0
OthersKeepPlaces = (p : Image) (w : World) (sight : Levels) → AreAtMostActive p sight w
    → let behind =
    (script_items p ▶ events_due p ▶ moments_due p ▶ timers_due p ▶ budgets_due p ▶ quantum_spent p) w in
    AreAtMostActive p (levels_told sight behind.1) behind.0

-- and so does a tock
abbrev pub TocksKeepPlaces : Type 0
TocksKeepPlaces = (p : Image) (w : World) (sight : Levels) → AreAtMostActive p sight w
    → AreAtMostActive p (levels_told sight (tock p w).1) (tock p w).0

-- nobody who waits stands in the queue that lines show
abbrev pub AreWaitersOut : Levels → World → Type 0
AreWaitersOut sight w = (name : Who) (waiting : Waiting) → waiting_of w name ≡ Some waiting
    → level_shown name sight ≡ None

-- What comes about beside the effect of who acts, and a tock, leave that so too.
abbrev pub OthersKeepWaitersOut : Type 0
OthersKeepWaitersOut = (p : Image) (w : World) (sight : Levels) → AreWaitersOut sight w
    → let behind =
    (script_items p ▶ events_due p ▶ moments_due p ▶ timers_due p ▶ budgets_due p ▶ quantum_spent p) w in
    AreWaitersOut (levels_told sight behind.1) behind.0

abbrev pub TocksKeepWaitersOut : Type 0
TocksKeepWaitersOut = (p : Image) (w : World) (sight : Levels) → AreWaitersOut sight w
    → AreWaitersOut (levels_told sight (tock p w).1) (tock p w).0

-- So it is in every run: before each instant everybody who is shown stands at or below its active priority (D.1,
-- D.2.1).
abbrev pub RunsPlaceAtMostActive : Type 0
RunsPlaceAtMostActive = (p : Image) (script : List (ℤ × Item)) (bound : ℕ) (lines : List Event) (w : World)
    → Tells p script bound lines w → AreAtMostActive p (levels_told no_levels lines) w

-- who is there and is not ready does not stand in the queue that lines show
abbrev pub AreOthersOut : Levels → World → Type 0
AreOthersOut sight w = (name : Who) (x : Task) → task_at w name ≡ Some x → is_runnable x ≡ false
    → level_shown name sight ≡ None

-- And nobody stands there who waits or has only been made; whose action has ended is ready (D.2.1).
abbrev pub RunsShowWhoIsReady : Type 0
RunsShowWhoIsReady = (p : Image) (script : List (ℤ × Item)) (bound : ℕ) (lines : List Event) (w : World)
    → Tells p script bound lines w
    → AreOthersOut (levels_told no_levels lines) w
    × ((name : Who) → w.ran ≡ Some name → is_over (task_of w name).ticks_left ≡ true
    → is_runnable (task_of w name) ≡ true)

-- Every run keeps the law of ceilings, of a source whose interrupts have no deadlines (D.3).
abbrev pub RunsKeepCeilings : Type 0
RunsKeepCeilings = (p : Image) → IsTrue (edf_is_below_interrupts p) → (script : List (ℤ × Item)) (bound : ℕ)
    → CeilingOk (run_of p script bound)
