-- What every world that a run reaches has in common with its lines, as far as ceilings are concerned.
use Rattle.ann_base.specs.declared.identities.TaskNo.{TaskNo}
use Rattle.ceiling_laws.specs.CeilingLaws.{edf_is_below_interrupts}
use Rattle.machine_laws.specs.Reached.{Reached}
use Rattle.profile_machine.specs.Dispatching.{active_of}
use Rattle.profile_machine.specs.Instant.{instant, is_over}
use Rattle.profile_image.specs.Program.{has_edf, interrupt_priority}
use Rattle.profile_machine.specs.Run.{opening, run_of, stop, tock}
use Rattle.profile_machine.specs.Tasks.{found_task, task_at, task_of}
use Rattle.profile_image.specs.declared.image.Image.{Image}
use Rattle.profile_image.specs.declared.script_items.Item.{Item}
use Rattle.profile_machine.specs.declared.world.World.{World}
use Rattle.profile_machine.specs.declared.world.objects.Object.{Object}
use Rattle.profile_machine.specs.declared.world.tasks.Task.{Task}
use Rattle.std.specs.Prelude.{Bool, IsTrue, List, None, Some, [], true, ℕ, ℤ, ◌&&◌, ◌++◌, ◌∷◌, ◌≡◌, ◌≤◌}
use Rattle.trace_text.specs.Laws.{CeilingOk, Levels, base_of, bases_after, ceilings_after}
use Rattle.trace_text.specs.Laws.{is_below_ceiling, level_of, no_levels, see_levels}
use Rattle.trace_text.specs.Queue.{entry_of}
use Rattle.trace_text.specs.declared.events.Entry.{Entry}
use Rattle.trace_text.specs.declared.events.Event.{Event}
use Rattle.trace_text.specs.declared.events.Who.{Who}
use Rattle.trace_text.specs.declared.events.Who.TheVariants as who

-- handlers run at the priority of interrupts: the agent's base priority is set by nobody (own)
abbrev pub AgentKeepsBase : Type 0
AgentKeepsBase = (p : Image) (script : List (ℤ × Item)) (bound : ℕ) (w : World) → Reached p script bound w
    → w.agent.base ≡ interrupt_priority p

-- ---- what lines show, before an instant

-- the ceilings of the protected objects that are there
abbrev pub AreCeilingsShown : List (ℕ × ℕ) → List Object → Type 0
AreCeilingsShown shown [] = Unit {0}
AreCeilingsShown shown (x ∷ xs) = (level_of x.number.0 shown ≡ Some x.ceiling) × AreCeilingsShown shown xs

-- Somebody is shown at a level that is not above its active priority, and with a deadline only where the source has an
-- EDF range and its base priority is shown.
pub record ShowsPlace (p : Image) (w : World) (name : Who) (sight : Levels) : Type 0 where
  pub entry : Entry
  pub found : entry_of name sight.entries ≡ Some entry
  pub level : entry.level ≤ active_of p w name
  pub base : (deadline : ℤ) → entry.deadline ≡ Some deadline
      → (has_edf p ≡ true) × (base_of name sight.bases ≡ Some (task_of w name).base)

-- whose action has ended is shown so
abbrev pub ShowsRunner : Image → World → Levels → Type 0
ShowsRunner p w sight = (name : Who) → w.ran ≡ Some name → is_over (task_of w name).ticks_left ≡ true
    → ShowsPlace p w name sight

-- these lines keep the law of ceilings, from what was shown before them
abbrev pub keep_ceilings : Levels → List Event → Bool
keep_ceilings sight [] = true
keep_ceilings sight (x ∷ xs) = is_below_ceiling sight x && keep_ceilings (see_levels sight x) xs

-- Of any world: where the lines before an instant show who acts and the ceilings, the lines of the instant keep the
-- law: an action begins only in the effect of who is let in, before anything else is said of its level (D.3).
abbrev pub InstantsKeepCeilings : Type 0
InstantsKeepCeilings = (p : Image) (w : World) (sight : Levels) → AreCeilingsShown sight.ceilings w.objects
    → ShowsRunner p w sight → IsTrue (keep_ceilings sight (instant p w).1)

-- and the lines of every tock
abbrev pub TocksKeepCeilings : Type 0
TocksKeepCeilings = (p : Image) (w : World) (sight : Levels) → IsTrue (keep_ceilings sight (tock p w).1)

-- ---- the lines of a run up to a world

-- before an instant: what the opening has said, and each instant and tock since then
pub data Tells (p : Image) (script : List (ℤ × Item)) (bound : ℕ) : List Event → World → Type 0 where
  told_first : Tells p script bound (opening p script).1 (opening p script).0
  told_on : (lines : List Event) (w : World) → Tells p script bound lines w → stop p bound (instant p w).0 ≡ None
      → Tells p script bound ((lines ++ (instant p w).1) ++ (tock p (instant p w).0).1) (tock p (instant p w).0).0

abbrev pub ceilings_told : List (ℕ × ℕ) → List Event → List (ℕ × ℕ)
ceilings_told shown [] = shown
ceilings_told shown (x ∷ xs) = ceilings_told (ceilings_after shown x) xs

-- The lines of a run tell the ceilings of the protected objects that are there, before each instant and behind it
-- (D.3).
abbrev pub CeilingsAreTold : Type 0
CeilingsAreTold = (p : Image) (script : List (ℤ × Item)) (bound : ℕ) (lines : List Event) (w : World)
    → Tells p script bound lines w
    → AreCeilingsShown (ceilings_told [] lines) w.objects
    × AreCeilingsShown (ceilings_told [] (lines ++ (instant p w).1)) (instant p w).0.objects

-- the base priorities of the tasks that are there
abbrev pub AreBasesShown : List (ℕ × ℕ) → World → Type 0
AreBasesShown shown w = (t : TaskNo) (x : Task) → found_task (who.Task t) w.tasks ≡ Some x
    → level_of t.0 shown ≡ Some x.base

abbrev pub bases_told : List (ℕ × ℕ) → List Event → List (ℕ × ℕ)
bases_told shown [] = shown
bases_told shown (x ∷ xs) = bases_told (bases_after shown x) xs

-- The lines of a run tell the base priority of each task that is there, before each instant and behind it (D.5.1).
abbrev pub BasesAreTold : Type 0
BasesAreTold = (p : Image) (script : List (ℤ × Item)) (bound : ℕ) (lines : List Event) (w : World)
    → Tells p script bound lines w
    → AreBasesShown (bases_told [] lines) w × AreBasesShown (bases_told [] (lines ++ (instant p w).1)) (instant p w).0

-- ---- deadlines

-- what all these lines show
abbrev pub levels_told : Levels → List Event → Levels
levels_told sight [] = sight
levels_told sight (x ∷ xs) = levels_told (see_levels sight x) xs

-- Before each instant, in a source whose interrupts have no deadlines: where an entry of the queue that the lines show
-- has a deadline, the source has a range that is dispatched by deadlines, and the entry is of a task, whose base
-- priority is told.
abbrev pub DeadlinesAreOfTasks : Type 0
DeadlinesAreOfTasks = (p : Image) (script : List (ℤ × Item)) (bound : ℕ) (lines : List Event) (w : World)
    → IsTrue (edf_is_below_interrupts p) → Tells p script bound lines w
    → (name : Who) (entry : Entry) (deadline : ℤ)
    → entry_of name (levels_told no_levels lines).entries ≡ Some entry → entry.deadline ≡ Some deadline
    → (has_edf p ≡ true) × ((x : Task) → task_at w name ≡ Some x
    → base_of name (levels_told no_levels lines).bases ≡ Some x.base)

-- ---- the law of ceilings, where the lines place who acts

-- Before each instant of a run, who acts stands in the queue that the lines show.
abbrev pub WhoActsIsShown : Type 0
WhoActsIsShown = (p : Image) (script : List (ℤ × Item)) (bound : ℕ) (lines : List Event) (w : World)
    → Tells p script bound lines w → (name : Who) → w.ran ≡ Some name
    → (entry : Entry) × (entry_of name (levels_told no_levels lines).entries ≡ Some entry)

-- before each instant, whose action has ended stands there at a level that is not above its active priority
abbrev pub ArePlaced : Image → List (ℤ × Item) → ℕ → Type 0
ArePlaced p script bound = (lines : List Event) (w : World) → Tells p script bound lines w → (name : Who)
    → w.ran ≡ Some name → is_over (task_of w name).ticks_left ≡ true
    → (entry : Entry) → entry_of name (levels_told no_levels lines).entries ≡ Some entry
    → entry.level ≤ active_of p w name

-- A run whose lines place who acts keeps the law of ceilings, in a source whose interrupts have no deadlines.
abbrev pub PlacesKeepCeilings : Type 0
PlacesKeepCeilings = (p : Image) (script : List (ℤ × Item)) (bound : ℕ) → IsTrue (edf_is_below_interrupts p)
    → ArePlaced p script bound → CeilingOk (run_of p script bound)
