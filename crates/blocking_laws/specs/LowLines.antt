-- A task enters no object whose ceiling is below its base priority, and finds no such object held: a law on lists of
-- lines, of every run (D.3).
use Rattle.std.specs.Prelude.{ℕ, ℤ, Bool, true, IsTrue, List}
use Rattle.ann_base.specs.declared.identities.ObjectNo.{ObjectNo}
use Rattle.trace_text.specs.declared.events.Event.{Event}
use Rattle.trace_text.specs.declared.events.Event.TheVariants.{Enter, Held}
use Rattle.trace_text.specs.declared.events.Who.{Who}
use Rattle.trace_text.specs.declared.events.Who.TheVariants as subject
use Rattle.trace_text.specs.Laws.{Levels, level_of, no_levels, see_levels}
use Rattle.trace_text.specs.Queue.{TraceLine, AtEachLine}
use Rattle.profile_image.specs.declared.image.Image.{Image}
use Rattle.profile_image.specs.declared.script_items.Item.{Item}
use Rattle.profile_machine.specs.Run.{run_of}
use Rattle.blocking_laws.specs.MovingLaws.{is_within}

-- the base priority of a task that comes to an object is not above the ceiling
abbrev pub comes_low : Levels → Who → ObjectNo → Bool
comes_low sight (subject.Task task) object = is_within (level_of task.0 sight.bases) (level_of object.0 sight.ceilings)
comes_low sight subject.Agent object = true

abbrev pub enters_low : Levels → Event → Bool
enters_low sight (Enter who object mode) = comes_low sight who object
enters_low sight (Held who object mode) = comes_low sight who object
enters_low sight _ = true

abbrev pub TasksEnterLowOk : List TraceLine → Type 0
TasksEnterLowOk = AtEachLine see_levels no_levels (λ sight event. IsTrue (enters_low sight event))

abbrev pub RunsEnterLow : Type 0
RunsEnterLow = (p : Image) (script : List (ℤ × Item)) (bound : ℕ) → TasksEnterLowOk (run_of p script bound)
