-- No number of a task is given twice, and only tasks whose base priority is told are placed: laws on lists of lines, of
-- every run (9.1, D.1, D.2.1).
use Rattle.std.specs.Prelude.{ℕ, ℤ, Bool, true, IsTrue, List, [], is_none, is_some}
use Rattle.trace_text.specs.declared.events.Created.TheVariants as created
use Rattle.trace_text.specs.declared.events.Event.{Event}
use Rattle.trace_text.specs.declared.events.Event.TheVariants.{New, Ready}
use Rattle.trace_text.specs.declared.events.Who.{Who}
use Rattle.trace_text.specs.declared.events.Who.TheVariants as subject
use Rattle.trace_text.specs.Laws.{bases_after, level_of}
use Rattle.trace_text.specs.Queue.{TraceLine, AtEachLine}
use Rattle.profile_image.specs.declared.image.Image.{Image}
use Rattle.profile_image.specs.declared.script_items.Item.{Item}
use Rattle.profile_machine.specs.Run.{run_of}

-- the number of a task that is made is new
abbrev pub is_task_new : List (ℕ × ℕ) → Event → Bool
is_task_new bases (New (created.Task task) name level) = is_none (level_of task.0 bases)
is_task_new bases _ = true

abbrev pub TasksAreNewOk : List TraceLine → Type 0
TasksAreNewOk = AtEachLine bases_after [] (λ bases event. IsTrue (is_task_new bases event))

abbrev pub RunsNumberTasks : Type 0
RunsNumberTasks = (p : Image) (script : List (ℤ × Item)) (bound : ℕ) → TasksAreNewOk (run_of p script bound)

-- a task that is placed has a base priority
abbrev pub has_base : List (ℕ × ℕ) → Who → Bool
has_base bases (subject.Task task) = is_some (level_of task.0 bases)
has_base bases subject.Agent = true

abbrev pub places_known : List (ℕ × ℕ) → Event → Bool
places_known bases (Ready who level end deadline) = has_base bases who
places_known bases _ = true

abbrev pub PlacedAreKnownOk : List TraceLine → Type 0
PlacedAreKnownOk = AtEachLine bases_after [] (λ bases event. IsTrue (places_known bases event))

abbrev pub RunsPlaceKnown : Type 0
RunsPlaceKnown = (p : Image) (script : List (ℤ × Item)) (bound : ℕ) → PlacedAreKnownOk (run_of p script bound)
