-- What a step keeps of a task while the world changes, and a task of which that is kept.
use Rattle.std.specs.Prelude.{Bool, true, false, List, map}
use Rattle.profile_machine.specs.declared.world.tasks.State.{State}
use Rattle.profile_machine.specs.declared.world.tasks.State.TheVariants.{Made, Runnable}
use Rattle.profile_machine.specs.declared.world.tasks.Task.{Task}
use Rattle.profile_machine.specs.Tasks.{new_task, is_made}
use Rattle.machine_tasking.specs.declared.kept.Kept.{Kept}

abbrev pub kept_of : Task → Kept
kept_of t = record { who = t.who; is_made = is_made t; unit = t.unit; outer = t.outer }

abbrev pub state_kept : Bool → State
state_kept true = Made
state_kept false = Runnable

-- a task of which this is kept
abbrev pub task_kept : Kept → Task
task_kept k = record (new_task k.who 0 (state_kept k.is_made)) { unit = k.unit; outer = k.outer }

-- the tasks of which these are kept
abbrev pub tasks_kept : List Kept → List Task
tasks_kept = map task_kept
