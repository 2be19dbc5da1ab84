-- Exclusion, whole: what the law of traces says of `enter`, `exit` and `held` lines (9.5.1).
use Rattle.std.specs.Prelude.{◌≡◌, ℕ, ℤ, Bool, true, false, List, Option, Some, None}
use Rattle.ann_base.specs.declared.identities.TaskNo.{TaskNo}
use Rattle.trace_text.specs.declared.events.Action.{Action}
use Rattle.trace_text.specs.declared.events.Event.{Event}
use Rattle.trace_text.specs.declared.events.Event.TheVariants as line
use Rattle.trace_text.specs.declared.events.Who.TheVariants as who
use Rattle.profile_machine.specs.declared.world.tasks.Waiting.{Waiting}
use Rattle.profile_machine.specs.declared.world.tasks.Waiting.TheVariants as waits_for
use Rattle.trace_text.specs.Laws.{is_exclusive, ExclusiveOk}
use Rattle.profile_image.specs.declared.image.Image.{Image}
use Rattle.profile_image.specs.declared.script_items.Item.{Item}
use Rattle.profile_machine.specs.declared.world.World.{World}
use Rattle.profile_machine.specs.Tasks.{task_of, waiting_of}
use Rattle.profile_machine.specs.Instant.{is_over}
use Rattle.profile_machine.specs.Run.{run_of}
use Rattle.machine_laws.specs.Reached.{Comes}

-- for the end of an entry call
abbrev pub is_at_call : Option Waiting → Bool
is_at_call None = false
is_at_call (Some waits_for.Activation) = false
is_at_call (Some waits_for.Moment) = false
is_at_call (Some (waits_for.Call c)) = true
is_at_call (Some (waits_for.EndOfCall c)) = true
is_at_call (Some (waits_for.Accept s)) = false
is_at_call (Some (waits_for.Select accepts delay terminate)) = false
is_at_call (Some (waits_for.Dependents r)) = false
is_at_call (Some waits_for.Release) = false

-- the task that ran last, where it is at the end of an action, waits for no entry call
abbrev pub IsRunnerFree : World → Type 0
IsRunnerFree w = (n : TaskNo) → w.ran ≡ Some (who.Task n) → is_over (task_of w (who.Task n)).ticks_left ≡ true
    → is_at_call (waiting_of w (who.Task n)) ≡ false

-- at each instant of a run
abbrev pub RunnersAreFree : Image → List (ℤ × Item) → ℕ → Type 0
RunnersAreFree p script bound = (w : World) → Comes p script bound w → IsRunnerFree w

-- `exit` closes an action of the same subject that is open
abbrev pub exits_rightly : List Action → Event → Bool
exits_rightly actions (line.Exit who object) = is_exclusive actions (line.Exit who object)
exits_rightly actions event = true

-- where nobody acts that waits for an entry call, a run keeps the whole law of exclusion
abbrev pub FreeRunsKeepExclusion : Type 0
FreeRunsKeepExclusion = (p : Image) (script : List (ℤ × Item)) (bound : ℕ) → RunnersAreFree p script bound
    → ExclusiveOk (run_of p script bound)

-- no task acts while it waits for an entry call, so every run keeps it
abbrev pub RunsKeepExclusion : Type 0
RunsKeepExclusion = (p : Image) (script : List (ℤ × Item)) (bound : ℕ) → ExclusiveOk (run_of p script bound)
