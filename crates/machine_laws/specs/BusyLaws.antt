-- Busy stretches: while an action of several ticks goes on and nothing is due, only its ticks pass.
use Rattle.std.specs.Prelude.{◌≡◌, ℕ, ◌+◌, ◌≤◌, false, [], Some, None}
use Rattle.ann_base.specs.declared.identities.TaskNo.{TaskNo}
use Rattle.trace_text.specs.declared.events.Who.TheVariants as who
use Rattle.profile_image.specs.declared.image.Image.{Image}
use Rattle.profile_image.specs.Program.{is_robin_level}
use Rattle.profile_machine.specs.declared.world.World.{World}
use Rattle.profile_machine.specs.declared.world.tasks.Task.{Task}
use Rattle.profile_machine.specs.Tasks.{task_at, with_task}
use Rattle.profile_machine.specs.Dispatching.{choose}
use Rattle.profile_machine.specs.Run.{run_from}
use Rattle.machine_laws.specs.IdleLaws.{NoneBefore, FirstNotBefore}

-- the task with this execution time, so many ticks left of its action, and no group budget
abbrev pub working : Task → ℕ → ℕ → Task
working t clock left = record t { cpu_ticks = clock; ticks_left = Some left; budget = None }

-- the world at this tick, behind a tick of the task with this number, which is now t: the environment task has not
-- ended, no timer is set, and the tick made nothing due
abbrev pub behind_tick_of : TaskNo → World → ℕ → Task → World
behind_tick_of n w now t = record (with_task (who.Task n) t w) {
  time = now;
  ran = Some (who.Task n);
  ended = None;
  timers_set = [];
  timers_due = [];
  budget_due = None;
}

-- the same at a tick at which the task, t otherwise, has this execution time, and so many ticks left of its action
abbrev pub busy_at : TaskNo → World → Task → ℕ → ℕ → ℕ → World
busy_at n w t now clock left = behind_tick_of n w now (working t clock left)

-- what is left of a run from a busy world in which the task is chosen, and its level is not round robin, is what is
-- left of it from the same world up to so many ticks later as are left of its action, if neither an appointment nor an
-- item of the script nor the bound comes before
abbrev pub BusyStretches : Type 0
BusyStretches =
    (p : Image) (bound : ℕ) (n : TaskNo) (w : World) (t : Task) (now clock left k fuel : ℕ) → now + k ≤ bound
    → task_at w (who.Task n) ≡ Some t → choose w ≡ Some (who.Task n) → is_robin_level p t.base ≡ false
    → NoneBefore (now + k) w.appointments → FirstNotBefore (now + k) w.script
    → run_from (k + fuel) p bound (busy_at n w t now clock (k + left))
    ≡ run_from fuel p bound (busy_at n w t (now + k) (clock + k) left)
