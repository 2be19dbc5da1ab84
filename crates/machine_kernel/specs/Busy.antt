-- Busy ticks: behind a tock, if the action of who ran goes on and nothing is due, its ticks up to the first tick at
-- which something is due pass at once.
use Rattle.std.specs.Prelude.{ℕ, ◌+◌, ◌-◌, min, Bool, not, ◌&&◌, cond, eqb, ltb, Option, Some, None, is_none}
use Rattle.ann_base.specs.Lists.{is_empty}
use Rattle.ann_base.specs.declared.identities.TaskNo.{TaskNo}
use Rattle.trace_text.specs.declared.events.Who.{Who}
use Rattle.trace_text.specs.declared.events.Who.TheVariants as who
use Rattle.profile_image.specs.declared.image.Image.{Image}
use Rattle.profile_image.specs.Program.{is_robin_level}
use Rattle.profile_image.specs.Words.{is_the, same_who}
use Rattle.profile_machine.specs.declared.world.World.{World}
use Rattle.profile_machine.specs.declared.world.tasks.Task.{Task}
use Rattle.profile_machine.specs.Tasks.{task_at, edit_task}
use Rattle.profile_machine.specs.Dispatching.{choose}
use Rattle.machine_kernel.specs.Jump.{first_tick, jumped}

-- ---- how many ticks pass

-- the environment task has not ended, no timer is set, and the tick before made nothing due
abbrev pub is_quiet : World → Bool
is_quiet w = is_none w.ended && is_empty w.timers_set && is_empty w.timers_due && is_none w.budget_due

-- the task is chosen again, belongs to no group budget, and has no quantum
abbrev pub goes_on_alone : Image → World → TaskNo → Task → Bool
goes_on_alone p w n t = is_the same_who (choose w) (who.Task n) && is_none t.budget && not (is_robin_level p t.base)

-- those that are left of the action, up to the first tick at which something is due
abbrev pub ticks_of_action : Image → ℕ → World → TaskNo → Task → Option ℕ → ℕ
ticks_of_action p bound w n t None = 0
ticks_of_action p bound w n t (Some left) =
    cond (ltb 0 left && goes_on_alone p w n t && is_quiet w) (min left (first_tick bound w - w.time)) 0

abbrev pub ticks_of_task : Image → ℕ → World → TaskNo → Option Task → ℕ
ticks_of_task p bound w n None = 0
ticks_of_task p bound w n (Some t) = ticks_of_action p bound w n t t.ticks_left

abbrev pub busy_ticks : Image → ℕ → World → TaskNo → ℕ
busy_ticks p bound w n = ticks_of_task p bound w n (task_at w (who.Task n))

-- ---- they pass

abbrev pub fewer : ℕ → Option ℕ → Option ℕ
fewer ticks None = None
fewer ticks (Some left) = Some (left - ticks)

-- the task has spent so many ticks on its action
abbrev pub worked : ℕ → Task → Task
worked ticks t = record t { cpu_ticks = t.cpu_ticks + ticks; ticks_left = fewer ticks t.ticks_left }

abbrev pub behind_work : ℕ → TaskNo → World → World
behind_work ticks n w = record (edit_task (who.Task n) (worked ticks) w) { time = w.time + ticks }

abbrev pub work_passes : ℕ → TaskNo → World → World
work_passes ticks n w = cond (eqb ticks 0) w (behind_work ticks n w)

-- behind a tick of a task
abbrev pub passed_by : Image → ℕ → World → Option Who → World
passed_by p bound w None = w
passed_by p bound w (Some who.Agent) = w
passed_by p bound w (Some (who.Task n)) = work_passes (busy_ticks p bound w n) n w

-- a busy world goes on at the first tick at which its action is over or something is due, or at the bound
unfoldable pub worked_on : Image → ℕ → World → World
worked_on p bound w = passed_by p bound w w.ran

-- the idle ticks pass, or the busy ones
abbrev pub passed : Image → ℕ → World → World
passed p bound w = worked_on p bound (jumped bound w)
