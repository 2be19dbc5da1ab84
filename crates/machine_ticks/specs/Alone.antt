-- What a tick does with an action, and the same of a task that is charged alone: one that belongs to no group, where no
-- timer is set. Nothing becomes due by such a tick.
use Rattle.std.specs.Prelude.{ℕ, ◌-◌, cond, is_none, [], Option, Some, None, unwrap_or}
use Rattle.ann_base.specs.Lists.{is_empty}
use Rattle.ann_base.specs.declared.identities.TaskNo.{TaskNo}
use Rattle.trace_text.specs.declared.events.Who.{Who}
use Rattle.trace_text.specs.declared.events.Who.TheVariants as who
use Rattle.profile_image.specs.declared.image.Image.{Image}
use Rattle.profile_machine.specs.declared.world.World.{World}
use Rattle.profile_machine.specs.declared.world.tasks.Task.{Task}
use Rattle.profile_machine.specs.Cost.{cost}
use Rattle.profile_machine.specs.Handlers.{charge}
use Rattle.profile_machine.specs.Run.{begin_action, spend_tick}
use Rattle.profile_machine.specs.Tasks.{task_at, edit_task, with_ticks}
use Rattle.machine_releases.specs.Alone.{charged_itself}

-- an action begins or goes on, and one tick of it is charged and spent
abbrev pub ticked : Image → Who → World → World
ticked p name w = spend_tick name (charge p name (begin_action p name w))

-- the ticks of the action that has begun, or else of the one that begins now, of a task without a group
abbrev pub ticks_without_group : ℕ → Option Task → Option ℕ
ticks_without_group begun None = None
ticks_without_group begun (Some t) = cond (is_none t.budget) (Some (unwrap_or t.ticks_left begun)) None

-- the same, of a task that is charged alone
abbrev pub ticks_alone : Image → Who → World → Option ℕ
ticks_alone p name w = cond (is_empty w.timers_set) (ticks_without_group (cost p w name) (task_at w name)) None

abbrev pub ticked_itself : Image → ℕ → Task → Task
ticked_itself p ticks t = with_ticks (Some (ticks - 1)) (charged_itself p t)

-- one tick of an action of so many ticks, by one edit of its task
abbrev pub ticked_alone : Image → TaskNo → ℕ → World → World
ticked_alone p n ticks w = record (edit_task (who.Task n) (ticked_itself p ticks) w) {
  timers_due = [];
  budget_due = None;
}
