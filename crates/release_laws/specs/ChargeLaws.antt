-- A tick is charged to who has it (D.14): the clock of the task that runs rises by one, and the budget of its group
-- falls by one where it is positive. No other clock and no other budget changes; the agent is charged nothing (own).
use Rattle.std.specs.Prelude.{◌≡◌, ℕ, suc, Bool, cond, ◌&&◌, List, Option, Some, None, is_some}
use Rattle.ann_base.specs.declared.identities.TaskNo.{TaskNo}
use Rattle.trace_text.specs.declared.events.Who.{Who}
use Rattle.trace_text.specs.declared.events.Who.TheVariants as who
use Rattle.profile_image.specs.declared.image.Image.{Image}
use Rattle.profile_machine.specs.declared.world.World.{World}
use Rattle.profile_machine.specs.declared.world.appointments.Budget.{Budget}
use Rattle.profile_image.specs.Words.{same_who, is_the, edit_at}
use Rattle.profile_machine.specs.Tasks.{found_task, task_of}
use Rattle.profile_machine.specs.Handlers.{charged_budget}
use Rattle.profile_machine.specs.Run.{tock}
use Rattle.release_laws.specs.ReleaseLaws.{clock_of}

abbrev pub is_there : World → TaskNo → Bool
is_there w t = is_some (found_task (who.Task t) w.tasks)

-- the task runs, and is there
abbrev pub runs : World → Option Who → TaskNo → Bool
runs w ran t = is_the same_who ran (who.Task t) && is_there w t

-- the group of the task that runs
abbrev pub group_of : World → Option Who → Option ℕ
group_of w None = None
group_of w (Some (who.Task t)) = (task_of w (who.Task t)).budget
group_of w (Some who.Agent) = None

abbrev pub charged_of : Option ℕ → List Budget → List Budget
charged_of None budgets = budgets
charged_of (Some b) budgets = edit_at b charged_budget budgets

pub record Charges (before after : World) : Type 0 where
  pub clocks : (t : TaskNo) → clock_of after t
      ≡ cond (runs before after.ran t) (suc (clock_of before t)) (clock_of before t)
  pub budgets : after.budgets ≡ charged_of (group_of before after.ran) before.budgets

-- of any world
abbrev pub TocksCharge : Type 0
TocksCharge = (p : Image) (w : World) → Charges w (tock p w).0
