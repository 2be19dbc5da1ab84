-- What tasks and a world end as, where a `&mut` to a task in them is returned.
use Rattle.std.specs.Prelude.{Option, List}
use Rattle.std.specs.Borrow.{LendsIf, Fml, MutBor}
use Rattle.trace_text.specs.declared.events.Who.{Who}
use Rattle.rosters.specs.contracts.roster.Roster.{the_row as roster_row}
use Rattle.profile_machine.specs.contracts.world.tasks.Task.{the_row as task_row}
use Rattle.profile_machine.specs.contracts.world.tasks.TaskNumbered.TheImpl.{ghosts as task_numbered}
use Rattle.profile_machine.specs.contracts.world.World.{the_row as world_row}
use Rattle.profile_machine.specs.declared.world.tasks.Task.{Task}
use Rattle.profile_machine.specs.declared.world.World.{World}
use Rattle.profile_machine.specs.Tasks.{is_who, with_task}
use Rattle.profile_image.specs.Words.{set_where}

-- the tasks end with the last value behind r in the place of the first with this name, and at `None` stay as they are
abbrev pub lends_found : MutBor (List Task) → Who → Option (MutBor Task) → Fml
lends_found s name r =
    LendsIf (roster_row task_row task_numbered) task_row s r (λ t. set_where (is_who name) t s.now) s.now

-- the world ends with the last value behind r in the place of the task with this name, and at `None` stays as it is
abbrev pub lends_task : MutBor World → Who → Option (MutBor Task) → Fml
lends_task s name r = LendsIf world_row task_row s r (λ t. with_task name t s.now) s.now
