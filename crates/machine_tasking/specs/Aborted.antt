-- Whether an abort of a task strikes another.
use Rattle.std.specs.Prelude.{Bool, ◌||◌}
use Rattle.ann_base.specs.declared.identities.TaskNo.{TaskNo}
use Rattle.trace_text.specs.declared.events.Who.TheVariants as who
use Rattle.profile_machine.specs.declared.world.World.{World}
use Rattle.profile_machine.specs.declared.world.tasks.Task.{Task}
use Rattle.profile_image.specs.Words.{same_who}
use Rattle.profile_machine.specs.Masters.{depends_on_task}

-- it is the task itself, or depends on it
abbrev pub is_struck_by : World → Task → TaskNo → Bool
is_struck_by w t n = same_who (who.Task n) t.who || depends_on_task w (who.Task n) t
