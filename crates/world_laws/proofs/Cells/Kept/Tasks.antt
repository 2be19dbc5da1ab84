-- Edits of a task leave the scopes in use alone.
use Rattle.std.specs.Prelude.{Option, Some, None}
use Rattle.trace_text.specs.declared.events.Who.{Who}
use Rattle.trace_text.specs.declared.events.Who.TheVariants as who
use Rattle.profile_machine.specs.declared.world.World.{World}
use Rattle.profile_machine.specs.declared.world.tasks.Task.{Task}
use Rattle.profile_machine.specs.Tasks.{task_at, with_task, edit_task_found, edit_task}
use Rattle.profile_image.specs.declared.image.Image.{Image}
use Rattle.world_laws.proofs.Cells.RightCells.{Right, Alters}

-- ---- changing

pub with_task-alters : {p : Image} (name : Who) (t : Task) → Alters p (with_task name t)
unfolding Right
with_task-alters (who.Task n) t = record { at = λ w right. right }
with_task-alters who.Agent t = record { at = λ w right. right }

edit_found-right : (p : Image) (name : Who) (f : Task → Task) (w : World) (found : Option Task) → Right p w → Right p (edit_task_found name f w found)
edit_found-right p name f w None right = right
edit_found-right p name f w (Some t) right = (with_task-alters {p = p} name (f t)).at w right

pub edit_task-alters : {p : Image} (name : Who) (f : Task → Task) → Alters p (edit_task name f)
edit_task-alters {p = p} name f = record { at = λ w right. edit_found-right p name f w (task_at w name) right }
