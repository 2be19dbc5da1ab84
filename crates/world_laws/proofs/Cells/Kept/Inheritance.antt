-- Inherited priorities: each step keeps the cells right.
use Rattle.std.specs.Prelude.{ℕ}
use Rattle.trace_text.specs.declared.events.Who.{Who}
use Rattle.profile_image.specs.declared.image.Image.{Image}
use Rattle.profile_machine.specs.declared.world.tasks.Cause.{Cause}
use Rattle.profile_machine.specs.Inheritance.{inherit, lose, inherit_running, lose_running}
use Rattle.world_laws.proofs.Cells.RightCells.{Keeps, Alters, then-keeps, changes-keeps, looks-keeps, when-keeps}
use Rattle.world_laws.proofs.Cells.Kept.Tasks.{edit_task-alters}
use Rattle.world_laws.proofs.Cells.Kept.Dispatching.{to_head-keeps}

pub inherit-alters : {p : Image} (name : Who) (cause : Cause) (level : ℕ) → Alters p (inherit name cause level)
inherit-alters name cause level = search (edit_task-alters)

pub lose-alters : {p : Image} (name : Who) (cause : Cause) → Alters p (lose name cause)
lose-alters name cause = search (edit_task-alters)

pub inherit_running-keeps : (p : Image) (name : Who) (cause : Cause) (level : ℕ) → Keeps p (inherit_running p name cause level)
unfolding inherit_running
inherit_running-keeps p name cause level = search (looks-keeps, changes-keeps, inherit-alters, then-keeps, when-keeps, to_head-keeps) depth 10

pub lose_running-keeps : (p : Image) (name : Who) (cause : Cause) → Keeps p (lose_running p name cause)
unfolding lose_running
lose_running-keeps p name cause = search (looks-keeps, changes-keeps, lose-alters, then-keeps, when-keeps, to_head-keeps) depth 10
