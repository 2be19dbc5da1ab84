-- Dispatching: each step keeps the cells right.
use Rattle.trace_text.specs.declared.events.Who.{Who}
use Rattle.trace_text.specs.declared.events.QueueEnd.{QueueEnd}
use Rattle.profile_image.specs.declared.image.Image.{Image}
use Rattle.profile_machine.specs.declared.world.tasks.Waiting.{Waiting}
use Rattle.profile_image.specs.Program.{edf_low}
use Rattle.profile_machine.specs.declared.world.lines.Part.{Part}
use Rattle.profile_machine.specs.Dispatching.{level_kept_by, keep_level, says_ready, granted, grant_quantum, to_tail, to_head, ready, says_block, block}
use Rattle.world_laws.proofs.Cells.RightCells.{Keeps, Alters, then-keeps, changes-keeps, says-keeps, looks-keeps}
use Rattle.world_laws.proofs.Cells.Kept.Tasks.{edit_task-alters}

-- ---- the level of a task on an EDF range that is activated or released (D.2.6; own wording)

pub keep_level-alters : (p : Image) (name : Who) → Alters p (keep_level p name)
keep_level-alters p name = record { at = λ w right. (edit_task-alters name (λ t. record t { kept_level = level_kept_by p w t (edf_low p t.base) })).at w right }

-- ---- placing (D.2.1, D.2.3, D.2.5, D.2.6)

pub says_ready-keeps : (p : Image) (part : Part) (name : Who) (end : QueueEnd) → Keeps p (says_ready p part name end)
unfolding says_ready
says_ready-keeps p part name end = search (looks-keeps, says-keeps)

pub grant_quantum-alters : (p : Image) (name : Who) → Alters p (grant_quantum p name)
grant_quantum-alters p name = record { at = λ w right. (edit_task-alters name (granted p w.quanta)).at w right }

pub to_tail-keeps : (p : Image) (part : Part) (name : Who) → Keeps p (to_tail p part name)
unfolding to_tail
to_tail-keeps p part name = search (changes-keeps, grant_quantum-alters, then-keeps, says_ready-keeps) depth 7

pub to_head-keeps : (p : Image) (part : Part) (name : Who) → Keeps p (to_head p part name)
unfolding to_head
to_head-keeps p part name = search (says_ready-keeps)

pub ready-keeps : (p : Image) (part : Part) (name : Who) → Keeps p (ready p part name)
unfolding ready
ready-keeps p part name = search (changes-keeps, edit_task-alters, then-keeps, keep_level-alters, to_tail-keeps) depth 10

-- ---- blocking

pub says_block-keeps : {p : Image} (part : Part) (name : Who) (waiting : Waiting) → Keeps p (says_block part name waiting)
unfolding says_block
says_block-keeps part name waiting = search (changes-keeps, edit_task-alters, then-keeps, says-keeps) depth 7

pub block-keeps : {p : Image} (part : Part) (name : Who) (waiting : Waiting) → Keeps p (block part name waiting)
unfolding block
block-keeps part name waiting = search (changes-keeps, edit_task-alters, then-keeps, says_block-keeps) depth 7
