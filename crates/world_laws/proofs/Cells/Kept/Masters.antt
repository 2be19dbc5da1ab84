-- Completion, termination and masters: each step keeps the cells right.
use Rattle.std.specs.Prelude.{Bool, List, Option, Some, None}
use Rattle.ann_base.specs.declared.identities.RegionNo.{RegionNo}
use Rattle.trace_text.specs.declared.events.Who.{Who}
use Rattle.profile_image.specs.declared.image.Image.{Image}
use Rattle.profile_machine.specs.declared.world.tasks.Task.{Task}
use Rattle.profile_machine.specs.declared.world.calls.Call.{Call}
use Rattle.profile_machine.specs.declared.world.lines.Part.{Part}
use Rattle.profile_machine.specs.Masters.{gone_by_completion, wake_activator, end_group, end_activation_by, end_activation}
use Rattle.profile_machine.specs.Masters.{complete_with, complete, wake_master, forget_task, terminate, leave_by_terminate}
use Rattle.world_laws.proofs.Cells.RightCells.{Right, Keeps, Alters, then-keeps, nothing-keeps, changes-keeps}
use Rattle.world_laws.proofs.Cells.RightCells.{looks-keeps, cond-keeps, when-keeps, for_some-keeps, for_each-keeps}
use Rattle.world_laws.proofs.Cells.Kept.Tasks.{edit_task-alters}
use Rattle.world_laws.proofs.Cells.Kept.Dispatching.{ready-keeps}
use Rattle.world_laws.proofs.Cells.Kept.Frames.{leaves-keeps, raises-keeps, open_sequence-keeps}
use Rattle.world_laws.proofs.Cells.Kept.Appointments.{drop_delay-alters}
use Rattle.world_laws.proofs.Cells.Kept.CallEnds.{end_call-keeps, gone-keeps}

-- ---- completion (9.3)

pub gone_by_completion-keeps : (p : Image) (actor : Who) (c : Call) → Keeps p (gone_by_completion p actor c)
unfolding gone_by_completion
gone_by_completion-keeps p actor c = search (gone-keeps, then-keeps, end_call-keeps) depth 6

-- ---- the end of an activation (9.2)

pub wake_activator-keeps : (p : Image) (part : Part) (name : Who) → Keeps p (wake_activator p part name)
unfolding wake_activator
wake_activator-keeps p part name = search (looks-keeps, ready-keeps, then-keeps, when-keeps, raises-keeps, open_sequence-keeps) depth 10

pub end_group-keeps : (p : Image) (actor activator : Who) → Keeps p (end_group p actor activator)
unfolding end_group
end_group-keeps p actor activator = search (looks-keeps, when-keeps, wake_activator-keeps) depth 6

pub end_activation_by-keeps : (p : Image) (actor name : Who) (failed : Bool) (found : Option Who) → Keeps p (end_activation_by p actor name failed found)
unfolding end_activation_by
end_activation_by-keeps p actor name failed None = search (nothing-keeps)
end_activation_by-keeps p actor name failed (Some activator) = search (changes-keeps, edit_task-alters, then-keeps, end_group-keeps) depth 13

pub end_activation-keeps : (p : Image) (actor name : Who) (failed : Bool) → Keeps p (end_activation p actor name failed)
unfolding end_activation
end_activation-keeps p actor name failed = search (looks-keeps, end_activation_by-keeps)

-- ---- a task is completed, and terminates

pub complete_with-keeps : (p : Image) (actor name : Who) (calls : List Call) (failed : Bool) → Keeps p (complete_with p actor name calls failed)
unfolding complete_with
complete_with-keeps p actor name calls failed =
    search (changes-keeps, edit_task-alters, then-keeps, for_each-keeps, gone_by_completion-keeps, end_activation-keeps) depth 10

pub complete-keeps : (p : Image) (actor name : Who) → Keeps p (complete p actor name)
unfolding complete
complete-keeps p actor name = search (looks-keeps, when-keeps, complete_with-keeps) depth 6

pub wake_master-keeps : (p : Image) (actor : Who) (r : RegionNo) → Keeps p (wake_master p actor r)
unfolding wake_master
wake_master-keeps p actor r = search (looks-keeps, when-keeps, for_some-keeps, ready-keeps) depth 7

pub forget_task-alters : {p : Image} (name : Who) → Alters p (forget_task name)
unfolding Right
forget_task-alters name = record { at = λ w right. right }

pub terminate-keeps : (p : Image) (actor name : Who) → Keeps p (terminate p actor name)
unfolding terminate
terminate-keeps p actor name =
    search (looks-keeps, complete-keeps, then-keeps, changes-keeps, drop_delay-alters, forget_task-alters, for_some-keeps, wake_master-keeps) depth 14

-- ---- terminate alternatives (9.7.1, 9.3)

pub leave_by_terminate-keeps : (p : Image) (actor : Who) (t : Task) → Keeps p (leave_by_terminate p actor t)
unfolding leave_by_terminate
leave_by_terminate-keeps p actor t = search (changes-keeps, drop_delay-alters, then-keeps, cond-keeps, edit_task-alters, ready-keeps, leaves-keeps) depth 12
