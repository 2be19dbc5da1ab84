-- Changes of tasks: each step keeps a relation that its parts keep.
use Rattle.std.proofs.Common.{◌≡◌, List}
use Rattle.trace_text.specs.declared.events.Who.{Who}
use Rattle.profile_machine.specs.declared.world.marks.Frame.{Frame}
use Rattle.profile_machine.specs.declared.world.tasks.Task.{Task}
use Rattle.profile_machine.specs.Tasks.{edit_task, with_frames}
use Rattle.machine_laws.proofs.Moves.{StepRelation, MoveRelation}
use Rattle.machine_laws.proofs.FineMoves.{GoodWorld, Naming}
use Rattle.machine_laws.proofs.Kept.Combinators.{Alters}
use Rattle.world_laws.proofs.Appointments.Delays.{natures}
use Rattle.world_laws.proofs.Appointments.FineMoves.{FineMoves}

module _ {G : GoodWorld} {May : Naming} {R : StepRelation} {Q : MoveRelation} (moves : FineMoves G May R Q) where
  pub edit_task-alters : (name : Who) (f : Task → Task) → ((t : Task) → (f t).who ≡ t.who) → ((t : Task) → (f t).frames ≡ t.frames)
      → ((t : Task) → (f t).state ≡ t.state) → Alters G R (edit_task name f)
  unfolding Alters
  edit_task-alters name f who_kept frames_kept state_kept w good = moves.edits_task name f w good who_kept frames_kept state_kept

  pub edit_frames-alters : (name : Who) (f : List Frame → List Frame) → ((fs : List Frame) → natures (f fs) ≡ natures fs)
      → Alters G R (edit_task name (λ t. with_frames (f t.frames) t))
  unfolding Alters
  edit_frames-alters name f same w good = moves.edits_frames name f w good same
