-- Changes of tasks: each step keeps a relation that its parts keep.
use Rattle.profile_machine.specs.Frames.{edit_top}
use Rattle.world_laws.proofs.Marks.MarkFacts.{nature}
use Rattle.trace_text.specs.declared.events.Who.{Who}
use Rattle.profile_machine.specs.declared.world.tasks.Task.{Task}
use Rattle.profile_machine.specs.declared.world.marks.Frame.{Frame}
use Rattle.profile_machine.specs.Tasks.{edit_task}
use Rattle.std.proofs.Common.{◌≡◌}
use Rattle.machine_laws.proofs.Moves.{StepRelation, MoveRelation}
use Rattle.world_laws.proofs.Marks.FineMoves.{FineMoves}
use Rattle.machine_laws.proofs.FineMoves.{GoodWorld, Naming}
use Rattle.machine_laws.proofs.Kept.Combinators.{Alters}

module _ {G : GoodWorld} {May Other : Naming} {R : StepRelation} {Q : MoveRelation} (moves : FineMoves G May Other R Q) where
  pub edit_task-alters : (name : Who) (f : Task → Task) → ((t : Task) → (f t).who ≡ t.who) → ((t : Task) → (f t).frames ≡ t.frames)
      → ((t : Task) → (f t).state ≡ t.state) → ((t : Task) → (f t).abnormal ≡ t.abnormal) → Alters G R (edit_task name f)
  unfolding Alters
  edit_task-alters name f same_who same_frames same_state same_abnormal w good = moves.edits_task name f w good same_who same_frames same_state same_abnormal

  pub edit_top-alters : (name : Who) (f : Frame → Frame) → ((x : Frame) → nature (f x).mark ≡ nature x.mark) → ((x : Frame) → (f x).struck ≡ x.struck)
      → Alters G R (edit_top name f)
  unfolding Alters
  edit_top-alters name f same struck w good = moves.edits_top name f w good same struck
