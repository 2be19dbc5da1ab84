-- Changes of tasks: each step keeps a relation that its parts keep.
use Rattle.trace_text.specs.declared.events.Who.{Who}
use Rattle.profile_machine.specs.declared.world.tasks.Task.{Task}
use Rattle.profile_machine.specs.declared.world.marks.Frame.{Frame}
use Rattle.profile_machine.specs.Tasks.{edit_task, with_frames}
use Rattle.std.proofs.Common.{◌≡◌, List}
use Rattle.machine_laws.proofs.Moves.{StepRelation, MoveRelation}
use Rattle.line_laws.proofs.Leaving.FineMoves.{FineMoves, Alike}
use Rattle.machine_laws.proofs.FineMoves.{GoodWorld, Naming}
use Rattle.machine_laws.proofs.Kept.Combinators.{Alters}

module _ {G : GoodWorld} {May Acts Pushes : Naming} {Stops : Type 0} {R : StepRelation} {Q : MoveRelation} (moves : FineMoves G May Acts Pushes Stops R Q) where
  pub edit_task-alters : (name : Who) (f : Task → Task) → ((t : Task) → (f t).who ≡ t.who) → ((t : Task) → (f t).frames ≡ t.frames)
      → ((t : Task) → (f t).state ≡ t.state) → Alters G R (edit_task name f)
  unfolding Alters
  edit_task-alters name f same_who same_frames same_state w good = moves.edits_task name f w good same_who same_frames same_state

  pub edit_frames-alters : (name : Who) (f : List Frame → List Frame) → ((fs : List Frame) → Alike (f fs) fs)
      → Alters G R (edit_task name (λ t. with_frames (f t.frames) t))
  unfolding Alters
  edit_frames-alters name f same w good = moves.edits_frames name f w good same
