-- Changes of tasks: each step keeps a relation that its parts keep.
use Rattle.profile_image.specs.declared.image.Image.{Image}
use Rattle.trace_text.specs.declared.events.Who.{Who}
use Rattle.profile_machine.specs.declared.world.tasks.Task.{Task}
use Rattle.profile_machine.specs.declared.world.marks.Frame.{Frame}
use Rattle.profile_machine.specs.Tasks.{edit_task, with_frames}
use Rattle.std.proofs.Common.{◌≡◌, List}
use Rattle.machine_laws.proofs.FineMoves.{GoodWorld, Naming, natures}
use Rattle.world_laws.proofs.Sequences.FineMoves.{FineMoves, StaysOn, onward_in}
use Rattle.world_laws.proofs.Behind.{Behind}
use Rattle.machine_laws.proofs.Kept.Combinators.{Alters}

module _ {p : Image} {G : GoodWorld} {May Other : Naming} (moves : FineMoves p G May Other) where
  pub edit_task-alters : (name : Who) (f : Task → Task) → ((t : Task) → (f t).who ≡ t.who) → ((t : Task) → (f t).frames ≡ t.frames)
      → ((t : Task) → (f t).state ≡ t.state) → ((t : Task) → (f t).unit ≡ t.unit) → Alters G (Behind G) (edit_task name f)
  unfolding Alters
  edit_task-alters name f same_who same_frames same_state same_unit w good = moves.edits_task name f w good same_who same_frames same_state same_unit

  pub edit_frames-alters : (name : Who) (f : List Frame → List Frame) → ((fs : List Frame) → natures (f fs) ≡ natures fs)
      → ((fs : List Frame) → StaysOn (onward_in (f fs)) (onward_in fs)) → Alters G (Behind G) (edit_task name (λ t. with_frames (f t.frames) t))
  unfolding Alters
  edit_frames-alters name f same stays w good = moves.edits_frames name f w good same stays
