-- Changes of tasks: each step leaves worlds good where its parts do.
use Rattle.trace_text.specs.declared.events.Who.{Who}
use Rattle.profile_machine.specs.declared.world.tasks.Task.{Task}
use Rattle.profile_machine.specs.declared.world.marks.Frame.{Frame}
use Rattle.profile_machine.specs.Tasks.{edit_task, with_frames}
use Rattle.std.proofs.Common.{◌≡◌, List}
use Rattle.world_laws.proofs.Actions.FineMoves.{FineMoves}
use Rattle.world_laws.proofs.Actions.Natures.{natures}
use Rattle.machine_laws.proofs.FineMoves.{GoodWorld, Naming}
use Rattle.machine_laws.proofs.Kept.Combinators.{Alters}
use Rattle.world_laws.proofs.Behind.{Behind}

module _ {G : GoodWorld} {F : Naming} (moves : FineMoves G F) where
  pub edit_task-alters : (name : Who) (f : Task → Task) → ((t : Task) → (f t).who ≡ t.who) → ((t : Task) → (f t).frames ≡ t.frames)
      → ((t : Task) → (f t).state ≡ t.state) → ((t : Task) → (f t).master ≡ t.master) → ((t : Task) → (f t).inherited ≡ t.inherited)
      → Alters G (Behind G) (edit_task name f)
  unfolding Alters
  edit_task-alters name f same_who same_frames same_state same_master same_inherited w good =
      moves.edits_task name f w good same_who same_frames same_state same_master same_inherited

  pub edit_frames-alters : (name : Who) (f : List Frame → List Frame) → ((fs : List Frame) → natures (f fs) ≡ natures fs)
      → Alters G (Behind G) (edit_task name (λ t. with_frames (f t.frames) t))
  unfolding Alters
  edit_frames-alters name f same w good = moves.edits_frames name f w good same
