-- Changes of tasks that leave most alone: each keeps a relation that its parts keep.
use Rattle.trace_text.specs.declared.events.Who.{Who}
use Rattle.profile_machine.specs.declared.world.tasks.Task.{Task}
use Rattle.profile_machine.specs.Tasks.{edit_task}
use Rattle.std.proofs.Common.{◌≡◌}
use Rattle.machine_laws.proofs.Moves.{StepRelation}
use Rattle.machine_laws.proofs.FineMoves.{GoodWorld, Naming}
use Rattle.machine_laws.proofs.Kept.Combinators.{Alters}
use Rattle.machine_laws.proofs.Plain.PlainSteps.{PlainSteps}

module _ {G : GoodWorld} {Goes : Naming} {R : StepRelation} (plain : PlainSteps G Goes R) where
  pub edit_task-alters : (name : Who) (f : Task → Task) → ((t : Task) → (f t).who ≡ t.who) → ((t : Task) → (f t).frames ≡ t.frames)
      → ((t : Task) → (f t).state ≡ t.state) → ((t : Task) → (f t).master ≡ t.master) → ((t : Task) → (f t).cpu_ticks ≡ t.cpu_ticks)
      → ((t : Task) → (f t).abnormal ≡ t.abnormal) → ((t : Task) → (f t).unit ≡ t.unit) → ((t : Task) → (f t).inherited ≡ t.inherited)
      → Alters G R (edit_task name f)
  unfolding Alters
  edit_task-alters name f same_who same_frames same_state same_master same_clock same_abnormal same_unit same_inherited w good =
      plain.edits_task name f w good same_who same_frames same_state same_master same_clock same_abnormal same_unit same_inherited
