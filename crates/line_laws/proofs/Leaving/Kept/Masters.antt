-- Completion, termination and masters: each step keeps a relation that its parts keep.
use Rattle.std.specs.Prelude.{Bool, List, Option, Some, None}
use Rattle.ann_base.specs.declared.identities.RegionNo.{RegionNo}
use Rattle.trace_text.specs.declared.events.Who.{Who}
use Rattle.profile_image.specs.declared.image.Image.{Image}
use Rattle.profile_machine.specs.declared.world.tasks.Task.{Task}
use Rattle.profile_machine.specs.declared.world.calls.Call.{Call}
use Rattle.profile_machine.specs.declared.world.lines.Part.{Part}
use Rattle.profile_machine.specs.Masters.{gone_by_completion, wake_activator, end_group, end_activation_by, end_activation}
use Rattle.profile_machine.specs.Masters.{complete_with, complete, wake_master, forget_task, terminate, leave_by_terminate}
use Rattle.machine_laws.proofs.Moves.{StepRelation, MoveRelation}
use Rattle.line_laws.proofs.Leaving.FineMoves.{FineMoves, chains}
use Rattle.line_laws.proofs.Leaving.Kept.Tasks.{edit_task-alters}
use Rattle.line_laws.proofs.Leaving.Kept.Dispatching.{runnable-keeps, ready-keeps}
use Rattle.line_laws.proofs.Leaving.Kept.Frames.{leaves-keeps, open_sequence-keeps, plain_steps}
use Rattle.line_laws.proofs.Leaving.Kept.Inheritance.{lose-alters}
use Rattle.line_laws.proofs.Leaving.Kept.Appointments.{drop_delay-alters}
use Rattle.line_laws.proofs.Leaving.Kept.CallEnds.{end_call-keeps, gone-keeps}
use Rattle.machine_laws.proofs.FineMoves.{GoodWorld, Naming}
use Rattle.machine_laws.proofs.Kept.Combinators.{Alters, Keeps, changes-keeps, cond-keeps, for_each-keeps}
use Rattle.machine_laws.proofs.Kept.Combinators.{for_some-keeps, looks-keeps, nothing-keeps, then-keeps, when-keeps}
use Rattle.machine_laws.proofs.Plain.Frames.{raises-keeps}

module _ {G : GoodWorld} {May Acts Pushes : Naming} {Stops : Type 0} {R : StepRelation} {Q : MoveRelation} (moves : FineMoves G May Acts Pushes Stops R Q) where
  pub gone_by_completion-keeps : (p : Image) (actor : Who) (c : Call) → Keeps G R (gone_by_completion p actor c)
  unfolding gone_by_completion
  gone_by_completion-keeps p actor c = search (gone-keeps, then-keeps, end_call-keeps, chains)

  pub wake_activator-keeps : (p : Image) (part : Part) (name : Who) → Pushes name → Keeps G R (wake_activator p part name)
  unfolding wake_activator
  wake_activator-keeps p part name pushes =
      search (looks-keeps, ready-keeps, then-keeps, when-keeps, raises-keeps, open_sequence-keeps, chains, plain_steps) depth 9

  pub end_group-keeps : (p : Image) (actor activator : Who) → Stops → Keeps G R (end_group p actor activator)
  unfolding end_group
  end_group-keeps p actor activator stops = search (looks-keeps, when-keeps, wake_activator-keeps, moves.stops_pushes, chains)

  pub end_activation_by-keeps : (p : Image) (actor name : Who) (failed : Bool) (by : Option Who) → Stops → Keeps G R (end_activation_by p actor name failed by)
  unfolding end_activation_by
  end_activation_by-keeps p actor name failed None stops = search (nothing-keeps, chains)
  end_activation_by-keeps p actor name failed (Some activator) stops =
      search (changes-keeps, edit_task-alters, then-keeps, lose-alters, end_group-keeps, chains) depth 9

  pub end_activation-keeps : (p : Image) (actor name : Who) (failed : Bool) → Stops → Keeps G R (end_activation p actor name failed)
  unfolding end_activation
  end_activation-keeps p actor name failed stops = search (looks-keeps, end_activation_by-keeps, chains)

  pub complete_with-keeps : (p : Image) (actor name : Who) (calls : List Call) (failed : Bool) → Stops → Keeps G R (complete_with p actor name calls failed)
  unfolding complete_with
  complete_with-keeps p actor name calls failed stops =
      search (changes-keeps, edit_task-alters, then-keeps, for_each-keeps, gone_by_completion-keeps, end_activation-keeps, chains) depth 7

  pub complete-keeps : (p : Image) (actor name : Who) → Stops → Keeps G R (complete p actor name)
  unfolding complete
  complete-keeps p actor name stops = search (looks-keeps, when-keeps, complete_with-keeps, chains)

  pub wake_master-keeps : (p : Image) (actor : Who) (r : RegionNo) → Keeps G R (wake_master p actor r)
  unfolding wake_master
  wake_master-keeps p actor r = search (looks-keeps, when-keeps, for_some-keeps, ready-keeps, chains) depth 7

  pub forget_task-alters : (name : Who) → Stops → Alters G R (forget_task name)
  unfolding Alters
  forget_task-alters name stops w good = moves.forgets_task name w good stops

  pub terminate-keeps : (p : Image) (actor name : Who) → Stops → Keeps G R (terminate p actor name)
  unfolding terminate
  terminate-keeps p actor name stops =
      search (looks-keeps, complete-keeps, then-keeps, changes-keeps, drop_delay-alters, forget_task-alters, for_some-keeps, wake_master-keeps, chains) depth 10

  pub leave_by_terminate-keeps : (p : Image) (actor : Who) (t : Task) → Keeps G R (leave_by_terminate p actor t)
  unfolding leave_by_terminate
  leave_by_terminate-keeps p actor t =
      search (changes-keeps, drop_delay-alters, then-keeps, cond-keeps, runnable-keeps, ready-keeps, leaves-keeps, chains) depth 7
