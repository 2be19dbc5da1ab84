-- Completion, termination and masters: each step leaves worlds good where its parts do.
use Rattle.std.specs.Prelude.{Bool, cond, List, Option, Some, None}
use Rattle.ann_base.specs.declared.identities.RegionNo.{RegionNo}
use Rattle.trace_text.specs.declared.events.Who.{Who}
use Rattle.profile_image.specs.declared.image.Image.{Image}
use Rattle.profile_machine.specs.declared.world.tasks.Task.{Task}
use Rattle.profile_machine.specs.declared.world.calls.Call.{Call}
use Rattle.profile_machine.specs.declared.world.lines.Part.{Part}
use Rattle.profile_machine.specs.declared.run_data.Leaving.TheVariants as how
use Rattle.profile_machine.specs.declared.world.tasks.State.TheVariants.{Runnable}
use Rattle.profile_machine.specs.declared.world.lines.Part.TheVariants.{OfOther}
use Rattle.profile_image.specs.Words.{same_who}
use Rattle.profile_machine.specs.Steps.{changes}
use Rattle.profile_machine.specs.Tasks.{edit_task, with_state}
use Rattle.profile_machine.specs.Dispatching.{ready}
use Rattle.profile_machine.specs.Frames.{leaves}
use Rattle.profile_machine.specs.Appointments.{drop_delay}
use Rattle.profile_machine.specs.Masters.{gone_by_completion, wake_activator, end_group, end_activation_by, end_activation}
use Rattle.profile_machine.specs.Masters.{complete_with, complete, wake_master, forget_task, terminate, leave_by_terminate}
use Rattle.world_laws.proofs.Actions.FineMoves.{FineMoves, chains}
use Rattle.world_laws.proofs.Actions.Kept.Tasks.{edit_task-alters}
use Rattle.world_laws.proofs.Actions.Kept.Dispatching.{runnable-keeps, ready-keeps}
use Rattle.world_laws.proofs.Actions.Kept.Frames.{leaves-keeps, open_sequence-keeps, plain_steps}
use Rattle.world_laws.proofs.Actions.Kept.Inheritance.{lose-alters}
use Rattle.world_laws.proofs.Actions.Kept.Appointments.{drop_delay-alters}
use Rattle.world_laws.proofs.Actions.Kept.CallEnds.{end_call-keeps, gone-keeps}
use Rattle.machine_laws.proofs.FineMoves.{GoodWorld, Naming}
use Rattle.machine_laws.proofs.Kept.Combinators.{Alters, Keeps, changes-keeps, cond-keeps, for_each-keeps}
use Rattle.machine_laws.proofs.Kept.Combinators.{for_some-keeps, looks-keeps, nothing-keeps, then-keeps, when-keeps}
use Rattle.world_laws.proofs.Behind.{Behind}
use Rattle.machine_laws.proofs.Plain.Frames.{raises-keeps}

module _ {G : GoodWorld} {F : Naming} (moves : FineMoves G F) where
  pub gone_by_completion-keeps : (p : Image) (actor : Who) (c : Call) → Keeps G (Behind G) (gone_by_completion p actor c)
  unfolding gone_by_completion
  gone_by_completion-keeps p actor c = search (gone-keeps, then-keeps, end_call-keeps, chains)

  pub wake_activator-keeps : (p : Image) (part : Part) (name : Who) → Keeps G (Behind G) (wake_activator p part name)
  unfolding wake_activator
  wake_activator-keeps p part name = search (looks-keeps, ready-keeps, then-keeps, when-keeps, raises-keeps, open_sequence-keeps, chains, plain_steps) depth 9

  pub end_group-keeps : (p : Image) (actor activator : Who) → Keeps G (Behind G) (end_group p actor activator)
  unfolding end_group
  end_group-keeps p actor activator = search (looks-keeps, when-keeps, wake_activator-keeps, chains)

  pub end_activation_by-keeps : (p : Image) (actor name : Who) (failed : Bool) (by : Option Who) → Keeps G (Behind G) (end_activation_by p actor name failed by)
  unfolding end_activation_by
  end_activation_by-keeps p actor name failed None = search (nothing-keeps, chains)
  end_activation_by-keeps p actor name failed (Some activator) =
      search (changes-keeps, edit_task-alters, then-keeps, lose-alters, end_group-keeps, chains) depth 9

  pub end_activation-keeps : (p : Image) (actor name : Who) (failed : Bool) → Keeps G (Behind G) (end_activation p actor name failed)
  unfolding end_activation
  end_activation-keeps p actor name failed = search (looks-keeps, end_activation_by-keeps, chains)

  pub complete_with-keeps : (p : Image) (actor name : Who) (calls : List Call) (failed : Bool) → Keeps G (Behind G) (complete_with p actor name calls failed)
  unfolding complete_with
  complete_with-keeps p actor name calls failed =
      search (changes-keeps, edit_task-alters, then-keeps, for_each-keeps, gone_by_completion-keeps, end_activation-keeps, chains) depth 7

  pub complete-keeps : (p : Image) (actor name : Who) → Keeps G (Behind G) (complete p actor name)
  unfolding complete
  complete-keeps p actor name = search (looks-keeps, when-keeps, complete_with-keeps, chains)

  pub wake_master-keeps : (p : Image) (actor : Who) (r : RegionNo) → Keeps G (Behind G) (wake_master p actor r)
  unfolding wake_master
  wake_master-keeps p actor r = search (looks-keeps, when-keeps, for_some-keeps, ready-keeps, chains)

  pub forget_task-alters : (name : Who) → F name → Alters G (Behind G) (forget_task name)
  unfolding Alters
  forget_task-alters name free w good = moves.forgets_task name w good free

  pub terminate-keeps : (p : Image) (actor name : Who) → F name → Keeps G (Behind G) (terminate p actor name)
  unfolding terminate
  terminate-keeps p actor name free =
      search (looks-keeps, complete-keeps, then-keeps, changes-keeps, drop_delay-alters, forget_task-alters, for_some-keeps, wake_master-keeps, chains) depth 10

  pub leave_by_terminate-keeps : (p : Image) (actor : Who) (t : Task) → Keeps G (Behind G) (leave_by_terminate p actor t)
  unfolding leave_by_terminate
  leave_by_terminate-keeps p actor t =
      then-keeps (chains moves) (changes (drop_delay t.who)) _ (search (changes-keeps, drop_delay-alters, chains))
      (then-keeps (chains moves) (cond (same_who actor t.who) (changes (edit_task t.who (with_state Runnable))) (ready p (OfOther t.who) t.who))
      (leaves t.who how.Terminate)
      (cond-keeps (chains moves) (same_who actor t.who) (changes (edit_task t.who (with_state Runnable))) (ready p (OfOther t.who) t.who)
      (runnable-keeps moves t.who) (ready-keeps moves p (OfOther t.who) t.who))
      (search (leaves-keeps)))
