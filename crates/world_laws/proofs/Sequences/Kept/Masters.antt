-- Completion, termination and masters: each step keeps a relation that its parts keep.
use Rattle.ann_base.specs.declared.exceptions.Raised.TheVariants as exception
use Rattle.world_laws.proofs.Sequences.Kept.Woken.{woken, opened-turns, left-turns}
use Rattle.std.specs.Prelude.{Bool, true, false, not, ◌&&◌, cond, List, Option, Some, None, find}
use Rattle.std.proofs.Common.{◌≡◌, refl, inr}
use Rattle.std.proofs.lemmas.Bool.{and_parts}
use Rattle.ann_base.specs.declared.identities.RegionNo.{RegionNo}
use Rattle.trace_text.specs.declared.events.Who.{Who}
use Rattle.profile_image.specs.declared.image.Image.{Image}
use Rattle.profile_machine.specs.declared.world.tasks.Task.{Task}
use Rattle.profile_machine.specs.declared.world.calls.Call.{Call}
use Rattle.profile_machine.specs.declared.world.lines.Part.{Part}
use Rattle.profile_machine.specs.declared.run_data.Leaving.TheVariants as how
use Rattle.profile_machine.specs.declared.world.World.{World}
use Rattle.profile_machine.specs.declared.world.tasks.State.TheVariants.{Runnable}
use Rattle.profile_machine.specs.declared.world.lines.Part.TheVariants.{OfOther}
use Rattle.profile_image.specs.Words.{same_who}
use Rattle.profile_machine.specs.Steps.{changes, for_some, when, Step, nothing}
use Rattle.profile_machine.specs.Tasks.{edit_task, with_state, waiting_of, task_of}
use Rattle.profile_machine.specs.Dispatching.{ready}
use Rattle.profile_machine.specs.Frames.{leaves, raises}
use Rattle.profile_machine.specs.Appointments.{drop_delay}
use Rattle.profile_machine.specs.Masters.{part_of, has_dependents, has_activating, waits_for_activation, waits_for_dependents}
use Rattle.profile_machine.specs.Masters.{gone_by_completion, wake_activator, end_group, end_activation_by, end_activation}
use Rattle.profile_machine.specs.Masters.{complete_with, complete, wake_master, forget_task, terminate, leave_by_terminate}
use Rattle.machine_laws.proofs.FineMoves.{GoodWorld, Naming}
use Rattle.world_laws.proofs.Sequences.FineMoves.{FineMoves, Loosens, chains}
use Rattle.world_laws.proofs.Behind.{Behind, then-turns}
use Rattle.world_laws.proofs.Sequences.Kept.Tasks.{edit_task-alters}
use Rattle.world_laws.proofs.Sequences.Kept.Dispatching.{runnable-keeps, ready-keeps, ready-from}
use Rattle.world_laws.proofs.Sequences.Kept.Inheritance.{lose-alters}
use Rattle.world_laws.proofs.Sequences.Kept.Appointments.{drop_delay-alters}
use Rattle.world_laws.proofs.Sequences.Kept.CallEnds.{end_call-keeps, gone-keeps}
use Rattle.machine_laws.proofs.Kept.Combinators.{Alters, From, Keeps, changes-keeps, cond-keeps, for_each-keeps, for_some-keeps}
use Rattle.machine_laws.proofs.Kept.Combinators.{keeps-from, looks-from, looks-keeps, nothing-keeps, then-keeps, when-keeps, when-keeps-if}
use Rattle.machine_laws.proofs.Plain.Frames.{raises-keeps}
use Rattle.world_laws.proofs.Sequences.Kept.Frames.{plain_steps}

module _ {p : Image} {G : GoodWorld} {May Other : Naming} (moves : FineMoves p G May Other) where
  pub forget_task-alters : (name : Who) → Alters G (Behind G) (forget_task name)
  unfolding Alters
  forget_task-alters name w good = moves.forgets_task name w good

module _ {p : Image} {G : GoodWorld} {May Other : Naming} (moves : FineMoves p G May Other) (loose : Loosens p G May Other) where
  pub gone_by_completion-keeps : (actor : Who) (c : Call) → Keeps G (Behind G) (gone_by_completion p actor c)
  unfolding gone_by_completion
  gone_by_completion-keeps actor c = search (gone-keeps, then-keeps, end_call-keeps, chains)

  pub wake_activator-keeps : (part : Part) (name : Who) → Other name → Keeps G (Behind G) (wake_activator p part name)
  unfolding wake_activator
  wake_activator-keeps part name other =
      let l = loose name other in
      looks-keeps (chains moves) _ (λ w. woken moves loose name other (ready p part name) _ (ready-keeps l.moves part name (inr refl))
      (then-turns l.Loose l.Loose G (when (task_of w name).group_failed (raises part name exception.Tasking)) _
      (when-keeps (chains l.moves) (task_of w name).group_failed _ (raises-keeps (plain_steps l.moves) part name exception.Tasking))
      (opened-turns moves loose part name other)))

  pub end_group-keeps : (actor activator : Who) → Keeps G (Behind G) (end_group p actor activator)
  unfolding end_group
  end_group-keeps actor activator =
      looks-from (chains moves) _ (λ w good. keeps-from (chains moves) _ w good
      (when-keeps-if (chains moves) (not (has_activating w activator) && waits_for_activation (waiting_of w activator))
      (wake_activator p (part_of actor activator) activator)
      (λ is. wake_activator-keeps (part_of actor activator) activator
      (moves.awaits activator w good ((and_parts (not (has_activating w activator)) (waits_for_activation (waiting_of w activator)) is).1)))))

  pub end_activation_by-keeps : (actor name : Who) (failed : Bool) (by : Option Who) → Keeps G (Behind G) (end_activation_by p actor name failed by)
  unfolding end_activation_by
  end_activation_by-keeps actor name failed None = search (nothing-keeps, chains)
  end_activation_by-keeps actor name failed (Some activator) =
      search (changes-keeps, edit_task-alters, then-keeps, lose-alters, end_group-keeps, chains) depth 9

  pub end_activation-keeps : (actor name : Who) (failed : Bool) → Keeps G (Behind G) (end_activation p actor name failed)
  unfolding end_activation
  end_activation-keeps actor name failed = search (looks-keeps, end_activation_by-keeps, chains)

  pub complete_with-keeps : (actor name : Who) (calls : List Call) (failed : Bool) → Keeps G (Behind G) (complete_with p actor name calls failed)
  unfolding complete_with
  complete_with-keeps actor name calls failed =
      search (changes-keeps, edit_task-alters, then-keeps, for_each-keeps, gone_by_completion-keeps, end_activation-keeps, chains) depth 7

  pub complete-keeps : (actor name : Who) → Keeps G (Behind G) (complete p actor name)
  unfolding complete
  complete-keeps actor name = search (looks-keeps, when-keeps, complete_with-keeps, chains)

  when-from : (b : Bool) (step : Step) (w : World) → G w → From (Behind G) w step → From (Behind G) w (when b step)
  when-from true step w good a = a
  when-from false step w good a = keeps-from (chains moves) nothing w good (nothing-keeps (chains moves))

  -- a master that waits for its dependents has come to the end of a mark
  ready_master-from : (actor : Who) (r : RegionNo) (w : World) → G w → (found : Option Task) → find (waits_for_dependents r) w.tasks ≡ found
      → From (Behind G) w (for_some found (λ t. ready p (part_of actor t.who) t.who))
  ready_master-from actor r w good None is = keeps-from (chains moves) nothing w good (nothing-keeps (chains moves))
  ready_master-from actor r w good (Some t) is = ready-from moves (part_of actor t.who) t.who w (moves.readies_master r t w good is)

  pub wake_master-keeps : (actor : Who) (r : RegionNo) → Keeps G (Behind G) (wake_master p actor r)
  unfolding wake_master
  wake_master-keeps actor r =
      looks-from (chains moves) _
      (λ w good. when-from (not (has_dependents w r)) _ w good (ready_master-from actor r w good (find (waits_for_dependents r) w.tasks) refl))

  pub terminate-keeps : (actor name : Who) → Keeps G (Behind G) (terminate p actor name)
  unfolding terminate
  terminate-keeps actor name =
      search (looks-keeps, complete-keeps, then-keeps, changes-keeps, drop_delay-alters, forget_task-alters, for_some-keeps, wake_master-keeps, chains) depth 10

  pub leave_by_terminate-keeps : (actor : Who) (t : Task) → Other t.who → Keeps G (Behind G) (leave_by_terminate p actor t)
  unfolding leave_by_terminate
  leave_by_terminate-keeps actor t other =
      let l = loose t.who other in
      then-keeps (chains moves) (changes (drop_delay t.who)) _ (changes-keeps (chains moves) _ (drop_delay-alters moves t.who))
      (woken moves loose t.who other (cond (same_who actor t.who) (changes (edit_task t.who (with_state Runnable))) (ready p (OfOther t.who) t.who))
      (leaves t.who how.Terminate)
      (cond-keeps (chains l.moves) (same_who actor t.who) (changes (edit_task t.who (with_state Runnable))) (ready p (OfOther t.who) t.who)
      (runnable-keeps l.moves t.who (inr refl)) (ready-keeps l.moves (OfOther t.who) t.who (inr refl)))
      (left-turns moves loose t.who other how.Terminate))
