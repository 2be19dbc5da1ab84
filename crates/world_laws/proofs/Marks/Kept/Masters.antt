-- Completion, termination and masters: each step keeps a relation that its parts keep.
use Rattle.std.specs.Prelude.{Bool, not, ◌&&◌, cond, List, Option, Some, None, find}
use Rattle.std.proofs.Common.{◌≡◌, refl}
use Rattle.std.proofs.lemmas.Bool.{and_parts}
use Rattle.ann_base.specs.declared.identities.RegionNo.{RegionNo}
use Rattle.trace_text.specs.declared.events.Who.{Who}
use Rattle.profile_image.specs.declared.image.Image.{Image}
use Rattle.profile_machine.specs.declared.world.tasks.Task.{Task}
use Rattle.profile_machine.specs.declared.world.calls.Call.{Call}
use Rattle.profile_machine.specs.declared.world.lines.Part.{Part}
use Rattle.profile_machine.specs.declared.run_data.Leaving.TheVariants as how
use Rattle.profile_machine.specs.declared.world.World.{World}
use Rattle.profile_machine.specs.declared.world.tasks.State.TheVariants.{Runnable}
use Rattle.profile_machine.specs.declared.world.lines.Part.TheVariants.{OfOther}
use Rattle.profile_image.specs.Words.{same_who}
use Rattle.profile_machine.specs.Steps.{changes, for_some, ◌▷◌}
use Rattle.profile_machine.specs.Tasks.{task_of, edit_task, with_state, waiting_of}
use Rattle.profile_machine.specs.Dispatching.{ready}
use Rattle.profile_machine.specs.Frames.{leaves}
use Rattle.profile_machine.specs.Appointments.{drop_delay}
use Rattle.profile_machine.specs.Masters.{part_of, has_dependents, has_activating, waits_for_activation, waits_for_dependents}
use Rattle.profile_machine.specs.Masters.{gone_by_completion, wake_activator, end_group, end_activation_by, end_activation}
use Rattle.profile_machine.specs.Masters.{complete_with, complete, wake_master, forget_task, terminate, leave_by_terminate}
use Rattle.machine_laws.proofs.Moves.{StepRelation, MoveRelation}
use Rattle.profile_machine.specs.declared.world.lines.Said.{Said}
use Rattle.world_laws.proofs.Marks.MarkFacts.{Unarmed}
use Rattle.world_laws.proofs.Marks.FineMoves.{FineMoves, chains}
use Rattle.world_laws.proofs.Marks.Kept.Combinators.{then_known-from}
use Rattle.world_laws.proofs.Marks.Kept.Tasks.{edit_task-alters}
use Rattle.world_laws.proofs.Marks.Kept.Dispatching.{runnable-keeps, ready-keeps}
use Rattle.world_laws.proofs.Marks.Kept.Frames.{leaves-keeps, open_sequence-keeps, plain_steps}
use Rattle.world_laws.proofs.Marks.Kept.Inheritance.{lose-alters}
use Rattle.world_laws.proofs.Marks.Kept.Appointments.{drop_delay-alters}
use Rattle.world_laws.proofs.Marks.Kept.CallEnds.{end_call-keeps, gone-keeps}
use Rattle.machine_laws.proofs.FineMoves.{GoodWorld, Naming}
use Rattle.machine_laws.proofs.Kept.Masters.{found-other}
use Rattle.machine_laws.proofs.Kept.Combinators.{From, Keeps, changes-keeps, changes_then-from, cond-keeps, for_each-keeps, for_some-keeps, keeps-from}
use Rattle.machine_laws.proofs.Kept.Combinators.{looks-from, looks-keeps, looks_at-from, nothing-keeps, then-keeps, when-keeps, when-keeps-if}
use Rattle.machine_laws.proofs.Plain.Frames.{raises-keeps}

module _ {G : GoodWorld} {May Other : Naming} {R : StepRelation} {Q : MoveRelation} (moves : FineMoves G May Other R Q) where
  pub gone_by_completion-keeps : (p : Image) (actor : Who) (c : Call) → Keeps G R (gone_by_completion p actor c)
  unfolding gone_by_completion
  gone_by_completion-keeps p actor c = search (gone-keeps, then-keeps, end_call-keeps, chains)

  pub wake_activator-keeps : (p : Image) (part : Part) (name : Who) → Other name → Keeps G R (wake_activator p part name)
  unfolding wake_activator
  wake_activator-keeps p part name other =
      search (looks-keeps, ready-keeps, then-keeps, when-keeps, raises-keeps, open_sequence-keeps, moves.other_may, chains, plain_steps) depth 9

  pub end_group-keeps : (p : Image) (actor activator : Who) → Keeps G R (end_group p actor activator)
  unfolding end_group
  end_group-keeps p actor activator =
      looks-from (chains moves) _ (λ w good. keeps-from (chains moves) _ w good
      (when-keeps-if (chains moves) (not (has_activating w activator) && waits_for_activation (waiting_of w activator))
      (wake_activator p (part_of actor activator) activator)
      (λ is. wake_activator-keeps p (part_of actor activator) activator
      (moves.awaits activator w good ((and_parts (not (has_activating w activator)) (waits_for_activation (waiting_of w activator)) is).1)))))

  pub end_activation_by-keeps : (p : Image) (actor name : Who) (failed : Bool) (by : Option Who) → Keeps G R (end_activation_by p actor name failed by)
  unfolding end_activation_by
  end_activation_by-keeps p actor name failed None = search (nothing-keeps, chains)
  end_activation_by-keeps p actor name failed (Some activator) =
      search (changes-keeps, edit_task-alters, then-keeps, lose-alters, end_group-keeps, chains) depth 9

  pub end_activation-keeps : (p : Image) (actor name : Who) (failed : Bool) → Keeps G R (end_activation p actor name failed)
  unfolding end_activation
  end_activation-keeps p actor name failed = search (looks-keeps, end_activation_by-keeps, chains)

  pub complete_with-keeps : (p : Image) (actor name : Who) (calls : List Call) (failed : Bool) → Keeps G R (complete_with p actor name calls failed)
  unfolding complete_with
  complete_with-keeps p actor name calls failed =
      search (changes-keeps, edit_task-alters, then-keeps, for_each-keeps, gone_by_completion-keeps, end_activation-keeps, chains) depth 7

  pub complete-keeps : (p : Image) (actor name : Who) → Keeps G R (complete p actor name)
  unfolding complete
  complete-keeps p actor name = search (looks-keeps, when-keeps, complete_with-keeps, chains)

  ready_master-keeps : (p : Image) (actor : Who) (w : World) → G w → (found : Option Task) → ((t : Task) → found ≡ Some t → Other t.who)
      → Keeps G R (for_some found (λ t. ready p (part_of actor t.who) t.who))
  ready_master-keeps p actor w good None others = nothing-keeps (chains moves)
  ready_master-keeps p actor w good (Some t) others = ready-keeps moves p (part_of actor t.who) t.who (others t refl)

  pub wake_master-keeps : (p : Image) (actor : Who) (r : RegionNo) → Keeps G R (wake_master p actor r)
  unfolding wake_master
  wake_master-keeps p actor r =
      looks-from (chains moves) _ (λ w good. keeps-from (chains moves) _ w good
      (when-keeps (chains moves) (not (has_dependents w r)) _
      (ready_master-keeps p actor w good (find (waits_for_dependents r) w.tasks)
      (λ t is. found-other Other (waits_for_dependents r) w.tasks t (moves.listed w good) is))))

  -- it is forgotten where no trigger is appointed for it
  pub terminate-from : (p : Image) (actor name : Who) (w : World) → G w → Unarmed name w → From R w (terminate p actor name)
  unfolding terminate
  terminate-from p actor name w good none =
      let still = λ (a b : World) (xs : List Said) (r : R a xs b). moves.still_unarmed name a b r in
      looks_at-from (chains moves)
      (λ v. complete p actor name ▷ changes (drop_delay name) ▷ changes (forget_task name) ▷ for_some (task_of v name).master (wake_master p actor)) w
      (then_known-from moves (Unarmed name) still (complete p actor name) _ w none
      (keeps-from (chains moves) (complete p actor name) w good (complete-keeps p actor name))
      (λ v good_v none_v. then_known-from moves (Unarmed name) still (changes (drop_delay name)) _ v none_v
      (keeps-from (chains moves) (changes (drop_delay name)) v good_v (changes-keeps (chains moves) (drop_delay name) (drop_delay-alters moves name)))
      (λ u good_u none_u. changes_then-from (chains moves) (forget_task name) _ u (moves.forgets_task name u good_u none_u)
      (keeps-from (chains moves) _ (forget_task name u) (moves.behind u (forget_task name u) (moves.forgets_task name u good_u none_u))
      (for_some-keeps (chains moves) (task_of w name).master (wake_master p actor) (λ r. wake_master-keeps p actor r))))))

  pub leave_by_terminate-keeps : (p : Image) (actor : Who) (t : Task) → Other t.who → Keeps G R (leave_by_terminate p actor t)
  unfolding leave_by_terminate
  leave_by_terminate-keeps p actor t other =
      then-keeps (chains moves) (changes (drop_delay t.who)) _ (search (changes-keeps, drop_delay-alters, chains))
      (then-keeps (chains moves) (cond (same_who actor t.who) (changes (edit_task t.who (with_state Runnable))) (ready p (OfOther t.who) t.who))
      (leaves t.who how.Terminate)
      (cond-keeps (chains moves) (same_who actor t.who) (changes (edit_task t.who (with_state Runnable))) (ready p (OfOther t.who) t.who)
      (runnable-keeps moves t.who other) (ready-keeps moves p (OfOther t.who) t.who other))
      (search (leaves-keeps)))
