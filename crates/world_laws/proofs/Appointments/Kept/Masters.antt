-- Completion, termination and masters: each step keeps a relation that its parts keep.
use Rattle.std.proofs.Common.{◌≡◌, refl}
use Rattle.std.specs.Prelude.{Bool, true, false, not, ◌&&◌, cond, List, [], ◌∷◌, Option, Some, None, find}
use Rattle.std.proofs.lemmas.Bool.{and_parts}
use Rattle.ann_base.specs.declared.exceptions.Raised.TheVariants as exception
use Rattle.ann_base.specs.declared.identities.RegionNo.{RegionNo}
use Rattle.trace_text.specs.declared.events.Who.{Who}
use Rattle.profile_image.specs.declared.image.Image.{Image}
use Rattle.profile_machine.specs.declared.run_data.Leaving.TheVariants as how
use Rattle.profile_machine.specs.declared.world.World.{World}
use Rattle.profile_machine.specs.declared.world.calls.Call.{Call}
use Rattle.profile_machine.specs.declared.world.lines.Part.{Part}
use Rattle.profile_machine.specs.declared.world.lines.Part.TheVariants.{OfOther}
use Rattle.profile_machine.specs.declared.world.tasks.State.TheVariants.{Runnable}
use Rattle.profile_machine.specs.declared.world.tasks.Task.{Task}
use Rattle.profile_machine.specs.declared.world.tasks.Waiting.{Waiting}
use Rattle.profile_machine.specs.declared.world.tasks.Waiting.TheVariants as waits_for
use Rattle.profile_machine.specs.Dispatching.{ready}
use Rattle.profile_machine.specs.Frames.{open_sequence, raises, leaves}
use Rattle.profile_machine.specs.Masters.{waits_in, part_of, has_dependents, has_activating, waits_for_activation, waits_for_dependents}
use Rattle.profile_machine.specs.Masters.{gone_by_completion, wake_activator, end_group, end_activation_by, end_activation}
use Rattle.profile_machine.specs.Masters.{complete_with, complete, wake_master, forget_task, terminate, leave_by_terminate}
use Rattle.profile_machine.specs.Steps.{when, ◌▷◌, nothing, Step, changes, for_some}
use Rattle.profile_machine.specs.Tasks.{waiting_in, task_of, edit_task, with_state, waiting_of}
use Rattle.profile_machine.specs.WellFormed.{waits_for_delay}
use Rattle.profile_image.specs.Words.{same_who}
use Rattle.machine_laws.proofs.Moves.{StepRelation, MoveRelation}
use Rattle.world_laws.proofs.Appointments.Delays.{Idle, EachTask}
use Rattle.world_laws.proofs.Appointments.FineMoves.{FineMoves, chains}
use Rattle.world_laws.proofs.Appointments.Kept.Appointments.{drops_then-from}
use Rattle.world_laws.proofs.Appointments.Kept.CallEnds.{end_call-keeps, gone-keeps}
use Rattle.world_laws.proofs.Appointments.Kept.Dispatching.{ready-from}
use Rattle.world_laws.proofs.Appointments.Kept.Frames.{leaves-keeps, open_sequence-keeps, plain_steps}
use Rattle.world_laws.proofs.Appointments.Kept.Inheritance.{lose-alters}
use Rattle.world_laws.proofs.Appointments.Kept.Tasks.{edit_task-alters}
use Rattle.machine_laws.proofs.FineMoves.{GoodWorld, Naming}
use Rattle.ceiling_laws.proofs.Runs.Kept.Waking.{found-step}
use Rattle.machine_laws.proofs.Kept.Combinators.{From, Keeps, changes-from, changes-keeps, for_each-keeps, for_some-keeps, from-keeps, keeps-from}
use Rattle.machine_laws.proofs.Kept.Combinators.{looks-from, looks-keeps, looks_at-from, nothing-keeps, then-from, then-keeps, when-keeps}
use Rattle.machine_laws.proofs.Plain.Frames.{raises-keeps}

-- who waits for an activation or for dependents waits for no delay
waits-activation : (waiting : Option Waiting) → waits_for_activation waiting ≡ true → waits_for_delay waiting ≡ false
waits-activation (Some waits_for.Activation) e = refl
waits-activation (Some waits_for.Moment) e = absurd cc
waits-activation (Some (waits_for.Call d)) e = refl
waits-activation (Some (waits_for.EndOfCall d)) e = refl
waits-activation (Some (waits_for.Accept s)) e = refl
waits-activation (Some (waits_for.Select accepts delay terminate)) e = absurd cc
waits-activation (Some (waits_for.Dependents r)) e = refl
waits-activation (Some waits_for.Release) e = refl
waits-activation None e = refl

waits-dependents : (r : RegionNo) (waiting : Option Waiting) → waits_in r waiting ≡ true → waits_for_delay waiting ≡ false
waits-dependents r (Some waits_for.Activation) e = refl
waits-dependents r (Some waits_for.Moment) e = absurd cc
waits-dependents r (Some (waits_for.Call d)) e = refl
waits-dependents r (Some (waits_for.EndOfCall d)) e = refl
waits-dependents r (Some (waits_for.Accept s)) e = refl
waits-dependents r (Some (waits_for.Select accepts delay terminate)) e = absurd cc
waits-dependents r (Some (waits_for.Dependents q)) e = refl
waits-dependents r (Some waits_for.Release) e = refl
waits-dependents r None e = refl

-- what holds of each task of a list holds of one that is found, and the test does

pub found-each : (P : Task → Type 0) (test : Task → Bool) (ts : List Task) (u : Task) → EachTask P ts → find test ts ≡ Some u → P u × (test u ≡ true)
found-each P test [] u each e = cc
found-each P test (t ∷ ts) u each e = found-step P test t u (find test ts) (test t) refl e each.0 (λ k. found-each P test ts u each.1 k)

module _ {G : GoodWorld} {May : Naming} {R : StepRelation} {Q : MoveRelation} (moves : FineMoves G May R Q) where
  pub gone_by_completion-keeps : (p : Image) (actor : Who) (c : Call) → Keeps G R (gone_by_completion p actor c)
  unfolding gone_by_completion
  gone_by_completion-keeps p actor c = search (gone-keeps, then-keeps, end_call-keeps, chains)

  wake_activator-from : (p : Image) (part : Part) (name : Who) (w : World) → G w → Idle name w → From R w (wake_activator p part name)
  unfolding wake_activator
  wake_activator-from p part name w good idle =
      looks_at-from (chains moves)
      (λ v. ready p part name ▷ when (task_of v name).group_failed (raises part name exception.Tasking) ▷ open_sequence p part name) w
      (then-from (chains moves) (ready p part name) _ w (ready-from moves p part name w good idle)
      (then-keeps (chains moves) _ _ (when-keeps (chains moves) (task_of w name).group_failed _ (raises-keeps (plain_steps moves) part name exception.Tasking))
      (open_sequence-keeps moves p part name)))

  end_group_where : (p : Image) (actor activator : Who) (w : World) (test : Bool) → G w → (test ≡ true → Idle activator w)
      → From R w (when test (wake_activator p (part_of actor activator) activator))
  end_group_where p actor activator w true good idle = wake_activator-from p (part_of actor activator) activator w good (idle refl)
  end_group_where p actor activator w false good idle = keeps-from (chains moves) nothing w good (nothing-keeps (chains moves))

  pub end_group-keeps : (p : Image) (actor activator : Who) → Keeps G R (end_group p actor activator)
  unfolding end_group
  end_group-keeps p actor activator =
      looks-from (chains moves) _
      (λ w good. end_group_where p actor activator w (not (has_activating w activator) && waits_for_activation (waiting_of w activator)) good
      (λ is. moves.asleep activator w good
      (waits-activation (waiting_of w activator) ((and_parts (not (has_activating w activator)) (waits_for_activation (waiting_of w activator)) is).1))))

  pub end_activation_by-keeps : (p : Image) (actor name : Who) (failed : Bool) (by : Option Who) → Keeps G R (end_activation_by p actor name failed by)
  unfolding end_activation_by
  end_activation_by-keeps p actor name failed None = search (nothing-keeps, chains)
  end_activation_by-keeps p actor name failed (Some activator) =
      search (changes-keeps, edit_task-alters, then-keeps, lose-alters, end_group-keeps, chains) depth 9

  pub end_activation-keeps : (p : Image) (actor name : Who) (failed : Bool) → Keeps G R (end_activation p actor name failed)
  unfolding end_activation
  end_activation-keeps p actor name failed = search (looks-keeps, end_activation_by-keeps, chains)

  pub complete_with-keeps : (p : Image) (actor name : Who) (calls : List Call) (failed : Bool) → Keeps G R (complete_with p actor name calls failed)
  unfolding complete_with
  complete_with-keeps p actor name calls failed =
      search (changes-keeps, edit_task-alters, then-keeps, for_each-keeps, gone_by_completion-keeps, end_activation-keeps, chains) depth 7

  pub complete-keeps : (p : Image) (actor name : Who) → Keeps G R (complete p actor name)
  unfolding complete
  complete-keeps p actor name = search (looks-keeps, when-keeps, complete_with-keeps, chains)

  ready_master-from : (p : Image) (actor : Who) (w : World) → G w → (found : Option Task) → ((t : Task) → found ≡ Some t → Idle t.who w)
      → From R w (for_some found (λ t. ready p (part_of actor t.who) t.who))
  ready_master-from p actor w good None idle = keeps-from (chains moves) nothing w good (nothing-keeps (chains moves))
  ready_master-from p actor w good (Some t) idle = ready-from moves p (part_of actor t.who) t.who w good (idle t refl)

  master_where : (p : Image) (actor : Who) (r : RegionNo) (w : World) (test : Bool) → G w
      → From R w (when test (for_some (find (waits_for_dependents r) w.tasks) (λ t. ready p (part_of actor t.who) t.who)))
  master_where p actor r w true good =
      ready_master-from p actor w good (find (waits_for_dependents r) w.tasks) (λ t e.
      let found = found-each (λ u. waits_for_delay (waiting_in u.state) ≡ false → Idle u.who w) (waits_for_dependents r) w.tasks t (moves.listed w good) e in
      found.0 (waits-dependents r (waiting_in t.state) found.1))
  master_where p actor r w false good = keeps-from (chains moves) nothing w good (nothing-keeps (chains moves))

  pub wake_master-keeps : (p : Image) (actor : Who) (r : RegionNo) → Keeps G R (wake_master p actor r)
  unfolding wake_master
  wake_master-keeps p actor r = looks-from (chains moves) _ (λ w good. master_where p actor r w (not (has_dependents w r)) good)

  forgotten_then : (name : Who) (g : Step) (w : World) → G w → Idle name w → Keeps G R g → From R w (changes (forget_task name) ▷ g)
  forgotten_then name g w good idle kept =
      then-from (chains moves) (changes (forget_task name)) g w (changes-from (chains moves) (forget_task name) w (moves.forgets_task name w good idle)) kept

  pub terminate-keeps : (p : Image) (actor name : Who) → Keeps G R (terminate p actor name)
  unfolding terminate
  terminate-keeps p actor name =
      looks-keeps (chains moves) _ (λ w. then-keeps (chains moves) (complete p actor name) _ (complete-keeps p actor name)
      (from-keeps (chains moves) _
      (λ v good. drops_then-from moves name _ v good
      (λ u good_u idle. forgotten_then name _ u good_u idle (for_some-keeps (chains moves) (task_of w name).master _ (wake_master-keeps p actor))))))

  leaves_or_ready : (p : Image) (actor name : Who) (test : Bool) (w : World) → G w → Idle name w
      → From R w (cond test (changes (edit_task name (with_state Runnable))) (ready p (OfOther name) name))
  leaves_or_ready p actor name true w good idle = changes-from (chains moves) (edit_task name (with_state Runnable)) w (moves.readies name w good idle)
  leaves_or_ready p actor name false w good idle = ready-from moves p (OfOther name) name w good idle

  pub leave_by_terminate-keeps : (p : Image) (actor : Who) (t : Task) → Keeps G R (leave_by_terminate p actor t)
  unfolding leave_by_terminate
  leave_by_terminate-keeps p actor t =
      from-keeps (chains moves) _
      (λ w good. drops_then-from moves t.who _ w good
      (λ v good_v idle. then-from (chains moves) _ (leaves t.who how.Terminate) v (leaves_or_ready p actor t.who (same_who actor t.who) v good_v idle)
      (leaves-keeps moves t.who how.Terminate)))
