-- Completion, termination and masters: each step keeps what its parts keep.
use Rattle.ann_base.specs.declared.exceptions.Raised.TheVariants as exception
use Rattle.ann_base.specs.declared.identities.RegionNo.{RegionNo}
use Rattle.world_laws.proofs.Places.ActingMoves.{LaterMoves, SelectMoves}
use Rattle.ceiling_laws.proofs.Fine.Kept.CallEnds.{end_call-keeps, gone-keeps}
use Rattle.ceiling_laws.proofs.Fine.Kept.Frames.{leaves-keeps, open_sequence-keeps, raises-keeps}
use Rattle.ceiling_laws.proofs.Fine.Kept.Scopes.{drop_delay-alters}
use Rattle.ceiling_laws.proofs.Fine.Kept.Tasks.{edit_task-alters}
use Rattle.ceiling_laws.proofs.Fine.Kept.Waking.{asleep_at, ready-at}
use Rattle.ceiling_laws.proofs.Fine.LevelMoves.{BaseMoves}
use Rattle.ceiling_laws.proofs.Runs.Triples.{At, Keeps, Leads, State, With, changes-keeps, for_each-keeps, for_some-keeps, from_at, looks-keeps}
use Rattle.ceiling_laws.proofs.Runs.Triples.{looks-leads, looks-with, nothing-keeps, then-keeps, then-leads, when-keeps, when-leads}
use Rattle.profile_machine.specs.Appointments.{drop_delay}
use Rattle.profile_machine.specs.Dispatching.{ready}
use Rattle.profile_machine.specs.Inheritance.{lose}
use Rattle.profile_machine.specs.Masters.{complete, complete_with, completed_task, end_activation, end_activation_by, end_group}
use Rattle.profile_machine.specs.Masters.{forget_task, gone_by_completion, has_activating, has_dependents, has_failed, leave_by_terminate}
use Rattle.profile_machine.specs.Masters.{not_activating, part_of, queued_calls, terminate, waits_at_terminate, waits_for_activation}
use Rattle.profile_machine.specs.Masters.{waits_for_dependents, waits_in, wake_activator, wake_master, with_failure}
use Rattle.profile_machine.specs.Steps.{changes, for_some, nothing}
use Rattle.profile_machine.specs.Tasks.{edit_task, task_of, waiting_of, with_state}
use Rattle.profile_image.specs.Words.{same_who}
use Rattle.profile_image.specs.declared.image.Image.{Image}
use Rattle.profile_machine.specs.declared.run_data.Leaving.TheVariants as how
use Rattle.profile_machine.specs.declared.world.World.{World}
use Rattle.profile_machine.specs.declared.world.calls.Call.{Call}
use Rattle.profile_machine.specs.declared.world.calls.Outcome.TheVariants as call_ended
use Rattle.profile_machine.specs.declared.world.lines.Part.TheVariants.{OfOther, Own}
use Rattle.profile_machine.specs.declared.world.lines.Said.{Said}
use Rattle.profile_machine.specs.declared.world.tasks.Cause.TheVariants as inherited_by
use Rattle.profile_machine.specs.declared.world.tasks.State.TheVariants.{Runnable}
use Rattle.profile_machine.specs.declared.world.tasks.Task.{Task}
use Rattle.std.proofs.Common.{refl, subst, ◌≡◌}
use Rattle.std.specs.Prelude.{Bool, List, None, Option, Some, cond, false, find, not, true, ◌&&◌}
use Rattle.std.proofs.lemmas.Bool.{and_parts}
use Rattle.trace_text.specs.declared.events.Who.{Who}
use Rattle.trace_text.specs.declared.events.Who.TheVariants as who
use Rattle.ceiling_laws.proofs.Runs.Kept.Waking.{found-each, waiting-blocked, who-is}
use Rattle.ceiling_laws.proofs.Runs.LevelMoves.{EachTask, Fitting, Sleeping, is_blocked}
use Rattle.machine_laws.proofs.FineMoves.{Naming}

module _ {p : Image} {Fits : Fitting} {Sleeps : Sleeping} {X : State} (moves : BaseMoves p Fits Sleeps X) (actor : Who)
    (fits : (name : Who) → Fits (part_of actor name) name) where
  pub gone_by_completion-keeps : (c : Call) → Keeps X (gone_by_completion p actor c)
  unfolding gone_by_completion
  gone_by_completion-keeps c =
      then-keeps _ _ (gone-keeps moves.quiet p (part_of actor (who.Task c.caller)) c)
      (end_call-keeps moves (part_of actor (who.Task c.caller)) c (call_ended.ToRaise exception.Tasking) (fits (who.Task c.caller)))

  wake_activator-leads : (name : Who) → Leads (With X (λ w. Sleeps w name)) X (wake_activator p (part_of actor name) name)
  unfolding wake_activator
  wake_activator-leads name =
      looks-leads _ (λ w. then-leads (ready p (part_of actor name) name) _ (moves.wakes (part_of actor name) name (fits name))
      (then-keeps _ _ (when-keeps (task_of w name).group_failed _ (raises-keeps moves.quiet (part_of actor name) name exception.Tasking))
      (open_sequence-keeps moves.quiet p (part_of actor name) name)))

  pub end_group-keeps : (activator : Who) → Keeps X (end_group p actor activator)
  unfolding end_group
  end_group-keeps activator =
      looks-with _ (λ v said h. when-leads (not (has_activating v activator) && waits_for_activation (waiting_of v activator)) _
      (λ is. asleep_at moves activator v _
      (moves.sleeps v activator
      (waiting-blocked waits_for_activation refl (task_of v activator).state
      ((and_parts (not (has_activating v activator)) (waits_for_activation (waiting_of v activator)) is).1)))
      (wake_activator-leads activator))
      (λ w s k. k.0))

  module _ (name : Who) (loses : (w : World) (said : List Said) → X w said → X (lose name inherited_by.Activation w) said) where
    end_activation_by-keeps : (failed : Bool) (by : Option Who) → Keeps X (end_activation_by p actor name failed by)
    unfolding end_activation_by
    end_activation_by-keeps failed None = nothing-keeps
    end_activation_by-keeps failed (Some activator) =
        then-keeps _ _ (changes-keeps _ (edit_task-alters moves.quiet name not_activating (λ t. refl)))
        (then-keeps _ _ (changes-keeps _ (record { turns = loses }))
        (then-keeps _ _ (changes-keeps _ (edit_task-alters moves.quiet activator (with_failure failed) (λ t. refl))) (end_group-keeps activator)))

    pub end_activation-keeps : (failed : Bool) → Keeps X (end_activation p actor name failed)
    unfolding end_activation
    end_activation-keeps failed = looks-keeps _ (λ w. end_activation_by-keeps failed (task_of w name).activator)

    pub complete_with-keeps : (calls : List Call) (failed : Bool) → Keeps X (complete_with p actor name calls failed)
    unfolding complete_with
    complete_with-keeps calls failed =
        then-keeps _ _ (changes-keeps _ (edit_task-alters moves.quiet name completed_task (λ t. refl)))
        (then-keeps _ _ (for_each-keeps calls _ gone_by_completion-keeps) (end_activation-keeps failed))

    pub complete-keeps : Keeps X (complete p actor name)
    unfolding complete
    complete-keeps =
        looks-keeps _ (λ w. when-keeps (not (task_of w name).completed) _ (complete_with-keeps (queued_calls w (task_of w name)) (has_failed (task_of w name))))

-- ---- by who acts

module _ {p : Image} {actor : Who} {Fits : Fitting} {Sleeps : Sleeping} {X : State} (later : LaterMoves p actor Fits Sleeps X) where
  fits_by : (b : Bool) (name : Who) → Fits (cond b Own (OfOther name)) name
  fits_by true name = later.fits_own name
  fits_by false name = later.fits_other name

  pub fits_part : (name : Who) → Fits (part_of actor name) name
  fits_part name = fits_by (same_who actor name) name

-- who waits at a terminate alternative leaves its select
module _ {p : Image} {actor : Who} {Listed : World → Naming} {W Y : State} {V : World → State} (choosing : SelectMoves p actor Listed W Y V) where
  leaves_or_ready : (v : World) (name : Who) (b : Bool) → same_who actor name ≡ b → Listed v name
      → (same_who actor name ≡ true → waits_at_terminate (waiting_of v actor) ≡ true)
      → Keeps (V v) (cond b (changes (edit_task name (with_state Runnable))) (ready p (OfOther name) name))
  leaves_or_ready v name true is listed waits =
      subst (λ n. Keeps (V v) (changes (edit_task n (with_state Runnable)))) (who-is actor name is) (choosing.runs_on v (waits is))
  leaves_or_ready v name false is listed waits = choosing.begins v name is listed

  pub leave_by_terminate-keeps : (v : World) (t : Task) → Listed v t.who → (same_who actor t.who ≡ true → waits_at_terminate (waiting_of v actor) ≡ true)
      → Keeps (V v) (leave_by_terminate p actor t)
  unfolding leave_by_terminate
  leave_by_terminate-keeps v t listed waits =
      then-keeps _ _ (changes-keeps _ (drop_delay-alters (choosing.looking v) t.who))
      (then-keeps _ _ (leaves_or_ready v t.who (same_who actor t.who) refl listed waits) (leaves-keeps (choosing.looking v) t.who how.Terminate))

-- ---- a task is no longer there

module _ {p : Image} {Fits : Fitting} {Sleeps : Sleeping} {X : State} (moves : BaseMoves p Fits Sleeps X) (actor : Who)
    (fits : (name : Who) → Fits (part_of actor name) name)
    (found_asleep : (w : World) (said : List Said) → X w said → EachTask (λ t. is_blocked t.state ≡ true → Sleeps w t.who) w.tasks) where
  ready_master-at : (v : World) (found : Option Task) → ((t : Task) → found ≡ Some t → Sleeps v t.who)
      → Leads (At X v) X (for_some found (λ t. ready p (part_of actor t.who) t.who))
  ready_master-at v None sleeps = from_at nothing nothing-keeps
  ready_master-at v (Some t) sleeps = ready-at moves (part_of actor t.who) t.who v (fits t.who) (sleeps t refl)

  wake_master-keeps : (r : RegionNo) → Keeps X (wake_master p actor r)
  unfolding wake_master
  wake_master-keeps r =
      looks-with _ (λ v said h. when-leads (not (has_dependents v r)) _
      (λ is. ready_master-at v (find (waits_for_dependents r) v.tasks) (λ t e.
      let found = found-each (λ u. is_blocked u.state ≡ true → Sleeps v u.who) (waits_for_dependents r) v.tasks t (found_asleep v said h) e in
      found.0 (waiting-blocked (waits_in r) refl t.state found.1)))
      (λ w s k. k.0))

  -- it was completed before, if it was not yet
  pub terminate-leads : {Z : State} (dying : BaseMoves p Fits Sleeps Z) (name : Who)
      → ((w : World) (said : List Said) → Z w said → Z (lose name inherited_by.Activation w) said) → Leads Z X (changes (forget_task name))
      → Leads Z X (terminate p actor name)
  unfolding terminate
  terminate-leads dying name loses forgets =
      looks-leads _ (λ v. then-leads (complete p actor name) _ (complete-keeps dying actor fits name loses)
      (then-leads (changes (drop_delay name)) _ (changes-keeps _ (drop_delay-alters dying.quiet name))
      (then-leads (changes (forget_task name)) _ forgets (for_some-keeps (task_of v name).master _ wake_master-keeps))))
