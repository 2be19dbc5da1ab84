-- Creation, activation, completion and abort: each step keeps a relation that its parts keep.
use Rattle.std.specs.Prelude.{ℕ, ◌-◌, Bool, true, false, ◌||◌, [], Option, Some, None, leb, length, filter}
use Rattle.ann_base.specs.declared.identities.RegionNo.{RegionNo}
use Rattle.ann_base.specs.declared.exceptions.Raised.TheVariants as exception
use Rattle.profile_machine.specs.declared.world.lines.Line.TheVariants as line
use Rattle.trace_text.specs.declared.events.Created.TheVariants as created
use Rattle.trace_text.specs.declared.events.Who.{Who}
use Rattle.trace_text.specs.declared.events.Who.TheVariants as who
use Rattle.profile_image.specs.declared.image.Image.{Image}
use Rattle.profile_image.specs.declared.numbers.DeclNo.{DeclNo}
use Rattle.profile_image.specs.declared.numbers.StatementNo.{StatementNo}
use Rattle.profile_machine.specs.declared.run_data.Leaving.{Leaving}
use Rattle.profile_image.specs.declared.values.Value.TheVariants as value_of
use Rattle.profile_machine.specs.declared.world.World.{World}
use Rattle.profile_machine.specs.declared.world.marks.ScopeMark.{ScopeMark}
use Rattle.profile_machine.specs.declared.world.scopes.ScopeId.{ScopeId}
use Rattle.profile_machine.specs.declared.world.marks.Purpose.{Purpose}
use Rattle.profile_machine.specs.declared.world.tasks.Waiting.{Waiting}
use Rattle.profile_machine.specs.declared.world.tasks.Task as world
use Rattle.profile_image.specs.Program.{declaration_of, next_of, task_unit_of}
use Rattle.profile_machine.specs.declared.world.lines.Part.{Part}
use Rattle.profile_machine.specs.declared.world.lines.Part.TheVariants.{Own}
use Rattle.profile_machine.specs.Steps.{Step, changes, looks, for_some, ◌▷◌, for_each}
use Rattle.profile_machine.specs.Frames.{pass_on, in_protected, is_deferred, edit_top, goes_on, goes}
use Rattle.profile_machine.specs.Scopes.{home}
use Rattle.profile_machine.specs.Declarations.{set_thing}
use Rattle.profile_machine.specs.Tasking.{unit_of_declaration, optional_span, created_task, add_task, says_created, create_task, create, fall_from}
use Rattle.profile_machine.specs.Tasking.{says_done, await_group, end_own_activation, complete_if_task, wait_for_dependents, end_environment, is_normal}
use Rattle.profile_machine.specs.Tasking.{end_body, says_left, says_abort, unwind_by, unwind_one, block_at_terminate, take_terminates, unwind_all}
use Rattle.std.proofs.Common.{◌≡◌, refl}
use Rattle.profile_machine.specs.Values.{seen_by}
use Rattle.machine_laws.proofs.Moves.{StepRelation, MoveRelation}
use Rattle.world_laws.proofs.Scopes.FineMoves.{FineMoves, Openings, chains, says-keeps}
use Rattle.world_laws.proofs.Scopes.Kept.Frames.{goes-keeps, plain_steps}
use Rattle.world_laws.proofs.Scopes.Kept.Dispatching.{to_head-keeps, says_block-keeps, block-keeps}
use Rattle.world_laws.proofs.Scopes.Kept.Unwinding.{unwind-keeps}
use Rattle.world_laws.proofs.Scopes.Kept.Masters.{end_activation-keeps, complete-keeps, leave_by_terminate-keeps}
use Rattle.profile_machine.specs.Tasks.{waiting_of}
use Rattle.profile_machine.specs.Unwinding.{any_struck}
use Rattle.profile_machine.specs.Masters.{may_terminate, leave_by_terminate}
use Rattle.machine_laws.proofs.FineMoves.{Anybody, GoodWorld, Naming}
use Rattle.machine_laws.proofs.Kept.Combinators.{Alters, From, Keeps, branch-keeps, changes-keeps, changes_then-from, for_some-keeps}
use Rattle.machine_laws.proofs.Kept.Combinators.{keeps-from, listed-keeps, looks-from, looks-keeps, nothing-keeps, then-keeps, when-keeps}
use Rattle.machine_laws.proofs.Plain.Frames.{raise_if-from, given-from, raises-keeps, pass_on-keeps}
use Rattle.machine_laws.proofs.Plain.Declarations.{set_thing-alters}
use Rattle.machine_laws.proofs.Plain.PlainSteps.{anybody}

module _ {G : GoodWorld} {May Other : Naming} {R : StepRelation} {Q : MoveRelation} (moves : FineMoves G May Other R Q) where
  says_created-keeps : (d : DeclNo) (t : world.Task) → Keeps G R (says_created d t)
  unfolding says_created
  says_created-keeps d t = looks-keeps (chains moves) _ (λ w. says-keeps moves Own (line.New (created.Task (record { 0 = w.drawn.tasks - 1 })) (Some d) t.base))

  -- the object's cell gets the task's number
  abbrev name_task : Image → DeclNo → ScopeId → Step
  name_task p d within = looks (λ w. changes (set_thing p (record { within = within; declared = d }) (value_of.Task (Some (record { 0 = w.drawn.tasks - 1 })))))

  -- a step behind the new task
  added_then-from : (name : Who) (onward : Option StatementNo) (t : world.Task) (g : Step) (w : World) → R w [] (add_task t (edit_top name (goes_on onward) w))
      → Keeps G R g → From R w (goes name onward ▷ changes (add_task t) ▷ g)
  unfolding goes From
  added_then-from name onward t g w a kept said =
      let added = add_task t (edit_top name (goes_on onward) w) in
      changes_then-from (chains moves) (λ v. added) g w a (keeps-from (chains moves) g added (moves.behind w added a) kept) said

  pub fall_from-keeps : (p : Image) (name : Who) (before : World) → May name → Keeps G R (fall_from p name before)
  unfolding fall_from
  fall_from-keeps p name before may = search (looks-keeps, when-keeps, to_head-keeps, chains)

  pub says_done-keeps : (part : Part) (name : Who) → Keeps G R (says_done part name)
  unfolding says_done
  says_done-keeps part (who.Task t) = search (says-keeps)
  says_done-keeps part who.Agent = search (nothing-keeps, chains)

  pub await_group-keeps : (name : Who) (begins failed : Bool) → Other name → Keeps G R (await_group name begins failed)
  unfolding await_group
  await_group-keeps name true failed other = search (block-keeps)
  await_group-keeps name false true other = search (raises-keeps, plain_steps)
  await_group-keeps name false false other = search (nothing-keeps, chains)

  pub end_own_activation-keeps : (p : Image) (name : Who) (s : StatementNo) → May name → Keeps G R (end_own_activation p name s)
  unfolding end_own_activation
  end_own_activation-keeps p name s may = search (looks-keeps, goes-keeps, then-keeps, end_activation-keeps, fall_from-keeps, chains)

  pub wait_for_dependents-keeps : (name : Who) (r : RegionNo) → Other name → Keeps G R (wait_for_dependents name r)
  unfolding wait_for_dependents
  wait_for_dependents-keeps name r other = search (looks-keeps, when-keeps, block-keeps, chains)

  pub complete_if_task-keeps : (p : Image) (name : Who) (purpose : Purpose) → May name → Keeps G R (complete_if_task p name purpose)
  unfolding complete_if_task
  complete_if_task-keeps p name purpose may = search (looks-keeps, when-keeps, complete-keeps, then-keeps, fall_from-keeps, chains)

  pub end_environment-alters : (leaving : Leaving) → Alters G R (end_environment leaving)
  unfolding Alters
  end_environment-alters leaving w good = moves.ends_environment leaving w good

  pub end_body-keeps : (p : Image) (name : Who) (leaving : Leaving) (normally : Step) → Keeps G R normally → Keeps G R (end_body p name leaving normally)
  end_body-keeps p name leaving normally kept =
      branch-keeps (chains moves) (is_normal leaving) normally (pass_on p name leaving) (search) (search (pass_on-keeps, plain_steps, anybody))

  pub says_left-keeps : (name : Who) (m : ScopeMark) (leaving : Leaving) → Keeps G R (says_left name m leaving)
  unfolding says_left
  says_left-keeps name m leaving = search (for_some-keeps, says-keeps, then-keeps, when-keeps, chains) depth 8

  pub says_abort-keeps : (actor name : Who) → Keeps G R (says_abort actor name)
  unfolding says_abort
  says_abort-keeps (who.Task actor) (who.Task t) = search (says-keeps)
  says_abort-keeps (who.Task actor) who.Agent = search (nothing-keeps, chains)
  says_abort-keeps who.Agent t = search (nothing-keeps, chains)

  unwind_by-keeps : (p : Image) (name : Who) (acts : Bool) → Other name → Keeps G R (unwind_by p name acts)
  unfolding unwind_by
  unwind_by-keeps p name false other = search (unwind-keeps)
  unwind_by-keeps p name true other = search (looks-keeps, when-keeps, unwind-keeps, chains)

  pub unwind_one-keeps : (p : Image) (actor : Who) (t : world.Task) → Other t.who → Keeps G R (unwind_one p actor t)
  unfolding unwind_one
  unwind_one-keeps p actor t other = search (unwind_by-keeps)

  pub block_at_terminate-keeps : (name : Who) (waiting : Option Waiting) → Other name → Keeps G R (block_at_terminate name waiting)
  unfolding block_at_terminate
  block_at_terminate-keeps name None other = search (nothing-keeps, chains)
  block_at_terminate-keeps name (Some waiting) other = search (when-keeps, says_block-keeps, chains)

  pub all_terminate-keeps : (p : Image) (actor : Who) → Keeps G R (looks (λ w. for_each (filter (may_terminate w) w.tasks) (leave_by_terminate p actor)))
  all_terminate-keeps p actor =
      listed-keeps (chains moves) Other moves.listed may_terminate (λ w. leave_by_terminate p actor)
      (λ w t other. leave_by_terminate-keeps moves p actor t other)

  pub take_terminates-keeps : (p : Image) (actor : Who) → Other actor → Keeps G R (take_terminates p actor)
  unfolding take_terminates
  take_terminates-keeps p actor other =
      then-keeps (chains moves) _ (looks (λ w. block_at_terminate actor (waiting_of w actor))) (all_terminate-keeps p actor)
      (search (looks-keeps, block_at_terminate-keeps, chains))

  pub unwind_all-keeps : (p : Image) (actor : Who) → Keeps G R (unwind_all p actor)
  unfolding unwind_all
  unwind_all-keeps p actor =
      listed-keeps (chains moves) Other moves.listed (λ w t. any_struck t.frames) (λ w. unwind_one p actor) (λ w t other. unwind_one-keeps p actor t other)

module _ {G : GoodWorld} {Acts : Naming} {R : StepRelation} {Q : MoveRelation} (moves : FineMoves G Anybody Anybody R Q) (openings : Openings G Acts R) where
  create_task-from : (p : Image) (name : Who) (s : StatementNo) (d : DeclNo) (id : Option ScopeId) (t : world.Task) (w : World) → G w
      → t.who ≡ who.Task (record { 0 = w.drawn.tasks }) → t.frames ≡ [] → From R w (create_task p name s d id t)
  unfolding create_task
  create_task-from p name s d id t w good same_who none =
      added_then-from moves name (next_of p s) t (for_some id (name_task moves p d) ▷ says_created d t) w
      (openings.adds_task name (next_of p s) t w good same_who none)
      (search (then-keeps, for_some-keeps, looks-keeps, changes-keeps, set_thing-alters, says_created-keeps, chains, plain_steps) depth 10)

  pub create-keeps : (p : Image) (name : Who) (s : StatementNo) (d : DeclNo) (part : ℕ) → Keeps G R (create p name s d part)
  unfolding create
  create-keeps p name s d part =
      looks-from (chains moves) _ (λ w good. let q = seen_by p w name in
      raise_if-from (plain_steps moves) name (in_protected w name || is_deferred w name) exception.Program _ w good (λ allowed.
      raise_if-from (plain_steps moves) name (leb 256 (length w.tasks)) exception.Storage _ w good (λ few.
      given-from (plain_steps moves) Own name (optional_span q (task_unit_of p (unit_of_declaration p d)).relative_deadline) _ w good (λ span.
      create_task-from p name s d (home w (declaration_of p d).scope q.within)
      (created_task q d (unit_of_declaration p d) part span w.drawn.tasks) w good refl refl))))
