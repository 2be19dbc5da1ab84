-- Creation, activation, completion and abort: each step keeps a relation that its parts keep.
use Rattle.std.specs.Prelude.{ℕ, ◌-◌, Bool, true, false, ◌||◌, List, [], ◌∷◌, Option, Some, None, leb, length, filter}
use Rattle.ann_base.specs.declared.identities.RegionNo.{RegionNo}
use Rattle.ann_base.specs.declared.exceptions.Raised.TheVariants as exception
use Rattle.profile_machine.specs.declared.world.lines.Line.TheVariants as line
use Rattle.trace_text.specs.declared.events.Created.TheVariants as created
use Rattle.trace_text.specs.declared.events.Who.{Who}
use Rattle.trace_text.specs.declared.events.Who.TheVariants as who
use Rattle.profile_image.specs.declared.image.Image.{Image}
use Rattle.profile_image.specs.declared.numbers.DeclNo.{DeclNo}
use Rattle.profile_image.specs.declared.numbers.StatementNo.{StatementNo}
use Rattle.profile_machine.specs.declared.run_data.Leaving.{Leaving}
use Rattle.profile_image.specs.declared.values.Value.{Value}
use Rattle.profile_image.specs.declared.values.Value.TheVariants as value_of
use Rattle.profile_machine.specs.declared.world.World.{World}
use Rattle.profile_machine.specs.declared.world.marks.ScopeMark.{ScopeMark}
use Rattle.profile_machine.specs.declared.world.scopes.ScopeId.{ScopeId}
use Rattle.profile_machine.specs.declared.world.marks.Purpose.{Purpose}
use Rattle.profile_machine.specs.declared.world.tasks.Waiting.{Waiting}
use Rattle.profile_machine.specs.declared.world.tasks.Waiting.TheVariants as waits_for
use Rattle.profile_machine.specs.declared.world.marks.Purpose.TheVariants as opened_for
use Rattle.profile_machine.specs.declared.world.tasks.Task as world
use Rattle.profile_image.specs.Program.{declaration_of, next_of, scope_of, task_unit_of}
use Rattle.profile_machine.specs.declared.world.lines.Part.{Part}
use Rattle.profile_machine.specs.declared.world.lines.Part.TheVariants.{Own, TheBlock}
use Rattle.profile_machine.specs.Steps.{Step, changes, looks, for_some, ◌▷◌, for_each, says, when, nothing}
use Rattle.profile_machine.specs.Frames.{has_room, pass_on, in_protected, is_deferred, edit_top, goes_on, goes, top_of, pop, is_protected}
use Rattle.profile_machine.specs.Scopes.{home, end_scope, cells_of, scope_in_use}
use Rattle.profile_machine.specs.Controlled.{next_to_finalize, finalize, top_region, edit_top_scope}
use Rattle.profile_machine.specs.Declarations.{set_thing}
use Rattle.profile_machine.specs.Tasking.{unit_of_declaration, optional_span, created_task, add_task, says_created, create_task, create, fall_from}
use Rattle.profile_machine.specs.Tasking.{unit_of_task, begin_task, says_done, fail_to_begin, activate_one, await_group, activate_group, activate}
use Rattle.profile_machine.specs.Tasking.{end_own_activation, end_made, complete_if_task, wait_for_dependents, leave_region, end_environment, end_task}
use Rattle.profile_machine.specs.Tasking.{is_normal, end_body, behind_scope, says_left, end_of_scope, go_on_leaving, end_scope_mark_of, end_scope_mark}
use Rattle.profile_machine.specs.Tasking.{says_abort, abort_one, unwind_by, unwind_one, abort_all, abort_statement, block_at_terminate}
use Rattle.profile_machine.specs.Tasking.{take_terminates, unwind_all, no_failure, is_to_activate, top_region_of_scope, is_to_abort, left_by}
use Rattle.profile_machine.specs.Tasking.{abnormal_task, named_tasks, raises_behind, is_made_in, leaves_as, being_left_mark, left_so_frame}
use Rattle.std.proofs.Common.{◌≡◌, refl, sym, ap, ◌∙◌}
use Rattle.profile_machine.specs.Values.{seen_by}
use Rattle.machine_laws.proofs.Moves.{StepRelation, MoveRelation, own}
use Rattle.machine_laws.proofs.FineMoves.{GoodWorld, Naming, EachIs, first_is_false}
use Rattle.machine_laws.proofs.FinestMoves.{FinestMoves, MarkOpenings, OwnRegions, chains, says-keeps}
use Rattle.machine_laws.proofs.Kept.Frames.{goes-keeps, popped, plain_steps}
use Rattle.machine_laws.proofs.Kept.Tasks.{edit_task-alters}
use Rattle.machine_laws.proofs.Kept.Dispatching.{to_head-keeps, ready-keeps, says_block-keeps, block-keeps}
use Rattle.machine_laws.proofs.Kept.Scopes.{open_scope-alters, end_scope-alters}
use Rattle.machine_laws.proofs.Kept.Inheritance.{inherit-alters}
use Rattle.machine_laws.proofs.Kept.Unwinding.{strike_outermost-alters, unwind-keeps}
use Rattle.machine_laws.proofs.Kept.Masters.{end_activation-keeps, complete-keeps, terminate-keeps, leave_by_terminate-keeps}
use Rattle.machine_laws.proofs.Kept.Controlled.{finalize-from}
use Rattle.ann_base.specs.declared.identities.TaskNo.{TaskNo}
use Rattle.profile_machine.specs.declared.world.marks.Frame.{Frame}
use Rattle.profile_machine.specs.declared.world.marks.Mark.TheVariants.{Scope}
use Rattle.profile_machine.specs.declared.world.appointments.Registered.{Registered}
use Rattle.profile_machine.specs.Tasks.{edit_task, task_of, waiting_of}
use Rattle.profile_machine.specs.Dispatching.{active_of}
use Rattle.profile_machine.specs.Unwinding.{any_struck}
use Rattle.profile_machine.specs.Masters.{region_of_mark, has_dependents, may_terminate, leave_by_terminate, has_activating}
use Rattle.machine_laws.proofs.Kept.Combinators.{Alters, From, Keeps, branch-keeps, changes-keeps, changes_then-from, changes_told-from, cond-keeps}
use Rattle.machine_laws.proofs.Kept.Combinators.{for_each-keeps, for_each_task-keeps, for_some-keeps, keeps-from, listed-keeps, looks-from, looks-keeps}
use Rattle.machine_laws.proofs.Kept.Combinators.{looks_at-from, nothing-keeps, sees-keeps, some_of-others, then-keeps, when-keeps, when-keeps-if}
use Rattle.machine_laws.proofs.Plain.Frames.{raise_if-from, given-from, raises-keeps, pass_on-keeps, given-keeps, raise_if-keeps}
use Rattle.machine_laws.proofs.Plain.Subprograms.{end_subprogram-keeps}
use Rattle.machine_laws.proofs.Plain.Declarations.{set_thing-alters}
use Rattle.machine_laws.proofs.Plain.PlainSteps.{anybody}
use Rattle.machine_laws.proofs.Plain.Results.{end_body_of_entry-keeps}

pub same_region_in : (r q : RegionNo) (region : Option RegionNo) → region ≡ Some r → region ≡ Some q → q ≡ r
same_region_in r q region a b = let one : Some q ≡ Some r = sym b ∙ a in cc

pub no_region : {P : Type 0} (q : RegionNo) (region : Option RegionNo) → region ≡ None → region ≡ Some q → P
no_region q region a b = absurd (let one : None ≡ Some q = sym a ∙ b in cc)

module _ {G : GoodWorld} {May Other : Naming} {R : StepRelation} {Q : MoveRelation} (moves : FinestMoves G May Other R Q) where
  says_created-keeps : (d : DeclNo) (t : world.Task) → Keeps G R (says_created d t)
  unfolding says_created
  says_created-keeps d t =
      looks-keeps (chains moves) _ (λ w. says-keeps moves Own (line.New (created.Task (record { 0 = w.drawn.tasks - 1 })) (Some d) t.base) refl)

  -- the object's cell gets the task's number
  abbrev name_task : Image → DeclNo → ScopeId → Step
  name_task p d within = looks (λ w. changes (set_thing p (record { within = within; declared = d }) (value_of.Task (Some (record { 0 = w.drawn.tasks - 1 })))))

  -- a step behind the new task
  added_then-from : (name : Who) (onward : Option StatementNo) (t : world.Task) (g : Step) (w : World) → R w [] (add_task t (edit_top name (goes_on onward) w))
      → Keeps G R g → From R w (goes name onward ▷ changes (add_task t) ▷ g)
  unfolding goes From
  added_then-from name onward t g w a kept said =
      let added = add_task t (edit_top name (goes_on onward) w) in
      changes_then-from (chains moves) (λ v. added) g w a (keeps-from (chains moves) g added (moves.behind w added a) kept) said

  create_task-from : (p : Image) (name : Who) (s : StatementNo) (d : DeclNo) (id : Option ScopeId) (t : world.Task) (w : World) → G w → Other name
      → t.who ≡ who.Task (record { 0 = w.drawn.tasks }) → t.frames ≡ [] → t.master ≡ Some (top_region w name) → t.cpu_ticks ≡ 0
      → From R w (create_task p name s d id t)
  unfolding create_task
  create_task-from p name s d id t w good other same_who none master clock =
      added_then-from name (next_of p s) t (for_some id (name_task p d) ▷ says_created d t) w
      (moves.adds_task name (next_of p s) t w good other same_who none master clock)
      (search (then-keeps, for_some-keeps, looks-keeps, changes-keeps, set_thing-alters, says_created-keeps, chains, plain_steps) depth 10)

  pub fall_from-keeps : (p : Image) (name : Who) (before : World) → May name → Keeps G R (fall_from p name before)
  unfolding fall_from
  fall_from-keeps p name before may = search (looks-keeps, when-keeps, to_head-keeps, chains)

  pub says_done-keeps : (part : Part) (name : Who) → Keeps G R (says_done part name)
  unfolding says_done
  says_done-keeps part (who.Task t) = search (says-keeps)
  says_done-keeps part who.Agent = search (nothing-keeps, chains)

  pub fail_to_begin-keeps : (p : Image) (activator : Who) (t : world.Task) → Keeps G R (fail_to_begin p activator t)
  unfolding fail_to_begin
  fail_to_begin-keeps p activator t = search (says-keeps, then-keeps, says_done-keeps, changes-keeps, edit_task-alters, terminate-keeps, chains) depth 8

  pub await_group-keeps : (name : Who) (begins failed : Bool) → Other name → Keeps G R (await_group name begins failed)
  unfolding await_group
  await_group-keeps name true failed other = search (block-keeps)
  await_group-keeps name false true other = search (raises-keeps, plain_steps)
  await_group-keeps name false false other = search (nothing-keeps, chains)

  pub end_own_activation-keeps : (p : Image) (name : Who) (s : StatementNo) → May name → Keeps G R (end_own_activation p name s)
  unfolding end_own_activation
  end_own_activation-keeps p name s may = search (looks-keeps, goes-keeps, then-keeps, end_activation-keeps, fall_from-keeps, chains)

  pub end_made-keeps : (p : Image) (actor : Who) (t : world.Task) → Keeps G R (end_made p actor t)
  unfolding end_made
  end_made-keeps p actor t = search (says_done-keeps, then-keeps, terminate-keeps, chains)

  pub complete_if_task-keeps : (p : Image) (name : Who) (purpose : Purpose) → May name → Keeps G R (complete_if_task p name purpose)
  unfolding complete_if_task
  complete_if_task-keeps p name purpose may = search (looks-keeps, when-keeps, complete-keeps, then-keeps, fall_from-keeps, chains)

  end_environment-alters : (leaving : Leaving) → Alters G R (end_environment leaving)
  unfolding Alters
  end_environment-alters leaving w good = moves.ends_environment leaving w good

  pub end_task-keeps : (p : Image) (name : Who) (leaving : Leaving) → Keeps G R (end_task p name leaving)
  unfolding end_task
  end_task-keeps p name leaving =
      search
      (says_done-keeps, then-keeps, looks-keeps, end_activation-keeps, terminate-keeps, when-keeps, changes-keeps, end_environment-alters, chains) depth 9

  pub end_body-keeps : (p : Image) (name : Who) (leaving : Leaving) (normally : Step) → Keeps G R normally → Keeps G R (end_body p name leaving normally)
  end_body-keeps p name leaving normally kept =
      branch-keeps (chains moves) (is_normal leaving) normally (pass_on p name leaving) (search) (search (pass_on-keeps, plain_steps, anybody))

  pub behind_scope-keeps : (p : Image) (name : Who) (purpose : Purpose) (cells : List Value) (leaving : Leaving)
      → Keeps G R (behind_scope p name purpose cells leaving)
  unfolding behind_scope
  behind_scope-keeps p name (opened_for.Block s) cells leaving = search (pass_on-keeps, plain_steps, anybody)
  behind_scope-keeps p name (opened_for.Subprogram back to) cells leaving = search (end_body-keeps, end_subprogram-keeps, plain_steps)
  behind_scope-keeps p name (opened_for.EntryBody c) cells leaving = search (end_body-keeps, end_body_of_entry-keeps, plain_steps)
  behind_scope-keeps p name opened_for.Task cells leaving = search (end_task-keeps)

  -- Program_Error, where a Finalize raised
  raised_behind-keeps : (name : Who) (test : Bool) → Keeps G R (when test (says Own (line.Raise name exception.Program)))
  raised_behind-keeps name test = search (when-keeps, says-keeps, chains)

  -- the scope is no longer there
  ended : (name : Who) (id : ScopeId) (r : RegionNo) (w : World) → R w (own (line.Left name r) ∷ []) (pop name w)
      → R w (own (line.Left name r) ∷ []) (end_scope id (pop name w))
  unfolding Alters
  ended name id r w first =
      moves.goes_on w (pop name w) (end_scope id (pop name w)) {xs = own (line.Left name r) ∷ []} {ys = []} first
      (end_scope-alters moves id (pop name w) (moves.behind w (pop name w) first))

  -- a scope's mark ends, with what tells it where it had a region
  left-from : (name : Who) (id : ScopeId) (region : Option RegionNo) (raised : Bool) (g : Step) (w : World) → R w [] (pop name w)
      → ((r : RegionNo) → region ≡ Some r → R w (own (line.Left name r) ∷ []) (pop name w)) → Keeps G R g
      → From R w (changes (pop name) ▷ changes (end_scope id)
      ▷ (for_some region (λ r. says Own (line.Left name r)) ▷ when raised (says Own (line.Raise name exception.Program))) ▷ g)
  left-from name id None raised g w out told kept =
      changes_then-from (chains moves) (pop name) _ w out (keeps-from (chains moves) _ (pop name w) (moves.behind w (pop name w) out)
      (then-keeps (chains moves) (changes (end_scope id)) _ (search (changes-keeps, end_scope-alters, chains))
      (then-keeps (chains moves) _ g (then-keeps (chains moves) nothing _ (nothing-keeps (chains moves)) (raised_behind-keeps name raised)) kept)))
  left-from name id (Some r) raised g w out told kept =
      changes_told-from (chains moves) (pop name) (end_scope id) Own (line.Left name r) (when raised (says Own (line.Raise name exception.Program)) ▷ g) w
      (ended name id r w (told r refl)) (then-keeps (chains moves) _ g (raised_behind-keeps name raised) kept)

  pub end_of_scope-from : (p : Image) (name : Who) (m : ScopeMark) (leaving : Leaving) (w : World) → R w [] (pop name w)
      → ((r : RegionNo) → m.region ≡ Some r → R w (own (line.Left name r) ∷ []) (pop name w)) → From R w (end_of_scope p name m leaving)
  unfolding end_of_scope says_left
  end_of_scope-from p name m leaving w out told =
      looks_at-from (chains moves)
      (λ v. changes (pop name) ▷ changes (end_scope m.within) ▷ says_left name m leaving
      ▷ behind_scope p name m.purpose (cells_of (scope_in_use v m.within)) (left_by m leaving)) w
      (left-from name m.within m.region (raises_behind m leaving)
      (behind_scope p name m.purpose (cells_of (scope_in_use w m.within)) (left_by m leaving)) w out told (search (behind_scope-keeps)))

  pub says_abort-keeps : (actor name : Who) → Keeps G R (says_abort actor name)
  unfolding says_abort
  says_abort-keeps (who.Task actor) (who.Task t) = search (says-keeps)
  says_abort-keeps (who.Task actor) who.Agent = search (nothing-keeps, chains)
  says_abort-keeps who.Agent t = search (nothing-keeps, chains)

  pub abort_one-keeps : (p : Image) (actor : Who) (t : world.Task) → Keeps G R (abort_one p actor t)
  unfolding abort_one
  abort_one-keeps p actor t = search (says_abort-keeps, then-keeps, cond-keeps, end_made-keeps, changes-keeps, strike_outermost-alters, chains)

  unwind_by-keeps : (p : Image) (name : Who) (acts : Bool) → Other name → Keeps G R (unwind_by p name acts)
  unfolding unwind_by
  unwind_by-keeps p name false other = search (unwind-keeps)
  unwind_by-keeps p name true other = search (looks-keeps, when-keeps, unwind-keeps, chains)

  pub unwind_one-keeps : (p : Image) (actor : Who) (t : world.Task) → Other t.who → Keeps G R (unwind_one p actor t)
  unfolding unwind_one
  unwind_one-keeps p actor t other = search (unwind_by-keeps)

  pub abort_all-keeps : (p : Image) (actor : Who) (tasks : List world.Task) → EachIs Other tasks → Keeps G R (abort_all p actor tasks)
  unfolding abort_all
  abort_all-keeps p actor tasks others =
      then-keeps (chains moves) (for_each tasks (λ t. changes (edit_task t.who abnormal_task))) _
      (search (for_each-keeps, changes-keeps, edit_task-alters, chains))
      (then-keeps (chains moves) (for_each tasks (abort_one p actor)) _ (search (for_each-keeps, abort_one-keeps, chains))
      (for_each_task-keeps (chains moves) Other tasks (unwind_one p actor) others (λ t other. unwind_one-keeps p actor t other)))

  abort_named-keeps : (p : Image) (name : Who) (aborted : List TaskNo) → Keeps G R (looks (λ w. abort_all p name (filter (is_to_abort w aborted) w.tasks)))
  abort_named-keeps p name aborted =
      looks-from (chains moves) _
      (λ w good. keeps-from (chains moves) _ w good
      (abort_all-keeps p name (filter (is_to_abort w aborted) w.tasks) (some_of-others Other (is_to_abort w aborted) w.tasks (moves.listed w good))))

  pub abort_statement-keeps : (p : Image) (name : Who) (s : StatementNo) (tasks : List DeclNo) → Keeps G R (abort_statement p name s tasks)
  unfolding abort_statement
  abort_statement-keeps p name s tasks =
      sees-keeps (chains moves) p name _
      (λ q. raise_if-keeps (plain_steps moves) name (in_protected q.world name) exception.Program _
      (given-keeps (plain_steps moves) Own name (named_tasks q tasks) _ (λ aborted.
      then-keeps (chains moves) (goes name (next_of p s)) _ (goes-keeps moves name (next_of p s)) (abort_named-keeps p name aborted))))

  pub block_at_terminate-keeps : (name : Who) (waiting : Option Waiting) → Other name → Keeps G R (block_at_terminate name waiting)
  unfolding block_at_terminate
  block_at_terminate-keeps name None other = search (nothing-keeps, chains)
  block_at_terminate-keeps name (Some waiting) other = search (when-keeps, says_block-keeps, chains)

  pub all_terminate-keeps : (p : Image) (actor : Who) → Keeps G R (looks (λ w. for_each (filter (may_terminate w) w.tasks) (leave_by_terminate p actor)))
  all_terminate-keeps p actor =
      listed-keeps (chains moves) Other moves.listed may_terminate (λ w. leave_by_terminate p actor)
      (λ w t other. leave_by_terminate-keeps moves p actor t other)

  pub take_terminates-keeps : (p : Image) (actor : Who) → Other actor → Keeps G R (take_terminates p actor)
  unfolding take_terminates
  take_terminates-keeps p actor other =
      then-keeps (chains moves) _ (looks (λ w. block_at_terminate actor (waiting_of w actor))) (all_terminate-keeps p actor)
      (search (looks-keeps, block_at_terminate-keeps, chains))

  pub unwind_all-keeps : (p : Image) (actor : Who) → Keeps G R (unwind_all p actor)
  unfolding unwind_all
  unwind_all-keeps p actor =
      listed-keeps (chains moves) Other moves.listed (λ w t. any_struck t.frames) (λ w. unwind_one p actor) (λ w t other. unwind_one-keeps p actor t other)

module _ {G : GoodWorld} {May Other : Naming} {R : StepRelation} {Q : MoveRelation} (moves : FinestMoves G May Other R Q)
    (openings : MarkOpenings G May Other R) where
  pub create-keeps : (p : Image) (name : Who) (s : StatementNo) (d : DeclNo) (part : ℕ) → May name → Keeps G R (create p name s d part)
  unfolding create
  create-keeps p name s d part may =
      looks-from (chains moves) _ (λ w good. let q = seen_by p w name in
      raise_if-from (plain_steps moves) name (in_protected w name || is_deferred w name) exception.Program _ w good (λ allowed.
      raise_if-from (plain_steps moves) name (leb 256 (length w.tasks)) exception.Storage _ w good (λ few.
      given-from (plain_steps moves) Own name (optional_span q (task_unit_of p (unit_of_declaration p d)).relative_deadline) _ w good (λ span.
      create_task-from moves p name s d (home w (declaration_of p d).scope q.within) (created_task q d (unit_of_declaration p d) part span w.drawn.tasks) w good
      (openings.outside name w good may (first_is_false (in_protected w name) (is_deferred w name) allowed)) refl refl refl refl))))

  pub begin_task-keeps : (p : Image) (activator : Who) (level : ℕ) (t : world.Task) → Other t.who → Keeps G R (begin_task p activator level t)
  unfolding begin_task
  begin_task-keeps p activator level t other =
      search (looks-keeps, changes-keeps, open_scope-alters, then-keeps, edit_task-alters, inherit-alters, ready-keeps, moves.other_may, chains) depth 11

  pub activate_one-keeps : (p : Image) (activator : Who) (level : ℕ) (t : world.Task) → Other t.who → Keeps G R (activate_one p activator level t)
  unfolding activate_one
  activate_one-keeps p activator level t other =
      looks-keeps (chains moves) _
      (λ w. branch-keeps (chains moves) (has_room w t.who 1 (scope_of p (unit_of_task p t).scope).size) (begin_task p activator level t)
      (fail_to_begin p activator t) (search (begin_task-keeps)) (search (fail_to_begin-keeps)))

  -- the tasks of the group, in order
  begin_group-keeps : (p : Image) (name : Who) (s : StatementNo) (part : ℕ)
      → Keeps G R (looks
      (λ w. goes name (next_of p s) ▷ changes (edit_task name no_failure)
      ▷ for_each (filter (is_to_activate (top_region_of_scope w name) part) w.tasks) (activate_one p name (active_of p w name))))
  begin_group-keeps p name s part =
      looks-from (chains moves) _ (λ w good. keeps-from (chains moves) _ w good
      (then-keeps (chains moves) (goes name (next_of p s)) _ (search (goes-keeps))
      (then-keeps (chains moves) (changes (edit_task name no_failure)) _ (search (changes-keeps, edit_task-alters, chains))
      (for_each_task-keeps (chains moves) Other (filter (is_to_activate (top_region_of_scope w name) part) w.tasks) (activate_one p name (active_of p w name))
      (some_of-others Other (is_to_activate (top_region_of_scope w name) part) w.tasks (moves.listed w good))
      (λ t other. activate_one-keeps p name (active_of p w name) t other)))))

  activate_group-keeps : (p : Image) (name : Who) (s : StatementNo) (part : ℕ) → Other name → Keeps G R (activate_group p name s part)
  unfolding activate_group
  activate_group-keeps p name s part other =
      then-keeps (chains moves) _ (looks (λ w. await_group name (has_activating w name) (task_of w name).group_failed)) (begin_group-keeps p name s part)
      (search (looks-keeps, await_group-keeps, chains))

  pub activate-keeps : (p : Image) (name : Who) (s : StatementNo) (part : ℕ) → May name → Keeps G R (activate p name s part)
  unfolding activate
  activate-keeps p name s part may =
      looks-from (chains moves) _ (λ w good. raise_if-from (plain_steps moves) name (in_protected w name || is_deferred w name) exception.Program _ w good
      (λ allowed. keeps-from (chains moves) _ w good
      (activate_group-keeps p name s part (openings.outside name w good may (first_is_false (in_protected w name) (is_deferred w name) allowed)))))

  pub leave_region-from : (p : Image) (name : Who) (f : Frame) (m : ScopeMark) (leaving : Leaving) (r : RegionNo) (w : World) → G w → May name
      → top_of w name ≡ Some f → f.mark ≡ Scope m → m.region ≡ Some r → m.being_left ≡ false → Keeps G R (wait_for_dependents name r)
      → From R w (leave_region p name m leaving r)
  unfolding leave_region
  leave_region-from p name f m leaving r w good may top is region left waits =
      changes_told-from (chains moves) (edit_top_scope name being_left_mark) (edit_top name (left_so_frame leaving)) Own (line.Leave name r (leaves_as leaving))
      (looks (λ v. for_each (filter (is_made_in r) v.tasks) (end_made p name)) ▷ complete_if_task p name m.purpose ▷ wait_for_dependents name r) w
      (moves.begins_leaving name f m r leaving w good may top is region left)
      (search (then-keeps, looks-keeps, for_each-keeps, end_made-keeps, complete_if_task-keeps, waits, chains) depth 9)

  -- an object of the region is finalized, or the scope has ended
  next_finalized-from : (p : Image) (name : Who) (f : Frame) (m : ScopeMark) (leaving : Leaving) (r : RegionNo) (found : Option Registered) (w : World) → G w
      → May name → top_of w name ≡ Some f → f.mark ≡ Scope m → m.region ≡ Some r → m.being_left ≡ true → next_to_finalize w r ≡ found
      → From R w (elim found as (λ _. Step) [ None ↦ end_of_scope p name m leaving | Some x ↦ finalize p name x ])
  next_finalized-from p name f m leaving r None w good may top is region left next =
      end_of_scope-from moves p name m leaving w (popped moves name f w good may top (ap is_protected is))
      (λ q region_is.
      moves.has_left name f m q w good may top is region_is left (ap (next_to_finalize w) (same_region_in r q m.region region region_is) ∙ next))
  next_finalized-from p name f m leaving r (Some x) w good may top is region left next =
      finalize-from moves openings p name f m r x w good may top is region left next

  -- a scope's mark ends, where what is known of its region lets it be left
  go_on_leaving-from : (p : Image) (name : Who) (f : Frame) (m : ScopeMark) (leaving : Leaving) (r : RegionNo) (test : Bool) (w : World) → G w → May name
      → top_of w name ≡ Some f → f.mark ≡ Scope m → m.region ≡ Some r → m.being_left ≡ test → (test ≡ false → From R w (leave_region p name m leaving r))
      → From R w (go_on_leaving p name m leaving r test)
  unfolding go_on_leaving
  go_on_leaving-from p name f m leaving r false w good may top is region left leaves = leaves refl
  go_on_leaving-from p name f m leaving r true w good may top is region left leaves =
      looks_at-from (chains moves) (λ v. elim (next_to_finalize v r) as (λ _. Step) [ None ↦ end_of_scope p name m leaving | Some x ↦ finalize p name x ]) w
      (next_finalized-from p name f m leaving r (next_to_finalize w r) w good may top is region left refl)

  end_scope_mark_of-from : (p : Image) (name : Who) (m : ScopeMark) (leaving : Leaving) (r : Option RegionNo) (f : Frame) (w : World) → G w → May name
      → top_of w name ≡ Some f → f.mark ≡ Scope m → m.region ≡ r
      → ((q : RegionNo) → m.region ≡ Some q → m.being_left ≡ false → From R w (leave_region p name m leaving q))
      → From R w (end_scope_mark_of p name m leaving r)
  unfolding end_scope_mark_of
  end_scope_mark_of-from p name m leaving None f w good may top is region leaves =
      end_of_scope-from moves p name m leaving w (popped moves name f w good may top (ap is_protected is))
      (λ q region_is. no_region q m.region region region_is)
  end_scope_mark_of-from p name m leaving (Some r) f w good may top is region leaves =
      go_on_leaving-from p name f m leaving r m.being_left w good may top is region refl (λ left. leaves r region left)

  pub end_scope_mark-from : (p : Image) (name : Who) (m : ScopeMark) (leaving : Leaving) (f : Frame) (w : World) → G w → May name → top_of w name ≡ Some f
      → f.mark ≡ Scope m → ((r : RegionNo) → m.region ≡ Some r → m.being_left ≡ false → From R w (leave_region p name m leaving r))
      → From R w (end_scope_mark p name m leaving)
  unfolding end_scope_mark
  end_scope_mark-from p name m leaving f w good may top is leaves = end_scope_mark_of-from p name m leaving m.region f w good may top is refl leaves

-- ---- a kept scope is left

module _ {G : GoodWorld} {May Other : Naming} {Owns : Who → RegionNo → Type 0} {R : StepRelation} {Q : MoveRelation} (moves : FinestMoves G May Other R Q)
    (openings : MarkOpenings G May Other R) (regions : OwnRegions G May Other Owns) where
  pub wait_for_dependents-keeps : (name : Who) (r : RegionNo) → May name → Owns name r → Keeps G R (wait_for_dependents name r)
  unfolding wait_for_dependents
  wait_for_dependents-keeps name r may owns =
      looks-from (chains moves) _ (λ w good. keeps-from (chains moves) _ w good
      (when-keeps-if (chains moves) (has_dependents w r) _
      (λ is. block-keeps moves TheBlock name (waits_for.Dependents r) (regions.awaits_dependents name r w good may owns is))))

  pub own_region-from : (p : Image) (name : Who) (f : Frame) (m : ScopeMark) (leaving : Leaving) (r : RegionNo) (w : World) → G w → May name
      → top_of w name ≡ Some f → f.mark ≡ Scope m → m.region ≡ Some r → m.being_left ≡ false → From R w (leave_region p name m leaving r)
  own_region-from p name f m leaving r w good may top is region left =
      leave_region-from moves openings p name f m leaving r w good may top is region left
      (wait_for_dependents-keeps name r may (regions.owned name f r w good may top (ap region_of_mark is ∙ region)))
