-- Creation, activation, completion and abort: each step leaves worlds good where its parts do.
use Rattle.std.specs.Prelude.{ℕ, ◌-◌, Bool, true, false, ◌||◌, List, [], ◌∷◌, Option, Some, None, leb, length, filter, cond, eqb, ◌&&◌}
use Rattle.ann_base.specs.declared.identities.RegionNo.{RegionNo}
use Rattle.ann_base.specs.declared.exceptions.Raised.TheVariants as exception
use Rattle.profile_machine.specs.declared.world.lines.Line.TheVariants as line
use Rattle.trace_text.specs.declared.events.Created.TheVariants as created
use Rattle.trace_text.specs.declared.events.Who.{Who}
use Rattle.trace_text.specs.declared.events.Who.TheVariants as who
use Rattle.profile_image.specs.declared.image.Image.{Image}
use Rattle.profile_image.specs.declared.numbers.DeclNo.{DeclNo}
use Rattle.profile_image.specs.declared.numbers.StatementNo.{StatementNo}
use Rattle.profile_machine.specs.declared.run_data.Leaving.{Leaving}
use Rattle.profile_image.specs.declared.values.Value.{Value}
use Rattle.profile_image.specs.declared.values.Value.TheVariants as value_of
use Rattle.profile_machine.specs.declared.world.World.{World}
use Rattle.profile_machine.specs.declared.world.marks.ScopeMark.{ScopeMark}
use Rattle.profile_machine.specs.declared.world.scopes.ScopeId.{ScopeId}
use Rattle.profile_machine.specs.declared.world.marks.Purpose.{Purpose}
use Rattle.profile_machine.specs.declared.world.tasks.Waiting.{Waiting}
use Rattle.profile_machine.specs.declared.world.tasks.Waiting.TheVariants as waits_for
use Rattle.profile_machine.specs.declared.world.marks.Purpose.TheVariants as opened_for
use Rattle.profile_machine.specs.declared.world.tasks.Task as world
use Rattle.profile_image.specs.Program.{declaration_of, next_of, scope_of, task_unit_of}
use Rattle.profile_machine.specs.declared.world.lines.Part.{Part}
use Rattle.profile_machine.specs.declared.world.lines.Part.TheVariants.{Own, TheBlock, OfOther}
use Rattle.profile_machine.specs.Steps.{Step, changes, looks, for_some, ◌▷◌, for_each, says, when}
use Rattle.profile_machine.specs.Frames.{has_room, pass_on, in_protected, is_deferred, edit_top, goes_on, goes, top_of, pop, is_protected}
use Rattle.profile_machine.specs.Scopes.{home, end_scope, cells_of, scope_in_use, open_scope, plainly}
use Rattle.profile_machine.specs.Controlled.{next_to_finalize, finalize, top_region, edit_top_scope}
use Rattle.profile_machine.specs.Declarations.{set_thing}
use Rattle.profile_machine.specs.Tasking.{unit_of_declaration, optional_span, created_task, add_task, says_created, create_task, create, fall_from}
use Rattle.profile_machine.specs.Tasking.{unit_of_task, begin_task, says_done, fail_to_begin, activate_one, await_group, activate_group, activate}
use Rattle.profile_machine.specs.Tasking.{end_own_activation, end_made, complete_if_task, wait_for_dependents, leave_region, end_environment, end_task}
use Rattle.profile_machine.specs.Tasking.{is_normal, end_body, behind_scope, says_left, end_of_scope, go_on_leaving, end_scope_mark_of, end_scope_mark}
use Rattle.profile_machine.specs.Tasking.{says_abort, abort_one, unwind_by, unwind_one, abort_all, abort_statement, block_at_terminate, take_terminates}
use Rattle.profile_machine.specs.Tasking.{unwind_all, no_failure, is_to_activate, top_region_of_scope, is_to_abort, left_by, abnormal_task, named_tasks}
use Rattle.profile_machine.specs.Tasking.{raises_behind, is_made_in, leaves_as, being_left_mark, left_so_frame, is_task_scope, activated_task}
use Rattle.std.proofs.Common.{◌≡◌, refl, sym, ap, ◌∙◌, subst, ◌⊎◌, inl, inr}
use Rattle.profile_machine.specs.Values.{seen_by}
use Rattle.world_laws.proofs.Actions.FineMoves.{FineMoves, chains, says-keeps}
use Rattle.world_laws.proofs.Actions.Sound.{Sound, Free, Good}
use Rattle.std.proofs.lemmas.Bool.{and_parts, false≢true}
use Rattle.profile_machine.specs.declared.world.marks.Mark.TheVariants.{Scope}
use Rattle.world_laws.proofs.Actions.Natures.{nature}
use Rattle.world_laws.proofs.Actions.Kept.Combinators.{changes_then-from, says_then-from, when-from}
use Rattle.world_laws.proofs.Actions.Kept.Frames.{goes-keeps, popped, edit_top-alters, plain_steps}
use Rattle.world_laws.proofs.Actions.Kept.Tasks.{edit_task-alters}
use Rattle.world_laws.proofs.Actions.Kept.Dispatching.{to_head-keeps, ready-keeps, says_block-keeps, block-keeps}
use Rattle.world_laws.proofs.Actions.Kept.Scopes.{end_scope-alters, open_scope-alters}
use Rattle.world_laws.proofs.Actions.Kept.Inheritance.{inherit-alters}
use Rattle.world_laws.proofs.Actions.Kept.Unwinding.{strike_outermost-alters, unwind-keeps}
use Rattle.world_laws.proofs.Actions.Kept.Masters.{end_activation-keeps, complete-keeps, terminate-keeps, leave_by_terminate-keeps}
use Rattle.world_laws.proofs.Actions.Kept.Controlled.{edit_top_scope-alters, finalize-keeps}
use Rattle.ann_base.specs.declared.identities.TaskNo.{TaskNo}
use Rattle.profile_machine.specs.declared.world.marks.Frame.{Frame}
use Rattle.profile_machine.specs.declared.world.appointments.Registered.{Registered}
use Rattle.profile_machine.specs.Tasks.{edit_task, task_of, is_made}
use Rattle.profile_machine.specs.Dispatching.{active_of, block, ready}
use Rattle.profile_machine.specs.Unwinding.{strike_outermost}
use Rattle.profile_machine.specs.Masters.{has_dependents, has_activating}
use Rattle.world_laws.proofs.Actions.LonelyMoves.{GoodLonely, lonely_moves}
use Rattle.world_laws.proofs.Actions.MadeTasks.{MadeOf, Member, filter-member, made-free}
use Rattle.world_laws.proofs.Actions.GoodMoves.{add_task-made, free-by_test, free-floor, free-region, good_moves}
use Rattle.world_laws.proofs.Actions.Kept.Switching.{Only, less-from, switch-from}
use Rattle.world_laws.proofs.Actions.Kept.Protected.{beside}
use Rattle.profile_image.specs.Words.{is_the, same_region}
use Rattle.profile_machine.specs.Inheritance.{inherit}
use Rattle.profile_machine.specs.declared.world.tasks.Cause.TheVariants as inherited_by
use Rattle.machine_laws.proofs.QueueLemmas.{by_test}
use Rattle.machine_laws.proofs.FineMoves.{GoodWorld, Naming}
use Rattle.line_laws.proofs.Leaving.Modes.{Nobody}
use Rattle.machine_laws.proofs.Kept.Combinators.{Alters, From, Keeps, branch-keeps, changes-keeps, for_each-keeps, for_some-keeps, keeps-from}
use Rattle.machine_laws.proofs.Kept.Combinators.{looks-from, looks-keeps, looks_at-from, nothing-keeps, sees-keeps, then-from, then-keeps, when-keeps}
use Rattle.world_laws.proofs.Behind.{Behind, wide-from}
use Rattle.machine_laws.proofs.Plain.Frames.{raise_if-from, given-from, raises-keeps, pass_on-keeps, given-keeps, raise_if-keeps}
use Rattle.machine_laws.proofs.Plain.Subprograms.{end_subprogram-keeps}
use Rattle.machine_laws.proofs.Plain.Results.{end_body_of_entry-keeps}
use Rattle.machine_laws.proofs.Plain.Declarations.{set_thing-alters}
use Rattle.machine_laws.proofs.Plain.PlainSteps.{anybody}

module _ {G : GoodWorld} {F : Naming} (moves : FineMoves G F) where
  says_created-keeps : (d : DeclNo) (t : world.Task) → Keeps G (Behind G) (says_created d t)
  unfolding says_created
  says_created-keeps d t = looks-keeps (chains moves) _ (λ w. says-keeps moves Own (line.New (created.Task (record { 0 = w.drawn.tasks - 1 })) (Some d) t.base))

  -- the object's cell gets the task's number
  abbrev name_task : Image → DeclNo → ScopeId → Step
  name_task p d within = looks (λ w. changes (set_thing p (record { within = within; declared = d }) (value_of.Task (Some (record { 0 = w.drawn.tasks - 1 })))))

  behind_new-keeps : (p : Image) (d : DeclNo) (id : Option ScopeId) (t : world.Task) → Keeps G (Behind G) (for_some id (name_task p d) ▷ says_created d t)
  behind_new-keeps p d id t =
      search (then-keeps, for_some-keeps, looks-keeps, changes-keeps, set_thing-alters, says_created-keeps, chains, plain_steps) depth 10

  pub fall_from-keeps : (p : Image) (name : Who) (before : World) → Keeps G (Behind G) (fall_from p name before)
  unfolding fall_from
  fall_from-keeps p name before = search (looks-keeps, when-keeps, to_head-keeps, chains)

  pub says_done-keeps : (part : Part) (name : Who) → Keeps G (Behind G) (says_done part name)
  unfolding says_done
  says_done-keeps part (who.Task t) = search (says-keeps)
  says_done-keeps part who.Agent = search (nothing-keeps, chains)

  pub fail_to_begin-keeps : (p : Image) (activator : Who) (t : world.Task) → F t.who → Keeps G (Behind G) (fail_to_begin p activator t)
  unfolding fail_to_begin
  fail_to_begin-keeps p activator t free = search (says-keeps, then-keeps, says_done-keeps, changes-keeps, edit_task-alters, terminate-keeps, chains) depth 8

  pub await_group-keeps : (name : Who) (begins failed : Bool) → F name → Keeps G (Behind G) (await_group name begins failed)
  unfolding await_group
  await_group-keeps name true failed free = search (block-keeps)
  await_group-keeps name false true free = search (raises-keeps, plain_steps)
  await_group-keeps name false false free = search (nothing-keeps, chains)

  pub end_own_activation-keeps : (p : Image) (name : Who) (s : StatementNo) → Keeps G (Behind G) (end_own_activation p name s)
  unfolding end_own_activation
  end_own_activation-keeps p name s = search (looks-keeps, goes-keeps, then-keeps, end_activation-keeps, fall_from-keeps, chains)

  pub end_made-keeps : (p : Image) (actor : Who) (t : world.Task) → F t.who → Keeps G (Behind G) (end_made p actor t)
  unfolding end_made
  end_made-keeps p actor t free = search (says_done-keeps, then-keeps, terminate-keeps, chains)

  pub complete_if_task-keeps : (p : Image) (name : Who) (purpose : Purpose) → Keeps G (Behind G) (complete_if_task p name purpose)
  unfolding complete_if_task
  complete_if_task-keeps p name purpose = search (looks-keeps, when-keeps, complete-keeps, then-keeps, fall_from-keeps, chains)

  end_environment-alters : (leaving : Leaving) → Alters G (Behind G) (end_environment leaving)
  unfolding Alters
  end_environment-alters leaving w good = moves.ends_environment leaving w good

  pub end_task-keeps : (p : Image) (name : Who) (leaving : Leaving) → F name → Keeps G (Behind G) (end_task p name leaving)
  unfolding end_task
  end_task-keeps p name leaving free =
      search
      (says_done-keeps, then-keeps, looks-keeps, end_activation-keeps, terminate-keeps, when-keeps, changes-keeps, end_environment-alters, chains) depth 9

  pub end_body-keeps : (p : Image) (name : Who) (leaving : Leaving) (normally : Step) → Keeps G (Behind G) normally
      → Keeps G (Behind G) (end_body p name leaving normally)
  end_body-keeps p name leaving normally kept =
      branch-keeps (chains moves) (is_normal leaving) normally (pass_on p name leaving) (search) (search (pass_on-keeps, plain_steps, anybody))

  pub behind_scope-keeps : (p : Image) (name : Who) (purpose : Purpose) (cells : List Value) (leaving : Leaving) → (is_task_scope purpose ≡ true → F name)
      → Keeps G (Behind G) (behind_scope p name purpose cells leaving)
  unfolding behind_scope
  behind_scope-keeps p name (opened_for.Block s) cells leaving free = search (pass_on-keeps, plain_steps, anybody)
  behind_scope-keeps p name (opened_for.Subprogram back to) cells leaving free = search (end_body-keeps, end_subprogram-keeps, plain_steps)
  behind_scope-keeps p name (opened_for.EntryBody c) cells leaving free = search (end_body-keeps, end_body_of_entry-keeps, plain_steps)
  behind_scope-keeps p name opened_for.Task cells leaving free = end_task-keeps p name leaving (free refl)

  -- Program_Error, where a Finalize raised
  raised_behind-keeps : (name : Who) (test : Bool) → Keeps G (Behind G) (when test (says Own (line.Raise name exception.Program)))
  raised_behind-keeps name test = search (when-keeps, says-keeps, chains)

  says_left-keeps : (name : Who) (m : ScopeMark) (leaving : Leaving) → Keeps G (Behind G) (says_left name m leaving)
  unfolding says_left
  says_left-keeps name m leaving =
      then-keeps (chains moves) (for_some m.region (λ r. says Own (line.Left name r))) _
      (for_some-keeps (chains moves) m.region _ (λ r. says-keeps moves Own (line.Left name r))) (raised_behind-keeps name (raises_behind m leaving))

  pub end_of_scope-from : (p : Image) (name : Who) (m : ScopeMark) (leaving : Leaving) (w : World) → G (pop name w) → (is_task_scope m.purpose ≡ true → F name)
      → From (Behind G) w (end_of_scope p name m leaving)
  unfolding end_of_scope
  end_of_scope-from p name m leaving w out free =
      looks_at-from (chains moves)
      (λ v. changes (pop name) ▷ changes (end_scope m.within) ▷ says_left name m leaving
      ▷ behind_scope p name m.purpose (cells_of (scope_in_use v m.within)) (left_by m leaving)) w
      (changes_then-from moves (pop name) _ w (keeps-from (chains moves) _ (pop name w) out
      (then-keeps (chains moves) (changes (end_scope m.within)) _ (changes-keeps (chains moves) _ (end_scope-alters moves m.within))
      (then-keeps (chains moves) (says_left name m leaving) _ (says_left-keeps name m leaving)
      (behind_scope-keeps p name m.purpose (cells_of (scope_in_use w m.within)) (left_by m leaving) free)))))

  pub says_abort-keeps : (actor name : Who) → Keeps G (Behind G) (says_abort actor name)
  unfolding says_abort
  says_abort-keeps (who.Task actor) (who.Task t) = search (says-keeps)
  says_abort-keeps (who.Task actor) who.Agent = search (nothing-keeps, chains)
  says_abort-keeps who.Agent t = search (nothing-keeps, chains)

  abort_one_if-keeps : (p : Image) (actor : Who) (t : world.Task) (test : Bool) → (test ≡ true → F t.who)
      → Keeps G (Behind G) (says_abort actor t.who ▷ cond test (end_made p actor t) (changes (strike_outermost t.who)))
  abort_one_if-keeps p actor t true free =
      then-keeps (chains moves) (says_abort actor t.who) _ (says_abort-keeps actor t.who) (end_made-keeps p actor t (free refl))
  abort_one_if-keeps p actor t false free =
      then-keeps (chains moves) (says_abort actor t.who) _ (says_abort-keeps actor t.who) (changes-keeps (chains moves) _ (strike_outermost-alters moves t.who))

  abort_one-keeps : (p : Image) (actor : Who) (t : world.Task) → (is_made t ≡ true → F t.who) → Keeps G (Behind G) (abort_one p actor t)
  unfolding abort_one
  abort_one-keeps p actor t free = abort_one_if-keeps p actor t (is_made t) free

  unwind_by-keeps : (p : Image) (name : Who) (acts : Bool) → Keeps G (Behind G) (unwind_by p name acts)
  unfolding unwind_by
  unwind_by-keeps p name false = search (unwind-keeps)
  unwind_by-keeps p name true = search (looks-keeps, when-keeps, unwind-keeps, chains)

  pub unwind_one-keeps : (p : Image) (actor : Who) (t : world.Task) → Keeps G (Behind G) (unwind_one p actor t)
  unfolding unwind_one
  unwind_one-keeps p actor t = search (unwind_by-keeps)

  for_member-keeps : (ts : List world.Task) (f : world.Task → Step) → ((t : world.Task) → Member t ts → Keeps G (Behind G) (f t))
      → Keeps G (Behind G) (for_each ts f)
  for_member-keeps [] f a = nothing-keeps (chains moves)
  for_member-keeps (t ∷ ts) f a = then-keeps (chains moves) (f t) (for_each ts f) (a t (inl refl)) (for_member-keeps ts f (λ u m. a u (inr m)))

  abort_all-keeps : (p : Image) (actor : Who) (tasks : List world.Task) → ((t : world.Task) → Member t tasks → is_made t ≡ true → F t.who)
      → Keeps G (Behind G) (abort_all p actor tasks)
  unfolding abort_all
  abort_all-keeps p actor tasks free =
      then-keeps (chains moves) (for_each tasks (λ t. changes (edit_task t.who abnormal_task))) _
      (search (for_each-keeps, changes-keeps, edit_task-alters, chains))
      (then-keeps (chains moves) (for_each tasks (abort_one p actor)) _
      (for_member-keeps tasks (abort_one p actor) (λ t m. abort_one-keeps p actor t (free t m))) (search (for_each-keeps, unwind_one-keeps, chains)))

  pub block_at_terminate-keeps : (name : Who) (waiting : Option Waiting) → Keeps G (Behind G) (block_at_terminate name waiting)
  unfolding block_at_terminate
  block_at_terminate-keeps name None = search (nothing-keeps, chains)
  block_at_terminate-keeps name (Some waiting) = search (when-keeps, says_block-keeps, chains)

  pub take_terminates-keeps : (p : Image) (actor : Who) → Keeps G (Behind G) (take_terminates p actor)
  unfolding take_terminates
  take_terminates-keeps p actor = search (looks-keeps, for_each-keeps, leave_by_terminate-keeps, then-keeps, block_at_terminate-keeps, chains) depth 8

  pub unwind_all-keeps : (p : Image) (actor : Who) → Keeps G (Behind G) (unwind_all p actor)
  unfolding unwind_all
  unwind_all-keeps p actor = search (looks-keeps, for_each-keeps, unwind_one-keeps, chains)

  -- ---- activation: of tasks that are only made

  begin_task-keeps : (p : Image) (activator : Who) (level : ℕ) (t : world.Task) → F t.who → Keeps G (Behind G) (begin_task p activator level t)
  unfolding begin_task
  begin_task-keeps p activator level t free =
      looks-keeps (chains moves) _
      (λ w. then-keeps (chains moves) (changes (open_scope p t.who (unit_of_task p t).scope (plainly t.outer) opened_for.Task))
      (changes (edit_task t.who (activated_task activator w.time)) ▷ changes (inherit t.who inherited_by.Activation level) ▷ ready p (OfOther t.who) t.who)
      (changes-keeps (chains moves) _ (open_scope-alters moves p t.who (unit_of_task p t).scope (plainly t.outer) opened_for.Task (λ e. free)))
      (search (changes-keeps, then-keeps, edit_task-alters, inherit-alters, ready-keeps, chains) depth 9))

  activate_one-keeps : (p : Image) (activator : Who) (level : ℕ) (t : world.Task) → F t.who → Keeps G (Behind G) (activate_one p activator level t)
  unfolding activate_one
  activate_one-keeps p activator level t free =
      looks-keeps (chains moves) _
      (λ w. branch-keeps (chains moves) (has_room w t.who 1 (scope_of p (unit_of_task p t).scope).size) (begin_task p activator level t)
      (fail_to_begin p activator t) (begin_task-keeps p activator level t free) (fail_to_begin-keeps p activator t free))

  wait_for_dependents-keeps : (name : Who) (r : RegionNo) → F name → Keeps G (Behind G) (wait_for_dependents name r)
  unfolding wait_for_dependents
  wait_for_dependents-keeps name r free =
      looks-keeps (chains moves) _ (λ w. when-keeps (chains moves) (has_dependents w r) _ (block-keeps moves TheBlock name (waits_for.Dependents r) free))

  -- those that were made in a region end with it
  made_end-keeps : (p : Image) (name : Who) (r : RegionNo) (tasks : List world.Task) → ((t : world.Task) → Member t tasks → is_made t ≡ true → F t.who)
      → Keeps G (Behind G) (for_each (filter (is_made_in r) tasks) (end_made p name))
  made_end-keeps p name r tasks free =
      for_member-keeps (filter (is_made_in r) tasks) (end_made p name)
      (λ t m. let n = filter-member (is_made_in r) t tasks m in
      end_made-keeps p name t (free t n.0 ((and_parts (is_made t) (is_the same_region t.master r) n.1).0)))

-- ---- who is in no protected action, and those that are only made, have none open

-- those that are only made, and one more
abbrev MadeAnd : World → Who → Naming
MadeAnd w name n = MadeOf w.tasks n ⊎ (n ≡ name)

made-and : (w : World) (name : Who) → Sound w → Free name w → Good (MadeAnd w name) w
made-and w name h free = (h, λ n is. by_case n is)
  where
    by_case : (n : Who) → MadeOf w.tasks n ⊎ (n ≡ name) → Free n w
    by_case n (inl m) = made-free w h n m
    by_case n (inr is) = subst (λ k. Free k w) (sym is) free

allowed : (a b : Bool) → (a || b) ≡ false → a ≡ false
allowed true b e = e
allowed false b e = refl

create_task-from : (p : Image) (name : Who) (s : StatementNo) (d : DeclNo) (id : Option ScopeId) (t : world.Task) (w : World) → Good Nobody w → Free name w
    → t.who ≡ who.Task (record { 0 = w.drawn.tasks }) → t.frames ≡ [] → t.master ≡ Some (top_region w name)
    → From (Behind (Good Nobody)) w (create_task p name s d id t)
unfolding create_task goes
create_task-from p name s d id t w good free named none master =
    let onward = edit_top name (goes_on (next_of p s)) w in
    changes_then-from beside (edit_top name (goes_on (next_of p s))) _ w (changes_then-from beside (add_task t) _ onward
    (keeps-from (chains beside) _ (add_task t onward) (add_task-made Nobody name (next_of p s) t w good free named none master)
    (behind_new-keeps beside p d id t)))

pub create-keeps : (p : Image) (name : Who) (s : StatementNo) (d : DeclNo) (part : ℕ) → Keeps (Good Nobody) (Behind (Good Nobody)) (create p name s d part)
unfolding create
create-keeps p name s d part =
    looks-from (chains beside) _ (λ w good. let q = seen_by p w name in
    raise_if-from (plain_steps beside) name (in_protected w name || is_deferred w name) exception.Program _ w good (λ e.
    raise_if-from (plain_steps beside) name (leb 256 (length w.tasks)) exception.Storage _ w good (λ few.
    given-from (plain_steps beside) Own name (optional_span q (task_unit_of p (unit_of_declaration p d)).relative_deadline) _ w good (λ span.
    create_task-from p name s d (home w (declaration_of p d).scope q.within) (created_task q d (unit_of_declaration p d) part span w.drawn.tasks) w good
    (free-by_test name w (allowed (in_protected w name) (is_deferred w name) e)) refl refl refl))))

group-made : (r : RegionNo) (part : ℕ) (w : World) (t : world.Task) → Member t (filter (is_to_activate r part) w.tasks) → MadeOf w.tasks t.who
group-made r part w t m =
    let n = filter-member (is_to_activate r part) t w.tasks m in
    (t, n.0, first_of_three (is_made t) (is_the same_region t.master r) (eqb t.declarative_part part) n.1, refl)
  where
    first_of_three : (a b c : Bool) → (a && b && c) ≡ true → a ≡ true
    first_of_three true b c e = refl
    first_of_three false b c e = e

activate_group-from : (p : Image) (name : Who) (s : StatementNo) (part : ℕ) (w : World) → Good Nobody w → Free name w
    → From (Behind (Good Nobody)) w (activate_group p name s part)
unfolding activate_group
activate_group-from p name s part w good free =
    let some_free = good_moves (MadeAnd w name) in
    let group = filter (is_to_activate (top_region_of_scope w name) part) w.tasks in
    less-from (MadeAnd w name) _ w
    (then-from (chains some_free)
    (looks (λ v. goes name (next_of p s) ▷ changes (edit_task name no_failure)
    ▷ for_each (filter (is_to_activate (top_region_of_scope v name) part) v.tasks) (activate_one p name (active_of p v name)))) _ w
    (looks_at-from (chains some_free)
    (λ v. goes name (next_of p s) ▷ changes (edit_task name no_failure)
    ▷ for_each (filter (is_to_activate (top_region_of_scope v name) part) v.tasks) (activate_one p name (active_of p v name))) w
    (keeps-from (chains some_free) _ w (made-and w name good.0 free)
    (then-keeps (chains some_free) (goes name (next_of p s)) _ (goes-keeps some_free name (next_of p s))
    (then-keeps (chains some_free) (changes (edit_task name no_failure)) _
    (changes-keeps (chains some_free) _ (edit_task-alters some_free name no_failure (λ t. refl) (λ t. refl) (λ t. refl) (λ t. refl) (λ t. refl)))
    (for_member-keeps some_free group (activate_one p name (active_of p w name))
    (λ t m. activate_one-keeps some_free p name (active_of p w name) t (inl (group-made (top_region_of_scope w name) part w t m))))))))
    (looks-keeps (chains some_free) _ (λ v. await_group-keeps some_free name (has_activating v name) (task_of v name).group_failed (inr refl))))

pub activate-keeps : (p : Image) (name : Who) (s : StatementNo) (part : ℕ) → Keeps (Good Nobody) (Behind (Good Nobody)) (activate p name s part)
unfolding activate
activate-keeps p name s part =
    looks-from (chains beside) _ (λ w good. raise_if-from (plain_steps beside) name (in_protected w name || is_deferred w name) exception.Program _ w good
    (λ e. activate_group-from p name s part w good (free-by_test name w (allowed (in_protected w name) (is_deferred w name) e))))

abort_named-from : (p : Image) (name : Who) (aborted : List TaskNo) (w : World) → Good Nobody w
    → From (Behind (Good Nobody)) w (abort_all p name (filter (is_to_abort w aborted) w.tasks))
abort_named-from p name aborted w good =
    let made = good_moves (MadeOf w.tasks) in
    switch-from (MadeOf w.tasks) _ w good.0 (λ n m. made-free w good.0 n m)
    (abort_all-keeps made p name (filter (is_to_abort w aborted) w.tasks) (λ t m e. (t, (filter-member (is_to_abort w aborted) t w.tasks m).0, e, refl)))

pub abort_statement-keeps : (p : Image) (name : Who) (s : StatementNo) (tasks : List DeclNo)
    → Keeps (Good Nobody) (Behind (Good Nobody)) (abort_statement p name s tasks)
unfolding abort_statement
abort_statement-keeps p name s tasks =
    sees-keeps (chains beside) p name _
    (λ q. raise_if-keeps (plain_steps beside) name (in_protected q.world name) exception.Program _
    (given-keeps (plain_steps beside) Own name (named_tasks q tasks) _ (λ aborted.
    then-keeps (chains beside) (goes name (next_of p s)) _ (goes-keeps beside name (next_of p s))
    (looks-from (chains beside) _ (λ w good. abort_named-from p name aborted w good)))))

-- ---- a region begins to be left: where it has dependents, no action is open

altered : (G : GoodWorld) (f : World → World) (w : World) → Alters G (Behind G) f → G w → G (f w)
unfolding Alters
altered G f w a good = a w good

module _ (p : Image) (name : Who) (m : ScopeMark) (leaving : Leaving) (r : RegionNo) (w : World) where
  abbrev leaving_world : World
  leaving_world = edit_top name (left_so_frame leaving) (edit_top_scope name being_left_mark w)

  abbrev rest_of : Step
  rest_of = looks (λ v. for_each (filter (is_made_in r) v.tasks) (end_made p name)) ▷ complete_if_task p name m.purpose ▷ wait_for_dependents name r

  -- it waits
  waiting_rest-from : Good (Only name) leaving_world → From (Behind (Good Nobody)) leaving_world rest_of
  waiting_rest-from good =
      let v = leaving_world in
      let some_free = good_moves (MadeAnd v name) in
      less-from (MadeAnd v name) _ v
      (then-from (chains some_free) (looks (λ u. for_each (filter (is_made_in r) u.tasks) (end_made p name))) _ v
      (looks_at-from (chains some_free) (λ u. for_each (filter (is_made_in r) u.tasks) (end_made p name)) v
      (keeps-from (chains some_free) _ v (made-and v name good.0 (good.1 name refl))
      (made_end-keeps some_free p name r v.tasks (λ t k e. inl (t, k, e, refl)))))
      (then-keeps (chains some_free) (complete_if_task p name m.purpose) _ (complete_if_task-keeps some_free p name m.purpose)
      (wait_for_dependents-keeps some_free name r (inr refl))))

  -- there is nobody to wait for
  nobody_waited-keeps : (F : Naming) → Keeps (GoodLonely F r) (Behind (GoodLonely F r)) (wait_for_dependents name r)
  unfolding wait_for_dependents
  nobody_waited-keeps F =
      looks-from (chains (lonely_moves r F)) (λ u. when (has_dependents u r) (block TheBlock name (waits_for.Dependents r)))
      (λ u g. when-from (lonely_moves r F) (has_dependents u r) (block TheBlock name (waits_for.Dependents r)) u g (λ e. never u (false≢true (sym g.1 ∙ e))))
    where
      never : (u : World) → ⊥ → From (Behind (GoodLonely F r)) u (block TheBlock name (waits_for.Dependents r))
      never u e = absurd e

  lonely_less-from : (F : Naming) (step : Step) (v : World) → From (Behind (GoodLonely F r)) v step → From (Behind (Good Nobody)) v step
  lonely_less-from F step v a = wide-from (GoodLonely F r) (Good Nobody) step v (λ u g. (g.0.0, λ n is. absurd is)) a

  lonely_rest-from : GoodLonely Nobody r leaving_world → From (Behind (Good Nobody)) leaving_world rest_of
  lonely_rest-from good =
      let v = leaving_world in
      let made = lonely_moves r (MadeOf v.tasks) in
      lonely_less-from (MadeOf v.tasks) _ v
      (then-from (chains made) (looks (λ u. for_each (filter (is_made_in r) u.tasks) (end_made p name))) _ v
      (looks_at-from (chains made) (λ u. for_each (filter (is_made_in r) u.tasks) (end_made p name)) v
      (keeps-from (chains made) _ v ((good.0.0, λ n k. made-free v good.0.0 n k), good.1) (made_end-keeps made p name r v.tasks (λ t k e. (t, k, e, refl)))))
      (then-keeps (chains made) (complete_if_task p name m.purpose) _ (complete_if_task-keeps made p name m.purpose) (nobody_waited-keeps (MadeOf v.tasks))))

left-world : {G : GoodWorld} {F : Naming} (moves : FineMoves G F) (name : Who) (leaving : Leaving) (w : World) → G w
    → G (edit_top name (left_so_frame leaving) (edit_top_scope name being_left_mark w))
left-world {G} moves name leaving w good =
    altered G (edit_top name (left_so_frame leaving)) (edit_top_scope name being_left_mark w) (edit_top-alters moves name (left_so_frame leaving) (λ x. refl))
    (altered G (edit_top_scope name being_left_mark) w (edit_top_scope-alters moves name being_left_mark (λ x. refl)) good)

leave_region-from : (p : Image) (name : Who) (f : Frame) (m : ScopeMark) (leaving : Leaving) (r : RegionNo) (w : World) → Good Nobody w → top_of w name ≡ Some f
    → f.mark ≡ Scope m → m.region ≡ Some r → From (Behind (Good Nobody)) w (leave_region p name m leaving r)
unfolding leave_region
leave_region-from p name f m leaving r w good top is region =
    changes_then-from beside (edit_top_scope name being_left_mark) _ w
    (changes_then-from beside (edit_top name (left_so_frame leaving)) _ (edit_top_scope name being_left_mark w)
    (says_then-from beside Own (line.Leave name r (leaves_as leaving)) (rest_of p name m leaving r w) (leaving_world p name m leaving r w)
    (by_test (has_dependents w r)
    (λ e. waiting_rest-from p name m leaving r w
    (left-world (good_moves (Only name)) name leaving w (
      good.0,
      λ n k. subst (λ i. Free i w) (sym k) (free-region name f w good.0 top (ap is_protected is) r (ap (λ x. (nature x).region) is ∙ region) e),
    )))
    (λ e. lonely_rest-from p name m leaving r w (left-world (lonely_moves r Nobody) name leaving w (good, e))))))

-- ---- a scope ends

end_of_scope_by-from : (p : Image) (name : Who) (f : Frame) (m : ScopeMark) (leaving : Leaving) (w : World) → Good Nobody w → top_of w name ≡ Some f
    → f.mark ≡ Scope m → From (Behind (Good Nobody)) w (end_of_scope p name m leaving)
end_of_scope_by-from p name f m leaving w good top is =
    by_test (is_task_scope m.purpose)
    (λ e. let only : Good (Only name) w =
    (good.0, λ n k. subst (λ i. Free i w) (sym k) (free-floor name f w good.0 top (ap is_protected is) (ap (λ x. (nature x).floor) is ∙ e))) in
    less-from (Only name) _ w
    (end_of_scope-from (good_moves (Only name)) p name m leaving w (popped (good_moves (Only name)) name f w only top (ap is_protected is)) (λ k. refl)))
    (λ e. end_of_scope-from beside p name m leaving w (popped beside name f w good top (ap is_protected is)) (λ k. absurd (false≢true (sym e ∙ k))))

next_finalized-from : (p : Image) (name : Who) (f : Frame) (m : ScopeMark) (leaving : Leaving) (found : Option Registered) (w : World) → Good Nobody w
    → top_of w name ≡ Some f → f.mark ≡ Scope m
    → From (Behind (Good Nobody)) w (elim found as (λ _. Step) [ None ↦ end_of_scope p name m leaving | Some x ↦ finalize p name x ])
next_finalized-from p name f m leaving None w good top is = end_of_scope_by-from p name f m leaving w good top is
next_finalized-from p name f m leaving (Some x) w good top is = keeps-from (chains beside) (finalize p name x) w good (finalize-keeps beside p name x)

go_on_leaving-from : (p : Image) (name : Who) (f : Frame) (m : ScopeMark) (leaving : Leaving) (r : RegionNo) (test : Bool) (w : World) → Good Nobody w
    → top_of w name ≡ Some f → f.mark ≡ Scope m → m.region ≡ Some r → From (Behind (Good Nobody)) w (go_on_leaving p name m leaving r test)
unfolding go_on_leaving
go_on_leaving-from p name f m leaving r false w good top is region = leave_region-from p name f m leaving r w good top is region
go_on_leaving-from p name f m leaving r true w good top is region =
    looks_at-from (chains beside) (λ v. elim (next_to_finalize v r) as (λ _. Step) [ None ↦ end_of_scope p name m leaving | Some x ↦ finalize p name x ]) w
    (next_finalized-from p name f m leaving (next_to_finalize w r) w good top is)

end_scope_mark_of-from : (p : Image) (name : Who) (m : ScopeMark) (leaving : Leaving) (r : Option RegionNo) (f : Frame) (w : World) → Good Nobody w
    → top_of w name ≡ Some f → f.mark ≡ Scope m → m.region ≡ r → From (Behind (Good Nobody)) w (end_scope_mark_of p name m leaving r)
unfolding end_scope_mark_of
end_scope_mark_of-from p name m leaving None f w good top is region = end_of_scope_by-from p name f m leaving w good top is
end_scope_mark_of-from p name m leaving (Some r) f w good top is region = go_on_leaving-from p name f m leaving r m.being_left w good top is region

pub end_scope_mark-from : (p : Image) (name : Who) (m : ScopeMark) (leaving : Leaving) (f : Frame) (w : World) → Good Nobody w → top_of w name ≡ Some f
    → f.mark ≡ Scope m → From (Behind (Good Nobody)) w (end_scope_mark p name m leaving)
unfolding end_scope_mark
end_scope_mark-from p name m leaving f w good top is = end_scope_mark_of-from p name m leaving m.region f w good top is refl
