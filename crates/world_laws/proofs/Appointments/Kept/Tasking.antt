-- Creation, activation, completion and abort: each step keeps a relation that its parts keep.
use Rattle.std.proofs.Common.{sym, cond, ◌≡◌, refl, ap, ◌∙◌}
use Rattle.std.specs.Prelude.{◌∷◌, ◌++◌, ◌&&◌, eqb, ℕ, ◌-◌, Bool, true, false, ◌||◌, List, [], Option, Some, None, leb, length, filter}
use Rattle.ann_base.specs.declared.exceptions.Raised.TheVariants as exception
use Rattle.ann_base.specs.declared.identities.RegionNo.{RegionNo}
use Rattle.ann_base.specs.declared.identities.TaskNo.{TaskNo}
use Rattle.trace_text.specs.declared.events.Created.TheVariants as created
use Rattle.trace_text.specs.declared.events.Who.{Who}
use Rattle.trace_text.specs.declared.events.Who.TheVariants as who
use Rattle.profile_image.specs.declared.image.Image.{Image}
use Rattle.profile_image.specs.declared.numbers.DeclNo.{DeclNo}
use Rattle.profile_image.specs.declared.numbers.StatementNo.{StatementNo}
use Rattle.profile_machine.specs.declared.run_data.Leaving.{Leaving}
use Rattle.profile_image.specs.declared.values.Value.{Value}
use Rattle.profile_image.specs.declared.values.Value.TheVariants as value_of
use Rattle.profile_machine.specs.declared.world.Drawn.{Drawn}
use Rattle.profile_machine.specs.declared.world.World.{World}
use Rattle.profile_machine.specs.declared.world.appointments.Registered.{Registered}
use Rattle.profile_machine.specs.declared.world.lines.Line.TheVariants as line
use Rattle.profile_machine.specs.declared.world.lines.Part.{Part}
use Rattle.profile_machine.specs.declared.world.lines.Part.TheVariants.{OfOther, Own, TheBlock}
use Rattle.profile_machine.specs.declared.world.lines.Said.{Said}
use Rattle.profile_machine.specs.declared.world.marks.Purpose.{Purpose}
use Rattle.profile_machine.specs.declared.world.marks.Purpose.TheVariants as opened_for
use Rattle.profile_machine.specs.declared.world.marks.ScopeMark.{ScopeMark}
use Rattle.profile_machine.specs.declared.world.scopes.ScopeId.{ScopeId}
use Rattle.profile_machine.specs.declared.world.tasks.Cause.TheVariants as inherited_by
use Rattle.profile_machine.specs.declared.world.tasks.State.{State}
use Rattle.profile_machine.specs.declared.world.tasks.State.TheVariants.{Runnable, Made, Blocked}
use Rattle.profile_machine.specs.declared.world.tasks.Task as world
use Rattle.profile_machine.specs.declared.world.tasks.Waiting.TheVariants as waits_for
use Rattle.profile_machine.specs.Controlled.{next_to_finalize, finalize}
use Rattle.profile_machine.specs.Declarations.{set_thing}
use Rattle.profile_machine.specs.Dispatching.{ready, active_of}
use Rattle.profile_machine.specs.Frames.{edit_first, has_room, pass_on, in_protected, is_deferred, edit_top, goes_on, goes}
use Rattle.profile_machine.specs.Inheritance.{inherit}
use Rattle.profile_machine.specs.Masters.{has_dependents, may_terminate, leave_by_terminate, has_activating}
use Rattle.profile_image.specs.Program.{declaration_of, next_of, scope_of, task_unit_of}
use Rattle.profile_machine.specs.Scopes.{plainly, open_scope, home, cells_of, scope_in_use}
use Rattle.profile_machine.specs.Steps.{nothing, Step, changes, looks, for_some, ◌▷◌, for_each}
use Rattle.profile_machine.specs.Tasking.{activated_task, unit_of_declaration, optional_span, created_task, add_task, says_created, create_task, create}
use Rattle.profile_machine.specs.Tasking.{fall_from, unit_of_task, begin_task, says_done, fail_to_begin, activate_one, await_group, activate_group}
use Rattle.profile_machine.specs.Tasking.{activate, end_own_activation, end_made, complete_if_task, wait_for_dependents, leave_region, end_environment}
use Rattle.profile_machine.specs.Tasking.{end_task, is_normal, end_body, behind_scope, says_left, end_of_scope, go_on_leaving, end_scope_mark_of}
use Rattle.profile_machine.specs.Tasking.{end_scope_mark, says_abort, abort_one, unwind_by, unwind_one, abort_all, abort_statement, unwind_all}
use Rattle.profile_machine.specs.Tasking.{no_failure, is_to_activate, top_region_of_scope, is_to_abort, left_by, abnormal_task, named_tasks}
use Rattle.profile_machine.specs.Tasks.{with_frames, waiting_in, is_made_state, is_made, edit_task, task_of}
use Rattle.profile_machine.specs.Unwinding.{any_struck}
use Rattle.profile_machine.specs.Values.{seen_by}
use Rattle.profile_machine.specs.WellFormed.{waits_for_delay}
use Rattle.profile_image.specs.Words.{same_region, is_the}
use Rattle.machine_laws.proofs.Moves.{StepRelation, MoveRelation}
use Rattle.world_laws.proofs.Appointments.Delays.{Idle, EachTask}
use Rattle.world_laws.proofs.Appointments.FineMoves.{FineMoves, chains, says-keeps}
use Rattle.world_laws.proofs.Appointments.Kept.Controlled.{edit_top_scope-alters, finalize-keeps}
use Rattle.world_laws.proofs.Appointments.Kept.Dispatching.{ready-from, idle_then-from, to_head-keeps, block-keeps}
use Rattle.world_laws.proofs.Appointments.Kept.Frames.{pop-alters, goes_then-from, edit_top-alters, goes-keeps, plain_steps}
use Rattle.world_laws.proofs.Appointments.Kept.Inheritance.{inherit-alters}
use Rattle.world_laws.proofs.Appointments.Kept.Masters.{end_activation-keeps, complete-keeps, terminate-keeps, leave_by_terminate-keeps}
use Rattle.world_laws.proofs.Appointments.Kept.Scopes.{open_scope-alters, end_scope-alters}
use Rattle.world_laws.proofs.Appointments.Kept.Tasks.{edit_task-alters}
use Rattle.world_laws.proofs.Appointments.Kept.Unwinding.{strike_outermost-alters, unwind-keeps}
use Rattle.machine_laws.proofs.FineMoves.{GoodWorld, Naming}
use Rattle.line_laws.proofs.Leaving.Kept.Tasking.{edit_task-drawn}
use Rattle.machine_laws.proofs.Kept.Combinators.{Alters, From, Keeps, after-from, branch-keeps, changes-from, changes-keeps, cond-keeps}
use Rattle.machine_laws.proofs.Kept.Combinators.{either-from, for_each-keeps, for_some-keeps, keeps-from, looks-from, looks-keeps}
use Rattle.machine_laws.proofs.Kept.Combinators.{looks_at-from, nothing-keeps, sees-keeps, then-from, then-keeps, when-keeps}
use Rattle.machine_laws.proofs.Plain.Declarations.{set_thing-alters}
use Rattle.machine_laws.proofs.Plain.Frames.{raise_if-from, given-from, raises-keeps, pass_on-keeps, given-keeps, raise_if-keeps}
use Rattle.machine_laws.proofs.Plain.Results.{end_body_of_entry-keeps}
use Rattle.machine_laws.proofs.Plain.Subprograms.{end_subprogram-keeps}
use Rattle.machine_laws.proofs.Plain.PlainSteps.{anybody}

made-waits : (state : State) → is_made_state state ≡ true → waits_for_delay (waiting_in state) ≡ false
made-waits Made e = refl
made-waits Runnable e = refl
made-waits (Blocked waiting) e = absurd cc

first_of_three : (a b c : Bool) → (a && b && c) ≡ true → a ≡ true
first_of_three true b c e = refl
first_of_three false b c e = absurd cc

-- an edit of a task draws nothing

module _ {G : GoodWorld} {May : Naming} {R : StepRelation} {Q : MoveRelation} (moves : FineMoves G May R Q) where
  says_created-keeps : (d : DeclNo) (t : world.Task) → Keeps G R (says_created d t)
  unfolding says_created
  says_created-keeps d t =
      looks-keeps (chains moves) _ (λ w. says-keeps moves Own (line.New (created.Task (record { 0 = w.drawn.tasks - 1 })) (Some d) t.base) refl)

  -- the object's cell gets the task's number
  abbrev name_task : Image → DeclNo → ScopeId → Step
  name_task p d within = looks (λ w. changes (set_thing p (record { within = within; declared = d }) (value_of.Task (Some (record { 0 = w.drawn.tasks - 1 })))))

  create_task-from : (p : Image) (name : Who) (s : StatementNo) (d : DeclNo) (id : Option ScopeId) (t : world.Task) (w : World) → G w
      → t.who ≡ who.Task (record { 0 = w.drawn.tasks }) → t.frames ≡ [] → From R w (create_task p name s d id t)
  unfolding create_task
  create_task-from p name s d id t w good same none =
      goes_then-from moves name (next_of p s) _ w good (λ good_onward.
      let onward = edit_top name (goes_on (next_of p s)) w in
      then-from (chains moves) (changes (add_task t)) (for_some id (name_task p d) ▷ says_created d t) onward
      (changes-from (chains moves) (add_task t) onward
      (moves.adds_task t onward good_onward
      (same
      ∙ ap (λ (k : Drawn). who.Task (record { 0 = k.tasks }))
      (sym (edit_task-drawn name (λ u. with_frames (edit_first (goes_on (next_of p s)) u.frames) u) w))) none))
      (search (then-keeps, for_some-keeps, looks-keeps, changes-keeps, set_thing-alters, says_created-keeps, chains, plain_steps) depth 10))

  pub fall_from-keeps : (p : Image) (name : Who) (before : World) → May name → Keeps G R (fall_from p name before)
  unfolding fall_from
  fall_from-keeps p name before may = search (looks-keeps, when-keeps, to_head-keeps, chains)

  pub says_done-keeps : (part : Part) (name : Who) → Keeps G R (says_done part name)
  unfolding says_done
  says_done-keeps part (who.Task t) = search (says-keeps)
  says_done-keeps part who.Agent = search (nothing-keeps, chains)

  pub fail_to_begin-keeps : (p : Image) (activator : Who) (t : world.Task) → Keeps G R (fail_to_begin p activator t)
  unfolding fail_to_begin
  fail_to_begin-keeps p activator t = search (says-keeps, then-keeps, says_done-keeps, changes-keeps, edit_task-alters, terminate-keeps, chains) depth 8

  pub await_group-keeps : (name : Who) (begins failed : Bool) → May name → Keeps G R (await_group name begins failed)
  unfolding await_group
  await_group-keeps name true failed other = search (block-keeps)
  await_group-keeps name false true other = search (raises-keeps, plain_steps)
  await_group-keeps name false false other = search (nothing-keeps, chains)

  pub end_own_activation-keeps : (p : Image) (name : Who) (s : StatementNo) → May name → Keeps G R (end_own_activation p name s)
  unfolding end_own_activation
  end_own_activation-keeps p name s may = search (looks-keeps, goes-keeps, then-keeps, end_activation-keeps, fall_from-keeps, chains)

  pub end_made-keeps : (p : Image) (actor : Who) (t : world.Task) → Keeps G R (end_made p actor t)
  unfolding end_made
  end_made-keeps p actor t = search (says_done-keeps, then-keeps, terminate-keeps, chains)

  pub complete_if_task-keeps : (p : Image) (name : Who) (purpose : Purpose) → May name → Keeps G R (complete_if_task p name purpose)
  unfolding complete_if_task
  complete_if_task-keeps p name purpose may = search (looks-keeps, when-keeps, complete-keeps, then-keeps, fall_from-keeps, chains)

  end_environment-alters : (leaving : Leaving) → Alters G R (end_environment leaving)
  unfolding Alters
  end_environment-alters leaving w good = moves.ends_environment leaving w good

  pub end_task-keeps : (p : Image) (name : Who) (leaving : Leaving) → Keeps G R (end_task p name leaving)
  unfolding end_task
  end_task-keeps p name leaving =
      search
      (says_done-keeps, then-keeps, looks-keeps, end_activation-keeps, terminate-keeps, when-keeps, changes-keeps, end_environment-alters, chains) depth 9

  pub end_body-keeps : (p : Image) (name : Who) (leaving : Leaving) (normally : Step) → Keeps G R normally → Keeps G R (end_body p name leaving normally)
  end_body-keeps p name leaving normally kept =
      branch-keeps (chains moves) (is_normal leaving) normally (pass_on p name leaving) (search) (search (pass_on-keeps, plain_steps, anybody))

  pub behind_scope-keeps : (p : Image) (name : Who) (purpose : Purpose) (cells : List Value) (leaving : Leaving)
      → Keeps G R (behind_scope p name purpose cells leaving)
  unfolding behind_scope
  behind_scope-keeps p name (opened_for.Block s) cells leaving = search (pass_on-keeps, plain_steps, anybody)
  behind_scope-keeps p name (opened_for.Subprogram back to) cells leaving = search (end_body-keeps, end_subprogram-keeps, plain_steps)
  behind_scope-keeps p name (opened_for.EntryBody c) cells leaving = search (end_body-keeps, end_body_of_entry-keeps, plain_steps)
  behind_scope-keeps p name opened_for.Task cells leaving = search (end_task-keeps)

  pub says_left-keeps : (name : Who) (m : ScopeMark) (leaving : Leaving) → Keeps G R (says_left name m leaving)
  unfolding says_left
  says_left-keeps name m leaving = search (for_some-keeps, says-keeps, then-keeps, when-keeps, chains) depth 8

  pub end_of_scope-keeps : (p : Image) (name : Who) (m : ScopeMark) (leaving : Leaving) → Keeps G R (end_of_scope p name m leaving)
  unfolding end_of_scope
  end_of_scope-keeps p name m leaving =
      looks-keeps (chains moves) _
      (λ w. then-keeps (chains moves) _ _ (changes-keeps (chains moves) _ (pop-alters moves name))
      (then-keeps (chains moves) _ _ (changes-keeps (chains moves) _ (end_scope-alters moves m.within))
      (then-keeps (chains moves) _ _ (says_left-keeps name m leaving)
      (behind_scope-keeps p name m.purpose (cells_of (scope_in_use w m.within)) (left_by m leaving)))))

  pub says_abort-keeps : (actor name : Who) → Keeps G R (says_abort actor name)
  unfolding says_abort
  says_abort-keeps (who.Task actor) (who.Task t) = search (says-keeps)
  says_abort-keeps (who.Task actor) who.Agent = search (nothing-keeps, chains)
  says_abort-keeps who.Agent t = search (nothing-keeps, chains)

  pub abort_one-keeps : (p : Image) (actor : Who) (t : world.Task) → Keeps G R (abort_one p actor t)
  unfolding abort_one
  abort_one-keeps p actor t = search (says_abort-keeps, then-keeps, cond-keeps, end_made-keeps, changes-keeps, strike_outermost-alters, chains)

  unwind_by-keeps : (p : Image) (name : Who) (acts : Bool) → Keeps G R (unwind_by p name acts)
  unfolding unwind_by
  unwind_by-keeps p name false = search (unwind-keeps)
  unwind_by-keeps p name true = search (looks-keeps, when-keeps, unwind-keeps, chains)

  pub unwind_one-keeps : (p : Image) (actor : Who) (t : world.Task) → Keeps G R (unwind_one p actor t)
  unfolding unwind_one
  unwind_one-keeps p actor t = search (unwind_by-keeps)

  pub abort_all-keeps : (p : Image) (actor : Who) (tasks : List world.Task) → Keeps G R (abort_all p actor tasks)
  unfolding abort_all
  abort_all-keeps p actor tasks =
      then-keeps (chains moves) _ _
      (for_each-keeps (chains moves) tasks _
      (λ t. changes-keeps (chains moves) _ (edit_task-alters moves t.who abnormal_task (λ u. refl) (λ u. refl) (λ u. refl))))
      (then-keeps (chains moves) _ _ (for_each-keeps (chains moves) tasks _ (λ t. abort_one-keeps p actor t))
      (for_each-keeps (chains moves) tasks _ (λ t. unwind_one-keeps p actor t)))

  abort_named-keeps : (p : Image) (name : Who) (aborted : List TaskNo) → Keeps G R (looks (λ w. abort_all p name (filter (is_to_abort w aborted) w.tasks)))
  abort_named-keeps p name aborted = looks-keeps (chains moves) _ (λ w. abort_all-keeps p name (filter (is_to_abort w aborted) w.tasks))

  pub abort_statement-keeps : (p : Image) (name : Who) (s : StatementNo) (tasks : List DeclNo) → Keeps G R (abort_statement p name s tasks)
  unfolding abort_statement
  abort_statement-keeps p name s tasks =
      sees-keeps (chains moves) p name _
      (λ q. raise_if-keeps (plain_steps moves) name (in_protected q.world name) exception.Program _
      (given-keeps (plain_steps moves) Own name (named_tasks q tasks) _ (λ aborted.
      then-keeps (chains moves) (goes name (next_of p s)) _ (goes-keeps moves name (next_of p s)) (abort_named-keeps p name aborted))))

  pub all_terminate-keeps : (p : Image) (actor : Who) → Keeps G R (looks (λ w. for_each (filter (may_terminate w) w.tasks) (leave_by_terminate p actor)))
  all_terminate-keeps p actor =
      looks-keeps (chains moves) _ (λ w. for_each-keeps (chains moves) (filter (may_terminate w) w.tasks) _ (λ t. leave_by_terminate-keeps moves p actor t))

  pub unwind_all-keeps : (p : Image) (actor : Who) → Keeps G R (unwind_all p actor)
  unfolding unwind_all
  unwind_all-keeps p actor =
      looks-keeps (chains moves) _ (λ w. for_each-keeps (chains moves) (filter (λ t. any_struck t.frames) w.tasks) _ (λ t. unwind_one-keeps p actor t))

  pub create-keeps : (p : Image) (name : Who) (s : StatementNo) (d : DeclNo) (part : ℕ) → Keeps G R (create p name s d part)
  unfolding create
  create-keeps p name s d part =
      looks-from (chains moves) _ (λ w good. let q = seen_by p w name in
      raise_if-from (plain_steps moves) name (in_protected w name || is_deferred w name) exception.Program _ w good (λ allowed.
      raise_if-from (plain_steps moves) name (leb 256 (length w.tasks)) exception.Storage _ w good (λ few.
      given-from (plain_steps moves) Own name (optional_span q (task_unit_of p (unit_of_declaration p d)).relative_deadline) _ w good (λ span.
      create_task-from p name s d (home w (declaration_of p d).scope q.within)
      (created_task q d (unit_of_declaration p d) part span w.drawn.tasks) w good refl refl))))

  -- ---- activation: tasks that have been made wait for nothing

  begin_task-from : (p : Image) (activator : Who) (level : ℕ) (t : world.Task) (w : World) → G w → Idle t.who w → From R w (begin_task p activator level t)
  unfolding begin_task
  begin_task-from p activator level t w good idle =
      looks_at-from (chains moves)
      (λ v. changes (open_scope p t.who (unit_of_task p t).scope (plainly t.outer) opened_for.Task)
      ▷ changes (edit_task t.who (activated_task activator v.time)) ▷ changes (inherit t.who inherited_by.Activation level)
      ▷ ready p (OfOther t.who) t.who) w
      (idle_then-from moves t.who (changes (open_scope p t.who (unit_of_task p t).scope (plainly t.outer) opened_for.Task)) _ w good idle
      (changes-keeps (chains moves) _ (open_scope-alters moves p t.who (unit_of_task p t).scope (plainly t.outer) opened_for.Task)) (λ a good_a idle_a.
      idle_then-from moves t.who (changes (edit_task t.who (activated_task activator w.time))) _ a good_a idle_a
      (changes-keeps (chains moves) _ (edit_task-alters moves t.who (activated_task activator w.time) (λ u. refl) (λ u. refl) (λ u. refl)))
      (λ b good_b idle_b.
      idle_then-from moves t.who (changes (inherit t.who inherited_by.Activation level)) _ b good_b idle_b
      (changes-keeps (chains moves) _ (inherit-alters moves t.who inherited_by.Activation level)) (λ d good_d idle_d.
      ready-from moves p (OfOther t.who) t.who d good_d idle_d))))

  activate_one-from : (p : Image) (activator : Who) (level : ℕ) (t : world.Task) (w : World) → G w → Idle t.who w → From R w (activate_one p activator level t)
  unfolding activate_one
  activate_one-from p activator level t w good idle =
      looks_at-from (chains moves)
      (λ v. elim (has_room v t.who 1 (scope_of p (unit_of_task p t).scope).size) as (λ _. Step) [
        | true ↦ begin_task p activator level t
        | false ↦ fail_to_begin p activator t
      ]) w
      (either-from (chains moves) (has_room w t.who 1 (scope_of p (unit_of_task p t).scope).size) (begin_task p activator level t)
      (fail_to_begin p activator t) w (begin_task-from p activator level t w good idle)
      (keeps-from (chains moves) _ w good (fail_to_begin-keeps p activator t)))

  -- of each of these no delay is appointed since a world
  activate_each-from : (p : Image) (activator : Who) (level : ℕ) (w : World) (ts : List world.Task) → EachTask (λ t. Idle t.who w) ts
      → (v : World) (xs : List Said) → R w xs v → From R v (for_each ts (activate_one p activator level))
  activate_each-from p activator level w [] each v xs k = keeps-from (chains moves) nothing v (moves.behind w v k) (nothing-keeps (chains moves))
  activate_each-from p activator level w (t ∷ ts) each v xs k =
      after-from (chains moves) (activate_one p activator level t) (for_each ts (activate_one p activator level)) v
      (activate_one-from p activator level t v (moves.behind w v k) (moves.idle_on t.who w v k each.0))
      (λ u ys m. activate_each-from p activator level w ts each.1 u (xs ++ ys) (moves.goes_on w v u k m))

  made-step : (w : World) (t : world.Task) (rest : List world.Task) (b : Bool) → (b ≡ true → Idle t.who w) → EachTask (λ u. Idle u.who w) rest
      → EachTask (λ u. Idle u.who w) (cond b (t ∷ rest) rest)
  made-step w t rest true idle each = (idle refl, each)
  made-step w t rest false idle each = each

  made-idle : (w : World) (test : world.Task → Bool) → ((t : world.Task) → test t ≡ true → is_made t ≡ true) → (ts : List world.Task)
      → EachTask (λ t. waits_for_delay (waiting_in t.state) ≡ false → Idle t.who w) ts → EachTask (λ t. Idle t.who w) (filter test ts)
  made-idle w test made [] each = tt
  made-idle w test made (t ∷ ts) each = made-step w t (filter test ts) (test t) (λ e. each.0 (made-waits t.state (made t e))) (made-idle w test made ts each.1)

  begin_group-keeps : (p : Image) (name : Who) (s : StatementNo) (part : ℕ)
      → Keeps G R (looks
      (λ w. goes name (next_of p s) ▷ changes (edit_task name no_failure)
      ▷ for_each (filter (is_to_activate (top_region_of_scope w name) part) w.tasks) (activate_one p name (active_of p w name))))
  begin_group-keeps p name s part =
      looks-from (chains moves) _ (λ w good. let test = is_to_activate (top_region_of_scope w name) part in
      let each =
      made-idle w test
      (λ t e. first_of_three (is_made t) (is_the same_region t.master (top_region_of_scope w name)) (eqb t.declarative_part part) e) w.tasks
      (moves.listed w good) in
      after-from (chains moves) (goes name (next_of p s)) _ w (keeps-from (chains moves) _ w good (goes-keeps moves name (next_of p s))) (λ a xs k.
      after-from (chains moves) (changes (edit_task name no_failure)) _ a
      (keeps-from (chains moves) _ a (moves.behind w a k)
      (changes-keeps (chains moves) _ (edit_task-alters moves name no_failure (λ u. refl) (λ u. refl) (λ u. refl))))
      (λ b ys m.
      activate_each-from p name (active_of p w name) w (filter test w.tasks) each b (xs ++ ys) (moves.goes_on w a b k m))))

  activate_group-keeps : (p : Image) (name : Who) (s : StatementNo) (part : ℕ) → May name → Keeps G R (activate_group p name s part)
  unfolding activate_group
  activate_group-keeps p name s part may =
      then-keeps (chains moves) _ (looks (λ w. await_group name (has_activating w name) (task_of w name).group_failed)) (begin_group-keeps p name s part)
      (search (looks-keeps, await_group-keeps, chains))

  pub activate-keeps : (p : Image) (name : Who) (s : StatementNo) (part : ℕ) → May name → Keeps G R (activate p name s part)
  unfolding activate
  activate-keeps p name s part may =
      looks-keeps (chains moves) _
      (λ w.
      raise_if-keeps (plain_steps moves) name (in_protected w name || is_deferred w name) exception.Program _ (activate_group-keeps p name s part may))

  wait_for_dependents-keeps : (name : Who) (r : RegionNo) → May name → Keeps G R (wait_for_dependents name r)
  unfolding wait_for_dependents
  wait_for_dependents-keeps name r may =
      looks-keeps (chains moves) _ (λ w. when-keeps (chains moves) (has_dependents w r) _ (block-keeps moves TheBlock name (waits_for.Dependents r) may))

  leave_region-keeps : (p : Image) (name : Who) (m : ScopeMark) (leaving : Leaving) (r : RegionNo) → May name → Keeps G R (leave_region p name m leaving r)
  unfolding leave_region
  leave_region-keeps p name m leaving r may =
      search (
        changes-keeps,
        edit_top_scope-alters,
        then-keeps,
        edit_top-alters,
        says-keeps,
        looks-keeps,
        for_each-keeps,
        end_made-keeps,
        complete_if_task-keeps,
        wait_for_dependents-keeps,
        chains,
      ) depth 13

  next_finalized-keeps : (p : Image) (name : Who) (m : ScopeMark) (leaving : Leaving) (found : Option Registered)
      → Keeps G R (elim found as (λ _. Step) [ None ↦ end_of_scope p name m leaving | Some x ↦ finalize p name x ])
  next_finalized-keeps p name m leaving None = end_of_scope-keeps p name m leaving
  next_finalized-keeps p name m leaving (Some x) = finalize-keeps moves p name x

  go_on_leaving-keeps : (p : Image) (name : Who) (m : ScopeMark) (leaving : Leaving) (r : RegionNo) (test : Bool) → May name
      → Keeps G R (go_on_leaving p name m leaving r test)
  unfolding go_on_leaving
  go_on_leaving-keeps p name m leaving r false may = leave_region-keeps p name m leaving r may
  go_on_leaving-keeps p name m leaving r true may = looks-keeps (chains moves) _ (λ w. next_finalized-keeps p name m leaving (next_to_finalize w r))

  end_scope_mark_of-keeps : (p : Image) (name : Who) (m : ScopeMark) (leaving : Leaving) (r : Option RegionNo) → May name
      → Keeps G R (end_scope_mark_of p name m leaving r)
  unfolding end_scope_mark_of
  end_scope_mark_of-keeps p name m leaving None may = end_of_scope-keeps p name m leaving
  end_scope_mark_of-keeps p name m leaving (Some r) may = go_on_leaving-keeps p name m leaving r m.being_left may

  pub end_scope_mark-keeps : (p : Image) (name : Who) (m : ScopeMark) (leaving : Leaving) → May name → Keeps G R (end_scope_mark p name m leaving)
  unfolding end_scope_mark
  end_scope_mark-keeps p name m leaving may = end_scope_mark_of-keeps p name m leaving m.region may
