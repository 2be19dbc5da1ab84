-- Creation, activation, completion and abort: each step keeps a relation that its parts keep.
use Rattle.profile_machine.specs.declared.world.tasks.Cause.TheVariants as inherited_by
use Rattle.profile_machine.specs.Inheritance.{inherit}
use Rattle.profile_machine.specs.WellFormed.{begins_sequence}
use Rattle.world_laws.proofs.Sequences.TaskEdits.{onward-pushed, onward-edited}
use Rattle.profile_machine.specs.declared.world.tasks.State.{State}
use Rattle.profile_machine.specs.declared.world.tasks.State.TheVariants.{Blocked, Made, Runnable}
use Rattle.profile_image.specs.declared.statements.StatementForm.TheVariants as form
use Rattle.std.proofs.lemmas.Bool.{false≢true}
use Rattle.profile_image.specs.Words.{is_the, same_region}
use Rattle.std.specs.Prelude.{ℕ, ◌-◌, Bool, true, false, ◌||◌, List, [], Option, Some, None, leb, length, filter}
use Rattle.ann_base.specs.declared.identities.RegionNo.{RegionNo}
use Rattle.ann_base.specs.declared.exceptions.Raised.TheVariants as exception
use Rattle.profile_machine.specs.declared.world.lines.Line.TheVariants as line
use Rattle.trace_text.specs.declared.events.Created.TheVariants as created
use Rattle.trace_text.specs.declared.events.Who.{Who}
use Rattle.trace_text.specs.declared.events.Who.TheVariants as who
use Rattle.profile_image.specs.declared.image.Image.{Image}
use Rattle.profile_image.specs.declared.numbers.DeclNo.{DeclNo}
use Rattle.profile_image.specs.declared.numbers.StatementNo.{StatementNo}
use Rattle.profile_machine.specs.declared.run_data.Leaving.{Leaving}
use Rattle.profile_image.specs.declared.values.Value.{Value}
use Rattle.profile_image.specs.declared.values.Value.TheVariants as value_of
use Rattle.profile_machine.specs.declared.world.World.{World}
use Rattle.profile_machine.specs.declared.world.marks.ScopeMark.{ScopeMark}
use Rattle.profile_machine.specs.declared.world.scopes.ScopeId.{ScopeId}
use Rattle.profile_machine.specs.declared.world.marks.Purpose.{Purpose}
use Rattle.profile_machine.specs.declared.world.tasks.Waiting.{Waiting}
use Rattle.profile_machine.specs.declared.world.tasks.Waiting.TheVariants as waits_for
use Rattle.profile_machine.specs.declared.world.marks.Purpose.TheVariants as opened_for
use Rattle.profile_machine.specs.declared.world.tasks.Task as world
use Rattle.profile_image.specs.Program.{declaration_of, next_of, scope_of, task_unit_of, form_of}
use Rattle.profile_machine.specs.declared.world.lines.Part.{Part}
use Rattle.profile_machine.specs.declared.world.lines.Part.TheVariants.{Own, TheBlock, OfOther}
use Rattle.profile_machine.specs.Steps.{Step, changes, looks, for_some, ◌▷◌, for_each, says}
use Rattle.profile_machine.specs.Frames.{has_room, pass_on, in_protected, is_deferred, edit_top, goes_on}
use Rattle.profile_machine.specs.Frames.{goes, top_of, pop, is_protected, new_frame, onward_of, edit_first}
use Rattle.profile_machine.specs.Scopes.{home, end_scope, cells_of, scope_in_use, begin_scope, draw_region}
use Rattle.profile_machine.specs.Scopes.{region_of_next, new_scope_mark, next_id, open_scope, plainly}
use Rattle.profile_machine.specs.Controlled.{next_to_finalize, finalize, edit_top_scope}
use Rattle.profile_machine.specs.Declarations.{set_thing}
use Rattle.profile_machine.specs.Tasking.{unit_of_declaration, optional_span, created_task, add_task, says_created, create_task, create, fall_from}
use Rattle.profile_machine.specs.Tasking.{unit_of_task, begin_task, says_done, fail_to_begin, activate_one, await_group, activate_group, activate}
use Rattle.profile_machine.specs.Tasking.{end_own_activation, end_made, complete_if_task, wait_for_dependents, leave_region, end_environment, end_task}
use Rattle.profile_machine.specs.Tasking.{is_normal, end_body, behind_scope, says_left, end_of_scope, go_on_leaving, end_scope_mark_of, end_scope_mark}
use Rattle.profile_machine.specs.Tasking.{says_abort, abort_one, unwind_by, unwind_one, abort_all, abort_statement, block_at_terminate}
use Rattle.profile_machine.specs.Tasking.{take_terminates, unwind_all, no_failure, is_to_activate, top_region_of_scope, is_to_abort, left_by}
use Rattle.profile_machine.specs.Tasking.{abnormal_task, named_tasks, activated_task, left_so_frame, being_left_mark, leaves_as, is_made_in}
use Rattle.std.proofs.Common.{◌≡◌, refl, ap, ◌∙◌, inl, ◌∷◌, sym, cond, ◌&&◌, eqb}
use Rattle.profile_machine.specs.Values.{seen_by}
use Rattle.machine_laws.proofs.FineMoves.{GoodWorld, Naming, EachIs, first_is_false, edit_task-drawn}
use Rattle.world_laws.proofs.Sequences.FineMoves.{FineMoves, Openings, Loosens, Departing, Fitting, AllFitting, chains, says-keeps}
use Rattle.world_laws.proofs.Behind.{Behind, then-turns, changes-turns, looks-turns, turns-from, when-turns, says-turns, wide-from, Turns}
use Rattle.world_laws.proofs.Sequences.Kept.Frames.{edit_top-alters, goes-keeps, popped, goes_then-from, plain_steps}
use Rattle.world_laws.proofs.Sequences.Kept.Tasks.{edit_task-alters}
use Rattle.world_laws.proofs.Sequences.Kept.Dispatching.{to_head-keeps, says_block-keeps, block-keeps, ready-from}
use Rattle.world_laws.proofs.Sequences.Kept.Scopes.{end_scope-alters}
use Rattle.world_laws.proofs.Sequences.Kept.Unwinding.{strike_outermost-alters, unwind-keeps}
use Rattle.world_laws.proofs.Sequences.Kept.Masters.{end_activation-keeps, complete-keeps, terminate-keeps, leave_by_terminate-keeps}
use Rattle.world_laws.proofs.Sequences.Kept.Controlled.{edit_top_scope-alters, finalize-keeps}
use Rattle.ann_base.specs.declared.identities.TaskNo.{TaskNo}
use Rattle.profile_machine.specs.declared.world.marks.Frame.{Frame}
use Rattle.profile_machine.specs.declared.world.marks.Mark.TheVariants.{Scope}
use Rattle.profile_machine.specs.declared.world.appointments.Registered.{Registered}
use Rattle.profile_machine.specs.Tasks.{is_made, is_made_state, edit_task, task_of, waiting_of, with_state, with_frames}
use Rattle.profile_machine.specs.Dispatching.{active_of, block, says_block, word_of, without_kept_level, ready}
use Rattle.profile_machine.specs.Unwinding.{any_struck}
use Rattle.profile_machine.specs.Masters.{has_dependents, may_terminate, leave_by_terminate, has_activating}
use Rattle.machine_laws.proofs.Kept.Combinators.{Alters, From, Keeps, branch-keeps, changes-keeps, changes_then-from, cond-keeps}
use Rattle.machine_laws.proofs.Kept.Combinators.{for_each-keeps, for_each_task-keeps, for_some-keeps, keeps-from, listed-keeps, looks-from}
use Rattle.machine_laws.proofs.Kept.Combinators.{looks-keeps, looks_at-from, nothing-keeps, sees-keeps, some_of-others, then-keeps, when-keeps}
use Rattle.machine_laws.proofs.Plain.Frames.{raise_if-from, given-from, raises-keeps, pass_on-keeps, given-keeps, raise_if-keeps}
use Rattle.machine_laws.proofs.Plain.Subprograms.{end_subprogram-keeps}
use Rattle.machine_laws.proofs.Plain.Results.{end_body_of_entry-keeps}
use Rattle.machine_laws.proofs.Plain.Declarations.{set_thing-alters}

made-so : (s : State) (b : Bool) → is_made_state s ≡ b → b ≡ true → s ≡ Made
made-so Made b is e = refl
made-so Runnable b is e = absurd (false≢true (is ∙ e))
made-so (Blocked waiting) b is e = absurd (false≢true (is ∙ e))

first_of_three : (a b c : Bool) → (a && b && c) ≡ true → a ≡ true
first_of_three true b c e = refl
first_of_three false b c e = e

module _ {p : Image} {G : GoodWorld} {May Other : Naming} (moves : FineMoves p G May Other) where
  says_created-keeps : (d : DeclNo) (t : world.Task) → Keeps G (Behind G) (says_created d t)
  unfolding says_created
  says_created-keeps d t =
      looks-keeps (chains moves) _ (λ w. says-keeps moves Own (line.New (created.Task (record { 0 = w.drawn.tasks - 1 })) (Some d) t.base) refl)

  -- the object's cell gets the task's number
  abbrev name_task : Image → DeclNo → ScopeId → Step
  name_task p d within = looks (λ w. changes (set_thing p (record { within = within; declared = d }) (value_of.Task (Some (record { 0 = w.drawn.tasks - 1 })))))

  create_task-from : (name : Who) (s : StatementNo) (d : DeclNo) (id : Option ScopeId) (t : world.Task) (w : World) → G w → May name
      → t.who ≡ who.Task (record { 0 = w.drawn.tasks }) → t.frames ≡ [] → t.state ≡ Made → Fitting p t → From (Behind G) w (create_task p name s d id t)
  unfolding create_task
  create_task-from name s d id t w good may same_who none made fit =
      let gone = edit_top name (goes_on (next_of p s)) w in
      goes_then-from moves name (next_of p s) _ w good (λ good_onward.
      let added =
      moves.adds_task t gone good_onward
      (same_who
      ∙ ap (λ d. who.Task (record { 0 = d.tasks }))
      (sym (edit_task-drawn name (λ u. with_frames (edit_first (goes_on (next_of p s)) u.frames) u) w))) none made fit in
      changes_then-from (chains moves) (add_task t) _ gone added
      (keeps-from (chains moves) (for_some id (name_task p d) ▷ says_created d t) (add_task t gone) added
      (search (then-keeps, for_some-keeps, looks-keeps, changes-keeps, set_thing-alters, says_created-keeps, chains, plain_steps) depth 10))) may

  pub fall_from-keeps : (name : Who) (before : World) → Keeps G (Behind G) (fall_from p name before)
  unfolding fall_from
  fall_from-keeps name before = search (looks-keeps, when-keeps, to_head-keeps, chains)

  pub says_done-keeps : (part : Part) (name : Who) → Keeps G (Behind G) (says_done part name)
  unfolding says_done
  says_done-keeps part (who.Task t) = search (says-keeps)
  says_done-keeps part who.Agent = search (nothing-keeps, chains)

  end_environment-alters : (leaving : Leaving) → Alters G (Behind G) (end_environment leaving)
  unfolding Alters
  end_environment-alters leaving w good = moves.ends_environment leaving w good

  pub end_body-keeps : (name : Who) (leaving : Leaving) (normally : Step) → Keeps G (Behind G) normally → May name
      → Keeps G (Behind G) (end_body p name leaving normally)
  end_body-keeps name leaving normally kept may =
      branch-keeps (chains moves) (is_normal leaving) normally (pass_on p name leaving) (search) (search (pass_on-keeps, plain_steps))

  pub says_left-keeps : (name : Who) (m : ScopeMark) (leaving : Leaving) → Keeps G (Behind G) (says_left name m leaving)
  unfolding says_left
  says_left-keeps name m leaving = search (for_some-keeps, says-keeps, then-keeps, when-keeps, chains) depth 8

  pub says_abort-keeps : (actor name : Who) → Keeps G (Behind G) (says_abort actor name)
  unfolding says_abort
  says_abort-keeps (who.Task actor) (who.Task t) = search (says-keeps)
  says_abort-keeps (who.Task actor) who.Agent = search (nothing-keeps, chains)
  says_abort-keeps who.Agent t = search (nothing-keeps, chains)

  pub block_at_terminate-keeps : (name : Who) (waiting : Option Waiting) → Keeps G (Behind G) (block_at_terminate name waiting)
  unfolding block_at_terminate
  block_at_terminate-keeps name None = search (nothing-keeps, chains)
  block_at_terminate-keeps name (Some waiting) = search (when-keeps, says_block-keeps, chains)

module _ {p : Image} {G : GoodWorld} {May Other : Naming} (moves : FineMoves p G May Other) (loose : Loosens p G May Other) where
  pub fail_to_begin-keeps : (activator : Who) (t : world.Task) → Keeps G (Behind G) (fail_to_begin p activator t)
  unfolding fail_to_begin
  fail_to_begin-keeps activator t = search (says-keeps, then-keeps, says_done-keeps, changes-keeps, edit_task-alters, terminate-keeps, chains) depth 8

  pub end_own_activation-keeps : (name : Who) (s : StatementNo) → May name → Keeps G (Behind G) (end_own_activation p name s)
  unfolding end_own_activation
  end_own_activation-keeps name s may = search (looks-keeps, goes-keeps, then-keeps, end_activation-keeps, fall_from-keeps, chains)

  pub end_made-keeps : (actor : Who) (t : world.Task) → Keeps G (Behind G) (end_made p actor t)
  unfolding end_made
  end_made-keeps actor t = search (says_done-keeps, then-keeps, terminate-keeps, chains)

  pub complete_if_task-keeps : (name : Who) (purpose : Purpose) → Keeps G (Behind G) (complete_if_task p name purpose)
  unfolding complete_if_task
  complete_if_task-keeps name purpose = search (looks-keeps, when-keeps, complete-keeps, then-keeps, fall_from-keeps, chains)

  pub end_task-keeps : (name : Who) (leaving : Leaving) → Keeps G (Behind G) (end_task p name leaving)
  unfolding end_task
  end_task-keeps name leaving =
      search
      (says_done-keeps, then-keeps, looks-keeps, end_activation-keeps, terminate-keeps, when-keeps, changes-keeps, end_environment-alters, chains) depth 9

  pub behind_scope-keeps : (name : Who) (purpose : Purpose) (cells : List Value) (leaving : Leaving) → May name
      → Keeps G (Behind G) (behind_scope p name purpose cells leaving)
  unfolding behind_scope
  behind_scope-keeps name (opened_for.Block s) cells leaving may = search (pass_on-keeps, plain_steps)
  behind_scope-keeps name (opened_for.Subprogram back to) cells leaving may = search (end_body-keeps, end_subprogram-keeps, plain_steps)
  behind_scope-keeps name (opened_for.EntryBody c) cells leaving may = search (end_body-keeps, end_body_of_entry-keeps, plain_steps)
  behind_scope-keeps name opened_for.Task cells leaving may = search (end_task-keeps)

  pub end_of_scope-from : (name : Who) (m : ScopeMark) (leaving : Leaving) (f : Frame) (w : World) → G w → May name → top_of w name ≡ Some f
      → is_protected f.mark ≡ false → From (Behind G) w (end_of_scope p name m leaving)
  unfolding end_of_scope
  end_of_scope-from name m leaving f w good may top free =
      let out = popped moves name f w good may top free in
      looks_at-from (chains moves)
      (λ v. changes (pop name) ▷ changes (end_scope m.within) ▷ says_left name m leaving
      ▷ behind_scope p name m.purpose (cells_of (scope_in_use v m.within)) (left_by m leaving)) w
      (changes_then-from (chains moves) (pop name) _ w out
      (keeps-from (chains moves)
      (changes (end_scope m.within) ▷ says_left name m leaving ▷ behind_scope p name m.purpose (cells_of (scope_in_use w m.within)) (left_by m leaving))
      (pop name w) (moves.behind w (pop name w) out)
      (search (changes-keeps, then-keeps, end_scope-alters, says_left-keeps, behind_scope-keeps, chains) depth 7)))

  pub abort_one-keeps : (actor : Who) (t : world.Task) → Keeps G (Behind G) (abort_one p actor t)
  unfolding abort_one
  abort_one-keeps actor t = search (says_abort-keeps, then-keeps, cond-keeps, end_made-keeps, changes-keeps, strike_outermost-alters, chains)

  unwind_by-keeps : (name : Who) (acts : Bool) → Other name → Keeps G (Behind G) (unwind_by p name acts)
  unfolding unwind_by
  unwind_by-keeps name false other = search (unwind-keeps)
  unwind_by-keeps name true other = search (looks-keeps, when-keeps, unwind-keeps, chains)

  pub unwind_one-keeps : (actor : Who) (t : world.Task) → Other t.who → Keeps G (Behind G) (unwind_one p actor t)
  unfolding unwind_one
  unwind_one-keeps actor t other = search (unwind_by-keeps)

  pub abort_all-keeps : (actor : Who) (tasks : List world.Task) → EachIs Other tasks → Keeps G (Behind G) (abort_all p actor tasks)
  unfolding abort_all
  abort_all-keeps actor tasks others =
      then-keeps (chains moves) (for_each tasks (λ t. changes (edit_task t.who abnormal_task))) _
      (search (for_each-keeps, changes-keeps, edit_task-alters, chains))
      (then-keeps (chains moves) (for_each tasks (abort_one p actor)) _ (search (for_each-keeps, abort_one-keeps, chains))
      (for_each_task-keeps (chains moves) Other tasks (unwind_one p actor) others (λ t other. unwind_one-keeps actor t other)))

  abort_named-keeps : (name : Who) (aborted : List TaskNo) → Keeps G (Behind G) (looks (λ w. abort_all p name (filter (is_to_abort w aborted) w.tasks)))
  abort_named-keeps name aborted =
      looks-from (chains moves) _
      (λ w good. keeps-from (chains moves) _ w good
      (abort_all-keeps name (filter (is_to_abort w aborted) w.tasks) (some_of-others Other (is_to_abort w aborted) w.tasks (moves.listed w good))))

  pub abort_statement-keeps : (name : Who) (s : StatementNo) (tasks : List DeclNo) → May name → Keeps G (Behind G) (abort_statement p name s tasks)
  unfolding abort_statement
  abort_statement-keeps name s tasks may =
      sees-keeps (chains moves) p name _
      (λ q. raise_if-keeps (plain_steps moves) name (in_protected q.world name) exception.Program _
      (given-keeps (plain_steps moves) Own name (named_tasks q tasks) _ (λ aborted.
      then-keeps (chains moves) (goes name (next_of p s)) _ (goes-keeps moves name (next_of p s) may) (abort_named-keeps name aborted))))

  pub all_terminate-keeps : (actor : Who) → Keeps G (Behind G) (looks (λ w. for_each (filter (may_terminate w) w.tasks) (leave_by_terminate p actor)))
  all_terminate-keeps actor =
      listed-keeps (chains moves) Other moves.listed may_terminate (λ w. leave_by_terminate p actor)
      (λ w t other. leave_by_terminate-keeps moves loose actor t other)

  pub take_terminates-keeps : (actor : Who) → Keeps G (Behind G) (take_terminates p actor)
  unfolding take_terminates
  take_terminates-keeps actor =
      then-keeps (chains moves) _ (looks (λ w. block_at_terminate actor (waiting_of w actor))) (all_terminate-keeps actor)
      (search (looks-keeps, block_at_terminate-keeps, chains))

  pub unwind_all-keeps : (actor : Who) → Keeps G (Behind G) (unwind_all p actor)
  unfolding unwind_all
  unwind_all-keeps actor =
      listed-keeps (chains moves) Other moves.listed (λ w t. any_struck t.frames) (λ w. unwind_one p actor) (λ w t other. unwind_one-keeps actor t other)

  begin_task-keeps : (activator : Who) (level : ℕ) (t : world.Task) → Other t.who → begins_sequence p (scope_of p (unit_of_task p t).scope).first ≡ false
      → Keeps G (Behind G) (begin_task p activator level t)
  unfolding begin_task
  begin_task-keeps activator level t other plain =
      looks-from (chains moves) _ (λ w good.
      let scope = (unit_of_task p t).scope in
      let opened = open_scope p t.who scope (plainly t.outer) opened_for.Task w in
      let activated = edit_task t.who (activated_task activator w.time) opened in
      let heir = inherit t.who inherited_by.Activation level activated in
      let first : G opened = moves.opens_task t.who scope (plainly t.outer) w good other plain in
      let first_plain : begins_sequence p (onward_of opened t.who) ≡ false =
      onward-pushed p t.who (new_frame (new_scope_mark (next_id w) (region_of_next (scope_of p scope).kept w) opened_for.Task) (scope_of p scope).first)
      (draw_region (scope_of p scope).kept (begin_scope p t.who scope (plainly t.outer) w)) plain in
      let second : G activated = moves.edits_task t.who (activated_task activator w.time) opened first (λ u. refl) (λ u. refl) (λ u. refl) (λ u. refl) in
      let second_plain : begins_sequence p (onward_of activated t.who) ≡ false =
      onward-edited p t.who (activated_task activator w.time) opened (λ u. refl) (λ u. refl) first_plain in
      let third : G heir =
      moves.edits_task t.who (λ u. record u { inherited = record { cause = inherited_by.Activation; level = level } ∷ u.inherited }) activated second
      (λ u. refl) (λ u. refl) (λ u. refl) (λ u. refl) in
      let third_plain : begins_sequence p (onward_of heir t.who) ≡ false =
      onward-edited p t.who (λ u. record u { inherited = record { cause = inherited_by.Activation; level = level } ∷ u.inherited }) activated (λ u. refl)
      (λ u. refl) second_plain in
      changes_then-from (chains moves) (open_scope p t.who scope (plainly t.outer) opened_for.Task) _ w first
      (changes_then-from (chains moves) (edit_task t.who (activated_task activator w.time)) _ opened second
      (changes_then-from (chains moves) (inherit t.who inherited_by.Activation level) (ready p (OfOther t.who) t.who) activated third
      (ready-from moves (OfOther t.who) t.who heir (moves.readies_plainly t.who heir third third_plain)))))

  pub activate_one-keeps : (activator : Who) (level : ℕ) (t : world.Task) → Other t.who → begins_sequence p (scope_of p (unit_of_task p t).scope).first ≡ false
      → Keeps G (Behind G) (activate_one p activator level t)
  unfolding activate_one
  activate_one-keeps activator level t other plain =
      looks-keeps (chains moves) _
      (λ w. branch-keeps (chains moves) (has_room w t.who 1 (scope_of p (unit_of_task p t).scope).size) (begin_task p activator level t)
      (fail_to_begin p activator t) (search (begin_task-keeps)) (search (fail_to_begin-keeps)))

  each_made-step : (b : Bool) (t : world.Task) (rest : List world.Task) (f : world.Task → Step) → (b ≡ true → Keeps G (Behind G) (f t))
      → Keeps G (Behind G) (for_each rest f) → Keeps G (Behind G) (for_each (cond b (t ∷ rest) rest) f)
  each_made-step true t rest f a r = then-keeps (chains moves) (f t) (for_each rest f) (a refl) r
  each_made-step false t rest f a r = r

  each_made-keeps : (test : world.Task → Bool) (ts : List world.Task) (f : world.Task → Step) → EachIs Other ts → AllFitting p ts
      → ((t : world.Task) → test t ≡ true → Other t.who → Fitting p t → Keeps G (Behind G) (f t)) → Keeps G (Behind G) (for_each (filter test ts) f)
  each_made-keeps test [] f each fits a = nothing-keeps (chains moves)
  each_made-keeps test (t ∷ ts) f each fits a =
      each_made-step (test t) t (filter test ts) f (λ is. a t is each.0 fits.0) (each_made-keeps test ts f each.1 fits.1 a)

  -- the tasks of the group, in order
  begin_group-keeps : (name : Who) (s : StatementNo) (part : ℕ) → May name
      → Keeps G (Behind G)
      (looks (λ w. goes name (next_of p s) ▷ changes (edit_task name no_failure)
      ▷ for_each (filter (is_to_activate (top_region_of_scope w name) part) w.tasks) (activate_one p name (active_of p w name))))
  begin_group-keeps name s part may =
      looks-from (chains moves) _ (λ w good. keeps-from (chains moves) _ w good
      (then-keeps (chains moves) (goes name (next_of p s)) _ (search (goes-keeps))
      (then-keeps (chains moves) (changes (edit_task name no_failure)) _ (search (changes-keeps, edit_task-alters, chains))
      (each_made-keeps (is_to_activate (top_region_of_scope w name) part) w.tasks (activate_one p name (active_of p w name)) (moves.listed w good)
      (moves.fitting w good)
      (λ t is other fit. activate_one-keeps name (active_of p w name) t other
      (fit (made-so t.state (is_made t) refl
      (first_of_three (is_made t) (is_the same_region t.master (top_region_of_scope w name)) (eqb t.declarative_part part) is))))))))

module _ {p : Image} {G : GoodWorld} {May Other : Naming} (moves : FineMoves p G May Other) (loose : Loosens p G May Other)
    (openings : Openings p G May Other) where
  pub await_group-keeps : (name : Who) (begins failed : Bool) → Other name → Keeps G (Behind G) (await_group name begins failed)
  unfolding await_group
  await_group-keeps name true failed other = block-keeps moves openings TheBlock name waits_for.Activation other refl
  await_group-keeps name false true other = search (raises-keeps, plain_steps)
  await_group-keeps name false false other = search (nothing-keeps, chains)

  pub create-keeps : (name : Who) (s : StatementNo) (d : DeclNo) (part : ℕ) → May name → form_of p s ≡ form.CreateTask d part
      → Keeps G (Behind G) (create p name s d part)
  unfolding create
  create-keeps name s d part may is =
      looks-from (chains moves) _ (λ w good. let q = seen_by p w name in
      raise_if-from (plain_steps moves) name (in_protected w name || is_deferred w name) exception.Program _ w good (λ allowed.
      raise_if-from (plain_steps moves) name (leb 256 (length w.tasks)) exception.Storage _ w good (λ few.
      given-from (plain_steps moves) Own name (optional_span q (task_unit_of p (unit_of_declaration p d)).relative_deadline) _ w good (λ span.
      create_task-from moves name s d (home w (declaration_of p d).scope q.within)
      (created_task q d (unit_of_declaration p d) part span w.drawn.tasks) w good may refl refl refl (λ e. moves.fits.created s d part is)))))

  activate_group-keeps : (name : Who) (s : StatementNo) (part : ℕ) → Other name → May name → Keeps G (Behind G) (activate_group p name s part)
  unfolding activate_group
  activate_group-keeps name s part other may =
      then-keeps (chains moves) _ (looks (λ w. await_group name (has_activating w name) (task_of w name).group_failed))
      (begin_group-keeps moves loose name s part may) (search (looks-keeps, await_group-keeps, chains))

  pub activate-keeps : (name : Who) (s : StatementNo) (part : ℕ) → May name → Keeps G (Behind G) (activate p name s part)
  unfolding activate
  activate-keeps name s part may =
      looks-from (chains moves) _ (λ w good. raise_if-from (plain_steps moves) name (in_protected w name || is_deferred w name) exception.Program _ w good
      (λ allowed. keeps-from (chains moves) _ w good
      (activate_group-keeps name s part (openings.outside name w good may (first_is_false (in_protected w name) (is_deferred w name) allowed)) may)))

  -- an object of the region is finalized, or the scope has ended
  next_finalized-from : (name : Who) (m : ScopeMark) (leaving : Leaving) (found : Option Registered) (f : Frame) (w : World) → G w → May name
      → top_of w name ≡ Some f → is_protected f.mark ≡ false
      → From (Behind G) w (elim found as (λ _. Step) [ None ↦ end_of_scope p name m leaving | Some x ↦ finalize p name x ])
  next_finalized-from name m leaving None f w good may top free = end_of_scope-from moves loose name m leaving f w good may top free
  next_finalized-from name m leaving (Some x) f w good may top free =
      keeps-from (chains moves) (finalize p name x) w good (finalize-keeps moves openings name x may)

  wait_for_dependents-turns : (name : Who) (Y : GoodWorld) (departs : Departing p Other name G Y) (r : RegionNo)
      → Turns departs.T Y (wait_for_dependents name r)
  unfolding wait_for_dependents block says_block
  wait_for_dependents-turns name Y departs r =
      looks-turns departs.T Y _ (λ w good. turns-from departs.T Y _ w good (when-turns departs.T Y (has_dependents w r) _ departs.rests (λ is.
      then-turns departs.T Y Y (changes (edit_task name (with_state (Blocked (waits_for.Dependents r))))) _ (changes-turns departs.T Y _ (departs.waits r))
      (then-turns Y Y Y (changes (edit_task name without_kept_level)) (says TheBlock (line.Block name (word_of (waits_for.Dependents r))))
      (changes-turns Y Y _ departs.over_kept) (says-turns Y TheBlock (line.Block name (word_of (waits_for.Dependents r))))))))

  leave_region-turns : (name : Who) (Y : GoodWorld) (departs : Departing p Other name G Y) (m : ScopeMark) (leaving : Leaving) (r : RegionNo)
      → Turns departs.T Y (leave_region p name m leaving r)
  unfolding leave_region
  leave_region-turns name Y departs m leaving r =
      let t = departs.tight in
      let T = departs.T in
      then-turns T T Y (changes (edit_top_scope name being_left_mark)) _ (changes-keeps (chains t) _ (edit_top_scope-alters t name being_left_mark (λ x. refl)))
      (then-turns T T Y (changes (edit_top name (left_so_frame leaving))) _
      (changes-keeps (chains t) _ (edit_top-alters t name (left_so_frame leaving) (λ x. refl) (λ x. inl refl)))
      (then-turns T T Y (says Own (line.Leave name r (leaves_as leaving))) _ (says-keeps t Own (line.Leave name r (leaves_as leaving)) refl)
      (then-turns T T Y (looks (λ w. for_each (filter (is_made_in r) w.tasks) (end_made p name))) _
      (looks-keeps (chains t) _
      (λ w. for_each-keeps (chains t) (filter (is_made_in r) w.tasks) (end_made p name) (λ u. end_made-keeps t departs.tight_loose name u)))
      (then-turns T T Y (complete_if_task p name m.purpose) (wait_for_dependents name r) (complete_if_task-keeps t departs.tight_loose name m.purpose)
      (wait_for_dependents-turns name Y departs r)))))

  go_on_leaving-from : (name : Who) (Y : GoodWorld) (departs : Departing p Other name G Y) (m : ScopeMark) (leaving : Leaving) (r : RegionNo) (test : Bool)
      (f : Frame) (w : World)
      → G w
      → May name
      → top_of w name ≡ Some f
      → is_protected f.mark ≡ false
      → begins_sequence p (onward_of w name) ≡ false
      → From (Behind Y) w (go_on_leaving p name m leaving r test)
  unfolding go_on_leaving
  go_on_leaving-from name Y departs m leaving r false f w good may top free plain =
      turns-from departs.T Y _ w (departs.begins w good plain) (leave_region-turns name Y departs m leaving r)
  go_on_leaving-from name Y departs m leaving r true f w good may top free plain =
      wide-from G Y _ w departs.over
      (looks_at-from (chains moves)
      (λ v. elim (next_to_finalize v r) as (λ _. Step) [ None ↦ end_of_scope p name m leaving | Some x ↦ finalize p name x ]) w
      (next_finalized-from name m leaving (next_to_finalize w r) f w good may top free))

  end_scope_mark_of-from : (name : Who) (Y : GoodWorld) (departs : Departing p Other name G Y) (m : ScopeMark) (leaving : Leaving) (r : Option RegionNo)
      (f : Frame) (w : World)
      → G w
      → May name
      → top_of w name ≡ Some f
      → f.mark ≡ Scope m
      → begins_sequence p (onward_of w name) ≡ false
      → From (Behind Y) w (end_scope_mark_of p name m leaving r)
  unfolding end_scope_mark_of
  end_scope_mark_of-from name Y departs m leaving None f w good may top is plain =
      wide-from G Y _ w departs.over (end_of_scope-from moves loose name m leaving f w good may top (ap is_protected is))
  end_scope_mark_of-from name Y departs m leaving (Some r) f w good may top is plain =
      go_on_leaving-from name Y departs m leaving r m.being_left f w good may top (ap is_protected is) plain

  pub end_scope_mark-from : (name : Who) (Y : GoodWorld) (departs : Departing p Other name G Y) (m : ScopeMark) (leaving : Leaving) (f : Frame) (w : World)
      → G w → May name → top_of w name ≡ Some f → f.mark ≡ Scope m → begins_sequence p (onward_of w name) ≡ false
      → From (Behind Y) w (end_scope_mark p name m leaving)
  unfolding end_scope_mark
  end_scope_mark-from name Y departs m leaving f w good may top is plain = end_scope_mark_of-from name Y departs m leaving m.region f w good may top is plain
