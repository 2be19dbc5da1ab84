-- Creation, activation, completion and abort: each step keeps a relation that its parts keep.
use Rattle.std.specs.Prelude.{ℕ, ◌-◌, Bool, true, false, ◌||◌, List, [], Option, Some, None, leb, length, filter}
use Rattle.ann_base.specs.declared.identities.RegionNo.{RegionNo}
use Rattle.ann_base.specs.declared.exceptions.Raised.TheVariants as exception
use Rattle.profile_machine.specs.declared.world.lines.Line.TheVariants as line
use Rattle.trace_text.specs.declared.events.Created.TheVariants as created
use Rattle.trace_text.specs.declared.events.Who.{Who}
use Rattle.trace_text.specs.declared.events.Who.TheVariants as who
use Rattle.profile_image.specs.declared.image.Image.{Image}
use Rattle.profile_image.specs.declared.numbers.DeclNo.{DeclNo}
use Rattle.profile_image.specs.declared.numbers.StatementNo.{StatementNo}
use Rattle.profile_machine.specs.declared.run_data.Leaving.{Leaving}
use Rattle.profile_image.specs.declared.values.Value.{Value}
use Rattle.profile_image.specs.declared.values.Value.TheVariants as value_of
use Rattle.profile_machine.specs.declared.world.World.{World}
use Rattle.profile_machine.specs.declared.world.marks.ScopeMark.{ScopeMark}
use Rattle.profile_machine.specs.declared.world.scopes.ScopeId.{ScopeId}
use Rattle.profile_machine.specs.declared.world.marks.Purpose.{Purpose}
use Rattle.profile_machine.specs.declared.world.tasks.Waiting.TheVariants as waits_for
use Rattle.profile_machine.specs.declared.world.marks.Purpose.TheVariants as opened_for
use Rattle.profile_machine.specs.declared.world.tasks.Task as world
use Rattle.profile_image.specs.Program.{declaration_of, next_of, scope_of, task_unit_of}
use Rattle.profile_machine.specs.declared.world.lines.Part.{Part}
use Rattle.profile_machine.specs.declared.world.lines.Part.TheVariants.{Own}
use Rattle.profile_machine.specs.Steps.{Step, changes, looks, for_some, ◌▷◌, for_each, says, when}
use Rattle.profile_machine.specs.Frames.{has_room, pass_on, in_protected, is_deferred, edit_top, goes_on, goes}
use Rattle.profile_machine.specs.Scopes.{home}
use Rattle.profile_machine.specs.Declarations.{set_thing}
use Rattle.profile_machine.specs.Tasking.{unit_of_declaration, optional_span, created_task, add_task, says_created, create_task, create}
use Rattle.profile_machine.specs.Tasking.{fall_from, unit_of_task, begin_task, says_done, fail_to_begin, activate_one, await_group}
use Rattle.profile_machine.specs.Tasking.{activate_group, activate, end_own_activation, end_made, complete_if_task, wait_for_dependents}
use Rattle.profile_machine.specs.Tasking.{end_environment, end_task, is_normal, end_body, behind_scope, says_abort, abort_one, unwind_by}
use Rattle.profile_machine.specs.Tasking.{unwind_one, abort_all, abort_statement, unwind_all, is_to_abort, named_tasks, is_made_in}
use Rattle.std.proofs.Common.{◌≡◌, refl, sym, ap, ◌∙◌}
use Rattle.profile_machine.specs.Values.{seen_by}
use Rattle.profile_machine.specs.Tasks.{waiting_in, edit_task_found, task_at, with_frames}
use Rattle.profile_machine.specs.Frames.{edit_first}
use Rattle.profile_machine.specs.Scopes.{open_scope}
use Rattle.profile_machine.specs.Tasking.{is_task_scope}
use Rattle.profile_machine.specs.declared.world.scopes.Beginning.{Beginning}
use Rattle.profile_image.specs.declared.numbers.ScopeNo.{ScopeNo}
use Rattle.machine_laws.proofs.Moves.{StepRelation, MoveRelation}
use Rattle.line_laws.proofs.Leaving.FineMoves.{FineMoves, chains, says-keeps}
use Rattle.line_laws.proofs.Leaving.Kept.Combinators.{listed-keeps}
use Rattle.line_laws.proofs.Leaving.Kept.Frames.{goes-keeps, plain_steps}
use Rattle.line_laws.proofs.Leaving.Kept.Tasks.{edit_task-alters}
use Rattle.line_laws.proofs.Leaving.Kept.Dispatching.{to_head-keeps, ready-keeps, block_apart-keeps}
use Rattle.line_laws.proofs.Leaving.Kept.Inheritance.{inherit-alters}
use Rattle.line_laws.proofs.Leaving.Kept.Unwinding.{strike_outermost-alters, unwind-keeps}
use Rattle.line_laws.proofs.Leaving.Kept.Masters.{end_activation-keeps, complete-keeps, terminate-keeps, leave_by_terminate-keeps}
use Rattle.ann_base.specs.declared.identities.TaskNo.{TaskNo}
use Rattle.profile_machine.specs.Tasks.{edit_task}
use Rattle.profile_machine.specs.Unwinding.{any_struck}
use Rattle.profile_machine.specs.Masters.{has_dependents, may_terminate, leave_by_terminate}
use Rattle.machine_laws.proofs.FineMoves.{GoodWorld, Naming}
use Rattle.machine_laws.proofs.Kept.Combinators.{Alters, From, Keeps, branch-keeps, changes-from, changes-keeps, changes_then-from, cond-keeps, for_each-keeps}
use Rattle.machine_laws.proofs.Kept.Combinators.{for_some-keeps, looks-from, looks-keeps, nothing-keeps, sees-keeps, then-from, then-keeps, when-keeps}
use Rattle.machine_laws.proofs.Plain.Frames.{raise_if-from, given-from, raises-keeps, pass_on-keeps, given-keeps, raise_if-keeps}
use Rattle.machine_laws.proofs.Plain.Subprograms.{end_subprogram-keeps}
use Rattle.machine_laws.proofs.Plain.Results.{end_body_of_entry-keeps}
use Rattle.machine_laws.proofs.Plain.Declarations.{set_thing-alters}

-- an edit of a task draws nothing
pub edit_found-drawn : (name : Who) (f : world.Task → world.Task) (w : World) (found : Option world.Task) → (edit_task_found name f w found).drawn ≡ w.drawn
edit_found-drawn name f w None = refl
edit_found-drawn (who.Task n) f w (Some t) = refl
edit_found-drawn who.Agent f w (Some t) = refl

pub edit_task-drawn : (name : Who) (f : world.Task → world.Task) (w : World) → (edit_task name f w).drawn ≡ w.drawn
edit_task-drawn name f w = edit_found-drawn name f w (task_at w name)

module _ {G : GoodWorld} {May Acts Pushes : Naming} {Stops : Type 0} {R : StepRelation} {Q : MoveRelation} (moves : FineMoves G May Acts Pushes Stops R Q) where
  says_created-keeps : (d : DeclNo) (t : world.Task) → Keeps G R (says_created d t)
  unfolding says_created
  says_created-keeps d t =
      looks-keeps (chains moves) _ (λ w. says-keeps moves Own (line.New (created.Task (record { 0 = w.drawn.tasks - 1 })) (Some d) t.base) refl)

  -- the object's cell gets the task's number
  abbrev name_task : Image → DeclNo → ScopeId → Step
  name_task p d within = looks (λ w. changes (set_thing p (record { within = within; declared = d }) (value_of.Task (Some (record { 0 = w.drawn.tasks - 1 })))))

  create_task-from : (p : Image) (name : Who) (s : StatementNo) (d : DeclNo) (id : Option ScopeId) (t : world.Task) (w : World) → G w → May name
      → t.who ≡ who.Task (record { 0 = w.drawn.tasks }) → t.frames ≡ [] → waiting_in t.state ≡ None → From R w (create_task p name s d id t)
  unfolding create_task goes
  create_task-from p name s d id t w good may same_who none still =
      let gone = edit_top name (goes_on (next_of p s)) w in
      let first = moves.goes name (next_of p s) w good (moves.may_free name w good may) in
      let good_gone = moves.behind w gone first in
      let drawn : gone.drawn ≡ w.drawn = edit_task-drawn name (λ u. with_frames (edit_first (goes_on (next_of p s)) u.frames) u) w in
      changes_then-from (chains moves) (edit_top name (goes_on (next_of p s))) _ w first
      (then-from (chains moves) (changes (add_task t)) (for_some id (name_task p d) ▷ says_created d t) gone
      (changes-from (chains moves) (add_task t) gone
      (moves.adds_task t gone good_gone (same_who ∙ ap (λ k. who.Task (record { 0 = k.tasks })) (sym drawn)) none still))
      (search (then-keeps, for_some-keeps, looks-keeps, changes-keeps, set_thing-alters, says_created-keeps, chains, plain_steps) depth 10))

  pub fall_from-keeps : (p : Image) (name : Who) (before : World) → Acts name → Keeps G R (fall_from p name before)
  unfolding fall_from
  fall_from-keeps p name before acts = search (looks-keeps, when-keeps, to_head-keeps, chains)

  pub says_done-keeps : (part : Part) (name : Who) → Keeps G R (says_done part name)
  unfolding says_done
  says_done-keeps part (who.Task t) = search (says-keeps)
  says_done-keeps part who.Agent = search (nothing-keeps, chains)

  pub fail_to_begin-keeps : (p : Image) (activator : Who) (t : world.Task) → Stops → Keeps G R (fail_to_begin p activator t)
  unfolding fail_to_begin
  fail_to_begin-keeps p activator t stops = search (says-keeps, then-keeps, says_done-keeps, changes-keeps, edit_task-alters, terminate-keeps, chains) depth 8

  pub await_group-keeps : (name : Who) (begins failed : Bool) → Stops → Keeps G R (await_group name begins failed)
  unfolding await_group
  await_group-keeps name true failed stops = block_apart-keeps moves name waits_for.Activation stops refl
  await_group-keeps name false true stops = search (raises-keeps, plain_steps)
  await_group-keeps name false false stops = search (nothing-keeps, chains)

  pub end_own_activation-keeps : (p : Image) (name : Who) (s : StatementNo) → May name → Stops → Keeps G R (end_own_activation p name s)
  unfolding end_own_activation
  end_own_activation-keeps p name s may stops = search (looks-keeps, goes-keeps, then-keeps, end_activation-keeps, fall_from-keeps, moves.may_acts, chains)

  pub end_made-keeps : (p : Image) (actor : Who) (t : world.Task) → Stops → Keeps G R (end_made p actor t)
  unfolding end_made
  end_made-keeps p actor t stops = search (says_done-keeps, then-keeps, terminate-keeps, chains)

  pub complete_if_task-keeps : (p : Image) (name : Who) (purpose : Purpose) → Acts name → Stops → Keeps G R (complete_if_task p name purpose)
  unfolding complete_if_task
  complete_if_task-keeps p name purpose acts stops = search (looks-keeps, when-keeps, complete-keeps, then-keeps, fall_from-keeps, chains)

  end_environment-alters : (leaving : Leaving) → Alters G R (end_environment leaving)
  unfolding Alters
  end_environment-alters leaving w good = moves.ends_environment leaving w good

  pub end_task-keeps : (p : Image) (name : Who) (leaving : Leaving) → Stops → Keeps G R (end_task p name leaving)
  unfolding end_task
  end_task-keeps p name leaving stops =
      search
      (says_done-keeps, then-keeps, looks-keeps, end_activation-keeps, terminate-keeps, when-keeps, changes-keeps, end_environment-alters, chains) depth 9

  pub end_body-keeps : (p : Image) (name : Who) (leaving : Leaving) (normally : Step) → May name → Keeps G R normally
      → Keeps G R (end_body p name leaving normally)
  end_body-keeps p name leaving normally may kept =
      branch-keeps (chains moves) (is_normal leaving) normally (pass_on p name leaving) (search) (search (pass_on-keeps, plain_steps))

  -- behind the scope of a task the task has ended; behind others who may go on goes on
  pub behind_scope-keeps : (p : Image) (name : Who) (purpose : Purpose) (cells : List Value) (leaving : Leaving) → May name → is_task_scope purpose ≡ false
      → Keeps G R (behind_scope p name purpose cells leaving)
  unfolding behind_scope
  behind_scope-keeps p name (opened_for.Block s) cells leaving may other = search (pass_on-keeps, plain_steps)
  behind_scope-keeps p name (opened_for.Subprogram back to) cells leaving may other = search (end_body-keeps, end_subprogram-keeps, plain_steps)
  behind_scope-keeps p name (opened_for.EntryBody c) cells leaving may other = search (end_body-keeps, end_body_of_entry-keeps, plain_steps)
  behind_scope-keeps p name opened_for.Task cells leaving may other = absurd cc

  pub behind_task-keeps : (p : Image) (name : Who) (cells : List Value) (leaving : Leaving) → Stops
      → Keeps G R (behind_scope p name opened_for.Task cells leaving)
  unfolding behind_scope
  behind_task-keeps p name cells leaving stops = search (end_task-keeps)

  -- Program_Error, where a Finalize raised
  pub raised_behind-keeps : (name : Who) (test : Bool) → Keeps G R (when test (says Own (line.Raise name exception.Program)))
  raised_behind-keeps name test = search (when-keeps, says-keeps, chains)

  pub says_abort-keeps : (actor name : Who) → Keeps G R (says_abort actor name)
  unfolding says_abort
  says_abort-keeps (who.Task actor) (who.Task t) = search (says-keeps)
  says_abort-keeps (who.Task actor) who.Agent = search (nothing-keeps, chains)
  says_abort-keeps who.Agent t = search (nothing-keeps, chains)

  pub abort_one-keeps : (p : Image) (actor : Who) (t : world.Task) → Stops → Keeps G R (abort_one p actor t)
  unfolding abort_one
  abort_one-keeps p actor t stops = search (says_abort-keeps, then-keeps, cond-keeps, end_made-keeps, changes-keeps, strike_outermost-alters, chains)

  unwind_by-keeps : (p : Image) (name : Who) (acts : Bool) → Keeps G R (unwind_by p name acts)
  unfolding unwind_by
  unwind_by-keeps p name false = search (unwind-keeps)
  unwind_by-keeps p name true = search (looks-keeps, when-keeps, unwind-keeps, chains)

  pub unwind_one-keeps : (p : Image) (actor : Who) (t : world.Task) → Keeps G R (unwind_one p actor t)
  unfolding unwind_one
  unwind_one-keeps p actor t = search (unwind_by-keeps)

  pub abort_all-keeps : (p : Image) (actor : Who) (tasks : List world.Task) → Stops → Keeps G R (abort_all p actor tasks)
  unfolding abort_all
  abort_all-keeps p actor tasks stops = search (for_each-keeps, changes-keeps, edit_task-alters, then-keeps, abort_one-keeps, unwind_one-keeps, chains) depth 9

  abort_named-keeps : (p : Image) (name : Who) (aborted : List TaskNo) → Stops
      → Keeps G R (looks (λ w. abort_all p name (filter (is_to_abort w aborted) w.tasks)))
  abort_named-keeps p name aborted stops = looks-keeps (chains moves) _ (λ w. abort_all-keeps p name (filter (is_to_abort w aborted) w.tasks) stops)

  pub abort_statement-keeps : (p : Image) (name : Who) (s : StatementNo) (tasks : List DeclNo) → May name → Stops → Keeps G R (abort_statement p name s tasks)
  unfolding abort_statement
  abort_statement-keeps p name s tasks may stops =
      sees-keeps (chains moves) p name _
      (λ q. raise_if-keeps (plain_steps moves) name (in_protected q.world name) exception.Program _
      (given-keeps (plain_steps moves) Own name (named_tasks q tasks) _ (λ aborted.
      then-keeps (chains moves) (goes name (next_of p s)) _ (goes-keeps moves name (next_of p s) may) (abort_named-keeps p name aborted stops))))

  pub all_terminate-keeps : (p : Image) (actor : Who) → Keeps G R (looks (λ w. for_each (filter (may_terminate w) w.tasks) (leave_by_terminate p actor)))
  all_terminate-keeps p actor = listed-keeps moves may_terminate (λ w. leave_by_terminate p actor) (λ w t. leave_by_terminate-keeps moves p actor t)

  pub unwind_all-keeps : (p : Image) (actor : Who) → Keeps G R (unwind_all p actor)
  unfolding unwind_all
  unwind_all-keeps p actor = listed-keeps moves (λ w t. any_struck t.frames) (λ w. unwind_one p actor) (λ w t. unwind_one-keeps p actor t)

module _ {G : GoodWorld} {May Acts Pushes : Naming} {Stops : Type 0} {R : StepRelation} {Q : MoveRelation} (moves : FineMoves G May Acts Pushes Stops R Q) where
  pub create-keeps : (p : Image) (name : Who) (s : StatementNo) (d : DeclNo) (part : ℕ) → May name → Keeps G R (create p name s d part)
  unfolding create
  create-keeps p name s d part may =
      looks-from (chains moves) _ (λ w good. let q = seen_by p w name in
      raise_if-from (plain_steps moves) name (in_protected w name || is_deferred w name) exception.Program _ w good (λ allowed.
      raise_if-from (plain_steps moves) name (leb 256 (length w.tasks)) exception.Storage _ w good (λ few.
      given-from (plain_steps moves) Own name (optional_span q (task_unit_of p (unit_of_declaration p d)).relative_deadline) _ w good (λ span.
      create_task-from moves p name s d (home w (declaration_of p d).scope q.within)
      (created_task q d (unit_of_declaration p d) part span w.drawn.tasks) w good may refl refl refl))))

  open_task-alters : (p : Image) (name : Who) (scope : ScopeNo) (b : Beginning) → Stops → Alters G R (open_scope p name scope b opened_for.Task)
  unfolding Alters
  open_task-alters p name scope b stops w good = moves.opens_task p name scope b w good (moves.stops_pushes stops name)

  pub begin_task-keeps : (p : Image) (activator : Who) (level : ℕ) (t : world.Task) → Stops → Keeps G R (begin_task p activator level t)
  unfolding begin_task
  begin_task-keeps p activator level t stops =
      search (looks-keeps, changes-keeps, open_task-alters, then-keeps, edit_task-alters, inherit-alters, ready-keeps, chains) depth 11

  pub activate_one-keeps : (p : Image) (activator : Who) (level : ℕ) (t : world.Task) → Stops → Keeps G R (activate_one p activator level t)
  unfolding activate_one
  activate_one-keeps p activator level t stops =
      looks-keeps (chains moves) _
      (λ w. branch-keeps (chains moves) (has_room w t.who 1 (scope_of p (unit_of_task p t).scope).size) (begin_task p activator level t)
      (fail_to_begin p activator t) (search (begin_task-keeps)) (search (fail_to_begin-keeps)))

  activate_group-keeps : (p : Image) (name : Who) (s : StatementNo) (part : ℕ) → May name → Stops → Keeps G R (activate_group p name s part)
  unfolding activate_group
  activate_group-keeps p name s part may stops =
      search (looks-keeps, goes-keeps, then-keeps, changes-keeps, edit_task-alters, for_each-keeps, activate_one-keeps, await_group-keeps, chains) depth 9

  pub activate-keeps : (p : Image) (name : Who) (s : StatementNo) (part : ℕ) → May name → Stops → Keeps G R (activate p name s part)
  unfolding activate
  activate-keeps p name s part may stops = search (looks-keeps, raise_if-keeps, activate_group-keeps, chains, plain_steps)

  pub wait_for_dependents-keeps : (name : Who) (r : RegionNo) → Stops → Keeps G R (wait_for_dependents name r)
  unfolding wait_for_dependents
  wait_for_dependents-keeps name r stops =
      looks-keeps (chains moves) _ (λ w. when-keeps (chains moves) (has_dependents w r) _ (block_apart-keeps moves name (waits_for.Dependents r) stops refl))

  -- behind the beginning
  pub leaves_on-keeps : (p : Image) (name : Who) (m : ScopeMark) (r : RegionNo) → Acts name → Stops
      → Keeps G R (looks (λ w. for_each (filter (is_made_in r) w.tasks) (end_made p name)) ▷ complete_if_task p name m.purpose ▷ wait_for_dependents name r)
  leaves_on-keeps p name m r acts stops =
      search (then-keeps, looks-keeps, for_each-keeps, end_made-keeps, complete_if_task-keeps, wait_for_dependents-keeps, chains) depth 9
