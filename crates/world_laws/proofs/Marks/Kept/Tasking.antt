-- Creation, activation, completion and abort: each step keeps a relation that its parts keep.
use Rattle.std.specs.Prelude.{ℕ, ◌-◌, Bool, true, false, ◌&&◌, ◌||◌, List, [], ◌∷◌, Option, Some, None, eqb, leb, length, filter}
use Rattle.ann_base.specs.declared.identities.RegionNo.{RegionNo}
use Rattle.ann_base.specs.declared.exceptions.Raised.TheVariants as exception
use Rattle.profile_machine.specs.declared.world.lines.Line.TheVariants as line
use Rattle.trace_text.specs.declared.events.Created.TheVariants as created
use Rattle.trace_text.specs.declared.events.Who.{Who}
use Rattle.trace_text.specs.declared.events.Who.TheVariants as who
use Rattle.profile_image.specs.declared.image.Image.{Image}
use Rattle.profile_image.specs.declared.numbers.DeclNo.{DeclNo}
use Rattle.profile_image.specs.declared.numbers.StatementNo.{StatementNo}
use Rattle.profile_machine.specs.declared.run_data.Leaving.{Leaving}
use Rattle.profile_image.specs.declared.values.Value.{Value}
use Rattle.profile_image.specs.declared.values.Value.TheVariants as value_of
use Rattle.profile_machine.specs.declared.world.World.{World}
use Rattle.profile_machine.specs.declared.world.marks.ScopeMark.{ScopeMark}
use Rattle.profile_machine.specs.declared.world.scopes.ScopeId.{ScopeId}
use Rattle.profile_machine.specs.declared.world.marks.Purpose.{Purpose}
use Rattle.profile_machine.specs.declared.world.tasks.Waiting.{Waiting}
use Rattle.profile_machine.specs.declared.world.tasks.Waiting.TheVariants as waits_for
use Rattle.profile_machine.specs.declared.world.marks.Purpose.TheVariants as opened_for
use Rattle.profile_machine.specs.declared.world.tasks.Task as world
use Rattle.profile_machine.specs.declared.world.tasks.Cause.TheVariants as inherited_by
use Rattle.profile_image.specs.Words.{same_region, is_the}
use Rattle.profile_machine.specs.Inheritance.{inherit}
use Rattle.profile_image.specs.Program.{declaration_of, next_of, scope_of, task_unit_of}
use Rattle.profile_machine.specs.declared.world.lines.Part.{Part}
use Rattle.profile_machine.specs.declared.world.lines.Part.TheVariants.{Own, OfOther, TheBlock}
use Rattle.profile_machine.specs.Steps.{Step, changes, looks, for_some, ◌▷◌, for_each, says, when, nothing}
use Rattle.profile_machine.specs.Frames.{has_room, pass_on, in_protected, is_deferred, edit_top, goes_on, goes, top_of, pop}
use Rattle.profile_machine.specs.Scopes.{home, open_scope, plainly, end_scope, cells_of, scope_in_use}
use Rattle.profile_machine.specs.Controlled.{next_to_finalize, finalize, top_region, edit_top_scope}
use Rattle.profile_machine.specs.Declarations.{set_thing}
use Rattle.profile_machine.specs.Tasking.{unit_of_declaration, optional_span, created_task, add_task, says_created, create_task, create, fall_from}
use Rattle.profile_machine.specs.Tasking.{unit_of_task, begin_task, says_done, fail_to_begin, activate_one, await_group, activate_group, activate}
use Rattle.profile_machine.specs.Tasking.{end_own_activation, end_made, complete_if_task, wait_for_dependents, leave_region, end_environment}
use Rattle.profile_machine.specs.Tasking.{end_task, is_normal, end_body, behind_scope, says_left, end_of_scope, go_on_leaving, end_scope_mark_of}
use Rattle.profile_machine.specs.Tasking.{end_scope_mark, says_abort, abort_one, unwind_by, unwind_one, abort_all, abort_statement}
use Rattle.profile_machine.specs.Tasking.{block_at_terminate, take_terminates, unwind_all, no_failure, is_to_activate, top_region_of_scope}
use Rattle.profile_machine.specs.Tasking.{is_to_abort, left_by, abnormal_task, named_tasks, raises_behind, is_made_in, is_task_scope}
use Rattle.profile_machine.specs.Tasking.{is_environment, fails_by, group_fails, activated_task, leaves_as, being_left_mark, left_so_frame}
use Rattle.std.proofs.Common.{◌≡◌, refl, sym, ap, subst, ◌∙◌, cond}
use Rattle.std.proofs.lemmas.Bool.{and_parts}
use Rattle.profile_machine.specs.Values.{seen_by}
use Rattle.machine_laws.proofs.Moves.{StepRelation, MoveRelation, own}
use Rattle.world_laws.proofs.Marks.MarkFacts.{Ends, Drawn, Unarmed, is_own_scope}
use Rattle.world_laws.proofs.Marks.TriggerLemmas.{made-unarmed, own_scope-unarmed}
use Rattle.profile_machine.specs.Unwinding.{strike_outermost}
use Rattle.profile_machine.specs.Tasks.{is_made}
use Rattle.profile_machine.specs.declared.world.lines.Said.{Said}
use Rattle.world_laws.proofs.Marks.TaskFacts.{KnownAbnormal, becomes-known, all-both, all-filter, all-kept, all-map}
use Rattle.world_laws.proofs.Marks.FineMoves.{FineMoves, Openings, chains, says-keeps}
use Rattle.world_laws.proofs.Marks.Kept.Combinators.{for_each_known-from, changes_told_then-from, then_known-from}
use Rattle.world_laws.proofs.Marks.Kept.Frames.{goes-keeps, popped, plain_steps}
use Rattle.world_laws.proofs.Marks.Kept.Tasks.{edit_task-alters}
use Rattle.world_laws.proofs.Marks.Kept.Dispatching.{to_head-keeps, ready-keeps, says_block-keeps, block-keeps}
use Rattle.world_laws.proofs.Marks.Kept.Scopes.{end_scope-alters}
use Rattle.world_laws.proofs.Marks.Kept.Inheritance.{inherit-alters}
use Rattle.world_laws.proofs.Marks.Kept.Unwinding.{unwind-keeps}
use Rattle.world_laws.proofs.Marks.Kept.Masters.{end_activation-keeps, complete-keeps, terminate-from, leave_by_terminate-keeps}
use Rattle.world_laws.proofs.Marks.Kept.Controlled.{finalize-from}
use Rattle.world_laws.proofs.Queues.Listed.{AllTasks}
use Rattle.ann_base.specs.declared.identities.TaskNo.{TaskNo}
use Rattle.profile_machine.specs.declared.world.marks.Frame.{Frame}
use Rattle.profile_machine.specs.declared.world.marks.Mark.TheVariants.{Scope}
use Rattle.profile_machine.specs.declared.world.appointments.Registered.{Registered}
use Rattle.profile_machine.specs.Tasks.{edit_task, task_of, waiting_of}
use Rattle.profile_machine.specs.Dispatching.{active_of, ready}
use Rattle.profile_machine.specs.Unwinding.{any_struck}
use Rattle.profile_machine.specs.Masters.{region_of_mark, has_dependents, terminate, end_activation, may_terminate, leave_by_terminate, has_activating}
use Rattle.machine_laws.proofs.FineMoves.{EachIs, GoodWorld, Naming, first_is_false}
use Rattle.machine_laws.proofs.Kept.Tasking.{same_region_in, no_region}
use Rattle.machine_laws.proofs.Kept.Combinators.{Alters, From, Keeps, branch-keeps, changes-from, changes-keeps, changes_then-from, changes_told-from}
use Rattle.machine_laws.proofs.Kept.Combinators.{either-from, for_each_task-keeps, for_some-keeps, keeps-from, listed-keeps, looks-from, looks-keeps}
use Rattle.machine_laws.proofs.Kept.Combinators.{looks_at-from, nothing-keeps, sees-keeps, some_of-others, then-from, then-keeps, when-keeps, when-keeps-if}
use Rattle.machine_laws.proofs.Plain.Frames.{raise_if-from, given-from, raises-keeps, pass_on-keeps, given-keeps, raise_if-keeps}
use Rattle.machine_laws.proofs.Plain.Subprograms.{end_subprogram-keeps}
use Rattle.machine_laws.proofs.Plain.Results.{end_body_of_entry-keeps}
use Rattle.machine_laws.proofs.Plain.Declarations.{set_thing-alters}
use Rattle.machine_laws.proofs.Plain.PlainSteps.{anybody}

-- of those that are made, for none a trigger is appointed
made_of-unarmed : (w : World) (test : world.Task → Bool) → ((t : world.Task) → test t ≡ true → is_made t ≡ true)
    → AllTasks (λ t. is_made t ≡ true → Unarmed t.who w) w.tasks → AllTasks (λ t. Unarmed t.who w) (filter test w.tasks)
made_of-unarmed w test made none =
    all-map (λ t. (test t ≡ true) × (is_made t ≡ true → Unarmed t.who w)) (λ t. Unarmed t.who w) (filter test w.tasks) (λ t h. h.1 (made t h.0))
    (all-kept (λ t. is_made t ≡ true → Unarmed t.who w) test w.tasks none)

module _ {G : GoodWorld} {May Other : Naming} {R : StepRelation} {Q : MoveRelation} (moves : FineMoves G May Other R Q) where
  says_created-keeps : (d : DeclNo) (t : world.Task) → Keeps G R (says_created d t)
  unfolding says_created
  says_created-keeps d t =
      looks-keeps (chains moves) _ (λ w. says-keeps moves Own (line.New (created.Task (record { 0 = w.drawn.tasks - 1 })) (Some d) t.base) refl)

  -- the object's cell gets the task's number
  abbrev name_task : Image → DeclNo → ScopeId → Step
  name_task p d within = looks (λ w. changes (set_thing p (record { within = within; declared = d }) (value_of.Task (Some (record { 0 = w.drawn.tasks - 1 })))))

  -- a step behind the new task
  added_then-from : (name : Who) (onward : Option StatementNo) (t : world.Task) (g : Step) (w : World) → R w [] (add_task t (edit_top name (goes_on onward) w))
      → Keeps G R g → From R w (goes name onward ▷ changes (add_task t) ▷ g)
  unfolding goes From
  added_then-from name onward t g w a kept said =
      let added = add_task t (edit_top name (goes_on onward) w) in
      changes_then-from (chains moves) (λ v. added) g w a (keeps-from (chains moves) g added (moves.behind w added a) kept) said

  create_task-from : (p : Image) (name : Who) (s : StatementNo) (d : DeclNo) (id : Option ScopeId) (t : world.Task) (w : World) → G w → Other name
      → t.who ≡ who.Task (record { 0 = w.drawn.tasks }) → t.frames ≡ [] → t.master ≡ Some (top_region w name) → From R w (create_task p name s d id t)
  unfolding create_task
  create_task-from p name s d id t w good other same_who none master =
      added_then-from name (next_of p s) t (for_some id (name_task p d) ▷ says_created d t) w
      (moves.adds_task name (next_of p s) t w good other same_who none master)
      (search (then-keeps, for_some-keeps, looks-keeps, changes-keeps, set_thing-alters, says_created-keeps, chains, plain_steps) depth 10)

  pub fall_from-keeps : (p : Image) (name : Who) (before : World) → May name → Keeps G R (fall_from p name before)
  unfolding fall_from
  fall_from-keeps p name before may = search (looks-keeps, when-keeps, to_head-keeps, chains)

  pub says_done-keeps : (part : Part) (name : Who) → Keeps G R (says_done part name)
  unfolding says_done
  says_done-keeps part (who.Task t) = search (says-keeps)
  says_done-keeps part who.Agent = search (nothing-keeps, chains)

  -- for whom no trigger is appointed, none is
  unarmed : (name : Who) (a b : World) (xs : List Said) → R a xs b → Unarmed name a → Unarmed name b
  unarmed name a b xs r none = moves.still_unarmed name a b r none

  -- a step, and the end of a task behind it
  then_terminates-from : (p : Image) (actor name : Who) (f : Step) (w : World) → G w → Unarmed name w → Keeps G R f → From R w (f ▷ terminate p actor name)
  then_terminates-from p actor name f w good none kept =
      then_known-from moves (Unarmed name) (unarmed name) f (terminate p actor name) w none (keeps-from (chains moves) f w good kept)
      (λ v good_v none_v. terminate-from moves p actor name v good_v none_v)

  pub fail_to_begin-from : (p : Image) (activator : Who) (t : world.Task) (w : World) → G w → Unarmed t.who w → From R w (fail_to_begin p activator t)
  unfolding fail_to_begin
  fail_to_begin-from p activator t w good none =
      then_known-from moves (Unarmed t.who) (unarmed t.who) (says (OfOther t.who) (line.Raise t.who exception.Storage)) _ w none
      (keeps-from (chains moves) _ w good (says-keeps moves (OfOther t.who) (line.Raise t.who exception.Storage) refl))
      (λ v good_v none_v. then_known-from moves (Unarmed t.who) (unarmed t.who) (says_done (OfOther t.who) t.who) _ v none_v
      (keeps-from (chains moves) _ v good_v (says_done-keeps (OfOther t.who) t.who))
      (λ u good_u none_u. then_terminates-from p activator t.who (changes (edit_task activator group_fails)) u good_u none_u
      (search (changes-keeps, edit_task-alters, chains))))

  pub await_group-keeps : (name : Who) (begins failed : Bool) → Other name → Keeps G R (await_group name begins failed)
  unfolding await_group
  await_group-keeps name true failed other = search (block-keeps)
  await_group-keeps name false true other = search (raises-keeps, plain_steps)
  await_group-keeps name false false other = search (nothing-keeps, chains)

  pub end_own_activation-keeps : (p : Image) (name : Who) (s : StatementNo) → May name → Keeps G R (end_own_activation p name s)
  unfolding end_own_activation
  end_own_activation-keeps p name s may = search (looks-keeps, goes-keeps, then-keeps, end_activation-keeps, fall_from-keeps, chains)

  pub end_made-from : (p : Image) (actor : Who) (t : world.Task) (w : World) → G w → Unarmed t.who w → From R w (end_made p actor t)
  unfolding end_made
  end_made-from p actor t w good none = then_terminates-from p actor t.who (says_done (OfOther t.who) t.who) w good none (says_done-keeps (OfOther t.who) t.who)

  -- those that were made in a region
  all_made-keeps : (p : Image) (name : Who) (r : RegionNo) → Keeps G R (looks (λ v. for_each (filter (is_made_in r) v.tasks) (end_made p name)))
  all_made-keeps p name r =
      looks-from (chains moves) _
      (λ w good. for_each_known-from moves (λ t v. Unarmed t.who v) (λ t. unarmed t.who) (end_made p name)
      (λ t v good_v none. end_made-from p name t v good_v none) (filter (is_made_in r) w.tasks) w good
      (made_of-unarmed w (is_made_in r) (λ t is. (and_parts (is_made t) (is_the same_region t.master r) is).0) (made-unarmed w (moves.facts w good))))

  pub complete_if_task-keeps : (p : Image) (name : Who) (purpose : Purpose) → May name → Keeps G R (complete_if_task p name purpose)
  unfolding complete_if_task
  complete_if_task-keeps p name purpose may = search (looks-keeps, when-keeps, complete-keeps, then-keeps, fall_from-keeps, chains)

  end_environment-alters : (leaving : Leaving) → Alters G R (end_environment leaving)
  unfolding Alters
  end_environment-alters leaving w good = moves.ends_environment leaving w good

  pub end_task-from : (p : Image) (name : Who) (leaving : Leaving) (w : World) → G w → Unarmed name w → From R w (end_task p name leaving)
  unfolding end_task
  end_task-from p name leaving w good none =
      then_known-from moves (Unarmed name) (unarmed name) (says_done Own name) _ w none (keeps-from (chains moves) _ w good (says_done-keeps Own name))
      (λ v good_v none_v. then_known-from moves (Unarmed name) (unarmed name) (looks (λ x. end_activation p name name (fails_by x name leaving))) _ v none_v
      (keeps-from (chains moves) _ v good_v (search (looks-keeps, end_activation-keeps, chains)))
      (λ u good_u none_u. then-from (chains moves) (terminate p name name) (when (is_environment name) (changes (end_environment leaving))) u
      (terminate-from moves p name name u good_u none_u)
      (search (when-keeps, changes-keeps, end_environment-alters, chains))))

  pub end_body-keeps : (p : Image) (name : Who) (leaving : Leaving) (normally : Step) → Keeps G R normally → Keeps G R (end_body p name leaving normally)
  end_body-keeps p name leaving normally kept =
      branch-keeps (chains moves) (is_normal leaving) normally (pass_on p name leaving) (search) (search (pass_on-keeps, plain_steps, anybody))

  -- behind a task's own scope no trigger is appointed for it
  abbrev Ended : Who → Purpose → World → Type 0
  Ended name purpose w = is_task_scope purpose ≡ true → Unarmed name w

  still_ended : (name : Who) (purpose : Purpose) (a b : World) (xs : List Said) → R a xs b → Ended name purpose a → Ended name purpose b
  still_ended name purpose a b xs r none own = moves.still_unarmed name a b r (none own)

  pub behind_scope-from : (p : Image) (name : Who) (purpose : Purpose) (cells : List Value) (leaving : Leaving) (w : World) → G w
      → (is_task_scope purpose ≡ true → Unarmed name w) → From R w (behind_scope p name purpose cells leaving)
  unfolding behind_scope
  behind_scope-from p name (opened_for.Block s) cells leaving w good none = keeps-from (chains moves) _ w good (search (pass_on-keeps, plain_steps, anybody))
  behind_scope-from p name (opened_for.Subprogram back to) cells leaving w good none =
      keeps-from (chains moves) _ w good (search (end_body-keeps, end_subprogram-keeps, plain_steps))
  behind_scope-from p name (opened_for.EntryBody c) cells leaving w good none =
      keeps-from (chains moves) _ w good (search (end_body-keeps, end_body_of_entry-keeps, plain_steps))
  behind_scope-from p name opened_for.Task cells leaving w good none = end_task-from p name leaving w good (none refl)

  -- Program_Error, where a Finalize raised
  raised_behind-keeps : (name : Who) (test : Bool) → Keeps G R (when test (says Own (line.Raise name exception.Program)))
  raised_behind-keeps name test = search (when-keeps, says-keeps, chains)

  -- the scope is no longer there
  ended : (name : Who) (id : ScopeId) (r : RegionNo) (w : World) → R w (own (line.Left name r) ∷ []) (pop name w)
      → R w (own (line.Left name r) ∷ []) (end_scope id (pop name w))
  unfolding Alters
  ended name id r w first =
      moves.goes_on w (pop name w) (end_scope id (pop name w)) {xs = own (line.Left name r) ∷ []} {ys = []} first
      (end_scope-alters moves id (pop name w) (moves.behind w (pop name w) first))

  -- a scope's mark ends, with what tells it where it had a region; a step behind it may need what stays so
  module _ (X : World → Type 0) (still : (a b : World) (xs : List Said) → R a xs b → X a → X b) where
    left-from : (name : Who) (id : ScopeId) (region : Option RegionNo) (raised : Bool) (g : Step) (w : World) → X w → R w [] (pop name w)
        → ((r : RegionNo) → region ≡ Some r → R w (own (line.Left name r) ∷ []) (pop name w)) → ((v : World) → G v → X v → From R v g)
        → From R w (changes (pop name) ▷ changes (end_scope id)
        ▷ (for_some region (λ r. says Own (line.Left name r)) ▷ when raised (says Own (line.Raise name exception.Program))) ▷ g)
    left-from name id None raised g w x out told next =
        changes_then-from (chains moves) (pop name) _ w out
        (then_known-from moves X still (changes (end_scope id)) _ (pop name w) (still w (pop name w) [] out x)
        (keeps-from (chains moves) _ (pop name w) (moves.behind w (pop name w) out) (search (changes-keeps, end_scope-alters, chains)))
        (λ v good_v x_v. then_known-from moves X still (nothing ▷ when raised (says Own (line.Raise name exception.Program))) g v x_v
        (keeps-from (chains moves) _ v good_v (then-keeps (chains moves) nothing _ (nothing-keeps (chains moves)) (raised_behind-keeps name raised))) next))
    left-from name id (Some r) raised g w x out told next =
        let v = end_scope id (pop name w) in
        let first = ended name id r w (told r refl) in
        changes_told_then-from moves (pop name) (end_scope id) Own (line.Left name r) (when raised (says Own (line.Raise name exception.Program)) ▷ g) w first
        (then_known-from moves X still (when raised (says Own (line.Raise name exception.Program))) g v (still w v (own (line.Left name r) ∷ []) first x)
        (keeps-from (chains moves) _ v (moves.behind w v first) (raised_behind-keeps name raised)) next)

  pub end_of_scope-from : (p : Image) (name : Who) (m : ScopeMark) (leaving : Leaving) (f : Frame) (w : World) → G w → top_of w name ≡ Some f → f.mark ≡ Scope m
      → R w [] (pop name w) → ((r : RegionNo) → m.region ≡ Some r → R w (own (line.Left name r) ∷ []) (pop name w)) → From R w (end_of_scope p name m leaving)
  unfolding end_of_scope says_left
  end_of_scope-from p name m leaving f w good top is out told =
      looks_at-from (chains moves)
      (λ v. changes (pop name) ▷ changes (end_scope m.within) ▷ says_left name m leaving
      ▷ behind_scope p name m.purpose (cells_of (scope_in_use v m.within)) (left_by m leaving)) w
      (left-from (Ended name m.purpose) (still_ended name m.purpose) name m.within m.region (raises_behind m leaving)
      (behind_scope p name m.purpose (cells_of (scope_in_use w m.within)) (left_by m leaving)) w
      (λ own. own_scope-unarmed w (moves.facts w good) name f top (ap is_own_scope is ∙ own)) out told
      (λ v good_v none. behind_scope-from p name m.purpose (cells_of (scope_in_use w m.within)) (left_by m leaving) v good_v none))

  pub says_abort-keeps : (actor name : Who) → Keeps G R (says_abort actor name)
  unfolding says_abort
  says_abort-keeps (who.Task actor) (who.Task t) = search (says-keeps)
  says_abort-keeps (who.Task actor) who.Agent = search (nothing-keeps, chains)
  says_abort-keeps who.Agent t = search (nothing-keeps, chains)

  still_known : (t : world.Task) (a b : World) (xs : List Said) → R a xs b → KnownAbnormal a t → KnownAbnormal b t
  still_known t a b xs r k = record { number = k.number; named = k.named; marked = moves.still_marked k.number a b r k.marked }

  still_each_drawn : (ts : List world.Task) (a b : World) {xs : List Said} → R a xs b → AllTasks (λ t. Drawn a t.who) ts → AllTasks (λ t. Drawn b t.who) ts
  still_each_drawn [] a b r k = tt
  still_each_drawn (t ∷ ts) a b r k = (moves.still_drawn t.who a b r k.0, still_each_drawn ts a b r k.1)

  -- one that is abnormal, and for which no trigger is appointed if it was only made
  abbrev Aborted : world.Task → World → Type 0
  Aborted t w = KnownAbnormal w t × (is_made t ≡ true → Unarmed t.who w)

  still_aborted : (t : world.Task) (a b : World) (xs : List Said) → R a xs b → Aborted t a → Aborted t b
  still_aborted t a b xs r k = (still_known t a b xs r k.0, λ made. moves.still_unarmed t.who a b r (k.1 made))

  struck-from : (p : Image) (actor : Who) (t : world.Task) (made : Bool) (w : World) → G w → KnownAbnormal w t → (made ≡ true → Unarmed t.who w)
      → From R w (cond made (end_made p actor t) (changes (strike_outermost t.who)))
  struck-from p actor t true w good known none = end_made-from p actor t w good (none refl)
  struck-from p actor t false w good known none =
      subst (λ name. From R w (changes (strike_outermost name))) (sym known.named)
      (changes-from (chains moves) (strike_outermost (who.Task known.number)) w (moves.strikes known.number w good known.marked))

  -- a task that is abnormal, as long as it is there, is struck
  abort_one-from : (p : Image) (actor : Who) (t : world.Task) (w : World) → G w → Aborted t w → From R w (abort_one p actor t)
  unfolding abort_one
  abort_one-from p actor t w good known =
      then_known-from moves (Aborted t) (still_aborted t) (says_abort actor t.who)
      (cond (is_made t) (end_made p actor t) (changes (strike_outermost t.who))) w known
      (keeps-from (chains moves) (says_abort actor t.who) w good (says_abort-keeps actor t.who))
      (λ v good_v k. struck-from p actor t (is_made t) v good_v k.0 k.1)

  abort_each-from : (p : Image) (actor : Who) (ts : List world.Task) (w : World) → G w → AllTasks (λ t. Aborted t w) ts
      → From R w (for_each ts (abort_one p actor))
  abort_each-from p actor ts w good known =
      for_each_known-from moves Aborted still_aborted (abort_one p actor) (λ t v good_v k. abort_one-from p actor t v good_v k) ts w good known

  abbrev MadeUnarmed : World → world.Task → Type 0
  MadeUnarmed w t = is_made t ≡ true → Unarmed t.who w

  still_made : (ts : List world.Task) (a b : World) (xs : List Said) → R a xs b → AllTasks (MadeUnarmed a) ts → AllTasks (MadeUnarmed b) ts
  still_made ts a b xs r k = all-map (MadeUnarmed a) (MadeUnarmed b) ts (λ t none made. moves.still_unarmed t.who a b r (none made)) k

  -- first all of them become abnormal
  all_abnormal-from : (X : World → Type 0) → ((a b : World) (xs : List Said) → R a xs b → X a → X b) → (ts : List world.Task) (g : Step) (w : World) → G w → X w
      → AllTasks (λ t. Drawn w t.who) ts
      → ((v : World) → G v → X v → AllTasks (KnownAbnormal v) ts → From R v g) → From R w (for_each ts (λ t. changes (edit_task t.who abnormal_task)) ▷ g)
  unfolding From
  all_abnormal-from X still [] g w good x drawn next said = next w good x tt said
  all_abnormal-from X still (t ∷ ts) g w good x drawn next said =
      let v = edit_task t.who abnormal_task w in
      let edits = moves.aborts t.who w good in
      changes_then-from (chains moves) (edit_task t.who abnormal_task) (for_each ts (λ u. changes (edit_task u.who abnormal_task)) ▷ g) w edits
      (all_abnormal-from (λ u. X u × KnownAbnormal u t) (λ a b xs r k. (still a b xs r k.0, still_known t a b xs r k.1)) ts g v (moves.behind w v edits)
      (still w v [] edits x, becomes-known t w drawn.0) (still_each_drawn ts w v edits drawn.1)
      (λ u good_u k known. next u good_u k.0 (k.1, known))) said

  unwind_by-keeps : (p : Image) (name : Who) (acts : Bool) → Other name → Keeps G R (unwind_by p name acts)
  unfolding unwind_by
  unwind_by-keeps p name false other = search (unwind-keeps)
  unwind_by-keeps p name true other = search (looks-keeps, when-keeps, unwind-keeps, chains)

  pub unwind_one-keeps : (p : Image) (actor : Who) (t : world.Task) → Other t.who → Keeps G R (unwind_one p actor t)
  unfolding unwind_one
  unwind_one-keeps p actor t other = search (unwind_by-keeps)

  abort_all-from : (p : Image) (actor : Who) (tasks : List world.Task) (w : World) → G w → EachIs Other tasks → AllTasks (λ t. Drawn w t.who) tasks
      → AllTasks (λ t. is_made t ≡ true → Unarmed t.who w) tasks → From R w (abort_all p actor tasks)
  unfolding abort_all
  abort_all-from p actor tasks w good others drawn made =
      all_abnormal-from (λ v. AllTasks (MadeUnarmed v) tasks) (still_made tasks) tasks
      (for_each tasks (abort_one p actor) ▷ for_each tasks (unwind_one p actor)) w good made drawn
      (λ v good_v x known. then-from (chains moves) (for_each tasks (abort_one p actor)) (for_each tasks (unwind_one p actor)) v
      (abort_each-from p actor tasks v good_v (all-both (KnownAbnormal v) (MadeUnarmed v) (λ t. Aborted t v) tasks (λ t k none. (k, none)) known x))
      (for_each_task-keeps (chains moves) Other tasks (unwind_one p actor) others (λ t other. unwind_one-keeps p actor t other)))

  abort_named-keeps : (p : Image) (name : Who) (aborted : List TaskNo) → Keeps G R (looks (λ w. abort_all p name (filter (is_to_abort w aborted) w.tasks)))
  abort_named-keeps p name aborted =
      looks-from (chains moves) _
      (λ w good.
      abort_all-from p name (filter (is_to_abort w aborted) w.tasks) w good (some_of-others Other (is_to_abort w aborted) w.tasks (moves.listed w good))
      (all-filter (λ t. Drawn w t.who) (is_to_abort w aborted) w.tasks (moves.facts w good).numbers)
      (all-filter (MadeUnarmed w) (is_to_abort w aborted) w.tasks (made-unarmed w (moves.facts w good))))

  pub abort_statement-keeps : (p : Image) (name : Who) (s : StatementNo) (tasks : List DeclNo) → Keeps G R (abort_statement p name s tasks)
  unfolding abort_statement
  abort_statement-keeps p name s tasks =
      sees-keeps (chains moves) p name _
      (λ q. raise_if-keeps (plain_steps moves) name (in_protected q.world name) exception.Program _
      (given-keeps (plain_steps moves) Own name (named_tasks q tasks) _ (λ aborted.
      then-keeps (chains moves) (goes name (next_of p s)) _ (goes-keeps moves name (next_of p s)) (abort_named-keeps p name aborted))))

  pub block_at_terminate-keeps : (name : Who) (waiting : Option Waiting) → Other name → Keeps G R (block_at_terminate name waiting)
  unfolding block_at_terminate
  block_at_terminate-keeps name None other = search (nothing-keeps, chains)
  block_at_terminate-keeps name (Some waiting) other = search (when-keeps, says_block-keeps, chains)

  pub all_terminate-keeps : (p : Image) (actor : Who) → Keeps G R (looks (λ w. for_each (filter (may_terminate w) w.tasks) (leave_by_terminate p actor)))
  all_terminate-keeps p actor =
      listed-keeps (chains moves) Other moves.listed may_terminate (λ w. leave_by_terminate p actor)
      (λ w t other. leave_by_terminate-keeps moves p actor t other)

  pub take_terminates-keeps : (p : Image) (actor : Who) → Other actor → Keeps G R (take_terminates p actor)
  unfolding take_terminates
  take_terminates-keeps p actor other =
      then-keeps (chains moves) _ (looks (λ w. block_at_terminate actor (waiting_of w actor))) (all_terminate-keeps p actor)
      (search (looks-keeps, block_at_terminate-keeps, chains))

  pub unwind_all-keeps : (p : Image) (actor : Who) → Keeps G R (unwind_all p actor)
  unfolding unwind_all
  unwind_all-keeps p actor =
      listed-keeps (chains moves) Other moves.listed (λ w t. any_struck t.frames) (λ w. unwind_one p actor) (λ w t other. unwind_one-keeps p actor t other)

module _ {G : GoodWorld} {May Other : Naming} {Owns : Who → RegionNo → Type 0} {R : StepRelation} {Q : MoveRelation} (moves : FineMoves G May Other R Q)
    (openings : Openings G May Other Owns R) where
  pub create-keeps : (p : Image) (name : Who) (s : StatementNo) (d : DeclNo) (part : ℕ) → May name → Keeps G R (create p name s d part)
  unfolding create
  create-keeps p name s d part may =
      looks-from (chains moves) _ (λ w good. let q = seen_by p w name in
      raise_if-from (plain_steps moves) name (in_protected w name || is_deferred w name) exception.Program _ w good (λ allowed.
      raise_if-from (plain_steps moves) name (leb 256 (length w.tasks)) exception.Storage _ w good (λ few.
      given-from (plain_steps moves) Own name (optional_span q (task_unit_of p (unit_of_declaration p d)).relative_deadline) _ w good (λ span.
      create_task-from moves p name s d (home w (declaration_of p d).scope q.within) (created_task q d (unit_of_declaration p d) part span w.drawn.tasks) w good
      (openings.outside name w good may (first_is_false (in_protected w name) (is_deferred w name) allowed)) refl refl refl))))

  pub begin_task-from : (p : Image) (activator : Who) (level : ℕ) (t : world.Task) (w : World) → G w → Other t.who → Unarmed t.who w
      → From R w (begin_task p activator level t)
  unfolding begin_task
  begin_task-from p activator level t w good other none =
      let opened = open_scope p t.who (unit_of_task p t).scope (plainly t.outer) opened_for.Task in
      let opens = openings.opens_own_scope p t.who (unit_of_task p t).scope (plainly t.outer) w good none in
      looks_at-from (chains moves)
      (λ v. changes opened ▷ changes (edit_task t.who (activated_task activator v.time)) ▷ changes (inherit t.who inherited_by.Activation level)
      ▷ ready p (OfOther t.who) t.who) w
      (changes_then-from (chains moves) opened _ w opens
      (keeps-from (chains moves)
      (changes (edit_task t.who (activated_task activator w.time)) ▷ changes (inherit t.who inherited_by.Activation level) ▷ ready p (OfOther t.who) t.who)
      (opened w) (moves.behind w (opened w) opens)
      (search (changes-keeps, then-keeps, edit_task-alters, inherit-alters, ready-keeps, chains) depth 9)))

  -- one of the group, which is only made
  pub activate_one-from : (p : Image) (activator : Who) (level : ℕ) (t : world.Task) (w : World) → G w → Other t.who → Unarmed t.who w
      → From R w (activate_one p activator level t)
  unfolding activate_one
  activate_one-from p activator level t w good other none =
      looks_at-from (chains moves)
      (λ v. elim (has_room v t.who 1 (scope_of p (unit_of_task p t).scope).size) as (λ _. Step) [
        | true ↦ begin_task p activator level t
        | false ↦ fail_to_begin p activator t
      ]) w
      (either-from (chains moves) (has_room w t.who 1 (scope_of p (unit_of_task p t).scope).size) (begin_task p activator level t)
      (fail_to_begin p activator t) w (begin_task-from p activator level t w good other none) (fail_to_begin-from moves p activator t w good none))

  abbrev Waiting_for : world.Task → World → Type 0
  Waiting_for t w = Other t.who × Unarmed t.who w

  still_waiting : (t : world.Task) (a b : World) (xs : List Said) → R a xs b → Waiting_for t a → Waiting_for t b
  still_waiting t a b xs r k = (k.0, moves.still_unarmed t.who a b r k.1)

  waiting_each : (w : World) (ts : List world.Task) → EachIs Other ts → AllTasks (λ t. Unarmed t.who w) ts → AllTasks (λ t. Waiting_for t w) ts
  waiting_each w [] others none = tt
  waiting_each w (t ∷ ts) others none = ((others.0, none.0), waiting_each w ts others.1 none.1)

  still_group : (ts : List world.Task) (a b : World) (xs : List Said) → R a xs b → AllTasks (λ t. Waiting_for t a) ts → AllTasks (λ t. Waiting_for t b) ts
  still_group ts a b xs r k = all-map (λ t. Waiting_for t a) (λ t. Waiting_for t b) ts (λ t h. still_waiting t a b xs r h) k

  -- the tasks of the group, in order
  begin_group-keeps : (p : Image) (name : Who) (s : StatementNo) (part : ℕ)
      → Keeps G R (looks
      (λ w. goes name (next_of p s) ▷ changes (edit_task name no_failure)
      ▷ for_each (filter (is_to_activate (top_region_of_scope w name) part) w.tasks) (activate_one p name (active_of p w name))))
  begin_group-keeps p name s part =
      looks-from (chains moves) _ (λ w good.
      let test = is_to_activate (top_region_of_scope w name) part in
      let ts = filter test w.tasks in
      let group =
      waiting_each w ts (some_of-others Other test w.tasks (moves.listed w good))
      (made_of-unarmed w test
      (λ t is. (and_parts (is_made t) (is_the same_region t.master (top_region_of_scope w name))
      ((and_parts (is_made t && is_the same_region t.master (top_region_of_scope w name)) (eqb t.declarative_part part) is).0)).0)
      (made-unarmed w (moves.facts w good))) in
      then_known-from moves (λ v. AllTasks (λ t. Waiting_for t v) ts) (still_group ts) (goes name (next_of p s)) _ w group
      (keeps-from (chains moves) _ w good (search (goes-keeps)))
      (λ v good_v group_v. then_known-from moves (λ u. AllTasks (λ t. Waiting_for t u) ts) (still_group ts) (changes (edit_task name no_failure)) _ v group_v
      (keeps-from (chains moves) _ v good_v (search (changes-keeps, edit_task-alters, chains)))
      (λ u good_u group_u. for_each_known-from moves Waiting_for still_waiting (activate_one p name (active_of p w name))
      (λ t x good_x k. activate_one-from p name (active_of p w name) t x good_x k.0 k.1) ts u good_u group_u)))

  activate_group-keeps : (p : Image) (name : Who) (s : StatementNo) (part : ℕ) → Other name → Keeps G R (activate_group p name s part)
  unfolding activate_group
  activate_group-keeps p name s part other =
      then-keeps (chains moves) _ (looks (λ w. await_group name (has_activating w name) (task_of w name).group_failed)) (begin_group-keeps p name s part)
      (search (looks-keeps, await_group-keeps, chains))

  pub activate-keeps : (p : Image) (name : Who) (s : StatementNo) (part : ℕ) → May name → Keeps G R (activate p name s part)
  unfolding activate
  activate-keeps p name s part may =
      looks-from (chains moves) _ (λ w good. raise_if-from (plain_steps moves) name (in_protected w name || is_deferred w name) exception.Program _ w good
      (λ allowed. keeps-from (chains moves) _ w good
      (activate_group-keeps p name s part (openings.outside name w good may (first_is_false (in_protected w name) (is_deferred w name) allowed)))))

  pub wait_for_dependents-keeps : (name : Who) (r : RegionNo) → May name → Owns name r → Keeps G R (wait_for_dependents name r)
  unfolding wait_for_dependents
  wait_for_dependents-keeps name r may owns =
      looks-from (chains moves) _ (λ w good. keeps-from (chains moves) _ w good
      (when-keeps-if (chains moves) (has_dependents w r) _
      (λ is. block-keeps moves TheBlock name (waits_for.Dependents r) (openings.awaits_dependents name r w good may owns is) refl)))

  pub leave_region-from : (p : Image) (name : Who) (f : Frame) (m : ScopeMark) (leaving : Leaving) (r : RegionNo) (w : World) → G w → May name
      → top_of w name ≡ Some f → f.mark ≡ Scope m → m.region ≡ Some r → m.being_left ≡ false → Owns name r → From R w (leave_region p name m leaving r)
  unfolding leave_region
  leave_region-from p name f m leaving r w good may top is region left owns =
      changes_told-from (chains moves) (edit_top_scope name being_left_mark) (edit_top name (left_so_frame leaving)) Own (line.Leave name r (leaves_as leaving))
      (looks (λ v. for_each (filter (is_made_in r) v.tasks) (end_made p name)) ▷ complete_if_task p name m.purpose ▷ wait_for_dependents name r) w
      (moves.begins_leaving name f m r leaving w good may top is region left)
      (then-keeps (chains moves) _ _ (all_made-keeps moves p name r) (search (then-keeps, complete_if_task-keeps, wait_for_dependents-keeps, chains) depth 9))

  -- an object of the region is finalized, or the scope has ended
  next_finalized-from : (p : Image) (name : Who) (f : Frame) (m : ScopeMark) (leaving : Leaving) (r : RegionNo) (found : Option Registered) (w : World) → G w
      → May name → top_of w name ≡ Some f → f.mark ≡ Scope m → m.region ≡ Some r → m.being_left ≡ true → next_to_finalize w r ≡ found → Ends name f w
      → From R w (elim found as (λ _. Step) [ None ↦ end_of_scope p name m leaving | Some x ↦ finalize p name x ])
  next_finalized-from p name f m leaving r None w good may top is region left next ends =
      end_of_scope-from moves p name m leaving f w good top is (popped moves name f w good may top ends)
      (λ q region_is.
      moves.has_left name f m q w good may top is region_is left (ap (next_to_finalize w) (same_region_in r q m.region region region_is) ∙ next) ends)
  next_finalized-from p name f m leaving r (Some x) w good may top is region left next ends =
      finalize-from moves openings p name f m r x w good may top is region left next

  pub go_on_leaving-from : (p : Image) (name : Who) (f : Frame) (m : ScopeMark) (leaving : Leaving) (r : RegionNo) (test : Bool) (w : World) → G w → May name
      → top_of w name ≡ Some f → f.mark ≡ Scope m → m.region ≡ Some r → m.being_left ≡ test → Owns name r → Ends name f w
      → From R w (go_on_leaving p name m leaving r test)
  unfolding go_on_leaving
  go_on_leaving-from p name f m leaving r false w good may top is region left owns ends =
      leave_region-from p name f m leaving r w good may top is region left owns
  go_on_leaving-from p name f m leaving r true w good may top is region left owns ends =
      looks_at-from (chains moves) (λ v. elim (next_to_finalize v r) as (λ _. Step) [ None ↦ end_of_scope p name m leaving | Some x ↦ finalize p name x ]) w
      (next_finalized-from p name f m leaving r (next_to_finalize w r) w good may top is region left refl ends)

  pub end_scope_mark_of-from : (p : Image) (name : Who) (m : ScopeMark) (leaving : Leaving) (r : Option RegionNo) (f : Frame) (w : World) → G w → May name
      → top_of w name ≡ Some f → f.mark ≡ Scope m → m.region ≡ r → Ends name f w → From R w (end_scope_mark_of p name m leaving r)
  unfolding end_scope_mark_of
  end_scope_mark_of-from p name m leaving None f w good may top is region ends =
      end_of_scope-from moves p name m leaving f w good top is (popped moves name f w good may top ends) (λ q region_is. no_region q m.region region region_is)
  end_scope_mark_of-from p name m leaving (Some r) f w good may top is region ends =
      go_on_leaving-from p name f m leaving r m.being_left w good may top is region refl
      (openings.owned name f r w good may top (ap region_of_mark is ∙ region)) ends

  pub end_scope_mark-from : (p : Image) (name : Who) (m : ScopeMark) (leaving : Leaving) (f : Frame) (w : World) → G w → May name → top_of w name ≡ Some f
      → f.mark ≡ Scope m → Ends name f w → From R w (end_scope_mark p name m leaving)
  unfolding end_scope_mark
  end_scope_mark-from p name m leaving f w good may top is ends = end_scope_mark_of-from p name m leaving m.region f w good may top is refl ends
