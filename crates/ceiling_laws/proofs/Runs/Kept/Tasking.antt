-- Creation, activation, completion and abort: each step keeps what its parts keep.
use Rattle.ann_base.specs.declared.exceptions.Raised.TheVariants as exception
use Rattle.ann_base.specs.declared.identities.RegionNo.{RegionNo}
use Rattle.ceiling_laws.proofs.Runs.ActingMoves.{ActingMoves, Admitting, Either, IsNew, SelectMoves}
use Rattle.ceiling_laws.proofs.Fine.Kept.Controlled.{edit_top_scope-alters, finalize-keeps}
use Rattle.ceiling_laws.proofs.Fine.Kept.Frames.{edit_top-alters, given-keeps, given-through, goes-keeps, pass_on-keeps}
use Rattle.ceiling_laws.proofs.Fine.Kept.Frames.{pop-alters, raise_if-keeps, raise_if-through, raises-keeps, weakly}
use Rattle.ceiling_laws.proofs.Runs.Kept.Masters.{complete-keeps, end_activation-keeps, fits_part, leave_by_terminate-keeps, terminate-leads}
use Rattle.ceiling_laws.proofs.Fine.Kept.Scopes.{end_scope-alters, open_scope-alters}
use Rattle.ceiling_laws.proofs.Runs.Kept.Serving.{end_body_of_entry-keeps}
use Rattle.ceiling_laws.proofs.Fine.Kept.Subprograms.{end_subprogram-keeps}
use Rattle.ceiling_laws.proofs.Runs.Kept.Tasks.{edit_task-alters, plain-alters, says-keeps}
use Rattle.ceiling_laws.proofs.Fine.Kept.Unwinding.{strike_outermost-alters, unwind-keeps}
use Rattle.ceiling_laws.proofs.Runs.Kept.Waking.{each-both, filter-each, filter-tested, for_each_task-keeps}
use Rattle.ceiling_laws.proofs.Runs.LevelMoves.{BaseMoves, EachTask, Fitting, Silences, Sleeping}
use Rattle.ceiling_laws.proofs.Runs.Triples.{Alters, At, Keeps, Leads, State, branch-keeps, changes-keeps, for_each-keeps}
use Rattle.ceiling_laws.proofs.Runs.Triples.{for_some-keeps, from-leads, from_at, looks-keeps, looks-leads, looks-with, nothing-keeps}
use Rattle.ceiling_laws.proofs.Runs.Triples.{nothing-leads, sees-keeps, then-keeps, then-leads, to-leads, when-keeps, when-leads}
use Rattle.ceiling_laws.proofs.Runs.Finer.{fine, fine_base}
use Rattle.profile_machine.specs.Controlled.{finalize, next_to_finalize}
use Rattle.profile_machine.specs.Dispatching.{active_of, says_block}
use Rattle.profile_machine.specs.Frames.{goes, has_room, in_protected, is_deferred, pass_on, pop}
use Rattle.profile_machine.specs.Masters.{complete, end_activation, has_activating, has_dependents}
use Rattle.profile_machine.specs.Masters.{leave_by_terminate, may_terminate, part_of, terminate, waits_at_terminate}
use Rattle.profile_image.specs.Program.{declaration_of, next_of, scope_of, task_unit_of}
use Rattle.profile_machine.specs.Scopes.{cells_of, end_scope, home, plainly, scope_in_use}
use Rattle.profile_machine.specs.Serving.{end_body_of_entry}
use Rattle.profile_machine.specs.Steps.{Step, changes, for_each, looks, says, when}
use Rattle.profile_machine.specs.Subprograms.{end_subprogram}
use Rattle.profile_machine.specs.Tasking.{abnormal_task, abort_all, abort_one, abort_statement, activate, activate_group, activate_one, activated_task}
use Rattle.profile_machine.specs.Tasking.{await_group, begin_task, behind_scope, being_left_mark, block_at_terminate, complete_if_task, create, create_task}
use Rattle.profile_machine.specs.Tasking.{created_task, end_body, end_environment, end_made, end_of_scope, end_own_activation, end_scope_mark}
use Rattle.profile_machine.specs.Tasking.{end_scope_mark_of, end_task, fail_to_begin, fails_by, fall_from, go_on_leaving, group_fails, is_environment}
use Rattle.profile_machine.specs.Tasking.{is_made_in, is_normal, is_task_scope, is_to_abort, is_to_activate, leave_region, leaves_as, left_by, left_so_frame}
use Rattle.profile_machine.specs.Tasking.{named_tasks, no_failure, optional_span, raises_behind, says_abort, says_done, says_left, take_terminates}
use Rattle.profile_machine.specs.Tasking.{top_region_of_scope, unit_of_declaration, unit_of_task, unwind_all, unwind_by, unwind_one, wait_for_dependents}
use Rattle.profile_machine.specs.Tasks.{edit_task, is_made, is_runnable, task_of, waiting_of}
use Rattle.profile_machine.specs.Unwinding.{any_struck, strike_outermost}
use Rattle.profile_machine.specs.Values.{seen_by}
use Rattle.profile_image.specs.Words.{is_the, same_region, same_who}
use Rattle.profile_image.specs.declared.image.Image.{Image}
use Rattle.profile_image.specs.declared.numbers.DeclNo.{DeclNo}
use Rattle.profile_image.specs.declared.numbers.StatementNo.{StatementNo}
use Rattle.profile_machine.specs.declared.run_data.Leaving.{Leaving}
use Rattle.profile_image.specs.declared.values.Value.{Value}
use Rattle.profile_machine.specs.declared.world.World.{World}
use Rattle.profile_machine.specs.declared.world.appointments.Registered.{Registered}
use Rattle.profile_machine.specs.declared.world.lines.Line.TheVariants as line
use Rattle.profile_machine.specs.declared.world.lines.Part.TheVariants.{OfOther, Own, TheBlock}
use Rattle.profile_machine.specs.declared.world.lines.Said.{Said}
use Rattle.profile_machine.specs.declared.world.marks.Purpose.{Purpose}
use Rattle.profile_machine.specs.declared.world.marks.Purpose.TheVariants as opened_for
use Rattle.profile_machine.specs.declared.world.marks.ScopeMark.{ScopeMark}
use Rattle.profile_machine.specs.declared.world.scopes.ScopeId.{ScopeId}
use Rattle.profile_machine.specs.declared.world.tasks.Task as world
use Rattle.profile_machine.specs.declared.world.tasks.Waiting.{Waiting}
use Rattle.profile_machine.specs.declared.world.tasks.Waiting.TheVariants as waits_for
use Rattle.std.proofs.Common.{ap, inl, refl, subst, sym, ◌∙◌, ◌≡◌}
use Rattle.std.specs.Prelude.{Bool, List, None, Option, Some, cond, eqb, false, filter, leb, length, true, ℕ, ◌||◌}
use Rattle.std.proofs.lemmas.Bool.{and_parts}
use Rattle.trace_text.specs.declared.events.Who.{Who}
use Rattle.trace_text.specs.declared.events.Who.TheVariants as who
use Rattle.machine_laws.proofs.FineMoves.{Naming}
use Rattle.line_laws.proofs.Ticks.StuckLemmas.{first_of_three}

module _ {X : State} (quiet : Silences X) where
  pub says_left-keeps : (name : Who) (m : ScopeMark) (leaving : Leaving) → Keeps X (says_left name m leaving)
  unfolding says_left
  says_left-keeps name m leaving =
      then-keeps _ _ (for_some-keeps m.region _ (λ r. says-keeps quiet Own (line.Left name r) refl))
      (when-keeps (raises_behind m leaving) _ (says-keeps quiet Own (line.Raise name exception.Program) refl))

  pub says_abort-keeps : (actor name : Who) → Keeps X (says_abort actor name)
  unfolding says_abort
  says_abort-keeps (who.Task actor) (who.Task t) = says-keeps quiet Own (line.Abort actor t) refl
  says_abort-keeps (who.Task actor) who.Agent = nothing-keeps
  says_abort-keeps who.Agent t = nothing-keeps

  pub end_environment-alters : (leaving : Leaving) → Alters X (end_environment leaving)
  end_environment-alters leaving = plain-alters quiet (end_environment leaving) (λ w. refl) (λ w. refl) (λ w. refl) (λ w. refl) (λ w. refl) (λ w t e. e)

module _ {p : Image} {Fits : Fitting} {Sleeps : Sleeping} {X : State} (moves : BaseMoves p Fits Sleeps X) (actor : Who)
    (fits : (name : Who) → Fits (part_of actor name) name) where
  unwind_by-keeps : (name : Who) (acts : Bool) → Fits (cond acts Own (OfOther name)) name → Keeps X (unwind_by p name acts)
  unfolding unwind_by
  unwind_by-keeps name false fit = unwind-keeps (fine_base moves) (OfOther name) name fit
  unwind_by-keeps name true fit = looks-keeps _ (λ w. when-keeps (is_runnable (task_of w name)) _ (unwind-keeps (fine_base moves) Own name fit))

  unwind_one-keeps : (t : world.Task) → Keeps X (unwind_one p actor t)
  unfolding unwind_one
  unwind_one-keeps t = unwind_by-keeps t.who (same_who actor t.who) (fits t.who)

  pub unwind_each-keeps : (tasks : List world.Task) → Keeps X (for_each tasks (unwind_one p actor))
  unwind_each-keeps tasks = for_each-keeps tasks (unwind_one p actor) unwind_one-keeps

  pub unwind_all-keeps : Keeps X (unwind_all p actor)
  unfolding unwind_all
  unwind_all-keeps = looks-keeps _ (λ w. unwind_each-keeps (filter (λ t. any_struck t.frames) w.tasks))

-- ---- what an effect brings about elsewhere

module _ {p : Image} {actor : Who} {Listed : World → Naming} {W Y : State} {V : World → State} (choosing : SelectMoves p actor Listed W Y V) where
  settled_at : (v w : World) (said : List Said) → waits_at_terminate (waiting_of v actor) ≡ false → At W v w said → Y w said
  settled_at v w said is h = choosing.settles w said (ap (λ u. waits_at_terminate (waiting_of u actor)) h.1 ∙ is) h.0

  block_if-leads : (v : World) (waiting : Waiting) (test : Bool) → waits_at_terminate (waiting_of v actor) ≡ test
      → Leads (At W v) Y (when test (says_block TheBlock actor waiting))
  block_if-leads v waiting true is = from_at (says_block TheBlock actor waiting) (choosing.says_blocked waiting)
  block_if-leads v waiting false is = nothing-leads (λ w said h. settled_at v w said is h)

  block_at_terminate-leads : (v : World) (waiting : Option Waiting) → waiting_of v actor ≡ waiting → Leads (At W v) Y (block_at_terminate actor waiting)
  unfolding block_at_terminate
  block_at_terminate-leads v None is = nothing-leads (λ w said h. settled_at v w said (ap waits_at_terminate is) h)
  block_at_terminate-leads v (Some waiting) is = block_if-leads v waiting (waits_at_terminate (Some waiting)) (ap waits_at_terminate is)

  leave_each-leads : (v : World) (said : List Said) → W v said → Leads (At W v) W (for_each (filter (may_terminate v) v.tasks) (leave_by_terminate p actor))
  leave_each-leads v said h =
      let tasks = filter (may_terminate v) v.tasks in
      from-leads _ (λ w more k. subst (λ u. V v u more) (sym k.1) (choosing.looks_at v more (subst (λ u. W u more) k.1 k.0)))
      (to-leads _ (for_each_task-keeps (λ t. Listed v t.who) tasks (leave_by_terminate p actor)
      (filter-each (λ t. Listed v t.who) (may_terminate v) v.tasks (choosing.listed v said h)) (leave_by_terminate-keeps choosing v))
      (λ w more k. choosing.looked v w more k))

  pub take_terminates-leads : Leads W Y (take_terminates p actor)
  unfolding take_terminates
  take_terminates-leads =
      then-leads (looks (λ w. for_each (filter (may_terminate w) w.tasks) (leave_by_terminate p actor))) _ (looks-with _ leave_each-leads)
      (looks-with _ (λ v said h. block_at_terminate-leads v (waiting_of v actor) refl))

module _ {p : Image} {actor : Who} {Fits Narrow : Fitting} {Sleeps : Sleeping} {May : Admitting} {Listed Unmade : World → Naming} {F I J W Y D : State}
    {O N V U : World → State} {E : World → Who → State}
    (acting : ActingMoves p actor Fits Narrow Sleeps May Listed Unmade F I J W Y D O N V U E) where
  create_task-at : (v : World) (s : StatementNo) (d : DeclNo) (id : Option ScopeId) (t : world.Task) → IsNew p t v
      → Leads (At F v) (Either I J) (create_task p actor s d id t)
  create_task-at v s d id t new =
      from-leads (create_task p actor s d id t) (λ w said h. (h.0, subst (λ u. IsNew p t u) (sym h.1) new)) (acting.creates s d id t)

  pub create-leads : (s : StatementNo) (d : DeclNo) (part : ℕ) → Leads F (Either I J) (create p actor s d part)
  unfolding create
  create-leads s d part =
      looks-with _ (λ v said h. let q = seen_by p v actor in
      raise_if-through (fine acting.fresh) (λ w k m. m.0) (λ w k m. inl (acting.starts w k m)) actor (in_protected v actor || is_deferred v actor) exception.Program _
      (raise_if-through (fine acting.fresh) (λ w k m. m.0) (λ w k m. inl (acting.starts w k m)) actor (leb 256 (length v.tasks)) exception.Storage _
      (given-through (fine acting.fresh) (λ w k m. m.0) (λ w k m. inl (acting.starts w k m)) Own actor (optional_span q (task_unit_of p (unit_of_declaration p d)).relative_deadline) _
      (λ span.
      create_task-at v s d (home v (declaration_of p d).scope q.within) (created_task q d (unit_of_declaration p d) part span v.drawn.tasks)
      (record { numbered = refl; made = refl; undeferred = refl })))))

  -- ---- activation

  -- a task that was made since a world has ended
  end_one-leads : (v : World) (name : Who) → Leads (E v name) (N v) (terminate p actor name)
  end_one-leads v name =
      terminate-leads (acting.since v) actor (fits_part acting.later) (acting.found_since v) (acting.ending v name) name (acting.loses_ended v name)
      (acting.forgets v name)

  fail_to_begin-keeps : (v : World) (t : world.Task) → Unmade v t.who → Keeps (N v) (fail_to_begin p actor t)
  unfolding fail_to_begin
  fail_to_begin-keeps v t other =
      then-leads (says (OfOther t.who) (line.Raise t.who exception.Storage)) _
      (says-keeps (acting.since v).quiet (OfOther t.who) (line.Raise t.who exception.Storage) refl)
      (then-leads (says_done (OfOther t.who) t.who) _ (acting.ends_other v t.who other)
      (then-leads (changes (edit_task actor group_fails)) _ (changes-keeps _ (edit_task-alters (acting.ending v t.who).quiet actor group_fails (λ u. refl)))
      (end_one-leads v t.who)))

  begin_task-keeps : (v : World) (level : ℕ) (t : world.Task) → Unmade v t.who → Keeps (N v) (begin_task p actor level t)
  unfolding begin_task
  begin_task-keeps v level t other =
      looks-keeps _
      (λ w.
      then-keeps _ _ (changes-keeps _ (open_scope-alters (fine (acting.since v).quiet) p t.who (unit_of_task p t).scope (plainly t.outer) opened_for.Task))
      (then-keeps _ _ (changes-keeps _ (edit_task-alters (acting.since v).quiet t.who (activated_task actor w.time) (λ u. refl)))
      (then-keeps _ _ (changes-keeps _ (acting.inherits_activation v t.who level other)) (acting.activates v t.who other))))

  activate_one-keeps : (v : World) (level : ℕ) (t : world.Task) → Unmade v t.who → Keeps (N v) (activate_one p actor level t)
  unfolding activate_one
  activate_one-keeps v level t other =
      looks-keeps _
      (λ w. branch-keeps (has_room w t.who 1 (scope_of p (unit_of_task p t).scope).size) (begin_task p actor level t) (fail_to_begin p actor t)
      (begin_task-keeps v level t other) (fail_to_begin-keeps v t other))

  await_group-keeps : (begins failed : Bool) → Keeps I (await_group actor begins failed)
  unfolding await_group
  await_group-keeps true failed = acting.later.blocks actor waits_for.Activation
  await_group-keeps false true = raises-keeps (fine acting.later.base.quiet) TheBlock actor exception.Tasking
  await_group-keeps false false = nothing-keeps

  -- of the tasks of a list those that are made are others
  made_each : (v : World) (said : List Said) → I v said → (test : world.Task → Bool) → ((t : world.Task) → test t ≡ true → is_made t ≡ true)
      → EachTask (λ t. Unmade v t.who) (filter test v.tasks)
  made_each v said h test made =
      each-both (λ t. is_made t ≡ true → Unmade v t.who) (λ t. test t ≡ true) (λ t. Unmade v t.who) (filter test v.tasks) (λ t f e. f (made t e))
      (filter-each (λ t. is_made t ≡ true → Unmade v t.who) test v.tasks (acting.made_differ v said h)) (filter-tested test v.tasks)

  -- what is kept since a world, from that world on
  since_at : (v : World) (step : Step) → Keeps (N v) step → Leads (At I v) I step
  since_at v step kept =
      from-leads step (λ w said h. subst (λ u. N v u said) (sym h.1) (acting.since_now v said (subst (λ u. I u said) h.1 h.0)))
      (to-leads step kept (λ w said h. acting.since_then v w said h))

  activate_group-keeps : (s : StatementNo) (part : ℕ) → Keeps I (activate_group p actor s part)
  unfolding activate_group
  activate_group-keeps s part =
      then-keeps _ (looks (λ w. await_group actor (has_activating w actor) (task_of w actor).group_failed))
      (looks-with _ (λ v said h. let test = is_to_activate (top_region_of_scope v actor) part in
      since_at v _ (then-keeps (goes actor (next_of p s)) _ (goes-keeps (fine (acting.since v).quiet) actor (next_of p s))
      (then-keeps (changes (edit_task actor no_failure)) _ (changes-keeps _ (edit_task-alters (acting.since v).quiet actor no_failure (λ u. refl)))
      (for_each_task-keeps (λ t. Unmade v t.who) (filter test v.tasks) (activate_one p actor (active_of p v actor))
      (made_each v said h test (λ t e. first_of_three (is_made t) (is_the same_region t.master (top_region_of_scope v actor)) (eqb t.declarative_part part) e))
      (activate_one-keeps v (active_of p v actor)))))))
      (looks-keeps _ (λ w. await_group-keeps (has_activating w actor) (task_of w actor).group_failed))

  pub activate-keeps : (s : StatementNo) (part : ℕ) → Keeps I (activate p actor s part)
  unfolding activate
  activate-keeps s part =
      looks-keeps _
      (λ w. raise_if-keeps (fine acting.later.base.quiet) actor (in_protected w actor || is_deferred w actor) exception.Program _ (activate_group-keeps s part))

  -- ---- who acts may have fallen

  owing_at : (v w : World) (said : List Said) → At I v w said → O v w said
  owing_at v w said h = subst (λ u. O u w said) h.1 (acting.owes w said h.0)

  pub end_own_activation-keeps : (s : StatementNo) → Keeps I (end_own_activation p actor s)
  unfolding end_own_activation
  end_own_activation-keeps s =
      looks-with _ (λ v said h. let base = acting.owing v in
      from-leads _ (owing_at v) (then-leads (goes actor (next_of p s)) _ (goes-keeps (fine base.quiet) actor (next_of p s))
      (then-leads (end_activation p actor actor false) (fall_from p actor v)
      (end_activation-keeps base actor (fits_part acting.later) actor (acting.loses_owed v) false) (acting.pays v))))

  complete_if_task-keeps : (purpose : Purpose) → Keeps I (complete_if_task p actor purpose)
  unfolding complete_if_task
  complete_if_task-keeps purpose =
      looks-with _ (λ v said h. let base = acting.owing v in
      when-leads (is_task_scope purpose) _ (λ is. from-leads _ (owing_at v)
      (then-leads (complete p actor actor) (fall_from p actor v) (complete-keeps base actor (fits_part acting.later) actor (acting.loses_owed v))
      (acting.pays v)))
      (λ w k m. m.0))

  -- ---- a scope is left

  end_made-keeps : (v : World) (t : world.Task) → Unmade v t.who → Keeps (N v) (end_made p actor t)
  unfolding end_made
  end_made-keeps v t other = then-leads (says_done (OfOther t.who) t.who) (terminate p actor t.who) (acting.ends_other v t.who other) (end_one-leads v t.who)

  wait_for_dependents-keeps : (r : RegionNo) → Keeps I (wait_for_dependents actor r)
  unfolding wait_for_dependents
  wait_for_dependents-keeps r = looks-keeps _ (λ w. when-keeps (has_dependents w r) _ (acting.later.blocks actor (waits_for.Dependents r)))

  leave_region-keeps : (m : ScopeMark) (leaving : Leaving) (r : RegionNo) → Keeps I (leave_region p actor m leaving r)
  unfolding leave_region
  leave_region-keeps m leaving r =
      then-keeps _ _ (changes-keeps _ (edit_top_scope-alters (fine acting.later.base.quiet) actor being_left_mark))
      (then-keeps _ _ (changes-keeps _ (edit_top-alters (fine acting.later.base.quiet) actor (left_so_frame leaving)))
      (then-keeps _ _ (says-keeps acting.later.base.quiet Own (line.Leave actor r (leaves_as leaving)) refl)
      (then-keeps _ _
      (looks-with _
      (λ v said h. since_at v _
      (for_each_task-keeps (λ t. Unmade v t.who) (filter (is_made_in r) v.tasks) (end_made p actor)
      (made_each v said h (is_made_in r) (λ t e. (and_parts (is_made t) (is_the same_region t.master r) e).0)) (end_made-keeps v))))
      (then-keeps _ _ (complete_if_task-keeps m.purpose) (wait_for_dependents-keeps r)))))

  end_task-leads : (leaving : Leaving) → Leads F W (end_task p actor leaving)
  unfolding end_task
  end_task-leads leaving =
      then-leads (says_done Own actor) _ acting.ends
      (then-leads (looks (λ w. end_activation p actor actor (fails_by w actor leaving))) _
      (looks-keeps _ (λ w. end_activation-keeps acting.dying actor (fits_part acting.later) actor acting.loses_last (fails_by w actor leaving)))
      (then-leads (terminate p actor actor) _
      (terminate-leads acting.over actor (fits_part acting.later) acting.found_asleep acting.dying actor acting.loses_last acting.forgets_actor)
      (to-leads _ (when-keeps (is_environment actor) _ (changes-keeps _ (end_environment-alters acting.over.quiet leaving))) acting.rests)))

  -- what holds at first holds where who acts has said nothing more
  not_left : (w : World) (said : List Said) → F w said → W w said
  not_left w said h = acting.rests w said (acting.ceases w said (acting.starts w said h))

  at_first : (step : Step) → Keeps F step → Leads F W step
  at_first step kept = weakly (fine acting.fresh) not_left step kept

  end_body-keeps : (leaving : Leaving) (normally : Step) → Keeps F normally → Leads F W (end_body p actor leaving normally)
  end_body-keeps leaving normally kept =
      at_first (end_body p actor leaving normally)
      (branch-keeps (is_normal leaving) normally (pass_on p actor leaving) kept (pass_on-keeps (fine acting.fresh) p actor leaving))

  behind_scope-leads : (purpose : Purpose) (cells : List Value) (leaving : Leaving) → Leads F W (behind_scope p actor purpose cells leaving)
  unfolding behind_scope
  behind_scope-leads (opened_for.Block s) cells leaving = at_first (pass_on p actor leaving) (pass_on-keeps (fine acting.fresh) p actor leaving)
  behind_scope-leads (opened_for.Subprogram back to) cells leaving =
      end_body-keeps leaving (end_subprogram p actor cells back to leaving) (end_subprogram-keeps (fine acting.fresh) p actor cells back to leaving)
  behind_scope-leads (opened_for.EntryBody c) cells leaving =
      end_body-keeps leaving (end_body_of_entry p c cells leaving) (end_body_of_entry-keeps acting.fresh p c cells leaving)
  behind_scope-leads opened_for.Task cells leaving = end_task-leads leaving

  end_of_scope-leads : (m : ScopeMark) (leaving : Leaving) → Leads F W (end_of_scope p actor m leaving)
  unfolding end_of_scope
  end_of_scope-leads m leaving =
      looks-leads _ (λ w. then-leads (changes (pop actor)) _ (changes-keeps _ (pop-alters (fine acting.fresh) actor))
      (then-leads (changes (end_scope m.within)) _ (changes-keeps _ (end_scope-alters (fine acting.fresh) m.within))
      (then-leads (says_left actor m leaving) _ (says_left-keeps acting.fresh actor m leaving)
      (behind_scope-leads m.purpose (cells_of (scope_in_use w m.within)) (left_by m leaving)))))

  next_finalized-leads : (m : ScopeMark) (leaving : Leaving) (found : Option Registered)
      → Leads F W (elim found as (λ _. Step) [ None ↦ end_of_scope p actor m leaving | Some x ↦ finalize p actor x ])
  next_finalized-leads m leaving None = end_of_scope-leads m leaving
  next_finalized-leads m leaving (Some x) = at_first (finalize p actor x) (finalize-keeps (fine acting.fresh) p actor x)

  go_on_leaving-leads : (m : ScopeMark) (leaving : Leaving) (r : RegionNo) (test : Bool) → Leads F W (go_on_leaving p actor m leaving r test)
  unfolding go_on_leaving
  go_on_leaving-leads m leaving r false =
      to-leads (leave_region p actor m leaving r) (from-leads (leave_region p actor m leaving r) acting.starts (leave_region-keeps m leaving r))
      (λ w said h. acting.rests w said (acting.ceases w said h))
  go_on_leaving-leads m leaving r true = looks-leads _ (λ w. next_finalized-leads m leaving (next_to_finalize w r))

  end_scope_mark_of-leads : (m : ScopeMark) (leaving : Leaving) (r : Option RegionNo) → Leads F W (end_scope_mark_of p actor m leaving r)
  unfolding end_scope_mark_of
  end_scope_mark_of-leads m leaving None = end_of_scope-leads m leaving
  end_scope_mark_of-leads m leaving (Some r) = go_on_leaving-leads m leaving r m.being_left

  pub end_scope_mark-leads : (m : ScopeMark) (leaving : Leaving) → Leads F W (end_scope_mark p actor m leaving)
  unfolding end_scope_mark
  end_scope_mark-leads m leaving = end_scope_mark_of-leads m leaving m.region

  -- ---- abort

  struck_or_ended : (v : World) (t : world.Task) (b : Bool) → (b ≡ true → Unmade v t.who)
      → Keeps (N v) (cond b (end_made p actor t) (changes (strike_outermost t.who)))
  struck_or_ended v t true other = end_made-keeps v t (other refl)
  struck_or_ended v t false other = changes-keeps _ (strike_outermost-alters (fine (acting.since v).quiet) t.who)

  abort_one-keeps : (v : World) (t : world.Task) → (is_made t ≡ true → Unmade v t.who) → Keeps (N v) (abort_one p actor t)
  unfolding abort_one
  abort_one-keeps v t other = then-keeps _ _ (says_abort-keeps (acting.since v).quiet actor t.who) (struck_or_ended v t (is_made t) other)

  abort_all-keeps : (v : World) (tasks : List world.Task) → EachTask (λ t. is_made t ≡ true → Unmade v t.who) tasks → Keeps (N v) (abort_all p actor tasks)
  unfolding abort_all
  abort_all-keeps v tasks others =
      then-keeps _ _ (for_each-keeps tasks _ (λ t. changes-keeps _ (edit_task-alters (acting.since v).quiet t.who abnormal_task (λ u. refl))))
      (then-keeps _ _ (for_each_task-keeps (λ t. is_made t ≡ true → Unmade v t.who) tasks (abort_one p actor) others (abort_one-keeps v))
      (unwind_each-keeps (acting.since v) actor (fits_part acting.later) tasks))

  pub abort_statement-keeps : (s : StatementNo) (tasks : List DeclNo) → Keeps I (abort_statement p actor s tasks)
  unfolding abort_statement
  abort_statement-keeps s tasks =
      sees-keeps p actor _
      (λ q. raise_if-keeps (fine acting.later.base.quiet) actor (in_protected q.world actor) exception.Program _
      (given-keeps (fine acting.later.base.quiet) Own actor (named_tasks q tasks) _ (λ aborted.
      then-keeps _ _ (goes-keeps (fine acting.later.base.quiet) actor (next_of p s))
      (looks-with _
      (λ v said h. since_at v _
      (abort_all-keeps v (filter (is_to_abort v aborted) v.tasks)
      (filter-each (λ t. is_made t ≡ true → Unmade v t.who) (is_to_abort v aborted) v.tasks (acting.made_differ v said h))))))))
