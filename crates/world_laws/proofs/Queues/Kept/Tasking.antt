-- Tasks are created, activated, completed and aborted, and scopes are left (9.1 to 9.3, 9.8, 7.6.1).
use Rattle.std.proofs.Common.{◌≡◌, ℕ, ◌-◌, Bool, true, false, cond, ◌||◌, List, [], ◌∷◌, Option, Some, None, refl, sym, subst, ap, leb, length, eqb}
use Rattle.std.specs.Prelude.{filter}
use Rattle.ann_base.specs.declared.identities.CallNo.{CallNo}
use Rattle.ann_base.specs.declared.identities.RegionNo.{RegionNo}
use Rattle.ann_base.specs.declared.exceptions.Raised.TheVariants as exception
use Rattle.trace_text.specs.declared.events.Created.TheVariants as created
use Rattle.trace_text.specs.declared.events.Who.{Who}
use Rattle.trace_text.specs.declared.events.Who.TheVariants as who
use Rattle.profile_image.specs.declared.image.Image.{Image}
use Rattle.profile_image.specs.declared.numbers.DeclNo.{DeclNo}
use Rattle.profile_image.specs.declared.numbers.StatementNo.{StatementNo}
use Rattle.profile_machine.specs.declared.run_data.Leaving.{Leaving}
use Rattle.profile_machine.specs.declared.run_data.Leaving.TheVariants as how
use Rattle.profile_image.specs.declared.values.Value.{Value}
use Rattle.profile_image.specs.declared.values.Value.TheVariants as value_of
use Rattle.profile_machine.specs.declared.world.World.{World}
use Rattle.profile_machine.specs.declared.world.lines.Line.TheVariants as line
use Rattle.profile_machine.specs.declared.world.lines.Part.{Part}
use Rattle.profile_machine.specs.declared.world.lines.Part.TheVariants.{Own, OfOther, TheBlock, ThePlacing}
use Rattle.profile_machine.specs.declared.world.marks.Frame.{Frame}
use Rattle.profile_machine.specs.declared.world.marks.Mark.TheVariants.{Scope}
use Rattle.profile_machine.specs.declared.world.marks.Purpose.{Purpose}
use Rattle.profile_machine.specs.declared.world.marks.Purpose.TheVariants as opened_for
use Rattle.profile_machine.specs.declared.world.marks.ScopeMark.{ScopeMark}
use Rattle.profile_machine.specs.declared.world.appointments.Registered.{Registered}
use Rattle.profile_machine.specs.declared.world.scopes.ScopeId.{ScopeId}
use Rattle.profile_machine.specs.declared.world.tasks.Cause.TheVariants as inherited_by
use Rattle.profile_machine.specs.declared.world.tasks.State.TheVariants.{Made}
use Rattle.profile_machine.specs.declared.world.tasks.Waiting.{Waiting}
use Rattle.profile_machine.specs.declared.world.tasks.Waiting.TheVariants as waits_for
use Rattle.profile_machine.specs.declared.world.tasks.Task.{Task}
use Rattle.profile_image.specs.Words.{same_who, same_call, same_region, has, is_the}
use Rattle.profile_image.specs.Program.{declaration_of, next_of, scope_of, task_unit_of}
use Rattle.profile_machine.specs.Steps.{Step, changes, looks, for_some, for_each, ◌▷◌}
use Rattle.profile_machine.specs.Tasks.{task_of, edit_task, is_made, is_runnable, waiting_of}
use Rattle.profile_machine.specs.Dispatching.{active_of}
use Rattle.profile_machine.specs.Frames.{top_of, edit_top, goes_on, goes, pop, pass_on, has_room, in_protected, is_deferred}
use Rattle.profile_machine.specs.Scopes.{home, plainly, end_scope, cells_of, scope_in_use}
use Rattle.profile_machine.specs.Values.{queue_at, seen_by}
use Rattle.profile_machine.specs.Calls.{formals_count}
use Rattle.profile_machine.specs.Controlled.{next_to_finalize, finalize}
use Rattle.profile_machine.specs.Declarations.{set_thing}
use Rattle.profile_machine.specs.Inheritance.{falls}
use Rattle.profile_machine.specs.Unwinding.{unwind, any_struck, strike_outermost}
use Rattle.profile_machine.specs.Masters.{may_terminate, leave_by_terminate, has_dependents, has_activating, waits_at_terminate}
use Rattle.profile_machine.specs.Serving.{keeps_sending, keep_values, with_values, end_body_of_entry}
use Rattle.profile_machine.specs.Tasking.{unit_of_declaration, optional_span, created_task, add_task, says_created, create_task, create, fall_from}
use Rattle.profile_machine.specs.Tasking.{unit_of_task, activated_task, begin_task, says_done, group_fails, fail_to_begin, activate_one}
use Rattle.profile_machine.specs.Tasking.{await_group, no_failure, is_to_activate, top_region_of_scope, activate_group, activate}
use Rattle.profile_machine.specs.Tasking.{end_own_activation, leaves_as, is_made_in, end_made, being_left_mark, left_so_frame, is_task_scope}
use Rattle.profile_machine.specs.Tasking.{complete_if_task, wait_for_dependents, leave_region, is_environment, end_environment, fails_by, end_task}
use Rattle.profile_machine.specs.Tasking.{is_normal, end_body, behind_scope, raises_behind, left_by, says_left, end_of_scope, go_on_leaving}
use Rattle.profile_machine.specs.Tasking.{end_scope_mark_of, end_scope_mark, named_tasks, is_to_abort, abnormal_task, says_abort, abort_one}
use Rattle.profile_machine.specs.Tasking.{unwind_by, unwind_one, abort_all, abort_statement, block_at_terminate, take_terminates, unwind_all}
use Rattle.world_laws.proofs.Queues.Arrivals.{NewTask, add_task-calm, end_scope-calm, no_calls-none}
use Rattle.world_laws.proofs.Queues.Calming.{edit_task-drawn, same-calm}
use Rattle.world_laws.proofs.Queues.Kept.CallEnds.{strike_outermost-quiets, unwind-from}
use Rattle.world_laws.proofs.Queues.Kept.Combinators.{Calms, From, Keeps, any-keeps, branch-keeps, calms-from, changes-calms, changes-keeps}
use Rattle.world_laws.proofs.Queues.Kept.Combinators.{changes_then-from, for_each-calms, for_some-calms, keeps-from, looks-calms, looks-from}
use Rattle.world_laws.proofs.Queues.Kept.Combinators.{looks-keeps, nothing-calms, says-calms, then-calms, then-keeps, when-calms, with_call-keeps}
use Rattle.world_laws.proofs.Queues.Kept.Controlled.{edit_top_scope-alters, finalize-keeps}
use Rattle.world_laws.proofs.Queues.Kept.Declarations.{set_thing-quiets}
use Rattle.world_laws.proofs.Queues.Kept.Frames.{Same, block-calms, edit_call-quiets, edit_task-quiets, edit_top-alters}
use Rattle.world_laws.proofs.Queues.Kept.Frames.{given-from, goes-keeps, inherit-quiets, open_scope-alters, pass_on-keeps, popped}
use Rattle.world_laws.proofs.Queues.Kept.Frames.{raise_if-from, raises-calms, ready-calms, says_block-calms, to_head-calms}
use Rattle.world_laws.proofs.Queues.Kept.Masters.{complete-any, end_activation-calms, leave_by_terminate-calms, terminate-any, first-is}
use Rattle.world_laws.proofs.Queues.Kept.Onward.{Acts, Any, Drawn, Onward, acts-onward, any-acts, calm-onward, calms-any, changes_then-onward}
use Rattle.world_laws.proofs.Queues.Kept.Onward.{drawn-on, for_each-any, given-acts, keeps-acts, looks-acts, looks-any, looks_at-onward}
use Rattle.world_laws.proofs.Queues.Kept.Onward.{nothing-onward, raise_if-acts, sees-acts, then-acts, then-any, then-onward, when-any}
use Rattle.world_laws.proofs.Queues.Kept.Subprograms.{end_subprogram-keeps}
use Rattle.world_laws.proofs.Queues.Listed.{AllTasks, filter-all, made-awake, map-all}
use Rattle.world_laws.proofs.Queues.Moving.{calm-next}
use Rattle.world_laws.proofs.Queues.Standing.{Awake, Calm, Good, Kind, any_kind, calm-awake, calm-good, part_of, quiet_kind}

-- ---- creation

says_created-calms : {E : Kind} (d : DeclNo) (t : Task) → Calms E (says_created d t)
unfolding says_created
says_created-calms d t = looks-calms _ (λ w. says-calms Own (line.New (created.Task (record { 0 = w.drawn.tasks - 1 })) (Some d) t.base))

abbrev name_task : Image → DeclNo → ScopeId → Step
name_task p d within = looks (λ w. changes (set_thing p (record { within = within; declared = d }) (value_of.Task (Some (record { 0 = w.drawn.tasks - 1 })))))

name_task-calms : {E : Kind} (p : Image) (d : DeclNo) (within : ScopeId) → Calms E (name_task p d within)
name_task-calms p d within =
    looks-calms _
    (λ w. changes-calms _ (set_thing-quiets p (record { within = within; declared = d }) (value_of.Task (Some (record { 0 = w.drawn.tasks - 1 })))))

create_task-from : {E : Kind} (p : Image) (name : Who) (s : StatementNo) (d : DeclNo) (id : Option ScopeId) (t : Task) (w : World) → Awake name w
    → t.who ≡ who.Task (record { 0 = w.drawn.tasks }) → t.frames ≡ [] → t.state ≡ Made
    → ((k : ℕ) (c : CallNo) → has same_call (queue_at t.queues k) c ≡ true → ⊥) → From E w (create_task p name s d id t)
unfolding create_task goes
create_task-from {E = E} p name s d id t w awake named frames state queues =
    let v = edit_top name (goes_on (next_of p s)) w in
    let first : Calm E w v = (edit_top-alters name (goes_on (next_of p s)) (λ x. refl)).at w awake in
    let new : NewTask t v =
    record {
      named = subst (λ x. t.who ≡ who.Task (record { 0 = x.tasks })) (sym (edit_task-drawn name _ w)) named;
      frames = frames;
      state = state;
      queues = queues;
    } in
    changes_then-from (edit_top name (goes_on (next_of p s))) _ w first
    (changes_then-from (add_task t) _ v (add_task-calm t v new)
    (calms-from (for_some id (name_task p d) ▷ says_created d t) (add_task t v)
    (then-calms _ _ (for_some-calms id (name_task p d) (λ within. name_task-calms p d within)) (says_created-calms d t))))

pub create-keeps : {E : Kind} (p : Image) (name : Who) (s : StatementNo) (d : DeclNo) (part : ℕ) → Keeps E name (create p name s d part)
unfolding create
create-keeps p name s d part =
    looks-from _ (λ w awake. let q = seen_by p w name in
    raise_if-from name (in_protected w name || is_deferred w name) exception.Program _ w (λ allowed.
    raise_if-from name (leb 256 (length w.tasks)) exception.Storage _ w (λ few.
    given-from Own name (optional_span q (task_unit_of p (unit_of_declaration p d)).relative_deadline) _ w (λ span.
    create_task-from p name s d (home w (declaration_of p d).scope q.within)
    (created_task q d (unit_of_declaration p d) part span w.drawn.tasks) w awake refl refl refl
    (λ k c h. no_calls-none (task_unit_of p (unit_of_declaration p d)).entries k c h)))))

-- ---- activation

fall_from-calms : {E : Kind} (p : Image) (name : Who) (before : World) → Calms E (fall_from p name before)
unfolding fall_from
fall_from-calms p name before = looks-calms _ (λ w. when-calms (falls p name before w) _ (to_head-calms p ThePlacing name))

begin_task-keeps : {E : Kind} (p : Image) (activator : Who) (level : ℕ) (t : Task) → Keeps E t.who (begin_task p activator level t)
unfolding begin_task
begin_task-keeps p activator level t = looks-keeps _ (λ w.
    then-keeps _ _ (changes-keeps _ (open_scope-alters p t.who (unit_of_task p t).scope (plainly t.outer) opened_for.Task))
    (any-keeps _
    (then-calms _ _ (changes-calms _ (edit_task-quiets t.who (activated_task activator w.time) (λ u. refl) (λ u. refl) (λ u. refl) (λ u. refl) (λ u. refl)))
    (then-calms _ _ (changes-calms _ (inherit-quiets t.who inherited_by.Activation level)) (ready-calms p (OfOther t.who) t.who)))))

says_done-calms : {E : Kind} (part : Part) (name : Who) → Calms E (says_done part name)
unfolding says_done
says_done-calms part (who.Task t) = says-calms part (line.Done t)
says_done-calms part who.Agent = nothing-calms

fail_to_begin-any : (p : Image) (activator : Who) (t : Task) → Any p (fail_to_begin p activator t)
unfolding fail_to_begin
fail_to_begin-any p activator t =
    then-any _ _ (calms-any _ (says-calms (OfOther t.who) (line.Raise t.who exception.Storage)))
    (then-any _ _ (calms-any _ (says_done-calms (OfOther t.who) t.who))
    (then-any _ _ (calms-any _ (changes-calms _ (edit_task-quiets activator group_fails (λ u. refl) (λ u. refl) (λ u. refl) (λ u. refl) (λ u. refl))))
    (terminate-any p activator t.who)))

activate_one-onward : (p : Image) (activator : Who) (level : ℕ) (t : Task) (w : World) → Good p w → Awake t.who w
    → Onward p w (activate_one p activator level t)
unfolding activate_one
activate_one-onward p activator level t w good awake =
    looks_at-onward
    (λ v. elim (has_room v t.who 1 (scope_of p (unit_of_task p t).scope).size) as (λ _. Step) [
      | true ↦ begin_task p activator level t
      | false ↦ fail_to_begin p activator t
    ]) w
    (by_room (has_room w t.who 1 (scope_of p (unit_of_task p t).scope).size)) where
      by_room : (b : Bool) → Onward p w (elim b as (λ _. Step) [ true ↦ begin_task p activator level t | false ↦ fail_to_begin p activator t ])
      by_room true = calm-onward {E = quiet_kind} (begin_task p activator level t) w good (keeps-from _ w awake (begin_task-keeps p activator level t))
      by_room false = (fail_to_begin-any p activator t).from w good

each_activated-onward : (p : Image) (activator : Who) (level : ℕ) (ts : List Task) (w : World) → Good p w → AllTasks (λ t. Awake t.who w) ts
    → Onward p w (for_each ts (activate_one p activator level))
each_activated-onward p activator level [] w good all = nothing-onward w good
each_activated-onward p activator level (t ∷ ts) w good all =
    then-onward (activate_one p activator level t) (for_each ts (activate_one p activator level)) w (activate_one-onward p activator level t w good all.0)
    (λ v next.
    each_activated-onward p activator level ts v next.good (map-all (λ u. Awake u.who w) (λ u. Awake u.who v) (λ u awake. next.awake u.who awake) ts all.1))

await_group-calms : {E : Kind} (name : Who) (begins failed : Bool) → Calms E (await_group name begins failed)
unfolding await_group
await_group-calms name true failed = block-calms TheBlock name waits_for.Activation refl
await_group-calms name false true = raises-calms TheBlock name exception.Tasking
await_group-calms name false false = nothing-calms

-- those of the group were made in the world before it
group-onward : (p : Image) (name : Who) (s : StatementNo) (part : ℕ) (w : World) → Good p w → Awake name w
    → Onward p w (goes name (next_of p s) ▷ changes (edit_task name no_failure)
    ▷ for_each (filter (is_to_activate (top_region_of_scope w name) part) w.tasks) (activate_one p name (active_of p w name)))
group-onward p name s part w good awake =
    let group = filter (is_to_activate (top_region_of_scope w name) part) w.tasks in
    let each : AllTasks (λ t. Awake t.who w) group =
    map-all (λ t. (is_made t ≡ true → Awake t.who w) × (is_to_activate (top_region_of_scope w name) part t ≡ true)) (λ t. Awake t.who w)
    (λ t x. x.0 (first-is (is_made t) (is_the same_region t.master (top_region_of_scope w name)) (eqb t.declarative_part part) x.1)) group
    (filter-all (λ t. is_made t ≡ true → Awake t.who w) (is_to_activate (top_region_of_scope w name) part) w.tasks (made-awake p w good)) in
    then-onward (goes name (next_of p s)) (changes (edit_task name no_failure) ▷ for_each group (activate_one p name (active_of p w name))) w
    (calm-onward {E = quiet_kind} (goes name (next_of p s)) w good (keeps-from _ w awake (goes-keeps name (next_of p s))))
    (λ v next. then-onward (changes (edit_task name no_failure)) (for_each group (activate_one p name (active_of p w name))) v
    ((calms-any _ (changes-calms _ (edit_task-quiets name no_failure (λ u. refl) (λ u. refl) (λ u. refl) (λ u. refl) (λ u. refl)))).from v next.good)
    (λ u later. each_activated-onward p name (active_of p w name) group u later.good
    (map-all (λ t. Awake t.who w) (λ t. Awake t.who u) (λ t x. later.awake t.who (next.awake t.who x)) group each)))

pub activate-acts : (p : Image) (name : Who) (s : StatementNo) (part : ℕ) → Acts p name (activate p name s part)
unfolding activate activate_group
activate-acts p name s part = looks-acts _ (λ w. raise_if-acts name (in_protected w name || is_deferred w name) exception.Program _
    (then-acts _ _ record {
      from =
          λ v good awake drawn. looks_at-onward
          (λ v. goes name (next_of p s) ▷ changes (edit_task name no_failure)
          ▷ for_each (filter (is_to_activate (top_region_of_scope v name) part) v.tasks) (activate_one p name (active_of p v name))) v
          (group-onward p name s part v good awake);
    }
    (any-acts _ (looks-any _ (λ v. calms-any _ (await_group-calms name (has_activating v name) (task_of v name).group_failed))))))

pub end_own_activation-keeps : {E : Kind} (p : Image) (name : Who) (s : StatementNo) → Keeps E name (end_own_activation p name s)
unfolding end_own_activation
end_own_activation-keeps p name s =
    looks-keeps _
    (λ w. then-keeps _ _ (goes-keeps name (next_of p s)) (any-keeps _ (then-calms _ _ (end_activation-calms p name name false) (fall_from-calms p name w))))

-- ---- a kept scope is left

end_made-any : (p : Image) (actor : Who) (t : Task) → Any p (end_made p actor t)
unfolding end_made
end_made-any p actor t = then-any _ _ (calms-any _ (says_done-calms (OfOther t.who) t.who)) (terminate-any p actor t.who)

complete_if_task-any : (p : Image) (name : Who) (purpose : Purpose) → Any p (complete_if_task p name purpose)
unfolding complete_if_task
complete_if_task-any p name purpose =
    looks-any _ (λ w. when-any (is_task_scope purpose) _ (then-any _ _ (complete-any p name name) (calms-any _ (fall_from-calms p name w))))

wait_for_dependents-calms : {E : Kind} (name : Who) (r : RegionNo) → Calms E (wait_for_dependents name r)
unfolding wait_for_dependents
wait_for_dependents-calms name r = looks-calms _ (λ w. when-calms (has_dependents w r) _ (block-calms TheBlock name (waits_for.Dependents r) refl))

leave_region-acts : (p : Image) (name : Who) (m : ScopeMark) (leaving : Leaving) (r : RegionNo) → Acts p name (leave_region p name m leaving r)
unfolding leave_region
leave_region-acts p name m leaving r =
    then-acts _ _ (keeps-acts _ (changes-keeps _ (edit_top_scope-alters name being_left_mark (λ x. refl))))
    (then-acts _ _ (keeps-acts _ (changes-keeps _ (edit_top-alters name (left_so_frame leaving) (λ x. refl))))
    (any-acts _ (then-any _ _ (calms-any _ (says-calms Own (line.Leave name r (leaves_as leaving))))
    (then-any _ _ (looks-any _ (λ w. for_each-any (filter (is_made_in r) w.tasks) (end_made p name) (λ t. end_made-any p name t)))
    (then-any _ _ (complete_if_task-any p name m.purpose) (calms-any _ (wait_for_dependents-calms name r)))))))

-- ---- a scope has ended

end_task-any : (p : Image) (name : Who) (leaving : Leaving) → Any p (end_task p name leaving)
unfolding end_task
end_task-any p name leaving =
    then-any _ _ (calms-any _ (says_done-calms Own name))
    (then-any _ _ (looks-any _ (λ w. calms-any _ (end_activation-calms p name name (fails_by w name leaving))))
    (then-any _ _ (terminate-any p name name)
    (when-any (is_environment name) _
    (calms-any _ (changes-calms _ record { at = λ w. same-calm w (end_environment leaving w) refl refl refl refl refl refl refl refl })))))

sending-same : (leaving : Leaving) → Same (keeps_sending leaving)
sending-same how.Return = record {
  number = λ d. refl;
  owner = λ d. refl;
  entry = λ d. refl;
  caller = λ d. refl;
  begun = λ d. refl;
  outcome = λ d. refl;
  firm = λ d. refl;
}
sending-same how.End = record {
  number = λ d. refl;
  owner = λ d. refl;
  entry = λ d. refl;
  caller = λ d. refl;
  begun = λ d. refl;
  outcome = λ d. refl;
  firm = λ d. refl;
}
sending-same (how.Exit loop) = record {
  number = λ d. refl;
  owner = λ d. refl;
  entry = λ d. refl;
  caller = λ d. refl;
  begun = λ d. refl;
  outcome = λ d. refl;
  firm = λ d. refl;
}
sending-same (how.Exception e) = record {
  number = λ d. refl;
  owner = λ d. refl;
  entry = λ d. refl;
  caller = λ d. refl;
  begun = λ d. refl;
  outcome = λ d. refl;
  firm = λ d. refl;
}
sending-same how.Abort = record {
  number = λ d. refl;
  owner = λ d. refl;
  entry = λ d. refl;
  caller = λ d. refl;
  begun = λ d. refl;
  outcome = λ d. refl;
  firm = λ d. refl;
}
sending-same how.Terminate = record {
  number = λ d. refl;
  owner = λ d. refl;
  entry = λ d. refl;
  caller = λ d. refl;
  begun = λ d. refl;
  outcome = λ d. refl;
  firm = λ d. refl;
}

end_body_of_entry-keeps : {E : Kind} {name : Who} (p : Image) (c : CallNo) (cells : List Value) (leaving : Leaving)
    → Keeps E name (end_body_of_entry p c cells leaving)
unfolding end_body_of_entry keep_values
end_body_of_entry-keeps p c cells leaving =
    then-keeps _ _ (any-keeps _ (changes-calms _ (edit_call-quiets c (keeps_sending leaving) (sending-same leaving))))
    (with_call-keeps c _
    (λ d. any-keeps _
    (changes-calms _
    (edit_call-quiets c (with_values cells (formals_count p d)) record {
      number = λ x. refl;
      owner = λ x. refl;
      entry = λ x. refl;
      caller = λ x. refl;
      begun = λ x. refl;
      outcome = λ x. refl;
      firm = λ x. refl;
    }))))

end_body-keeps : {E : Kind} (p : Image) (name : Who) (leaving : Leaving) (normally : Step) → Keeps E name normally
    → Keeps E name (end_body p name leaving normally)
end_body-keeps p name leaving normally kept = branch-keeps (is_normal leaving) normally (pass_on p name leaving) kept (pass_on-keeps p name leaving)

behind_scope-acts : (p : Image) (name : Who) (purpose : Purpose) (cells : List Value) (leaving : Leaving)
    → Acts p name (behind_scope p name purpose cells leaving)
unfolding behind_scope
behind_scope-acts p name (opened_for.Block s) cells leaving = keeps-acts _ (pass_on-keeps p name leaving)
behind_scope-acts p name (opened_for.Subprogram back to) cells leaving =
    keeps-acts _ (end_body-keeps p name leaving _ (end_subprogram-keeps p name cells back to leaving))
behind_scope-acts p name (opened_for.EntryBody c) cells leaving = keeps-acts _ (end_body-keeps p name leaving _ (end_body_of_entry-keeps p c cells leaving))
behind_scope-acts p name opened_for.Task cells leaving = any-acts _ (end_task-any p name leaving)

says_left-calms : {E : Kind} (name : Who) (m : ScopeMark) (leaving : Leaving) → Calms E (says_left name m leaving)
unfolding says_left
says_left-calms name m leaving =
    then-calms _ _ (for_some-calms m.region _ (λ r. says-calms Own (line.Left name r)))
    (when-calms (raises_behind m leaving) _ (says-calms Own (line.Raise name exception.Program)))

module _ (p : Image) (name : Who) (m : ScopeMark) (leaving : Leaving) (f : Frame) (w : World) (good : Good p w) (awake : Awake name w) (drawn : Drawn name w)
    (top : top_of w name ≡ Some f) (mark : f.mark ≡ Scope m) where
  end_of_scope-onward : Onward p w (end_of_scope p name m leaving)
  unfolding end_of_scope
  end_of_scope-onward =
      let v = pop name w in
      let out : Calm any_kind w v = popped name f w refl awake top (ap part_of mark) in
      let good_v = calm-good p w v good out in
      let u = end_scope m.within v in
      let second : Calm any_kind v u = end_scope-calm m.within v good_v.objects in
      let good_u = calm-good p v u good_v second in
      looks_at-onward
      (λ x. changes (pop name) ▷ changes (end_scope m.within) ▷ says_left name m leaving
      ▷ behind_scope p name m.purpose (cells_of (scope_in_use x m.within)) (left_by m leaving)) w
      (changes_then-onward (pop name) _ w (calm-next p w v good out) (changes_then-onward (end_scope m.within) _ v (calm-next p v u good_v second)
      (acts-onward (says_left name m leaving ▷ behind_scope p name m.purpose (cells_of (scope_in_use w m.within)) (left_by m leaving)) u good_u
      (calm-awake v u second name (calm-awake w v out name awake))
      (drawn-on p v u name (calm-next p v u good_v second) (drawn-on p w v name (calm-next p w v good out) drawn))
      (then-acts _ _ (any-acts _ (calms-any _ (says_left-calms name m leaving)))
      (behind_scope-acts p name m.purpose (cells_of (scope_in_use w m.within)) (left_by m leaving))))))

  next_finalized-onward : (found : Option Registered)
      → Onward p w (elim found as (λ _. Step) [ None ↦ end_of_scope p name m leaving | Some x ↦ finalize p name x ])
  next_finalized-onward None = end_of_scope-onward
  next_finalized-onward (Some x) = calm-onward {E = quiet_kind} (finalize p name x) w good (keeps-from _ w awake (finalize-keeps p name x))

  go_on_leaving-onward : (r : RegionNo) (b : Bool) → Onward p w (go_on_leaving p name m leaving r b)
  unfolding go_on_leaving
  go_on_leaving-onward r false = acts-onward _ w good awake drawn (leave_region-acts p name m leaving r)
  go_on_leaving-onward r true =
      looks_at-onward (λ v. elim (next_to_finalize v r) as (λ _. Step) [ None ↦ end_of_scope p name m leaving | Some x ↦ finalize p name x ]) w
      (next_finalized-onward (next_to_finalize w r))

  end_scope_mark_of-onward : (r : Option RegionNo) → Onward p w (end_scope_mark_of p name m leaving r)
  unfolding end_scope_mark_of
  end_scope_mark_of-onward None = end_of_scope-onward
  end_scope_mark_of-onward (Some r) = go_on_leaving-onward r m.being_left

  pub end_scope_mark-onward : Onward p w (end_scope_mark p name m leaving)
  unfolding end_scope_mark
  end_scope_mark-onward = end_scope_mark_of-onward m.region

-- ---- abort

says_abort-calms : {E : Kind} (actor name : Who) → Calms E (says_abort actor name)
unfolding says_abort
says_abort-calms (who.Task actor) (who.Task t) = says-calms Own (line.Abort actor t)
says_abort-calms (who.Task actor) who.Agent = nothing-calms
says_abort-calms who.Agent t = nothing-calms

cond-any : {p : Image} (b : Bool) (f g : Step) → Any p f → Any p g → Any p (cond b f g)
cond-any true f g a b = a
cond-any false f g a b = b

abort_one-any : (p : Image) (actor : Who) (t : Task) → Any p (abort_one p actor t)
unfolding abort_one
abort_one-any p actor t =
    then-any _ _ (calms-any _ (says_abort-calms actor t.who))
    (cond-any (is_made t) (end_made p actor t) (changes (strike_outermost t.who)) (end_made-any p actor t)
    (calms-any _ (changes-calms _ (strike_outermost-quiets t.who))))

unwind-any : (p : Image) (part : Part) (name : Who) → Any p (unwind p part name)
unwind-any p part name = record { from = λ w good. calm-onward {E = quiet_kind} _ w good (unwind-from p part name w (λ x. refl) good) }

unwind_by-any : (p : Image) (name : Who) (acts : Bool) → Any p (unwind_by p name acts)
unfolding unwind_by
unwind_by-any p name false = unwind-any p (OfOther name) name
unwind_by-any p name true = looks-any _ (λ w. when-any (is_runnable (task_of w name)) _ (unwind-any p Own name))

unwind_one-any : (p : Image) (actor : Who) (t : Task) → Any p (unwind_one p actor t)
unfolding unwind_one
unwind_one-any p actor t = unwind_by-any p t.who (same_who actor t.who)

abort_all-any : (p : Image) (actor : Who) (tasks : List Task) → Any p (abort_all p actor tasks)
unfolding abort_all
abort_all-any p actor tasks =
    then-any _ _ (for_each-any tasks _
    (λ t. calms-any _ (changes-calms _ (edit_task-quiets t.who abnormal_task (λ u. refl) (λ u. refl) (λ u. refl) (λ u. refl) (λ u. refl)))))
    (then-any _ _ (for_each-any tasks (abort_one p actor) (abort_one-any p actor)) (for_each-any tasks (unwind_one p actor) (unwind_one-any p actor)))

pub abort_statement-acts : (p : Image) (name : Who) (s : StatementNo) (tasks : List DeclNo) → Acts p name (abort_statement p name s tasks)
unfolding abort_statement
abort_statement-acts p name s tasks =
    sees-acts p name _ (λ q. raise_if-acts name (in_protected q.world name) exception.Program _ (given-acts Own name (named_tasks q tasks) _ (λ aborted.
    then-acts _ _ (keeps-acts _ (goes-keeps name (next_of p s)))
    (any-acts _ (looks-any _ (λ w. abort_all-any p name (filter (is_to_abort w aborted) w.tasks)))))))

-- ---- what an effect brings about elsewhere

block_at_terminate-calms : {E : Kind} (name : Who) (waiting : Option Waiting) → Calms E (block_at_terminate name waiting)
unfolding block_at_terminate
block_at_terminate-calms name None = nothing-calms
block_at_terminate-calms name (Some waiting) = when-calms (waits_at_terminate (Some waiting)) _ (says_block-calms TheBlock name waiting)

pub take_terminates-calms : {E : Kind} (p : Image) (actor : Who) → Calms E (take_terminates p actor)
unfolding take_terminates
take_terminates-calms p actor =
    then-calms _ _
    (looks-calms _ (λ w. for_each-calms (filter (may_terminate w) w.tasks) (leave_by_terminate p actor) (λ t. leave_by_terminate-calms p actor t)))
    (looks-calms _ (λ w. block_at_terminate-calms actor (waiting_of w actor)))

pub unwind_all-any : (p : Image) (actor : Who) → Any p (unwind_all p actor)
unfolding unwind_all
unwind_all-any p actor = looks-any _ (λ w. for_each-any (filter (λ t. any_struck t.frames) w.tasks) (unwind_one p actor) (λ t. unwind_one-any p actor t))
