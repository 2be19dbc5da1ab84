-- The creation, activation, completion and abort of tasks (9.1 to 9.3, 9.8, 7.6.1).
use Rattle.std.specs.Prelude.{ℕ, suc, ◌-◌, ℤ, pos, ◌+ℤ◌, Bool, true, false, cond, not, ◌&&◌, ◌||◌, List, [], ◌∷◌, ◌++◌}
use Rattle.std.specs.Prelude.{Option, Some, None, Ok, eqb, leb, length, filter, is_some, option_and_then, unwrap_or}
use Rattle.std.specs.List.{list_any, cons_option}
use Rattle.ann_base.specs.Results.{◌>>=◌}
use Rattle.ann_base.specs.declared.identities.TaskNo.{TaskNo}
use Rattle.ann_base.specs.declared.identities.RegionNo.{RegionNo}
use Rattle.ann_base.specs.declared.exceptions.Raised.{Raised}
use Rattle.ann_base.specs.declared.exceptions.Raised.TheVariants as exception
use Rattle.profile_machine.specs.declared.world.lines.Line.TheVariants as line
use Rattle.trace_text.specs.declared.events.Created.TheVariants as created
use Rattle.trace_text.specs.declared.events.Leaves.{Leaves}
use Rattle.trace_text.specs.declared.events.Leaves.TheVariants as leaves_word
use Rattle.trace_text.specs.declared.events.Who.{Who}
use Rattle.trace_text.specs.declared.events.Who.TheVariants as who
use Rattle.profile_image.specs.declared.limits.TheConstants.{MOST_LIVE_TASKS}
use Rattle.profile_image.specs.declared.image.Image.{Image}
use Rattle.profile_image.specs.declared.numbers.DeclNo.{DeclNo}
use Rattle.profile_image.specs.declared.numbers.ExprNo.{ExprNo}
use Rattle.profile_image.specs.declared.numbers.StatementNo.{StatementNo}
use Rattle.profile_image.specs.declared.numbers.TaskUnitNo.{TaskUnitNo}
use Rattle.profile_image.specs.declared.declarations.TaskUnit.{TaskUnit}
use Rattle.profile_image.specs.declared.declarations.DeclarationKind.{DeclarationKind}
use Rattle.profile_image.specs.declared.declarations.DeclarationKind.TheVariants as kind
use Rattle.profile_machine.specs.declared.run_data.Leaving.{Leaving}
use Rattle.profile_machine.specs.declared.run_data.Leaving.TheVariants as how
use Rattle.profile_image.specs.declared.values.Value.{Value}
use Rattle.profile_image.specs.declared.values.Value.TheVariants as value_of
use Rattle.profile_machine.specs.declared.world.World.{World}
use Rattle.profile_machine.specs.declared.world.marks.Frame.{Frame}
use Rattle.profile_machine.specs.declared.world.marks.ScopeMark.{ScopeMark}
use Rattle.profile_machine.specs.declared.world.scopes.ScopeId.{ScopeId}
use Rattle.profile_machine.specs.declared.world.marks.Purpose.{Purpose}
use Rattle.profile_machine.specs.declared.world.Drawn.{Drawn}
use Rattle.profile_machine.specs.declared.world.tasks.Waiting.{Waiting}
use Rattle.profile_machine.specs.declared.world.tasks.Cause.TheVariants as inherited_by
use Rattle.profile_machine.specs.declared.world.marks.Purpose.TheVariants as opened_for
use Rattle.profile_machine.specs.declared.world.tasks.Waiting.TheVariants as waits_for
use Rattle.profile_machine.specs.declared.world.tasks.State.TheVariants.{Made}
use Rattle.profile_machine.specs.declared.world.tasks.Task as world
use Rattle.profile_image.specs.Words.{same_who, same_region, is_the}
use Rattle.profile_image.specs.Program.{declaration_of, next_of, scope_of, task_unit_of}
use Rattle.profile_machine.specs.declared.world.lines.Part.{Part}
use Rattle.profile_machine.specs.declared.world.lines.Part.TheVariants.{Own, OfOther, ThePlacing, TheBlock}
use Rattle.profile_machine.specs.Steps.{Step, says, changes, looks, when, nothing, for_some, for_each, ◌▷◌}
use Rattle.profile_machine.specs.Tasks.{task_of, edit_task, new_task, is_made, is_runnable, waiting_of}
use Rattle.profile_machine.specs.Dispatching.{active_of, ready, block, to_head, says_block}
use Rattle.profile_machine.specs.Frames.{frames_of, edit_top, pop, goes, raises, given}
use Rattle.profile_machine.specs.Frames.{raise_if, has_room, pass_on, in_protected, is_deferred}
use Rattle.profile_machine.specs.Scopes.{home, open_scope, plainly, end_scope, cells_of, scope_in_use}
use Rattle.profile_machine.specs.Operators.{Valued, held_moment}
use Rattle.profile_machine.specs.Values.{Seen, moment, thing, task_in}
use Rattle.profile_machine.specs.Inheritance.{inherit, falls}
use Rattle.profile_machine.specs.Unwinding.{strike_outermost, unwind, any_struck}
use Rattle.profile_machine.specs.Masters.{region_of_mark, depends_on_task, has_dependents}
use Rattle.profile_machine.specs.Masters.{complete, terminate, end_activation, may_terminate}
use Rattle.profile_machine.specs.Masters.{leave_by_terminate, waits_at_terminate, has_activating}
use Rattle.profile_machine.specs.Controlled.{top_region, region_or_none, next_to_finalize, finalize, edit_top_scope}
use Rattle.profile_machine.specs.Declarations.{set_thing, no_calls}
use Rattle.profile_machine.specs.Subprograms.{end_subprogram}
use Rattle.profile_machine.specs.Serving.{end_body_of_entry}
use Rattle.profile_machine.specs.Statements.{sees}

-- ---- the creation of a task (9.1): `new` with its base priority

abbrev pub unit_of_kind : DeclarationKind → TaskUnitNo
unit_of_kind (kind.Task u) = u
unit_of_kind _ = record { 0 = 0 }

abbrev pub unit_of_declaration : Image → DeclNo → TaskUnitNo
unit_of_declaration p d = unit_of_kind (declaration_of p d).kind

-- Relative_Deadline is evaluated by the creator
abbrev pub optional_span : Seen → Option ExprNo → Valued (Option ℤ)
optional_span q None = Ok None
optional_span q (Some e) = moment q e >>= λ span. Ok (Some span)

abbrev pub outer_of_task : Seen → TaskUnit → Option ScopeId
outer_of_task q u = option_and_then (λ outer. home q.world outer q.within) (scope_of q.program u.scope).outer

abbrev pub created_task : Seen → DeclNo → TaskUnitNo → ℕ → Option ℤ → ℕ → world.Task
created_task q d u declarative_part span n =
    let unit = task_unit_of q.program u in
    record (new_task (who.Task (record { 0 = n })) (unwrap_or unit.priority (task_of q.world q.who).base) Made) {
      declared = Some d;
      unit = Some u;
      outer = outer_of_task q unit;
      relative_deadline = span;
      master = Some (top_region q.world q.who);
      declarative_part = declarative_part;
      queues = no_calls unit.entries;
    }

abbrev pub task_drawn : Drawn → Drawn
task_drawn d = record d { tasks = suc d.tasks }

abbrev pub add_task : world.Task → World → World
add_task t w = record w { tasks = w.tasks ++ t ∷ []; drawn = task_drawn w.drawn }

unfoldable pub says_created : DeclNo → world.Task → Step
says_created d t =
    looks (λ w. says Own (line.New (created.Task (record { 0 = w.drawn.tasks - 1 })) (Some d) t.base))

unfoldable pub create_task : Image → Who → StatementNo → DeclNo → Option ScopeId → world.Task → Step
create_task p name s d id t =
    goes name (next_of p s) ▷ changes (add_task t)
    ▷ for_some id (λ within. looks (λ w. changes (set_thing p (record {
      within = within;
      declared = d;
    }) (value_of.Task (Some (record { 0 = w.drawn.tasks - 1 }))))))
    ▷ says_created d t

-- Program_Error inside a protected action and wherever abort is deferred; Storage_Error while so many tasks are live
-- (own)
unfoldable pub create : Image → Who → StatementNo → DeclNo → ℕ → Step
create p name s d declarative_part =
    sees p name (λ q. raise_if name (in_protected q.world name || is_deferred q.world name) exception.Program
    (raise_if name (leb MOST_LIVE_TASKS (length q.world.tasks)) exception.Storage
    (given Own name (optional_span q (task_unit_of p (unit_of_declaration p d)).relative_deadline) (λ span.
    create_task p name s d (home q.world (declaration_of p d).scope q.within)
    (created_task q d (unit_of_declaration p d) declarative_part span q.world.drawn.tasks)))))

-- the region of the scope on top; a sequence with handlers may stand above it
abbrev pub region_of_frames : List Frame → Option RegionNo
region_of_frames [] = None
region_of_frames (f ∷ fs) = elim (region_of_mark f.mark) [ None ↦ region_of_frames fs | Some r ↦ Some r ]

abbrev pub top_region_of_scope : World → Who → RegionNo
top_region_of_scope w name = region_or_none (region_of_frames (frames_of w name))

-- who acts goes to the head where its active priority has fallen since this world
unfoldable pub fall_from : Image → Who → World → Step
fall_from p name before = looks (λ w. when (falls p name before w) (to_head p ThePlacing name))

-- ---- activation (9.2): the tasks that the declarative part made become ready in order

abbrev pub is_to_activate : RegionNo → ℕ → world.Task → Bool
is_to_activate r declarative_part t = is_made t && is_the same_region t.master r
    && eqb t.declarative_part declarative_part

abbrev pub unit_of_task : Image → world.Task → TaskUnit
unit_of_task p t = task_unit_of p (unwrap_or t.unit (record { 0 = 0 }))

-- without a Relative_Deadline the deadline stays what it was
abbrev pub deadline_at : ℕ → Option ℤ → ℤ → ℤ
deadline_at now None old_deadline = old_deadline
deadline_at now (Some span) old_deadline = held_moment (pos now +ℤ span)

abbrev pub activated_task : Who → ℕ → world.Task → world.Task
activated_task activator now t = record t {
  activator = Some activator;
  deadline = deadline_at now t.relative_deadline t.deadline;
}

unfoldable pub begin_task : Image → Who → ℕ → world.Task → Step
begin_task p activator level t =
    looks (λ w. changes (open_scope p t.who (unit_of_task p t).scope (plainly t.outer) opened_for.Task)
    ▷ changes (edit_task t.who (activated_task activator w.time))
    ▷ changes (inherit t.who inherited_by.Activation level) ▷ ready p (OfOther t.who) t.who)

-- a task without room prints `raise` and `done`, and counts as failed
unfoldable pub says_done : Part → Who → Step
says_done part (who.Task t) = says part (line.Done t)
says_done part who.Agent = nothing

abbrev pub group_fails : world.Task → world.Task
group_fails t = record t { group_failed = true }

unfoldable pub fail_to_begin : Image → Who → world.Task → Step
fail_to_begin p activator t =
    says (OfOther t.who) (line.Raise t.who exception.Storage) ▷ says_done (OfOther t.who) t.who
    ▷ changes (edit_task activator group_fails) ▷ terminate p activator t.who

unfoldable pub activate_one : Image → Who → ℕ → world.Task → Step
activate_one p activator level t =
    looks (λ w. elim (has_room w t.who 1 (scope_of p (unit_of_task p t).scope).size)
    [ true ↦ begin_task p activator level t | false ↦ fail_to_begin p activator t ])

-- the activator blocks where some task begins; else Tasking_Error is raised in it at once, if one failed
unfoldable pub await_group : Who → Bool → Bool → Step
await_group name true failed = block TheBlock name waits_for.Activation
await_group name false true = raises TheBlock name exception.Tasking
await_group name false false = nothing

abbrev pub no_failure : world.Task → world.Task
no_failure t = record t { group_failed = false }

unfoldable pub activate_group : Image → Who → StatementNo → ℕ → Step
activate_group p name s declarative_part =
    looks (λ w. goes name (next_of p s) ▷ changes (edit_task name no_failure)
    ▷ for_each (filter (is_to_activate (top_region_of_scope w name) declarative_part) w.tasks)
    (activate_one p name (active_of p w name)))
    ▷ looks (λ w. await_group name (has_activating w name) (task_of w name).group_failed)

-- Program_Error where no task may be created either (own)
unfoldable pub activate : Image → Who → StatementNo → ℕ → Step
activate p name s declarative_part =
    looks (λ w. raise_if name (in_protected w name
    || is_deferred w name) exception.Program (activate_group p name s declarative_part))

-- the end of a task's own activation: it goes to the head where its active priority falls
unfoldable pub end_own_activation : Image → Who → StatementNo → Step
end_own_activation p name s =
    looks (λ w. goes name (next_of p s) ▷ end_activation p name name false ▷ fall_from p name w)

-- ---- a kept scope is left (7.6.1, 9.3): `leave`, the wait for dependents, Finalize of each object, `left`

abbrev pub leaves_as : Leaving → Leaves
leaves_as how.End = leaves_word.End
leaves_as how.Return = leaves_word.Return
leaves_as (how.Exit loop) = leaves_word.Exit
leaves_as (how.Exception e) = leaves_word.Exception
leaves_as how.Abort = leaves_word.Abort
leaves_as how.Terminate = leaves_word.Terminate

abbrev pub is_made_in : RegionNo → world.Task → Bool
is_made_in r t = is_made t && is_the same_region t.master r

-- tasks that were made there and not activated terminate
unfoldable pub end_made : Image → Who → world.Task → Step
end_made p actor t = says_done (OfOther t.who) t.who ▷ terminate p actor t.who

abbrev pub being_left_mark : ScopeMark → ScopeMark
being_left_mark m = record m { being_left = true }

abbrev pub left_so_frame : Leaving → Frame → Frame
left_so_frame leaving f = record f { left_as = Some leaving }

abbrev pub is_task_scope : Purpose → Bool
is_task_scope (opened_for.Block s) = false
is_task_scope (opened_for.Subprogram back to) = false
is_task_scope (opened_for.EntryBody c) = false
is_task_scope opened_for.Task = true

-- a task whose outermost scope is kept is completed here
unfoldable pub complete_if_task : Image → Who → Purpose → Step
complete_if_task p name purpose =
    looks (λ w. when (is_task_scope purpose) (complete p name name ▷ fall_from p name w))

unfoldable pub wait_for_dependents : Who → RegionNo → Step
wait_for_dependents name r = looks (λ w. when (has_dependents w r) (block TheBlock name (waits_for.Dependents r)))

unfoldable pub leave_region : Image → Who → ScopeMark → Leaving → RegionNo → Step
leave_region p name m leaving r =
    changes (edit_top_scope name being_left_mark) ▷ changes (edit_top name (left_so_frame leaving))
    ▷ says Own (line.Leave name r (leaves_as leaving))
    ▷ looks (λ w. for_each (filter (is_made_in r) w.tasks) (end_made p name))
    ▷ complete_if_task p name m.purpose ▷ wait_for_dependents name r

-- ---- a scope has ended

-- a task's outermost scope ends the task; that of the environment task ends the run
abbrev pub exception_in : Leaving → Option Raised
exception_in (how.Exception e) = Some e
exception_in how.End = None
exception_in how.Return = None
exception_in (how.Exit loop) = None
exception_in how.Abort = None
exception_in how.Terminate = None

abbrev pub is_environment : Who → Bool
is_environment (who.Task t) = eqb t.0 0
is_environment who.Agent = false

abbrev pub end_environment : Leaving → World → World
end_environment leaving w = record w { ended = Some (exception_in leaving) }

abbrev pub fails_by : World → Who → Leaving → Bool
fails_by w name leaving = is_some (exception_in leaving) && not (task_of w name).abnormal

unfoldable pub end_task : Image → Who → Leaving → Step
end_task p name leaving =
    says_done Own name ▷ looks (λ w. end_activation p name name (fails_by w name leaving)) ▷ terminate p name name
    ▷ when (is_environment name) (changes (end_environment leaving))

-- a body that was left by its end or by a return has ended normally
abbrev pub is_normal : Leaving → Bool
is_normal how.End = true
is_normal how.Return = true
is_normal (how.Exit loop) = false
is_normal (how.Exception e) = false
is_normal how.Abort = false
is_normal how.Terminate = false

abbrev pub end_body : Image → Who → Leaving → Step → Step
end_body p name leaving normally = elim (is_normal leaving) [ true ↦ normally | false ↦ pass_on p name leaving ]

unfoldable pub behind_scope : Image → Who → Purpose → List Value → Leaving → Step
behind_scope p name (opened_for.Block s) cells leaving = pass_on p name leaving
behind_scope p name (opened_for.Subprogram back to) cells leaving =
    end_body p name leaving (end_subprogram p name cells back to leaving)
behind_scope p name (opened_for.EntryBody c) cells leaving =
    end_body p name leaving (end_body_of_entry p c cells leaving)
behind_scope p name opened_for.Task cells leaving = end_task p name leaving

-- Program_Error where a Finalize raised, unless the scope was left by abort or a terminate alternative (7.6.1)
abbrev pub is_dropped : Leaving → Bool
is_dropped how.Abort = true
is_dropped how.Terminate = true
is_dropped how.End = false
is_dropped how.Return = false
is_dropped (how.Exit loop) = false
is_dropped (how.Exception e) = false

abbrev pub raises_behind : ScopeMark → Leaving → Bool
raises_behind m leaving = m.finalize_raised && not (is_dropped leaving)

abbrev pub left_by : ScopeMark → Leaving → Leaving
left_by m leaving = cond (raises_behind m leaving) (how.Exception exception.Program) leaving

unfoldable pub says_left : Who → ScopeMark → Leaving → Step
says_left name m leaving =
    for_some m.region (λ r. says Own (line.Left name r))
    ▷ when (raises_behind m leaving) (says Own (line.Raise name exception.Program))

unfoldable pub end_of_scope : Image → Who → ScopeMark → Leaving → Step
end_of_scope p name m leaving =
    looks (λ w. changes (pop name) ▷ changes (end_scope m.within) ▷ says_left name m leaving
    ▷ behind_scope p name m.purpose (cells_of (scope_in_use w m.within)) (left_by m leaving))

-- a kept scope's leaving begins, finalizes one object, or has ended
unfoldable pub go_on_leaving : Image → Who → ScopeMark → Leaving → RegionNo → Bool → Step
go_on_leaving p name m leaving r false = leave_region p name m leaving r
go_on_leaving p name m leaving r true =
    looks (λ w. elim (next_to_finalize w r) [ None ↦ end_of_scope p name m leaving | Some x ↦ finalize p name x ])

unfoldable pub end_scope_mark_of : Image → Who → ScopeMark → Leaving → Option RegionNo → Step
end_scope_mark_of p name m leaving None = end_of_scope p name m leaving
end_scope_mark_of p name m leaving (Some r) = go_on_leaving p name m leaving r m.being_left

unfoldable pub end_scope_mark : Image → Who → ScopeMark → Leaving → Step
end_scope_mark p name m leaving = end_scope_mark_of p name m leaving m.region

-- ---- abort (9.8): the named tasks and all that depend on them become abnormal

abbrev pub named_tasks : Seen → List DeclNo → Valued (List TaskNo)
named_tasks q [] = Ok []
named_tasks q (d ∷ ds) = thing q d >>= λ v. named_tasks q ds >>= λ rest. Ok (cons_option (task_in v) rest)

abbrev pub is_to_abort : World → List TaskNo → world.Task → Bool
is_to_abort w aborted t = not t.abnormal
    && list_any (λ n. same_who (who.Task n) t.who || depends_on_task w (who.Task n) t) aborted

abbrev pub abnormal_task : world.Task → world.Task
abnormal_task t = record t { abnormal = true }

unfoldable pub says_abort : Who → Who → Step
says_abort (who.Task actor) (who.Task t) = says Own (line.Abort actor t)
says_abort (who.Task actor) who.Agent = nothing
says_abort who.Agent t = nothing

-- a task that is made and not activated terminates at once; another's outermost scope is struck
unfoldable pub abort_one : Image → Who → world.Task → Step
abort_one p actor t =
    says_abort actor t.who ▷ cond (is_made t) (end_made p actor t) (changes (strike_outermost t.who))

-- who acts is unwound where it is ready; where it has blocked in this effect it waits on, and a later effect unwinds it
unfoldable pub unwind_by : Image → Who → Bool → Step
unwind_by p name false = unwind p (OfOther name) name
unwind_by p name true = looks (λ w. when (is_runnable (task_of w name)) (unwind p Own name))

unfoldable pub unwind_one : Image → Who → world.Task → Step
unwind_one p actor t = unwind_by p t.who (same_who actor t.who)

unfoldable pub abort_all : Image → Who → List world.Task → Step
abort_all p actor tasks =
    for_each tasks (λ t. changes (edit_task t.who abnormal_task)) ▷ for_each tasks (abort_one p actor)
    ▷ for_each tasks (unwind_one p actor)

unfoldable pub abort_statement : Image → Who → StatementNo → List DeclNo → Step
abort_statement p name s tasks =
    sees p name (λ q. raise_if name (in_protected q.world name) exception.Program
    (given Own name (named_tasks q tasks) (λ aborted. goes name (next_of p s)
    ▷ looks (λ w. abort_all p name (filter (is_to_abort w aborted) w.tasks)))))

-- ---- what an effect brings about elsewhere

-- a task that has come to its select with an open terminate alternative blocks there
unfoldable pub block_at_terminate : Who → Option Waiting → Step
block_at_terminate name None = nothing
block_at_terminate name (Some waiting) = when (waits_at_terminate (Some waiting)) (says_block TheBlock name waiting)

-- tasks at open terminate alternatives that may end become ready, in order of number
unfoldable pub take_terminates : Image → Who → Step
take_terminates p actor =
    looks (λ w. for_each (filter (may_terminate w) w.tasks) (leave_by_terminate p actor))
    ▷ looks (λ w. block_at_terminate actor (waiting_of w actor))

-- tasks whose struck constructs may be left now
unfoldable pub unwind_all : Image → Who → Step
unwind_all p actor = looks (λ w. for_each (filter (λ t. any_struck t.frames) w.tasks) (unwind_one p actor))
