-- Tasks that are created, activated, awaited and aborted, and scopes that are left: each step keeps the cells right.
use Rattle.std.specs.Prelude.{ℕ, Bool, true, false, List, Option, Some, None}
use Rattle.ann_base.specs.declared.identities.RegionNo.{RegionNo}
use Rattle.trace_text.specs.declared.events.Who.{Who}
use Rattle.trace_text.specs.declared.events.Who.TheVariants as who
use Rattle.profile_image.specs.declared.image.Image.{Image}
use Rattle.profile_image.specs.declared.numbers.DeclNo.{DeclNo}
use Rattle.profile_image.specs.declared.numbers.StatementNo.{StatementNo}
use Rattle.profile_machine.specs.declared.run_data.Leaving.{Leaving}
use Rattle.profile_image.specs.declared.values.Value.{Value}
use Rattle.profile_machine.specs.declared.world.World.{World}
use Rattle.profile_machine.specs.declared.world.marks.ScopeMark.{ScopeMark}
use Rattle.profile_machine.specs.declared.world.scopes.ScopeId.{ScopeId}
use Rattle.profile_machine.specs.declared.world.marks.Purpose.{Purpose}
use Rattle.profile_machine.specs.declared.world.tasks.Waiting.{Waiting}
use Rattle.profile_machine.specs.declared.world.marks.Purpose.TheVariants as opened_for
use Rattle.profile_machine.specs.declared.world.tasks.Task as world
use Rattle.profile_image.specs.Program.{scope_of}
use Rattle.profile_machine.specs.declared.world.lines.Part.{Part}
use Rattle.profile_machine.specs.Steps.{Step}
use Rattle.profile_machine.specs.Frames.{has_room, pass_on}
use Rattle.profile_machine.specs.Controlled.{next_to_finalize, finalize}
use Rattle.profile_machine.specs.Tasking.{add_task, says_created, create_task, create, fall_from, unit_of_task, begin_task, says_done, fail_to_begin}
use Rattle.profile_machine.specs.Tasking.{activate_one, await_group, activate_group, activate, end_own_activation, end_made, complete_if_task}
use Rattle.profile_machine.specs.Tasking.{wait_for_dependents, leave_region, end_environment, end_task, is_normal, end_body, behind_scope, says_left}
use Rattle.profile_machine.specs.Tasking.{end_of_scope, go_on_leaving, end_scope_mark_of, end_scope_mark, says_abort, abort_one, unwind_by}
use Rattle.profile_machine.specs.Tasking.{unwind_one, abort_all, abort_statement, block_at_terminate, take_terminates, unwind_all}
use Rattle.world_laws.proofs.Cells.RightCells.{Right, Keeps, Alters, then-keeps, nothing-keeps, changes-keeps, says-keeps, looks-keeps}
use Rattle.world_laws.proofs.Cells.RightCells.{sees-keeps, branch-keeps, cond-keeps, option-keeps, when-keeps, for_some-keeps, for_each-keeps}
use Rattle.world_laws.proofs.Cells.Kept.Tasks.{edit_task-alters}
use Rattle.world_laws.proofs.Cells.Kept.Dispatching.{to_head-keeps, ready-keeps, says_block-keeps, block-keeps}
use Rattle.world_laws.proofs.Cells.Kept.Frames.{edit_top-alters, goes-keeps, pop-alters, raises-keeps, pass_on-keeps, given-keeps, raise_if-keeps}
use Rattle.world_laws.proofs.Cells.Kept.Scopes.{open_scope-alters, end_scope-alters}
use Rattle.world_laws.proofs.Cells.Kept.Unwinding.{strike_outermost-alters, unwind-keeps}
use Rattle.world_laws.proofs.Cells.Kept.Masters.{end_activation-keeps, complete-keeps, terminate-keeps, leave_by_terminate-keeps}
use Rattle.world_laws.proofs.Cells.Kept.Subprograms.{end_subprogram-keeps}
use Rattle.world_laws.proofs.Cells.Kept.Serving.{end_body_of_entry-keeps}
use Rattle.world_laws.proofs.Cells.Kept.Controlled.{edit_top_scope-alters, finalize-keeps}
use Rattle.world_laws.proofs.Cells.Kept.Declarations.{set_thing-alters}

-- ---- the creation of a task (9.1)

pub add_task-alters : {p : Image} (t : world.Task) → Alters p (add_task t)
unfolding Right
add_task-alters t = record { at = λ w right. right }

pub says_created-keeps : {p : Image} (d : DeclNo) (t : world.Task) → Keeps p (says_created d t)
unfolding says_created
says_created-keeps d t = search (looks-keeps, says-keeps)

pub create_task-keeps : (p : Image) (name : Who) (s : StatementNo) (d : DeclNo) (id : Option ScopeId) (t : world.Task) → Keeps p (create_task p name s d id t)
unfolding create_task
create_task-keeps p name s d id t =
    search (goes-keeps, then-keeps, changes-keeps, add_task-alters, for_some-keeps, looks-keeps, set_thing-alters, says_created-keeps) depth 14

pub create-keeps : (p : Image) (name : Who) (s : StatementNo) (d : DeclNo) (declarative_part : ℕ) → Keeps p (create p name s d declarative_part)
unfolding create
create-keeps p name s d declarative_part = search (sees-keeps, raise_if-keeps, given-keeps, create_task-keeps) depth 8

pub fall_from-keeps : (p : Image) (name : Who) (before : World) → Keeps p (fall_from p name before)
unfolding fall_from
fall_from-keeps p name before = search (looks-keeps, when-keeps, to_head-keeps) depth 6

-- ---- activation (9.2)

pub begin_task-keeps : (p : Image) (activator : Who) (level : ℕ) (t : world.Task) → Keeps p (begin_task p activator level t)
unfolding begin_task
begin_task-keeps p activator level t = search (looks-keeps, changes-keeps, open_scope-alters, then-keeps, edit_task-alters, ready-keeps) depth 14

pub says_done-keeps : {p : Image} (part : Part) (name : Who) → Keeps p (says_done part name)
unfolding says_done
says_done-keeps part (who.Task t) = search (says-keeps)
says_done-keeps part who.Agent = search (nothing-keeps)

pub fail_to_begin-keeps : (p : Image) (activator : Who) (t : world.Task) → Keeps p (fail_to_begin p activator t)
unfolding fail_to_begin
fail_to_begin-keeps p activator t = search (says-keeps, then-keeps, says_done-keeps, changes-keeps, edit_task-alters, terminate-keeps) depth 11

pub activate_one-keeps : (p : Image) (activator : Who) (level : ℕ) (t : world.Task) → Keeps p (activate_one p activator level t)
unfolding activate_one
activate_one-keeps p activator level t =
    looks-keeps _
    (λ w right. branch-keeps (has_room w t.who 1 (scope_of p (unit_of_task p t).scope).size) (begin_task p activator level t) (fail_to_begin p activator t)
    (search (begin_task-keeps)) (search (fail_to_begin-keeps)))

pub await_group-keeps : {p : Image} (name : Who) (test failed : Bool) → Keeps p (await_group name test failed)
unfolding await_group
await_group-keeps name true failed = search (block-keeps)
await_group-keeps name false true = search (raises-keeps)
await_group-keeps name false false = search (nothing-keeps)

pub activate_group-keeps : (p : Image) (name : Who) (s : StatementNo) (declarative_part : ℕ) → Keeps p (activate_group p name s declarative_part)
unfolding activate_group
activate_group-keeps p name s declarative_part =
    search (looks-keeps, goes-keeps, then-keeps, changes-keeps, edit_task-alters, for_each-keeps, activate_one-keeps, await_group-keeps) depth 14

pub activate-keeps : (p : Image) (name : Who) (s : StatementNo) (declarative_part : ℕ) → Keeps p (activate p name s declarative_part)
unfolding activate
activate-keeps p name s declarative_part = search (looks-keeps, raise_if-keeps, activate_group-keeps) depth 6

pub end_own_activation-keeps : (p : Image) (name : Who) (s : StatementNo) → Keeps p (end_own_activation p name s)
unfolding end_own_activation
end_own_activation-keeps p name s = search (looks-keeps, goes-keeps, then-keeps, end_activation-keeps, fall_from-keeps) depth 9

-- ---- a kept scope is left (7.6.1, 9.3)

pub end_made-keeps : (p : Image) (actor : Who) (t : world.Task) → Keeps p (end_made p actor t)
unfolding end_made
end_made-keeps p actor t = search (says_done-keeps, then-keeps, terminate-keeps) depth 6

pub complete_if_task-keeps : (p : Image) (name : Who) (purpose : Purpose) → Keeps p (complete_if_task p name purpose)
unfolding complete_if_task
complete_if_task-keeps p name purpose = search (looks-keeps, when-keeps, complete-keeps, then-keeps, fall_from-keeps) depth 8

pub wait_for_dependents-keeps : {p : Image} (name : Who) (r : RegionNo) → Keeps p (wait_for_dependents name r)
unfolding wait_for_dependents
wait_for_dependents-keeps name r = search (looks-keeps, when-keeps, block-keeps) depth 6

pub leave_region-keeps : (p : Image) (name : Who) (m : ScopeMark) (leaving : Leaving) (r : RegionNo) → Keeps p (leave_region p name m leaving r)
unfolding leave_region
leave_region-keeps p name m leaving r =
    search (
      changes-keeps,
      edit_top_scope-alters,
      then-keeps,
      edit_top-alters,
      says-keeps,
      looks-keeps,
      for_each-keeps,
      end_made-keeps,
      complete_if_task-keeps,
      wait_for_dependents-keeps,
    ) depth 14

-- ---- a scope has ended

pub end_environment-alters : {p : Image} (leaving : Leaving) → Alters p (end_environment leaving)
unfolding Right
end_environment-alters leaving = record { at = λ w right. right }

pub end_task-keeps : (p : Image) (name : Who) (leaving : Leaving) → Keeps p (end_task p name leaving)
unfolding end_task
end_task-keeps p name leaving =
    search (says_done-keeps, then-keeps, looks-keeps, end_activation-keeps, terminate-keeps, when-keeps, changes-keeps, end_environment-alters) depth 13

pub end_body-keeps : (p : Image) (name : Who) (leaving : Leaving) (normally : Step) → Keeps p normally → Keeps p (end_body p name leaving normally)
end_body-keeps p name leaving normally kept = branch-keeps (is_normal leaving) normally (pass_on p name leaving) kept (pass_on-keeps p name leaving)

pub behind_scope-keeps : (p : Image) (name : Who) (purpose : Purpose) (cells : List Value) (leaving : Leaving)
    → Keeps p (behind_scope p name purpose cells leaving)
unfolding behind_scope
behind_scope-keeps p name (opened_for.Block s) cells leaving = search (pass_on-keeps)
behind_scope-keeps p name (opened_for.Subprogram back to) cells leaving = search (end_body-keeps, end_subprogram-keeps)
behind_scope-keeps p name (opened_for.EntryBody c) cells leaving = search (end_body-keeps, end_body_of_entry-keeps)
behind_scope-keeps p name opened_for.Task cells leaving = search (end_task-keeps)

pub says_left-keeps : {p : Image} (name : Who) (m : ScopeMark) (leaving : Leaving) → Keeps p (says_left name m leaving)
unfolding says_left
says_left-keeps name m leaving = search (for_some-keeps, says-keeps, then-keeps, when-keeps) depth 8

pub end_of_scope-keeps : (p : Image) (name : Who) (m : ScopeMark) (leaving : Leaving) → Keeps p (end_of_scope p name m leaving)
unfolding end_of_scope
end_of_scope-keeps p name m leaving =
    search (looks-keeps, changes-keeps, pop-alters, then-keeps, end_scope-alters, says_left-keeps, behind_scope-keeps) depth 13

pub go_on_leaving-keeps : (p : Image) (name : Who) (m : ScopeMark) (leaving : Leaving) (r : RegionNo) (test : Bool)
    → Keeps p (go_on_leaving p name m leaving r test)
unfolding go_on_leaving
go_on_leaving-keeps p name m leaving r false = leave_region-keeps p name m leaving r
go_on_leaving-keeps p name m leaving r true =
    looks-keeps _
    (λ w right. option-keeps (next_to_finalize w r) (end_of_scope p name m leaving) (λ x. finalize p name x) (end_of_scope-keeps p name m leaving)
    (λ x. finalize-keeps p name x))

pub end_scope_mark_of-keeps : (p : Image) (name : Who) (m : ScopeMark) (leaving : Leaving) (found : Option RegionNo)
    → Keeps p (end_scope_mark_of p name m leaving found)
unfolding end_scope_mark_of
end_scope_mark_of-keeps p name m leaving None = search (end_of_scope-keeps)
end_scope_mark_of-keeps p name m leaving (Some r) = search (go_on_leaving-keeps)

pub end_scope_mark-keeps : (p : Image) (name : Who) (m : ScopeMark) (leaving : Leaving) → Keeps p (end_scope_mark p name m leaving)
unfolding end_scope_mark
end_scope_mark-keeps p name m leaving = search (end_scope_mark_of-keeps)

-- ---- abort (9.8)

pub says_abort-keeps : {p : Image} (name t : Who) → Keeps p (says_abort name t)
unfolding says_abort
says_abort-keeps (who.Task actor) (who.Task t) = search (says-keeps)
says_abort-keeps (who.Task actor) who.Agent = search (nothing-keeps)
says_abort-keeps who.Agent t = search (nothing-keeps)

pub abort_one-keeps : (p : Image) (actor : Who) (t : world.Task) → Keeps p (abort_one p actor t)
unfolding abort_one
abort_one-keeps p actor t = search (says_abort-keeps, then-keeps, cond-keeps, end_made-keeps, changes-keeps, strike_outermost-alters) depth 9

pub unwind_by-keeps : (p : Image) (name : Who) (test : Bool) → Keeps p (unwind_by p name test)
unfolding unwind_by
unwind_by-keeps p name false = search (unwind-keeps)
unwind_by-keeps p name true = search (looks-keeps, when-keeps, unwind-keeps) depth 6

pub unwind_one-keeps : (p : Image) (actor : Who) (t : world.Task) → Keeps p (unwind_one p actor t)
unfolding unwind_one
unwind_one-keeps p actor t = search (unwind_by-keeps)

pub abort_all-keeps : (p : Image) (actor : Who) (tasks : List world.Task) → Keeps p (abort_all p actor tasks)
unfolding abort_all
abort_all-keeps p actor tasks = search (for_each-keeps, changes-keeps, edit_task-alters, then-keeps, abort_one-keeps, unwind_one-keeps) depth 12

pub abort_statement-keeps : (p : Image) (name : Who) (s : StatementNo) (tasks : List DeclNo) → Keeps p (abort_statement p name s tasks)
unfolding abort_statement
abort_statement-keeps p name s tasks = search (sees-keeps, raise_if-keeps, given-keeps, goes-keeps, then-keeps, looks-keeps, abort_all-keeps) depth 10

-- ---- what an effect brings about elsewhere

pub block_at_terminate-keeps : {p : Image} (name : Who) (found : Option Waiting) → Keeps p (block_at_terminate name found)
unfolding block_at_terminate
block_at_terminate-keeps name None = search (nothing-keeps)
block_at_terminate-keeps name (Some waiting) = search (when-keeps, says_block-keeps)

pub take_terminates-keeps : (p : Image) (actor : Who) → Keeps p (take_terminates p actor)
unfolding take_terminates
take_terminates-keeps p actor = search (looks-keeps, for_each-keeps, leave_by_terminate-keeps, then-keeps, block_at_terminate-keeps) depth 9

pub unwind_all-keeps : (p : Image) (actor : Who) → Keeps p (unwind_all p actor)
unfolding unwind_all
unwind_all-keeps p actor = search (looks-keeps, for_each-keeps, unwind_one-keeps) depth 6
