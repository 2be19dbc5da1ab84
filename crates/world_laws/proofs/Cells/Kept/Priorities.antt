-- Priorities and deadlines that are set: each step keeps the cells right.
use Rattle.std.specs.Prelude.{ℕ, ℤ, ◌&&◌, Option, Some, None}
use Rattle.trace_text.specs.declared.events.Who.{Who}
use Rattle.trace_text.specs.declared.events.Who.TheVariants as who
use Rattle.profile_image.specs.declared.image.Image.{Image}
use Rattle.profile_image.specs.declared.image.Queuing.{Queuing}
use Rattle.profile_image.specs.declared.image.Queuing.TheVariants as queuing
use Rattle.profile_image.specs.declared.numbers.ExprNo.{ExprNo}
use Rattle.profile_image.specs.declared.numbers.StatementNo.{StatementNo}
use Rattle.profile_machine.specs.declared.world.calls.Call.{Call}
use Rattle.profile_machine.specs.declared.world.tasks.State.{State}
use Rattle.profile_machine.specs.declared.world.tasks.Waiting.{Waiting}
use Rattle.profile_machine.specs.declared.world.tasks.State.TheVariants.{Made, Runnable, Blocked}
use Rattle.profile_machine.specs.declared.world.tasks.Task as world
use Rattle.profile_image.specs.Words.{edit_at}
use Rattle.profile_image.specs.Program.{has_edf}
use Rattle.profile_machine.specs.declared.world.lines.Part.{Part}
use Rattle.profile_machine.specs.Frames.{in_protected}
use Rattle.profile_machine.specs.Calls.{place_of_entry, take_call, put_call}
use Rattle.profile_machine.specs.Masters.{part_of}
use Rattle.profile_machine.specs.Priorities.{placed_anew, reprioritize, reprioritize_own, replace_in, says_base, set_base, says_deadline, set_deadline}
use Rattle.profile_machine.specs.Priorities.{take_base, take_deadline, set_deferred, placing_of, defer_base, set_or_defer_base, set_base_of, set_priority}
use Rattle.profile_machine.specs.Priorities.{set_quantum, defer_deadline, set_or_defer_deadline, set_deadline_of, delay_with_deadline, delay_and_set_deadline}
use Rattle.world_laws.proofs.Cells.RightCells.{Right, Keeps, Alters, then-keeps, nothing-keeps, changes-keeps, says-keeps}
use Rattle.world_laws.proofs.Cells.RightCells.{looks-keeps, sees-keeps, branch-keeps, when-keeps, for_some-keeps}
use Rattle.world_laws.proofs.Cells.Kept.Tasks.{edit_task-alters}
use Rattle.world_laws.proofs.Cells.Kept.Dispatching.{to_tail-keeps}
use Rattle.world_laws.proofs.Cells.Kept.Frames.{goes-keeps, given-keeps, raise_if-keeps}
use Rattle.world_laws.proofs.Cells.Kept.Calls.{edit_call-alters, with_call-keeps, edit_queue-alters}
use Rattle.world_laws.proofs.Cells.Kept.Statements.{delay_to-keeps}

-- ---- the call of a blocked caller gets its new active priority (9.5.3, D.4)

pub placed_anew-alters : (queuing : Queuing) (p : Image) (c : Call) (level : ℕ) → Alters p (placed_anew queuing p c level)
placed_anew-alters queuing.Fifo p c level = record { at = λ w right. right }
placed_anew-alters queuing.Priority p c level = record {
  at = λ w right. (edit_queue-alters c.owner (place_of_entry p c.entry) (λ q. put_call queuing.Priority w c.number level (take_call c.number q))).at w right;
}

pub reprioritize-keeps : (p : Image) (level : ℕ) (c : Call) → Keeps p (reprioritize p level c)
unfolding reprioritize
reprioritize-keeps p level c = search (when-keeps, changes-keeps, edit_call-alters, then-keeps, placed_anew-alters) depth 9

pub reprioritize_own-keeps : (p : Image) (name : Who) (waiting : Waiting) → Keeps p (reprioritize_own p name waiting)
unfolding reprioritize_own
reprioritize_own-keeps p name waiting = search (looks-keeps, for_some-keeps, with_call-keeps, reprioritize-keeps) depth 7

pub replace_in-keeps : (p : Image) (part : Part) (name : Who) (state : State) → Keeps p (replace_in p part name state)
unfolding replace_in
replace_in-keeps p part name Made = search (nothing-keeps)
replace_in-keeps p part name Runnable = search (to_tail-keeps)
replace_in-keeps p part name (Blocked waiting) = search (reprioritize_own-keeps)

pub says_base-keeps : {p : Image} (part : Part) (name : Who) (level : ℕ) → Keeps p (says_base part name level)
unfolding says_base
says_base-keeps part (who.Task t) level = search (says-keeps)
says_base-keeps part who.Agent level = search (nothing-keeps)

pub set_base-keeps : (p : Image) (part placing : Part) (name : Who) (level : ℕ) → Keeps p (set_base p part placing name level)
unfolding set_base
set_base-keeps p part placing name level = search (changes-keeps, edit_task-alters, then-keeps, says_base-keeps, looks-keeps, replace_in-keeps) depth 10

-- ---- deadlines

pub says_deadline-keeps : {p : Image} (part : Part) (name : Who) (d : ℤ) → Keeps p (says_deadline part name d)
unfolding says_deadline
says_deadline-keeps part (who.Task t) d = search (says-keeps)
says_deadline-keeps part who.Agent d = search (nothing-keeps)

pub set_deadline-keeps : (p : Image) (part placing : Part) (name : Who) (d : ℤ) → Keeps p (set_deadline p part placing name d)
unfolding set_deadline
set_deadline-keeps p part placing name d =
    search (changes-keeps, edit_task-alters, then-keeps, says_deadline-keeps, looks-keeps, when-keeps, to_tail-keeps) depth 11

-- ---- what was deferred is set at the end of the outermost protected action

pub take_base-keeps : (p : Image) (name : Who) (found : Option ℕ) → Keeps p (take_base p name found)
unfolding take_base
take_base-keeps p name None = search (nothing-keeps)
take_base-keeps p name (Some level) = search (changes-keeps, edit_task-alters, then-keeps, set_base-keeps) depth 7

pub take_deadline-keeps : (p : Image) (name : Who) (found : Option ℤ) → Keeps p (take_deadline p name found)
unfolding take_deadline
take_deadline-keeps p name None = search (nothing-keeps)
take_deadline-keeps p name (Some d) = search (changes-keeps, edit_task-alters, then-keeps, set_deadline-keeps) depth 7

pub set_deferred-keeps : (p : Image) (name : Who) → Keeps p (set_deferred p name)
unfolding set_deferred
set_deferred-keeps p name = search (looks-keeps, when-keeps, take_base-keeps, then-keeps, take_deadline-keeps) depth 8

-- ---- Set_Priority (D.5.1)

pub defer_base-keeps : {p : Image} (name : Who) (level : ℕ) → Keeps p (defer_base name level)
unfolding defer_base
defer_base-keeps name level = search (changes-keeps, edit_task-alters)

pub set_or_defer_base-keeps : (p : Image) (actor name : Who) (level : ℕ) → Keeps p (set_or_defer_base p actor name level)
unfolding set_or_defer_base
set_or_defer_base-keeps p actor name level =
    looks-keeps _
    (λ w right. branch-keeps (in_protected w name) (defer_base name level) (set_base p (part_of actor name) (placing_of actor name) name level)
    (search (defer_base-keeps)) (search (set_base-keeps)))

pub set_base_of-keeps : (p : Image) (actor : Who) (s : StatementNo) (level : ℕ) (found : Option world.Task) → Keeps p (set_base_of p actor s level found)
unfolding set_base_of
set_base_of-keeps p actor s level None = search (goes-keeps)
set_base_of-keeps p actor s level (Some t) = search (raise_if-keeps, goes-keeps, then-keeps, set_or_defer_base-keeps) depth 7

pub set_priority-keeps : (p : Image) (name : Who) (s : StatementNo) (e : ExprNo) (task : Option ExprNo) → Keeps p (set_priority p name s e task)
unfolding set_priority
set_priority-keeps p name s e task = search (sees-keeps, given-keeps, set_base_of-keeps) depth 7

-- ---- Set_Quantum (D.2.5)

set_quanta-alters : {p : Image} (level ticks : ℕ) → Alters p (λ w. record w { quanta = edit_at level (λ _. ticks) w.quanta })
unfolding Right
set_quanta-alters level ticks = record { at = λ w right. right }

pub set_quantum-keeps : (p : Image) (name : Who) (s : StatementNo) (level quantum : ExprNo) → Keeps p (set_quantum p name s level quantum)
unfolding set_quantum
set_quantum-keeps p name s level quantum = search (sees-keeps, given-keeps, goes-keeps, then-keeps, changes-keeps, set_quanta-alters) depth 11

-- ---- Set_Deadline, Delay_Until_And_Set_Deadline (D.2.6)

pub defer_deadline-keeps : {p : Image} (name : Who) (d : ℤ) → Keeps p (defer_deadline name d)
unfolding defer_deadline
defer_deadline-keeps name d = search (changes-keeps, edit_task-alters)

pub set_or_defer_deadline-keeps : (p : Image) (actor name : Who) (d : ℤ) → Keeps p (set_or_defer_deadline p actor name d)
unfolding set_or_defer_deadline
set_or_defer_deadline-keeps p actor name d =
    looks-keeps _
    (λ w right. branch-keeps (in_protected w name && has_edf p) (defer_deadline name d) (set_deadline p (part_of actor name) (placing_of actor name) name d)
    (search (defer_deadline-keeps)) (search (set_deadline-keeps)))

pub set_deadline_of-keeps : (p : Image) (name : Who) (s : StatementNo) (e : ExprNo) (task : Option ExprNo) → Keeps p (set_deadline_of p name s e task)
unfolding set_deadline_of
set_deadline_of-keeps p name s e task = search (sees-keeps, given-keeps, goes-keeps, then-keeps, set_or_defer_deadline-keeps) depth 9

pub delay_with_deadline-keeps : (p : Image) (name : Who) (s : StatementNo) (until offset : ℤ) → Keeps p (delay_with_deadline p name s until offset)
unfolding delay_with_deadline
delay_with_deadline-keeps p name s until offset = search (goes-keeps, then-keeps, changes-keeps, edit_task-alters, says_deadline-keeps, delay_to-keeps) depth 11

pub delay_and_set_deadline-keeps : (p : Image) (name : Who) (s : StatementNo) (until offset : ExprNo) → Keeps p (delay_and_set_deadline p name s until offset)
unfolding delay_and_set_deadline
delay_and_set_deadline-keeps p name s until offset = search (sees-keeps, raise_if-keeps, given-keeps, delay_with_deadline-keeps) depth 8
