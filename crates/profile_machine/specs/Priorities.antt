-- Base priorities and deadlines that are set (D.5.1, D.2.6).
use Rattle.std.specs.Prelude.{ℕ, ℤ, pos, ◌+ℤ◌, int_le, nat_abs, Bool, true, false, cond}
use Rattle.std.specs.Prelude.{not, ◌&&◌, ◌||◌, Option, Some, None, is_some, is_none}
use Rattle.ann_base.specs.Results.{◌>>=◌}
use Rattle.ann_base.specs.declared.identities.CallNo.{CallNo}
use Rattle.ann_base.specs.declared.exceptions.Raised.TheVariants as exception
use Rattle.profile_image.specs.declared.limits.TheConstants.{LAST_QUANTUM}
use Rattle.profile_machine.specs.declared.world.lines.Line.TheVariants as line
use Rattle.trace_text.specs.declared.events.Who.{Who}
use Rattle.trace_text.specs.declared.events.Who.TheVariants as who
use Rattle.profile_image.specs.declared.image.Image.{Image}
use Rattle.profile_image.specs.declared.image.Queuing.{Queuing}
use Rattle.profile_image.specs.declared.image.Queuing.TheVariants as queuing
use Rattle.profile_image.specs.declared.numbers.ExprNo.{ExprNo}
use Rattle.profile_image.specs.declared.numbers.StatementNo.{StatementNo}
use Rattle.profile_machine.specs.declared.world.World.{World}
use Rattle.profile_machine.specs.declared.world.calls.Call.{Call}
use Rattle.profile_machine.specs.declared.world.tasks.State.{State}
use Rattle.profile_machine.specs.declared.world.tasks.Waiting.{Waiting}
use Rattle.profile_machine.specs.declared.world.tasks.Waiting.TheVariants as waits_for
use Rattle.profile_machine.specs.declared.world.tasks.State.TheVariants.{Made, Runnable, Blocked}
use Rattle.profile_machine.specs.declared.world.tasks.Task as world
use Rattle.profile_image.specs.Words.{same_who, edit_at}
use Rattle.profile_image.specs.Program.{next_of, edf_low, has_edf, interrupt_priority, is_edf_level, is_robin_level}
use Rattle.profile_machine.specs.declared.world.lines.Part.{Part}
use Rattle.profile_machine.specs.declared.world.lines.Part.TheVariants.{Own, ThePlacing}
use Rattle.profile_machine.specs.Steps.{Step, says, changes, looks, when, nothing, for_some, ◌▷◌}
use Rattle.profile_machine.specs.Tasks.{task_of, edit_task, found_task}
use Rattle.profile_machine.specs.Dispatching.{active_of, to_tail}
use Rattle.profile_machine.specs.Frames.{goes, given, raise_if, in_protected}
use Rattle.profile_machine.specs.Operators.{Valued, unless, held_moment}
use Rattle.profile_machine.specs.Values.{value, moment, optional_task, whole_in, live_task, must_be_task}
use Rattle.profile_machine.specs.Calls.{with_call, edit_call, edit_queue, place_of_entry, take_call, put_call}
use Rattle.profile_machine.specs.Masters.{part_of}
use Rattle.profile_machine.specs.Statements.{sees, delay_to}

-- ---- the call of a blocked caller gets its new active priority (9.5.3, D.4)

abbrev pub is_queued : Call → Bool
is_queued c = not c.begun && is_none c.outcome

abbrev pub with_priority : ℕ → Call → Call
with_priority level c = record c { priority = level }

-- by Priority_Queuing behind the calls of that priority; by FIFO_Queuing it keeps its place
abbrev pub placed_anew : Queuing → Image → Call → ℕ → World → World
placed_anew queuing.Fifo p c level w = w
placed_anew queuing.Priority p c level w =
    edit_queue c.owner (place_of_entry p c.entry)
    (λ q. put_call queuing.Priority w c.number level (take_call c.number q)) w

unfoldable pub reprioritize : Image → ℕ → Call → Step
reprioritize p level c =
    when (is_queued c) (changes (edit_call c.number (with_priority level))
    ▷ changes (placed_anew p.policies.queuing p c level))

abbrev pub call_waited_for : Waiting → Option CallNo
call_waited_for waits_for.Activation = None
call_waited_for waits_for.Moment = None
call_waited_for (waits_for.Call c) = Some c
call_waited_for (waits_for.EndOfCall c) = Some c
call_waited_for (waits_for.Accept s) = None
call_waited_for (waits_for.Select accepts delay terminate) = None
call_waited_for (waits_for.Dependents r) = None
call_waited_for waits_for.Release = None

unfoldable pub reprioritize_own : Image → Who → Waiting → Step
reprioritize_own p name waiting =
    looks (λ w. for_some (call_waited_for waiting) (λ c. with_call c (reprioritize p (active_of p w name))))

-- a ready task goes to the tail of its level, whether the level changes or not
unfoldable pub replace_in : Image → Part → Who → State → Step
replace_in p part name Made = nothing
replace_in p part name Runnable = to_tail p part name
replace_in p part name (Blocked waiting) = reprioritize_own p name waiting

unfoldable pub says_base : Part → Who → ℕ → Step
says_base part (who.Task t) level = says part (line.Base t level)
says_base part who.Agent level = nothing

unfoldable pub set_base : Image → Part → Part → Who → ℕ → Step
set_base p part placing name level =
    changes (edit_task name (λ t. record t { base = level })) ▷ says_base part name level
    ▷ looks (λ w. replace_in p placing name (task_of w name).state)

-- ---- deadlines

unfoldable pub says_deadline : Part → Who → ℤ → Step
says_deadline part (who.Task t) d = says part (line.Deadline t d)
says_deadline part who.Agent d = nothing

abbrev pub is_runnable_at_edf : Image → World → Who → State → Bool
is_runnable_at_edf p w name Made = false
is_runnable_at_edf p w name Runnable = is_edf_level p (active_of p w name)
is_runnable_at_edf p w name (Blocked waiting) = false

-- a ready task on an EDF level goes to the tail, with the new deadline
unfoldable pub set_deadline : Image → Part → Part → Who → ℤ → Step
set_deadline p part placing name d =
    changes (edit_task name (λ t. record t { deadline = d })) ▷ says_deadline part name d
    ▷ looks (λ w. when (is_runnable_at_edf p w name (task_of w name).state) (to_tail p placing name))

-- ---- what was deferred is set at the end of the outermost protected action: the base priority, then the deadline

unfoldable pub take_base : Image → Who → Option ℕ → Step
take_base p name None = nothing
take_base p name (Some level) = changes (edit_task name (λ t. record t { deferred_base = None }))
    ▷ set_base p ThePlacing ThePlacing name level

unfoldable pub take_deadline : Image → Who → Option ℤ → Step
take_deadline p name None = nothing
take_deadline p name (Some d) = changes (edit_task name (λ t. record t { deferred_deadline = None }))
    ▷ set_deadline p ThePlacing ThePlacing name d

unfoldable pub set_deferred : Image → Who → Step
set_deferred p name =
    looks (λ w. when (not (in_protected w name)) (take_base p name (task_of w name).deferred_base
    ▷ take_deadline p name (task_of w name).deferred_deadline))

-- ---- Set_Priority (D.5.1)

-- the part for the placing of somebody: of who acts, or of another
abbrev pub placing_of : Who → Who → Part
placing_of actor name = cond (same_who actor name) ThePlacing (part_of actor name)

-- from or into an EDF range Program_Error is raised (own)
abbrev pub is_edf_base : Image → ℕ → Bool
is_edf_base p level = is_some (edf_low p level)

unfoldable pub defer_base : Who → ℕ → Step
defer_base name level = changes (edit_task name (λ t. record t { deferred_base = Some level }))

-- it is deferred while its target is inside a protected action
unfoldable pub set_or_defer_base : Image → Who → Who → ℕ → Step
set_or_defer_base p actor name level =
    looks (λ w. elim (in_protected w name) [
      | true ↦ defer_base name level
      | false ↦ set_base p (part_of actor name)
          (placing_of actor name) name level
    ])

unfoldable pub set_base_of : Image → Who → StatementNo → ℕ → Option world.Task → Step
set_base_of p actor s level None = goes actor (next_of p s)
set_base_of p actor s level (Some t) =
    raise_if actor (is_edf_base p t.base || is_edf_base p level) exception.Program
    (goes actor (next_of p s) ▷ set_or_defer_base p actor t.who level)

abbrev pub priority_in_range : ℕ → ℤ → Valued ℕ
priority_in_range last n = unless (int_le (pos 0) n && int_le n (pos last)) exception.Constraint (nat_abs n)

-- on a task that has terminated it has no effect
unfoldable pub set_priority : Image → Who → StatementNo → ExprNo → Option ExprNo → Step
set_priority p name s e task =
    sees p name (λ q. given Own name (optional_task q task >>= must_be_task) (λ t.
    given Own name (value q e >>= λ v. priority_in_range (interrupt_priority p) (whole_in v)) (λ level.
    set_base_of p name s level (found_task (who.Task t) q.world.tasks))))

-- ---- Set_Quantum (D.2.5)

abbrev pub quantum_in_range : ℤ → Bool
quantum_in_range n = int_le (pos 1) n && int_le n LAST_QUANTUM

abbrev pub quantum_of : Image → ℕ → ℤ → Valued ℕ
quantum_of p level n = unless (is_robin_level p level && quantum_in_range n) exception.DispatchingPolicy (nat_abs n)

unfoldable pub set_quantum : Image → Who → StatementNo → ExprNo → ExprNo → Step
set_quantum p name s level quantum =
    sees p name (λ q. given Own name (value q level) (λ v. given Own name (moment q quantum) (λ n.
    given Own name (priority_in_range p.policies.last_priority (whole_in v)) (λ l.
    given Own name (quantum_of p l n) (λ ticks.
    goes name (next_of p s) ▷ changes (λ w. record w { quanta = edit_at l (λ _. ticks) w.quanta }))))))

-- ---- Set_Deadline, Delay_Until_And_Set_Deadline (D.2.6)

unfoldable pub defer_deadline : Who → ℤ → Step
defer_deadline name d = changes (edit_task name (λ t. record t { deferred_deadline = Some d }))

-- in a source with an EDF range it is deferred while its target is inside a protected action
unfoldable pub set_or_defer_deadline : Image → Who → Who → ℤ → Step
set_or_defer_deadline p actor name d =
    looks (λ w. elim (in_protected w name
    && has_edf p) [
      | true ↦ defer_deadline name d
      | false ↦ set_deadline p (part_of actor name)
          (placing_of actor name) name d
    ])

unfoldable pub set_deadline_of : Image → Who → StatementNo → ExprNo → Option ExprNo → Step
set_deadline_of p name s e task =
    sees p name (λ q. given Own name (optional_task q task >>= λ t. live_task q.world t) (λ t.
    given Own name (moment q e) (λ d. goes name (next_of p s) ▷ set_or_defer_deadline p name t.who d)))

unfoldable pub delay_with_deadline : Image → Who → StatementNo → ℤ → ℤ → Step
delay_with_deadline p name s until offset =
    goes name (next_of p s) ▷ changes (edit_task name (λ t. record t { deadline = held_moment (until +ℤ offset) }))
    ▷ says_deadline Own name (held_moment (until +ℤ offset)) ▷ delay_to p name until

-- it is a delay, so inside a protected action it raises Program_Error (own)
unfoldable pub delay_and_set_deadline : Image → Who → StatementNo → ExprNo → ExprNo → Step
delay_and_set_deadline p name s until offset =
    sees p name (λ q. raise_if name (in_protected q.world name) exception.Program
    (given Own name (moment q until) (λ m. given Own name (moment q offset) (λ o. delay_with_deadline p name s m o))))
