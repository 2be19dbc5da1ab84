-- An instant keeps the cells right.
use Rattle.std.specs.Prelude.{ℕ, zero, suc, ℤ, pos, int_le, Bool, true, false, List, [], ◌∷◌, Option, Some, None}
use Rattle.ann_base.specs.declared.identities.CallNo.{CallNo}
use Rattle.trace_text.specs.declared.events.Who.{Who}
use Rattle.trace_text.specs.declared.events.Who.TheVariants as who
use Rattle.profile_image.specs.declared.image.Image.{Image}
use Rattle.profile_image.specs.declared.script_items.Item.{Item}
use Rattle.profile_image.specs.declared.script_items.Item.TheVariants as item
use Rattle.profile_machine.specs.declared.world.tasks.Waiting.{Waiting}
use Rattle.profile_machine.specs.declared.world.appointments.Due.{Due}
use Rattle.profile_machine.specs.declared.world.appointments.Appointment.{Appointment}
use Rattle.profile_machine.specs.declared.world.appointments.TimerSetting.{TimerSetting}
use Rattle.profile_machine.specs.declared.world.appointments.Due.TheVariants as due_for
use Rattle.profile_machine.specs.declared.world.tasks.Waiting.TheVariants as waits_for
use Rattle.profile_machine.specs.Steps.{Step, changes, nothing, settles, rests, ◌▷◌}
use Rattle.profile_machine.specs.Tasks.{task_of}
use Rattle.profile_machine.specs.Appointments.{first_due}
use Rattle.profile_machine.specs.Instant.{effect, is_over, effect_of_runner, finish_action, with_port, with_masked, with_kept_interrupt}
use Rattle.profile_machine.specs.Instant.{interrupt_comes, deliver_kept_interrupt, script_item, with_script, take_item, items_due, script_items}
use Rattle.profile_machine.specs.Instant.{take_delay, end_delay, time_out, come_due, take_due, all_due, appointments_due, expire, expire_timer}
use Rattle.profile_machine.specs.Instant.{no_timers_due, timers_due, run_out, no_budget_due, budgets_due, spend_quantum, quantum_spent, instant}
use Rattle.profile_machine.specs.Masters.{terminate}
use Rattle.profile_machine.specs.Values.{value}
use Rattle.world_laws.proofs.Cells.RightCells.{Right, Keeps, Alters, Leads, then-keeps, nothing-keeps, changes-keeps, says-keeps, looks-keeps, branch-keeps}
use Rattle.world_laws.proofs.Cells.RightCells.{when-keeps, for_some-keeps, for_each-keeps, then-leads, rests-leads, watches-leads, settles-leads, branch-leads}
use Rattle.world_laws.proofs.Cells.Kept.Tasks.{edit_task-alters}
use Rattle.world_laws.proofs.Cells.Kept.Dispatching.{to_tail-keeps, ready-keeps}
use Rattle.world_laws.proofs.Cells.Kept.Frames.{goes-keeps, open_sequence-keeps, open_if_ready-keeps}
use Rattle.world_laws.proofs.Cells.Kept.Appointments.{drop_appointment-alters}
use Rattle.world_laws.proofs.Cells.Kept.Calls.{with_call-keeps, unqueued-alters}
use Rattle.world_laws.proofs.Cells.Kept.Unwinding.{unwind-keeps}
use Rattle.world_laws.proofs.Cells.Kept.CallEnds.{trigger_at-keeps, deliver-keeps}
use Rattle.world_laws.proofs.Cells.Kept.Tasking.{take_terminates-keeps, unwind_all-keeps}
use Rattle.world_laws.proofs.Cells.Kept.Handlers.{release-keeps, interrupt-keeps, clear_timer-alters}
use Rattle.world_laws.proofs.Cells.Kept.Act.{act-keeps}

-- ---- the effect of the action that ended

pub effect-keeps : (p : Image) (name : Who) → Keeps p (effect p name)
unfolding effect
effect-keeps p name = search (changes-keeps, edit_task-alters, then-keeps, act-keeps, open_if_ready-keeps, take_terminates-keeps, unwind_all-keeps) depth 13

-- ---- items of the script

pub with_port-alters : {p : Image} (n : ℕ) (value : ℤ) → Alters p (with_port n value)
unfolding Right
with_port-alters n value = record { at = λ w right. right }

pub with_masked-alters : {p : Image} (n : ℕ) (flag : Bool) → Alters p (with_masked n flag)
unfolding Right
with_masked-alters n flag = record { at = λ w right. right }

pub with_kept_interrupt-alters : {p : Image} (n : ℕ) (flag : Bool) → Alters p (with_kept_interrupt n flag)
unfolding Right
with_kept_interrupt-alters n flag = record { at = λ w right. right }

pub interrupt_comes-keeps : (p : Image) (n : ℕ) (test : Bool) → Keeps p (interrupt_comes p n test)
unfolding interrupt_comes
interrupt_comes-keeps p n true = search (says-keeps, then-keeps, changes-keeps, with_kept_interrupt-alters) depth 7
interrupt_comes-keeps p n false = search (interrupt-keeps)

pub deliver_kept_interrupt-keeps : (p : Image) (n : ℕ) (test : Bool) → Keeps p (deliver_kept_interrupt p n test)
unfolding deliver_kept_interrupt
deliver_kept_interrupt-keeps p n true = search (changes-keeps, with_kept_interrupt-alters, then-keeps, interrupt-keeps) depth 7
deliver_kept_interrupt-keeps p n false = search (nothing-keeps)

pub script_item-keeps : (p : Image) (it : Item) → Keeps p (script_item p it)
unfolding script_item
script_item-keeps p (item.Interrupt n) = search (looks-keeps, interrupt_comes-keeps)
script_item-keeps p (item.Port n value) = search (changes-keeps, with_port-alters, then-keeps, says-keeps) depth 7
script_item-keeps p (item.Mask n) = search (changes-keeps, with_masked-alters, then-keeps, says-keeps) depth 7
script_item-keeps p (item.Unmask n) = search (changes-keeps, with_masked-alters, then-keeps, says-keeps, looks-keeps, deliver_kept_interrupt-keeps) depth 10

pub with_script-alters : {p : Image} (script : List (ℤ × Item)) → Alters p (with_script script)
unfolding Right
with_script-alters script = record { at = λ w right. right }

pub take_item-keeps : (p : Image) (now : ℕ) (again : Step) (script : List (ℤ × Item)) → Keeps p again → Keeps p (take_item p now again script)
take_item-keeps p now again [] kept = nothing-keeps
take_item-keeps p now again (x ∷ xs) kept =
    branch-keeps (int_le x.0 (pos now)) (changes (with_script xs) ▷ script_item p x.1 ▷ again) nothing
    (then-keeps (changes (with_script xs)) _ (changes-keeps _ (with_script-alters xs))
    (then-keeps (script_item p x.1) again (script_item-keeps p x.1) kept)) nothing-keeps

pub items_due-keeps : (fuel : ℕ) (p : Image) → Keeps p (items_due fuel p)
unfolding items_due
items_due-keeps zero p = nothing-keeps
items_due-keeps (suc fuel) p = looks-keeps _ (λ w right. take_item-keeps p w.time (items_due fuel p) w.script (items_due-keeps fuel p))

-- ---- appointments whose moment is now

pub take_delay-keeps : (p : Image) (name : Who) (found : Option Waiting) → Keeps p (take_delay p name found)
unfolding take_delay
take_delay-keeps p name (Some (waits_for.Select accepts (Some delay) terminate)) = search (goes-keeps)
take_delay-keeps p name _ = search (nothing-keeps)

pub end_delay-keeps : (p : Image) (name : Who) → Keeps p (end_delay p name)
unfolding end_delay
end_delay-keeps p name = search (looks-keeps, take_delay-keeps, then-keeps, ready-keeps, open_sequence-keeps) depth 9

pub time_out-keeps : (p : Image) (c : CallNo) → Keeps p (time_out p c)
unfolding time_out
time_out-keeps p c = search (with_call-keeps, changes-keeps, unqueued-alters, then-keeps, says-keeps, deliver-keeps) depth 10

pub come_due-keeps : (p : Image) (due : Due) → Keeps p (come_due p due)
unfolding come_due
come_due-keeps p (due_for.Event n h) = search (release-keeps)
come_due-keeps p (due_for.Delay t) = search (end_delay-keeps)
come_due-keeps p (due_for.Timeout c) = search (time_out-keeps)
come_due-keeps p (due_for.Trigger t depth) = search (trigger_at-keeps, then-keeps, unwind-keeps) depth 6

pub take_due-keeps : (p : Image) (again : Step) (found : Option Appointment) → Keeps p again → Keeps p (take_due p again found)
take_due-keeps p again None kept = search (nothing-keeps)
take_due-keeps p again (Some a) kept = search (changes-keeps, drop_appointment-alters, then-keeps, come_due-keeps) depth 8

pub all_due-keeps : (fuel : ℕ) (p : Image) (events : Bool) → Keeps p (all_due fuel p events)
unfolding all_due
all_due-keeps zero p events = nothing-keeps
all_due-keeps (suc fuel) p events =
    looks-keeps _ (λ w right. take_due-keeps p (all_due fuel p events) (first_due events w.time w.appointments) (all_due-keeps fuel p events))

-- ---- timers whose value the last tick reached; each is then clear

pub expire-keeps : (p : Image) (k : ℕ) (found : Option TimerSetting) → Keeps p (expire p k found)
unfolding expire
expire-keeps p k None = search (nothing-keeps)
expire-keeps p k (Some s) = search (changes-keeps, clear_timer-alters, then-keeps, release-keeps) depth 7

pub expire_timer-keeps : (p : Image) (k : ℕ) → Keeps p (expire_timer p k)
unfolding expire_timer
expire_timer-keeps p k = search (looks-keeps, expire-keeps)

pub no_timers_due-alters : {p : Image} → Alters p no_timers_due
unfolding Right
no_timers_due-alters = record { at = λ w right. right }

-- ---- the budget that the last tick brought to zero; its handler stays set

pub run_out-keeps : (p : Image) (b : ℕ) → Keeps p (run_out p b)
unfolding run_out
run_out-keeps p b = search (looks-keeps, for_some-keeps, release-keeps) depth 6

pub no_budget_due-alters : {p : Image} → Alters p no_budget_due
unfolding Right
no_budget_due-alters = record { at = λ w right. right }

-- ---- a task that ran and has spent its quantum goes to the tail

pub spend_quantum-keeps : (p : Image) (found : Option Who) → Keeps p (spend_quantum p found)
unfolding spend_quantum
spend_quantum-keeps p None = search (nothing-keeps)
spend_quantum-keeps p (Some who.Agent) = search (nothing-keeps)
spend_quantum-keeps p (Some (who.Task t)) = search (looks-keeps, when-keeps, says-keeps, then-keeps, to_tail-keeps) depth 8

-- ---- the moves of an instant

effect_of_runner-leads : (p : Image) (by : Option Who) → Leads p (effect_of_runner p by)
effect_of_runner-leads p None = rests-leads
effect_of_runner-leads p (Some name) =
    watches-leads _
    (λ w.
    branch-leads (is_over (task_of w name).ticks_left) (settles p (effect p name)) rests (settles-leads p (effect p name) (effect-keeps p name)) rests-leads)

finish_action-leads : (p : Image) → Leads p (finish_action p)
finish_action-leads p = watches-leads _ (λ w. effect_of_runner-leads p w.ran)

script_items-leads : (p : Image) → Leads p (script_items p)
script_items-leads p = search (settles-leads, looks-keeps, items_due-keeps)

appointments_due-leads : (p : Image) (events : Bool) → Leads p (appointments_due p events)
appointments_due-leads p events = search (settles-leads, looks-keeps, all_due-keeps)

timers_due-leads : (p : Image) → Leads p (timers_due p)
timers_due-leads p = search (settles-leads, looks-keeps, for_each-keeps, expire_timer-keeps, then-keeps, changes-keeps, no_timers_due-alters) depth 7

budgets_due-leads : (p : Image) → Leads p (budgets_due p)
budgets_due-leads p = search (settles-leads, looks-keeps, for_some-keeps, run_out-keeps, then-keeps, changes-keeps, no_budget_due-alters) depth 7

quantum_spent-leads : (p : Image) → Leads p (quantum_spent p)
quantum_spent-leads p = search (settles-leads, looks-keeps, spend_quantum-keeps)

pub instant-leads : (p : Image) → Leads p (instant p)
instant-leads p =
    search (then-leads, finish_action-leads, script_items-leads, appointments_due-leads, timers_due-leads, budgets_due-leads, quantum_spent-leads) depth 9
