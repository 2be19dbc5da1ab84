-- The seven steps of an instant, in their order (this profile's choice).
use Rattle.std.specs.Prelude.{ℕ, zero, suc, ℤ, pos, int_le, Bool, true, false, not}
use Rattle.std.specs.Prelude.{◌&&◌, List, [], ◌∷◌, Option, Some, None, eqb, length}
use Rattle.ann_base.specs.declared.identities.CallNo.{CallNo}
use Rattle.profile_machine.specs.declared.world.lines.Line.TheVariants as line
use Rattle.trace_text.specs.declared.events.Who.{Who}
use Rattle.trace_text.specs.declared.events.Who.TheVariants as who
use Rattle.profile_image.specs.declared.image.Image.{Image}
use Rattle.profile_image.specs.declared.script_items.Item.{Item}
use Rattle.profile_image.specs.declared.script_items.Item.TheVariants as item
use Rattle.profile_machine.specs.declared.world.World.{World}
use Rattle.profile_machine.specs.declared.world.tasks.Task.{Task}
use Rattle.profile_machine.specs.declared.world.tasks.Waiting.{Waiting}
use Rattle.profile_machine.specs.declared.world.appointments.Due.{Due}
use Rattle.profile_machine.specs.declared.world.appointments.Appointment.{Appointment}
use Rattle.profile_machine.specs.declared.world.appointments.TimerSetting.{TimerSetting}
use Rattle.profile_machine.specs.declared.world.appointments.Due.TheVariants as due_for
use Rattle.profile_machine.specs.declared.world.calls.Outcome.TheVariants as call_ended
use Rattle.profile_machine.specs.declared.world.tasks.Waiting.TheVariants as waits_for
use Rattle.profile_image.specs.Words.{edit_at, is_flag}
use Rattle.ann_base.specs.Lists.{is_empty}
use Rattle.profile_image.specs.Program.{next_of, is_robin_level}
use Rattle.profile_machine.specs.declared.world.lines.Part.TheVariants.{Own}
use Rattle.profile_machine.specs.Steps.{Step, Move, says, changes, looks, when, nothing}
use Rattle.profile_machine.specs.Steps.{for_some, for_each, settles, rests, watches, ◌▷◌, ◌▶◌}
use Rattle.profile_machine.specs.Tasks.{task_of, edit_task, with_ticks, is_runnable, waiting_of}
use Rattle.profile_machine.specs.Dispatching.{active, ready, to_tail}
use Rattle.profile_machine.specs.Frames.{open_if_ready, open_sequence, goes, any_protected}
use Rattle.profile_machine.specs.Values.{timer_of, budget_of, is_event}
use Rattle.profile_machine.specs.Appointments.{first_due, drop_appointment, is_delay_of, is_timeout_of, is_trigger_of}
use Rattle.profile_machine.specs.Calls.{with_call, unqueued}
use Rattle.profile_machine.specs.CallEnds.{trigger_at, deliver}
use Rattle.profile_machine.specs.Unwinding.{unwind}
use Rattle.profile_machine.specs.Tasking.{take_terminates, unwind_all}
use Rattle.profile_machine.specs.Handlers.{release, interrupt, clear_timer}
use Rattle.profile_machine.specs.Act.{act}

-- ---- 1: the effect of the action that ended, and what it brings about elsewhere

unfoldable pub effect : Image → Who → Step
effect p name =
    changes (edit_task name (with_ticks None)) ▷ act p name ▷ open_if_ready p name ▷ take_terminates p name
    ▷ unwind_all p name

abbrev pub is_over : Option ℕ → Bool
is_over None = false
is_over (Some ticks) = eqb ticks 0

abbrev pub effect_of_runner : Image → Option Who → Move
effect_of_runner p None = rests
effect_of_runner p (Some name) =
    watches (λ w. elim (is_over (task_of w name).ticks_left) [ true ↦ settles p (effect p name) | false ↦ rests ])

abbrev pub finish_action : Image → Move
finish_action p = watches (λ w. effect_of_runner p w.ran)

-- ---- 2: items of the script, by moment and then by line

abbrev pub with_port : ℕ → ℤ → World → World
with_port n value w = record w { ports = edit_at n (λ _. value) w.ports }

abbrev pub with_masked : ℕ → Bool → World → World
with_masked n flag w = record w { masked = edit_at n (λ _. flag) w.masked }

abbrev pub with_kept_interrupt : ℕ → Bool → World → World
with_kept_interrupt n flag w = record w { kept_interrupts = edit_at n (λ _. flag) w.kept_interrupts }

-- an interrupt that is masked is kept; one at most is kept
unfoldable pub interrupt_comes : Image → ℕ → Bool → Step
interrupt_comes p n true = says Own (line.Masked n) ▷ changes (with_kept_interrupt n true)
interrupt_comes p n false = interrupt p n

-- one that was kept is delivered at once
unfoldable pub deliver_kept_interrupt : Image → ℕ → Bool → Step
deliver_kept_interrupt p n true = changes (with_kept_interrupt n false) ▷ interrupt p n
deliver_kept_interrupt p n false = nothing

unfoldable pub script_item : Image → Item → Step
script_item p (item.Interrupt n) = looks (λ w. interrupt_comes p n (is_flag w.masked n))
script_item p (item.Port n value) = changes (with_port n value) ▷ says Own (line.Port n value)
script_item p (item.Mask n) = changes (with_masked n true) ▷ says Own (line.Mask n)
script_item p (item.Unmask n) =
    changes (with_masked n false) ▷ says Own (line.Unmask n)
    ▷ looks (λ w. deliver_kept_interrupt p n (is_flag w.kept_interrupts n))

abbrev pub with_script : List (ℤ × Item) → World → World
with_script script w = record w { script = script }

-- the first item that is ahead, where its moment has come
abbrev pub take_item : Image → ℕ → Step → List (ℤ × Item) → Step
take_item p now again [] = nothing
take_item p now again (x ∷ xs) = elim (int_le x.0 (pos now)) [
  | true ↦ changes (with_script xs) ▷ script_item p x.1
      ▷ again
  | false ↦ nothing
]

-- all items whose moment has come; the fuel is the number of items
unfoldable pub items_due : ℕ → Image → Step
items_due zero p = nothing
items_due (suc fuel) p = looks (λ w. take_item p w.time (items_due fuel p) w.script)

abbrev pub script_items : Image → Move
script_items p = settles p (looks (λ w. items_due (length w.script) p))

-- ---- 3 and 4: appointments whose moment is now: timing events, then delays, time-outs and triggers, each in the
-- order in which they were set

-- a task's moment has come; at a select the delay alternative is taken
unfoldable pub take_delay : Image → Who → Option Waiting → Step
take_delay p name (Some (waits_for.Select accepts (Some delay) terminate)) = goes name (next_of p delay)
take_delay p name _ = nothing

unfoldable pub end_delay : Image → Who → Step
end_delay p name = looks (λ w. take_delay p name (waiting_of w name)) ▷ ready p Own name ▷ open_sequence p Own name

-- a timed call that has not begun is cancelled
unfoldable pub time_out : Image → CallNo → Step
time_out p c =
    with_call c (λ d. changes (unqueued p d) ▷ says Own (line.Cancel d.caller c) ▷ deliver p Own c call_ended.Cancelled)

abbrev pub is_the_same_due : Due → Due → Bool
is_the_same_due (due_for.Event n h) d = is_event n d
is_the_same_due (due_for.Delay t) d = is_delay_of t d
is_the_same_due (due_for.Timeout c) d = is_timeout_of c d
is_the_same_due (due_for.Trigger t depth) d = is_trigger_of t depth d

unfoldable pub come_due : Image → Due → Step
come_due p (due_for.Event n h) = release p Own h (Some n)
come_due p (due_for.Delay t) = end_delay p (who.Task t)
come_due p (due_for.Timeout c) = time_out p c
come_due p (due_for.Trigger t depth) = trigger_at Own t depth ▷ unwind p Own (who.Task t)

abbrev pub take_due : Image → Step → Option Appointment → Step
take_due p again None = nothing
take_due p again (Some a) = changes (drop_appointment (is_the_same_due a.due)) ▷ come_due p a.due ▷ again

-- the fuel is the number of appointments
unfoldable pub all_due : ℕ → Image → Bool → Step
all_due zero p events = nothing
all_due (suc fuel) p events = looks (λ w. take_due p (all_due fuel p events) (first_due events w.time w.appointments))

abbrev pub appointments_due : Image → Bool → Move
appointments_due p events = settles p (looks (λ w. all_due (length w.appointments) p events))

abbrev pub events_due : Image → Move
events_due p = appointments_due p true

abbrev pub moments_due : Image → Move
moments_due p = appointments_due p false

-- ---- 5: timers whose value the last tick reached; each is then clear

unfoldable pub expire : Image → ℕ → Option TimerSetting → Step
expire p k None = nothing
expire p k (Some s) = changes (clear_timer k) ▷ release p Own s.handler (Some k)

unfoldable pub expire_timer : Image → ℕ → Step
expire_timer p k = looks (λ w. expire p k (timer_of w k).setting)

abbrev pub no_timers_due : World → World
no_timers_due w = record w { timers_due = [] }

abbrev pub timers_due : Image → Move
timers_due p = settles p (looks (λ w. for_each w.timers_due (expire_timer p)) ▷ changes no_timers_due)

-- ---- 6: the budget that the last tick brought to zero; its handler stays set

unfoldable pub run_out : Image → ℕ → Step
run_out p b = looks (λ w. for_some (budget_of w b).handler (λ h. release p Own h (Some b)))

abbrev pub no_budget_due : World → World
no_budget_due w = record w { budget_due = None }

abbrev pub budgets_due : Image → Move
budgets_due p = settles p (looks (λ w. for_some w.budget_due (run_out p)) ▷ changes no_budget_due)

-- ---- 7: a task that ran and has spent its quantum goes to the tail, if it inherits nothing and has no action open
-- (D.2.5)

abbrev pub has_spent_quantum : Image → Task → Bool
has_spent_quantum p t =
    is_runnable t && eqb t.quantum 0 && is_robin_level p t.base && eqb (active p t) t.base && is_empty t.inherited
    && not (any_protected t.frames)

unfoldable pub spend_quantum : Image → Option Who → Step
spend_quantum p None = nothing
spend_quantum p (Some who.Agent) = nothing
spend_quantum p (Some (who.Task t)) =
    looks (λ w. when (has_spent_quantum p (task_of w (who.Task t))) (says Own (line.Quantum t)
    ▷ to_tail p Own (who.Task t)))

abbrev pub quantum_spent : Image → Move
quantum_spent p = settles p (looks (λ w. spend_quantum p w.ran))

-- ---- the instant

abbrev pub instant : Image → Move
instant p =
    finish_action p ▶ script_items p ▶ events_due p ▶ moments_due p ▶ timers_due p ▶ budgets_due p ▶ quantum_spent p
