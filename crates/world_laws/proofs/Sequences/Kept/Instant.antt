-- The parts of an instant, and the instant: each step keeps a relation that its parts keep.
use Rattle.profile_machine.specs.declared.world.lines.Part.TheVariants.{Own}
use Rattle.profile_machine.specs.Frames.{open_sequence}
use Rattle.profile_machine.specs.Dispatching.{ready}
use Rattle.world_laws.proofs.Sequences.Kept.Woken.{opened-turns}
use Rattle.std.proofs.Common.{◌≡◌, refl, inr}
use Rattle.std.specs.Prelude.{ℕ, zero, suc, ℤ, pos, int_le, Bool, true, false, List, [], ◌∷◌, Option, Some, None}
use Rattle.ann_base.specs.declared.identities.CallNo.{CallNo}
use Rattle.trace_text.specs.declared.events.Who.{Who}
use Rattle.trace_text.specs.declared.events.Who.TheVariants as who
use Rattle.profile_image.specs.declared.image.Image.{Image}
use Rattle.profile_image.specs.declared.script_items.Item.{Item}
use Rattle.profile_image.specs.declared.script_items.Item.TheVariants as item
use Rattle.profile_machine.specs.declared.world.World.{World}
use Rattle.profile_machine.specs.declared.world.tasks.Waiting.{Waiting}
use Rattle.profile_machine.specs.declared.world.appointments.Due.{Due}
use Rattle.profile_machine.specs.declared.world.appointments.Appointment.{Appointment}
use Rattle.profile_machine.specs.declared.world.appointments.TimerSetting.{TimerSetting}
use Rattle.profile_machine.specs.declared.world.appointments.Due.TheVariants as due_for
use Rattle.profile_machine.specs.declared.world.tasks.Waiting.TheVariants as waits_for
use Rattle.profile_machine.specs.Steps.{Step, changes, nothing, ◌▷◌, ◌▶◌, looks}
use Rattle.profile_machine.specs.Tasks.{waiting_of}
use Rattle.profile_machine.specs.Appointments.{first_due}
use Rattle.profile_machine.specs.Instant.{with_port, with_masked, with_kept_interrupt, interrupt_comes, deliver_kept_interrupt}
use Rattle.profile_machine.specs.Instant.{script_item, with_script, take_item, items_due, script_items, take_delay, end_delay, time_out}
use Rattle.profile_machine.specs.Instant.{come_due, take_due, all_due, appointments_due, events_due, moments_due, expire, expire_timer}
use Rattle.profile_machine.specs.Instant.{no_timers_due, timers_due, run_out, no_budget_due, budgets_due, spend_quantum, quantum_spent}
use Rattle.machine_laws.proofs.FineMoves.{GoodWorld, Naming}
use Rattle.world_laws.proofs.Sequences.FineMoves.{FineMoves, Loosens, chains, effect-leads, move_chains, says-keeps}
use Rattle.world_laws.proofs.Behind.{Behind, BehindMove, then-turns, narrow-turns}
use Rattle.world_laws.proofs.Sequences.Kept.Dispatching.{to_tail-keeps, ready-keeps}
use Rattle.world_laws.proofs.Sequences.Kept.Frames.{goes-keeps, plain_steps}
use Rattle.world_laws.proofs.Sequences.Kept.Appointments.{drop_appointment-alters}
use Rattle.world_laws.proofs.Sequences.Kept.Unwinding.{unwind-keeps}
use Rattle.world_laws.proofs.Sequences.Kept.CallEnds.{trigger_at-keeps, deliver-keeps}
use Rattle.world_laws.proofs.Sequences.Kept.Handlers.{interrupt-keeps, clear_timer-alters, release-keeps}
use Rattle.profile_machine.specs.Values.{budget_of}
use Rattle.profile_machine.specs.Handlers.{clear_timer}
use Rattle.machine_laws.proofs.Kept.Combinators.{Alters, From, Keeps, Leads, changes-from, changes-keeps, for_each-keeps, for_some-keeps}
use Rattle.machine_laws.proofs.Kept.Combinators.{keeps-from, looks-from, looks-keeps, nothing-keeps, then-from, then-keeps, then-leads, when-keeps}
use Rattle.machine_laws.proofs.Plain.Calls.{with_call-keeps, unqueued-alters}

module _ {p : Image} {G : GoodWorld} {May Other : Naming} (moves : FineMoves p G May Other) where
  pub goes_delay-keeps : (name : Who) (waiting : Option Waiting) → May name → Keeps G (Behind G) (take_delay p name waiting)
  unfolding take_delay
  goes_delay-keeps name (Some (waits_for.Select accepts (Some delay) terminate)) may = search (goes-keeps)
  goes_delay-keeps name _ may = search (nothing-keeps, chains)

module _ {p : Image} {G : GoodWorld} {May Other : Naming} (moves : FineMoves p G May Other) (loose : Loosens p G May Other) where
  with_port-alters : (n : ℕ) (value : ℤ) → Alters G (Behind G) (with_port n value)
  unfolding Alters
  with_port-alters n value w good = moves.sets_port n value w good

  with_masked-alters : (n : ℕ) (flag : Bool) → Alters G (Behind G) (with_masked n flag)
  unfolding Alters
  with_masked-alters n flag w good = moves.masks n flag w good

  with_kept_interrupt-alters : (n : ℕ) (flag : Bool) → Alters G (Behind G) (with_kept_interrupt n flag)
  unfolding Alters
  with_kept_interrupt-alters n flag w good = moves.keeps_interrupt n flag w good

  pub interrupt_comes-keeps : (n : ℕ) (test : Bool) → Keeps G (Behind G) (interrupt_comes p n test)
  unfolding interrupt_comes
  interrupt_comes-keeps n true = search (says-keeps, then-keeps, changes-keeps, with_kept_interrupt-alters, chains)
  interrupt_comes-keeps n false = search (interrupt-keeps)

  pub deliver_kept_interrupt-keeps : (n : ℕ) (test : Bool) → Keeps G (Behind G) (deliver_kept_interrupt p n test)
  unfolding deliver_kept_interrupt
  deliver_kept_interrupt-keeps n true = search (changes-keeps, with_kept_interrupt-alters, then-keeps, interrupt-keeps, chains)
  deliver_kept_interrupt-keeps n false = search (nothing-keeps, chains)

  pub script_item-keeps : (it : Item) → Keeps G (Behind G) (script_item p it)
  unfolding script_item
  script_item-keeps (item.Interrupt n) = search (looks-keeps, interrupt_comes-keeps, chains)
  script_item-keeps (item.Port n value) = search (changes-keeps, with_port-alters, then-keeps, says-keeps, chains)
  script_item-keeps (item.Mask n) = search (changes-keeps, with_masked-alters, then-keeps, says-keeps, chains)
  script_item-keeps (item.Unmask n) =
      search (changes-keeps, with_masked-alters, then-keeps, says-keeps, looks-keeps, deliver_kept_interrupt-keeps, chains) depth 8

  take_item_if-from : (again : Step) (x : ℤ × Item) (xs : List (ℤ × Item)) (w : World) (test : Bool) → G w → w.script ≡ x ∷ xs → int_le x.0 (pos w.time) ≡ test
      → Keeps G (Behind G) again
      → From (Behind G) w (elim test as (λ _. Step) [ true ↦ changes (with_script xs) ▷ script_item p x.1 ▷ again | false ↦ nothing ])
  take_item_if-from again x xs w true good is due kept =
      then-from (chains moves) (changes (with_script xs)) (script_item p x.1 ▷ again) w
      (changes-from (chains moves) (with_script xs) w (moves.cuts_script x xs w good))
      (then-keeps (chains moves) (script_item p x.1) again (script_item-keeps x.1) kept)
  take_item_if-from again x xs w false good is due kept = keeps-from (chains moves) nothing w good (nothing-keeps (chains moves))

  take_item-from : (again : Step) (w : World) (script : List (ℤ × Item)) → G w → w.script ≡ script → Keeps G (Behind G) again
      → From (Behind G) w (take_item p w.time again script)
  take_item-from again w [] good is kept = keeps-from (chains moves) nothing w good (nothing-keeps (chains moves))
  take_item-from again w (x ∷ xs) good is kept = take_item_if-from again x xs w (int_le x.0 (pos w.time)) good is refl kept

  items_due-keeps : (fuel : ℕ) → Keeps G (Behind G) (items_due fuel p)
  unfolding items_due
  items_due-keeps zero = search (nothing-keeps, chains)
  items_due-keeps (suc fuel) =
      looks-from (chains moves) _ (λ w good. take_item-from (items_due fuel p) w w.script good refl (items_due-keeps fuel))

  pub script_items-leads : Leads G (BehindMove G) (script_items p)
  script_items-leads = search (effect-leads, looks-keeps, items_due-keeps, chains)

  pub end_delay-keeps : (name : Who) → Other name → Keeps G (Behind G) (end_delay p name)
  unfolding end_delay
  end_delay-keeps name other =
      let l = loose name other in
      then-turns G l.Loose G (looks (λ w. take_delay p name (waiting_of w name))) _
      (narrow-turns G l.Loose l.Loose _ l.loosens (looks-keeps (chains l.moves) _ (λ w. goes_delay-keeps l.moves name (waiting_of w name) (inr refl))))
      (then-turns l.Loose l.Loose G (ready p Own name) (open_sequence p Own name) (ready-keeps l.moves Own name (inr refl))
      (opened-turns moves loose Own name other))

  pub time_out-keeps : (c : CallNo) → Keeps G (Behind G) (time_out p c)
  unfolding time_out
  time_out-keeps c = search (with_call-keeps, changes-keeps, unqueued-alters, then-keeps, says-keeps, deliver-keeps, chains, plain_steps) depth 8

  pub come_due-keeps : (due : Due) → Keeps G (Behind G) (come_due p due)
  unfolding come_due
  come_due-keeps (due_for.Event n h) = release-keeps moves Own h (Some n)
  come_due-keeps (due_for.Delay t) = end_delay-keeps (who.Task t) (moves.task_other t)
  come_due-keeps (due_for.Timeout c) = search (time_out-keeps)
  come_due-keeps (due_for.Trigger t depth) = search (trigger_at-keeps, then-keeps, unwind-keeps, moves.task_other, chains)

  pub take_due-keeps : (again : Step) (a : Option Appointment) → Keeps G (Behind G) again → Keeps G (Behind G) (take_due p again a)
  take_due-keeps again None kept = search (nothing-keeps, chains)
  take_due-keeps again (Some a) kept = search (changes-keeps, drop_appointment-alters, then-keeps, come_due-keeps, chains)

  all_due-keeps : (fuel : ℕ) (events : Bool) → Keeps G (Behind G) (all_due fuel p events)
  unfolding all_due
  all_due-keeps zero events = search (nothing-keeps, chains)
  all_due-keeps (suc fuel) events =
      looks-keeps (chains moves) _ (λ w. take_due-keeps (all_due fuel p events) (first_due events w.time w.appointments) (all_due-keeps fuel events))

  pub appointments_due-leads : (events : Bool) → Leads G (BehindMove G) (appointments_due p events)
  appointments_due-leads events = search (effect-leads, looks-keeps, all_due-keeps, chains)

  pub events_due-leads : Leads G (BehindMove G) (events_due p)
  events_due-leads = search (appointments_due-leads)

  pub moments_due-leads : Leads G (BehindMove G) (moments_due p)
  moments_due-leads = search (appointments_due-leads)

  pub expire-keeps : (k : ℕ) (setting : Option TimerSetting) → Keeps G (Behind G) (expire p k setting)
  unfolding expire
  expire-keeps k None = search (nothing-keeps, chains)
  expire-keeps k (Some s) =
      then-keeps (chains moves) (changes (clear_timer k)) _ (search (changes-keeps, clear_timer-alters, chains)) (release-keeps moves Own s.handler (Some k))

  pub expire_timer-keeps : (k : ℕ) → Keeps G (Behind G) (expire_timer p k)
  unfolding expire_timer
  expire_timer-keeps k = search (looks-keeps, expire-keeps, chains)

  no_timers_due-alters : Alters G (Behind G) no_timers_due
  unfolding Alters
  no_timers_due-alters w good = moves.sets_timers_due [] w good

  pub timers_due-leads : Leads G (BehindMove G) (timers_due p)
  timers_due-leads = search (effect-leads, looks-keeps, for_each-keeps, expire_timer-keeps, then-keeps, changes-keeps, no_timers_due-alters, chains) depth 8

  pub run_out-keeps : (b : ℕ) → Keeps G (Behind G) (run_out p b)
  unfolding run_out
  run_out-keeps b = looks-keeps (chains moves) _ (λ w. for_some-keeps (chains moves) (budget_of w b).handler _ (λ h. release-keeps moves Own h (Some b)))

  no_budget_due-alters : Alters G (Behind G) no_budget_due
  unfolding Alters
  no_budget_due-alters w good = moves.sets_budget_due None w good

  pub budgets_due-leads : Leads G (BehindMove G) (budgets_due p)
  budgets_due-leads = search (effect-leads, looks-keeps, for_some-keeps, run_out-keeps, then-keeps, changes-keeps, no_budget_due-alters, chains) depth 8

  pub spend_quantum-keeps : (by : Option Who) → Keeps G (Behind G) (spend_quantum p by)
  unfolding spend_quantum
  spend_quantum-keeps None = search (nothing-keeps, chains)
  spend_quantum-keeps (Some who.Agent) = search (nothing-keeps, chains)
  spend_quantum-keeps (Some (who.Task t)) = search (looks-keeps, when-keeps, says-keeps, then-keeps, to_tail-keeps, chains) depth 8

  pub quantum_spent-leads : Leads G (BehindMove G) (quantum_spent p)
  quantum_spent-leads = search (effect-leads, looks-keeps, spend_quantum-keeps, chains)

  -- all of an instant but the effect of the action that ended
  pub behind_action-leads : Leads G (BehindMove G) (script_items p ▶ events_due p ▶ moments_due p ▶ timers_due p ▶ budgets_due p ▶ quantum_spent p)
  behind_action-leads =
      search
      (then-leads, script_items-leads, events_due-leads, moments_due-leads, timers_due-leads, budgets_due-leads, quantum_spent-leads, move_chains) depth 9
