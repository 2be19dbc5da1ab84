-- The parts of an instant, and the instant: each step keeps a relation that its parts keep.
use Rattle.std.proofs.Common.{◌≡◌, refl}
use Rattle.std.specs.Prelude.{◌&&◌, not, eqb, ℕ, zero, suc, ℤ, pos, int_le, Bool, true, false, List, [], ◌∷◌, Option, Some, None}
use Rattle.ann_base.specs.declared.identities.CallNo.{CallNo}
use Rattle.ann_base.specs.declared.identities.TaskNo.{TaskNo}
use Rattle.trace_text.specs.declared.events.Who.{Who}
use Rattle.trace_text.specs.declared.events.Who.TheVariants as who
use Rattle.profile_image.specs.declared.image.Image.{Image}
use Rattle.profile_image.specs.declared.script_items.Item.{Item}
use Rattle.profile_image.specs.declared.script_items.Item.TheVariants as item
use Rattle.profile_machine.specs.declared.world.World.{World}
use Rattle.profile_machine.specs.declared.world.appointments.Appointment.{Appointment}
use Rattle.profile_machine.specs.declared.world.appointments.Due.{Due}
use Rattle.profile_machine.specs.declared.world.appointments.Due.TheVariants as due_for
use Rattle.profile_machine.specs.declared.world.appointments.TimerSetting.{TimerSetting}
use Rattle.profile_machine.specs.declared.world.lines.Line.TheVariants as line
use Rattle.profile_machine.specs.declared.world.lines.Part.TheVariants.{Own}
use Rattle.profile_machine.specs.declared.world.tasks.Waiting.{Waiting}
use Rattle.profile_machine.specs.declared.world.tasks.Waiting.TheVariants as waits_for
use Rattle.profile_machine.specs.Appointments.{is_trigger_of, is_timeout_of, drop_appointment, first_due}
use Rattle.profile_machine.specs.Dispatching.{to_tail, ready, active}
use Rattle.profile_machine.specs.Frames.{any_protected}
use Rattle.profile_machine.specs.Handlers.{clear_timer}
use Rattle.profile_machine.specs.Instant.{is_the_same_due, has_spent_quantum, with_port, with_masked, with_kept_interrupt, interrupt_comes}
use Rattle.profile_machine.specs.Instant.{deliver_kept_interrupt, script_item, with_script, take_item, items_due, script_items, take_delay}
use Rattle.profile_machine.specs.Instant.{end_delay, time_out, come_due, take_due, all_due, appointments_due, events_due, moments_due, expire}
use Rattle.profile_machine.specs.Instant.{expire_timer, no_timers_due, timers_due, run_out, no_budget_due, budgets_due, spend_quantum, quantum_spent}
use Rattle.profile_image.specs.Program.{is_robin_level}
use Rattle.profile_machine.specs.Steps.{when, says, looks, Step, changes, nothing, ◌▷◌, ◌▶◌}
use Rattle.profile_machine.specs.Tasks.{waiting_of, is_runnable, task_of}
use Rattle.profile_machine.specs.Values.{is_event, budget_of}
use Rattle.ann_base.specs.Lists.{is_empty}
use Rattle.machine_laws.proofs.Moves.{StepRelation, MoveRelation}
use Rattle.world_laws.proofs.Appointments.Delays.{Idle}
use Rattle.world_laws.proofs.Appointments.FineMoves.{FineMoves, chains, effect-leads, move_chains, says-keeps}
use Rattle.world_laws.proofs.Appointments.Kept.Appointments.{drops_then-from, drop_appointment-alters}
use Rattle.world_laws.proofs.Appointments.Kept.CallEnds.{trigger_at-keeps, deliver-keeps}
use Rattle.world_laws.proofs.Appointments.Kept.Dispatching.{to_tail-from, ready-from, idle_then-from}
use Rattle.world_laws.proofs.Appointments.Kept.Frames.{goes-keeps, open_sequence-keeps, plain_steps}
use Rattle.world_laws.proofs.Appointments.Kept.Handlers.{release-keeps, interrupt-keeps, clear_timer-alters}
use Rattle.world_laws.proofs.Appointments.Kept.Priorities.{runs-idle}
use Rattle.world_laws.proofs.Appointments.Kept.Unwinding.{unwind-keeps}
use Rattle.machine_laws.proofs.FineMoves.{GoodWorld, Naming}
use Rattle.machine_laws.proofs.Kept.Combinators.{Alters, From, Keeps, Leads, changes-keeps, for_each-keeps, for_some-keeps, from-keeps}
use Rattle.machine_laws.proofs.Kept.Combinators.{keeps-from, looks-from, looks-keeps, nothing-keeps, then-from, then-keeps, then-leads}
use Rattle.machine_laws.proofs.Plain.Calls.{with_call-keeps, unqueued-alters}

first_of_six : (a b c d e f : Bool) → (a && b && c && d && e && f) ≡ true → a ≡ true
first_of_six true b c d e f h = refl
first_of_six false b c d e f h = absurd cc

module _ {G : GoodWorld} {May : Naming} {R : StepRelation} {Q : MoveRelation} (moves : FineMoves G May R Q) where
  with_port-alters : (n : ℕ) (value : ℤ) → Alters G R (with_port n value)
  unfolding Alters
  with_port-alters n value w good = moves.sets_port n value w good

  with_masked-alters : (n : ℕ) (flag : Bool) → Alters G R (with_masked n flag)
  unfolding Alters
  with_masked-alters n flag w good = moves.masks n flag w good

  with_kept_interrupt-alters : (n : ℕ) (flag : Bool) → Alters G R (with_kept_interrupt n flag)
  unfolding Alters
  with_kept_interrupt-alters n flag w good = moves.keeps_interrupt n flag w good

  pub interrupt_comes-keeps : (p : Image) (n : ℕ) (test : Bool) → Keeps G R (interrupt_comes p n test)
  unfolding interrupt_comes
  interrupt_comes-keeps p n true = search (says-keeps, then-keeps, changes-keeps, with_kept_interrupt-alters, chains)
  interrupt_comes-keeps p n false = search (interrupt-keeps)

  pub deliver_kept_interrupt-keeps : (p : Image) (n : ℕ) (test : Bool) → Keeps G R (deliver_kept_interrupt p n test)
  unfolding deliver_kept_interrupt
  deliver_kept_interrupt-keeps p n true = search (changes-keeps, with_kept_interrupt-alters, then-keeps, interrupt-keeps, chains)
  deliver_kept_interrupt-keeps p n false = search (nothing-keeps, chains)

  pub script_item-keeps : (p : Image) (it : Item) → Keeps G R (script_item p it)
  unfolding script_item
  script_item-keeps p (item.Interrupt n) = search (looks-keeps, interrupt_comes-keeps, chains)
  script_item-keeps p (item.Port n value) = search (changes-keeps, with_port-alters, then-keeps, says-keeps, chains)
  script_item-keeps p (item.Mask n) = search (changes-keeps, with_masked-alters, then-keeps, says-keeps, chains)
  script_item-keeps p (item.Unmask n) =
      search (changes-keeps, with_masked-alters, then-keeps, says-keeps, looks-keeps, deliver_kept_interrupt-keeps, chains) depth 8

  with_script-alters : (rest : List (ℤ × Item)) → Alters G R (with_script rest)
  unfolding Alters
  with_script-alters rest w good = moves.cuts_script rest w good

  take_item_if-keeps : (p : Image) (again : Step) (x : ℤ × Item) (xs : List (ℤ × Item)) (test : Bool) → Keeps G R again
      → Keeps G R (elim test as (λ _. Step) [ true ↦ changes (with_script xs) ▷ script_item p x.1 ▷ again | false ↦ nothing ])
  take_item_if-keeps p again x xs true kept =
      then-keeps (chains moves) _ _ (changes-keeps (chains moves) _ (with_script-alters xs)) (then-keeps (chains moves) _ _ (script_item-keeps p x.1) kept)
  take_item_if-keeps p again x xs false kept = nothing-keeps (chains moves)

  take_item-keeps : (p : Image) (now : ℕ) (again : Step) (script : List (ℤ × Item)) → Keeps G R again → Keeps G R (take_item p now again script)
  take_item-keeps p now again [] kept = nothing-keeps (chains moves)
  take_item-keeps p now again (x ∷ xs) kept = take_item_if-keeps p again x xs (int_le x.0 (pos now)) kept

  items_due-keeps : (fuel : ℕ) (p : Image) → Keeps G R (items_due fuel p)
  unfolding items_due
  items_due-keeps zero p = nothing-keeps (chains moves)
  items_due-keeps (suc fuel) p = looks-keeps (chains moves) _ (λ w. take_item-keeps p w.time (items_due fuel p) w.script (items_due-keeps fuel p))

  pub script_items-leads : (p : Image) → Leads G Q (script_items p)
  script_items-leads p = search (effect-leads, looks-keeps, items_due-keeps, chains)

  pub take_delay-keeps : (p : Image) (name : Who) (waiting : Option Waiting) → Keeps G R (take_delay p name waiting)
  unfolding take_delay
  take_delay-keeps p name (Some (waits_for.Select accepts (Some delay) terminate)) = search (goes-keeps)
  take_delay-keeps p name _ = search (nothing-keeps, chains)

  end_delay-from : (p : Image) (name : Who) (w : World) → G w → Idle name w → From R w (end_delay p name)
  unfolding end_delay
  end_delay-from p name w good idle =
      idle_then-from moves name (looks (λ v. take_delay p name (waiting_of v name))) _ w good idle
      (looks-keeps (chains moves) _ (λ v. take_delay-keeps p name (waiting_of v name))) (λ v good_v idle_v.
      then-from (chains moves) (ready p Own name) _ v (ready-from moves p Own name v good_v idle_v) (open_sequence-keeps moves p Own name))

  pub time_out-keeps : (p : Image) (c : CallNo) → Keeps G R (time_out p c)
  unfolding time_out
  time_out-keeps p c = search (with_call-keeps, changes-keeps, unqueued-alters, then-keeps, says-keeps, deliver-keeps, chains, plain_steps) depth 8

  -- what is due is dropped, and comes about
  due-from : (p : Image) (due : Due) (again : Step) (w : World) → G w → Keeps G R again
      → From R w (changes (drop_appointment (is_the_same_due due)) ▷ come_due p due ▷ again)
  unfolding come_due
  due-from p (due_for.Event n h) again w good kept =
      keeps-from (chains moves) _ w good
      (then-keeps (chains moves) _ _ (changes-keeps (chains moves) _ (drop_appointment-alters moves (is_event n)))
      (then-keeps (chains moves) _ _ (release-keeps moves p h (Some n)) kept))
  due-from p (due_for.Delay t) again w good kept =
      drops_then-from moves (who.Task t) _ w good
      (λ v good_v idle. then-from (chains moves) (end_delay p (who.Task t)) again v (end_delay-from p (who.Task t) v good_v idle) kept)
  due-from p (due_for.Timeout c) again w good kept =
      keeps-from (chains moves) _ w good
      (then-keeps (chains moves) _ _ (changes-keeps (chains moves) _ (drop_appointment-alters moves (is_timeout_of c)))
      (then-keeps (chains moves) _ _ (time_out-keeps p c) kept))
  due-from p (due_for.Trigger t depth) again w good kept =
      keeps-from (chains moves) _ w good
      (then-keeps (chains moves) _ _ (changes-keeps (chains moves) _ (drop_appointment-alters moves (is_trigger_of t depth)))
      (then-keeps (chains moves) _ _ (then-keeps (chains moves) _ _ (trigger_at-keeps moves Own t depth) (unwind-keeps moves p Own (who.Task t))) kept))

  pub take_due-keeps : (p : Image) (again : Step) (a : Option Appointment) → Keeps G R again → Keeps G R (take_due p again a)
  take_due-keeps p again None kept = nothing-keeps (chains moves)
  take_due-keeps p again (Some a) kept = from-keeps (chains moves) _ (λ w good. due-from p a.due again w good kept)

  all_due-keeps : (fuel : ℕ) (p : Image) (events : Bool) → Keeps G R (all_due fuel p events)
  unfolding all_due
  all_due-keeps zero p events = search (nothing-keeps, chains)
  all_due-keeps (suc fuel) p events =
      looks-keeps (chains moves) _ (λ w. take_due-keeps p (all_due fuel p events) (first_due events w.time w.appointments) (all_due-keeps fuel p events))

  pub appointments_due-leads : (p : Image) (events : Bool) → Leads G Q (appointments_due p events)
  appointments_due-leads p events = search (effect-leads, looks-keeps, all_due-keeps, chains)

  pub events_due-leads : (p : Image) → Leads G Q (events_due p)
  events_due-leads p = search (appointments_due-leads)

  pub moments_due-leads : (p : Image) → Leads G Q (moments_due p)
  moments_due-leads p = search (appointments_due-leads)

  pub expire-keeps : (p : Image) (k : ℕ) (setting : Option TimerSetting) → Keeps G R (expire p k setting)
  unfolding expire
  expire-keeps p k None = search (nothing-keeps, chains)
  expire-keeps p k (Some s) =
      then-keeps (chains moves) (changes (clear_timer k)) _ (search (changes-keeps, clear_timer-alters, chains)) (release-keeps moves p s.handler (Some k))

  pub expire_timer-keeps : (p : Image) (k : ℕ) → Keeps G R (expire_timer p k)
  unfolding expire_timer
  expire_timer-keeps p k = search (looks-keeps, expire-keeps, chains)

  no_timers_due-alters : Alters G R no_timers_due
  unfolding Alters
  no_timers_due-alters w good = moves.sets_timers_due [] w good

  pub timers_due-leads : (p : Image) → Leads G Q (timers_due p)
  timers_due-leads p = search (effect-leads, looks-keeps, for_each-keeps, expire_timer-keeps, then-keeps, changes-keeps, no_timers_due-alters, chains) depth 8

  pub run_out-keeps : (p : Image) (b : ℕ) → Keeps G R (run_out p b)
  unfolding run_out
  run_out-keeps p b = looks-keeps (chains moves) _ (λ w. for_some-keeps (chains moves) (budget_of w b).handler _ (λ h. release-keeps moves p h (Some b)))

  no_budget_due-alters : Alters G R no_budget_due
  unfolding Alters
  no_budget_due-alters w good = moves.sets_budget_due None w good

  pub budgets_due-leads : (p : Image) → Leads G Q (budgets_due p)
  budgets_due-leads p = search (effect-leads, looks-keeps, for_some-keeps, run_out-keeps, then-keeps, changes-keeps, no_budget_due-alters, chains) depth 8

  spent_where : (p : Image) (t : TaskNo) (w : World) (test : Bool) → G w → (test ≡ true → is_runnable (task_of w (who.Task t)) ≡ true)
      → From R w (when test (says Own (line.Quantum t) ▷ to_tail p Own (who.Task t)))
  spent_where p t w true good runs =
      idle_then-from moves (who.Task t) (says Own (line.Quantum t)) _ w good (runs-idle moves (who.Task t) w good (runs refl))
      (says-keeps moves Own (line.Quantum t) refl) (λ v good_v idle. to_tail-from moves p Own (who.Task t) v good_v idle)
  spent_where p t w false good runs = keeps-from (chains moves) nothing w good (nothing-keeps (chains moves))

  pub spend_quantum-keeps : (p : Image) (by : Option Who) → Keeps G R (spend_quantum p by)
  unfolding spend_quantum
  spend_quantum-keeps p None = nothing-keeps (chains moves)
  spend_quantum-keeps p (Some who.Agent) = nothing-keeps (chains moves)
  spend_quantum-keeps p (Some (who.Task t)) =
      looks-from (chains moves) _ (λ w good. let u = task_of w (who.Task t) in
      spent_where p t w (has_spent_quantum p u) good
      (λ e. first_of_six (is_runnable u) (eqb u.quantum 0) (is_robin_level p u.base) (eqb (active p u) u.base) (is_empty u.inherited)
      (not (any_protected u.frames)) e))

  pub quantum_spent-leads : (p : Image) → Leads G Q (quantum_spent p)
  quantum_spent-leads p = search (effect-leads, looks-keeps, spend_quantum-keeps, chains)

  -- all of an instant but the effect of the action that ended
  pub behind_action-leads : (p : Image) → Leads G Q (script_items p ▶ events_due p ▶ moments_due p ▶ timers_due p ▶ budgets_due p ▶ quantum_spent p)
  behind_action-leads p =
      search
      (then-leads, script_items-leads, events_due-leads, moments_due-leads, timers_due-leads, budgets_due-leads, quantum_spent-leads, move_chains) depth 9
