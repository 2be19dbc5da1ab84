-- The parts of an instant, and the instant: each step keeps a relation that its parts keep.
use Rattle.std.proofs.lemmas.Bool.{false≢true}
use Rattle.profile_image.specs.Words.{same_bool}
use Rattle.std.proofs.Common.{◌≡◌, refl, ◌&&◌, cond, length, sym, ap, ◌∙◌}
use Rattle.std.specs.Prelude.{ℕ, zero, suc, ℤ, pos, int_le, Bool, true, false, List, [], ◌∷◌, Option, Some, None}
use Rattle.ann_base.specs.declared.identities.CallNo.{CallNo}
use Rattle.trace_text.specs.declared.events.Who.{Who}
use Rattle.trace_text.specs.declared.events.Who.TheVariants as who
use Rattle.profile_image.specs.declared.image.Image.{Image}
use Rattle.profile_image.specs.declared.script_items.Item.{Item}
use Rattle.profile_image.specs.declared.script_items.Item.TheVariants as item
use Rattle.profile_machine.specs.declared.world.World.{World}
use Rattle.profile_machine.specs.declared.world.tasks.Waiting.{Waiting}
use Rattle.profile_machine.specs.declared.world.appointments.Due.{Due}
use Rattle.profile_machine.specs.declared.world.appointments.Appointment.{Appointment}
use Rattle.profile_machine.specs.declared.world.appointments.TimerSetting.{TimerSetting}
use Rattle.profile_machine.specs.declared.world.appointments.Due.TheVariants as due_for
use Rattle.profile_machine.specs.declared.world.tasks.Waiting.TheVariants as waits_for
use Rattle.profile_machine.specs.Steps.{Step, Move, changes, nothing, settles, ◌▷◌, rests, ◌▶◌}
use Rattle.profile_machine.specs.Tasks.{task_of, edit_task, with_ticks}
use Rattle.profile_machine.specs.Act.{act}
use Rattle.profile_machine.specs.Appointments.{first_due, is_an_event, drop_appointment}
use Rattle.profile_machine.specs.Instant.{effect, is_over, effect_of_runner, finish_action, with_port, with_masked, with_kept_interrupt, interrupt_comes}
use Rattle.profile_machine.specs.Instant.{deliver_kept_interrupt, script_item, with_script, take_item, items_due, script_items, take_delay, end_delay, time_out}
use Rattle.profile_machine.specs.Instant.{come_due, take_due, all_due, appointments_due, events_due, moments_due, expire, expire_timer, no_timers_due}
use Rattle.profile_machine.specs.Instant.{timers_due, run_out, no_budget_due, budgets_due, spend_quantum, quantum_spent, instant, is_the_same_due}
use Rattle.machine_laws.proofs.Moves.{StepRelation, MoveRelation, Puts}
use Rattle.machine_laws.proofs.FineMoves.{GoodWorld, Naming}
use Rattle.machine_laws.proofs.FinestMoves.{FinestMoves, SettingMoves, SparesEvents, AllMoves, Holding, Anyhow, chains, move_chains, says-keeps, effect-leads}
use Rattle.machine_laws.proofs.Kept.Tasks.{edit_task-alters}
use Rattle.machine_laws.proofs.Kept.Dispatching.{to_tail-keeps, ready-keeps}
use Rattle.machine_laws.proofs.Kept.Frames.{goes-keeps, open_sequence-keeps, open_if_ready-keeps, plain_steps}
use Rattle.machine_laws.proofs.Kept.Appointments.{drop_appointment-alters}
use Rattle.machine_laws.proofs.Kept.Unwinding.{unwind-keeps}
use Rattle.machine_laws.proofs.Kept.CallEnds.{trigger_at-keeps, deliver-keeps}
use Rattle.machine_laws.proofs.Kept.Tasking.{take_terminates-keeps, unwind_all-keeps}
use Rattle.machine_laws.proofs.Kept.Handlers.{interrupt-keeps, clear_timer-alters, Releasing, releasing}
use Rattle.machine_laws.proofs.Kept.Act.{Acting, Acts, acts_anyhow, any_act-from}
use Rattle.machine_laws.proofs.Kept.Serving.{Stays, stays_anyhow}
use Rattle.profile_machine.specs.Values.{budget_of}
use Rattle.profile_machine.specs.Handlers.{clear_timer}
use Rattle.machine_laws.proofs.Kept.Combinators.{Alters, From, Keeps, Leads, changes-from, changes-keeps, changes_then-from}
use Rattle.machine_laws.proofs.Kept.Combinators.{for_each-keeps, for_some-keeps, keeps-from, looks-from, looks-keeps}
use Rattle.machine_laws.proofs.Kept.Combinators.{nothing-keeps, settles-from, then-from, then-keeps, then-leads, when-keeps}
use Rattle.machine_laws.proofs.Plain.Calls.{with_call-keeps, unqueued-alters}

abbrev pub is_there : {X : Type 0} → Option X → Bool
is_there (Some x) = true
is_there None = false

abbrev pub or_that : {X : Type 0} → X → Option X → X
or_that x (Some y) = y
or_that x None = x

module _ {G : GoodWorld} {May Other : Naming} {R : StepRelation} {Q : MoveRelation} (moves : FinestMoves G May Other R Q) where
  pub take_delay-keeps : (p : Image) (name : Who) (waiting : Option Waiting) → Keeps G R (take_delay p name waiting)
  unfolding take_delay
  take_delay-keeps p name (Some (waits_for.Select accepts (Some delay) terminate)) = search (goes-keeps)
  take_delay-keeps p name _ = search (nothing-keeps, chains)

  pub end_delay-keeps : (p : Image) (name : Who) → Other name → Keeps G R (end_delay p name)
  unfolding end_delay
  end_delay-keeps p name other = search (looks-keeps, take_delay-keeps, then-keeps, ready-keeps, open_sequence-keeps, moves.other_may, chains)

  pub time_out-keeps : (p : Image) (c : CallNo) → Keeps G R (time_out p c)
  unfolding time_out
  time_out-keeps p c = search (with_call-keeps, changes-keeps, unqueued-alters, then-keeps, says-keeps, deliver-keeps, chains, plain_steps) depth 8

  pub spend_quantum-keeps : (p : Image) (by : Option Who) → Keeps G R (spend_quantum p by)
  unfolding spend_quantum
  spend_quantum-keeps p None = search (nothing-keeps, chains)
  spend_quantum-keeps p (Some who.Agent) = search (nothing-keeps, chains)
  spend_quantum-keeps p (Some (who.Task t)) =
      search (looks-keeps, when-keeps, says-keeps, then-keeps, to_tail-keeps, moves.other_may, moves.task_other, chains) depth 8

  pub quantum_spent-leads : (p : Image) → Leads G Q (quantum_spent p)
  quantum_spent-leads p = search (effect-leads, looks-keeps, spend_quantum-keeps, chains)

  -- an appointment that is no event
  pub moment_due-keeps : (p : Image) (due : Due) → is_an_event due ≡ false → Keeps G R (come_due p due)
  unfolding come_due
  moment_due-keeps p (due_for.Event n h) other = absurd (false≢true (sym other))
  moment_due-keeps p (due_for.Delay t) other = search (end_delay-keeps, moves.task_other)
  moment_due-keeps p (due_for.Timeout c) other = search (time_out-keeps)
  moment_due-keeps p (due_for.Trigger t depth) other = search (trigger_at-keeps, then-keeps, unwind-keeps, moves.task_other, chains)

  spares-events : (due : Due) → is_an_event due ≡ false → SparesEvents (is_the_same_due due)
  spares-events (due_for.Event n h) other m k = absurd (false≢true (sym other))
  spares-events (due_for.Delay t) other m k = refl
  spares-events (due_for.Timeout c) other m k = refl
  spares-events (due_for.Trigger t depth) other m k = refl

  take_moment-keeps : (p : Image) (again : Step) (a : Appointment) → is_an_event a.due ≡ false → Keeps G R again → Keeps G R (take_due p again (Some a))
  take_moment-keeps p again a other kept =
      then-keeps (chains moves) (changes (drop_appointment (is_the_same_due a.due))) _
      (changes-keeps (chains moves) _ (drop_appointment-alters moves (is_the_same_due a.due) (spares-events a.due other)))
      (then-keeps (chains moves) (come_due p a.due) again (moment_due-keeps p a.due other) kept)

  -- what is found is no event
  found_other : (due event : Bool) (a b : Appointment) (rest : Option Appointment) → event ≡ is_an_event a.due
      → cond (due && same_bool event false) (Some a) rest ≡ Some b → (rest ≡ Some b → is_an_event b.due ≡ false) → is_an_event b.due ≡ false
  found_other true false a b rest e h others = ap (λ x. is_an_event (or_that a x).due) (sym h) ∙ sym e
  found_other true true a b rest e h others = others h
  found_other false event a b rest e h others = others h

  first_due-other : (time : ℕ) (xs : List Appointment) (a : Appointment) → first_due false time xs ≡ Some a → is_an_event a.due ≡ false
  first_due-other time [] a h = absurd (false≢true (ap is_there h))
  first_due-other time (x ∷ xs) a h =
      found_other (int_le x.moment (pos time)) (is_an_event x.due) x a (first_due false time xs) refl h (first_due-other time xs a)

  taken-from : (p : Image) (again : Step) (w : World) (found : Option Appointment) → G w → first_due false w.time w.appointments ≡ found → Keeps G R again
      → From R w (take_due p again found)
  taken-from p again w None good is kept = keeps-from (chains moves) nothing w good (nothing-keeps (chains moves))
  taken-from p again w (Some a) good is kept =
      keeps-from (chains moves) _ w good (take_moment-keeps p again a (first_due-other w.time w.appointments a is) kept)

  all_moments-keeps : (fuel : ℕ) (p : Image) → Keeps G R (all_due fuel p false)
  unfolding all_due
  all_moments-keeps zero p = nothing-keeps (chains moves)
  all_moments-keeps (suc fuel) p =
      looks-from (chains moves) _ (λ w good. taken-from p (all_due fuel p false) w (first_due false w.time w.appointments) good refl (all_moments-keeps fuel p))

  pub moments_due-leads : (p : Image) → Leads G Q (moments_due p)
  moments_due-leads p = effect-leads moves p _ (looks-keeps (chains moves) _ (λ w. all_moments-keeps (length w.appointments) p))

-- ---- what is due, and may release

module _ {G : GoodWorld} {May Other : Naming} {R : StepRelation} {Q : MoveRelation} (moves : FinestMoves G May Other R Q) (settings : SettingMoves G R)
    (releasing : Releasing G R) where
  with_port-alters : (n : ℕ) (value : ℤ) → Alters G R (with_port n value)
  unfolding Alters
  with_port-alters n value w good = settings.sets_port n value w good

  with_masked-alters : (n : ℕ) (flag : Bool) → Alters G R (with_masked n flag)
  unfolding Alters
  with_masked-alters n flag w good = settings.masks n flag w good

  with_kept_interrupt-alters : (n : ℕ) (flag : Bool) → Alters G R (with_kept_interrupt n flag)
  unfolding Alters
  with_kept_interrupt-alters n flag w good = settings.keeps_interrupt n flag w good

  pub interrupt_comes-keeps : (p : Image) (n : ℕ) (test : Bool) → Keeps G R (interrupt_comes p n test)
  unfolding interrupt_comes
  interrupt_comes-keeps p n true = search (says-keeps, then-keeps, changes-keeps, with_kept_interrupt-alters, chains)
  interrupt_comes-keeps p n false = search (interrupt-keeps)

  pub deliver_kept_interrupt-keeps : (p : Image) (n : ℕ) (test : Bool) → Keeps G R (deliver_kept_interrupt p n test)
  unfolding deliver_kept_interrupt
  deliver_kept_interrupt-keeps p n true = search (changes-keeps, with_kept_interrupt-alters, then-keeps, interrupt-keeps, chains)
  deliver_kept_interrupt-keeps p n false = search (nothing-keeps, chains)

  pub script_item-keeps : (p : Image) (it : Item) → Keeps G R (script_item p it)
  unfolding script_item
  script_item-keeps p (item.Interrupt n) = search (looks-keeps, interrupt_comes-keeps, chains)
  script_item-keeps p (item.Port n value) = search (changes-keeps, with_port-alters, then-keeps, says-keeps, chains)
  script_item-keeps p (item.Mask n) = search (changes-keeps, with_masked-alters, then-keeps, says-keeps, chains)
  script_item-keeps p (item.Unmask n) =
      search (changes-keeps, with_masked-alters, then-keeps, says-keeps, looks-keeps, deliver_kept_interrupt-keeps, chains) depth 8

  take_item_if-from : (p : Image) (again : Step) (x : ℤ × Item) (xs : List (ℤ × Item)) (w : World) (test : Bool) → G w → w.script ≡ x ∷ xs
      → int_le x.0 (pos w.time) ≡ test → Keeps G R again
      → From R w (elim test as (λ _. Step) [ true ↦ changes (with_script xs) ▷ script_item p x.1 ▷ again | false ↦ nothing ])
  take_item_if-from p again x xs w true good is due kept =
      then-from (chains moves) (changes (with_script xs)) (script_item p x.1 ▷ again) w
      (changes-from (chains moves) (with_script xs) w (settings.cuts_script x xs w good is due))
      (then-keeps (chains moves) (script_item p x.1) again (script_item-keeps p x.1) kept)
  take_item_if-from p again x xs w false good is due kept = keeps-from (chains moves) nothing w good (nothing-keeps (chains moves))

  take_item-from : (p : Image) (again : Step) (w : World) (script : List (ℤ × Item)) → G w → w.script ≡ script → Keeps G R again
      → From R w (take_item p w.time again script)
  take_item-from p again w [] good is kept = keeps-from (chains moves) nothing w good (nothing-keeps (chains moves))
  take_item-from p again w (x ∷ xs) good is kept = take_item_if-from p again x xs w (int_le x.0 (pos w.time)) good is refl kept

  items_due-keeps : (fuel : ℕ) (p : Image) → Keeps G R (items_due fuel p)
  unfolding items_due
  items_due-keeps zero p = search (nothing-keeps, chains)
  items_due-keeps (suc fuel) p =
      looks-from (chains moves) _ (λ w good. take_item-from p (items_due fuel p) w w.script good refl (items_due-keeps fuel p))

  pub script_items-leads : (p : Image) → Leads G Q (script_items p)
  script_items-leads p = search (effect-leads, looks-keeps, items_due-keeps, chains)

  pub come_due-keeps : (p : Image) (due : Due) → Keeps G R (come_due p due)
  unfolding come_due
  come_due-keeps p (due_for.Event n h) = releasing.releases p h (Some n)
  come_due-keeps p (due_for.Delay t) = moment_due-keeps moves p (due_for.Delay t) refl
  come_due-keeps p (due_for.Timeout c) = moment_due-keeps moves p (due_for.Timeout c) refl
  come_due-keeps p (due_for.Trigger t depth) = moment_due-keeps moves p (due_for.Trigger t depth) refl

  dropped-alters : (test : Due → Bool) → Alters G R (drop_appointment test)
  unfolding Alters
  dropped-alters test w good = settings.drops_any test w good

  pub take_due-keeps : (p : Image) (again : Step) (a : Option Appointment) → Keeps G R again → Keeps G R (take_due p again a)
  take_due-keeps p again None kept = search (nothing-keeps, chains)
  take_due-keeps p again (Some a) kept = search (changes-keeps, dropped-alters, then-keeps, come_due-keeps, chains)

  all_due-keeps : (fuel : ℕ) (p : Image) (events : Bool) → Keeps G R (all_due fuel p events)
  unfolding all_due
  all_due-keeps zero p events = search (nothing-keeps, chains)
  all_due-keeps (suc fuel) p events =
      looks-keeps (chains moves) _ (λ w. take_due-keeps p (all_due fuel p events) (first_due events w.time w.appointments) (all_due-keeps fuel p events))

  pub appointments_due-leads : (p : Image) (events : Bool) → Leads G Q (appointments_due p events)
  appointments_due-leads p events = search (effect-leads, looks-keeps, all_due-keeps, chains)

  pub events_due-leads : (p : Image) → Leads G Q (events_due p)
  events_due-leads p = search (appointments_due-leads)

  pub expire-keeps : (p : Image) (k : ℕ) (setting : Option TimerSetting) → Keeps G R (expire p k setting)
  unfolding expire
  expire-keeps p k None = search (nothing-keeps, chains)
  expire-keeps p k (Some s) =
      then-keeps (chains moves) (changes (clear_timer k)) _ (search (changes-keeps, clear_timer-alters, chains)) (releasing.releases p s.handler (Some k))

  pub expire_timer-keeps : (p : Image) (k : ℕ) → Keeps G R (expire_timer p k)
  unfolding expire_timer
  expire_timer-keeps p k = search (looks-keeps, expire-keeps, chains)

  no_timers_due-alters : Alters G R no_timers_due
  unfolding Alters
  no_timers_due-alters w good = settings.sets_timers_due [] w good

  pub timers_due-leads : (p : Image) → Leads G Q (timers_due p)
  timers_due-leads p = search (effect-leads, looks-keeps, for_each-keeps, expire_timer-keeps, then-keeps, changes-keeps, no_timers_due-alters, chains) depth 8

  pub run_out-keeps : (p : Image) (b : ℕ) → Keeps G R (run_out p b)
  unfolding run_out
  run_out-keeps p b = looks-keeps (chains moves) _ (λ w. for_some-keeps (chains moves) (budget_of w b).handler _ (λ h. releasing.releases p h (Some b)))

  no_budget_due-alters : Alters G R no_budget_due
  unfolding Alters
  no_budget_due-alters w good = settings.sets_budget_due None w good

  pub budgets_due-leads : (p : Image) → Leads G Q (budgets_due p)
  budgets_due-leads p = search (effect-leads, looks-keeps, for_some-keeps, run_out-keeps, then-keeps, changes-keeps, no_budget_due-alters, chains) depth 8

  -- all of an instant but the effect of the action that ended
  pub behind_action-leads : (p : Image) → Leads G Q (script_items p ▶ events_due p ▶ moments_due p ▶ timers_due p ▶ budgets_due p ▶ quantum_spent p)
  behind_action-leads p =
      search
      (then-leads, script_items-leads, events_due-leads, moments_due-leads, timers_due-leads, budgets_due-leads, quantum_spent-leads, move_chains) depth 9

-- ---- where anybody may be changed

module _ {G : GoodWorld} {Act : Acting} {Holds : Holding} {R : StepRelation} {Q : MoveRelation} (moves : AllMoves G Holds R Q) (stays : Stays Holds)
    (acts : Acts Act Holds) (p : Image) (puts : Puts G R p) where
  effect-from : (name : Who) (w : World) → G w → Act name w → From R w (effect p name)
  unfolding effect Alters
  effect-from name w good acting =
      let v = edit_task name (with_ticks None) w in
      let first = edit_task-alters moves.fine name (with_ticks None) (λ t. refl) (λ t. refl) (λ t. refl) (λ t. refl) (λ t. refl) w good in
      changes_then-from (chains moves.fine) (edit_task name (with_ticks None)) _ w first
      (then-from (chains moves.fine) (act p name) _ v
      (any_act-from moves stays acts p puts name v (moves.fine.behind w v first) (acts.without_ticks name w acting))
      (then-keeps (chains moves.fine) _ _ (open_if_ready-keeps moves.fine p name tt)
      (then-keeps (chains moves.fine) _ _ (take_terminates-keeps moves.fine p name tt) (unwind_all-keeps moves.fine p name))))

  over-leads : (name : Who) (w : World) (test : Bool) → G w → (test ≡ true → Act name w) →
      let d = (elim test as (λ _. Move) [ true ↦ settles p (effect p name) | false ↦ rests ]) w in
      Q w d.1 d.0
  over-leads name w true good acting = settles-from Q p (moves.fine.settles p) (effect p name) w (effect-from name w good (acting refl))
  over-leads name w false good acting = moves.fine.rests w good

  runner-leads : (by : Option Who) (w : World) → G w → ((name : Who) → by ≡ Some name → is_over (task_of w name).ticks_left ≡ true → Act name w) →
      let d = effect_of_runner p by w in
      Q w d.1 d.0
  runner-leads None w good acting = moves.fine.rests w good
  runner-leads (Some name) w good acting = over-leads name w (is_over (task_of w name).ticks_left) good (acting name refl)

  -- an instant, where of who acts is known what is
  pub instant-from : (w : World) → G w → ((name : Who) → w.ran ≡ Some name → is_over (task_of w name).ticks_left ≡ true → Act name w) →
      let d = instant p w in
      Q w d.1 d.0
  unfolding Leads
  instant-from w good acting =
      let rest : Move = script_items p ▶ events_due p ▶ moments_due p ▶ timers_due p ▶ budgets_due p ▶ quantum_spent p in
      let v = (finish_action p w).0 in
      let first : Q w (finish_action p w).1 v = runner-leads w.ran w good acting in
      moves.fine.leads_on w v (rest v).0 first (behind_action-leads moves.fine moves.settings (releasing moves) p v (moves.fine.moved w v first))

-- where nothing need be known
module _ {G : GoodWorld} {R : StepRelation} {Q : MoveRelation} (moves : AllMoves G Anyhow R Q) where
  pub instant-leads : (p : Image) → Puts G R p → Leads G Q (instant p)
  unfolding Leads
  instant-leads p puts w good = instant-from moves stays_anyhow acts_anyhow p puts w good (λ name ran over. tt)
