-- The parts of an instant, and the instant: each step keeps a relation that its parts keep.
use Rattle.std.proofs.Common.{◌≡◌, false, refl, sym, subst}
use Rattle.ann_base.specs.declared.identities.TaskNo.{TaskNo}
use Rattle.std.specs.Prelude.{ℕ, zero, suc, ℤ, pos, int_le, Bool, true, false, List, [], ◌∷◌, Option, Some, None}
use Rattle.ann_base.specs.declared.identities.CallNo.{CallNo}
use Rattle.trace_text.specs.declared.events.Who.{Who}
use Rattle.trace_text.specs.declared.events.Who.TheVariants as who
use Rattle.profile_image.specs.declared.image.Image.{Image}
use Rattle.profile_image.specs.declared.script_items.Item.{Item}
use Rattle.profile_image.specs.declared.script_items.Item.TheVariants as item
use Rattle.profile_machine.specs.declared.world.World.{World}
use Rattle.profile_machine.specs.declared.world.tasks.Task.{Task}
use Rattle.profile_machine.specs.declared.world.tasks.Waiting.{Waiting}
use Rattle.profile_machine.specs.declared.world.appointments.Due.{Due}
use Rattle.profile_machine.specs.declared.world.appointments.Appointment.{Appointment}
use Rattle.profile_machine.specs.declared.world.appointments.TimerSetting.{TimerSetting}
use Rattle.profile_machine.specs.declared.world.appointments.Due.TheVariants as due_for
use Rattle.profile_machine.specs.declared.world.tasks.Waiting.TheVariants as waits_for
use Rattle.profile_machine.specs.Steps.{Step, Move, changes, nothing, settles, ◌▷◌, rests, ◌▶◌}
use Rattle.profile_machine.specs.Tasks.{task_of, edit_task, with_ticks, waiting_of}
use Rattle.line_laws.specs.ExitLaws.{is_at_call, IsRunnerFree}
use Rattle.line_laws.proofs.Exits.Steady.{FreeIn}
use Rattle.line_laws.proofs.Exits.TaskEdits.{one_of-is, edited}
use Rattle.profile_machine.specs.Act.{act}
use Rattle.profile_machine.specs.Appointments.{first_due, drop_appointment}
use Rattle.profile_machine.specs.CallEnds.{trigger_at}
use Rattle.profile_machine.specs.Unwinding.{unwind}
use Rattle.profile_machine.specs.declared.world.lines.Part.TheVariants.{Own}
use Rattle.world_laws.proofs.Marks.TriggerLemmas.{DueRightly, due_rightly}
use Rattle.profile_machine.specs.Instant.{is_the_same_due, effect, is_over, effect_of_runner, finish_action, with_port, with_masked, with_kept_interrupt}
use Rattle.profile_machine.specs.Instant.{interrupt_comes, deliver_kept_interrupt, script_item, with_script, take_item, items_due, script_items, take_delay}
use Rattle.profile_machine.specs.Instant.{end_delay, time_out, come_due, take_due, all_due, appointments_due, events_due, moments_due, expire, expire_timer}
use Rattle.profile_machine.specs.Instant.{no_timers_due, timers_due, run_out, no_budget_due, budgets_due, spend_quantum, quantum_spent, instant}
use Rattle.machine_laws.proofs.Moves.{StepRelation, MoveRelation, Puts}
use Rattle.world_laws.proofs.Marks.FineMoves.{FineMoves, RegionMoves, chains, effect-leads, move_chains, says-keeps}
use Rattle.world_laws.proofs.Marks.Kept.Tasks.{edit_task-alters}
use Rattle.world_laws.proofs.Marks.Kept.Dispatching.{to_tail-keeps, ready-keeps}
use Rattle.world_laws.proofs.Marks.Kept.Frames.{goes-keeps, open_sequence-keeps, open_if_ready-keeps, plain_steps}
use Rattle.world_laws.proofs.Marks.Kept.Appointments.{drop_appointment-alters}
use Rattle.world_laws.proofs.Marks.Kept.Unwinding.{unwind-keeps}
use Rattle.world_laws.proofs.Marks.Kept.CallEnds.{trigger_at-from, deliver-keeps}
use Rattle.world_laws.proofs.Marks.Kept.Tasking.{take_terminates-keeps, unwind_all-keeps}
use Rattle.world_laws.proofs.Marks.Kept.Handlers.{interrupt-keeps, clear_timer-alters, releasing}
use Rattle.world_laws.proofs.Marks.Kept.Arming.{Led, led_then-from, led_changes_then-from, settles_led-from}
use Rattle.world_laws.proofs.Marks.Kept.Act.{free_act-from}
use Rattle.world_laws.proofs.Marks.MarkFacts.{Begun}
use Rattle.world_laws.proofs.Marks.TopLemmas.{begun_edited}
use Rattle.profile_machine.specs.Values.{budget_of}
use Rattle.profile_machine.specs.Handlers.{clear_timer}
use Rattle.machine_laws.proofs.FineMoves.{GoodWorld, Naming}
use Rattle.machine_laws.proofs.Kept.Handlers.{Releasing}
use Rattle.machine_laws.proofs.Kept.Combinators.{Alters, From, Keeps, Leads, changes-from, changes-keeps, changes_then-from, for_each-keeps, for_some-keeps}
use Rattle.machine_laws.proofs.Kept.Combinators.{keeps-from, looks-from, looks-keeps, nothing-keeps, then-from, then-keeps, then-leads, when-keeps}
use Rattle.machine_laws.proofs.Plain.Calls.{with_call-keeps, unqueued-alters}

module _ {G : GoodWorld} {May Other : Naming} {R : StepRelation} {Q : MoveRelation} (moves : FineMoves G May Other R Q) (releasing : Releasing G R) where
  with_port-alters : (n : ℕ) (value : ℤ) → Alters G R (with_port n value)
  unfolding Alters
  with_port-alters n value w good = moves.sets_port n value w good

  with_masked-alters : (n : ℕ) (flag : Bool) → Alters G R (with_masked n flag)
  unfolding Alters
  with_masked-alters n flag w good = moves.masks n flag w good

  with_kept_interrupt-alters : (n : ℕ) (flag : Bool) → Alters G R (with_kept_interrupt n flag)
  unfolding Alters
  with_kept_interrupt-alters n flag w good = moves.keeps_interrupt n flag w good

  pub interrupt_comes-keeps : (p : Image) (n : ℕ) (test : Bool) → Keeps G R (interrupt_comes p n test)
  unfolding interrupt_comes
  interrupt_comes-keeps p n true = search (says-keeps, then-keeps, changes-keeps, with_kept_interrupt-alters, chains)
  interrupt_comes-keeps p n false = search (interrupt-keeps)

  pub deliver_kept_interrupt-keeps : (p : Image) (n : ℕ) (test : Bool) → Keeps G R (deliver_kept_interrupt p n test)
  unfolding deliver_kept_interrupt
  deliver_kept_interrupt-keeps p n true = search (changes-keeps, with_kept_interrupt-alters, then-keeps, interrupt-keeps, chains)
  deliver_kept_interrupt-keeps p n false = search (nothing-keeps, chains)

  pub script_item-keeps : (p : Image) (it : Item) → Keeps G R (script_item p it)
  unfolding script_item
  script_item-keeps p (item.Interrupt n) = search (looks-keeps, interrupt_comes-keeps, chains)
  script_item-keeps p (item.Port n value) = search (changes-keeps, with_port-alters, then-keeps, says-keeps, chains)
  script_item-keeps p (item.Mask n) = search (changes-keeps, with_masked-alters, then-keeps, says-keeps, chains)
  script_item-keeps p (item.Unmask n) =
      search (changes-keeps, with_masked-alters, then-keeps, says-keeps, looks-keeps, deliver_kept_interrupt-keeps, chains) depth 8

  take_item_if-from : (p : Image) (again : Step) (x : ℤ × Item) (xs : List (ℤ × Item)) (w : World) (test : Bool) → G w → w.script ≡ x ∷ xs
      → int_le x.0 (pos w.time) ≡ test → Keeps G R again
      → From R w (elim test as (λ _. Step) [ true ↦ changes (with_script xs) ▷ script_item p x.1 ▷ again | false ↦ nothing ])
  take_item_if-from p again x xs w true good is due kept =
      then-from (chains moves) (changes (with_script xs)) (script_item p x.1 ▷ again) w
      (changes-from (chains moves) (with_script xs) w (moves.cuts_script x xs w good is due))
      (then-keeps (chains moves) (script_item p x.1) again (script_item-keeps p x.1) kept)
  take_item_if-from p again x xs w false good is due kept = keeps-from (chains moves) nothing w good (nothing-keeps (chains moves))

  take_item-from : (p : Image) (again : Step) (w : World) (script : List (ℤ × Item)) → G w → w.script ≡ script → Keeps G R again
      → From R w (take_item p w.time again script)
  take_item-from p again w [] good is kept = keeps-from (chains moves) nothing w good (nothing-keeps (chains moves))
  take_item-from p again w (x ∷ xs) good is kept = take_item_if-from p again x xs w (int_le x.0 (pos w.time)) good is refl kept

  items_due-keeps : (fuel : ℕ) (p : Image) → Keeps G R (items_due fuel p)
  unfolding items_due
  items_due-keeps zero p = search (nothing-keeps, chains)
  items_due-keeps (suc fuel) p =
      looks-from (chains moves) _ (λ w good. take_item-from p (items_due fuel p) w w.script good refl (items_due-keeps fuel p))

  pub script_items-leads : (p : Image) → Leads G Q (script_items p)
  script_items-leads p = search (effect-leads, looks-keeps, items_due-keeps, chains)

  pub take_delay-keeps : (p : Image) (name : Who) (waiting : Option Waiting) → Keeps G R (take_delay p name waiting)
  unfolding take_delay
  take_delay-keeps p name (Some (waits_for.Select accepts (Some delay) terminate)) = search (goes-keeps)
  take_delay-keeps p name _ = search (nothing-keeps, chains)

  pub end_delay-keeps : (p : Image) (name : Who) → Other name → Keeps G R (end_delay p name)
  unfolding end_delay
  end_delay-keeps p name other = search (looks-keeps, take_delay-keeps, then-keeps, ready-keeps, open_sequence-keeps, moves.other_may, chains)

  pub time_out-keeps : (p : Image) (c : CallNo) → Keeps G R (time_out p c)
  unfolding time_out
  time_out-keeps p c = search (with_call-keeps, changes-keeps, unqueued-alters, then-keeps, says-keeps, deliver-keeps, chains, plain_steps) depth 8

  come_due-from : (p : Image) (due : Due) (w : World) → G w → DueRightly w due → From R w (come_due p due)
  unfolding come_due
  come_due-from p (due_for.Event n h) w good due = keeps-from (chains moves) _ w good (releasing.releases p h (Some n))
  come_due-from p (due_for.Delay t) w good due = keeps-from (chains moves) _ w good (end_delay-keeps p (who.Task t) (moves.task_other t))
  come_due-from p (due_for.Timeout c) w good due = keeps-from (chains moves) _ w good (time_out-keeps p c)
  come_due-from p (due_for.Trigger t depth) w good due =
      then-from (chains moves) (trigger_at Own t depth) (unwind p Own (who.Task t)) w (trigger_at-from moves Own t depth w good due)
      (unwind-keeps moves p Own (who.Task t) (moves.task_other t))

  -- one that is appointed comes due, and is dropped first
  take_due-from : (p : Image) (again : Step) (a : Option Appointment) (events : Bool) (w : World) → G w → first_due events w.time w.appointments ≡ a
      → Keeps G R again → From R w (take_due p again a)
  unfolding Alters
  take_due-from p again None events w good found kept = keeps-from (chains moves) nothing w good (nothing-keeps (chains moves))
  take_due-from p again (Some a) events w good found kept =
      let v = drop_appointment (is_the_same_due a.due) w in
      let drops = drop_appointment-alters moves (is_the_same_due a.due) w good in
      let good_v = moves.behind w v drops in
      changes_then-from (chains moves) (drop_appointment (is_the_same_due a.due)) (come_due p a.due ▷ again) w drops
      (then-from (chains moves) (come_due p a.due) again v (come_due-from p a.due v good_v (due_rightly w (moves.facts w good) events a found)) kept)

  all_due-keeps : (fuel : ℕ) (p : Image) (events : Bool) → Keeps G R (all_due fuel p events)
  unfolding all_due
  all_due-keeps zero p events = search (nothing-keeps, chains)
  all_due-keeps (suc fuel) p events =
      looks-from (chains moves) _
      (λ w good. take_due-from p (all_due fuel p events) (first_due events w.time w.appointments) events w good refl (all_due-keeps fuel p events))

  pub appointments_due-leads : (p : Image) (events : Bool) → Leads G Q (appointments_due p events)
  appointments_due-leads p events = search (effect-leads, looks-keeps, all_due-keeps, chains)

  pub events_due-leads : (p : Image) → Leads G Q (events_due p)
  events_due-leads p = search (appointments_due-leads)

  pub moments_due-leads : (p : Image) → Leads G Q (moments_due p)
  moments_due-leads p = search (appointments_due-leads)

  pub expire-keeps : (p : Image) (k : ℕ) (setting : Option TimerSetting) → Keeps G R (expire p k setting)
  unfolding expire
  expire-keeps p k None = search (nothing-keeps, chains)
  expire-keeps p k (Some s) =
      then-keeps (chains moves) (changes (clear_timer k)) _ (search (changes-keeps, clear_timer-alters, chains)) (releasing.releases p s.handler (Some k))

  pub expire_timer-keeps : (p : Image) (k : ℕ) → Keeps G R (expire_timer p k)
  unfolding expire_timer
  expire_timer-keeps p k = search (looks-keeps, expire-keeps, chains)

  no_timers_due-alters : Alters G R no_timers_due
  unfolding Alters
  no_timers_due-alters w good = moves.sets_timers_due [] w good

  pub timers_due-leads : (p : Image) → Leads G Q (timers_due p)
  timers_due-leads p = search (effect-leads, looks-keeps, for_each-keeps, expire_timer-keeps, then-keeps, changes-keeps, no_timers_due-alters, chains) depth 8

  pub run_out-keeps : (p : Image) (b : ℕ) → Keeps G R (run_out p b)
  unfolding run_out
  run_out-keeps p b = looks-keeps (chains moves) _ (λ w. for_some-keeps (chains moves) (budget_of w b).handler _ (λ h. releasing.releases p h (Some b)))

  no_budget_due-alters : Alters G R no_budget_due
  unfolding Alters
  no_budget_due-alters w good = moves.sets_budget_due None w good

  pub budgets_due-leads : (p : Image) → Leads G Q (budgets_due p)
  budgets_due-leads p = search (effect-leads, looks-keeps, for_some-keeps, run_out-keeps, then-keeps, changes-keeps, no_budget_due-alters, chains) depth 8

  pub spend_quantum-keeps : (p : Image) (by : Option Who) → Keeps G R (spend_quantum p by)
  unfolding spend_quantum
  spend_quantum-keeps p None = search (nothing-keeps, chains)
  spend_quantum-keeps p (Some who.Agent) = search (nothing-keeps, chains)
  spend_quantum-keeps p (Some (who.Task t)) =
      search (looks-keeps, when-keeps, says-keeps, then-keeps, to_tail-keeps, moves.other_may, moves.task_other, chains) depth 8

  pub quantum_spent-leads : (p : Image) → Leads G Q (quantum_spent p)
  quantum_spent-leads p = search (effect-leads, looks-keeps, spend_quantum-keeps, chains)

  -- all of an instant but the effect of the action that ended
  pub behind_action-leads : (p : Image) → Leads G Q (script_items p ▶ events_due p ▶ moments_due p ▶ timers_due p ▶ budgets_due p ▶ quantum_spent p)
  behind_action-leads p =
      search
      (then-leads, script_items-leads, events_due-leads, moments_due-leads, timers_due-leads, budgets_due-leads, quantum_spent-leads, move_chains) depth 9

-- whose action has ended has begun
abbrev pub HasRunnerBegun : World → Type 0
HasRunnerBegun w = (name : Who) → w.ran ≡ Some name → is_over (task_of w name).ticks_left ≡ true → Begun name w

-- ---- where anybody may be changed

module _ {G : GoodWorld} {R : StepRelation} {Q : MoveRelation} (moves : RegionMoves G R Q) where
  still-free : (name : Who) (w : World) → FreeIn name (task_of w name).state → FreeIn name (task_of (edit_task name (with_ticks None) w) name).state
  still-free name w free =
      let v = edit_task name (with_ticks None) w in
      subst (λ (t : Task). FreeIn name t.state) (one_of-is v name)
      (edited (λ t. FreeIn name t.state) name name (with_ticks None) w (λ t. refl) (λ same t h. h)
      (subst (λ (t : Task). FreeIn name t.state) (sym (one_of-is w name)) free))

  -- the effect of somebody that waits for no entry call
  effect-from : (p : Image) → Puts G R p → (name : Who) (w : World) → G w → FreeIn name (task_of w name).state → Begun name w → From (Led G) w (effect p name)
  unfolding effect Alters
  effect-from p puts name w good free begun =
      let v = edit_task name (with_ticks None) w in
      let edits = edit_task-alters moves.fine name (with_ticks None) (λ t. refl) (λ t. refl) (λ t. refl) (λ t. refl) w good in
      led_changes_then-from moves.fine (edit_task name (with_ticks None)) _ w
      (led_then-from moves.fine (act p name) _ v
      (free_act-from moves p puts name v (moves.fine.behind w v edits) (still-free name w free)
      (begun_edited name (with_ticks None) w (λ t. refl) (λ t. refl) begun))
      (then-keeps (chains moves.fine) _ _ (open_if_ready-keeps moves.fine p name tt)
      (then-keeps (chains moves.fine) _ _ (take_terminates-keeps moves.fine p name tt) (unwind_all-keeps moves.fine p name))))

  -- the one whose action ends waits for none
  over-leads : (p : Image) → Puts G R p → (name : Who) (w : World) (test : Bool) → G w → (test ≡ true → FreeIn name (task_of w name).state)
      → (test ≡ true → Begun name w) →
      let d = (elim test as (λ _. Move) [ true ↦ settles p (effect p name) | false ↦ rests ]) w in
      Q w d.1 d.0
  over-leads p puts name w true good free begun =
      settles_led-from moves.fine moves.arming p (effect p name) w (effect-from p puts name w good (free refl) (begun refl))
  over-leads p puts name w false good free begun = moves.fine.rests w good

  runner-leads : (p : Image) → Puts G R p → (by : Option Who) (w : World) → G w
      → ((n : TaskNo) → by ≡ Some (who.Task n) → is_over (task_of w (who.Task n)).ticks_left ≡ true → is_at_call (waiting_of w (who.Task n)) ≡ false)
      → ((name : Who) → by ≡ Some name → is_over (task_of w name).ticks_left ≡ true → Begun name w) → let d = effect_of_runner p by w in Q w d.1 d.0
  runner-leads p puts None w good free begun = moves.fine.rests w good
  runner-leads p puts (Some (who.Task n)) w good free begun =
      over-leads p puts (who.Task n) w (is_over (task_of w (who.Task n)).ticks_left) good (free n refl) (begun (who.Task n) refl)
  runner-leads p puts (Some who.Agent) w good free begun = over-leads p puts who.Agent w (is_over w.agent.ticks_left) good (λ e. tt) (begun who.Agent refl)

  pub instant-leads : (p : Image) → Puts G R p → (w : World) → G w → IsRunnerFree w → HasRunnerBegun w → let d = instant p w in Q w d.1 d.0
  unfolding Leads
  instant-leads p puts w good free begun =
      let rest : Move = script_items p ▶ events_due p ▶ moments_due p ▶ timers_due p ▶ budgets_due p ▶ quantum_spent p in
      let v = (finish_action p w).0 in
      let first = runner-leads p puts w.ran w good free begun in
      moves.fine.leads_on w v (rest v).0 first (behind_action-leads moves.fine (releasing moves) p v (moves.fine.moved w v first))
