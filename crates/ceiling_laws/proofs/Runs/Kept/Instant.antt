-- The parts of an instant beside the effect of the action that ended: each step keeps what its parts keep.
use Rattle.ann_base.specs.declared.identities.CallNo.{CallNo}
use Rattle.ann_base.specs.declared.identities.TaskNo.{TaskNo}
use Rattle.ceiling_laws.proofs.Fine.Kept.CallEnds.{deliver-keeps, trigger_at-keeps}
use Rattle.ceiling_laws.proofs.Fine.Kept.Calls.{unqueued-alters, with_call-keeps}
use Rattle.ceiling_laws.proofs.Fine.Kept.Frames.{open_sequence-keeps}
use Rattle.ceiling_laws.proofs.Runs.Kept.Handlers.{clear_timer-alters, interrupt-keeps, release-keeps}
use Rattle.ceiling_laws.proofs.Fine.Kept.Scopes.{dropped-same}
use Rattle.ceiling_laws.proofs.Runs.Kept.Tasks.{plain-alters, says-keeps}
use Rattle.ceiling_laws.proofs.Fine.Kept.Unwinding.{unwind-keeps}
use Rattle.ceiling_laws.proofs.Runs.LevelMoves.{BaseMoves, Sleeping}
use Rattle.ceiling_laws.proofs.Runs.SameLemmas.{edit_task-same}
use Rattle.ceiling_laws.proofs.Runs.Triples.{Alters, At, Ends, Keeps, Leads, State, With, changes-keeps, changes-leads, for_each-keeps, for_some-keeps}
use Rattle.ceiling_laws.proofs.Runs.Triples.{from-leads, from_at, looks-keeps, looks-with, nothing-keeps, then-keeps, then-leads, when-leads}
use Rattle.ceiling_laws.specs.Cores.{Same, is_delayed}
use Rattle.ceiling_laws.proofs.Runs.Finer.{fine, fine_base, fine_same}
use Rattle.profile_machine.specs.Appointments.{drop_appointment, first_due, is_an_event, is_delay_of}
use Rattle.profile_machine.specs.CallEnds.{trigger_at}
use Rattle.profile_machine.specs.Dispatching.{active, ready, to_tail}
use Rattle.profile_machine.specs.Frames.{any_protected, edit_first, edit_top, goes, goes_on}
use Rattle.profile_machine.specs.Handlers.{release}
use Rattle.profile_machine.specs.Instant.{all_due, come_due, deliver_kept_interrupt, end_delay, expire, expire_timer, has_spent_quantum, interrupt_comes}
use Rattle.profile_machine.specs.Instant.{is_the_same_due, items_due, no_budget_due, no_timers_due, run_out, script_item, spend_quantum, take_delay}
use Rattle.profile_machine.specs.Instant.{take_due, take_item, time_out, with_kept_interrupt, with_masked, with_port, with_script}
use Rattle.profile_machine.specs.Masters.{terminate}
use Rattle.profile_image.specs.Program.{is_robin_level, next_of}
use Rattle.profile_machine.specs.Steps.{Step, changes, for_each, for_some, looks, nothing, says, ◌▷◌}
use Rattle.profile_machine.specs.Tasks.{is_runnable, task_of, waiting_of, with_frames}
use Rattle.profile_machine.specs.Unwinding.{unwind}
use Rattle.profile_machine.specs.Values.{budget_of, timer_of, value}
use Rattle.profile_image.specs.Words.{same_bool, is_flag}
use Rattle.ann_base.specs.Lists.{is_empty}
use Rattle.profile_image.specs.declared.image.Image.{Image}
use Rattle.profile_image.specs.declared.numbers.StatementNo.{StatementNo}
use Rattle.profile_image.specs.declared.script_items.Item.{Item}
use Rattle.profile_image.specs.declared.script_items.Item.TheVariants as item
use Rattle.profile_machine.specs.declared.world.World.{World}
use Rattle.profile_machine.specs.declared.world.appointments.Appointment.{Appointment}
use Rattle.profile_machine.specs.declared.world.appointments.Due.{Due}
use Rattle.profile_machine.specs.declared.world.appointments.Due.TheVariants as due_for
use Rattle.profile_machine.specs.declared.world.appointments.TimerSetting.{TimerSetting}
use Rattle.profile_machine.specs.declared.world.calls.Outcome.TheVariants as call_ended
use Rattle.profile_machine.specs.declared.world.lines.Line.TheVariants as line
use Rattle.profile_machine.specs.declared.world.lines.Part.TheVariants.{Own}
use Rattle.profile_machine.specs.declared.world.lines.Said.{Said}
use Rattle.profile_machine.specs.declared.world.tasks.Waiting.{Waiting}
use Rattle.profile_machine.specs.declared.world.tasks.Waiting.TheVariants as waits_for
use Rattle.std.proofs.Common.{ap, cond, eq-eqb, refl, subst, sym, ◌∙◌, ◌≡◌}
use Rattle.std.specs.List.{list_any}
use Rattle.std.specs.Prelude.{Bool, List, None, Option, Some, [], eqb, false, find, int_le, length, not, pos, suc, true, zero, ℕ, ℤ, ◌&&◌, ◌||◌, ◌∷◌}
use Rattle.std.proofs.lemmas.Bool.{or_right}
use Rattle.trace_text.specs.declared.events.Who.{Who}
use Rattle.trace_text.specs.declared.events.Who.TheVariants as who

-- for whom a moment may be appointed in a world
abbrev pub Appointing : Type 1
Appointing = World → TaskNo → Type 0

-- what all of them keep, in which lines are of one part
pub record OtherMoves (p : Image) (Sleeps : Sleeping) (Drawn : Appointing) (N : State) : Type 0 where
  pub base : BaseMoves p (λ part name. part ≡ Own) Sleeps N
  pub drawn : (v : World) (said : List Said) (t : TaskNo) → N v said → is_delayed t v ≡ true → Drawn v t
  pub drawn_on : (a b : World) (t : TaskNo) → Same a b → Drawn a t → Drawn b t
  pub readies : (t : TaskNo) → Leads (With N (λ w. Drawn w t)) N (ready p Own (who.Task t))
  pub tails : (t : TaskNo) → Leads (With N (λ w. is_runnable (task_of w (who.Task t)) ≡ true)) N (to_tail p Own (who.Task t))

pub first_of_six : (a b c d e f : Bool) → (a && b && c && d && e && f) ≡ true → a ≡ true
first_of_six true b c d e f h = refl
first_of_six false b c d e f h = cc

module _ {p : Image} {Sleeps : Sleeping} {Drawn : Appointing} {N : State} (moves : OtherMoves p Sleeps Drawn N) where
  with_port-alters : (n : ℕ) (value : ℤ) → Alters N (with_port n value)
  with_port-alters n value = plain-alters moves.base.quiet (with_port n value) (λ w. refl) (λ w. refl) (λ w. refl) (λ w. refl) (λ w. refl) (λ w t e. e)

  with_masked-alters : (n : ℕ) (flag : Bool) → Alters N (with_masked n flag)
  with_masked-alters n flag = plain-alters moves.base.quiet (with_masked n flag) (λ w. refl) (λ w. refl) (λ w. refl) (λ w. refl) (λ w. refl) (λ w t e. e)

  with_kept_interrupt-alters : (n : ℕ) (flag : Bool) → Alters N (with_kept_interrupt n flag)
  with_kept_interrupt-alters n flag =
      plain-alters moves.base.quiet (with_kept_interrupt n flag) (λ w. refl) (λ w. refl) (λ w. refl) (λ w. refl) (λ w. refl) (λ w t e. e)

  with_script-alters : (script : List (ℤ × Item)) → Alters N (with_script script)
  with_script-alters script = plain-alters moves.base.quiet (with_script script) (λ w. refl) (λ w. refl) (λ w. refl) (λ w. refl) (λ w. refl) (λ w t e. e)

  interrupt_comes-keeps : (n : ℕ) (test : Bool) → Keeps N (interrupt_comes p n test)
  unfolding interrupt_comes
  interrupt_comes-keeps n true = then-keeps _ _ (says-keeps moves.base.quiet Own (line.Masked n) refl) (changes-keeps _ (with_kept_interrupt-alters n true))
  interrupt_comes-keeps n false = interrupt-keeps moves.base refl n

  deliver_kept_interrupt-keeps : (n : ℕ) (test : Bool) → Keeps N (deliver_kept_interrupt p n test)
  unfolding deliver_kept_interrupt
  deliver_kept_interrupt-keeps n true = then-keeps _ _ (changes-keeps _ (with_kept_interrupt-alters n false)) (interrupt-keeps moves.base refl n)
  deliver_kept_interrupt-keeps n false = nothing-keeps

  script_item-keeps : (it : Item) → Keeps N (script_item p it)
  unfolding script_item
  script_item-keeps (item.Interrupt n) = looks-keeps _ (λ w. interrupt_comes-keeps n (is_flag w.masked n))
  script_item-keeps (item.Port n value) = then-keeps _ _ (changes-keeps _ (with_port-alters n value)) (says-keeps moves.base.quiet Own (line.Port n value) refl)
  script_item-keeps (item.Mask n) = then-keeps _ _ (changes-keeps _ (with_masked-alters n true)) (says-keeps moves.base.quiet Own (line.Mask n) refl)
  script_item-keeps (item.Unmask n) =
      then-keeps _ _ (changes-keeps _ (with_masked-alters n false))
      (then-keeps _ _ (says-keeps moves.base.quiet Own (line.Unmask n) refl)
      (looks-keeps _ (λ w. deliver_kept_interrupt-keeps n (is_flag w.kept_interrupts n))))

  take_item_if-keeps : (again : Step) (x : ℤ × Item) (xs : List (ℤ × Item)) (test : Bool) → Keeps N again
      → Keeps N (elim test as (λ _. Step) [ true ↦ changes (with_script xs) ▷ script_item p x.1 ▷ again | false ↦ nothing ])
  take_item_if-keeps again x xs true kept = then-keeps _ _ (changes-keeps _ (with_script-alters xs)) (then-keeps _ _ (script_item-keeps x.1) kept)
  take_item_if-keeps again x xs false kept = nothing-keeps

  take_item-keeps : (now : ℕ) (again : Step) (script : List (ℤ × Item)) → Keeps N again → Keeps N (take_item p now again script)
  take_item-keeps now again [] kept = nothing-keeps
  take_item-keeps now again (x ∷ xs) kept = take_item_if-keeps again x xs (int_le x.0 (pos now)) kept

  items_due-keeps : (fuel : ℕ) → Keeps N (items_due fuel p)
  unfolding items_due
  items_due-keeps zero = nothing-keeps
  items_due-keeps (suc fuel) = looks-keeps _ (λ w. take_item-keeps w.time (items_due fuel p) w.script (items_due-keeps fuel))

  pub script_items-keeps : Keeps N (looks (λ w. items_due (length w.script) p))
  script_items-keeps = looks-keeps _ (λ w. items_due-keeps (length w.script))

  -- ---- appointments

  -- where a task is one for whom a moment may be appointed
  abbrev Delayed : TaskNo → State
  Delayed t = With N (λ w. Drawn w t)

  delayed_changes : (t : TaskNo) (f : World → World) → ((w : World) → Same w (f w)) → Keeps (Delayed t) (changes f)
  delayed_changes t f same = changes-leads f (λ w said h. (moves.base.quiet.silently w (f w) said (same w) h.0, moves.drawn_on w (f w) t (same w) h.1))

  delayed_goes : (t : TaskNo) (name : Who) (onward : Option StatementNo) → Keeps (Delayed t) (goes name onward)
  unfolding goes
  delayed_goes t name onward =
      delayed_changes t (edit_top name (goes_on onward)) (λ w. edit_task-same name (λ u. with_frames (edit_first (goes_on onward) u.frames) u) w (λ u. refl))

  take_delay-keeps : (t : TaskNo) (name : Who) (waiting : Option Waiting) → Keeps (Delayed t) (take_delay p name waiting)
  unfolding take_delay
  take_delay-keeps t name (Some (waits_for.Select accepts (Some delay) terminate)) = delayed_goes t name (next_of p delay)
  take_delay-keeps t name _ = nothing-keeps

  end_delay-leads : (t : TaskNo) → Leads (Delayed t) N (end_delay p (who.Task t))
  unfolding end_delay
  end_delay-leads t =
      then-leads (looks (λ w. take_delay p (who.Task t) (waiting_of w (who.Task t)))) _
      (looks-keeps _ (λ w. take_delay-keeps t (who.Task t) (waiting_of w (who.Task t))))
      (then-leads (ready p Own (who.Task t)) _ (moves.readies t) (open_sequence-keeps (fine moves.base.quiet) p Own (who.Task t)))

  time_out-keeps : (c : CallNo) → Keeps N (time_out p c)
  unfolding time_out
  time_out-keeps c =
      with_call-keeps (fine moves.base.quiet) c _ (λ d. then-keeps _ _ (changes-keeps _ (unqueued-alters (fine moves.base.quiet) p d))
      (then-keeps _ _ (says-keeps moves.base.quiet Own (line.Cancel d.caller c) refl)
      (deliver-keeps (fine_base moves.base) Own c call_ended.Cancelled (λ name. refl))))

  -- a task for whom a moment comes is one of those
  abbrev Coming : Due → State
  Coming due = With N (λ w. (t : TaskNo) → is_delay_of t due ≡ true → Drawn w t)

  come_due-leads : (due : Due) → Leads (Coming due) N (come_due p due)
  unfolding come_due
  come_due-leads (due_for.Event n h) = from-leads (release p Own h (Some n)) (λ w said k. k.0) (release-keeps moves.base refl h (Some n))
  come_due-leads (due_for.Delay t) = from-leads (end_delay p (who.Task t)) (λ w said k. (k.0, k.1 t (eq-eqb t.0 t.0 refl))) (end_delay-leads t)
  come_due-leads (due_for.Timeout c) = from-leads (time_out p c) (λ w said k. k.0) (time_out-keeps c)
  come_due-leads (due_for.Trigger t depth) =
      from-leads (trigger_at Own t depth ▷ unwind p Own (who.Task t)) (λ w said k. k.0)
      (then-keeps _ _ (trigger_at-keeps (fine moves.base.quiet) Own t depth) (unwind-keeps (fine_base moves.base) Own (who.Task t) refl))

  -- an appointment that is found is one of the world's
  found-any : (test other : Appointment → Bool) (xs : List Appointment) (a : Appointment) → find other xs ≡ Some a → test a ≡ true → list_any test xs ≡ true
  found-any test other [] a found is = absurd cc
  found-any test other (x ∷ xs) a found is = found-step (other x) test x a xs found is (λ k. found-any test other xs a k is) where
    found-step : (b : Bool) (test : Appointment → Bool) (x a : Appointment) (xs : List Appointment) → cond b (Some x) (find other xs) ≡ Some a → test a ≡ true
        → (find other xs ≡ Some a → list_any test xs ≡ true) → list_any test (x ∷ xs) ≡ true
    found-step true test x a xs found is onward = let one : x ≡ a = cc in ap (λ t. t || list_any test xs) (ap test one ∙ is)
    found-step false test x a xs found is onward = or_right (test x) (list_any test xs) (onward found)

  drop_due : (v : World) (said : List Said) (a : Appointment) → N v said → ((t : TaskNo) → is_delay_of t a.due ≡ true → is_delayed t v ≡ true)
      → Leads (At N v) (Coming a.due) (changes (drop_appointment (is_the_same_due a.due)))
  drop_due v said a h delayed =
      changes-leads (drop_appointment (is_the_same_due a.due)) (λ w more k.
      let same = fine_same w (drop_appointment (is_the_same_due a.due) w) (dropped-same (is_the_same_due a.due) w) in (
        moves.base.quiet.silently w (drop_appointment (is_the_same_due a.due) w) more same k.0,
        λ t e. moves.drawn_on w (drop_appointment (is_the_same_due a.due) w) t same (subst (λ u. Drawn u t) (sym k.1) (moves.drawn v said t h (delayed t e))),
      ))

  take_due-leads : (v : World) (said : List Said) (again : Step) (found : Option Appointment) → N v said
      → ((a : Appointment) → found ≡ Some a → (t : TaskNo) → is_delay_of t a.due ≡ true → is_delayed t v ≡ true) → Keeps N again
      → Leads (At N v) N (take_due p again found)
  take_due-leads v said again None h delayed kept = from_at nothing nothing-keeps
  take_due-leads v said again (Some a) h delayed kept =
      then-leads (changes (drop_appointment (is_the_same_due a.due))) _ (drop_due v said a h (delayed a refl))
      (then-leads (come_due p a.due) again (come_due-leads a.due) kept)

  all_due-keeps : (fuel : ℕ) (events : Bool) → Keeps N (all_due fuel p events)
  unfolding all_due
  all_due-keeps zero events = nothing-keeps
  all_due-keeps (suc fuel) events =
      looks-with _ (λ v said h. take_due-leads v said (all_due fuel p events) (first_due events v.time v.appointments) h
      (λ a found t e. found-any (λ x. is_delay_of t x.due) (λ x. int_le x.moment (pos v.time) && same_bool (is_an_event x.due) events) v.appointments a found e)
      (all_due-keeps fuel events))

  pub appointments_due-keeps : (events : Bool) → Keeps N (looks (λ w. all_due (length w.appointments) p events))
  appointments_due-keeps events = looks-keeps _ (λ w. all_due-keeps (length w.appointments) events)

  -- ---- timers, budgets and quanta

  expire-keeps : (k : ℕ) (setting : Option TimerSetting) → Keeps N (expire p k setting)
  unfolding expire
  expire-keeps k None = nothing-keeps
  expire-keeps k (Some s) = then-keeps _ _ (changes-keeps _ (clear_timer-alters moves.base.quiet k)) (release-keeps moves.base refl s.handler (Some k))

  expire_timer-keeps : (k : ℕ) → Keeps N (expire_timer p k)
  unfolding expire_timer
  expire_timer-keeps k = looks-keeps _ (λ w. expire-keeps k (timer_of w k).setting)

  no_timers_due-alters : Alters N no_timers_due
  no_timers_due-alters = plain-alters moves.base.quiet no_timers_due (λ w. refl) (λ w. refl) (λ w. refl) (λ w. refl) (λ w. refl) (λ w t e. e)

  pub timers_due-keeps : Keeps N (looks (λ w. for_each w.timers_due (expire_timer p)) ▷ changes no_timers_due)
  timers_due-keeps =
      then-keeps _ _ (looks-keeps _ (λ w. for_each-keeps w.timers_due (expire_timer p) expire_timer-keeps)) (changes-keeps _ no_timers_due-alters)

  run_out-keeps : (b : ℕ) → Keeps N (run_out p b)
  unfolding run_out
  run_out-keeps b = looks-keeps _ (λ w. for_some-keeps (budget_of w b).handler _ (λ h. release-keeps moves.base refl h (Some b)))

  no_budget_due-alters : Alters N no_budget_due
  no_budget_due-alters = plain-alters moves.base.quiet no_budget_due (λ w. refl) (λ w. refl) (λ w. refl) (λ w. refl) (λ w. refl) (λ w t e. e)

  pub budgets_due-keeps : Keeps N (looks (λ w. for_some w.budget_due (run_out p)) ▷ changes no_budget_due)
  budgets_due-keeps = then-keeps _ _ (looks-keeps _ (λ w. for_some-keeps w.budget_due (run_out p) run_out-keeps)) (changes-keeps _ no_budget_due-alters)

  spent-at : (v : World) (t : TaskNo) → has_spent_quantum p (task_of v (who.Task t)) ≡ true
      → Leads (At N v) N (says Own (line.Quantum t) ▷ to_tail p Own (who.Task t))
  unfolding Ends
  spent-at v t is =
      let u = task_of v (who.Task t) in
      let running : is_runnable u ≡ true =
      first_of_six (is_runnable u) (eqb u.quantum 0) (is_robin_level p u.base) (eqb (active p u) u.base) (is_empty u.inherited)
      (not (any_protected u.frames)) is in
      then-leads (says Own (line.Quantum t)) (to_tail p Own (who.Task t))
      (record {
        runs = λ w said h. (
          moves.base.quiet.says Own (line.Quantum t) w said refl h.0,
          subst (λ x. is_runnable (task_of x (who.Task t)) ≡ true) (sym h.1) running,
        );
      })
      (moves.tails t)

  spend_quantum-keeps : (by : Option Who) → Keeps N (spend_quantum p by)
  unfolding spend_quantum
  spend_quantum-keeps None = nothing-keeps
  spend_quantum-keeps (Some who.Agent) = nothing-keeps
  spend_quantum-keeps (Some (who.Task t)) = looks-with _ (λ v said h. when-leads (has_spent_quantum p (task_of v (who.Task t))) _ (spent-at v t) (λ w s k. k.0))

  pub quantum_spent-keeps : Keeps N (looks (λ w. spend_quantum p w.ran))
  quantum_spent-keeps = looks-keeps _ (λ w. spend_quantum-keeps w.ran)
