-- The seven steps of an instant lead from good worlds to good ones.
use Rattle.std.proofs.Common.{◌≡◌, ℕ, ℤ, zero, suc, pos, Bool, true, false, cond, ◌&&◌, ◌||◌, inl, inr}
use Rattle.std.proofs.Common.{List, [], ◌∷◌, Option, Some, None, refl, sym, subst, ap, ◌∙◌, length}
use Rattle.std.specs.Prelude.{int_le, unwrap_or}
use Rattle.std.specs.List.{list_any}
use Rattle.std.proofs.lemmas.Bool.{and_from, eq-eqb, or_left, or_right, true≢false}
use Rattle.ann_base.specs.declared.identities.CallNo.{CallNo}
use Rattle.ann_base.specs.declared.identities.TaskNo.{TaskNo}
use Rattle.trace_text.specs.declared.events.Who.{Who}
use Rattle.trace_text.specs.declared.events.Who.TheVariants as who
use Rattle.profile_image.specs.declared.image.Image.{Image}
use Rattle.profile_image.specs.declared.script_items.Item.{Item}
use Rattle.profile_image.specs.declared.script_items.Item.TheVariants as item
use Rattle.profile_machine.specs.declared.world.World.{World}
use Rattle.profile_machine.specs.declared.world.appointments.Appointment.{Appointment}
use Rattle.profile_machine.specs.declared.world.appointments.Due.{Due}
use Rattle.profile_machine.specs.declared.world.appointments.Due.TheVariants as due_for
use Rattle.profile_machine.specs.declared.world.appointments.TimerSetting.{TimerSetting}
use Rattle.profile_machine.specs.declared.world.calls.Outcome.TheVariants as call_ended
use Rattle.profile_machine.specs.declared.world.lines.Line.TheVariants as line
use Rattle.profile_machine.specs.declared.world.lines.Part.TheVariants.{Own}
use Rattle.profile_machine.specs.declared.world.tasks.Task.{Task}
use Rattle.profile_machine.specs.declared.world.tasks.Waiting.{Waiting}
use Rattle.profile_machine.specs.declared.world.tasks.Waiting.TheVariants as waits_for
use Rattle.profile_image.specs.Words.{same_bool, is_flag}
use Rattle.profile_image.specs.Program.{next_of}
use Rattle.profile_machine.specs.Steps.{Step, Move, Done, done, looks, nothing, settled, settles, rests, ◌▷◌, ◌▶◌}
use Rattle.profile_machine.specs.Tasks.{edit_task_found, with_frames, is_who, nobody, task_at, task_of, waiting_of}
use Rattle.profile_machine.specs.Dispatching.{ready}
use Rattle.profile_machine.specs.Frames.{frames_of, with_mark, open_sequence}
use Rattle.profile_machine.specs.Values.{budget_of, timer_of}
use Rattle.profile_machine.specs.Appointments.{drop_appointment, first_due, is_an_event, is_appointed, is_timeout_of, is_trigger_of}
use Rattle.profile_machine.specs.Calls.{unqueued}
use Rattle.profile_machine.specs.CallEnds.{deliver, edit_abortable, edit_depth, edit_abortable_at, trigger_at, triggered_mark}
use Rattle.profile_machine.specs.Unwinding.{unwind}
use Rattle.profile_machine.specs.Handlers.{clear_timer}
use Rattle.profile_machine.specs.Instant.{effect, is_over, effect_of_runner, finish_action, with_port, with_masked, with_kept_interrupt}
use Rattle.profile_machine.specs.Instant.{interrupt_comes, deliver_kept_interrupt, script_item, with_script, take_item, items_due}
use Rattle.profile_machine.specs.Instant.{script_items, take_delay, end_delay, time_out, is_the_same_due, come_due, take_due, all_due}
use Rattle.profile_machine.specs.Instant.{appointments_due, events_due, moments_due, expire, expire_timer, no_timers_due, timers_due}
use Rattle.profile_machine.specs.Instant.{run_out, no_budget_due, budgets_due, has_spent_quantum, spend_quantum, quantum_spent, instant}
use Rattle.world_laws.proofs.Queues.CallChanges.{drop_appointment-calm, dropped-none, unqueued-calm, unqueued-out}
use Rattle.world_laws.proofs.Queues.Calming.{named-found, same-calm}
use Rattle.world_laws.proofs.Queues.Kept.Act.{Holds, any-holds, effect-holds, looks_at-holds, onward-holds, then-holds}
use Rattle.world_laws.proofs.Queues.Kept.CallEnds.{found-directed, found-number, readied, readied-awake, ready_then-from, unwind-from}
use Rattle.world_laws.proofs.Queues.Kept.Combinators.{Calms, From, Quiets, branch-calms, changes-calms, changes_then-from, for_each-calms}
use Rattle.world_laws.proofs.Queues.Kept.Combinators.{for_some-calms, from-calms, keeps-from, looks-calms, looks_at-from, nothing-calms}
use Rattle.world_laws.proofs.Queues.Kept.Combinators.{nothing-from, said_then-from, says-calms, stays-calm, then-after, then-calms, when-calms}
use Rattle.world_laws.proofs.Queues.Kept.Ends.{deliver-from, trigger_at-from}
use Rattle.world_laws.proofs.Queues.Kept.Frames.{goes-keeps, open_sequence-keeps, to_tail-calms}
use Rattle.world_laws.proofs.Queues.Kept.Handlers.{interrupt-calms, release-calms}
use Rattle.world_laws.proofs.Queues.Kept.Onward.{Onward, calm-onward, calms-any, with_call-onward}
use Rattle.world_laws.proofs.Queues.Kept.Parts.{call_at-awaits, edit_abortable_at-calm}
use Rattle.world_laws.proofs.Queues.Kept.Sending.{no-steady}
use Rattle.world_laws.proofs.Queues.Standing.{Awake, Calm, Good, Idle, Kind, Out, Waited, any_kind, calm-good, calm-idle, is_named, quiet_kind, waits_end}
use Rattle.machine_laws.proofs.Kept.Combinators.{world_behind}

-- ---- moves

-- a move leads from good worlds to good ones
abbrev pub Lasting : Image → Move → Type 0
Lasting p move = (w : World) → Good p w → Good p (move w).0

pub settled-good : (p : Image) (d : Done) → Good p (world_behind d) → Good p (settled p d).0
settled-good p (done w said) good =
    calm-good p w (settled p (done w said)).0 good (same-calm {E = quiet_kind} w (settled p (done w said)).0 refl refl refl refl refl refl refl refl)

pub settles-lasting : (p : Image) (step : Step) → ((w : World) → Good p w → Holds p w step) → Lasting p (settles p step)
settles-lasting p step a w good = settled-good p (step w []) ((a w good).leads [])

pub then-lasting : (p : Image) (f g : Move) → Lasting p f → Lasting p g → Lasting p (f ▶ g)
then-lasting p f g a b w good = b (f w).0 (a w good)

calms-lasting : (p : Image) (step : Step) → Calms quiet_kind step → Lasting p (settles p step)
calms-lasting p step a = settles-lasting p step (λ w good. any-holds step w good (calms-any step a))

-- ---- 1: the effect of the action that ended

effect_of_runner-lasting : (p : Image) (ran : Option Who) → Lasting p (effect_of_runner p ran)
effect_of_runner-lasting p None w good = good
effect_of_runner-lasting p (Some name) w good = by_test (is_over (task_of w name).ticks_left) where
  by_test : (b : Bool) → Good p ((elim b as (λ _. Move) [ true ↦ settles p (effect p name) | false ↦ rests ]) w).0
  by_test true = settles-lasting p (effect p name) (λ v h. effect-holds p name v h) w good
  by_test false = good

-- ---- 2: items of the script

interrupt_comes-calms : {E : Kind} (p : Image) (n : ℕ) (masked : Bool) → Calms E (interrupt_comes p n masked)
unfolding interrupt_comes
interrupt_comes-calms p n true =
    then-calms _ _ (says-calms Own (line.Masked n))
    (changes-calms _ record { at = λ w. same-calm w (with_kept_interrupt n true w) refl refl refl refl refl refl refl refl })
interrupt_comes-calms p n false = interrupt-calms p n

deliver_kept_interrupt-calms : {E : Kind} (p : Image) (n : ℕ) (kept : Bool) → Calms E (deliver_kept_interrupt p n kept)
unfolding deliver_kept_interrupt
deliver_kept_interrupt-calms p n true =
    then-calms _ _ (changes-calms _ record { at = λ w. same-calm w (with_kept_interrupt n false w) refl refl refl refl refl refl refl refl })
    (interrupt-calms p n)
deliver_kept_interrupt-calms p n false = nothing-calms

masked-quiets : {E : Kind} (n : ℕ) (flag : Bool) → Quiets E (with_masked n flag)
masked-quiets n flag = record { at = λ w. same-calm w (with_masked n flag w) refl refl refl refl refl refl refl refl }

script_item-calms : {E : Kind} (p : Image) (it : Item) → Calms E (script_item p it)
unfolding script_item
script_item-calms p (item.Interrupt n) = looks-calms _ (λ w. interrupt_comes-calms p n (is_flag w.masked n))
script_item-calms p (item.Port n value) =
    then-calms _ _ (changes-calms _ record { at = λ w. same-calm w (with_port n value w) refl refl refl refl refl refl refl refl })
    (says-calms Own (line.Port n value))
script_item-calms p (item.Mask n) = then-calms _ _ (changes-calms _ (masked-quiets n true)) (says-calms Own (line.Mask n))
script_item-calms p (item.Unmask n) =
    then-calms _ _ (changes-calms _ (masked-quiets n false))
    (then-calms _ _ (says-calms Own (line.Unmask n)) (looks-calms _ (λ w. deliver_kept_interrupt-calms p n (is_flag w.kept_interrupts n))))

take_item-calms : {E : Kind} (p : Image) (moment : ℕ) (again : Step) (script : List (ℤ × Item)) → Calms E again → Calms E (take_item p moment again script)
take_item-calms p moment again [] kept = nothing-calms
take_item-calms p moment again (x ∷ xs) kept = branch-calms (int_le x.0 (pos moment)) _ nothing
    (then-calms _ _ (changes-calms _ record { at = λ w. same-calm w (with_script xs w) refl refl refl refl refl refl refl refl })
    (then-calms _ _ (script_item-calms p x.1) kept)) nothing-calms

items_due-calms : {E : Kind} (fuel : ℕ) (p : Image) → Calms E (items_due fuel p)
unfolding items_due
items_due-calms zero p = nothing-calms
items_due-calms (suc fuel) p = looks-calms _ (λ w. take_item-calms p w.time (items_due fuel p) w.script (items_due-calms fuel p))

-- ---- 3 and 4: appointments whose moment has come

first-found : (test : Due → Bool) (b : Bool) (x a : Appointment) (rest : Option Appointment) (others : Bool) → test a.due ≡ true → cond b (Some x) rest ≡ Some a
    → (rest ≡ Some a → others ≡ true) → (test x.due || others) ≡ true
first-found test true x a rest others is e onward = let one : x ≡ a = cc in or_left (test x.due) others (subst (λ y. test y.due ≡ true) (sym one) is)
first-found test false x a rest others is e onward = or_right (test x.due) others (onward e)

due-appointed : (test : Due → Bool) (events : Bool) (moment : ℕ) (a : Appointment) (xs : List Appointment) → test a.due ≡ true
    → first_due events moment xs ≡ Some a → list_any (λ x. test x.due) xs ≡ true
due-appointed test events moment a [] is e = absurd (none-one a e) where
  none-one : (a : Appointment) → None ≡ Some a → ⊥
  none-one a e = cc
due-appointed test events moment a (x ∷ xs) is e =
    first-found test (int_le x.moment (pos moment) && same_bool (is_an_event x.due) events) x a (first_due events moment xs)
    (list_any (λ y. test y.due) xs) is e (due-appointed test events moment a xs is)

select-not : (c : CallNo) (waiting : Waiting) (accepts : _) (d : _) (terminate : Bool) → Some (waits_for.Select accepts d terminate) ≡ waits_end c → ⊥
select-not c waiting accepts d terminate e = cc

awake-waiting : (name : Who) (w : World) → ((c : CallNo) → waiting_of w name ≡ waits_end c → ⊥) → Awake name w
unfolding Awake
awake-waiting name w none c d waits e = none c waits

take_delay-from : {E : Kind} (p : Image) (name : Who) (w : World) (waiting : Option Waiting) → waiting_of w name ≡ waiting
    → From E w (take_delay p name waiting)
unfolding take_delay
take_delay-from p name w (Some (waits_for.Select accepts (Some delay) terminate)) is =
    keeps-from _ w
    (awake-waiting name w (λ c waits. select-not c (waits_for.Select accepts (Some delay) terminate) accepts (Some delay) terminate (sym is ∙ waits)))
    (goes-keeps name (next_of p delay))
take_delay-from p name w _ is = nothing-from w

ready_open-calms : {E : Kind} (p : Image) (name : Who) → Calms E (ready p Own name ▷ open_sequence p Own name)
ready_open-calms p name =
    from-calms _
    (λ w. ready_then-from p Own name (open_sequence p Own name) w (keeps-from _ (readied p name w) (readied-awake p name w) (open_sequence-keeps p Own name)))

end_delay-calms : {E : Kind} (p : Image) (name : Who) → Calms E (end_delay p name)
unfolding end_delay
end_delay-calms p name =
    then-calms _ _ (from-calms _ (λ w. looks_at-from (λ v. take_delay p name (waiting_of v name)) w (take_delay-from p name w (waiting_of w name) refl)))
    (ready_open-calms p name)

-- a call that times out stands in no queue any more, and nobody serves it
time_out-onward : (p : Image) (c : CallNo) (w : World) → Good p w → Idle c w → Onward p w (time_out p c)
unfolding time_out
time_out-onward p c w good idle = with_call-onward c _ w good (λ d is.
    let v = unqueued p d w in
    let calm : Calm any_kind w v = unqueued-calm p d w in
    let good_v = calm-good p w v good calm in
    let out : Out c v = subst (λ n. Out n v) (found-number c w d is) (unqueued-out p d w good (found-directed c w d is)) in
    calm-onward {E = any_kind} _ w good
    (changes_then-from (unqueued p d) _ w calm
    (said_then-from Own (line.Cancel d.caller c) (deliver p Own c call_ended.Cancelled) v
    (deliver-from p Own c call_ended.Cancelled v good_v refl out (calm-idle w v calm c idle) (no-steady v) (λ x. refl)))))

-- a part that waits for its moment is triggered; a task that is there no more has none
trigger-calm : {E : Kind} (p : Image) (t : TaskNo) (depth : ℕ) (v : World) → E.steady (who.Task t) ≡ false → Good p v → Waited t depth v
    → is_appointed (is_trigger_of t depth) v ≡ false → Calm E v (edit_abortable_at (who.Task t) depth triggered_mark v)
trigger-calm p t depth v free good (inl awaits) none =
    edit_abortable_at-calm triggered_mark (λ m. refl) (who.Task t) depth None v (call_at-awaits depth (frames_of v (who.Task t)) awaits)
    (λ c e. absurd (none-some c e))
    (λ n is set waits. true≢false (sym set ∙ subst (λ m. is_appointed (is_trigger_of m depth) v ≡ false) (same t n is) none))
    (λ is e. true≢false (sym is ∙ free)) where
      none-some : (c : CallNo) → None ≡ Some c → ⊥
      none-some c e = cc

      same : (a b : TaskNo) → who.Task a ≡ who.Task b → a ≡ b
      same a b e = cc
trigger-calm {E = E} p t depth v free good (inr out) none = by_found (task_at v (who.Task t)) refl where
  f : Task → Task
  f u = with_frames (edit_depth depth (λ x. with_mark (edit_abortable triggered_mark x.mark) x) u.frames) u

  by_found : {E : Kind} (found : Option Task) → task_at v (who.Task t) ≡ found → Calm E v (edit_task_found (who.Task t) f v found)
  by_found None e = stays-calm v
  by_found (Some u) e =
      absurd (true≢false (sym (named-found (is_who (who.Task t)) u v.tasks good.named e) ∙ (ap (λ x. is_named (unwrap_or x nobody)) (sym e) ∙ out)))

trigger-onward : (p : Image) (t : TaskNo) (depth : ℕ) (v : World) → Good p v → Waited t depth v → is_appointed (is_trigger_of t depth) v ≡ false
    → Onward p v (trigger_at Own t depth ▷ unwind p Own (who.Task t))
trigger-onward p t depth v good waited none =
    calm-onward {E = quiet_kind} _ v good
    (then-after (trigger_at Own t depth) (unwind p Own (who.Task t)) v (trigger_at-from Own t depth v (trigger-calm p t depth v refl good waited none))
    (λ u calm. unwind-from p Own (who.Task t) u (λ x. refl) (calm-good p v u good calm)))

self-due : (t : TaskNo) (depth : ℕ) → is_trigger_of t depth (due_for.Trigger t depth) ≡ true
self-due t depth = and_from _ _ (eq-eqb t.0 t.0 refl) (eq-eqb depth depth refl)

come_due-onward : (p : Image) (due : Due) (w : World) → Good p w → ((test : Due → Bool) → test due ≡ true → is_appointed test w ≡ true)
    → Onward p (drop_appointment (is_the_same_due due) w) (come_due p due)
unfolding come_due
come_due-onward p (due_for.Event n h) w good set =
    let v = drop_appointment (is_the_same_due (due_for.Event n h)) w in
    let good_v = calm-good p w v good (drop_appointment-calm {E = quiet_kind} (is_the_same_due (due_for.Event n h)) w) in
    (calms-any _ (release-calms p h (Some n))).from v good_v
come_due-onward p (due_for.Delay t) w good set =
    let v = drop_appointment (is_the_same_due (due_for.Delay t)) w in
    let good_v = calm-good p w v good (drop_appointment-calm {E = quiet_kind} (is_the_same_due (due_for.Delay t)) w) in
    (calms-any _ (end_delay-calms p (who.Task t))).from v good_v
come_due-onward p (due_for.Timeout c) w good set =
    let v = drop_appointment (is_the_same_due (due_for.Timeout c)) w in
    let calm : Calm quiet_kind w v = drop_appointment-calm (is_the_same_due (due_for.Timeout c)) w in
    time_out-onward p c v (calm-good p w v good calm) (calm-idle w v calm c (good.timed c (set (is_timeout_of c) (eq-eqb c.0 c.0 refl))))
come_due-onward p (due_for.Trigger t depth) w good set =
    let v = drop_appointment (is_the_same_due (due_for.Trigger t depth)) w in
    let calm : Calm quiet_kind w v = drop_appointment-calm (is_the_same_due (due_for.Trigger t depth)) w in
    trigger-onward p t depth v (calm-good p w v good calm) (good.triggers t depth (set (is_trigger_of t depth) (self-due t depth))).1
    (dropped-none (is_trigger_of t depth) w)

take_due-holds : (p : Image) (again : Step) (events : Bool) (moment : ℕ) (w : World) (found : Option Appointment) → Good p w
    → first_due events moment w.appointments ≡ found → ((v : World) → Good p v → Holds p v again) → Holds p w (take_due p again found)
take_due-holds p again events moment w None good is k = record { leads = λ said. good }
take_due-holds p again events moment w (Some a) good is k =
    let v = drop_appointment (is_the_same_due a.due) w in
    let then_ : Holds p v (come_due p a.due ▷ again) =
    then-holds (come_due p a.due) again v
    (onward-holds _ v (come_due-onward p a.due w good (λ test h. due-appointed test events moment a w.appointments h is))) k in
    record { leads = λ said. then_.leads said }

all_due-holds : (fuel : ℕ) (p : Image) (events : Bool) (w : World) → Good p w → Holds p w (all_due fuel p events)
unfolding all_due
all_due-holds zero p events w good = record { leads = λ said. good }
all_due-holds (suc fuel) p events w good = looks_at-holds (λ v. take_due p (all_due fuel p events) (first_due events v.time v.appointments)) w
    (take_due-holds p (all_due fuel p events) events w.time w (first_due events w.time w.appointments) good refl (λ v h. all_due-holds fuel p events v h))

appointments_due-lasting : (p : Image) (events : Bool) → Lasting p (appointments_due p events)
appointments_due-lasting p events =
    settles-lasting p _ (λ w good. looks_at-holds (λ v. all_due (length v.appointments) p events) w (all_due-holds (length w.appointments) p events w good))

-- ---- 5 to 7: timers, budgets and quanta

expire-calms : {E : Kind} (p : Image) (k : ℕ) (setting : Option TimerSetting) → Calms E (expire p k setting)
unfolding expire
expire-calms p k None = nothing-calms
expire-calms p k (Some s) =
    then-calms _ _ (changes-calms _ record { at = λ w. same-calm w (clear_timer k w) refl refl refl refl refl refl refl refl })
    (release-calms p s.handler (Some k))

expire_timer-calms : {E : Kind} (p : Image) (k : ℕ) → Calms E (expire_timer p k)
unfolding expire_timer
expire_timer-calms p k = looks-calms _ (λ w. expire-calms p k (timer_of w k).setting)

run_out-calms : {E : Kind} (p : Image) (b : ℕ) → Calms E (run_out p b)
unfolding run_out
run_out-calms p b = looks-calms _ (λ w. for_some-calms (budget_of w b).handler _ (λ h. release-calms p h (Some b)))

spend_quantum-calms : {E : Kind} (p : Image) (ran : Option Who) → Calms E (spend_quantum p ran)
unfolding spend_quantum
spend_quantum-calms p None = nothing-calms
spend_quantum-calms p (Some who.Agent) = nothing-calms
spend_quantum-calms p (Some (who.Task t)) =
    looks-calms _
    (λ w. when-calms (has_spent_quantum p (task_of w (who.Task t))) _ (then-calms _ _ (says-calms Own (line.Quantum t)) (to_tail-calms p Own (who.Task t))))

timers_due-lasting : (p : Image) → Lasting p (timers_due p)
timers_due-lasting p =
    calms-lasting p _
    (then-calms _ _ (looks-calms _ (λ w. for_each-calms w.timers_due (expire_timer p) (expire_timer-calms p)))
    (changes-calms _ record { at = λ w. same-calm w (no_timers_due w) refl refl refl refl refl refl refl refl }))

budgets_due-lasting : (p : Image) → Lasting p (budgets_due p)
budgets_due-lasting p =
    calms-lasting p _
    (then-calms _ _ (looks-calms _ (λ w. for_some-calms w.budget_due (run_out p) (run_out-calms p)))
    (changes-calms _ record { at = λ w. same-calm w (no_budget_due w) refl refl refl refl refl refl refl refl }))

quantum_spent-lasting : (p : Image) → Lasting p (quantum_spent p)
quantum_spent-lasting p = calms-lasting p (looks (λ w. spend_quantum p w.ran)) (looks-calms _ (λ w. spend_quantum-calms p w.ran))

script_items-lasting : (p : Image) → Lasting p (script_items p)
script_items-lasting p = calms-lasting p (looks (λ w. items_due (length w.script) p)) (looks-calms _ (λ w. items_due-calms (length w.script) p))

pub instant-lasting : (p : Image) → Lasting p (instant p)
instant-lasting p =
    then-lasting p (finish_action p) (script_items p ▶ events_due p ▶ moments_due p ▶ timers_due p ▶ budgets_due p ▶ quantum_spent p)
    (λ w good. effect_of_runner-lasting p w.ran w good)
    (then-lasting p (script_items p) (events_due p ▶ moments_due p ▶ timers_due p ▶ budgets_due p ▶ quantum_spent p) (script_items-lasting p)
    (then-lasting p (events_due p) (moments_due p ▶ timers_due p ▶ budgets_due p ▶ quantum_spent p) (appointments_due-lasting p true)
    (then-lasting p (moments_due p) (timers_due p ▶ budgets_due p ▶ quantum_spent p) (appointments_due-lasting p false)
    (then-lasting p (timers_due p) (budgets_due p ▶ quantum_spent p) (timers_due-lasting p)
    (then-lasting p (budgets_due p) (quantum_spent p) (budgets_due-lasting p) (quantum_spent-lasting p))))))
