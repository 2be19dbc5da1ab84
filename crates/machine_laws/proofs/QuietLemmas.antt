-- An instant at which nothing is due does nothing, and a run goes on over it by its tock alone.
use Rattle.std.proofs.Common.{◌≡◌, ℕ, zero, suc, ◌<◌, ℤ, pos, ◌≤ℤ◌, Bool, true, false, cond, ◌&&◌}
use Rattle.std.proofs.Common.{List, [], ◌∷◌, ◌++◌, length, Option, Some, None, refl, ap, ◌∙◌, arith}
use Rattle.std.specs.Prelude.{int_le}
use Rattle.std.proofs.lemmas.Int.{ints}
use Rattle.trace_text.specs.declared.events.Event.{Event}
use Rattle.trace_text.specs.declared.events.Ended.{Ended}
use Rattle.profile_image.specs.declared.image.Image.{Image}
use Rattle.profile_image.specs.declared.script_items.Item.{Item}
use Rattle.profile_machine.specs.declared.world.World.{World}
use Rattle.profile_machine.specs.declared.world.appointments.Appointment.{Appointment}
use Rattle.profile_image.specs.Words.{same_bool}
use Rattle.profile_machine.specs.declared.world.lines.Said.{Said}
use Rattle.profile_machine.specs.Steps.{Step, Move, done, changes, nothing, settled, ◌▷◌, ◌▶◌}
use Rattle.profile_machine.specs.Appointments.{first_due, is_an_event}
use Rattle.profile_machine.specs.Instant.{take_due, all_due, appointments_due, events_due, moments_due, timers_due, budgets_due}
use Rattle.profile_machine.specs.Instant.{quantum_spent, finish_action, instant, take_item, items_due, script_items, with_script, script_item}
use Rattle.profile_machine.specs.Run.{Ran, stop, stopped, then_runs, tock, run_from}
use Rattle.machine_laws.specs.IdleLaws.{NoneBefore, FirstNotBefore}

-- ---- nothing is due

not_due : (moment : ℤ) (n m : ℕ) → n < m → pos m ≤ℤ moment → int_le moment (pos n) ≡ false
not_due moment n m a h = grind (arith, ints)

found-none : (b c : Bool) (a : Appointment) (rest : Option Appointment) → b ≡ false → rest ≡ None → cond (b && c) (Some a) rest ≡ None
found-none true c a rest e f = cc
found-none false c a rest e f = f

first_due-none : (events : Bool) (n m : ℕ) (xs : List Appointment) → n < m → NoneBefore m xs → first_due events n xs ≡ None
first_due-none events n m [] a h = refl
first_due-none events n m (x ∷ xs) a h =
    found-none (int_le x.moment (pos n)) (same_bool (is_an_event x.due) events) x (first_due events n xs) (not_due x.moment n m a h.0)
    (first_due-none events n m xs a h.1)

all_due-none : (fuel : ℕ) (p : Image) (events : Bool) (w : World) (said : List Said) → first_due events w.time w.appointments ≡ None
    → all_due fuel p events w said ≡ done w said
unfolding all_due
all_due-none zero p events w said e = refl
all_due-none (suc fuel) p events w said e = ap (λ a. take_due p (all_due fuel p events) a w said) e

appointments_due-none : (p : Image) (events : Bool) (w : World) (m : ℕ) → w.time < m → NoneBefore m w.appointments → appointments_due p events w ≡ (w, [])
appointments_due-none p events w m a h =
    ap (settled p) (all_due-none (length w.appointments) p events w [] (first_due-none events w.time m w.appointments a h))

take_item-none : (p : Image) (again : Step) (n m : ℕ) (xs : List (ℤ × Item)) (w : World) (said : List Said) → n < m → FirstNotBefore m xs
    → take_item p n again xs w said ≡ done w said
take_item-none p again n m [] w said a h = refl
take_item-none p again n m (x ∷ xs) w said a h =
    ap (λ b. (elim b as (λ _. Step) [ true ↦ changes (with_script xs) ▷ script_item p x.1 ▷ again | false ↦ nothing ]) w said) (not_due x.0 n m a h)

items_due-none : (fuel : ℕ) (p : Image) (w : World) (m : ℕ) (said : List Said) → w.time < m → FirstNotBefore m w.script → items_due fuel p w said ≡ done w said
unfolding items_due
items_due-none zero p w m said a h = refl
items_due-none (suc fuel) p w m said a h = take_item-none p (items_due fuel p) w.time m w.script w said a h

script_items-none : (p : Image) (w : World) (m : ℕ) → w.time < m → FirstNotBefore m w.script → script_items p w ≡ (w, [])
script_items-none p w m a h = ap (settled p) (items_due-none (length w.script) p w m [] a h)

-- ---- the instant

-- the second of two moves, if the first does nothing
rests-first : (f g : Move) (w : World) → f w ≡ (w, []) → (f ▶ g) w ≡ g w
rests-first f g w e = ap {A = World × List Event} (λ a. ((g a.0).0, a.1 ++ (g a.0).1)) e

-- the parts of an instant, if the first and the last three have nothing to do
pub instant-quiet : (p : Image) (w : World) (m : ℕ) → finish_action p w ≡ (w, []) → w.time < m → NoneBefore m w.appointments → FirstNotBefore m w.script
    → timers_due p w ≡ (w, []) → budgets_due p w ≡ (w, []) → quantum_spent p w ≡ (w, []) → instant p w ≡ (w, [])
instant-quiet p w m rests a h s timers budgets quantum =
    rests-first (finish_action p) (script_items p ▶ events_due p ▶ moments_due p ▶ timers_due p ▶ budgets_due p ▶ quantum_spent p) w rests
    ∙ rests-first (script_items p) (events_due p ▶ moments_due p ▶ timers_due p ▶ budgets_due p ▶ quantum_spent p) w (script_items-none p w m a s)
    ∙ rests-first (events_due p) (moments_due p ▶ timers_due p ▶ budgets_due p ▶ quantum_spent p) w (appointments_due-none p true w m a h)
    ∙ rests-first (moments_due p) (timers_due p ▶ budgets_due p ▶ quantum_spent p) w (appointments_due-none p false w m a h)
    ∙ rests-first (timers_due p) (budgets_due p ▶ quantum_spent p) w timers
    ∙ rests-first (budgets_due p) (quantum_spent p) w budgets
    ∙ quantum

-- ---- the run goes on

chosen : ℕ → ℕ → Image → ℕ → World × List Event → Option Ended → Ran
chosen now fuel p bound i reason = elim reason [
  | Some r ↦ stopped now i.1 r
  | None ↦ then_runs now (i.1 ++ (tock p i.0).1) (run_from fuel p bound (tock p i.0).0)
]

turn-parts : (fuel : ℕ) (p : Image) (bound : ℕ) (w : World)
    → run_from (suc fuel) p bound w ≡ chosen w.time fuel p bound (instant p w) (stop p bound (instant p w).0)
unfolding chosen
turn-parts fuel p bound w = refl

turn-on : (fuel : ℕ) (p : Image) (bound : ℕ) (w next : World) → tock p w ≡ (next, []) → chosen w.time fuel p bound (w, []) None ≡ run_from fuel p bound next
unfolding chosen
turn-on fuel p bound w next e = ap {A = World × List Event} (λ t. then_runs w.time t.1 (run_from fuel p bound t.0)) e

-- over an instant that does nothing, and a tock that says nothing
pub run_from-quiet : (fuel : ℕ) (p : Image) (bound : ℕ) (w next : World) → instant p w ≡ (w, []) → stop p bound w ≡ None → tock p w ≡ (next, [])
    → run_from (suc fuel) p bound w ≡ run_from fuel p bound next
run_from-quiet fuel p bound w next rests on passes =
    turn-parts fuel p bound w
    ∙ ap {A = World × List Event} (λ i. chosen w.time fuel p bound i (stop p bound i.0)) rests
    ∙ ap (chosen w.time fuel p bound (w, [])) on
    ∙ turn-on fuel p bound w next passes
