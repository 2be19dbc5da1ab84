-- How many appointments are due: no step makes them more, steps 3 and 4 of an instant make them none, and what is set
-- is later than now.
use Rattle.std.proofs.Common.{◌≡◌, ℕ, zero, suc, ℤ, ◌≤◌, ◌<◌, Bool, true, false, cond, not, ◌&&◌, eqb}
use Rattle.std.proofs.Common.{List, [], ◌∷◌, length, Option, Some, None, refl, sym, subst, ap, ◌∙◌, arith}
use Rattle.std.specs.Prelude.{int_lt, int_le, pos}
use Rattle.std.specs.List.{list_all}
use Rattle.std.proofs.lemmas.Int.{ints}
use Rattle.std.proofs.lemmas.Bool.{and_from, and_left, and_parts, false≢true}
use Rattle.trace_text.specs.declared.events.Who.{Who}
use Rattle.trace_text.specs.declared.events.Who.TheVariants as who
use Rattle.profile_image.specs.declared.image.Image.{Image}
use Rattle.profile_image.specs.declared.script_items.Item.{Item}
use Rattle.profile_machine.specs.declared.world.World.{World}
use Rattle.profile_machine.specs.declared.world.tasks.Task.{Task}
use Rattle.profile_machine.specs.declared.world.appointments.Due.{Due}
use Rattle.profile_machine.specs.declared.world.appointments.Appointment.{Appointment}
use Rattle.profile_machine.specs.declared.world.appointments.Due.TheVariants as due_for
use Rattle.profile_image.specs.Words.{same_bool, without}
use Rattle.profile_machine.specs.declared.world.lines.Said.{Said}
use Rattle.profile_machine.specs.Steps.{Move, Step, Done, done, goes_on_with, settled, ◌▶◌}
use Rattle.profile_machine.specs.Tasks.{task_at, edit_task_found, edit_task}
use Rattle.profile_machine.specs.Appointments.{drop_appointment, put_appointment, is_an_event, first_due}
use Rattle.profile_machine.specs.Dispatching.{choose}
use Rattle.profile_machine.specs.Instant.{is_the_same_due, come_due, take_due, all_due, appointments_due, events_due, moments_due}
use Rattle.profile_machine.specs.Instant.{finish_action, script_items, timers_due, budgets_due, quantum_spent, instant}
use Rattle.profile_machine.specs.Run.{opening, tock, blank_world, opens}
use Rattle.machine_laws.specs.DueLaws.{all_later, none_before}
use Rattle.machine_laws.specs.Reached.{Comes, opened, ticked, Reached, before, behind}
use Rattle.machine_laws.proofs.Kept.Handlers.{releasing}
use Rattle.machine_laws.proofs.FineMoves.{AnyWorld}
use Rattle.machine_laws.proofs.FinestMoves.{all_of, tocks_of, move_chains, effect-leads}
use Rattle.machine_laws.proofs.Moves.{Moves, TockMoves}
use Rattle.machine_laws.proofs.Kept.Appointments.{is_later}
use Rattle.machine_laws.proofs.Kept.Instant.{come_due-keeps, moments_due-leads, timers_due-leads, budgets_due-leads, quantum_spent-leads, is_there, or_that}
use Rattle.machine_laws.proofs.Kept.Run.{before_tick, tock-parts, before_tick-leads, opens-keeps}
use Rattle.machine_laws.proofs.Kept.Combinators.{Keeps, Leads, kept-world, then-leads, world_behind}

-- ---- those that are due: events, or the others

abbrev is_due : Bool → ℕ → Appointment → Bool
is_due events now a = int_le a.moment (pos now) && same_bool (is_an_event a.due) events

abbrev count_due : Bool → ℕ → List Appointment → ℕ
count_due events now [] = 0
count_due events now (a ∷ rest) = cond (is_due events now a) (suc (count_due events now rest)) (count_due events now rest)

-- what one appointment adds: none where it is not due, one at most
counted-none : (b : Bool) (n : ℕ) → b ≡ false → cond b (suc n) n ≡ n
counted-none true n h = absurd (false≢true (sym h))
counted-none false n h = refl

counted-most : (b : Bool) (n m : ℕ) → n ≤ m → cond b (suc n) n ≤ suc m
counted-most true n m h = omega (arith, h)
counted-most false n m h = omega (arith, h)

counted-rest : (b : Bool) (n : ℕ) → n ≤ cond b (suc n) n
counted-rest true n = omega arith
counted-rest false n = omega arith

counted-alike : (b : Bool) (n m : ℕ) → n ≤ m → cond b (suc n) n ≤ cond b (suc m) m
counted-alike true n m h = omega (arith, h)
counted-alike false n m h = h

count_due-length : (events : Bool) (now : ℕ) (xs : List Appointment) → count_due events now xs ≤ length xs
count_due-length events now [] = omega arith
count_due-length events now (a ∷ rest) = counted-most (is_due events now a) (count_due events now rest) (length rest) (count_due-length events now rest)

-- ---- one that is set is later than now, so it is not due

past : (now : ℕ) (moment : ℤ) → int_lt (pos now) moment ≡ true → int_le moment (pos now) ≡ false
past now moment h = grind (arith, ints)

later-is_due : (events : Bool) (now : ℕ) (a : Appointment) → int_lt (pos now) a.moment ≡ true → is_due events now a ≡ false
later-is_due events now a h = and_left (int_le a.moment (pos now)) (same_bool (is_an_event a.due) events) (past now a.moment h)

-- whichever list a test picks
either_count : (events : Bool) (now n : ℕ) (b : Bool) (xs ys : List Appointment) → count_due events now xs ≡ n → count_due events now ys ≡ n
    → count_due events now (cond b xs ys) ≡ n
either_count events now n true xs ys h k = h
either_count events now n false xs ys h k = k

put-count : (events : Bool) (now : ℕ) (new : Appointment) (xs : List Appointment) → is_due events now new ≡ false
    → count_due events now (put_appointment new xs) ≡ count_due events now xs
put-count events now new [] h = counted-none (is_due events now new) 0 h
put-count events now new (x ∷ xs) h =
    either_count events now (count_due events now (x ∷ xs)) (int_lt new.moment x.moment) (new ∷ x ∷ xs) (x ∷ put_appointment new xs)
    (counted-none (is_due events now new) (count_due events now (x ∷ xs)) h)
    (ap (λ n. cond (is_due events now x) (suc n) n) (put-count events now new xs h))

-- ---- one that is dropped

either_most : (events : Bool) (now n : ℕ) (b : Bool) (x : Appointment) (xs : List Appointment)
    → cond (is_due events now x) (suc (count_due events now xs)) (count_due events now xs) ≤ n → count_due events now (cond b (x ∷ xs) xs) ≤ n
either_most events now n true x xs h = h
either_most events now n false x xs h =
    let fewer : count_due events now xs ≤ cond (is_due events now x) (suc (count_due events now xs)) (count_due events now xs) =
    counted-rest (is_due events now x) (count_due events now xs) in
    omega (arith, fewer, h)

without-count : (events : Bool) (now : ℕ) (test : Appointment → Bool) (xs : List Appointment) → count_due events now (without test xs) ≤ count_due events now xs
without-count events now test [] = omega arith
without-count events now test (x ∷ xs) =
    either_most events now (count_due events now (x ∷ xs)) (not (test x)) x (without test xs)
    (counted-alike (is_due events now x) (count_due events now (without test xs)) (count_due events now xs) (without-count events now test xs))

-- ---- no step makes them more, or changes the time

module _ (events : Bool) where
  abbrev due_in : World → ℕ
  due_in w = count_due events w.time w.appointments

  abbrev NeverMore : {X : Type 0} → World → List X → World → Type 0
  NeverMore earlier lines later = (later.time ≡ earlier.time) × (due_in later ≤ due_in earlier)

  still : (w : World) → (w.time ≡ w.time) × (due_in w ≤ due_in w)
  still w = (refl, omega arith)

  edit_found-still : (name : Who) (f : Task → Task) (w : World) (found : Option Task)
      → ((edit_task_found name f w found).time ≡ w.time) × (due_in (edit_task_found name f w found) ≤ due_in w)
  edit_found-still name f w None = still w
  edit_found-still (who.Task t) f w (Some x) = still w
  edit_found-still who.Agent f w (Some x) = still w

  edit_task-still : (name : Who) (f : Task → Task) (w : World) → ((edit_task name f w).time ≡ w.time) × (due_in (edit_task name f w) ≤ due_in w)
  edit_task-still name f w = edit_found-still name f w (task_at w name)

  never_more : Moves NeverMore NeverMore
  never_more = record {
    stays = λ w. still w;
    goes_on = λ a b c p q. (q.0 ∙ p.0, omega (arith, p.1, q.1));
    says = λ part line w no_put. still w;
    rests = λ w. still w;
    leads_on = λ a b c p q. (q.0 ∙ p.0, omega (arith, p.1, q.1));
    settles = λ p a b xs k. k;
    silently = λ a b k. k;
    edits_task = λ name f w k. edit_task-still name f w;
    adds_task = λ t w k. still w;
    forgets_task = λ name w. still w;
    sets_quantum = λ level ticks w. still w;
    ends_environment = λ leaving w. still w;
    begins_scope = λ p name scope b w. still w;
    draws_region = λ w. still w;
    edits_cells = λ id f w. still w;
    ends_scope = λ id w. still w;
    edits_call = λ c f w k. still w;
    adds_call = λ c w. still w;
    forgets_call = λ c w. still w;
    edits_object = λ o f w k a. still w;
    adds_object = λ p l u w. still w;
    enters = λ name o mode w h. still w;
    exits = λ name o w. still w;
    visits = λ name o mode xs w v h others k. k;
    finds_held = λ name o mode w h. still w;
    appoints = λ due moment w later.
        let new : Appointment = record { due = due; moment = moment } in
        let same = put-count events w.time new w.appointments (later-is_due events w.time new later) in
        (refl, omega (arith, same));
    drops_appointment = λ test w. (refl, without-count events w.time (λ a. test a.due) w.appointments);
    registers = λ r l w. still w;
    unregisters = λ n w. still w;
    draws_event = λ w. still w;
    adds_timer = λ t w. still w;
    clears_timer = λ k w. still w;
    sets_timer = λ k h value w. still w;
    sets_timers_due = λ timers w. still w;
    adds_budget = λ w. still w;
    edits_budget = λ b f w. still w;
    sets_budget_due = λ budget w. still w;
    releases = λ h argument w. still w;
    has_served = λ r w is. still w;
    sets_port = λ n value w. still w;
    masks = λ n flag w. still w;
    keeps_interrupt = λ n flag w. still w;
    cuts_script = λ x rest w is due. still w;
  }

  never_more-tocks : TockMoves NeverMore
  never_more-tocks = record { tells = λ event w k. still w; serves = λ r rest w k. still w }

-- ---- what is due is taken, the first of them first

found_none : {X : Type 0} (b : Bool) (x : X) (rest : Option X) → cond b (Some x) rest ≡ None → (b ≡ false) × (rest ≡ None)
found_none true x rest h = absurd (false≢true (sym (ap is_there h)))
found_none false x rest h = (refl, h)

none_found : (events : Bool) (now : ℕ) (xs : List Appointment) → first_due events now xs ≡ None → count_due events now xs ≤ 0
none_found events now [] h = omega arith
none_found events now (a ∷ rest) h =
    let parts = found_none (is_due events now a) a (first_due events now rest) h in
    let same = counted-none (is_due events now a) (count_due events now rest) parts.0 in
    let none = none_found events now rest parts.1 in
    omega (arith, same, none)

same_number : (n : ℕ) → eqb n n ≡ true
same_number n = grind arith

is_itself : (due : Due) → is_the_same_due due due ≡ true
is_itself (due_for.Event n h) = same_number n
is_itself (due_for.Delay t) = same_number t.0
is_itself (due_for.Timeout c) = same_number c.0
is_itself (due_for.Trigger t depth) = and_from (eqb t.0 t.0) (eqb depth depth) (same_number t.0) (same_number depth)

counted-one : (b : Bool) (n : ℕ) → b ≡ true → cond b (suc n) n ≡ suc n
counted-one true n h = refl
counted-one false n h = absurd (false≢true h)

picked-other : {X : Type 0} (b : Bool) (xs ys : X) → b ≡ true → cond (not b) xs ys ≡ ys
picked-other true xs ys h = refl
picked-other false xs ys h = absurd (false≢true h)

module _ (events : Bool) (now : ℕ) (same : Appointment → Bool) (a : Appointment) (itself : same a ≡ true) where
  -- the first one of a list is taken, or one behind it
  fewer_at : (x : Appointment) (xs : List Appointment) (b : Bool) → is_due events now x ≡ b → cond b (Some x) (first_due events now xs) ≡ Some a
      → (first_due events now xs ≡ Some a → count_due events now (without same xs) < count_due events now xs)
      → count_due events now (without same (x ∷ xs)) < count_due events now (x ∷ xs)
  fewer_at x xs true is h onward =
      let dropped =
      ap (count_due events now)
      (picked-other (same x) (x ∷ without same xs) (without same xs) (subst (λ y. same y ≡ true) (sym (ap (or_that x) h)) itself)) in
      let one = counted-one (is_due events now x) (count_due events now xs) is in
      let others = without-count events now same xs in
      omega (arith, dropped, one, others)
  fewer_at x xs false is h onward =
      let kept =
      either_count events now (count_due events now (without same xs)) (not (same x)) (x ∷ without same xs) (without same xs)
      (counted-none (is_due events now x) (count_due events now (without same xs)) is) refl in
      let none = counted-none (is_due events now x) (count_due events now xs) is in
      let others = onward h in
      omega (arith, kept, none, others)

  fewer : (xs : List Appointment) → first_due events now xs ≡ Some a → count_due events now (without same xs) < count_due events now xs
  fewer [] h = absurd (false≢true (ap is_there h))
  fewer (x ∷ xs) h = fewer_at x xs (is_due events now x) refl h (fewer xs)

module _ (p : Image) (events : Bool) where
  -- a step behind another
  none_behind : (fuel : ℕ) (again : Step) (d : Done) → due_in events (world_behind d) ≤ fuel
      → ((v : World) (said : List Said) → due_in events v ≤ fuel → due_in events (world_behind (again v said)) ≤ 0)
      → due_in events (world_behind (goes_on_with again d)) ≤ 0
  none_behind fuel again (done v said) most others = others v said most

  -- the lines of an effect change no appointment
  settled-none : (d : Done) → due_in events (world_behind d) ≤ 0 → due_in events (settled p d).0 ≤ 0
  settled-none (done w said) none = none

  taken_if : (fuel : ℕ) (found : Option Appointment) (w : World) (said : List Said) → first_due events w.time w.appointments ≡ found
      → due_in events w ≤ suc fuel
      → ((v : World) (said : List Said) → due_in events v ≤ fuel → due_in events (world_behind (all_due fuel p events v said)) ≤ 0)
      → due_in events (world_behind (take_due p (all_due fuel p events) found w said)) ≤ 0
  unfolding Keeps
  taken_if fuel None w said is most others = none_found events w.time w.appointments is
  taken_if fuel (Some a) w said is most others =
      let dropped = drop_appointment (is_the_same_due a.due) w in
      let less = fewer events w.time (λ x. is_the_same_due a.due x.due) a (is_itself a.due) w.appointments is in
      let kept =
      (kept-world (NeverMore events) dropped said (come_due p a.due dropped said)
      (come_due-keeps (all_of (never_more events)).fine (all_of (never_more events)).settings
      (releasing (all_of (never_more events))) p a.due dropped tt said)).1.1 in
      none_behind fuel (all_due fuel p events) (come_due p a.due dropped said) (omega (arith, less, kept, most)) others

  taken : (fuel : ℕ) (w : World) (said : List Said) → due_in events w ≤ fuel → due_in events (world_behind (all_due fuel p events w said)) ≤ 0
  unfolding all_due
  taken zero w said most = most
  taken (suc fuel) w said most = taken_if fuel (first_due events w.time w.appointments) w said refl most (taken fuel)

  appointments_due-none : (w : World) → due_in events (appointments_due p events w).0 ≤ 0
  appointments_due-none w =
      settled-none (all_due (length w.appointments) p events w []) (taken (length w.appointments) w [] (count_due-length events w.time w.appointments))

-- ---- instants

abbrev behind_moments : Image → Move
behind_moments p = timers_due p ▶ budgets_due p ▶ quantum_spent p

behind_moments-leads : (events : Bool) (p : Image) → Leads AnyWorld (NeverMore events) (behind_moments p)
behind_moments-leads events p =
    then-leads (move_chains (all_of (never_more events)).fine) (timers_due p) (budgets_due p ▶ quantum_spent p)
    (timers_due-leads (all_of (never_more events)).fine (all_of (never_more events)).settings (releasing (all_of (never_more events))) p)
    (then-leads (move_chains (all_of (never_more events)).fine) (budgets_due p) (quantum_spent p)
    (budgets_due-leads (all_of (never_more events)).fine (all_of (never_more events)).settings (releasing (all_of (never_more events))) p)
    (quantum_spent-leads (all_of (never_more events)).fine p))

instant-none : (events : Bool) (p : Image) (w : World) → due_in events (instant p w).0 ≤ 0
unfolding Leads
instant-none true p w =
    let came = (script_items p (finish_action p w).0).0 in
    let taken_events = (events_due p came).0 in
    let taken_moments = (moments_due p taken_events).0 in
    let first = appointments_due-none p true came in
    let second = (moments_due-leads (all_of (never_more true)).fine p taken_events tt).1 in
    let third = (behind_moments-leads true p taken_moments tt).1 in
    omega (arith, first, second, third)
instant-none false p w =
    let came = (script_items p (finish_action p w).0).0 in
    let taken_events = (events_due p came).0 in
    let taken_moments = (moments_due p taken_events).0 in
    let first = appointments_due-none p false taken_events in
    let second = (behind_moments-leads false p taken_moments tt).1 in
    omega (arith, first, second)

-- ---- none is due: all are later

not_due : (due event : Bool) (n m : ℕ) → cond (due && same_bool event true) (suc n) n ≤ 0 → cond (due && same_bool event false) (suc m) m ≤ 0
    → (due ≡ false) × (n ≤ 0) × (m ≤ 0)
not_due true true n m h k = absurd (omega (arith, h))
not_due true false n m h k = absurd (omega (arith, k))
not_due false event n m h k = (refl, h, k)

all_are_later : (now : ℕ) (xs : List Appointment) → count_due true now xs ≤ 0 → count_due false now xs ≤ 0 → list_all (λ a. int_lt (pos now) a.moment) xs ≡ true
all_are_later now [] h k = refl
all_are_later now (a ∷ rest) h k =
    let parts = not_due (int_le a.moment (pos now)) (is_an_event a.due) (count_due true now rest) (count_due false now rest) h k in
    and_from (int_lt (pos now) a.moment) (list_all (λ b. int_lt (pos now) b.moment) rest) (is_later now a.moment parts.0)
    (all_are_later now rest parts.1 parts.2)

pub instants_leave_none_due : (p : Image) (w : World) → all_later (instant p w).0 ≡ true
instants_leave_none_due p w = all_are_later (instant p w).0.time (instant p w).0.appointments (instant-none true p w) (instant-none false p w)

-- ---- what is later than now is not before it, nor before the next tick

all_too : (f g : Appointment → Bool) → ((a : Appointment) → f a ≡ true → g a ≡ true) → (xs : List Appointment) → list_all f xs ≡ true → list_all g xs ≡ true
all_too f g k [] h = refl
all_too f g k (x ∷ xs) h =
    and_from (g x) (list_all g xs) (k x ((and_parts (f x) (list_all f xs) h).0)) (all_too f g k xs ((and_parts (f x) (list_all f xs) h).1))

not_before : (now : ℕ) (moment : ℤ) → int_lt (pos now) moment ≡ true → int_le (pos now) moment ≡ true
not_before now moment h = grind (arith, ints)

not_before_next : (now : ℕ) (moment : ℤ) → int_lt (pos now) moment ≡ true → int_le (pos (suc now)) moment ≡ true
not_before_next now moment h = grind (arith, ints)

later-none_before : (w : World) → all_later w ≡ true → none_before w ≡ true
later-none_before w h = all_too (λ a. int_lt (pos w.time) a.moment) (λ a. int_le (pos w.time) a.moment) (λ a k. not_before w.time a.moment k) w.appointments h

-- ---- of reached worlds

opening-none : (p : Image) (script : List (ℤ × Item)) → none_before (opening p script).0 ≡ true
unfolding Leads
opening-none p script =
    let o = (opening p script).0 in
    let events = (effect-leads (all_of (never_more true)).fine p (opens p) (opens-keeps (all_of (never_more true)) p) (blank_world p script) tt).1 in
    let others = (effect-leads (all_of (never_more false)).fine p (opens p) (opens-keeps (all_of (never_more false)) p) (blank_world p script) tt).1 in
    later-none_before o (all_are_later o.time o.appointments events others)

tock-none : (p : Image) (w : World) → due_in true w ≤ 0 → due_in false w ≤ 0 → none_before (tock p w).0 ≡ true
unfolding Leads
tock-none p w h k =
    let ready = (before_tick p (choose w) w).0 in
    let events = (before_tick-leads (all_of (never_more true)) (tocks_of (never_more-tocks true)) p (choose w) w tt).1 in
    let others = (before_tick-leads (all_of (never_more false)) (tocks_of (never_more-tocks false)) p (choose w) w tt).1 in
    let later = all_are_later ready.time ready.appointments (omega (arith, events, h)) (omega (arith, others, k)) in
    subst (λ t. none_before t.0 ≡ true) (sym (tock-parts p w))
    (all_too (λ a. int_lt (pos ready.time) a.moment) (λ a. int_le (pos (suc ready.time)) a.moment)
    (λ a e. not_before_next ready.time a.moment e) ready.appointments later)

comes-none : (p : Image) (script : List (ℤ × Item)) (bound : ℕ) (w : World) → Comes p script bound w → none_before w ≡ true
comes-none p script bound _ opened = opening-none p script
comes-none p script bound _ (ticked w c e) = tock-none p (instant p w).0 (instant-none true p w) (instant-none false p w)

pub none_is_before_now : (p : Image) (script : List (ℤ × Item)) (bound : ℕ) (w : World) → Reached p script bound w → none_before w ≡ true
none_is_before_now p script bound _ (before w c) = comes-none p script bound w c
none_is_before_now p script bound _ (behind w c) = later-none_before (instant p w).0 (instants_leave_none_due p w)
