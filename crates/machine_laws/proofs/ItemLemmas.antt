-- Step 2 of an instant takes all items of the script whose moment has come, and no other step takes any.
use Rattle.std.proofs.Common.{◌≡◌, ℕ, zero, suc, ℤ, ◌≤◌, Bool, true, false, List, [], ◌∷◌, length, Option, Some, None, refl, sym, ap, ◌∙◌, arith}
use Rattle.std.specs.Prelude.{int_lt, int_le, pos}
use Rattle.std.proofs.lemmas.Int.{ints}
use Rattle.std.proofs.lemmas.Bool.{false≢true}
use Rattle.trace_text.specs.declared.events.Who.{Who}
use Rattle.trace_text.specs.declared.events.Who.TheVariants as who
use Rattle.profile_image.specs.declared.image.Image.{Image}
use Rattle.profile_image.specs.declared.script_items.Item.{Item}
use Rattle.profile_machine.specs.declared.world.World.{World}
use Rattle.profile_machine.specs.declared.world.lines.Said.{Said}
use Rattle.profile_machine.specs.declared.world.tasks.Task.{Task}
use Rattle.profile_machine.specs.Steps.{Move, Step, Done, done, changes, goes_on_with, nothing, settled, ◌▷◌, ◌▶◌}
use Rattle.profile_machine.specs.Tasks.{task_at, edit_task_found, edit_task}
use Rattle.profile_machine.specs.Instant.{with_script, script_item, take_item, items_due, script_items, finish_action}
use Rattle.profile_machine.specs.Instant.{events_due, moments_due, timers_due, budgets_due, quantum_spent, instant}
use Rattle.machine_laws.specs.ItemLaws.{first_is_later, no_item_due}
use Rattle.machine_laws.proofs.Kept.Handlers.{releasing}
use Rattle.machine_laws.proofs.FineMoves.{AnyWorld}
use Rattle.machine_laws.proofs.FinestMoves.{all_of, move_chains}
use Rattle.machine_laws.proofs.Moves.{Moves}
use Rattle.machine_laws.proofs.Kept.Appointments.{is_later}
use Rattle.machine_laws.proofs.Kept.Instant.{script_item-keeps, events_due-leads, moments_due-leads, timers_due-leads, budgets_due-leads, quantum_spent-leads}
use Rattle.machine_laws.proofs.Kept.Combinators.{Keeps, Leads, kept-world, then-leads, world_behind}

-- ---- no step adds an item, and none takes one while the first is later than now

abbrev ItemsStay : {X : Type 0} → World → List X → World → Type 0
ItemsStay earlier lines later =
    (later.time ≡ earlier.time) × (length later.script ≤ length earlier.script) × (no_item_due earlier ≡ true → later.script ≡ earlier.script)

still : (w : World) → (w.time ≡ w.time) × (length w.script ≤ length w.script) × (no_item_due w ≡ true → w.script ≡ w.script)
still w = (refl, omega arith, λ none. refl)

edit_found-still : (name : Who) (f : Task → Task) (w : World) (found : Option Task) →
    let v = edit_task_found name f w found in
    (v.time ≡ w.time) × (length v.script ≤ length w.script) × (no_item_due w ≡ true → v.script ≡ w.script)
edit_found-still name f w None = still w
edit_found-still (who.Task t) f w (Some x) = still w
edit_found-still who.Agent f w (Some x) = still w

edit_task-still : (name : Who) (f : Task → Task) (w : World) →
    let v = edit_task name f w in
    (v.time ≡ w.time) × (length v.script ≤ length w.script) × (no_item_due w ≡ true → v.script ≡ w.script)
edit_task-still name f w = edit_found-still name f w (task_at w name)

-- the same script at the same time
same_items : (now then : ℕ) (script ahead : List (ℤ × Item)) → then ≡ now → ahead ≡ script → first_is_later now script ≡ true → first_is_later then ahead ≡ true
same_items now then script ahead t s h = ap (λ n. first_is_later n ahead) t ∙ ap (first_is_later now) s ∙ h

stays_behind : (a b c : World) → ItemsStay {X = Said} a [] b → ItemsStay {X = Said} b [] c → ItemsStay {X = Said} a [] c
stays_behind a b c p q = (q.0 ∙ p.0, omega (arith, p.1, q.1), λ none. q.2 (same_items a.time b.time a.script b.script p.0 (p.2 none) none) ∙ p.2 none)

not_later : (now : ℕ) (moment : ℤ) → int_le moment (pos now) ≡ true → int_lt (pos now) moment ≡ false
not_later now moment h = grind (arith, ints)

cut-stays : (x : ℤ × Item) (rest : List (ℤ × Item)) (w : World) → w.script ≡ x ∷ rest → int_le x.0 (pos w.time) ≡ true
    → ItemsStay {X = Said} w [] (with_script rest w)
cut-stays x rest w is due =
    let long : length w.script ≡ suc (length rest) = ap length is in
    (refl, omega (arith, long), λ none. absurd (false≢true (sym (not_later w.time x.0 due) ∙ (sym (ap (first_is_later w.time) is) ∙ none))))

items_stay : Moves ItemsStay ItemsStay
items_stay = record {
  stays = λ w. still w;
  goes_on = λ a b c p q. stays_behind a b c p q;
  says = λ part line w no_put. still w;
  rests = λ w. still w;
  leads_on = λ a b c p q. stays_behind a b c p q;
  settles = λ p a b xs k. k;
  silently = λ a b k. k;
  edits_task = λ name f w k. edit_task-still name f w;
  adds_task = λ t w k. still w;
  forgets_task = λ name w. still w;
  sets_quantum = λ level ticks w. still w;
  ends_environment = λ leaving w. still w;
  begins_scope = λ p name scope b w. still w;
  draws_region = λ w. still w;
  edits_cells = λ id f w. still w;
  ends_scope = λ id w. still w;
  edits_call = λ c f w k. still w;
  adds_call = λ c w. still w;
  forgets_call = λ c w. still w;
  edits_object = λ o f w k a. still w;
  adds_object = λ p l u w. still w;
  enters = λ name o mode w h. still w;
  exits = λ name o w. still w;
  visits = λ name o mode xs w v h others k. k;
  finds_held = λ name o mode w h. still w;
  appoints = λ due moment w later. still w;
  drops_appointment = λ test w. still w;
  registers = λ r l w. still w;
  unregisters = λ n w. still w;
  draws_event = λ w. still w;
  adds_timer = λ t w. still w;
  clears_timer = λ k w. still w;
  sets_timer = λ k h value w. still w;
  sets_timers_due = λ timers w. still w;
  adds_budget = λ w. still w;
  edits_budget = λ b f w. still w;
  sets_budget_due = λ budget w. still w;
  releases = λ h argument w. still w;
  has_served = λ r w is. still w;
  sets_port = λ n value w. still w;
  masks = λ n flag w. still w;
  keeps_interrupt = λ n flag w. still w;
  cuts_script = λ x rest w is due. cut-stays x rest w is due;
}

-- ---- items that are due are taken, one after another

nothing_ahead : (now : ℕ) (script : List (ℤ × Item)) → length script ≤ 0 → first_is_later now script ≡ true
nothing_ahead now [] h = refl
nothing_ahead now (x ∷ xs) h = absurd (omega (arith, h))

module _ (p : Image) where
  -- a step behind another
  none_behind : (fuel : ℕ) (again : Step) (d : Done) → length (world_behind d).script ≤ fuel
      → ((v : World) (said : List Said) → length v.script ≤ fuel → no_item_due (world_behind (again v said)) ≡ true)
      → no_item_due (world_behind (goes_on_with again d)) ≡ true
  none_behind fuel again (done v said) most others = others v said most

  -- the lines of an effect change nothing of the script
  settled-none : (d : Done) → no_item_due (world_behind d) ≡ true → no_item_due (settled p d).0 ≡ true
  settled-none (done w said) none = none

  taken_where : (fuel : ℕ) (x : ℤ × Item) (xs : List (ℤ × Item)) (w : World) (said : List Said) (test : Bool) → w.script ≡ x ∷ xs
      → int_le x.0 (pos w.time) ≡ test → length w.script ≤ suc fuel
      → ((v : World) (said : List Said) → length v.script ≤ fuel → no_item_due (world_behind (items_due fuel p v said)) ≡ true)
      → no_item_due
      (world_behind ((elim test as (λ _. Step) [ true ↦ changes (with_script xs) ▷ script_item p x.1 ▷ items_due fuel p | false ↦ nothing ]) w said))
      ≡ true
  unfolding Keeps
  taken_where fuel x xs w said true is due most others =
      let cut = with_script xs w in
      let long : length w.script ≡ suc (length xs) = ap length is in
      let kept =
      (kept-world ItemsStay cut said (script_item p x.1 cut said)
      (script_item-keeps (all_of items_stay).fine (all_of items_stay).settings (releasing (all_of items_stay)) p x.1 cut tt said)).1.1 in
      none_behind fuel (items_due fuel p) (script_item p x.1 cut said) (omega (arith, long, kept, most)) others
  taken_where fuel x xs w said false is due most others = ap (first_is_later w.time) is ∙ is_later w.time x.0 due

  taken_from : (fuel : ℕ) (w : World) (said : List Said) (script : List (ℤ × Item)) → w.script ≡ script → length w.script ≤ suc fuel
      → ((v : World) (said : List Said) → length v.script ≤ fuel → no_item_due (world_behind (items_due fuel p v said)) ≡ true)
      → no_item_due (world_behind (take_item p w.time (items_due fuel p) script w said)) ≡ true
  taken_from fuel w said [] is most others = ap (first_is_later w.time) is
  taken_from fuel w said (x ∷ xs) is most others = taken_where fuel x xs w said (int_le x.0 (pos w.time)) is refl most others

  taken : (fuel : ℕ) (w : World) (said : List Said) → length w.script ≤ fuel → no_item_due (world_behind (items_due fuel p w said)) ≡ true
  unfolding items_due
  taken zero w said most = nothing_ahead w.time w.script most
  taken (suc fuel) w said most = taken_from fuel w said w.script refl most (taken fuel)

  script_items-none : (w : World) → no_item_due (script_items p w).0 ≡ true
  script_items-none w = settled-none (items_due (length w.script) p w []) (taken (length w.script) w [] (omega arith))

-- ---- instants

abbrev behind_items : Image → Move
behind_items p = events_due p ▶ moments_due p ▶ timers_due p ▶ budgets_due p ▶ quantum_spent p

behind_items-leads : (p : Image) → Leads AnyWorld ItemsStay (behind_items p)
behind_items-leads p =
    then-leads (move_chains (all_of items_stay).fine) (events_due p) (moments_due p ▶ timers_due p ▶ budgets_due p ▶ quantum_spent p)
    (events_due-leads (all_of items_stay).fine (all_of items_stay).settings (releasing (all_of items_stay)) p)
    (then-leads (move_chains (all_of items_stay).fine) (moments_due p) (timers_due p ▶ budgets_due p ▶ quantum_spent p)
    (moments_due-leads (all_of items_stay).fine p)
    (then-leads (move_chains (all_of items_stay).fine) (timers_due p) (budgets_due p ▶ quantum_spent p)
    (timers_due-leads (all_of items_stay).fine (all_of items_stay).settings (releasing (all_of items_stay)) p)
    (then-leads (move_chains (all_of items_stay).fine) (budgets_due p) (quantum_spent p)
    (budgets_due-leads (all_of items_stay).fine (all_of items_stay).settings (releasing (all_of items_stay)) p)
    (quantum_spent-leads (all_of items_stay).fine p))))

pub instants_leave_no_item_due : (p : Image) (w : World) → no_item_due (instant p w).0 ≡ true
unfolding Leads
instants_leave_no_item_due p w =
    let came = (script_items p (finish_action p w).0).0 in
    let behind = (behind_items p came).0 in
    let none = script_items-none p (finish_action p w).0 in
    let stay = behind_items-leads p came tt in
    same_items came.time behind.time came.script behind.script stay.0 (stay.2 none) none
