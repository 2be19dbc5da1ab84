-- The ready queues follow the lines.
use Rattle.std.proofs.Common.{◌≡◌, ℕ, ℤ, true, List, [], ◌∷◌, ◌++◌, Option, Some, None, refl, sym, ap, subst, ◌∙◌}
use Rattle.trace_text.specs.declared.events.Event.{Event}
use Rattle.trace_text.specs.declared.events.Event.TheVariants as line
use Rattle.trace_text.specs.declared.events.Who.{Who}
use Rattle.trace_text.specs.declared.events.Who.TheVariants as who
use Rattle.profile_image.specs.declared.image.Image.{Image}
use Rattle.profile_image.specs.declared.script_items.Item.{Item}
use Rattle.profile_machine.specs.declared.world.World.{World}
use Rattle.profile_machine.specs.declared.world.tasks.Task.{Task}
use Rattle.profile_machine.specs.declared.world.tasks.Placed.{Placed}
use Rattle.profile_machine.specs.Steps.{places_after, places_after_all}
use Rattle.profile_machine.specs.Tasks.{task_at, edit_task_found, edit_task}
use Rattle.profile_machine.specs.Dispatching.{choose}
use Rattle.profile_machine.specs.Instant.{instant}
use Rattle.profile_machine.specs.Run.{opens, opening, blank_world, tock}
use Rattle.machine_laws.specs.PlaceLaws.{places_differ, places_fall}
use Rattle.machine_laws.specs.Reached.{Reached}
use Rattle.machine_laws.proofs.FinestMoves.{all_of, tocks_of, effect-leads}
use Rattle.machine_laws.proofs.OrderLemmas.{Descends, Descends-after_all, Descends-adjacent, Differ, Differ-after_all, Differ-all}
use Rattle.machine_laws.proofs.ReachedLemmas.{Lasts, reached-lasts}
use Rattle.machine_laws.specs.LineKinds.{is_of_tock, AllAre}
use Rattle.machine_laws.proofs.Moves.{Moves, TockMoves, lines_of}
use Rattle.machine_laws.proofs.LineLemmas.{tocks_say_ticks}
use Rattle.machine_laws.proofs.Kept.Instant.{instant-leads}
use Rattle.machine_laws.proofs.Kept.Run.{before_tick, tock-parts, before_tick-leads, opens-keeps}
use Rattle.machine_laws.proofs.Kept.Combinators.{Leads}

-- a step moves nobody before its effect is over
abbrev SamePlaces : {X : Type 0} → World → List X → World → Type 0
SamePlaces before lines after = after.places ≡ before.places

abbrev PlacesFollow : World → List Event → World → Type 0
PlacesFollow before lines after = after.places ≡ places_after_all lines before.places

places_after_all-append : (xs ys : List Event) (places : List Placed) → places_after_all (xs ++ ys) places ≡ places_after_all ys (places_after_all xs places)
places_after_all-append [] ys places = refl
places_after_all-append (x ∷ xs) ys places = places_after_all-append xs ys (places_after x places)

follow-on : (a b c : World) (xs ys : List Event) → PlacesFollow a xs b → PlacesFollow b ys c → PlacesFollow a (xs ++ ys) c
follow-on a b c xs ys p q = q ∙ ap (places_after_all ys) p ∙ sym (places_after_all-append xs ys a.places)

edit_found-places : (name : Who) (f : Task → Task) (w : World) (found : Option Task) → (edit_task_found name f w found).places ≡ w.places
edit_found-places name f w None = refl
edit_found-places (who.Task n) f w (Some t) = refl
edit_found-places who.Agent f w (Some t) = refl

edit_task-places : (name : Who) (f : Task → Task) (w : World) → (edit_task name f w).places ≡ w.places
edit_task-places name f w = edit_found-places name f w (task_at w name)

place_by_lines : Moves SamePlaces PlacesFollow
place_by_lines = record {
  stays = λ w. refl;
  goes_on = λ a b c p q. q ∙ p;
  says = λ part line w no_put. refl;
  rests = λ w. refl;
  leads_on = λ a b c {xs} {ys} p q. follow-on a b c xs ys p q;
  settles = λ p a b xs k. ap (places_after_all (lines_of p xs)) k;
  silently = λ a b k. k;
  edits_task = λ name f w k. edit_task-places name f w;
  adds_task = λ t w k. refl;
  forgets_task = λ name w. refl;
  sets_quantum = λ level ticks w. refl;
  ends_environment = λ leaving w. refl;
  begins_scope = λ p name scope b w. refl;
  draws_region = λ w. refl;
  edits_cells = λ id f w. refl;
  ends_scope = λ id w. refl;
  edits_call = λ c f w k. refl;
  adds_call = λ c w. refl;
  forgets_call = λ c w. refl;
  edits_object = λ o f w k a. refl;
  adds_object = λ p l u w. refl;
  enters = λ name o mode w h. refl;
  exits = λ name o w. refl;
  visits = λ name o mode xs w v h others k. k;
  finds_held = λ name o mode w h. refl;
  appoints = λ due moment w later. refl;
  drops_appointment = λ test w. refl;
  registers = λ r l w. refl;
  unregisters = λ n w. refl;
  draws_event = λ w. refl;
  adds_timer = λ t w. refl;
  clears_timer = λ k w. refl;
  sets_timer = λ k h value w. refl;
  sets_timers_due = λ timers w. refl;
  adds_budget = λ w. refl;
  edits_budget = λ b f w. refl;
  sets_budget_due = λ budget w. refl;
  releases = λ h argument w. refl;
  has_served = λ r w is. refl;
  sets_port = λ n value w. refl;
  masks = λ n flag w. refl;
  keeps_interrupt = λ n flag w. refl;
  cuts_script = λ x rest w is due. refl;
}

-- the lines of a tock move nobody
tock_line-places : (event : Event) (places : List Placed) → is_of_tock event ≡ true → places_after event places ≡ places
tock_line-places (line.Ready name level end deadline) places e = cc
tock_line-places (line.Block name waits) places e = cc
tock_line-places (line.Done task) places e = cc
tock_line-places _ places e = refl

tocks_place_by_lines : TockMoves PlacesFollow
tocks_place_by_lines = record { tells = λ event w k. sym (tock_line-places event w.places k); serves = λ r rest w k. refl }

pub tock_lines-places : (lines : List Event) (places : List Placed) → AllAre is_of_tock lines → places_after_all lines places ≡ places
tock_lines-places [] places a = refl
tock_lines-places (x ∷ xs) places a = ap (places_after_all xs) (tock_line-places x places a.0) ∙ tock_lines-places xs places a.1

pub openings_place_by_lines : (p : Image) (script : List (ℤ × Item)) → (opening p script).0.places ≡ places_after_all (opening p script).1 []
unfolding Leads
openings_place_by_lines p script = effect-leads (all_of place_by_lines).fine p (opens p) (opens-keeps (all_of place_by_lines) p) (blank_world p script) tt

pub instants_place_by_lines : (p : Image) (w : World) → (instant p w).0.places ≡ places_after_all (instant p w).1 w.places
unfolding Leads
instants_place_by_lines p w = instant-leads (all_of place_by_lines) p (record { puts = λ name s pieces text v w good is e. refl }) w tt

before_tick-places : (p : Image) (chosen : Option Who) (w : World) → PlacesFollow w (before_tick p chosen w).1 (before_tick p chosen w).0
unfolding Leads
before_tick-places p chosen w = before_tick-leads (all_of place_by_lines) (tocks_of tocks_place_by_lines) p chosen w tt

pub tocks_place_nobody : (p : Image) (w : World) → (tock p w).0.places ≡ w.places
tocks_place_nobody p w =
    let parts = tock-parts p w in
    let said : AllAre is_of_tock (before_tick p (choose w) w).1 = subst (λ a. AllAre is_of_tock a.1) parts (tocks_say_ticks p w) in
    ap (λ a. a.0.places) parts ∙ before_tick-places p (choose w) w ∙ tock_lines-places (before_tick p (choose w) w).1 w.places said

-- ---- what the ready queues of every reached world keep

placed_rightly : World → Type 0
placed_rightly w = Descends w.places × Differ w.places

after-rightly : (lines : List Event) (before after : List Placed) → after ≡ places_after_all lines before → Descends before × Differ before
    → Descends after × Differ after
after-rightly lines before after e h =
    subst (λ places. Descends places × Differ places) (sym e) (Descends-after_all lines before h.0, Differ-after_all lines before h.1)

placed_rightly-lasts : Lasts placed_rightly
unfolding placed_rightly
placed_rightly-lasts = record {
  at_opening = λ p script. after-rightly (opening p script).1 [] (opening p script).0.places (openings_place_by_lines p script) (tt, tt);
  at_instant = λ p w h. after-rightly (instant p w).1 w.places (instant p w).0.places (instants_place_by_lines p w) h;
  at_tock = λ p w h. subst (λ places. Descends places × Differ places) (sym (tocks_place_nobody p w)) h;
}

pub nobody_is_placed_twice : (p : Image) (script : List (ℤ × Item)) (bound : ℕ) (w : World) → Reached p script bound w → places_differ w ≡ true
unfolding placed_rightly
nobody_is_placed_twice p script bound w r = Differ-all w.places (reached-lasts placed_rightly-lasts p script bound w r).1

pub places_are_in_order : (p : Image) (script : List (ℤ × Item)) (bound : ℕ) (w : World) → Reached p script bound w → places_fall w ≡ true
unfolding placed_rightly
places_are_in_order p script bound w r = Descends-adjacent w.places (reached-lasts placed_rightly-lasts p script bound w r).0
