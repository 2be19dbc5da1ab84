-- Who acts stands in the queue that the lines show, since it stands first in the ready queues of the world.
use Rattle.ceiling_laws.specs.RunLaws.{Tells, told_first, told_on, WhoActsIsShown, levels_told}
use Rattle.machine_laws.proofs.LineLemmas.{tocks_say_ticks}
use Rattle.machine_laws.proofs.PlaceLemmas.{instants_place_by_lines, openings_place_by_lines, tock_lines-places, tocks_place_nobody}
use Rattle.machine_laws.proofs.QueueLemmas.{as_placed, lined, lined-after}
use Rattle.machine_laws.proofs.Kept.Run.{tock-parts}
use Rattle.machine_laws.proofs.TimeLemmas.{opening-runner}
use Rattle.profile_machine.specs.Instant.{instant}
use Rattle.profile_machine.specs.Dispatching as dispatching
use Rattle.profile_machine.specs.Run.{tock}
use Rattle.profile_machine.specs.Steps.{is_above, places_after, places_after_all, put_at_head}
use Rattle.profile_image.specs.declared.image.Image.{Image}
use Rattle.profile_image.specs.declared.script_items.Item.{Item}
use Rattle.profile_machine.specs.declared.world.World.{World}
use Rattle.profile_machine.specs.declared.world.tasks.Placed.{Placed}
use Rattle.std.proofs.Common.{ap, inl, inr, refl, subst, sym, ◌∙◌, ◌≡◌, ◌⊎◌}
use Rattle.std.specs.Prelude.{Bool, List, if◌then◌else◌, None, Some, [], cond, false, true, ℕ, ℤ, ◌++◌, ◌∷◌}
use Rattle.trace_text.specs.Laws.{Levels, no_levels, see_levels}
use Rattle.trace_text.specs.Queue.{entry_of, who_eq}
use Rattle.trace_text.specs.declared.events.Entry.{Entry}
use Rattle.trace_text.specs.declared.events.Event.{Event}
use Rattle.trace_text.specs.declared.events.Who.{Who}
use Rattle.line_laws.proofs.Exclusion.ActionLists.{who_eq-self}

-- ---- the ready queues are what the lines show

entries-lined : (sight : Levels) (lines : List Event) → lined (levels_told sight lines).entries ≡ places_after_all lines (lined sight.entries)
entries-lined sight [] = refl
entries-lined sight (x ∷ xs) = entries-lined (see_levels sight x) xs ∙ ap (places_after_all xs) (lined-after sight.entries x)

pub places-append : (places : List Placed) (xs ys : List Event) → places_after_all (xs ++ ys) places ≡ places_after_all ys (places_after_all xs places)
places-append places [] ys = refl
places-append places (x ∷ xs) ys = places-append (places_after x places) xs ys

tock_places : (p : Image) (w : World) (places : List Placed) → places_after_all (tock p w).1 places ≡ places
tock_places p w places = tock_lines-places (tock p w).1 places (tocks_say_ticks p w)

told-places : (p : Image) (script : List (ℤ × Item)) (bound : ℕ) (lines : List Event) (w : World) → Tells p script bound lines w
    → w.places ≡ places_after_all lines []
told-places p script bound _ _ told_first = openings_place_by_lines p script
told-places p script bound _ _ (told_on lines w told going) =
    let i = instant p w in
    let t = tock p i.0 in
    tocks_place_nobody p i.0 ∙ instants_place_by_lines p w ∙ ap (places_after_all i.1) (told-places p script bound lines w told)
    ∙ sym (places-append [] lines i.1)
    ∙ sym (tock_places p i.0 (places_after_all (lines ++ i.1) []))
    ∙ sym (places-append [] (lines ++ i.1) t.1)

-- ---- who runs stands first

told-first : (p : Image) (script : List (ℤ × Item)) (bound : ℕ) (lines : List Event) (w : World) (name : Who) → Tells p script bound lines w → w.ran ≡ Some name
    → dispatching.head_of w.places ≡ Some name
told-first p script bound _ _ name told_first e = absurd (let none : None ≡ Some name = sym (opening-runner p script) ∙ e in cc)
told-first p script bound _ _ name (told_on lines w told going) e =
    let behind = (instant p w).0 in
    ap dispatching.head_of (tocks_place_nobody p behind) ∙ sym (ap (λ a. a.0.ran) (tock-parts p behind)) ∙ e

-- ---- who stands first stands there

head-test : (name : Who) (b : Bool) (x y : Placed) (placed ys : List Placed) → dispatching.head_of (cond b (y ∷ placed) (x ∷ y ∷ ys)) ≡ Some name
    → (x.who ≡ name) ⊎ (Some y.who ≡ Some name)
head-test name true x y placed ys e = inr e
head-test name false x y placed ys e = inl cc

head-put : (name : Who) (x : Placed) (xs : List Placed) → dispatching.head_of (put_at_head x xs) ≡ Some name
    → (x.who ≡ name) ⊎ (dispatching.head_of xs ≡ Some name)
head-put name x [] e = inl cc
head-put name x (y ∷ ys) e = head-test name (is_above y x) x y (put_at_head x ys) ys e

InQueue : Who → List Entry → Type 0
InQueue name queue = (entry : Entry) × (entry_of name queue ≡ Some entry)

entry-test : (name : Who) (x : Entry) (queue : List Entry) (b : Bool) → who_eq name x.who ≡ b → (x.who ≡ name) ⊎ (InQueue name queue)
    → (entry : Entry) × ((if b then Some x else entry_of name queue) ≡ Some entry)
unfolding InQueue
entry-test name x queue true is h = (x, refl)
entry-test name x queue false is (inr h) = h
entry-test name x queue false is (inl same) = absurd (let never : false ≡ true = sym is ∙ subst (λ n. who_eq n x.who ≡ true) same (who_eq-self x.who) in cc)

onward : {A B C : Type 0} → A ⊎ B → (B → C) → A ⊎ C
onward (inl a) f = inl a
onward (inr b) f = inr (f b)

head-in : (name : Who) (queue : List Entry) → dispatching.head_of (lined queue) ≡ Some name → InQueue name queue
unfolding InQueue
head-in name [] e = absurd cc
head-in name (x ∷ queue) e = entry-test name x queue (who_eq name x.who) refl (onward (head-put name (as_placed x) (lined queue) e) (head-in name queue))

pub who_acts_is_shown : WhoActsIsShown
unfolding InQueue
who_acts_is_shown p script bound lines w told name ran =
    head-in name (levels_told no_levels lines).entries
    (ap dispatching.head_of (entries-lined no_levels lines ∙ sym (told-places p script bound lines w told)) ∙ told-first p script bound lines w name told ran)
