-- Who ran before an instant does not wait for a meeting: behind an instant nobody waits and is placed, so whom a tock chooses does
-- not wait.
use Rattle.std.proofs.Common.{◌≡◌, ℕ, ℤ, true, false, ◌||◌, List, [], ◌∷◌, Some, None, refl, sym, ap, subst, ◌∙◌, eq-eqb}
use Rattle.ann_base.specs.declared.identities.TaskNo.{TaskNo}
use Rattle.trace_text.specs.declared.events.Event.{Event}
use Rattle.trace_text.specs.declared.events.Who.{Who}
use Rattle.trace_text.specs.declared.events.Who.TheVariants as who
use Rattle.profile_image.specs.declared.image.Image.{Image}
use Rattle.profile_image.specs.declared.script_items.Item.{Item}
use Rattle.profile_machine.specs.declared.world.World.{World}
use Rattle.profile_machine.specs.declared.world.tasks.Placed.{Placed}
use Rattle.profile_image.specs.Words.{same_who}
use Rattle.profile_machine.specs.Tasks.{waiting_in}
use Rattle.profile_machine.specs.Dispatching.{choose, head_of}
use Rattle.profile_machine.specs.Instant.{instant}
use Rattle.profile_machine.specs.Run.{opening, tock}
use Rattle.machine_laws.proofs.PlaceLemmas.{openings_place_by_lines, instants_place_by_lines, tocks_place_nobody, tock_lines-places}
use Rattle.machine_laws.proofs.LineLemmas.{tocks_say_ticks}
use Rattle.machine_laws.proofs.TimeLemmas.{opening-runner}
use Rattle.line_laws.proofs.Leaving.FineMoves.{waits}
use Rattle.line_laws.proofs.Leaving.FreeWorlds.{Inv}
use Rattle.line_laws.proofs.Leaving.PlacingLines.{is_placed}
use Rattle.line_laws.proofs.Leaving.CoreMoves.{state_in}
use Rattle.line_laws.proofs.Leaving.Kept.Run.{before_tick-leads}
use Rattle.line_laws.proofs.Leaving.Following.{Following, RanAwake, resting, tock_moves, instant-following, opening-following}
use Rattle.machine_laws.specs.Reached.{Comes, opened, ticked}
use Rattle.machine_laws.proofs.Kept.Combinators.{Leads}
use Rattle.machine_laws.proofs.Kept.Run.{before_tick, tock-parts}
use Rattle.machine_laws.proofs.QueueLemmas.{by_test}

-- nobody waits for a meeting and is placed
abbrev pub NobodyWaits : World → Type 0
NobodyWaits w = (t : TaskNo) → waits (waiting_in (state_in w t)) ≡ true → is_placed (who.Task t) w.places ≡ false

pub opening-unplaced : (p : Image) (script : List (ℤ × Item)) → NobodyWaits (opening p script).0
opening-unplaced p script t e =
    ap (is_placed (who.Task t)) (openings_place_by_lines p script) ∙ (opening-following p script).placed t e [] (λ k. refl)

pub instant-unplaced : (p : Image) (w : World) → NobodyWaits w → Following w (instant p w).1 (instant p w).0 → NobodyWaits (instant p w).0
instant-unplaced p w h f t e = ap (is_placed (who.Task t)) (instants_place_by_lines p w) ∙ f.placed t e w.places (h t)

pub tock-unplaced : (p : Image) (w : World) → NobodyWaits w → Following w (tock p w).1 (tock p w).0 → NobodyWaits (tock p w).0
tock-unplaced p w h f t e =
    ap (is_placed (who.Task t)) (tocks_place_nobody p w ∙ sym (tock_lines-places (tock p w).1 w.places (tocks_say_ticks p w))) ∙ f.placed t e w.places (h t)

pub tock-following : (p : Image) (w : World) → Inv w → Following w (tock p w).1 (tock p w).0
unfolding Leads
tock-following p w inv =
    subst (λ (t : World × List Event). Following w t.1 t.0) (sym (tock-parts p w))
    (let before = before_tick p (choose w) w in
    let k : Following w before.1 before.0 = before_tick-leads resting tock_moves p (choose w) w (inv, tt) in
    record { shown = λ s h. let f = k.shown s h in (f.0, f.1); placed = λ t e places g. k.placed t e places g; inv = k.inv })

-- whom a tock chooses is placed
pub same_self : (a : Who) → same_who a a ≡ true
same_self who.Agent = refl
same_self (who.Task t) = eq-eqb t.0 t.0 refl

pub head-placed : (places : List Placed) (name : Who) → head_of places ≡ Some name → is_placed name places ≡ true
head-placed [] name e = absurd cc
head-placed (x ∷ xs) name e =
    let same : x.who ≡ name = cc in subst (λ n. (same_who n x.who || is_placed n xs) ≡ true) same (ap (λ b. b || is_placed x.who xs) (same_self x.who))

pub chosen-awake : (p : Image) (w : World) → NobodyWaits (tock p w).0 → RanAwake (tock p w).0
chosen-awake p w h (who.Task t) e =
    let v = (tock p w).0 in
    let ran : v.ran ≡ choose w = ap (λ a. a.0.ran) (tock-parts p w) in
    let first : is_placed (who.Task t) v.places ≡ true =
    ap (is_placed (who.Task t)) (tocks_place_nobody p w) ∙ head-placed w.places (who.Task t) (sym ran ∙ e) in
    by_test (waits (waiting_in (state_in v t)))
    (λ k. absurd (let never : true ≡ false = sym first ∙ h t k in cc))
    (λ k. k)
chosen-awake p w h who.Agent e = refl

pub opening-awake : (p : Image) (script : List (ℤ × Item)) → RanAwake (opening p script).0
opening-awake p script name e = absurd (let none : None ≡ Some name = sym (opening-runner p script) ∙ e in cc)

-- ---- every world from which an instant begins

pub record AwakeWorld (w : World) : Type 0 where
  pub inv : Inv w
  pub unplaced : NobodyWaits w
  pub awake : RanAwake w

pub comes-awake : (p : Image) (script : List (ℤ × Item)) (bound : ℕ) (w : World) → Comes p script bound w → AwakeWorld w
comes-awake p script bound _ opened = record { inv = (opening-following p script).inv; unplaced = opening-unplaced p script; awake = opening-awake p script }
comes-awake p script bound _ (ticked w c e) =
    let before = comes-awake p script bound w c in
    let f = instant-following p w before.inv before.awake in
    let i = (instant p w).0 in
    let g = tock-following p i f.inv in
    let unplaced = tock-unplaced p i (instant-unplaced p w before.unplaced f) g in
    record { inv = g.inv; unplaced = unplaced; awake = chosen-awake p i unplaced }
