-- In every world that a run reaches the ready queues are as they should be.
use Rattle.machine_laws.specs.Reached.{Reached, before, behind}
use Rattle.machine_laws.proofs.PlaceLemmas.{nobody_is_placed_twice, places_are_in_order}
use Rattle.world_laws.proofs.Places.CorePoints.{IsAt, not-absent}
use Rattle.ceiling_laws.proofs.Fine.Cores.{core}
use Rattle.world_laws.proofs.Places.Puts.{Spot, spot_in}
use Rattle.world_laws.proofs.Places.SoundWorlds.{IsAbsent, all_there}
use Rattle.world_laws.proofs.Places.Standing.{runs_in}
use Rattle.world_laws.proofs.Places.StandingRuns.{AllStand, comes-stands, instant-places}
use Rattle.world_laws.specs.PlaceWorlds.{ReachedPlacesAreRight}
use Rattle.profile_machine.specs.Dispatching.{active, deadline_shown}
use Rattle.profile_machine.specs.Steps.{is_above}
use Rattle.profile_machine.specs.Tasks.{is_runnable, task_of}
use Rattle.profile_machine.specs.WellFormed.{all_adjacent, all_differ, is_at_active, is_placed, ready_are_placed}
use Rattle.profile_image.specs.Words.{same_option, same_who, same_number}
use Rattle.profile_image.specs.declared.image.Image.{Image}
use Rattle.profile_image.specs.declared.script_items.Item.{Item}
use Rattle.profile_machine.specs.declared.world.World.{World}
use Rattle.profile_machine.specs.declared.world.tasks.Placed.{Placed}
use Rattle.profile_machine.specs.declared.world.tasks.Task.{Task}
use Rattle.std.proofs.Common.{[], ap, arith, cond, eq-eqb, inl, inr, refl, subst, sym, ◌++◌, ◌∙◌, ◌∷◌, ◌≡◌, ◌⊎◌}
use Rattle.std.specs.List.{list_all, list_any}
use Rattle.std.specs.Prelude.{Bool, List, None, Option, Some, false, int_le, is_some, not, true, ℕ, ℤ, ◌&&◌, ◌||◌}
use Rattle.std.proofs.lemmas.Bool.{and_parts, not-true, or_parts}
use Rattle.trace_text.specs.declared.events.Who.{Who}
use Rattle.trace_text.specs.declared.events.Who.TheVariants as who
use Rattle.ceiling_laws.proofs.Runs.Kept.Waking.{who-is}
use Rattle.ceiling_laws.proofs.Runs.LevelMoves.{EachTask}
use Rattle.ceiling_laws.proofs.Places.SoundWorlds.{IsThere, each-on, is_agent}
use Rattle.ceiling_laws.proofs.Places.PartOrder.{by_test}
use Rattle.line_laws.proofs.Leaving.TaskLemmas.{same_self}

pub reached_stand : (p : Image) (script : List (ℤ × Item)) (bound : ℕ) (w : World) → Reached p script bound w → AllStand p w.places w
reached_stand p script bound _ (before w comes) = comes-stands p script bound w comes
reached_stand p script bound _ (behind w comes) = instant-places p script bound w comes (comes-stands p script bound w comes)

-- ---- who is ready, and who is not

not-any : (n : Who) (places : List Placed) → spot_in n places ≡ None → list_any (λ x. same_who n x.who) places ≡ false
not-any n [] out = refl
not-any n (x ∷ xs) out =
    by_test (same_who n x.who)
    (λ same. absurd (let clash : Some (x.level, x.deadline) ≡ None = sym (ap (λ b. cond b (Some (x.level, x.deadline)) (spot_in n xs)) same) ∙ out in cc))
    (λ apart. ap (λ b. b || list_any (λ y. same_who n y.who) xs) apart
    ∙ not-any n xs (sym (ap (λ b. cond b (Some (x.level, x.deadline)) (spot_in n xs)) apart) ∙ out))

any_if : (b : Bool) (spot : Spot) (rest : Option Spot) (others : Bool) → is_some (cond b (Some spot) rest) ≡ true → (is_some rest ≡ true → others ≡ true)
    → (b || others) ≡ true
any_if true spot rest others shown onward = refl
any_if false spot rest others shown onward = onward shown

-- who stands somewhere is there
any-shown : (n : Who) (places : List Placed) → is_some (spot_in n places) ≡ true → list_any (λ x. same_who n x.who) places ≡ true
any-shown n [] shown = absurd cc
any-shown n (x ∷ xs) shown = any_if (same_who n x.who) (x.level, x.deadline) (spot_in n xs) (list_any (λ y. same_who n y.who) xs) shown (any-shown n xs)

placed_if : (runs placed : Bool) → (runs ≡ true → placed ≡ true) → (runs ≡ false → placed ≡ false) → cond runs placed (not placed) ≡ true
placed_if true placed in_place out = in_place refl
placed_if false placed in_place out = ap not (out refl)

unready_out : (w : World) (t : Task) → is_runnable t ≡ false → (is_runnable t ≡ true) ⊎ (spot_in t.who w.places ≡ None) → is_placed w t ≡ false
unready_out w t idle (inl runs) = absurd (let clash : true ≡ false = sym runs ∙ idle in cc)
unready_out w t idle (inr out) = not-any t.who w.places out

ready_there : (w : World) (t : Task) → (is_runnable t ≡ true → is_some (spot_in t.who w.places) ≡ true)
    → (is_runnable t ≡ true) ⊎ (spot_in t.who w.places ≡ None) → cond (is_runnable t) (is_placed w t) (not (is_placed w t)) ≡ true
ready_there w t ready shown = placed_if (is_runnable t) (is_placed w t) (λ runs. any-shown t.who w.places (ready runs)) (λ idle. unready_out w t idle shown)

there-shown : (w : World) (t : Task) (n : Who) → (is_agent n ≡ false → same_who n t.who ≡ true)
    → (runs_in (core t) ≡ true) ⊎ ((spot_in n w.places ≡ None) ⊎ IsAbsent n (core t)) → (is_runnable t ≡ true) ⊎ (spot_in n w.places ≡ None)
there-shown w t n named (inl runs) = inl runs
there-shown w t n named (inr (inl out)) = inr out
there-shown w t n named (inr (inr absent)) = not-absent n t (λ u. u) named refl absent

task-there : (p : Image) (w : World) (t : Task) → IsThere w t → AllStand p w.places w → cond (is_runnable t) (is_placed w t) (not (is_placed w t)) ≡ true
task-there p w t there h =
    ready_there w t (λ runs. (h.1 t.who).ready (ap is_runnable there.found ∙ runs))
    (there-shown w t t.who (λ task. same_self t.who)
    (subst (λ u. (runs_in (core u) ≡ true) ⊎ ((spot_in t.who w.places ≡ None) ⊎ IsAbsent t.who (core u))) there.found (h.1 t.who).shown))

agent-there : (p : Image) (w : World) → w.agent.who ≡ who.Agent → AllStand p w.places w
    → cond (is_runnable w.agent) (is_placed w w.agent) (not (is_placed w w.agent)) ≡ true
agent-there p w is h =
    ready_there w w.agent (λ runs. ap (λ n. is_some (spot_in n w.places)) is ∙ (h.1 who.Agent).ready runs)
    (subst (λ n. (is_runnable w.agent ≡ true) ⊎ (spot_in n w.places ≡ None)) (sym is)
    (there-shown w w.agent who.Agent (λ task. absurd (let clash : true ≡ false = task in cc)) (h.1 who.Agent).shown))

all-there : (P : Task → Bool) (ts : List Task) (last : Task) → EachTask (λ t. P t ≡ true) ts → P last ≡ true → list_all P (ts ++ last ∷ []) ≡ true
all-there P [] last each is = ap (λ b. b && true) is
all-there P (t ∷ ts) last each is = ap (λ b. b && list_all P (ts ++ last ∷ [])) each.0 ∙ all-there P ts last each.1 is

-- ---- where who is there stands

not-there : (n : Who) (places : List Placed) → list_any (λ x. same_who n x.who) places ≡ false → spot_in n places ≡ None
not-there n [] e = refl
not-there n (x ∷ xs) e =
    let none = or_parts (same_who n x.who) (list_any (λ y. same_who n y.who) xs) e in
    ap (λ b. cond b (Some (x.level, x.deadline)) (spot_in n xs)) none.0 ∙ not-there n xs none.1

-- each entry is the one of its name
later-spot : (n : Who) (x : Placed) (xs : List Placed) (spot : Spot) → list_any (λ y. same_who x.who y.who) xs ≡ false → spot_in n xs ≡ Some spot
    → spot_in n (x ∷ xs) ≡ Some spot
later-spot n x xs spot apart found =
    by_test (same_who n x.who)
    (λ same. absurd (let clash : None ≡ Some spot = sym (not-there x.who xs apart) ∙ ap (λ m. spot_in m xs) (sym (who-is n x.who same)) ∙ found in cc))
    (λ other. ap (λ b. cond b (Some (x.level, x.deadline)) (spot_in n xs)) other ∙ found)

entries-hold : (P : Placed → Bool) (places : List Placed) → all_differ (λ x y. same_who x.who y.who) places ≡ true
    → ((x : Placed) → spot_in x.who places ≡ Some (x.level, x.deadline) → P x ≡ true) → list_all P places ≡ true
entries-hold P [] differ h = refl
entries-hold P (x ∷ xs) differ h =
    let apart = and_parts (not (list_any (λ y. same_who x.who y.who) xs)) (all_differ (λ y z. same_who y.who z.who) xs) differ in
    ap (λ b. b && list_all P xs) (h x (ap (λ b. cond b (Some (x.level, x.deadline)) (spot_in x.who xs)) (same_self x.who)))
    ∙ entries-hold P xs apart.1
    (λ y found. h y (later-spot y.who x xs (y.level, y.deadline) (not-true (list_any (λ z. same_who x.who z.who) xs) apart.0) found))

entry-stands : (p : Image) (w : World) (x : Placed) → AllStand p w.places w → spot_in x.who w.places ≡ Some (x.level, x.deadline)
    → (x.level ≡ active p (task_of w x.who)) × (x.deadline ≡ deadline_shown p (task_of w x.who))
entry-stands p w x h found = subst (λ place. IsAt p place (core (task_of w x.who))) found (h.1 x.who).at

int_le-self : (a : ℤ) → int_le a a ≡ true
int_le-self a = grind arith

same_moment-self : (a : ℤ) → same_number a a ≡ true
same_moment-self a = ap (λ b. b && b) (int_le-self a)

same-deadline : (a b : Option ℤ) → a ≡ b → same_option same_number a b ≡ true
same-deadline None b e = subst (λ c. same_option same_number None c ≡ true) e refl
same-deadline (Some a) b e = subst (λ c. same_option same_number (Some a) c ≡ true) e (same_moment-self a)

placed-at-active : (p : Image) (w : World) → all_differ (λ x y. same_who x.who y.who) w.places ≡ true → AllStand p w.places w
    → list_all (is_at_active p w) w.places ≡ true
placed-at-active p w differ h =
    entries-hold (is_at_active p w) w.places differ (λ x found.
    let stands = entry-stands p w x h found in
    ap (λ b. b && same_option same_number x.deadline (deadline_shown p (task_of w x.who))) (eq-eqb x.level (active p (task_of w x.who)) stands.0)
    ∙ same-deadline x.deadline (deadline_shown p (task_of w x.who)) stands.1)

ready-placed : (p : Image) (w : World) → AllStand p w.places w → ready_are_placed w ≡ true
ready-placed p w h =
    all-there (λ t. cond (is_runnable t) (is_placed w t) (not (is_placed w t))) w.tasks w.agent
    (each-on (IsThere w) (λ t. cond (is_runnable t) (is_placed w t) (not (is_placed w t)) ≡ true) w.tasks (λ t there. task-there p w t there h)
    (all_there w h.0))
    (agent-there p w h.0.named h)

all_four : (a b c d : Bool) → a ≡ true → b ≡ true → c ≡ true → d ≡ true → (a && b && c && d) ≡ true
all_four true true true true e f g h = refl
all_four true true true false e f g h = h
all_four true true false d e f g h = g
all_four true false c d e f g h = f
all_four false b c d e f g h = e

pub reached_places_are_right : ReachedPlacesAreRight
reached_places_are_right p script bound w r =
    let h = reached_stand p script bound w r in
    let differ = nobody_is_placed_twice p script bound w r in
    all_four (ready_are_placed w) (all_differ (λ x y. same_who x.who y.who) w.places) (all_adjacent (λ x y. not (is_above y x)) w.places)
    (list_all (is_at_active p w) w.places) (ready-placed p w h) differ (places_are_in_order p script bound w r)
    (placed-at-active p w differ h)
