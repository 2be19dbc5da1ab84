-- What is kept of the `init`, `final`, `leave` and `left` lines says what the law of leaving asks of all lines before.
use Rattle.std.proofs.Common.{◌≡◌, ℕ, Bool, true, false, cond, not, ◌&&◌, ◌||◌, eqb, List, [], ◌∷◌, ◌++◌, length, refl, ap, ◌∙◌}
use Rattle.std.proofs.Math.Dec.{eqb-suc-zero}
use Rattle.std.specs.List.{list_all}
use Rattle.trace_text.specs.declared.events.Event.{Event}
use Rattle.trace_text.specs.declared.events.Event.TheVariants.{Leave, Init, Final, Left, Replace}
use Rattle.trace_text.specs.Laws.{is_left_before, is_leaving, inits_of, regions_of, has, finals_among, is_final_before, is_next_final, is_rightly_left}
use Rattle.trace_laws.specs.Regions.{Leavings, no_leavings, leavings_after, objects_in, finals_in}
use Rattle.trace_laws.specs.Regions.{is_next_final_in, is_registered, is_next_final_of, is_left_rightly}

-- what is kept of the events before, of which the last stands first
abbrev pub leavings_of : List Event → Leavings
leavings_of [] = no_leavings
leavings_of (event ∷ past) = leavings_after (leavings_of past) event

leaving_kept : (region : ℕ) (past : List Event) → is_leaving region past ≡ has region (leavings_of past).leaves
leaving_kept region [] = refl
leaving_kept region (Leave who r how ∷ past) = ap (λ b. eqb region r.0 || b) (leaving_kept region past)
leaving_kept region (_ ∷ past) = leaving_kept region past

left_kept : (region : ℕ) (past : List Event) → is_left_before region past ≡ has region (leavings_of past).lefts
left_kept region [] = refl
left_kept region (Left who r ∷ past) = ap (λ b. eqb region r.0 || b) (left_kept region past)
left_kept region (_ ∷ past) = left_kept region past

final_kept : (object : ℕ) (past : List Event) → is_final_before object past ≡ has object (leavings_of past).finals
final_kept object [] = refl
final_kept object (Final who o ∷ past) = ap (λ b. eqb object o || b) (final_kept object past)
final_kept object (_ ∷ past) = final_kept object past

inits_kept : (region : ℕ) (past : List Event) → inits_of region past ≡ objects_in region (leavings_of past).inits
inits_kept region [] = refl
inits_kept region (Init who object r name ∷ past) = ap (λ (objects : List ℕ). cond (eqb region r.0) (object ∷ objects) objects) (inits_kept region past)
inits_kept region (_ ∷ past) = inits_kept region past

finals_kept : (objects : List ℕ) (past : List Event) → finals_among objects past ≡ finals_in objects (leavings_of past).finals
finals_kept objects [] = refl
finals_kept objects (Final who object ∷ past) = ap (λ (finals : List ℕ). cond (has object objects) (finals ++ object ∷ []) finals) (finals_kept objects past)
finals_kept objects (_ ∷ past) = finals_kept objects past

-- whether there is a region more
one_more : (b : Bool) (number : ℕ) (numbers : List ℕ) → not (eqb (length (cond b (number ∷ numbers) numbers)) 0) ≡ (b || not (eqb (length numbers) 0))
one_more true number numbers = ap not (eqb-suc-zero (length numbers))
one_more false number numbers = refl

registered_kept : (object : ℕ) (past : List Event) → not (eqb (length (regions_of object past)) 0) ≡ is_registered (leavings_of past) object
registered_kept object [] = refl
registered_kept object (Init who o r name ∷ past) =
    one_more (eqb object o) r.0 (regions_of object past) ∙ ap (λ b. eqb object o || b) (registered_kept object past)
registered_kept object (_ ∷ past) = registered_kept object past

one_asked : (b : Bool) (p : ℕ → Bool) (number : ℕ) (numbers : List ℕ)
    → list_all p (cond b (number ∷ numbers) numbers) ≡ ((not b || p number) && list_all p numbers)
one_asked true p number numbers = refl
one_asked false p number numbers = refl

asked_kept : (p : ℕ → Bool) (object : ℕ) (past : List Event)
    → list_all p (regions_of object past) ≡ list_all (λ init. not (eqb object init.object) || p init.region) (leavings_of past).inits
asked_kept p object [] = refl
asked_kept p object (Init who o r name ∷ past) =
    one_asked (eqb object o) p r.0 (regions_of object past) ∙ ap (λ b. (not (eqb object o) || p r.0) && b) (asked_kept p object past)
asked_kept p object (_ ∷ past) = asked_kept p object past

next_kept : (object : ℕ) (past : List Event) (region : ℕ) → is_next_final object past region ≡ is_next_final_in (leavings_of past) object region
next_kept object past region =
    rw (leaving_kept region past, left_kept region past, inits_kept region past, finals_kept (objects_in region (leavings_of past).inits) past) refl

-- the same asked of each
all_alike : {X : Type 0} (p q : X → Bool) → ((x : X) → p x ≡ q x) → (xs : List X) → list_all p xs ≡ list_all q xs
all_alike p q same [] = refl
all_alike p q same (x ∷ xs) = rw (same x, all_alike p q same xs) refl

each_kept : (object : ℕ) (past : List Event)
    → list_all (is_next_final object past) (regions_of object past) ≡ list_all (is_next_final_of (leavings_of past) object) (leavings_of past).inits
each_kept object past =
    asked_kept (is_next_final object past) object past
    ∙ all_alike (λ init. not (eqb object init.object) || is_next_final object past init.region) (is_next_final_of (leavings_of past) object)
    (λ init. ap (λ b. not (eqb object init.object) || b) (next_kept object past init.region)) (leavings_of past).inits

pub left_rightly_kept : (past : List Event) (event : Event) → is_rightly_left past event ≡ is_left_rightly (leavings_of past) event
left_rightly_kept past (Leave who region how) = ap not (leaving_kept region.0 past)
left_rightly_kept past (Left who region) =
    rw (leaving_kept region.0 past, left_kept region.0 past, inits_kept region.0 past, finals_kept (objects_in region.0 (leavings_of past).inits) past) refl
left_rightly_kept past (Init who object region name) = rw (leaving_kept region.0 past, final_kept object past) refl
left_rightly_kept past (Final who object) = rw (registered_kept object past, each_kept object past) refl
left_rightly_kept past (Replace who object) = rw (registered_kept object past, final_kept object past) refl
left_rightly_kept past _ = refl
