-- What the law of leaving says of lines, and what it says of those of regions and controlled objects alone: the same.
use Rattle.std.proofs.Common.{◌≡◌, ℕ, Bool, true, cond, not, eqb, ◌&&◌, ◌||◌, List, [], ◌∷◌, ◌++◌, Option, Some, None, length, refl, ap, ◌∙◌}
use Rattle.std.specs.List.{list_all}
use Rattle.trace_text.specs.declared.events.Event.{Event}
use Rattle.trace_text.specs.declared.events.Event.TheVariants as line
use Rattle.trace_text.specs.Laws.{has, is_front_of, is_left_before, is_leaving, inits_of, regions_of}
use Rattle.trace_text.specs.Laws.{finals_among, is_final_before, is_next_final, is_rightly_left}
use Rattle.line_laws.proofs.Leaving.RegionLines.{Told, begun, ended, added, finalized, assigned, leaving}
use Rattle.line_laws.proofs.Leaving.RegionLines.{left, inits, regions, finals, final, is_next, comes_rightly}

abbrev pub told_event : Event → Option Told
told_event (line.Leave name region how) = Some (begun region.0)
told_event (line.Left name region) = Some (ended region.0)
told_event (line.Init name object region declared) = Some (added object region.0)
told_event (line.Final name object) = Some (finalized object)
told_event (line.Replace name object) = Some (assigned object)
told_event _ = None

abbrev pub behind : Option Told → List Told → List Told
behind None s = s
behind (Some e) s = e ∷ s

abbrev pub tells : List Event → List Told
tells [] = []
tells (x ∷ past) = behind (told_event x) (tells past)

pub tells-leaving : (r : ℕ) (past : List Event) → is_leaving r past ≡ leaving r (tells past)
tells-leaving r [] = refl
tells-leaving r (line.Leave name region how ∷ past) = ap (λ b. eqb r region.0 || b) (tells-leaving r past)
tells-leaving r (_ ∷ past) = tells-leaving r past

pub tells-left : (r : ℕ) (past : List Event) → is_left_before r past ≡ left r (tells past)
tells-left r [] = refl
tells-left r (line.Left name region ∷ past) = ap (λ b. eqb r region.0 || b) (tells-left r past)
tells-left r (_ ∷ past) = tells-left r past

pub tells-inits : (r : ℕ) (past : List Event) → inits_of r past ≡ inits r (tells past)
tells-inits r [] = refl
tells-inits r (line.Init name object region declared ∷ past) = ap (λ xs. cond (eqb r region.0) (object ∷ xs) xs) (tells-inits r past)
tells-inits r (_ ∷ past) = tells-inits r past

pub tells-regions : (o : ℕ) (past : List Event) → regions_of o past ≡ regions o (tells past)
tells-regions o [] = refl
tells-regions o (line.Init name object region declared ∷ past) = ap (λ xs. cond (eqb o object) (region.0 ∷ xs) xs) (tells-regions o past)
tells-regions o (_ ∷ past) = tells-regions o past

pub tells-finals : (objects : List ℕ) (past : List Event) → finals_among objects past ≡ finals objects (tells past)
tells-finals objects [] = refl
tells-finals objects (line.Final name object ∷ past) = ap (λ xs. cond (has object objects) (xs ++ object ∷ []) xs) (tells-finals objects past)
tells-finals objects (_ ∷ past) = tells-finals objects past

pub tells-final : (o : ℕ) (past : List Event) → is_final_before o past ≡ final o (tells past)
tells-final o [] = refl
tells-final o (line.Final name object ∷ past) = ap (λ b. eqb o object || b) (tells-final o past)
tells-final o (_ ∷ past) = tells-final o past

-- ---- the law

pub all-same : {X : Type 0} (f g : X → Bool) (xs : List X) → ((x : X) → f x ≡ g x) → list_all f xs ≡ list_all g xs
all-same f g [] k = refl
all-same f g (x ∷ xs) k = ap (λ b. b && list_all f xs) (k x) ∙ ap (λ b. g x && b) (all-same f g xs k)

-- of the objects of a region, and of those that were finalized
objects-of : (r : ℕ) (past : List Event) → finals_among (inits_of r past) past ≡ finals (inits r (tells past)) (tells past)
objects-of r past = tells-finals (inits_of r past) past ∙ ap (λ xs. finals xs (tells past)) (tells-inits r past)

next-same : (o : ℕ) (past : List Event) (r : ℕ) → is_next_final o past r ≡ is_next o (tells past) r
next-same o past r =
    ap (λ b. b && not (is_left_before r past) && is_front_of (finals_among (inits_of r past) past ++ o ∷ []) (inits_of r past)) (tells-leaving r past)
    ∙ ap (λ b. leaving r (tells past) && not b && is_front_of (finals_among (inits_of r past) past ++ o ∷ []) (inits_of r past)) (tells-left r past)
    ∙ ap (λ xs. leaving r (tells past) && not (left r (tells past)) && is_front_of (xs ++ o ∷ []) (inits_of r past)) (objects-of r past)
    ∙ ap (λ xs. leaving r (tells past) && not (left r (tells past)) && is_front_of (finals (inits r (tells past)) (tells past) ++ o ∷ []) xs)
    (tells-inits r past)

-- a line that tells none of this may stand anywhere
abbrev pub told_rightly : List Told → Option Told → Bool
told_rightly s None = true
told_rightly s (Some e) = comes_rightly s e

pub rightly-same : (past : List Event) (x : Event) → is_rightly_left past x ≡ told_rightly (tells past) (told_event x)
rightly-same past (line.Leave name region how) = ap not (tells-leaving region.0 past)
rightly-same past (line.Left name region) =
    let r = region.0 in
    let s = tells past in
    ap (λ b. b && not (is_left_before r past) && is_front_of (inits_of r past) (finals_among (inits_of r past) past)) (tells-leaving r past)
    ∙ ap (λ b. leaving r s && not b && is_front_of (inits_of r past) (finals_among (inits_of r past) past)) (tells-left r past)
    ∙ ap (λ xs. leaving r s && not (left r s) && is_front_of (inits_of r past) xs) (objects-of r past)
    ∙ ap (λ xs. leaving r s && not (left r s) && is_front_of xs (finals (inits r s) s)) (tells-inits r past)
rightly-same past (line.Init name object region declared) =
    ap (λ b. not b && not (is_final_before object past)) (tells-leaving region.0 past)
    ∙ ap (λ b. not (leaving region.0 (tells past)) && not b) (tells-final object past)
rightly-same past (line.Final name object) =
    ap (λ rs. not (eqb (length rs) 0) && list_all (is_next_final object past) rs) (tells-regions object past)
    ∙ ap (λ b. not (eqb (length (regions object (tells past))) 0) && b)
    (all-same (is_next_final object past) (is_next object (tells past)) (regions object (tells past)) (next-same object past))
rightly-same past (line.Replace name object) =
    ap (λ rs. not (eqb (length rs) 0) && not (is_final_before object past)) (tells-regions object past)
    ∙ ap (λ b. not (eqb (length (regions object (tells past))) 0) && not b) (tells-final object past)
rightly-same past _ = refl
