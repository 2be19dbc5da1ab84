-- The lines of an effect in order: what they say last of somebody's place.
use Rattle.std.proofs.Common.{◌≡◌, Bool, true, false, cond, List, [], ◌∷◌, ◌++◌, Option, Some, None, refl, sym, ap, subst, ◌∙◌}
use Rattle.trace_text.specs.declared.events.Who.{Who}
use Rattle.profile_machine.specs.declared.world.lines.Part.{Part}
use Rattle.profile_machine.specs.declared.world.lines.Said.{Said}
use Rattle.profile_machine.specs.Steps.{is_part_before, put_in_order, in_order}
use Rattle.world_laws.proofs.Places.Puts.{Spot, puts, over, place_behind, pick, last_put, with_put, place_by}
use Rattle.ceiling_laws.proofs.Places.PartOrder.{AllParts, Sorted, all-more, before-trans, behind-trans, by_both, sorted}

-- ---- one line more

pick-none : (part : Part) (place : Option (Option Spot)) → pick part place None ≡ with_put None part place
pick-none part None = refl
pick-none part (Some place) = refl

pick-with : (a x r : Part) (p q s : Option Spot) → pick a (Some p) (with_put (Some (r, s)) x (Some q)) ≡ with_put (pick a (Some p) (Some (r, s))) x (Some q)
pick-with a x r p q s =
    by_both (is_part_before x r) (is_part_before r a)
    (λ f g. rw (f, g) (sym (ap (λ t. cond t (Some (a, p)) (Some (x, q))) (before-trans x r a f g))))
    (λ f g. rw (f, g) (sym (ap (λ t. cond t (Some (r, s)) (Some (x, q))) f)))
    (λ f g. rw (f, g) refl)
    (λ f g. rw (f, g) (ap (λ t. cond t (Some (a, p)) (Some (x, q))) (behind-trans x r a f g) ∙ sym (ap (λ t. cond t (Some (r, s)) (Some (x, q))) f)))

pick-append : (a x : Part) (place next : Option (Option Spot)) (last : Option (Part × Option Spot))
    → pick a place (with_put last x next) ≡ with_put (pick a place last) x next
pick-append a x None next last = refl
pick-append a x (Some p) None last = refl
pick-append a x (Some p) (Some q) None = refl
pick-append a x (Some p) (Some q) (Some last) = pick-with a x last.0 p q last.1

pub last_put-append : (n : Who) (xs : List Said) (x : Said) → last_put n (xs ++ x ∷ []) ≡ with_put (last_put n xs) x.part (puts n x.line)
last_put-append n [] x = pick-none x.part (puts n x.line)
last_put-append n (a ∷ xs) x =
    ap (pick a.part (puts n a.line)) (last_put-append n xs x) ∙ pick-append a.part x.part (puts n a.line) (puts n x.line) (last_put n xs)

-- ---- what is said last

abbrev put_at_part : Part → Option (Option Spot) → Option (Part × Option Spot)
put_at_part part None = None
put_at_part part (Some place) = Some (part, place)

abbrev behind : Option (Part × Option Spot) → Option (Part × Option Spot) → Option (Part × Option Spot)
behind None first = first
behind (Some last) first = Some last

abbrev last_of : Who → List Said → Option (Part × Option Spot)
last_of n [] = None
last_of n (y ∷ ys) = behind (last_of n ys) (put_at_part y.part (puts n y.line))

by_last : (part : Part) (place : Option (Option Spot)) (last : Option (Part × Option Spot)) (e : Option Spot)
    → place_by last (over place e) ≡ place_by (behind last (put_at_part part place)) e
by_last part None None e = refl
by_last part (Some place) None e = refl
by_last part place (Some last) e = refl

place-last : (n : Who) (e : Option Spot) (ys : List Said) → place_behind n e ys ≡ place_by (last_of n ys) e
place-last n e [] = refl
place-last n e (y ∷ ys) = place-last n (over (puts n y.line) e) ys ∙ by_last y.part (puts n y.line) (last_of n ys) e

last-part-step : (P : Part → Type 0) (part : Part) (place : Option (Option Spot)) (last : Option (Part × Option Spot)) (r : Part × Option Spot) → P part
    → (last ≡ Some r → P r.0) → behind last (put_at_part part place) ≡ Some r → P r.0
last-part-step P part None None r a onward e = absurd cc
last-part-step P part (Some place) None r a onward e = let one : (part, place) ≡ r = cc in subst (λ (q : Part × Option Spot). P q.0) one a
last-part-step P part place (Some last) r a onward e = onward e

last-part : (P : Part → Type 0) (n : Who) (ys : List Said) (r : Part × Option Spot) → AllParts P ys → last_of n ys ≡ Some r → P r.0
last-part P n [] r all e = absurd cc
last-part P n (y ∷ ys) r all e = last-part-step P y.part (puts n y.line) (last_of n ys) r all.0 (last-part P n ys r all.1) e

picked : (b : Bool) (x : Part) (p : Option Spot) (last : Part × Option Spot) (first : Option (Part × Option Spot))
    → behind (cond b (Some (x, p)) (Some last)) first ≡ cond b (Some (x, p)) (Some last)
picked true x p last first = refl
picked false x p last first = refl

pick-alone : (x : Part) (p : Option (Option Spot)) → pick x p None ≡ put_at_part x p
pick-alone x None = refl
pick-alone x (Some p) = refl

passed : (x y : Part) (p q : Option (Option Spot)) (last : Option (Part × Option Spot)) → is_part_before y x ≡ true
    → behind (pick x p last) (put_at_part y q) ≡ pick x p (behind last (put_at_part y q))
passed x y None q last is = refl
passed x y (Some p) None None is = refl
passed x y (Some p) (Some q) None is = sym (ap (λ t. cond t (Some (x, p)) (Some (y, q))) is)
passed x y (Some p) q (Some last) is = picked (is_part_before last.0 x) x p last (put_at_part y q)

stopped : (x : Part) (p : Option (Option Spot)) (last : Option (Part × Option Spot)) → ((r : Part × Option Spot) → last ≡ Some r → is_part_before r.0 x ≡ false)
    → behind last (put_at_part x p) ≡ pick x p last
stopped x None None f = refl
stopped x (Some p) None f = refl
stopped x None (Some last) f = refl
stopped x (Some p) (Some last) f = sym (ap (λ t. cond t (Some (x, p)) (Some last)) (f last refl))

last-test : (n : Who) (x y : Said) (ys : List Said) (b : Bool) → is_part_before y.part x.part ≡ b → Sorted (y ∷ ys)
    → last_of n (put_in_order x ys) ≡ pick x.part (puts n x.line) (last_of n ys)
    → last_of n (cond b (y ∷ put_in_order x ys) (x ∷ y ∷ ys)) ≡ pick x.part (puts n x.line) (last_of n (y ∷ ys))
last-test n x y ys true is h onward =
    ap (λ t. behind t (put_at_part y.part (puts n y.line))) onward ∙ passed x.part y.part (puts n x.line) (puts n y.line) (last_of n ys) is
last-test n x y ys false is h onward =
    stopped x.part (puts n x.line) (last_of n (y ∷ ys)) (λ r e. last-part (λ part. is_part_before part x.part ≡ false) n (y ∷ ys) r (
      is,
      all-more (λ part. is_part_before part y.part ≡ false) (λ part. is_part_before part x.part ≡ false) ys
          (λ part k. behind-trans part y.part x.part k is) h.0,
    ) e)

last-put : (n : Who) (x : Said) (ys : List Said) → Sorted ys → last_of n (put_in_order x ys) ≡ pick x.part (puts n x.line) (last_of n ys)
last-put n x [] h = sym (pick-alone x.part (puts n x.line))
last-put n x (y ∷ ys) h = last-test n x y ys (is_part_before y.part x.part) refl h (last-put n x ys h.1)

last-in_order : (n : Who) (xs : List Said) → last_of n (in_order xs) ≡ last_put n xs
last-in_order n [] = refl
last-in_order n (x ∷ xs) = last-put n x (in_order xs) (sorted xs) ∙ ap (pick x.part (puts n x.line)) (last-in_order n xs)

-- the place behind the lines of an effect is what they say last
pub place-in_order : (n : Who) (e : Option Spot) (xs : List Said) → place_behind n e (in_order xs) ≡ place_by (last_put n xs) e
place-in_order n e xs = place-last n e (in_order xs) ∙ ap (λ t. place_by t e) (last-in_order n xs)
