-- The lines of an effect in order: what they say last of somebody's place.
use Rattle.std.proofs.Common.{◌≡◌, ℕ, ◌<◌, ◌≤◌, ◌&&◌, Bool, true, false, cond, ltb, List, [], ◌∷◌, ◌++◌, Option, Some, None, refl, sym, ap, subst, ◌∙◌, arith}
use Rattle.std.specs.Prelude.{unwrap_or}
use Rattle.std.proofs.lemmas.Bool.{and_left, and_parts, and_right, le-ltb, lt-ltb, ltb-false, ltb-true}
use Rattle.trace_text.specs.declared.events.Who.{Who}
use Rattle.trace_text.specs.declared.events.Who.TheVariants.{Task, Agent}
use Rattle.profile_machine.specs.declared.world.lines.Part.{Part}
use Rattle.profile_machine.specs.declared.world.lines.Part.TheVariants.{TheCall, TheFinish, Own, OfOther, ThePlacing, TheBlock}
use Rattle.profile_machine.specs.declared.world.lines.Said.{Said}
use Rattle.profile_machine.specs.Steps.{rank_of, is_numbered_before, is_part_before, put_in_order, in_order}
use Rattle.ceiling_laws.specs.Puts.{puts, place_behind, pick, last_put, with_put, place_by}

-- ---- parts are in order

numbers-trans : (a b c : ℕ) → ltb a b ≡ true → ltb b c ≡ true → ltb a c ≡ true
numbers-trans a b c p q = grind arith

numbers-behind : (a b c : ℕ) → ltb a b ≡ false → ltb b c ≡ false → ltb a c ≡ false
numbers-behind a b c p q = grind arith

numbered-trans : (a b c : Who) → is_numbered_before a b ≡ true → is_numbered_before b c ≡ true → is_numbered_before a c ≡ true
numbered-trans (Task a) (Task b) (Task c) p q = numbers-trans a.0 b.0 c.0 p q
numbered-trans (Task a) (Task b) Agent p q = refl
numbered-trans (Task a) Agent (Task c) p q = absurd cc
numbered-trans (Task a) Agent Agent p q = refl
numbered-trans Agent (Task b) c p q = absurd cc
numbered-trans Agent Agent c p q = absurd cc

numbered-behind : (a b c : Who) → is_numbered_before a b ≡ false → is_numbered_before b c ≡ false → is_numbered_before a c ≡ false
numbered-behind (Task a) (Task b) (Task c) p q = numbers-behind a.0 b.0 c.0 p q
numbered-behind (Task a) (Task b) Agent p q = absurd cc
numbered-behind (Task a) Agent c p q = absurd cc
numbered-behind Agent b (Task c) p q = refl
numbered-behind Agent b Agent p q = refl

abbrev is_other : Part → Bool
is_other (OfOther a) = true
is_other _ = false

neither : (a b : Part) → (is_other a && is_other b) ≡ false → is_part_before a b ≡ ltb (rank_of a) (rank_of b)
neither (OfOther a) (OfOther b) e = absurd cc
neither TheCall b e = refl
neither TheFinish b e = refl
neither Own b e = refl
neither ThePlacing b e = refl
neither TheBlock b e = refl
neither (OfOther a) TheCall e = refl
neither (OfOther a) TheFinish e = refl
neither (OfOther a) Own e = refl
neither (OfOther a) ThePlacing e = refl
neither (OfOther a) TheBlock e = refl

pub by_test : {P : Type 0} (b : Bool) → (b ≡ true → P) → (b ≡ false → P) → P
by_test true f g = f refl
by_test false f g = g refl

other-rank : (a : Part) → is_other a ≡ true → rank_of a ≡ 3
other-rank (OfOther a) e = refl
other-rank TheCall e = absurd cc
other-rank TheFinish e = absurd cc
other-rank Own e = absurd cc
other-rank ThePlacing e = absurd cc
other-rank TheBlock e = absurd cc

-- whose part stands before that of another has no higher rank
rank-before : (a b : Part) → is_part_before a b ≡ true → rank_of a ≤ rank_of b
rank-before a b e =
    by_test (is_other a && is_other b)
    (λ o. let both = and_parts (is_other a) (is_other b) o in omega (arith, other-rank a both.0, other-rank b both.1))
    (λ o. let h : rank_of a < rank_of b = ltb-true (rank_of a) (rank_of b) (sym (neither a b o) ∙ e) in omega (arith, h))

rank-behind : (a b : Part) → is_part_before a b ≡ false → rank_of b ≤ rank_of a
rank-behind a b e =
    by_test (is_other a && is_other b)
    (λ o. let both = and_parts (is_other a) (is_other b) o in omega (arith, other-rank a both.0, other-rank b both.1))
    (λ o. ltb-false (rank_of a) (rank_of b) (sym (neither a b o) ∙ e))

others-trans : (a b c : Part) → is_other a ≡ true → is_other c ≡ true → is_part_before a b ≡ true → is_part_before b c ≡ true → is_part_before a c ≡ true
others-trans (OfOther a) (OfOther b) (OfOther c) f g p q = numbered-trans a b c p q
others-trans (OfOther a) TheCall (OfOther c) f g p q = absurd cc
others-trans (OfOther a) TheFinish (OfOther c) f g p q = absurd cc
others-trans (OfOther a) Own (OfOther c) f g p q = absurd cc
others-trans (OfOther a) ThePlacing (OfOther c) f g p q = absurd cc
others-trans (OfOther a) TheBlock (OfOther c) f g p q = absurd cc
others-trans (OfOther a) b TheCall f g p q = absurd cc
others-trans (OfOther a) b TheFinish f g p q = absurd cc
others-trans (OfOther a) b Own f g p q = absurd cc
others-trans (OfOther a) b ThePlacing f g p q = absurd cc
others-trans (OfOther a) b TheBlock f g p q = absurd cc
others-trans TheCall b c f g p q = absurd cc
others-trans TheFinish b c f g p q = absurd cc
others-trans Own b c f g p q = absurd cc
others-trans ThePlacing b c f g p q = absurd cc
others-trans TheBlock b c f g p q = absurd cc

others-behind : (a b c : Part) → is_other a ≡ true → is_other c ≡ true → is_part_before a b ≡ false → is_part_before b c ≡ false → is_part_before a c ≡ false
others-behind (OfOther a) (OfOther b) (OfOther c) f g p q = numbered-behind a b c p q
others-behind (OfOther a) TheCall (OfOther c) f g p q = absurd cc
others-behind (OfOther a) TheFinish (OfOther c) f g p q = absurd cc
others-behind (OfOther a) Own (OfOther c) f g p q = absurd cc
others-behind (OfOther a) ThePlacing (OfOther c) f g p q = absurd cc
others-behind (OfOther a) TheBlock (OfOther c) f g p q = absurd cc
others-behind (OfOther a) b TheCall f g p q = absurd cc
others-behind (OfOther a) b TheFinish f g p q = absurd cc
others-behind (OfOther a) b Own f g p q = absurd cc
others-behind (OfOther a) b ThePlacing f g p q = absurd cc
others-behind (OfOther a) b TheBlock f g p q = absurd cc
others-behind TheCall b c f g p q = absurd cc
others-behind TheFinish b c f g p q = absurd cc
others-behind Own b c f g p q = absurd cc
others-behind ThePlacing b c f g p q = absurd cc
others-behind TheBlock b c f g p q = absurd cc

pub before-trans : (a b c : Part) → is_part_before a b ≡ true → is_part_before b c ≡ true → is_part_before a c ≡ true
before-trans a b c p q =
    by_test (is_other a)
    (λ f. by_test (is_other c) (λ g. others-trans a b c f g p q)
    (λ g. neither a c (and_right (is_other a) (is_other c) g) ∙ lt-ltb (rank_of a) (rank_of c)
    (let h : rank_of b < rank_of c = ltb-true (rank_of b) (rank_of c) (sym (neither b c (and_right (is_other b) (is_other c) g)) ∙ q) in
    omega (arith, h, rank-before a b p))))
    (λ f. neither a c (and_left (is_other a) (is_other c) f) ∙ lt-ltb (rank_of a) (rank_of c)
    (let h : rank_of a < rank_of b = ltb-true (rank_of a) (rank_of b) (sym (neither a b (and_left (is_other a) (is_other b) f)) ∙ p) in
    omega (arith, h, rank-before b c q)))

pub behind-trans : (a b c : Part) → is_part_before a b ≡ false → is_part_before b c ≡ false → is_part_before a c ≡ false
behind-trans a b c p q =
    by_test (is_other a && is_other c)
    (λ o. let both = and_parts (is_other a) (is_other c) o in others-behind a b c both.0 both.1 p q)
    (λ o. neither a c o ∙ le-ltb (rank_of a) (rank_of c) (omega (arith, rank-behind a b p, rank-behind b c q)))

irreflexive_number : (a : ℕ) → ltb a a ≡ false
irreflexive_number a = grind arith

irreflexive : (a : Part) → is_part_before a a ≡ false
irreflexive (OfOther (Task a)) = irreflexive_number a.0
irreflexive (OfOther Agent) = refl
irreflexive TheCall = refl
irreflexive TheFinish = refl
irreflexive Own = refl
irreflexive ThePlacing = refl
irreflexive TheBlock = refl

-- ---- one line more

pub by_both : {P : Type 0} (b c : Bool) → (b ≡ true → c ≡ true → P) → (b ≡ true → c ≡ false → P) → (b ≡ false → c ≡ true → P) → (b ≡ false → c ≡ false → P) → P
by_both true true f g h k = f refl refl
by_both true false f g h k = g refl refl
by_both false true f g h k = h refl refl
by_both false false f g h k = k refl refl

pick-none : (part : Part) (place : Option (Option ℕ)) → pick part place None ≡ with_put None part place
pick-none part None = refl
pick-none part (Some place) = refl

pick-with : (a x r : Part) (p q s : Option ℕ) → pick a (Some p) (with_put (Some (r, s)) x (Some q)) ≡ with_put (pick a (Some p) (Some (r, s))) x (Some q)
pick-with a x r p q s =
    by_both (is_part_before x r) (is_part_before r a)
    (λ f g. rw (f, g) (sym (ap (λ t. cond t (Some (a, p)) (Some (x, q))) (before-trans x r a f g))))
    (λ f g. rw (f, g) (sym (ap (λ t. cond t (Some (r, s)) (Some (x, q))) f)))
    (λ f g. rw (f, g) refl)
    (λ f g. rw (f, g) (ap (λ t. cond t (Some (a, p)) (Some (x, q))) (behind-trans x r a f g) ∙ sym (ap (λ t. cond t (Some (r, s)) (Some (x, q))) f)))

pick-append : (a x : Part) (place next : Option (Option ℕ)) (last : Option (Part × Option ℕ))
    → pick a place (with_put last x next) ≡ with_put (pick a place last) x next
pick-append a x None next last = refl
pick-append a x (Some p) None last = refl
pick-append a x (Some p) (Some q) None = refl
pick-append a x (Some p) (Some q) (Some last) = pick-with a x last.0 p q last.1

pub last_put-append : (n : Who) (xs : List Said) (x : Said) → last_put n (xs ++ x ∷ []) ≡ with_put (last_put n xs) x.part (puts n x.line)
last_put-append n [] x = pick-none x.part (puts n x.line)
last_put-append n (a ∷ xs) x =
    ap (pick a.part (puts n a.line)) (last_put-append n xs x) ∙ pick-append a.part x.part (puts n a.line) (puts n x.line) (last_put n xs)

-- ---- lines in order

abbrev pub AllParts : (Part → Type 0) → List Said → Type 0
AllParts P [] = Unit {0}
AllParts P (x ∷ xs) = P x.part × AllParts P xs

abbrev pub Sorted : List Said → Type 0
Sorted [] = Unit {0}
Sorted (x ∷ xs) = AllParts (λ part. is_part_before part x.part ≡ false) xs × Sorted xs

pub all-more : (P Q : Part → Type 0) (xs : List Said) → ((part : Part) → P part → Q part) → AllParts P xs → AllParts Q xs
all-more P Q [] f a = tt
all-more P Q (x ∷ xs) f a = (f x.part a.0, all-more P Q xs f a.1)

all-test : (P : Part → Type 0) (x y : Said) (xs ys : List Said) (b : Bool) → AllParts P (x ∷ y ∷ xs) → AllParts P (y ∷ ys)
    → AllParts P (cond b (y ∷ ys) (x ∷ y ∷ xs))
all-test P x y xs ys true a c = c
all-test P x y xs ys false a c = a

all-put : (P : Part → Type 0) (x : Said) (ys : List Said) → P x.part → AllParts P ys → AllParts P (put_in_order x ys)
all-put P x [] a all = (a, tt)
all-put P x (y ∷ ys) a all = all-test P x y ys (put_in_order x ys) (is_part_before y.part x.part) (a, all) (all.0, all-put P x ys a all.1)

asym : (a b : Part) → is_part_before a b ≡ true → is_part_before b a ≡ false
asym a b e = by_test (is_part_before b a) (λ f. absurd (let never : false ≡ true = sym (irreflexive a) ∙ before-trans a b a e f in cc)) (λ f. f)

below-test : (x y : Said) (ys : List Said) (b : Bool) → is_part_before y.part x.part ≡ b → AllParts (λ part. is_part_before part y.part ≡ false) ys → Sorted ys
    → Sorted (put_in_order x ys) → Sorted (cond b (y ∷ put_in_order x ys) (x ∷ y ∷ ys))
below-test x y ys true is all h k = (all-put (λ part. is_part_before part y.part ≡ false) x ys (asym y.part x.part is) all, k)
below-test x y ys false is all h k = (
  (
    is,
    all-more (λ part. is_part_before part y.part ≡ false) (λ part. is_part_before part x.part ≡ false) ys
        (λ part e. behind-trans part y.part x.part e is) all,
  ),
  (all, h),
)

put-sorted : (x : Said) (ys : List Said) → Sorted ys → Sorted (put_in_order x ys)
put-sorted x [] h = (tt, tt)
put-sorted x (y ∷ ys) h = below-test x y ys (is_part_before y.part x.part) refl h.0 h.1 (put-sorted x ys h.1)

pub sorted : (xs : List Said) → Sorted (in_order xs)
sorted [] = tt
sorted (x ∷ xs) = put-sorted x (in_order xs) (sorted xs)

-- ---- what is said last

abbrev put_at_part : Part → Option (Option ℕ) → Option (Part × Option ℕ)
put_at_part part None = None
put_at_part part (Some place) = Some (part, place)

abbrev behind : Option (Part × Option ℕ) → Option (Part × Option ℕ) → Option (Part × Option ℕ)
behind None first = first
behind (Some last) first = Some last

abbrev last_of : Who → List Said → Option (Part × Option ℕ)
last_of n [] = None
last_of n (y ∷ ys) = behind (last_of n ys) (put_at_part y.part (puts n y.line))

by_last : (part : Part) (place : Option (Option ℕ)) (last : Option (Part × Option ℕ)) (e : Option ℕ)
    → place_by last (unwrap_or place e) ≡ place_by (behind last (put_at_part part place)) e
by_last part None None e = refl
by_last part (Some place) None e = refl
by_last part place (Some last) e = refl

place-last : (n : Who) (e : Option ℕ) (ys : List Said) → place_behind n e ys ≡ place_by (last_of n ys) e
place-last n e [] = refl
place-last n e (y ∷ ys) = place-last n (unwrap_or (puts n y.line) e) ys ∙ by_last y.part (puts n y.line) (last_of n ys) e

last-part-step : (P : Part → Type 0) (part : Part) (place : Option (Option ℕ)) (last : Option (Part × Option ℕ)) (r : Part × Option ℕ) → P part
    → (last ≡ Some r → P r.0) → behind last (put_at_part part place) ≡ Some r → P r.0
last-part-step P part None None r a onward e = absurd cc
last-part-step P part (Some place) None r a onward e = let one : (part, place) ≡ r = cc in subst (λ (q : Part × Option ℕ). P q.0) one a
last-part-step P part place (Some last) r a onward e = onward e

last-part : (P : Part → Type 0) (n : Who) (ys : List Said) (r : Part × Option ℕ) → AllParts P ys → last_of n ys ≡ Some r → P r.0
last-part P n [] r all e = absurd cc
last-part P n (y ∷ ys) r all e = last-part-step P y.part (puts n y.line) (last_of n ys) r all.0 (last-part P n ys r all.1) e

picked : (b : Bool) (x : Part) (p : Option ℕ) (last : Part × Option ℕ) (first : Option (Part × Option ℕ))
    → behind (cond b (Some (x, p)) (Some last)) first ≡ cond b (Some (x, p)) (Some last)
picked true x p last first = refl
picked false x p last first = refl

pick-alone : (x : Part) (p : Option (Option ℕ)) → pick x p None ≡ put_at_part x p
pick-alone x None = refl
pick-alone x (Some p) = refl

passed : (x y : Part) (p q : Option (Option ℕ)) (last : Option (Part × Option ℕ)) → is_part_before y x ≡ true
    → behind (pick x p last) (put_at_part y q) ≡ pick x p (behind last (put_at_part y q))
passed x y None q last is = refl
passed x y (Some p) None None is = refl
passed x y (Some p) (Some q) None is = sym (ap (λ t. cond t (Some (x, p)) (Some (y, q))) is)
passed x y (Some p) q (Some last) is = picked (is_part_before last.0 x) x p last (put_at_part y q)

stopped : (x : Part) (p : Option (Option ℕ)) (last : Option (Part × Option ℕ)) → ((r : Part × Option ℕ) → last ≡ Some r → is_part_before r.0 x ≡ false)
    → behind last (put_at_part x p) ≡ pick x p last
stopped x None None f = refl
stopped x (Some p) None f = refl
stopped x None (Some last) f = refl
stopped x (Some p) (Some last) f = sym (ap (λ t. cond t (Some (x, p)) (Some last)) (f last refl))

last-test : (n : Who) (x y : Said) (ys : List Said) (b : Bool) → is_part_before y.part x.part ≡ b → Sorted (y ∷ ys)
    → last_of n (put_in_order x ys) ≡ pick x.part (puts n x.line) (last_of n ys)
    → last_of n (cond b (y ∷ put_in_order x ys) (x ∷ y ∷ ys)) ≡ pick x.part (puts n x.line) (last_of n (y ∷ ys))
last-test n x y ys true is h onward =
    ap (λ t. behind t (put_at_part y.part (puts n y.line))) onward ∙ passed x.part y.part (puts n x.line) (puts n y.line) (last_of n ys) is
last-test n x y ys false is h onward =
    stopped x.part (puts n x.line) (last_of n (y ∷ ys)) (λ r e. last-part (λ part. is_part_before part x.part ≡ false) n (y ∷ ys) r (
      is,
      all-more (λ part. is_part_before part y.part ≡ false) (λ part. is_part_before part x.part ≡ false) ys
          (λ part k. behind-trans part y.part x.part k is) h.0,
    ) e)

last-put : (n : Who) (x : Said) (ys : List Said) → Sorted ys → last_of n (put_in_order x ys) ≡ pick x.part (puts n x.line) (last_of n ys)
last-put n x [] h = sym (pick-alone x.part (puts n x.line))
last-put n x (y ∷ ys) h = last-test n x y ys (is_part_before y.part x.part) refl h (last-put n x ys h.1)

last-in_order : (n : Who) (xs : List Said) → last_of n (in_order xs) ≡ last_put n xs
last-in_order n [] = refl
last-in_order n (x ∷ xs) = last-put n x (in_order xs) (sorted xs) ∙ ap (pick x.part (puts n x.line)) (last-in_order n xs)

-- the place behind the lines of an effect is what they say last
pub place-in_order : (n : Who) (e : Option ℕ) (xs : List Said) → place_behind n e (in_order xs) ≡ place_by (last_put n xs) e
place-in_order n e xs = place-last n e (in_order xs) ∙ ap (λ t. place_by t e) (last-in_order n xs)
