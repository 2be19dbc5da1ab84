-- The order of the ready queues, and that nobody stands there twice: what placing and taking out keep.
use Rattle.std.proofs.Common.{◌≡◌, ℕ, ℤ, Bool, true, false, cond, not, eqb, ltb, ◌&&◌, ◌||◌, List, [], ◌∷◌, Option, Some, None, refl, ap, ◌∙◌, arith}
use Rattle.std.specs.List.{list_any}
use Rattle.std.proofs.lemmas.Int.{ints}
use Rattle.std.proofs.lemmas.Bool.{and_from, not-true, not_from_false}
use Rattle.trace_text.specs.declared.events.Event.{Event}
use Rattle.trace_text.specs.declared.events.Event.TheVariants as line
use Rattle.trace_text.specs.declared.events.QueueEnd.{QueueEnd}
use Rattle.trace_text.specs.declared.events.QueueEnd.TheVariants.{Head, Tail}
use Rattle.trace_text.specs.declared.events.Who.{Who}
use Rattle.trace_text.specs.declared.events.Who.TheVariants as who
use Rattle.profile_machine.specs.declared.world.tasks.Placed.{Placed}
use Rattle.profile_image.specs.Words.{same_who}
use Rattle.profile_machine.specs.Steps.{is_deadline_before, is_above, put_at_tail, put_at_head, put_at, take_out, places_after, places_after_all}
use Rattle.profile_machine.specs.WellFormed.{all_adjacent, all_differ}

pub either : {X : Type 0} (P : X → Type 0) (b : Bool) (x y : X) → (b ≡ true → P x) → (b ≡ false → P y) → P (cond b x y)
either P true x y p q = p refl
either P false x y p q = q refl

-- ---- a level and a deadline go before others

before-asym : (a b : Option ℤ) → is_deadline_before a b ≡ true → is_deadline_before b a ≡ false
before-asym (Some x) (Some y) e = grind (arith, ints)
before-asym (Some x) None e = refl
before-asym None (Some y) e = cc
before-asym None None e = refl

-- who is not before the second, and the second not before the first, is not before the first
before-trans : (a b c : Option ℤ) → is_deadline_before b a ≡ false → is_deadline_before c b ≡ false → is_deadline_before c a ≡ false
before-trans (Some x) (Some y) (Some z) e f = grind (arith, ints)
before-trans (Some x) (Some y) None e f = refl
before-trans (Some x) None (Some z) e f = cc
before-trans (Some x) None None e f = refl
before-trans None (Some y) c e f = cc
before-trans None None (Some z) e f = f
before-trans None None None e f = refl

above_by : (m n : ℕ) → Bool → Bool
above_by m n earlier = ltb n m || (eqb m n && earlier)

above_by-asym : (m n : ℕ) (e f : Bool) → (e ≡ true → f ≡ false) → above_by m n e ≡ true → above_by n m f ≡ false
unfolding above_by
above_by-asym m n true f h k = let later : f ≡ false = h refl in grind arith
above_by-asym m n false f h k = grind arith

above_by-trans : (a b c : ℕ) (e f g : Bool) → (e ≡ false → f ≡ false → g ≡ false) → above_by b a e ≡ false → above_by c b f ≡ false → above_by c a g ≡ false
unfolding above_by
above_by-trans a b c true true g h k l = grind arith
above_by-trans a b c true false g h k l = grind arith
above_by-trans a b c false true g h k l = grind arith
above_by-trans a b c false false g h k l = let none : g ≡ false = h refl refl in grind arith

pub is_above-asym : (x y : Placed) → is_above x y ≡ true → is_above y x ≡ false
unfolding above_by
is_above-asym x y e =
    above_by-asym x.level y.level (is_deadline_before x.deadline y.deadline) (is_deadline_before y.deadline x.deadline) (before-asym x.deadline y.deadline) e

pub is_above-trans : (x y z : Placed) → is_above y x ≡ false → is_above z y ≡ false → is_above z x ≡ false
unfolding above_by
is_above-trans x y z e f =
    above_by-trans x.level y.level z.level (is_deadline_before y.deadline x.deadline) (is_deadline_before z.deadline y.deadline)
    (is_deadline_before z.deadline x.deadline) (before-trans x.deadline y.deadline z.deadline) e f

-- ---- in order: none is above the one before it

abbrev pub Behind : Placed → List Placed → Type 0
Behind x [] = Unit {0}
Behind x (y ∷ rest) = (is_above y x ≡ false) × Behind y rest

abbrev pub Descends : List Placed → Type 0
Descends [] = Unit {0}
Descends (x ∷ rest) = Behind x rest

Behind-tail : (x new : Placed) (xs : List Placed) → is_above new x ≡ false → Behind x xs → Behind x (put_at_tail new xs)
Behind-tail x new [] e h = (e, tt)
Behind-tail x new (y ∷ ys) e h =
    either (Behind x) (is_above new y) (new ∷ y ∷ ys) (y ∷ put_at_tail new ys)
    (λ t. (e, (is_above-asym new y t, h.1)))
    (λ f. (h.0, Behind-tail y new ys f h.1))

Descends-tail : (new : Placed) (xs : List Placed) → Descends xs → Descends (put_at_tail new xs)
Descends-tail new [] h = tt
Descends-tail new (y ∷ ys) h =
    either Descends (is_above new y) (new ∷ y ∷ ys) (y ∷ put_at_tail new ys)
    (λ t. (is_above-asym new y t, h))
    (λ f. Behind-tail y new ys f h)

Behind-head : (x new : Placed) (xs : List Placed) → is_above new x ≡ false → Behind x xs → Behind x (put_at_head new xs)
Behind-head x new [] e h = (e, tt)
Behind-head x new (y ∷ ys) e h =
    either (Behind x) (is_above y new) (y ∷ put_at_head new ys) (new ∷ y ∷ ys)
    (λ t. (h.0, Behind-head y new ys (is_above-asym y new t) h.1))
    (λ f. (e, (f, h.1)))

pub Descends-head : (new : Placed) (xs : List Placed) → Descends xs → Descends (put_at_head new xs)
Descends-head new [] h = tt
Descends-head new (y ∷ ys) h =
    either Descends (is_above y new) (y ∷ put_at_head new ys) (new ∷ y ∷ ys)
    (λ t. Behind-head y new ys (is_above-asym y new t) h)
    (λ f. (f, h))

Behind-farther : (x y : Placed) (xs : List Placed) → is_above y x ≡ false → Behind y xs → Behind x xs
Behind-farther x y [] e h = tt
Behind-farther x y (z ∷ zs) e h = (is_above-trans x y z e h.0, h.1)

pub Behind-out : (name : Who) (x : Placed) (xs : List Placed) → Behind x xs → Behind x (take_out name xs)
Behind-out name x [] h = tt
Behind-out name x (y ∷ ys) h =
    either (Behind x) (not (same_who name y.who)) (y ∷ take_out name ys) (take_out name ys)
    (λ _. (h.0, Behind-out name y ys h.1))
    (λ _. Behind-farther x y (take_out name ys) h.0 (Behind-out name y ys h.1))

Behind-descends : (x : Placed) (xs : List Placed) → Behind x xs → Descends xs
Behind-descends x [] h = tt
Behind-descends x (y ∷ ys) h = h.1

Descends-out : (name : Who) (xs : List Placed) → Descends xs → Descends (take_out name xs)
Descends-out name [] h = tt
Descends-out name (x ∷ xs) h =
    either Descends (not (same_who name x.who)) (x ∷ take_out name xs) (take_out name xs)
    (λ _. Behind-out name x xs h)
    (λ _. Behind-descends x (take_out name xs) (Behind-out name x xs h))

Descends-put : (end : QueueEnd) (new : Placed) (xs : List Placed) → Descends xs → Descends (put_at end new xs)
Descends-put Tail new xs h = Descends-tail new xs h
Descends-put Head new xs h = Descends-head new xs h

pub Descends-after : (event : Event) (places : List Placed) → Descends places → Descends (places_after event places)
Descends-after (line.Ready name level end deadline) places h =
    Descends-put end (record { who = name; level = level; deadline = deadline }) (take_out name places) (Descends-out name places h)
Descends-after (line.Block name waits) places h = Descends-out name places h
Descends-after (line.Done task) places h = Descends-out (who.Task task) places h
Descends-after _ places h = h

pub Descends-after_all : (lines : List Event) (places : List Placed) → Descends places → Descends (places_after_all lines places)
Descends-after_all [] places h = h
Descends-after_all (x ∷ xs) places h = Descends-after_all xs (places_after x places) (Descends-after x places h)

pub Descends-adjacent : (xs : List Placed) → Descends xs → all_adjacent (λ x y. not (is_above y x)) xs ≡ true
Descends-adjacent [] h = refl
Descends-adjacent (x ∷ []) h = refl
Descends-adjacent (x ∷ y ∷ rest) h =
    and_from (not (is_above y x)) (all_adjacent (λ a b. not (is_above b a)) (y ∷ rest)) (not_from_false (is_above y x) h.0) (Descends-adjacent (y ∷ rest) h.1)

-- ---- nobody twice

same_who-sym : (a b : Who) → same_who a b ≡ same_who b a
same_who-sym (who.Task a) (who.Task b) = grind arith
same_who-sym (who.Task a) who.Agent = refl
same_who-sym who.Agent (who.Task b) = refl
same_who-sym who.Agent who.Agent = refl

abbrev pub Absent : Who → List Placed → Type 0
Absent name [] = Unit {0}
Absent name (x ∷ xs) = (same_who name x.who ≡ false) × Absent name xs

abbrev pub Differ : List Placed → Type 0
Differ [] = Unit {0}
Differ (x ∷ xs) = Absent x.who xs × Differ xs

Absent-out : (name : Who) (xs : List Placed) → Absent name (take_out name xs)
Absent-out name [] = tt
Absent-out name (x ∷ xs) =
    either (Absent name) (not (same_who name x.who)) (x ∷ take_out name xs) (take_out name xs)
    (λ t. (not-true (same_who name x.who) t, Absent-out name xs))
    (λ _. Absent-out name xs)

Absent-still : (other name : Who) (xs : List Placed) → Absent name xs → Absent name (take_out other xs)
Absent-still other name [] h = tt
Absent-still other name (x ∷ xs) h =
    either (Absent name) (not (same_who other x.who)) (x ∷ take_out other xs) (take_out other xs)
    (λ _. (h.0, Absent-still other name xs h.1))
    (λ _. Absent-still other name xs h.1)

Differ-out : (name : Who) (xs : List Placed) → Differ xs → Differ (take_out name xs)
Differ-out name [] h = tt
Differ-out name (x ∷ xs) h =
    either Differ (not (same_who name x.who)) (x ∷ take_out name xs) (take_out name xs)
    (λ _. (Absent-still name x.who xs h.0, Differ-out name xs h.1))
    (λ _. Differ-out name xs h.1)

Absent-tail : (name : Who) (new : Placed) (xs : List Placed) → same_who name new.who ≡ false → Absent name xs → Absent name (put_at_tail new xs)
Absent-tail name new [] e h = (e, tt)
Absent-tail name new (y ∷ ys) e h =
    either (Absent name) (is_above new y) (new ∷ y ∷ ys) (y ∷ put_at_tail new ys) (λ _. (e, h)) (λ _. (h.0, Absent-tail name new ys e h.1))

Absent-head : (name : Who) (new : Placed) (xs : List Placed) → same_who name new.who ≡ false → Absent name xs → Absent name (put_at_head new xs)
Absent-head name new [] e h = (e, tt)
Absent-head name new (y ∷ ys) e h =
    either (Absent name) (is_above y new) (y ∷ put_at_head new ys) (new ∷ y ∷ ys) (λ _. (h.0, Absent-head name new ys e h.1)) (λ _. (e, h))

Differ-tail : (new : Placed) (xs : List Placed) → Absent new.who xs → Differ xs → Differ (put_at_tail new xs)
Differ-tail new [] a h = (tt, tt)
Differ-tail new (y ∷ ys) a h =
    either Differ (is_above new y) (new ∷ y ∷ ys) (y ∷ put_at_tail new ys)
    (λ _. (a, h))
    (λ _. (Absent-tail y.who new ys (same_who-sym y.who new.who ∙ a.0) h.0, Differ-tail new ys a.1 h.1))

Differ-head : (new : Placed) (xs : List Placed) → Absent new.who xs → Differ xs → Differ (put_at_head new xs)
Differ-head new [] a h = (tt, tt)
Differ-head new (y ∷ ys) a h =
    either Differ (is_above y new) (y ∷ put_at_head new ys) (new ∷ y ∷ ys)
    (λ _. (Absent-head y.who new ys (same_who-sym y.who new.who ∙ a.0) h.0, Differ-head new ys a.1 h.1))
    (λ _. (a, h))

Differ-put : (end : QueueEnd) (new : Placed) (xs : List Placed) → Absent new.who xs → Differ xs → Differ (put_at end new xs)
Differ-put Tail new xs a h = Differ-tail new xs a h
Differ-put Head new xs a h = Differ-head new xs a h

Differ-after : (event : Event) (places : List Placed) → Differ places → Differ (places_after event places)
Differ-after (line.Ready name level end deadline) places h =
    Differ-put end (record { who = name; level = level; deadline = deadline }) (take_out name places) (Absent-out name places) (Differ-out name places h)
Differ-after (line.Block name waits) places h = Differ-out name places h
Differ-after (line.Done task) places h = Differ-out (who.Task task) places h
Differ-after _ places h = h

pub Differ-after_all : (lines : List Event) (places : List Placed) → Differ places → Differ (places_after_all lines places)
Differ-after_all [] places h = h
Differ-after_all (x ∷ xs) places h = Differ-after_all xs (places_after x places) (Differ-after x places h)

absent-any : (x : Placed) (xs : List Placed) → Absent x.who xs → list_any (λ y. same_who x.who y.who) xs ≡ false
absent-any x [] h = refl
absent-any x (y ∷ ys) h = ap (λ b. b || list_any (λ z. same_who x.who z.who) ys) h.0 ∙ absent-any x ys h.1

pub Differ-all : (xs : List Placed) → Differ xs → all_differ (λ x y. same_who x.who y.who) xs ≡ true
Differ-all [] h = refl
Differ-all (x ∷ xs) h =
    and_from (not (list_any (λ y. same_who x.who y.who) xs)) (all_differ (λ a b. same_who a.who b.who) xs)
    (not_from_false (list_any (λ y. same_who x.who y.who) xs) (absent-any x xs h.0)) (Differ-all xs h.1)
