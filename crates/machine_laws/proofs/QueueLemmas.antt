-- What lines show of the ready queues, as a list of the last `ready` lines, and the ready queues of a world are one thing:
-- the second is the first in order.
use Rattle.std.proofs.Common.{◌≡◌, ℤ, pos, negsuc, Bool, true, false, cond, ◌&&◌, ◌||◌, eqb, ltb, List, [], ◌∷◌, ◌++◌, Option, Some, None, refl, sym, ap, ◌∙◌}
use Rattle.std.specs.Prelude.{int_lt}
use Rattle.std.proofs.lemmas.Bool.{false≢true}
use Rattle.trace_text.specs.declared.events.Event.{Event}
use Rattle.trace_text.specs.declared.events.Event.TheVariants as line
use Rattle.trace_text.specs.declared.events.QueueEnd.TheVariants.{Head, Tail}
use Rattle.trace_text.specs.declared.events.QueueEnd.{QueueEnd}
use Rattle.trace_text.specs.declared.events.Who.{Who}
use Rattle.trace_text.specs.declared.events.Who.TheVariants as who
use Rattle.trace_text.specs.declared.events.Entry.{Entry}
use Rattle.trace_text.specs.Queue.{who_eq, without, placed, queue_after, int_before, is_earlier, goes_before, first_of, head_of, who_of}
use Rattle.profile_machine.specs.declared.world.tasks.Placed.{Placed}
use Rattle.profile_image.specs.Words.{same_who}
use Rattle.profile_machine.specs.Steps.{is_deadline_before, is_above, put_at_tail, put_at_head, put_at, take_out, places_after}
use Rattle.profile_machine.specs.Dispatching as dispatching
use Rattle.machine_laws.proofs.OrderLemmas.{Behind, Behind-out, Descends, Descends-head, is_above-asym, is_above-trans}

pub by_test : {P : Type 0} (b : Bool) → (b ≡ true → P) → (b ≡ false → P) → P
by_test true p q = p refl
by_test false p q = q refl

-- ---- the same tests under other names

pub who_eq-is : (a b : Who) → who_eq a b ≡ same_who a b
who_eq-is (who.Task a) (who.Task b) = refl
who_eq-is (who.Task a) who.Agent = refl
who_eq-is who.Agent (who.Task b) = refl
who_eq-is who.Agent who.Agent = refl

int_before-is : (a b : ℤ) → int_before a b ≡ int_lt a b
int_before-is (pos a) (pos b) = refl
int_before-is (pos a) (negsuc b) = refl
int_before-is (negsuc a) (pos b) = refl
int_before-is (negsuc a) (negsuc b) = refl

is_earlier-is : (a b : Option ℤ) → is_earlier a b ≡ is_deadline_before a b
is_earlier-is (Some a) (Some b) = int_before-is a b
is_earlier-is (Some a) None = refl
is_earlier-is None (Some b) = refl
is_earlier-is None None = refl

abbrev pub as_placed : Entry → Placed
as_placed e = record { who = e.who; level = e.level; deadline = e.deadline }

goes_before-is : (a b : Entry) → goes_before a b ≡ is_above (as_placed a) (as_placed b)
goes_before-is a b = ap (λ d. ltb b.level a.level || (eqb a.level b.level && d)) (is_earlier-is a.deadline b.deadline)

-- ---- the entries in order

abbrev pub lined : List Entry → List Placed
lined [] = []
lined (e ∷ queue) = put_at_head (as_placed e) (lined queue)

lined-descends : (queue : List Entry) → Descends (lined queue)
lined-descends [] = tt
lined-descends (e ∷ queue) = Descends-head (as_placed e) (lined queue) (lined-descends queue)

head-first : (x : Placed) (xs : List Placed) → Behind x xs → put_at_head x xs ≡ x ∷ xs
head-first x [] h = refl
head-first x (y ∷ ys) h = rw h.0 refl

behind-descends : (x : Placed) (xs : List Placed) → Behind x xs → Descends xs
behind-descends x [] h = tt
behind-descends x (y ∷ ys) h = h.1

-- whoever is placed at the head, and somebody who is taken out: where another stands before
out-below : (name : Who) (x y : Placed) (ys : List Placed) → is_above y x ≡ true
    → take_out name (put_at_head x ys) ≡ cond (same_who name x.who) (take_out name ys) (put_at_head x (take_out name ys)) →
    take_out name (put_at_head x (y ∷ ys)) ≡ cond (same_who name x.who) (take_out name (y ∷ ys)) (put_at_head x (take_out name (y ∷ ys)))
out-below name x y ys t e =
    by_test (same_who name x.who)
    (λ s. by_test (same_who name y.who) (λ r. rw (t, s, r) (e ∙ rw s refl)) (λ r. rw (t, s, r) (ap (λ l. y ∷ l) (e ∙ rw s refl))))
    (λ s. by_test (same_who name y.who) (λ r. rw (t, s, r) (e ∙ rw s refl)) (λ r. rw (t, s, r) (rw t (ap (λ l. y ∷ l) (e ∙ rw s refl)))))

out-first : (name : Who) (x : Placed) (xs : List Placed) → Behind x xs
    → take_out name (put_at_head x xs) ≡ cond (same_who name x.who) (take_out name xs) (put_at_head x (take_out name xs))
out-first name x xs h =
    ap (take_out name) (head-first x xs h)
    ∙ by_test (same_who name x.who) (λ s. rw s refl) (λ s. rw s (sym (head-first x (take_out name xs) (Behind-out name x xs h))))

out-head : (name : Who) (x : Placed) (xs : List Placed) → Descends xs
    → take_out name (put_at_head x xs) ≡ cond (same_who name x.who) (take_out name xs) (put_at_head x (take_out name xs))
out-head name x [] h = out-first name x [] tt
out-head name x (y ∷ ys) h =
    by_test (is_above y x)
    (λ t. out-below name x y ys t (out-head name x ys (behind-descends y ys h)))
    (λ f. out-first name x (y ∷ ys) (f, h))

lined-out : (name : Who) (queue : List Entry) → lined (without name queue) ≡ take_out name (lined queue)
lined-out name [] = refl
lined-out name (e ∷ queue) =
    by_test (same_who name e.who)
    (λ s. rw (who_eq-is name e.who, s) (lined-out name queue ∙ sym (out-head name (as_placed e) (lined queue) (lined-descends queue) ∙ rw s refl)))
    (λ s. rw (who_eq-is name e.who, s)
    (ap (put_at_head (as_placed e)) (lined-out name queue) ∙ sym (out-head name (as_placed e) (lined queue) (lined-descends queue) ∙ rw s refl)))

-- one at the head and one at the tail do not mind each other
head-tail : (x e : Placed) (ys : List Placed) → put_at_head x (put_at_tail e ys) ≡ put_at_tail e (put_at_head x ys)
head-tail x e [] = refl
head-tail x e (y ∷ ys) =
    by_test (is_above y x)
    (λ a. by_test (is_above e y)
    (λ b. by_test (is_above e x)
    (λ c. rw (a, b, c) (rw a refl))
    (λ c. absurd (false≢true (sym (is_above-trans y x e (is_above-asym y x a) c) ∙ b))))
    (λ b. rw (a, b) (rw a (ap (λ l. y ∷ l) (head-tail x e ys)))))
    (λ a. by_test (is_above e y)
    (λ b. by_test (is_above e x) (λ c. rw (a, b, c) (rw a refl)) (λ c. rw (a, b, c) refl))
    (λ b. let c : is_above e x ≡ false = is_above-trans x y e a b in rw (a, b, c) (rw a refl)))

lined-behind : (queue : List Entry) (e : Entry) → lined (queue ++ e ∷ []) ≡ put_at_tail (as_placed e) (lined queue)
lined-behind [] e = refl
lined-behind (x ∷ queue) e = ap (put_at_head (as_placed x)) (lined-behind queue e) ∙ head-tail (as_placed x) (as_placed e) (lined queue)

lined-placed : (end : QueueEnd) (e : Entry) (queue : List Entry) → lined (placed end e queue) ≡ put_at end (as_placed e) (take_out e.who (lined queue))
lined-placed Head e queue = ap (put_at_head (as_placed e)) (lined-out e.who queue)
lined-placed Tail e queue = lined-behind (without e.who queue) e ∙ ap (put_at_tail (as_placed e)) (lined-out e.who queue)

-- a line does the same to both
pub lined-after : (queue : List Entry) (event : Event) → lined (queue_after queue event) ≡ places_after event (lined queue)
lined-after queue (line.Ready name level end deadline) = lined-placed end (record { who = name; level = level; deadline = deadline }) queue
lined-after queue (line.Block name waits) = lined-out name queue
lined-after queue (line.Done task) = lined-out (who.Task task) queue
lined-after queue _ = refl

-- ---- the first of both is the same

front : List Placed → Option Placed
front [] = None
front (x ∷ xs) = Some x

front_entry : Option Entry → Option Placed
front_entry None = None
front_entry (Some e) = Some (as_placed e)

some-path : (x y : Placed) → Some x ≡ Some y → x ≡ y
some-path x y e = cc

front-put : (e : Entry) (xs : List Placed) (first : Option Entry) → front xs ≡ front_entry first
    → front (put_at_head (as_placed e) xs) ≡ Some (as_placed (first_of e first))
unfolding front front_entry
front-put e [] None h = refl
front-put e [] (Some o) h = cc
front-put e (y ∷ ys) None h = cc
front-put e (y ∷ ys) (Some o) h =
    let same : y ≡ as_placed o = some-path y (as_placed o) h in
    by_test (goes_before o e)
    (λ t. rw (ap (λ z. is_above z (as_placed e)) same ∙ sym (goes_before-is o e) ∙ t, t) h)
    (λ f. rw (ap (λ z. is_above z (as_placed e)) same ∙ sym (goes_before-is o e) ∙ f, f) refl)

lined-front : (queue : List Entry) → front (lined queue) ≡ front_entry (head_of queue)
unfolding front front_entry
lined-front [] = refl
lined-front (e ∷ queue) = front-put e (lined queue) (head_of queue) (lined-front queue)

first_who : Option Placed → Option Who
first_who None = None
first_who (Some x) = Some x.who

head-who : (xs : List Placed) → dispatching.head_of xs ≡ first_who (front xs)
unfolding front first_who
head-who [] = refl
head-who (x ∷ xs) = refl

entry-who : (first : Option Entry) → first_who (front_entry first) ≡ who_of first
unfolding front_entry first_who
entry-who None = refl
entry-who (Some e) = refl

pub lined-head : (queue : List Entry) → dispatching.head_of (lined queue) ≡ who_of (head_of queue)
lined-head queue = head-who (lined queue) ∙ ap first_who (lined-front queue) ∙ entry-who (head_of queue)
