-- The actions that lines show on an object, and those that the world has.
use Rattle.std.proofs.Common.{◌≡◌, ℕ, Bool, true, false, cond, not, eqb, ◌&&◌, ◌||◌, List, [], ◌∷◌, refl, sym, ap, subst, ◌∙◌, eq-eqb}
use Rattle.std.specs.Prelude.{filter}
use Rattle.std.specs.List.{list_all, list_any}
use Rattle.std.proofs.lemmas.Bool.{and_from, and_parts, eqb-true, not-false, not-true}
use Rattle.trace_text.specs.declared.events.Action as shown
use Rattle.trace_text.specs.declared.events.Mode.{Mode}
use Rattle.trace_text.specs.declared.events.Mode.TheVariants.{Read, Write}
use Rattle.trace_text.specs.declared.events.Who.{Who}
use Rattle.trace_text.specs.declared.events.Who.TheVariants as who
use Rattle.trace_text.specs.Queue.{who_eq}
use Rattle.trace_text.specs.Laws.{is_write, closed, is_beside}
use Rattle.profile_machine.specs.declared.world.objects.Action.{Action}
use Rattle.profile_image.specs.Words.{same_who, without}
use Rattle.ann_base.specs.Lists.{is_empty}
use Rattle.profile_machine.specs.Protected.{is_action_of, has_open, is_read, excludes}
use Rattle.machine_laws.proofs.QueueLemmas.{who_eq-is}

-- ---- tests

or-on : (x p q : Bool) → (x || p) ≡ true → (p ≡ true → q ≡ true) → (x || q) ≡ true
or-on true p q e k = refl
or-on false p q e k = k e

-- ---- who it is

pub who_eq-self : (a : Who) → who_eq a a ≡ true
who_eq-self (who.Task a) = eq-eqb a.0 a.0 refl
who_eq-self who.Agent = refl

same_who-path : (a b : Who) → same_who a b ≡ true → a ≡ b
same_who-path (who.Task a) (who.Task b) e = ap (λ (n : ℕ). who.Task (record { 0 = n })) (eqb-true a.0 b.0 e)
same_who-path (who.Task a) who.Agent e = cc
same_who-path who.Agent (who.Task b) e = cc
same_who-path who.Agent who.Agent e = refl

-- ---- the actions on one object

abbrev stripped : shown.Action → Action
stripped a = record { who = a.who; mode = a.mode }

abbrev pub on : ℕ → List shown.Action → List Action
on n [] = []
on n (a ∷ actions) = cond (eqb n a.object) (stripped a ∷ on n actions) (on n actions)

-- nobody has two
abbrev pub Once : List Action → Type 0
Once [] = Unit {0}
Once (a ∷ actions) = (has_open a.who actions ≡ false) × Once actions

-- ---- one is closed

closed-step : (n o object : ℕ) (a : shown.Action) (actions left : List shown.Action) (b : Bool) → eqb n o ≡ false → a.object ≡ object → (b ≡ true → o ≡ object)
    → on n left ≡ on n actions → on n (cond b actions (a ∷ left)) ≡ on n (a ∷ actions)
closed-step n o object a actions left true e is k h =
    let other : eqb n a.object ≡ false = subst (λ m. eqb n m ≡ false) (k refl ∙ sym is) e in
    sym (ap (λ t. cond t (stripped a ∷ on n actions) (on n actions)) other)
closed-step n o object a actions left false e is k h = ap (λ rest. cond (eqb n a.object) (stripped a ∷ rest) rest) h

pub closed-other : (n o : ℕ) (name : Who) (s : List shown.Action) → eqb n o ≡ false → on n (closed o name s) ≡ on n s
closed-other n o name [] e = refl
closed-other n o name (a ∷ actions) e =
    closed-step n o a.object a actions (closed o name actions) (eqb o a.object && who_eq name a.who) e refl
    (λ t. eqb-true o a.object ((and_parts (eqb o a.object) (who_eq name a.who) t).0)) (closed-other n o name actions e)

abbrev first_out : Who → List Action → List Action
first_out name [] = []
first_out name (a ∷ actions) = cond (same_who name a.who) actions (a ∷ first_out name actions)

out-step : (o : ℕ) (name : Who) (a : shown.Action) (actions left : List shown.Action) (b c : Bool) → eqb o a.object ≡ b → same_who name a.who ≡ c
    → on o left ≡ first_out name (on o actions)
    → on o (cond (b && c) actions (a ∷ left)) ≡ first_out name (cond b (stripped a ∷ on o actions) (on o actions))
out-step o name a actions left true true e f h = sym (ap (λ t. cond t (on o actions) (stripped a ∷ first_out name (on o actions))) f)
out-step o name a actions left true false e f h =
    ap (λ t. cond t (stripped a ∷ on o left) (on o left)) e ∙ ap (λ rest. stripped a ∷ rest) h
    ∙ sym (ap (λ t. cond t (on o actions) (stripped a ∷ first_out name (on o actions))) f)
out-step o name a actions left false c e f h = ap (λ t. cond t (stripped a ∷ on o left) (on o left)) e ∙ h

closed-same : (o : ℕ) (name : Who) (s : List shown.Action) → on o (closed o name s) ≡ first_out name (on o s)
closed-same o name [] = refl
closed-same o name (a ∷ actions) =
    ap (λ t. on o (cond (eqb o a.object && t) actions (a ∷ closed o name actions))) (who_eq-is name a.who)
    ∙ out-step o name a actions (closed o name actions) (eqb o a.object) (same_who name a.who) refl refl (closed-same o name actions)

-- nobody has two, so the first is the only one
none-step : (b : Bool) (a : Action) (rest found : List Action) → not (is_empty (cond b (a ∷ found) found)) ≡ false
    → (b ≡ false) × (not (is_empty found) ≡ false)
none-step true a rest found e = absurd cc
none-step false a rest found e = (refl, e)

pub none-without : (name : Who) (actions : List Action) → has_open name actions ≡ false → without (is_action_of name) actions ≡ actions
none-without name [] e = refl
none-without name (a ∷ actions) e =
    let parts = none-step (same_who name a.who) a actions (filter (is_action_of name) actions) e in
    ap (λ t. cond (not t) (a ∷ without (is_action_of name) actions) (without (is_action_of name) actions)) parts.0
    ∙ ap (λ rest. a ∷ rest) (none-without name actions parts.1)

first_out-step : (name : Who) (a : Action) (actions left : List Action) (b : Bool) → same_who name a.who ≡ b → has_open a.who actions ≡ false
    → first_out name actions ≡ left → without (is_action_of name) actions ≡ left → cond b actions (a ∷ first_out name actions) ≡ cond (not b) (a ∷ left) left
first_out-step name a actions left true e none h k =
    let is : name ≡ a.who = same_who-path name a.who e in
    sym (none-without name actions (subst (λ n. has_open n actions ≡ false) (sym is) none)) ∙ k
first_out-step name a actions left false e none h k = ap (λ rest. a ∷ rest) h

first_out-only : (name : Who) (actions : List Action) → Once actions → first_out name actions ≡ without (is_action_of name) actions
first_out-only name [] h = refl
first_out-only name (a ∷ actions) h =
    first_out-step name a actions (without (is_action_of name) actions) (same_who name a.who) refl h.0 (first_out-only name actions h.1) refl

pub closed-only : (o : ℕ) (name : Who) (s : List shown.Action) (actions : List Action) → on o s ≡ actions → Once actions
    → on o (closed o name s) ≡ without (is_action_of name) actions
closed-only o name s actions e h = closed-same o name s ∙ ap (first_out name) e ∙ first_out-only name actions h

still-none : (other : Who) (b c : Bool) (a : Action) (found left : List Action) → same_who other a.who ≡ c → not (is_empty (cond c (a ∷ found) found)) ≡ false
    → (not (is_empty found) ≡ false → not (is_empty (filter (is_action_of other) left)) ≡ false)
    → not (is_empty (filter (is_action_of other) (cond b (a ∷ left) left))) ≡ false
still-none other false c a found left is e onward = onward (none-step c a left found e).1
still-none other true c a found left is e onward =
    let parts = none-step c a left found e in
    ap (λ t. not (is_empty (cond t (a ∷ filter (is_action_of other) left) (filter (is_action_of other) left)))) (is ∙ parts.0) ∙ onward parts.1

none-left : (other name : Who) (actions : List Action) → has_open other actions ≡ false → has_open other (without (is_action_of name) actions) ≡ false
none-left other name [] e = refl
none-left other name (a ∷ actions) e =
    still-none other (not (same_who name a.who)) (same_who other a.who) a (filter (is_action_of other) actions) (without (is_action_of name) actions) refl e
    (λ k. none-left other name actions k)

once-step : (b : Bool) (a : Action) (left : List Action) → has_open a.who left ≡ false → Once left → Once (cond b (a ∷ left) left)
once-step true a left e h = (e, h)
once-step false a left e h = h

pub Once-without : (name : Who) (actions : List Action) → Once actions → Once (without (is_action_of name) actions)
Once-without name [] h = tt
Once-without name (a ∷ actions) h =
    once-step (not (same_who name a.who)) a (without (is_action_of name) actions) (none-left a.who name actions h.0) (Once-without name actions h.1)

-- the newest is closed again
pub closed-new : (o : ℕ) (name : Who) (mode : Mode) (s : List shown.Action) → closed o name (record { object = o; who = name; mode = mode } ∷ s) ≡ s
closed-new o name mode s =
    ap (λ t. cond (t && who_eq name name) s (record { object = o; who = name; mode = mode } ∷ closed o name s)) (eq-eqb o o refl)
    ∙ ap (λ t. cond t s (record { object = o; who = name; mode = mode } ∷ closed o name s)) (who_eq-self name)

-- ---- who is let in stands beside all others

abbrev reads_beside : Mode → Action → Bool
reads_beside m a = not (is_write m || is_write a.mode)

read-is : (m : Mode) → not (is_write m) ≡ is_read m
read-is Read = refl
read-is Write = refl

all-read : (actions : List Action) → list_all (λ a. is_read a.mode) actions ≡ true → list_all (reads_beside Read) actions ≡ true
all-read [] e = refl
all-read (a ∷ actions) e =
    let parts = and_parts (is_read a.mode) (list_all (λ x. is_read x.mode) actions) e in
    and_from (reads_beside Read a) (list_all (reads_beside Read) actions) (read-is a.mode ∙ parts.0) (all-read actions parts.1)

pub free-beside : (m : Mode) (actions : List Action) → excludes m actions ≡ false → list_all (reads_beside m) actions ≡ true
free-beside m [] e = refl
free-beside Write (a ∷ actions) e = absurd cc
free-beside Read (a ∷ actions) e = all-read (a ∷ actions) (not-false (list_all (λ x. is_read x.mode) (a ∷ actions)) e)

beside-step : (o : ℕ) (m : Mode) (a : shown.Action) (actions : List shown.Action) (b : Bool) → eqb o a.object ≡ b
    → (list_all (reads_beside m) (on o actions) ≡ true → list_all (is_beside o m) actions ≡ true)
    → list_all (reads_beside m) (cond b (stripped a ∷ on o actions) (on o actions)) ≡ true
    → ((not b || not (is_write m || is_write a.mode)) && list_all (is_beside o m) actions) ≡ true
beside-step o m a actions true is onward e =
    let parts = and_parts (reads_beside m (stripped a)) (list_all (reads_beside m) (on o actions)) e in
    and_from (reads_beside m (stripped a)) (list_all (is_beside o m) actions) parts.0 (onward parts.1)
beside-step o m a actions false is onward e = onward e

pub all-beside : (o : ℕ) (m : Mode) (s : List shown.Action) → list_all (reads_beside m) (on o s) ≡ true → list_all (is_beside o m) s ≡ true
all-beside o m [] e = refl
all-beside o m (a ∷ actions) e = beside-step o m a actions (eqb o a.object) refl (λ k. all-beside o m actions k) e

-- ---- who finds it held finds another that excludes it

abbrev pub excludes_one : Mode → Action → Bool
excludes_one m a = is_write m || is_write a.mode

not-all-step : (m : Mode) (x y : Bool) → (is_read m && x) ≡ false → (x ≡ false → y ≡ true) → ((is_write Read || is_write m) || y) ≡ true
not-all-step Read x y e k = k e
not-all-step Write x y e k = refl

not-all-read : (actions : List Action) → list_all (λ a. is_read a.mode) actions ≡ false → list_any (excludes_one Read) actions ≡ true
not-all-read [] e = absurd cc
not-all-read (a ∷ actions) e =
    not-all-step a.mode (list_all (λ x. is_read x.mode) actions) (list_any (excludes_one Read) actions) e (λ k. not-all-read actions k)

held-any : (m : Mode) (actions : List Action) → excludes m actions ≡ true → list_any (excludes_one m) actions ≡ true
held-any m [] e = absurd cc
held-any Write (a ∷ actions) e = refl
held-any Read (a ∷ actions) e = not-all-read (a ∷ actions) (not-true (list_all (λ x. is_read x.mode) (a ∷ actions)) e)

abbrev pub other_excludes : Who → Mode → Action → Bool
other_excludes name m a = not (who_eq name a.who) && excludes_one m a

any-step : (same eq : Bool) (m : Mode) (a : Action) (left : List Action) (y : Bool) → eq ≡ same
    → list_any (excludes_one m) (cond (not same) (a ∷ left) left) ≡ true → (list_any (excludes_one m) left ≡ true → y ≡ true)
    → ((not eq && excludes_one m a) || y) ≡ true
any-step true eq m a left y is e k = ap (λ t. (not t && excludes_one m a) || y) is ∙ k e
any-step false eq m a left y is e k = ap (λ t. (not t && excludes_one m a) || y) is ∙ or-on (excludes_one m a) (list_any (excludes_one m) left) y e k

pub other-any : (name : Who) (m : Mode) (actions : List Action) → list_any (excludes_one m) (without (is_action_of name) actions) ≡ true
    → list_any (other_excludes name m) actions ≡ true
other-any name m [] e = e
other-any name m (a ∷ actions) e =
    any-step (same_who name a.who) (who_eq name a.who) m a (without (is_action_of name) actions) (list_any (other_excludes name m) actions)
    (who_eq-is name a.who) e (λ k. other-any name m actions k)

pub held-by_other : (name : Who) (m : Mode) (actions : List Action) → excludes m (without (is_action_of name) actions) ≡ true
    → list_any (other_excludes name m) actions ≡ true
held-by_other name m actions e = other-any name m actions (held-any m (without (is_action_of name) actions) e)

abbrev pub holds_it : ℕ → Who → Mode → shown.Action → Bool
holds_it o name m a = eqb o a.object && not (who_eq name a.who) && (is_write m || is_write a.mode)

shown-step : (o : ℕ) (name : Who) (m : Mode) (a : shown.Action) (actions : List shown.Action) (b z : Bool)
    → list_any (other_excludes name m) (cond b (stripped a ∷ on o actions) (on o actions)) ≡ true
    → (list_any (other_excludes name m) (on o actions) ≡ true → z ≡ true) → ((b && not (who_eq name a.who) && (is_write m || is_write a.mode)) || z) ≡ true
shown-step o name m a actions true z e k = or-on (other_excludes name m (stripped a)) (list_any (other_excludes name m) (on o actions)) z e k
shown-step o name m a actions false z e k = k e

pub shown-any : (o : ℕ) (name : Who) (m : Mode) (s : List shown.Action) → list_any (other_excludes name m) (on o s) ≡ true
    → list_any (holds_it o name m) s ≡ true
shown-any o name m [] e = e
shown-any o name m (a ∷ actions) e = shown-step o name m a actions (eqb o a.object) (list_any (holds_it o name m) actions) e (λ k. shown-any o name m actions k)
