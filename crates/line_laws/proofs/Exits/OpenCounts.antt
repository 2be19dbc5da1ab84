-- How often the lines have an action of somebody on an object open, and how often its marks do.
use Rattle.std.proofs.Common.{◌≡◌, ℕ, ◌+◌, ◌≤◌, ◌<◌, Bool, true, false, cond, eqb, ◌&&◌, ◌||◌, List, [], ◌∷◌, Option, Some, None, refl, sym, ap, subst, arith}
use Rattle.std.proofs.lemmas.Bool.{and_parts, eqb-true, false≢true}
use Rattle.std.specs.List.{list_any}
use Rattle.trace_text.specs.declared.events.Action as shown
use Rattle.trace_text.specs.declared.events.Who.{Who}
use Rattle.trace_text.specs.declared.events.Who.TheVariants as who
use Rattle.trace_text.specs.Queue.{who_eq}
use Rattle.trace_text.specs.Laws.{closed}
use Rattle.ann_base.specs.declared.identities.ObjectNo.{ObjectNo}
use Rattle.world_tables.specs.Lists.{rest_of}
use Rattle.profile_machine.specs.declared.world.marks.Frame.{Frame}
use Rattle.profile_machine.specs.Frames.{edit_first}
use Rattle.machine_laws.proofs.FinestMoves.{Nature, natures, nature, action_in, action_first}

abbrev pub bit : Bool → ℕ
bit true = 1
bit false = 0

-- ---- by the lines

abbrev pub is_own : Who → ℕ → shown.Action → Bool
is_own name o a = eqb o a.object && who_eq name a.who

abbrev pub opened : Who → ℕ → List shown.Action → ℕ
opened name o [] = 0
opened name o (a ∷ actions) = bit (is_own name o a) + opened name o actions

abbrev pub is_same : Who → ℕ → Who → ℕ → Bool
is_same name o m k = eqb o k && who_eq name m

any-step : (b c : Bool) (n : ℕ) → 0 < bit b + n → (0 < n → c ≡ true) → (b || c) ≡ true
any-step true c n h k = refl
any-step false c n h k = let g : 0 < 0 + n = h in k (omega (arith, g))

pub opened-any : (name : Who) (o : ℕ) (s : List shown.Action) → 0 < opened name o s → list_any (λ a. eqb o a.object && who_eq name a.who) s ≡ true
opened-any name o [] h = absurd (omega (arith, h))
opened-any name o (a ∷ actions) h =
    any-step (is_own name o a) (list_any (λ x. eqb o x.object && who_eq name x.who) actions) (opened name o actions) h (λ g. opened-any name o actions g)

pub who_eq-path : (a b : Who) → who_eq a b ≡ true → a ≡ b
who_eq-path (who.Task a) (who.Task b) e = ap (λ (n : ℕ). who.Task (record { 0 = n })) (eqb-true a.0 b.0 e)
who_eq-path (who.Task a) who.Agent e = absurd (false≢true e)
who_eq-path who.Agent (who.Task b) e = absurd (false≢true e)
who_eq-path who.Agent who.Agent e = refl

bit-least : (b : Bool) → 0 ≤ bit b
bit-least true = omega arith
bit-least false = omega arith

-- the one that is closed is of the one that closes it
own-same : (name m : Who) (o k : ℕ) (a : shown.Action) → is_own m k a ≡ true → bit (is_own name o a) ≤ bit (is_same name o m k)
own-same name m o k a e =
    let parts = and_parts (eqb k a.object) (who_eq m a.who) e in
    let object : k ≡ a.object = eqb-true k a.object parts.0 in
    let subject : m ≡ a.who = who_eq-path m a.who parts.1 in
    subst (λ x. bit (is_own name o a) ≤ bit (is_same name o x k)) (sym subject)
    (subst (λ x. bit (is_own name o a) ≤ bit (is_same name o a.who x)) (sym object) (omega arith))

closed-step : (name m : Who) (o k : ℕ) (a : shown.Action) (actions left : List shown.Action) (b : Bool) → is_own m k a ≡ b
    → opened name o actions ≤ opened name o left + bit (is_same name o m k)
    → opened name o (a ∷ actions) ≤ opened name o (cond b actions (a ∷ left)) + bit (is_same name o m k)
closed-step name m o k a actions left true e h = let one = own-same name m o k a e in omega (arith, one)
closed-step name m o k a actions left false e h = omega (arith, h)

-- one is taken out at most, and of the one that closes it
pub closed-least : (name m : Who) (o k : ℕ) (s : List shown.Action) → opened name o s ≤ opened name o (closed k m s) + bit (is_same name o m k)
closed-least name m o k [] = omega arith
closed-least name m o k (a ∷ actions) = closed-step name m o k a actions (closed k m actions) (is_own m k a) refl (closed-least name m o k actions)

-- ---- by the marks

abbrev pub is_on : ℕ → Option ObjectNo → Bool
is_on o None = false
is_on o (Some x) = eqb o x.0

abbrev pub count : ℕ → List Nature → ℕ
count o [] = 0
count o (n ∷ ns) = bit (is_on o n.action) + count o ns

pub count-first : (o : ℕ) (f : Frame → Frame) (fs : List Frame) → ((x : Frame) → action_in (f x).mark ≡ action_in x.mark)
    → count o (natures (edit_first f fs)) ≡ count o (natures fs)
count-first o f [] same = refl
count-first o f (x ∷ xs) same = ap (λ a. bit (is_on o a) + count o (natures xs)) (same x)

pub count-pop : (o : ℕ) (fs : List Frame) → count o (natures (rest_of fs)) ≤ count o (natures fs)
count-pop o [] = omega arith
count-pop o (f ∷ fs) = let one = bit-least (is_on o (nature f.mark).action) in omega (arith, one)

-- where the object of the action on top is known
pub count-top : (o : ℕ) (x : ObjectNo) (fs : List Frame) → action_first (natures fs) ≡ Some x
    → count o (natures fs) ≡ bit (eqb o x.0) + count o (natures (rest_of fs))
count-top o x [] e = absurd cc
count-top o x (f ∷ fs) e = ap (λ a. bit (is_on o a) + count o (natures fs)) e
