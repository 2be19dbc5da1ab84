-- The actions of somebody, the last that began first: by the lines, and by its marks.
use Rattle.std.proofs.Common.{◌≡◌, ℕ, Bool, true, false, eqb, cond, ◌&&◌, List, [], ◌∷◌, Option, Some, None, refl, sym, ap, subst, ◌∙◌, eq-eqb}
use Rattle.std.specs.Prelude.{find}
use Rattle.ann_base.specs.declared.identities.ObjectNo.{ObjectNo}
use Rattle.trace_text.specs.declared.events.Action as shown
use Rattle.trace_text.specs.declared.events.Who.{Who}
use Rattle.trace_text.specs.Queue.{who_eq}
use Rattle.trace_text.specs.Laws.{closed}
use Rattle.world_tables.specs.Lists.{rest_of}
use Rattle.profile_machine.specs.declared.world.marks.Frame.{Frame}
use Rattle.machine_laws.proofs.FinestMoves.{Nature, action_first, nature, natures}
use Rattle.line_laws.proofs.Exits.OpenCounts.{who_eq-path}
use Rattle.blocking_laws.specs.MovingLaws.{is_on}

-- ---- how a list begins

abbrev pub Starts : List ℕ → List ℕ → Type 0
Starts [] ys = Unit {0}
Starts (x ∷ xs) [] = ⊥
Starts (x ∷ xs) (y ∷ ys) = (x ≡ y) × Starts xs ys

pub starts-first : (x : ℕ) (xs ys : List ℕ) → Starts (x ∷ xs) ys → (rest : List ℕ) × (ys ≡ x ∷ rest) × Starts xs rest
starts-first x xs [] h = absurd h
starts-first x xs (y ∷ ys) h = (ys, ap (λ z. z ∷ ys) (sym h.0), h.1)

cons-first : (x y : ℕ) (xs ys : List ℕ) → x ∷ xs ≡ y ∷ ys → x ≡ y
cons-first x y xs ys e = cc

pub cons-rest : (x y : ℕ) (xs ys : List ℕ) → x ∷ xs ≡ y ∷ ys → xs ≡ ys
cons-rest x y xs ys e = cc

no-cons : (y : ℕ) (ys : List ℕ) → [] ≡ y ∷ ys → ⊥
no-cons y ys e = cc

-- ---- by the lines

abbrev pub own_of : Who → List shown.Action → List ℕ
own_of name [] = []
own_of name (a ∷ actions) = cond (who_eq name a.who) (a.object ∷ own_of name actions) (own_of name actions)

right-false : (b : Bool) → (b && false) ≡ false
right-false true = refl
right-false false = refl

closed-own-step : (name : Who) (o : ℕ) (rest : List ℕ) (a : shown.Action) (actions : List shown.Action) (b : Bool) → who_eq name a.who ≡ b
    → cond b (a.object ∷ own_of name actions) (own_of name actions) ≡ o ∷ rest
    → (own_of name actions ≡ o ∷ rest → own_of name (closed o name actions) ≡ rest) → own_of name (closed o name (a ∷ actions)) ≡ rest
closed-own-step name o rest a actions true is e onward =
    let left = closed o name actions in
    ap (λ t. own_of name (cond t actions (a ∷ left)))
    (ap (λ t. eqb o a.object && t) is ∙ ap (λ t. t && true) (eq-eqb o a.object (sym (cons-first a.object o (own_of name actions) rest e))))
    ∙ cons-rest a.object o (own_of name actions) rest e
closed-own-step name o rest a actions false is e onward =
    let left = closed o name actions in
    ap (λ t. own_of name (cond t actions (a ∷ left))) (ap (λ t. eqb o a.object && t) is ∙ right-false (eqb o a.object))
    ∙ ap (λ t. cond t (a.object ∷ own_of name left) (own_of name left)) is ∙ onward e

-- the last of one's own is the one that is closed
pub closed-own : (name : Who) (o : ℕ) (rest : List ℕ) (actions : List shown.Action) → own_of name actions ≡ o ∷ rest
    → own_of name (closed o name actions) ≡ rest
closed-own name o rest [] e = absurd (no-cons o rest e)
closed-own name o rest (a ∷ actions) e = closed-own-step name o rest a actions (who_eq name a.who) refl e (closed-own name o rest actions)

both-true : (a b : Bool) → (a && b) ≡ true → b ≡ true
both-true true b e = e
both-true false true e = refl
both-true false false e = e

closed-other-step : (n name : Who) (o : ℕ) (a : shown.Action) (actions : List shown.Action) (b : Bool) → (eqb o a.object && who_eq name a.who) ≡ b
    → who_eq n name ≡ false → own_of n (closed o name actions) ≡ own_of n actions
    → own_of n (cond b actions (a ∷ closed o name actions)) ≡ own_of n (a ∷ actions)
closed-other-step n name o a actions true is apart onward =
    let own : name ≡ a.who = who_eq-path name a.who (both-true (eqb o a.object) (who_eq name a.who) is) in
    sym (ap (λ t. cond t (a.object ∷ own_of n actions) (own_of n actions)) (subst (λ m. who_eq n m ≡ false) own apart))
closed-other-step n name o a actions false is apart onward = ap (λ os. cond (who_eq n a.who) (a.object ∷ os) os) onward

-- another's are left
pub closed-others : (n name : Who) (o : ℕ) (actions : List shown.Action) → who_eq n name ≡ false → own_of n (closed o name actions) ≡ own_of n actions
closed-others n name o [] apart = refl
closed-others n name o (a ∷ actions) apart =
    closed-other-step n name o a actions (eqb o a.object && who_eq name a.who) refl apart (closed-others n name o actions apart)

last-step : (name : Who) (o : ℕ) (rest : List ℕ) (a : shown.Action) (actions : List shown.Action) (b : Bool)
    → cond b (a.object ∷ own_of name actions) (own_of name actions) ≡ o ∷ rest
    → (own_of name actions ≡ o ∷ rest → is_on o (find (λ x. who_eq name x.who) actions) ≡ true)
    → is_on o (cond b (Some a) (find (λ x. who_eq name x.who) actions)) ≡ true
last-step name o rest a actions true e onward = eq-eqb o a.object (sym (cons-first a.object o (own_of name actions) rest e))
last-step name o rest a actions false e onward = onward e

pub last-on : (name : Who) (o : ℕ) (rest : List ℕ) (actions : List shown.Action) → own_of name actions ≡ o ∷ rest
    → is_on o (find (λ x. who_eq name x.who) actions) ≡ true
last-on name o rest [] e = absurd (no-cons o rest e)
last-on name o rest (a ∷ actions) e = last-step name o rest a actions (who_eq name a.who) e (last-on name o rest actions)

-- ---- by the marks

abbrev pub grown : Option ObjectNo → List ℕ → List ℕ
grown None os = os
grown (Some o) os = o.0 ∷ os

abbrev pub marked : List Nature → List ℕ
marked [] = []
marked (n ∷ ns) = grown n.action (marked ns)

pub marked-plain : (f : Frame) (fs : List Frame) → (nature f.mark).action ≡ None → marked (natures (f ∷ fs)) ≡ marked (natures fs)
marked-plain f fs e = ap (λ a. grown a (marked (natures fs))) e

-- where the mark on top is no action
pub marked-rest : (fs : List Frame) → action_first (natures fs) ≡ None → marked (natures (rest_of fs)) ≡ marked (natures fs)
marked-rest [] e = refl
marked-rest (f ∷ fs) e = sym (marked-plain f fs e)

no-some : (o : ObjectNo) → None ≡ Some o → ⊥
no-some o e = cc

-- where it is one
pub marked-top : (o : ObjectNo) (fs : List Frame) → action_first (natures fs) ≡ Some o → marked (natures fs) ≡ o.0 ∷ marked (natures (rest_of fs))
marked-top o [] e = absurd (no-some o e)
marked-top o (f ∷ fs) e = ap (λ a. grown a (marked (natures fs))) e
