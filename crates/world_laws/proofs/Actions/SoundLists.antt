-- Lists of objects and calls that are changed.
use Rattle.std.proofs.Common.{◌≡◌, ℕ, ◌≤◌, ◌<◌, Bool, true, false, cond, eqb, ◌||◌, List, [], ◌∷◌, Option, Some, None, refl, sym, ap, subst, ◌∙◌, arith}
use Rattle.std.specs.Prelude.{find, filter}
use Rattle.std.proofs.lemmas.Bool.{eqb-true}
use Rattle.ann_base.specs.declared.identities.CallNo.{CallNo}
use Rattle.ann_base.specs.declared.identities.ObjectNo.{ObjectNo}
use Rattle.trace_text.specs.declared.events.Who.{Who}
use Rattle.profile_machine.specs.declared.world.Drawn.{Drawn}
use Rattle.profile_machine.specs.declared.world.calls.Call.{Call}
use Rattle.profile_machine.specs.declared.world.objects.Object.{Object}
use Rattle.profile_image.specs.Words.{same_object, set_where, edit_found, edit_where}
use Rattle.profile_machine.specs.Values.{is_object}
use Rattle.machine_laws.proofs.ListLemmas.{Falls}
use Rattle.machine_laws.proofs.QueueLemmas.{by_test}
use Rattle.line_laws.proofs.Leaving.FreeWorlds.{CallerIn}
use Rattle.world_laws.proofs.Actions.Natures.{Nature, marks, is_on}
use Rattle.world_laws.proofs.Actions.Sound.{RegionSound, ActionSound, OwnSound, MarksSound, EachObject}
use Rattle.world_laws.proofs.Queues.Standing.{object_key}

-- ---- objects

pub each-on : (P Q : Object → Type 0) (xs : List Object) → ((x : Object) → P x → Q x) → EachObject P xs → EachObject Q xs
each-on P Q [] k h = tt
each-on P Q (x ∷ xs) k h = (k x h.0, each-on P Q xs k h.1)

kept-one : (P : Object → Type 0) (keep : Bool) (x : Object) (xs left : List Object) → P x → EachObject P left → EachObject P (cond keep (x ∷ left) left)
kept-one P true x xs left a h = (a, h)
kept-one P false x xs left a h = h

pub each-filter : (P : Object → Type 0) (keep : Object → Bool) (xs : List Object) → EachObject P xs → EachObject P (filter keep xs)
each-filter P keep [] h = tt
each-filter P keep (x ∷ xs) h = kept-one P (keep x) x xs (filter keep xs) h.0 (each-filter P keep xs h.1)

pub some-object : (x y : Object) → Some x ≡ Some y → x ≡ y
some-object x y e = cc

-- an edit that keeps it of each
set-all-step : (P : Object → Type 0) (b : Bool) (y z : Object) (zs others : List Object) → P y → EachObject P (z ∷ zs) → EachObject P others
    → EachObject P (cond b (y ∷ zs) (z ∷ others))
set-all-step P true y z zs others a h k = (a, h.1)
set-all-step P false y z zs others a h k = (h.0, k)

set-all : (P : Object → Type 0) (test : Object → Bool) (y : Object) (xs : List Object) → P y → EachObject P xs → EachObject P (set_where test y xs)
set-all P test y [] a h = tt
set-all P test y (z ∷ zs) a h = set-all-step P (test z) y z zs (set_where test y zs) a h (set-all P test y zs a h.1)

found-step : (P : Object → Type 0) (test : Object → Bool) (b : Bool) (z x : Object) (rest : Option Object) → test z ≡ b → cond b (Some z) rest ≡ Some x → P z
    → (rest ≡ Some x → P x × (test x ≡ true)) → P x × (test x ≡ true)
found-step P test true z x rest is e a onward = let same : z ≡ x = some-object z x e in (subst P same a, subst (λ y. test y ≡ true) same is)
found-step P test false z x rest is e a onward = onward e

pub each-found : (P : Object → Type 0) (test : Object → Bool) (xs : List Object) (x : Object) → EachObject P xs → find test xs ≡ Some x → P x × (test x ≡ true)
each-found P test [] x h e = absurd cc
each-found P test (z ∷ zs) x h e = found-step P test (test z) z x (find test zs) refl e h.0 (λ k. each-found P test zs x h.1 k)

edit-found : (P : Object → Type 0) (test : Object → Bool) (f : Object → Object) (xs : List Object) (found : Option Object) → find test xs ≡ found
    → ((x : Object) → P x → P (f x)) → EachObject P xs → EachObject P (edit_found test f xs found)
edit-found P test f xs None is k h = h
edit-found P test f xs (Some x) is k h = set-all P test (f x) xs (k x (each-found P test xs x h is).0) h

pub each-edited : (P : Object → Type 0) (test : Object → Bool) (f : Object → Object) (xs : List Object) → ((x : Object) → P x → P (f x)) → EachObject P xs
    → EachObject P (edit_where test f xs)
each-edited P test f xs k h = edit-found P test f xs (find test xs) refl k h

-- an edit of the one with a number, from what holds of each to another thing
module _ (o : ObjectNo) (P Q : Object → Type 0) (apart : (x : Object) → same_object o x.number ≡ false → P x → Q x) where
  lower-false : (o k : ℕ) → k < o → eqb o k ≡ false
  lower-false o k h = by_test (eqb o k) (λ same. let is : o ≡ k = eqb-true o k same in absurd (omega (arith, h, is))) (λ e. e)

  each-lower : (top : ℕ) (zs : List Object) → top ≤ o.0 → Falls object_key top zs → EachObject P zs → EachObject Q zs
  each-lower top [] low falls h = tt
  each-lower top (z ∷ zs) low falls h =
      let under : z.number.0 < top = falls.0 in
      let lower : z.number.0 < o.0 = omega (arith, under, low) in
      (apart z (lower-false o.0 z.number.0 lower) h.0, each-lower z.number.0 zs (omega (arith, lower)) falls.1 h.1)

  one-step : (top : ℕ) (x y z : Object) (zs others : List Object) (b : Bool) → same_object o z.number ≡ b → (P x → Q y) → Falls object_key top (z ∷ zs)
      → cond b (Some z) (find (is_object o) zs) ≡ Some x → EachObject P (z ∷ zs) → (find (is_object o) zs ≡ Some x → EachObject Q others)
      → EachObject Q (cond b (y ∷ zs) (z ∷ others))
  one-step top x y z zs others true is k falls e h onward =
      let same : z ≡ x = some-object z x e in
      let number : o.0 ≡ z.number.0 = eqb-true o.0 z.number.0 is in
      (k (subst P same h.0), each-lower z.number.0 zs (omega (arith, number)) falls.1 h.1)
  one-step top x y z zs others false is k falls e h onward = (apart z is h.0, onward e)

  set-one : (top : ℕ) (x y : Object) (xs : List Object) → (P x → Q y) → Falls object_key top xs → find (is_object o) xs ≡ Some x → EachObject P xs
      → EachObject Q (set_where (is_object o) y xs)
  set-one top x y [] k falls e h = tt
  set-one top x y (z ∷ zs) k falls e h =
      one-step top x y z zs (set_where (is_object o) y zs) (same_object o z.number) refl k falls e h (λ i. set-one z.number.0 x y zs k falls.1 i h.1)

  none-step : (z : Object) (rest : Option Object) (b : Bool) → same_object o z.number ≡ b → cond b (Some z) rest ≡ None
      → (same_object o z.number ≡ false) × (rest ≡ None)
  none-step z rest true is e = absurd cc
  none-step z rest false is e = (is, e)

  all-apart : (xs : List Object) → find (is_object o) xs ≡ None → EachObject P xs → EachObject Q xs
  all-apart [] e h = tt
  all-apart (z ∷ zs) e h = let parts = none-step z (find (is_object o) zs) (same_object o z.number) refl e in (apart z parts.0 h.0, all-apart zs parts.1 h.1)

  from-found : (top : ℕ) (f : Object → Object) (xs : List Object) (found : Option Object) → find (is_object o) xs ≡ found
      → ((x : Object) → find (is_object o) xs ≡ Some x → P x → Q (f x)) → Falls object_key top xs → EachObject P xs
      → EachObject Q (edit_found (is_object o) f xs found)
  from-found top f xs None is k falls h = all-apart xs is h
  from-found top f xs (Some x) is k falls h = set-one top x (f x) xs (k x is) falls is h

  pub each-one : (top : ℕ) (f : Object → Object) (xs : List Object) → ((x : Object) → find (is_object o) xs ≡ Some x → P x → Q (f x)) → Falls object_key top xs
      → EachObject P xs → EachObject Q (edit_where (is_object o) f xs)
  each-one top f xs k falls h = from-found top f xs (find (is_object o) xs) refl k falls h

-- ---- a new object: no mark is on it

new-step : (drawn : ℕ) (a : Option ObjectNo) (o : ObjectNo) (ns : List Nature) (rest : Bool) → drawn < o.0 → ActionSound drawn a ns → rest ≡ false
    → (is_on o a || rest) ≡ false
new-step drawn None o ns rest more h e = e
new-step drawn (Some x) o ns rest more h e = by_test (same_object o x)
    (λ same. let is : o.0 ≡ x.0 = eqb-true o.0 x.0 same in let within : x.0 ≤ drawn = h.0 in absurd (omega (arith, is, within, more)))
    (λ apart. ap (λ b. b || rest) apart ∙ e)

pub marks-new : (drawn : Drawn) (calls : List Call) (name : Who) (o : ObjectNo) (ns : List Nature) → drawn.objects < o.0 → MarksSound drawn calls name ns
    → marks o ns ≡ false
marks-new drawn calls name o [] more h = refl
marks-new drawn calls name o (n ∷ ns) more h = new-step drawn.objects n.action o ns (marks o ns) more h.0.1 (marks-new drawn calls name o ns more h.1)

-- ---- calls

-- marks stay sound where what is asked of calls and numbers stays so
pub marks-on : (drawn later : Drawn) (calls more : List Call) (name : Who) (ns : List Nature) → drawn.objects ≤ later.objects → later.regions ≡ drawn.regions
    → ((c : CallNo) → CallerIn calls drawn.calls c name → CallerIn more later.calls c name)
    → MarksSound drawn calls name ns → MarksSound later more name ns
marks-on drawn later calls more name [] a r k h = tt
marks-on drawn later calls more name (n ∷ ns) a r k h = (
  (h.0.0, action n.action h.0.1, h.0.2, own n.own h.0.3, subst (λ d. RegionSound d n.region) (sym r) h.0.4),
  marks-on drawn later calls more name ns a r k h.1,
)
  where
    action : (o : Option ObjectNo) → ActionSound drawn.objects o ns → ActionSound later.objects o ns
    action None g = tt
    action (Some o) g = let within : o.0 ≤ drawn.objects = g.0 in (omega (arith, within, a), g.1)

    own : (c : Option CallNo) → OwnSound drawn.calls calls name c → OwnSound later.calls more name c
    own None g = tt
    own (Some c) g = k c g
