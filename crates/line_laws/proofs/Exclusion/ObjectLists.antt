-- Looking for a protected object in a list that was changed.
use Rattle.std.proofs.Common.{◌≡◌, ℕ, ◌<◌, Bool, true, false, cond, eqb, List, [], ◌∷◌, Option, Some, None, refl, sym, ap, subst, ◌∙◌, arith}
use Rattle.std.proofs.lemmas.Bool.{eqb-true}
use Rattle.std.specs.Prelude.{find, filter}
use Rattle.ann_base.specs.declared.identities.ObjectNo.{ObjectNo}
use Rattle.profile_machine.specs.declared.world.objects.Object.{Object}
use Rattle.profile_image.specs.Words.{edit_where, edit_found, set_where}
use Rattle.profile_machine.specs.Values.{is_object}
use Rattle.machine_laws.proofs.ListLemmas.{Falls}
use Rattle.machine_laws.proofs.QueueLemmas.{by_test}

abbrev pub object_number : Object → ℕ
object_number x = x.number.0

-- ---- the one that is found

found-step : (b : Bool) (test : Object → Bool) (z x : Object) (rest : Option Object) → test z ≡ b → cond b (Some z) rest ≡ Some x
    → (rest ≡ Some x → test x ≡ true) → test x ≡ true
found-step true test z x rest is e onward = let same : z ≡ x = cc in subst (λ y. test y ≡ true) same is
found-step false test z x rest is e onward = onward e

found-holds : (test : Object → Bool) (xs : List Object) (x : Object) → find test xs ≡ Some x → test x ≡ true
found-holds test [] x e = absurd cc
found-holds test (z ∷ zs) x e = found-step (test z) test z x (find test zs) refl e (λ h. found-holds test zs x h)

below-step : (b : Bool) (n key top : ℕ) (z x : Object) (rest : Option Object) → eqb n key ≡ b → key < top → cond b (Some z) rest ≡ Some x
    → (rest ≡ Some x → n < key) → n < top
below-step true n key top z x rest is a e onward = let same : n ≡ key = eqb-true n key is in omega arith
below-step false n key top z x rest is a e onward = let low : n < key = onward e in omega arith

pub found-below : (n : ObjectNo) (top : ℕ) (xs : List Object) (x : Object) → Falls object_number top xs → find (is_object n) xs ≡ Some x → n.0 < top
found-below n top [] x h e = absurd cc
found-below n top (z ∷ zs) x h e =
    below-step (eqb n.0 z.number.0) n.0 z.number.0 top z x (find (is_object n) zs) refl h.0 e (λ k. found-below n z.number.0 zs x h.1 k)

-- ---- one is set in the place of the one that was found

step-other : (test : Object → Bool) (b : Bool) (y z : Object) (zs others : List Object) → (b ≡ true → test y ≡ false) → (b ≡ true → test z ≡ false)
    → find test others ≡ find test zs
    → find test (cond b (y ∷ zs) (z ∷ others)) ≡ cond (test z) (Some z) (find test zs)
step-other test true y z zs others p q e = ap (λ t. cond t (Some y) (find test zs)) (p refl) ∙ sym (ap (λ t. cond t (Some z) (find test zs)) (q refl))
step-other test false y z zs others p q e = ap (λ r. cond (test z) (Some z) r) e

differs : (n o m : ℕ) → eqb n o ≡ false → eqb o m ≡ true → eqb n m ≡ false
differs n o m a b = let same : o ≡ m = eqb-true o m b in subst (λ k. eqb n k ≡ false) same a

set-other : (n o : ObjectNo) (y : Object) (xs : List Object) → eqb n.0 o.0 ≡ false → eqb o.0 y.number.0 ≡ true
    → find (is_object n) (set_where (is_object o) y xs) ≡ find (is_object n) xs
set-other n o y [] a b = refl
set-other n o y (z ∷ zs) a b =
    step-other (is_object n) (is_object o z) y z zs (set_where (is_object o) y zs) (λ e. differs n.0 o.0 y.number.0 a b) (λ e. differs n.0 o.0 z.number.0 a e)
    (set-other n o y zs a b)

step-same : (test : Object → Bool) (b : Bool) (x y z : Object) (zs others : List Object) → test z ≡ b → test y ≡ true → cond b (Some z) (find test zs) ≡ Some x
    → (find test zs ≡ Some x → find test others ≡ Some y)
    → find test (cond b (y ∷ zs) (z ∷ others)) ≡ Some y
step-same test true x y z zs others is ey e onward = ap (λ t. cond t (Some y) (find test zs)) ey
step-same test false x y z zs others is ey e onward = ap (λ t. cond t (Some z) (find test others)) is ∙ onward e

set-same : (test : Object → Bool) (x y : Object) (xs : List Object) → test y ≡ true → find test xs ≡ Some x → find test (set_where test y xs) ≡ Some y
set-same test x y [] ey e = absurd cc
set-same test x y (z ∷ zs) ey e = step-same test (test z) x y z zs (set_where test y zs) refl ey e (λ k. set-same test x y zs ey k)

-- ---- one is edited: another is what it was, and the same is what the edit makes of it

edited-other : (n o : ObjectNo) (f : Object → Object) (xs : List Object) → ((x : Object) → (f x).number ≡ x.number) → (found : Option Object)
    → find (is_object o) xs ≡ found → eqb n.0 o.0 ≡ false
    → find (is_object n) (edit_found (is_object o) f xs found) ≡ find (is_object n) xs
edited-other n o f xs k None is a = refl
edited-other n o f xs k (Some x) is a =
    let same : eqb o.0 x.number.0 ≡ true = found-holds (is_object o) xs x is in
    set-other n o (f x) xs a (subst (λ m. eqb o.0 m.0 ≡ true) (sym (k x)) same)

edited-same : {P : Type 0} (o : ObjectNo) (f : Object → Object) (xs : List Object) (y : Object) → ((x : Object) → (f x).number ≡ x.number)
    → (found : Option Object) → find (is_object o) xs ≡ found
    → find (is_object o) (edit_found (is_object o) f xs found) ≡ Some y → ((x : Object) → find (is_object o) xs ≡ Some x → y ≡ f x → P) → P
edited-same o f xs y k None is e p = absurd (let none : None ≡ Some y = sym is ∙ e in cc)
edited-same o f xs y k (Some x) is e p =
    let same : eqb o.0 x.number.0 ≡ true = found-holds (is_object o) xs x is in
    let edited : find (is_object o) (set_where (is_object o) (f x) xs) ≡ Some (f x) =
    set-same (is_object o) x (f x) xs (subst (λ m. eqb o.0 m.0 ≡ true) (sym (k x)) same) is in
    let one : Some y ≡ Some (f x) = sym e ∙ edited in
    p x is cc

same_number : (n o : ObjectNo) → eqb n.0 o.0 ≡ true → n ≡ o
same_number n o e = ap (λ (m : ℕ). record { 0 = m }) (eqb-true n.0 o.0 e)

pub changed : {P : Type 0} (n o : ObjectNo) (f : Object → Object) (xs : List Object) (y : Object) → ((x : Object) → (f x).number ≡ x.number)
    → find (is_object n) (edit_where (is_object o) f xs) ≡ Some y
    → (n ≡ o → (x : Object) → find (is_object o) xs ≡ Some x → y ≡ f x → P) → (eqb n.0 o.0 ≡ false → find (is_object n) xs ≡ Some y → P) → P
changed n o f xs y k e p q =
    by_test (eqb n.0 o.0)
    (λ t. let is : n ≡ o = same_number n o t in
    edited-same o f xs y k (find (is_object o) xs) refl (subst (λ m. find (is_object m) (edit_where (is_object o) f xs) ≡ Some y) is e) (p is))
    (λ t. q t (sym (edited-other n o f xs k (find (is_object o) xs) refl t) ∙ e))

-- ---- some are taken out

kept-step : (n : ObjectNo) (z y : Object) (zs left : List Object) (keep b : Bool) → is_object n z ≡ b → find (is_object n) (cond keep (z ∷ left) left) ≡ Some y
    → (find (is_object n) left ≡ Some y → find (is_object n) zs ≡ Some y) → (find (is_object n) zs ≡ Some y → n.0 < z.number.0)
    → cond b (Some z) (find (is_object n) zs) ≡ Some y
kept-step n z y zs left true true is e onward low = sym (ap (λ t. cond t (Some z) (find (is_object n) left)) is) ∙ e
kept-step n z y zs left true false is e onward low = onward (sym (ap (λ t. cond t (Some z) (find (is_object n) left)) is) ∙ e)
kept-step n z y zs left false false is e onward low = onward e
kept-step n z y zs left false true is e onward low =
    let under : n.0 < z.number.0 = low (onward e) in
    let same : n.0 ≡ z.number.0 = eqb-true n.0 z.number.0 is in
    absurd (omega arith)

pub left-found : (n : ObjectNo) (keep : Object → Bool) (top : ℕ) (xs : List Object) (y : Object) → Falls object_number top xs
    → find (is_object n) (filter keep xs) ≡ Some y → find (is_object n) xs ≡ Some y
left-found n keep top [] y h e = e
left-found n keep top (z ∷ zs) y h e =
    kept-step n z y zs (filter keep zs) (keep z) (is_object n z) refl e (λ k. left-found n keep z.number.0 zs y h.1 k)
    (λ k. found-below n z.number.0 zs y h.1 k)
