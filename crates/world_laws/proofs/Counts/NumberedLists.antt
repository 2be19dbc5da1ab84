-- Lists of items with numbers: what is found by a number where one is edited, and where those of a number are taken out.
use Rattle.std.proofs.Common.{◌≡◌, ℕ, suc, ◌≤◌, ◌<◌, Bool, true, false, cond, not, eqb, length}
use Rattle.std.proofs.Common.{List, [], ◌∷◌, Option, Some, None, refl, sym, ap, subst, ◌∙◌, arith}
use Rattle.std.specs.Prelude.{find, option_map}
use Rattle.std.proofs.lemmas.Bool.{eqb-true, eq-eqb, true≢false}
use Rattle.profile_image.specs.Words.{edit_where, edit_found, set_where, without}

-- ---- the one with a number

module _ {X : Type 0} (key : X → ℕ) where
  abbrev pub by : ℕ → X → Bool
  by n x = eqb n (key x)

  found-first : (b : Bool) (n : ℕ) (z x : X) (rest : Option X) → by n z ≡ b → cond b (Some z) rest ≡ Some x → (rest ≡ Some x → key x ≡ n) → key x ≡ n
  found-first true n z x rest is e onward = let same : z ≡ x = cc in subst (λ y. key y ≡ n) same (sym (eqb-true n (key z) is))
  found-first false n z x rest is e onward = onward e

  pub found-key : (n : ℕ) (xs : List X) (x : X) → find (by n) xs ≡ Some x → key x ≡ n
  found-key n [] x e = absurd cc
  found-key n (z ∷ zs) x e = found-first (by n z) n z x (find (by n) zs) refl e (λ h. found-key n zs x h)

  -- one is edited that keeps its number: what is found by a number is as before, or is what the edit made of it
  module _ (n m : ℕ) (f : X → X) (same : (x : X) → key (f x) ≡ key x) (P : Option X → Type 0) where
    set-head : (x : X) (zs : List X) (b : Bool) → by n x ≡ b → P (cond b (Some x) (find (by n) zs))
        → (cond b (Some x) (find (by n) zs) ≡ Some x → P (Some (f x))) → P (cond b (Some (f x)) (find (by n) zs))
    set-head x zs true is a k = k refl
    set-head x zs false is a k = a

    set-step : (x z : X) (zs others : List X) (b c : Bool) → by m z ≡ b → by n z ≡ c → cond b (Some z) (find (by m) zs) ≡ Some x
        → P (cond c (Some z) (find (by n) zs)) → (cond c (Some z) (find (by n) zs) ≡ Some x → P (Some (f x)))
        → (find (by m) zs ≡ Some x → P (find (by n) zs) → (find (by n) zs ≡ Some x → P (Some (f x))) → P (find (by n) others))
        → P (find (by n) (cond b (f x ∷ zs) (z ∷ others)))
    set-step x z zs others true c is own e a k onward =
        let alike : z ≡ x = cc in
        let number : by n (f x) ≡ c = ap (λ i. eqb n i) (same x ∙ ap key (sym alike)) ∙ own in
        subst (λ t. P (cond t (Some (f x)) (find (by n) zs))) (sym number)
        (set-head x zs c (ap (by n) (sym alike) ∙ own) (subst (λ y. P (cond c (Some y) (find (by n) zs))) alike a)
        (λ h. k (subst (λ y. cond c (Some y) (find (by n) zs) ≡ Some x) (sym alike) h)))
    set-step x z zs others false true is own e a k onward = subst (λ t. P (cond t (Some z) (find (by n) others))) (sym own) a
    set-step x z zs others false false is own e a k onward = subst (λ t. P (cond t (Some z) (find (by n) others))) (sym own) (onward e a k)

    set-found : (x : X) (xs : List X) → find (by m) xs ≡ Some x → P (find (by n) xs) → (find (by n) xs ≡ Some x → P (Some (f x)))
        → P (find (by n) (set_where (by m) (f x) xs))
    set-found x [] e a k = a
    set-found x (z ∷ zs) e a k = set-step x z zs (set_where (by m) (f x) zs) (by m z) (by n z) refl refl e a k (λ e2 a2 k2. set-found x zs e2 a2 k2)

    edited-from : (xs : List X) (found : Option X) → find (by m) xs ≡ found → P (find (by n) xs) → ((x : X) → find (by n) xs ≡ Some x → P (Some (f x)))
        → P (find (by n) (edit_found (by m) f xs found))
    edited-from xs None is a k = a
    edited-from xs (Some x) is a k = set-found x xs is a (k x)

    pub edited : (xs : List X) → P (find (by n) xs) → ((x : X) → find (by n) xs ≡ Some x → P (Some (f x))) → P (find (by n) (edit_where (by m) f xs))
    edited xs a k = edited-from xs (find (by m) xs) refl a k

  -- the edited one itself
  module _ (m : ℕ) (f : X → X) (same : (x : X) → key (f x) ≡ key x) where
    same-step : (x z : X) (zs others : List X) (b : Bool) → by m z ≡ b → cond b (Some z) (find (by m) zs) ≡ Some x
        → (find (by m) zs ≡ Some x → find (by m) others ≡ Some (f x)) → find (by m) (cond b (f x ∷ zs) (z ∷ others)) ≡ Some (f x)
    same-step x z zs others true is e onward =
        let alike : z ≡ x = cc in
        let number : by m (f x) ≡ true = ap (λ i. eqb m i) (same x ∙ ap key (sym alike)) ∙ is in
        ap (λ t. cond t (Some (f x)) (find (by m) zs)) number
    same-step x z zs others false is e onward = ap (λ t. cond t (Some z) (find (by m) others)) is ∙ onward e

    same-set : (x : X) (xs : List X) → find (by m) xs ≡ Some x → find (by m) (set_where (by m) (f x) xs) ≡ Some (f x)
    same-set x [] e = absurd cc
    same-set x (z ∷ zs) e = same-step x z zs (set_where (by m) (f x) zs) (by m z) refl e (λ k. same-set x zs k)

    same-from : (xs : List X) (found : Option X) → find (by m) xs ≡ found → find (by m) (edit_found (by m) f xs found) ≡ option_map f found
    same-from xs None is = is
    same-from xs (Some x) is = same-set x xs is

    pub edited-same : (xs : List X) → find (by m) (edit_where (by m) f xs) ≡ option_map f (find (by m) xs)
    edited-same xs = same-from xs (find (by m) xs) refl

  -- those with a number are taken out: none of them is left, and of another what is found is as before
  none-step : (m : ℕ) (z : X) (left : List X) (b : Bool) → by m z ≡ b → find (by m) left ≡ None → find (by m) (cond (not b) (z ∷ left) left) ≡ None
  none-step m z left true is e = e
  none-step m z left false is e = ap (λ t. cond t (Some z) (find (by m) left)) is ∙ e

  none-left : (m : ℕ) (xs : List X) → find (by m) (without (by m) xs) ≡ None
  none-left m [] = refl
  none-left m (z ∷ zs) = none-step m z (without (by m) zs) (by m z) refl (none-left m zs)

  left-step : (n m : ℕ) (z x : X) (zs left : List X) (b c : Bool) → by m z ≡ b → by n z ≡ c → find (by n) (cond (not b) (z ∷ left) left) ≡ Some x
      → (n ≡ m → find (by n) left ≡ None) → (find (by n) left ≡ Some x → find (by n) zs ≡ Some x) → cond c (Some z) (find (by n) zs) ≡ Some x
  left-step n m z x zs left true true is own e none onward =
      let one : n ≡ m = eqb-true n (key z) own ∙ sym (eqb-true m (key z) is) in
      absurd (let nothing : None ≡ Some x = sym (none one) ∙ e in cc)
  left-step n m z x zs left true false is own e none onward = onward e
  left-step n m z x zs left false true is own e none onward = sym (ap (λ t. cond t (Some z) (find (by n) left)) own) ∙ e
  left-step n m z x zs left false false is own e none onward = onward (sym (ap (λ t. cond t (Some z) (find (by n) left)) own) ∙ e)

  pub left-found : (n m : ℕ) (xs : List X) (x : X) → find (by n) (without (by m) xs) ≡ Some x → find (by n) xs ≡ Some x
  left-found n m [] x e = e
  left-found n m (z ∷ zs) x e =
      left-step n m z x zs (without (by m) zs) (by m z) (by n z) refl refl e
      (λ one. subst (λ i. find (by i) (without (by m) zs) ≡ None) (sym one) (none-left m zs)) (λ k. left-found n m zs x k)

  -- of another number what is found is as before
  other-step : (n m : ℕ) (z : X) (zs left : List X) (b c : Bool) → by m z ≡ b → by n z ≡ c → eqb n m ≡ false → find (by n) left ≡ find (by n) zs
      → find (by n) (cond (not b) (z ∷ left) left) ≡ cond c (Some z) (find (by n) zs)
  other-step n m z zs left true true is own apart e =
      let one : n ≡ m = eqb-true n (key z) own ∙ sym (eqb-true m (key z) is) in
      absurd (true≢false (sym (eq-eqb n m one) ∙ apart))
  other-step n m z zs left true false is own apart e = e
  other-step n m z zs left false c is own apart e = ap (λ t. cond t (Some z) (find (by n) left)) own ∙ ap (λ rest. cond c (Some z) rest) e

  pub other-found : (n m : ℕ) (xs : List X) → eqb n m ≡ false → find (by n) (without (by m) xs) ≡ find (by n) xs
  other-found n m [] apart = refl
  other-found n m (z ∷ zs) apart = other-step n m z zs (without (by m) zs) (by m z) (by n z) refl refl apart (other-found n m zs apart)

  -- and there are fewer, if one was there
  no_more-step : (keep : Bool) (z : X) (left zs : List X) → length left ≤ length zs → length (cond keep (z ∷ left) left) ≤ suc (length zs)
  no_more-step true z left zs h = omega (arith, h)
  no_more-step false z left zs h = omega (arith, h)

  no_more-without : (m : ℕ) (xs : List X) → length (without (by m) xs) ≤ length xs
  no_more-without m [] = omega arith
  no_more-without m (z ∷ zs) = no_more-step (not (by m z)) z (without (by m) zs) zs (no_more-without m zs)

  fewer-step : (m : ℕ) (z x : X) (zs : List X) (b : Bool) → cond b (Some z) (find (by m) zs) ≡ Some x
      → (find (by m) zs ≡ Some x → length (without (by m) zs) < length zs) → length (cond (not b) (z ∷ without (by m) zs) (without (by m) zs)) < suc (length zs)
  fewer-step m z x zs true e onward = let few : length (without (by m) zs) ≤ length zs = no_more-without m zs in omega (arith, few)
  fewer-step m z x zs false e onward = let few : length (without (by m) zs) < length zs = onward e in omega (arith, few)

  pub fewer-without : (m : ℕ) (xs : List X) (x : X) → find (by m) xs ≡ Some x → length (without (by m) xs) < length xs
  fewer-without m [] x e = absurd cc
  fewer-without m (z ∷ zs) x e = fewer-step m z x zs (by m z) e (fewer-without m zs x)
