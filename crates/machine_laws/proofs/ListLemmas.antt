-- Lists whose numbers fall, rise or follow one another, under the changes that the machine makes of its lists.
use Rattle.std.proofs.Common.{◌≡◌, ℕ, suc, ◌<◌, ◌≤◌, Bool, true, false, cond, not, eqb, ltb, leb, List}
use Rattle.std.proofs.Common.{[], ◌∷◌, ◌++◌, refl, sym, subst, arith, Option, Some, None, ap, ◌∙◌}
use Rattle.std.specs.Prelude.{find}
use Rattle.std.specs.List.{list_all}
use Rattle.std.proofs.lemmas.Bool.{and_from}
use Rattle.profile_image.specs.Words.{edit_where, without, edit_found, set_where}
use Rattle.profile_machine.specs.WellFormed.{all_adjacent}

-- ---- numbers that fall, the first below a top

abbrev pub Falls : {X : Type 0} → (X → ℕ) → ℕ → List X → Type 0
Falls key top [] = Unit {0}
Falls key top (x ∷ xs) = (key x < top) × Falls key (key x) xs

pub Falls-higher : {X : Type 0} (key : X → ℕ) (low high : ℕ) (xs : List X) → low ≤ high → Falls key low xs → Falls key high xs
Falls-higher key low high [] a h = tt
Falls-higher key low high (x ∷ xs) a h = (omega (arith, h.0), h.1)

kept_or_dropped : {X : Type 0} (key : X → ℕ) (top : ℕ) (b : Bool) (x : X) (xs : List X) → key x < top → Falls key (key x) xs
    → Falls key top (cond b (x ∷ xs) xs)
kept_or_dropped key top true x xs a h = (a, h)
kept_or_dropped key top false x xs a h = Falls-higher key (key x) top xs (omega arith) h

pub Falls-without : {X : Type 0} (key : X → ℕ) (test : X → Bool) (top : ℕ) (xs : List X) → Falls key top xs → Falls key top (without test xs)
Falls-without key test top [] h = tt
Falls-without key test top (x ∷ xs) h = kept_or_dropped key top (not (test x)) x (without test xs) h.0 (Falls-without key test (key x) xs h.1)

-- the one that was found is the first for which the test holds
found-path : {X : Type 0} (x y : X) → Some x ≡ Some y → x ≡ y
found-path x y e = cc

-- one is set in the place of the one that was found, which has its number
Falls-set : {X : Type 0} (key : X → ℕ) (test : X → Bool) (x y : X) (xs : List X) → key y ≡ key x → (top : ℕ) (b : Bool) (z : X)
    → cond b (Some z) (find test xs) ≡ Some x
    → (find test xs ≡ Some x → Falls key (key z) (set_where test y xs)) → Falls key top (z ∷ xs) → Falls key top (cond b (y ∷ xs) (z ∷ set_where test y xs))
Falls-set key test x y xs same top true z is onward h =
    let alike : key y ≡ key z = same ∙ sym (ap key (found-path z x is)) in
    (subst (λ n. n < top) (sym alike) h.0, subst (λ n. Falls key n xs) (sym alike) h.1)
Falls-set key test x y xs same top false z is onward h = (h.0, onward is)

Falls-set_where : {X : Type 0} (key : X → ℕ) (test : X → Bool) (x y : X) → key y ≡ key x → (top : ℕ) (xs : List X) → find test xs ≡ Some x → Falls key top xs
    → Falls key top (set_where test y xs)
Falls-set_where key test x y same top [] is h = tt
Falls-set_where key test x y same top (z ∷ zs) is h =
    Falls-set key test x y zs same top (test z) z is (λ k. Falls-set_where key test x y same (key z) zs k h.1) h

Falls-edit_found : {X : Type 0} (key : X → ℕ) (test : X → Bool) (f : X → X) → ((x : X) → key (f x) ≡ key x) → (top : ℕ) (xs : List X) (found : Option X)
    → find test xs ≡ found → Falls key top xs → Falls key top (edit_found test f xs found)
Falls-edit_found key test f k top xs None is h = h
Falls-edit_found key test f k top xs (Some x) is h = Falls-set_where key test x (f x) (k x) top xs is h

pub Falls-edit_where : {X : Type 0} (key : X → ℕ) (test : X → Bool) (f : X → X) → ((x : X) → key (f x) ≡ key x) → (top : ℕ) (xs : List X) → Falls key top xs
    → Falls key top (edit_where test f xs)
Falls-edit_where key test f k top xs h = Falls-edit_found key test f k top xs (find test xs) refl h

pub Falls-adjacent : {X : Type 0} (key : X → ℕ) (top : ℕ) (xs : List X) → Falls key top xs → all_adjacent (λ a b. ltb (key b) (key a)) xs ≡ true
Falls-adjacent key top [] h = refl
Falls-adjacent key top (x ∷ []) h = refl
Falls-adjacent key top (x ∷ y ∷ rest) h =
    and_from (ltb (key y) (key x)) (all_adjacent (λ a b. ltb (key b) (key a)) (y ∷ rest)) (grind (arith, h.1.0)) (Falls-adjacent key (key x) (y ∷ rest) h.1)

pub Falls-all : {X : Type 0} (key : X → ℕ) (top n : ℕ) (xs : List X) → top ≤ suc n → Falls key top xs → list_all (λ x. leb (key x) n) xs ≡ true
Falls-all key top n [] a h = refl
Falls-all key top n (x ∷ xs) a h =
    and_from (leb (key x) n) (list_all (λ x. leb (key x) n) xs) (grind (arith, h.0)) (Falls-all key (key x) n xs (omega (arith, h.0)) h.1)

-- ---- numbers that rise, from a low one on, all below a top

abbrev pub Rises : {X : Type 0} → (X → ℕ) → ℕ → ℕ → List X → Type 0
Rises key low top [] = low ≤ top
Rises key low top (x ∷ xs) = (low ≤ key x) × Rises key (suc (key x)) top xs

Rises-lower : {X : Type 0} (key : X → ℕ) (low high top : ℕ) (xs : List X) → low ≤ high → Rises key high top xs → Rises key low top xs
Rises-lower key low high top [] a h = omega arith
Rises-lower key low high top (x ∷ xs) a h = (omega (arith, h.0), h.1)

kept_or_gone : {X : Type 0} (key : X → ℕ) (low top : ℕ) (b : Bool) (x : X) (xs : List X) → low ≤ key x → Rises key (suc (key x)) top xs
    → Rises key low top (cond b (x ∷ xs) xs)
kept_or_gone key low top true x xs a h = (a, h)
kept_or_gone key low top false x xs a h = Rises-lower key low (suc (key x)) top xs (omega arith) h

pub Rises-without : {X : Type 0} (key : X → ℕ) (test : X → Bool) (low top : ℕ) (xs : List X) → Rises key low top xs → Rises key low top (without test xs)
Rises-without key test low top [] h = h
Rises-without key test low top (x ∷ xs) h = kept_or_gone key low top (not (test x)) x (without test xs) h.0 (Rises-without key test (suc (key x)) top xs h.1)

Rises-set : {X : Type 0} (key : X → ℕ) (test : X → Bool) (x y : X) (xs : List X) → key y ≡ key x → (low top : ℕ) (b : Bool) (z : X)
    → cond b (Some z) (find test xs) ≡ Some x
    → (find test xs ≡ Some x → Rises key (suc (key z)) top (set_where test y xs)) → Rises key low top (z ∷ xs)
    → Rises key low top (cond b (y ∷ xs) (z ∷ set_where test y xs))
Rises-set key test x y xs same low top true z is onward h =
    let alike : key y ≡ key z = same ∙ sym (ap key (found-path z x is)) in
    (subst (λ n. low ≤ n) (sym alike) h.0, subst (λ n. Rises key (suc n) top xs) (sym alike) h.1)
Rises-set key test x y xs same low top false z is onward h = (h.0, onward is)

pub Rises-set_where : {X : Type 0} (key : X → ℕ) (test : X → Bool) (x y : X) → key y ≡ key x → (low top : ℕ) (xs : List X) → find test xs ≡ Some x
    → Rises key low top xs → Rises key low top (set_where test y xs)
Rises-set_where key test x y same low top [] is h = h
Rises-set_where key test x y same low top (z ∷ zs) is h =
    Rises-set key test x y zs same low top (test z) z is (λ k. Rises-set_where key test x y same (suc (key z)) top zs k h.1) h

-- one at the top is put behind
pub Rises-behind : {X : Type 0} (key : X → ℕ) (low top : ℕ) (xs : List X) (x : X) → key x ≡ top → Rises key low top xs → Rises key low (suc top) (xs ++ x ∷ [])
Rises-behind key low top [] x e h = (omega (arith, h, e), omega (arith, e))
Rises-behind key low top (y ∷ ys) x e h = (h.0, Rises-behind key (suc (key y)) top ys x e h.1)

Rises-within : {X : Type 0} (key : X → ℕ) (low top : ℕ) (xs : List X) → Rises key low top xs → low ≤ top
Rises-within key low top [] h = h
Rises-within key low top (x ∷ xs) h = let rest : suc (key x) ≤ top = Rises-within key (suc (key x)) top xs h.1 in omega (arith, h.0)

pub Rises-adjacent : {X : Type 0} (key : X → ℕ) (low top : ℕ) (xs : List X) → Rises key low top xs → all_adjacent (λ a b. ltb (key a) (key b)) xs ≡ true
Rises-adjacent key low top [] h = refl
Rises-adjacent key low top (x ∷ []) h = refl
Rises-adjacent key low top (x ∷ y ∷ rest) h =
    and_from (ltb (key x) (key y)) (all_adjacent (λ a b. ltb (key a) (key b)) (y ∷ rest)) (grind (arith, h.1.0))
    (Rises-adjacent key (suc (key x)) top (y ∷ rest) h.1)

pub Rises-all : {X : Type 0} (key : X → ℕ) (low top : ℕ) (xs : List X) → Rises key low top xs → list_all (λ x. ltb (key x) top) xs ≡ true
Rises-all key low top [] h = refl
Rises-all key low top (x ∷ xs) h =
    let rest : suc (key x) ≤ top = Rises-within key (suc (key x)) top xs h.1 in
    and_from (ltb (key x) top) (list_all (λ x. ltb (key x) top) xs) (grind arith) (Rises-all key (suc (key x)) top xs h.1)

-- ---- numbers that follow one another, from behind one up to a last

abbrev pub Follows : {X : Type 0} → (X → ℕ) → ℕ → ℕ → List X → Type 0
Follows key from last [] = from ≡ last
Follows key from last (x ∷ xs) = (key x ≡ suc from) × Follows key (key x) last xs

pub Follows-behind : {X : Type 0} (key : X → ℕ) (from last : ℕ) (xs : List X) (x : X) → key x ≡ suc last → Follows key from last xs
    → Follows key from (suc last) (xs ++ x ∷ [])
Follows-behind key from last [] x e h = (omega (arith, h, e), e)
Follows-behind key from last (y ∷ ys) x e h = (h.0, Follows-behind key (key y) last ys x e h.1)

pub Follows-adjacent : {X : Type 0} (key : X → ℕ) (from last : ℕ) (xs : List X) → Follows key from last xs
    → all_adjacent (λ a b. eqb (suc (key a)) (key b)) xs ≡ true
Follows-adjacent key from last [] h = refl
Follows-adjacent key from last (x ∷ []) h = refl
Follows-adjacent key from last (x ∷ y ∷ rest) h =
    and_from (eqb (suc (key x)) (key y)) (all_adjacent (λ a b. eqb (suc (key a)) (key b)) (y ∷ rest)) (grind (arith, h.1.0))
    (Follows-adjacent key (key x) last (y ∷ rest) h.1)
