-- Ticks for which a test holds, over some ticks more.
use Rattle.std.proofs.Common.{◌≡◌, ◌≤◌, ◌<◌, ◌+◌, ℕ, zero, suc, max, Bool, true, false, if◌then◌else◌, refl, ap, sym, ◌∙◌, arith}
use Rattle.std.proofs.lemmas.Bool.{ne_eqb}
use Rattle.run_report.specs.Accounts.{count_below, streak_below, longest_below}
use Rattle.run_report.specs.Kept.{ticks_if, streak_after}

-- ---- tests that agree

pub count_same : (n : ℕ) (p q : ℕ → Bool) → ((t : ℕ) → t < n → p t ≡ q t) → count_below n p ≡ count_below n q
count_same zero p q h = refl
count_same (suc n) p q h =
    ap (λ c. c + (if p n then 1 else 0)) (count_same n p q (λ t less. h t (omega (arith, less))))
    ∙ ap (λ b. count_below n q + (if b then 1 else 0)) (h n (omega arith))

pub streak_same : (n : ℕ) (p q : ℕ → Bool) → ((t : ℕ) → t < n → p t ≡ q t) → streak_below n p ≡ streak_below n q
streak_same zero p q h = refl
streak_same (suc n) p q h =
    ap (λ b. if b then streak_below n p + 1 else 0) (h n (omega arith))
    ∙ ap (λ s. if q n then s + 1 else 0) (streak_same n p q (λ t less. h t (omega (arith, less))))

pub longest_same : (n : ℕ) (p q : ℕ → Bool) → ((t : ℕ) → t < n → p t ≡ q t) → longest_below n p ≡ longest_below n q
longest_same zero p q h = refl
longest_same (suc n) p q h =
    ap (λ l. max l (streak_below (suc n) p)) (longest_same n p q (λ t less. h t (omega (arith, less))))
    ∙ ap (λ s. max (longest_below n q) s) (streak_same (suc n) p q h)

-- ---- a test that stays the same over some ticks

more_ticks : (c : Bool) (x k : ℕ) → (x + ticks_if c k) + (if c then 1 else 0) ≡ x + ticks_if c (suc k)
more_ticks true x k = omega arith
more_ticks false x k = omega arith

no_ticks : (c : Bool) (x : ℕ) → x ≡ x + ticks_if c 0
no_ticks true x = omega arith
no_ticks false x = omega arith

pub count_on : (d a n : ℕ) (p : ℕ → Bool) (c : Bool) → n ≡ a + d → ((t : ℕ) → a ≤ t → t < n → p t ≡ c) → count_below n p ≡ count_below a p + ticks_if c d
count_on zero a n p c e h = let same : n ≡ a = omega (arith, e) in ap (λ m. count_below m p) same ∙ no_ticks c (count_below a p)
count_on (suc k) a n p c e h =
    let one : n ≡ suc (a + k) = omega (arith, e) in
    ap (λ m. count_below m p) one
    ∙ ap (λ b. count_below (a + k) p + (if b then 1 else 0)) (h (a + k) (omega arith) (omega (arith, one)))
    ∙ ap (λ x. x + (if c then 1 else 0)) (count_on k a (a + k) p c refl (λ t from less. h t from (omega (arith, less, one))))
    ∙ more_ticks c (count_below a p) k

streak_by : (d : ℕ) (c : Bool) (s : ℕ) → 0 < d → streak_after d c s ≡ (if c then s + d else 0)
streak_by d c s some = ap (λ b. if b then s else (if c then s + d else 0)) (ne_eqb d 0 (λ e. omega (arith, some, e)))

next_streak : (k : ℕ) (c : Bool) (s : ℕ) → (if c then streak_after k c s + 1 else 0) ≡ streak_after (suc k) c s
next_streak k false s = sym (streak_by (suc k) false s (omega arith))
next_streak zero true s = let one : s + 1 ≡ s + suc zero = omega arith in one ∙ sym (streak_by (suc zero) true s (omega arith))
next_streak (suc k) true s =
    let more : (s + suc k) + 1 ≡ s + suc (suc k) = omega arith in
    ap (λ x. x + 1) (streak_by (suc k) true s (omega arith)) ∙ more ∙ sym (streak_by (suc (suc k)) true s (omega arith))

pub streak_on : (d a n : ℕ) (p : ℕ → Bool) (c : Bool) → n ≡ a + d → ((t : ℕ) → a ≤ t → t < n → p t ≡ c) → streak_below n p ≡ streak_after d c (streak_below a p)
streak_on zero a n p c e h = let same : n ≡ a = omega (arith, e) in ap (λ m. streak_below m p) same
streak_on (suc k) a n p c e h =
    let one : n ≡ suc (a + k) = omega (arith, e) in
    ap (λ m. streak_below m p) one
    ∙ ap (λ b. if b then streak_below (a + k) p + 1 else 0) (h (a + k) (omega arith) (omega (arith, one)))
    ∙ ap (λ x. if c then x + 1 else 0) (streak_on k a (a + k) p c refl (λ t from less. h t from (omega (arith, less, one))))
    ∙ next_streak k c (streak_below a p)

pub streak_least : (n : ℕ) (p : ℕ → Bool) → streak_below n p ≤ longest_below n p
streak_least zero p = omega arith
streak_least (suc n) p = omega arith

max_over : (l a b : ℕ) → a ≤ max l b → max (max l a) b ≡ max l b
max_over l a b less = omega (arith, less)

grown : (k : ℕ) (c : Bool) (l s : ℕ) → s ≤ l → streak_after k c s ≤ max l (streak_after (suc k) c s)
grown zero c l s less = omega (arith, less)
grown (suc k) true l s less = omega (arith, streak_by (suc k) true s (omega arith), streak_by (suc (suc k)) true s (omega arith))
grown (suc k) false l s less = omega (arith, streak_by (suc k) false s (omega arith))

pub longest_on : (d a n : ℕ) (p : ℕ → Bool) (c : Bool) → n ≡ a + d → ((t : ℕ) → a ≤ t → t < n → p t ≡ c)
    → longest_below n p ≡ max (longest_below a p) (streak_after d c (streak_below a p))
longest_on zero a n p c e h =
    let same : n ≡ a = omega (arith, e) in
    let most : longest_below a p ≡ max (longest_below a p) (streak_below a p) = omega (arith, streak_least a p) in
    ap (λ m. longest_below m p) same ∙ most
longest_on (suc k) a n p c e h =
    let one : n ≡ suc (a + k) = omega (arith, e) in
    let before = longest_on k a (a + k) p c refl (λ t from less. h t from (omega (arith, less, one))) in
    ap (λ m. longest_below m p) one
    ∙ ap (λ x. max x (streak_below (suc (a + k)) p)) before
    ∙ ap (λ x. max (max (longest_below a p) (streak_after k c (streak_below a p))) x) (sym (ap (λ m. streak_below m p) one) ∙ streak_on (suc k) a n p c e h)
    ∙ max_over (longest_below a p) (streak_after k c (streak_below a p)) (streak_after (suc k) c (streak_below a p))
    (grown k c (longest_below a p) (streak_below a p) (streak_least a p))
