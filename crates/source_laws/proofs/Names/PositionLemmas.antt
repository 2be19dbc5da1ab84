-- Positions, the regions around them, and what is found by going back from them.
use Rattle.std.proofs.Common.{◌≡◌, inl, inr, ℕ, ◌≤◌, zero, suc, Bool, true, false, cond, List, [], ◌∷◌, length, Some, None, refl, sym, ap, subst, arith}
use Rattle.ada_regions.specs.Occurrences.{Occurrence, begins, ends}
use Rattle.source_laws.specs.Positions.{Before, Stands, around_behind, around, all_but_innermost, around_outside, nearest}
use Rattle.source_laws.specs.Regions.{first_or_none}

-- ---- positions before a position

pub stands-here : (b : Before) → Stands b b
stands-here [] = refl
stands-here (o ∷ b) = inl refl

pub stands-start : (b : Before) → Stands [] b
stands-start [] = refl
stands-start (o ∷ b) = inr (stands-start b)

pub stands-trans : (a b c : Before) → Stands a b → Stands b c → Stands a c
stands-trans a b [] s t = subst (λ z. Stands a z) t s
stands-trans a b (o ∷ c) s (inl e) = subst (λ z. Stands a z) e s
stands-trans a b (o ∷ c) s (inr t) = inr (stands-trans a b c s t)

pub stands-tail : (o : Occurrence) (b c : Before) → Stands (o ∷ b) c → Stands b c
stands-tail o b c s = stands-trans b (o ∷ b) c (inr (stands-here b)) s

pub stands-length : (b c : Before) → Stands b c → length b ≤ length c
stands-length b [] e = let h : length b ≡ 0 = ap length e in omega arith
stands-length b (o ∷ c) (inl e) = let h : length b ≡ suc (length c) = ap length e in omega arith
stands-length b (o ∷ c) (inr s) = let h = stands-length b c s in omega arith

-- ---- regions around

pub behind-one_more : (passed : ℕ) (before : Before) → around_behind (suc passed) before ≡ all_but_innermost (around_behind passed before)
behind-one_more passed [] = refl
behind-one_more zero (begins r ∷ before) = refl
behind-one_more (suc passed) (begins r ∷ before) = behind-one_more passed before
behind-one_more passed (ends ∷ before) = behind-one_more (suc passed) before
behind-one_more passed (_ ∷ before) = behind-one_more passed before

pub outside-behind : (before : Before) → around_outside before ≡ around_behind 1 before
outside-behind before = sym (behind-one_more 0 before)

-- each stands before, with those around it
pub around-of_first : (passed : ℕ) (before b : Before) (bs : List Before) → around_behind passed before ≡ b ∷ bs → (around b ≡ b ∷ bs) × Stands b before
around-of_first passed [] b bs e = cc
around-of_first zero (begins r ∷ before) b bs e =
    let h : begins r ∷ before ≡ b = ap first_or_none e in
    (subst (λ z. around z ≡ b ∷ bs) h e, inl (sym h))
around-of_first (suc passed) (begins r ∷ before) b bs e = let h = around-of_first passed before b bs e in (h.0, inr h.1)
around-of_first passed (ends ∷ before) b bs e = let h = around-of_first (suc passed) before b bs e in (h.0, inr h.1)
around-of_first passed (_ ∷ before) b bs e = let h = around-of_first passed before b bs e in (h.0, inr h.1)

-- the beginning of the innermost of some regions around, or the start of the text
pub first-stands : (passed : ℕ) (before : Before) → Stands (first_or_none (around_behind passed before)) before
first-stands passed before = go (around_behind passed before) refl
  where
    go : (bs : List Before) → around_behind passed before ≡ bs → Stands (first_or_none bs) before
    go [] e = stands-start before
    go (b ∷ bs) e = (around-of_first passed before b bs e).1

pub first-length : (passed : ℕ) (before : Before) → length (first_or_none (around_behind passed before)) ≤ length before
first-length passed before = stands-length (first_or_none (around_behind passed before)) before (first-stands passed before)

-- ---- what is found by going back

-- tests that agree before a position find the same
pub nearest-same : (f g : Occurrence → Before → Bool) (before : Before) → ((o : Occurrence) (b : Before) → Stands (o ∷ b) before → f o b ≡ g o b)
    → nearest f before ≡ nearest g before
nearest-same f g [] same = refl
nearest-same f g (o ∷ before) same =
    let here : f o before ≡ g o before = same o before (inl refl) in
    let further = nearest-same f g before (λ p b s. same p b (inr s)) in
    rw (here, further)

pub nearest-stands : (f : Occurrence → Before → Bool) (before d : Before) → nearest f before ≡ Some d → Stands d before
nearest-stands f [] d e = cc
nearest-stands f (o ∷ before) d e = go (f o before) e (nearest-stands f before d)
  where
    go : (b : Bool) → cond b (Some (o ∷ before)) (nearest f before) ≡ Some d → (nearest f before ≡ Some d → Stands d before) → Stands d (o ∷ before)
    go true q more = inl (let h : o ∷ before ≡ d = cc in sym h)
    go false q more = inr (more q)

-- what a test is of the nearest for which it holds
abbrev pub Holds : (Occurrence → Before → Bool) → Before → Type 0
Holds f [] = ⊥
Holds f (o ∷ b) = f o b ≡ true

pub nearest-holds : (f : Occurrence → Before → Bool) (before d : Before) → nearest f before ≡ Some d → Holds f d
nearest-holds f [] d e = cc
nearest-holds f (o ∷ before) d e = go (f o before) refl e (nearest-holds f before d)
  where
    go : (b : Bool) → f o before ≡ b → cond b (Some (o ∷ before)) (nearest f before) ≡ Some d → (nearest f before ≡ Some d → Holds f d) → Holds f d
    go true t q more = let h : o ∷ before ≡ d = cc in subst (λ z. Holds f z) h t
    go false t q more = more q

pub nearest-none : (f : Occurrence → Before → Bool) (before : Before) → ((o : Occurrence) (b : Before) → Stands (o ∷ b) before → f o b ≡ false)
    → nearest f before ≡ None
nearest-none f [] none = refl
nearest-none f (o ∷ before) none =
    let here : f o before ≡ false = none o before (inl refl) in
    rw here (nearest-none f before (λ p b s. none p b (inr s)))

-- ---- what cannot be

pub none-some : {X : Type 0} (x : X) → None ≡ Some x → ⊥
none-some x e = cc

pub some-none : {X : Type 0} (x : X) → Some x ≡ None → ⊥
some-none x e = cc

pub false-true : false ≡ true → ⊥
false-true e = cc
