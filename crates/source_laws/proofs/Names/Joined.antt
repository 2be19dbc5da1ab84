-- What use clauses make visible together: the table joins what each shows, and by position it is listed, each meaning once. Both
-- tell one set, in which neither order nor repetition matters.
use Rattle.std.proofs.Common.{◌≡◌, ◌⊎◌, inl, inr, ℕ, Bool, true, false, cond, ◌||◌, List, [], ◌∷◌, map, Option}
use Rattle.std.proofs.Common.{Some, None, unwrap_or, slice_get, eqb, refl, sym, ap, subst, ◌∙◌, eqb-true, eq-eqb}
use borrow.Author.Tests.{eqb-false}
use Rattle.std.specs.List.{list_any}
use Rattle.ada_tree.specs.declared.names.Name.{Name}
use Rattle.ada_regions.specs.declared.predefined.PredefinedUnit.{PredefinedUnit}
use Rattle.ada_regions.specs.declared.predefined.PredefinedUnit.TheVariants as units
use Rattle.ada_regions.specs.declared.entities.Denoted.{Denoted}
use Rattle.ada_regions.specs.declared.entities.Denoted.TheVariants as denotes
use Rattle.ada_regions.specs.declared.entities.Sought.{Sought}
use Rattle.ada_regions.specs.declared.entities.Sought.TheVariants as answer
use Rattle.ada_regions.specs.declared.table.Frame.{Frame}
use Rattle.ada_regions.specs.declared.table.UseClause.{UseClause}
use Rattle.ada_regions.specs.declared.table.Names.{Names}
use Rattle.ada_regions.specs.PredefinedUnits.{unit_number, same_unit}
use Rattle.ada_regions.specs.Occurrences.{Occurrence, use_package}
use Rattle.ada_regions.specs.Visibility.{same_denoted, joined_if, visible_in, used_in, used_around}
use Rattle.source_laws.specs.Positions.{Before, Stands}
use Rattle.source_laws.specs.DirectNames.{Meaning, is_declared, is_unit, is_item, is_nothing, is_several}
use Rattle.source_laws.specs.UseClauses.{stands_around, visible_by, same_meaning, with_meaning, by_clauses, one_of}
use Rattle.source_laws.proofs.Names.PositionLemmas.{false-true}
use Rattle.source_laws.proofs.Names.Known.{opened_as}
use Rattle.source_laws.proofs.Names.Kept.{numbers_of}
use Rattle.source_laws.proofs.Names.Denoting.{same_place-path, same_place-itself}

-- ---- the same unit

all_units : List PredefinedUnit
all_units =
    units.Standard ∷ units.Ada ∷ units.System ∷ units.TextIo ∷ units.RealTime ∷ units.TimingEvents ∷ units.ExecutionTime ∷ units.Timers ∷ units.GroupBudgets
    ∷ units.DynamicPriorities
    ∷ units.TaskIdentification ∷ units.Dispatching ∷ units.RoundRobin ∷ units.Edf ∷ units.Finalization ∷ units.ScriptPorts ∷ []

unit_numbered : ℕ → PredefinedUnit
unit_numbered k = unwrap_or (slice_get all_units k) units.Standard

numbered-unit : (u : PredefinedUnit) → unit_numbered (unit_number u) ≡ u
unfolding unit_numbered all_units
numbered-unit units.Standard = refl
numbered-unit units.Ada = refl
numbered-unit units.System = refl
numbered-unit units.TextIo = refl
numbered-unit units.RealTime = refl
numbered-unit units.TimingEvents = refl
numbered-unit units.ExecutionTime = refl
numbered-unit units.Timers = refl
numbered-unit units.GroupBudgets = refl
numbered-unit units.DynamicPriorities = refl
numbered-unit units.TaskIdentification = refl
numbered-unit units.Dispatching = refl
numbered-unit units.RoundRobin = refl
numbered-unit units.Edf = refl
numbered-unit units.Finalization = refl
numbered-unit units.ScriptPorts = refl

pub same_unit-path : (a b : PredefinedUnit) → same_unit a b ≡ true → a ≡ b
unfolding same_unit
same_unit-path a b e = sym (numbered-unit a) ∙ (ap unit_numbered (eqb-true (unit_number a) (unit_number b) e) ∙ numbered-unit b)

pub same_unit-itself : (a : PredefinedUnit) → same_unit a a ≡ true
unfolding same_unit
same_unit-itself a = eq-eqb (unit_number a) (unit_number a) refl

-- ---- the same denotation, the same meaning

same_denoted-itself : (d : Denoted) → same_denoted d d ≡ true
unfolding same_denoted
same_denoted-itself (denotes.Entity e) = eq-eqb e e refl
same_denoted-itself (denotes.Unit u) = same_unit-itself u
same_denoted-itself (denotes.Item u i) = same_unit-itself u

pub same_meaning-path : (a b : Meaning) → same_meaning a b ≡ true → a ≡ b
same_meaning-path (is_declared p) (is_declared q) e = ap is_declared (same_place-path p q e)
same_meaning-path (is_unit u) (is_unit v) e = ap is_unit (same_unit-path u v e)
same_meaning-path (is_item u) (is_item v) e = ap is_item (same_unit-path u v e)
same_meaning-path is_nothing is_nothing e = refl
same_meaning-path is_several is_several e = refl
same_meaning-path _ _ e = cc

pub same_meaning-itself : (a : Meaning) → same_meaning a a ≡ true
same_meaning-itself (is_declared p) = same_place-itself p
same_meaning-itself (is_unit u) = same_unit-itself u
same_meaning-itself (is_item u) = same_unit-itself u
same_meaning-itself is_nothing = refl
same_meaning-itself is_several = refl

-- ---- what is sought tells a set of denotations

abbrev pub Tells : Sought → (Denoted → Type 0) → Type 0
Tells answer.Unknown Has = (d : Denoted) → Has d → ⊥
Tells (answer.Found e) Has = Has e × ((d : Denoted) → Has d → same_denoted d e ≡ true)
Tells answer.Ambiguous Has = (d : Denoted) × (e : Denoted) × Has d × Has e × (same_denoted d e ≡ false)

tells-as : (s : Sought) (A B : Denoted → Type 0) → ((d : Denoted) → A d → B d) → ((d : Denoted) → B d → A d) → Tells s A → Tells s B
tells-as answer.Unknown A B to from t = λ d b. t d (from d b)
tells-as (answer.Found e) A B to from t = (to e t.0, λ d b. t.1 d (from d b))
tells-as answer.Ambiguous A B to from t = (t.0, t.1, to t.0 t.2, to t.1 t.3, t.4)

some-denoted : (a b : Denoted) → Some a ≡ Some b → a ≡ b
some-denoted a b e = cc

joined-found : (d e : Denoted) (A : Denoted → Type 0) → A e → ((x : Denoted) → A x → same_denoted x e ≡ true) → (t : Bool) → same_denoted d e ≡ t
    → Tells (cond t (answer.Found e) answer.Ambiguous) (λ x. (Some d ≡ Some x) ⊎ A x)
joined-found d e A has all true same = (inr has, every)
  where
    every : (x : Denoted) → (Some d ≡ Some x) ⊎ A x → same_denoted x e ≡ true
    every x (inl q) = ap (λ z. same_denoted z e) (sym (some-denoted d x q)) ∙ same
    every x (inr a) = all x a
joined-found d e A has all false same = (d, e, inl refl, inr has, same)

tells-joined : (x : Option Denoted) (s : Sought) (A : Denoted → Type 0) → Tells s A → Tells (joined_if x s) (λ d. (x ≡ Some d) ⊎ A d)
tells-joined None s A t = tells-as s A (λ d. (None ≡ Some d) ⊎ A d) (λ d a. inr a) from t
  where
    from : (d : Denoted) → (None ≡ Some d) ⊎ A d → A d
    from d (inl q) = cc
    from d (inr a) = a
tells-joined (Some d) answer.Unknown A t = (inl refl, every)
  where
    every : (x : Denoted) → (Some d ≡ Some x) ⊎ A x → same_denoted x d ≡ true
    every x (inl q) = ap (λ z. same_denoted z d) (sym (some-denoted d x q)) ∙ same_denoted-itself d
    every x (inr a) = absurd (t x a)
tells-joined (Some d) (answer.Found e) A t = joined-found d e A t.0 t.1 (same_denoted d e) refl
tells-joined (Some d) answer.Ambiguous A t = (t.0, t.1, inr t.2, inr t.3, t.4)

-- ---- the use clauses of the table

abbrev pub Among : {X : Type 0} → X → List X → Type 0
Among x [] = ⊥
Among x (y ∷ ys) = (y ≡ x) ⊎ Among x ys

module _ (n : Names) (name : List ℕ) where
  -- what the clauses of a region show, and others
  Shown : ℕ → List UseClause → (Denoted → Type 0) → Denoted → Type 0
  Shown region [] Others d = Others d
  Shown region (u ∷ us) Others d = ((u.region ≡ region) × (visible_in n name u.used ≡ Some d)) ⊎ Shown region us Others d

  tells-shown : (region : ℕ) (us : List UseClause) (others : Sought) (Others : Denoted → Type 0) → Tells others Others
      → Tells (used_in n name region us others) (Shown region us Others)
  unfolding Shown
  tells-shown region [] others Others t = t
  tells-shown region (u ∷ us) others Others t = go (eqb u.region region) refl (tells-shown region us others Others t)
    where
      both : u.region ≡ region → (d : Denoted) → (visible_in n name u.used ≡ Some d) ⊎ Shown region us Others d
          → ((u.region ≡ region) × (visible_in n name u.used ≡ Some d)) ⊎ Shown region us Others d
      both e d (inl q) = inl (e, q)
      both e d (inr q) = inr q

      first : (d : Denoted) → ((u.region ≡ region) × (visible_in n name u.used ≡ Some d)) ⊎ Shown region us Others d
          → (visible_in n name u.used ≡ Some d) ⊎ Shown region us Others d
      first d (inl q) = inl q.1
      first d (inr q) = inr q

      away : (u.region ≡ region → ⊥) → (d : Denoted) → ((u.region ≡ region) × (visible_in n name u.used ≡ Some d)) ⊎ Shown region us Others d
          → Shown region us Others d
      away other d (inl q) = absurd (other q.0)
      away other d (inr q) = q

      go : (t : Bool) → eqb u.region region ≡ t → Tells (used_in n name region us others) (Shown region us Others)
          → Tells (cond t (joined_if (visible_in n name u.used) (used_in n name region us others)) (used_in n name region us others))
          (λ d. ((u.region ≡ region) × (visible_in n name u.used ≡ Some d)) ⊎ Shown region us Others d)
      go true e more =
          tells-as (joined_if (visible_in n name u.used) (used_in n name region us others))
          (λ d. (visible_in n name u.used ≡ Some d) ⊎ Shown region us Others d) _ (both (eqb-true u.region region e)) first
          (tells-joined (visible_in n name u.used) (used_in n name region us others) (Shown region us Others) more)
      go false e more = tells-as (used_in n name region us others) (Shown region us Others) _ (λ d q. inr q) (away (eqb-false u.region region e)) more

  -- what the clauses of these regions show
  Along : List ℕ → Denoted → Type 0
  Along [] d = ⊥
  Along (r ∷ rs) d = Shown r n.uses (Along rs) d

  used_along : List ℕ → Sought
  used_along [] = answer.Unknown
  used_along (r ∷ rs) = used_in n name r n.uses (used_along rs)

  tells-along : (rs : List ℕ) → Tells (used_along rs) (Along rs)
  unfolding Along used_along
  tells-along [] = λ d a. a
  tells-along (r ∷ rs) = tells-shown r n.uses (used_along rs) (Along rs) (tells-along rs)

  around-along : (fs : List Frame) → used_around n name fs ≡ used_along (numbers_of (map opened_as fs))
  unfolding used_along
  around-along [] = refl
  around-along (f ∷ fs) = ap (used_in n name f.region n.uses) (around-along fs)

  -- a clause among them that shows it
  abbrev pub ShownBy : List ℕ → Denoted → Type 0
  ShownBy rs d = (u : UseClause) × Among u n.uses × Among u.region rs × (visible_in n name u.used ≡ Some d)

  shown-by : (region : ℕ) (us : List UseClause) (Others : Denoted → Type 0) (d : Denoted) → Shown region us Others d
      → ((u : UseClause) × Among u us × (u.region ≡ region) × (visible_in n name u.used ≡ Some d)) ⊎ Others d
  unfolding Shown
  shown-by region [] Others d s = inr s
  shown-by region (u ∷ us) Others d (inl q) = inl (u, inl refl, q.0, q.1)
  shown-by region (u ∷ us) Others d (inr q) = go (shown-by region us Others d q)
    where
      go : ((v : UseClause) × Among v us × (v.region ≡ region) × (visible_in n name v.used ≡ Some d)) ⊎ Others d
          → ((v : UseClause) × Among v (u ∷ us) × (v.region ≡ region) × (visible_in n name v.used ≡ Some d)) ⊎ Others d
      go (inl h) = inl (h.0, inr h.1, h.2, h.3)
      go (inr h) = inr h

  by-shown : (region : ℕ) (us : List UseClause) (Others : Denoted → Type 0) (u : UseClause) (d : Denoted) → Among u us → u.region ≡ region
      → visible_in n name u.used ≡ Some d → Shown region us Others d
  unfolding Shown
  by-shown region [] Others u d a e v = absurd a
  by-shown region (w ∷ us) Others u d (inl q) e v = inl (ap (λ (z : UseClause). z.region) q ∙ e, ap (λ (z : UseClause). visible_in n name z.used) q ∙ v)
  by-shown region (w ∷ us) Others u d (inr q) e v = inr (by-shown region us Others u d q e v)

  others-shown : (region : ℕ) (us : List UseClause) (Others : Denoted → Type 0) (d : Denoted) → Others d → Shown region us Others d
  unfolding Shown
  others-shown region [] Others d o = o
  others-shown region (u ∷ us) Others d o = inr (others-shown region us Others d o)

  along-by : (rs : List ℕ) (d : Denoted) → Along rs d → ShownBy rs d
  unfolding Along
  along-by [] d a = absurd a
  along-by (r ∷ rs) d a = go (shown-by r n.uses (Along rs) d a) (along-by rs d)
    where
      go : ((u : UseClause) × Among u n.uses × (u.region ≡ r) × (visible_in n name u.used ≡ Some d)) ⊎ Along rs d → (Along rs d → ShownBy rs d)
          → ShownBy (r ∷ rs) d
      go (inl h) more = (h.0, h.1, inl (sym h.2), h.3)
      go (inr h) more = let m = more h in (m.0, m.1, inr m.2, m.3)

  by-along : (rs : List ℕ) (d : Denoted) → ShownBy rs d → Along rs d
  unfolding Along
  by-along [] d s = absurd s.2
  by-along (r ∷ rs) d s = go s.2 (λ a. by-along rs d (s.0, s.1, a, s.3))
    where
      go : (r ≡ s.0.region) ⊎ Among s.0.region rs → (Among s.0.region rs → Along rs d) → Shown r n.uses (Along rs) d
      go (inl e) more = by-shown r n.uses (Along rs) s.0 d s.1 (sym e) s.3
      go (inr a) more = others-shown r n.uses (Along rs) d (more a)

  pub tells-used : (fs : List Frame) → Tells (used_around n name fs) (ShownBy (numbers_of (map opened_as fs)))
  tells-used fs =
      let rs = numbers_of (map opened_as fs) in
      subst (λ s. Tells s (ShownBy rs)) (sym (around-along fs)) (tells-as (used_along rs) (Along rs) (ShownBy rs) (along-by rs) (by-along rs) (tells-along rs))

-- ---- a list of meanings, each once, tells a set

abbrev pub Lists : List Meaning → (Meaning → Type 0) → Type 0
Lists [] Has = (m : Meaning) → Has m → ⊥
Lists (m ∷ []) Has = Has m × ((k : Meaning) → Has k → k ≡ m)
Lists (m ∷ n ∷ more) Has = Has m × Has n × (m ≡ n → ⊥)

lists-as : (ms : List Meaning) (A B : Meaning → Type 0) → ((m : Meaning) → A m → B m) → ((m : Meaning) → B m → A m) → Lists ms A → Lists ms B
lists-as [] A B to from l = λ m b. l m (from m b)
lists-as (m ∷ []) A B to from l = (to m l.0, λ k b. l.1 k (from k b))
lists-as (m ∷ n ∷ more) A B to from l = (to m l.0, to n l.1, l.2)

some-meaning : (a b : Meaning) → Some a ≡ Some b → a ≡ b
some-meaning a b e = cc

differ : (a b : Meaning) → same_meaning a b ≡ false → a ≡ b → ⊥
differ a b e q = false-true (sym e ∙ (ap (λ z. same_meaning z b) q ∙ same_meaning-itself b))

or-first : (x y : Bool) → (x || y) ≡ false → x ≡ false
or-first true y e = e
or-first false y e = refl

lists-more : (k : Meaning) (ms : List Meaning) (A : Meaning → Type 0) → Lists ms A → (t : Bool) → list_any (same_meaning k) ms ≡ t
    → Lists (cond t ms (k ∷ ms)) (λ m. (Some k ≡ Some m) ⊎ A m)
lists-more k [] A l true e = absurd (false-true e)
lists-more k [] A l false e = (inl refl, every)
  where
    every : (m : Meaning) → (Some k ≡ Some m) ⊎ A m → m ≡ k
    every m (inl q) = sym (some-meaning k m q)
    every m (inr a) = absurd (l m a)
lists-more k (n ∷ []) A l true e = (inr l.0, every)
  where
    or-none : (x : Bool) → (x || false) ≡ true → x ≡ true
    or-none true q = refl
    or-none false q = q

    every : (m : Meaning) → (Some k ≡ Some m) ⊎ A m → m ≡ n
    every m (inl q) = sym (some-meaning k m q) ∙ same_meaning-path k n (or-none (same_meaning k n) e)
    every m (inr a) = l.1 m a
lists-more k (n ∷ []) A l false e = (inl refl, inr l.0, differ k n (or-first (same_meaning k n) false e))
lists-more k (n ∷ m ∷ more) A l true e = (inr l.0, inr l.1, l.2)
lists-more k (n ∷ m ∷ more) A l false e = (inl refl, inr l.0, differ k n (or-first (same_meaning k n) (list_any (same_meaning k) (m ∷ more)) e))

lists-with : (x : Option Meaning) (ms : List Meaning) (A : Meaning → Type 0) → Lists ms A → Lists (with_meaning x ms) (λ m. (x ≡ Some m) ⊎ A m)
lists-with None ms A l = lists-as ms A (λ m. (None ≡ Some m) ⊎ A m) (λ m a. inr a) from l
  where
    from : (m : Meaning) → (None ≡ Some m) ⊎ A m → A m
    from m (inl q) = cc
    from m (inr a) = a
lists-with (Some k) ms A l = lists-more k ms A l (list_any (same_meaning k) ms) refl

-- ---- the use clauses of a text

module _ (meaning : Name → Before → Meaning) (last : ℕ) (name : List ℕ) (here : Before) where
  -- a clause that stands before and shows it
  abbrev pub ClauseShows : Before → Meaning → Type 0
  ClauseShows c m =
      (p : Name) × (b : Before) × Stands (use_package p ∷ b) c × (stands_around here b ≡ true) × (visible_by last name here (meaning p b) ≡ Some m)

  clause-farther : (o : Occurrence) (c : Before) (m : Meaning) → ClauseShows c m → ClauseShows (o ∷ c) m
  clause-farther o c m s = (s.0, s.1, inr s.2, s.3, s.4)

  abbrev no_use : Occurrence → Type 0
  no_use (use_package p) = ⊥
  no_use _ = Unit {0}

  clause-nearer : (o : Occurrence) (c : Before) → no_use o → (m : Meaning) → ClauseShows (o ∷ c) m → ClauseShows c m
  clause-nearer o c plain m (p, b, inl e, a, v) = let h : o ≡ use_package p = cc in absurd (subst no_use h plain)
  clause-nearer o c plain m (p, b, inr s, a, v) = (p, b, s, a, v)

  lists-farther : (o : Occurrence) (c : Before) (ms : List Meaning) → no_use o → Lists ms (ClauseShows c) → Lists ms (ClauseShows (o ∷ c))
  lists-farther o c ms plain l = lists-as ms (ClauseShows c) (ClauseShows (o ∷ c)) (clause-farther o c) (clause-nearer o c plain) l

  lists-use : (p : Name) (c : Before) (ms : List Meaning) → Lists ms (ClauseShows c)
      → Lists (cond (stands_around here c) (with_meaning (visible_by last name here (meaning p c)) ms) ms) (ClauseShows (use_package p ∷ c))
  lists-use p c ms l = go (stands_around here c) refl
    where
      to : stands_around here c ≡ true → (m : Meaning) → (visible_by last name here (meaning p c) ≡ Some m) ⊎ ClauseShows c m
          → ClauseShows (use_package p ∷ c) m
      to e m (inl q) = (p, c, inl refl, e, q)
      to e m (inr q) = clause-farther (use_package p) c m q

      here-or : (q : Name) (b : Before) → use_package q ∷ b ≡ use_package p ∷ c → (q ≡ p) × (b ≡ c)
      here-or q b e = (cc, cc)

      from : (m : Meaning) → ClauseShows (use_package p ∷ c) m → (visible_by last name here (meaning p c) ≡ Some m) ⊎ ClauseShows c m
      from m (q, b, inl e, a, v) =
          let h = here-or q b e in
          inl (ap (λ z. visible_by last name here (meaning z c)) (sym h.0) ∙ (ap (λ z. visible_by last name here (meaning q z)) (sym h.1) ∙ v))
      from m (q, b, inr s, a, v) = inr (q, b, s, a, v)

      away : stands_around here c ≡ false → (m : Meaning) → ClauseShows (use_package p ∷ c) m → ClauseShows c m
      away f m (q, b, inl e, a, v) = let h = here-or q b e in absurd (false-true (sym f ∙ (ap (stands_around here) (sym h.1) ∙ a)))
      away f m (q, b, inr s, a, v) = (q, b, s, a, v)

      go : (t : Bool) → stands_around here c ≡ t
          → Lists (cond t (with_meaning (visible_by last name here (meaning p c)) ms) ms) (ClauseShows (use_package p ∷ c))
      go true e =
          lists-as (with_meaning (visible_by last name here (meaning p c)) ms) (λ m. (visible_by last name here (meaning p c) ≡ Some m) ⊎ ClauseShows c m)
          (ClauseShows (use_package p ∷ c)) (to e) from
          (lists-with (visible_by last name here (meaning p c)) ms (ClauseShows c) l)
      go false e = lists-as ms (ClauseShows c) (ClauseShows (use_package p ∷ c)) (clause-farther (use_package p) c) (away e) l

  pub lists-clauses : (c : Before) → Lists (by_clauses meaning last name here c) (ClauseShows c)
  lists-clauses [] = λ m (p, b, s, a, v). cc
  lists-clauses (use_package p ∷ c) = lists-use p c (by_clauses meaning last name here c) (lists-clauses c)
  lists-clauses (o ∷ c) = lists-farther o c (by_clauses meaning last name here c) tt (lists-clauses c)

-- ---- both tell the same

abbrev pub meaning_sought : (Denoted → Meaning) → Sought → Meaning
meaning_sought told answer.Unknown = is_nothing
meaning_sought told (answer.Found d) = told d
meaning_sought told answer.Ambiguous = is_several

module _ (told : Denoted → Meaning) (A : Denoted → Type 0) (M : Meaning → Type 0) (to : (d : Denoted) → A d → M (told d))
    (from : (m : Meaning) → M m → (d : Denoted) × A d × (told d ≡ m))
    (alike : (d e : Denoted) → A d → A e → told d ≡ told e → same_denoted d e ≡ true)
    (agree : (d e : Denoted) → same_denoted d e ≡ true → told d ≡ told e) where
  pub told-one : (s : Sought) (ms : List Meaning) → Tells s A → Lists ms M → meaning_sought told s ≡ one_of ms
  told-one answer.Unknown [] t l = refl
  told-one answer.Unknown (m ∷ []) t l = let f = from m l.0 in absurd (t f.0 f.1)
  told-one answer.Unknown (m ∷ n ∷ more) t l = let f = from m l.0 in absurd (t f.0 f.1)
  told-one (answer.Found e) [] t l = absurd (l (told e) (to e t.0))
  told-one (answer.Found e) (m ∷ []) t l = l.1 (told e) (to e t.0)
  told-one (answer.Found e) (m ∷ n ∷ more) t l =
      let f = from m l.0 in
      let g = from n l.1 in
      absurd (l.2 (sym f.2 ∙ (agree f.0 e (t.1 f.0 f.1) ∙ (sym (agree g.0 e (t.1 g.0 g.1)) ∙ g.2))))
  told-one answer.Ambiguous [] t l = absurd (l (told t.0) (to t.0 t.2))
  told-one answer.Ambiguous (m ∷ []) t l =
      absurd (false-true (sym t.4 ∙ alike t.0 t.1 t.2 t.3 (l.1 (told t.0) (to t.0 t.2) ∙ sym (l.1 (told t.1) (to t.1 t.3)))))
  told-one answer.Ambiguous (m ∷ n ∷ more) t l = refl
