-- The number of a region is asked for often enough, and is that of something that stands before.
use Rattle.std.proofs.Common.{◌≡◌, ℕ, ◌≤◌, zero, suc, Bool, true, false, cond, List, [], ◌∷◌, length, Option, Some, None, refl, sym, ap, subst, ◌∙◌, arith}
use Rattle.ada_regions.specs.declared.entities.UnitKind.{UnitKind}
use Rattle.ada_regions.specs.declared.entities.UnitKind.TheVariants as unit
use Rattle.ada_regions.specs.Occurrences.{Occurrence, Region, the_context_of, package_body, task_body, protected_body, begins, declares, completes}
use Rattle.source_laws.specs.Positions.{Before, Stands, around_behind, around, around_outside}
use Rattle.source_laws.specs.Declarations.{is_package, is_unit_of, declares_here, starts_as_subprogram, body_completes, declares_name, declaration, if_so}
use Rattle.source_laws.specs.Regions.{unit_declared, package_declared, region_behind, context_around, number_of_region, number_of_beginning}
use Rattle.source_laws.specs.Regions.{first_or_none, number_within, number_of, number_of_innermost, region_of_position}
use Rattle.source_laws.proofs.Names.PositionLemmas.{stands-tail, stands-trans, stands-length, stands-here}
use Rattle.source_laws.proofs.Names.PositionLemmas.{outside-behind, first-length, nearest-same, nearest-stands}

-- two ways to number agree about all that stands before a position
abbrev Agree : (List Before → ℕ) → (List Before → ℕ) → Before → Type 0
Agree f g before = (passed : ℕ) (b : Before) → Stands b before → f (around_behind passed b) ≡ g (around_behind passed b)

if_so-stands : (test : Occurrence → Bool) (x : Option Before) (d : Before) → if_so test x ≡ Some d → x ≡ Some d
if_so-stands test None d e = cc
if_so-stands test (Some []) d e = cc
if_so-stands test (Some (o ∷ b)) d e = go (test o) e
  where
    go : (t : Bool) → cond t (Some (o ∷ b)) None ≡ Some d → Some (o ∷ b) ≡ Some d
    go true q = q
    go false q = cc

-- what was found as the nearest declaration stands before
declared-stands : (f : List Before → ℕ) (test : Occurrence → Bool) (region : ℕ) (name : List ℕ) (before d : Before)
    → if_so test (declaration f region name before) ≡ Some d → Stands d before
declared-stands f test region name before d e = nearest-stands (declares_name f region name) before d (if_so-stands test (declaration f region name before) d e)

module _ (f g : List Before → ℕ) (before : Before) (agree : Agree f g before) where
  outside-same : (b : Before) → Stands b before → f (around_outside b) ≡ g (around_outside b)
  outside-same b s = rw (outside-behind b) (agree 1 b s)

  here-same : (region : ℕ) (name : List ℕ) (o : Occurrence) (b : Before) → Stands (o ∷ b) before
      → declares_here f region name o b ≡ declares_here g region name o b
  here-same region name (declares i what) b s = rw (agree 0 b (stands-tail (declares i what) b before s)) refl
  here-same region name _ b s = refl

  completes-same : (region : ℕ) (name : List ℕ) (b : Before) → Stands b before → body_completes f region name b ≡ body_completes g region name b
  completes-same region name b s =
      ap starts_as_subprogram
      (nearest-same (declares_here f region name) (declares_here g region name) b (λ o c t. here-same region name o c (stands-trans (o ∷ c) b before t s)))

  name-same : (region : ℕ) (name : List ℕ) (o : Occurrence) (b : Before) → Stands (o ∷ b) before
      → declares_name f region name o b ≡ declares_name g region name o b
  name-same region name (completes i s) b t =
      let here : Stands b before = stands-tail (completes i s) b before t in rw (outside-same b here, completes-same region name b here) refl
  name-same region name (declares i what) b t = here-same region name (declares i what) b t
  name-same region name _ b t = refl

  declaration-same : (region : ℕ) (name : List ℕ) → declaration f region name before ≡ declaration g region name before
  declaration-same region name = nearest-same (declares_name f region name) (declares_name g region name) before (name-same region name)

  unit-same : (kind : UnitKind) (name : List ℕ) → unit_declared f kind name before ≡ unit_declared g kind name before
  unit-same kind name =
      let home = agree 0 before (stands-here before) in
      ap (λ n. if_so (is_unit_of kind) (declaration f n name before)) home ∙ ap (if_so (is_unit_of kind)) (declaration-same (g (around before)) name)

  package-same : (name : List ℕ) → package_declared f name before ≡ package_declared g name before
  package-same name = ap (if_so is_package) (declaration-same 0 name)

  context-same : (x : Option Before) (own : ℕ) → ((d : Before) → x ≡ Some d → Stands d before) → context_around f x own ≡ context_around g x own
  context-same None own stands = refl
  context-same (Some d) own stands = agree 0 d (stands d refl)

  region-same : (r : Region) → number_of_region f r before ≡ number_of_region g r before
  region-same (package_body i) = rw (package-same i.text) refl
  region-same (the_context_of i) =
      context-same (package_declared f i.text before) (suc (length before)) (λ d e. declared-stands f is_package 0 i.text before d e)
      ∙ ap (λ x. context_around g x (suc (length before))) (package-same i.text)
  region-same (task_body i place) = rw (unit-same unit.Task i.text) refl
  region-same (protected_body i) = rw (unit-same unit.Protected i.text) refl
  region-same _ = refl

  beginning-same : (o : Occurrence) → number_of_beginning f o before ≡ number_of_beginning g o before
  beginning-same (begins r) = region-same r
  beginning-same _ = refl

within-agree : (k m n : ℕ) (b : Before) → length b ≤ k → k ≤ m → k ≤ n → number_within m b ≡ number_within n b
within-agree k zero zero [] le lm ln = refl
within-agree k zero (suc n) [] le lm ln = refl
within-agree k (suc m) zero [] le lm ln = refl
within-agree k (suc m) (suc n) [] le lm ln = refl
within-agree zero m n (o ∷ before) le lm ln = absurd (omega arith)
within-agree (suc k) zero n (o ∷ before) le lm ln = absurd (omega arith)
within-agree (suc k) (suc m) zero (o ∷ before) le lm ln = absurd (omega arith)
within-agree (suc k) (suc m) (suc n) (o ∷ before) le lm ln =
    beginning-same (λ bs. number_within m (first_or_none bs)) (λ bs. number_within n (first_or_none bs)) before (λ passed b s.
    within-agree k m n (first_or_none (around_behind passed b))
    (let h = first-length passed b in let l = stands-length b before s in omega arith) (omega arith) (omega arith)) o

-- the number of a beginning is found from those before it
pub number-beginning : (o : Occurrence) (before : Before) → number_of (o ∷ before) ≡ number_of_beginning number_of_innermost o before
unfolding number_of
number-beginning o before =
    beginning-same (λ bs. number_within (length before) (first_or_none bs)) number_of_innermost before (λ passed b s.
    let first = first_or_none (around_behind passed b) in
    let h : length first ≤ length b = first-length passed b in
    let l = stands-length b before s in
    within-agree (length first) (length before) (length first) first (omega arith) (omega arith) (omega arith)) o

pub number-start : number_of [] ≡ 0
unfolding number_of
number-start = refl

-- a number is at most the length of what stands there
behind-le : (x : Option Before) (before : Before) → ((d : Before) → x ≡ Some d → Stands d before)
    → region_behind number_of_innermost x (suc (length before)) ≤ suc (length before)
behind-le None before stands = omega arith
behind-le (Some d) before stands = let h = stands-length d before (stands d refl) in omega arith

context-le : (x : Option Before) (before : Before) → ((d : Before) → x ≡ Some d → Stands d before)
    → ((d : Before) → Stands d before → number_of_innermost (around d) ≤ length d)
    → context_around number_of_innermost x (suc (length before)) ≤ suc (length before)
context-le None before stands smaller = omega arith
context-le (Some d) before stands smaller = let s = stands-length d before (stands d refl) in let h = smaller d (stands d refl) in omega arith

beginning-le : (o : Occurrence) (before : Before) → ((d : Before) → Stands d before → number_of_innermost (around d) ≤ length d)
    → number_of_beginning number_of_innermost o before ≤ suc (length before)
beginning-le (begins (package_body i)) before smaller =
    behind-le (package_declared number_of_innermost i.text before) before (λ d e. declared-stands number_of_innermost is_package 0 i.text before d e)
beginning-le (begins (the_context_of i)) before smaller =
    context-le (package_declared number_of_innermost i.text before) before (λ d e. declared-stands number_of_innermost is_package 0 i.text before d e) smaller
beginning-le (begins (task_body i place)) before smaller =
    behind-le (unit_declared number_of_innermost unit.Task i.text before) before
    (λ d e. declared-stands number_of_innermost (is_unit_of unit.Task) (region_of_position before) i.text before d e)
beginning-le (begins (protected_body i)) before smaller =
    behind-le (unit_declared number_of_innermost unit.Protected i.text before) before
    (λ d e. declared-stands number_of_innermost (is_unit_of unit.Protected) (region_of_position before) i.text before d e)
beginning-le (begins _) before smaller = omega arith
beginning-le _ before smaller = omega arith

pub number-le : (k : ℕ) (b : Before) → length b ≤ k → number_of b ≤ length b
number-le k [] le = omega (arith, number-start)
number-le zero (o ∷ before) le = absurd (omega arith)
number-le (suc k) (o ∷ before) le =
    subst (λ n. n ≤ suc (length before)) (sym (number-beginning o before)) (beginning-le o before (λ d s. (
    let f = first-length 0 d in
    let l = stands-length d before s in
    let h = number-le k (first_or_none (around d)) (omega arith) in
    omega arith)))

pub position-le : (b : Before) → region_of_position b ≤ length b
position-le b = let h = first-length 0 b in let n = number-le (length (first_or_none (around b))) (first_or_none (around b)) (omega arith) in omega arith
