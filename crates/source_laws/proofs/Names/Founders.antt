-- The number of a region tells where it first began: a body's is that of its declaration. No region of another sort has the number
-- of a context with clauses, and none has that of Standard.
use Rattle.std.proofs.Common.{◌≡◌, ◌⊎◌, inl, inr, ℕ, ◌<◌, zero, suc, Bool, true, false, List, [], ◌∷◌}
use Rattle.std.proofs.Common.{length, Option, Some, None, eqb, refl, sym, ap, subst, ◌∙◌, arith, ne_eqb}
use Rattle.ada_tree.specs.declared.names.Identifier.{Identifier}
use Rattle.ada_regions.specs.declared.entities.UnitKind.{UnitKind}
use Rattle.ada_regions.specs.declared.entities.UnitKind.TheVariants as unit
use Rattle.ada_regions.specs.Occurrences.{Occurrence, Region, the_package, a_derived_type, a_task, a_protected, the_context, the_context_of, further_context}
use Rattle.ada_regions.specs.Occurrences.{package_region, package_body, main_body, a_profile, subprogram_body, a_unit, task_body, protected_body, entry_body}
use Rattle.ada_regions.specs.Occurrences.{an_accept, a_block, a_loop, a_record, begins, ends, declares, declares_unit, with_unit, use_package}
use Rattle.source_laws.specs.Positions.{Before, Stands, around_behind, around}
use Rattle.source_laws.specs.Declarations.{is_package, is_unit_of, declaration, declares_name, if_so}
use Rattle.source_laws.specs.Regions.{number_of_innermost, region_of_position, number_of, package_declared, region_behind, context_around}
use Rattle.source_laws.proofs.Names.PositionLemmas.{false-true, none-some, stands-here, stands-trans, stands-length, around-of_first, nearest-stands}
use Rattle.source_laws.proofs.Names.NumberLemmas.{number-beginning}
use Rattle.source_laws.proofs.Names.KnownDeclared.{region_behind_it}
use Rattle.source_laws.proofs.Names.Placing.{Placed, IsPlaced, clauses_here}
use Rattle.source_laws.proofs.Names.Texts.{IsText, FitsBehind, begins_next}
use Rattle.source_laws.proofs.Names.KeptBodies.{package-shape, begun-stands}
use Rattle.source_laws.proofs.Names.KeptUnits.{if_so-found}
use Rattle.source_laws.proofs.Names.Lawful.{text-stands}
use Rattle.source_laws.proofs.Names.Exports.{same_length}
use Rattle.source_laws.proofs.Names.Flags.{shows}

-- ---- positions that stand before

pub placed-stands : (b before : Before) → Stands b before → IsPlaced before → IsPlaced b
placed-stands b [] s p = subst IsPlaced (sym s) p
placed-stands b (o ∷ before) (inl e) p = subst IsPlaced (sym e) p
placed-stands b (o ∷ before) (inr s) p = placed-stands b before s p.1

-- of two positions one stands before the other
pub stands-either : (b d c : Before) → Stands b c → Stands d c → Stands b d ⊎ Stands d b
stands-either b d [] s t = inl (subst (λ z. Stands b z) (s ∙ sym t) (stands-here b))
stands-either b d (o ∷ c) (inl p) (inl q) = inl (subst (λ z. Stands b z) (p ∙ sym q) (stands-here b))
stands-either b d (o ∷ c) (inl p) (inr t) = inr (subst (λ z. Stands d z) (sym p) (inr t))
stands-either b d (o ∷ c) (inr s) (inl q) = inl (subst (λ z. Stands b z) (sym q) (inr s))
stands-either b d (o ∷ c) (inr s) (inr t) = stands-either b d c s t

-- a region around began with its beginning
pub around-begins : (passed : ℕ) (before x : Before) (xs : List Before) → around_behind passed before ≡ x ∷ xs
    → (r : Region) × (c : Before) × (x ≡ begins r ∷ c)
around-begins passed [] x xs e = cc
around-begins zero (begins r ∷ before) x xs e = (r, before, (let h : begins r ∷ before ≡ x = cc in sym h))
around-begins (suc passed) (begins r ∷ before) x xs e = around-begins passed before x xs e
around-begins passed (ends ∷ before) x xs e = around-begins (suc passed) before x xs e
around-begins passed (_ ∷ before) x xs e = around-begins passed before x xs e

-- ---- what may begin behind a declaration

behind-shows : (o : Occurrence) (r : Region) (b : Before) → region_behind_it o ≡ Some r → shows (begins r ∷ b) ≡ true
behind-shows (declares i (a_derived_type parent)) r b e = let h : a_record i ≡ r = cc in ap (λ q. shows (begins q ∷ b)) (sym h)
behind-shows (declares i (a_task is_type aspects)) r b e = let h : a_unit i ≡ r = cc in ap (λ q. shows (begins q ∷ b)) (sym h)
behind-shows (declares i (a_protected is_type aspects)) r b e = let h : a_unit i ≡ r = cc in ap (λ q. shows (begins q ∷ b)) (sym h)
behind-shows (declares_unit i the_package) r b e = let h : package_region i ≡ r = cc in ap (λ q. shows (begins q ∷ b)) (sym h)
behind-shows _ r b e = absurd (none-some r e)

-- a region of another sort begins where none is about to
pub settled-behind : (r : Region) (before : Before) → FitsBehind (begins_next before) (begins r) → shows (begins r ∷ []) ≡ false → begins_next before ≡ None
settled-behind r [] fits none = refl
settled-behind r (o ∷ b) fits none = go (region_behind_it o) refl
  where
    go : (x : Option Region) → region_behind_it o ≡ x → region_behind_it o ≡ None
    go None e = e
    go (Some q) e =
        let same : begins r ≡ begins q = subst (λ z. FitsBehind z (begins r)) e fits in
        absurd (false-true (sym none ∙ (ap (λ z. shows (z ∷ [])) same ∙ behind-shows o q [] e)))

-- ---- where a region first began

abbrev pub is_context : Before → Bool
is_context (begins the_context ∷ b) = true
is_context (begins further_context ∷ b) = true
is_context _ = false

abbrev pub IsNoContext : Region → Type 0
IsNoContext the_context = ⊥
IsNoContext (the_context_of i) = ⊥
IsNoContext further_context = ⊥
IsNoContext _ = Unit {0}

pub record Founder (number : ℕ) (before : Before) : Type 0 where
  pub first : Before
  pub stands : Stands first before
  pub long : number ≡ length first
  pub begun : length first ≡ 0 → ⊥
  pub no_context : is_context first ≡ false

pub farther-founder : (number : ℕ) (b before : Before) → Stands b before → Founder number b → Founder number before
farther-founder number b before s f = record {
  first = f.first;
  stands = stands-trans f.first b before f.stands s;
  long = f.long;
  begun = f.begun;
  no_context = f.no_context;
}

own-founder : (r : Region) (before : Before) → number_of (begins r ∷ before) ≡ suc (length before) → is_context (begins r ∷ before) ≡ false
    → Founder (number_of (begins r ∷ before)) (begins r ∷ before)
own-founder r before number none = record { first = begins r ∷ before; stands = inl refl; long = number; begun = λ e. omega arith; no_context = none }

package-next : (o : Occurrence) → is_package o ≡ true → (q : Region) × (region_behind_it o ≡ Some q) × ((b : Before) → is_context (begins q ∷ b) ≡ false)
package-next (declares_unit j the_package) e = (package_region j, refl, λ b. refl)
package-next _ e = absurd (false-true e)

unit-next : (kind : UnitKind) (o : Occurrence) → is_unit_of kind o ≡ true
    → (q : Region) × (region_behind_it o ≡ Some q) × ((b : Before) → is_context (begins q ∷ b) ≡ false)
unit-next kind (declares j (a_task is_type aspects)) e = (a_unit j, refl, λ b. refl)
unit-next kind (declares j (a_protected is_type aspects)) e = (a_unit j, refl, λ b. refl)
unit-next kind _ e = absurd (false-true e)

-- a body of what the test finds
module _ (r : Region) (before : Before) (t : IsText before) (settled : begins_next before ≡ None) (test : Occurrence → Bool) (region : ℕ) (name : List ℕ)
    (next : (o : Occurrence) → test o ≡ true → (q : Region) × (region_behind_it o ≡ Some q) × ((b : Before) → is_context (begins q ∷ b) ≡ false))
    (none : is_context (begins r ∷ before) ≡ false) where
  behind-founder : (x : Option Before) → if_so test (declaration number_of_innermost region name before) ≡ x
      → number_of (begins r ∷ before) ≡ region_behind number_of_innermost x (suc (length before)) → Founder (number_of (begins r ∷ before)) (begins r ∷ before)
  behind-founder None e number = own-founder r before number none
  behind-founder (Some d) e number =
      let f = if_so-found test (declaration number_of_innermost region name before) d e in
      let q = next f.0 f.3 in
      let stands : Stands (f.0 ∷ f.1) before = nearest-stands (declares_name number_of_innermost region name) before (f.0 ∷ f.1) f.2 in
      record {
        first = begins q.0 ∷ f.0 ∷ f.1;
        stands = inr (begun-stands before f.0 f.1 q.0 t settled stands q.1);
        long = number ∙ ap (λ z. suc (length z)) f.4;
        begun = λ h. omega arith;
        no_context = q.2 (f.0 ∷ f.1);
      }

pub founder : (r : Region) (before : Before) → IsNoContext r → IsText (begins r ∷ before) → Founder (number_of (begins r ∷ before)) (begins r ∷ before)
founder the_context before is t = absurd is
founder (the_context_of i) before is t = absurd is
founder further_context before is t = absurd is
founder (package_body i) before is t =
    behind-founder (package_body i) before t.2 (settled-behind (package_body i) before t.0 refl) is_package 0 i.text package-next refl _ refl
    (number-beginning (begins (package_body i)) before)
founder (task_body i place) before is t =
    behind-founder (task_body i place) before t.2 (settled-behind (task_body i place) before t.0 refl) (is_unit_of unit.Task) (region_of_position before) i.text
    (unit-next unit.Task) refl _ refl (number-beginning (begins (task_body i place)) before)
founder (protected_body i) before is t =
    behind-founder (protected_body i) before t.2 (settled-behind (protected_body i) before t.0 refl) (is_unit_of unit.Protected)
    (region_of_position before) i.text (unit-next unit.Protected) refl _ refl (number-beginning (begins (protected_body i)) before)
founder (package_region i) before is t = own-founder (package_region i) before (number-beginning (begins (package_region i)) before) refl
founder (main_body i place) before is t = own-founder (main_body i place) before (number-beginning (begins (main_body i place)) before) refl
founder a_profile before is t = own-founder a_profile before (number-beginning (begins a_profile) before) refl
founder (subprogram_body place is_function) before is t =
    own-founder (subprogram_body place is_function) before (number-beginning (begins (subprogram_body place is_function)) before) refl
founder (a_unit i) before is t = own-founder (a_unit i) before (number-beginning (begins (a_unit i)) before) refl
founder (entry_body i place barrier) before is t =
    own-founder (entry_body i place barrier) before (number-beginning (begins (entry_body i place barrier)) before) refl
founder (an_accept i place) before is t = own-founder (an_accept i place) before (number-beginning (begins (an_accept i place)) before) refl
founder (a_block label place) before is t = own-founder (a_block label place) before (number-beginning (begins (a_block label place)) before) refl
founder (a_loop label) before is t = own-founder (a_loop label) before (number-beginning (begins (a_loop label)) before) refl
founder (a_record i) before is t = own-founder (a_record i) before (number-beginning (begins (a_record i)) before) refl

-- ---- where the context of clauses began

abbrev pub is_clause : Before → Bool
is_clause (with_unit name ∷ b) = true
is_clause (use_package name ∷ b) = true
is_clause _ = false

pub record ClauseFounder (before : Before) : Type 0 where
  pub first : Before
  pub stands : Stands first before
  pub number : region_of_position before ≡ length first
  pub context : is_context first ≡ true
  pub clauses : (x : Before) → Stands x before → length first < length x → is_clause x ≡ true

begun-clauses : (o : Occurrence) (b : Before) → region_of_position (o ∷ b) ≡ suc (length b) → is_context (o ∷ b) ≡ true → ClauseFounder (o ∷ b)
begun-clauses o b number context = record { first = o ∷ b; stands = inl refl; number = number; context = context; clauses = clauses }
  where
    clauses : (x : Before) → Stands x (o ∷ b) → length (o ∷ b) < length x → is_clause x ≡ true
    clauses x (inl e) lt = let h : length x ≡ suc (length b) = ap length e in absurd (omega arith)
    clauses x (inr s) lt = let h = stands-length x b s in absurd (omega arith)

more-clauses : (o : Occurrence) (b : Before) → region_of_position (o ∷ b) ≡ region_of_position b → is_clause (o ∷ b) ≡ true → ClauseFounder b
    → ClauseFounder (o ∷ b)
more-clauses o b same is f = record { first = f.first; stands = inr f.stands; number = same ∙ f.number; context = f.context; clauses = clauses }
  where
    clauses : (x : Before) → Stands x (o ∷ b) → length f.first < length x → is_clause x ≡ true
    clauses x (inl e) lt = ap is_clause e ∙ is
    clauses x (inr s) lt = f.clauses x s lt

pub clause-founder : (before : Before) → clauses_here before ≡ true → ClauseFounder before
clause-founder (begins the_context ∷ b) e = begun-clauses (begins the_context) b (number-beginning (begins the_context) b) refl
clause-founder (begins further_context ∷ b) e = begun-clauses (begins further_context) b (number-beginning (begins further_context) b) refl
clause-founder (with_unit name ∷ b) e = more-clauses (with_unit name) b refl refl (clause-founder b e)
clause-founder (use_package name ∷ b) e = more-clauses (use_package name) b refl refl (clause-founder b e)
clause-founder _ e = cc

-- no clause stands in a region of another sort
pub numbers-apart : (number : ℕ) (c : Before) → Founder number c → (b : Before) → Stands b c → clauses_here b ≡ true → eqb number (region_of_position b) ≡ false
numbers-apart number c f b s here = ne_eqb number (region_of_position b) (λ e. (
    let g = clause-founder b here in
    let same : f.first ≡ g.first = same_length f.first g.first c f.stands (stands-trans g.first b c g.stands s) (sym f.long ∙ (e ∙ g.number)) in
    false-true (sym f.no_context ∙ (ap is_context same ∙ g.context))))

-- ---- the number of Standard is that of no region that began

-- a declaration of a package stands in a context
pub record PackageHome (i : Identifier) (b : Before) : Type 0 where
  pub context : Before
  pub alone : around b ≡ (begins the_context ∷ context) ∷ []
  pub number : number_of_innermost (around (declares_unit i the_package ∷ b)) ≡ suc (length context)

pub package-home : (i : Identifier) (b : Before) → Placed (declares_unit i the_package) b → PackageHome i b
package-home i b p = record { context = p.0; alone = p.1; number = ap number_of_innermost p.1 ∙ number-beginning (begins the_context) p.0 }

context-positive : (i : Identifier) (before : Before) → IsPlaced before → (x : Option Before) → package_declared number_of_innermost i.text before ≡ x
    → context_around number_of_innermost x (suc (length before)) ≡ 0 → ⊥
context-positive i before p None e q = omega arith
context-positive i before p (Some d) e q =
    let f = if_so-found is_package (declaration number_of_innermost 0 i.text before) d e in
    let stands : Stands (f.0 ∷ f.1) before = nearest-stands (declares_name number_of_innermost 0 i.text) before (f.0 ∷ f.1) f.2 in
    let placed : Placed f.0 f.1 = (placed-stands (f.0 ∷ f.1) before stands p).0 in
    package-shape (λ o. Placed o f.1 → number_of_innermost (around (o ∷ f.1)) ≡ 0 → ⊥)
    (λ j h z. (let n = (package-home j f.1 h).number in omega arith)) f.0 f.3 placed (ap (λ z. number_of_innermost (around z)) (sym f.4) ∙ q)

founded : (r : Region) (before : Before) → IsNoContext r → IsText (begins r ∷ before) → number_of (begins r ∷ before) ≡ 0 → ⊥
founded r before is t e = let f = founder r before is t in f.begun (sym f.long ∙ e)

pub number-positive : (r : Region) (before : Before) → IsText (begins r ∷ before) → IsPlaced before → number_of (begins r ∷ before) ≡ 0 → ⊥
number-positive the_context before t p e = let n = number-beginning (begins the_context) before in omega arith
number-positive (the_context_of i) before t p e = context-positive i before p _ refl (sym (number-beginning (begins (the_context_of i)) before) ∙ e)
number-positive further_context before t p e = let n = number-beginning (begins further_context) before in omega arith
number-positive r before t p e = founded r before tt t e

pub position-positive : (b x : Before) (xs : List Before) → IsText b → IsPlaced b → around b ≡ x ∷ xs → region_of_position b ≡ 0 → ⊥
position-positive b x xs t p e q =
    let f = around-of_first 0 b x xs e in
    let g = around-begins 0 b x xs e in
    let stands : Stands (begins g.0 ∷ g.1) b = subst (λ z. Stands z b) g.2 f.1 in
    number-positive g.0 g.1 (text-stands (begins g.0 ∷ g.1) b stands t) (placed-stands (begins g.0 ∷ g.1) b stands p).1
    (ap number_of (sym g.2) ∙ (ap number_of_innermost (sym e) ∙ q))
