-- The entities of the table are what the declarations before a position declare; which of them have a body; and the contexts
-- of packages.
use Rattle.std.proofs.Common.{◌≡◌, inl, inr, ℕ, ◌≤◌, ◌<◌, zero, suc, Bool, true, false, cond, ◌||◌, ◌+◌, List, [], ◌∷◌, ◌++◌, length}
use Rattle.std.proofs.Common.{Option, Some, slice_get, eqb, find, refl, sym, ap, subst, ◌∙◌, arith, eqb-true, eq-eqb, ne_eqb, length-append}
use Rattle.std.specs.List.{list_any}
use Rattle.ada_tree.specs.declared.names.Identifier.{Identifier}
use Rattle.ada_regions.specs.declared.entities.Entity.{Entity}
use Rattle.ada_regions.specs.declared.table.PackageContext.{PackageContext}
use Rattle.ada_regions.specs.Words.{and_then}
use Rattle.ada_regions.specs.Occurrences.{Occurrence, package_region, task_body, protected_body, the_package, begins, declares_unit}
use Rattle.source_laws.specs.Positions.{Before, Stands}
use Rattle.source_laws.specs.Declarations.{declares_name}
use Rattle.source_laws.specs.Regions.{number_of_innermost}
use Rattle.source_laws.specs.Tables.{table_at}
use Rattle.source_laws.proofs.Names.PositionLemmas.{false-true, stands-tail}
use Rattle.source_laws.proofs.Names.KnownDeclared.{Declares}
use Rattle.source_laws.proofs.Names.KnownBegun.{slice_get-last}
use Rattle.source_laws.proofs.Names.Kept.{known_at, here_at}

-- ---- lists that grow at their end

pub slice_get-more : {X : Type 0} (xs ys : List X) (k : ℕ) (x : X) → slice_get xs k ≡ Some x → slice_get (xs ++ ys) k ≡ Some x
slice_get-more [] ys k x e = cc
slice_get-more (z ∷ xs) ys zero x e = e
slice_get-more (z ∷ xs) ys (suc k) x e = slice_get-more xs ys k x e

pub slice_get-left : {X : Type 0} (xs ys : List X) (k : ℕ) → k < length xs → slice_get (xs ++ ys) k ≡ slice_get xs k
slice_get-left [] ys k lt = absurd (omega arith)
slice_get-left (z ∷ xs) ys zero lt = refl
slice_get-left (z ∷ xs) ys (suc k) lt = slice_get-left xs ys k (omega arith)

-- ---- entities

-- the entity of a declaration is there, and is as it declares
abbrev pub EntityThere : ℕ → Occurrence → Before → List Entity → Type 0
EntityThere last o before entities =
    (x : Entity) × (slice_get entities (length (known_at last before).entities) ≡ Some x) × Declares o (known_at last before).regions x

pub record EntitiesKept (last : ℕ) (before : Before) : Type 0 where
  pub grow : (c : Before) → Stands c before → length (known_at last c).entities ≤ length (known_at last before).entities
  pub there : (o : Occurrence) (b : Before) → Stands (o ∷ b) before → (region : ℕ) (name : List ℕ) → declares_name number_of_innermost region name o b ≡ true
      → EntityThere last o b (known_at last before).entities

pub entities-stay : (last : ℕ) (o : Occurrence) (before : Before) → EntitiesKept last before
    → (known_at last (o ∷ before)).entities ≡ (known_at last before).entities
    → ((region : ℕ) (name : List ℕ) → declares_name number_of_innermost region name o before ≡ false) → EntitiesKept last (o ∷ before)
entities-stay last o before k same none = record { grow = grow; there = there }
  where
    grow : (c : Before) → Stands c (o ∷ before) → length (known_at last c).entities ≤ length (known_at last (o ∷ before)).entities
    grow c (inl e) =
        let h : length (known_at last c).entities ≡ length (known_at last (o ∷ before)).entities = ap (λ b. length (known_at last b).entities) e in omega arith
    grow c (inr s) =
        let h = k.grow c s in let q : length (known_at last (o ∷ before)).entities ≡ length (known_at last before).entities = ap length same in omega arith

    there : (p : Occurrence) (b : Before) → Stands (p ∷ b) (o ∷ before) → (region : ℕ) (name : List ℕ)
        → declares_name number_of_innermost region name p b ≡ true
        → EntityThere last p b (known_at last (o ∷ before)).entities
    there p b (inl e) region name d =
        let first : p ≡ o = cc in
        let rest : b ≡ before = cc in
        let h : declares_name number_of_innermost region name p b ≡ false =
        subst (λ z. declares_name number_of_innermost region name z b ≡ false) (sym first)
        (subst (λ z. declares_name number_of_innermost region name o z ≡ false) (sym rest) (none region name)) in
        cc
    there p b (inr s) region name d = subst (EntityThere last p b) (sym same) (k.there p b s region name d)

pub entities-more : (last : ℕ) (o : Occurrence) (before : Before) (x : Entity) → EntitiesKept last before
    → (known_at last (o ∷ before)).entities ≡ (known_at last before).entities ++ x ∷ []
    → Declares o (known_at last before).regions x → EntitiesKept last (o ∷ before)
entities-more last o before x k more declared = record { grow = grow; there = there }
  where
    grow : (c : Before) → Stands c (o ∷ before) → length (known_at last c).entities ≤ length (known_at last (o ∷ before)).entities
    grow c (inl e) =
        let h : length (known_at last c).entities ≡ length (known_at last (o ∷ before)).entities = ap (λ b. length (known_at last b).entities) e in omega arith
    grow c (inr s) =
        let h = k.grow c s in
        let q : length (known_at last (o ∷ before)).entities ≡ length (known_at last before).entities + length (x ∷ []) =
        ap length more ∙ length-append (known_at last before).entities (x ∷ []) in
        omega arith

    there : (p : Occurrence) (b : Before) → Stands (p ∷ b) (o ∷ before) → (region : ℕ) (name : List ℕ)
        → declares_name number_of_innermost region name p b ≡ true
        → EntityThere last p b (known_at last (o ∷ before)).entities
    there p b (inl e) region name d =
        let first : p ≡ o = cc in
        let rest : b ≡ before = cc in
        subst (λ z. EntityThere last z b (known_at last (o ∷ before)).entities) (sym first)
        (subst (λ z. EntityThere last o z (known_at last (o ∷ before)).entities) (sym rest) (
          x,
          ap (λ es. slice_get es (length (known_at last before).entities)) more ∙ slice_get-last (known_at last before).entities x,
          declared,
        ))
    there p b (inr s) region name d =
        let old = k.there p b s region name d in
        (old.0, ap (λ es. slice_get es (length (known_at last b).entities)) more ∙ slice_get-more (known_at last before).entities (x ∷ []) _ old.0 old.1, old.2)

-- ---- entities with a body

abbrev pub IsBody : Before → Type 0
IsBody [] = ⊥
IsBody (begins (task_body i place) ∷ before) = Unit {0}
IsBody (begins (protected_body i) ∷ before) = Unit {0}
IsBody (_ ∷ before) = ⊥

-- a body of the unit with this region
abbrev pub BodyBefore : ℕ → ℕ → Before → Type 0
BodyBefore last region before = (y : Before) × Stands y before × IsBody y × (here_at last y ≡ region)

abbrev pub region_in : List Entity → ℕ → Option ℕ
region_in entities e = and_then (slice_get entities e) (λ x. x.region)

pub record BodiesKept (last : ℕ) (before : Before) : Type 0 where
  pub within : (e : ℕ) → list_any (eqb e) (known_at last before).bodies ≡ true → e < length (known_at last before).entities
  pub begun : (e region : ℕ) → list_any (eqb e) (known_at last before).bodies ≡ true → region_in (known_at last before).entities e ≡ Some region
      → BodyBefore last region before

body-farther : (last : ℕ) (region : ℕ) (o : Occurrence) (before : Before) → BodyBefore last region before → BodyBefore last region (o ∷ before)
body-farther last region o before b = (b.0, inr b.1, b.2, b.3)

pub bodies-stay : (last : ℕ) (o : Occurrence) (before : Before) (more : List Entity) → BodiesKept last before
    → (known_at last (o ∷ before)).bodies ≡ (known_at last before).bodies
    → (known_at last (o ∷ before)).entities ≡ (known_at last before).entities ++ more → BodiesKept last (o ∷ before)
bodies-stay last o before more k same entities = record {
  within = λ e any. (
      let old : e < length (known_at last before).entities = k.within e (ap (list_any (eqb e)) (sym same) ∙ any) in
      let q : length (known_at last (o ∷ before)).entities ≡ length (known_at last before).entities + length more =
      ap length entities ∙ length-append (known_at last before).entities more in
      omega arith);
  begun = λ e region any there. (
      let was : list_any (eqb e) (known_at last before).bodies ≡ true = ap (list_any (eqb e)) (sym same) ∙ any in
      let kept : slice_get (known_at last (o ∷ before)).entities e ≡ slice_get (known_at last before).entities e =
      ap (λ es. slice_get es e) entities ∙ slice_get-left (known_at last before).entities more e (k.within e was) in
      body-farther last region o before (k.begun e region was (ap (λ z. and_then z (λ (x : Entity). x.region)) (sym kept) ∙ there)));
}

-- one more entity has a body
pub bodies-more : (last : ℕ) (o : Occurrence) (before : Before) (e : ℕ) → BodiesKept last before
    → (known_at last (o ∷ before)).bodies ≡ e ∷ (known_at last before).bodies
    → (known_at last (o ∷ before)).entities ≡ (known_at last before).entities → e < length (known_at last before).entities
    → ((region : ℕ) → region_in (known_at last before).entities e ≡ Some region → BodyBefore last region (o ∷ before)) → BodiesKept last (o ∷ before)
bodies-more last o before e k more same lt new = record {
  within = λ f any. (
      let q : length (known_at last (o ∷ before)).entities ≡ length (known_at last before).entities = ap length same in
      let h : f < length (known_at last before).entities = go-within f (eqb f e) refl (ap (list_any (eqb f)) (sym more) ∙ any) in
      omega arith);
  begun = λ f region any there. go-begun f region (eqb f e) refl (ap (list_any (eqb f)) (sym more) ∙ any) (ap (λ es. region_in es f) (sym same) ∙ there);
}
  where
    go-within : (f : ℕ) (t : Bool) → eqb f e ≡ t → (t || list_any (eqb f) (known_at last before).bodies) ≡ true → f < length (known_at last before).entities
    go-within f true q any = let h : f ≡ e = eqb-true f e q in omega arith
    go-within f false q any = k.within f any

    go-begun : (f region : ℕ) (t : Bool) → eqb f e ≡ t → (t || list_any (eqb f) (known_at last before).bodies) ≡ true
        → region_in (known_at last before).entities f ≡ Some region → BodyBefore last region (o ∷ before)
    go-begun f region true q any there = new region (ap (region_in (known_at last before).entities) (sym (eqb-true f e q)) ∙ there)
    go-begun f region false q any there = body-farther last region o before (k.begun f region any there)

-- ---- the contexts of packages

abbrev pub context_of : List PackageContext → ℕ → Option PackageContext
context_of contexts e = find (λ c. eqb c.of_package e) contexts

-- where a package's region has begun, its context is known
abbrev pub ContextThere : ℕ → Before → Before → List PackageContext → Type 0
ContextThere last d b contexts =
    (c : PackageContext) × (context_of contexts (length (known_at last b).entities) ≡ Some c) × (c.region ≡ here_at last d)
    × (c.withs ≡ (table_at last d).withs)

pub record ContextsKept (last : ℕ) (before : Before) : Type 0 where
  pub there : (i : Identifier) (b : Before) → Stands (begins (package_region i) ∷ declares_unit i the_package ∷ b) before
      → ContextThere last (declares_unit i the_package ∷ b) b (known_at last before).contexts

abbrev pub begins_package : Occurrence → Bool
begins_package (begins (package_region i)) = true
begins_package _ = false

pub not_package : (o : Occurrence) → begins_package o ≡ false → (i : Identifier) → begins (package_region i) ≡ o → ⊥
not_package o none i e = false-true (sym none ∙ sym (ap begins_package e))

pub contexts-stay : (last : ℕ) (o : Occurrence) (before : Before) → ContextsKept last before
    → (known_at last (o ∷ before)).contexts ≡ (known_at last before).contexts
    → ((i : Identifier) → begins (package_region i) ≡ o → ⊥) → ContextsKept last (o ∷ before)
contexts-stay last o before k same other = record { there = there }
  where
    there : (i : Identifier) (b : Before) → Stands (begins (package_region i) ∷ declares_unit i the_package ∷ b) (o ∷ before)
        → ContextThere last (declares_unit i the_package ∷ b) b (known_at last (o ∷ before)).contexts
    there i b (inl e) = let h : begins (package_region i) ≡ o = cc in absurd (other i h)
    there i b (inr s) = subst (ContextThere last (declares_unit i the_package ∷ b) b) (sym same) (k.there i b s)

-- a package's region begins
pub contexts-more : (last : ℕ) (i : Identifier) (b : Before) (c : PackageContext) → ContextsKept last (declares_unit i the_package ∷ b) → EntitiesKept last b
    → (known_at last (begins (package_region i) ∷ declares_unit i the_package ∷ b)).contexts ≡ c ∷ (known_at last (declares_unit i the_package ∷ b)).contexts
    → c.of_package ≡ length (known_at last b).entities → c.region ≡ here_at last (declares_unit i the_package ∷ b)
    → c.withs ≡ (table_at last (declares_unit i the_package ∷ b)).withs
    → ((j : Identifier) (a : Before) → Stands (declares_unit j the_package ∷ a) b → length (known_at last a).entities < length (known_at last b).entities)
    → ContextsKept last (begins (package_region i) ∷ declares_unit i the_package ∷ b)
contexts-more last i b c k entities more packaged region withs older = record { there = there }
  where
    there : (j : Identifier) (a : Before)
        → Stands (begins (package_region j) ∷ declares_unit j the_package ∷ a) (begins (package_region i) ∷ declares_unit i the_package ∷ b)
        → ContextThere last (declares_unit j the_package ∷ a) a (known_at last (begins (package_region i) ∷ declares_unit i the_package ∷ b)).contexts
    there j a (inl e) =
        let rest : declares_unit j the_package ∷ a ≡ declares_unit i the_package ∷ b = cc in
        let same : a ≡ b = cc in (
          c,
          ap (λ cs. context_of cs (length (known_at last a).entities)) more
              ∙ ap (λ t. cond t (Some c) (context_of (known_at last (declares_unit i the_package ∷ b)).contexts (length (known_at last a).entities)))
              (eq-eqb c.of_package (length (known_at last a).entities) (packaged ∙ ap (λ z. length (known_at last z).entities) (sym same))),
          region ∙ ap (here_at last) (sym rest),
          withs ∙ ap (λ z. (table_at last z).withs) (sym rest),
        )
    there j a (inr (inl e)) = cc
    there j a (inr (inr s)) =
        let old = k.there j a (inr s) in
        let earlier : length (known_at last a).entities < length (known_at last b).entities =
        older j a (stands-tail (begins (package_region j)) (declares_unit j the_package ∷ a) b s) in (
          old.0,
          ap (λ cs. context_of cs (length (known_at last a).entities)) more
              ∙ (ap (λ t. cond t (Some c) (context_of (known_at last (declares_unit i the_package ∷ b)).contexts (length (known_at last a).entities)))
              (ne_eqb c.of_package (length (known_at last a).entities)
              (λ q. (let p : c.of_package ≡ length (known_at last b).entities = packaged in omega arith)))
              ∙ old.1),
          old.2,
          old.3,
        )
