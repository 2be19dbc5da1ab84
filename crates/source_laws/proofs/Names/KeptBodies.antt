-- Bodies of packages, tasks and protected units: they have the region of their declaration.
use Rattle.std.proofs.Common.{◌≡◌, ◌⊎◌, inl, inr, ℕ, Bool, true, false, cond, List, [], ◌∷◌, length, Option, Some, None, option_map, refl, sym, ap, subst, ◌∙◌}
use Rattle.ada_tree.specs.declared.names.Identifier.{Identifier}
use Rattle.ada_regions.specs.declared.entities.Entity.{Entity}
use Rattle.ada_regions.specs.declared.table.Binding.{Binding}
use Rattle.ada_regions.specs.declared.table.Names.{Names}
use Rattle.ada_regions.specs.Words.{and_then}
use Rattle.ada_regions.specs.Names.{binding_in, entity_at, region_of_entity, region_here}
use Rattle.ada_regions.specs.Occurrences.{Occurrence, Region, the_package, begins, declares_unit}
use Rattle.ada_regions.specs.Completions.{entity_bound, holds_of}
use Rattle.ada_regions.specs.Regions.{package_if, package_named, is_package as is_package_kind}
use Rattle.source_laws.specs.Positions.{Before, Stands, nearest}
use Rattle.source_laws.specs.Declarations.{declares_name, declaration, hides_name, if_so, is_package}
use Rattle.source_laws.specs.Regions.{number_of_innermost, region_of_position, package_declared}
use Rattle.source_laws.specs.Tables.{table_at}
use Rattle.source_laws.proofs.Names.PositionLemmas.{stands-here, stands-start, nearest-stands, nearest-holds}
use Rattle.source_laws.proofs.Names.NumberLemmas.{number-start}
use Rattle.source_laws.proofs.Names.KnownDeclared.{region_behind_it}
use Rattle.source_laws.proofs.Names.Texts.{IsText, FitsBehind, begins_next}
use Rattle.source_laws.proofs.Names.Kept.{known_at, here_at}
use Rattle.source_laws.proofs.Names.KeptBindings.{told_of, said_by, said}
use Rattle.source_laws.proofs.Names.KeptEntities.{EntityThere}
use Rattle.source_laws.proofs.Names.KeptSteps.{Kept}
use Rattle.source_laws.proofs.Names.KeptWaiting.{region-here}

-- ---- what is bound to a name in a region, by position

abbrev pub joined : Option (Option ℕ) → Option ℕ
joined None = None
joined (Some e) = e

bound-joined : (x : Option Binding) → and_then x (λ b. b.entity) ≡ joined (told_of x)
bound-joined None = refl
bound-joined (Some b) = refl

pub bound-said : (last : ℕ) (before c : Before) (name : List ℕ) → Kept last before → Stands c before
    → entity_bound (table_at last before) (here_at last c) name ≡ joined (said last (region_of_position c) name before)
bound-said last before c name k s = bound-joined (binding_in (known_at last before).bindings (here_at last c) name) ∙ ap joined (k.bindings.binds c s name)

pub bound-here : (last : ℕ) (before : Before) (name : List ℕ) → Kept last before
    → entity_bound (table_at last before) (region_here (table_at last before)) name ≡ joined (said last (region_of_position before) name before)
bound-here last before name k =
    ap (λ r. entity_bound (table_at last before) r name) (region-here last before) ∙ bound-said last before before name k (stands-here before)

pub bound-standard : (last : ℕ) (before : Before) (name : List ℕ) → Kept last before
    → entity_bound (table_at last before) 0 name ≡ joined (said last 0 name before)
bound-standard last before name k = bound-said last before [] name k (stands-start before) ∙ ap (λ r. joined (said last r name before)) number-start

-- ---- the nearest declaration

pub record Found (last : ℕ) (region : ℕ) (name : List ℕ) (before : Before) (o : Occurrence) (b : Before) : Type 0 where
  pub stands : Stands (o ∷ b) before
  pub bound : joined (said last region name before) ≡ Some (length (known_at last b).entities)
  pub there : EntityThere last o b (known_at last before).entities

pub found-nearest : (last region : ℕ) (name : List ℕ) (before : Before) (o : Occurrence) (b : Before) → Kept last before
    → declaration number_of_innermost region name before ≡ Some (o ∷ b) → Found last region name before o b
found-nearest last region name before o b k e =
    let stands = nearest-stands (declares_name number_of_innermost region name) before (o ∷ b) e in
    record {
      stands = stands;
      bound = ap (λ d. joined (said_by last d (nearest (hides_name number_of_innermost region name) before))) e;
      there = k.entities.there o b stands region name (nearest-holds (declares_name number_of_innermost region name) before (o ∷ b) e);
    }

-- no declaration is the start of the text
pub no_start : (f : Occurrence → Before → Bool) (before : Before) → nearest f before ≡ Some [] → ⊥
no_start f before e = nearest-holds f before [] e

-- ---- packages

pub record PackageFound (last : ℕ) (name : List ℕ) (before : Before) (i : Identifier) (b : Before) : Type 0 where
  pub stands : Stands (declares_unit i the_package ∷ b) before
  pub named : package_named (table_at last before) name ≡ Some (length (known_at last b).entities)
  pub region : region_of_entity (table_at last before) (length (known_at last b).entities) ≡ Some (known_at last b).regions

if_package : (e : ℕ) (n : Names) (x : Entity) (t : Bool) → entity_at n e ≡ Some x → is_package_kind x.kind ≡ t → package_if n e ≡ cond t (Some e) None
if_package e n x t there is = ap (λ y. cond (holds_of is_package_kind (option_map (λ z. z.kind) y)) (Some e) None) there ∙ ap (λ u. cond u (Some e) None) is

found-package : (last : ℕ) (name : List ℕ) (before : Before) (o : Occurrence) (b : Before) (t : Bool) → Kept last before
    → declaration number_of_innermost 0 name before ≡ Some (o ∷ b) → is_package o ≡ t
    → package_named (table_at last before) name ≡ cond t (Some (length (known_at last b).entities)) None
unfolding package_named
found-package last name before o b t k e is =
    let f = found-nearest last 0 name before o b k e in
    let x = f.there in
    ap (λ y. and_then y (package_if (table_at last before))) (bound-standard last before name k ∙ f.bound)
    ∙ if_package (length (known_at last b).entities) (table_at last before) x.0 t x.1 (x.2.packaged ∙ is)

none-package : (last : ℕ) (name : List ℕ) (before : Before) → Kept last before → declaration number_of_innermost 0 name before ≡ None
    → package_named (table_at last before) name ≡ None
unfolding package_named
none-package last name before k e =
    ap (λ y. and_then y (package_if (table_at last before))) (bound-standard last before name k ∙ go (nearest (hides_name number_of_innermost 0 name) before))
  where
    hidden-none : (h : Option Before) → joined (said_by last None h) ≡ None
    hidden-none None = refl
    hidden-none (Some h) = refl

    go : (h : Option Before) → joined (said last 0 name before) ≡ None
    go h =
        ap (λ d. joined (said_by last d (nearest (hides_name number_of_innermost 0 name) before))) e
        ∙ hidden-none (nearest (hides_name number_of_innermost 0 name) before)

-- an occurrence that declares a package, and the region that it gives
pub package-shape : (P : Occurrence → Type 0) → ((i : Identifier) → P (declares_unit i the_package)) → (o : Occurrence) → is_package o ≡ true → P o
package-shape P p (declares_unit i the_package) e = p i
package-shape P p _ e = cc

-- either a package is found by the table and by position, or by neither
pub data PackageSought (last : ℕ) (name : List ℕ) (before : Before) : Type 0 where
  package_there : (i : Identifier) (b : Before) → PackageFound last name before i b
      → package_declared number_of_innermost name before ≡ Some (declares_unit i the_package ∷ b) → PackageSought last name before
  no_package : package_named (table_at last before) name ≡ None → package_declared number_of_innermost name before ≡ None → PackageSought last name before

pub package-sought : (last : ℕ) (name : List ℕ) (before : Before) → Kept last before → PackageSought last name before
package-sought last name before k = go (declaration number_of_innermost 0 name before) refl
  where
    region-there : (i : Identifier) (b : Before) → EntityThere last (declares_unit i the_package) b (known_at last before).entities
        → region_of_entity (table_at last before) (length (known_at last b).entities) ≡ Some (known_at last b).regions
    region-there i b x = ap (λ y. and_then y (λ (z : Entity). z.region)) x.1 ∙ x.2.region

    found : (i : Identifier) (b : Before) → declaration number_of_innermost 0 name before ≡ Some (declares_unit i the_package ∷ b)
        → PackageSought last name before
    found i b e =
        let f = found-nearest last 0 name before (declares_unit i the_package) b k e in
        package_there i b
        (record {
          stands = f.stands;
          named = found-package last name before (declares_unit i the_package) b true k e refl;
          region = region-there i b f.there;
        })
        (ap (if_so is_package) e)

    other : (o : Occurrence) (b : Before) (t : Bool) → is_package o ≡ t → declaration number_of_innermost 0 name before ≡ Some (o ∷ b)
        → PackageSought last name before
    other o b true is e =
        package-shape (λ p. declaration number_of_innermost 0 name before ≡ Some (p ∷ b) → PackageSought last name before) (λ i. found i b) o is e
    other o b false is e = no_package (found-package last name before o b false k e is) (ap (if_so is_package) e ∙ ap (λ u. cond u (Some (o ∷ b)) None) is)

    go : (d : Option Before) → declaration number_of_innermost 0 name before ≡ d → PackageSought last name before
    go None e = no_package (none-package last name before k e) (ap (if_so is_package) e)
    go (Some []) e = absurd (no_start (declares_name number_of_innermost 0 name) before e)
    go (Some (o ∷ b)) e = other o b (is_package o) refl e

-- ---- where a declaration stands, the beginning of its region does, unless it is about to

pub next-stands : (before : Before) (d : Occurrence) (b : Before) (r : Region) → IsText before → Stands (d ∷ b) before → region_behind_it d ≡ Some r
    → (d ∷ b ≡ before) ⊎ Stands (begins r ∷ d ∷ b) before
next-stands [] d b r t s e = cc
next-stands (o ∷ before) d b r t (inl q) e = inl q
next-stands (o ∷ before) d b r t (inr s) e = go (next-stands before d b r t.2 s e)
  where
    first-begins : d ∷ b ≡ before → o ≡ begins r
    first-begins q =
        let h : begins_next before ≡ Some r = ap begins_next (sym q) ∙ e in
        subst (λ x. FitsBehind x o) h t.0

    go : (d ∷ b ≡ before) ⊎ Stands (begins r ∷ d ∷ b) before → (d ∷ b ≡ o ∷ before) ⊎ Stands (begins r ∷ d ∷ b) (o ∷ before)
    go (inl q) = inr (inl (let h = first-begins q in (ap (λ z. z ∷ d ∷ b) (sym h) ∙ ap (λ z. o ∷ z) q)))
    go (inr u) = inr (inr u)

pub begun-stands : (before : Before) (d : Occurrence) (b : Before) (r : Region) → IsText before → begins_next before ≡ None → Stands (d ∷ b) before
    → region_behind_it d ≡ Some r → Stands (begins r ∷ d ∷ b) before
begun-stands before d b r t settled s e = go (next-stands before d b r t s e)
  where
    go : (d ∷ b ≡ before) ⊎ Stands (begins r ∷ d ∷ b) before → Stands (begins r ∷ d ∷ b) before
    go (inl q) = let h : begins_next before ≡ Some r = ap begins_next (sym q) ∙ e in cc
    go (inr u) = u
