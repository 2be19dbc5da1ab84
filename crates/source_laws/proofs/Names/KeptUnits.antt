-- What the beginnings of bodies keep.
use Rattle.std.proofs.Common.{◌≡◌, inl, inr, ℕ, suc, Bool, true, false, cond, not, ◌&&◌, [], ◌∷◌, length, Option}
use Rattle.std.proofs.Common.{Some, None, is_some, option_map, eqb, append-nil, refl, sym, ap, subst, ◌∙◌, eq-eqb}
use Rattle.std.specs.List.{list_any}
use Rattle.std.proofs.lemmas.Option.{slice_get_within}
use Rattle.std.proofs.lemmas.Bool.{and_parts}
use Rattle.ada_tree.specs.declared.names.Identifier.{Identifier}
use Rattle.ann_base.specs.declared.places.Place.{Place}
use Rattle.ada_regions.specs.declared.entities.Entity.{Entity}
use Rattle.ada_regions.specs.declared.entities.UnitKind.{UnitKind}
use Rattle.ada_regions.specs.declared.entities.UnitKind.TheVariants as unit
use Rattle.ada_regions.specs.declared.table.Names.{Names}
use Rattle.ada_regions.specs.Words.{and_then}
use Rattle.ada_regions.specs.Names.{entity_at, region_of_entity, region_here}
use Rattle.ada_regions.specs.Occurrences.{Occurrence, Region, the_package, a_task, a_protected, the_context_of, package_region}
use Rattle.ada_regions.specs.Occurrences.{package_body, a_unit, task_body, protected_body, begins, declares, declares_unit}
use Rattle.ada_regions.specs.Declaring.{type_of_kind}
use Rattle.ada_regions.specs.Completions.{entity_bound, is_unit, type_is}
use Rattle.ada_regions.specs.Regions.{package_named, context_of_package, with_scope, next_scope, begun}
use Rattle.ada_regions.specs.Numbered.{behind}
use Rattle.source_laws.specs.Positions.{Before, Stands, nearest}
use Rattle.source_laws.specs.Declarations.{declaration, if_so, is_unit_of}
use Rattle.source_laws.specs.Regions.{number_of_region, number_of_innermost, region_of_position, unit_declared}
use Rattle.source_laws.specs.Regions.{region_behind, context_around, begins_body, is_first_body}
use Rattle.source_laws.specs.Tables.{table_at}
use Rattle.source_laws.proofs.Names.PositionLemmas.{false-true}
use Rattle.source_laws.proofs.Names.NumberLemmas.{number-beginning}
use Rattle.source_laws.proofs.Names.Known.{Known, innermost}
use Rattle.source_laws.proofs.Names.KnownDeclared.{region_given}
use Rattle.source_laws.proofs.Names.KnownBegun.{begun_again, with_body_of, known-package_body, known-package_apart}
use Rattle.source_laws.proofs.Names.KnownBegun.{known-context_again, known-context_anew, known-body_begun}
use Rattle.source_laws.proofs.Names.Texts.{IsText, begins_next}
use Rattle.source_laws.proofs.Names.Kept.{known_at, here_at, numbers_of}
use Rattle.source_laws.proofs.Names.KeptEntities.{not_package, IsBody, bodies-stay, bodies-more, contexts-stay}
use Rattle.source_laws.proofs.Names.KeptSteps.{Kept}
use Rattle.source_laws.proofs.Names.KeptBegun.{OpensAgain, kept-again, kept-anew_context, kept-apart_body}
use Rattle.source_laws.proofs.Names.KeptWaiting.{Waits, task-waits, protected-waits, package-waits}
use Rattle.source_laws.proofs.Names.KeptBodies.{bound-here, found-nearest, PackageSought, package_there, no_package, package-sought, begun-stands}

-- ---- the beginning that a waiting region had

waited-here : (last : ℕ) (r : Region) (d : Occurrence) (b : Before) → Waits last r d b → here_at last (begins r ∷ d ∷ b) ≡ (known_at last b).regions
waited-here last r d b w = ap (λ os. (innermost os).region) w.opened

waited-position : (last : ℕ) (r : Region) (d : Occurrence) (b : Before) → Waits last r d b → region_of_position (begins r ∷ d ∷ b) ≡ suc (length (d ∷ b))
waited-position last r d b w = w.number

-- a region that is known again
opens-again : (last : ℕ) (r : Region) (before u : Before) (region : ℕ) (k : Known) → Stands u before → here_at last u ≡ region
    → number_of_region number_of_innermost r before ≡ region_of_position u
    → known_at last (begins r ∷ before) ≡ begun_again region false k → k.opened ≡ (known_at last before).opened → k.regions ≡ (known_at last before).regions
    → k.bindings ≡ (known_at last before).bindings
    → k.entities ≡ (known_at last before).entities → k.priority ≡ (known_at last before).priority → OpensAgain last r before u
opens-again last r before u region k stands here number e opened regions bindings entities priority = record {
  stands = stands;
  numbers = ap (λ x. numbers_of x.opened) e ∙ (ap (λ os. region ∷ numbers_of os) opened ∙ ap (λ n. n ∷ numbers_of (known_at last before).opened) (sym here));
  number = number-beginning (begins r) before ∙ number;
  regions = ap (λ x. x.regions) e ∙ regions;
  bindings = ap (λ x. x.bindings) e ∙ bindings;
  entities = ap (λ x. x.entities) e ∙ entities;
  priority = ap (λ x. x.priority) e ∙ priority;
}

-- ---- packages

pub kept-package_body : (last : ℕ) (i : Identifier) (before : Before) → IsText before → begins_next before ≡ None → Kept last before
    → Kept last (begins (package_body i) ∷ before)
unfolding behind
kept-package_body last i before t settled k = go (package-sought last i.text before k)
  where
    go : PackageSought last i.text before → Kept last (begins (package_body i) ∷ before)
    go (package_there j b f e) =
        let u : Before = begins (package_region j) ∷ declares_unit j the_package ∷ b in
        let w = package-waits last j b in
        let same : known_at last (begins (package_body i) ∷ before) ≡ begun_again (known_at last b).regions false (known_at last before) =
        known-package_body (length (known_at last b).entities) i (table_at last before) (known_at last b).regions f.named f.region in
        let again : OpensAgain last (package_body i) before u =
        opens-again last (package_body i) before u (known_at last b).regions (known_at last before)
        (begun-stands before (declares_unit j the_package) b (package_region j) t settled f.stands refl)
        (waited-here last (package_region j) (declares_unit j the_package) b w)
        (ap (λ x. region_behind number_of_innermost x (suc (length before))) e
        ∙ sym (waited-position last (package_region j) (declares_unit j the_package) b w)) same refl refl refl refl refl in
        kept-again last (package_body i) before u settled k again
        (bodies-stay last (begins (package_body i)) before [] k.bodies (ap (λ x. x.bodies) same)
        (again.entities ∙ sym (append-nil (known_at last before).entities)))
        (contexts-stay last (begins (package_body i)) before k.contexts (ap (λ x. x.contexts) same) (not_package _ refl))
    go (no_package named e) =
        kept-apart_body last (package_body i) before settled (known-package_apart i (table_at last before) named)
        (ap (λ x. region_behind number_of_innermost x (suc (length before))) e) (not_package _ refl) k

pub kept-context_of : (last : ℕ) (i : Identifier) (before : Before) → IsText before → begins_next before ≡ None → Kept last before
    → Kept last (begins (the_context_of i) ∷ before)
unfolding behind begun context_of_package
kept-context_of last i before t settled k = go (package-sought last i.text before k)
  where
    n : Names
    n = table_at last before

    go : PackageSought last i.text before → Kept last (begins (the_context_of i) ∷ before)
    go (package_there j b f e) =
        let d : Before = declares_unit j the_package ∷ b in
        let c = k.contexts.there j b (begun-stands before (declares_unit j the_package) b (package_region j) t settled f.stands refl) in
        let found : and_then (package_named (table_at last before) i.text) (context_of_package (table_at last before)) ≡ Some c.0 =
        ap (λ x. and_then x (context_of_package (table_at last before))) f.named ∙ c.1 in
        let same : known_at last (begins (the_context_of i) ∷ before) ≡ begun_again c.0.region false (known_at last before) =
        known-context_again _ (table_at last before) c.0 found in
        let again : OpensAgain last (the_context_of i) before d =
        opens-again last (the_context_of i) before d c.0.region (known_at last before) f.stands (sym c.2)
        (ap (λ x. context_around number_of_innermost x (suc (length before))) e) same refl refl refl refl refl in
        kept-again last (the_context_of i) before d settled k again
        (bodies-stay last (begins (the_context_of i)) before [] k.bodies (ap (λ x. x.bodies) same)
        (again.entities ∙ sym (append-nil (known_at last before).entities)))
        (contexts-stay last (begins (the_context_of i)) before k.contexts (ap (λ x. x.contexts) same) (not_package _ refl))
    go (no_package named e) =
        kept-anew_context last (the_context_of i) before settled
        (known-context_anew _ (table_at last before) (ap (λ x. and_then x (context_of_package (table_at last before))) named))
        (ap (λ x. context_around number_of_innermost x (suc (length before))) e) (not_package _ refl) k

-- ---- task and protected units

unit-waits : (last : ℕ) (kind : UnitKind) (o : Occurrence) (b : Before) → is_unit_of kind o ≡ true → (j : Identifier) × Waits last (a_unit j) o b
unit-waits last kind (declares j (a_task is_type aspects)) b e = (j, task-waits last j b is_type aspects)
unit-waits last kind (declares j (a_protected is_type aspects)) b e = (j, protected-waits last j b is_type aspects)
unit-waits last kind _ b e = absurd (false-true e)

pub nearest-some : (f : Occurrence → Before → Bool) (before : Before) (o : Occurrence) (b : Before) → Stands (o ∷ b) before → f o b ≡ true
    → is_some (nearest f before) ≡ true
nearest-some f [] o b s e = cc
nearest-some f (p ∷ before) o b (inl q) e =
    let h : o ≡ p = cc in
    let g : b ≡ before = cc in
    let t : f p before ≡ true = subst (λ z. f z before ≡ true) h (subst (λ z. f o z ≡ true) g e) in
    ap (λ u. is_some (cond u (Some (p ∷ before)) (nearest f before))) t
nearest-some f (p ∷ before) o b (inr s) e = go (f p before) (nearest-some f before o b s e)
  where
    go : (t : Bool) → is_some (nearest f before) ≡ true → is_some (cond t (Some (p ∷ before)) (nearest f before)) ≡ true
    go true q = refl
    go false q = q

body-nearest : (y before : Before) (region : ℕ) → Stands y before → IsBody y → region_of_position y ≡ region
    → is_some (nearest (begins_body region) before) ≡ true
body-nearest [] before region s body e = absurd body
body-nearest (begins (task_body i place) ∷ c) before region s body e = nearest-some (begins_body region) before (begins (task_body i place)) c s (eq-eqb _ _ e)
body-nearest (begins (protected_body i) ∷ c) before region s body e = nearest-some (begins_body region) before (begins (protected_body i)) c s (eq-eqb _ _ e)
body-nearest (_ ∷ c) before region s body e = absurd body

pub if_so-found : (test : Occurrence → Bool) (x : Option Before) (d : Before) → if_so test x ≡ Some d
    → (o : Occurrence) × (b : Before) × (x ≡ Some (o ∷ b)) × (test o ≡ true) × (d ≡ o ∷ b)
if_so-found test None d e = cc
if_so-found test (Some []) d e = cc
if_so-found test (Some (o ∷ b)) d e = go (test o) refl e
  where
    go : (t : Bool) → test o ≡ t → cond t (Some (o ∷ b)) None ≡ Some d
        → (p : Occurrence) × (c : Before) × (Some (o ∷ b) ≡ Some (p ∷ c)) × (test p ≡ true) × (d ≡ p ∷ c)
    go true t q = (o, b, refl, t, (let h : o ∷ b ≡ d = cc in sym h))
    go false t q = cc

pub not-false : (b : Bool) → not b ≡ true → b ≡ true → ⊥
not-false true e q = cc
not-false false e q = cc

unit-there : (n : Names) (e : ℕ) (kind : UnitKind) (x : Entity) (t : Bool) → entity_at n e ≡ Some x
    → (is_some x.region && type_is kind (type_of_kind x.kind)) ≡ t → is_unit kind n e ≡ t
unfolding is_unit
unit-there n e kind x t there is =
    ap (λ y. is_some (and_then y (λ (z : Entity). z.region)) && type_is kind (and_then (option_map (λ (z : Entity). z.kind) y) type_of_kind)) there ∙ is

-- the table tells of a body what makes it that of its unit
abbrev pub OpensBody : ℕ → UnitKind → Identifier → Region → Before → Type 0
OpensBody last kind i r before =
    (e region : ℕ) → entity_bound (table_at last before) (region_here (table_at last before)) i.text ≡ Some e → is_unit kind (table_at last before) e ≡ true
    → list_any (eqb e) (known_at last before).bodies ≡ false → region_of_entity (table_at last before) e ≡ Some region
    → known_at last (begins r ∷ before) ≡ with_body_of e (begun_again region false (known_at last before))

pub task-opens : (last : ℕ) (i : Identifier) (place : Place) (before : Before) → OpensBody last unit.Task i (task_body i place) before
unfolding behind begun is_unit
task-opens last i place before e region found is first there =
    known-body_begun unit.Task i (next_scope (table_at last before)) (with_scope place false false (table_at last before)) e region found is first there

pub protected-opens : (last : ℕ) (i : Identifier) (before : Before) → OpensBody last unit.Protected i (protected_body i) before
unfolding behind begun
protected-opens last i before e region found is first there = known-body_begun unit.Protected i None (table_at last before) e region found is first there

pub some-same : (a b : ℕ) → Some a ≡ Some b → a ≡ b
some-same a b e = cc

-- no body of it stands before
no-body : (last : ℕ) (before : Before) (o : Occurrence) (b : Before) (r : Region) (region e : ℕ) → Kept last before → Stands (begins r ∷ o ∷ b) before
    → Waits last r o b
    → not (is_some (nearest (begins_body (suc (length (o ∷ b)))) before)) ≡ true → region ≡ (known_at last b).regions
    → region_of_entity (table_at last before) e ≡ Some region
    → (t : Bool) → list_any (eqb e) (known_at last before).bodies ≡ t → t ≡ false
no-body last before o b r region e k stands w first here there true any =
    let y = k.bodies.begun e region any there in
    let position : region_of_position y.0 ≡ suc (length (o ∷ b)) =
    k.regions.same y.0 (begins r ∷ o ∷ b) y.1 stands (y.3 ∙ (here ∙ sym (waited-here last r o b w))) ∙ waited-position last r o b w in
    absurd (not-false _ first (body-nearest y.0 before (suc (length (o ∷ b))) y.1 y.2 position))
no-body last before o b r region e k stands w first here there false any = refl

unit-kept : (last : ℕ) (kind : UnitKind) (i : Identifier) (r : Region) (before : Before) → IsText before → begins_next before ≡ None → Kept last before
    → IsBody (begins r ∷ before) → OpensBody last kind i r before → ((j : Identifier) → begins (package_region j) ≡ begins r → ⊥)
    → (o : Occurrence) (b : Before) → declaration number_of_innermost (region_of_position before) i.text before ≡ Some (o ∷ b) → is_unit_of kind o ≡ true
    → number_of_region number_of_innermost r before ≡ suc (length (o ∷ b)) → not (is_some (nearest (begins_body (suc (length (o ∷ b)))) before)) ≡ true
    → Kept last (begins r ∷ before)
unit-kept last kind i r before t settled k body opens other o b declared is number first =
    let n : Names = table_at last before in
    let e : ℕ = length (known_at last b).entities in
    let region : ℕ = (known_at last b).regions in
    let f = found-nearest last (region_of_position before) i.text before o b k declared in
    let x = f.there in
    let waits = unit-waits last kind o b is in
    let w = waits.1 in
    let u : Before = begins (a_unit waits.0) ∷ o ∷ b in
    let stands : Stands u before = begun-stands before o b (a_unit waits.0) t settled f.stands w.next in
    let bound : entity_bound n (region_here n) i.text ≡ Some e = bound-here last before i.text k ∙ f.bound in
    let there : region_of_entity n e ≡ Some region =
    ap (λ y. and_then y (λ (z : Entity). z.region)) x.1 ∙ (x.2.region ∙ ap (λ y. region_given y region) w.next) in
    let unopened : list_any (eqb e) (known_at last before).bodies ≡ false =
    no-body last before o b (a_unit waits.0) region e k stands w first refl there (list_any (eqb e) (known_at last before).bodies) refl in
    let same : known_at last (begins r ∷ before) ≡ with_body_of e (begun_again region false (known_at last before)) =
    opens e region bound (unit-there n e kind x.0 true x.1 (x.2.unit kind ∙ is)) unopened there in
    let again : OpensAgain last r before u =
    opens-again last r before u region (with_body_of e (known_at last before)) stands (waited-here last (a_unit waits.0) o b w)
    (number ∙ sym (waited-position last (a_unit waits.0) o b w)) same refl refl refl refl refl in
    kept-again last r before u settled k again
    (bodies-more last (begins r) before e k.bodies (ap (λ y. y.bodies) same) again.entities (slice_get_within (known_at last before).entities e x.0 x.1)
    (λ m q. (
      begins r ∷ before,
      inl refl,
      body,
      ap (λ y. (innermost y.opened).region) same ∙ some-same region m (sym there ∙ q),
    )))
    (contexts-stay last (begins r) before k.contexts (ap (λ y. y.contexts) same) other)

pub kept-unit_body : (last : ℕ) (kind : UnitKind) (i : Identifier) (r : Region) (before : Before) → IsText before → begins_next before ≡ None → Kept last before
    → is_first_body kind i.text before ≡ true
    → IsBody (begins r ∷ before)
    → number_of_region number_of_innermost r before
    ≡ region_behind number_of_innermost (unit_declared number_of_innermost kind i.text before) (suc (length before))
    → OpensBody last kind i r before → ((j : Identifier) → begins (package_region j) ≡ begins r → ⊥) → Kept last (begins r ∷ before)
kept-unit_body last kind i r before t settled k complete body number opens other =
    go (unit_declared number_of_innermost kind i.text before) refl (and_parts _ _ complete)
  where
    go : (x : Option Before) → unit_declared number_of_innermost kind i.text before ≡ x
        → (is_some (unit_declared number_of_innermost kind i.text before) ≡ true)
        × (not (is_some (nearest (begins_body (region_behind number_of_innermost (unit_declared number_of_innermost kind i.text before) 0)) before)) ≡ true)
        → Kept last (begins r ∷ before)
    go None e h = absurd (false-true (ap is_some (sym e) ∙ h.0))
    go (Some d) e h =
        let f = if_so-found (is_unit_of kind) (declaration number_of_innermost (region_of_position before) i.text before) d e in
        unit-kept last kind i r before t settled k body opens other f.0 f.1 f.2 f.3
        (number ∙ ap (λ x. region_behind number_of_innermost x (suc (length before))) (e ∙ ap Some f.4))
        (subst (λ x. not (is_some (nearest (begins_body (region_behind number_of_innermost x 0)) before)) ≡ true) (e ∙ ap Some f.4) h.1)
