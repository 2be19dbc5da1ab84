-- What the table knows of a body's unit makes it the first body of a unit by position.
use Rattle.std.proofs.Common.{◌≡◌, ℕ, suc, true, false, cond, not, ◌&&◌, [], ◌∷◌, length, Option, Some, None, is_some, eqb, eqb-true, refl, sym, ap, subst, ◌∙◌}
use Rattle.std.specs.List.{list_any}
use Rattle.std.proofs.lemmas.Bool.{and_parts}
use Rattle.ann_base.specs.declared.places.Place.{Place}
use Rattle.ada_tree.specs.declared.names.Identifier.{Identifier}
use Rattle.ada_regions.specs.declared.entities.Entity.{Entity}
use Rattle.ada_regions.specs.declared.entities.UnitKind.{UnitKind}
use Rattle.ada_regions.specs.declared.entities.UnitKind.TheVariants as unit
use Rattle.ada_regions.specs.Words.{and_then}
use Rattle.ada_regions.specs.Names.{region_here, region_of_entity}
use Rattle.ada_regions.specs.Occurrences.{Occurrence, task_body, protected_body, begins}
use Rattle.ada_regions.specs.Completions.{entity_bound, is_unit, has_body}
use Rattle.ada_regions.specs.Regions.{next_scope, with_scope, begun}
use Rattle.ada_regions.specs.Numbered.{behind}
use Rattle.source_laws.specs.Positions.{Before, Stands, nearest}
use Rattle.source_laws.specs.Declarations.{declares_name, declaration, hides_name, if_so, is_unit_of}
use Rattle.source_laws.specs.Regions.{number_of, number_of_innermost, region_of_position, unit_declared, region_behind}
use Rattle.source_laws.specs.Regions.{begins_body, is_first_body, completes_if_body, bodies_complete_before}
use Rattle.source_laws.specs.Tables.{table_at}
use Rattle.source_laws.proofs.Names.PositionLemmas.{false-true, none-some, stands-trans, stands-tail, nearest-stands, nearest-holds}
use Rattle.source_laws.proofs.Names.NumberLemmas.{number-beginning}
use Rattle.source_laws.proofs.Names.Kept.{known_at}
use Rattle.source_laws.proofs.Names.KeptBindings.{said_by, said}
use Rattle.source_laws.proofs.Names.KeptSteps.{Kept}
use Rattle.source_laws.proofs.Names.KeptBodies.{joined, bound-here, found-nearest, no_start}
use Rattle.source_laws.proofs.Names.KeptUnits.{if_so-found, some-same}
use Rattle.source_laws.proofs.Names.KeptAll.{kept}
use Rattle.source_laws.proofs.Names.Exports.{same_length}
use Rattle.source_laws.proofs.Names.Lawful.{text-stands, complete-stands}
use Rattle.source_laws.proofs.Names.Texts.{IsText}
use Rattle.source_laws.proofs.Sources.Changes.{body-there}
use Rattle.source_laws.proofs.Sources.Traces.{body-stays, unit-by, unit-entity}

-- ---- the unit that the region around a position declares

-- it is declared by position, and is the entity e
pub record UnitDeclared (last : ℕ) (kind : UnitKind) (i : Identifier) (before : Before) (e : ℕ) : Type 0 where
  pub declares : Occurrence
  pub position : Before
  pub stands : Stands (declares ∷ position) before
  pub entity : e ≡ length (known_at last position).entities
  pub found : unit_declared number_of_innermost kind i.text before ≡ Some (declares ∷ position)

joined-none : (last : ℕ) (h : Option Before) → joined (said_by last None h) ≡ None
joined-none last None = refl
joined-none last (Some h) = refl

pub unit-declared : (last : ℕ) (kind : UnitKind) (i : Identifier) (before : Before) (e : ℕ) → Kept last before
    → entity_bound (table_at last before) (region_here (table_at last before)) i.text ≡ Some e
    → is_unit kind (table_at last before) e ≡ true → UnitDeclared last kind i before e
unit-declared last kind i before e k bound is = go (declaration number_of_innermost (region_of_position before) i.text before) refl
  where
    told : joined (said last (region_of_position before) i.text before) ≡ Some e
    told = sym (bound-here last before i.text k) ∙ bound

    there : (o : Occurrence) (b : Before) → declaration number_of_innermost (region_of_position before) i.text before ≡ Some (o ∷ b)
        → UnitDeclared last kind i before e
    there o b d =
        let f = found-nearest last (region_of_position before) i.text before o b k d in
        let x = f.there in
        let same : e ≡ length (known_at last b).entities = some-same e (length (known_at last b).entities) (sym told ∙ f.bound) in
        let of_kind : is_unit_of kind o ≡ true =
        sym (x.2.unit kind)
        ∙ (sym (unit-by (table_at last before) (length (known_at last b).entities) kind x.0 x.1)
        ∙ (ap (is_unit kind (table_at last before)) (sym same) ∙ is)) in
        record {
          declares = o;
          position = b;
          stands = f.stands;
          entity = same;
          found = ap (if_so (is_unit_of kind)) d ∙ ap (λ t. cond t (Some (o ∷ b)) None) of_kind;
        }

    go : (d : Option Before) → declaration number_of_innermost (region_of_position before) i.text before ≡ d → UnitDeclared last kind i before e
    go None d =
        absurd (none-some e
        (sym (ap (λ x. joined (said_by last x (nearest (hides_name number_of_innermost (region_of_position before) i.text) before))) d
        ∙ joined-none last (nearest (hides_name number_of_innermost (region_of_position before) i.text) before))
        ∙ told))
    go (Some []) d = absurd (no_start (declares_name number_of_innermost (region_of_position before) i.text) before d)
    go (Some (o ∷ b)) d = there o b d

-- the other way round: what is declared by position is bound, and is a unit
pub record UnitBound (last : ℕ) (kind : UnitKind) (i : Identifier) (before : Before) : Type 0 where
  pub entity : ℕ
  pub region : ℕ
  pub bound : entity_bound (table_at last before) (region_here (table_at last before)) i.text ≡ Some entity
  pub is : is_unit kind (table_at last before) entity ≡ true
  pub there : region_of_entity (table_at last before) entity ≡ Some region

some-region : (n : ℕ) (x : Option ℕ) → is_some x ≡ true → (r : ℕ) × (x ≡ Some r)
some-region n None e = cc
some-region n (Some r) e = (r, refl)

pub unit-bound : (last : ℕ) (kind : UnitKind) (i : Identifier) (before d : Before) → Kept last before
    → unit_declared number_of_innermost kind i.text before ≡ Some d
    → (u : UnitBound last kind i before) × (o : Occurrence) × (b : Before) × (d ≡ o ∷ b) × (u.entity ≡ length (known_at last b).entities) × Stands d before
unit-bound last kind i before d k e =
    let g = if_so-found (is_unit_of kind) (declaration number_of_innermost (region_of_position before) i.text before) d e in
    let o = g.0 in
    let b = g.1 in
    let f = found-nearest last (region_of_position before) i.text before o b k g.2 in
    let x = f.there in
    let is : is_unit kind (table_at last before) (length (known_at last b).entities) ≡ true =
    unit-by (table_at last before) (length (known_at last b).entities) kind x.0 x.1 ∙ (x.2.unit kind ∙ g.3) in
    let y = unit-entity (table_at last before) (length (known_at last b).entities) kind is in
    let r = some-region 0 y.0.region y.2 in (
      record {
        entity = length (known_at last b).entities;
        region = r.0;
        bound = bound-here last before i.text k ∙ f.bound;
        is = is;
        there = ap (λ z. and_then z (λ (w : Entity). w.region)) y.1 ∙ r.1;
      },
      o,
      b,
      g.4,
      refl,
      subst (λ z. Stands z before) (sym g.4) f.stands,
    )

-- ---- an earlier body of the same unit

-- behind a body of a unit that is declared by position the unit has a body
abbrev HasThere : ℕ → UnitKind → Identifier → Occurrence → Before → Type 0
HasThere last kind j p c =
    (e region : ℕ) → entity_bound (table_at last c) (region_here (table_at last c)) j.text ≡ Some e → is_unit kind (table_at last c) e ≡ true
    → region_of_entity (table_at last c) e ≡ Some region
    → list_any (eqb e) (table_at last (p ∷ c)).bodies ≡ true

task-has : (last : ℕ) (j : Identifier) (place : Place) (c : Before) → HasThere last unit.Task j (begins (task_body j place)) c
unfolding behind begun is_unit
task-has last j place c e region bound is there =
    body-there unit.Task j (next_scope (table_at last c)) (with_scope place false false (table_at last c)) e region bound is there

protected-has : (last : ℕ) (j : Identifier) (c : Before) → HasThere last unit.Protected j (begins (protected_body j)) c
unfolding behind begun
protected-has last j c e region bound is there = body-there unit.Protected j None (table_at last c) e region bound is there

suc-same : (a b : ℕ) → suc a ≡ suc b → a ≡ b
suc-same a b e = cc

tail-same : (o p : Occurrence) (b c : Before) → o ∷ b ≡ p ∷ c → b ≡ c
tail-same o p b c e = cc

module _ (last : ℕ) (before : Before) (t : IsText before) (complete : bodies_complete_before before ≡ true) (o : Occurrence) (b : Before)
    (s : Stands (o ∷ b) before) where
  -- it completes the unit that o declares
  earlier-kind : (kind : UnitKind) (j : Identifier) (p : Occurrence) (c : Before) → Stands (p ∷ c) before → completes_if_body p c ≡ is_first_body kind j.text c
      → number_of (p ∷ c) ≡ region_behind number_of_innermost (unit_declared number_of_innermost kind j.text c) (suc (length c)) → HasThere last kind j p c
      → number_of (p ∷ c) ≡ suc (length (o ∷ b)) → list_any (eqb (length (known_at last b).entities)) (table_at last before).bodies ≡ true
  earlier-kind kind j p c stands completes number has same = go (unit_declared number_of_innermost kind j.text c) refl
    where
      within : Stands c before
      within = stands-tail p c before stands

      first : is_first_body kind j.text c ≡ true
      first = sym completes ∙ (and_parts (completes_if_body p c) (bodies_complete_before c) (complete-stands (p ∷ c) before stands complete)).0

      k : Kept last c
      k = kept last c (text-stands c before within t) (complete-stands c before within complete)

      go : (x : Option Before) → unit_declared number_of_innermost kind j.text c ≡ x
          → list_any (eqb (length (known_at last b).entities)) (table_at last before).bodies ≡ true
      go None e =
          absurd (false-true
          (ap is_some (sym e)
          ∙ (and_parts (is_some (unit_declared number_of_innermost kind j.text c))
          (not (is_some (nearest (begins_body (region_behind number_of_innermost (unit_declared number_of_innermost kind j.text c) 0)) c))) first).0))
      go (Some d) e =
          let f = unit-bound last kind j c d k e in
          let u = f.0 in
          let numbers : suc (length d) ≡ suc (length (o ∷ b)) = sym (number ∙ ap (λ x. region_behind number_of_innermost x (suc (length c))) e) ∙ same in
          let d-stands : Stands d before = stands-trans d c before f.5 within in
          let here : d ≡ o ∷ b = same_length d (o ∷ b) before d-stands s (suc-same (length d) (length (o ∷ b)) numbers) in
          let tail : f.2 ≡ b = tail-same f.1 o f.2 b (sym f.3 ∙ here) in
          let entity : u.entity ≡ length (known_at last b).entities = f.4 ∙ ap (λ z. length (known_at last z).entities) tail in
          subst (λ z. list_any (eqb z) (table_at last before).bodies ≡ true) entity
          (body-stays last (p ∷ c) before stands t u.entity (has u.entity u.region u.bound u.is u.there))

  earlier-has : (p : Occurrence) (c : Before) → Stands (p ∷ c) before → begins_body (suc (length (o ∷ b))) p c ≡ true
      → list_any (eqb (length (known_at last b).entities)) (table_at last before).bodies ≡ true
  earlier-has (begins (task_body j place)) c stands e =
      earlier-kind unit.Task j (begins (task_body j place)) c stands refl (number-beginning (begins (task_body j place)) c) (task-has last j place c)
      (eqb-true _ _ e)
  earlier-has (begins (protected_body j)) c stands e =
      earlier-kind unit.Protected j (begins (protected_body j)) c stands refl (number-beginning (begins (protected_body j)) c) (protected-has last j c)
      (eqb-true _ _ e)
  earlier-has _ c stands e = cc

-- ---- the first body

pub first-by-table : (last : ℕ) (kind : UnitKind) (i : Identifier) (before : Before) (e : ℕ) → IsText before → bodies_complete_before before ≡ true
    → entity_bound (table_at last before) (region_here (table_at last before)) i.text ≡ Some e → is_unit kind (table_at last before) e ≡ true
    → has_body (table_at last before) e ≡ false
    → is_first_body kind i.text before ≡ true
first-by-table last kind i before e t complete bound is first =
    let u = unit-declared last kind i before e (kept last before t complete) bound is in
    let none = none-before u (nearest (begins_body (suc (length (u.declares ∷ u.position)))) before) refl in
    ap (λ x. is_some x && not (is_some (nearest (begins_body (region_behind number_of_innermost x 0)) before))) u.found ∙ ap (λ x. not (is_some x)) none
  where
    none-before : (u : UnitDeclared last kind i before e) (x : Option Before) → nearest (begins_body (suc (length (u.declares ∷ u.position)))) before ≡ x
        → nearest (begins_body (suc (length (u.declares ∷ u.position)))) before ≡ None
    none-before u None q = q
    none-before u (Some []) q = absurd (no_start (begins_body (suc (length (u.declares ∷ u.position)))) before q)
    none-before u (Some (p ∷ c)) q =
        let has =
        earlier-has last before t complete u.declares u.position u.stands p c
        (nearest-stands (begins_body (suc (length (u.declares ∷ u.position)))) before (p ∷ c) q)
        (nearest-holds (begins_body (suc (length (u.declares ∷ u.position)))) before (p ∷ c) q) in
        absurd (false-true (sym first ∙ (ap (λ z. list_any (eqb z) (table_at last before).bodies) u.entity ∙ has)))
