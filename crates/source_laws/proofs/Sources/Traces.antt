-- What the table keeps of entities from a position on, and from where it knows that a unit has a body.
use Rattle.std.proofs.Common.{◌≡◌, inl, inr, ℕ, Bool, true, false, ◌&&◌, ◌||◌, [], ◌∷◌, Option, Some, None}
use Rattle.std.proofs.Common.{is_some, option_map, slice_get, eqb, eqb-true, refl, sym, ap, subst, ◌∙◌}
use Rattle.std.specs.List.{list_any}
use Rattle.std.proofs.lemmas.Bool.{and_parts, or_right}
use Rattle.ada_tree.specs.declared.names.Identifier.{Identifier}
use Rattle.ada_regions.specs.declared.types.AdaType.{AdaType}
use Rattle.ada_regions.specs.declared.types.AdaType.TheVariants as types
use Rattle.ada_regions.specs.declared.entities.Entity.{Entity}
use Rattle.ada_regions.specs.declared.entities.EntityKind.{EntityKind}
use Rattle.ada_regions.specs.declared.entities.EntityKind.TheVariants as entity
use Rattle.ada_regions.specs.declared.entities.UnitKind.{UnitKind}
use Rattle.ada_regions.specs.declared.entities.UnitKind.TheVariants as unit
use Rattle.ada_regions.specs.declared.table.Names.{Names}
use Rattle.ada_regions.specs.Words.{and_then}
use Rattle.ada_regions.specs.Names.{entity_at}
use Rattle.ada_regions.specs.Declaring.{type_of_kind}
use Rattle.ada_regions.specs.Completions.{specified_number, is_specified, is_unit, type_is}
use Rattle.ada_regions.specs.Occurrences.{Occurrence}
use Rattle.source_laws.specs.Positions.{Before, Stands}
use Rattle.source_laws.specs.Tables.{table_at}
use Rattle.source_laws.proofs.Names.PositionLemmas.{stands-here}
use Rattle.source_laws.proofs.Names.KeptEntities.{slice_get-more}
use Rattle.source_laws.proofs.Names.Texts.{IsText}
use Rattle.source_laws.specs.Bodies.{body_named, is_same_kind}
use Rattle.source_laws.proofs.Sources.Changes.{EntitiesAfter, no_entity, one_entity, FirstBody, BodiesAfter, no_body, subprogram_body_of, unit_body_of, after}

-- ---- entities and bodies stay

pub entity-stays : (last : ℕ) (b before : Before) → Stands b before → IsText before → (e : ℕ) (x : Entity) → entity_at (table_at last b) e ≡ Some x
    → entity_at (table_at last before) e ≡ Some x
entity-stays last b [] s t e x there = ap (λ z. entity_at (table_at last z) e) (sym s) ∙ there
entity-stays last b (o ∷ before) (inl q) t e x there = ap (λ z. entity_at (table_at last z) e) (sym q) ∙ there
entity-stays last b (o ∷ before) (inr s) t e x there = go (after o (table_at last before) before t.1).entities (entity-stays last b before s t.2 e x there)
  where
    go : EntitiesAfter o (table_at last before) (table_at last (o ∷ before)) → entity_at (table_at last before) e ≡ Some x
        → entity_at (table_at last (o ∷ before)) e ≡ Some x
    go (no_entity same) old = ap (λ es. slice_get es e) same ∙ old
    go (one_entity y d more) old = ap (λ es. slice_get es e) more ∙ slice_get-more (table_at last before).entities (y ∷ []) e x old

pub body-stays : (last : ℕ) (b before : Before) → Stands b before → IsText before → (e : ℕ) → list_any (eqb e) (table_at last b).bodies ≡ true
    → list_any (eqb e) (table_at last before).bodies ≡ true
body-stays last b [] s t e has = ap (λ z. list_any (eqb e) (table_at last z).bodies) (sym s) ∙ has
body-stays last b (o ∷ before) (inl q) t e has = ap (λ z. list_any (eqb e) (table_at last z).bodies) (sym q) ∙ has
body-stays last b (o ∷ before) (inr s) t e has = go (after o (table_at last before) before t.1).bodies (body-stays last b before s t.2 e has)
  where
    go : BodiesAfter o (table_at last before) (table_at last (o ∷ before)) → list_any (eqb e) (table_at last before).bodies ≡ true
        → list_any (eqb e) (table_at last (o ∷ before)).bodies ≡ true
    go (no_body same) old = ap (list_any (eqb e)) same ∙ old
    go (subprogram_body_of f is more) old = ap (list_any (eqb e)) more ∙ or_right (eqb e f) (list_any (eqb e) (table_at last before).bodies) old
    go (unit_body_of kind i f named first more) old = ap (list_any (eqb e)) more ∙ or_right (eqb e f) (list_any (eqb e) (table_at last before).bodies) old

-- ---- units

pub unit-by : (n : Names) (e : ℕ) (kind : UnitKind) (x : Entity) → entity_at n e ≡ Some x
    → is_unit kind n e ≡ (is_some x.region && type_is kind (type_of_kind x.kind))
unfolding is_unit
unit-by n e kind x there =
    ap (λ y. is_some (and_then y (λ (z : Entity). z.region)) && type_is kind (and_then (option_map (λ (z : Entity). z.kind) y) type_of_kind)) there

pub unit-entity : (n : Names) (e : ℕ) (kind : UnitKind) → is_unit kind n e ≡ true
    → (x : Entity) × (entity_at n e ≡ Some x) × (is_some x.region ≡ true) × (type_is kind (type_of_kind x.kind) ≡ true)
unfolding is_unit
unit-entity n e kind is = go (entity_at n e) refl is
  where
    go : (y : Option Entity) → entity_at n e ≡ y
        → (is_some (and_then y (λ (z : Entity). z.region)) && type_is kind (and_then (option_map (λ (z : Entity). z.kind) y) type_of_kind)) ≡ true
        → (x : Entity) × (entity_at n e ≡ Some x) × (is_some x.region ≡ true) × (type_is kind (type_of_kind x.kind) ≡ true)
    go None there q = cc
    go (Some x) there q = let both = and_parts (is_some x.region) (type_is kind (type_of_kind x.kind)) q in (x, there, both.0, both.1)

pub unit-stays : (last : ℕ) (b before : Before) → Stands b before → IsText before → (kind : UnitKind) (e : ℕ) → is_unit kind (table_at last b) e ≡ true
    → is_unit kind (table_at last before) e ≡ true
unit-stays last b before s t kind e is =
    let x = unit-entity (table_at last b) e kind is in
    unit-by (table_at last before) e kind x.0 (entity-stays last b before s t e x.0 x.1) ∙ (ap (λ r. r && type_is kind (type_of_kind x.0.kind)) x.2 ∙ x.3)

kinds-alone : (a b : UnitKind) (t : Option AdaType) → type_is a t ≡ true → type_is b t ≡ true → is_same_kind a b ≡ true
kinds-alone unit.Task unit.Task t p q = refl
kinds-alone unit.Protected unit.Protected t p q = refl
kinds-alone unit.Task unit.Protected None p q = cc
kinds-alone unit.Task unit.Protected (Some (types.Task u)) p q = cc
kinds-alone unit.Task unit.Protected (Some _) p q = cc
kinds-alone unit.Protected unit.Task None p q = cc
kinds-alone unit.Protected unit.Task (Some (types.Protected u)) p q = cc
kinds-alone unit.Protected unit.Task (Some _) p q = cc

some-entity : (x y : Entity) → Some x ≡ Some y → x ≡ y
some-entity x y e = cc

-- an entity is a unit of one kind
pub one-kind : (n : Names) (e : ℕ) (a b : UnitKind) → is_unit a n e ≡ true → is_unit b n e ≡ true → is_same_kind a b ≡ true
one-kind n e a b p q =
    let x = unit-entity n e a p in
    let y = unit-entity n e b q in
    kinds-alone a b (type_of_kind x.0.kind) x.3 (ap (λ (z : Entity). type_is b (type_of_kind z.kind)) (some-entity x.0 y.0 (sym x.1 ∙ y.1)) ∙ y.3)

-- a subprogram is none
specified-alone : (k : EntityKind) → is_some (specified_number k) ≡ true → type_of_kind k ≡ None
specified-alone (entity.Subprogram number is_function specified formals owner) e = refl
specified-alone _ e = cc

specified-entity : (n : Names) (e : ℕ) → is_specified n e ≡ true → (x : Entity) × (entity_at n e ≡ Some x) × (is_some (specified_number x.kind) ≡ true)
specified-entity n e is = go (entity_at n e) refl is
  where
    go : (y : Option Entity) → entity_at n e ≡ y → is_some (and_then (option_map (λ (z : Entity). z.kind) y) specified_number) ≡ true
        → (x : Entity) × (entity_at n e ≡ Some x) × (is_some (specified_number x.kind) ≡ true)
    go None there q = cc
    go (Some x) there q = (x, there, q)

pub no-subprogram : (last : ℕ) (b before : Before) → Stands b before → IsText before → (kind : UnitKind) (e : ℕ) → is_specified (table_at last b) e ≡ true
    → is_unit kind (table_at last before) e ≡ true → ⊥
no-subprogram last b before s t kind e specified is =
    let x = specified-entity (table_at last b) e specified in
    let y = unit-entity (table_at last before) e kind is in
    let same : x.0 ≡ y.0 = some-entity x.0 y.0 (sym (entity-stays last b before s t e x.0 x.1) ∙ y.1) in
    none-typed kind (type_of_kind y.0.kind) (ap (λ (z : Entity). type_of_kind z.kind) (sym same) ∙ specified-alone x.0.kind x.2) y.3
  where
    none-typed : (kind : UnitKind) (t : Option AdaType) → t ≡ None → type_is kind t ≡ true → ⊥
    none-typed kind None e q = cc
    none-typed kind (Some t) e q = cc

-- ---- where the body of an entity that has one began

pub record UnitBody (last e : ℕ) (before : Before) : Type 0 where
  pub begins_it : Occurrence
  pub position : Before
  pub kind : UnitKind
  pub name : Identifier
  pub stands : Stands (begins_it ∷ position) before
  pub named : body_named begins_it ≡ Some (kind, name)
  pub first : FirstBody kind name e (table_at last position) (table_at last (begins_it ∷ position))

pub data Traced (last e : ℕ) (before : Before) : Type 0 where
  by_subprogram : (b : Before) → Stands b before → is_specified (table_at last b) e ≡ true → Traced last e before
  by_unit : UnitBody last e before → Traced last e before

farther : (last e : ℕ) (o : Occurrence) (before : Before) → Traced last e before → Traced last e (o ∷ before)
farther last e o before (by_subprogram b s is) = by_subprogram b (inr s) is
farther last e o before (by_unit u) =
    by_unit (record { begins_it = u.begins_it; position = u.position; kind = u.kind; name = u.name; stands = inr u.stands; named = u.named; first = u.first })

pub traced : (last e : ℕ) (before : Before) → IsText before → list_any (eqb e) (table_at last before).bodies ≡ true → Traced last e before
traced last e [] t has = cc
traced last e (o ∷ before) t has = go (after o (table_at last before) before t.1).bodies (λ old. farther last e o before (traced last e before t.2 old))
  where
    n : Names
    n = table_at last before

    by_it : (f : ℕ) → (table_at last (o ∷ before)).bodies ≡ f ∷ (table_at last before).bodies
        → (eqb e f || list_any (eqb e) (table_at last before).bodies) ≡ true
    by_it f more = ap (list_any (eqb e)) (sym more) ∙ has

    choose : (t : Bool) (f : ℕ) → eqb e f ≡ t → (t || list_any (eqb e) (table_at last before).bodies) ≡ true → (e ≡ f → Traced last e (o ∷ before))
        → (list_any (eqb e) (table_at last before).bodies ≡ true → Traced last e (o ∷ before)) → Traced last e (o ∷ before)
    choose true f q any here old = here (eqb-true e f q)
    choose false f q any here old = old any

    go : BodiesAfter o (table_at last before) (table_at last (o ∷ before))
        → (list_any (eqb e) (table_at last before).bodies ≡ true → Traced last e (o ∷ before)) → Traced last e (o ∷ before)
    go (no_body same) old = old (ap (list_any (eqb e)) (sym same) ∙ has)
    go (subprogram_body_of f is more) old =
        choose (eqb e f) f refl (by_it f more)
        (λ same. by_subprogram before (inr (stands-here before)) (ap (is_specified (table_at last before)) same ∙ is)) old
    go (unit_body_of kind i f named first more) old =
        choose (eqb e f) f refl (by_it f more) (λ same. by_unit (record {
          begins_it = o;
          position = before;
          kind = kind;
          name = i;
          stands = inl refl;
          named = named;
          first = subst (λ x. FirstBody kind i x (table_at last before) (table_at last (o ∷ before))) (sym same) first;
        })) old
