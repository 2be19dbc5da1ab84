-- Each unit of a table was declared by an occurrence, whose name denotes it.
use Rattle.std.proofs.Common.{◌≡◌, ◌⊎◌, inl, inr, ℕ, zero, suc, Bool, true, false, ◌&&◌, List, []}
use Rattle.std.proofs.Common.{◌∷◌, ◌++◌, length, Option, Some, slice_get, refl, sym, ap, subst, ◌∙◌}
use Rattle.ada_tree.specs.declared.names.Identifier.{Identifier}
use Rattle.ada_tree.specs.declared.declarations.Aspect.{Aspect}
use Rattle.ada_regions.specs.declared.entities.Entity.{Entity}
use Rattle.ada_regions.specs.declared.entities.EntityKind.{EntityKind}
use Rattle.ada_regions.specs.declared.entities.UnitKind.{UnitKind}
use Rattle.ada_regions.specs.declared.table.Names.{Names}
use Rattle.ada_regions.specs.Names.{entity_at, entity_denoted, enclosure_here, region_here}
use Rattle.ada_regions.specs.Declaring.{is_taken, entered_here, numbered, unit_entered, task_declared, protected_declared, declared, type_of_kind}
use Rattle.ada_regions.specs.Completions.{is_unit, type_is}
use Rattle.ada_regions.specs.Numbered.{behind}
use Rattle.ada_regions.specs.Occurrences.{Occurrence, Declared, a_task, a_protected, declares}
use Rattle.source_laws.specs.Positions.{Before, Stands}
use Rattle.source_laws.specs.Declarations.{is_unit_of}
use Rattle.source_laws.specs.Tables.{table_at}
use Rattle.source_laws.proofs.Names.PositionLemmas.{false-true}
use Rattle.source_laws.proofs.Names.KnownDeclared.{Declares}
use Rattle.source_laws.proofs.Names.KnownBegun.{entered-denoted}
use Rattle.source_laws.proofs.Names.Texts.{IsText}
use Rattle.source_laws.proofs.Sources.Changes.{EntitiesAfter, no_entity, one_entity, after}
use Rattle.source_laws.proofs.Sources.Traces.{unit-entity}

-- ---- the occurrence that an entity comes from

last-or-before : (es : List Entity) (y : Entity) (e : ℕ) (x : Entity) → slice_get (es ++ y ∷ []) e ≡ Some x
    → (slice_get es e ≡ Some x) ⊎ ((e ≡ length es) × (y ≡ x))
last-or-before [] y zero x q = inr (refl, (let h : y ≡ x = cc in h))
last-or-before [] y (suc e) x q = cc
last-or-before (z ∷ es) y zero x q = inl q
last-or-before (z ∷ es) y (suc e) x q = go (last-or-before es y e x q)
  where
    go : (slice_get es e ≡ Some x) ⊎ ((e ≡ length es) × (y ≡ x)) → (slice_get es e ≡ Some x) ⊎ ((suc e ≡ length (z ∷ es)) × (y ≡ x))
    go (inl h) = inl h
    go (inr h) = inr (ap suc h.0, h.1)

pub record Founded (last e : ℕ) (x : Entity) (before : Before) : Type 0 where
  pub declares_it : Occurrence
  pub position : Before
  pub stands : Stands (declares_it ∷ position) before
  pub number : e ≡ length (table_at last position).entities
  pub declared : Declares declares_it (table_at last position).regions x

founded : (last e : ℕ) (x : Entity) (before : Before) → IsText before → entity_at (table_at last before) e ≡ Some x → Founded last e x before
founded last e x [] t there = cc
founded last e x (o ∷ before) t there = go (after o (table_at last before) before t.1).entities (λ old. farther (founded last e x before t.2 old))
  where
    farther : Founded last e x before → Founded last e x (o ∷ before)
    farther f = record { declares_it = f.declares_it; position = f.position; stands = inr f.stands; number = f.number; declared = f.declared }

    choose : (y : Entity) → Declares o (table_at last before).regions y
        → (slice_get (table_at last before).entities e ≡ Some x) ⊎ ((e ≡ length (table_at last before).entities) × (y ≡ x))
        → (entity_at (table_at last before) e ≡ Some x → Founded last e x (o ∷ before)) → Founded last e x (o ∷ before)
    choose y d (inl h) old = old h
    choose y d (inr h) old = record {
      declares_it = o;
      position = before;
      stands = inl refl;
      number = h.0;
      declared = subst (λ z. Declares o (table_at last before).regions z) h.1 d;
    }

    go : EntitiesAfter o (table_at last before) (table_at last (o ∷ before)) → (entity_at (table_at last before) e ≡ Some x → Founded last e x (o ∷ before))
        → Founded last e x (o ∷ before)
    go (no_entity same) old = old (ap (λ es. slice_get es e) (sym same) ∙ there)
    go (one_entity y d more) old = choose y d (last-or-before (table_at last before).entities y e x (ap (λ es. slice_get es e) (sym more) ∙ there)) old

-- ---- the declaration of a unit denotes it

denoted-entered : (i : Identifier) (kind : EntityKind) (region : Option ℕ) (m last : Names) → last ≡ entered_here i kind region m
    → entity_denoted last i.place ≡ Some (length m.entities)
unfolding entered_here
denoted-entered i kind region m last e =
    ap (λ n. entity_denoted n i.place) e ∙ entered-denoted (enclosure_here m) (is_taken m (region_here m) i.text) i kind region m

denoted-task : (is_type : Bool) (aspects : List Aspect) (i : Identifier) (n : Names)
    → entity_denoted (declared i (a_task is_type aspects) n) i.place ≡ Some (length n.entities)
unfolding declared task_declared unit_entered numbered
denoted-task true aspects i n = denoted-entered i _ _ _ _ refl
denoted-task false aspects i n = denoted-entered i _ _ _ _ refl

denoted-protected : (is_type : Bool) (aspects : List Aspect) (i : Identifier) (n : Names)
    → entity_denoted (declared i (a_protected is_type aspects) n) i.place ≡ Some (length n.entities)
unfolding declared protected_declared unit_entered numbered
denoted-protected true aspects i n = denoted-entered i _ _ _ _ refl
denoted-protected false aspects i n = denoted-entered i _ _ _ _ refl

pub record UnitFounded (last : ℕ) (kind : UnitKind) (e : ℕ) (before : Before) : Type 0 where
  pub name : Identifier
  pub what : Declared
  pub position : Before
  pub stands : Stands (declares name what ∷ position) before
  pub of_kind : is_unit_of kind (declares name what) ≡ true
  pub denoted : entity_denoted (table_at last (declares name what ∷ position)) name.place ≡ Some e

by-occurrence : (last : ℕ) (kind : UnitKind) (e : ℕ) (before : Before) (o : Occurrence) (b : Before) → Stands (o ∷ b) before → is_unit_of kind o ≡ true
    → e ≡ length (table_at last b).entities → UnitFounded last kind e before
unfolding behind
by-occurrence last kind e before (declares j (a_task is_type aspects)) b s is number =
    record {
      name = j;
      what = a_task is_type aspects;
      position = b;
      stands = s;
      of_kind = is;
      denoted = denoted-task is_type aspects j (table_at last b) ∙ ap Some (sym number);
    }
by-occurrence last kind e before (declares j (a_protected is_type aspects)) b s is number =
    record {
      name = j;
      what = a_protected is_type aspects;
      position = b;
      stands = s;
      of_kind = is;
      denoted = denoted-protected is_type aspects j (table_at last b) ∙ ap Some (sym number);
    }
by-occurrence last kind e before _ b s is number = absurd (false-true is)

pub unit-founded : (last : ℕ) (kind : UnitKind) (e : ℕ) (before : Before) → IsText before → is_unit kind (table_at last before) e ≡ true
    → UnitFounded last kind e before
unit-founded last kind e before t is =
    let x = unit-entity (table_at last before) e kind is in
    let f = founded last e x.0 before t x.1 in
    by-occurrence last kind e before f.declares_it f.position f.stands
    (sym (f.declared.unit kind) ∙ (ap (λ r. r && type_is kind (type_of_kind x.0.kind)) x.2 ∙ x.3)) f.number
