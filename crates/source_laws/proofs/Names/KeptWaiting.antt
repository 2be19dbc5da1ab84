-- Regions that begin right behind a declaration.
use Rattle.std.proofs.Common.{◌≡◌, ℕ, ◌<◌, suc, Bool, true, false, ◌&&◌, List, ◌∷◌, length, Option, Some, refl, sym, ap, ◌∙◌}
use Rattle.std.proofs.lemmas.Option.{slice_get_within}
use Rattle.std.proofs.lemmas.Slice.Eq.{bytes_eq-Decides}
use Rattle.ada_tree.specs.declared.names.Identifier.{Identifier}
use Rattle.ada_tree.specs.declared.declarations.Aspect.{Aspect}
use Rattle.ada_tree.specs.declared.names.Name.{Name}
use Rattle.ada_regions.specs.declared.entities.Entity.{Entity}
use Rattle.ada_regions.specs.declared.entities.EntityKind.{EntityKind}
use Rattle.ada_regions.specs.declared.entities.EntityKind.TheVariants as entity
use Rattle.ada_regions.specs.declared.table.Names.{Names}
use Rattle.ada_regions.specs.Words.{and_then}
use Rattle.ada_regions.specs.Names.{entity_denoted, region_of_entity, region_here, enclosure_of, enclosure_here}
use Rattle.ada_regions.specs.Occurrences.{Occurrence, Region, the_package, a_derived_type, a_task, a_protected}
use Rattle.ada_regions.specs.Occurrences.{package_region, a_unit, a_record, begins, declares, declares_unit}
use Rattle.ada_regions.specs.Declaring.{entered_here, entered_as_unit, is_taken, unit_is_taken, library_frame, with_region}
use Rattle.ada_regions.specs.Declaring.{declared, derived_declared, unit_entered, task_declared, protected_declared}
use Rattle.ada_regions.specs.Regions.{region_at, package_begun, begun}
use Rattle.ada_regions.specs.Numbered.{behind}
use Rattle.source_laws.specs.Positions.{Before, Stands}
use Rattle.source_laws.specs.Declarations.{declares_name}
use Rattle.source_laws.specs.Regions.{number_of, number_of_innermost}
use Rattle.source_laws.specs.Tables.{table_at}
use Rattle.source_laws.proofs.Names.NumberLemmas.{number-beginning}
use Rattle.source_laws.proofs.Names.Known.{known, innermost-opened}
use Rattle.source_laws.proofs.Names.KnownDeclared.{region_behind_it, known-declared, known-package_declared}
use Rattle.source_laws.proofs.Names.KnownBegun.{begun_again, with_context_of, entered-denoted, entered-entity}
use Rattle.source_laws.proofs.Names.KnownBegun.{entered-region, known-unit_begun, known-record_begun, known-package_begun}
use Rattle.source_laws.proofs.Names.Kept.{known_at, here_at, numbers_of, next_by, next_region}
use Rattle.source_laws.proofs.Names.KeptEntities.{EntitiesKept, ContextsKept, contexts-stay, contexts-more}
use Rattle.source_laws.proofs.Names.KeptSteps.{Kept}
use Rattle.source_laws.proofs.Names.KeptBegun.{OpensAnew, kept-anew}

-- ---- the region of what was just declared

region-entered_here : (i : Identifier) (kind : EntityKind) (region : Option ℕ) (m last : Names) → last ≡ entered_here i kind region m
    → region_at last (entity_denoted last i.place) ≡ region
unfolding entered_here
region-entered_here i kind region m last e =
    ap (λ n. region_at n (entity_denoted n i.place)) e ∙ entered-region (enclosure_here m) (is_taken m (region_here m) i.text) i kind region m

region-task : (is_type : Bool) (aspects : List Aspect) (i : Identifier) (n : Names)
    → region_at (declared i (a_task is_type aspects) n) (entity_denoted (declared i (a_task is_type aspects) n) i.place) ≡ Some n.regions
unfolding declared task_declared unit_entered
region-task true aspects i n = region-entered_here i _ _ _ _ refl
region-task false aspects i n = region-entered_here i _ _ _ _ refl

region-protected : (is_type : Bool) (aspects : List Aspect) (i : Identifier) (n : Names)
    → region_at (declared i (a_protected is_type aspects) n) (entity_denoted (declared i (a_protected is_type aspects) n) i.place) ≡ Some n.regions
unfolding declared protected_declared unit_entered
region-protected true aspects i n = region-entered_here i _ _ _ _ refl
region-protected false aspects i n = region-entered_here i _ _ _ _ refl

region-derived : (parent : Name) (i : Identifier) (n : Names)
    → region_at (declared i (a_derived_type parent) n) (entity_denoted (declared i (a_derived_type parent) n) i.place) ≡ Some n.regions
unfolding declared derived_declared
region-derived parent i n = region-entered_here i _ _ _ _ refl

package-denoted : (i : Identifier) (n : Names) → entity_denoted (declared i the_package n) i.place ≡ Some (length n.entities)
unfolding declared entered_as_unit
package-denoted i n = entered-denoted (enclosure_of library_frame) (unit_is_taken (with_region n) i.text) i entity.Package (Some n.regions) (with_region n)

package-region : (i : Identifier) (n : Names) → region_of_entity (declared i the_package n) (length n.entities) ≡ Some n.regions
unfolding declared entered_as_unit
package-region i n =
    ap (λ x. and_then x (λ (y : Entity). y.region))
    (entered-entity (enclosure_of library_frame) (unit_is_taken (with_region n) i.text) i entity.Package (Some n.regions) (with_region n))

-- ---- what is known behind the beginning

-- the region has the number that its declaration got
pub record Waits (last : ℕ) (r : Region) (d : Occurrence) (b : Before) : Type 0 where
  pub next : region_behind_it d ≡ Some r
  pub grown : (known_at last (d ∷ b)).regions ≡ suc (known_at last b).regions
  pub opened : (known_at last (begins r ∷ d ∷ b)).opened ≡ record { region = (known_at last b).regions; exports = true } ∷ (known_at last (d ∷ b)).opened
  pub regions : (known_at last (begins r ∷ d ∷ b)).regions ≡ (known_at last (d ∷ b)).regions
  pub bindings : (known_at last (begins r ∷ d ∷ b)).bindings ≡ (known_at last (d ∷ b)).bindings
  pub entities : (known_at last (begins r ∷ d ∷ b)).entities ≡ (known_at last (d ∷ b)).entities
  pub bodies : (known_at last (begins r ∷ d ∷ b)).bodies ≡ (known_at last (d ∷ b)).bodies
  pub priority : (known_at last (begins r ∷ d ∷ b)).priority ≡ (known_at last (d ∷ b)).priority
  pub number : number_of (begins r ∷ d ∷ b) ≡ suc (length (d ∷ b))

waits-as : (last : ℕ) (r : Region) (d : Occurrence) (b : Before) → region_behind_it d ≡ Some r → (known_at last (d ∷ b)).regions ≡ suc (known_at last b).regions
    → known_at last (begins r ∷ d ∷ b) ≡ begun_again (known_at last b).regions true (known_at last (d ∷ b))
    → number_of (begins r ∷ d ∷ b) ≡ suc (length (d ∷ b)) → Waits last r d b
waits-as last r d b next grown e number = record {
  next = next;
  grown = grown;
  opened = ap (λ x. x.opened) e;
  regions = ap (λ x. x.regions) e;
  bindings = ap (λ x. x.bindings) e;
  entities = ap (λ x. x.entities) e;
  bodies = ap (λ x. x.bodies) e;
  priority = ap (λ x. x.priority) e;
  number = number;
}

module _ (last : ℕ) (i : Identifier) (b : Before) where
  pub task-known : (is_type : Bool) (aspects : List Aspect)
      → known_at last (begins (a_unit i) ∷ declares i (a_task is_type aspects) ∷ b)
      ≡ begun_again (known_at last b).regions true (known_at last (declares i (a_task is_type aspects) ∷ b))
  unfolding behind begun
  task-known is_type aspects =
      let n : Names = declared i (a_task is_type aspects) (table_at last b) in
      known-unit_begun (entity_denoted n i.place) i n (table_at last b).regions (region-task is_type aspects i (table_at last b))

  pub protected-known : (is_type : Bool) (aspects : List Aspect)
      → known_at last (begins (a_unit i) ∷ declares i (a_protected is_type aspects) ∷ b)
      ≡ begun_again (known_at last b).regions true (known_at last (declares i (a_protected is_type aspects) ∷ b))
  unfolding behind begun
  protected-known is_type aspects =
      let n : Names = declared i (a_protected is_type aspects) (table_at last b) in
      known-unit_begun (entity_denoted n i.place) i n (table_at last b).regions (region-protected is_type aspects i (table_at last b))

  pub derived-known : (parent : Name)
      → known_at last (begins (a_record i) ∷ declares i (a_derived_type parent) ∷ b)
      ≡ begun_again (known_at last b).regions true (known_at last (declares i (a_derived_type parent) ∷ b))
  unfolding behind begun
  derived-known parent =
      let n : Names = declared i (a_derived_type parent) (table_at last b) in
      known-record_begun (entity_denoted n i.place) i n (table_at last b).regions (region-derived parent i (table_at last b))

  pub task-waits : (is_type : Bool) (aspects : List Aspect) → Waits last (a_unit i) (declares i (a_task is_type aspects)) b
  unfolding behind
  task-waits is_type aspects =
      waits-as last (a_unit i) (declares i (a_task is_type aspects)) b refl
      (ap (λ x. x.regions) (known-declared i (a_task is_type aspects) (table_at last b) tt).2) (task-known is_type aspects)
      (number-beginning (begins (a_unit i)) (declares i (a_task is_type aspects) ∷ b))

  pub protected-waits : (is_type : Bool) (aspects : List Aspect) → Waits last (a_unit i) (declares i (a_protected is_type aspects)) b
  unfolding behind
  protected-waits is_type aspects =
      waits-as last (a_unit i) (declares i (a_protected is_type aspects)) b refl
      (ap (λ x. x.regions) (known-declared i (a_protected is_type aspects) (table_at last b) tt).2) (protected-known is_type aspects)
      (number-beginning (begins (a_unit i)) (declares i (a_protected is_type aspects) ∷ b))

  pub derived-waits : (parent : Name) → Waits last (a_record i) (declares i (a_derived_type parent)) b
  unfolding behind
  derived-waits parent =
      waits-as last (a_record i) (declares i (a_derived_type parent)) b refl
      (ap (λ x. x.regions) (known-declared i (a_derived_type parent) (table_at last b) tt).2) (derived-known parent)
      (number-beginning (begins (a_record i)) (declares i (a_derived_type parent) ∷ b))

-- a package's region, with its context
pub package-known : (last : ℕ) (i : Identifier) (b : Before) → known_at last (begins (package_region i) ∷ declares_unit i the_package ∷ b)
    ≡ begun_again (known_at last b).regions true
    (with_context_of (length (known_at last b).entities) (region_here (table_at last (declares_unit i the_package ∷ b)))
    (table_at last (declares_unit i the_package ∷ b)).withs (known_at last (declares_unit i the_package ∷ b)))
unfolding behind begun
package-known last i b =
    let n : Names = declared i the_package (table_at last b) in
    ap (λ e. known (package_begun e i n)) (package-denoted i (table_at last b))
    ∙ known-package_begun (length (table_at last b).entities) i n (table_at last b).regions (package-region i (table_at last b))

pub package-waits : (last : ℕ) (i : Identifier) (b : Before) → Waits last (package_region i) (declares_unit i the_package) b
unfolding behind
package-waits last i b =
    let e = package-known last i b in
    record {
      next = refl;
      grown = ap (λ x. x.regions) (known-package_declared i (table_at last b)).2;
      opened = ap (λ x. x.opened) e;
      regions = ap (λ x. x.regions) e;
      bindings = ap (λ x. x.bindings) e;
      entities = ap (λ x. x.entities) e;
      bodies = ap (λ x. x.bodies) e;
      priority = ap (λ x. x.priority) e;
      number = number-beginning (begins (package_region i)) (declares_unit i the_package ∷ b);
    }

-- ---- what it keeps

waiting-opens : (last : ℕ) (r : Region) (d : Occurrence) (b : Before) → Waits last r d b → OpensAnew last r (d ∷ b)
waiting-opens last r d b w =
    let next : next_region last (d ∷ b) ≡ (known_at last b).regions = ap (λ x. next_by x (known_at last b).regions (known_at last (d ∷ b)).regions) w.next in
    record {
      numbers = ap numbers_of w.opened ∙ ap (λ n. n ∷ numbers_of (known_at last (d ∷ b)).opened) (sym next);
      regions = w.regions ∙ (w.grown ∙ ap suc (sym next));
      number = w.number;
      entities = w.entities;
      bodies = w.bodies;
      priority = w.priority;
    }

pub kept-waiting : (last : ℕ) (r : Region) (d : Occurrence) (b : Before) → Waits last r d b → Kept last (d ∷ b) → ContextsKept last (begins r ∷ d ∷ b)
    → Kept last (begins r ∷ d ∷ b)
kept-waiting last r d b w k contexts = kept-anew last r (d ∷ b) k (waiting-opens last r d b w) w.bindings contexts

pub region-here : (last : ℕ) (b : Before) → region_here (table_at last b) ≡ here_at last b
region-here last b = sym (ap (λ o. o.region) (innermost-opened (table_at last b).frames))

-- an earlier package has a lower number
older-package : (last : ℕ) (b : Before) → EntitiesKept last b → (j : Identifier) (a : Before) → Stands (declares_unit j the_package ∷ a) b
    → length (known_at last a).entities < length (known_at last b).entities
older-package last b k j a s =
    let named : declares_name number_of_innermost 0 j.text (declares_unit j the_package) a ≡ true =
    ap (λ t. t && true) ((bytes_eq-Decides j.text j.text).1 refl) in
    let x = k.there (declares_unit j the_package) a s 0 j.text named in
    slice_get_within (known_at last b).entities (length (known_at last a).entities) x.0 x.1

pub kept-package : (last : ℕ) (i : Identifier) (b : Before) → Kept last b → Kept last (declares_unit i the_package ∷ b)
    → Kept last (begins (package_region i) ∷ declares_unit i the_package ∷ b)
kept-package last i b older k =
    let e = package-known last i b in
    kept-waiting last (package_region i) (declares_unit i the_package) b (package-waits last i b) k (
    contexts-more last i b _ k.contexts older.entities (ap (λ x. x.contexts) e) refl (region-here last (declares_unit i the_package ∷ b)) refl
    (older-package last b older.entities))

-- the region of a unit, or of a type
waiting-same : (last : ℕ) (r : Region) (d : Occurrence) (b : Before) → Waits last r d b → Kept last (d ∷ b)
    → (known_at last (begins r ∷ d ∷ b)).contexts ≡ (known_at last (d ∷ b)).contexts
    → ((j : Identifier) → begins (package_region j) ≡ begins r → ⊥) → Kept last (begins r ∷ d ∷ b)
waiting-same last r d b w k contexts other = kept-waiting last r d b w k (contexts-stay last (begins r) (d ∷ b) k.contexts contexts other)

pub kept-task : (last : ℕ) (i : Identifier) (is_type : Bool) (aspects : List Aspect) (b : Before) → Kept last (declares i (a_task is_type aspects) ∷ b)
    → Kept last (begins (a_unit i) ∷ declares i (a_task is_type aspects) ∷ b)
kept-task last i is_type aspects b k =
    waiting-same last (a_unit i) (declares i (a_task is_type aspects)) b (task-waits last i b is_type aspects) k
    (ap (λ x. x.contexts) (task-known last i b is_type aspects)) (λ j e. cc)

pub kept-protected : (last : ℕ) (i : Identifier) (is_type : Bool) (aspects : List Aspect) (b : Before)
    → Kept last (declares i (a_protected is_type aspects) ∷ b) → Kept last (begins (a_unit i) ∷ declares i (a_protected is_type aspects) ∷ b)
kept-protected last i is_type aspects b k =
    waiting-same last (a_unit i) (declares i (a_protected is_type aspects)) b (protected-waits last i b is_type aspects) k
    (ap (λ x. x.contexts) (protected-known last i b is_type aspects)) (λ j e. cc)

pub kept-derived : (last : ℕ) (i : Identifier) (parent : Name) (b : Before) → Kept last (declares i (a_derived_type parent) ∷ b)
    → Kept last (begins (a_record i) ∷ declares i (a_derived_type parent) ∷ b)
kept-derived last i parent b k =
    waiting-same last (a_record i) (declares i (a_derived_type parent)) b (derived-waits last i b parent) k
    (ap (λ x. x.contexts) (derived-known last i b parent)) (λ j e. cc)
