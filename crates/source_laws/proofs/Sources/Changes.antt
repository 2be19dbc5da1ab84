-- What an occurrence adds to the entities of a table, and to those that have a body.
use Rattle.std.proofs.Common.{◌≡◌, ◌⊎◌, inl, inr, ℕ, Bool, true, false, cond, ◌||◌, List, [], ◌∷◌}
use Rattle.std.proofs.Common.{◌++◌, Option, Some, None, is_some, eqb, eq-eqb, refl, sym, ap, ◌∙◌}
use Rattle.std.specs.List.{list_any}
use Rattle.std.proofs.lemmas.Bool.{or_right}
use Rattle.ann_base.specs.declared.places.Place.{Place}
use Rattle.ada_tree.specs.declared.names.Identifier.{Identifier}
use Rattle.ada_tree.specs.declared.declarations.SubprogramSpecification.{SubprogramSpecification}
use Rattle.ada_regions.specs.declared.types.AdaType.{AdaType}
use Rattle.ada_regions.specs.declared.types.AdaType.TheVariants as types
use Rattle.ada_regions.specs.declared.entities.Denoted.TheVariants as denotes
use Rattle.ada_regions.specs.declared.entities.Entity.{Entity}
use Rattle.ada_regions.specs.declared.entities.UnitKind.{UnitKind}
use Rattle.ada_regions.specs.declared.entities.UnitKind.TheVariants as unit
use Rattle.ada_regions.specs.declared.table.Binding.{Binding}
use Rattle.ada_regions.specs.declared.table.Frame.{Frame}
use Rattle.ada_regions.specs.declared.table.Names.{Names}
use Rattle.ada_regions.specs.declared.table.PackageContext.{PackageContext}
use Rattle.ada_regions.specs.Words.{and_then}
use Rattle.ada_regions.specs.Names.{entity_of, entity_denoted, kind_at, noted, region_here, region_of_entity}
use Rattle.ada_regions.specs.Names.{enclosure_here, binding_in, innermost_frame, denoted_in}
use Rattle.ada_regions.specs.Occurrences.{Occurrence, Declared, Region, the_package, the_main_procedure, the_context, the_context_of, further_context}
use Rattle.ada_regions.specs.Occurrences.{package_region, package_body, main_body, a_profile, subprogram_body, a_unit, task_body, protected_body}
use Rattle.ada_regions.specs.Occurrences.{entry_body, an_accept, a_block, a_loop, a_record, begins, ends, private_from_here, hides, heads, declares}
use Rattle.ada_regions.specs.Occurrences.{declares_unit, completes, is_called, mentions, mentions_simply, mentions_entry, with_unit, use_package}
use Rattle.ada_regions.specs.Visibility.{resolved}
use Rattle.ada_regions.specs.Declaring.{hidden, with_binding, declared, type_of_kind}
use Rattle.ada_regions.specs.Completions.{completed, completed_in, is_specified, headed, entity_bound, is_unit, has_body}
use Rattle.ada_regions.specs.Completions.{seen_again, task_numbered, task_scoped, body_of_unit, body_apart, first_body}
use Rattle.ada_regions.specs.Completions.{later_body, body_here, body_elsewhere, body_sought, body_begun_at, body_begun}
use Rattle.ada_regions.specs.Regions.{begun, next_scope, with_scope, with_context, context_again, package_opened}
use Rattle.ada_regions.specs.Regions.{package_begun, package_body_begun, opened_if, unit_begun, record_begun, library_unit}
use Rattle.ada_regions.specs.Numbered.{behind}
use Rattle.source_laws.specs.Positions.{Before}
use Rattle.source_laws.proofs.Names.Known.{known, known-resolved, known-name_resolved, known-entry_mentioned, known-withed, known-used}
use Rattle.source_laws.proofs.Names.KnownDeclared.{Declares, IsInner, known-declared, known-package_declared}
use Rattle.source_laws.proofs.Names.KnownDeclared.{known-main_declared, outer, known-completed, known-body_declared}
use Rattle.source_laws.proofs.Names.KnownBegun.{IsOwn, denoted-noted, known-own, known-body_begun, known-body_of_unit}
use Rattle.source_laws.proofs.Names.Texts.{FitsHere}
use Rattle.source_laws.specs.Bodies.{body_named}

pub data EntitiesAfter (o : Occurrence) (n m : Names) : Type 0 where
  no_entity : m.entities ≡ n.entities → EntitiesAfter o n m
  one_entity : (x : Entity) → Declares o n.regions x → m.entities ≡ n.entities ++ x ∷ [] → EntitiesAfter o n m

-- the first body of a unit that is declared in the region around it
pub record FirstBody (kind : UnitKind) (i : Identifier) (e : ℕ) (n m : Names) : Type 0 where
  pub bound : entity_bound n (region_here n) i.text ≡ Some e
  pub unit : is_unit kind n e ≡ true
  pub first : has_body n e ≡ false
  pub denoted : entity_denoted m i.place ≡ Some e

pub data BodiesAfter (o : Occurrence) (n m : Names) : Type 0 where
  no_body : m.bodies ≡ n.bodies → BodiesAfter o n m
  subprogram_body_of : (e : ℕ) → is_specified n e ≡ true → m.bodies ≡ e ∷ n.bodies → BodiesAfter o n m
  unit_body_of : (kind : UnitKind) (i : Identifier) (e : ℕ) → body_named o ≡ Some (kind, i) → FirstBody kind i e n m → m.bodies ≡ e ∷ n.bodies
      → BodiesAfter o n m

pub record After (o : Occurrence) (n m : Names) : Type 0 where
  pub entities : EntitiesAfter o n m
  pub bodies : BodiesAfter o n m

after-same : (o : Occurrence) (n m : Names) → known m ≡ known n → After o n m
after-same o n m e = record { entities = no_entity (ap (λ k. k.entities) e); bodies = no_body (ap (λ k. k.bodies) e) }

after-neither : (o : Occurrence) (n m : Names) → m.entities ≡ n.entities → m.bodies ≡ n.bodies → After o n m
after-neither o n m e f = record { entities = no_entity e; bodies = no_body f }

-- ---- bodies of task and protected units

task_numbered-denotes : (t : AdaType) (scope : ℕ) (n : Names) → (task_numbered t scope n).denotations ≡ n.denotations
task_numbered-denotes (types.Task u) scope n = refl
task_numbered-denotes _ scope n = refl

task_scoped-denotes : (t : Option AdaType) (scope : Option ℕ) (n : Names) → (task_scoped t scope n).denotations ≡ n.denotations
unfolding task_scoped
task_scoped-denotes None scope n = refl
task_scoped-denotes (Some t) None n = refl
task_scoped-denotes (Some t) (Some scope) n = task_numbered-denotes t scope n

body_of_unit-denotes : (e region : ℕ) (i : Identifier) (scope : Option ℕ) (n : Names) → (body_of_unit e region i scope n).denotations ≡ n.denotations
unfolding body_of_unit
body_of_unit-denotes e region i scope n = task_scoped-denotes (and_then (kind_at n e) type_of_kind) scope _

-- what the beginning of a body leaves behind
pub record BodyBegun (kind : UnitKind) (i : Identifier) (n m : Names) : Type 0 where
  pub entities : m.entities ≡ n.entities
  pub bodies : (m.bodies ≡ n.bodies) ⊎ ((e : ℕ) × FirstBody kind i e n m × (m.bodies ≡ e ∷ n.bodies))

module _ (kind : UnitKind) (i : Identifier) (scope : Option ℕ) (n : Names) where
  apart-noted : (owner : Option ℕ) (seen : List Binding) (m : Names) → m.entities ≡ n.entities → m.bodies ≡ n.bodies
      → BodyBegun kind i n (body_apart owner i scope seen m)
  unfolding body_apart
  apart-noted owner seen m e f = record { entities = e; bodies = inl f }

  first-begun : (e : ℕ) (region : Option ℕ) → entity_bound n (region_here n) i.text ≡ Some e → is_unit kind n e ≡ true
      → BodyBegun kind i n (first_body e region i scope (noted i.place (denotes.Entity e) n))
  unfolding first_body
  first-begun e None bound is = apart-noted None [] (noted i.place (denotes.Entity e) n) refl refl
  first-begun e (Some region) bound is = go (has_body n e) refl
    where
      go : (t : Bool) → has_body n e ≡ t
          → BodyBegun kind i n
          (cond t (body_apart (Some e) i scope (seen_again (noted i.place (denotes.Entity e) n) region) (noted i.place (denotes.Entity e) n))
          (body_of_unit e region i scope (noted i.place (denotes.Entity e) n)))
      go true q = apart-noted (Some e) (seen_again (noted i.place (denotes.Entity e) n) region) (noted i.place (denotes.Entity e) n) refl refl
      go false q =
          let same = known-body_of_unit e region i scope (noted i.place (denotes.Entity e) n) in
          record {
            entities = ap (λ k. k.entities) same;
            bodies = inr (
              e,
              record {
                bound = bound;
                unit = is;
                first = q;
                denoted =
                    ap (λ lines. and_then (denoted_in lines i.place) entity_of) (body_of_unit-denotes e region i scope (noted i.place (denotes.Entity e) n))
                    ∙ ap (λ d. and_then d entity_of) (denoted-noted i.place (denotes.Entity e) n.denotations);
              },
              ap (λ k. k.bodies) same,
            );
          }

  here-begun : (e : ℕ) → entity_bound n (region_here n) i.text ≡ Some e → BodyBegun kind i n (body_here kind e i scope n)
  unfolding body_here
  here-begun e bound = go (is_unit kind n e) refl
    where
      go : (t : Bool) → is_unit kind n e ≡ t
          → BodyBegun kind i n (cond t (first_body e (region_of_entity n e) i scope (noted i.place (denotes.Entity e) n)) (body_apart None i scope [] n))
      go true q = first-begun e (region_of_entity n e) bound q
      go false q = apart-noted None [] n refl refl

  later-begun : (e : ℕ) (region : Option ℕ) (m : Names) → m.entities ≡ n.entities → m.bodies ≡ n.bodies → BodyBegun kind i n (later_body e region i scope m)
  unfolding later_body
  later-begun e None m f g = apart-noted None [] m f g
  later-begun e (Some region) m f g = apart-noted (Some e) (seen_again m region) m f g

  elsewhere-begun : (e : Option ℕ) (m : Names) → m.entities ≡ n.entities → m.bodies ≡ n.bodies → BodyBegun kind i n (body_elsewhere kind e i scope m)
  unfolding body_elsewhere
  elsewhere-begun None m f g = apart-noted None [] m f g
  elsewhere-begun (Some e) m f g = go (is_unit kind m e)
    where
      go : (t : Bool) → BodyBegun kind i n (cond t (later_body e (region_of_entity m e) i scope m) (body_apart None i scope [] m))
      go true = later-begun e (region_of_entity m e) m f g
      go false = apart-noted None [] m f g

  body-begun : BodyBegun kind i n (body_begun kind i scope n)
  unfolding body_begun body_sought
  body-begun = go (entity_bound n (region_here n) i.text) refl
    where
      go : (x : Option ℕ) → entity_bound n (region_here n) i.text ≡ x → BodyBegun kind i n (body_begun_at kind x i scope n)
      go (Some e) bound = here-begun e bound
      go None bound =
          let same = known-resolved i n in
          elsewhere-begun (entity_denoted (resolved i n) i.place) (resolved i n) (ap (λ k. k.entities) same) (ap (λ k. k.bodies) same)

  -- behind the body of a unit that the region around it declares the unit has a body
  pub body-there : (e region : ℕ) → entity_bound n (region_here n) i.text ≡ Some e → is_unit kind n e ≡ true → region_of_entity n e ≡ Some region
      → list_any (eqb e) (body_begun kind i scope n).bodies ≡ true
  body-there e region bound is there = go (has_body n e) refl
    where
      begun-has : (m : Names) → has_body n e ≡ true → (m.bodies ≡ n.bodies) ⊎ ((f : ℕ) × FirstBody kind i f n m × (m.bodies ≡ f ∷ n.bodies))
          → list_any (eqb e) m.bodies ≡ true
      begun-has m has (inl same) = ap (list_any (eqb e)) same ∙ has
      begun-has m has (inr (f, b, added)) = ap (list_any (eqb e)) added ∙ or_right (eqb e f) (list_any (eqb e) n.bodies) has

      go : (t : Bool) → has_body n e ≡ t → list_any (eqb e) (body_begun kind i scope n).bodies ≡ true
      go true q = begun-has (body_begun kind i scope n) q body-begun.bodies
      go false q =
          ap (λ k. list_any (eqb e) k.bodies) (known-body_begun kind i scope n e region bound is q there)
          ∙ ap (λ t. t || list_any (eqb e) n.bodies) (eq-eqb e e refl)

after-body : (o : Occurrence) (kind : UnitKind) (i : Identifier) (n m : Names) → body_named o ≡ Some (kind, i) → BodyBegun kind i n m → After o n m
after-body o kind i n m named b = record { entities = no_entity b.entities; bodies = go b.bodies }
  where
    go : (m.bodies ≡ n.bodies) ⊎ ((e : ℕ) × FirstBody kind i e n m × (m.bodies ≡ e ∷ n.bodies)) → BodiesAfter o n m
    go (inl same) = no_body same
    go (inr (e, first, more)) = unit_body_of kind i e named first more

-- ---- the other regions

context-again : (c : Option PackageContext) (n : Names) → ((context_again c n).entities ≡ n.entities) × ((context_again c n).bodies ≡ n.bodies)
unfolding context_again
context-again None n = (refl, refl)
context-again (Some c) n = (refl, refl)

package-opened : (e : ℕ) (i : Identifier) (exports : Bool) (region : Option ℕ) (n : Names)
    → ((package_opened e i exports region n).entities ≡ n.entities) × ((package_opened e i exports region n).bodies ≡ n.bodies)
unfolding body_apart
package-opened e i exports None n = (refl, refl)
package-opened e i exports (Some region) n = (refl, refl)

package-begun : (e : Option ℕ) (i : Identifier) (n : Names) → ((package_begun e i n).entities ≡ n.entities) × ((package_begun e i n).bodies ≡ n.bodies)
unfolding package_begun body_apart
package-begun None i n = (refl, refl)
package-begun (Some e) i n = package-opened e i true (region_of_entity n e) (with_context e n)

package-body : (e : Option ℕ) (i : Identifier) (n : Names) → ((package_body_begun e i n).entities ≡ n.entities) × ((package_body_begun e i n).bodies ≡ n.bodies)
unfolding package_body_begun body_apart
package-body None i n = (refl, refl)
package-body (Some e) i n = package-opened e i false (region_of_entity n e) (noted i.place (denotes.Entity e) n)

opened-if : (f : Option Frame) (n : Names) → ((opened_if f n).entities ≡ n.entities) × ((opened_if f n).bodies ≡ n.bodies)
opened-if None n = (refl, refl)
opened-if (Some f) n = (refl, refl)

after-own : (r : Region) (n : Names) → IsOwn r → After (begins r) n (begun r n)
after-own r n own = after-neither (begins r) n (begun r n) (ap (λ k. k.entities) (known-own r n own)) (ap (λ k. k.bodies) (known-own r n own))

after-pair : (o : Occurrence) (n m : Names) → (m.entities ≡ n.entities) × (m.bodies ≡ n.bodies) → After o n m
after-pair o n m p = after-neither o n m p.0 p.1

-- a task's body has a scope of its own
with-scope : (o : Occurrence) (kind : UnitKind) (i : Identifier) (n s m : Names) → s.frames ≡ n.frames → s.bindings ≡ n.bindings → s.entities ≡ n.entities
    → s.bodies ≡ n.bodies
    → ((e : ℕ) → is_unit kind s e ≡ is_unit kind n e) → BodyBegun kind i s m → BodyBegun kind i n m
with-scope o kind i n s m frames bindings entities bodies is b = record { entities = b.entities ∙ entities; bodies = go b.bodies }
  where
    go : (m.bodies ≡ s.bodies) ⊎ ((e : ℕ) × FirstBody kind i e s m × (m.bodies ≡ e ∷ s.bodies))
        → (m.bodies ≡ n.bodies) ⊎ ((e : ℕ) × FirstBody kind i e n m × (m.bodies ≡ e ∷ n.bodies))
    go (inl same) = inl (same ∙ bodies)
    go (inr (e, first, more)) = inr (
      e,
      record {
        bound = ap (λ fs. and_then (binding_in n.bindings (innermost_frame fs).region i.text) (λ x. x.entity)) (sym frames)
            ∙ (ap (λ bs. and_then (binding_in bs (region_here s) i.text) (λ x. x.entity)) (sym bindings) ∙ first.bound);
        unit = sym (is e) ∙ first.unit;
        first = ap (list_any (eqb e)) (sym bodies) ∙ first.first;
        denoted = first.denoted;
      },
      more ∙ ap (λ bs. e ∷ bs) bodies,
    )

after-task : (i : Identifier) (place : Place) (n : Names) → After (begins (task_body i place)) n (begun (task_body i place) n)
unfolding begun is_unit
after-task i place n =
    after-body (begins (task_body i place)) unit.Task i n _ refl
    (with-scope (begins (task_body i place)) unit.Task i n (with_scope place false false n) _ refl refl refl refl (λ e. refl)
    (body-begun unit.Task i (next_scope n) (with_scope place false false n)))

after-protected : (i : Identifier) (n : Names) → After (begins (protected_body i)) n (begun (protected_body i) n)
unfolding begun
after-protected i n = after-body (begins (protected_body i)) unit.Protected i n _ refl (body-begun unit.Protected i None n)

after-begun : (r : Region) (n : Names) → After (begins r) n (begun r n)
unfolding begun unit_begun record_begun
after-begun the_context n = after-own the_context n tt
after-begun (the_context_of i) n = after-pair _ n _ (context-again _ n)
after-begun further_context n = after-own further_context n tt
after-begun (package_region i) n = after-pair _ n _ (package-begun _ i n)
after-begun (package_body i) n = after-pair _ n _ (package-body _ i n)
after-begun (main_body i place) n = after-own (main_body i place) n tt
after-begun a_profile n = after-own a_profile n tt
after-begun (subprogram_body place is_function) n = after-own (subprogram_body place is_function) n tt
after-begun (a_unit i) n = after-pair _ n _ (opened-if _ n)
after-begun (task_body i place) n = after-task i place n
after-begun (protected_body i) n = after-protected i n
after-begun (entry_body i place barrier) n = after-own (entry_body i place barrier) n tt
after-begun (an_accept i place) n = after-own (an_accept i place) n tt
after-begun (a_block label place) n = after-own (a_block label place) n tt
after-begun (a_loop label) n = after-own (a_loop label) n tt
after-begun (a_record i) n = after-pair _ n _ (opened-if _ n)

-- ---- subprograms, and names that are hidden

specified-found : (n : Names) (x : Option ℕ) (e : ℕ) → and_then x (λ y. cond (is_specified n y) (Some y) None) ≡ Some e → is_specified n e ≡ true
specified-found n None e q = cc
specified-found n (Some y) e q = go (is_specified n y) refl q
  where
    go : (t : Bool) → is_specified n y ≡ t → cond t (Some y) None ≡ Some e → is_specified n e ≡ true
    go true is same = let h : y ≡ e = cc in ap (is_specified n) (sym h) ∙ is
    go false is same = cc

completed-specified : (n : Names) (region : ℕ) (name : List ℕ) (e : ℕ) → completed_in n region name ≡ Some e → is_specified n e ≡ true
unfolding completed_in
completed-specified n region name e q = specified-found n (entity_bound n region name) e q

after-completes : (i : Identifier) (s : SubprogramSpecification) (n : Names) → After (completes i s) n (completed i s n)
after-completes i s n = go (completed_in n (outer n).region i.text) refl
  where
    go : (x : Option ℕ) → completed_in n (outer n).region i.text ≡ x → After (completes i s) n (completed i s n)
    go (Some e) found =
        let q = known-completed i s n e found in
        record {
          entities = no_entity (ap (λ k. k.entities) q);
          bodies = subprogram_body_of e (completed-specified n (outer n).region i.text e found) (ap (λ k. k.bodies) q);
        }
    go None found =
        let d = known-body_declared i s n found in
        record { entities = one_entity d.0 d.1 (ap (λ k. k.entities) d.2); bodies = no_body (ap (λ k. k.bodies) d.2) }

hidden-pair : (i : Identifier) (n : Names) → ((hidden i n).entities ≡ n.entities) × ((hidden i n).bodies ≡ n.bodies)
unfolding hidden
hidden-pair i n = go (is_some (binding_in n.bindings (region_here n) i.text))
  where
    go : (t : Bool)
        → ((cond t n (with_binding (enclosure_here n) i.text None n)).entities ≡ n.entities)
        × ((cond t n (with_binding (enclosure_here n) i.text None n)).bodies ≡ n.bodies)
    go true = (refl, refl)
    go false = (refl, refl)

headed-pair : (i : Identifier) (n : Names) → ((headed i n).entities ≡ n.entities) × ((headed i n).bodies ≡ n.bodies)
unfolding headed
headed-pair i n = go (is_some (completed_in n (region_here n) i.text))
  where
    go : (t : Bool) → ((cond t n (hidden i n)).entities ≡ n.entities) × ((cond t n (hidden i n)).bodies ≡ n.bodies)
    go true = (refl, refl)
    go false = hidden-pair i n

-- ---- all occurrences

after-unit : (i : Identifier) (what : Declared) (n : Names) (before : Before) → FitsHere (declares_unit i what) before
    → After (declares_unit i what) n (declared i what n)
after-unit i the_package n before fits =
    let d = known-package_declared i n in record { entities = one_entity d.0 d.1 (ap (λ k. k.entities) d.2); bodies = no_body (ap (λ k. k.bodies) d.2) }
after-unit i the_main_procedure n before fits =
    let d = known-main_declared i n in record { entities = one_entity d.0 d.1 (ap (λ k. k.entities) d.2); bodies = no_body (ap (λ k. k.bodies) d.2) }
after-unit i _ n before fits = absurd fits

after-declares : (i : Identifier) (what : Declared) (n : Names) → IsInner what → After (declares i what) n (declared i what n)
after-declares i what n inner =
    let d = known-declared i what n inner in record { entities = one_entity d.0 d.1 (ap (λ k. k.entities) d.2); bodies = no_body (ap (λ k. k.bodies) d.2) }

pub after : (o : Occurrence) (n : Names) (before : Before) → FitsHere o before → After o n (behind o n)
unfolding behind
after (begins r) n before fits = after-begun r n
after ends n before fits = after-neither _ n _ refl refl
after private_from_here n before fits = after-neither _ n _ refl refl
after (hides i) n before fits = after-pair _ n _ (hidden-pair i n)
after (heads i) n before fits = after-pair _ n _ (headed-pair i n)
after (declares i what) n before fits = after-declares i what n fits
after (declares_unit i what) n before fits = after-unit i what n before fits
after (completes i s) n before fits = after-completes i s n
after (is_called i) n before fits = after-neither _ n _ refl refl
after (mentions name) n before fits = after-same _ n _ (known-name_resolved name n)
after (mentions_simply i) n before fits = after-same _ n _ (known-resolved i n)
after (mentions_entry i) n before fits = after-same _ n _ (known-entry_mentioned i n)
after (with_unit name) n before fits = after-same _ n _ (known-withed name (library_unit n name) n)
after (use_package name) n before fits = after-same _ n _ (known-used name n)
