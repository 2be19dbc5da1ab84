-- What the beginning of a region changes in the table.
use Rattle.std.proofs.Common.{◌≡◌, ℕ, suc, Bool, true, false, cond, List, [], ◌∷◌, ◌++◌, length, Option, Some, None, option_map, slice_get, eqb, refl, ap, ◌∙◌}
use Rattle.std.specs.List.{list_any}
use Rattle.ann_base.specs.declared.places.Place.{Place}
use Rattle.world_tables.specs.Tables.{item_at, put}
use Rattle.source_laws.proofs.Names.TableLemmas.{item_at-put, item_at-with_item}
use Rattle.ada_tree.specs.declared.names.Identifier.{Identifier}
use Rattle.ada_tree.specs.declared.expressions.Expression.{Expression}
use Rattle.profile_image.specs.declared.numbers.EntryNo.{EntryNo}
use Rattle.ada_regions.specs.declared.types.AdaType.{AdaType}
use Rattle.ada_regions.specs.declared.types.AdaType.TheVariants as types
use Rattle.ada_regions.specs.declared.entities.Denoted.{Denoted}
use Rattle.ada_regions.specs.declared.entities.Denoted.TheVariants as denotes
use Rattle.ada_regions.specs.declared.entities.Entity.{Entity}
use Rattle.ada_regions.specs.declared.entities.EntityKind.{EntityKind}
use Rattle.ada_regions.specs.declared.entities.UnitKind.{UnitKind}
use Rattle.ada_regions.specs.declared.table.Enclosure.{Enclosure}
use Rattle.ada_regions.specs.declared.table.PackageContext.{PackageContext}
use Rattle.ada_regions.specs.declared.table.Names.{Names}
use Rattle.ada_regions.specs.Words.{and_then}
use Rattle.ada_regions.specs.Names.{Denotations, noted_among, noted_in, denoted_in, entity_at}
use Rattle.ada_regions.specs.Names.{entity_denoted, entity_of, region_of_entity, kind_at, region_here, noted}
use Rattle.ada_regions.specs.Occurrences.{Region, the_context, the_context_of, further_context, package_region, package_body, main_body, a_profile}
use Rattle.ada_regions.specs.Occurrences.{subprogram_body, a_unit, task_body, protected_body, entry_body, an_accept, a_block, a_loop, a_record}
use Rattle.ada_regions.specs.Declaring.{entered, type_of_kind}
use Rattle.ada_regions.specs.Completions.{entity_bound, is_unit, task_scoped, task_numbered, body_of_unit}
use Rattle.ada_regions.specs.Completions.{first_body, body_here, body_begun_at, body_begun, body_apart, seen_again}
use Rattle.ada_regions.specs.Regions.{scope_begun, context_again, package_opened, package_begun, package_body_begun, package_named}
use Rattle.ada_regions.specs.Regions.{with_context, unit_frame, record_frame, type_at, region_at, entity_or_none, opened_if}
use Rattle.ada_regions.specs.Regions.{unit_begun, record_begun, entry_owner, entry_body_numbered, entry_body_begun, begun}
use Rattle.source_laws.proofs.Names.Known.{Known, known}

-- ---- what was just declared is found

pub slice_get-last : {X : Type 0} (xs : List X) (x : X) → slice_get (xs ++ x ∷ []) (length xs) ≡ Some x
slice_get-last [] x = refl
slice_get-last (y ∷ ys) x = slice_get-last ys x

pub denoted-noted : (place : Place) (d : Denoted) (lines : Denotations) → denoted_in (noted_in place d lines) place ≡ Some d
denoted-noted place d lines = go (item_at place.line lines) refl
  where
    go : (x : Option (List (ℕ × Denoted))) → item_at place.line lines ≡ x → denoted_in (noted_among x place d lines) place ≡ Some d
    go None e = ap (λ y. and_then y (item_at place.column)) (item_at-put place.line (put place.column d []) lines) ∙ item_at-put place.column d []
    go (Some columns) e =
        ap (λ y. and_then y (item_at place.column)) (item_at-with_item place.line (put place.column d columns) columns lines e)
        ∙ item_at-put place.column d columns

pub entered-denoted : (f : Enclosure) (taken : Bool) (i : Identifier) (kind : EntityKind) (region : Option ℕ) (n : Names)
    → entity_denoted (entered f taken i kind region n) i.place ≡ Some (length n.entities)
unfolding entered
entered-denoted f true i kind region n = ap (λ d. and_then d entity_of) (denoted-noted i.place (denotes.Entity (length n.entities)) n.denotations)
entered-denoted f false i kind region n = ap (λ d. and_then d entity_of) (denoted-noted i.place (denotes.Entity (length n.entities)) n.denotations)

pub entered-entity : (f : Enclosure) (taken : Bool) (i : Identifier) (kind : EntityKind) (region : Option ℕ) (n : Names)
    → entity_at (entered f taken i kind region n) (length n.entities) ≡ Some (record { place = i.place; kind = kind; region = region })
unfolding entered
entered-entity f true i kind region n = slice_get-last n.entities (record { place = i.place; kind = kind; region = region })
entered-entity f false i kind region n = slice_get-last n.entities (record { place = i.place; kind = kind; region = region })

pub entered-region : (f : Enclosure) (taken : Bool) (i : Identifier) (kind : EntityKind) (region : Option ℕ) (n : Names)
    → region_at (entered f taken i kind region n) (entity_denoted (entered f taken i kind region n) i.place) ≡ region
entered-region f taken i kind region n =
    let m = entered f taken i kind region n in
    ap (region_at m) (entered-denoted f taken i kind region n) ∙ ap (λ x. and_then x (λ (y : Entity). y.region)) (entered-entity f taken i kind region n)

-- ---- a region of its own

abbrev pub begun_anew : Known → Known
begun_anew k = record k { opened = record { region = k.regions; exports = false } ∷ k.opened; regions = suc k.regions }

-- one that has never a declaration, and is no body
abbrev pub IsOwn : Region → Type 0
IsOwn the_context = Unit {0}
IsOwn (the_context_of i) = ⊥
IsOwn further_context = Unit {0}
IsOwn (package_region i) = ⊥
IsOwn (package_body i) = ⊥
IsOwn (main_body i place) = Unit {0}
IsOwn a_profile = Unit {0}
IsOwn (subprogram_body place is_function) = Unit {0}
IsOwn (a_unit i) = ⊥
IsOwn (task_body i place) = ⊥
IsOwn (protected_body i) = ⊥
IsOwn (entry_body i place barrier) = Unit {0}
IsOwn (an_accept i place) = Unit {0}
IsOwn (a_block label place) = Unit {0}
IsOwn (a_loop label) = Unit {0}
IsOwn (a_record i) = ⊥

entry-numbered : (place : Place) (e : Option ℕ) (barrier : Expression) (n : Names) (number : Option EntryNo)
    → known (scope_begun place false e None (entry_body_numbered barrier n number)) ≡ begun_anew (known n)
unfolding scope_begun entry_body_numbered
entry-numbered place e barrier n None = refl
entry-numbered place e barrier n (Some number) = refl

pub known-own : (r : Region) (n : Names) → IsOwn r → known (begun r n) ≡ begun_anew (known n)
unfolding begun scope_begun entry_body_begun
known-own the_context n own = refl
known-own (the_context_of i) n own = absurd own
known-own further_context n own = refl
known-own (package_region i) n own = absurd own
known-own (package_body i) n own = absurd own
known-own (main_body i place) n own = refl
known-own a_profile n own = refl
known-own (subprogram_body place is_function) n own = refl
known-own (a_unit i) n own = absurd own
known-own (task_body i place) n own = absurd own
known-own (protected_body i) n own = absurd own
known-own (entry_body i place barrier) n own = entry-numbered place (entry_owner n (entity_denoted n i.place)) barrier n _
known-own (an_accept i place) n own = refl
known-own (a_block label place) n own = refl
known-own (a_loop label) n own = refl
known-own (a_record i) n own = absurd own

-- ---- a region that has a number already

abbrev pub begun_again : ℕ → Bool → Known → Known
begun_again region exports k = record k { opened = record { region = region; exports = exports } ∷ k.opened }

pub known-unit_begun : (e : Option ℕ) (i : Identifier) (n : Names) (region : ℕ) → region_at n e ≡ Some region
    → known (unit_begun e i n) ≡ begun_again region true (known n)
unfolding unit_begun
known-unit_begun e i n region there = ap (λ x. known (opened_if (option_map (unit_frame (entity_or_none e) i (type_at n e)) x) n)) there

pub known-record_begun : (e : Option ℕ) (i : Identifier) (n : Names) (region : ℕ) → region_at n e ≡ Some region
    → known (record_begun e i n) ≡ begun_again region true (known n)
unfolding record_begun
known-record_begun e i n region there = ap (λ x. known (opened_if (option_map (record_frame i (type_at n e)) x) n)) there

abbrev pub with_context_of : ℕ → ℕ → List Denoted → Known → Known
with_context_of e region withs k = record k { contexts = record { of_package = e; region = region; withs = withs } ∷ k.contexts }

pub known-package_begun : (e : ℕ) (i : Identifier) (n : Names) (region : ℕ) → region_of_entity n e ≡ Some region
    → known (package_begun (Some e) i n) ≡ begun_again region true (with_context_of e (region_here n) n.withs (known n))
unfolding package_begun
known-package_begun e i n region there = ap (λ x. known (package_opened e i true x (with_context e n))) there

pub known-package_body : (e : ℕ) (i : Identifier) (n : Names) (region : ℕ) → package_named n i.text ≡ Some e → region_of_entity n e ≡ Some region
    → known (begun (package_body i) n) ≡ begun_again region false (known n)
unfolding begun package_body_begun
known-package_body e i n region named there =
    ap (λ x. known (package_body_begun x i n)) named ∙ ap (λ x. known (package_opened e i false x (noted i.place (denotes.Entity e) n))) there

-- a body of nothing has a region of its own, in which nothing is bound
abbrev pub begun_apart : Known → Known
begun_apart k = record (begun_anew k) { bindings = put k.regions [] k.bindings }

pub known-package_apart : (i : Identifier) (n : Names) → package_named n i.text ≡ None → known (begun (package_body i) n) ≡ begun_apart (known n)
unfolding begun package_body_begun body_apart
known-package_apart i n named = ap (λ x. known (package_body_begun x i n)) named

pub known-context_again : (x : Option PackageContext) (n : Names) (c : PackageContext) → x ≡ Some c
    → known (context_again x n) ≡ begun_again c.region false (known n)
unfolding context_again
known-context_again x n c e = ap (λ y. known (context_again y n)) e

pub known-context_anew : (x : Option PackageContext) (n : Names) → x ≡ None → known (context_again x n) ≡ begun_anew (known n)
unfolding context_again
known-context_anew x n e = ap (λ y. known (context_again y n)) e

-- ---- bodies of units

known-task_numbered : (t : AdaType) (scope : ℕ) (n : Names) → known (task_numbered t scope n) ≡ known n
known-task_numbered (types.Task u) scope n = refl
known-task_numbered _ scope n = refl

known-task_scoped : (t : Option AdaType) (scope : Option ℕ) (n : Names) → known (task_scoped t scope n) ≡ known n
unfolding task_scoped
known-task_scoped None scope n = refl
known-task_scoped (Some t) None n = refl
known-task_scoped (Some t) (Some scope) n = known-task_numbered t scope n

abbrev pub with_body_of : ℕ → Known → Known
with_body_of e k = record k { bodies = e ∷ k.bodies }

pub known-body_of_unit : (e region : ℕ) (i : Identifier) (scope : Option ℕ) (n : Names)
    → known (body_of_unit e region i scope n) ≡ with_body_of e (begun_again region false (known n))
unfolding body_of_unit
known-body_of_unit e region i scope n = ap (with_body_of e) (known-task_scoped (and_then (kind_at n e) type_of_kind) scope _)

pub known-body_begun : (kind : UnitKind) (i : Identifier) (scope : Option ℕ) (n : Names) (e region : ℕ)
    → entity_bound n (region_here n) i.text ≡ Some e → is_unit kind n e ≡ true → list_any (eqb e) n.bodies ≡ false → region_of_entity n e ≡ Some region
    → known (body_begun kind i scope n) ≡ with_body_of e (begun_again region false (known n))
unfolding body_begun body_here first_body
known-body_begun kind i scope n e region found unit first there =
    let m : Names = noted i.place (denotes.Entity e) n in
    ap (λ x. known (body_begun_at kind x i scope n)) found
    ∙ (ap (λ b. known (cond b (first_body e (region_of_entity n e) i scope m) (body_apart None i scope [] n))) unit
    ∙ (ap (λ x. known (first_body e x i scope m)) there
    ∙ (ap (λ b. known (cond b (body_apart (Some e) i scope (seen_again m region) m) (body_of_unit e region i scope m))) first
    ∙ known-body_of_unit e region i scope m)))
