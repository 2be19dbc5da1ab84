-- What a use clause makes visible by the table is what it makes visible by position: where its name denotes a package of the source
-- what that exports, and where it denotes a predefined unit what that declares and its children under a with clause.
use Rattle.std.proofs.Common.{◌≡◌, ◌⊎◌, inl, inr, ℕ, suc, Bool, true, false, cond, ◌||◌, List, [], ◌∷◌, ◌++◌, length, Option}
use Rattle.std.proofs.Common.{Some, None, is_some, option_map, slice_get, refl, sym, ap, subst, ◌∙◌, eqb-true, eq-eqb}
use Rattle.ann_base.specs.declared.places.Place.{Place}
use Rattle.ada_tree.specs.declared.names.Identifier.{Identifier}
use Rattle.ada_regions.specs.declared.predefined.Predefined.{Predefined}
use Rattle.ada_regions.specs.declared.predefined.PredefinedUnit.{PredefinedUnit}
use Rattle.ada_regions.specs.declared.entities.Denoted.{Denoted}
use Rattle.ada_regions.specs.declared.entities.Denoted.TheVariants as denotes
use Rattle.ada_regions.specs.declared.entities.Entity.{Entity}
use Rattle.ada_regions.specs.declared.table.Names.{Names}
use Rattle.ada_regions.specs.Words.{and_then, same_place}
use Rattle.std.specs.Option.{option_or}
use Rattle.ada_regions.specs.PredefinedUnits.{child_unit, item_in}
use Rattle.ada_regions.specs.Names.{region_of_entity}
use Rattle.ada_regions.specs.Occurrences.{Occurrence, the_package, declares, declares_unit, completes}
use Rattle.ada_regions.specs.Visibility.{item_of, some_if_withed, visible_in, same_denoted}
use Rattle.ada_regions.specs.Regions.{is_package as is_package_kind}
use Rattle.source_laws.specs.Positions.{Before, Stands, around, nearest}
use Rattle.source_laws.specs.Declarations.{is_package}
use Rattle.source_laws.specs.Regions.{bodies_complete_before}
use Rattle.source_laws.specs.DirectNames.{Meaning, is_declared, is_unit, is_item, meaning_of, meaning_if_seen, defining_place}
use Rattle.source_laws.specs.UseClauses.{child_if_withed, withed_around, declares_package, exported_by_package, visible_by}
use Rattle.source_laws.specs.Tables.{table_at}
use Rattle.source_laws.specs.Denoted.{told_meaning}
use Rattle.source_laws.specs.Places.{places_in, places_before, is_among, all_differ}
use Rattle.source_laws.proofs.Names.PositionLemmas.{false-true, stands-here, stands-trans, nearest-stands, nearest-holds}
use Rattle.source_laws.proofs.Names.KnownDeclared.{region_behind_it, region_given}
use Rattle.source_laws.proofs.Names.Placing.{looks, IsPlaced}
use Rattle.source_laws.proofs.Names.Texts.{IsText}
use Rattle.source_laws.proofs.Names.Kept.{known_at}
use Rattle.source_laws.proofs.Names.KeptSteps.{Kept}
use Rattle.source_laws.proofs.Names.KeptBodies.{package-shape}
use Rattle.source_laws.proofs.Names.KeptUnits.{nearest-some}
use Rattle.source_laws.proofs.Names.KeptAll.{kept}
use Rattle.source_laws.proofs.Names.Lawful.{text-stands, complete-stands, else-mapped}
use Rattle.source_laws.proofs.Names.Denoting.{same_place-path, same_place-itself, among-append, place-before, differ-apart, differ-at}
use Rattle.source_laws.proofs.Names.Showing.{package-visible}
use Rattle.source_laws.proofs.Names.Founders.{stands-either}
use Rattle.source_laws.proofs.Names.WithsKept.{withs-kept}
use Rattle.source_laws.proofs.Names.PackagesKept.{entities-last, DeclaredAt, declared-at, sound-kept}
use Rattle.source_laws.proofs.Names.Joined.{same_unit-path, same_unit-itself}
use Rattle.source_laws.proofs.Names.Selecting.{visible-there}

defining-among : (o : Occurrence) (p : Place) → defining_place o ≡ Some p → is_among p (places_in o) ≡ true
defining-among (declares i what) p e = let h : i.place ≡ p = cc in ap (λ t. t || false) (ap (λ z. same_place p z) h ∙ same_place-itself p)
defining-among (declares_unit i what) p e = let h : i.place ≡ p = cc in ap (λ t. t || false) (ap (λ z. same_place p z) h ∙ same_place-itself p)
defining-among (completes i s) p e = let h : i.place ≡ p = cc in ap (λ t. t || false) (ap (λ z. same_place p z) h ∙ same_place-itself p)
defining-among _ p e = cc

-- a package with this defining place
package-among : (p : Place) (o : Occurrence) (b : Before) → declares_package p o b ≡ true → (is_among p (places_in o) ≡ true) × (is_package o ≡ true)
package-among p (declares_unit j the_package) b e = (defining-among (declares_unit j the_package) p (ap Some (same_place-path j.place p e)), refl)
package-among p _ b e = absurd (false-true e)

abbrev package_first : Before → Bool
package_first [] = false
package_first (o ∷ b) = is_package o

-- in a source that ends with what stands before `end`
module _ (last : ℕ) (end : Before) (t : IsText end) (placed : IsPlaced end) (complete : bodies_complete_before end ≡ true)
    (apart : all_differ (places_before end) ≡ true) where
  -- what is denoted means
  abbrev pub told : Denoted → Meaning
  told d = told_meaning (table_at last end) (Some d)

  pub kept-here : (c : Before) → Stands c end → Kept last c
  kept-here c s = kept last c (text-stands c end s t) (complete-stands c end s complete)

  -- ---- a place has one name

  no-later : (o : Occurrence) (b : Before) (q : Occurrence) (d : Before) (x : Place) → Stands (o ∷ b) d → Stands (q ∷ d) end → is_among x (places_in o) ≡ true
      → is_among x (places_in q) ≡ true → ⊥
  no-later o b q d x s stands first second =
      let here : is_among x (places_before (o ∷ b)) ≡ true =
      among-append x (places_in o) (places_before b) ∙ ap (λ z. z || is_among x (places_before b)) first in
      let differ : all_differ (places_in q ++ places_before d) ≡ true = differ-at (q ∷ d) end stands apart in
      false-true (sym (differ-apart x (places_in q) (places_before d) differ (place-before x (o ∷ b) d s here)) ∙ second)

  pub places-once : (o : Occurrence) (b : Before) (q : Occurrence) (d : Before) (x : Place) → Stands (o ∷ b) end → Stands (q ∷ d) end
      → is_among x (places_in o) ≡ true → is_among x (places_in q) ≡ true → o ∷ b ≡ q ∷ d
  places-once o b q d x s u first second = go (stands-either (o ∷ b) (q ∷ d) end s u)
    where
      go : Stands (o ∷ b) (q ∷ d) ⊎ Stands (q ∷ d) (o ∷ b) → o ∷ b ≡ q ∷ d
      go (inl (inl e)) = e
      go (inl (inr h)) = absurd (no-later o b q d x h u first second)
      go (inr (inl e)) = sym e
      go (inr (inr h)) = absurd (no-later q d o b x h s second first)

  -- ---- entities

  pub entity-told : (c : Before) (y : ℕ) (x : Entity) → Stands c end → slice_get (known_at last c).entities y ≡ Some x
      → told (denotes.Entity y) ≡ is_declared x.place
  entity-told c y x s there = ap (λ z. meaning_if_seen (option_map (λ (w : Entity). w.place) z)) (entities-last last c end t s y x there)

  entities-once : (c : Before) (y z : ℕ) (x w : Entity) → Stands c end → slice_get (known_at last c).entities y ≡ Some x
      → slice_get (known_at last c).entities z ≡ Some w → x.place ≡ w.place → y ≡ z
  entities-once c y z x w s there also same =
      let d = declared-at last c (text-stands c end s t) y x there in
      let f = declared-at last c (text-stands c end s t) z w also in
      let one =
      places-once d.by d.before f.by f.before x.place (stands-trans (d.by ∷ d.before) c end d.stands s) (stands-trans (f.by ∷ f.before) c end f.stands s)
      (defining-among d.by x.place d.declared.place) (defining-among f.by x.place (f.declared.place ∙ ap Some (sym same))) in
      let rest : d.before ≡ f.before = cc in
      d.number ∙ (ap (λ b. length (known_at last b).entities) rest ∙ sym f.number)

  -- what clauses make visible at a position c, and means one thing, is one
  pub alike : (c : Before) → Stands c end → (name : List ℕ) (u v d e : Denoted) → visible_in (table_at last c) name u ≡ Some d
      → visible_in (table_at last c) name v ≡ Some e → told d ≡ told e → same_denoted d e ≡ true
  unfolding same_denoted
  alike c s name u v (denotes.Entity a) (denotes.Entity b) p q same =
      let x = visible-there (table_at last c) name u a (sound-kept last c (text-stands c end s t)) p in
      let y = visible-there (table_at last c) name v b (sound-kept last c (text-stands c end s t)) q in
      let places : is_declared x.0.place ≡ is_declared y.0.place = sym (entity-told c a x.0 s x.1) ∙ (same ∙ entity-told c b y.0 s y.1) in
      eq-eqb a b (entities-once c a b x.0 y.0 s x.1 y.1 (let h : x.0.place ≡ y.0.place = cc in h))
  alike c s name u v (denotes.Entity a) (denotes.Unit b) p q same =
      let x = visible-there (table_at last c) name u a (sound-kept last c (text-stands c end s t)) p in
      let h : is_declared x.0.place ≡ is_unit b = sym (entity-told c a x.0 s x.1) ∙ same in
      cc
  alike c s name u v (denotes.Entity a) (denotes.Item b j) p q same =
      let x = visible-there (table_at last c) name u a (sound-kept last c (text-stands c end s t)) p in
      let h : is_declared x.0.place ≡ is_item b = sym (entity-told c a x.0 s x.1) ∙ same in
      cc
  alike c s name u v (denotes.Unit a) (denotes.Entity b) p q same =
      let y = visible-there (table_at last c) name v b (sound-kept last c (text-stands c end s t)) q in
      let h : is_unit a ≡ is_declared y.0.place = same ∙ entity-told c b y.0 s y.1 in
      cc
  alike c s name u v (denotes.Unit a) (denotes.Unit b) p q same =
      let h : a ≡ b = cc in subst (λ z. same_denoted (denotes.Unit a) (denotes.Unit z) ≡ true) h (same_unit-itself a)
  alike c s name u v (denotes.Unit a) (denotes.Item b j) p q same = cc
  alike c s name u v (denotes.Item a i) (denotes.Entity b) p q same =
      let y = visible-there (table_at last c) name v b (sound-kept last c (text-stands c end s t)) q in
      let h : is_item a ≡ is_declared y.0.place = same ∙ entity-told c b y.0 s y.1 in
      cc
  alike c s name u v (denotes.Item a i) (denotes.Unit b) p q same = cc
  alike c s name u v (denotes.Item a i) (denotes.Item b j) p q same =
      let h : a ≡ b = cc in subst (λ z. same_denoted (denotes.Item a i) (denotes.Item z j) ≡ true) h (same_unit-itself a)

  pub agree : (d e : Denoted) → same_denoted d e ≡ true → told d ≡ told e
  unfolding same_denoted
  agree (denotes.Entity a) (denotes.Entity b) e = ap (λ z. told (denotes.Entity z)) (eqb-true a b e)
  agree (denotes.Unit a) (denotes.Unit b) e = ap is_unit (same_unit-path a b e)
  agree (denotes.Item a i) (denotes.Item b j) e = ap is_item (same_unit-path a b e)
  agree (denotes.Entity a) (denotes.Unit b) e = cc
  agree (denotes.Entity a) (denotes.Item b j) e = cc
  agree (denotes.Unit a) (denotes.Entity b) e = cc
  agree (denotes.Unit a) (denotes.Item b j) e = cc
  agree (denotes.Item a i) (denotes.Entity b) e = cc
  agree (denotes.Item a i) (denotes.Unit b) e = cc

  -- ---- what a clause shows at a position c

  -- x of the table shows what a name that means m does
  abbrev pub Shows : Before → List ℕ → Meaning → Option Denoted → Type 0
  Shows c name m x = visible_by last name c m ≡ option_map told (and_then x (visible_in (table_at last c) name))

  -- a predefined unit
  pub unit-shows : (c : Before) → Stands c end → looks (around c) ≡ true → (name : List ℕ) (u : PredefinedUnit)
      → Shows c name (is_unit u) (Some (denotes.Unit u))
  unfolding visible_in item_of
  unit-shows c s l name u =
      let n : Names = table_at last c in
      ap (λ z. option_or z (and_then (child_unit u name) (child_if_withed c)))
      (items ∙ ap (λ k. option_map told (item_of k u name)) (sym (kept-here c s).priority))
      ∙ (ap (option_or (option_map told (item_of n.last_priority u name))) (children (child_unit u name))
      ∙ sym (else-mapped told (item_of n.last_priority u name) (and_then (child_unit u name) (some_if_withed n.withs))))
    where
      items : option_map meaning_of (item_of last u name) ≡ option_map told (item_of last u name)
      items = go (item_in last u name)
        where
          go : (x : Option Predefined) → option_map meaning_of (option_map (denotes.Item u) x) ≡ option_map told (option_map (denotes.Item u) x)
          go None = refl
          go (Some i) = refl

      withed : (v : PredefinedUnit) → (k : Bool) → cond k (Some (is_unit v)) None ≡ option_map told (cond k (Some (denotes.Unit v)) None)
      withed v true = refl
      withed v false = refl

      children : (x : Option PredefinedUnit) → and_then x (child_if_withed c) ≡ option_map told (and_then x (some_if_withed (table_at last c).withs))
      children None = refl
      children (Some v) =
          withed v (withed_around v c)
          ∙ ap (λ k. option_map told (cond k (Some (denotes.Unit v)) None)) (sym (withs-kept last end t placed complete c s l v))

  -- ---- an entity

  nearest-package : (place : Place) (c : Before) (i : Identifier) (b : Before) → Stands (declares_unit i the_package ∷ b) c → Stands c end → i.place ≡ place
      → nearest (declares_package place) c ≡ Some (declares_unit i the_package ∷ b)
  nearest-package place c i b s up e = go (nearest (declares_package place) c) refl
    where
      holds : declares_package place (declares_unit i the_package) b ≡ true
      holds = ap (λ z. same_place z place) e ∙ same_place-itself place

      go : (x : Option Before) → nearest (declares_package place) c ≡ x → nearest (declares_package place) c ≡ Some (declares_unit i the_package ∷ b)
      go None q = absurd (false-true (ap is_some (sym q) ∙ nearest-some (declares_package place) c (declares_unit i the_package) b s holds))
      go (Some []) q = absurd (nearest-holds (declares_package place) c [] q)
      go (Some (o ∷ d)) q =
          q
          ∙ ap Some (places-once o d (declares_unit i the_package) b place
          (stands-trans (o ∷ d) c end (nearest-stands (declares_package place) c (o ∷ d) q) up) (stands-trans (declares_unit i the_package ∷ b) c end s up)
          (package-among place o d (nearest-holds (declares_package place) c (o ∷ d) q)).0 (package-among place (declares_unit i the_package) b holds).0)

  nearest-none-package : (place : Place) (c : Before) (o : Occurrence) (b : Before) → Stands (o ∷ b) end → Stands c end → defining_place o ≡ Some place
      → is_package o ≡ false → nearest (declares_package place) c ≡ None
  nearest-none-package place c o b s up defines none = go (nearest (declares_package place) c) refl
    where
      go : (x : Option Before) → nearest (declares_package place) c ≡ x → nearest (declares_package place) c ≡ None
      go None q = q
      go (Some []) q = absurd (nearest-holds (declares_package place) c [] q)
      go (Some (p ∷ d)) q =
          let found = package-among place p d (nearest-holds (declares_package place) c (p ∷ d) q) in
          let same =
          places-once o b p d place s (stands-trans (p ∷ d) c end (nearest-stands (declares_package place) c (p ∷ d) q) up)
          (defining-among o place defines) found.0 in
          absurd (false-true (sym none ∙ (ap package_first same ∙ found.1)))

  -- where a package declares it
  package-shows : (c b : Before) → Stands b c → Stands c end → (name : List ℕ) (y : ℕ) (x : Entity) → slice_get (known_at last b).entities y ≡ Some x
      → (d : DeclaredAt last b y x) → is_package d.by ≡ true
      → visible_by last name c (is_declared x.place) ≡ option_map told (visible_in (table_at last c) name (denotes.Entity y))
  package-shows c b s up name y x there d is =
      package-shape
      (λ o. Stands (o ∷ d.before) b → defining_place o ≡ Some x.place → x.region ≡ region_given (region_behind_it o) (known_at last d.before).regions
      → visible_by last name c (is_declared x.place) ≡ option_map told (visible_in (table_at last c) name (denotes.Entity y)))
      (λ i stands defines region. (
      let here : Stands (declares_unit i the_package ∷ d.before) c = stands-trans (declares_unit i the_package ∷ d.before) b c stands s in
      let place : i.place ≡ x.place = cc in
      let home : region_of_entity (table_at last c) (length (known_at last d.before).entities) ≡ Some (known_at last d.before).regions =
      ap (region_of_entity (table_at last c)) (sym d.number)
      ∙ (ap (λ z. and_then z (λ (w : Entity). w.region)) (entities-last last b c (text-stands c end up t) s y x there) ∙ region) in
      ap (λ z. and_then (option_map (λ (w : Before). suc (length w)) z) (λ h. exported_by_package h name c))
      (nearest-package x.place c i d.before here up place)
      ∙ (sym (package-visible last c end i d.before name (text-stands c end up t) (complete-stands c end up complete) up
      (kept-here end (stands-here end)) here home)
      ∙ ap (λ z. option_map told (visible_in (table_at last c) name (denotes.Entity z))) (sym d.number))))
      d.by is d.stands d.declared.place d.declared.region

  -- an entity of an earlier position b, which a clause may name if it is a package
  pub entity-shows : (c b : Before) → Stands b c → Stands c end → (name : List ℕ) (y : ℕ) (x : Entity) → slice_get (known_at last b).entities y ≡ Some x
      → Shows c name (is_declared x.place) (cond (is_package_kind x.kind) (Some (denotes.Entity y)) None)
  entity-shows c b s up name y x there = go (is_package d.by) refl
    where
      d : DeclaredAt last b y x
      d = declared-at last b (text-stands b end (stands-trans b c end s up) t) y x there

      go : (k : Bool) → is_package d.by ≡ k → Shows c name (is_declared x.place) (cond (is_package_kind x.kind) (Some (denotes.Entity y)) None)
      go true e =
          package-shows c b s up name y x there d e
          ∙ ap (λ k. option_map told (and_then (cond k (Some (denotes.Entity y)) None) (visible_in (table_at last c) name))) (sym (d.declared.packaged ∙ e))
      go false e =
          ap (λ z. and_then (option_map (λ (w : Before). suc (length w)) z) (λ h. exported_by_package h name c))
          (nearest-none-package x.place c d.by d.before (stands-trans (d.by ∷ d.before) b end d.stands (stands-trans b c end s up)) up d.declared.place e)
          ∙ ap (λ k. option_map told (and_then (cond k (Some (denotes.Entity y)) None) (visible_in (table_at last c) name))) (sym (d.declared.packaged ∙ e))
