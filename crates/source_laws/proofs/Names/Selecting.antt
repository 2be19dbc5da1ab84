-- What an expanded name denotes: behind a predefined unit one of its children or of its items; behind an entity of the source never a
-- package. And what is found by a direct name is there.
use Rattle.std.proofs.Common.{◌≡◌, ℕ, Bool, true, false, cond, List, [], ◌∷◌, map, Option, Some}
use Rattle.std.proofs.Common.{None, is_some, option_map, slice_get, find, refl, sym, ap, subst, ◌∙◌}
use Rattle.world_tables.specs.Tables.{item_at}
use Rattle.ada_regions.specs.declared.predefined.Predefined.{Predefined}
use Rattle.ada_regions.specs.declared.predefined.PredefinedUnit.{PredefinedUnit}
use Rattle.ada_regions.specs.declared.predefined.PredefinedUnit.TheVariants as units
use Rattle.ada_regions.specs.declared.entities.Denoted.{Denoted}
use Rattle.ada_regions.specs.declared.entities.Denoted.TheVariants as denotes
use Rattle.ada_regions.specs.declared.entities.Entity.{Entity}
use Rattle.ada_regions.specs.declared.entities.Sought.TheVariants as answer
use Rattle.ada_regions.specs.declared.table.Binding.{Binding}
use Rattle.ada_regions.specs.declared.table.Frame.{Frame}
use Rattle.ada_regions.specs.declared.table.Names.{Names}
use Rattle.ada_regions.specs.Words.{and_then}
use Rattle.std.specs.Option.{option_or}
use Rattle.std.proofs.lemmas.Bool.{and_parts}
use Rattle.ada_regions.specs.PredefinedUnits.{child_unit, root_unit, item_in}
use Rattle.ada_regions.specs.Names.{binds, binding_in, entity_at, region_of_entity}
use Rattle.ada_regions.specs.Visibility.{innermost_binding, item_of, in_standard, bound, directly, exports_name}
use Rattle.ada_regions.specs.Visibility.{exported_from, some_if_withed, visible_in, used_around, found_or, sought}
use Rattle.ada_regions.specs.SelectedNames.{region_selected, exported_by, is_owned_by, frame_owned_by, declared_inside, selected_from_entity, selected}
use Rattle.ada_regions.specs.Completions.{holds_of}
use Rattle.ada_regions.specs.Regions.{is_package as is_package_kind, is_used_package}
use Rattle.source_laws.proofs.Names.PositionLemmas.{false-true}
use Rattle.source_laws.proofs.Names.Known.{known, opened_as}
use Rattle.source_laws.proofs.Names.Kept.{numbers_of}
use Rattle.source_laws.proofs.Names.ClausesKept.{Unowned}
use Rattle.source_laws.proofs.Names.PackagesKept.{Sound, AllSound, IsSound}
use Rattle.source_laws.proofs.Names.Joined.{Tells, ShownBy, tells-used}

-- ---- what is found is there

some-binding : (a b : Binding) → Some a ≡ Some b → a ≡ b
some-binding a b e = cc

find-sound : (q : ℕ) (es : List Entity) (f : Binding → Bool) (bs : List Binding) (b : Binding) → AllSound q es bs → find f bs ≡ Some b
    → Sound q es b × (f b ≡ true)
find-sound q es f [] b s e = cc
find-sound q es f (x ∷ bs) b s e = go (f x) refl e (find-sound q es f bs b s.1)
  where
    go : (t : Bool) → f x ≡ t → cond t (Some x) (find f bs) ≡ Some b → (find f bs ≡ Some b → Sound q es b × (f b ≡ true)) → Sound q es b × (f b ≡ true)
    go true h q2 more = let same : x ≡ b = some-binding x b q2 in (subst (Sound q es) same s.0, subst (λ z. f z ≡ true) same h)
    go false h q2 more = more q2

found-sound : (n : Names) (q : ℕ) (f : Binding → Bool) (b : Binding) → IsSound (known n) → and_then (item_at q n.bindings) (find f) ≡ Some b
    → Sound q n.entities b × (f b ≡ true)
found-sound n q f b s e = go (item_at q n.bindings) refl e
  where
    go : (x : Option (List Binding)) → item_at q n.bindings ≡ x → and_then x (find f) ≡ Some b → Sound q n.entities b × (f b ≡ true)
    go None h e2 = cc
    go (Some bs) h e2 = find-sound q n.entities f bs b (s q bs h) e2

-- an entity of the table
abbrev pub There : Names → ℕ → Type 0
There n y = (x : Entity) × (slice_get n.entities y ≡ Some x)

bound-there : (n : Names) (q y : ℕ) (b : Binding) → Sound q n.entities b → bound b ≡ Some (denotes.Entity y) → There n y
bound-there n q y b s e = go b.entity refl e
  where
    go : (x : Option ℕ) → b.entity ≡ x → option_map denotes.Entity x ≡ Some (denotes.Entity y) → There n y
    go None h e2 = cc
    go (Some z) h e2 = let same : z ≡ y = cc in let x = s y (h ∙ ap Some same) in (x.0, x.1)

and-bound : (n : Names) (q y : ℕ) (f : Binding → Bool) → IsSound (known n) → and_then (and_then (item_at q n.bindings) (find f)) bound ≡ Some (denotes.Entity y)
    → There n y
and-bound n q y f s e = go (and_then (item_at q n.bindings) (find f)) refl e
  where
    go : (x : Option Binding) → and_then (item_at q n.bindings) (find f) ≡ x → and_then x bound ≡ Some (denotes.Entity y) → There n y
    go None h e2 = cc
    go (Some b) h e2 = bound-there n q y b (found-sound n q f b s h).0 e2

item-unit : (last : ℕ) (u : PredefinedUnit) (name : List ℕ) (y : ℕ) (other : Option Denoted) → (other ≡ Some (denotes.Entity y) → ⊥)
    → option_or (item_of last u name) other ≡ Some (denotes.Entity y) → ⊥
unfolding item_of
item-unit last u name y other no_entity e = go (item_in last u name) e
  where
    go : (x : Option Predefined) → option_or (option_map (denotes.Item u) x) other ≡ Some (denotes.Entity y) → ⊥
    go None q = no_entity q
    go (Some i) q = cc

pub visible-there : (n : Names) (name : List ℕ) (d : Denoted) (y : ℕ) → IsSound (known n) → visible_in n name d ≡ Some (denotes.Entity y) → There n y
unfolding visible_in exported_from
visible-there n name (denotes.Entity e) y s q = go (region_of_entity n e) q
  where
    go : (r : Option ℕ) → and_then r (λ x. and_then (and_then (item_at x n.bindings) (find (exports_name name))) bound) ≡ Some (denotes.Entity y) → There n y
    go None h = cc
    go (Some r) h = and-bound n r y (exports_name name) s h
visible-there n name (denotes.Unit u) y s q =
    absurd (item-unit n.last_priority u name y (and_then (child_unit u name) (some_if_withed n.withs)) (λ h. go (child_unit u name) h) q)
  where
    chosen : (t : Bool) (v : PredefinedUnit) → cond t (Some (denotes.Unit v)) None ≡ Some (denotes.Entity y) → ⊥
    chosen true v h = cc
    chosen false v h = cc

    go : (x : Option PredefinedUnit) → and_then x (some_if_withed n.withs) ≡ Some (denotes.Entity y) → ⊥
    go None h = cc
    go (Some v) h = chosen _ v h
visible-there n name (denotes.Item u i) y s q = cc

innermost-there : (n : Names) (name : List ℕ) (y : ℕ) (fs : List Frame) (b : Binding) → IsSound (known n) → innermost_binding n.bindings name fs ≡ Some b
    → bound b ≡ Some (denotes.Entity y) → There n y
innermost-there n name y [] b s e h = cc
innermost-there n name y (f ∷ fs) b s e h = go (binding_in n.bindings f.region name) refl e (λ q. innermost-there n name y fs b s q h)
  where
    go : (x : Option Binding) → binding_in n.bindings f.region name ≡ x → option_or x (innermost_binding n.bindings name fs) ≡ Some b
        → (innermost_binding n.bindings name fs ≡ Some b → There n y) → There n y
    go None q e2 more = more e2
    go (Some z) q e2 more = bound-there n f.region y b (found-sound n f.region (binds name) b s (q ∙ e2)).0 h

standard-entity : (last : ℕ) (name : List ℕ) (y : ℕ) → in_standard last name ≡ Some (denotes.Entity y) → ⊥
unfolding in_standard
standard-entity last name y e = item-unit last units.Standard name y (option_map denotes.Unit (root_unit name)) (λ h. go (root_unit name) h) e
  where
    go : (x : Option PredefinedUnit) → option_map denotes.Unit x ≡ Some (denotes.Entity y) → ⊥
    go None h = cc
    go (Some u) h = cc

directly-there : (n : Names) (name : List ℕ) (y : ℕ) → IsSound (known n) → directly n name ≡ Some (Some (denotes.Entity y)) → There n y
unfolding directly
directly-there n name y s e = go (innermost_binding n.bindings name n.frames) refl e
  where
    standard : (x : Option Denoted) → in_standard n.last_priority name ≡ x → option_map Some x ≡ Some (Some (denotes.Entity y)) → There n y
    standard None h q = cc
    standard (Some d) h q = let same : d ≡ denotes.Entity y = cc in absurd (standard-entity n.last_priority name y (h ∙ ap Some same))

    go : (x : Option Binding) → innermost_binding n.bindings name n.frames ≡ x
        → option_or (option_map bound x) (option_map Some (in_standard n.last_priority name)) ≡ Some (Some (denotes.Entity y)) → There n y
    go None h q = standard (in_standard n.last_priority name) refl q
    go (Some b) h q = innermost-there n name y n.frames b s h (let same : bound b ≡ Some (denotes.Entity y) = cc in same)

-- an entity that a direct name denotes
pub sought-there : (n : Names) (name : List ℕ) (y : ℕ) → IsSound (known n) → sought n name ≡ answer.Found (denotes.Entity y) → There n y
unfolding sought
sought-there n name y s e = go (directly n name) refl e
  where
    shown : ShownBy n name (numbers_of (map opened_as n.frames)) (denotes.Entity y) → There n y
    shown h = visible-there n name h.0.used y s h.3

    go : (x : Option (Option Denoted)) → directly n name ≡ x → found_or (used_around n name n.frames) x ≡ answer.Found (denotes.Entity y) → There n y
    go None h q = shown (subst (λ z. Tells z (ShownBy n name (numbers_of (map opened_as n.frames)))) q (tells-used n name n.frames)).0
    go (Some None) h q = cc
    go (Some (Some d)) h q = let same : d ≡ denotes.Entity y = cc in directly-there n name y s (h ∙ ap (λ z. Some (Some z)) same)

-- ---- behind an entity there is no package

-- nothing, or an entity that no use clause may name
abbrev pub Plain : Names → Option Denoted → Type 0
Plain n None = Unit {0}
Plain n (Some (denotes.Entity y)) = is_used_package n (denotes.Entity y) ≡ false
Plain n (Some (denotes.Unit u)) = ⊥
Plain n (Some (denotes.Item u i)) = ⊥

plain-bound : (n : Names) (q : ℕ) (b : Binding) → Sound q n.entities b → ((q ≡ 0) × (b.exported ≡ false) → ⊥) → Plain n (bound b)
plain-bound n q b s other = go b.entity refl
  where
    by_kind : (x : Entity) → (is_package_kind x.kind ≡ true → (q ≡ 0) × (b.exported ≡ false)) → (t : Bool) → is_package_kind x.kind ≡ t
        → is_package_kind x.kind ≡ false
    by_kind x alone true h = absurd (other (alone h))
    by_kind x alone false h = h

    go : (e : Option ℕ) → b.entity ≡ e → Plain n (option_map denotes.Entity e)
    go None h = tt
    go (Some y) h =
        let x = s y h in ap (λ z. holds_of is_package_kind (option_map (λ (w : Entity). w.kind) z)) x.1 ∙ by_kind x.0 x.2 (is_package_kind x.0.kind) refl

plain-found : (n : Names) (q : ℕ) (f : Binding → Bool) → IsSound (known n) → ((b : Binding) → f b ≡ true → (q ≡ 0) × (b.exported ≡ false) → ⊥)
    → Plain n (and_then (and_then (item_at q n.bindings) (find f)) bound)
plain-found n q f s other = go (and_then (item_at q n.bindings) (find f)) refl
  where
    go : (x : Option Binding) → and_then (item_at q n.bindings) (find f) ≡ x → Plain n (and_then x bound)
    go None h = tt
    go (Some b) h = let g = found-sound n q f b s h in plain-bound n q b g.0 (other b g.1)

exported-plain : (n : Names) (name : List ℕ) (r : Option ℕ) → IsSound (known n) → Plain n (and_then r (exported_from n name))
unfolding exported_from
exported-plain n name None s = tt
exported-plain n name (Some q) s = plain-found n q (exports_name name) s (λ b e h. false-true (sym h.1 ∙ (and_parts b.exported (binds name b) e).0))

entity-plain : (n : Names) (name : List ℕ) (x : Option Entity) → IsSound (known n) → Plain n (and_then x (exported_by n name))
unfolding exported_by
entity-plain n name None s = tt
entity-plain n name (Some x) s = exported-plain n name (region_selected n x.region x.kind) s

find-unowned : (e : ℕ) (fs : List Frame) (f : Frame) → Unowned fs → find (frame_owned_by e) fs ≡ Some f → f.region ≡ 0 → ⊥
find-unowned e [] f u q = cc
find-unowned e (g ∷ fs) f u q = go (frame_owned_by e g) refl q (find-unowned e fs f u.1)
  where
    owned-some : (o : Option ℕ) → is_owned_by e o ≡ true → is_some o ≡ true
    owned-some None h = h
    owned-some (Some w) h = refl

    go : (t : Bool) → frame_owned_by e g ≡ t → cond t (Some g) (find (frame_owned_by e) fs) ≡ Some f → (find (frame_owned_by e) fs ≡ Some f → f.region ≡ 0 → ⊥)
        → f.region ≡ 0 → ⊥
    go true h q2 more r = let same : g ≡ f = cc in u.0 (owned-some g.owner h) (ap (λ (z : Frame). z.region) same ∙ r)
    go false h q2 more r = more q2 r

pub selected-plain : (n : Names) (name : List ℕ) (e : ℕ) → IsSound (known n) → Unowned n.frames → Plain n (selected n name (denotes.Entity e))
unfolding selected declared_inside
selected-plain n name e s u = go (find (frame_owned_by e) n.frames) refl
  where
    go : (x : Option Frame) → find (frame_owned_by e) n.frames ≡ x → Plain n (selected_from_entity n name e x)
    go None h = entity-plain n name (entity_at n e) s
    go (Some f) h = plain-found n f.region (binds name) s (λ b q r. find-unowned e n.frames f u h r.0)
