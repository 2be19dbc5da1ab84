-- Which entities a table has, and that packages are bound in the region of Standard alone, where nothing shows them to the
-- outside.
use Rattle.std.proofs.Common.{◌≡◌, ◌⊎◌, inl, inr, ℕ, ◌<◌, ◌+◌, suc, Bool, true, false, cond, ◌||◌, List, [], ◌∷◌, ◌++◌, length, map, Option}
use Rattle.std.proofs.Common.{Some, None, is_some, option_map, slice_get, eqb, refl, sym, ap, subst, ◌∙◌, arith, eqb-true, length-append}
use borrow.Author.Tests.{eqb-false}
use Rattle.std.specs.List.{filter}
use Rattle.std.proofs.lemmas.Option.{slice_get_within}
use Rattle.std.proofs.lemmas.Bool.{and_parts}
use Rattle.world_tables.specs.Tables.{item_at, put}
use Rattle.source_laws.proofs.Names.TableLemmas.{item_at-put, item_at-put-other, item_at-with_item}
use Rattle.ann_base.specs.declared.places.Place.{Place}
use Rattle.ada_tree.specs.declared.names.Identifier.{Identifier}
use Rattle.ada_tree.specs.declared.declarations.SubprogramSpecification.{SubprogramSpecification}
use Rattle.ada_regions.specs.declared.entities.Denoted.TheVariants as denotes
use Rattle.ada_regions.specs.declared.entities.Entity.{Entity}
use Rattle.ada_regions.specs.declared.entities.EntityKind.{EntityKind}
use Rattle.ada_regions.specs.declared.entities.EntityKind.TheVariants as entity
use Rattle.ada_regions.specs.declared.entities.UnitKind.{UnitKind}
use Rattle.ada_regions.specs.declared.entities.UnitKind.TheVariants as unit
use Rattle.ada_regions.specs.declared.table.Binding.{Binding}
use Rattle.ada_regions.specs.declared.table.Frame.{Frame}
use Rattle.ada_regions.specs.declared.table.PackageContext.{PackageContext}
use Rattle.ada_regions.specs.declared.table.Names.{Names}
use Rattle.ada_regions.specs.Words.{and_then}
use Rattle.ada_regions.specs.Names.{Bindings, bound_among, bound_in, noted, kind_at, region_here, region_of_entity, entity_denoted}
use Rattle.ada_regions.specs.Occurrences.{Occurrence, Declared, Region, the_package, the_main_procedure, the_context, the_context_of, further_context}
use Rattle.ada_regions.specs.Occurrences.{package_region, package_body, main_body, a_profile, subprogram_body, a_unit, task_body, protected_body}
use Rattle.ada_regions.specs.Occurrences.{entry_body, an_accept, a_block, a_loop, a_record, begins, ends, private_from_here, hides, heads, declares}
use Rattle.ada_regions.specs.Occurrences.{declares_unit, completes, is_called, mentions, mentions_simply, mentions_entry, with_unit, use_package}
use Rattle.ada_regions.specs.Visibility.{resolved}
use Rattle.ada_regions.specs.Declaring.{hidden}
use Rattle.ada_regions.specs.Completions.{completed_in, headed, is_component, holds_of, is_declared_in_unit, bound_again, seen_among}
use Rattle.ada_regions.specs.Completions.{is_unit, has_body, body_of_unit, first_body, later_body, body_here, body_elsewhere}
use Rattle.ada_regions.specs.Completions.{body_sought, body_begun_at, body_begun, body_apart, seen_again, entity_bound}
use Rattle.ada_regions.specs.Regions.{is_package as is_package_kind, context_again, package_opened, package_begun, package_body_begun}
use Rattle.ada_regions.specs.Regions.{package_named, with_context, with_scope, next_scope, opened_if, unit_begun, record_begun, library_unit, begun}
use Rattle.ada_regions.specs.Numbered.{behind}
use Rattle.source_laws.specs.Positions.{Before, Stands}
use Rattle.source_laws.specs.Declarations.{is_package}
use Rattle.source_laws.specs.Tables.{table_at}
use Rattle.source_laws.proofs.Names.PositionLemmas.{false-true}
use Rattle.source_laws.proofs.Names.Known.{Open, Known, known, innermost, outside, with_bound, with_declared, known-resolved}
use Rattle.source_laws.proofs.Names.Known.{known-name_resolved, known-entry_mentioned, known-withed, known-used, known-hidden}
use Rattle.source_laws.proofs.Names.KnownDeclared.{region_behind_it, Declares, with_regions, Enters, known-declared, known-package_declared}
use Rattle.source_laws.proofs.Names.KnownDeclared.{known-main_declared, outer, known-completed, known-body_declared}
use Rattle.source_laws.proofs.Names.KnownBegun.{slice_get-last, IsOwn, known-own, known-body_of_unit}
use Rattle.source_laws.proofs.Names.Texts.{IsText, FitsHere}
use Rattle.source_laws.proofs.Names.Kept.{known_at}
use Rattle.source_laws.proofs.Names.KeptBindings.{item-other}
use Rattle.source_laws.proofs.Names.KeptEntities.{slice_get-more, slice_get-left}
use Rattle.source_laws.proofs.Names.KeptUnits.{some-same}

-- ---- bindings

-- a binding of the region q: its entity is there, and a package is bound in the region of Standard only
abbrev pub Sound : ℕ → List Entity → Binding → Type 0
Sound q es b = (e : ℕ) → b.entity ≡ Some e → (x : Entity) × (slice_get es e ≡ Some x) × (is_package_kind x.kind ≡ true → (q ≡ 0) × (b.exported ≡ false))

abbrev pub AllSound : ℕ → List Entity → List Binding → Type 0
AllSound q es [] = Unit {0}
AllSound q es (b ∷ bs) = Sound q es b × AllSound q es bs

abbrev pub IsSound : Known → Type 0
IsSound k = (q : ℕ) (bs : List Binding) → item_at q k.bindings ≡ Some bs → AllSound q k.entities bs

some-list : {X : Type 0} (a b : X) → Some a ≡ Some b → a ≡ b
some-list a b e = cc

sound-more : (q : ℕ) (es more : List Entity) (bs : List Binding) → AllSound q es bs → AllSound q (es ++ more) bs
sound-more q es more [] s = tt
sound-more q es more (b ∷ bs) s = ((λ e h. (let x = s.0 e h in (x.0, slice_get-more es more e x.0 x.1, x.2))), sound-more q es more bs s.1)

-- the list of a region with one more binding
others_of : Option (List Binding) → List Binding
others_of None = []
others_of (Some bs) = bs

bound-items : (r : ℕ) (b : Binding) (bindings : Bindings) → item_at r (bound_in r b bindings) ≡ Some (b ∷ others_of (item_at r bindings))
unfolding others_of
bound-items r b bindings = go (item_at r bindings) refl
  where
    go : (x : Option (List Binding)) → item_at r bindings ≡ x → item_at r (bound_among x r b bindings) ≡ Some (b ∷ others_of x)
    go None e = item_at-put r (b ∷ []) bindings
    go (Some others) e = item_at-with_item r (b ∷ others) others bindings e

sound-others : (q : ℕ) (es : List Entity) (x : Option (List Binding)) → ((bs : List Binding) → x ≡ Some bs → AllSound q es bs) → AllSound q es (others_of x)
unfolding others_of
sound-others q es None s = tt
sound-others q es (Some bs) s = s bs refl

sound-bound : (r : ℕ) (b : Binding) (bindings : Bindings) (es : List Entity) → ((q : ℕ) (bs : List Binding) → item_at q bindings ≡ Some bs → AllSound q es bs)
    → Sound r es b
    → (q : ℕ) (bs : List Binding) → item_at q (bound_in r b bindings) ≡ Some bs → AllSound q es bs
sound-bound r b bindings es s sound q bs e = go (eqb q r) refl
  where
    go : (t : Bool) → eqb q r ≡ t → AllSound q es bs
    go true h =
        let same : q ≡ r = eqb-true q r h in
        let list : b ∷ others_of (item_at r bindings) ≡ bs =
        some-list _ _ (sym (bound-items r b bindings) ∙ (ap (λ k. item_at k (bound_in r b bindings)) (sym same) ∙ e)) in
        subst (λ z. AllSound q es z) list
        (subst (λ k. AllSound k es (b ∷ others_of (item_at r bindings))) (sym same) (sound, sound-others r es (item_at r bindings) (s r)))
    go false h = s q bs (sym (item-other r b bindings q (eqb-false q r h)) ∙ e)

sound-put : (r : ℕ) (seen : List Binding) (bindings : Bindings) (es : List Entity)
    → ((q : ℕ) (bs : List Binding) → item_at q bindings ≡ Some bs → AllSound q es bs) → AllSound r es seen
    → (q : ℕ) (bs : List Binding) → item_at q (put r seen bindings) ≡ Some bs → AllSound q es bs
sound-put r seen bindings es s sound q bs e = go (eqb q r) refl
  where
    go : (t : Bool) → eqb q r ≡ t → AllSound q es bs
    go true h =
        let same : q ≡ r = eqb-true q r h in
        let list : seen ≡ bs = some-list _ _ (sym (item_at-put r seen bindings) ∙ (ap (λ k. item_at k (put r seen bindings)) (sym same) ∙ e)) in
        subst (λ z. AllSound q es z) list (subst (λ k. AllSound k es seen) (sym same) sound)
    go false h = s q bs (sym (item_at-put-other q r seen bindings (eqb-false q r h)) ∙ e)

-- ---- what a body that completes nothing sees

package-component : (kind : EntityKind) → is_package_kind kind ≡ true → is_component kind ≡ true → ⊥
package-component entity.Package e h = false-true h
package-component _ e h = false-true e

seen-one : (n : Names) (q r : ℕ) (b : Binding) → Sound q n.entities b → is_declared_in_unit n b ≡ true → Sound r n.entities (bound_again b)
seen-one n q r b s declared e h =
    let x = s e h in (
      x.0,
      x.1,
      λ is. absurd (package-component x.0.kind is (
          sym (ap (λ y. holds_of is_component (and_then y (kind_at n))) h ∙ ap (λ y. holds_of is_component (option_map (λ (z : Entity). z.kind) y)) x.1)
          ∙ later b.exported (holds_of is_component (and_then b.entity (kind_at n))) (x.2 is).1 (and_parts (is_some b.entity) _ declared).1)),
    )
  where
    later : (a c : Bool) → a ≡ false → (a || c) ≡ true → c ≡ true
    later true c f t = absurd (false-true (sym f))
    later false c f t = t

seen-all : (n : Names) (q r : ℕ) (bs : List Binding) → AllSound q n.entities bs → AllSound r n.entities (map bound_again (filter (is_declared_in_unit n) bs))
seen-all n q r [] s = tt
seen-all n q r (b ∷ bs) s = go (is_declared_in_unit n b) refl (seen-all n q r bs s.1)
  where
    go : (t : Bool) → is_declared_in_unit n b ≡ t → AllSound r n.entities (map bound_again (filter (is_declared_in_unit n) bs))
        → AllSound r n.entities (map bound_again (cond t (b ∷ filter (is_declared_in_unit n) bs) (filter (is_declared_in_unit n) bs)))
    go true e more = (seen-one n q r b s.0 e, more)
    go false e more = more

seen-sound : (n : Names) (region r : ℕ) → IsSound (known n) → AllSound r n.entities (seen_again n region)
unfolding seen_again
seen-sound n region r s = go (item_at region n.bindings) refl
  where
    go : (x : Option (List Binding)) → item_at region n.bindings ≡ x → AllSound r n.entities (seen_among n x)
    go None e = tt
    go (Some bs) e = seen-all n region r bs (s region bs e)

-- ---- the beginning of a region

-- m has the entities of n, and is sound if n is
Keeps : Names → Names → Type 0
Keeps n m = (IsSound (known n) → IsSound (known m)) × (m.entities ≡ n.entities)

-- the same bindings and entities
keeps-same : (n m : Names) → (known m).bindings ≡ (known n).bindings → (known m).entities ≡ (known n).entities → Keeps n m
unfolding Keeps
keeps-same n m bindings entities = (
  (λ s q bs e. subst (λ es. AllSound q es bs) (sym entities) (s q bs (ap (item_at q) (sym bindings) ∙ e))),
  entities,
)

keeps-then : (n p m : Names) → Keeps n p → Keeps p m → Keeps n m
unfolding Keeps
keeps-then n p m a b = ((λ s. b.0 (a.0 s)), b.1 ∙ a.1)

keeps-empty : (e : Option ℕ) (i : Identifier) (scope : Option ℕ) (n : Names) → Keeps n (body_apart e i scope [] n)
unfolding Keeps body_apart
keeps-empty e i scope n = ((λ s. sound-put n.regions [] n.bindings n.entities s tt), refl)

keeps-seen : (e : Option ℕ) (i : Identifier) (scope : Option ℕ) (region : ℕ) (n : Names) → Keeps n (body_apart e i scope (seen_again n region) n)
unfolding Keeps body_apart
keeps-seen e i scope region n = ((λ s. sound-put n.regions (seen_again n region) n.bindings n.entities s (seen-sound n region n.regions s)), refl)

keeps-body_of_unit : (e region : ℕ) (i : Identifier) (scope : Option ℕ) (n : Names) → Keeps n (body_of_unit e region i scope n)
keeps-body_of_unit e region i scope n =
    let same = known-body_of_unit e region i scope n in
    keeps-same n (body_of_unit e region i scope n) (ap (λ (k : Known). k.bindings) same) (ap (λ (k : Known). k.entities) same)

keeps-first_body : (e : ℕ) (region : Option ℕ) (i : Identifier) (scope : Option ℕ) (n : Names) → Keeps n (first_body e region i scope n)
unfolding first_body
keeps-first_body e None i scope n = keeps-empty None i scope n
keeps-first_body e (Some region) i scope n = go (has_body n e)
  where
    go : (b : Bool) → Keeps n (cond b (body_apart (Some e) i scope (seen_again n region) n) (body_of_unit e region i scope n))
    go true = keeps-seen (Some e) i scope region n
    go false = keeps-body_of_unit e region i scope n

keeps-later_body : (e : ℕ) (region : Option ℕ) (i : Identifier) (scope : Option ℕ) (n : Names) → Keeps n (later_body e region i scope n)
unfolding later_body
keeps-later_body e None i scope n = keeps-empty None i scope n
keeps-later_body e (Some region) i scope n = keeps-seen (Some e) i scope region n

keeps-noted : (place : Place) (e : ℕ) (n m : Names) → Keeps (noted place (denotes.Entity e) n) m → Keeps n m
keeps-noted place e n m k = keeps-then n (noted place (denotes.Entity e) n) m (keeps-same n (noted place (denotes.Entity e) n) refl refl) k

keeps-body_here : (kind : UnitKind) (e : ℕ) (i : Identifier) (scope : Option ℕ) (n : Names) → Keeps n (body_here kind e i scope n)
unfolding body_here
keeps-body_here kind e i scope n = go (is_unit kind n e)
  where
    go : (b : Bool) → Keeps n (cond b (first_body e (region_of_entity n e) i scope (noted i.place (denotes.Entity e) n)) (body_apart None i scope [] n))
    go true =
        keeps-noted i.place e n (first_body e (region_of_entity n e) i scope (noted i.place (denotes.Entity e) n))
        (keeps-first_body e (region_of_entity n e) i scope (noted i.place (denotes.Entity e) n))
    go false = keeps-empty None i scope n

keeps-body_elsewhere : (kind : UnitKind) (e : Option ℕ) (i : Identifier) (scope : Option ℕ) (n : Names) → Keeps n (body_elsewhere kind e i scope n)
unfolding body_elsewhere
keeps-body_elsewhere kind None i scope n = keeps-empty None i scope n
keeps-body_elsewhere kind (Some e) i scope n = go (is_unit kind n e)
  where
    go : (b : Bool) → Keeps n (cond b (later_body e (region_of_entity n e) i scope n) (body_apart None i scope [] n))
    go true = keeps-later_body e (region_of_entity n e) i scope n
    go false = keeps-empty None i scope n

keeps-body_begun : (kind : UnitKind) (i : Identifier) (scope : Option ℕ) (n : Names) → Keeps n (body_begun kind i scope n)
unfolding body_begun body_sought
keeps-body_begun kind i scope n = go (entity_bound n (region_here n) i.text)
  where
    looked : Keeps n (resolved i n)
    looked = keeps-same n (resolved i n) (ap (λ (k : Known). k.bindings) (known-resolved i n)) (ap (λ (k : Known). k.entities) (known-resolved i n))

    go : (e : Option ℕ) → Keeps n (body_begun_at kind e i scope n)
    go (Some e) = keeps-body_here kind e i scope n
    go None =
        keeps-then n (resolved i n) (body_elsewhere kind (entity_denoted (resolved i n) i.place) i scope (resolved i n)) looked
        (keeps-body_elsewhere kind (entity_denoted (resolved i n) i.place) i scope (resolved i n))

keeps-package : (e : ℕ) (i : Identifier) (exports : Bool) (region : Option ℕ) (n : Names) → Keeps n (package_opened e i exports region n)
keeps-package e i exports None n = keeps-empty None i None n
keeps-package e i exports (Some region) n = keeps-same n (package_opened e i exports (Some region) n) refl refl

keeps-package_begun : (e : Option ℕ) (i : Identifier) (n : Names) → Keeps n (package_begun e i n)
unfolding package_begun
keeps-package_begun None i n = keeps-empty None i None n
keeps-package_begun (Some e) i n =
    keeps-then n (with_context e n) (package_opened e i true (region_of_entity n e) (with_context e n)) (keeps-same n (with_context e n) refl refl)
    (keeps-package e i true (region_of_entity n e) (with_context e n))

keeps-package_body : (e : Option ℕ) (i : Identifier) (n : Names) → Keeps n (package_body_begun e i n)
unfolding package_body_begun
keeps-package_body None i n = keeps-empty None i None n
keeps-package_body (Some e) i n =
    keeps-noted i.place e n (package_opened e i false (region_of_entity n e) (noted i.place (denotes.Entity e) n))
    (keeps-package e i false (region_of_entity n e) (noted i.place (denotes.Entity e) n))

keeps-context : (c : Option PackageContext) (n : Names) → Keeps n (context_again c n)
unfolding context_again
keeps-context None n = keeps-same n _ refl refl
keeps-context (Some c) n = keeps-same n _ refl refl

keeps-if : (f : Option Frame) (n : Names) → Keeps n (opened_if f n)
keeps-if None n = keeps-same n _ refl refl
keeps-if (Some f) n = keeps-same n _ refl refl

keeps-own : (r : Region) (n : Names) → IsOwn r → Keeps n (begun r n)
keeps-own r n own = let same = known-own r n own in keeps-same n (begun r n) (ap (λ (k : Known). k.bindings) same) (ap (λ (k : Known). k.entities) same)

keeps-begun : (r : Region) (n : Names) → Keeps n (begun r n)
unfolding begun unit_begun record_begun
keeps-begun (the_context_of i) n = keeps-context _ n
keeps-begun (package_region i) n = keeps-package_begun _ i n
keeps-begun (package_body i) n = keeps-package_body (package_named n i.text) i n
keeps-begun (a_unit i) n = keeps-if _ n
keeps-begun (task_body i place) n =
    keeps-then n (with_scope place false false n) (body_begun unit.Task i (next_scope n) (with_scope place false false n))
    (keeps-same n (with_scope place false false n) refl refl) (keeps-body_begun unit.Task i (next_scope n) (with_scope place false false n))
keeps-begun (protected_body i) n = keeps-body_begun unit.Protected i None n
keeps-begun (a_record i) n = keeps-if _ n
keeps-begun the_context n = keeps-own the_context n tt
keeps-begun further_context n = keeps-own further_context n tt
keeps-begun (main_body i place) n = keeps-own (main_body i place) n tt
keeps-begun a_profile n = keeps-own a_profile n tt
keeps-begun (subprogram_body place is_function) n = keeps-own (subprogram_body place is_function) n tt
keeps-begun (entry_body i place barrier) n = keeps-own (entry_body i place barrier) n tt
keeps-begun (an_accept i place) n = keeps-own (an_accept i place) n tt
keeps-begun (a_block label place) n = keeps-own (a_block label place) n tt
keeps-begun (a_loop label) n = keeps-own (a_loop label) n tt

-- ---- all occurrences

-- the entities of a table, or one more that the occurrence declares
abbrev Grows : Occurrence → Names → Names → Type 0
Grows o n m = (m.entities ≡ n.entities) ⊎ ((x : Entity) × (m.entities ≡ n.entities ++ x ∷ []) × Declares o n.regions x)

Follows : Occurrence → Names → Names → Type 0
Follows o n m = (IsSound (known n) → IsSound (known m)) × Grows o n m

follows-keeps : (o : Occurrence) (n m : Names) → Keeps n m → Follows o n m
unfolding Keeps Follows
follows-keeps o n m k = (k.0, inl k.1)

follows-known : (o : Occurrence) (n m : Names) → (known m).bindings ≡ (known n).bindings → (known m).entities ≡ (known n).entities → Follows o n m
follows-known o n m bindings entities = follows-keeps o n m (keeps-same n m bindings entities)

-- a name is hidden
sound-hidden : (i : Identifier) (o : Open) (k : Known) → IsSound k → IsSound (with_bound o i.text None k)
sound-hidden i o k s = sound-bound o.region (record { name = i.text; entity = None; exported = o.exports }) k.bindings k.entities s (λ e h. cc)

follows-hidden : (p : Occurrence) (i : Identifier) (n : Names) → Follows p n (hidden i n)
unfolding Follows
follows-hidden p i n =
    subst (λ (k : Known).
    (IsSound (known n) → IsSound k) × ((k.entities ≡ n.entities) ⊎ ((x : Entity) × (k.entities ≡ n.entities ++ x ∷ []) × Declares p n.regions x)))
    (sym (known-hidden i n))
    (go _)
  where
    home : Open
    home = innermost (known n).opened

    go : (b : Bool)
        → (IsSound (known n) → IsSound (cond b (known n) (with_bound home i.text None (known n))))
        × (((cond b (known n) (with_bound home i.text None (known n))).entities ≡ n.entities)
        ⊎ ((x : Entity) × ((cond b (known n) (with_bound home i.text None (known n))).entities ≡ n.entities ++ x ∷ []) × Declares p n.regions x))
    go true = ((λ s. s), inl refl)
    go false = ((λ s. sound-hidden i home (known n) s), inl refl)

follows-headed : (p : Occurrence) (i : Identifier) (n : Names) → Follows p n (headed i n)
unfolding headed
follows-headed p i n = go (is_some (completed_in n (region_here n) i.text))
  where
    go : (b : Bool) → Follows p n (cond b n (hidden i n))
    go true = follows-known p n n refl refl
    go false = follows-hidden p i n

-- an entity is declared
sound-declared : (o : Open) (name : List ℕ) (x : Entity) (k : Known) → (is_package_kind x.kind ≡ true → (o.region ≡ 0) × (o.exports ≡ false)) → IsSound k
    → IsSound (with_declared o name x k)
sound-declared o name x k alone s =
    sound-bound o.region (record { name = name; entity = Some (length k.entities); exported = o.exports }) k.bindings (k.entities ++ x ∷ [])
    (λ q bs e. sound-more q k.entities (x ∷ []) bs (s q bs e))
    (λ e h. (x, ap (slice_get (k.entities ++ x ∷ [])) (sym (some-same (length k.entities) e h)) ∙ slice_get-last k.entities x, alone))

follows-entered : (o : Occurrence) (home : Open) (i : Identifier) (n m : Names) → Enters o home i n m
    → (is_package o ≡ true → (home.region ≡ 0) × (home.exports ≡ false)) → Follows o n m
unfolding Follows
follows-entered o home i n m d alone = (
  (λ s. subst IsSound (sym d.2) (sound-declared home i.text d.0 (with_regions (region_behind_it o) (known n)) (λ e. alone (sym d.1.packaged ∙ e)) s)),
  inr (d.0, ap (λ (k : Known). k.entities) d.2, d.1),
)

follows-completed : (i : Identifier) (s : SubprogramSpecification) (n : Names) → Follows (completes i s) n (behind (completes i s) n)
unfolding Follows behind
follows-completed i s n = go (completed_in n (outer n).region i.text) refl
  where
    go : (x : Option ℕ) → completed_in n (outer n).region i.text ≡ x → Follows (completes i s) n (behind (completes i s) n)
    go (Some e) q =
        let same = known-completed i s n e q in
        follows-known (completes i s) n (behind (completes i s) n) (ap (λ (k : Known). k.bindings) same) (ap (λ (k : Known). k.entities) same)
    go None q =
        let d = known-body_declared i s n q in (
          (λ sound. subst IsSound (sym d.2)
              (sound-declared (innermost (outside (known n).opened)) i.text d.0 (known n) (λ e. absurd (false-true (sym d.1.packaged ∙ e))) sound)),
          inr (d.0, ap (λ (k : Known). k.entities) d.2, d.1),
        )

follows-unit : (i : Identifier) (what : Declared) (before : Before) (n : Names) → FitsHere (declares_unit i what) before
    → Follows (declares_unit i what) n (behind (declares_unit i what) n)
unfolding behind
follows-unit i the_package before n fits = follows-entered (declares_unit i the_package) _ i n _ (known-package_declared i n) (λ e. (refl, refl))
follows-unit i the_main_procedure before n fits = follows-entered (declares_unit i the_main_procedure) _ i n _ (known-main_declared i n) (λ e. (refl, refl))
follows-unit i _ before n fits = absurd fits

follows : (o : Occurrence) (before : Before) (n : Names) → FitsHere o before → Follows o n (behind o n)
unfolding behind
follows (begins r) before n fits = follows-keeps (begins r) n (begun r n) (keeps-begun r n)
follows ends before n fits = follows-known ends n _ refl refl
follows private_from_here before n fits = follows-known private_from_here n _ refl refl
follows (hides i) before n fits = follows-hidden (hides i) i n
follows (heads i) before n fits = follows-headed (heads i) i n
follows (declares i what) before n fits = follows-entered (declares i what) _ i n _ (known-declared i what n fits) (λ e. absurd (false-true e))
follows (declares_unit i what) before n fits = follows-unit i what before n fits
follows (completes i s) before n fits = follows-completed i s n
follows (is_called i) before n fits = follows-known (is_called i) n _ refl refl
follows (mentions name) before n fits =
    follows-known (mentions name) n _ (ap (λ (k : Known). k.bindings) (known-name_resolved name n))
    (ap (λ (k : Known). k.entities) (known-name_resolved name n))
follows (mentions_simply i) before n fits =
    follows-known (mentions_simply i) n _ (ap (λ (k : Known). k.bindings) (known-resolved i n)) (ap (λ (k : Known). k.entities) (known-resolved i n))
follows (mentions_entry i) before n fits =
    follows-known (mentions_entry i) n _ (ap (λ (k : Known). k.bindings) (known-entry_mentioned i n))
    (ap (λ (k : Known). k.entities) (known-entry_mentioned i n))
follows (with_unit name) before n fits =
    follows-known (with_unit name) n _ (ap (λ (k : Known). k.bindings) (known-withed name (library_unit n name) n))
    (ap (λ (k : Known). k.entities) (known-withed name (library_unit n name) n))
follows (use_package name) before n fits =
    follows-known (use_package name) n _ (ap (λ (k : Known). k.bindings) (known-used name n)) (ap (λ (k : Known). k.entities) (known-used name n))

-- ---- at each position

pub sound-kept : (last : ℕ) (c : Before) → IsText c → IsSound (known_at last c)
unfolding Follows item_at
sound-kept last [] t = λ q bs e. cc
sound-kept last (o ∷ c) t = (follows o c (table_at last c) t.1).0 (sound-kept last c t.2)

-- the entities of an earlier position are there
pub entities-last : (last : ℕ) (b c : Before) → IsText c → Stands b c → (e : ℕ) (x : Entity) → slice_get (known_at last b).entities e ≡ Some x
    → slice_get (known_at last c).entities e ≡ Some x
unfolding Follows
entities-last last b [] t s e x there = ap (λ z. slice_get (known_at last z).entities e) (sym s) ∙ there
entities-last last b (o ∷ c) t (inl q) e x there = ap (λ z. slice_get (known_at last z).entities e) (sym q) ∙ there
entities-last last b (o ∷ c) t (inr s) e x there = go (follows o c (table_at last c) t.1).1 (entities-last last b c t.2 s e x there)
  where
    go : Grows o (table_at last c) (table_at last (o ∷ c)) → slice_get (known_at last c).entities e ≡ Some x
        → slice_get (known_at last (o ∷ c)).entities e ≡ Some x
    go (inl same) h = ap (λ es. slice_get es e) same ∙ h
    go (inr more) h = ap (λ es. slice_get es e) more.1 ∙ slice_get-more (known_at last c).entities (more.0 ∷ []) e x h

-- each entity is what an occurrence before declares
pub record DeclaredAt (last : ℕ) (c : Before) (e : ℕ) (x : Entity) : Type 0 where
  pub by : Occurrence
  pub before : Before
  pub stands : Stands (by ∷ before) c
  pub number : e ≡ length (known_at last before).entities
  pub declared : Declares by (known_at last before).regions x

pub declared-at : (last : ℕ) (c : Before) → IsText c → (e : ℕ) (x : Entity) → slice_get (known_at last c).entities e ≡ Some x → DeclaredAt last c e x
unfolding Follows
declared-at last [] t e x there = cc
declared-at last (o ∷ c) t e x there = go (λ q. declared-at last c t.2 e x q) (follows o c (table_at last c) t.1).1
  where
    farther : DeclaredAt last c e x → DeclaredAt last (o ∷ c) e x
    farther d = record { by = d.by; before = d.before; stands = inr d.stands; number = d.number; declared = d.declared }

    below : (a b : ℕ) → (a ≡ b → ⊥) → a < suc b → a < b
    below a b other lt = omega (arith, other)

    newest : (slice_get (known_at last c).entities e ≡ Some x → DeclaredAt last c e x) → (y : Entity) → Declares o (known_at last c).regions y
        → slice_get ((known_at last c).entities ++ y ∷ []) e ≡ Some x
        → (t : Bool) → eqb e (length (known_at last c).entities) ≡ t → DeclaredAt last (o ∷ c) e x
    newest older y d q true h =
        let here : e ≡ length (known_at last c).entities = eqb-true e (length (known_at last c).entities) h in
        let same : y ≡ x = some-list y x (sym (ap (slice_get ((known_at last c).entities ++ y ∷ [])) here ∙ slice_get-last (known_at last c).entities y) ∙ q) in
        record { by = o; before = c; stands = inl refl; number = here; declared = subst (Declares o (known_at last c).regions) same d }
    newest older y d q false h =
        let other : e ≡ length (known_at last c).entities → ⊥ = eqb-false e (length (known_at last c).entities) h in
        let within : e < length ((known_at last c).entities ++ y ∷ []) = slice_get_within ((known_at last c).entities ++ y ∷ []) e x q in
        let long : length ((known_at last c).entities ++ y ∷ []) ≡ length (known_at last c).entities + length (y ∷ []) =
        length-append (known_at last c).entities (y ∷ []) in
        let lt : e < length (known_at last c).entities = below e (length (known_at last c).entities) other (omega arith) in
        farther (older (sym (slice_get-left (known_at last c).entities (y ∷ []) e lt) ∙ q))

    go : (slice_get (known_at last c).entities e ≡ Some x → DeclaredAt last c e x) → Grows o (table_at last c) (table_at last (o ∷ c))
        → DeclaredAt last (o ∷ c) e x
    go older (inl same) = farther (older (ap (λ zs. slice_get zs e) (sym same) ∙ there))
    go older (inr more) = newest older more.0 more.2 (ap (λ zs. slice_get zs e) (sym more.1) ∙ there) (eqb e (length (known_at last c).entities)) refl
