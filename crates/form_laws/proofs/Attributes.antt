-- Attributes of names that break no rule are clear, where the table is.
use Rattle.std.proofs.Common.{◌≡◌, ℕ, Bool, true, false, cond, not, ◌&&◌, ◌||◌, List, [], ◌∷◌, slice_get}
use Rattle.std.proofs.Common.{Option, Some, None, option_map, is_some, refl, sym, ap, ◌∙◌, eq-eqb}
use Rattle.std.specs.Prelude.{unwrap_or}
use Rattle.std.specs.Option.{option_or}
use Rattle.std.proofs.lemmas.Bool.{false≢true, and_from, and_parts}
use Rattle.ann_base.specs.Lists.{is_empty}
use Rattle.ada_tree.specs.declared.names.Name.{Name}
use Rattle.ada_tree.specs.declared.operators.Attribute.{Attribute}
use Rattle.ada_tree.specs.declared.operators.Attribute.TheVariants as attribute
use Rattle.profile_image.specs.declared.values.Constraint.{Constraint}
use Rattle.profile_image.specs.declared.values.Constraint.TheVariants as constraint
use Rattle.ada_regions.specs.declared.entities.Denoted.{Denoted}
use Rattle.ada_regions.specs.declared.entities.Denoted.TheVariants as denotes
use Rattle.ada_regions.specs.declared.entities.EntityKind.{EntityKind}
use Rattle.ada_regions.specs.declared.entities.EntityKind.TheVariants as entity
use Rattle.ada_regions.specs.declared.predefined.Predefined.TheVariants as items
use Rattle.ada_regions.specs.declared.types.AdaType.{AdaType}
use Rattle.ada_regions.specs.declared.types.AdaType.TheVariants as types
use Rattle.ada_regions.specs.declared.types.ArrayType.{ArrayType}
use Rattle.ada_regions.specs.declared.types.Subtype.{Subtype}
use Rattle.ada_regions.specs.Completions.{holds_of}
use Rattle.ada_regions.specs.Names.{denoted_by, entity_of, kind_at, last_part}
use Rattle.ada_regions.specs.Statics.{attribute_value, high_of, index_or_free, low_of, range_named, range_of_type, subtype_denoted, subtype_of_kind}
use Rattle.ada_regions.specs.Subtypes.{mark_denoted, mark_of_kind}
use Rattle.ada_regions.specs.Words.{and_then}
use Rattle.ada_image.specs.BuiltExpressions.{is_given_if}
use Rattle.ada_legality.specs.declared.parts.ActualPart.{ActualPart}
use Rattle.ada_legality.specs.declared.reading.Typed.{Typed}
use Rattle.ada_legality.specs.declared.reading.Typed.TheVariants as typing
use Rattle.ada_legality.specs.declared.rules.Rule.TheVariants as rule
use Rattle.ada_legality.specs.declared.standing.Known.{Known}
use Rattle.ada_legality.specs.Faults.{faults_in}
use Rattle.ada_legality.specs.Places.{place_of}
use Rattle.ada_legality.specs.Types.{discrete_if, has_ranges, has_type, is_discrete, typed_as}
use Rattle.ada_legality.specs.Values.{denoted_kind, subtype_of_entity, subtype_of_object}
use Rattle.ada_legality.specs.Attributes.{ends_of_mark, ends_of_object, has_count, has_images, is_library_handler, is_task_object, typed_access}
use Rattle.ada_legality.specs.Attributes.{type_of_ends, type_of_index, type_of_mark_ends, typed_attribute, typed_attribute_of}
use Rattle.ada_legality.specs.Reading.{type_of_prefix}
use Rattle.ada_legality.specs.ReadExpressions.{attribute_alone, attribute_judged, denotes_subprogram, image_judged, is_unclear, is_unclear_mark}
use Rattle.ada_legality.specs.ReadExpressions.{is_unclear_object, may_have_attribute, no_handler_access, other_attribute}
use Rattle.image_laws.specs.Clear.{attribute_clear, ends_clear}
use Rattle.image_laws.proofs.Images.Expressions.{same-whole, same-truth}
use Rattle.image_laws.proofs.Forms.Actuals.{or-first}
use Rattle.image_laws.proofs.Forms.Nothing.{none-of, if-none, unless-none}
use Rattle.form_laws.specs.Tables.{ClearTable, array_clear, denoted_stands, is_range, item_clear, kind_clear, kind_stands}
use Rattle.form_laws.specs.Tables.{loop_clear}
use Rattle.form_laws.proofs.Names.{not-unclear, unclear-mark, unclear-object, typed-if_there}

-- ---- the ends of a range are values

low-given : (c : Constraint) → is_range c ≡ true → is_given_if (low_of c) ≡ true
low-given constraint.Free h = absurd (false≢true h)
low-given (constraint.Whole low high) h = same-whole low
low-given (constraint.Truth low high) h = same-truth low
low-given (constraint.Literal low high) h = eq-eqb low low refl
low-given (constraint.Ticks low high) h = same-whole low

high-given : (c : Constraint) → is_range c ≡ true → is_given_if (high_of c) ≡ true
high-given constraint.Free h = absurd (false≢true h)
high-given (constraint.Whole low high) h = same-whole high
high-given (constraint.Truth low high) h = same-truth high
high-given (constraint.Literal low high) h = eq-eqb high high refl
high-given (constraint.Ticks low high) h = same-whole high

typed-chosen : (b : Bool) (x : Typed) → has_type x ≡ true → b ≡ true → has_type (cond b x typing.WithoutType) ≡ true
typed-chosen true x h q = h
typed-chosen false x h q = absurd (false≢true q)

module _ (k : Known) (t : ClearTable k) where
  -- ---- First and Last

  abbrev ranged : Option Subtype → Bool
  ranged None = false
  ranged (Some s) = is_range (range_named k.names s)

  array-ranged : (i : Option AdaType) (x : Option ArrayType) → array_clear i x ≡ true → is_some i ≡ true → is_range (index_or_free x) ≡ true
  array-ranged None x c h = absurd (false≢true h)
  array-ranged (Some i) None c h = absurd (false≢true c)
  array-ranged (Some i) (Some a) c h = (and_parts _ _ (and_parts _ _ c).1).0

  type-ranged : (s : Subtype) (x : AdaType) → is_some (type_of_index k x) ≡ true → is_range (range_of_type k.names s x) ≡ true
  unfolding type_of_index range_of_type
  type-ranged s (types.Array a) h = array-ranged (slice_get k.indexes a) (slice_get k.names.arrays a) (t.arrays a) h
  type-ranged s _ h = absurd (false≢true h)

  or-none : (o : Option AdaType) → is_some (option_or o None) ≡ true → is_some o ≡ true
  or-none None h = h
  or-none (Some x) h = refl

  mark-ranged : (s : Subtype) (x : AdaType) → (not (has_ranges x) || is_range s.range) ≡ true → is_some (type_of_mark_ends k x) ≡ true
      → is_range (range_of_type k.names s x) ≡ true
  unfolding type_of_mark_ends range_of_type type_of_index
  mark-ranged s types.Integer c h = c
  mark-ranged s types.Boolean c h = c
  mark-ranged s types.Duration c h = c
  mark-ranged s (types.Enumeration e) c h = c
  mark-ranged s (types.Array a) c h = type-ranged s (types.Array a) h
  mark-ranged s x c h = absurd (false≢true h)

  object-ranged : (s : Option Subtype) → is_some (and_then s (λ x. type_of_index k x.of_type)) ≡ true → ranged s ≡ true
  object-ranged None h = absurd (false≢true h)
  object-ranged (Some s) h = type-ranged s s.of_type h

  loop-ranged : (s : Option Subtype) → loop_clear s ≡ true → is_some (and_then s (λ x. type_of_index k x.of_type)) ≡ true → ⊥
  unfolding type_of_index
  loop-ranged None c h = false≢true c
  loop-ranged (Some s) c h = go s.of_type c h
    where
      go : (x : AdaType) → is_discrete x ≡ true → is_some (type_of_index k x) ≡ true → ⊥
      go (types.Array a) c h = false≢true c
      go _ c h = false≢true h

  kind-ranged : (e : ℕ) (kind : Option EntityKind) → kind_clear k.names kind ≡ true → kind_stands k e kind ≡ true
      → is_some (option_or (and_then (and_then kind mark_of_kind) (λ s. type_of_mark_ends k s.of_type))
      (and_then (and_then kind (subtype_of_object k e)) (λ s. type_of_index k s.of_type))) ≡ true
      → ranged (and_then kind subtype_of_kind) ≡ true
  unfolding subtype_of_object type_of_index
  kind-ranged e None c s h = absurd (false≢true h)
  kind-ranged e (Some (entity.Mark None)) c s h = absurd (false≢true c)
  kind-ranged e (Some (entity.Mark (Some x))) c s h = mark-ranged x x.of_type c (or-none (type_of_mark_ends k x.of_type) h)
  kind-ranged e (Some (entity.Object x constant v declaration)) c s h = object-ranged x h
  kind-ranged e (Some (entity.Parameter x mode declaration)) c s h = object-ranged x h
  kind-ranged e (Some (entity.LoopParameter declaration)) c s h = absurd (loop-ranged _ s h)
  kind-ranged e (Some (entity.Component x owner declaration)) c s h = object-ranged x h
  kind-ranged e (Some _) c s h = absurd (false≢true h)

  denoted-ranged : (d : Denoted) → denoted_stands k (Some d) ≡ true → item_clear (Some d) ≡ true → is_some (type_of_ends k d) ≡ true
      → ranged (subtype_denoted k.names d) ≡ true
  unfolding type_of_ends ends_of_mark ends_of_object mark_denoted subtype_denoted subtype_of_entity
  denoted-ranged (denotes.Entity e) s c h = kind-ranged e (kind_at k.names e) (t.kinds e) s h
  denoted-ranged (denotes.Unit u) s c h = absurd (false≢true h)
  denoted-ranged (denotes.Item u (items.Mark x)) s c h = mark-ranged x x.of_type c (or-none (type_of_mark_ends k x.of_type) h)
  denoted-ranged (denotes.Item u _) s c h = absurd (false≢true h)

  low-known : (s : Option Subtype) → ranged s ≡ true → is_given_if (and_then s (λ x. low_of (range_named k.names x))) ≡ true
  low-known None h = absurd (false≢true h)
  low-known (Some s) h = low-given (range_named k.names s) h

  high-known : (s : Option Subtype) → ranged s ≡ true → is_given_if (and_then s (λ x. high_of (range_named k.names x))) ≡ true
  high-known None h = absurd (false≢true h)
  high-known (Some s) h = high-given (range_named k.names s) h

  ends-there : (d : Denoted) → denoted_stands k (Some d) ≡ true → (is_some (type_of_ends k d) || is_unclear k d) ≡ true → is_some (type_of_ends k d) ≡ true
  ends-there d s m = or-first _ (is_unclear k d) m (not-unclear k t d s)

  -- ---- what may be asked of a name, by the attribute

  module _ (name : Name) where
    abbrev typed_of : Attribute → Option Denoted → Typed
    typed_of a d = unwrap_or (option_map (λ x. typed_attribute k name x a) d) typing.WithoutType

    abbrev value_of : Attribute → Option Denoted → Bool
    value_of attribute.First d = is_given_if (and_then (and_then d (subtype_denoted k.names)) (λ x. low_of (range_named k.names x)))
    value_of attribute.Last d = is_given_if (and_then (and_then d (subtype_denoted k.names)) (λ x. high_of (range_named k.names x)))
    value_of a d = true

    images-typed : (d : Denoted) → has_images k d ≡ true → has_type (typed_attribute k name d attribute.Image) ≡ true
    unfolding typed_attribute
    images-typed d h = typed-chosen (has_images k d) typing.OfText refl h

    handler-typed : (e : ℕ) → denoted_by k.names name ≡ Some (denotes.Entity e) → is_library_handler k name ≡ true
        → has_type (typed_access k name) ≡ true
    unfolding typed_access
    handler-typed e q h =
        typed-chosen (is_library_handler k name) _ (ap (λ d. has_type (unwrap_or (option_map typing.OfHandler (and_then d entity_of)) typing.WithoutType)) q) h

    access-typed : (d : Denoted) → denoted_by k.names name ≡ Some d → denotes_subprogram k d ≡ true
        → (denotes_subprogram k d && not (is_library_handler k name)) ≡ false → has_type (typed_access k name) ≡ true
    access-typed (denotes.Entity e) q m n = handler-typed e q (kept _ _ m n)
      where
        kept : (x y : Bool) → x ≡ true → (x && not y) ≡ false → y ≡ true
        kept true true p q = refl
        kept true false p q = absurd (false≢true (sym q))
        kept false y p q = absurd (false≢true p)
    access-typed (denotes.Unit u) q m n = absurd (false≢true m)
    access-typed (denotes.Item u item) q m n = absurd (false≢true m)

    alone-of : (a : Attribute) (d : Denoted) → denoted_by k.names name ≡ Some d → denoted_stands k (Some d) ≡ true → item_clear (Some d) ≡ true
        → may_have_attribute k a d ≡ true → faults_in (no_handler_access k name a) ≡ []
        → (has_type (typed_attribute k name d a) && value_of a (Some d)) ≡ true
    unfolding typed_attribute may_have_attribute
    alone-of attribute.First d q s c m f =
        let h = ends-there d s m in and_from _ _ (typed-if_there (type_of_ends k d) h) (low-known (subtype_denoted k.names d) (denoted-ranged d s c h))
    alone-of attribute.Last d q s c m f =
        let h = ends-there d s m in and_from _ _ (typed-if_there (type_of_ends k d) h) (high-known (subtype_denoted k.names d) (denoted-ranged d s c h))
    alone-of attribute.Image d q s c m f =
        and_from _ _ (images-typed d (or-first (has_images k d) (holds_of is_unclear_mark (denoted_kind k.names d)) m (unclear-mark k t d))) refl
    alone-of attribute.Count d q s c m f = and_from _ _ (typed-chosen (holds_of (has_count k) (denoted_kind k.names d)) (typed_as types.Integer) refl m) refl
    alone-of attribute.Identity d q s c m f =
        and_from _ _
        (typed-chosen (is_task_object k d) (typed_as types.TaskId) refl (or-first (is_task_object k d) (is_unclear_object k d) m (unclear-object k t d s))) refl
    alone-of attribute.Access d q s c m f =
        and_from _ _
        (access-typed d q m
        (sym (ap (λ x. unwrap_or (option_map (denotes_subprogram k) x) false && not (is_library_handler k name)) q) ∙ if-none _ _ (place_of name) f))
        refl

    alone-all : (a : Attribute) (d : Option Denoted) → denoted_by k.names name ≡ d → denoted_stands k d ≡ true → item_clear d ≡ true
        → unwrap_or (option_map (may_have_attribute k a) d) false ≡ true → faults_in (no_handler_access k name a) ≡ []
        → (has_type (typed_of a d) && value_of a d) ≡ true
    alone-all a None q s c m f = absurd (false≢true m)
    alone-all a (Some d) q s c m f = alone-of a d q s c m f

    alone-known : (a : Attribute) → denoted_stands k (denoted_by k.names name) ≡ true → faults_in (attribute_alone k name a) ≡ []
        → (has_type (typed_of a (denoted_by k.names name)) && value_of a (denoted_by k.names name)) ≡ true
    unfolding attribute_alone
    alone-known a s f =
        let p = none-of _ _ f in
        alone-all a (denoted_by k.names name) refl s (t.items (last_part name).place) (unless-none _ _ (place_of name) p.0) p.1

    -- the same with what is clear of it
    ends-same : (a : Attribute) → value_of a (denoted_by k.names name) ≡ true → ends_clear k.names name a ≡ true
    unfolding attribute_value
    ends-same attribute.First h = h
    ends-same attribute.Last h = h
    ends-same _ h = refl

    without-arguments : (a : Attribute) → (has_type (typed_of a (denoted_by k.names name)) && value_of a (denoted_by k.names name)) ≡ true
        → attribute_clear k name a false ≡ true
    unfolding typed_attribute_of
    without-arguments a h = let p = and_parts _ _ h in and_from _ _ p.0 (ends-same a p.1)

    other-known : (a : Attribute) (actuals : List ActualPart) → denoted_stands k (denoted_by k.names name) ≡ true
        → faults_in (other_attribute k name a actuals) ≡ [] → attribute_clear k name a (not (is_empty actuals)) ≡ true
    other-known a [] s f = without-arguments a (alone-known a s f)
    other-known a (x ∷ xs) s f = absurd (false≢true (sym (if-none rule.Actuals true (place_of name) f)))

    -- ---- Image

    image-arguments : (has : Bool) → has_type (typed_of attribute.Image (denoted_by k.names name)) ≡ true → attribute_clear k name attribute.Image has ≡ true
    unfolding typed_attribute_of
    image-arguments true h = and_from _ _ h refl
    image-arguments false h = and_from _ _ h refl

    prefix-images : (d : Option Denoted) (x : AdaType) → and_then (and_then d (mark_denoted k.names)) (λ s. discrete_if s.of_type) ≡ Some x
        → has_type (typed_of attribute.Image d) ≡ true
    unfolding has_images
    prefix-images None x q = absurd (false≢true (ap is_some q))
    prefix-images (Some d) x q = images-typed d (go (mark_denoted k.names d) q)
      where
        discrete : (b : Bool) (y : AdaType) → cond b (Some y) None ≡ Some x → b ≡ true
        discrete true y q = refl
        discrete false y q = absurd (false≢true (ap is_some q))

        go : (s : Option Subtype) → and_then s (λ z. discrete_if z.of_type) ≡ Some x → unwrap_or (option_map (λ z. is_discrete z.of_type) s) false ≡ true
        go None q = absurd (false≢true (ap is_some q))
        go (Some z) q = discrete (is_discrete z.of_type) z.of_type q

    image-known : (actuals : List ActualPart) → denoted_stands k (denoted_by k.names name) ≡ true → (x : Option AdaType) → type_of_prefix k name ≡ x
        → faults_in (image_judged k name actuals x) ≡ [] → attribute_clear k name attribute.Image (not (is_empty actuals)) ≡ true
    unfolding image_judged type_of_prefix
    image-known actuals s None q f = image-arguments (not (is_empty actuals)) (and_parts _ _ (alone-known attribute.Image s f)).0
    image-known actuals s (Some x) q f = image-arguments (not (is_empty actuals)) (prefix-images (denoted_by k.names name) x q)

    pub attribute-found : (a : Attribute) (actuals : List ActualPart) → denoted_stands k (denoted_by k.names name) ≡ true
        → faults_in (attribute_judged k name a actuals) ≡ [] → attribute_clear k name a (not (is_empty actuals)) ≡ true
    unfolding attribute_judged
    attribute-found attribute.Image actuals s f = image-known actuals s (type_of_prefix k name) refl f
    attribute-found attribute.First actuals s f = other-known attribute.First actuals s f
    attribute-found attribute.Last actuals s f = other-known attribute.Last actuals s f
    attribute-found attribute.Count actuals s f = other-known attribute.Count actuals s f
    attribute-found attribute.Identity actuals s f = other-known attribute.Identity actuals s f
    attribute-found attribute.Access actuals s f = other-known attribute.Access actuals s f
