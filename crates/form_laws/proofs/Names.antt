-- Names that break no rule are clear, where the table is.
use Rattle.std.proofs.Common.{◌≡◌, ℕ, Bool, true, false, cond, not, ◌&&◌, ◌||◌, List, [], slice_get}
use Rattle.std.proofs.Common.{Option, Some, None, option_map, is_some, is_none, refl, sym, ap, ◌∙◌}
use Rattle.std.specs.Prelude.{unwrap_or}
use Rattle.std.proofs.lemmas.Bool.{false≢true, and_from, and_parts}
use Rattle.ann_base.specs.Lists.{is_empty}
use Rattle.ada_tree.specs.declared.names.Name.{Name}
use Rattle.ada_regions.specs.declared.entities.Denoted.{Denoted}
use Rattle.ada_regions.specs.declared.entities.Denoted.TheVariants as denotes
use Rattle.ada_regions.specs.declared.entities.EntityKind.{EntityKind}
use Rattle.ada_regions.specs.declared.entities.EntityKind.TheVariants as entity
use Rattle.ada_regions.specs.declared.predefined.Operation.{Operation}
use Rattle.ada_regions.specs.declared.predefined.Operation.TheVariants as operations
use Rattle.ada_regions.specs.declared.predefined.Predefined.TheVariants as items
use Rattle.ada_regions.specs.declared.predefined.PredefinedUnit.{PredefinedUnit}
use Rattle.ada_regions.specs.declared.predefined.PredefinedUnit.TheVariants as units
use Rattle.ada_regions.specs.declared.types.AdaType.{AdaType}
use Rattle.ada_regions.specs.declared.types.AdaType.TheVariants as types
use Rattle.ada_regions.specs.declared.types.ArrayType.{ArrayType}
use Rattle.ada_regions.specs.declared.types.Subtype.{Subtype}
use Rattle.ada_regions.specs.Completions.{holds_of}
use Rattle.ada_regions.specs.Names.{denoted_by, kind_at, last_part}
use Rattle.ada_regions.specs.Words.{and_then}
use Rattle.ada_image.specs.Layout.{array_of}
use Rattle.ada_image.specs.TypesOfExpressions.{type_of_operation}
use Rattle.ada_legality.specs.declared.parts.ActualPart.{ActualPart}
use Rattle.ada_legality.specs.declared.reading.Typed.{Typed}
use Rattle.ada_legality.specs.declared.reading.Typed.TheVariants as typing
use Rattle.ada_legality.specs.declared.standing.Known.{Known}
use Rattle.ada_legality.specs.Faults.{faults_in}
use Rattle.ada_legality.specs.Places.{place_of}
use Rattle.ada_legality.specs.Types.{has_type, typed_by, typed_if}
use Rattle.ada_legality.specs.Values.{component_subtype, denoted_kind, denotes_function, denotes_value, is_denoted}
use Rattle.ada_legality.specs.Values.{is_function_kind, is_literal_kind, is_object_kind, result_of_kind}
use Rattle.ada_legality.specs.Values.{subtype_of_entity, subtype_of_object, subtype_with_index, type_of_constant, typed_call}
use Rattle.ada_legality.specs.Values.{typed_constant, typed_denoted, typed_name, typed_operation_call, typed_value, unless_index}
use Rattle.ada_legality.specs.Attributes.{ends_of_object}
use Rattle.ada_legality.specs.Attributes.{type_of_index}
use Rattle.ada_legality.specs.ReadExpressions.{index_fits, is_unclear, is_unclear_mark}
use Rattle.ada_legality.specs.ReadExpressions.{is_unclear_object, is_value_with, may_be_value, name_judged}
use Rattle.image_laws.specs.Clear.{has_values, constant_clear, denoted_clear, index_clear, name_clear}
use Rattle.image_laws.proofs.Forms.Actuals.{or-first, or-second}
use Rattle.image_laws.proofs.Forms.Nothing.{none-of, unless-none}
use Rattle.form_laws.specs.Tables.{ClearTable, array_clear, component_clear, denoted_stands, item_clear, kind_clear, kind_stands}
use Rattle.form_laws.specs.Tables.{loop_clear, object_clear, result_clear}

-- ---- subtypes that are there

typed-there : (s : Option Subtype) → is_some s ≡ true → has_type (typed_by s) ≡ true
typed-there None h = absurd (false≢true h)
typed-there (Some s) h = refl

pub typed-if_there : (t : Option AdaType) → is_some t ≡ true → has_type (typed_if t) ≡ true
typed-if_there None h = absurd (false≢true h)
typed-if_there (Some t) h = refl

pub values-typed : (x : Typed) → has_values x ≡ true → has_type x ≡ true
values-typed typing.WithoutType h = absurd (false≢true h)
values-typed _ h = refl

object-there : (s : Option Subtype) → object_clear s ≡ true → is_some s ≡ true
object-there None h = absurd (false≢true h)
object-there (Some s) h = refl

loop-there : (s : Option Subtype) → loop_clear s ≡ true → is_some s ≡ true
loop-there None h = absurd (false≢true h)
loop-there (Some s) h = refl

result-there : (s : Option Subtype) → result_clear s ≡ true → is_some s ≡ true
result-there None h = absurd (false≢true h)
result-there (Some s) h = refl

unless-some : {X : Type 0} (o : Option X) (b : Bool) → is_some o ≡ true → (b && is_none o) ≡ false
unless-some None b h = absurd (false≢true h)
unless-some (Some x) true h = refl
unless-some (Some x) false h = refl

not-broken : (b : Bool) → b ≡ true → b ≡ false → ⊥
not-broken b p q = false≢true (sym q ∙ p)

module _ (k : Known) (t : ClearTable k) where
  -- ---- the subtype of an object, a parameter, a component, a loop parameter or a literal

  subtype-there : (e : ℕ) (kind : Option EntityKind) → kind_clear k.names kind ≡ true → kind_stands k e kind ≡ true
      → holds_of (λ x. is_object_kind x || is_literal_kind x) kind ≡ true → is_some (and_then kind (subtype_of_object k e)) ≡ true
  unfolding subtype_of_object
  subtype-there e None c s h = absurd (false≢true h)
  subtype-there e (Some (entity.Literal enumeration position)) c s h = refl
  subtype-there e (Some (entity.Object x constant v declaration)) c s h = object-there x (and_parts _ _ c).0
  subtype-there e (Some (entity.Parameter x mode declaration)) c s h = object-there x c
  subtype-there e (Some (entity.LoopParameter declaration)) c s h = loop-there _ s
  subtype-there e (Some (entity.Component x owner declaration)) c s h = object-there x c
  subtype-there e (Some _) c s h = absurd (false≢true h)

  unclear-none : (e : ℕ) (kind : Option EntityKind) → kind_clear k.names kind ≡ true → kind_stands k e kind ≡ true
      → (holds_of is_object_kind kind && is_none (and_then kind (subtype_of_object k e))) ≡ false
  unclear-none e None c s = refl
  unclear-none e (Some (entity.Literal enumeration position)) c s = refl
  unclear-none e (Some (entity.Object x constant v declaration)) c s =
      unless-some _ true (subtype-there e (Some (entity.Object x constant v declaration)) c s refl)
  unclear-none e (Some (entity.Parameter x mode declaration)) c s = unless-some _ true (subtype-there e (Some (entity.Parameter x mode declaration)) c s refl)
  unclear-none e (Some (entity.LoopParameter declaration)) c s = unless-some _ true (subtype-there e (Some (entity.LoopParameter declaration)) c s refl)
  unclear-none e (Some (entity.Component x owner declaration)) c s = unless-some _ true (subtype-there e (Some (entity.Component x owner declaration)) c s refl)
  unclear-none e (Some _) c s = refl

  pub unclear-object : (d : Denoted) → denoted_stands k (Some d) ≡ true → is_unclear_object k d ≡ false
  unfolding is_unclear_object subtype_of_entity
  unclear-object (denotes.Entity e) s = unclear-none e (kind_at k.names e) (t.kinds e) s
  unclear-object (denotes.Unit u) s = refl
  unclear-object (denotes.Item u item) s = refl

  unclear-kind : (kind : Option EntityKind) → kind_clear k.names kind ≡ true → holds_of is_unclear_mark kind ≡ false
  unclear-kind None c = refl
  unclear-kind (Some (entity.Mark None)) c = absurd (false≢true c)
  unclear-kind (Some (entity.Mark (Some s))) c = refl
  unclear-kind (Some _) c = refl

  pub unclear-mark : (d : Denoted) → holds_of is_unclear_mark (denoted_kind k.names d) ≡ false
  unclear-mark (denotes.Entity e) = unclear-kind (kind_at k.names e) (t.kinds e)
  unclear-mark (denotes.Unit u) = refl
  unclear-mark (denotes.Item u item) = refl

  pub not-unclear : (d : Denoted) → denoted_stands k (Some d) ≡ true → is_unclear k d ≡ false
  not-unclear d s = ap (λ b. b || holds_of is_unclear_mark (denoted_kind k.names d)) (unclear-object d s) ∙ unclear-mark d

  -- ---- elements of arrays

  element-values : (i : Option AdaType) (x : Option ArrayType) → array_clear i x ≡ true → is_some i ≡ true
      → has_values (typed_by (and_then x (λ a. a.component))) ≡ true
  element-values None x c h = absurd (false≢true h)
  element-values (Some t) None c h = absurd (false≢true c)
  element-values (Some t) (Some a) c h = go a.component (and_parts _ _ (and_parts _ _ c).1).1
    where
      go : (s : Option Subtype) → component_clear s ≡ true → has_values (typed_by s) ≡ true
      go None c = absurd (false≢true c)
      go (Some s) c = c

  of-array : (x : AdaType) → is_some (type_of_index k x) ≡ true → has_values (typed_by (and_then (array_of k.names x) (λ a. a.component))) ≡ true
  unfolding type_of_index array_of
  of-array (types.Array a) h = element-values (slice_get k.indexes a) (slice_get k.names.arrays a) (t.arrays a) h
  of-array _ h = absurd (false≢true h)

  pub component-values : (s : Option Subtype) → is_some (and_then s (λ x. type_of_index k x.of_type)) ≡ true
      → has_values (typed_by (and_then s (component_subtype k.names))) ≡ true
  unfolding component_subtype
  component-values None h = absurd (false≢true h)
  component-values (Some s) h = of-array s.of_type h

  index-type : (x : AdaType) → index_clear (type_of_index k x) ≡ true
  unfolding type_of_index
  index-type (types.Array a) = go (slice_get k.indexes a) (slice_get k.names.arrays a) (t.arrays a)
    where
      go : (i : Option AdaType) (x : Option ArrayType) → array_clear i x ≡ true → index_clear i ≡ true
      go None x c = refl
      go (Some i) None c = absurd (false≢true c)
      go (Some i) (Some a) c = (and_parts _ _ c).0
  index-type _ = refl

  index-known : (s : Option Subtype) → index_clear (and_then s (λ x. type_of_index k x.of_type)) ≡ true
  index-known None = refl
  index-known (Some s) = index-type s.of_type

  pub ends-known : (d : Denoted) → index_clear (ends_of_object k d) ≡ true
  unfolding ends_of_object
  ends-known d = index-known (subtype_of_entity k d)

  -- ---- values

  with-index : (has : Bool) (d : Denoted) → is_some (subtype_of_entity k d) ≡ true → is_unclear_object k d ≡ false → index_fits k has d ≡ true
      → has_type (typed_by (subtype_with_index k.names has (subtype_of_entity k d))) ≡ true
  unfolding index_fits subtype_with_index ends_of_object
  with-index false d h u f = typed-there _ h
  with-index true d h u f =
      values-typed _ (component-values (subtype_of_entity k d) (or-second (is_unclear_object k d) _ f u))

  constant-typed : (u : PredefinedUnit) (x : AdaType) → has_type (typed_constant k u (Some x)) ≡ true
  unfolding typed_constant
  constant-typed units.System types.Integer = refl
  constant-typed units.System _ = refl
  constant-typed _ x = refl

  constant-there : (u : PredefinedUnit) (o : Option AdaType) → is_some o ≡ true → has_type (typed_constant k u o) ≡ true
  constant-there u None h = absurd (false≢true h)
  constant-there u (Some x) h = constant-typed u x

  of-item : (o : Option AdaType) (b : Bool) → b ≡ false → (is_some o || b) ≡ true → is_some o ≡ true
  of-item o b q h = or-first (is_some o) b h q

  pub value-typed : (has : Bool) (d : Denoted) → denoted_stands k (Some d) ≡ true → is_value_with k has d ≡ true → has_type (typed_value k has d) ≡ true
  unfolding typed_value denotes_value subtype_of_entity index_fits is_unclear_object ends_of_object
  value-typed has (denotes.Entity e) s v =
      let p = and_parts _ _ v in
      with-index has (denotes.Entity e) (subtype-there e (kind_at k.names e) (t.kinds e) s p.0) (unclear-object (denotes.Entity e) s) p.1
  value-typed has (denotes.Unit u) s v = absurd (false≢true v)
  value-typed has (denotes.Item u item) s v = go has (and_parts _ _ v).0 (and_parts _ _ v).1
    where
      go : (has : Bool) → (is_some (type_of_constant item) || false) ≡ true → index_fits k has (denotes.Item u item) ≡ true
          → has_type (typed_constant k u (unless_index has (type_of_constant item))) ≡ true
      go true h f = absurd (false≢true f)
      go false h f = constant-there u (type_of_constant item) (of-item (type_of_constant item) false refl h)

  -- ---- functions

  operation-typed : (o : Operation) → is_some (type_of_operation o) ≡ true → has_type (typed_operation_call k o) ≡ true
  unfolding typed_operation_call
  operation-typed operations.GetPriority h = refl
  operation-typed o h = typed-if_there (type_of_operation o) h

  function-kind : (kind : Option EntityKind) → kind_clear k.names kind ≡ true → holds_of is_function_kind kind ≡ true
      → has_type (typed_by (and_then kind (result_of_kind k.names))) ≡ true
  function-kind (Some (entity.Subprogram number true specified formals unit)) c h = typed-there _ (result-there _ (and_parts _ _ c).1)
  function-kind (Some (entity.Subprogram number false specified formals unit)) c h = absurd (false≢true h)
  function-kind None c h = absurd (false≢true h)
  function-kind (Some _) c h = absurd (false≢true h)

  function-typed : (d : Denoted) → denotes_function k d ≡ true → has_type (typed_call k d) ≡ true
  unfolding denotes_function typed_call
  function-typed (denotes.Entity e) h = function-kind (kind_at k.names e) (t.kinds e) h
  function-typed (denotes.Unit u) h = absurd (false≢true h)
  function-typed (denotes.Item u (items.Operation o)) h = operation-typed o h
  function-typed (denotes.Item u _) h = absurd (false≢true h)

  -- ---- names without attribute

  pub denoted-typed : (has : Bool) (d : Denoted) → denoted_stands k (Some d) ≡ true → may_be_value k has d ≡ true → has_type (typed_denoted k has d) ≡ true
  unfolding may_be_value typed_denoted
  denoted-typed has d s m = go (denotes_function k d) refl m
    where
      go : (b : Bool) → denotes_function k d ≡ b → (b || is_value_with k has d) ≡ true → has_type (cond b (typed_call k d) (typed_value k has d)) ≡ true
      go true q m = function-typed d q
      go false q m = value-typed has d s m

  constant-known : (d : Denoted) → item_clear (Some d) ≡ true → constant_clear (Some d) ≡ true
  constant-known (denotes.Entity e) c = refl
  constant-known (denotes.Unit u) c = refl
  constant-known (denotes.Item u (items.Constant of_type x)) c = c
  constant-known (denotes.Item u _) c = refl

  all-known : (has : Bool) (d : Option Denoted) → denoted_stands k d ≡ true → item_clear d ≡ true
      → unwrap_or (option_map (may_be_value k has) d) false ≡ true
      → (has_type (unwrap_or (option_map (typed_denoted k has) d) typing.WithoutType) && (constant_clear d && denoted_clear k d)) ≡ true
  all-known has None s c m = absurd (false≢true m)
  all-known has (Some d) s c m = and_from _ _ (denoted-typed has d s m) (and_from _ _ (constant-known d c) (ends-known d))

  pub name-known : (name : Name) (has : Bool) → denoted_stands k (denoted_by k.names name) ≡ true → is_denoted (may_be_value k has) k name ≡ true
      → name_clear k name has ≡ true
  unfolding typed_name
  name-known name has s m = all-known has (denoted_by k.names name) s (t.items (last_part name).place) m

  pub name-found : (name : Name) (actuals : List ActualPart) → denoted_stands k (denoted_by k.names name) ≡ true
      → faults_in (name_judged k name actuals) ≡ [] → name_clear k name (not (is_empty actuals)) ≡ true
  unfolding name_judged
  name-found name actuals s f = name-known name (not (is_empty actuals)) s (unless-none _ _ (place_of name) (none-of _ _ f).0)
