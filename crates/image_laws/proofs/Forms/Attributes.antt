-- An attribute of a type of values is built.
use Rattle.std.proofs.Common.{◌≡◌, ℕ, Bool, true, false, cond, Option, Some, None, option_map, refl}
use Rattle.std.specs.Prelude.{unwrap_or}
use Rattle.std.proofs.lemmas.Bool.{false≢true}
use Rattle.ada_tree.specs.declared.names.Name.{Name}
use Rattle.ada_tree.specs.declared.operators.Attribute.{Attribute}
use Rattle.ada_tree.specs.declared.operators.Attribute.TheVariants as attribute
use Rattle.ada_regions.specs.declared.entities.Denoted.{Denoted}
use Rattle.ada_regions.specs.declared.entities.EntityKind.{EntityKind}
use Rattle.ada_regions.specs.declared.entities.EntityKind.TheVariants as entity
use Rattle.ada_regions.specs.declared.types.AdaType.TheVariants as types
use Rattle.ada_regions.specs.Names.{denoted_by}
use Rattle.ada_regions.specs.Words.{and_then}
use Rattle.ada_regions.specs.Completions.{holds_of}
use Rattle.ada_legality.specs.declared.reading.Typed.{Typed}
use Rattle.ada_legality.specs.declared.reading.Typed.TheVariants as typing
use Rattle.ada_legality.specs.declared.standing.Known.{Known}
use Rattle.ada_legality.specs.Types.{typed_as}
use Rattle.ada_legality.specs.Values.{denoted_kind, entity_of_name}
use Rattle.ada_legality.specs.Attributes.{has_count, has_images, is_library_handler, typed_access, typed_attribute, typed_attribute_of}
use Rattle.ada_image.specs.BuiltExpressions.{attribute_built, is_entry}
use Rattle.image_laws.specs.Clear.{has_values, ends_clear}

module _ (k : Known) (name : Name) where
  abbrev typed_of : Attribute → Bool → Option Denoted → Typed
  typed_of a b d = cond b typing.WithoutType (unwrap_or (option_map (λ d. typed_attribute k name d a) d) typing.WithoutType)

  no-text : (b : Bool) → has_values (cond b typing.OfText typing.WithoutType) ≡ true → ⊥
  no-text true v = false≢true v
  no-text false v = false≢true v

  image-none : (b : Bool) (d : Option Denoted) → has_values (typed_of attribute.Image b d) ≡ true → ⊥
  unfolding typed_attribute
  image-none true d v = false≢true v
  image-none false None v = false≢true v
  image-none false (Some d) v = no-text (has_images k d) v

  no-handler : (b : Bool) (e : Option ℕ) → has_values (cond b (unwrap_or (option_map typing.OfHandler e) typing.WithoutType) typing.WithoutType) ≡ true → ⊥
  no-handler true None v = false≢true v
  no-handler true (Some e) v = false≢true v
  no-handler false e v = false≢true v

  access-none : (b : Bool) (d : Option Denoted) → has_values (typed_of attribute.Access b d) ≡ true → ⊥
  unfolding typed_attribute typed_access
  access-none true d v = false≢true v
  access-none false None v = false≢true v
  access-none false (Some d) v = no-handler (is_library_handler k name) (entity_of_name k name) v

  entry-counted : (kind : Option EntityKind) → has_values (cond (holds_of (has_count k) kind) (typed_as types.Integer) typing.WithoutType) ≡ true
      → is_entry kind ≡ true
  unfolding has_count
  entry-counted None v = absurd (false≢true v)
  entry-counted (Some (entity.Entry number unit formals)) v = refl
  entry-counted (Some _) v = absurd (false≢true v)

  count-entry : (b : Bool) (d : Option Denoted) → has_values (typed_of attribute.Count b d) ≡ true → is_entry (and_then d (denoted_kind k.names)) ≡ true
  unfolding typed_attribute
  count-entry true d v = absurd (false≢true v)
  count-entry false None v = absurd (false≢true v)
  count-entry false (Some d) v = entry-counted (denoted_kind k.names d) v

  pub attribute-well : (a : Attribute) (has_arguments : Bool) → has_values (typed_attribute_of k name a has_arguments) ≡ true → ends_clear k.names name a ≡ true
      → attribute_built k.names name a ≡ true
  unfolding typed_attribute_of
  attribute-well attribute.First has v c = c
  attribute-well attribute.Last has v c = c
  attribute-well attribute.Image has v c = absurd (image-none _ (denoted_by k.names name) v)
  attribute-well attribute.Count has v c = count-entry _ (denoted_by k.names name) v
  attribute-well attribute.Identity has v c = refl
  attribute-well attribute.Access has v c = absurd (access-none _ (denoted_by k.names name) v)
