-- A name of an entity that is a value, with or without an index, is built.
use Rattle.std.proofs.Common.{◌≡◌, ℕ, Bool, true, false, cond, not, Option, Some, None, option_map, is_some, is_none, refl, sym}
use Rattle.std.specs.Prelude.{unwrap_or}
use Rattle.std.proofs.lemmas.Bool.{false≢true}
use Rattle.profile_image.specs.declared.numbers.DeclNo.{DeclNo}
use Rattle.ada_regions.specs.declared.entities.EntityKind.{EntityKind}
use Rattle.ada_regions.specs.declared.entities.EntityKind.TheVariants as entity
use Rattle.ada_regions.specs.declared.table.Names.{Names}
use Rattle.ada_regions.specs.declared.types.AdaType.{AdaType}
use Rattle.ada_regions.specs.declared.types.AdaType.TheVariants as types
use Rattle.ada_regions.specs.declared.types.Subtype.{Subtype}
use Rattle.ada_regions.specs.Words.{and_then}
use Rattle.ada_image.specs.Layout.{is_thing, subtype_is, array_of}
use Rattle.ada_legality.specs.declared.standing.Known.{Known}
use Rattle.ada_legality.specs.Types.{typed_by}
use Rattle.ada_legality.specs.Values.{subtype_of_object, component_subtype, subtype_with_index}
use Rattle.ada_image.specs.BuiltExpressions.{entity_built, object_built}
use Rattle.image_laws.specs.Clear.{has_values}

either-there : (b : Bool) → cond b true true ≡ true
either-there true = refl
either-there false = refl

thing-not : (b c : Bool) → not b ≡ true → cond b c true ≡ true
thing-not true c e = absurd (false≢true e)
thing-not false c e = refl

-- ---- without an index

parameter-alone : (s : Option Subtype) (d : Option DeclNo) → has_values (typed_by s) ≡ true → object_built s d true ≡ true
parameter-alone None d v = absurd (false≢true v)
parameter-alone (Some s) d v = thing-not (is_thing s.of_type) (is_some d) v

pub entity-alone : (k : Known) (e : ℕ) (kind : Option EntityKind) → has_values (typed_by (and_then kind (subtype_of_object k e))) ≡ true
    → unwrap_or (option_map (λ x. entity_built x true) kind) false ≡ true
unfolding subtype_of_object
entity-alone k e None v = absurd (false≢true v)
entity-alone k e (Some (entity.Literal enumeration position)) v = refl
entity-alone k e (Some (entity.Object s constant x declaration)) v = either-there (subtype_is is_thing s)
entity-alone k e (Some (entity.Parameter s mode declaration)) v = parameter-alone s declaration v
entity-alone k e (Some (entity.LoopParameter declaration)) v = refl
entity-alone k e (Some (entity.Component s owner declaration)) v = refl
entity-alone k e (Some _) v = absurd (false≢true v)

-- ---- with an index, which an array alone has

array-thing : (n : Names) (t : AdaType) → has_values (typed_by (and_then (array_of n t) (λ a. a.component))) ≡ true → is_thing t ≡ false
unfolding array_of
array-thing n (types.Array a) v = refl
array-thing n _ v = absurd (false≢true v)

component-thing : (n : Names) (s : Subtype) → has_values (typed_by (component_subtype n s)) ≡ true → is_thing s.of_type ≡ false
unfolding component_subtype
component-thing n s v = array-thing n s.of_type v

of-no_thing : (b c : Bool) → b ≡ false → cond b c true ≡ true
of-no_thing true c e = absurd (false≢true (sym e))
of-no_thing false c e = refl

parameter-indexed : (n : Names) (s : Option Subtype) (d : Option DeclNo) → has_values (typed_by (subtype_with_index n true s)) ≡ true
    → object_built s d true ≡ true
unfolding subtype_with_index
parameter-indexed n None d v = absurd (false≢true v)
parameter-indexed n (Some s) d v = of-no_thing (is_thing s.of_type) (is_some d) (component-thing n s v)

pub entity-indexed : (k : Known) (e : ℕ) (kind : Option EntityKind)
    → has_values (typed_by (subtype_with_index k.names true (and_then kind (subtype_of_object k e)))) ≡ true
    → unwrap_or (option_map (λ x. entity_built x true) kind) false ≡ true
unfolding subtype_of_object subtype_with_index
entity-indexed k e None v = absurd (false≢true v)
entity-indexed k e (Some (entity.Literal enumeration position)) v = refl
entity-indexed k e (Some (entity.Object s constant x declaration)) v = either-there (subtype_is is_thing s)
entity-indexed k e (Some (entity.Parameter s mode declaration)) v = parameter-indexed k.names s declaration v
entity-indexed k e (Some (entity.LoopParameter declaration)) v = refl
entity-indexed k e (Some (entity.Component s owner declaration)) v = refl
entity-indexed k e (Some _) v = absurd (false≢true v)

pub subtype-there : (n : Names) (s : Option Subtype) → has_values (typed_by (subtype_with_index n true s)) ≡ true → is_none s ≡ false
unfolding subtype_with_index
subtype-there n None v = absurd (false≢true v)
subtype-there n (Some s) v = refl
