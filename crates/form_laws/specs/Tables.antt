-- Tables of names that are clear: each entity has the type that its declaration asks for, formals have names that stand
-- apart, and each constant and each end of a range has a value. Where one is not, another rule is broken at the
-- declaration, or a name is declared twice.
use Rattle.std.specs.List.{list_all}
use Rattle.std.specs.Prelude.{◌≡◌, ℕ, slice_get, Bool, true, false, not, ◌&&◌, ◌||◌, Option, Some, None}
use Rattle.ann_base.specs.declared.places.Place.{Place}
use Rattle.profile_image.specs.declared.values.Constraint.{Constraint}
use Rattle.profile_image.specs.declared.values.Constraint.TheVariants as constraint
use Rattle.ada_regions.specs.declared.entities.Denoted.{Denoted}
use Rattle.ada_regions.specs.declared.entities.Denoted.TheVariants as denotes
use Rattle.ada_regions.specs.declared.entities.EntityKind.{EntityKind}
use Rattle.ada_regions.specs.declared.entities.EntityKind.TheVariants as entity
use Rattle.ada_regions.specs.declared.predefined.Predefined.TheVariants as items
use Rattle.ada_regions.specs.declared.table.Names.{Names}
use Rattle.ada_regions.specs.declared.types.AdaType.{AdaType}
use Rattle.ada_regions.specs.declared.types.ArrayType.{ArrayType}
use Rattle.ada_regions.specs.declared.types.Subtype.{Subtype}
use Rattle.ada_regions.specs.Names.{denoted_at, denoted_by, kind_at}
use Rattle.ada_regions.specs.Occurrences.{Occurrence, Occurrences, mentions}
use Rattle.ada_image.specs.BuiltExpressions.{is_given}
use Rattle.ada_image.specs.BuiltStatements.{choice_value_built}
use Rattle.ada_image.specs.Layout.{is_thing}
use Rattle.ada_legality.specs.declared.standing.Known.{Known}
use Rattle.ada_legality.specs.Types.{has_ranges, is_discrete, is_root_controlled}
use Rattle.ada_legality.specs.Values.{result_of_kind, subtype_of_loop}
use Rattle.image_laws.specs.Clear.{formals_clear}

-- ---- subtypes and values

abbrev pub is_range : Constraint → Bool
is_range constraint.Free = false
is_range _ = true

-- a range stands at a type of which one may be taken
abbrev pub subtype_clear : Subtype → Bool
subtype_clear s = not (has_ranges s.of_type) || is_range s.range

abbrev pub mark_clear : Option Subtype → Bool
mark_clear None = false
mark_clear (Some s) = subtype_clear s

-- no object is of a type from which controlled types are derived
abbrev pub object_clear : Option Subtype → Bool
object_clear None = false
object_clear (Some s) = not (is_root_controlled s.of_type)

-- ---- entities, predefined items and array types

-- functions have a type of values as their result
abbrev pub result_clear : Option Subtype → Bool
result_clear None = false
result_clear (Some s) = not (is_thing s.of_type)

abbrev pub kind_clear : Names → Option EntityKind → Bool
kind_clear n (Some (entity.Mark s)) = mark_clear s
kind_clear n (Some (entity.Object s constant x declaration)) = object_clear s && choice_value_built x
kind_clear n (Some (entity.Parameter s mode declaration)) = object_clear s
kind_clear n (Some (entity.Component s owner declaration)) = object_clear s
kind_clear n (Some (entity.Subprogram number is_function specified formals unit)) =
    formals_clear formals
    && (not is_function
    || result_clear (result_of_kind n (entity.Subprogram number is_function specified formals unit)))
kind_clear n (Some (entity.Entry number unit formals)) = formals_clear formals
kind_clear n _ = true

abbrev pub item_clear : Option Denoted → Bool
item_clear (Some (denotes.Item u (items.Mark s))) = subtype_clear s
item_clear (Some (denotes.Item u (items.Constant of_type x))) = is_given x
item_clear _ = true

abbrev pub component_clear : Option Subtype → Bool
component_clear None = false
component_clear (Some s) = not (is_thing s.of_type)

-- an array type whose index has this type
abbrev pub array_clear : Option AdaType → Option ArrayType → Bool
array_clear None a = true
array_clear (Some t) None = false
array_clear (Some t) (Some a) = not (is_thing t) && (is_range a.index && component_clear a.component)

pub record ClearTable (k : Known) : Type 0 where
  pub kinds : (e : ℕ) → kind_clear k.names (kind_at k.names e) ≡ true
  pub items : (place : Place) → item_clear (denoted_at k.names place) ≡ true
  pub arrays : (a : ℕ) → array_clear (slice_get k.indexes a) (slice_get k.names.arrays a) ≡ true

-- ---- loop parameters: each stands in its loop

abbrev pub loop_clear : Option Subtype → Bool
loop_clear None = false
loop_clear (Some s) = is_discrete s.of_type

abbrev pub kind_stands : Known → ℕ → Option EntityKind → Bool
kind_stands k e (Some (entity.LoopParameter declaration)) = loop_clear (subtype_of_loop k.loops e)
kind_stands k e _ = true

abbrev pub denoted_stands : Known → Option Denoted → Bool
denoted_stands k (Some (denotes.Entity e)) = kind_stands k e (kind_at k.names e)
denoted_stands k _ = true

abbrev pub mention_stands : Known → Occurrence → Bool
mention_stands k (mentions name) = denoted_stands k (denoted_by k.names name)
mention_stands k _ = true

abbrev pub loops_stand : Known → Occurrences → Bool
loops_stand k os = list_all (mention_stands k) os
