-- Subtype indications, array types and the formals of profiles (3.2.2, 3.5, 3.6, 6.1), given what their names denote.
use Rattle.std.specs.Prelude.{ℕ, ℤ, Bool, true, false, List, Option, Some, None, map}
use Rattle.std.specs.List.{flat_map}
use Rattle.ada_tree.specs.declared.names.Identifier.{Identifier}
use Rattle.ada_tree.specs.declared.expressions.Expression.{Expression}
use Rattle.ada_tree.specs.declared.declarations.Parameter.{Parameter}
use Rattle.ada_tree.specs.declared.declarations.SubtypeIndication.{SubtypeIndication}
use Rattle.ada_tree.specs.declared.declarations.Constraint.{Constraint as Indicated}
use Rattle.ada_tree.specs.declared.declarations.Constraint.TheVariants as indicated
use Rattle.profile_image.specs.declared.values.Value.{Value}
use Rattle.profile_image.specs.declared.values.Value.TheVariants as value
use Rattle.profile_image.specs.declared.values.Constraint.{Constraint}
use Rattle.profile_image.specs.declared.values.Constraint.TheVariants as constraint
use Rattle.ada_regions.specs.declared.types.ArrayType.{ArrayType}
use Rattle.ada_regions.specs.declared.types.Formal.{Formal}
use Rattle.ada_regions.specs.declared.types.Mode.{Mode}
use Rattle.ada_regions.specs.declared.types.Mode.TheVariants as mode
use Rattle.ada_regions.specs.declared.types.Subtype.{Subtype}
use Rattle.ada_regions.specs.declared.entities.Denoted.{Denoted}
use Rattle.ada_regions.specs.declared.entities.Denoted.TheVariants as denotes
use Rattle.ada_regions.specs.declared.entities.EntityKind.{EntityKind}
use Rattle.ada_regions.specs.declared.entities.EntityKind.TheVariants as entity
use Rattle.ada_regions.specs.Words.{and_then, all_of}
use Rattle.ada_regions.specs.declared.table.Names.{Names}
use Rattle.ada_regions.specs.Names.{denoted_by, kind_at}
use Rattle.ada_regions.specs.Statics.{static_value, subtype_of_item}

-- ---- ranges

abbrev pub whole_range : ℤ → Option Value → Constraint → Constraint
whole_range low (Some (value.Whole high)) range = constraint.Whole low high
whole_range low _ range = range

abbrev pub truth_range : Bool → Option Value → Constraint → Constraint
truth_range low (Some (value.Truth high)) range = constraint.Truth low high
truth_range low _ range = range

abbrev pub literal_range : ℕ → Option Value → Constraint → Constraint
literal_range low (Some (value.Literal high)) range = constraint.Literal low high
literal_range low _ range = range

abbrev pub ticks_range : ℤ → Option Value → Constraint → Constraint
ticks_range low (Some (value.Ticks high)) range = constraint.Ticks low high
ticks_range low _ range = range

abbrev pub range_from : Value → Option Value → Constraint → Constraint
range_from (value.Whole low) high range = whole_range low high range
range_from (value.Truth low) high range = truth_range low high range
range_from (value.Literal low) high range = literal_range low high range
range_from (value.Ticks low) high range = ticks_range low high range
range_from (value.Task t) high range = range
range_from (value.Thing t) high range = range

-- the range from one value to another, where both are static and of one type; else the one that is given
unfoldable pub range_between : Option Value → Option Value → Constraint → Constraint
range_between None high range = range
range_between (Some low) high range = range_from low high range

-- ---- subtype marks

abbrev pub mark_of_kind : EntityKind → Option Subtype
mark_of_kind entity.Package = None
mark_of_kind entity.Main = None
mark_of_kind (entity.Mark s) = s
mark_of_kind (entity.Literal enumeration position) = None
mark_of_kind (entity.Object s constant value declaration) = None
mark_of_kind (entity.Parameter s mode declaration) = None
mark_of_kind (entity.LoopParameter declaration) = None
mark_of_kind (entity.Component s owner declaration) = None
mark_of_kind (entity.Exception declaration) = None
mark_of_kind (entity.Subprogram number is_function specified formals unit) = None
mark_of_kind (entity.Entry number unit formals) = None
mark_of_kind entity.Label = None

unfoldable pub mark_denoted : Names → Denoted → Option Subtype
mark_denoted n (denotes.Entity e) = and_then (kind_at n e) mark_of_kind
mark_denoted n (denotes.Unit u) = None
mark_denoted n (denotes.Item u item) = subtype_of_item item

unfoldable pub constrained : Names → Option Indicated → Subtype → Subtype
constrained n None s = s
constrained n (Some (indicated.Access name)) s = s
constrained n (Some (indicated.Range low high)) s = record s {
  range = range_between (static_value n low) (static_value n high) s.range;
}

-- the subtype that an indication denotes, where its name is that of a type
unfoldable pub indicated_subtype : Names → SubtypeIndication → Option Subtype
indicated_subtype n m =
    and_then (denoted_by n m.name) (λ d. and_then (mark_denoted n d) (λ s. Some (constrained n m.constraint s)))

unfoldable pub array_type : Names → Expression → Expression → SubtypeIndication → ArrayType
array_type n low high component =
    record {
      index = range_between (static_value n low) (static_value n high) constraint.Free;
      component = indicated_subtype n component;
    }

-- ---- formals

abbrev pub mode_out : Bool → Mode
mode_out true = mode.InOut
mode_out false = mode.Out

abbrev pub mode_of : Bool → Bool → Mode
mode_of is_in true = mode_out is_in
mode_of is_in false = mode.In

abbrev pub formal_with : Mode → Option Subtype → Identifier → Formal
formal_with m s i = record { name = i.text; mode = m; subtype = s }

abbrev pub formals_of_parameter : Names → Parameter → List Formal
formals_of_parameter n p = map (formal_with (mode_of p.is_in p.is_out) (indicated_subtype n p.subtype)) (all_of p.names)

unfoldable pub formals_of : Names → List Parameter → List Formal
formals_of n parameters = flat_map (formals_of_parameter n) parameters
