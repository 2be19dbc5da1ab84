-- What kind of type a type is (clause 3).
use Rattle.std.specs.Prelude.{Bool, true, false}
use Rattle.ada_regions.specs.declared.types.AdaType.{AdaType}
use Rattle.ada_regions.specs.declared.types.AdaType.TheVariants as types

-- an array type
abbrev pub is_array_type : AdaType → Bool
is_array_type (types.Array a) = true
is_array_type _ = false

-- Time_Span
abbrev pub is_span_type : AdaType → Bool
is_span_type types.TimeSpan = true
is_span_type _ = false

-- a type of the source that is derived from Limited_Controlled or Controlled (7.6)
abbrev pub is_controlled_type : AdaType → Bool
is_controlled_type (types.Derived c) = true
is_controlled_type _ = false

-- a task type
abbrev pub is_task_type : AdaType → Bool
is_task_type (types.Task u) = true
is_task_type _ = false

-- a protected type
abbrev pub is_protected_type : AdaType → Bool
is_protected_type (types.Protected u) = true
is_protected_type _ = false
