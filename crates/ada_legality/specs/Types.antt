-- Kinds of types, and for which types each operator is defined (3.2, 3.5, 4.5, D.8, D.14).
use Rattle.ada_legality.specs.declared.reading.Typed.{Typed}
use Rattle.ada_regions.specs.Declaring.{free_subtype}
use Rattle.ada_regions.specs.Words.{and_then}
use Rattle.std.specs.Option.{option_or}
use Rattle.std.specs.Bool.{then_some}
use Rattle.ada_regions.specs.declared.table.Names.{Names}
use Rattle.ada_regions.specs.declared.types.AdaType.{AdaType}
use Rattle.ada_regions.specs.declared.types.Subtype.{Subtype}
use Rattle.ada_regions.specs.TypeKinds.{is_task_type, is_protected_type}
use Rattle.ada_regions.specs.TypeKinds.{is_controlled_type, is_array_type, is_span_type}
use Rattle.profile_image.specs.declared.expressions.BinaryOperator.{BinaryOperator}
use Rattle.profile_image.specs.declared.expressions.UnaryOperator.{UnaryOperator}
use Rattle.profile_image.specs.declared.numbers.ControlledNo.{ControlledNo}
use Rattle.std.specs.Prelude.{Bool, None, Option, Some, cond, eqb, false, not}
use Rattle.std.specs.Prelude.{option_map, slice_get, true, unwrap_or, ℕ, ◌&&◌, ◌||◌}
use Rattle.profile_image.specs.declared.expressions.BinaryOperator.TheVariants as binary
use Rattle.ada_regions.specs.declared.types.AdaType.TheVariants as types
use Rattle.ada_legality.specs.declared.reading.Typed.TheVariants as typing
use Rattle.profile_image.specs.declared.expressions.UnaryOperator.TheVariants as unary

-- ---- kinds of types

-- a type is the same as another
abbrev pub type_number : AdaType → ℕ
type_number types.Integer = 0
type_number types.Boolean = 1
type_number types.Duration = 2
type_number (types.Enumeration e) = 3
type_number (types.Array a) = 4
type_number types.Time = 5
type_number types.TimeSpan = 6
type_number types.CpuTime = 7
type_number types.TaskId = 8
type_number types.TimingEvent = 9
type_number types.Timer = 10
type_number types.GroupBudget = 11
type_number types.LimitedControlled = 12
type_number types.Controlled = 13
type_number (types.Derived c) = 14
type_number (types.Task u) = 15
type_number (types.Protected u) = 16

-- which of the types that the source declares it is
abbrev pub declared_number : AdaType → ℕ
declared_number (types.Enumeration e) = e.0
declared_number (types.Array a) = a
declared_number (types.Derived c) = c.0
declared_number (types.Task u) = u.0
declared_number (types.Protected u) = u.0
declared_number _ = 0

-- two types are the same
unfoldable pub same_type : AdaType → AdaType → Bool
same_type a b = eqb (type_number a) (type_number b) && eqb (declared_number a) (declared_number b)

-- two types are the same, or both are none
abbrev pub same_type_if : Option AdaType → Option AdaType → Bool
same_type_if None None = true
same_type_if None (Some b) = false
same_type_if (Some a) None = false
same_type_if (Some a) (Some b) = same_type a b

-- types whose values come one after another (3.2)
abbrev pub is_discrete : AdaType → Bool
is_discrete types.Integer = true
is_discrete types.Boolean = true
is_discrete (types.Enumeration e) = true
is_discrete _ = false

-- types of which a range may be taken
abbrev pub has_ranges : AdaType → Bool
has_ranges types.Duration = true
has_ranges t = is_discrete t

-- types whose values are moments or spans
abbrev pub is_of_time : AdaType → Bool
is_of_time types.Duration = true
is_of_time types.Time = true
is_of_time types.TimeSpan = true
is_of_time types.CpuTime = true
is_of_time _ = false

-- types whose values stand in an order
abbrev pub is_ordered : AdaType → Bool
is_ordered t = is_discrete t || is_of_time t

-- Task_Id
abbrev pub is_task_id : AdaType → Bool
is_task_id types.TaskId = true
is_task_id _ = false

-- types whose values take one cell (this profile's own: Task_Id is one of them)
abbrev pub is_scalar : AdaType → Bool
is_scalar t = is_ordered t || is_task_id t

-- a scalar type or an array type
abbrev pub is_scalar_or_array : AdaType → Bool
is_scalar_or_array t = is_scalar t || is_array_type t

-- Integer
abbrev pub is_integer : AdaType → Bool
is_integer types.Integer = true
is_integer _ = false

-- Boolean
abbrev pub is_boolean : AdaType → Bool
is_boolean types.Boolean = true
is_boolean _ = false

-- Duration
abbrev pub is_duration : AdaType → Bool
is_duration types.Duration = true
is_duration _ = false

-- Timer
abbrev pub is_timer : AdaType → Bool
is_timer types.Timer = true
is_timer _ = false

-- events, timers and group budgets (D.14, D.15)
abbrev pub is_event_timer_or_budget : AdaType → Bool
is_event_timer_or_budget types.TimingEvent = true
is_event_timer_or_budget types.Timer = true
is_event_timer_or_budget types.GroupBudget = true
is_event_timer_or_budget _ = false

-- Limited_Controlled and Controlled themselves
abbrev pub is_root_controlled : AdaType → Bool
is_root_controlled types.LimitedControlled = true
is_root_controlled types.Controlled = true
is_root_controlled _ = false

-- objects of these types have no initial value (7.5)
abbrev pub has_no_values : AdaType → Bool
has_no_values t =
    is_event_timer_or_budget t || (is_controlled_type t || (is_task_type t || is_protected_type t))

-- a type derived from Limited_Controlled
abbrev pub is_limited_controlled : Names → ControlledNo → Bool
is_limited_controlled n c =
    unwrap_or (option_map (λ t. t.is_limited) (slice_get n.controlled_types c.0)) true

-- objects of these types are not copied (7.5): a Controlled one is
unfoldable pub is_limited : Names → AdaType → Bool
is_limited n (types.Derived c) = is_limited_controlled n c
is_limited n t = has_no_values t

-- a type derived from Controlled
unfoldable pub is_copied_controlled : Names → AdaType → Bool
is_copied_controlled n t = is_controlled_type t && not (is_limited n t)

-- ---- operators, by the types of their operands

unfoldable pub sum_of : AdaType → AdaType → Option AdaType
sum_of types.Integer types.Integer = Some types.Integer
sum_of types.Duration types.Duration = Some types.Duration
sum_of types.TimeSpan types.TimeSpan = Some types.TimeSpan
sum_of types.Time types.TimeSpan = Some types.Time
sum_of types.TimeSpan types.Time = Some types.Time
sum_of types.CpuTime types.TimeSpan = Some types.CpuTime
sum_of types.TimeSpan types.CpuTime = Some types.CpuTime
sum_of a b = None

-- `-` of two operands
unfoldable pub difference_of : AdaType → AdaType → Option AdaType
difference_of types.Integer types.Integer = Some types.Integer
difference_of types.Duration types.Duration = Some types.Duration
difference_of types.TimeSpan types.TimeSpan = Some types.TimeSpan
difference_of types.Time types.TimeSpan = Some types.Time
difference_of types.CpuTime types.TimeSpan = Some types.CpuTime
difference_of types.Time types.Time = Some types.TimeSpan
difference_of types.CpuTime types.CpuTime = Some types.TimeSpan
difference_of a b = None

-- `*`
unfoldable pub product_of : AdaType → AdaType → Option AdaType
product_of types.Integer types.Integer = Some types.Integer
product_of types.Duration types.Integer = Some types.Duration
product_of types.Integer types.Duration = Some types.Duration
product_of types.TimeSpan types.Integer = Some types.TimeSpan
product_of types.Integer types.TimeSpan = Some types.TimeSpan
product_of a b = None

-- `/`
unfoldable pub quotient_of : AdaType → AdaType → Option AdaType
quotient_of types.Integer types.Integer = Some types.Integer
quotient_of types.Duration types.Integer = Some types.Duration
quotient_of types.TimeSpan types.Integer = Some types.TimeSpan
quotient_of a b = None

-- `mod` and `rem`
unfoldable pub remainder_of : AdaType → AdaType → Option AdaType
remainder_of types.Integer types.Integer = Some types.Integer
remainder_of a b = None

-- Boolean, where the operator is defined
abbrev pub boolean_if : Bool → Option AdaType
boolean_if true = Some types.Boolean
boolean_if false = None

-- Boolean operands of a logical operator; two values of one scalar type that are equal or not; two
-- of one that has an order
abbrev pub logical_of : AdaType → AdaType → Option AdaType
logical_of a b = boolean_if (is_boolean a && is_boolean b)

-- `=` and `/=`
abbrev pub equality_of : AdaType → AdaType → Option AdaType
equality_of a b = boolean_if (same_type a b && is_scalar a)

-- the other comparisons
abbrev pub ordering_of : AdaType → AdaType → Option AdaType
ordering_of a b = boolean_if (same_type a b && is_ordered a)

-- the type of an operator's result, where it is defined for operands of these types
unfoldable pub result_of : BinaryOperator → AdaType → AdaType → Option AdaType
result_of binary.And a b = logical_of a b
result_of binary.Or a b = logical_of a b
result_of binary.Xor a b = logical_of a b
result_of binary.AndThen a b = logical_of a b
result_of binary.OrElse a b = logical_of a b
result_of binary.Equal a b = equality_of a b
result_of binary.NotEqual a b = equality_of a b
result_of binary.Less a b = ordering_of a b
result_of binary.LessOrEqual a b = ordering_of a b
result_of binary.Greater a b = ordering_of a b
result_of binary.GreaterOrEqual a b = ordering_of a b
result_of binary.Plus a b = sum_of a b
result_of binary.Minus a b = difference_of a b
result_of binary.Times a b = product_of a b
result_of binary.Divide a b = quotient_of a b
result_of binary.Mod a b = remainder_of a b
result_of binary.Rem a b = remainder_of a b

-- an operator with one operand: of numbers and spans, `+` and `abs` not of Time_Span; `not` of
-- Boolean
unfoldable pub result_of_one : UnaryOperator → AdaType → Option AdaType
result_of_one unary.Plus t = then_some (is_integer t || is_duration t) t
result_of_one unary.Minus t = then_some (is_integer t || (is_duration t || is_span_type t)) t
result_of_one unary.Abs t = then_some (is_integer t || is_duration t) t
result_of_one unary.Not t = then_some (is_boolean t) t

-- ---- the types of expressions

abbrev pub typed_as : AdaType → Typed
typed_as t = typing.OfSubtype (free_subtype t)

-- an expression of this type, or of none
abbrev pub typed_if : Option AdaType → Typed
typed_if None = typing.WithoutType
typed_if (Some t) = typed_as t

-- an expression of this subtype, or of none
abbrev pub typed_by : Option Subtype → Typed
typed_by None = typing.WithoutType
typed_by (Some s) = typing.OfSubtype s

-- the type that an operand has: a number is an Integer, one with a point a Duration
abbrev pub operand_type : Typed → Option AdaType
operand_type typing.WithoutType = None
operand_type (typing.OfSubtype s) = Some s.of_type
operand_type typing.OfWholeNumber = Some types.Integer
operand_type typing.OfPointedNumber = Some types.Duration
operand_type typing.OfText = None
operand_type typing.OfNull = None
operand_type (typing.OfHandler e) = None

-- an expression that has a type
abbrev pub has_type : Typed → Bool
has_type typing.WithoutType = false
has_type _ = true

-- a text, or texts that are joined
abbrev pub is_text : Typed → Bool
is_text typing.OfText = true
is_text _ = false

-- a number with a point
abbrev pub is_pointed : Typed → Bool
is_pointed typing.OfPointedNumber = true
is_pointed _ = false

-- an expression whose type is such
unfoldable pub typed_is : (AdaType → Bool) → Typed → Bool
typed_is test t = unwrap_or (option_map test (operand_type t)) false

-- the type of an operation, where its operator is defined for its operands
unfoldable pub operation_type : BinaryOperator → Typed → Typed → Option AdaType
operation_type operator a b =
    and_then (operand_type a) (λ x. and_then (operand_type b) (result_of operator x))

-- the type of an operation with one operand
unfoldable pub operation_type_of_one : UnaryOperator → Typed → Option AdaType
operation_type_of_one operator a = and_then (operand_type a) (result_of_one operator)

-- an expression of this type fits where that type is expected; one without a type fits, and the
-- value of a literal is
-- asked apart
unfoldable pub fits : Typed → AdaType → Bool
fits typing.WithoutType t = true
fits (typing.OfSubtype s) t = same_type s.of_type t
fits typing.OfWholeNumber t = is_integer t
fits typing.OfPointedNumber t = is_duration t
fits typing.OfText t = false
fits typing.OfNull t = false
fits (typing.OfHandler e) t = false

-- the type of the values from one bound to another: that of the low one, where it is discrete, else
-- that of the high one
abbrev pub discrete_if : AdaType → Option AdaType
discrete_if t = cond (is_discrete t) (Some t) None

-- the type that a bound gives
unfoldable pub type_of_low : Typed → Option AdaType
type_of_low typing.OfWholeNumber = Some types.Integer
type_of_low (typing.OfSubtype s) = discrete_if s.of_type
type_of_low _ = None

-- the type of the values between two bounds
unfoldable pub type_of_bounds : Typed → Typed → AdaType
type_of_bounds low high = unwrap_or (option_or (type_of_low low) (type_of_low high)) types.Integer
