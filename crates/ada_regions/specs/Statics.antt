-- Static expressions (4.9): literals, minus a literal, constants of these, enumeration literals, First and Last. A
-- number with a point is one of ticks, any other one a whole number.
use Rattle.std.specs.Prelude.{ℕ, ◌+◌, ◌-◌, ◌*◌, pos, neg_ℤ, leb, cond, List, Option, Some, None, unwrap_or}
use Rattle.ada_regions.specs.declared.predefined.TheConstants.{LAST_DURATION, LAST_INTEGER}
use Rattle.ada_lex.specs.Meaning.{whole_of, decimals_of}
use Rattle.ada_tree.specs.declared.names.Name.{Name}
use Rattle.ada_tree.specs.declared.operators.Sign.{Sign}
use Rattle.ada_tree.specs.declared.operators.Sign.TheVariants as sign
use Rattle.ada_tree.specs.declared.operators.Attribute.{Attribute}
use Rattle.ada_tree.specs.declared.operators.Attribute.TheVariants as attribute
use Rattle.ada_tree.specs.declared.expressions.Expression.{Expression}
use Rattle.ada_tree.specs.declared.expressions.Expression.TheViews.{out-Expression}
use Rattle.ada_tree.specs.declared.expressions.ExpressionForm.{ExpressionForm}
use Rattle.ada_tree.specs.declared.expressions.ExpressionForm.TheVariants as form
use Rattle.ada_tree.specs.declared.expressions.AttributeDesignator.{AttributeDesignator}
use Rattle.profile_image.specs.declared.values.Value.{Value}
use Rattle.profile_image.specs.declared.values.Value.TheVariants as value
use Rattle.profile_image.specs.declared.values.Constraint.{Constraint}
use Rattle.profile_image.specs.declared.values.Constraint.TheVariants as constraint
use Rattle.ada_regions.specs.declared.types.AdaType.{AdaType}
use Rattle.ada_regions.specs.declared.types.AdaType.TheVariants as types
use Rattle.ada_regions.specs.declared.types.Subtype.{Subtype}
use Rattle.ada_regions.specs.declared.types.ArrayType.{ArrayType}
use Rattle.ada_regions.specs.declared.predefined.Predefined.{Predefined}
use Rattle.ada_regions.specs.declared.predefined.Predefined.TheVariants as items
use Rattle.ada_regions.specs.declared.entities.Denoted.{Denoted}
use Rattle.ada_regions.specs.declared.entities.Denoted.TheVariants as denotes
use Rattle.ada_regions.specs.declared.entities.EntityKind.{EntityKind}
use Rattle.ada_regions.specs.declared.entities.EntityKind.TheVariants as entity
use Rattle.ada_regions.specs.Words.{and_then}
use Rattle.ann_base.specs.Lists.{is_empty}
use Rattle.ada_regions.specs.declared.table.Names.{Names}
use Rattle.ada_regions.specs.Names.{denoted_by, kind_at}
use Rattle.std.specs.Prelude.{slice_get}

-- ---- numeric literals (2.4)

-- the digit at a place behind the point; 0 where none stands there
abbrev pub digit_at : List ℕ → ℕ → ℕ
digit_at digits place = unwrap_or (slice_get digits place) 48 - 48

abbrev pub six_digits : List ℕ → ℕ
six_digits d =
    ((((digit_at d 0 * 10 + digit_at d 1) * 10 + digit_at d 2) * 10 + digit_at d 3) * 10 + digit_at d 4) * 10
    + digit_at d 5

-- six decimals, in ticks of a microsecond
unfoldable pub micros_of : List ℕ → ℕ
micros_of literal = whole_of literal * 1000000 + six_digits (decimals_of literal)

unfoldable pub literal_value : List ℕ → Value
literal_value literal =
    cond (is_empty (decimals_of literal)) (value.Whole (pos (whole_of literal))) (value.Ticks (pos (micros_of literal)))

abbrev pub negated : Value → Value
negated (value.Whole n) = value.Whole (neg_ℤ n)
negated (value.Truth b) = value.Truth b
negated (value.Literal n) = value.Literal n
negated (value.Ticks n) = value.Ticks (neg_ℤ n)
negated (value.Task t) = value.Task t
negated (value.Thing n) = value.Thing n

-- a literal, or its negative, that lies in Integer (3.5.4) or in Duration (9.6); one that does not is refused itself
abbrev pub in_integer : ℕ → Option Value
in_integer n = cond (leb n LAST_INTEGER) (Some (value.Whole (pos n))) None

abbrev pub in_duration : ℕ → Option Value
in_duration n = cond (leb n LAST_DURATION) (Some (value.Ticks (pos n))) None

abbrev pub negative_in_integer : ℕ → Option Value
negative_in_integer n = cond (leb n (LAST_INTEGER + 1)) (Some (value.Whole (neg_ℤ (pos n)))) None

abbrev pub negative_in_duration : ℕ → Option Value
negative_in_duration n = cond (leb n (LAST_DURATION + 1)) (Some (value.Ticks (neg_ℤ (pos n)))) None

unfoldable pub static_literal : List ℕ → Option Value
static_literal literal =
    cond (is_empty (decimals_of literal)) (in_integer (whole_of literal)) (in_duration (micros_of literal))

unfoldable pub static_negative : List ℕ → Option Value
static_negative literal =
    cond (is_empty (decimals_of literal)) (negative_in_integer (whole_of literal))
    (negative_in_duration (micros_of literal))

-- the literal of a form that is one
abbrev pub literal_of : {E : Type 0} → ExpressionForm E → Option (List ℕ)
literal_of (form.Logical operator first others) = None
literal_of (form.Relational left place operator right) = None
literal_of (form.Adding first others) = None
literal_of (form.Signed place s operand) = None
literal_of (form.Multiplying first others) = None
literal_of (form.Highest place operator operand) = None
literal_of (form.Number place literal) = Some literal
literal_of (form.Text place text) = None
literal_of (form.Null place) = None
literal_of (form.Bracketed place inner) = None
literal_of (form.Named name attribute arguments) = None

-- ---- the ends of ranges (3.5)

abbrev pub low_of : Constraint → Option Value
low_of constraint.Free = None
low_of (constraint.Whole low high) = Some (value.Whole low)
low_of (constraint.Truth low high) = Some (value.Truth low)
low_of (constraint.Literal low high) = Some (value.Literal low)
low_of (constraint.Ticks low high) = Some (value.Ticks low)

abbrev pub high_of : Constraint → Option Value
high_of constraint.Free = None
high_of (constraint.Whole low high) = Some (value.Whole high)
high_of (constraint.Truth low high) = Some (value.Truth high)
high_of (constraint.Literal low high) = Some (value.Literal high)
high_of (constraint.Ticks low high) = Some (value.Ticks high)

abbrev pub index_or_free : Option ArrayType → Constraint
index_or_free None = constraint.Free
index_or_free (Some a) = a.index

-- the range of an array's index, and of any other subtype
unfoldable pub range_of_type : Names → Subtype → AdaType → Constraint
range_of_type n s types.Integer = s.range
range_of_type n s types.Boolean = s.range
range_of_type n s types.Duration = s.range
range_of_type n s (types.Enumeration e) = s.range
range_of_type n s (types.Array a) = index_or_free (slice_get n.arrays a)
range_of_type n s types.Time = constraint.Free
range_of_type n s types.TimeSpan = constraint.Free
range_of_type n s types.CpuTime = constraint.Free
range_of_type n s types.TaskId = constraint.Free
range_of_type n s types.TimingEvent = constraint.Free
range_of_type n s types.Timer = constraint.Free
range_of_type n s types.GroupBudget = constraint.Free
range_of_type n s types.LimitedControlled = constraint.Free
range_of_type n s types.Controlled = constraint.Free
range_of_type n s (types.Derived c) = constraint.Free
range_of_type n s (types.Task u) = constraint.Free
range_of_type n s (types.Protected u) = constraint.Free

abbrev pub range_named : Names → Subtype → Constraint
range_named n s = range_of_type n s s.of_type

-- ---- constants and literals

abbrev pub value_of_kind : EntityKind → Option Value
value_of_kind entity.Package = None
value_of_kind entity.Main = None
value_of_kind (entity.Mark s) = None
value_of_kind (entity.Literal enumeration position) = Some (value.Literal position)
value_of_kind (entity.Object s constant value declaration) = value
value_of_kind (entity.Parameter s mode declaration) = None
value_of_kind (entity.LoopParameter declaration) = None
value_of_kind (entity.Component s owner declaration) = None
value_of_kind (entity.Exception declaration) = None
value_of_kind (entity.Subprogram number is_function specified formals unit) = None
value_of_kind (entity.Entry number unit formals) = None
value_of_kind entity.Label = None

abbrev pub value_of_item : Predefined → Option Value
value_of_item (items.Mark s) = None
value_of_item (items.Constant of_type value) = Some value
value_of_item (items.Truth b) = Some (value.Truth b)
value_of_item (items.Exception raised) = None
value_of_item (items.Operation operation) = None

unfoldable pub value_denoted : Names → Denoted → Option Value
value_denoted n (denotes.Entity e) = and_then (kind_at n e) value_of_kind
value_denoted n (denotes.Unit u) = None
value_denoted n (denotes.Item u item) = value_of_item item

-- ---- the subtype of what a name denotes (3.5, 3.6.2)

abbrev pub subtype_of_kind : EntityKind → Option Subtype
subtype_of_kind entity.Package = None
subtype_of_kind entity.Main = None
subtype_of_kind (entity.Mark s) = s
subtype_of_kind (entity.Literal enumeration position) = None
subtype_of_kind (entity.Object s constant value declaration) = s
subtype_of_kind (entity.Parameter s mode declaration) = s
subtype_of_kind (entity.LoopParameter declaration) = None
subtype_of_kind (entity.Component s owner declaration) = s
subtype_of_kind (entity.Exception declaration) = None
subtype_of_kind (entity.Subprogram number is_function specified formals unit) = None
subtype_of_kind (entity.Entry number unit formals) = None
subtype_of_kind entity.Label = None

abbrev pub subtype_of_item : Predefined → Option Subtype
subtype_of_item (items.Mark s) = Some s
subtype_of_item (items.Constant of_type value) = None
subtype_of_item (items.Truth b) = None
subtype_of_item (items.Exception raised) = None
subtype_of_item (items.Operation operation) = None

unfoldable pub subtype_denoted : Names → Denoted → Option Subtype
subtype_denoted n (denotes.Entity e) = and_then (kind_at n e) subtype_of_kind
subtype_denoted n (denotes.Unit u) = None
subtype_denoted n (denotes.Item u item) = subtype_of_item item

abbrev pub subtype_of_name : Names → Name → Option Subtype
subtype_of_name n name = and_then (denoted_by n name) (subtype_denoted n)

-- ---- names and their attributes

unfoldable pub attribute_value : Names → Name → Attribute → Option Value
attribute_value n name attribute.First = and_then (subtype_of_name n name) (λ s. low_of (range_named n s))
attribute_value n name attribute.Last = and_then (subtype_of_name n name) (λ s. high_of (range_named n s))
attribute_value n name attribute.Image = None
attribute_value n name attribute.Count = None
attribute_value n name attribute.Identity = None
attribute_value n name attribute.Access = None

unfoldable pub static_name : Names → Name → Option AttributeDesignator → Option Value
static_name n name None = and_then (denoted_by n name) (value_denoted n)
static_name n name (Some a) = attribute_value n name a.attribute

abbrev pub signed_literal : Sign → Option (List ℕ) → Option Value
signed_literal sign.Plus literal = None
signed_literal sign.Minus literal = and_then literal static_negative

abbrev pub static_form : Names → ExpressionForm Expression → Option Value
static_form n (form.Logical operator first others) = None
static_form n (form.Relational left place operator right) = None
static_form n (form.Adding first others) = None
static_form n (form.Signed place s operand) = signed_literal s (literal_of (out-Expression operand).form)
static_form n (form.Multiplying first others) = None
static_form n (form.Highest place operator operand) = None
static_form n (form.Number place literal) = static_literal literal
static_form n (form.Text place text) = None
static_form n (form.Null place) = None
static_form n (form.Bracketed place inner) = None
static_form n (form.Named name attribute arguments) = cond (is_empty arguments) (static_name n name attribute) None

-- the value of an expression that is static, given what its names denote
unfoldable pub static_value : Names → Expression → Option Value
static_value n e = static_form n (out-Expression e).form
