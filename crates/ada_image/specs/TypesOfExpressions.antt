-- The type of an expression (clause 4), from its parts alone: no name is overloaded. Set_Handler asks for it, since a
-- span and a moment mean different things there (D.14.1, D.15).
use Rattle.std.specs.Prelude.{Bool, true, false, cond, List, [], ◌∷◌, Option}
use Rattle.std.specs.Prelude.{Some, None, option_map, unwrap_or, slice_get, not}
use Rattle.ada_tree.specs.declared.names.Name.{Name}
use Rattle.ada_tree.specs.declared.operators.AddingOperator.{AddingOperator}
use Rattle.ada_tree.specs.declared.operators.AddingOperator.TheVariants as adding
use Rattle.ada_tree.specs.declared.operators.HighestOperator.{HighestOperator}
use Rattle.ada_tree.specs.declared.operators.HighestOperator.TheVariants as highest
use Rattle.ada_tree.specs.declared.operators.Attribute.{Attribute}
use Rattle.ada_tree.specs.declared.operators.Attribute.TheVariants as attribute
use Rattle.ada_tree.specs.declared.expressions.Expression.{Expression}
use Rattle.ada_tree.specs.declared.expressions.Expression.TheOpen.{Expression-F}
use Rattle.ada_tree.specs.declared.expressions.Expression.TheFolds.{fold-Expression}
use Rattle.ada_tree.specs.declared.expressions.ExpressionForm.{ExpressionForm}
use Rattle.ada_tree.specs.declared.expressions.ExpressionForm.TheVariants as form
use Rattle.ada_tree.specs.declared.expressions.Addend.{Addend}
use Rattle.ada_tree.specs.declared.expressions.Multiplied.{Multiplied}
use Rattle.ada_tree.specs.declared.expressions.Argument.{Argument}
use Rattle.ada_tree.specs.declared.expressions.AttributeDesignator.{AttributeDesignator}
use Rattle.ada_lex.specs.Meaning.{decimals_of}
use Rattle.ada_regions.specs.declared.types.AdaType.{AdaType}
use Rattle.ada_regions.specs.declared.types.AdaType.TheVariants as types
use Rattle.ada_regions.specs.declared.types.Subtype.{Subtype}
use Rattle.ada_regions.specs.declared.predefined.Operation.{Operation}
use Rattle.ada_regions.specs.declared.predefined.Operation.TheVariants as operations
use Rattle.ada_regions.specs.declared.predefined.Predefined.{Predefined}
use Rattle.ada_regions.specs.declared.predefined.Predefined.TheVariants as items
use Rattle.ada_regions.specs.declared.entities.Denoted.{Denoted}
use Rattle.ada_regions.specs.declared.entities.Denoted.TheVariants as denotes
use Rattle.ada_regions.specs.declared.entities.EntityKind.{EntityKind}
use Rattle.ada_regions.specs.declared.entities.EntityKind.TheVariants as entity
use Rattle.ada_regions.specs.Words.{and_then}
use Rattle.ann_base.specs.Lists.{is_empty}
use Rattle.ada_regions.specs.declared.table.Names.{Names}
use Rattle.ada_regions.specs.declared.table.NumberedSubprogram.{NumberedSubprogram}
use Rattle.ada_regions.specs.Names.{denoted_by, kind_at}
use Rattle.ada_regions.specs.TypeKinds.{is_span_type}
use Rattle.ada_image.specs.Layout.{array_of}

abbrev pub type_of_subtype : Option Subtype → Option AdaType
type_of_subtype s = option_map (λ t. t.of_type) s

-- the type of an element, where an index stands behind an array
unfoldable pub indexed : Names → Bool → Option Subtype → Option AdaType
indexed n false s = type_of_subtype s
indexed n true s = and_then s (λ t. and_then (array_of n t.of_type) (λ a. type_of_subtype a.component))

unfoldable pub type_of_result : Option NumberedSubprogram → Option AdaType
type_of_result None = None
type_of_result (Some s) = and_then s.result type_of_subtype

unfoldable pub type_of_kind : Names → Bool → EntityKind → Option AdaType
type_of_kind n has_index entity.Package = None
type_of_kind n has_index entity.Main = None
type_of_kind n has_index (entity.Mark s) = None
type_of_kind n has_index (entity.Literal enumeration position) = Some (types.Enumeration enumeration)
type_of_kind n has_index (entity.Object s constant value declaration) = indexed n has_index s
type_of_kind n has_index (entity.Parameter s mode declaration) = indexed n has_index s
type_of_kind n has_index (entity.LoopParameter declaration) = Some types.Integer
type_of_kind n has_index (entity.Component s owner declaration) = indexed n has_index s
type_of_kind n has_index (entity.Exception declaration) = None
type_of_kind n has_index (entity.Subprogram number is_function specified formals unit) =
    type_of_result (slice_get n.subprograms number.0)
type_of_kind n has_index (entity.Entry number unit formals) = None
type_of_kind n has_index entity.Label = None

abbrev pub type_of_operation : Operation → Option AdaType
type_of_operation operations.PutLine = None
type_of_operation operations.Clock = Some types.Time
type_of_operation operations.Microseconds = Some types.TimeSpan
type_of_operation operations.Milliseconds = Some types.TimeSpan
type_of_operation operations.Seconds = Some types.TimeSpan
type_of_operation operations.Minutes = Some types.TimeSpan
type_of_operation operations.ToDuration = Some types.Duration
type_of_operation operations.ToTimeSpan = Some types.TimeSpan
type_of_operation operations.SetEvent = None
type_of_operation operations.CancelEvent = None
type_of_operation operations.TimeOfEvent = Some types.Time
type_of_operation operations.ExecutionClock = Some types.CpuTime
type_of_operation operations.SetTimer = None
type_of_operation operations.CancelTimer = None
type_of_operation operations.TimeRemaining = Some types.TimeSpan
type_of_operation operations.AddTask = None
type_of_operation operations.RemoveTask = None
type_of_operation operations.Replenish = None
type_of_operation operations.Add = None
type_of_operation operations.BudgetHasExpired = Some types.Boolean
type_of_operation operations.BudgetRemaining = Some types.TimeSpan
type_of_operation operations.SetBudget = None
type_of_operation operations.CancelBudget = None
type_of_operation operations.SetPriority = None
type_of_operation operations.GetPriority = Some types.Integer
type_of_operation operations.CurrentTask = Some types.TaskId
type_of_operation operations.SetQuantum = None
type_of_operation operations.SetDeadline = None
type_of_operation operations.GetDeadline = Some types.Time
type_of_operation operations.DelayUntilAndSetDeadline = None
type_of_operation operations.PortValue = Some types.Integer

unfoldable pub type_of_item : Predefined → Option AdaType
type_of_item (items.Mark s) = None
type_of_item (items.Constant of_type v) = Some of_type
type_of_item (items.Truth b) = Some types.Boolean
type_of_item (items.Exception raised) = None
type_of_item (items.Operation operation) = type_of_operation operation

unfoldable pub type_denoted : Names → Bool → Denoted → Option AdaType
type_denoted n has_index (denotes.Entity e) = and_then (kind_at n e) (type_of_kind n has_index)
type_denoted n has_index (denotes.Unit u) = None
type_denoted n has_index (denotes.Item u item) = type_of_item item

-- ---- operators (4.5, D.8): a moment and a span make a moment, two moments a span

unfoldable pub type_of_sum : Option AdaType → AddingOperator → Option AdaType → Option AdaType
type_of_sum (Some types.TimeSpan) operator (Some types.Time) = Some types.Time
type_of_sum (Some types.TimeSpan) operator (Some types.CpuTime) = Some types.CpuTime
type_of_sum (Some types.Time) adding.Minus (Some types.Time) = Some types.TimeSpan
type_of_sum (Some types.CpuTime) adding.Minus (Some types.CpuTime) = Some types.TimeSpan
type_of_sum left operator right = left

-- an Integer times something is of the other's type
unfoldable pub type_of_product : Option AdaType → Option AdaType → Option AdaType
type_of_product (Some types.Integer) right = right
type_of_product left right = left

abbrev pub type_behind_operator : HighestOperator → Option AdaType → Option AdaType
type_behind_operator highest.Absolute t = t
type_behind_operator highest.Not t = Some types.Boolean

abbrev pub type_of_attribute : Attribute → Option AdaType
type_of_attribute attribute.First = Some types.Integer
type_of_attribute attribute.Last = Some types.Integer
type_of_attribute attribute.Image = None
type_of_attribute attribute.Count = Some types.Integer
type_of_attribute attribute.Identity = Some types.TaskId
type_of_attribute attribute.Access = None

module _ {E : Type 0} (expression : E → Names → Option AdaType) where
  unfoldable pub type_of_addends : Option AdaType → List (Addend E) → Names → Option AdaType
  type_of_addends left [] n = left
  type_of_addends left (a ∷ rest) n = type_of_addends (type_of_sum left a.operator (expression a.term n)) rest n

  unfoldable pub type_of_factors : Option AdaType → List (Multiplied E) → Names → Option AdaType
  type_of_factors left [] n = left
  type_of_factors left (m ∷ rest) n = type_of_factors (type_of_product left (expression m.factor n)) rest n

  unfoldable pub type_of_named : Name → Option AttributeDesignator → List (Argument E) → Names → Option AdaType
  type_of_named name None arguments n = and_then (denoted_by n name) (type_denoted n (not (is_empty arguments)))
  type_of_named name (Some a) arguments n = type_of_attribute a.attribute

  abbrev pub type_of_form : ExpressionForm E → Names → Option AdaType
  type_of_form (form.Logical operator first others) n = Some types.Boolean
  type_of_form (form.Relational left place operator right) n = Some types.Boolean
  type_of_form (form.Adding first others) n = type_of_addends (expression first n) (others.first ∷ others.others) n
  type_of_form (form.Signed place s operand) n = expression operand n
  type_of_form (form.Multiplying first others) n = type_of_factors (expression first n) (others.first ∷ others.others) n
  type_of_form (form.Highest place operator operand) n = type_behind_operator operator (expression operand n)
  type_of_form (form.Number place literal) n =
      cond (is_empty (decimals_of literal)) (Some types.Integer) (Some types.Duration)
  type_of_form (form.Text place text) n = None
  type_of_form (form.Null place) n = None
  type_of_form (form.Bracketed place inner) n = expression inner n
  type_of_form (form.Named name a arguments) n = type_of_named name a arguments n

abbrev pub Typing : Type 0
Typing = Names → Option AdaType

abbrev pub same_typing : Typing → Typing
same_typing t = t

abbrev pub typing_layer : Expression-F Typing → Typing
typing_layer e = type_of_form same_typing e.form

unfoldable pub type_of_expression : Expression → Typing
type_of_expression = fold-Expression Typing typing_layer

unfoldable pub is_span : Names → Expression → Bool
is_span n e = unwrap_or (option_map is_span_type (type_of_expression e n)) false
