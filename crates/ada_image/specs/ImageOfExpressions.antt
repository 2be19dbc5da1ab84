-- Names and expressions (clause 4): brackets leave no trace, and a minus before a literal is part of its value.
use Rattle.std.specs.Prelude.{ℕ, suc, ◌+◌, ℤ, pos, Bool, true, false, cond, List, []}
use Rattle.std.specs.Prelude.{◌∷◌, Option, Some, None, option_map, unwrap_or, eqb, map}
use Rattle.std.specs.List.{list_any}
use Rattle.std.specs.Str.{bytes_eq}
use Rattle.ada_tree.specs.declared.names.Identifier.{Identifier}
use Rattle.ada_tree.specs.declared.names.Name.{Name}
use Rattle.ada_tree.specs.declared.names.OneOrMore.{OneOrMore}
use Rattle.ada_tree.specs.declared.operators.LogicalOperator.{LogicalOperator}
use Rattle.ada_tree.specs.declared.operators.LogicalOperator.TheVariants as logical
use Rattle.ada_tree.specs.declared.operators.RelationalOperator.{RelationalOperator}
use Rattle.ada_tree.specs.declared.operators.RelationalOperator.TheVariants as relational
use Rattle.ada_tree.specs.declared.operators.AddingOperator.{AddingOperator}
use Rattle.ada_tree.specs.declared.operators.AddingOperator.TheVariants as adding
use Rattle.ada_tree.specs.declared.operators.MultiplyingOperator.{MultiplyingOperator}
use Rattle.ada_tree.specs.declared.operators.MultiplyingOperator.TheVariants as multiplying
use Rattle.ada_tree.specs.declared.operators.Sign.{Sign}
use Rattle.ada_tree.specs.declared.operators.Sign.TheVariants as sign
use Rattle.ada_tree.specs.declared.operators.HighestOperator.{HighestOperator}
use Rattle.ada_tree.specs.declared.operators.HighestOperator.TheVariants as highest
use Rattle.ada_tree.specs.declared.operators.Attribute.{Attribute}
use Rattle.ada_tree.specs.declared.operators.Attribute.TheVariants as attribute
use Rattle.ada_tree.specs.declared.expressions.Expression.{Expression}
use Rattle.ada_tree.specs.declared.expressions.Expression.TheOpen.{Expression-F}
use Rattle.ada_tree.specs.declared.expressions.Expression.TheFolds.{fold-Expression}
use Rattle.ada_tree.specs.declared.expressions.ExpressionForm.{ExpressionForm}
use Rattle.ada_tree.specs.declared.expressions.ExpressionForm.TheVariants as form
use Rattle.ada_tree.specs.declared.expressions.Operand.{Operand}
use Rattle.ada_tree.specs.declared.expressions.Addend.{Addend}
use Rattle.ada_tree.specs.declared.expressions.Multiplied.{Multiplied}
use Rattle.ada_tree.specs.declared.expressions.Argument.{Argument}
use Rattle.ada_tree.specs.declared.expressions.AttributeDesignator.{AttributeDesignator}
use Rattle.profile_image.specs.declared.numbers.DeclNo.{DeclNo}
use Rattle.profile_image.specs.declared.numbers.ExprNo.{ExprNo}
use Rattle.profile_image.specs.declared.values.Value.{Value}
use Rattle.profile_image.specs.declared.values.Value.TheVariants as value
use Rattle.profile_image.specs.declared.expressions.Expression.{Expression as Valuation}
use Rattle.profile_image.specs.declared.expressions.Expression.TheVariants as valuation
use Rattle.profile_image.specs.declared.expressions.ObjectName.{ObjectName}
use Rattle.profile_image.specs.declared.expressions.ObjectName.TheVariants as object
use Rattle.profile_image.specs.declared.expressions.VariableName.{VariableName}
use Rattle.profile_image.specs.declared.expressions.UnaryOperator.{UnaryOperator}
use Rattle.profile_image.specs.declared.expressions.UnaryOperator.TheVariants as unary
use Rattle.profile_image.specs.declared.expressions.BinaryOperator.{BinaryOperator}
use Rattle.profile_image.specs.declared.expressions.BinaryOperator.TheVariants as binary
use Rattle.ada_regions.specs.declared.types.Subtype.{Subtype}
use Rattle.ada_regions.specs.declared.predefined.Operation.{Operation}
use Rattle.ada_regions.specs.declared.predefined.Operation.TheVariants as operations
use Rattle.ada_regions.specs.declared.predefined.Predefined.{Predefined}
use Rattle.ada_regions.specs.declared.predefined.Predefined.TheVariants as items
use Rattle.ada_regions.specs.declared.entities.Denoted.{Denoted}
use Rattle.ada_regions.specs.declared.entities.Denoted.TheVariants as denotes
use Rattle.ada_regions.specs.declared.entities.EntityKind.{EntityKind}
use Rattle.ada_regions.specs.declared.entities.EntityKind.TheVariants as entity
use Rattle.ada_regions.specs.declared.entities.ComponentOwner.{ComponentOwner}
use Rattle.ada_regions.specs.declared.entities.ComponentOwner.TheVariants as owner
use Rattle.ada_regions.specs.Words.{and_then}
use Rattle.ada_regions.specs.PredefinedUnits.{names_of_formals}
use Rattle.ada_regions.specs.declared.table.Names.{Names}
use Rattle.ada_regions.specs.Names.{denoted_by, kind_at, entity_denoted, entity_of}
use Rattle.ada_regions.specs.Statics.{literal_value, negated, attribute_value}
use Rattle.ada_image.specs.declared.making.Within.{Within}
use Rattle.ada_image.specs.Making.{Making, ◌>>=◌, pure, value_put, first_given}
use Rattle.ada_image.specs.Layout.{is_thing, subtype_is}

-- ---- operators (4.5)

abbrev pub logical_operator : LogicalOperator → BinaryOperator
logical_operator logical.And = binary.And
logical_operator logical.Or = binary.Or
logical_operator logical.Xor = binary.Xor
logical_operator logical.AndThen = binary.AndThen
logical_operator logical.OrElse = binary.OrElse

abbrev pub relational_operator : RelationalOperator → BinaryOperator
relational_operator relational.Equal = binary.Equal
relational_operator relational.NotEqual = binary.NotEqual
relational_operator relational.Less = binary.Less
relational_operator relational.LessOrEqual = binary.LessOrEqual
relational_operator relational.Greater = binary.Greater
relational_operator relational.GreaterOrEqual = binary.GreaterOrEqual

-- texts are joined in Put_Line alone, where no operator is left
abbrev pub adding_operator : AddingOperator → BinaryOperator
adding_operator adding.Plus = binary.Plus
adding_operator adding.Minus = binary.Minus
adding_operator adding.Concatenation = binary.Plus

abbrev pub multiplying_operator : MultiplyingOperator → BinaryOperator
multiplying_operator multiplying.Times = binary.Times
multiplying_operator multiplying.Divide = binary.Divide
multiplying_operator multiplying.Modulus = binary.Mod
multiplying_operator multiplying.Remainder = binary.Rem

abbrev pub highest_operator : HighestOperator → UnaryOperator
highest_operator highest.Absolute = unary.Abs
highest_operator highest.Not = unary.Not

-- ---- what an expression gives the image: its value where it is a numeric literal, its name where it is one in
-- brackets or
-- without, the number of its operator signs and calls of predefined functions (own), and how it is made

pub record ExpressionImage : Type 0 where
  pub literal : Option Value
  pub name : Option Name
  pub signs : Names → ℕ
  pub made : Within → Making ExprNo

-- ---- what names of objects denote

-- the part of a name before the last
abbrev pub before_last : Identifier → List Identifier → Option Identifier
before_last i [] = None
before_last i (j ∷ []) = Some i
before_last i (j ∷ k ∷ rest) = before_last j (k ∷ rest)

unfoldable pub prefix_part : Name → Option Identifier
prefix_part name = before_last name.parts.first name.parts.others

-- the number of an object, a parameter or a component
abbrev pub object_number : EntityKind → Option DeclNo
object_number entity.Package = None
object_number entity.Main = None
object_number (entity.Mark s) = None
object_number (entity.Literal enumeration position) = None
object_number (entity.Object s constant value declaration) = Some declaration
object_number (entity.Parameter s mode declaration) = declaration
object_number (entity.LoopParameter declaration) = None
object_number (entity.Component s owner declaration) = Some declaration
object_number (entity.Exception declaration) = None
object_number (entity.Subprogram number is_function specified formals unit) = None
object_number (entity.Entry number unit formals) = None
object_number entity.Label = None

abbrev pub is_around : Within → ℕ → Bool
is_around within e = list_any (eqb e) within.units

unfoldable pub object_outside : Within → ℕ → Option DeclNo
object_outside within e = cond (is_around within e) None (and_then (kind_at within.names e) object_number)

-- the object before the last part of a name; the unit in whose body the name stands is none, as in an expanded name
-- (4.1.3)
unfoldable pub object_before : Within → Name → Option DeclNo
object_before within name =
    and_then (prefix_part name) (λ i. and_then (entity_denoted within.names i.place) (object_outside within))

-- the same, where the unit counts too
unfoldable pub named_before : Within → Name → Option DeclNo
named_before within name =
    and_then (prefix_part name) (λ i. and_then (entity_denoted within.names i.place)
    (λ e. and_then (kind_at within.names e) object_number))

abbrev pub no_declaration_no : DeclNo
no_declaration_no = record { 0 = 0 }

unfoldable pub component_name : ComponentOwner → Option DeclNo → DeclNo → ObjectName
component_name (owner.Protected u) prefix d = object.OwnComponent u d
component_name (owner.Controlled c) prefix d = object.Component (unwrap_or prefix no_declaration_no) d

unfoldable pub object_of_kind : Within → Name → EntityKind → ObjectName
object_of_kind within name entity.Package = object.Declared no_declaration_no
object_of_kind within name entity.Main = object.Declared no_declaration_no
object_of_kind within name (entity.Mark s) = object.Declared no_declaration_no
object_of_kind within name (entity.Literal enumeration position) = object.Declared no_declaration_no
object_of_kind within name (entity.Object s constant value declaration) = object.Declared declaration
object_of_kind within name (entity.Parameter s mode declaration) =
    object.Declared (unwrap_or declaration no_declaration_no)
object_of_kind within name (entity.LoopParameter declaration) = object.Declared declaration
object_of_kind within name (entity.Component s o declaration) = component_name o (object_before within name) declaration
object_of_kind within name (entity.Exception declaration) = object.Declared no_declaration_no
object_of_kind within name (entity.Subprogram number is_function specified formals unit) =
    object.Declared no_declaration_no
object_of_kind within name (entity.Entry number unit formals) = object.Declared no_declaration_no
object_of_kind within name entity.Label = object.Declared no_declaration_no

unfoldable pub kind_named : Within → Name → Option EntityKind
kind_named within name = and_then (denoted_by within.names name) (λ d. and_then (entity_of d) (kind_at within.names))

unfoldable pub object_named : Within → Name → ObjectName
object_named within name =
    unwrap_or (option_map (object_of_kind within name) (kind_named within name)) (object.Declared no_declaration_no)

-- the object of an actual that stands for itself
unfoldable pub thing_named : Within → Name → DeclNo
thing_named within name = unwrap_or (and_then (kind_named within name) object_number) no_declaration_no

unfoldable pub thing_in : Within → Option Name → DeclNo
thing_in within name = unwrap_or (option_map (thing_named within) name) no_declaration_no

-- ---- variables: an object, or an element of an array by its index

unfoldable pub index_made : Option (Making ExprNo) → Making (Option ExprNo)
index_made None = pure None
index_made (Some m) = do
  e ← m
  pure (Some e)

unfoldable pub variable_made : Within → Name → Option (Making ExprNo) → Making VariableName
variable_made within name index = do
  i ← index_made index
  pure (record { object = object_named within name; index = i })

unfoldable pub variable_put : Within → Name → Option (Making ExprNo) → Making ExprNo
variable_put within name index = do
  v ← variable_made within name index
  value_put (valuation.Variable v)

-- ---- forms, given what the expressions in them give

abbrev pub known : Value → Making ExprNo
known v = value_put (valuation.Known v)

-- what no accepted source has there
abbrev pub no_value : Making ExprNo
no_value = known (value.Whole (pos 0))

unfoldable pub unary_made : UnaryOperator → Making ExprNo → Making ExprNo
unary_made operator operand = do
  e ← operand
  value_put (valuation.Unary operator e)

unfoldable pub binary_put : BinaryOperator → ExprNo → Making ExprNo → Making ExprNo
binary_put operator left right = do
  e ← right
  value_put (valuation.Binary operator left e)

unfoldable pub signed_made : Sign → Option Value → Making ExprNo → Making ExprNo
signed_made sign.Plus literal operand = unary_made unary.Plus operand
signed_made sign.Minus None operand = unary_made unary.Minus operand
signed_made sign.Minus (Some v) operand = known (negated v)

abbrev pub sign_counts : Sign → Option Value → ℕ
sign_counts sign.Plus literal = 1
sign_counts sign.Minus None = 1
sign_counts sign.Minus (Some v) = 0

unfoldable pub count_of : EntityKind → Making ExprNo
count_of (entity.Entry number unit formals) = value_put (valuation.Count number)
count_of _ = no_value

unfoldable pub count_made : Option EntityKind → Making ExprNo
count_made None = no_value
count_made (Some kind) = count_of kind

unfoldable pub attribute_made : Within → Name → Attribute → Making ExprNo
attribute_made within name attribute.First =
    known (unwrap_or (attribute_value within.names name attribute.First) (value.Whole (pos 0)))
attribute_made within name attribute.Last =
    known (unwrap_or (attribute_value within.names name attribute.Last) (value.Whole (pos 0)))
attribute_made within name attribute.Image = no_value
attribute_made within name attribute.Count = count_made (kind_named within name)
attribute_made within name attribute.Identity = value_put (valuation.Thing (thing_named within name))
attribute_made within name attribute.Access = no_value

-- an object by its name, or a value
unfoldable pub object_made : Within → Name → Option Subtype → DeclNo → Option (Making ExprNo) → Making ExprNo
object_made within name s d index =
    cond (subtype_is is_thing s) (value_put (valuation.Thing d)) (variable_put within name index)

unfoldable pub entity_made : Within → Name → Option (Making ExprNo) → EntityKind → Making ExprNo
entity_made within name index entity.Package = no_value
entity_made within name index entity.Main = no_value
entity_made within name index (entity.Mark s) = no_value
entity_made within name index (entity.Literal enumeration position) = known (value.Literal position)
entity_made within name index (entity.Object s constant value declaration) = object_made within name s declaration index
entity_made within name index (entity.Parameter s mode declaration) =
    object_made within name s (unwrap_or declaration no_declaration_no) index
entity_made within name index (entity.LoopParameter declaration) = variable_put within name index
entity_made within name index (entity.Component s owner declaration) = variable_put within name index
entity_made within name index (entity.Exception declaration) = no_value
entity_made within name index (entity.Subprogram number is_function specified formals unit) = no_value
entity_made within name index (entity.Entry number unit formals) = no_value
entity_made within name index entity.Label = no_value

-- an argument for the formal of this number and name (6.4.1)
abbrev pub is_for : ℕ → List ℕ → ℕ → Option Identifier → Bool
is_for number name at None = eqb at number
is_for number name at (Some formal) = bytes_eq formal.text name

module _ {E : Type 0} where
  unfoldable pub argument_from : ℕ → List ℕ → ℕ → List (Argument E) → Option E
  argument_from number name at [] = None
  argument_from number name at (a ∷ rest) =
      cond (is_for number name at a.formal) (Some a.value) (argument_from number name (suc at) rest)

  unfoldable pub arguments_from : ℕ → List (List ℕ) → List (Argument E) → List (Option E)
  arguments_from number [] arguments = []
  arguments_from number (name ∷ names) arguments = argument_from number name 0 arguments
      ∷ arguments_from (suc number) names arguments

  -- the actuals of formals with these names, in the order of the formals
  unfoldable pub actuals_for : List (List ℕ) → List (Argument E) → List (Option E)
  actuals_for names arguments = arguments_from 0 names arguments

  abbrev pub first_argument : List (Argument E) → Option E
  first_argument [] = None
  first_argument (a ∷ rest) = Some a.value

-- ---- predefined functions (D.2.6, D.5.1, D.8, D.14, D.15, C.7.1), given their actuals

unfoldable pub image_or_none : Option ExpressionImage → Within → Making ExprNo
image_or_none None within = no_value
image_or_none (Some e) within = e.made within

unfoldable pub optional_made : Option ExpressionImage → Within → Making (Option ExprNo)
optional_made None within = pure None
optional_made (Some e) within = do
  number ← e.made within
  pure (Some number)

unfoldable pub span_made : ℤ → Option ExpressionImage → Within → Making ExprNo
span_made ticks e within = do
  count ← image_or_none e within
  value_put (valuation.Span ticks count)

unfoldable pub same_ticks_made : Option ExpressionImage → Within → Making ExprNo
same_ticks_made e within = do
  span ← image_or_none e within
  value_put (valuation.SameTicks span)

unfoldable pub of_task_made : (Option ExprNo → Valuation) → Option ExpressionImage → Within → Making ExprNo
of_task_made f e within = do
  task ← optional_made e within
  value_put (f task)

unfoldable pub port_made : Option ExpressionImage → Within → Making ExprNo
port_made e within = do
  port ← image_or_none e within
  value_put (valuation.PortValue port)

abbrev pub name_in : Option ExpressionImage → Option Name
name_in e = and_then e (λ x. x.name)

unfoldable pub of_thing_made : (DeclNo → Valuation) → Option ExpressionImage → Within → Making ExprNo
of_thing_made f e within = value_put (f (thing_in within (name_in e)))

unfoldable pub function_made : Operation → List (Option ExpressionImage) → Within → Making ExprNo
function_made operations.PutLine es within = no_value
function_made operations.Clock es within = value_put valuation.Clock
function_made operations.Microseconds es within = span_made (pos 1) (first_given es) within
function_made operations.Milliseconds es within = span_made (pos 1000) (first_given es) within
function_made operations.Seconds es within = span_made (pos 1000000) (first_given es) within
function_made operations.Minutes es within = span_made (pos 60000000) (first_given es) within
function_made operations.ToDuration es within = same_ticks_made (first_given es) within
function_made operations.ToTimeSpan es within = same_ticks_made (first_given es) within
function_made operations.SetEvent es within = no_value
function_made operations.CancelEvent es within = no_value
function_made operations.TimeOfEvent es within = of_thing_made valuation.TimeOfEvent (first_given es) within
function_made operations.ExecutionClock es within = of_task_made valuation.ExecutionTime (first_given es) within
function_made operations.SetTimer es within = no_value
function_made operations.CancelTimer es within = no_value
function_made operations.TimeRemaining es within = of_thing_made valuation.TimeRemaining (first_given es) within
function_made operations.AddTask es within = no_value
function_made operations.RemoveTask es within = no_value
function_made operations.Replenish es within = no_value
function_made operations.Add es within = no_value
function_made operations.BudgetHasExpired es within = of_thing_made valuation.BudgetHasExpired (first_given es) within
function_made operations.BudgetRemaining es within = of_thing_made valuation.BudgetRemaining (first_given es) within
function_made operations.SetBudget es within = no_value
function_made operations.CancelBudget es within = no_value
function_made operations.SetPriority es within = no_value
function_made operations.GetPriority es within = of_task_made valuation.Priority (first_given es) within
function_made operations.CurrentTask es within = value_put valuation.CurrentTask
function_made operations.SetQuantum es within = no_value
function_made operations.SetDeadline es within = no_value
function_made operations.GetDeadline es within = of_task_made valuation.Deadline (first_given es) within
function_made operations.DelayUntilAndSetDeadline es within = no_value
function_made operations.PortValue es within = port_made (first_given es) within

abbrev pub is_operation : Predefined → Bool
is_operation (items.Mark s) = false
is_operation (items.Constant of_type value) = false
is_operation (items.Truth b) = false
is_operation (items.Exception raised) = false
is_operation (items.Operation operation) = true

unfoldable pub calls_predefined : Option Denoted → Bool
calls_predefined None = false
calls_predefined (Some (denotes.Entity e)) = false
calls_predefined (Some (denotes.Unit u)) = false
calls_predefined (Some (denotes.Item u item)) = is_operation item

-- ---- all forms

module _ {E : Type 0} (expression : E → ExpressionImage) where
  abbrev pub image_for : Option E → Option ExpressionImage
  image_for e = option_map expression e

  abbrev pub images_for : List (Option E) → List (Option ExpressionImage)
  images_for es = map image_for es

  unfoldable pub item_made : Predefined → List (Argument E) → Within → Making ExprNo
  item_made (items.Mark s) arguments within = no_value
  item_made (items.Constant of_type v) arguments within = known v
  item_made (items.Truth b) arguments within = known (value.Truth b)
  item_made (items.Exception raised) arguments within = no_value
  item_made (items.Operation operation) arguments within =
      function_made operation (images_for (actuals_for (names_of_formals operation) arguments)) within

  -- an element's index is its one argument (4.1.1)
  abbrev pub index_in : List (Argument E) → Within → Option (Making ExprNo)
  index_in arguments within = option_map (λ e. (expression e).made within) (first_argument arguments)

  unfoldable pub denoted_made : Name → List (Argument E) → Within → Option Denoted → Making ExprNo
  denoted_made name arguments within None = no_value
  denoted_made name arguments within (Some (denotes.Entity e)) =
      unwrap_or (option_map (entity_made within name (index_in arguments within)) (kind_at within.names e)) no_value
  denoted_made name arguments within (Some (denotes.Unit u)) = no_value
  denoted_made name arguments within (Some (denotes.Item u item)) = item_made item arguments within

  unfoldable pub named_made : Name → Option AttributeDesignator → List (Argument E) → Within → Making ExprNo
  named_made name None arguments within = denoted_made name arguments within (denoted_by within.names name)
  named_made name (Some a) arguments within = attribute_made within name a.attribute

  unfoldable pub signs_in_arguments : List (Argument E) → Names → ℕ
  signs_in_arguments [] n = 0
  signs_in_arguments (a ∷ rest) n = (expression a.value).signs n + signs_in_arguments rest n

  unfoldable pub call_counts : Option AttributeDesignator → Option Denoted → ℕ
  call_counts None d = cond (calls_predefined d) 1 0
  call_counts (Some a) d = 0

  unfoldable pub signs_in_operands : List (Operand E) → Names → ℕ
  signs_in_operands [] n = 0
  signs_in_operands (o ∷ os) n = suc ((expression o.relation).signs n + signs_in_operands os n)

  unfoldable pub signs_in_addends : List (Addend E) → Names → ℕ
  signs_in_addends [] n = 0
  signs_in_addends (a ∷ rest) n = suc ((expression a.term).signs n + signs_in_addends rest n)

  unfoldable pub signs_in_factors : List (Multiplied E) → Names → ℕ
  signs_in_factors [] n = 0
  signs_in_factors (m ∷ rest) n = suc ((expression m.factor).signs n + signs_in_factors rest n)

  -- operators of one level, from left to right
  unfoldable pub operands_made : BinaryOperator → ExprNo → List (Operand E) → Within → Making ExprNo
  operands_made operator left [] within = pure left
  operands_made operator left (o ∷ os) within = do
    e ← binary_put operator left ((expression o.relation).made within)
    operands_made operator e os within

  unfoldable pub addends_made : ExprNo → List (Addend E) → Within → Making ExprNo
  addends_made left [] within = pure left
  addends_made left (a ∷ rest) within = do
    e ← binary_put (adding_operator a.operator) left ((expression a.term).made within)
    addends_made e rest within

  unfoldable pub factors_made : ExprNo → List (Multiplied E) → Within → Making ExprNo
  factors_made left [] within = pure left
  factors_made left (m ∷ rest) within = do
    e ← binary_put (multiplying_operator m.operator) left ((expression m.factor).made within)
    factors_made e rest within

  unfoldable pub logical_made : LogicalOperator → E → OneOrMore (Operand E) → Within → Making ExprNo
  logical_made operator first others within = do
    left ← (expression first).made within
    operands_made (logical_operator operator) left (others.first ∷ others.others) within

  unfoldable pub relational_made : E → RelationalOperator → E → Within → Making ExprNo
  relational_made first operator second within = do
    left ← (expression first).made within
    binary_put (relational_operator operator) left ((expression second).made within)

  unfoldable pub adding_made : E → OneOrMore (Addend E) → Within → Making ExprNo
  adding_made first others within = do
    left ← (expression first).made within
    addends_made left (others.first ∷ others.others) within

  unfoldable pub multiplying_made : E → OneOrMore (Multiplied E) → Within → Making ExprNo
  multiplying_made first others within = do
    left ← (expression first).made within
    factors_made left (others.first ∷ others.others) within

  abbrev pub form_image : ExpressionForm E → ExpressionImage
  form_image (form.Logical operator first others) = record {
    literal = None;
    name = None;
    signs = λ n. (expression first).signs n + signs_in_operands (others.first ∷ others.others) n;
    made = logical_made operator first others;
  }
  form_image (form.Relational left place operator right) = record {
    literal = None;
    name = None;
    signs = λ n. suc ((expression left).signs n + (expression right).signs n);
    made = relational_made left operator right;
  }
  form_image (form.Adding first others) = record {
    literal = None;
    name = None;
    signs = λ n. (expression first).signs n + signs_in_addends (others.first ∷ others.others) n;
    made = adding_made first others;
  }
  form_image (form.Signed place s operand) = record {
    literal = None;
    name = None;
    signs = λ n. sign_counts s (expression operand).literal + (expression operand).signs n;
    made = λ within. signed_made s (expression operand).literal ((expression operand).made within);
  }
  form_image (form.Multiplying first others) = record {
    literal = None;
    name = None;
    signs = λ n. (expression first).signs n + signs_in_factors (others.first ∷ others.others) n;
    made = multiplying_made first others;
  }
  form_image (form.Highest place operator operand) = record {
    literal = None;
    name = None;
    signs = λ n. suc ((expression operand).signs n);
    made = λ within. unary_made (highest_operator operator) ((expression operand).made within);
  }
  form_image (form.Number place literal) = record {
    literal = Some (literal_value literal);
    name = None;
    signs = λ n. 0;
    made = λ within. known (literal_value literal);
  }
  form_image (form.Text place text) = record { literal = None; name = None; signs = λ n. 0; made = λ within. no_value }
  form_image (form.Null place) = record { literal = None; name = None; signs = λ n. 0; made = λ within. no_value }
  form_image (form.Bracketed place inner) = record {
    literal = None;
    name = (expression inner).name;
    signs = (expression inner).signs;
    made = (expression inner).made;
  }
  form_image (form.Named name a arguments) = record {
    literal = None;
    name = Some name;
    signs = λ n. call_counts a (denoted_by n name) + signs_in_arguments arguments n;
    made = named_made name a arguments;
  }

abbrev pub same_image : ExpressionImage → ExpressionImage
same_image image = image

abbrev pub image_layer : Expression-F ExpressionImage → ExpressionImage
image_layer e = form_image same_image e.form

abbrev pub expression_image : Expression → ExpressionImage
expression_image = fold-Expression ExpressionImage image_layer

unfoldable pub expression_made : Expression → Within → Making ExprNo
expression_made e within = (expression_image e).made within

-- the value of an expression that may be missing
unfoldable pub optional_value : Within → Option Expression → Making (Option ExprNo)
optional_value within None = pure None
optional_value within (Some e) = do
  x ← expression_made e within
  pure (Some x)

unfoldable pub signs_in : Within → Expression → ℕ
signs_in within e = (expression_image e).signs within.names

unfoldable pub signs_if : Within → Option Expression → ℕ
signs_if within None = 0
signs_if within (Some e) = signs_in within e
