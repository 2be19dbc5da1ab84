-- Reading an image back: whether what stands at a number of its expressions is an expression of the text, with the same
-- operators, operands and names (clause 4).
use Rattle.std.specs.Prelude.{ℕ, pos, Bool, true, false, cond, ◌&&◌, List, []}
use Rattle.std.specs.Prelude.{◌∷◌, Option, Some, None, option_map, unwrap_or, eqb}
use Rattle.ada_tree.specs.declared.names.Name.{Name}
use Rattle.ada_tree.specs.declared.operators.Sign.{Sign}
use Rattle.ada_tree.specs.declared.operators.Sign.TheVariants as sign
use Rattle.ada_tree.specs.declared.operators.Attribute.{Attribute}
use Rattle.ada_tree.specs.declared.operators.Attribute.TheVariants as attribute
use Rattle.ada_tree.specs.declared.expressions.Expression.{Expression}
use Rattle.ada_tree.specs.declared.expressions.Expression.TheOpen.{Expression-F}
use Rattle.ada_tree.specs.declared.expressions.Expression.TheFolds.{fold-Expression}
use Rattle.ada_tree.specs.declared.expressions.ExpressionForm.{ExpressionForm}
use Rattle.ada_tree.specs.declared.expressions.ExpressionForm.TheVariants as form
use Rattle.ada_tree.specs.declared.expressions.Operand.{Operand}
use Rattle.ada_tree.specs.declared.expressions.Addend.{Addend}
use Rattle.ada_tree.specs.declared.expressions.Multiplied.{Multiplied}
use Rattle.ada_tree.specs.declared.expressions.Argument.{Argument}
use Rattle.ada_tree.specs.declared.expressions.AttributeDesignator.{AttributeDesignator}
use Rattle.profile_image.specs.declared.image.Image.{Image}
use Rattle.profile_image.specs.declared.numbers.DeclNo.{DeclNo}
use Rattle.profile_image.specs.declared.numbers.ExprNo.{ExprNo}
use Rattle.profile_image.specs.declared.values.Value.{Value}
use Rattle.profile_image.specs.declared.values.Value.TheVariants as value
use Rattle.profile_image.specs.declared.expressions.Expression.{Expression as Valuation}
use Rattle.profile_image.specs.declared.expressions.Expression.TheVariants as valuation
use Rattle.profile_image.specs.declared.expressions.ObjectName.{ObjectName}
use Rattle.profile_image.specs.declared.expressions.ObjectName.TheVariants as object
use Rattle.profile_image.specs.declared.expressions.VariableName.{VariableName}
use Rattle.profile_image.specs.declared.expressions.UnaryOperator.{UnaryOperator}
use Rattle.profile_image.specs.declared.expressions.UnaryOperator.TheVariants as unary
use Rattle.profile_image.specs.declared.expressions.BinaryOperator.{BinaryOperator}
use Rattle.profile_image.specs.declared.expressions.BinaryOperator.TheVariants as binary
use Rattle.profile_image.specs.Program.{expression_of}
use Rattle.profile_image.specs.Words.{same_number, same_bool}
use Rattle.ada_regions.specs.declared.types.Subtype.{Subtype}
use Rattle.ada_regions.specs.declared.predefined.Operation.{Operation}
use Rattle.ada_regions.specs.declared.predefined.Operation.TheVariants as operations
use Rattle.ada_regions.specs.declared.predefined.Predefined.{Predefined}
use Rattle.ada_regions.specs.declared.predefined.Predefined.TheVariants as items
use Rattle.ada_regions.specs.declared.entities.Denoted.{Denoted}
use Rattle.ada_regions.specs.declared.entities.Denoted.TheVariants as denotes
use Rattle.ada_regions.specs.declared.entities.EntityKind.{EntityKind}
use Rattle.ada_regions.specs.declared.entities.EntityKind.TheVariants as entity
use Rattle.ada_regions.specs.Words.{and_then}
use Rattle.ada_regions.specs.PredefinedUnits.{names_of_formals}
use Rattle.ada_regions.specs.Names.{denoted_by, kind_at}
use Rattle.ada_regions.specs.Statics.{literal_value, negated, attribute_value}
use Rattle.ada_image.specs.declared.making.Within.{Within}
use Rattle.ada_image.specs.Layout.{is_thing, subtype_is}
use Rattle.ada_image.specs.ImageOfExpressions.{logical_operator, relational_operator, adding_operator}
use Rattle.ada_image.specs.ImageOfExpressions.{multiplying_operator, highest_operator, object_named}
use Rattle.ada_image.specs.ImageOfExpressions.{thing_named, thing_in, kind_named, actuals_for, first_argument}

-- ---- the same thing

abbrev pub same_decl : DeclNo → DeclNo → Bool
same_decl a b = eqb a.0 b.0

abbrev pub same_object : ObjectName → ObjectName → Bool
same_object (object.Declared a) (object.Declared b) = same_decl a b
same_object (object.OwnComponent u a) (object.OwnComponent v b) = eqb u.0 v.0 && same_decl a b
same_object (object.Component o a) (object.Component p b) = same_decl o p && same_decl a b
same_object _ _ = false

-- a value that a text gives is no task of a run, and no thing
abbrev pub is_value : Value → Value → Bool
is_value (value.Whole a) (value.Whole b) = same_number a b
is_value (value.Truth a) (value.Truth b) = same_bool a b
is_value (value.Literal a) (value.Literal b) = eqb a b
is_value (value.Ticks a) (value.Ticks b) = same_number a b
is_value (value.Task None) (value.Task None) = true
is_value _ _ = false

abbrev pub unary_number : UnaryOperator → ℕ
unary_number unary.Plus = 0
unary_number unary.Minus = 1
unary_number unary.Abs = 2
unary_number unary.Not = 3

abbrev pub binary_number : BinaryOperator → ℕ
binary_number binary.And = 0
binary_number binary.Or = 1
binary_number binary.Xor = 2
binary_number binary.AndThen = 3
binary_number binary.OrElse = 4
binary_number binary.Equal = 5
binary_number binary.NotEqual = 6
binary_number binary.Less = 7
binary_number binary.LessOrEqual = 8
binary_number binary.Greater = 9
binary_number binary.GreaterOrEqual = 10
binary_number binary.Plus = 11
binary_number binary.Minus = 12
binary_number binary.Times = 13
binary_number binary.Divide = 14
binary_number binary.Mod = 15
binary_number binary.Rem = 16

-- ---- an expression of the text stands at a number

-- Whether it stands at a number; its value where it is a numeric literal, and its name.
pub record ExpressionReading : Type 0 where
  pub literal : Option Value
  pub name : Option Name
  pub stands : Within → ExprNo → Bool

abbrev pub Standing : Type 0
Standing = Within → ExprNo → Bool

module _ (p : Image) where
  abbrev pub at_number : ExprNo → Valuation
  at_number e = expression_of p.expressions e

  abbrev pub is_known : Value → Valuation → Bool
  is_known v (valuation.Known w) = is_value v w
  is_known v _ = false

  abbrev pub is_unary : UnaryOperator → (ExprNo → Bool) → Valuation → Bool
  is_unary operator operand (valuation.Unary o e) = eqb (unary_number o) (unary_number operator) && operand e
  is_unary operator operand _ = false

  abbrev pub is_binary : BinaryOperator → (ExprNo → Bool) → (ExprNo → Bool) → Valuation → Bool
  is_binary operator left right (valuation.Binary o a b) = eqb (binary_number o) (binary_number operator)
      && (left a && right b)
  is_binary operator left right _ = false

  -- an index stands there exactly where the text has one
  abbrev pub index_stands : Option (ExprNo → Bool) → Option ExprNo → Bool
  index_stands None None = true
  index_stands None (Some e) = false
  index_stands (Some index) None = false
  index_stands (Some index) (Some e) = index e

  abbrev pub is_variable : Within → Name → Option (ExprNo → Bool) → VariableName → Bool
  is_variable within name index v = same_object v.object (object_named within name) && index_stands index v.index

  abbrev pub is_variable_at : Within → Name → Option (ExprNo → Bool) → Valuation → Bool
  is_variable_at within name index (valuation.Variable v) = is_variable within name index v
  is_variable_at within name index _ = false

  abbrev pub is_thing_at : DeclNo → Valuation → Bool
  is_thing_at d (valuation.Thing e) = same_decl d e
  is_thing_at d _ = false

  abbrev pub object_stands : Within → Name → Option Subtype → Option DeclNo → Option (ExprNo → Bool) → Valuation → Bool
  object_stands within name s d index v =
      cond (subtype_is is_thing s) (unwrap_or (option_map (λ x. is_thing_at x v) d) false)
      (is_variable_at within name index v)

  abbrev pub entity_stands : Within → Name → Option (ExprNo → Bool) → EntityKind → Valuation → Bool
  entity_stands within name index (entity.Literal enumeration position) v = is_known (value.Literal position) v
  entity_stands within name index (entity.Object s constant x declaration) v =
      object_stands within name s (Some declaration) index v
  entity_stands within name index (entity.Parameter s mode declaration) v =
      object_stands within name s declaration index v
  entity_stands within name index (entity.LoopParameter declaration) v = is_variable_at within name index v
  entity_stands within name index (entity.Component s owner declaration) v = is_variable_at within name index v
  entity_stands within name index _ v = false

  abbrev pub is_count_of : Option EntityKind → Valuation → Bool
  is_count_of (Some (entity.Entry number unit formals)) (valuation.Count e) = eqb number.0 e.0
  is_count_of _ _ = false

  abbrev pub is_known_if : Option Value → Valuation → Bool
  is_known_if None v = false
  is_known_if (Some x) v = is_known x v

  abbrev pub attribute_stands : Within → Name → Attribute → Valuation → Bool
  attribute_stands within name attribute.First v = is_known_if (attribute_value within.names name attribute.First) v
  attribute_stands within name attribute.Last v = is_known_if (attribute_value within.names name attribute.Last) v
  attribute_stands within name attribute.Image v = false
  attribute_stands within name attribute.Count v = is_count_of (kind_named within name) v
  attribute_stands within name attribute.Identity v = is_thing_at (thing_named within name) v
  attribute_stands within name attribute.Access v = false

  -- ---- calls of predefined functions, given their actuals

  abbrev pub actual_stands : Option ExpressionReading → Within → ExprNo → Bool
  actual_stands None within e = false
  actual_stands (Some x) within e = x.stands within e

  abbrev pub optional_stands : Option ExpressionReading → Within → Option ExprNo → Bool
  optional_stands None within None = true
  optional_stands None within (Some e) = false
  optional_stands (Some x) within None = false
  optional_stands (Some x) within (Some e) = x.stands within e

  abbrev pub actual_thing : Within → Option ExpressionReading → DeclNo
  actual_thing within e = thing_in within (and_then e (λ x. x.name))

  abbrev pub function_stands : Operation → Option ExpressionReading → Within → Valuation → Bool
  function_stands operations.Clock e within valuation.Clock = true
  function_stands operations.Microseconds e within (valuation.Span ticks count) = same_number ticks (pos 1)
      && actual_stands e within count
  function_stands operations.Milliseconds e within (valuation.Span ticks count) = same_number ticks (pos 1000)
      && actual_stands e within count
  function_stands operations.Seconds e within (valuation.Span ticks count) = same_number ticks (pos 1000000)
      && actual_stands e within count
  function_stands operations.Minutes e within (valuation.Span ticks count) = same_number ticks (pos 60000000)
      && actual_stands e within count
  function_stands operations.ToDuration e within (valuation.SameTicks x) = actual_stands e within x
  function_stands operations.ToTimeSpan e within (valuation.SameTicks x) = actual_stands e within x
  function_stands operations.CurrentTask e within valuation.CurrentTask = true
  function_stands operations.ExecutionClock e within (valuation.ExecutionTime task) = optional_stands e within task
  function_stands operations.GetPriority e within (valuation.Priority task) = optional_stands e within task
  function_stands operations.GetDeadline e within (valuation.Deadline task) = optional_stands e within task
  function_stands operations.TimeOfEvent e within (valuation.TimeOfEvent d) = same_decl d (actual_thing within e)
  function_stands operations.TimeRemaining e within (valuation.TimeRemaining d) = same_decl d (actual_thing within e)
  function_stands operations.BudgetHasExpired e within (valuation.BudgetHasExpired d) =
      same_decl d (actual_thing within e)
  function_stands operations.BudgetRemaining e within (valuation.BudgetRemaining d) =
      same_decl d (actual_thing within e)
  function_stands operations.PortValue e within (valuation.PortValue x) = actual_stands e within x
  function_stands _ e within _ = false

  -- ---- forms, given those of the expressions in them

  module _ {E : Type 0} (expression : E → ExpressionReading) where
    abbrev pub reading_if : Option E → Option ExpressionReading
    reading_if e = option_map expression e

    abbrev pub first_of_actuals : List (Option E) → Option ExpressionReading
    first_of_actuals [] = None
    first_of_actuals (e ∷ es) = reading_if e

    abbrev pub item_stands : Predefined → List (Argument E) → Within → Valuation → Bool
    item_stands (items.Mark s) arguments within v = false
    item_stands (items.Constant of_type x) arguments within v = is_known x v
    item_stands (items.Truth b) arguments within v = is_known (value.Truth b) v
    item_stands (items.Exception raised) arguments within v = false
    item_stands (items.Operation o) arguments within v =
        function_stands o (first_of_actuals (actuals_for (names_of_formals o) arguments)) within v

    abbrev pub index_of : List (Argument E) → Within → Option (ExprNo → Bool)
    index_of arguments within = option_map (λ e. (expression e).stands within) (first_argument arguments)

    abbrev pub denoted_stands : Name → List (Argument E) → Within → Option Denoted → Valuation → Bool
    denoted_stands name arguments within None v = false
    denoted_stands name arguments within (Some (denotes.Entity e)) v =
        unwrap_or (option_map (λ kind. entity_stands within name (index_of arguments within) kind v)
        (kind_at within.names e)) false
    denoted_stands name arguments within (Some (denotes.Unit u)) v = false
    denoted_stands name arguments within (Some (denotes.Item u item)) v = item_stands item arguments within v

    abbrev pub named_stands : Name → Option AttributeDesignator → List (Argument E) → Within → Valuation → Bool
    named_stands name None arguments within v = denoted_stands name arguments within (denoted_by within.names name) v
    named_stands name (Some a) arguments within v = attribute_stands within name a.attribute v

    abbrev pub operands_stand : BinaryOperator → Standing → List (Operand E) → Standing
    operands_stand operator left [] within e = left within e
    operands_stand operator left (o ∷ os) within e =
        operands_stand operator (λ w x. is_binary operator (left w) ((expression o.relation).stands w)
        (at_number x)) os within e

    abbrev pub addends_stand : Standing → List (Addend E) → Standing
    addends_stand left [] within e = left within e
    addends_stand left (a ∷ rest) within e =
        addends_stand (λ w x. is_binary (adding_operator a.operator) (left w) ((expression a.term).stands w)
        (at_number x)) rest within e

    abbrev pub factors_stand : Standing → List (Multiplied E) → Standing
    factors_stand left [] within e = left within e
    factors_stand left (m ∷ rest) within e =
        factors_stand (λ w x. is_binary (multiplying_operator m.operator) (left w) ((expression m.factor).stands w)
        (at_number x)) rest within e

    abbrev pub signed_stands : Sign → Option Value → Standing → Standing
    signed_stands sign.Plus literal operand within e = is_unary unary.Plus (operand within) (at_number e)
    signed_stands sign.Minus None operand within e = is_unary unary.Minus (operand within) (at_number e)
    signed_stands sign.Minus (Some v) operand within e = is_known (negated v) (at_number e)

    abbrev pub reading_with : Standing → ExpressionReading
    reading_with stands = record { literal = None; name = None; stands = stands }

    abbrev pub nowhere : Standing
    nowhere within e = false

    abbrev pub form_reading : ExpressionForm E → ExpressionReading
    form_reading (form.Logical operator first others) =
        reading_with (operands_stand (logical_operator operator) (expression first).stands (others.first
        ∷ others.others))
    form_reading (form.Relational left place operator right) =
        reading_with (λ w e. is_binary (relational_operator operator) ((expression left).stands w)
        ((expression right).stands w) (at_number e))
    form_reading (form.Adding first others) =
        reading_with (addends_stand (expression first).stands (others.first ∷ others.others))
    form_reading (form.Signed place s operand) =
        reading_with (signed_stands s (expression operand).literal (expression operand).stands)
    form_reading (form.Multiplying first others) =
        reading_with (factors_stand (expression first).stands (others.first ∷ others.others))
    form_reading (form.Highest place operator operand) =
        reading_with (λ w e. is_unary (highest_operator operator) ((expression operand).stands w) (at_number e))
    form_reading (form.Number place literal) =
        record {
          literal = Some (literal_value literal);
          name = None;
          stands = λ w e. is_known (literal_value literal) (at_number e);
        }
    form_reading (form.Text place text) = reading_with nowhere
    form_reading (form.Null place) = reading_with nowhere
    form_reading (form.Bracketed place inner) = record {
      literal = None;
      name = (expression inner).name;
      stands = (expression inner).stands;
    }
    form_reading (form.Named name a arguments) =
        record { literal = None; name = Some name; stands = λ w e. named_stands name a arguments w (at_number e) }

abbrev pub same_reading : ExpressionReading → ExpressionReading
same_reading reading = reading

abbrev pub reading_layer : Image → Expression-F ExpressionReading → ExpressionReading
reading_layer p e = form_reading p same_reading e.form

abbrev pub expression_reading : Image → Expression → ExpressionReading
expression_reading p = fold-Expression ExpressionReading (reading_layer p)

abbrev pub expression_stands : Image → Within → Expression → ExprNo → Bool
expression_stands p within e number = (expression_reading p e).stands within number
