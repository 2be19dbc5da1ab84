-- Expressions that an image has: forms that are values, and names in them that denote what has a value. A text, `null`,
-- an Image, an Access and the call of a function of the source among operators are none; legality refuses them there.
use Rattle.std.specs.Prelude.{Bool, true, false, cond, ◌&&◌, List, [], ◌∷◌}
use Rattle.std.specs.Prelude.{Option, Some, None, option_map, unwrap_or, is_some}
use Rattle.std.specs.List.{list_all}
use Rattle.ada_tree.specs.declared.names.Name.{Name}
use Rattle.ada_tree.specs.declared.operators.Attribute.{Attribute}
use Rattle.ada_tree.specs.declared.operators.Attribute.TheVariants as attribute
use Rattle.ada_tree.specs.declared.expressions.Expression.{Expression}
use Rattle.ada_tree.specs.declared.expressions.Expression.TheOpen.{Expression-F}
use Rattle.ada_tree.specs.declared.expressions.Expression.TheFolds.{fold-Expression}
use Rattle.ada_tree.specs.declared.expressions.ExpressionForm.{ExpressionForm}
use Rattle.ada_tree.specs.declared.expressions.ExpressionForm.TheVariants as form
use Rattle.ada_tree.specs.declared.expressions.Operand.{Operand}
use Rattle.ada_tree.specs.declared.expressions.Addend.{Addend}
use Rattle.ada_tree.specs.declared.expressions.Multiplied.{Multiplied}
use Rattle.ada_tree.specs.declared.expressions.Argument.{Argument}
use Rattle.ada_tree.specs.declared.expressions.AttributeDesignator.{AttributeDesignator}
use Rattle.profile_image.specs.declared.numbers.DeclNo.{DeclNo}
use Rattle.profile_image.specs.declared.values.Value.{Value}
use Rattle.ada_regions.specs.declared.types.Subtype.{Subtype}
use Rattle.ada_regions.specs.declared.predefined.Operation.{Operation}
use Rattle.ada_regions.specs.declared.predefined.Operation.TheVariants as operations
use Rattle.ada_regions.specs.declared.predefined.Predefined.{Predefined}
use Rattle.ada_regions.specs.declared.predefined.Predefined.TheVariants as items
use Rattle.ada_regions.specs.declared.entities.Denoted.{Denoted}
use Rattle.ada_regions.specs.declared.entities.Denoted.TheVariants as denotes
use Rattle.ada_regions.specs.declared.entities.EntityKind.{EntityKind}
use Rattle.ada_regions.specs.declared.entities.EntityKind.TheVariants as entity
use Rattle.ada_regions.specs.declared.table.Names.{Names}
use Rattle.ada_regions.specs.Words.{and_then}
use Rattle.ada_regions.specs.PredefinedUnits.{names_of_formals}
use Rattle.ada_regions.specs.Names.{denoted_by, kind_at, entity_of}
use Rattle.ada_regions.specs.Statics.{attribute_value}
use Rattle.ada_image.specs.Layout.{is_thing, subtype_is}
use Rattle.ada_image.specs.ImageOfExpressions.{actuals_for, first_argument}
use Rattle.ada_image.specs.ReadExpressions.{is_value}
use Rattle.ada_image.specs.Making.{first_given}

-- a value that a text can give
abbrev pub is_given : Value → Bool
is_given v = is_value v v

abbrev pub is_given_if : Option Value → Bool
is_given_if None = false
is_given_if (Some v) = is_given v

abbrev pub is_entry : Option EntityKind → Bool
is_entry (Some (entity.Entry number unit formals)) = true
is_entry _ = false

abbrev pub kind_of : Names → Name → Option EntityKind
kind_of n name = and_then (denoted_by n name) (λ d. and_then (entity_of d) (kind_at n))

abbrev pub attribute_built : Names → Name → Attribute → Bool
attribute_built n name attribute.First = is_given_if (attribute_value n name attribute.First)
attribute_built n name attribute.Last = is_given_if (attribute_value n name attribute.Last)
attribute_built n name attribute.Image = false
attribute_built n name attribute.Count = is_entry (kind_of n name)
attribute_built n name attribute.Identity = true
attribute_built n name attribute.Access = false

-- an object that stands for itself has a number; a variable's index is built
abbrev pub object_built : Option Subtype → Option DeclNo → Bool → Bool
object_built s d index = cond (subtype_is is_thing s) (is_some d) index

abbrev pub entity_built : EntityKind → Bool → Bool
entity_built (entity.Literal enumeration position) index = true
entity_built (entity.Object s constant x declaration) index = object_built s (Some declaration) index
entity_built (entity.Parameter s mode declaration) index = object_built s declaration index
entity_built (entity.LoopParameter declaration) index = index
entity_built (entity.Component s owner declaration) index = index
entity_built _ index = false

-- predefined functions, by whether the first actual is built where one has to be there, and where one may be
abbrev pub function_built : Operation → Bool → Bool → Bool
function_built operations.Clock there if_there = true
function_built operations.Microseconds there if_there = there
function_built operations.Milliseconds there if_there = there
function_built operations.Seconds there if_there = there
function_built operations.Minutes there if_there = there
function_built operations.ToDuration there if_there = there
function_built operations.ToTimeSpan there if_there = there
function_built operations.CurrentTask there if_there = true
function_built operations.ExecutionClock there if_there = if_there
function_built operations.GetPriority there if_there = if_there
function_built operations.GetDeadline there if_there = if_there
function_built operations.TimeOfEvent there if_there = true
function_built operations.TimeRemaining there if_there = true
function_built operations.BudgetHasExpired there if_there = true
function_built operations.BudgetRemaining there if_there = true
function_built operations.PortValue there if_there = there
function_built _ there if_there = false

-- ---- forms, given which of the expressions in them are built

abbrev pub Built : Type 0
Built = Names → Bool

module _ {E : Type 0} (built : E → Built) where
  abbrev pub is_there : Option E → Built
  is_there None n = false
  is_there (Some e) n = built e n

  abbrev pub is_built_if_there : Option E → Built
  is_built_if_there None n = true
  is_built_if_there (Some e) n = built e n

  abbrev pub operation_built : Operation → List (Option E) → Built
  operation_built o es n = function_built o (is_there (first_given es) n) (is_built_if_there (first_given es) n)

  abbrev pub item_built : Predefined → List (Argument E) → Built
  item_built (items.Mark s) arguments n = false
  item_built (items.Constant of_type x) arguments n = is_given x
  item_built (items.Truth b) arguments n = true
  item_built (items.Exception raised) arguments n = false
  item_built (items.Operation o) arguments n = operation_built o (actuals_for (names_of_formals o) arguments) n

  abbrev pub denoted_built : List (Argument E) → Option Denoted → Built
  denoted_built arguments None n = false
  denoted_built arguments (Some (denotes.Entity e)) n =
      unwrap_or (option_map (λ kind. entity_built kind (is_built_if_there (first_argument arguments) n))
      (kind_at n e)) false
  denoted_built arguments (Some (denotes.Unit u)) n = false
  denoted_built arguments (Some (denotes.Item u item)) n = item_built item arguments n

  abbrev pub named_built : Name → Option AttributeDesignator → List (Argument E) → Built
  named_built name None arguments n = denoted_built arguments (denoted_by n name) n
  named_built name (Some a) arguments n = attribute_built n name a.attribute

  abbrev pub operands_built : List (Operand E) → Built
  operands_built os n = list_all (λ o. built o.relation n) os

  abbrev pub addends_built : List (Addend E) → Built
  addends_built addends n = list_all (λ a. built a.term n) addends

  abbrev pub factors_built : List (Multiplied E) → Built
  factors_built factors n = list_all (λ m. built m.factor n) factors

  abbrev pub form_built : ExpressionForm E → Built
  form_built (form.Logical operator first others) n = built first n && operands_built (others.first ∷ others.others) n
  form_built (form.Relational left place operator right) n = built left n && built right n
  form_built (form.Adding first others) n = built first n && addends_built (others.first ∷ others.others) n
  form_built (form.Signed place s operand) n = built operand n
  form_built (form.Multiplying first others) n = built first n && factors_built (others.first ∷ others.others) n
  form_built (form.Highest place operator operand) n = built operand n
  form_built (form.Number place literal) n = true
  form_built (form.Text place text) n = false
  form_built (form.Null place) n = false
  form_built (form.Bracketed place inner) n = built inner n
  form_built (form.Named name a arguments) n = named_built name a arguments n

abbrev pub same_built : Built → Built
same_built built = built

abbrev pub built_layer : Expression-F Built → Built
built_layer e = form_built same_built e.form

abbrev pub expression_built : Expression → Built
expression_built = fold-Expression Built built_layer
