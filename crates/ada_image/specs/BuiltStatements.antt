-- Simple statements that an image has: calls of what can be called with an actual for each formal, and values and
-- variables that are built.
use Rattle.std.specs.Prelude.{Bool, true, false, cond, ◌&&◌, List, [], ◌∷◌, Option, Some, None, option_map, unwrap_or}
use Rattle.std.specs.List.{list_all}
use Rattle.ada_tree.specs.declared.expressions.Expression.{Expression}
use Rattle.ada_tree.specs.declared.expressions.Expression.TheViews.{out-Expression}
use Rattle.ada_tree.specs.declared.expressions.ExpressionForm.{ExpressionForm}
use Rattle.ada_tree.specs.declared.expressions.ExpressionForm.TheVariants as form
use Rattle.ada_tree.specs.declared.expressions.Addend.{Addend}
use Rattle.ada_tree.specs.declared.expressions.Argument.{Argument}
use Rattle.ada_tree.specs.declared.statements.Assignment.{Assignment}
use Rattle.ada_tree.specs.declared.statements.Call.{Call}
use Rattle.ada_tree.specs.declared.statements.Choice.{Choice}
use Rattle.ada_tree.specs.declared.statements.Choice.TheVariants as choice
use Rattle.ada_tree.specs.declared.statements.Iteration.{Iteration}
use Rattle.ada_tree.specs.declared.statements.Iteration.TheVariants as iteration
use Rattle.ada_tree.specs.declared.selects.Trigger.{Trigger}
use Rattle.ada_tree.specs.declared.selects.Trigger.TheVariants as trigger
use Rattle.profile_image.specs.declared.values.Value.{Value}
use Rattle.ada_regions.specs.declared.types.Formal.{Formal}
use Rattle.ada_regions.specs.declared.types.Mode.{Mode}
use Rattle.ada_regions.specs.declared.types.Mode.TheVariants as mode
use Rattle.ada_regions.specs.declared.types.Subtype.{Subtype}
use Rattle.ada_regions.specs.declared.predefined.Operation.{Operation}
use Rattle.ada_regions.specs.declared.predefined.Operation.TheVariants as operations
use Rattle.ada_regions.specs.declared.predefined.Predefined.{Predefined}
use Rattle.ada_regions.specs.declared.predefined.Predefined.TheVariants as items
use Rattle.ada_regions.specs.declared.entities.Denoted.{Denoted}
use Rattle.ada_regions.specs.declared.entities.Denoted.TheVariants as denotes
use Rattle.ada_regions.specs.declared.entities.EntityKind.{EntityKind}
use Rattle.ada_regions.specs.declared.entities.EntityKind.TheVariants as entity
use Rattle.ada_regions.specs.declared.table.Names.{Names}
use Rattle.ada_regions.specs.Words.{and_then}
use Rattle.ada_regions.specs.PredefinedUnits.{names_of_formals}
use Rattle.ada_regions.specs.Names.{denoted_by, kind_at}
use Rattle.ada_regions.specs.Statics.{static_value, subtype_of_name}
use Rattle.ada_regions.specs.TypeKinds.{is_array_type}
use Rattle.ada_image.specs.Layout.{is_kept, is_thing, subtype_is}
use Rattle.ada_image.specs.ImageOfExpressions.{actuals_for, first_argument}
use Rattle.ada_image.specs.ImageOfCalls.{FunctionCall, call_of_kind, names_of}
use Rattle.ada_image.specs.ImageOfProcedures.{second_of, moment_of}
use Rattle.ada_image.specs.BuiltExpressions.{Built, is_given, kind_of, expression_built}
use Rattle.ada_image.specs.Making.{first_given}

-- ---- values and variables

abbrev pub value_there : Option Expression → Built
value_there None n = false
value_there (Some e) n = expression_built e n

abbrev pub value_if_there : Option Expression → Built
value_if_there None n = true
value_if_there (Some e) n = expression_built e n

abbrev pub variable_form_built : ExpressionForm Expression → Built
variable_form_built (form.Named name a arguments) n = value_if_there (first_argument arguments) n
variable_form_built _ n = false

abbrev pub variable_built : Expression → Built
variable_built e n = variable_form_built (out-Expression e).form n

abbrev pub variable_there : Option Expression → Built
variable_there None n = false
variable_there (Some e) n = variable_built e n

-- ---- actuals: one for each formal

abbrev pub mode_built : Mode → Expression → Built
mode_built mode.In e n = expression_built e n
mode_built mode.Out e n = variable_built e n
mode_built mode.InOut e n = variable_built e n

abbrev pub actual_built : Formal → Option Expression → Built
actual_built f None n = false
actual_built f (Some e) n = cond (subtype_is is_thing f.subtype) true (mode_built f.mode e n)

abbrev pub actuals_built : List Formal → List (Option Expression) → Built
actuals_built [] es n = true
actuals_built (f ∷ fs) [] n = false
actuals_built (f ∷ fs) (e ∷ es) n = actual_built f e n && actuals_built fs es n

abbrev pub arguments_built : List Formal → List (Argument Expression) → Built
arguments_built formals arguments n = actuals_built formals (actuals_for (names_of formals) arguments) n

-- ---- a value, or the call of a function of the source that stands alone

abbrev pub call_of_form : ExpressionForm Expression → Names → Option FunctionCall
call_of_form (form.Named name None arguments) n = and_then (kind_of n name) (call_of_kind name arguments)
call_of_form _ n = None

abbrev pub call_in : Expression → Names → Option FunctionCall
call_in e n = call_of_form (out-Expression e).form n

abbrev pub call_built : FunctionCall → Built
call_built c n = arguments_built c.formals c.arguments n

abbrev pub call_or_value_built : Expression → Option FunctionCall → Built
call_or_value_built e None n = expression_built e n
call_or_value_built e (Some c) n = call_built c n

abbrev pub source_built : Expression → Built
source_built e n = call_or_value_built e (call_in e n) n

-- ---- texts

abbrev pub piece_form_built : ExpressionForm Expression → Built
piece_form_built (form.Text place text) n = true
piece_form_built (form.Named name a arguments) n = value_there (first_argument arguments) n
piece_form_built _ n = false

abbrev pub piece_built : Expression → Built
piece_built e n = piece_form_built (out-Expression e).form n

abbrev pub pieces_built : List (Addend Expression) → Built
pieces_built addends n = list_all (λ a. piece_built a.term n) addends

abbrev pub text_form_built : ExpressionForm Expression → Built
text_form_built (form.Adding first others) n = piece_built first n && pieces_built (others.first ∷ others.others) n
text_form_built f n = piece_form_built f n

abbrev pub text_built : Option Expression → Built
text_built None n = false
text_built (Some e) n = text_form_built (out-Expression e).form n

-- ---- call statements

abbrev pub procedure_built : Operation → List (Argument Expression) → List (Option Expression) → Built
procedure_built operations.PutLine arguments es n = text_built (first_given es) n
procedure_built operations.SetEvent arguments es n = value_there (moment_of arguments) n
procedure_built operations.SetTimer arguments es n = value_there (moment_of arguments) n
procedure_built operations.CancelEvent arguments es n = variable_there (second_of es) n
procedure_built operations.CancelTimer arguments es n = variable_there (second_of es) n
procedure_built operations.CancelBudget arguments es n = variable_there (second_of es) n
procedure_built operations.AddTask arguments es n = value_there (second_of es) n
procedure_built operations.RemoveTask arguments es n = value_there (second_of es) n
procedure_built operations.Replenish arguments es n = value_there (second_of es) n
procedure_built operations.Add arguments es n = value_there (second_of es) n
procedure_built operations.SetBudget arguments es n = true
procedure_built operations.SetPriority arguments es n = value_there (first_given es) n
    && value_if_there (second_of es) n
procedure_built operations.SetDeadline arguments es n = value_there (first_given es) n
    && value_if_there (second_of es) n
procedure_built operations.SetQuantum arguments es n = value_there (first_given es) n && value_there (second_of es) n
procedure_built operations.DelayUntilAndSetDeadline arguments es n = value_there (first_given es) n
    && value_there (second_of es) n
procedure_built _ arguments es n = false

abbrev pub entity_call_built : List (Argument Expression) → EntityKind → Built
entity_call_built arguments (entity.Subprogram number is_function specified formals unit) n =
    arguments_built formals arguments n
entity_call_built arguments (entity.Entry number unit formals) n = arguments_built formals arguments n
entity_call_built arguments entity.Main n = true
entity_call_built arguments _ n = false

abbrev pub item_call_built : Predefined → List (Argument Expression) → Built
item_call_built (items.Operation o) arguments n =
    procedure_built o arguments (actuals_for (names_of_formals o) arguments) n
item_call_built _ arguments n = false

abbrev pub denoted_call_built : List (Argument Expression) → Option Denoted → Built
denoted_call_built arguments (Some (denotes.Entity e)) n =
    unwrap_or (option_map (λ kind. entity_call_built arguments kind n) (kind_at n e)) false
denoted_call_built arguments (Some (denotes.Item u item)) n = item_call_built item arguments n
denoted_call_built arguments _ n = false

abbrev pub call_statement_built : Call → Built
call_statement_built c n = denoted_call_built c.arguments (denoted_by n c.name) n

-- ---- assignments, choices, loops and triggers

abbrev pub whole_built : Assignment → Option Subtype → Built
whole_built a s n = cond (subtype_is is_kept s) true (cond (subtype_is is_array_type s) true (source_built a.value n))

abbrev pub assigned_built : Assignment → Option Expression → Built
assigned_built a None n = whole_built a (subtype_of_name n a.target) n
assigned_built a (Some i) n = expression_built i n && source_built a.value n

abbrev pub assignment_built : Assignment → Built
assignment_built a n = assigned_built a a.index n

-- a choice that is not static is made to zero
abbrev pub choice_value_built : Option Value → Bool
choice_value_built None = true
choice_value_built (Some v) = is_given v

abbrev pub choice_built : Choice → Built
choice_built (choice.Value v) n = choice_value_built (static_value n v)
choice_built (choice.Range low high) n = choice_value_built (static_value n low)
    && choice_value_built (static_value n high)
choice_built (choice.Others place) n = true

abbrev pub choices_built : List Choice → Built
choices_built cs n = list_all (λ c. choice_built c n) cs

abbrev pub iteration_built : Iteration → Built
iteration_built iteration.Forever n = true
iteration_built (iteration.While place c) n = expression_built c n
iteration_built (iteration.For place i reverse low high) n = expression_built low n && expression_built high n

abbrev pub trigger_built : Trigger → Built
trigger_built (trigger.Call c) n = call_statement_built c n
trigger_built (trigger.Delay d) n = expression_built d.value n

-- the value that a function returns, or none
abbrev pub source_if_there : Option Expression → Built
source_if_there None n = true
source_if_there (Some e) n = source_built e n
