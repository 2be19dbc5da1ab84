-- The laws of what legality reads.
use Rattle.std.specs.Prelude.{◌≡◌, Bool, IsTrue, true, false, not, is_some}
use Rattle.std.specs.Prelude.{◌&&◌, List, [], Option, Some, None, ◌++◌, map}
use Rattle.ann_base.specs.declared.places.Place.{Place}
use Rattle.ada_tree.specs.declared.statements.Assignment.{Assignment}
use Rattle.ada_tree.specs.declared.statements.Call.{Call}
use Rattle.ada_tree.specs.declared.statements.Delay.{Delay}
use Rattle.ada_tree.specs.declared.statements.Iteration.{Iteration}
use Rattle.ada_tree.specs.declared.statements.Iteration.TheVariants as iteration
use Rattle.ada_tree.specs.declared.expressions.Expression.{Expression}
use Rattle.ada_tree.specs.declared.expressions.Argument.{Argument}
use Rattle.ada_regions.specs.declared.types.AdaType.{AdaType}
use Rattle.ada_regions.specs.declared.types.Formal.{Formal}
use Rattle.ada_regions.specs.declared.entities.Denoted.{Denoted}
use Rattle.ada_regions.specs.declared.entities.Denoted.TheVariants as denotes
use Rattle.ada_regions.specs.declared.entities.EntityKind.{EntityKind}
use Rattle.ada_regions.specs.declared.entities.EntityKind.TheVariants as entity
use Rattle.ada_regions.specs.Names.{denoted_by}
use Rattle.ada_image.specs.Layout.{is_thing}
use Rattle.ada_image.specs.ImageOfCalls.{FunctionCall}
use Rattle.ada_legality.specs.declared.reading.Asked.{Asked}
use Rattle.ada_legality.specs.declared.parts.ChoicePart.{ChoicePart}
use Rattle.ada_legality.specs.declared.standing.Known.{Known}
use Rattle.ada_legality.specs.Calls.{formal_part}
use Rattle.ada_legality.specs.CallStatements.{call_found, condition_found, value_alone_found}
use Rattle.ada_legality.specs.Choices.{case_judged}
use Rattle.ada_legality.specs.Faults.{faults_in}
use Rattle.ada_legality.specs.Reading.{actuals_judged, calls_function, expected}
use Rattle.ada_legality.specs.ReadExpressions.{arguments_read, read_expression}
use Rattle.ada_legality.specs.SimpleStatements.{assignment_found, delay_found, function_around, iteration_found}
use Rattle.ada_legality.specs.SimpleStatements.{result_expected, return_found, type_of_index_of, typed_target}
use Rattle.ada_image.specs.BuiltExpressions.{expression_built, kind_of}
use Rattle.ada_image.specs.BuiltStatements.{arguments_built, assignment_built, call_in, call_statement_built}
use Rattle.ada_image.specs.BuiltStatements.{iteration_built, source_built, source_if_there}
use Rattle.image_laws.specs.Clear.{Clear, has_values, arguments_clear, expression_clear, formals_clear}

-- An expression of clear names in which no rule is broken, of a type of values, is built, where it does not call a
-- function of the source.
abbrev pub ReadExpressionsBuilt : Type 0
ReadExpressionsBuilt = (k : Known) (e : Expression) → IsTrue (expression_clear e k)
    → faults_in (read_expression e k).1 ≡ []
    → IsTrue (has_values (read_expression e k).0.typed) → calls_function (read_expression e k).0.shape ≡ false
    → IsTrue (expression_built e k.names)

-- An expression of clear names that breaks no rule where values of a type are expected is built.
abbrev pub ExpectedExpressionsBuilt : Type 0
ExpectedExpressionsBuilt = (k : Known) (e : Expression) (asked : Asked) (t : AdaType)
    → IsTrue (expression_clear e k) → is_thing t ≡ false
    → faults_in ((read_expression e k).1 ++ expected asked (Some t) (read_expression e k).0) ≡ []
    → IsTrue (expression_built e k.names)

-- ---- where statements have values: each is built, where its names are clear and no rule is broken

abbrev pub iteration_clear : Iteration → Clear
iteration_clear iteration.Forever k = true
iteration_clear (iteration.While place c) k = expression_clear c k
iteration_clear (iteration.For place i reverse low high) k = expression_clear low k && expression_clear high k

-- conditions
abbrev pub ReadConditionsBuilt : Type 0
ReadConditionsBuilt = (k : Known) (e : Expression) → IsTrue (expression_clear e k)
    → faults_in (condition_found e k) ≡ [] → IsTrue (expression_built e k.names)

-- delays
abbrev pub ReadDelaysBuilt : Type 0
ReadDelaysBuilt = (k : Known) (d : Delay) → IsTrue (expression_clear d.value k) → faults_in (delay_found d k) ≡ []
    → IsTrue (expression_built d.value k.names)

-- conditions and bounds of loops
abbrev pub ReadIterationsBuilt : Type 0
ReadIterationsBuilt = (k : Known) (place : Place) (i : Iteration) → IsTrue (iteration_clear i k)
    → faults_in (iteration_found place i k) ≡ [] → IsTrue (iteration_built i k.names)

-- what a case selects by
abbrev pub ReadSelectorsBuilt : Type 0
ReadSelectorsBuilt = (k : Known) (place : Place) (e : Expression) (choices : List ChoicePart)
    → IsTrue (expression_clear e k)
    → faults_in ((read_expression e k).1 ++ case_judged k place (read_expression e k).0 choices) ≡ []
    → IsTrue (expression_built e k.names)

-- ---- calls of what the source declares

-- The actuals of clear names that break no rule of the formals, which have types and names that stand apart, are built:
-- values for the formals of mode in, variables for the others.
abbrev pub ReadActualsBuilt : Type 0
ReadActualsBuilt = (k : Known) (place : Place) (formals : List Formal) (arguments : List (Argument Expression))
    → IsTrue (formals_clear formals) → IsTrue (arguments_clear expression_clear arguments k)
    → faults_in ((arguments_read read_expression arguments k).1
    ++ actuals_judged k place (map formal_part formals) (arguments_read read_expression arguments k).0) ≡ []
    → IsTrue (arguments_built formals arguments k.names)

-- a subprogram or an entry is called, whose formals are clear, or the main procedure, which has none
abbrev pub called_clear : Option EntityKind → Bool
called_clear (Some (entity.Subprogram number is_function specified formals unit)) = formals_clear formals
called_clear (Some (entity.Entry number unit formals)) = formals_clear formals
called_clear (Some entity.Main) = true
called_clear _ = false

-- call statements of what the source declares
abbrev pub ReadCallsBuilt : Type 0
ReadCallsBuilt = (k : Known) (c : Call) → IsTrue (called_clear (kind_of k.names c.name))
    → IsTrue (arguments_clear expression_clear c.arguments k) → faults_in (call_found c k) ≡ []
    → IsTrue (call_statement_built c k.names)

-- ---- calls of predefined procedures

-- a predefined name is called
abbrev pub is_predefined : Option Denoted → Bool
is_predefined (Some (denotes.Item u item)) = true
is_predefined _ = false

-- call statements of what is predefined: the pieces of a Put_Line, the moment of a Set_Handler, and what is handed to
-- the others
abbrev pub ReadProceduresBuilt : Type 0
ReadProceduresBuilt = (k : Known) (c : Call) → IsTrue (is_predefined (denoted_by k.names c.name))
    → IsTrue (arguments_clear expression_clear c.arguments k) → faults_in (call_found c k) ≡ []
    → IsTrue (call_statement_built c k.names)

-- ---- values that may be the call of a function

abbrev pub function_clear : Option FunctionCall → Bool
function_clear None = true
function_clear (Some c) = formals_clear c.formals

-- values that may be the call of a function of the source, as those that are assigned and returned
abbrev pub ReadSourcesBuilt : Type 0
ReadSourcesBuilt = (k : Known) (e : Expression) (t : AdaType) → IsTrue (expression_clear e k)
    → IsTrue (function_clear (call_in e k.names)) → is_thing t ≡ false
    → faults_in (value_alone_found (Some t) e k) ≡ [] → IsTrue (source_built e k.names)

-- ---- assignments and returns

abbrev pub source_clear : Expression → Clear
source_clear e k = expression_clear e k && function_clear (call_in e k.names)

abbrev pub has_value_type : Option AdaType → Bool
has_value_type None = false
has_value_type (Some t) = not (is_thing t)

abbrev pub target_index_clear : Option AdaType → Option Expression → Clear
target_index_clear t None k = true
target_index_clear t (Some i) k = has_value_type t && expression_clear i k

-- assignments of values: what is assigned is no controlled object, and where it has an index it is an element of an
-- array
abbrev pub assignment_clear : Assignment → Clear
assignment_clear a k =
    has_values (typed_target k a.target (is_some a.index))
    && (source_clear a.value k && target_index_clear (type_of_index_of k a.target) a.index k)

abbrev pub ReadAssignmentsBuilt : Type 0
ReadAssignmentsBuilt = (k : Known) (a : Assignment) → IsTrue (assignment_clear a k)
    → faults_in (assignment_found a k) ≡ [] → IsTrue (assignment_built a k.names)

-- returns, where the function around has a type of values
abbrev pub return_clear : Option Expression → Clear
return_clear None k = true
return_clear (Some e) k = has_value_type (result_expected (function_around k)) && source_clear e k

abbrev pub ReadReturnsBuilt : Type 0
ReadReturnsBuilt = (k : Known) (place : Place) (e : Option Expression) → IsTrue (return_clear e k)
    → faults_in (return_found place e k) ≡ [] → IsTrue (source_if_there e k.names)
