-- What is asked of an expression that is read, in its place (clause 4), and Image, barriers, signs and chains of
-- operators.
use Rattle.ada_image.specs.ImageOfExpressions.{highest_operator, logical_operator}
use Rattle.ada_image.specs.ImageOfExpressions.{multiplying_operator, relational_operator}
use Rattle.ada_image.specs.UnitsOfImage.{is_in_out}
use Rattle.ada_legality.specs.Attributes.{innermost_unit}
use Rattle.ada_legality.specs.Calls.{actual_from, is_formal_named, wrong_actuals}
use Rattle.ada_legality.specs.Findings.{Found, broken, broken_if, broken_unless}
use Rattle.ada_legality.specs.Types.{discrete_if, fits, has_type, is_discrete, is_duration, is_integer, is_text}
use Rattle.ada_legality.specs.Types.{operation_type, operation_type_of_one, same_type, typed_if, typed_is}
use Rattle.ada_legality.specs.Values.{denoted_kind, formals_of_subprogram, is_literal_kind, is_type}
use Rattle.ann_base.specs.declared.names.TheConstants.{NAME_BYTES}
use Rattle.ada_legality.specs.declared.parts.ActualPart.{ActualPart}
use Rattle.ada_legality.specs.declared.parts.FormalPart.{FormalPart}
use Rattle.ada_legality.specs.declared.parts.Wanted.{Wanted}
use Rattle.ada_legality.specs.declared.reading.Asked.{Asked}
use Rattle.ada_legality.specs.declared.reading.Literal.{Literal}
use Rattle.ada_legality.specs.declared.reading.Read.{Read}
use Rattle.ada_legality.specs.declared.reading.Shape.{Shape}
use Rattle.ada_legality.specs.declared.reading.Typed.{Typed}
use Rattle.ada_legality.specs.declared.rules.Rule.{Rule}
use Rattle.ada_legality.specs.declared.standing.Around.{Around}
use Rattle.ada_legality.specs.declared.standing.Known.{Known}
use Rattle.ada_lex.specs.Meaning.{decimals_of, whole_of}
use Rattle.ada_regions.specs.Completions.{holds_of}
use Rattle.ada_regions.specs.Names.{denoted_by, kind_at}
use Rattle.ada_regions.specs.declared.predefined.TheConstants.{LAST_DURATION, LAST_INTEGER}
use Rattle.ada_regions.specs.Statics.{micros_of}
use Rattle.ada_regions.specs.Subtypes.{mark_denoted}
use Rattle.ada_regions.specs.Words.{and_then}
use Rattle.ann_base.specs.Lists.{is_empty}
use Rattle.ada_regions.specs.declared.entities.Denoted.{Denoted}
use Rattle.ada_regions.specs.declared.entities.EntityKind.{EntityKind}
use Rattle.ada_regions.specs.declared.predefined.Predefined.{Predefined}
use Rattle.ada_regions.specs.declared.table.Names.{Names}
use Rattle.ada_regions.specs.declared.types.AdaType.{AdaType}
use Rattle.ada_regions.specs.declared.types.Formal.{Formal}
use Rattle.ada_regions.specs.declared.types.Mode.{Mode}
use Rattle.ada_regions.specs.Numbered.{no_place}
use Rattle.ada_tree.specs.declared.names.Name.{Name}
use Rattle.ada_tree.specs.declared.operators.AddingOperator.{AddingOperator}
use Rattle.ada_tree.specs.declared.operators.Attribute.{Attribute}
use Rattle.ada_tree.specs.declared.operators.HighestOperator.{HighestOperator}
use Rattle.ada_tree.specs.declared.operators.LogicalOperator.{LogicalOperator}
use Rattle.ada_tree.specs.declared.operators.MultiplyingOperator.{MultiplyingOperator}
use Rattle.ada_tree.specs.declared.operators.RelationalOperator.{RelationalOperator}
use Rattle.ada_tree.specs.declared.operators.Sign.{Sign}
use Rattle.ann_base.specs.declared.places.Place.{Place}
use Rattle.profile_image.specs.declared.expressions.BinaryOperator.{BinaryOperator}
use Rattle.profile_image.specs.declared.expressions.UnaryOperator.{UnaryOperator}
use Rattle.std.specs.List.{list_any}
use Rattle.std.specs.Prelude.{Bool, List, None, Option, Some, [], codes, cond, false, is_none, is_some, leb, length}
use Rattle.std.specs.Prelude.{max, not, option_map, slice_get, suc, true, unwrap_or, ℕ, ◌&&◌, ◌++◌, ◌+◌, ◌||◌, ◌∷◌}
use Rattle.ada_tree.specs.declared.operators.AddingOperator.TheVariants as adding
use Rattle.ada_legality.specs.declared.standing.Around.TheVariants as around
use Rattle.ada_legality.specs.declared.reading.Asked.TheVariants as asking
use Rattle.ada_tree.specs.declared.operators.Attribute.TheVariants as attribute
use Rattle.profile_image.specs.declared.expressions.BinaryOperator.TheVariants as binary
use Rattle.ada_regions.specs.declared.entities.Denoted.TheVariants as denotes
use Rattle.ada_regions.specs.declared.entities.EntityKind.TheVariants as entity
use Rattle.ada_tree.specs.declared.operators.HighestOperator.TheVariants as highest
use Rattle.ada_regions.specs.declared.predefined.Predefined.TheVariants as items
use Rattle.ada_tree.specs.declared.operators.LogicalOperator.TheVariants as logical
use Rattle.ada_regions.specs.declared.types.Mode.TheVariants as mode
use Rattle.ada_regions.specs.declared.entities.ComponentOwner.TheVariants as owner
use Rattle.ada_legality.specs.declared.rules.Rule.TheVariants as rule
use Rattle.ada_legality.specs.declared.reading.Shape.TheVariants as shapes
use Rattle.ada_tree.specs.declared.operators.Sign.TheVariants as sign
use Rattle.ada_regions.specs.declared.types.AdaType.TheVariants as types
use Rattle.ada_legality.specs.declared.reading.Typed.TheVariants as typing
use Rattle.profile_image.specs.declared.expressions.UnaryOperator.TheVariants as unary
use Rattle.ada_legality.specs.declared.parts.Wanted.TheVariants as wanting

-- how an expression is read where something is known: what it is, and what is found in it
abbrev pub Reading : Type 0
Reading = Known → Read × Found

-- ---- literals (2.4, 3.5.4, 9.6)

abbrev pub no_literal : Literal
no_literal = record {
  place = no_place;
  number_place = no_place;
  is_integer = false;
  is_negative_integer = false;
  is_duration = false;
}

-- the literal of an expression that is one
abbrev pub literal_in : Read → Literal
literal_in r = unwrap_or r.literal no_literal

-- at most six decimals, and a value of Duration
abbrev pub lies_in_duration : List ℕ → Bool
lies_in_duration text =
    leb (length (decimals_of text)) 6 && leb (micros_of text) LAST_DURATION

-- a number as it stands in the tree
unfoldable pub literal_at : Place → List ℕ → Literal
literal_at at text = record {
  place = at;
  number_place = at;
  is_integer = leb (whole_of text) LAST_INTEGER;
  is_negative_integer = leb (whole_of text) (LAST_INTEGER + 1);
  is_duration = lies_in_duration text;
}

-- the same with a minus before it
abbrev pub with_minus : Place → Literal → Literal
with_minus at l = record l { place = at; is_integer = l.is_negative_integer }

-- a literal that stands for a value of Integer: a literal, or minus a literal, is one
abbrev pub integer_literal : Literal → Found
integer_literal l = broken_unless rule.IntegerLiteral l.is_integer l.place

-- a literal that stands for a value of Duration
abbrev pub duration_literal : Literal → Found
duration_literal l = broken_unless rule.DurationLiteral l.is_duration l.number_place

-- a number with a point that stands for something else
abbrev pub other_pointed_literal : Literal → Found
other_pointed_literal l = broken rule.DurationLiteral l.number_place ∷ []

-- ---- values of a type (8.6): an expression is of the type that is expected

-- the rule that such a value breaks
abbrev pub rule_asked : Asked → Rule
rule_asked asking.ForValue = rule.ExpectedType
rule_asked asking.ForActual = rule.Actuals
rule_asked asking.ForCondition = rule.ConditionsAndChoices

-- an expression of this type stands where that type is asked
unfoldable pub value_judged : Asked → Place → Typed → AdaType → Found
value_judged asked place typed t = broken_unless (rule_asked asked) (fits typed t) place

-- a discrete type, or none
abbrev pub is_discrete_or_refused : Typed → Bool
is_discrete_or_refused t = not (has_type t) || typed_is is_discrete t

-- a function of the source is called
abbrev pub calls_function : Shape → Bool
calls_function (shapes.Name n) = n.is_function
calls_function shapes.Number = false
calls_function shapes.Other = false

-- such a call where none may stand: it is the whole of what is assigned, declared or returned (own)
abbrev pub call_inside : Read → Found
call_inside r = broken_if rule.FunctionCallAlone (calls_function r.shape) r.place

-- an operand: a number is an Integer, one with a point a Duration
unfoldable pub literal_as_operand : Literal → Typed → Found
literal_as_operand l typing.OfWholeNumber = integer_literal l
literal_as_operand l typing.OfPointedNumber = duration_literal l
literal_as_operand l _ = []

-- an operand, with its literal
unfoldable pub as_operand : Read → Found
as_operand r = call_inside r ++ literal_as_operand (literal_in r) r.typed

-- of a type that is asked: the value of a literal, and the type
unfoldable pub whole_asked : Asked → Read → AdaType → Found
whole_asked asked r t =
    cond (is_integer t) (integer_literal (literal_in r))
    (value_judged asked r.place typing.OfWholeNumber t)

-- a number with a point where this type is expected
unfoldable pub pointed_asked : Read → AdaType → Found
pointed_asked r t =
    cond (is_duration t) (duration_literal (literal_in r)) (other_pointed_literal (literal_in r))

-- an expression where this type is expected
unfoldable pub asked_of : Asked → Read → AdaType → Typed → Found
asked_of asked r t typing.OfWholeNumber = whole_asked asked r t
asked_of asked r t typing.OfPointedNumber = pointed_asked r t
asked_of asked r t typed = value_judged asked r.place typed t

-- the same, where the type is known
unfoldable pub fitted : Asked → Option AdaType → Read → Found
fitted asked None r = []
fitted asked (Some t) r = asked_of asked r t r.typed

-- the same, where a function's call may not stand
unfoldable pub expected : Asked → Option AdaType → Read → Found
expected asked t r = call_inside r ++ fitted asked t r

-- a number with a point where a whole one, or nothing, is expected
abbrev pub pointed_if : Literal → Typed → Found
pointed_if l typing.OfPointedNumber = other_pointed_literal l
pointed_if l _ = []

-- an expression that may be no number with a point
unfoldable pub without_point : Read → Found
without_point r = call_inside r ++ pointed_if (literal_in r) r.typed

-- ---- operators (4.5): defined for the types of their operands

unfoldable pub operation_judged : Place → BinaryOperator → Typed → Typed → Found
operation_judged place operator a b =
    broken_if rule.OperandTypes
    (has_type a && (has_type b && is_none (operation_type operator a b))) place

-- `&` joins texts
unfoldable pub concatenation_judged : Place → Typed → Typed → Found
concatenation_judged place a b =
    broken_if rule.OperandTypes (has_type a && (has_type b && not (is_text a && is_text b))) place

-- an operator of one operand
unfoldable pub operation_of_one_judged : Place → UnaryOperator → Typed → Found
operation_of_one_judged place operator a =
    broken_if rule.OperandTypes (has_type a && is_none (operation_type_of_one operator a)) place

-- ---- actuals (6.4.1)

-- a protected function assigns no component of its object (9.5.1): also in the bodies inside it
abbrev pub function_in_unit : AdaType → Around → List Around → Found
function_in_unit t (around.Subprogram s) (around.Protected u ∷ outer) =
    broken_if rule.ProtectedComponents (is_some s.result && is_type t u.of_type) s.begins
function_in_unit t a outer = []

-- the functions around that are operations of the unit
unfoldable pub functions_of_unit : AdaType → List Around → Found
functions_of_unit t [] = []
functions_of_unit t (a ∷ outer) = function_in_unit t a outer ++ functions_of_unit t outer

-- a component that is assigned in a function of its unit
unfoldable pub component_assigned : Known → Option AdaType → Found
component_assigned k None = []
component_assigned k (Some t) = functions_of_unit t k.around

-- an expression is the name of a variable
abbrev pub shape_is_variable : Shape → Bool
shape_is_variable (shapes.Name n) = n.is_variable
shape_is_variable shapes.Number = false
shape_is_variable shapes.Other = false

-- the unit of which an expression that is assigned is a component
abbrev pub component_in_shape : Shape → Option AdaType
component_in_shape (shapes.Name n) = n.component_of
component_in_shape shapes.Number = None
component_in_shape shapes.Other = None

-- an actual that is assigned is a variable
unfoldable pub assigning_actual : Known → Read → Found
assigning_actual k r =
    broken_if rule.Actuals (has_type r.typed && not (shape_is_variable r.shape)) r.place
    ++ component_assigned k (component_in_shape r.shape)

-- an actual whose mode assigns
abbrev pub assigned_if : Known → Mode → Read → Found
assigned_if k mode.In r = []
assigned_if k mode.Out r = assigning_actual k r
assigned_if k mode.InOut r = assigning_actual k r

-- a handler, `null`, or what is refused
abbrev pub is_handler_or_null : Typed → Bool
is_handler_or_null typing.WithoutType = true
is_handler_or_null typing.OfNull = true
is_handler_or_null (typing.OfHandler e) = true
is_handler_or_null t = false

-- a handler for objects of this type has one formal of it, `in out` (D.14.1, D.14.2, D.15)
unfoldable pub wanted_of_handler : AdaType → List Formal → Bool
wanted_of_handler t [] = false
wanted_of_handler t (f ∷ []) =
    is_in_out f.mode && unwrap_or (option_map (λ s. same_type s.of_type t) f.subtype) false
wanted_of_handler t (f ∷ g ∷ rest) = false

-- a procedure is a handler for objects of the type
unfoldable pub handles_objects_of : Known → AdaType → ℕ → Bool
handles_objects_of k t e =
    unwrap_or (option_map (λ x. wanted_of_handler t (formals_of_subprogram x)) (kind_at k.names e))
    false

-- a handler has the profile that is wanted
abbrev pub is_wanted_handler : Known → AdaType → Typed → Bool
is_wanted_handler k t (typing.OfHandler e) = handles_objects_of k t e
is_wanted_handler k t typed = true

-- an actual for a handler of objects of this type
unfoldable pub handler_actual : Known → Read → AdaType → Found
handler_actual k r t =
    broken_unless rule.Actuals (is_handler_or_null r.typed) r.place
    ++ broken_unless rule.HandlerProcedure (is_wanted_handler k t r.typed) r.place

-- an actual for what its formal wants
unfoldable pub actual_wanted : Known → Mode → Wanted → Read → Found
actual_wanted k m (wanting.OfType t) r = fitted asking.ForActual t r ++ assigned_if k m r
actual_wanted k m (wanting.HandlerOf t) r = handler_actual k r t

-- an actual that is there
abbrev pub actual_if : Known → FormalPart → Option Read → Found
actual_if k f None = []
actual_if k f (Some r) = actual_wanted k f.mode f.wanted r

-- actuals for the formals from this number on
unfoldable pub actuals_fitted : Known → ℕ → List FormalPart → List ActualPart → Found
actuals_fitted k number [] actuals = []
actuals_fitted k number (f ∷ fs) actuals =
    actual_if k f (actual_from number f.name 0 actuals) ++ actuals_fitted k (suc number) fs actuals

-- Set_Handler of a timing event with a span is no relative delay where a restriction forbids those (D.7)
abbrev pub is_event : AdaType → Bool
is_event types.TimingEvent = true
is_event t = false

-- a handler of timing events is wanted
abbrev pub wants_event : Wanted → Bool
wants_event (wanting.OfType t) = false
wants_event (wanting.HandlerOf t) = is_event t

-- a formal for a handler of timing events
abbrev pub is_event_handler : FormalPart → Bool
is_event_handler f = wants_event f.wanted

-- the formals of Set_Handler of a timing event with a span
unfoldable pub sets_event_by_span : List FormalPart → Bool
sets_event_by_span formals =
    list_any (is_formal_named (codes "in_time")) formals && list_any is_event_handler formals

-- the actuals of these formals, by number and name
unfoldable pub actuals_numbered : Known → Place → List FormalPart → List ActualPart → Found
actuals_numbered k call formals actuals =
    wrong_actuals call formals actuals
    ++ broken_if rule.Restriction (k.in_force.no_relative_delay && sets_event_by_span formals) call

-- the actuals of a call
unfoldable pub actuals_judged : Known → Place → List FormalPart → List ActualPart → Found
actuals_judged k call formals actuals =
    actuals_numbered k call formals actuals ++ actuals_fitted k 0 formals actuals

-- ---- Image (3.5): the greatest length (own: of an Integer 11 whatever it is), where it is short
-- enough for a text of a line

abbrev pub short_length : ℕ → Option ℕ
short_length bytes = cond (leb bytes NAME_BYTES) (Some bytes) None

-- the length of the longest text
unfoldable pub longest : List (List ℕ) → ℕ
longest [] = 0
longest (x ∷ xs) = max (length x) (longest xs)

-- the greatest length of an Image
unfoldable pub length_of_image : Names → AdaType → ℕ
length_of_image n types.Integer = 11
length_of_image n types.Boolean = 5
length_of_image n (types.Enumeration e) = longest (unwrap_or (slice_get n.enumerations e.0) [])
length_of_image n _ = 0

-- the same, by the subtype's name
unfoldable pub length_by_mark : Known → Name → ℕ
length_by_mark k name =
    unwrap_or
    (option_map (λ s. length_of_image k.names s.of_type)
    (and_then (denoted_by k.names name) (mark_denoted k.names))) 0

-- the length of an attribute that is an Image
unfoldable pub image_length : Known → Name → Attribute → Option ℕ
image_length k name attribute.Image = short_length (length_by_mark k name)
image_length k name _ = None

-- two lengths together
unfoldable pub both_lengths : Option ℕ → Option ℕ → Option ℕ
both_lengths None b = None
both_lengths (Some a) None = None
both_lengths (Some a) (Some b) = short_length (a + b)

-- a length behind `&`
abbrev pub length_if_joined : AddingOperator → Option ℕ → Option ℕ
length_if_joined adding.Plus bytes = None
length_if_joined adding.Minus bytes = None
length_if_joined adding.Concatenation bytes = bytes

-- the type of Image's argument
unfoldable pub type_of_prefix : Known → Name → Option AdaType
type_of_prefix k name =
    and_then (and_then (denoted_by k.names name) (mark_denoted k.names))
    (λ s. discrete_if s.of_type)

-- ---- barriers (own): components of the object, literals, comparisons and logical operators

unfoldable pub is_own_component : Known → EntityKind → Bool
is_own_component k (entity.Component s (owner.Protected u) declaration) =
    is_type (types.Protected u) (innermost_unit k)
is_own_component k _ = false

-- False or True
abbrev pub is_truth : Predefined → Bool
is_truth (items.Truth b) = true
is_truth _ = false

-- a component of the object, or a literal
unfoldable pub denotes_barrier_part : Known → Denoted → Bool
denotes_barrier_part k (denotes.Item u item) = is_truth item
denotes_barrier_part k d =
    holds_of (λ x. is_own_component k x || is_literal_kind x) (denoted_kind k.names d)

-- `and`, `or` and `xor`
abbrev pub is_barrier_operator : LogicalOperator → Bool
is_barrier_operator logical.And = true
is_barrier_operator logical.Or = true
is_barrier_operator logical.Xor = true
is_barrier_operator logical.AndThen = false
is_barrier_operator logical.OrElse = false

-- `not`
abbrev pub is_not : HighestOperator → Bool
is_not highest.Not = true
is_not highest.Absolute = false

-- ---- what an expression is read as

-- of this type, and nothing more
abbrev pub plain_read : Place → Typed → Read
plain_read place typed = record {
  place = place;
  literal = None;
  shape = shapes.Other;
  typed = typed;
  piece = None;
  line = None;
  built_as_barrier = false;
}

-- a number alone
abbrev pub is_number : Shape → Bool
is_number shapes.Number = true
is_number _ = false

-- a number
unfoldable pub number_read : Place → List ℕ → Read
number_read at text = record (plain_read at
    (cond (is_empty (decimals_of text)) typing.OfWholeNumber typing.OfPointedNumber)) {
      literal = Some (literal_at at text);
      shape = shapes.Number;
      built_as_barrier = true;
    }

-- a text
unfoldable pub text_read : Place → List ℕ → Read
text_read at text = record (plain_read at typing.OfText) {
  piece = short_length (length text);
  line = short_length (length text);
}

-- an expression in brackets
unfoldable pub bracketed_read : Place → Read → Read
bracketed_read at r = record (plain_read at r.typed) {
  literal = r.literal;
  built_as_barrier = r.built_as_barrier;
}

-- ---- signs

-- minus a literal is a literal; any other sign is an operator
unfoldable pub signed_read : Place → Sign → Read → Read
signed_read at sign.Plus r = plain_read at (typed_if (operation_type_of_one unary.Plus r.typed))
signed_read at sign.Minus r = cond (is_number r.shape)
    (record (plain_read at r.typed) { literal = option_map (with_minus at) r.literal })
    (plain_read at (typed_if (operation_type_of_one unary.Minus r.typed)))

-- a sign with its operand, where it is an operator
unfoldable pub signed_judged : Place → Sign → Read → Found
signed_judged at sign.Plus r =
    as_operand r ++ operation_of_one_judged at unary.Plus r.typed
signed_judged at sign.Minus r =
    cond (is_number r.shape) []
    (as_operand r ++ operation_of_one_judged at unary.Minus r.typed)

-- ---- an operator between two operands; a chain of them is read from left to right

abbrev pub typed_operation : BinaryOperator → Typed → Typed → Typed
typed_operation operator a b = typed_if (operation_type operator a b)

-- the type of what `&` joins
abbrev pub typed_join : Typed → Typed → Typed
typed_join typing.OfText typing.OfText = typing.OfText
typed_join a b = typing.WithoutType

-- the type of a sum, a difference or a join
unfoldable pub typed_sum : AddingOperator → Typed → Typed → Typed
typed_sum adding.Plus a b = typed_operation binary.Plus a b
typed_sum adding.Minus a b = typed_operation binary.Minus a b
typed_sum adding.Concatenation a b = typed_join a b

-- an adding operator with its operands
unfoldable pub sum_judged : Place → AddingOperator → Typed → Typed → Found
sum_judged at adding.Plus a b = operation_judged at binary.Plus a b
sum_judged at adding.Minus a b = operation_judged at binary.Minus a b
sum_judged at adding.Concatenation a b = concatenation_judged at a b

-- the first operand of logical operators, which are built as barriers only of such operators
unfoldable pub first_relation : LogicalOperator → Read → Read
first_relation operator r = record (plain_read r.place r.typed) {
  built_as_barrier = is_barrier_operator operator && r.built_as_barrier;
}

-- one more operand of a logical operator
unfoldable pub with_relation : LogicalOperator → Read → Read → Read
with_relation operator left right = record left {
  typed = typed_operation (logical_operator operator) left.typed right.typed;
  built_as_barrier = left.built_as_barrier && right.built_as_barrier;
}

-- two sums that are compared
unfoldable pub compared_read : RelationalOperator → Read → Read → Read
compared_read operator left right = record (plain_read left.place
    (typed_operation (relational_operator operator) left.typed right.typed)) {
      built_as_barrier = left.built_as_barrier && right.built_as_barrier;
    }

-- the first term of a sum
unfoldable pub first_term : Read → Read
first_term r = record (plain_read r.place r.typed) { line = r.piece }

-- one more term
unfoldable pub with_term : AddingOperator → Read → Read → Read
with_term operator left right = record left {
  typed = typed_sum operator left.typed right.typed;
  line = both_lengths left.line (length_if_joined operator right.piece);
}

-- one more factor
unfoldable pub with_factor : MultiplyingOperator → Read → Read → Read
with_factor operator left right = record left {
  typed = typed_operation (multiplying_operator operator) left.typed right.typed;
}

-- `abs` and `not`
unfoldable pub highest_read : Place → HighestOperator → Read → Read
highest_read at operator r = record (plain_read at
    (typed_if (operation_type_of_one (highest_operator operator) r.typed))) {
      built_as_barrier = is_not operator && r.built_as_barrier;
    }
