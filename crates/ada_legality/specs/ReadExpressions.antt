-- How expressions are read (clause 4): what stands in an expression comes before what it breaks itself.
use Rattle.ada_image.specs.ImageOfExpressions.{highest_operator, logical_operator}
use Rattle.ada_image.specs.ImageOfExpressions.{multiplying_operator, relational_operator}
use Rattle.ada_legality.specs.Attributes.{ends_of_object, has_count, has_images, is_library_handler, is_task_object}
use Rattle.ada_legality.specs.Attributes.{is_variable, takes_arguments, type_of_ends, typed_attribute_of}
use Rattle.ada_legality.specs.Calls.{formals_denoted, without_name}
use Rattle.ada_legality.specs.Findings.{Found, broken, broken_if, broken_unless}
use Rattle.ada_legality.specs.Places.{place_of}
use Rattle.ada_legality.specs.Reading.{Reading, actuals_judged, actuals_numbered, as_operand, bracketed_read}
use Rattle.ada_legality.specs.Reading.{call_inside, compared_read, denotes_barrier_part, first_relation, first_term}
use Rattle.ada_legality.specs.Reading.{fitted, highest_read, image_length, number_read, operation_judged}
use Rattle.ada_legality.specs.Reading.{operation_of_one_judged, plain_read, signed_judged, signed_read, sum_judged}
use Rattle.ada_legality.specs.Reading.{text_read, type_of_prefix, with_factor, with_relation, with_term}
use Rattle.ada_legality.specs.Values.{denoted_kind, denotes_function, denotes_value, is_denoted}
use Rattle.ada_legality.specs.Values.{is_function_kind, is_kind, is_object_kind, is_procedure_kind}
use Rattle.ada_legality.specs.Values.{kind_of_name, subtype_of_entity, typed_name}
use Rattle.ada_legality.specs.declared.parts.ActualPart.{ActualPart}
use Rattle.ada_legality.specs.declared.reading.NameShape.{NameShape}
use Rattle.ada_legality.specs.declared.reading.Read.{Read}
use Rattle.ada_legality.specs.declared.reading.Typed.{Typed}
use Rattle.ada_legality.specs.declared.standing.Known.{Known}
use Rattle.ada_regions.specs.Completions.{holds_of}
use Rattle.ada_regions.specs.Names.{denoted_by}
use Rattle.ada_regions.specs.Words.{all_of, and_then}
use Rattle.ann_base.specs.Lists.{is_empty}
use Rattle.ada_regions.specs.declared.entities.Denoted.{Denoted}
use Rattle.ada_regions.specs.declared.entities.EntityKind.{EntityKind}
use Rattle.ada_regions.specs.declared.types.AdaType.{AdaType}
use Rattle.ada_tree.specs.declared.expressions.Addend.{Addend}
use Rattle.ada_tree.specs.declared.expressions.Argument.{Argument}
use Rattle.ada_tree.specs.declared.expressions.AttributeDesignator.{AttributeDesignator}
use Rattle.ada_tree.specs.declared.expressions.Expression.{Expression}
use Rattle.ada_tree.specs.declared.expressions.Expression.TheFolds.{fold-Expression}
use Rattle.ada_tree.specs.declared.expressions.Expression.TheOpen.{Expression-F}
use Rattle.ada_tree.specs.declared.expressions.ExpressionForm.{ExpressionForm}
use Rattle.ada_tree.specs.declared.expressions.Multiplied.{Multiplied}
use Rattle.ada_tree.specs.declared.expressions.Operand.{Operand}
use Rattle.ada_tree.specs.declared.names.Identifier.{Identifier}
use Rattle.ada_tree.specs.declared.names.Name.{Name}
use Rattle.ada_tree.specs.declared.names.OneOrMore.{OneOrMore}
use Rattle.ada_tree.specs.declared.operators.Attribute.{Attribute}
use Rattle.ada_tree.specs.declared.operators.HighestOperator.{HighestOperator}
use Rattle.ada_tree.specs.declared.operators.LogicalOperator.{LogicalOperator}
use Rattle.ada_tree.specs.declared.operators.RelationalOperator.{RelationalOperator}
use Rattle.ada_tree.specs.declared.operators.Sign.{Sign}
use Rattle.ann_base.specs.declared.places.Place.{Place}
use Rattle.std.specs.Prelude.{Bool, List, None, Option, Some, [], cond, false, is_none}
use Rattle.std.specs.Prelude.{is_some, not, option_map, true, unwrap_or, ◌&&◌, ◌++◌, ◌||◌, ◌∷◌}
use Rattle.ada_legality.specs.declared.reading.Asked.TheVariants as asking
use Rattle.ada_tree.specs.declared.operators.Attribute.TheVariants as attribute
use Rattle.ada_regions.specs.declared.entities.EntityKind.TheVariants as entity
use Rattle.ada_tree.specs.declared.expressions.ExpressionForm.TheVariants as form
use Rattle.ada_regions.specs.declared.entities.ComponentOwner.TheVariants as owner
use Rattle.ada_legality.specs.declared.rules.Rule.TheVariants as rule
use Rattle.ada_legality.specs.declared.reading.Shape.TheVariants as shapes
use Rattle.ada_regions.specs.declared.types.AdaType.TheVariants as types
use Rattle.ada_legality.specs.declared.reading.Typed.TheVariants as typing

-- ---- names, given their arguments

-- a component is one of a variable too, where an object stands before it; a declared object; a component of a protected
-- unit

abbrev pub is_declared_object : EntityKind → Bool
is_declared_object (entity.Object s constant value declaration) = true
is_declared_object _ = false

-- the protected unit of a component
abbrev pub component_owner : EntityKind → Option AdaType
component_owner (entity.Component s (owner.Protected u) declaration) = Some (types.Protected u)
component_owner _ = None

-- what rules ask of a name that is an expression
unfoldable pub name_shape : Known → Name → Bool → NameShape
name_shape k name has_arguments = record {
  is_function = is_kind is_function_kind k name;
  is_variable = is_variable k name;
  is_declared_object = is_kind is_declared_object k name;
  component_of = and_then (kind_of_name k name) component_owner;
  is_simple_barrier = not has_arguments && is_denoted (denotes_barrier_part k) k name;
}

-- what a name without attribute is read as
unfoldable pub name_read : Known → Name → Bool → Read
name_read k name has_arguments =
    record (plain_read (place_of name) (typed_name k name has_arguments)) {
      shape = shapes.Name (name_shape k name has_arguments);
      built_as_barrier = not has_arguments && is_denoted (denotes_barrier_part k) k name;
    }

-- what an attribute of a name is read as
unfoldable pub attribute_read : Known → Name → Attribute → Bool → Read
attribute_read k name a has_arguments =
    record (plain_read (place_of name) (typed_attribute_of k name a has_arguments)) {
      piece = image_length k name a;
      line = image_length k name a;
    }

-- the index is a value of the type of the array's index
abbrev pub index_fitted : Option AdaType → List ActualPart → Found
index_fitted t [] = []
index_fitted t (a ∷ rest) = fitted asking.ForValue t a.read

-- an element of an array
unfoldable pub element_judged : Known → Place → List ActualPart → Option AdaType → Found
element_judged k place actuals None = []
element_judged k place actuals (Some t) =
    actuals_numbered k place (without_name (Some t)) actuals ++ index_fitted (Some t) actuals

-- a call or an element, by what the name denotes
unfoldable pub denoted_judged : Known → Place → List ActualPart → Denoted → Found
denoted_judged k place actuals d =
    cond (denotes_function k d) (actuals_judged k place (formals_denoted k actuals d) actuals)
    (cond (is_empty actuals) [] (element_judged k place actuals (ends_of_object k d)))

-- an object whose own declaration names no type
unfoldable pub is_unclear_object : Known → Denoted → Bool
is_unclear_object k d =
    holds_of is_object_kind (denoted_kind k.names d) && is_none (subtype_of_entity k d)

-- arguments stand behind an array alone
unfoldable pub index_fits : Known → Bool → Denoted → Bool
index_fits k false d = true
index_fits k true d = is_unclear_object k d || is_some (ends_of_object k d)

-- a value, with an index where that may stand
abbrev pub is_value_with : Known → Bool → Denoted → Bool
is_value_with k has_arguments d = denotes_value k d && index_fits k has_arguments d

-- a value, an element of an array, or a function's call
unfoldable pub may_be_value : Known → Bool → Denoted → Bool
may_be_value k has_arguments d = denotes_function k d || is_value_with k has_arguments d

-- a name denotes nothing of the kind that may stand there
abbrev pub unless_denoted : (Denoted → Bool) → Known → Name → Found
unless_denoted test k name =
    broken_unless rule.KindOfName (is_denoted test k name) (place_of name)

-- a name without attribute
unfoldable pub name_judged : Known → Name → List ActualPart → Found
name_judged k name actuals =
    unless_denoted (may_be_value k (not (is_empty actuals))) k name
    ++ unwrap_or
    (option_map (denoted_judged k (place_of name) actuals) (denoted_by k.names name)) []

-- ---- attributes (3.5, 9.9, C.7.1, 3.10.2)

-- a subtype whose own definition names no type
abbrev pub is_unclear_mark : EntityKind → Bool
is_unclear_mark (entity.Mark None) = true
is_unclear_mark _ = false

-- a subprogram of the source
abbrev pub denotes_subprogram : Known → Denoted → Bool
denotes_subprogram k d =
    holds_of (λ x. is_function_kind x || is_procedure_kind x) (denoted_kind k.names d)

-- an object or a subtype whose own declaration names no type
abbrev pub is_unclear : Known → Denoted → Bool
is_unclear k d = is_unclear_object k d || holds_of is_unclear_mark (denoted_kind k.names d)

-- what an attribute may be asked of
unfoldable pub may_have_attribute : Known → Attribute → Denoted → Bool
may_have_attribute k attribute.First d = is_some (type_of_ends k d) || is_unclear k d
may_have_attribute k attribute.Last d = is_some (type_of_ends k d) || is_unclear k d
may_have_attribute k attribute.Image d =
    has_images k d || holds_of is_unclear_mark (denoted_kind k.names d)
may_have_attribute k attribute.Count d = holds_of (has_count k) (denoted_kind k.names d)
may_have_attribute k attribute.Identity d = is_task_object k d || is_unclear_object k d
may_have_attribute k attribute.Access d = denotes_subprogram k d

-- 'Access of a subprogram that is no handler
abbrev pub no_handler_access : Known → Name → Attribute → Found
no_handler_access k name attribute.Access =
    broken_if rule.HandlerProcedure
    (is_denoted (denotes_subprogram k) k name && not (is_library_handler k name)) (place_of name)
no_handler_access k name a = []

-- an attribute without arguments
unfoldable pub attribute_alone : Known → Name → Attribute → Found
attribute_alone k name a =
    unless_denoted (may_have_attribute k a) k name ++ no_handler_access k name a

-- Image has one argument, which is a value of its type
unfoldable pub image_judged : Known → Name → List ActualPart → Option AdaType → Found
image_judged k name actuals None = attribute_alone k name attribute.Image
image_judged k name actuals (Some t) =
    actuals_numbered k (place_of name) (without_name None) actuals
    ++ index_fitted (Some t) actuals

-- another attribute, which has no argument
abbrev pub other_attribute : Known → Name → Attribute → List ActualPart → Found
other_attribute k name a [] = attribute_alone k name a
other_attribute k name a (x ∷ xs) = broken rule.Actuals (place_of name) ∷ []

-- a name with an attribute
unfoldable pub attribute_judged : Known → Name → Attribute → List ActualPart → Found
attribute_judged k name a actuals =
    cond (takes_arguments a) (image_judged k name actuals (type_of_prefix k name))
    (other_attribute k name a actuals)

-- ---- expressions, given how those in them are read

module _ {E : Type 0} (read : E → Reading) where
  -- an expression in which a function's call may not stand
  unfoldable pub operand_read : E → Reading
  operand_read e k = ((read e k).0, (read e k).1 ++ as_operand (read e k).0)

  -- a chain of logical operators
  unfoldable pub operands_read : LogicalOperator → Read → List (Operand E) → Reading
  operands_read operator left [] k = (left, [])
  operands_read operator left (o ∷ os) k =
      let right = operand_read o.relation k in
      let rest = operands_read operator (with_relation operator left right.0) os k in (
        rest.0,
        right.1
            ++ (operation_judged o.place (logical_operator operator) left.typed right.0.typed ++ rest.1),
      )

  -- a chain of adding operators
  unfoldable pub addends_read : Read → List (Addend E) → Reading
  addends_read left [] k = (left, [])
  addends_read left (a ∷ others) k =
      let right = operand_read a.term k in
      let rest = addends_read (with_term a.operator left right.0) others k in
      (rest.0, right.1 ++ (sum_judged a.place a.operator left.typed right.0.typed ++ rest.1))

  -- a chain of multiplying operators
  unfoldable pub factors_read : Read → List (Multiplied E) → Reading
  factors_read left [] k = (left, [])
  factors_read left (m ∷ others) k =
      let right = operand_read m.factor k in
      let rest = factors_read (with_factor m.operator left right.0) others k in (
        rest.0,
        right.1
            ++ (operation_judged m.place (multiplying_operator m.operator) left.typed right.0.typed
            ++ rest.1),
      )

  -- relations with a logical operator between them
  unfoldable pub logical_expression : LogicalOperator → E → OneOrMore (Operand E) → Reading
  logical_expression operator first others k =
      let left = operand_read first k in
      let rest = operands_read operator (first_relation operator left.0) (all_of others) k in
      (rest.0, left.1 ++ rest.1)

  -- two sums that are compared
  unfoldable pub relational_expression : E → Place → RelationalOperator → E → Reading
  relational_expression first at operator second k =
      let left = operand_read first k in
      let right = operand_read second k in (
        compared_read operator left.0 right.0,
        left.1 ++ (right.1
            ++ operation_judged at (relational_operator operator) left.0.typed right.0.typed),
      )

  -- terms with adding operators between them
  unfoldable pub adding_expression : E → OneOrMore (Addend E) → Reading
  adding_expression first others k =
      let left = operand_read first k in
      let rest = addends_read (first_term left.0) (all_of others) k in
      (rest.0, left.1 ++ rest.1)

  -- factors with multiplying operators between them
  unfoldable pub multiplying_expression : E → OneOrMore (Multiplied E) → Reading
  multiplying_expression first others k =
      let left = operand_read first k in
      let rest = factors_read (plain_read left.0.place left.0.typed) (all_of others) k in
      (rest.0, left.1 ++ rest.1)

  -- a sign
  unfoldable pub signed_expression : Place → Sign → E → Reading
  signed_expression at s operand k = (
    signed_read at s (read operand k).0,
    (read operand k).1 ++ signed_judged at s (read operand k).0,
  )

  -- `abs` and `not`
  unfoldable pub highest_expression : Place → HighestOperator → E → Reading
  highest_expression at operator operand k =
      let right = operand_read operand k in (
        highest_read at operator right.0,
        right.1 ++ operation_of_one_judged at (highest_operator operator) right.0.typed,
      )

  -- brackets
  unfoldable pub bracketed_expression : Place → E → Reading
  bracketed_expression at inner k = (
    bracketed_read at (read inner k).0,
    (read inner k).1 ++ call_inside (read inner k).0,
  )

  -- ---- arguments

  -- where an argument begins, with the name of its formal
  abbrev pub place_of_argument : Option Identifier → Place → Place
  place_of_argument formal place = unwrap_or (option_map (λ i. i.place) formal) place

  -- an argument that is read
  abbrev pub argument_part : Argument E → Read → ActualPart
  argument_part a r = record {
    formal = option_map (λ i. i.text) a.formal;
    place = place_of_argument a.formal r.place;
    read = r;
  }

  -- the arguments of a call, an element or an attribute
  unfoldable pub arguments_read : List (Argument E) → Known → List ActualPart × Found
  arguments_read [] k = ([], [])
  arguments_read (a ∷ others) k =
      let r = read a.value k in
      let rest = arguments_read others k in
      (argument_part a r.0 ∷ rest.0, r.1 ++ (call_inside r.0 ++ rest.1))

  -- a name, an attribute of it, an element of it or a call of it
  unfoldable pub named_expression : Name → Option AttributeDesignator → List (Argument E) → Reading
  named_expression name None arguments k =
      let actuals = arguments_read arguments k in (
        name_read k name (not (is_empty arguments)),
        actuals.1 ++ name_judged k name actuals.0,
      )
  named_expression name (Some a) arguments k =
      let actuals = arguments_read arguments k in (
        attribute_read k name a.attribute (not (is_empty arguments)),
        actuals.1 ++ attribute_judged k name a.attribute actuals.0,
      )

  -- ---- forms

  abbrev pub form_read : ExpressionForm E → Reading
  form_read (form.Logical operator first others) = logical_expression operator first others
  form_read (form.Relational left at operator right) = relational_expression left at operator right
  form_read (form.Adding first others) = adding_expression first others
  form_read (form.Signed at s operand) = signed_expression at s operand
  form_read (form.Multiplying first others) = multiplying_expression first others
  form_read (form.Highest at operator operand) = highest_expression at operator operand
  form_read (form.Number at literal) = λ k. (number_read at literal, [])
  form_read (form.Text at text) = λ k. (text_read at text, [])
  form_read (form.Null at) = λ k. (plain_read at typing.OfNull, [])
  form_read (form.Bracketed at inner) = bracketed_expression at inner
  form_read (form.Named name a arguments) = named_expression name a arguments

-- how an expression in an expression is read
abbrev pub same_reading : Reading → Reading
same_reading r = r

-- how an expression is read, given those in it
abbrev pub reading_layer : Expression-F Reading → Reading
reading_layer e = form_read same_reading e.form

-- how an expression is read
unfoldable pub read_expression : Expression → Reading
read_expression = fold-Expression Reading reading_layer

-- the type of an expression
abbrev pub typed_expression : Known → Expression → Typed
typed_expression k e = (read_expression e k).0.typed
