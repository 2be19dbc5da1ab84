-- Expressions of clear names: each name has a type, each constant and each end of a range a value, and each index a
-- type of values. Where the table of names lacks one of these, another rule is broken at the declaration.
use Rattle.std.specs.List.{list_all, list_any}
use Rattle.std.specs.Prelude.{ℕ, bytes_eq, is_some, Bool, true, false, not, ◌&&◌, List, [], ◌∷◌, Option, Some, None}
use Rattle.ada_tree.specs.declared.names.Name.{Name}
use Rattle.ada_tree.specs.declared.operators.Attribute.{Attribute}
use Rattle.ada_tree.specs.declared.operators.Attribute.TheVariants as attribute
use Rattle.ada_tree.specs.declared.expressions.Expression.{Expression}
use Rattle.ada_tree.specs.declared.expressions.Expression.TheOpen.{Expression-F}
use Rattle.ada_tree.specs.declared.expressions.Expression.TheFolds.{fold-Expression}
use Rattle.ada_tree.specs.declared.expressions.ExpressionForm.{ExpressionForm}
use Rattle.ada_tree.specs.declared.expressions.ExpressionForm.TheVariants as form
use Rattle.ada_tree.specs.declared.expressions.Operand.{Operand}
use Rattle.ada_tree.specs.declared.expressions.Addend.{Addend}
use Rattle.ada_tree.specs.declared.expressions.Multiplied.{Multiplied}
use Rattle.ada_tree.specs.declared.expressions.Argument.{Argument}
use Rattle.ada_tree.specs.declared.expressions.AttributeDesignator.{AttributeDesignator}
use Rattle.ada_regions.specs.declared.entities.Denoted.{Denoted}
use Rattle.ada_regions.specs.declared.entities.Denoted.TheVariants as denotes
use Rattle.ada_regions.specs.declared.predefined.Predefined.{Predefined}
use Rattle.ada_regions.specs.declared.predefined.Predefined.TheVariants as items
use Rattle.ada_regions.specs.declared.table.Names.{Names}
use Rattle.ada_regions.specs.declared.types.AdaType.{AdaType}
use Rattle.ada_regions.specs.declared.types.Formal.{Formal}
use Rattle.ada_regions.specs.Names.{denoted_by}
use Rattle.ada_regions.specs.Statics.{attribute_value}
use Rattle.ann_base.specs.Lists.{is_empty}
use Rattle.ada_image.specs.Layout.{is_thing}
use Rattle.ada_image.specs.ImageOfCalls.{names_of}
use Rattle.ada_legality.specs.declared.reading.Typed.{Typed}
use Rattle.ada_legality.specs.declared.reading.Typed.TheVariants as typing
use Rattle.ada_legality.specs.declared.standing.Known.{Known}
use Rattle.ada_legality.specs.Types.{has_type}
use Rattle.ada_legality.specs.Values.{typed_name}
use Rattle.ada_legality.specs.Attributes.{ends_of_object, typed_attribute_of}
use Rattle.ada_image.specs.BuiltExpressions.{is_given, is_given_if}

-- a type of values: no text, `null`, handler or thing
abbrev pub has_values : Typed → Bool
has_values (typing.OfSubtype s) = not (is_thing s.of_type)
has_values typing.OfWholeNumber = true
has_values typing.OfPointedNumber = true
has_values _ = false

-- ---- names

abbrev pub item_clear : Predefined → Bool
item_clear (items.Constant of_type x) = is_given x
item_clear _ = true

abbrev pub constant_clear : Option Denoted → Bool
constant_clear (Some (denotes.Item u item)) = item_clear item
constant_clear _ = true

-- the type of an array's index, where there is one
abbrev pub index_clear : Option AdaType → Bool
index_clear None = true
index_clear (Some t) = not (is_thing t)

abbrev pub denoted_clear : Known → Option Denoted → Bool
denoted_clear k None = true
denoted_clear k (Some d) = index_clear (ends_of_object k d)

abbrev pub name_clear : Known → Name → Bool → Bool
name_clear k name has_arguments =
    has_type (typed_name k name has_arguments)
    && (constant_clear (denoted_by k.names name) && denoted_clear k (denoted_by k.names name))

abbrev pub ends_clear : Names → Name → Attribute → Bool
ends_clear n name attribute.First = is_given_if (attribute_value n name attribute.First)
ends_clear n name attribute.Last = is_given_if (attribute_value n name attribute.Last)
ends_clear n name _ = true

abbrev pub attribute_clear : Known → Name → Attribute → Bool → Bool
attribute_clear k name a has_arguments = has_type (typed_attribute_of k name a has_arguments)
    && ends_clear k.names name a

-- ---- forms, given which of the expressions in them are clear

abbrev pub Clear : Type 0
Clear = Known → Bool

module _ {E : Type 0} (clear : E → Clear) where
  abbrev pub operands_clear : List (Operand E) → Clear
  operands_clear os k = list_all (λ o. clear o.relation k) os

  abbrev pub addends_clear : List (Addend E) → Clear
  addends_clear addends k = list_all (λ a. clear a.term k) addends

  abbrev pub factors_clear : List (Multiplied E) → Clear
  factors_clear factors k = list_all (λ m. clear m.factor k) factors

  abbrev pub arguments_clear : List (Argument E) → Clear
  arguments_clear arguments k = list_all (λ a. clear a.value k) arguments

  abbrev pub named_clear : Name → Option AttributeDesignator → List (Argument E) → Clear
  named_clear name None arguments k = name_clear k name (not (is_empty arguments)) && arguments_clear arguments k
  named_clear name (Some a) arguments k = attribute_clear k name a.attribute (not (is_empty arguments))
      && arguments_clear arguments k

  abbrev pub form_clear : ExpressionForm E → Clear
  form_clear (form.Logical operator first others) k = clear first k && operands_clear (others.first ∷ others.others) k
  form_clear (form.Relational left place operator right) k = clear left k && clear right k
  form_clear (form.Adding first others) k = clear first k && addends_clear (others.first ∷ others.others) k
  form_clear (form.Signed place s operand) k = clear operand k
  form_clear (form.Multiplying first others) k = clear first k && factors_clear (others.first ∷ others.others) k
  form_clear (form.Highest place operator operand) k = clear operand k
  form_clear (form.Number place literal) k = true
  form_clear (form.Text place text) k = true
  form_clear (form.Null place) k = true
  form_clear (form.Bracketed place inner) k = clear inner k
  form_clear (form.Named name a arguments) k = named_clear name a arguments k

abbrev pub same_clear : Clear → Clear
same_clear clear = clear

abbrev pub clear_layer : Expression-F Clear → Clear
clear_layer e = form_clear same_clear e.form

abbrev pub expression_clear : Expression → Clear
expression_clear = fold-Expression Clear clear_layer

-- ---- formals: their names stand apart, and each has a type

abbrev pub names_clear : List (List ℕ) → Bool
names_clear [] = true
names_clear (name ∷ names) = not (bytes_eq [] name) && (not (list_any (bytes_eq name) names) && names_clear names)

abbrev pub types_clear : List Formal → Bool
types_clear formals = list_all (λ f. is_some f.subtype) formals

abbrev pub formals_clear : List Formal → Bool
formals_clear formals = names_clear (names_of formals) && types_clear formals
