-- How expressions are spelt (4.4, 4.5).
use Rattle.std.specs.Prelude.{ℕ, List, [], ◌∷◌, ◌++◌, codes}
use Rattle.ann_base.specs.declared.places.Place.{Place}
use Rattle.ada_tree.specs.declared.names.Identifier.{Identifier}
use Rattle.ada_tree.specs.declared.operators.LogicalOperator.{LogicalOperator}
use Rattle.ada_tree.specs.declared.operators.LogicalOperator.TheVariants as logical
use Rattle.ada_tree.specs.declared.operators.RelationalOperator.{RelationalOperator}
use Rattle.ada_tree.specs.declared.operators.RelationalOperator.TheVariants as relational
use Rattle.ada_tree.specs.declared.operators.AddingOperator.{AddingOperator}
use Rattle.ada_tree.specs.declared.operators.AddingOperator.TheVariants as adding
use Rattle.ada_tree.specs.declared.operators.Sign.{Sign}
use Rattle.ada_tree.specs.declared.operators.Sign.TheVariants as sign
use Rattle.ada_tree.specs.declared.operators.MultiplyingOperator.{MultiplyingOperator}
use Rattle.ada_tree.specs.declared.operators.MultiplyingOperator.TheVariants as multiplying
use Rattle.ada_tree.specs.declared.operators.HighestOperator.{HighestOperator}
use Rattle.ada_tree.specs.declared.operators.HighestOperator.TheVariants as highest
use Rattle.ada_tree.specs.declared.operators.Attribute.{Attribute}
use Rattle.ada_tree.specs.declared.operators.Attribute.TheVariants as attribute
use Rattle.ada_tree.specs.declared.expressions.Expression.{Expression}
use Rattle.ada_tree.specs.declared.expressions.Expression.TheOpen.{Expression-F}
use Rattle.ada_tree.specs.declared.expressions.Expression.TheFolds.{fold-Expression}
use Rattle.ada_tree.specs.declared.expressions.ExpressionForm.{ExpressionForm}
use Rattle.ada_tree.specs.declared.expressions.ExpressionForm.TheVariants as form
use Rattle.ada_tree.specs.declared.expressions.Operand.{Operand}
use Rattle.ada_tree.specs.declared.expressions.Addend.{Addend}
use Rattle.ada_tree.specs.declared.expressions.Multiplied.{Multiplied}
use Rattle.ada_tree.specs.declared.expressions.AttributeDesignator.{AttributeDesignator}
use Rattle.ada_tree.specs.declared.expressions.Argument.{Argument}
use Rattle.ada_tree.specs.Written.{Written, word, word_at, delimiter, delimiter_at, number_at, text_at}
use Rattle.ada_tree.specs.Written.{identifier_written, all_written, optional, enclosed, name_written}

-- ---- operators

abbrev pub logical_written : LogicalOperator → Place → List Written
logical_written logical.And place = word_at place (codes "and") ∷ []
logical_written logical.Or place = word_at place (codes "or") ∷ []
logical_written logical.Xor place = word_at place (codes "xor") ∷ []
logical_written logical.AndThen place = word_at place (codes "and") ∷ word (codes "then") ∷ []
logical_written logical.OrElse place = word_at place (codes "or") ∷ word (codes "else") ∷ []

abbrev pub relational_text : RelationalOperator → List ℕ
relational_text relational.Equal = codes "="
relational_text relational.NotEqual = codes "/="
relational_text relational.Less = codes "<"
relational_text relational.LessOrEqual = codes "<="
relational_text relational.Greater = codes ">"
relational_text relational.GreaterOrEqual = codes ">="

abbrev pub adding_text : AddingOperator → List ℕ
adding_text adding.Plus = codes "+"
adding_text adding.Minus = codes "-"
adding_text adding.Concatenation = codes "&"

abbrev pub sign_text : Sign → List ℕ
sign_text sign.Plus = codes "+"
sign_text sign.Minus = codes "-"

abbrev pub multiplying_written : MultiplyingOperator → Place → Written
multiplying_written multiplying.Times place = delimiter_at place (codes "*")
multiplying_written multiplying.Divide place = delimiter_at place (codes "/")
multiplying_written multiplying.Modulus place = word_at place (codes "mod")
multiplying_written multiplying.Remainder place = word_at place (codes "rem")

abbrev pub highest_text : HighestOperator → List ℕ
highest_text highest.Absolute = codes "abs"
highest_text highest.Not = codes "not"

abbrev pub attribute_text : Attribute → List ℕ
attribute_text attribute.First = codes "first"
attribute_text attribute.Last = codes "last"
attribute_text attribute.Image = codes "image"
attribute_text attribute.Count = codes "count"
attribute_text attribute.Identity = codes "identity"
attribute_text attribute.Access = codes "access"

abbrev pub designator_written : AttributeDesignator → List Written
designator_written d = delimiter (codes "'") ∷ word_at d.place (attribute_text d.attribute) ∷ []

-- ---- the forms, given how the expressions in them are spelt

-- [NAME "=>"]
abbrev pub formal_written : Identifier → List Written
formal_written name = identifier_written name ∷ delimiter (codes "=>") ∷ []

module _ {E : Type 0} (expression : E → List Written) where
  abbrev pub operand_written : LogicalOperator → Operand E → List Written
  operand_written operator o = logical_written operator o.place ++ expression o.relation

  abbrev pub addend_written : Addend E → List Written
  addend_written a = delimiter_at a.place (adding_text a.operator) ∷ expression a.term

  abbrev pub multiplied_written : Multiplied E → List Written
  multiplied_written m = multiplying_written m.operator m.place ∷ expression m.factor

  -- [NAME "=>"] expression
  abbrev pub argument_written : Argument E → List Written
  argument_written a = optional formal_written a.formal ++ expression a.value

  -- ["(" argument {"," argument} ")"]
  abbrev pub arguments_written : List (Argument E) → List Written
  arguments_written =
      enclosed (delimiter (codes "(")) (delimiter (codes ",")) (delimiter (codes ")") ∷ []) argument_written

  abbrev pub form_written : ExpressionForm E → List Written
  form_written (form.Logical operator first others) = expression first ++ all_written (operand_written operator) others
  form_written (form.Relational left place operator right) = expression left
      ++ delimiter_at place (relational_text operator) ∷ expression right
  form_written (form.Adding first others) = expression first ++ all_written addend_written others
  form_written (form.Signed place sign operand) = delimiter_at place (sign_text sign) ∷ expression operand
  form_written (form.Multiplying first others) = expression first ++ all_written multiplied_written others
  form_written (form.Highest place operator operand) = word_at place (highest_text operator) ∷ expression operand
  form_written (form.Number place literal) = number_at place literal ∷ []
  form_written (form.Text place text) = text_at place text ∷ []
  form_written (form.Null place) = word_at place (codes "null") ∷ []
  form_written (form.Bracketed place inner) = delimiter_at place (codes "(")
      ∷ (expression inner ++ delimiter (codes ")") ∷ [])
  form_written (form.Named name attribute arguments) = name_written name
      ++ (optional designator_written attribute ++ arguments_written arguments)

-- ---- expressions

abbrev pub as_it_is : List Written → List Written
as_it_is written = written

abbrev pub expression_layer : Expression-F (List Written) → List Written
expression_layer e = form_written as_it_is e.form

abbrev pub expression_written : Expression → List Written
expression_written = fold-Expression (List Written) expression_layer
