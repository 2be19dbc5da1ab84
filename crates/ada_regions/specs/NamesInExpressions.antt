-- The names in expressions (clause 4), in the order of the text.
use Rattle.std.specs.Prelude.{List, [], ◌∷◌, ◌++◌}
use Rattle.std.specs.List.{flat_map}
use Rattle.ada_tree.specs.declared.expressions.Expression.{Expression}
use Rattle.ada_tree.specs.declared.expressions.Expression.TheOpen.{Expression-F}
use Rattle.ada_tree.specs.declared.expressions.Expression.TheFolds.{fold-Expression}
use Rattle.ada_tree.specs.declared.expressions.ExpressionForm.{ExpressionForm}
use Rattle.ada_tree.specs.declared.expressions.ExpressionForm.TheVariants as form
use Rattle.ada_tree.specs.declared.expressions.Operand.{Operand}
use Rattle.ada_tree.specs.declared.expressions.Addend.{Addend}
use Rattle.ada_tree.specs.declared.expressions.Multiplied.{Multiplied}
use Rattle.ada_tree.specs.declared.expressions.Argument.{Argument}
use Rattle.ada_regions.specs.Occurrences.{Occurrences, mentions, in_all}

module _ {E : Type 0} (expression : E → Occurrences) where
  abbrev pub names_in_operand : Operand E → Occurrences
  names_in_operand o = expression o.relation

  abbrev pub names_in_addend : Addend E → Occurrences
  names_in_addend a = expression a.term

  abbrev pub names_in_multiplied : Multiplied E → Occurrences
  names_in_multiplied m = expression m.factor

  -- the formal's name before an arrow is no name of its own (6.4)
  abbrev pub names_in_argument : Argument E → Occurrences
  names_in_argument a = expression a.value

  abbrev pub names_in_arguments : List (Argument E) → Occurrences
  names_in_arguments arguments = flat_map names_in_argument arguments

  abbrev pub names_in_form : ExpressionForm E → Occurrences
  names_in_form (form.Logical operator first others) = expression first ++ in_all names_in_operand others
  names_in_form (form.Relational left place operator right) = expression left ++ expression right
  names_in_form (form.Adding first others) = expression first ++ in_all names_in_addend others
  names_in_form (form.Signed place sign operand) = expression operand
  names_in_form (form.Multiplying first others) = expression first ++ in_all names_in_multiplied others
  names_in_form (form.Highest place operator operand) = expression operand
  names_in_form (form.Number place literal) = []
  names_in_form (form.Text place text) = []
  names_in_form (form.Null place) = []
  names_in_form (form.Bracketed place inner) = expression inner
  names_in_form (form.Named name attribute arguments) = mentions name ∷ names_in_arguments arguments

abbrev pub same_names : Occurrences → Occurrences
same_names names = names

abbrev pub names_layer : Expression-F Occurrences → Occurrences
names_layer e = names_in_form same_names e.form

abbrev pub names_in_expression : Expression → Occurrences
names_in_expression = fold-Expression Occurrences names_layer
