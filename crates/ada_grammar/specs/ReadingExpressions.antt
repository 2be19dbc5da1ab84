-- Reading expressions (4.4), given how many levels are left and how an expression is read one level further in.
use Rattle.std.specs.Prelude.{ℕ, zero, suc, Bool, ◌||◌, List, [], ◌∷◌, Option, Some, None, codes}
use Rattle.ann_base.specs.declared.places.Place.{Place}
use Rattle.ada_tree.specs.declared.operators.LogicalOperator.{LogicalOperator}
use Rattle.ada_tree.specs.declared.operators.LogicalOperator.TheVariants as logical
use Rattle.ada_tree.specs.declared.operators.RelationalOperator.{RelationalOperator}
use Rattle.ada_tree.specs.declared.operators.RelationalOperator.TheVariants as relational
use Rattle.ada_tree.specs.declared.operators.AddingOperator.{AddingOperator}
use Rattle.ada_tree.specs.declared.operators.AddingOperator.TheVariants as adding
use Rattle.ada_tree.specs.declared.operators.Sign.{Sign}
use Rattle.ada_tree.specs.declared.operators.Sign.TheVariants as signs
use Rattle.ada_tree.specs.declared.operators.MultiplyingOperator.{MultiplyingOperator}
use Rattle.ada_tree.specs.declared.operators.MultiplyingOperator.TheVariants as multiplying
use Rattle.ada_tree.specs.declared.operators.HighestOperator.{HighestOperator}
use Rattle.ada_tree.specs.declared.operators.HighestOperator.TheVariants as highest
use Rattle.ada_tree.specs.declared.operators.Attribute.{Attribute}
use Rattle.ada_tree.specs.declared.operators.Attribute.TheVariants as attributes
use Rattle.ada_tree.specs.declared.expressions.Expression.{Expression, roll-Expression}
use Rattle.ada_tree.specs.declared.expressions.ExpressionForm.{ExpressionForm}
use Rattle.ada_tree.specs.declared.expressions.ExpressionForm.TheVariants as form
use Rattle.ada_tree.specs.declared.expressions.Operand.{Operand}
use Rattle.ada_tree.specs.declared.expressions.Addend.{Addend}
use Rattle.ada_tree.specs.declared.expressions.Multiplied.{Multiplied}
use Rattle.ada_tree.specs.declared.expressions.AttributeDesignator.{AttributeDesignator}
use Rattle.ada_tree.specs.declared.expressions.Argument.{Argument}
use Rattle.ada_tree.specs.Written.{Lexeme}
use Rattle.ada_tree.specs.SpellingExpressions.{relational_text, adding_text, sign_text, highest_text, attribute_text}
use Rattle.ada_grammar.specs.Reading.{Parser, ◌>>=◌, ◌>>◌, pure, nothing, choose, is_this_delimiter}
use Rattle.ada_grammar.specs.Reading.{is_identifier, is_numeral, is_string, starts, starts_both, sees_word}
use Rattle.ada_grammar.specs.Reading.{sees_delimiter, the_word, the_delimiter, an_identifier, a_number}
use Rattle.ada_grammar.specs.Reading.{a_text, opening_of, items_of, behind_delimiter_of, name_of}

-- an expression of this form
abbrev pub formed : ExpressionForm Expression → Expression
formed f = roll-Expression (record { form = f })

-- ---- operators, each with its place

unfoldable pub relational_of : RelationalOperator → Parser (Place × RelationalOperator)
relational_of operator = the_delimiter (relational_text operator) >>= λ place. pure (place, operator)

unfoldable pub adding_of : AddingOperator → Parser (Place × AddingOperator)
adding_of operator = the_delimiter (adding_text operator) >>= λ place. pure (place, operator)

abbrev pub compares : List Lexeme → Bool
compares ls =
    sees_delimiter (codes "=") ls || (sees_delimiter (codes "/=") ls
    || (sees_delimiter (codes "<") ls || (sees_delimiter (codes "<=") ls
    || (sees_delimiter (codes ">") ls || sees_delimiter (codes ">=") ls))))

unfoldable pub comparison_of : Parser (Place × RelationalOperator)
comparison_of =
    choose (sees_delimiter (codes "=")) (relational_of relational.Equal)
    (choose (sees_delimiter (codes "/=")) (relational_of relational.NotEqual)
    (choose (sees_delimiter (codes "<")) (relational_of relational.Less)
    (choose (sees_delimiter (codes "<=")) (relational_of relational.LessOrEqual)
    (choose (sees_delimiter (codes ">")) (relational_of relational.Greater)
    (relational_of relational.GreaterOrEqual)))))

abbrev pub adds : List Lexeme → Bool
adds ls = sees_delimiter (codes "+") ls || (sees_delimiter (codes "-") ls || sees_delimiter (codes "&") ls)

unfoldable pub addition_of : Parser (Place × AddingOperator)
addition_of =
    choose (sees_delimiter (codes "+")) (adding_of adding.Plus)
    (choose (sees_delimiter (codes "-")) (adding_of adding.Minus)
    (adding_of adding.Concatenation))

abbrev pub multiplies : List Lexeme → Bool
multiplies ls = sees_delimiter (codes "*") ls
    || (sees_delimiter (codes "/") ls || (sees_word (codes "mod") ls || sees_word (codes "rem") ls))

unfoldable pub multiplying_delimiter_of : List ℕ → MultiplyingOperator → Parser (Place × MultiplyingOperator)
multiplying_delimiter_of text operator = the_delimiter text >>= λ place. pure (place, operator)

unfoldable pub multiplying_word_of : List ℕ → MultiplyingOperator → Parser (Place × MultiplyingOperator)
multiplying_word_of text operator = the_word text >>= λ place. pure (place, operator)

unfoldable pub multiplication_of : Parser (Place × MultiplyingOperator)
multiplication_of =
    choose (sees_delimiter (codes "*")) (multiplying_delimiter_of (codes "*") multiplying.Times)
    (choose (sees_delimiter (codes "/")) (multiplying_delimiter_of (codes "/") multiplying.Divide)
    (choose (sees_word (codes "mod")) (multiplying_word_of (codes "mod") multiplying.Modulus)
    (multiplying_word_of (codes "rem") multiplying.Remainder)))

abbrev pub joins : List Lexeme → Bool
joins ls = sees_word (codes "and") ls || (sees_word (codes "or") ls || sees_word (codes "xor") ls)

-- the first operator of a chain tells what the others are
unfoldable pub conjunction_of : Parser (Place × LogicalOperator)
conjunction_of = do
  place ← the_word (codes "and")
  choose (sees_word (codes "then")) (the_word (codes "then") >> pure (place, logical.AndThen))
      (pure (place, logical.And))

unfoldable pub disjunction_of : Parser (Place × LogicalOperator)
disjunction_of = do
  place ← the_word (codes "or")
  choose (sees_word (codes "else")) (the_word (codes "else") >> pure (place, logical.OrElse)) (pure (place, logical.Or))

unfoldable pub exclusive_of : Parser (Place × LogicalOperator)
exclusive_of = the_word (codes "xor") >>= λ place. pure (place, logical.Xor)

unfoldable pub logical_operator_of : Parser (Place × LogicalOperator)
logical_operator_of =
    choose (sees_word (codes "and")) conjunction_of (choose (sees_word (codes "or")) disjunction_of exclusive_of)

-- the same operator again
unfoldable pub both_words_of : List ℕ → List ℕ → Parser Place
both_words_of first second = do
  place ← the_word first
  the_word second
  pure place

abbrev pub again_of : LogicalOperator → Parser Place
again_of logical.And = the_word (codes "and")
again_of logical.Or = the_word (codes "or")
again_of logical.Xor = the_word (codes "xor")
again_of logical.AndThen = both_words_of (codes "and") (codes "then")
again_of logical.OrElse = both_words_of (codes "or") (codes "else")

abbrev pub logical_text : LogicalOperator → List ℕ
logical_text logical.And = codes "and"
logical_text logical.Or = codes "or"
logical_text logical.Xor = codes "xor"
logical_text logical.AndThen = codes "and"
logical_text logical.OrElse = codes "or"

-- ---- attributes (4.1.4)

unfoldable pub this_attribute_of : Attribute → Parser AttributeDesignator
this_attribute_of attribute = the_word (attribute_text attribute)
    >>= λ place. pure (record { place = place; attribute = attribute })

unfoldable pub attribute_word_of : Parser AttributeDesignator
attribute_word_of =
    choose (sees_word (codes "first")) (this_attribute_of attributes.First)
    (choose (sees_word (codes "last")) (this_attribute_of attributes.Last)
    (choose (sees_word (codes "image")) (this_attribute_of attributes.Image)
    (choose (sees_word (codes "count")) (this_attribute_of attributes.Count)
    (choose (sees_word (codes "identity")) (this_attribute_of attributes.Identity)
    (this_attribute_of attributes.Access)))))

-- ["'" ATTRIBUTE]
unfoldable pub designator_of : Parser (Option AttributeDesignator)
designator_of =
    choose (sees_delimiter (codes "'"))
    (do the_delimiter (codes "'"); word ← attribute_word_of; pure (Some word)) (pure None)

-- ---- the productions

abbrev pub names_formal : List Lexeme → Bool
names_formal ls = starts_both is_identifier (is_this_delimiter (codes "=>")) ls

module _ (left : ℕ) (inner : Parser Expression) where
  -- [NAME "=>"] expression
  unfoldable pub named_argument_of : Parser (Argument Expression)
  named_argument_of = do
    formal ← an_identifier
    the_delimiter (codes "=>")
    value ← inner
    pure (record { formal = Some formal; value = value })

  unfoldable pub argument_of : Parser (Argument Expression)
  argument_of =
      choose names_formal named_argument_of (inner >>= λ value. pure (record { formal = None; value = value }))

  -- "(" argument {"," argument} ")"
  unfoldable pub given_arguments_of : Parser (List (Argument Expression))
  given_arguments_of = do
    opening_of left
    first ← argument_of
    others ← items_of (sees_delimiter (codes ",")) (behind_delimiter_of (codes ",") argument_of)
    the_delimiter (codes ")")
    pure (first ∷ others)

  unfoldable pub arguments_of : Parser (List (Argument Expression))
  arguments_of = choose (sees_delimiter (codes "(")) given_arguments_of (pure [])

  -- primary (4.4)
  unfoldable pub named_of : Parser Expression
  named_of = do
    name ← name_of
    attribute ← designator_of
    arguments ← arguments_of
    pure (formed (form.Named name attribute arguments))

  unfoldable pub bracketed_of : Parser Expression
  bracketed_of = do
    place ← opening_of left
    expression ← inner
    the_delimiter (codes ")")
    pure (formed (form.Bracketed place expression))

  unfoldable pub primary_of : Parser Expression
  primary_of =
      choose (starts is_numeral) (a_number >>= λ number. pure (formed (form.Number number.0 number.1)))
      (choose (starts is_string) (a_text >>= λ text. pure (formed (form.Text text.0 text.1)))
      (choose (sees_word (codes "null")) (the_word (codes "null") >>= λ place. pure (formed (form.Null place)))
      (choose (sees_delimiter (codes "(")) bracketed_of
      named_of)))

  -- ["abs" | "not"] primary
  unfoldable pub highest_of : HighestOperator → Parser Expression
  highest_of operator = do
    place ← the_word (highest_text operator)
    operand ← primary_of
    pure (formed (form.Highest place operator operand))

  unfoldable pub factor_of : Parser Expression
  factor_of =
      choose (sees_word (codes "abs")) (highest_of highest.Absolute)
      (choose (sees_word (codes "not")) (highest_of highest.Not) primary_of)

  -- factor {("*" | "/" | "mod" | "rem") factor}
  unfoldable pub multiplied_of : Parser (Multiplied Expression)
  multiplied_of = do
    operator ← multiplication_of
    factor ← factor_of
    pure (record { place = operator.0; operator = operator.1; factor = factor })

  unfoldable pub product_of : Expression → Parser Expression
  product_of first = do
    second ← multiplied_of
    others ← items_of multiplies multiplied_of
    pure (formed (form.Multiplying first (record { first = second; others = others })))

  unfoldable pub term_of : Parser Expression
  term_of = factor_of >>= λ first. choose multiplies (product_of first) (pure first)

  -- ["+" | "-"] term {("+" | "-" | "&") term}
  unfoldable pub signed_of : Sign → Parser Expression
  signed_of sign = do
    place ← the_delimiter (sign_text sign)
    operand ← term_of
    pure (formed (form.Signed place sign operand))

  unfoldable pub first_term_of : Parser Expression
  first_term_of =
      choose (sees_delimiter (codes "+")) (signed_of signs.Plus)
      (choose (sees_delimiter (codes "-")) (signed_of signs.Minus) term_of)

  unfoldable pub addend_of : Parser (Addend Expression)
  addend_of = do
    operator ← addition_of
    term ← term_of
    pure (record { place = operator.0; operator = operator.1; term = term })

  unfoldable pub addition_behind_of : Expression → Parser Expression
  addition_behind_of first = do
    second ← addend_of
    others ← items_of adds addend_of
    pure (formed (form.Adding first (record { first = second; others = others })))

  unfoldable pub sum_of : Parser Expression
  sum_of = first_term_of >>= λ first. choose adds (addition_behind_of first) (pure first)

  -- sum [("=" | "/=" | "<" | "<=" | ">" | ">=") sum]
  unfoldable pub compared_of : Expression → Parser Expression
  compared_of first = do
    operator ← comparison_of
    second ← sum_of
    pure (formed (form.Relational first operator.0 operator.1 second))

  unfoldable pub relation_of : Parser Expression
  relation_of = sum_of >>= λ first. choose compares (compared_of first) (pure first)

  -- relation {"and" relation}, and so with the other logical operators
  unfoldable pub operand_of : LogicalOperator → Parser (Operand Expression)
  operand_of operator = do
    place ← again_of operator
    relation ← relation_of
    pure (record { place = place; relation = relation })

  unfoldable pub joined_of : Expression → Parser Expression
  joined_of first = do
    operator ← logical_operator_of
    second ← relation_of
    others ← items_of (sees_word (logical_text operator.1)) (operand_of operator.1)
    pure (formed (form.Logical operator.1 first (record {
      first = record { place = operator.0; relation = second };
      others = others;
    })))

  unfoldable pub logical_of : Parser Expression
  logical_of = relation_of >>= λ first. choose joins (joined_of first) (pure first)

-- ---- expressions

-- an expression, where so many levels are left
unfoldable pub expression_of : ℕ → Parser Expression
expression_of zero = logical_of zero nothing
expression_of (suc left) = logical_of (suc left) (expression_of left)

-- an expression one level further in
unfoldable pub inner_of : ℕ → Parser Expression
inner_of zero = nothing
inner_of (suc left) = expression_of left
