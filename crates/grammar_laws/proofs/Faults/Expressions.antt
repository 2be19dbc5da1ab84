-- Expressions: what is read hangs on no later token.
use Rattle.std.proofs.Common.{ℕ, zero, suc, List, codes}
use Rattle.ada_tree.specs.declared.operators.LogicalOperator.{LogicalOperator}
use Rattle.ada_tree.specs.declared.operators.LogicalOperator.TheVariants as logical
use Rattle.ada_tree.specs.declared.operators.RelationalOperator.{RelationalOperator}
use Rattle.ada_tree.specs.declared.operators.RelationalOperator.TheVariants as relational
use Rattle.ada_tree.specs.declared.operators.AddingOperator.{AddingOperator}
use Rattle.ada_tree.specs.declared.operators.AddingOperator.TheVariants as adding
use Rattle.ada_tree.specs.declared.operators.Sign.{Sign}
use Rattle.ada_tree.specs.declared.operators.Sign.TheVariants as signs
use Rattle.ada_tree.specs.declared.operators.MultiplyingOperator.{MultiplyingOperator}
use Rattle.ada_tree.specs.declared.operators.MultiplyingOperator.TheVariants as multiplying
use Rattle.ada_tree.specs.declared.operators.HighestOperator.{HighestOperator}
use Rattle.ada_tree.specs.declared.operators.HighestOperator.TheVariants as highest
use Rattle.ada_tree.specs.declared.operators.Attribute.{Attribute}
use Rattle.ada_tree.specs.declared.operators.Attribute.TheVariants as attributes
use Rattle.ada_tree.specs.declared.expressions.Expression.{Expression}
use Rattle.ada_tree.specs.SpellingExpressions.{highest_text}
use Rattle.ada_grammar.specs.Reading.{Parser, nothing, is_this_word, is_this_delimiter}
use Rattle.ada_grammar.specs.ReadingExpressions.{relational_of, adding_of, compares, comparison_of, adds, addition_of, multiplies}
use Rattle.ada_grammar.specs.ReadingExpressions.{multiplying_delimiter_of, multiplying_word_of, multiplication_of, joins, conjunction_of}
use Rattle.ada_grammar.specs.ReadingExpressions.{disjunction_of, exclusive_of, logical_operator_of, both_words_of, again_of}
use Rattle.ada_grammar.specs.ReadingExpressions.{this_attribute_of, attribute_word_of, designator_of, named_argument_of, argument_of}
use Rattle.ada_grammar.specs.ReadingExpressions.{given_arguments_of, arguments_of, named_of, bracketed_of, primary_of, highest_of, factor_of}
use Rattle.ada_grammar.specs.ReadingExpressions.{multiplied_of, product_of, term_of, signed_of, first_term_of, addend_of, addition_behind_of}
use Rattle.ada_grammar.specs.ReadingExpressions.{sum_of, compared_of, relation_of, operand_of, joined_of, logical_of, expression_of, inner_of}
use Rattle.grammar_laws.proofs.Faults.Local.{Local, Eats, Head, local_pure, local_nothing, local_then, local_choose, head_starts, head_or, local_word}
use Rattle.grammar_laws.proofs.Faults.Local.{local_delimiter, local_identifier, local_number, local_text, eats_first, eats_choose, eats_word}
use Rattle.grammar_laws.proofs.Faults.Local.{eats_delimiter, local_opening, local_items, local_behind_delimiter, eats_behind_delimiter, local_name}
use Rattle.grammar_laws.proofs.Faults.Passing.{Takes, takes_then, takes_word, takes_number, takes_text, passes_identifier, passes_name}
use Rattle.grammar_laws.proofs.Faults.Passing.{passes_choose, passes_delimiter, local_choose_both, local_stuck_then, never_opens, Inside, Passes}

pub local_relational : (operator : RelationalOperator) → Local (relational_of operator)
unfolding relational_of
local_relational operator = local_then (local_delimiter _) (λ place. local_pure _)

pub local_adding : (operator : AddingOperator) → Local (adding_of operator)
unfolding adding_of
local_adding operator = local_then (local_delimiter _) (λ place. local_pure _)

pub eats_adding : (operator : AddingOperator) → Eats (adding_of operator)
unfolding adding_of
eats_adding operator = eats_first (eats_delimiter _) (λ place. local_pure _)

pub head_compares : Head compares
head_compares = head_or (head_starts _) (head_or (head_starts _) (head_or (head_starts _) (head_or (head_starts _) (head_or (head_starts _) (head_starts _)))))

pub local_comparison : Local comparison_of
unfolding comparison_of
local_comparison =
    local_choose (head_starts _) (local_relational relational.Equal)
    (local_choose (head_starts _) (local_relational relational.NotEqual)
    (local_choose (head_starts _) (local_relational relational.Less)
    (local_choose (head_starts _) (local_relational relational.LessOrEqual)
    (local_choose (head_starts _) (local_relational relational.Greater) (local_relational relational.GreaterOrEqual)))))

pub head_adds : Head adds
head_adds = head_or (head_starts _) (head_or (head_starts _) (head_starts _))

pub local_addition : Local addition_of
unfolding addition_of
local_addition =
    local_choose (head_starts _) (local_adding adding.Plus) (local_choose (head_starts _) (local_adding adding.Minus) (local_adding adding.Concatenation))

pub eats_addition : Eats addition_of
unfolding addition_of
eats_addition = eats_choose _ (eats_adding adding.Plus) (eats_choose _ (eats_adding adding.Minus) (eats_adding adding.Concatenation))

pub head_multiplies : Head multiplies
head_multiplies = head_or (head_starts _) (head_or (head_starts _) (head_or (head_starts _) (head_starts _)))

pub local_multiplying_delimiter : (text : List ℕ) (operator : MultiplyingOperator) → Local (multiplying_delimiter_of text operator)
unfolding multiplying_delimiter_of
local_multiplying_delimiter text operator = local_then (local_delimiter _) (λ place. local_pure _)

pub eats_multiplying_delimiter : (text : List ℕ) (operator : MultiplyingOperator) → Eats (multiplying_delimiter_of text operator)
unfolding multiplying_delimiter_of
eats_multiplying_delimiter text operator = eats_first (eats_delimiter _) (λ place. local_pure _)

pub local_multiplying_word : (text : List ℕ) (operator : MultiplyingOperator) → Local (multiplying_word_of text operator)
unfolding multiplying_word_of
local_multiplying_word text operator = local_then (local_word _) (λ place. local_pure _)

pub eats_multiplying_word : (text : List ℕ) (operator : MultiplyingOperator) → Eats (multiplying_word_of text operator)
unfolding multiplying_word_of
eats_multiplying_word text operator = eats_first (eats_word _) (λ place. local_pure _)

pub local_multiplication : Local multiplication_of
unfolding multiplication_of
local_multiplication =
    local_choose (head_starts _) (local_multiplying_delimiter (codes "*") multiplying.Times)
    (local_choose (head_starts _) (local_multiplying_delimiter (codes "/") multiplying.Divide)
    (local_choose (head_starts _) (local_multiplying_word (codes "mod") multiplying.Modulus) (local_multiplying_word (codes "rem") multiplying.Remainder)))

pub eats_multiplication : Eats multiplication_of
unfolding multiplication_of
eats_multiplication =
    eats_choose _ (eats_multiplying_delimiter (codes "*") multiplying.Times)
    (eats_choose _ (eats_multiplying_delimiter (codes "/") multiplying.Divide)
    (eats_choose _ (eats_multiplying_word (codes "mod") multiplying.Modulus) (eats_multiplying_word (codes "rem") multiplying.Remainder)))

pub head_joins : Head joins
head_joins = head_or (head_starts _) (head_or (head_starts _) (head_starts _))

pub local_conjunction : Local conjunction_of
unfolding conjunction_of
local_conjunction = local_then (local_word _) (λ place. local_choose (head_starts _) (local_then (local_word _) (λ _. local_pure _)) (local_pure _))

pub local_disjunction : Local disjunction_of
unfolding disjunction_of
local_disjunction = local_then (local_word _) (λ place. local_choose (head_starts _) (local_then (local_word _) (λ _. local_pure _)) (local_pure _))

pub local_exclusive : Local exclusive_of
unfolding exclusive_of
local_exclusive = local_then (local_word _) (λ place. local_pure _)

pub local_logical_operator : Local logical_operator_of
unfolding logical_operator_of
local_logical_operator = local_choose (head_starts _) local_conjunction (local_choose (head_starts _) local_disjunction local_exclusive)

pub local_both_words : (first : List ℕ) (second : List ℕ) → Local (both_words_of first second)
unfolding both_words_of
local_both_words first second = local_then (local_word _) (λ place. local_then (local_word _) (λ _. local_pure _))

pub eats_both_words : (first : List ℕ) (second : List ℕ) → Eats (both_words_of first second)
unfolding both_words_of
eats_both_words first second = eats_first (eats_word _) (λ place. local_then (local_word _) (λ _. local_pure _))

pub local_again : (a0 : LogicalOperator) → Local (again_of a0)
local_again logical.And = local_word _
local_again logical.Or = local_word _
local_again logical.Xor = local_word _
local_again logical.AndThen = local_both_words (codes "and") (codes "then")
local_again logical.OrElse = local_both_words (codes "or") (codes "else")

pub eats_again : (a0 : LogicalOperator) → Eats (again_of a0)
eats_again logical.And = eats_word _
eats_again logical.Or = eats_word _
eats_again logical.Xor = eats_word _
eats_again logical.AndThen = eats_both_words (codes "and") (codes "then")
eats_again logical.OrElse = eats_both_words (codes "or") (codes "else")

pub local_this_attribute : (attribute : Attribute) → Local (this_attribute_of attribute)
unfolding this_attribute_of
local_this_attribute attribute = local_then (local_word _) (λ place. local_pure _)

pub local_attribute_word : Local attribute_word_of
unfolding attribute_word_of
local_attribute_word =
    local_choose (head_starts _) (local_this_attribute attributes.First)
    (local_choose (head_starts _) (local_this_attribute attributes.Last)
    (local_choose (head_starts _) (local_this_attribute attributes.Image)
    (local_choose (head_starts _) (local_this_attribute attributes.Count)
    (local_choose (head_starts _) (local_this_attribute attributes.Identity) (local_this_attribute attributes.Access)))))

pub local_designator : Local designator_of
unfolding designator_of
local_designator = local_choose (head_starts _) (local_then (local_delimiter _) (λ _. local_then local_attribute_word (λ word. local_pure _))) (local_pure _)

pub local_named_argument : (left : ℕ) (inner : Parser Expression) (inside : Inside left inner) → Local (named_argument_of left inner)
unfolding named_argument_of
local_named_argument left inner inside =
    local_then local_identifier (λ formal. local_then (local_delimiter _) (λ _. local_then inside.local (λ value. local_pure _)))

pub passes_named_argument : (left : ℕ) (inner : Parser Expression) (inside : Inside left inner) → Passes (named_argument_of left inner)
unfolding named_argument_of
passes_named_argument left inner inside =
    (takes_then passes_identifier (λ formal. local_then (local_delimiter _) (λ _. local_then inside.local (λ value. local_pure _))))

pub local_argument : (left : ℕ) (inner : Parser Expression) (inside : Inside left inner) (passes : Passes inner) → Local (argument_of left inner)
unfolding argument_of
local_argument left inner inside passes =
    local_choose_both (is_this_delimiter (codes "=>")) _ _ (local_named_argument left inner inside) (local_then inside.local (λ value. local_pure _))
    (passes_named_argument left inner inside) (takes_then passes (λ value. local_pure _))

pub local_given_arguments : (left : ℕ) (inner : Parser Expression) (inside : Inside left inner) → Local (given_arguments_of left inner)
unfolding given_arguments_of
local_given_arguments zero inner inside = local_stuck_then _ (local_opening zero) never_opens
local_given_arguments (suc left) inner inside =
    let argument = local_argument (suc left) inner inside inside.passes in
    local_then (local_opening (suc left))
    (λ _. local_then argument
    (λ first. local_then (local_items (head_starts _) (local_behind_delimiter _ argument) (eats_behind_delimiter _ argument))
    (λ others. local_then (local_delimiter _) (λ _. local_pure _))))

pub local_arguments : (left : ℕ) (inner : Parser Expression) (inside : Inside left inner) → Local (arguments_of left inner)
unfolding arguments_of
local_arguments left inner inside = local_choose (head_starts _) (local_given_arguments left inner inside) (local_pure _)

pub local_named : (left : ℕ) (inner : Parser Expression) (inside : Inside left inner) → Local (named_of left inner)
unfolding named_of
local_named left inner inside =
    local_then local_name (λ name. local_then local_designator (λ attribute. local_then (local_arguments left inner inside) (λ arguments. local_pure _)))

pub local_bracketed : (left : ℕ) (inner : Parser Expression) (inside : Inside left inner) → Local (bracketed_of left inner)
unfolding bracketed_of
local_bracketed left inner inside =
    local_then (local_opening left) (λ place. local_then inside.local (λ expression. local_then (local_delimiter _) (λ _. local_pure _)))

pub local_primary : (left : ℕ) (inner : Parser Expression) (inside : Inside left inner) → Local (primary_of left inner)
unfolding primary_of
local_primary left inner inside =
    local_choose (head_starts _) (local_then local_number (λ number. local_pure _))
    (local_choose (head_starts _) (local_then local_text (λ text. local_pure _))
    (local_choose (head_starts _) (local_then (local_word _) (λ place. local_pure _))
    (local_choose (head_starts _) (local_bracketed left inner inside) (local_named left inner inside))))

pub local_highest : (left : ℕ) (inner : Parser Expression) (inside : Inside left inner) (operator : HighestOperator) → Local (highest_of left inner operator)
unfolding highest_of
local_highest left inner inside operator = local_then (local_word _) (λ place. local_then (local_primary left inner inside) (λ operand. local_pure _))

pub local_factor : (left : ℕ) (inner : Parser Expression) (inside : Inside left inner) → Local (factor_of left inner)
unfolding factor_of
local_factor left inner inside =
    local_choose (head_starts _) (local_highest left inner inside highest.Absolute)
    (local_choose (head_starts _) (local_highest left inner inside highest.Not) (local_primary left inner inside))

pub local_multiplied : (left : ℕ) (inner : Parser Expression) (inside : Inside left inner) → Local (multiplied_of left inner)
unfolding multiplied_of
local_multiplied left inner inside = local_then local_multiplication (λ operator. local_then (local_factor left inner inside) (λ factor. local_pure _))

pub eats_multiplied : (left : ℕ) (inner : Parser Expression) (inside : Inside left inner) → Eats (multiplied_of left inner)
unfolding multiplied_of
eats_multiplied left inner inside = eats_first eats_multiplication (λ operator. local_then (local_factor left inner inside) (λ factor. local_pure _))

pub local_product : (left : ℕ) (inner : Parser Expression) (inside : Inside left inner) (first : Expression) → Local (product_of left inner first)
unfolding product_of
local_product left inner inside first =
    local_then (local_multiplied left inner inside)
    (λ second. local_then (local_items head_multiplies (local_multiplied left inner inside) (eats_multiplied left inner inside)) (λ others. local_pure _))

pub local_term : (left : ℕ) (inner : Parser Expression) (inside : Inside left inner) → Local (term_of left inner)
unfolding term_of
local_term left inner inside =
    local_then (local_factor left inner inside) (λ first. local_choose head_multiplies (local_product left inner inside first) (local_pure _))

pub local_signed : (left : ℕ) (inner : Parser Expression) (inside : Inside left inner) (sign : Sign) → Local (signed_of left inner sign)
unfolding signed_of
local_signed left inner inside sign = local_then (local_delimiter _) (λ place. local_then (local_term left inner inside) (λ operand. local_pure _))

pub local_first_term : (left : ℕ) (inner : Parser Expression) (inside : Inside left inner) → Local (first_term_of left inner)
unfolding first_term_of
local_first_term left inner inside =
    local_choose (head_starts _) (local_signed left inner inside signs.Plus)
    (local_choose (head_starts _) (local_signed left inner inside signs.Minus) (local_term left inner inside))

pub local_addend : (left : ℕ) (inner : Parser Expression) (inside : Inside left inner) → Local (addend_of left inner)
unfolding addend_of
local_addend left inner inside = local_then local_addition (λ operator. local_then (local_term left inner inside) (λ term. local_pure _))

pub eats_addend : (left : ℕ) (inner : Parser Expression) (inside : Inside left inner) → Eats (addend_of left inner)
unfolding addend_of
eats_addend left inner inside = eats_first eats_addition (λ operator. local_then (local_term left inner inside) (λ term. local_pure _))

pub local_addition_behind : (left : ℕ) (inner : Parser Expression) (inside : Inside left inner) (first : Expression)
    → Local (addition_behind_of left inner first)
unfolding addition_behind_of
local_addition_behind left inner inside first =
    local_then (local_addend left inner inside)
    (λ second. local_then (local_items head_adds (local_addend left inner inside) (eats_addend left inner inside)) (λ others. local_pure _))

pub local_sum : (left : ℕ) (inner : Parser Expression) (inside : Inside left inner) → Local (sum_of left inner)
unfolding sum_of
local_sum left inner inside =
    local_then (local_first_term left inner inside) (λ first. local_choose head_adds (local_addition_behind left inner inside first) (local_pure _))

pub local_compared : (left : ℕ) (inner : Parser Expression) (inside : Inside left inner) (first : Expression) → Local (compared_of left inner first)
unfolding compared_of
local_compared left inner inside first = local_then local_comparison (λ operator. local_then (local_sum left inner inside) (λ second. local_pure _))

pub local_relation : (left : ℕ) (inner : Parser Expression) (inside : Inside left inner) → Local (relation_of left inner)
unfolding relation_of
local_relation left inner inside =
    local_then (local_sum left inner inside) (λ first. local_choose head_compares (local_compared left inner inside first) (local_pure _))

pub local_operand : (left : ℕ) (inner : Parser Expression) (inside : Inside left inner) (operator : LogicalOperator) → Local (operand_of left inner operator)
unfolding operand_of
local_operand left inner inside operator = local_then (local_again operator) (λ place. local_then (local_relation left inner inside) (λ relation. local_pure _))

pub eats_operand : (left : ℕ) (inner : Parser Expression) (inside : Inside left inner) (operator : LogicalOperator) → Eats (operand_of left inner operator)
unfolding operand_of
eats_operand left inner inside operator = eats_first (eats_again operator) (λ place. local_then (local_relation left inner inside) (λ relation. local_pure _))

pub local_joined : (left : ℕ) (inner : Parser Expression) (inside : Inside left inner) (first : Expression) → Local (joined_of left inner first)
unfolding joined_of
local_joined left inner inside first =
    local_then local_logical_operator
    (λ operator. local_then (local_relation left inner inside)
    (λ second.
    local_then (local_items (head_starts _) (local_operand left inner inside operator.1) (eats_operand left inner inside operator.1)) (λ others. local_pure _)))

pub local_logical : (left : ℕ) (inner : Parser Expression) (inside : Inside left inner) → Local (logical_of left inner)
unfolding logical_of
local_logical left inner inside =
    local_then (local_relation left inner inside) (λ first. local_choose head_joins (local_joined left inner inside first) (local_pure _))

pub passes_named : (left : ℕ) (inner : Parser Expression) (inside : Inside left inner) → Passes (named_of left inner)
unfolding named_of
passes_named left inner inside =
    (takes_then passes_name (λ name. local_then local_designator (λ attribute. local_then (local_arguments left inner inside) (λ arguments. local_pure _))))

pub passes_primary : (left : ℕ) (inner : Parser Expression) (inside : Inside left inner) → Passes (primary_of left inner)
unfolding primary_of
passes_primary left inner inside =
    (passes_choose _ (takes_then takes_number (λ number. local_pure _))
    (passes_choose _ (takes_then takes_text (λ text. local_pure _))
    (passes_choose _ (takes_then (takes_word _) (λ place. local_pure _)) (passes_delimiter _ _ (passes_named left inner inside)))))

pub takes_highest : (left : ℕ) (inner : Parser Expression) (inside : Inside left inner) (operator : HighestOperator)
    → Takes (is_this_word (highest_text operator)) (highest_of left inner operator)
unfolding highest_of
takes_highest left inner inside operator =
    takes_then (takes_word (highest_text operator)) (λ place. local_then (local_primary left inner inside) (λ operand. local_pure _))

pub passes_factor : (left : ℕ) (inner : Parser Expression) (inside : Inside left inner) → Passes (factor_of left inner)
unfolding factor_of
passes_factor left inner inside =
    (passes_choose _ (takes_highest left inner inside highest.Absolute)
    (passes_choose _ (takes_highest left inner inside highest.Not) (passes_primary left inner inside)))

pub passes_term : (left : ℕ) (inner : Parser Expression) (inside : Inside left inner) → Passes (term_of left inner)
unfolding term_of
passes_term left inner inside =
    (takes_then (passes_factor left inner inside) (λ first. local_choose head_multiplies (local_product left inner inside first) (local_pure _)))

pub passes_first_term : (left : ℕ) (inner : Parser Expression) (inside : Inside left inner) → Passes (first_term_of left inner)
unfolding first_term_of
passes_first_term left inner inside = (passes_delimiter _ _ (passes_delimiter _ _ (passes_term left inner inside)))

pub passes_sum : (left : ℕ) (inner : Parser Expression) (inside : Inside left inner) → Passes (sum_of left inner)
unfolding sum_of
passes_sum left inner inside =
    (takes_then (passes_first_term left inner inside) (λ first. local_choose head_adds (local_addition_behind left inner inside first) (local_pure _)))

pub passes_relation : (left : ℕ) (inner : Parser Expression) (inside : Inside left inner) → Passes (relation_of left inner)
unfolding relation_of
passes_relation left inner inside =
    (takes_then (passes_sum left inner inside) (λ first. local_choose head_compares (local_compared left inner inside first) (local_pure _)))

pub passes_logical : (left : ℕ) (inner : Parser Expression) (inside : Inside left inner) → Passes (logical_of left inner)
unfolding logical_of
passes_logical left inner inside =
    (takes_then (passes_relation left inner inside) (λ first. local_choose head_joins (local_joined left inner inside first) (local_pure _)))

-- an expression, and that it goes past an identifier
pub record Reads (left : ℕ) : Type 0 where
  pub local : Local (expression_of left)
  pub passes : Passes (expression_of left)

reads : (left : ℕ) → Reads left
unfolding expression_of
reads zero =
    let inside : Inside zero nothing = record { local = local_nothing; passes = tt } in
    record { local = local_logical zero nothing inside; passes = passes_logical zero nothing inside }
reads (suc left) =
    let before = reads left in
    let inside : Inside (suc left) (expression_of left) = record { local = before.local; passes = before.passes } in
    record { local = local_logical (suc left) (expression_of left) inside; passes = passes_logical (suc left) (expression_of left) inside }

pub local_expression : (left : ℕ) → Local (expression_of left)
local_expression left = (reads left).local

pub inside_inner : (left : ℕ) → Inside left (inner_of left)
unfolding inner_of
inside_inner zero = record { local = local_nothing; passes = tt }
inside_inner (suc left) = record { local = (reads left).local; passes = (reads left).passes }
