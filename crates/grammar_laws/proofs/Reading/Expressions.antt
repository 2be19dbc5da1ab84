-- Expressions and their arguments at every level of brackets (4.4).
use Rattle.std.proofs.Common.{ℕ, zero, suc}
use Rattle.ada_tree.specs.declared.expressions.Precedence.TheVariants as precedence
use Rattle.ada_tree.specs.SpellingExpressions.{expression_written, argument_written, arguments_written}
use Rattle.ada_tree.specs.ShapeExpressions.{expression_fits, argument_fits, arguments_fit}
use Rattle.ada_grammar.specs.Reading.{nothing}
use Rattle.ada_grammar.specs.ReadingExpressions.{expression_of, inner_of, argument_of, arguments_of}
use Rattle.grammar_laws.proofs.Reading.Exact.{Exact}
use Rattle.grammar_laws.proofs.Reading.Ends.{ends_expression, ends_arguments}
use Rattle.grammar_laws.proofs.Reading.Primaries.{ReadsInside, ends_argument, argument_exact, arguments_read}
use Rattle.grammar_laws.proofs.Reading.Logicals.{logical_exact}

pub expression_exact : (left : ℕ) → Exact expression_written (λ e. expression_fits e precedence.Logical left) ends_expression (expression_of left)
unfolding expression_of
expression_exact zero = logical_exact zero nothing tt
expression_exact (suc left) = logical_exact (suc left) (expression_of left) (expression_exact left)

pub inside_exact : (left : ℕ) → ReadsInside left (inner_of left)
unfolding inner_of
inside_exact zero = tt
inside_exact (suc left) = expression_exact left

pub arguments_exact : (left : ℕ)
    → Exact (arguments_written expression_written) (arguments_fit expression_fits left) ends_arguments (arguments_of left (inner_of left))
arguments_exact left = arguments_read left (inner_of left) (inside_exact left)

-- an argument in a bracket, behind which this many levels are left
pub argument_exact_at : (left : ℕ)
    → Exact (argument_written expression_written) (argument_fits expression_fits left) ends_argument (argument_of (suc left) (inner_of (suc left)))
unfolding inner_of
argument_exact_at left = argument_exact left (expression_of left) (expression_exact left)
