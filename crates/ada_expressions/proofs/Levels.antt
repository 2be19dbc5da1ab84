-- One level further in.
use Rattle.std.proofs.Common.{◌≡◌, ℕ, zero, suc, ◌-◌, ◌<◌, List, length, Err, ap, refl, arith}
use Rattle.ada_tree.specs.Written.{Lexeme}
use Rattle.ada_grammar.specs.declared.stuck.Stuck.TheVariants as stuck
use Rattle.ada_grammar.specs.ReadingExpressions.{expression_of, inner_of, logical_of}

pub none_inside : (left : ℕ) (ls : List Lexeme) → left ≡ 0 → inner_of left ls ≡ Err (stuck.At (length ls))
unfolding inner_of
none_inside zero ls e = refl
none_inside (suc left) ls e = absurd (omega arith)

less_one : (left : ℕ) → left ≡ suc left - 1
less_one left = omega arith

pub one_inside : (left : ℕ) (ls : List Lexeme) → 0 < left → inner_of left ls ≡ expression_of (left - 1) ls
unfolding inner_of
one_inside zero ls p = absurd (omega arith)
one_inside (suc left) ls p = ap (λ m. expression_of m ls) (less_one left)

-- An expression at a level is a chain of relations with the level below inside.
pub at_level : (left : ℕ) (ls : List Lexeme) → expression_of left ls ≡ logical_of left (inner_of left) ls
unfolding expression_of inner_of
at_level zero ls = refl
at_level (suc left) ls = refl
