-- One level further in, and two.
use Rattle.std.proofs.Common.{◌≡◌, ℕ, zero, suc, ◌-◌, ◌<◌, List, length, Err, ap, refl, arith}
use Rattle.ada_tree.specs.declared.statements.SequenceRole.{SequenceRole}
use Rattle.ada_tree.specs.Written.{Lexeme}
use Rattle.ada_grammar.specs.declared.stuck.Stuck.TheVariants as stuck
use Rattle.ada_grammar.specs.Reading.{below}
use Rattle.ada_grammar.specs.ReadingStatements.{statement_inside_of}
use Rattle.ada_grammar.specs.ReadingSequences.{further_in, inside_of, parts_of, sequence_of, statement_of}
use Rattle.ada_selects.proofs.Levels.{less_one}

pub sequence_is_parts : (left : ℕ) (role : SequenceRole) (ls : List Lexeme)
    → sequence_of left role ls ≡ parts_of left (inside_of left) (inside_of (below left)) role ls
unfolding sequence_of further_in
sequence_is_parts zero role ls = refl
sequence_is_parts (suc zero) role ls = refl
sequence_is_parts (suc (suc left)) role ls = refl

pub none_inside : (left : ℕ) (role : SequenceRole) (ls : List Lexeme) → left ≡ 0 → inside_of left role ls ≡ Err (stuck.At (length ls))
unfolding further_in
none_inside zero role ls e = refl
none_inside (suc left) role ls e = absurd (omega arith)

pub one_inside : (left : ℕ) (role : SequenceRole) (ls : List Lexeme) → 0 < left → inside_of left role ls ≡ sequence_of (left - 1) role ls
unfolding further_in
one_inside zero role ls p = absurd (omega arith)
one_inside (suc left) role ls p = ap (λ m. sequence_of m role ls) (less_one left)

pub statement_inside : (left : ℕ) (ls : List Lexeme) → 0 < left
    → statement_of left (inside_of left) (inside_of (below left)) ls
    ≡ statement_inside_of (left - 1) (sequence_of (left - 1)) (further_in sequence_of (left - 1)) ls
unfolding statement_of further_in
statement_inside zero ls p = absurd (omega arith)
statement_inside (suc zero) ls p = ap (λ m. statement_inside_of m (sequence_of m) (further_in sequence_of m) ls) (less_one zero)
statement_inside (suc (suc left)) ls p = ap (λ m. statement_inside_of m (sequence_of m) (further_in sequence_of m) ls) (less_one (suc left))

pub less_below : (left m : ℕ) → m < below left → m < left
less_below zero m p = p
less_below (suc left) m p = omega arith
