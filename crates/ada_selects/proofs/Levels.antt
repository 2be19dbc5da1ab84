-- One level further in.
use Rattle.std.proofs.Common.{◌≡◌, ℕ, zero, suc, ◌-◌, ◌<◌, List, Result, ap, arith}
use Rattle.std.specs.declared.alloc.Global.{Global}
use denote.Ref.{MutBor}
use Rattle.ada_tree.specs.declared.statements.SequenceRole.{SequenceRole}
use Rattle.ada_tree.specs.Written.{Lexeme}
use Rattle.ann_base.specs.declared.faults.OrMemory.{OrMemory}
use Rattle.ada_grammar.specs.declared.stuck.Stuck.{Stuck}
use Rattle.ada_grammar.specs.Reading.{Parser}
use Rattle.ada_grammar.specs.ReadingSimple.{call_of, delay_of}
use Rattle.ada_grammar.specs.ReadingStatements.{accept_of, accept_opened_of, call_opened_of, delay_opened_of}
use Rattle.ada_grammar.specs.ReadingSequences.{further_in}
use Rattle.ada_selects.specs.Inside.{ReadsInside}

pub less_one : (left : ℕ) → left ≡ suc left - 1
less_one left = omega arith

pub call_inside : (left : ℕ) (ls : List Lexeme) → 0 < left → call_opened_of left ls ≡ call_of (left - 1) ls
unfolding call_opened_of
call_inside zero ls p = absurd (omega arith)
call_inside (suc left) ls p = ap (λ m. call_of m ls) (less_one left)

pub delay_inside : (left : ℕ) (ls : List Lexeme) → 0 < left → delay_opened_of left ls ≡ delay_of (left - 1) ls
unfolding delay_opened_of
delay_inside zero ls p = absurd (omega arith)
delay_inside (suc left) ls p = ap (λ m. delay_of m ls) (less_one left)

pub accept_inside : {Q : Type 0} (sequence : ℕ → SequenceRole → Parser Q) (left : ℕ) (ls : List Lexeme) → 0 < left
    → accept_opened_of left (further_in sequence left) ls ≡ accept_of (left - 1) (sequence (left - 1)) ls
unfolding further_in
accept_inside sequence zero ls p = absurd (omega arith)
accept_inside sequence (suc left) ls p = ap (λ m. accept_of m (sequence m) ls) (less_one left)

-- what reads inside more levels reads inside fewer
pub reads_further_in : {Q : Type 0} {sequence : ℕ → SequenceRole → Parser Q} {pre : Global → MutBor (List Lexeme) → ℕ → SequenceRole → Type 0}
    {post : Global → MutBor (List Lexeme) → ℕ → SequenceRole → Result Q (OrMemory Stuck) → MutBor (List Lexeme) → Type 0}
    (left fewer : ℕ) → ((m : ℕ) → m < fewer → m < left) → ReadsInside sequence left pre post → ReadsInside sequence fewer pre post
reads_further_in left fewer less whole = record {
  callable = λ alloc old m role p. whole.callable alloc old m role (less m p);
  reads = λ alloc old new m role answer p q. whole.reads alloc old new m role answer (less m p) q;
}
