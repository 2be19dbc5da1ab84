-- A loop that makes at most so many turns, by how many are left, and a part that stops it.
use Rattle.std.proofs.Common.{◌≡◌, ℕ, suc, ◌+◌, ◌-◌, ◌<◌, ◌≤◌, List, [], Err, ap, sym, ◌∙◌, arith}
use Rattle.ann_base.specs.Answers.{AnswersAs}
use Rattle.ann_base.specs.declared.faults.OrMemory.{OrMemory}
use Rattle.ada_tree.specs.Written.{Lexeme}
use Rattle.ada_grammar.specs.declared.stuck.Stuck.{Stuck}
use Rattle.ada_grammar.specs.Reading.{Read}

after_turn : (turn end : ℕ) → turn < end → suc (end - (turn + 1)) ≡ end - turn
after_turn turn end p = omega arith

at_end : (turn end : ℕ) → end ≤ turn → end - turn ≡ 0
at_end turn end p = omega arith

pub one_more : {X : Type 0} (f : ℕ → X) (v : X) (turn end : ℕ) → turn < end → f (end - turn) ≡ v → f (suc (end - (turn + 1))) ≡ v
one_more f v turn end p e = ap f (after_turn turn end p) ∙ e

pub no_more : {X : Type 0} (f : ℕ → X) (v : X) (turn end : ℕ) → end ≤ turn → f (end - turn) ≡ v → f 0 ≡ v
no_more f v turn end p e = ap f (sym (at_end turn end p)) ∙ e

-- a call that reads such a part stopped so, unless memory ran out
abbrev pub Stopped : {B : Type 0} → OrMemory Stuck → Read B → Type 0
Stopped {B = B} why read = let part : B → B × List Lexeme = λ x. (x, []) in AnswersAs part (Err why) read
