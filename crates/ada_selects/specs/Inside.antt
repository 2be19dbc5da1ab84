-- A function value that reads what nests where fewer levels are left.
use Rattle.std.specs.Prelude.{ℕ, zero, suc, ◌<◌, List, Result}
use Rattle.std.specs.declared.alloc.Global.{Global}
use denote.Ref.{MutBor}
use Rattle.ada_tree.specs.declared.statements.SequenceRole.{SequenceRole}
use Rattle.ada_tree.specs.Written.{Lexeme}
use Rattle.ann_base.specs.declared.faults.OrMemory.{OrMemory}
use Rattle.ada_grammar.specs.declared.stuck.Stuck.{Stuck}
use Rattle.ada_grammar.specs.Reading.{Parser}
use Rattle.ada_grammar.specs.Reads.{Reads}

-- Given what reading gives where so many levels are left.
pub record ReadsInside {Q : Type 0} (sequence : ℕ → SequenceRole → Parser Q) (left : ℕ) (pre : Global
    → MutBor (List Lexeme) → ℕ → SequenceRole → Type 0)
    (post : Global → MutBor (List Lexeme) → ℕ → SequenceRole → Result Q (OrMemory Stuck) → MutBor (List Lexeme)
    → Type 0) : Type 0 where
  pub callable : (alloc : Global) (old : MutBor (List Lexeme)) (m : ℕ) (r : SequenceRole) → m < left → pre alloc old m r
  pub reads : (alloc : Global) (old new : MutBor (List Lexeme)) (m : ℕ) (r : SequenceRole)
      (answer : Result Q (OrMemory Stuck)) → m < left → post alloc old m r answer new
      → Reads answer new.now (sequence m r old.now)
