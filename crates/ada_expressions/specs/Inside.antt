-- A function value that reads expressions, or sequences, where fewer levels are left.
use Rattle.std.specs.Prelude.{ℕ, ◌<◌, List, Result}
use Rattle.std.specs.declared.alloc.Global.{Global}
use denote.Ref.{MutBor}
use Rattle.ada_tree.specs.declared.expressions.Expression.{Expression}
use Rattle.ada_tree.specs.Written.{Lexeme}
use Rattle.ann_base.specs.declared.faults.OrMemory.{OrMemory}
use Rattle.ada_grammar.specs.declared.stuck.Stuck.{Stuck}
use Rattle.ada_grammar.specs.ReadingExpressions.{expression_of}
use Rattle.ada_grammar.specs.Reads.{Reads}

pub record ReadsInside (left : ℕ) (pre : Global → MutBor (List Lexeme) → ℕ → Type 0)
    (post : Global → MutBor (List Lexeme) → ℕ → Result Expression (OrMemory Stuck) → MutBor (List Lexeme)
    → Type 0) : Type 0 where
  pub callable : (alloc : Global) (old : MutBor (List Lexeme)) (m : ℕ) → m < left → pre alloc old m
  pub reads : (alloc : Global) (old new : MutBor (List Lexeme)) (m : ℕ) (r : Result Expression (OrMemory Stuck))
      → m < left → post alloc old m r new
      → Reads r new.now (expression_of m old.now)
