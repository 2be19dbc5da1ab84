-- A function value that tests whether a part begins, and one that reads it.
use Rattle.std.specs.Prelude.{◌≡◌, Bool, List, Result}
use denote.Ref.{Bor, MutBor}
use Rattle.ada_tree.specs.Written.{Lexeme}
use Rattle.ann_base.specs.declared.faults.OrMemory.{OrMemory}
use Rattle.ada_grammar.specs.declared.stuck.Stuck.{Stuck}
use Rattle.ada_grammar.specs.Reading.{Parser}
use Rattle.ada_grammar.specs.Reads.{Reads}

-- the value answers what the test says of the tokens that remain
abbrev pub TestsAs : (Bor (List Lexeme) → Bool → Type 0) → (List Lexeme → Bool) → Type 0
TestsAs post test = (cursor : Bor (List Lexeme)) (r : Bool) → post cursor r → r ≡ test cursor.now

-- the value reads what the parser reads
abbrev pub ReadsAs : {A : Type 0} → (MutBor (List Lexeme) → Result A (OrMemory Stuck) → MutBor (List Lexeme)
    → Type 0) → Parser A → Type 0
ReadsAs {A = A} post part = (old new : MutBor (List Lexeme)) (r : Result A (OrMemory Stuck)) → post old r new
    → Reads r new.now (part old.now)
