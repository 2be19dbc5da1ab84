-- What a function that reads a production answers, and the tokens that remain.
use Rattle.std.specs.Prelude.{List, Result}
use Rattle.ann_base.specs.Answers.{AnswersAs}
use Rattle.ann_base.specs.declared.faults.OrMemory.{OrMemory}
use Rattle.ada_tree.specs.Written.{Lexeme}
use Rattle.ada_grammar.specs.declared.stuck.Stuck.{Stuck}
use Rattle.ada_grammar.specs.Reading.{Read}

-- The function answered what reading gives, and these tokens remain; unless memory ran out.
abbrev pub Reads : {A : Type 0} → Result A (OrMemory Stuck) → List Lexeme → Read A → Type 0
Reads answer remaining read = AnswersAs (λ part. (part, remaining)) answer read
