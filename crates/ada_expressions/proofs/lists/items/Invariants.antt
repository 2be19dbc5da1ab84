use Rattle.std.proofs.Common.{◌≡◌, ◌-◌, Bool, List}
use Rattle.ada_tree.specs.Written.{Lexeme}
use Rattle.ada_grammar.specs.Reading.{Parser, items_from, items_of}
use Rattle.ada_expressions.specs.Parts.{ReadsAs, TestsAs}
use Rattle.ada_expressions.proofs.lists.items.Given as goal

abbrev pub invariant-loop-turn : goal.invariant-loop-turn
invariant-loop-turn g l =
    (test : List Lexeme → Bool) (part : Parser _) → TestsAs (goal.B-post g l.fn.begins) test → ReadsAs (goal.R-post g l.fn.item) part
    → items_from test part (l._turn-end - l._turn) l.found l.cursor ≡ items_of test part l.fn.cursor
