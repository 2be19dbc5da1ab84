use Rattle.std.proofs.Common.{◌≡◌, ◌++◌, None, drop}
use Rattle.legality_choices.specs.OneByOne.{others_behind}
use Rattle.legality_choices.proofs.distinct.others_behind.Given as goal

-- what is found by now, and what the choices to come give, is all
abbrev pub invariant-loop-choice : goal.invariant-loop-choice
invariant-loop-choice l = l.found ++ others_behind l.before (drop l.choice-index l.choices) ≡ l.initial.found ++ others_behind None l.choices
