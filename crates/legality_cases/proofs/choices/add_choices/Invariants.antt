use Rattle.std.proofs.Common.{◌≡◌, ◌++◌, drop}
use Rattle.legality_cases.proofs.choices.add_choices.Given as goal

-- the choices so far, and those to come, are all of them
abbrev pub invariant-loop-choice : goal.invariant-loop-choice
invariant-loop-choice l = l.all ++ drop l.choice-index l.choices.others ≡ l.initial.all ++ l.choices.others
