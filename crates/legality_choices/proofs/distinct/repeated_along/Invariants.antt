use Rattle.std.proofs.Common.{◌≡◌, ◌++◌, drop}
use Rattle.legality_choices.specs.OneByOne.{repeated_along}
use Rattle.legality_choices.proofs.distinct.repeated_along.Given as goal

-- what is found by now, and what the choices to come give, is all
abbrev pub invariant-loop-choice : goal.invariant-loop-choice
invariant-loop-choice l = l.found ++ repeated_along l.before (drop l.choice-index l.choices) ≡ l.initial.found ++ repeated_along l.initial.before l.choices
