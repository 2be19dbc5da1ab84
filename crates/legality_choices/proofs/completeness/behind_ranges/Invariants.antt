use Rattle.std.proofs.Common.{◌≡◌, drop}
use Rattle.ada_legality.specs.Choices.{behind_ranges}
use Rattle.legality_choices.specs.NextValue.{next_number}
use Rattle.legality_choices.proofs.completeness.behind_ranges.Given as goal

-- the choices to come lead from here where all lead from the first value
abbrev pub invariant-loop-choice : goal.invariant-loop-choice
invariant-loop-choice l = behind_ranges (next_number l.value) (drop l.choice-index l.choices) ≡ behind_ranges (next_number l.fn.from) l.choices
