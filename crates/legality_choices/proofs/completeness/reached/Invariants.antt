use Rattle.std.proofs.Common.{◌≡◌, drop}
use Rattle.ada_legality.specs.Choices.{reached}
use Rattle.legality_choices.specs.NextValue.{next_number}
use Rattle.legality_choices.proofs.completeness.reached.Given as goal

-- the turns to come lead from here where all lead from the first value
abbrev pub invariant-loop-turn : goal.invariant-loop-turn
invariant-loop-turn l = reached l.choices (drop l.turn-index l.choices) (next_number l.value) ≡ reached l.choices l.choices (next_number l.fn.from)
