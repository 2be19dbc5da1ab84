use Rattle.std.proofs.Common.{◌≡◌, drop}
use Rattle.profile_machine.specs.Statements.{chosen_alternative}
use Rattle.machine_statements.proofs.choices.chosen_alternative.Given as goal

-- the alternatives that are left give what all of them give
abbrev pub invariant-loop-alternative : goal.invariant-loop-alternative
invariant-loop-alternative l = chosen_alternative l.value (drop l.alternative-index l.alternatives) ≡ chosen_alternative l.value l.initial.alternatives
