use Rattle.std.proofs.Common.{◌≡◌, ◌++◌, drop}
use Rattle.legality_choices.specs.OneByOne.{aspects_along}
use Rattle.legality_choices.proofs.aspects.aspects_along.Given as goal

-- what is found by now, and what the aspects to come give, is all
abbrev pub invariant-loop-aspect : goal.invariant-loop-aspect
invariant-loop-aspect l =
    (l.at ≡ l.aspect-index)
    × (l.found ++ aspects_along l.last l.owner l.begins l.aspects l.at (drop l.aspect-index l.aspects)
    ≡ l.initial.found ++ aspects_along l.last l.owner l.begins l.aspects 0 l.aspects)
