use Rattle.std.proofs.Common.{◌≡◌, ◌++◌, drop}
use Rattle.legality_handlers.specs.Handled.{repeated_along}
use Rattle.legality_handlers.proofs.handlers.repeated_along.Given as goal

-- what is found by now, and what the names to come give, is all
abbrev pub invariant-loop-name : goal.invariant-loop-name
invariant-loop-name l =
    (l.at ≡ l.name-index)
    × (l.found ++ repeated_along l.known l.names l.at (drop l.name-index l.names) ≡ l.initial.found ++ repeated_along l.known l.names 0 l.names)
