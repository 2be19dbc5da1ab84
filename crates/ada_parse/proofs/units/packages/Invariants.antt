use Rattle.std.proofs.Common.{◌≡◌, ◌-◌}
use Rattle.ada_grammar.specs.ReadingUnits.{packages_from, packages_of}
use Rattle.ada_parse.proofs.units.packages.Given as goal

abbrev pub invariant-loop-turn : goal.invariant-loop-turn
invariant-loop-turn l = packages_from l.left (l._turn-end - l._turn) l.found l.cursor ≡ packages_of l.left l.fn.cursor
