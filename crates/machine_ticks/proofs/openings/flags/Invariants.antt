use Rattle.std.proofs.Common.{◌≡◌}
use Rattle.std.specs.Prelude.{replicate}
use Rattle.machine_ticks.proofs.openings.flags.Given as goal

-- so many by now
abbrev pub invariant-loop : goal.invariant-loop
invariant-loop l = l.flags ≡ replicate l.counter l.flag
