use Rattle.std.proofs.Common.{◌≡◌}
use Rattle.std.specs.Prelude.{replicate}
use Rattle.machine_ticks.proofs.openings.ports.Given as goal

-- so many by now
abbrev pub invariant-loop : goal.invariant-loop
invariant-loop l = l.ports ≡ replicate l.counter l.value
