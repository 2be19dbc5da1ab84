use Rattle.std.proofs.Common.{◌≡◌, []}
use Rattle.std.specs.Prelude.{replicate}
use Rattle.machine_declarations.proofs.objects.no_calls.Given as goal

-- so many queues by now
abbrev pub invariant-loop : goal.invariant-loop
invariant-loop l = l.queues ≡ replicate l.counter []
