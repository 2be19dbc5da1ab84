use Rattle.std.proofs.Common.{◌≡◌, drop}
use Rattle.profile_machine.specs.Act.{handler_for}
use Rattle.machine_run.proofs.handlers.handler_for.Given as goal

-- the handlers that are left give what all of them give
abbrev pub invariant-loop-handler : goal.invariant-loop-handler
invariant-loop-handler l = handler_for l.e (drop l.handler-index l.handlers) ≡ handler_for l.e l.initial.handlers
