use Rattle.std.proofs.Common.{◌≡◌, ◌++◌, None, drop, map}
use Rattle.legality_handlers.specs.Handled.{others_behind}
use Rattle.legality_handlers.proofs.handlers.others_behind.Given as goal

-- what is found by now, and what the handlers to come give, is all
abbrev pub invariant-loop-handler : goal.invariant-loop-handler
invariant-loop-handler g l =
    l.found ++ others_behind l.before (map (λ h. h.exceptions) (drop l.handler-index l.handlers))
    ≡ l.initial.found ++ others_behind None (map (λ h. h.exceptions) l.handlers)
