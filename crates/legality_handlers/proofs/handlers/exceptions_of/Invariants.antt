use Rattle.std.proofs.Common.{◌≡◌, ◌++◌, drop, map}
use Rattle.std.specs.List.{flat_map}
use Rattle.ada_legality.specs.Statements.{exceptions_named}
use Rattle.legality_handlers.proofs.handlers.exceptions_of.Given as goal

-- the names so far, and those to come, are all of them
abbrev pub invariant-loop-handler : goal.invariant-loop-handler
invariant-loop-handler g l =
    l.names ++ flat_map exceptions_named (map (λ h. h.exceptions) (drop l.handler-index l.handlers))
    ≡ flat_map exceptions_named (map (λ h. h.exceptions) l.handlers)
