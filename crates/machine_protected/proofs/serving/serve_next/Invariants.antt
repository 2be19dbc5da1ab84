use Rattle.std.proofs.Common.{◌≡◌, None}
use Rattle.profile_machine.specs.Serving.{serve_next}
use Rattle.machine_protected.proofs.serving.serve_next.Given as goal

-- the turns that are left give what all of them gave
abbrev pub invariant-loop-left : goal.invariant-loop-left
invariant-loop-left l =
    serve_next l.left l.p l.name l.m None l.effect.world l.effect.said
    ≡ serve_next l.turns l.p l.name l.m None l.initial.effect.world l.initial.effect.said

abbrev pub decreases-loop-left : goal.decreases-loop-left
decreases-loop-left l = l.left
