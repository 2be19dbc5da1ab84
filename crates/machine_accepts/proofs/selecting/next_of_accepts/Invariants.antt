use Rattle.std.proofs.Common.{◌≡◌, drop}
use Rattle.profile_machine.specs.Calls.{next_call}
use Rattle.profile_machine.specs.Rendezvous.{queues_of_accepts}
use Rattle.machine_accepts.proofs.selecting.next_of_accepts.Given as goal

-- the call of the accepts from this place on
abbrev pub invariant-loop-place : goal.invariant-loop-place
invariant-loop-place l = l.chosen ≡ next_call l.p l.world (queues_of_accepts l.p l.world l.name (drop l.place l.accepts))

abbrev pub decreases-loop-place : goal.decreases-loop-place
decreases-loop-place l = l.place
