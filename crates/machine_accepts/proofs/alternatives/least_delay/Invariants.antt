use Rattle.std.proofs.Common.{◌≡◌, drop}
use Rattle.profile_machine.specs.Rendezvous.{least_delay}
use Rattle.machine_accepts.proofs.alternatives.least_delay.Given as goal

-- the least of those from this place on
abbrev pub invariant-loop-place : goal.invariant-loop-place
invariant-loop-place l = l.least ≡ least_delay (drop l.place l.delays)

abbrev pub decreases-loop-place : goal.decreases-loop-place
decreases-loop-place l = l.place
