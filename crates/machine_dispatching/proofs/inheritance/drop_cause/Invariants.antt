use Rattle.std.proofs.Common.{◌≡◌, length}
use Rattle.profile_image.specs.Words.{without}
use Rattle.profile_machine.specs.Inheritance.{same_cause}
use Rattle.machine_dispatching.proofs.inheritance.drop_cause.Given as goal

-- what stays of what is left is what stays of all
abbrev pub invariant-loop-place : goal.invariant-loop-place
invariant-loop-place l = without (λ i. same_cause l.cause i.cause) l.inherited ≡ without (λ i. same_cause l.cause i.cause) l.initial.inherited

abbrev pub decreases-loop-place : goal.decreases-loop-place
decreases-loop-place l = length l.inherited
