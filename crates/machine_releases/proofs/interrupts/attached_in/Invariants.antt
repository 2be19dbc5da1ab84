use Rattle.std.proofs.Common.{◌≡◌, drop}
use Rattle.profile_machine.specs.Handlers.{attached_in}
use Rattle.machine_releases.proofs.interrupts.attached_in.Given as goal

-- the procedures that are to come give what all of them give
abbrev pub invariant-loop-attachment : goal.invariant-loop-attachment
invariant-loop-attachment l = attached_in l.n (drop l.attachment-index l.attached) ≡ attached_in l.n l.attached
