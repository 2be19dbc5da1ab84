use Rattle.std.proofs.Common.{◌≡◌, drop}
use Rattle.profile_machine.specs.Rendezvous.{open_alternatives}
use Rattle.machine_accepts.specs.Parts.{with_before}
use Rattle.machine_accepts.proofs.alternatives.open_alternatives.Given as goal

-- those so far before those that are left
abbrev pub invariant-loop-alternative : goal.invariant-loop-alternative
invariant-loop-alternative l = with_before l.kinds (open_alternatives l.q (drop l.alternative-index l.alternatives)) ≡ open_alternatives l.q l.alternatives
