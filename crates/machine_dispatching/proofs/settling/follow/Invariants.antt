use Rattle.std.proofs.Common.{◌≡◌, ◌++◌, length}
use Rattle.profile_image.specs.declared.image.Image.{Image}
use Rattle.profile_machine.specs.Steps.{places_after_all}
use Rattle.machine_dispatching.specs.Settling.{written, said_as}
use Rattle.machine_dispatching.proofs.settling.follow.Given as goal

-- the lines that are left do to the queues what all do, and stand behind those that are owed
abbrev pub invariant-loop-said : goal.invariant-loop-said
invariant-loop-said l = record {
  places : (p : Image) → places_after_all (said_as p l.ordered) l.places ≡ places_after_all (said_as p l.initial.ordered) l.initial.places;
  lines : (p : Image) → written p l.lines ++ said_as p l.ordered ≡ written p l.initial.lines ++ said_as p l.initial.ordered;
}

abbrev pub decreases-loop-said : goal.decreases-loop-said
decreases-loop-said l = length l.ordered
