use Rattle.std.proofs.Common.{◌≡◌, ◌≤◌, drop, length}
use Rattle.profile_machine.specs.Calls.{next_call}
use Rattle.profile_machine.specs.Protected.{open_queues}
use Rattle.machine_barriers.proofs.barriers.next_of_entries.Given as goal

-- the call of the entries from this place on
abbrev pub invariant-loop-place : goal.invariant-loop-place
invariant-loop-place l = record {
  within : l.place ≤ length l.entries;
  chosen : l.chosen ≡ next_call l.p l.world (open_queues l.p l.world l.name l.object (drop l.place l.entries));
}

abbrev pub decreases-loop-place : goal.decreases-loop-place
decreases-loop-place l = l.place
