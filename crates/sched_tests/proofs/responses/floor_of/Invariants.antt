use Rattle.std.proofs.Common.{◌≡◌, ◌≤◌, ◌*◌, take}
use Rattle.sched_tests.specs.declared.duties.TheConstants.{LONGEST}
use Rattle.sched_tests.specs.declared.responses.TheConstants.{SCALE}
use Rattle.sched_tests.specs.Floors.{once_of, share_of}
use Rattle.sched_tests.proofs.responses.floor_of.Given as goal

abbrev pub invariant-loop-duty : goal.invariant-loop-duty
invariant-loop-duty l = record {
  once : l.once ≡ once_of l.window l.priority (take l.duty-index l.duties);
  share : l.share ≡ share_of l.window l.priority (take l.duty-index l.duties);
  small : l.once ≤ l.duty-index * LONGEST;
  bounded : l.share ≤ l.duty-index * (LONGEST * SCALE);
}
