use Rattle.std.proofs.Common.{◌≡◌, ◌≤◌, ◌*◌, take}
use Rattle.sched_tests.specs.declared.duties.TheConstants.{LONGEST}
use Rattle.sched_tests.specs.Response.{interference}
use Rattle.sched_tests.proofs.responses.interference.Given as goal

abbrev pub invariant-loop-duty : goal.invariant-loop-duty
invariant-loop-duty l = record {
  sum : l.total ≡ interference l.window l.priority (take l.duty-index l.duties);
  bounded : l.total ≤ l.duty-index * (LONGEST * LONGEST);
}
