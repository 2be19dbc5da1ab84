use Rattle.std.proofs.Common.{◌≡◌, ◌≤◌, ◌*◌, take}
use Rattle.std.specs.List.{sum_by}
use Rattle.sched_tests.specs.declared.duties.TheConstants.{LONGEST}
use Rattle.sched_tests.specs.Response.{asked_in}
use Rattle.sched_tests.proofs.demands.busy_demand.Given as goal

abbrev pub invariant-loop-duty : goal.invariant-loop-duty
invariant-loop-duty l = record {
  sum : l.total ≡ sum_by (asked_in l.window) (take l.duty-index l.duties);
  bounded : l.total ≤ l.duty-index * (LONGEST * LONGEST);
}
