use Rattle.std.proofs.Common.{◌<◌, ◌≤◌, ◌*◌, ℕ, length, get_or, take}
use Rattle.sched_tests.specs.declared.duties.TheConstants.{LONGEST}
use Rattle.sched_tests.specs.Chunks.{HasDue}
use Rattle.sched_tests.proofs.demands.add_all_due.Given as goal

abbrev pub invariant-loop-duty : goal.invariant-loop-duty
invariant-loop-duty l = record {
  due : HasDue l.base (take l.duty-index l.duties) l.due;
  bounded : (k : ℕ) → k < length l.due → get_or l.due k 0 ≤ l.duty-index * LONGEST;
}
