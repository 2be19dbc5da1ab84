-- What a table may hold, and the numbers of its faults.
use Rattle.std.specs.Prelude.{◌≤◌, ℕ, List, length}
use Rattle.std.specs.List.{All}
use Rattle.sched_tests.specs.declared.duties.TheConstants.{MOST_DUTIES, NAME_LENGTH, LONGEST, MOST_PRIORITY}
use Rattle.sched_tests.specs.declared.duties.Duty.{Duty}
use Rattle.sched_tests.specs.declared.duties.TableFaultKind.{TableFaultKind}
use Rattle.sched_tests.specs.declared.duties.TableFaultKind.TheVariants.{BadLine, BadNumber, Twice, TooMany, Empty}

-- a duty is within the limits
pub record IsDuty (duty : Duty) : Type 0 where
  pub named : length duty.name ≤ NAME_LENGTH
  pub costs : 1 ≤ duty.cost
  pub cost : duty.cost ≤ LONGEST
  pub recurs : 1 ≤ duty.period
  pub period : duty.period ≤ LONGEST
  pub due : 1 ≤ duty.deadline
  pub in_time : duty.deadline ≤ duty.period
  pub blocked : duty.blocking ≤ LONGEST
  pub level : duty.priority ≤ MOST_PRIORITY

-- duties are as many as a table may hold, each within the limits
pub record IsTable (duties : List Duty) : Type 0 where
  pub few : length duties ≤ MOST_DUTIES
  pub each : All IsDuty duties

-- the number by which a note tells a kind of fault
abbrev pub kind_number : TableFaultKind → ℕ
kind_number BadLine = 1
kind_number BadNumber = 2
kind_number Twice = 3
kind_number TooMany = 4
kind_number Empty = 5
