-- What each test of a table of duties prints, and what it tells.
use Rattle.std.specs.Prelude.{◌≡◌, ◌≤◌, ℕ, Bool, is_some, List, Some, None}
use Rattle.sched_tests.specs.declared.duties.Duty.{Duty}
use Rattle.sched_tests.specs.Demand.{IsOver, first_over_of, busy_of}
use Rattle.sched_tests.specs.Reports.{is_missed, rta_text, rta_status, demand_text, demand_status}
use Rattle.commands.specs.declared.requests.TableTest.{TableTest}
use Rattle.commands.specs.declared.requests.TableTest.TheVariants as test

abbrev pub test_text : TableTest → List Duty → List ℕ
test_text test.ResponseTimes duties = rta_text duties
test_text test.Demand duties = demand_text duties

abbrev pub test_status : TableTest → List Duty → ℕ
test_status test.ResponseTimes duties = rta_status duties
test_status test.Demand duties = demand_status duties

-- a duty has no response, or a window is overrun
abbrev pub is_failed : TableTest → List Duty → Bool
is_failed test.ResponseTimes duties = is_missed duties 0 duties
is_failed test.Demand duties = is_some (first_over_of duties)

-- no window of any length is overrun
abbrev pub NeverOver : List Duty → Type 0
NeverOver duties = (window : ℕ) → 1 ≤ window → ¬ (IsOver duties window)

-- where the demand test prints a busy period, no window of any length is overrun
abbrev pub HoldsBeyond : TableTest → List Duty → Type 0
HoldsBeyond test.ResponseTimes duties = Unit {0}
HoldsBeyond test.Demand duties = (busy : ℕ) → first_over_of duties ≡ None → busy_of duties ≡ Some busy
    → NeverOver duties
