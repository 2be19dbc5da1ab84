-- The processor demand under earliest deadline first.
use Rattle.std.specs.Prelude.{◌≤◌, ◌<◌, ℕ, ◌*◌, ◌+◌, ◌-◌, ◌/◌, nat_le, nat_lt, if◌then◌else◌, List, Option}
use Rattle.std.specs.List.{sum_by}
use Rattle.sched_tests.specs.declared.duties.TheConstants.{LONGEST}
use Rattle.sched_tests.specs.declared.duties.Duty.{Duty}
use Rattle.sched_tests.specs.Least.{IsNever, IsLeastOrNone, least_up_to}
use Rattle.sched_tests.specs.Response.{asked_in}

-- how many deadlines of a duty a window has that begins with its release
abbrev pub deadlines_in : ℕ → Duty → ℕ
deadlines_in window duty = if nat_le duty.deadline window then 1 + (window - duty.deadline) / duty.period else 0

-- what it has to have done by the end of this window: its cost for each deadline
abbrev pub due_in : ℕ → Duty → ℕ
due_in window duty = duty.cost * deadlines_in window duty

-- Demand: what all duties have to have done in a window
abbrev pub demand : List Duty → ℕ → ℕ
demand duties window = sum_by (due_in window) duties

-- Busy: what all duties ask for in a window
abbrev pub busy_demand : List Duty → ℕ → ℕ
busy_demand duties window = sum_by (asked_in window) duties

-- a window is overrun: more has to be done in it than there is time for
abbrev pub IsOver : List Duty → ℕ → Type 0
IsOver duties window = window < demand duties window

-- the answer is the least window of at most 10,000,000 that is overrun
abbrev pub IsFirstOver : List Duty → Option ℕ → Type 0
IsFirstOver duties answer = IsLeastOrNone (IsOver duties) LONGEST answer

abbrev pub first_over_of : List Duty → Option ℕ
first_over_of duties = least_up_to (λ window. nat_lt window (demand duties window)) LONGEST

-- a window is busy no longer than it lasts: no more is asked for in it than there is time for
abbrev pub IsServed : List Duty → ℕ → Type 0
IsServed duties window = busy_demand duties window ≤ window

-- the answer is the least such window of at most 10,000,000
abbrev pub IsBusyPeriod : List Duty → Option ℕ → Type 0
IsBusyPeriod duties answer = IsLeastOrNone (IsServed duties) LONGEST answer

abbrev pub busy_of : List Duty → Option ℕ
busy_of duties = least_up_to (λ window. nat_le (busy_demand duties window) window) LONGEST

-- where no window up to this one is overrun, none is
abbrev pub NeverOverBeyond : List Duty → ℕ → Type 0
NeverOverBeyond duties busy = IsNever (IsOver duties) busy → (window : ℕ) → 1 ≤ window → ¬ (IsOver duties window)
