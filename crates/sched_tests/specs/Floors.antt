-- What duties ask for at the least, in any window from a given one on.
use Rattle.std.specs.Prelude.{ℕ, ◌*◌, ◌/◌, nat_le, if◌then◌else◌, List}
use Rattle.std.specs.List.{sum_by, filter}
use Rattle.sched_tests.specs.declared.responses.TheConstants.{SCALE}
use Rattle.sched_tests.specs.declared.duties.Duty.{Duty}

-- a duty whose period is as long as the window asks once
abbrev pub once_in : ℕ → Duty → ℕ
once_in window duty = if nat_le window duty.period then duty.cost else 0

-- any other asks for its share of the window, in parts of the scale, rounded down
abbrev pub share_in : ℕ → Duty → ℕ
share_in window duty = if nat_le window duty.period then 0 else duty.cost * SCALE / duty.period

-- the sums over the duties of at least a priority
abbrev pub once_of : ℕ → ℕ → List Duty → ℕ
once_of window priority duties = sum_by (once_in window) (filter (λ duty. nat_le priority duty.priority) duties)

abbrev pub share_of : ℕ → ℕ → List Duty → ℕ
share_of window priority duties = sum_by (share_in window) (filter (λ duty. nat_le priority duty.priority) duties)
