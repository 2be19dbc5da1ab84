-- Response times under fixed priorities.
use Rattle.std.specs.Prelude.{◌≤◌, ℕ, ◌*◌, ◌+◌, nat_le, List, Option, Some, None}
use Rattle.std.specs.List.{sum_by, filter, remove, slice_get}
use Rattle.std.specs.Int.{div_ceil}
use Rattle.sched_tests.specs.declared.duties.Duty.{Duty}
use Rattle.sched_tests.specs.Least.{IsLeastOrNone, least_up_to}

-- What a duty asks for in a window that begins with its release: its cost, as often as its period, with the
-- quotient rounded up, lies in the window.
abbrev pub asked_in : ℕ → Duty → ℕ
asked_in window duty = duty.cost * div_ceil window duty.period

-- what those of these duties ask for that have at least this priority
abbrev pub interference : ℕ → ℕ → List Duty → ℕ
interference window priority duties = sum_by (asked_in window) (filter (λ duty. nat_le priority duty.priority) duties)

-- Need: the duty's own cost and blocking, and what the others ask for
abbrev pub need_beside : Option Duty → List Duty → ℕ → ℕ
need_beside None others window = 0
need_beside (Some own) others window = own.cost + own.blocking + interference window own.priority others

abbrev pub need : List Duty → ℕ → ℕ → ℕ
need duties place window = need_beside (slice_get duties place) (remove duties place) window

-- the deadline of the duty at a place
abbrev pub deadline_from : Option Duty → ℕ
deadline_from None = 0
deadline_from (Some own) = own.deadline

abbrev pub deadline_at : List Duty → ℕ → ℕ
deadline_at duties place = deadline_from (slice_get duties place)

-- a window serves the duty: no more is needed in it than there is time for
abbrev pub IsEnough : List Duty → ℕ → ℕ → Type 0
IsEnough duties place window = need duties place window ≤ window

-- Response: the least window, of at most the deadline, that is no shorter than what is needed in it
abbrev pub IsResponse : List Duty → ℕ → Option ℕ → Type 0
IsResponse duties place answer = IsLeastOrNone (IsEnough duties place) (deadline_at duties place) answer

-- the same as a function
abbrev pub response_of : List Duty → ℕ → Option ℕ
response_of duties place = least_up_to (λ window. nat_le (need duties place window) window) (deadline_at duties place)
