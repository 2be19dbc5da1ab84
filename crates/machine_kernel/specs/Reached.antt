-- The time that a kernel is in.
use Rattle.std.specs.Prelude.{ℕ, Bool, true, false, Option, Some, None, nat_le, nat_lt}
use Rattle.machine_ticks.specs.declared.stops.Stopped.{Stopped}

-- the present is not beyond the bound, and before a tock it is below it, while the run has not stopped
abbrev pub is_in_time : Bool → Option Stopped → ℕ → ℕ → Bool
is_in_time at_instant (Some reached) now bound = true
is_in_time true None now bound = nat_le now bound
is_in_time false None now bound = nat_lt now bound
