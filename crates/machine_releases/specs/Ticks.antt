-- Timers that a clock has reached, as one list of timers has them.
use Rattle.std.specs.Prelude.{ℕ, List, filter, slice_index_or}
use Rattle.ann_base.specs.declared.identities.TaskNo.{TaskNo}
use Rattle.profile_machine.specs.declared.world.appointments.Timer.{Timer}
use Rattle.profile_machine.specs.Values.{no_timer}
use Rattle.profile_machine.specs.Handlers.{is_reached_by}

abbrev pub timer_in : List Timer → ℕ → Timer
timer_in timers k = slice_index_or timers k no_timer

abbrev pub reached_in : TaskNo → ℕ → List Timer → List ℕ → List ℕ
reached_in t clock timers set = filter (λ k. is_reached_by t clock (timer_in timers k)) set
