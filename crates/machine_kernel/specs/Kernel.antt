-- What a kernel shows.
use Rattle.std.specs.Prelude.{◌≡◌, ℕ, List, [], ◌++◌, None}
use Rattle.trace_text.specs.declared.events.Event.{Event}
use Rattle.trace_text.specs.declared.events.Ended.{Ended}
use Rattle.profile_machine.specs.Run.{at_tick}
use Rattle.machine_dispatching.specs.Settling.{written}
use Rattle.machine_ticks.specs.Stops.{why_ended}
use Rattle.machine_ticks.specs.Ticks.{tick_events}
use Rattle.machine_kernel.specs.Future.{Shown, end_lines, future_of, stop_of, left_of}
use Rattle.machine_kernel.specs.declared.kernel.Kernel.{Kernel}

-- the lines that are owed
abbrev pub owed_by : Kernel → List Event
owed_by k = written k.program k.said ++ (tick_events k.ticks ++ end_lines (why_ended k.program k.last))

-- the world, whether an instant comes next, the stop and the owed lines
abbrev pub shown : Kernel → Shown
shown k = record {
  program = k.program;
  bound = k.bound;
  world = k.effect.world;
  at_instant = k.at_instant;
  stop = why_ended k.program k.stop;
  owed = at_tick k.told_at (owed_by k);
}

-- a kernel whose owed lines are all told
abbrev pub OwesNothing : Kernel → Type 0
OwesNothing k = (k.said ≡ []) × (k.ticks ≡ []) × (k.last ≡ None)

-- the lines that are still to come, the owed ones first
unfoldable pub future : Kernel → List (ℕ × Event)
future k = future_of (shown k)

-- why the run will end
unfoldable pub stop_to_come : Kernel → Ended
stop_to_come k = stop_of (shown k)

-- falls with each call of next that does not end the run
unfoldable pub left_to_do : Kernel → ℕ
left_to_do k = left_of (shown k)
