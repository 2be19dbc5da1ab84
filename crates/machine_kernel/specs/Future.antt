-- What a kernel shows, how it goes on, and the lines that are still to come.
use Rattle.std.specs.Prelude.{ℕ, suc, ℤ, ◌+◌, ◌-◌, ◌*◌, Bool, true, false}
use Rattle.std.specs.Prelude.{List, [], ◌∷◌, ◌++◌, Option, Some, None, length}
use Rattle.trace_text.specs.declared.events.Event.{Event}
use Rattle.trace_text.specs.declared.events.Event.TheVariants as line
use Rattle.trace_text.specs.declared.events.Ended.{Ended}
use Rattle.trace_text.specs.Text.{line_text}
use Rattle.profile_image.specs.declared.image.Image.{Image}
use Rattle.profile_image.specs.declared.script_items.Item.{Item}
use Rattle.profile_machine.specs.declared.world.World.{World}
use Rattle.profile_machine.specs.Instant.{instant}
use Rattle.profile_machine.specs.Run.{tock, stop, run_from, at_tick, opening}
use Rattle.machine_kernel.specs.Busy.{passed}

-- a world of the machine, whether an instant or a tock comes next, the stop that is reached, and the owed lines
pub record Shown : Type 0 where
  pub program : Image
  pub bound : ℕ
  pub world : World
  pub at_instant : Bool
  pub stop : Option Ended
  pub owed : List (ℕ × Event)

-- ---- one step

abbrev pub end_lines : Option Ended → List Event
end_lines None = []
end_lines (Some why) = line.End why ∷ []

abbrev pub after_instant : Shown → World × List Event → Shown
after_instant s i = record s {
  world = i.0;
  at_instant = false;
  stop = stop s.program s.bound i.0;
  owed = at_tick s.world.time (i.1 ++ end_lines (stop s.program s.bound i.0));
}

-- the idle or busy ticks behind it say nothing, and are jumped over
abbrev pub after_tock : Shown → World × List Event → Shown
after_tock s t = record s { world = passed s.program s.bound t.0; at_instant = true; owed = at_tick s.world.time t.1 }

abbrev pub goes_by : Bool → Shown → Shown
goes_by true s = after_instant s (instant s.program s.world)
goes_by false s = after_tock s (tock s.program s.world)

abbrev pub unless_stopped : Option Ended → Shown → Shown
unless_stopped None s = goes_by s.at_instant s
unless_stopped (Some why) s = s

-- an owed line is told, or the world goes on by an instant or a tock, until a stop is reached
abbrev pub advanced_by : List (ℕ × Event) → Shown → Shown
advanced_by [] s = unless_stopped s.stop s
advanced_by (x ∷ xs) s = record s { owed = xs }

abbrev pub advanced : Shown → Shown
advanced s = advanced_by s.owed s

-- the bytes that a step writes
abbrev pub written_of : List (ℕ × Event) → List ℕ
written_of [] = []
written_of (x ∷ xs) = line_text x.0 x.1

abbrev pub first_line : List (ℕ × Event) → List (ℕ × Event)
first_line [] = []
first_line (x ∷ xs) = x ∷ []

-- ---- what is still to come

abbrev pub lines_from : Bool → Image → ℕ → World → List (ℕ × Event)
lines_from true p bound w = (run_from (suc (bound - w.time)) p bound w).lines
lines_from false p bound w =
    let t = tock p w in
    at_tick w.time t.1 ++ (run_from (bound - w.time) p bound t.0).lines

abbrev pub lines_unless : Option Ended → Shown → List (ℕ × Event)
lines_unless None s = lines_from s.at_instant s.program s.bound s.world
lines_unless (Some why) s = []

abbrev pub future_of : Shown → List (ℕ × Event)
future_of s = s.owed ++ lines_unless s.stop s

abbrev pub stop_from : Bool → Image → ℕ → World → Ended
stop_from true p bound w = (run_from (suc (bound - w.time)) p bound w).stop
stop_from false p bound w = (run_from (bound - w.time) p bound (tock p w).0).stop

abbrev pub stop_unless : Option Ended → Shown → Ended
stop_unless None s = stop_from s.at_instant s.program s.bound s.world
stop_unless (Some why) s = why

-- why the run will end
abbrev pub stop_of : Shown → Ended
stop_of s = stop_unless s.stop s

-- how far a run is from its end: the lines to come, two for each tick up to the bound, one for an instant
abbrev pub flag : Bool → ℕ
flag true = 1
flag false = 0

abbrev pub left_of : Shown → ℕ
left_of s = length (future_of s) + (2 * (s.bound - s.world.time) + flag s.at_instant)

-- a run that is opened
abbrev pub opened : Image → List (ℤ × Item) → ℕ → Shown
opened p script bound = record {
  program = p;
  bound = bound;
  world = (opening p script).0;
  at_instant = true;
  stop = None;
  owed = at_tick 0 (opening p script).1;
}
