-- The lines of a tock, and what it has done: a move of the machine.
use Rattle.std.specs.Prelude.{◌≡◌, ◌++◌, List, map}
use Rattle.trace_text.specs.declared.events.Event.{Event}
use Rattle.trace_text.specs.declared.events.Event.TheVariants as written
use Rattle.profile_machine.specs.declared.world.World.{World}
use Rattle.profile_machine.specs.Steps.{Move}
use Rattle.machine_ticks.specs.declared.tocks.TickLine.{TickLine}
use Rattle.machine_ticks.specs.declared.tocks.TickLine.TheVariants as line

abbrev pub tick_event : TickLine → Event
tick_event (line.Run name) = written.Run name
tick_event line.Idle = written.Idle
tick_event (line.Serve release) = written.Serve release

abbrev pub tick_events : List TickLine → List Event
tick_events lines = map tick_event lines

-- the move leads from the world before to the world behind, and its lines stand behind those that were there
pub record Ticks (move : Move) (before : World) (told : List TickLine) (after : World)
    (more : List TickLine) : Type 0 where
  pub world : after ≡ (move before).0
  pub lines : tick_events more ≡ tick_events told ++ (move before).1
