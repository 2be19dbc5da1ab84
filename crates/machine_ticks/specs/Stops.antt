-- Why a run stops, with the name of the exception.
use Rattle.std.specs.Prelude.{Option, option_map}
use Rattle.trace_text.specs.declared.events.Ended.{Ended}
use Rattle.trace_text.specs.declared.events.Ended.TheVariants as why
use Rattle.profile_image.specs.declared.image.Image.{Image}
use Rattle.profile_machine.specs.Lines.{exception_name}
use Rattle.machine_ticks.specs.declared.stops.Stopped.{Stopped}
use Rattle.machine_ticks.specs.declared.stops.Stopped.TheVariants as stopped

abbrev pub ended_by : Image → Stopped → Ended
ended_by p stopped.Completed = why.Completed
ended_by p (stopped.Exception e) = why.Exception (exception_name p e)
ended_by p stopped.Stuck = why.Stuck
ended_by p stopped.Bound = why.Bound

abbrev pub why_ended : Image → Option Stopped → Option Ended
why_ended p stop = option_map (ended_by p) stop
