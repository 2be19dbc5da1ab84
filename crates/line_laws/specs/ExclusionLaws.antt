-- Exclusion: what the law of traces says of `enter` and `held` lines.
use Rattle.std.specs.Prelude.{ℕ, ℤ, Bool, true, IsTrue, List, []}
use Rattle.trace_text.specs.declared.events.Action.{Action}
use Rattle.trace_text.specs.declared.events.Event.{Event}
use Rattle.trace_text.specs.declared.events.Event.TheVariants as line
use Rattle.trace_text.specs.Queue.{TraceLine, AtEachLine}
use Rattle.trace_text.specs.Laws.{actions_after, is_exclusive}
use Rattle.profile_image.specs.declared.image.Image.{Image}
use Rattle.profile_image.specs.declared.script_items.Item.{Item}
use Rattle.profile_machine.specs.Run.{run_of}

-- No write is open beside another action on its object. `held` stands only where another subject has the object open
-- and one of both writes (9.5.1). Of `exit` lines nothing is asked.
abbrev pub enters_rightly : List Action → Event → Bool
enters_rightly actions (line.Exit who object) = true
enters_rightly actions event = is_exclusive actions event

abbrev pub EntersOk : List TraceLine → Type 0
EntersOk = AtEachLine actions_after [] (λ actions event. IsTrue (enters_rightly actions event))

abbrev pub RunsExclude : Type 0
RunsExclude = (p : Image) (script : List (ℤ × Item)) (bound : ℕ) → EntersOk (run_of p script bound)
