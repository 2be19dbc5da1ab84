-- Actions end in the reverse order of their beginning: a law on lists of lines, of every run (9.5.1).
use Rattle.std.specs.Prelude.{ℕ, ℤ, Bool, true, IsTrue, List, [], find}
use Rattle.trace_text.specs.declared.events.Action.{Action}
use Rattle.trace_text.specs.declared.events.Event.{Event}
use Rattle.trace_text.specs.declared.events.Event.TheVariants.{Exit}
use Rattle.trace_text.specs.Laws.{actions_after}
use Rattle.trace_text.specs.Queue.{TraceLine, AtEachLine, who_eq}
use Rattle.profile_image.specs.declared.image.Image.{Image}
use Rattle.profile_image.specs.declared.script_items.Item.{Item}
use Rattle.profile_machine.specs.Run.{run_of}
use Rattle.blocking_laws.specs.MovingLaws.{is_on}

-- of the actions of who leaves an object it is the last that began
abbrev pub is_last_exit : List Action → Event → Bool
is_last_exit actions (Exit who object) = is_on object.0 (find (λ action. who_eq who action.who) actions)
is_last_exit actions _ = true

abbrev pub LastExitsOk : List TraceLine → Type 0
LastExitsOk = AtEachLine actions_after [] (λ actions event. IsTrue (is_last_exit actions event))

abbrev pub RunsExitLast : Type 0
RunsExitLast = (p : Image) (script : List (ℤ × Item)) (bound : ℕ) → LastExitsOk (run_of p script bound)
